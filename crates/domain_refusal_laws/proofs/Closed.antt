-- Arguments and references, to their closing bracket: they depend on nothing after that bracket. Assumes nothing.
use mathlib.Core.Path.{refl}
use mathlib.Core.List.{List, [], ◌∷◌}
use mathlib.Core.Bool.{Bool, true, false, cond}
use Prim.Native.Nat.{ℕ, ◌<◌}
use native.Mathlib.Nat.{le_refl}
use native.Mathlib.Omega.{arith}
use lib.ListN.{length}
use Rattle.text_tokens.specs.declared.tokens.Word.{Word}
use Rattle.text_tokens.specs.declared.tokens.Word.TheVariants as W
use Rattle.text_tokens.specs.declared.tokens.Token.{Token}
use Rattle.text_tokens.specs.declared.tokens.Token.TheVariants as T
use Rattle.domain_meaning.specs.Read.{◌>>=◌, and_then, Read, Reader, got, refused, give, refuse}
use Rattle.domain_meaning.specs.Tables.{Table, entry_at, wanted_of, declared, is_below}
use Rattle.domain_meaning.specs.Due.{place_of, closing}
use Rattle.domain_meaning.specs.Terms.{Scope, Given, object_at, variable_at, given_by, argument, fits, arguments, reference}
use Rattle.domain_refusal_laws.proofs.Sight.{seen_later}
use Rattle.domain_refusal_laws.proofs.Nearness.{Fits}
use Rattle.domain_refusal_laws.proofs.Local.{Edge, next, Far, Good, far, near, settle, refusal, widen, Over, Local, Plain, Told, Behind, token_then}
use Rattle.domain_refusal_laws.proofs.Local.{peek_then, after, refuses, wrongs, choose_then, Held, stays, stops, held, worded, tailed, on_close_lem}
use Rattle.domain_refusal_laws.proofs.Heads.{declared_held, word_then}

-- ---- one argument

pub fits_held : (c : Scope) (want : ℕ) (g : Given) (n : ℕ) → Held g.place n (fits c want g n)
unfolding fits
fits_held c want g n = go (is_below (length c.types) c.types g.type want)
  where
    go : (b : Bool) → Held g.place n (cond b (give g.arg) (refuse 10 g.place) n)
    go true = stays g.arg refl
    go false = stops 10 refl

-- a name that has been declared, as an argument
given : {A B C : Type 0} {E : Edge} {t : Token} {n : ℕ} {F : ℕ → Type 0} (m : Reader B) (j : B → C) (g : List ℕ → C → Reader A)
    → ((n : ℕ) → Held (place_of t) n (m n)) → ((b : B) → Behind E t n F (λ v. g v (j b))) → Behind E t n F (λ v. ◌>>=◌ (◌>>=◌ m (λ b. give (j b))) (g v))
given {E = E} {t = t} {n = n} {F = F} m j g h k = record { good = λ u r. go u r (h n) }
  where
    go : (u : List ℕ) → Told E u t n → Held (place_of t) n (m n)
        → Good E (place_of t) F (and_then (and_then (m n) (λ b. give (j b))) (g E.text)) (and_then (and_then (m n) (λ b. give (j b))) (g u))
    go u r (stays b e) = rw e ((k b).good u r)
    go u r (stops k e) = rw e (refusal (place_of t) k (place_of t) (le_refl (place_of t)))

module _ {A : Type 0} {E : Edge} {F : ℕ → Type 0} {g : List ℕ → Given → Reader A} (d : ℕ) (c : Scope)
    (f : (x : Given) (k : Word) (e : ℕ) → Behind E (T.Word k x.place e) e F (λ v. g v x)) where
  given_word : (k : Word) (p e : ℕ) → Behind E (T.Word k p e) e F (λ v. ◌>>=◌ (given_by v c k p e) (g v))
  given_word W.Name p e =
      worded (λ v w. ◌>>=◌ (◌>>=◌ (declared c.objects p w) (λ i. give (object_at c p i))) (g v))
      (λ w. given (declared c.objects p w) (object_at c p) g (declared_held c.objects p w) (λ i. f (object_at c p i) W.Name e))
  given_word W.Variable p e =
      tailed (λ v w. ◌>>=◌ (cond c.in_action (◌>>=◌ (declared c.variables p w) (λ i. give (variable_at c p i))) (refuse 3 p)) (g v))
      (λ w. choose_then (λ v. ◌>>=◌ (declared c.variables p w) (λ i. give (variable_at c p i))) (λ v. refuse 3 p) g c.in_action
      (given (declared c.variables p w) (variable_at c p) g (declared_held c.variables p w) (λ i. f (variable_at c p i) W.Variable e))
      refuses)
  given_word W.Keyword p e = refuses
  given_word W.Operator p e = refuses

  pub argument_then : Local E (next E) F (λ v. ◌>>=◌ (argument v d c) (g v))
  unfolding argument
  argument_then = token_then (word_then d (λ v. given_by v c) g given_word)

-- ---- arguments to their closing bracket

-- what was read goes on after the edge, and the bracket that ends it is not wholly before the edge
pub record Ended (E : Edge) (n : ℕ) : Type 0 where
  pub ends : E.edge < n
  pub over : Over E (next E) n

mapped : {A B : Type 0} {E : Edge} {fl : ℕ → ℕ} {F : ℕ → Type 0} {m : List ℕ → Reader B} (j : B → A) → Local E fl F m
    → Local E fl F (λ v. ◌>>=◌ (m v) (λ b. give (j b)))
unfolding Far
mapped {B = B} {E = E} {fl = fl} {F = F} {m = m} j h = record { good = λ u a at. go (fl at) (m E.text at) (m u at) (h.good u a at) }
  where
    go : (f : ℕ) (x y : Read B) → Good E f F x y → Good E f F (and_then x (λ b. give (j b))) (and_then y (λ b. give (j b)))
    go f (got b n) y (far z) = far z
    go f (refused k p) y (far z) = far z
    go f x y (near i e) = near i (rw e)

close_local : {E : Edge} (d : ℕ) → Local E (next E) (Ended E) (λ v. closing v d)
unfolding closing Far Fits
close_local {E} d = token_then (on_close_lem ends (λ t. wrongs d))
  where
    ends : (p n : ℕ) → Behind E (T.Close p n) n (Ended E) (λ v. give p)
    ends p n =
        record {
          good = λ u r. settle p (got p n) (got p n) (λ i. refl) (λ i.
              record { ends = omega (arith, r.fits.1); over = record { past = omega (arith, seen_later E.text p (next E n) r.on) } });
        }

pub arguments_local : {E : Edge} (d : ℕ) (c : Scope) (wants : List ℕ) → Local E (next E) (Ended E) (λ v. arguments v d c wants)
unfolding arguments
arguments_local d c [] =
    peek_then (λ n. on_close_lem
    (λ p m. after (mapped (λ i. []) (close_local d)))
    (λ t. after (argument_then d c (λ x k e. refuses {k = 9}))))
arguments_local d c (want ∷ wants) =
    peek_then (λ n. on_close_lem
    (λ p m. refuses {k = 9})
    (λ t. after (argument_then d c (λ x k e. held (fits c want x) (fits_held c want x) (λ a. after (mapped (λ as'. a ∷ as') (arguments_local d c wants)))))))

-- to the closing bracket, as it is known by that bracket
pub closes_local : {E : Edge} (d : ℕ) (c : Scope) (t : Table) (i : ℕ) → Local E (next E) (Ended E) (λ v. reference v d c t i)
unfolding reference
closes_local d c t i = mapped (λ as'. record { head = i; args = as' }) (arguments_local d c (wanted_of (entry_at t i)))

pub reference_local : {E : Edge} (d : ℕ) (c : Scope) (t : Table) (i : ℕ) → Plain E (λ v. reference v d c t i)
reference_local {E} d c t i = record {
  good = λ u a at. widen (next E at) (reference E.text d c t i at) (reference u d c t i at) (λ n h. h.over)
      ((closes_local d c t i).good u a at);
}
