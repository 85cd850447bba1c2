-- Where `(f ..)` is closed: what was read to its closing bracket ends after the first closing bracket. Assumes nothing.
use mathlib.Core.Path.{◌≡◌, refl}
use mathlib.Core.List.{List, [], ◌∷◌}
use mathlib.Core.Bool.{Bool, true, false, cond}
use Prim.Native.Nat.{ℕ, zero, suc, ◌+◌, ◌≤◌, ◌<◌}
use native.Mathlib.Omega.{arith}
use lib.ListN.{length}
use Rattle.text_tokens.specs.Runs.{part}
use Rattle.text_tokens.specs.Tokens.{token_at}
use Rattle.text_tokens.specs.declared.tokens.Word.{Word}
use Rattle.text_tokens.specs.declared.tokens.Word.TheVariants as W
use Rattle.text_tokens.specs.declared.tokens.Token.{Token}
use Rattle.text_tokens.specs.declared.tokens.Token.TheVariants as T
use Rattle.text_tokens.proofs.Within.{Within, token_within}
use Rattle.domain_meaning.specs.Read.{◌>>=◌, and_then, Read, got, refused, give, refuse}
use Rattle.domain_meaning.specs.Tables.{Table, entry_at, wanted_of, declared}
use Rattle.domain_meaning.specs.Due.{closing}
use Rattle.domain_meaning.specs.Terms.{Scope, Arg, Given, object_at, variable_at, given_by, argument, fits, Ref, arguments, reference}
use Rattle.domain_refusal_laws.specs.Lowest.{closed}
use Rattle.domain_refusal_laws.proofs.Nearness.{Fits, token_fits}
use Rattle.domain_refusal_laws.proofs.Local.{Held, stays, stops}
use Rattle.domain_refusal_laws.proofs.Suffice.{off}
use Rattle.domain_refusal_laws.proofs.Heads.{declared_held}
use Rattle.domain_refusal_laws.proofs.Closed.{fits_held}

mapped_held : {A B : Type 0} (p n : ℕ) (x : Read A) (j : A → B) → Held p n x → Held p n (and_then x (λ a. give (j a)))
mapped_held p n x j (stays a e) = stays (j a) (rw e)
mapped_held p n x j (stops k e) = stops k (rw e)

given_held : (s : List ℕ) (c : Scope) (k : Word) (p e n : ℕ) → Held p n (given_by s c k p e n)
given_held s c W.Name p e n = mapped_held p n (declared c.objects p (part s p e) n) (object_at c p) (declared_held c.objects p (part s p e) n)
given_held s c W.Variable p e n = go c.in_action
  where
    go : (b : Bool) → Held p n (cond b (◌>>=◌ (declared c.variables p (part s (p + 1) e)) (λ i. give (variable_at c p i))) (refuse 3 p) n)
    go true = mapped_held p n (declared c.variables p (part s (p + 1) e) n) (variable_at c p) (declared_held c.variables p (part s (p + 1) e) n)
    go false = stops 3 refl
given_held s c W.Keyword p e n = stops 3 refl
given_held s c W.Operator p e n = stops 3 refl

-- an argument is never the end
unended : (x : Read Given) {n : ℕ} {as' : List Arg} → and_then x (λ g. refuse 9 g.place) ≡ got as' n → ⊥
unended (got a m) e = off e
unended (refused k p) e = off e

rest : (a : Arg) (x : Read (List Arg)) {n : ℕ} {as' : List Arg} → and_then x (λ bs. give (a ∷ bs)) ≡ got as' n → (bs : List Arg) × (x ≡ got bs n)
rest a (got bs m) e = (bs, cc)
rest a (refused k p) e = off e

module _ (s : List ℕ) (d : ℕ) (c : Scope) where
  -- the last argument is followed by the bracket
  last : (at k n : ℕ) (as' : List Arg) (t : Token) → token_at s at ≡ t → at ≤ length s → length s < k + at → arguments s d c [] at ≡ got as' n
      → closed k s at ≡ n
  unfolding arguments closed closing argument Fits
  last at zero n as' t e h l g = absurd (let y : ⊥ = omega arith in y)
  last at (suc k) n as' (T.Word x p m) e h l g = absurd (unended (given_by s c x p m m) (simp e at g))
  last at (suc k) n as' (T.Number z p m) e h l g = off (simp e at g)
  last at (suc k) n as' (T.Open p m) e h l g = off (simp e at g)
  last at (suc k) n as' (T.Close p m) e h l g =
      let i : ◌≡◌ {A = Read (List Arg)} (got [] m) (got as' n) = simp e at g in
      let j : m ≡ p + 1 = (rw e at (token_fits s at)).0 in
      rw e (let r : p + 1 ≡ n = cc in r)
  last at (suc k) n as' (T.Mark b p m) e h l g = off (simp e at g)
  last at (suc k) n as' (T.Refusal x p) e h l g = off (simp e at g)
  last at (suc k) n as' (T.End p) e h l g = off (simp e at g)

  -- an argument, and those after it
  module _ (want : ℕ) (wants : List ℕ) (on : (at k n : ℕ) (as' : List Arg) → at ≤ length s → length s < k + at → arguments s d c wants at ≡ got as' n
      → closed k s at ≡ n) where
    fitting : (g : Given) (at k n : ℕ) (as' : List Arg) → at ≤ length s → length s < k + at → Held g.place at (fits c want g at)
        → and_then (fits c want g at) (λ a. ◌>>=◌ (arguments s d c wants) (λ bs. give (a ∷ bs))) ≡ got as' n → closed k s at ≡ n
    fitting g at k n as' h l (stays a e) i = let r : (bs : List Arg) × (arguments s d c wants at ≡ got bs n) =
        rest a (arguments s d c wants at) (rw e at i) in on at k n r.0 h l r.1
    fitting g at k n as' h l (stops x e) i = off (rw e at i)

    one : (x : Read Given) (p at k n : ℕ) (as' : List Arg) → at ≤ length s → length s < k + at → Held p at x
        → and_then x (λ g. ◌>>=◌ (fits c want g) (λ a. ◌>>=◌ (arguments s d c wants) (λ bs. give (a ∷ bs)))) ≡ got as' n → closed k s at ≡ n
    one x p at k n as' h l (stays g e) i = fitting g at k n as' h l (fits_held c want g at) (rw e at i)
    one x p at k n as' h l (stops j e) i = off (rw e at i)

    more : (at k n : ℕ) (as' : List Arg) (t : Token) → token_at s at ≡ t → at ≤ length s → length s < k + at
        → arguments s d c (want ∷ wants) at ≡ got as' n → closed k s at ≡ n
    unfolding arguments closed argument Within
    more at zero n as' t e h l g = absurd (let y : ⊥ = omega arith in y)
    more at (suc k) n as' (T.Word x p m) e h l g =
        let w : Within s at (T.Word x p m) = rw e at (token_within s at h) in
        rw e (one (given_by s c x p m m) p m k n as' w.2 (omega arith) (given_held s c x p m m) (simp e at g))
    more at (suc k) n as' (T.Number z p m) e h l g = off (simp e at g)
    more at (suc k) n as' (T.Open p m) e h l g = off (simp e at g)
    more at (suc k) n as' (T.Close p m) e h l g = off (simp e at g)
    more at (suc k) n as' (T.Mark b p m) e h l g = off (simp e at g)
    more at (suc k) n as' (T.Refusal x p) e h l g = off (simp e at g)
    more at (suc k) n as' (T.End p) e h l g = off (simp e at g)

  arguments_closed : (wants : List ℕ) (at k n : ℕ) (as' : List Arg) → at ≤ length s → length s < k + at → arguments s d c wants at ≡ got as' n
      → closed k s at ≡ n
  arguments_closed [] at k n as' h l g = last at k n as' (token_at s at) refl h l g
  arguments_closed (want ∷ wants) at k n as' h l g = more want wants (arguments_closed wants) at k n as' (token_at s at) refl h l g

  pub reference_closed : (t : Table) (i at n : ℕ) (r : Ref) → at ≤ length s → reference s d c t i at ≡ got r n → closed (length s + 1) s at ≡ n
  unfolding reference
  reference_closed t i at n r h g = go (arguments s d c (wanted_of (entry_at t i)) at) refl g
    where
      go : (x : Read (List Arg)) → arguments s d c (wanted_of (entry_at t i)) at ≡ x
          → and_then x (λ as'. give (record { head = i; args = as' })) ≡ got r n → closed (length s + 1) s at ≡ n
      go (got as' m) e j = let q : m ≡ n = cc in arguments_closed (wanted_of (entry_at t i)) at (length s + 1) n as' h (omega arith) (rw (← q) e)
      go (refused k p) e j = off j
