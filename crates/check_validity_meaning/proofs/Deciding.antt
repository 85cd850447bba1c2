-- An outcome that decides: it is `Done` exactly where something holds, and otherwise the failure that goes with it. Assumes nothing.
use mathlib.Core.Bool.{Bool, true, false, cond, true≢false, false≢true}
use mathlib.Core.List.{List, [], ◌∷◌}
use mathlib.Core.Logic.{◌⊎◌, inl, inr}
use mathlib.Core.Path.{◌≡◌, refl, sym, ap, ◌∙◌}
use Rattle.happening_meaning.specs.Happening.{is_done, unless, each}
use Rattle.happening_meaning.specs.declared.Outcome.{Outcome}
use Rattle.happening_meaning.specs.declared.Outcome.TheVariants.{Done, Duration, Condition, Undefined, Range, Itself, Conflict, Invariant, Goal}
use Rattle.check_validity_meaning.specs.Lists.{All, First}

pub record Decides (P : Type 0) (F : Outcome → Type 0) (o : Outcome) : Type 0 where
  pub right : o ≡ Done → P
  pub done : P → o ≡ Done
  pub wrong : is_done o ≡ false → F o
  pub only : (w : Outcome) → F w → (o ≡ w) × (is_done w ≡ false)

pub is_done_lem : (o : Outcome) → is_done o ≡ true → o ≡ Done
is_done_lem Done e = refl
is_done_lem (Duration l) e = absurd (false≢true e)
is_done_lem (Condition l) e = absurd (false≢true e)
is_done_lem (Undefined l) e = absurd (false≢true e)
is_done_lem (Range l) e = absurd (false≢true e)
is_done_lem (Itself l) e = absurd (false≢true e)
is_done_lem (Conflict l m) e = absurd (false≢true e)
is_done_lem (Invariant l) e = absurd (false≢true e)
is_done_lem Goal e = absurd (false≢true e)

pub is_not : {o : Outcome} {A : Type 0} → o ≡ Done → is_done o ≡ false → A
is_not e f = absurd (true≢false (sym (ap is_done e) ∙ f))

-- the same decision, told otherwise
pub retold : {P Q : Type 0} {F G : Outcome → Type 0} {o : Outcome} → (P → Q) → (Q → P) → ((w : Outcome) → F w → G w) → ((w : Outcome) → G w → F w)
    → Decides P F o → Decides Q G o
retold {o = o} a b f h d =
    record { right = λ e. a (d.right e); done = λ q. d.done (b q); wrong = λ e. f o (d.wrong e); only = λ w x. d.only w (h w x) }

-- a failure with its name
pub named : {P : Type 0} {w : Outcome} → is_done w ≡ false → ¬ P → Decides P (λ v. v ≡ w) w
named {P} {w} f n = record { right = λ e. is_not e f; done = λ p. absurd (n p); wrong = λ e. refl; only = λ v e. (sym e, ap is_done e ∙ f) }

-- what is always so
pub always : Decides Unit (λ w. ⊥) Done
always = record { right = λ e. tt; done = λ _. refl; wrong = λ e. absurd (true≢false e); only = λ w x. absurd x }

-- what is so, and what is not
pub holds : {P : Type 0} {word : Outcome} → P → Decides P (λ w. ¬ P × (w ≡ word)) Done
holds p = record { right = λ e. p; done = λ _. refl; wrong = λ e. absurd (true≢false e); only = λ w x. absurd (x.0 p) }

pub fails : {P : Type 0} {word : Outcome} → is_done word ≡ false → ¬ P → Decides P (λ w. ¬ P × (w ≡ word)) word
fails f n = record { right = λ e. is_not e f; done = λ p. absurd (n p); wrong = λ e. (n, refl); only = λ w x. (sym x.1, ap is_done x.1 ∙ f) }

-- a test
pub by_test : {P : Type 0} (b : Bool) (word : Outcome) → is_done word ≡ false → (b ≡ false → P) → (P → b ≡ false)
    → Decides P (λ w. ¬ P × (w ≡ word)) (cond b word Done)
by_test true word f a h = fails f (λ p. true≢false (h p))
by_test false word f a h = holds (a refl)

-- one after the other
pub then : {P Q : Type 0} {F G : Outcome → Type 0} {o n : Outcome} → Decides P F o → Decides Q G n
    → Decides (P × Q) (λ w. F w ⊎ (P × G w)) (unless o n)
unfolding unless
then {P} {Q} {F} {G} {o} {n} d k = go (is_done o) refl
  where
    go : (b : Bool) → is_done o ≡ b → Decides (P × Q) (λ w. F w ⊎ (P × G w)) (cond b n o)
    go true e =
        let p : P = d.right (is_done_lem o e) in
        record {
          right = λ f. (p, k.right f);
          done = λ q. k.done q.1;
          wrong = λ f. inr (p, k.wrong f);
          only = λ w. elim [ inl x ↦ is_not (is_done_lem o e) (ap is_done (d.only w x).0 ∙ (d.only w x).1) | inr x ↦ k.only w x.1 ];
        }
    go false e =
        record {
          right = λ f. is_not f e;
          done = λ q. d.done q.0;
          wrong = λ f. inl (d.wrong f);
          only = λ w. elim [ inl x ↦ d.only w x | inr x ↦ is_not (d.done x.0) e ];
        }

module _ {A : Type 0} where
  -- each element
  pub each_decides : {P : A → Type 0} {F : A → Outcome → Type 0} (f : A → Outcome) → ((x : A) → Decides (P x) (F x) (f x)) → (xs : List A)
      → Decides (All P xs) (λ w. First P (λ x. F x w) xs) (each f xs)
  unfolding each
  each_decides f d [] = always
  each_decides f d (x ∷ xs) = then (d x) (each_decides f d xs)
