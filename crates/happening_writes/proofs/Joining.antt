-- What is written by two lists of effects, one after the other: the walks over the points of a happening. Assumes nothing.
use mathlib.Core.Path.{◌≡◌, refl, sym, ap, ◌∙◌}
use mathlib.Core.List.{List, [], ◌∷◌, ◌++◌}
use mathlib.Core.Bool.{Bool, true, false, ◌||◌, or_assoc, true≢false}
use Prim.Native.Nat.{ℕ}
use Rattle.happening_meaning.specs.Writes.{some}
use Rattle.happening_meaning.specs.Happening.{each_mark, with}
use Rattle.happening_meaning.specs.declared.Mark.{Mark}
use Rattle.happening_meaning.specs.declared.Mark.TheVariants.{Nothing, Fact, Number}
use Rattle.happening_writes.specs.Changing.{write_fact, adds}
use Rattle.happening_writes.proofs.Settling.{some_append}

pub each_append : (f : List ℕ → Mark → List ℕ) (fs : List ℕ) (ms ks : List Mark) → each_mark f fs (ms ++ ks) ≡ each_mark f (each_mark f fs ms) ks
unfolding each_mark
each_append f fs [] ks = refl
each_append f fs (m ∷ ms) ks = each_append f (f fs m) ms ks

-- whether some mark has it: known of those before, then of some more
pub some_more : (f : Mark → Bool) (any : Bool) (ms ks : List Mark) {more : Bool} → more ≡ (any || some f ms) → (more || some f ks) ≡ (any || some f (ms ++ ks))
some_more f any ms ks q =
    ap (λ (t : Bool). t || some f ks) q ∙ or_assoc any (some f ms) (some f ks) ∙ ap (λ (t : Bool). any || t) (sym (some_append f ms ks))

-- where no effect adds a fact, adding changes nothing
pub none_added : (fs : List ℕ) (ms : List Mark) → some adds ms ≡ false → each_mark (write_fact true) fs ms ≡ fs
unfolding each_mark some adds with
none_added fs [] e = refl
none_added fs (Nothing ∷ ms) e = none_added fs ms e
none_added fs (Fact true x ∷ ms) e = absurd (true≢false e)
none_added fs (Fact false x ∷ ms) e = none_added fs ms e
none_added fs (Number a x ∷ ms) e = none_added fs ms e
