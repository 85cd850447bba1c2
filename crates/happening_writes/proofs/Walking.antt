-- The walk over what the effects of a list write: each call gives the first mark that is left; and whether some mark has what a closure asks of it.
-- Assumes nothing.
use Rattle.std.proofs.Common.{◌≡◌, ◌||◌, Bool, List, [], ◌∷◌, length, Some, arith, refl, ap, ◌∙◌}
use Rattle.std.specs.Iterator.{MakesProgress, item_count, YieldsFirst, ChecksAny}
use Rattle.std.specs.List.{list_any}
use Rattle.std.proofs.lemmas.Iterator.Consumers.{YieldsList-from_first}
use Rattle.std.proofs.lemmas.Iterator.Search.{any_from_yields_List}
use denote.Param.Members.{Mut, Called}
use Rattle.happening_meaning.specs.Writes.{some}
use Rattle.happening_meaning.specs.declared.Mark.{Mark}
use Rattle.happening_writes.specs.declared.marks.Marks.{Marks}
use Rattle.happening_writes.specs.Left.{left}

-- `rest` says what is left of a walk
pub goes_on : {S : Type 0} (rest : S → List Mark) {s t : S} {m : Mark} → rest s ≡ m ∷ rest t → MakesProgress {S = S} (λ _. Unit {0}) (item_count rest) s (Some m) t
goes_on rest e = record { on = λ _. (tt, tt, omega (arith, ap length e)); keeps = tt; rests = λ _. tt }

pub walk_goes : {s t : Marks} {m : Mark} → left s ≡ m ∷ left t → MakesProgress {S = Marks} (λ _. Unit {0}) (item_count left) s (Some m) t
walk_goes e = goes_on left e

some_any : {A : Type 0} (f : A → Bool) (xs : List A) → list_any f xs ≡ some f xs
unfolding some
some_any f [] = refl
some_any f (x ∷ xs) = ap (λ (b : Bool). f x || b) (some_any f xs)

-- what `any` answers, where each call of the closure answers what f does
pub any_some : {F : Type 0} {g : Mut F (Mark × Unit {0}) Bool} {S : Type 0} {rest : S → List Mark} (f : Mark → Bool) (s u : S) (p : F) {r : Bool} {ms : List Mark}
    → ChecksAny (YieldsFirst rest) g s p r u → rest s ≡ ms → ((m : Mark) (b : Bool) (q : F) → Called g p (m, tt) b q → (q ≡ p) × (b ≡ f m)) → r ≡ some f ms
any_some {rest = rest} f s u p {r} {ms} ran e k = any_from_yields_List f u p r ran (YieldsList-from_first (λ x. x) rest ms e) k ∙ some_any f ms
