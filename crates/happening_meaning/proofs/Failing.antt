-- Outcomes that are failures: the first one decides. Assumes nothing.
use mathlib.Core.Path.{◌≡◌, refl}
use mathlib.Core.List.{[], ◌∷◌}
use mathlib.Core.Bool.{false}
use types.Run.{OneOf, miss}
use denote.Enum.Declared.{tag_of}
use Rattle.happening_meaning.specs.Happening.{is_done, unless}
use Rattle.happening_meaning.specs.declared.Outcome.{Outcome}
use Rattle.happening_meaning.specs.declared.Outcome.TheVariants.{Done, Duration, Condition, Undefined, Range, Itself, Conflict, Invariant, Goal}
use Rattle.happening_meaning.specs.contracts.Outcome as outcome-type

abbrev pub Fails : Outcome → Type 0
Fails o = OneOf (1 ∷ 2 ∷ 3 ∷ 4 ∷ 5 ∷ 6 ∷ 7 ∷ 8 ∷ []) (tag_of outcome-type.the_type o)

pub fails : (o : Outcome) → Fails o → is_done o ≡ false
fails Done h = absurd (miss (1 ∷ 2 ∷ 3 ∷ 4 ∷ 5 ∷ 6 ∷ 7 ∷ 8 ∷ []) 0 tt h)
fails (Duration l) h = refl
fails (Condition l) h = refl
fails (Undefined l) h = refl
fails (Range l) h = refl
fails (Itself l) h = refl
fails (Conflict l m) h = refl
fails (Invariant l) h = refl
fails Goal h = refl

pub unless_done : {o : Outcome} (next : Outcome) → o ≡ Done → next ≡ unless o next
unfolding unless
unless_done next e = rw e

pub unless_fails : (o next : Outcome) → Fails o → o ≡ unless o next
unfolding unless
unless_fails o next h = rw (fails o h)
