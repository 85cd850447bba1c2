-- What is known of the values that code computes.
use Rattle.std.specs.Prelude.{◌≡◌, true}
use Rattle.happening_meaning.specs.State.{inside}
use Rattle.happening_meaning.specs.declared.Value.{Value}
use Rattle.happening_meaning.specs.declared.Value.TheVariants.{Number, Undefined, Range}

-- a value that is a number lies within the range
unfoldable pub Ranged : Value → Type 0
Ranged (Number z) = inside z ≡ true
Ranged Undefined = Unit {0}
Ranged Range = Unit {0}
