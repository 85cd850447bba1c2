-- A number as it is shown, and the numbers written. Assumes nothing.
use Prim.Native.Nat.{ℕ, ◌+◌, ◌<◌}
use mathlib.Core.Bool.{true, false}
use mathlib.Core.List.{List, map}
use mathlib.Core.Path.{◌≡◌, ap, ◌∙◌}
use lib.IntN.{ℤ, pos}
use lib.ListN.{length, take, get_or, set}
use lib.Seq.{sets}
use Rattle.domain_meaning.specs.First.{undefined}
use Rattle.happening_meaning.specs.State.{inside}
use Rattle.check_meaning.specs.Answer.{shown}
use Rattle.check_calls.proofs.Written.{written_more}

pub shown_in : (z r : ℤ) → inside z ≡ true → r ≡ z → r ≡ shown z
shown_in z r h e = rw h e

pub shown_out : (z : ℤ) → inside z ≡ false → undefined ≡ shown z
shown_out z h = rw h

-- a number more: x was read, y is shown for it, and r is stored
pub number_written : (l numbers out : List ℤ) (i : ℕ) (x y r : ℤ) → out ≡ sets l 0 (map shown (take i numbers)) → i < length numbers
    → x ≡ get_or numbers i (pos 0) → y ≡ shown x → r ≡ y → set out i r ≡ sets l 0 (map shown (take (i + 1) numbers))
number_written l numbers out i x y r h k ex ey er =
    ap (λ (o : List ℤ). set o i r) h
    ∙ ap (λ (v : ℤ). set (sets l 0 (map shown (take i numbers))) i v) (er ∙ ey ∙ ap (λ (v : ℤ). shown v) ex)
    ∙ written_more shown l numbers i (pos 0) k
