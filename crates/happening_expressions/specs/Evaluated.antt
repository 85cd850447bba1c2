-- What is answered of a decoded expression: its value, whether it reads a number, or the bits of all that it reads, and the place after it.
use Rattle.std.specs.Prelude.{ℕ, List, Bool, ℤ}
use Rattle.std.specs.Int.Bits.{bit_or}
use Rattle.domain_meaning.specs.Terms.{Expr, number, value, minus, difference, plus}
use Rattle.domain_stored_meaning.specs.Decode.{Decoded}
use Rattle.happening_meaning.specs.State.{Grounds, number_of}
use Rattle.happening_meaning.specs.Truths.{value_of}
use Rattle.happening_meaning.specs.Writes.{expr_reads}
use Rattle.happening_state.specs.Masks.{number_bit}
use Rattle.happening_meaning.specs.declared.Value.{Value}
use Rattle.happening_forms.specs.declared.Taken.{Taken}

unfoldable pub valued_of : Grounds → List ℤ → List ℕ → Decoded Expr → Taken Value
valued_of g ns os d = record { what = value_of g ns os d.tree; next = d.next }

unfoldable pub expr_found : Grounds → List ℕ → ℕ → Decoded Expr → Taken Bool
expr_found g os x d = record { what = expr_reads g os x d.tree; next = d.next }

-- the bits of the numbers that an expression reads
unfoldable pub expr_mask : Grounds → List ℕ → Expr → ℕ
expr_mask g os (number z) = 0
expr_mask g os (value r) = number_bit (number_of g os r)
expr_mask g os (minus e) = expr_mask g os e
expr_mask g os (difference a b) = bit_or (expr_mask g os a) (expr_mask g os b)
expr_mask g os (plus a b) = bit_or (expr_mask g os a) (expr_mask g os b)

unfoldable pub expr_masked : Grounds → List ℕ → Decoded Expr → Taken ℕ
expr_masked g os d = record { what = expr_mask g os d.tree; next = d.next }
