-- A test that holds of each number of a range, by computation; and the kind of each byte of a range. Assumes nothing.
use mathlib.Core.Path.{◌≡◌, refl, sym, ap, ◌∙◌}
use mathlib.Core.Bool.{Bool, true, ◌&&◌}
use Prim.Native.Nat.{ℕ, zero, suc, ◌+◌, ◌≤◌, ◌<◌}
use native.Mathlib.Omega.{arith}
use native.Mathlib.Decide.{dec_le}
use lib.Dec.{eqb}
use lib.ListN.{get_or}
use mathlib.Core.List.{[], ◌∷◌}
use borrow.Author.Tests.{eqb-true}
use Rattle.base_laws.proofs.Splits.{and_left, and_right}
use Rattle.text_words.specs.Bytes.{kind_of}
use Rattle.text_words.specs.declared.bytes.Kind.{Kind}
use Rattle.text_words.specs.declared.bytes.Kind.TheVariants as K

-- the test holds of lo and the numbers after it, n in all
abbrev pub holds : (ℕ → Bool) → ℕ → ℕ → Bool
holds P lo zero = true
holds P lo (suc n) = P lo && holds P (lo + 1) n

pub holds_at : (n : ℕ) (P : ℕ → Bool) (lo b : ℕ) → holds P lo n ≡ true → lo ≤ b → b < lo + n → P b ≡ true
holds_at zero P lo b h l u = absurd (let y : ⊥ = omega arith in y)
holds_at (suc n) P lo b h l u = elim (dec_le b lo) [
  | yes k ↦ let e : b ≡ lo = omega arith in rw e (and_left (P lo) (holds P (lo + 1) n) h)
  | no k ↦ holds_at n P (lo + 1) b (and_right (P lo) (holds P (lo + 1) n) h) (omega arith) (omega arith)
]

abbrev pub number : Kind → ℕ
number K.Digit = 0
number K.Letter = 1
number K.Bracket = 2
number K.White = 3
number K.Mark = 4
number K.Refused = 5

abbrev kind : ℕ → Kind
kind n = get_or (K.Digit ∷ K.Letter ∷ K.Bracket ∷ K.White ∷ K.Mark ∷ []) n K.Refused

kind_number : (k : Kind) → kind (number k) ≡ k
kind_number K.Digit = refl
kind_number K.Letter = refl
kind_number K.Bracket = refl
kind_number K.White = refl
kind_number K.Mark = refl
kind_number K.Refused = refl

abbrev pub is_kind : Kind → ℕ → Bool
is_kind k b = eqb (number (kind_of b)) (number k)

-- the bytes from lo on, n of them, are of one kind
pub kind_at : (lo n : ℕ) (k : Kind) (b : ℕ) → holds (is_kind k) lo n ≡ true → lo ≤ b → b < lo + n → k ≡ kind_of b
kind_at lo n k b h l u =
    sym (kind_number k) ∙ ap kind (sym (eqb-true (number (kind_of b)) (number k) (holds_at n (is_kind k) lo b h l u))) ∙ kind_number (kind_of b)
