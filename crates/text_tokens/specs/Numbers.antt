-- "A number is 1 to 9 digits, perhaps a point and 1 to 3 digits, and outside plans perhaps a leading minus. It counts thousandths". RULES 2.
use Rattle.std.specs.Prelude.{ℕ, suc, ◌+◌, ◌-◌, ◌*◌, ◌<◌, List, [], ◌∷◌, Bool, true, false, cond, ◌&&◌, ℤ, pos, ◌-ℤ◌, length, take, drop, eqb, leb, None, Option, Some}
use Prim.Native.Char.{code}
use Rattle.text_words.specs.Bytes.{kind_of, is_digit, between}
use Rattle.text_tokens.specs.Classes.{begun_by}

-- how many digits stand at the front
unfoldable pub leading : List ℕ → ℕ
leading [] = 0
leading (b ∷ bs) = cond (is_digit (kind_of b)) (suc (leading bs)) 0

unfoldable pub digits_end : List ℕ → ℕ → ℕ
digits_end w p = p + leading (drop p w)

-- the value of digits, after those that make v
unfoldable pub decimal : ℕ → List ℕ → ℕ
decimal v [] = v
decimal v (b ∷ bs) = decimal (v * 10 + (b - code "0")) bs

-- what the last of n decimals counts, in thousandths
unfoldable pub scale_of : ℕ → ℕ
scale_of n = cond (eqb n 1) 100 (cond (eqb n 2) 10 1)

-- after the point
unfoldable pub fraction_of : ℕ → List ℕ → Option ℕ
fraction_of whole ds =
    cond (between 1 (length ds) 3 && leb (length ds) (leading ds))
    (Some (whole * 1000 + decimal 0 ds * scale_of (length ds)))
    None

-- after the digits of the whole part
abbrev pub rest_of : ℕ → List ℕ → Option ℕ
rest_of whole [] = Some (whole * 1000)
rest_of whole (b ∷ ds) = cond (eqb b (code ".")) (fraction_of whole ds) None

-- a number without its sign
unfoldable pub number_from : List ℕ → Option ℕ
number_from w =
    cond (between 1 (leading w) 9)
    (rest_of (decimal 0 (take (leading w) w)) (drop (leading w) w))
    None

-- "numbers lie within ±1,000,000,000,000 thousandths": one that is written lies below
abbrev pub Small : Option ℕ → Type 0
Small (Some m) = m < 1000000000000
Small None = Unit {0}

abbrev pub signed : Bool → ℕ → ℤ
signed minus m = cond minus (pos 0 -ℤ pos m) (pos m)

abbrev pub with_sign : Bool → Option ℕ → Option ℤ
with_sign minus (Some m) = Some (signed minus m)
with_sign minus None = None

unfoldable pub number_of : List ℕ → Option ℤ
number_of w = cond (begun_by (code "-") w) (with_sign true (number_from (drop 1 w))) (with_sign false (number_from w))
