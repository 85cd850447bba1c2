-- A number as cells: 16, 24 if it is negative, 16 more if it counts wholes and not thousandths, and the count of its bytes; then the bytes, lowest first.
-- So a number takes at most one cell more than its text has bytes.
use Rattle.std.specs.Prelude.{ℕ, zero, suc, ◌+◌, ◌-◌, ◌*◌, ◌/◌, ◌%◌, List, [], ◌∷◌, Bool, cond, ℤ, pos, nat_abs, ◌-ℤ◌, take, ltb, eqb}
use Rattle.std.specs.Int.Signed.{lt_z}

unfoldable pub sign_base : ℤ → ℕ
sign_base z = cond (lt_z z (pos 0)) 24 16

-- how many bytes a number takes
unfoldable pub size_of : ℕ → ℕ
size_of v =
    cond (ltb v 1) 0 (cond (ltb v 256) 1 (cond (ltb v 65536) 2 (cond (ltb v 16777216) 3 (cond (ltb v 4294967296) 4 5))))

unfoldable pub bytes_of : ℕ → ℕ → List ℕ
bytes_of zero v = []
bytes_of (suc k) v = (v % 256) ∷ bytes_of k (v / 256)

abbrev pub literal : ℕ → ℕ → List ℕ
literal base v = (base + size_of v) ∷ bytes_of (size_of v) v

unfoldable pub number_cells : ℤ → List ℕ
number_cells z = cond (eqb (nat_abs z % 1000) 0) (literal (sign_base z + 16) (nat_abs z / 1000)) (literal (sign_base z) (nat_abs z))

-- ---- back from cells

unfoldable pub little_of : List ℕ → ℕ
little_of [] = 0
little_of (b ∷ bs) = b + 256 * little_of bs

-- what the first cell says
abbrev pub size_in : ℕ → ℕ
size_in tag = (tag - 16) % 8

abbrev pub is_negative : ℕ → Bool
is_negative tag = eqb ((tag - 16) / 8 % 2) 1

abbrev pub is_whole : ℕ → Bool
is_whole tag = ltb 15 (tag - 16)

abbrev pub value_in : ℕ → ℕ → ℤ
value_in tag m = cond (is_negative tag) (pos 0 -ℤ pos m) (pos m)

-- the number whose cells stand at the front; any cells give one
unfoldable pub number_in : List ℕ → ℤ
number_in [] = pos 0
number_in (tag ∷ cells) = value_in tag (cond (is_whole tag) (little_of (take (size_in tag) cells) * 1000) (little_of (take (size_in tag) cells)))
