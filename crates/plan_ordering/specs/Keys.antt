-- A point is one number, its time by 64 and the place where all else about it lies. The keys that wait are n of 640 numbers, from one on; the first 449 are
-- others'.
use Rattle.std.specs.Prelude.{ℕ, ◌+◌, ◌/◌, ◌≤◌, zero, suc, cond, List, ◌≡◌, ltb, length, take, drop, get_or, set}

abbrev pub time_of : ℕ → ℕ
time_of key = key / 64

abbrev pub keys_in : List ℕ → ℕ → ℕ → List ℕ
keys_in words begin n = take n (drop begin words)

-- the keys lie inside
pub record Inside (words : List ℕ) (begin n : ℕ) : Type 0 where
  pub sized : length words ≡ 640
  pub low : 449 ≤ begin
  pub within : begin + n ≤ 640

-- `shifted` of the keys, where they lie
unfoldable pub shifted_at : ℕ → ℕ → List ℕ → ℕ → List ℕ
shifted_at begin zero l p = set l (begin + 0) p
shifted_at begin (suc i) l p =
    cond (ltb (time_of p) (time_of (get_or l (begin + i) 0))) (shifted_at begin i (set l (begin + suc i) (get_or l (begin + i) 0)) p) (set l (begin + suc i) p)
