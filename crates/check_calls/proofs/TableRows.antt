-- The rows of the table, range by range. Assumes nothing.
use Prim.Native.Nat.{ℕ, ◌+◌, ◌≤◌, ◌<◌}
use mathlib.Core.Bool.{true, false, not}
use mathlib.Core.Path.{◌≡◌, sym}
use borrow.Author.Tests.{not-true}
use Rattle.text_words.specs.Bytes.{is_one_of}
use Rattle.text_words.proofs.Ranges.{holds, holds_at}
use Rattle.plan_meaning.specs.Listed.{plan_rows}

-- all numbers from lo on, n of them, are rows, or none is
module _ (lo n k : ℕ) where
  pub rows_in : holds (λ b. is_one_of b plan_rows) lo n ≡ true → lo ≤ k → k < lo + n → true ≡ is_one_of k plan_rows
  rows_in h l u = sym (holds_at n (λ b. is_one_of b plan_rows) lo k h l u)

  pub rows_out : holds (λ b. not (is_one_of b plan_rows)) lo n ≡ true → lo ≤ k → k < lo + n → false ≡ is_one_of k plan_rows
  rows_out h l u = sym (not-true (is_one_of k plan_rows) (holds_at n (λ b. not (is_one_of b plan_rows)) lo k h l u))
