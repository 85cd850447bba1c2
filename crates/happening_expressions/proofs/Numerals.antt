-- The bytes of a number, read from the last to the first. Assumes nothing.
use mathlib.Core.Path.{◌≡◌}
use mathlib.Core.List.{List}
use Prim.Native.Nat.{ℕ, zero, suc, ◌+◌, ◌-◌, ◌*◌, ◌≤◌, ◌<◌}
use native.Mathlib.Omega.{arith}
use Rattle.domain_rows.specs.Held.{byte_at}
use Rattle.domain_stored_meaning.specs.Decode.{little_at}

-- how many numbers k bytes tell apart
unfoldable pub many : ℕ → ℕ
many zero = 1
many (suc k) = 256 * many k

-- the bytes from the i-th on are read
pub record Read (rows : List ℕ) (at k acc i : ℕ) : Type 0 where
  pub left : i ≤ k
  pub is : acc ≡ little_at rows (at + i) (k - i)
  pub small : acc < many (k - i)

pub many_5 : (n : ℕ) → n ≤ 5 → many n ≤ 1099511627776
unfolding many
many_5 zero h = omega arith
many_5 (suc zero) h = omega arith
many_5 (suc (suc zero)) h = omega arith
many_5 (suc (suc (suc zero))) h = omega arith
many_5 (suc (suc (suc (suc zero)))) h = omega arith
many_5 (suc (suc (suc (suc (suc zero))))) h = omega arith
many_5 (suc (suc (suc (suc (suc (suc n)))))) h = absurd (omega arith)

module _ (rows : List ℕ) (at k : ℕ) where
  pub read_none : Read rows at k 0 k
  unfolding little_at many
  read_none =
      let z : k - k ≡ 0 = omega arith in
      record { left = omega arith; is = rw z; small = rw z (omega arith) }

  pub read_step : (acc i : ℕ) {b : ℕ} → 0 < i → b < 256 → b ≡ byte_at rows (at + (i - 1)) → Read rows at k acc i → Read rows at k (acc * 256 + b) (i - 1)
  unfolding little_at many
  read_step acc i {b} p l e r =
      let m : i ≤ k = r.left in
      let z : k - (i - 1) ≡ suc (k - i) = omega arith in
      let y : at + (i - 1) + 1 ≡ at + i = omega arith in
      let s : acc < many (k - i) = r.small in
      record { left = omega arith; is = rw (z, y, ← e, ← r.is) (omega arith); small = rw z (omega arith) }

  pub read_small : (acc i : ℕ) → k ≤ 5 → Read rows at k acc i → acc < 1099511627776
  read_small acc i h r =
      let s : acc < many (k - i) = r.small in
      let m : many (k - i) ≤ 1099511627776 = many_5 (k - i) (omega arith) in
      omega arith

  pub read_all : (acc i : ℕ) → i ≡ 0 → Read rows at k acc i → acc ≡ little_at rows at k
  read_all acc i z r =
      let p : at + i ≡ at = omega arith in
      let q : k - i ≡ k = omega arith in
      rw (p, q) at r.is
