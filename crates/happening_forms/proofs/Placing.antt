-- Where what a form names lies, the strides, and the objects of a point. Assumes nothing.
use mathlib.Core.Path.{◌≡◌, refl, sym, ap, ◌∙◌}
use mathlib.Core.List.{List}
use Prim.Native.Nat.{ℕ, zero, suc, ◌+◌, ◌*◌, ◌^◌, ◌≤◌, ◌<◌}
use native.Mathlib.Nat.{mul-le-mul, pow-zero, pow-suc}
use native.Mathlib.Omega.{arith}
use lib.ListN.{get_or}
use Rattle.domain_prepared_meaning.specs.Forms.{Form, index_by, ref_by}
use Rattle.domain_prepared_meaning.proofs.Index.{summed_index}
use Rattle.happening_meaning.specs.State.{fact_of, number_of}
use Rattle.happening_forms.specs.Summed.{summed, four_at}

-- ---- where the fact or number that a form names lies

pub fact_by : (os : List ℕ) (f : Form) → fact_of summed os (ref_by f) ≡ index_by f os
fact_by os f = summed_index os f

pub number_by : (os : List ℕ) (f : Form) → number_of summed os (ref_by f) ≡ index_by f os
number_by os f = summed_index os f

module _ (os : List ℕ) (f : Form) {i : ℕ} (e : i ≡ index_by f os) where
  pub fact_at_lem : i ≡ fact_of summed os (ref_by f)
  fact_at_lem = e ∙ sym (fact_by os f)

  pub number_at : i ≡ number_of summed os (ref_by f)
  number_at = e ∙ sym (number_by os f)

-- ---- strides

below : (m x a b : ℕ) → m < a + 1 → x < b + 1 → m * x ≤ a * b
below m x a b h l = mul-le-mul (let z : m ≤ a = omega arith in z) (let z : x ≤ b = omega arith in z)

pub power_below : (n p : ℕ) → n < 256 → p < 4 → n ^ p < 16777216
power_below n zero h l = rw (pow-zero n) (omega arith)
power_below n (suc zero) h l = rw (pow-suc n 0, pow-zero n) (omega arith)
power_below n (suc (suc zero)) h l = rw (pow-suc n 1, pow-suc n 0, pow-zero n) (omega (arith, below n n 255 255 h h))
power_below n (suc (suc (suc zero))) h l =
    let k : n * n < 65025 + 1 = omega (arith, below n n 255 255 h h) in
    rw (pow-suc n 2, pow-suc n 1, pow-suc n 0, pow-zero n) (omega (arith, below (n * n) n 65025 255 k h))
power_below n (suc (suc (suc (suc p)))) h l = absurd (omega arith)

-- ---- one of the four objects

pub four : (objects : List ℕ) (k i : ℕ) → i < 4 → get_or objects (4 * k + i) 0 ≡ get_or (four_at objects k) i 0
unfolding four_at
four objects k zero h = ap (λ (j : ℕ). get_or objects j 0) (omega arith)
four objects k (suc zero) h = refl
four objects k (suc (suc zero)) h = refl
four objects k (suc (suc (suc zero))) h = refl
four objects k (suc (suc (suc (suc i)))) h = absurd (omega arith)
