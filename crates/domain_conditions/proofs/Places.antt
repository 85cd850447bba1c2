-- Where a condition's parts lie, and how many cells they take of the whole's. Assumes nothing.
use Rattle.std.specs.Prelude.{Ok, Err}
use mathlib.Core.Path.{◌≡◌, ap, ◌∙◌}
use mathlib.Core.Logic.{◌⊎◌, inl, inr}
use Prim.Native.Nat.{ℕ, ◌+◌, ◌≤◌, ◌<◌}
use native.Mathlib.Omega.{arith}
use Rattle.domain_meaning.specs.Read.{Read, got, refused}
use Rattle.domain_expressions.specs.Codes.{Progress, Done, Spent}
use Rattle.domain_conditions.specs.Begins.{Begun, Placed}
use Rattle.domain_conditions.specs.Closed.{closed_by}
use Rattle.domain_conditions.specs.declared.heads.ConditionHead.{ConditionHead}
use Rattle.domain_conditions.specs.declared.heads.ConditionHead.TheVariants as H

module _ (at most d : ℕ) (r : Begun) where
  pub and_place : (p e : ℕ) → r ≡ Ok (H.And p e) → Placed at most d r → (at + 2 ≤ e) × (e ≤ most) × (0 < d)
  unfolding Placed
  and_place p e q h = rw q at h

  pub not_place : (p e : ℕ) → r ≡ Ok (H.Not p e) → Placed at most d r → (at + 2 ≤ e) × (e ≤ most) × (0 < d)
  unfolding Placed
  not_place p e q h = rw q at h

  pub atom_place : (p e : ℕ) → r ≡ Ok (H.Atom p e) → Placed at most d r → (at + 2 ≤ e) × (e ≤ most) × (0 < d)
  unfolding Placed
  atom_place p e q h = rw q at h

  -- under `not` both are read as facts
  pub fact_place : (h : ConditionHead) (p e : ℕ) → r ≡ Ok h → (h ≡ H.Not p e) ⊎ (h ≡ H.Atom p e) → Placed at most d r → (at + 2 ≤ e) × (e ≤ most) × (0 < d)
  fact_place h p e q (inl k) w = not_place p e (q ∙ ap Ok k) w
  fact_place h p e q (inr k) w = atom_place p e (q ∙ ap Ok k) w

  pub compared_place : (k e m : ℕ) → r ≡ Ok (H.Compared k e m) → Placed at most d r → (at + 2 ≤ e) × (e ≤ most) × (0 < d) × (k ≤ 4)
  unfolding Placed
  compared_place k e m q h = rw q at h

-- what stands after a head word, said of the whole
pub spent_behind : (r : Progress) (more n u w at from : ℕ) → from ≤ at → u ≤ w → w + from + more ≤ u + at → Spent more n w at r → Spent 0 n u from r
unfolding Spent
spent_behind (Done a v l) more n u w at from i j k h = (omega (arith, h.0), h.1, omega (arith, h.2), omega (arith, h.3))
spent_behind (Err why) more n u w at from i j q h = tt

-- after the last part stands a bracket
pub spent_closed : (r : Progress) (x : Read ℕ) (more n u free l at from : ℕ) → r ≡ closed_by free l x → from ≤ at → u ≤ free → free + from ≤ u + at + 1 + more
    → Spent 0 n free at r → Spent more n u from r
unfolding Spent
spent_closed r (got p a) more n u free l at from e i j k h = let w = rw e at h in rw e (omega (arith, w.0), w.1, j, omega (arith, w.0))
spent_closed r (refused j p) more n u free l at from e i q k h = rw e tt

pub spent_done : (n u at a v l : ℕ) → at < a → a ≤ n → u ≤ v → v + at ≤ u + a → Spent 0 n u at (Done a v l)
unfolding Spent
spent_done n u at a v l lo hi j k = (lo, hi, j, omega (arith, k))
