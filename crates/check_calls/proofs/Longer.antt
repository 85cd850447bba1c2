-- A part that ends no line makes the line longer. Assumes nothing.
use Prim.Native.Nat.{ℕ, ◌+◌, ◌-◌, ◌≤◌}
use mathlib.Core.Bool.{false}
use mathlib.Core.List.{List}
use mathlib.Core.Path.{◌≡◌}
use native.Mathlib.Omega.{arith}
use lib.ListN.{length}
use lib.Seq.{sets}
use Rattle.plan_feeding.specs.declared.PlanProgress.{PlanProgress}
use Rattle.plan_bytes.specs.Ends.{line_end}
use Rattle.plan_bytes.proofs.Taking.{held_more}
use Rattle.check_calls.specs.Adding.{Adds}

-- no LF, and room for all bytes
pub added : (p : PlanProgress) (line part after : List ℕ) → p.refused ≡ false → p.number ≤ 1000000 → p.used ≤ 256 → length line ≡ 257
    → length part ≤ line_end part → line_end part ≤ 256 - p.used → after ≡ sets line p.used part
    → Adds p line part after (p.used + length part)
added p line part after goes low few long none room stored =
    record {
      goes = goes;
      short = λ _. omega arith;
      feeds = λ R k s q. rw stored (held_more R k s line q p part goes low few long none (omega arith));
    }
