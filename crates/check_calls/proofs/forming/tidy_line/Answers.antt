use Prim.Native.Nat.{zero-le}
use mathlib.Core.Path.{◌≡◌}
use native.Mathlib.Omega.{arith}
use Rattle.check_calls.proofs.Padding.{zeros_padded, padded_more}
use Rattle.check_calls.proofs.forming.tidy_line.Goals as goal

pub loop-i-init : goal.loop-i-init
loop-i-init c = (zero-le, zeros_padded 257)

pub loop-i-preserved : goal.loop-i-preserved
loop-i-preserved c = (omega arith, rw c.loop-i.invariant.1 (padded_more 257 c.args.line.now c.loop-i.i (omega arith)))

pub returns : goal.returns
returns c = let e : c.loop-i.i ≡ c.args.used = omega arith in rw (← e) c.loop-i.invariant.1
