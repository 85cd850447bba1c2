use Prim.Native.Nat.{ℕ}
use mathlib.Core.Bool.{cond}
use native.Mathlib.Omega.{arith}
use borrow.Author.Tests.{lt-ltb, le-ltb, le-leb, lt-leb}
use lib.Dec.{eqb}
use Rattle.check_calls.specs.Calls.{counters_fit}
use Rattle.check_calls.proofs.forming.counters_fit.Goals as goal

abbrev last : ℕ → ℕ
last n = cond (eqb n 0) 1000001 1000000

pub returns-then-p-le256 : goal.returns-then-p-le256
unfolding counters_fit
returns-then-p-le256 c = rw (
  lt-ltb 0 c.args.p.number c.if-p-gt0.true,
  le-leb c.args.p.number (last c.args.p.used) (omega (arith, c.most_lines.ensures, c.if-p-most_lines.true)),
  le-leb c.args.p.used 256 c.if-p-le256.true,
)

pub returns-else-p-le256 : goal.returns-else-p-le256
unfolding counters_fit
returns-else-p-le256 c = rw (
  lt-ltb 0 c.args.p.number c.if-p-gt0.true,
  le-leb c.args.p.number (last c.args.p.used) (omega (arith, c.most_lines.ensures, c.if-p-most_lines.true)),
  lt-leb c.args.p.used 256 c.if-p-le256.false,
)

pub returns-else-p-most_lines : goal.returns-else-p-most_lines
unfolding counters_fit
returns-else-p-most_lines c = rw (lt-ltb 0 c.args.p.number c.if-p-gt0.true, lt-leb c.args.p.number (last c.args.p.used) (omega (arith, c.most_lines.ensures, c.if-p-most_lines.false)))

pub returns-else-p-gt0 : goal.returns-else-p-gt0
unfolding counters_fit
returns-else-p-gt0 c = rw (le-ltb 0 c.args.p.number c.if-p-gt0.false)
