use mir.Facts.{Fits-widen}
use mathlib.Core.Path.{refl, sym}
use native.Mathlib.Omega.{arith}
use lib.ListN.{get_or-eq_default}
use Rattle.domain_forms.proofs.cells.entry.Goals as goal

pub overflow_cast-result : goal.overflow_cast-result
overflow_cast-result c = Fits-widen tt (c.shared_slice_known-1.given c.args.i)

pub returns-then-i-firsts : goal.returns-then-i-firsts
returns-then-i-firsts c = (refl, (c.shared_slice_known-1.given c.args.i).fits)

pub returns : goal.returns
returns c = (sym (get_or-eq_default c.args.firsts.now 0 c.if-i-firsts.false), omega arith)
