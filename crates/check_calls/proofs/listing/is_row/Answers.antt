use mathlib.Core.Path.{refl, ◌∙◌}
use native.Mathlib.Omega.{arith}
use native.Mathlib.Decide.{dec_le}
use borrow.Author.Tests.{le-leb, lt-leb}
use Rattle.check_calls.proofs.TableRows.{rows_in, rows_out}
use Rattle.check_calls.proofs.listing.is_row.Goals as goal

pub returns-then-k-lt2 : goal.returns-then-k-lt2
returns-then-k-lt2 c = rows_out 0 2 c.args.k refl (omega arith) (omega arith)

pub returns-then-k-le6 : goal.returns-then-k-le6
returns-then-k-le6 c = rows_in 2 5 c.args.k refl (omega arith) (omega arith)

pub returns-then-k-lt8 : goal.returns-then-k-lt8
returns-then-k-lt8 c = rows_out 7 1 c.args.k refl (omega arith) (omega arith)

pub returns-then-k-le10 : goal.returns-then-k-le10
returns-then-k-le10 c = rows_in 8 3 c.args.k refl (omega arith) (omega arith)

pub returns-then-k-lt16 : goal.returns-then-k-lt16
returns-then-k-lt16 c = rows_out 11 5 c.args.k refl (omega arith) (omega arith)

pub returns : goal.returns
returns c = elim (dec_le c.args.k 18) [
  | yes i ↦ le-leb c.args.k 18 i ∙ rows_in 16 3 c.args.k refl (omega arith) (omega arith)
  | no i ↦ lt-leb c.args.k 18 (omega arith) ∙ rows_out 19 237 c.args.k refl (omega arith) (omega arith)
]
