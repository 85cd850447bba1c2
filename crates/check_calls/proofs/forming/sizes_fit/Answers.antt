use borrow.Author.Tests.{le-leb, lt-leb}
use Rattle.check_calls.specs.Calls.{sizes_fit}
use Rattle.check_calls.proofs.forming.sizes_fit.Goals as goal

pub returns-then-sizes-le16384 : goal.returns-then-sizes-le16384
unfolding sizes_fit
returns-then-sizes-le16384 c = rw (
  le-leb c.args.counts.types 17 c.if-counts-le17.true,
  le-leb c.args.counts.objects 64 c.if-counts-le64.true,
  le-leb c.args.acting 32 c.if-acting-le32.true,
  le-leb c.args.sizes.facts 16384 c.if-sizes-le16384.true,
)

pub returns-else-sizes-le16384 : goal.returns-else-sizes-le16384
unfolding sizes_fit
returns-else-sizes-le16384 c = rw (
  le-leb c.args.counts.types 17 c.if-counts-le17.true,
  le-leb c.args.counts.objects 64 c.if-counts-le64.true,
  le-leb c.args.acting 32 c.if-acting-le32.true,
  lt-leb c.args.sizes.facts 16384 c.if-sizes-le16384.false,
)

pub returns-else-acting-le32 : goal.returns-else-acting-le32
unfolding sizes_fit
returns-else-acting-le32 c = rw (
  le-leb c.args.counts.types 17 c.if-counts-le17.true,
  le-leb c.args.counts.objects 64 c.if-counts-le64.true,
  lt-leb c.args.acting 32 c.if-acting-le32.false,
)

pub returns-else-counts-le64 : goal.returns-else-counts-le64
unfolding sizes_fit
returns-else-counts-le64 c = rw (le-leb c.args.counts.types 17 c.if-counts-le17.true, lt-leb c.args.counts.objects 64 c.if-counts-le64.false)

pub returns-else-counts-le17 : goal.returns-else-counts-le17
unfolding sizes_fit
returns-else-counts-le17 c = rw (lt-leb _ 17 c.if-counts-le17.false)
