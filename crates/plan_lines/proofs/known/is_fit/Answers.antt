use native.Mathlib.Omega.{arith}
use Rattle.plan_lines.proofs.Names.{kept_typed, below_typed}
use Rattle.domain_rows.specs.Layout.{objects_at, predicates_at}
use Rattle.plan_lines.proofs.known.is_fit.Goals as goal

pub returns : goal.returns
returns c = let tables = c.args.tables.now in
    let counts = c.args.counts in
    rw (c.is_below.ensures.1, c.kept_in.ensures.2, kept_typed tables objects_at predicates_at counts.objects (omega (arith, c.requires.2)) c.args.i)
    (below_typed tables objects_at counts.types _ c.args.want (omega (arith, c.requires.1)))
