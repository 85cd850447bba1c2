use mathlib.Core.Path.{◌∙◌}
use native.Mathlib.Omega.{arith}
use Prim.Native.Nat.{◌*◌, ◌≤◌}
use lib.ListN.{length}
use Rattle.text_tokens.specs.Runs.{part}
use Rattle.plan_lines.proofs.Names.{lookup_typed, part_long}
use Rattle.domain_rows.specs.Layout.{objects_at, predicates_at}
use Rattle.plan_lines.proofs.known.object_of.Goals as goal

pub returns : goal.returns
returns c = let tables = c.args.tables.now in
    let long : 38 * c.args.counts.objects ≤ length (part tables objects_at predicates_at) = omega (arith, part_long tables objects_at predicates_at (omega (arith, c.requires)), c.requires.2) in
    c.find.ensures ∙ rw c.part_of.ensures (lookup_typed (part tables objects_at predicates_at) c.args.counts.objects c.args.w.now long)
