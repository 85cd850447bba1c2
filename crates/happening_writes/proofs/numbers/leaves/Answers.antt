use mathlib.Core.Path.{◌∙◌}
use Rattle.std.proofs.Common.{rules}
use Rattle.happening_meaning.specs.Happening.{leaves}
use Rattle.happening_writes.proofs.Showing.{leaves_asked}
use Rattle.happening_writes.proofs.Walking.{any_some}
use Rattle.happening_writes.proofs.numbers.leaves.Goals as goal

pub returns : goal.returns
returns c =
    any_some (leaves c.args.fresh.now) c.asking.result c.any.new.self _ c.any.ensures.ran c.asking.ensures (λ m b q k. search rules)
    ∙ leaves_asked c.args.fresh.now _
