use Rattle.std.proofs.Common.{rules, refl}
use Rattle.happening_meaning.specs.Writes.{collide}
use Rattle.happening_writes.specs.Left.{shown_left}
use Rattle.happening_writes.proofs.Turning.{collide_none}
use Rattle.happening_writes.proofs.Walking.{any_some}
use Rattle.happening_writes.proofs.clashes.collided.Goals as goal

pub returns-in-Number : goal.returns-in-Number
returns-in-Number c = any_some (collide c.args.m) c.args.later c.any.new.self _ c.any.ensures.ran refl (λ m b q k. search rules)

pub returns-in-Nothing : goal.returns-in-Nothing
returns-in-Nothing c = collide_none (shown_left c.args.later) (search rules)
