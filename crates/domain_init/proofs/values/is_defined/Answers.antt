use lib.IntN.{pos}
use lib.ListN.{get_or}
use mir.Syntax.{w64}
use mir.ValLaws.{to_z-of_z}
use Rattle.domain_init.proofs.States.{default_same, past_undefined}
use Rattle.domain_init.proofs.values.is_defined.Goals as goal

pub returns-then-i-numbers : goal.returns-then-i-numbers
returns-then-i-numbers c = rw (to_z-of_z w64 (get_or _ _ (pos 0)) (record { sfits = c.result-1.given })) (default_same c.args.numbers.now _ c.if-i-numbers.true)

pub returns : goal.returns
returns c = past_undefined c.args.numbers.now _ c.if-i-numbers.false
