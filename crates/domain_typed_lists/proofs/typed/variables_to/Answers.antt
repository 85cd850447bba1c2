use mathlib.Core.List.{[]}
use Prim.Native.Nat.{◌+◌}
use native.Mathlib.Omega.{arith}
use lib.ListN.{length}
use Rattle.domain_meaning.specs.Lists.{variables_to}
use Rattle.domain_typed_lists.proofs.Outcomes.{holds_none}
use Rattle.domain_typed_lists.proofs.typed.variables_to.Goals as goal

pub returns : goal.returns
unfolding variables_to
returns c = (λ ts i. c.typed_list.ensures.0 ts [] (length c.args.text.now + 1) i (holds_none _ _ c.requires.2) (omega arith), c.typed_list.ensures.1)
