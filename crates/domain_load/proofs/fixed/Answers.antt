use mathlib.Core.Path.{refl}
use Rattle.domain_meaning.specs.First.{no_facts, no_numbers}
use Rattle.domain_load.specs.Load.{fixed_of}
use Rattle.domain_load.proofs.fixed.Goals as goal

pub returns : goal.returns
unfolding fixed_of no_facts no_numbers
returns c = refl
