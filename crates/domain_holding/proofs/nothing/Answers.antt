use mathlib.Core.Path.{refl}
use Rattle.domain_holding.specs.Keeping.{kept_in}
use Rattle.domain_holding.proofs.nothing.Goals as goal

pub returns : goal.returns
unfolding kept_in
returns c = λ block. refl
