use mathlib.Core.Path.{refl}
use native.Mathlib.Omega.{arith}
use Rattle.domain_indexes.proofs.Sums.{power_most}
use Rattle.program_naming.proofs.grounds.count_of.Goals as goal

pub pow-requires : goal.pow-requires
pow-requires c = omega (arith, power_most c.args.n c.args.k _ 3 c.if-n-le64.true c.if-k-le3.true refl)
