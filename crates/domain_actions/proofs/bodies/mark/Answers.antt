use mathlib.Core.Path.{◌≡◌, refl, ◌∙◌}
use Prim.Native.Nat.{suc, ◌+◌, ◌*◌}
use native.Mathlib.Omega.{arith}
use Rattle.domain_actions.proofs.bodies.mark.Goals as goal

pub returns : goal.returns
returns c = let a : 3 * c.args.n + 1 ≡ suc (3 * c.args.n) = omega arith in let b : 3 * c.args.n + 2 ≡ suc (suc (3 * c.args.n)) = omega arith in c.put-3.ensures ∙ rw (c.put-2.ensures, c.put.ensures, a, b) refl
