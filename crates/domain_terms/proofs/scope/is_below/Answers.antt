use mathlib.Core.Path.{◌≡◌, sym, ◌∙◌}
use native.Mathlib.Omega.{arith}
use Prim.Native.Nat.{◌-◌, ◌+◌, ◌<◌}
use Rattle.domain_terms.proofs.Kept.{below_same, below_up, below_end, below_held}
use Rattle.domain_terms.proofs.scope.is_below.Goals as goal

pub returns-then-x-b : goal.returns-then-x-b
returns-then-x-b c = let left : 0 < c.args.n - c.loop.counter = omega arith in
    let told = below_same _ c.args.tables.now c.args.n c.loop.x c.args.b left c.if-x-b.true ∙ sym c.loop.invariant in
    (λ m to ts h. told ∙ below_held c.args.tables.now to m c.args.n ts c.args.a c.args.b h, told)

pub loop-preserved : goal.loop-preserved
loop-preserved c = let left : 0 < c.args.n - c.loop.counter = omega arith in
    let next : c.args.n - c.loop.counter - 1 ≡ c.args.n - (c.loop.counter + 1) = omega arith in
    c.loop.invariant ∙ rw next at (below_up _ c.args.tables.now c.args.n c.loop.x c.args.b left c.if-x-b.false) ∙ rw c.kept_in-x.ensures.2

pub returns : goal.returns
returns c = let told = below_end _ c.args.tables.now c.args.n c.loop.x c.args.b (omega arith) ∙ sym c.loop.invariant in
    (λ m to ts h. told ∙ below_held c.args.tables.now to m c.args.n ts c.args.a c.args.b h, told)
