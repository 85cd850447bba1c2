use Rattle.std.proofs.Common.{ℕ, ◌+◌, ◌-◌, List, length, get_or, ap, ◌∙◌, arith}
use Rattle.plan_ordering.specs.Keys.{keys_in}
use Rattle.plan_ordering.proofs.Shifting.{shift_none, shift_stop, shift_go, shifted_in, shift_below, length_shift}
use Rattle.plan_ordering.proofs.put_in.Goals as goal

pub returns-then-x-t : goal.returns-then-x-t
returns-then-x-t c = let a = c.args in
    let l = a.words.now in
    let is = shift_stop a.begin c.loop-i.words a.p (c.loop-i.i - 1 - a.begin) (omega arith) (omega arith) (omega arith) c.if-x-t.true ∙ c.loop-i.invariant.1 in
    let sized = c.requires.sized in
    let low = c.requires.low in (
      ap (λ (m : List ℕ). keys_in m a.begin (a.n + 1)) is ∙ shifted_in a.begin a.n l a.p (omega (arith, c.requires.within)),
      ap length is ∙ length_shift a.begin a.n l a.p ∙ sized,
      λ k h. ap (λ (m : List ℕ). get_or m k 0) is ∙ shift_below a.begin a.n l a.p k (omega arith),
    )

pub loop-i-preserved : goal.loop-i-preserved
loop-i-preserved c = let a = c.args in
    (omega arith, shift_go a.begin c.loop-i.words a.p (c.loop-i.i - 1 - a.begin) (omega arith) (omega arith) (omega arith) c.if-x-t.false ∙ c.loop-i.invariant.1)

pub returns : goal.returns
returns c = let a = c.args in
    let l = a.words.now in
    let is = shift_none a.begin c.loop-i.words a.p (omega arith) ∙ c.loop-i.invariant.1 in
    let sized = c.requires.sized in
    let low = c.requires.low in (
      ap (λ (m : List ℕ). keys_in m a.begin (a.n + 1)) is ∙ shifted_in a.begin a.n l a.p (omega (arith, c.requires.within)),
      ap length is ∙ length_shift a.begin a.n l a.p ∙ sized,
      λ k h. ap (λ (m : List ℕ). get_or m k 0) is ∙ shift_below a.begin a.n l a.p k (omega arith),
    )
