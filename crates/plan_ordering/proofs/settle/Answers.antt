use Rattle.std.proofs.Common.{◌≡◌, ◌+◌, ◌-◌, arith, ap, ◌∙◌, List, ℕ}
use Rattle.plan_ordering.specs.Keys.{keys_in}
use Rattle.plan_ordering.proofs.Ways.{keys_pasted}
use Rattle.plan_ordering.proofs.settle.Goals as goal

pub returns : goal.returns
returns c = let a = c.args in
    let n : a.begin + a.n - a.begin ≡ a.n = omega arith in
    let to = c.copy_within.ensures in (
      ap (λ (m : List ℕ). keys_in m 449 a.n) (rw n at to.after) ∙ keys_pasted a.words.now a.begin 449 a.n (omega (arith, c.requires.sized, c.requires.within)) (omega (arith, c.requires.sized, c.requires.within, c.requires.low)),
      to.len ∙ c.requires.sized,
      λ k h. to.by_index.1 k 0 h,
    )
