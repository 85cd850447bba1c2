use Prim.Native.Nat.{ℕ, ◌+◌}
use mathlib.Core.List.{List}
use mathlib.Core.Path.{ap, ◌∙◌}
use native.Mathlib.Omega.{arith}
use lib.ListN.{length, take}
use lib.Seq.{length-sets}
use Rattle.plan_bytes.proofs.Taking.{longer}
use Rattle.plan_bytes.proofs.bytes.take_ended.Goals as goal

pub returns : goal.returns
returns c = let a = c.args in let used = a.p.used in (
  λ g s. rw (← (ap (λ (l : List ℕ). take (used + length a.text.now) l) c.copy.ensures
      ∙ longer a.line.now used a.text.now (omega (arith, c.requires.4, c.requires.5)))) (c.take_line-2.ensures.0 g s),
  c.take_line-2.ensures.1,
  c.take_line-2.ensures.2,
  ap length c.copy.ensures ∙ length-sets a.line.now used a.text.now ∙ c.requires.4,
  c.take_line-2.ensures.3,
)
