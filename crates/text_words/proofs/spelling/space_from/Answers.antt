use mathlib.Core.Path.{◌≡◌, sym, ◌∙◌}
use native.Mathlib.Omega.{arith}
use native.Mathlib.Decide.{dec_le}
use lib.ListN.{length}
use Rattle.text_words.proofs.Steps.{space_here, space_later, space_end}
use Rattle.text_words.proofs.spelling.space_from.Goals as goal

pub returns-then-list-at-eq32 : goal.returns-then-list-at-eq32
returns-then-list-at-eq32 c = sym (c.loop-at.invariant ∙ space_here _ _ c.loop-at-test.true c.if-list-at-eq32.true)

pub loop-at-preserved : goal.loop-at-preserved
loop-at-preserved c = c.loop-at.invariant ∙ space_later _ _ c.loop-at-test.true c.if-list-at-eq32.false

pub returns : goal.returns
returns c = elim (dec_le c.args.from (length c.args.list.now)) [
  | yes k ↦ let e : c.max.result ≡ c.loop-at.at = omega (arith, c.max.ensures) in rw e (sym (c.loop-at.invariant ∙ space_end _ _ c.loop-at-test.false))
  | no k ↦ let e : c.max.result ≡ c.args.from = omega (arith, c.max.ensures) in rw e (sym (space_end _ _ (omega arith)))
]
