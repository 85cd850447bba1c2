use mathlib.Core.Path.{◌≡◌, sym, ◌∙◌}
use native.Mathlib.Omega.{arith}
use native.Mathlib.Decide.{dec_le}
use lib.ListN.{length}
use Rattle.text_words.proofs.Named.{named_over, named_more, named_ends}
use Rattle.text_words.proofs.spelling.name_end.Goals as goal

pub returns-then-not-is_name_byte : goal.returns-then-not-is_name_byte
returns-then-not-is_name_byte c = sym (c.loop-at.invariant ∙ named_ends _ _ c.loop-at-test.true (sym c.is_name_byte.ensures ∙ c.if-not-is_name_byte.true))

pub loop-at-preserved : goal.loop-at-preserved
loop-at-preserved c = c.loop-at.invariant ∙ named_more _ _ c.loop-at-test.true (sym c.is_name_byte.ensures ∙ c.if-not-is_name_byte.false)

pub returns : goal.returns
returns c = elim (dec_le c.args.from (length c.args.w.now)) [
  | yes k ↦ let e : c.max.result ≡ c.loop-at.at = omega (arith, c.max.ensures) in rw e (sym (c.loop-at.invariant ∙ named_over _ _ c.loop-at-test.false))
  | no k ↦ let e : c.max.result ≡ c.args.from = omega (arith, c.max.ensures) in rw e (sym (named_over _ _ (omega arith)))
]
