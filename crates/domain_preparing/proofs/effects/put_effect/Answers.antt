use native.Mathlib.Omega.{arith}
use mathlib.Core.Bool.{true, false}
use Rattle.domain_meaning.specs.Effects.{assign, raise, lower}
use Rattle.domain_preparing.proofs.Effecting.{copies_fact, copies_change, effect_adds, effect_deletes, effect_assigns, effect_raises, effect_lowers}
use Rattle.domain_preparing.proofs.effects.put_effect.Goals as goal

pub returns-then-tag-lt8 : goal.returns-then-tag-lt8
returns-then-tag-lt8 c = (copies_fact c.args.code.now c.args.at c.args.tag _ _ _ true _ (effect_adds c.args.code.now c.args.at c.args.tag c.if-tag-lt8.true) c.put_fact.ensures.0 c.put_fact.ensures.1, record { near = omega arith; few = omega arith })

pub returns-then-tag-lt12 : goal.returns-then-tag-lt12
returns-then-tag-lt12 c = (copies_fact c.args.code.now c.args.at c.args.tag _ _ _ false _ (effect_deletes c.args.code.now c.args.at c.args.tag c.if-tag-lt8.false c.if-tag-lt12.true) c.put_fact-then-tag-lt12.ensures.0 c.put_fact-then-tag-lt12.ensures.1, record { near = omega arith; few = omega arith })

pub returns-then-tag-lt15 : goal.returns-then-tag-lt15
returns-then-tag-lt15 c = (copies_change c.args.code.now c.args.at c.args.tag _ _ _ assign _ (effect_assigns c.args.code.now c.args.at c.args.tag c.if-tag-lt12.false c.if-tag-lt15.true) c.put_change.ensures.0 c.put_change.ensures.1, c.put_change.ensures.2)

pub returns-then-tag-lt18 : goal.returns-then-tag-lt18
returns-then-tag-lt18 c = (copies_change c.args.code.now c.args.at c.args.tag _ _ _ raise _ (effect_raises c.args.code.now c.args.at c.args.tag c.if-tag-lt15.false c.if-tag-lt18.true) c.put_change-then-tag-lt18.ensures.0 c.put_change-then-tag-lt18.ensures.1, c.put_change-then-tag-lt18.ensures.2)

pub returns : goal.returns
returns c = (copies_change c.args.code.now c.args.at c.args.tag _ _ _ lower _ (effect_lowers c.args.code.now c.args.at c.args.tag c.if-tag-lt18.false) c.put_change-2.ensures.0 c.put_change-2.ensures.1, c.put_change-2.ensures.2)
