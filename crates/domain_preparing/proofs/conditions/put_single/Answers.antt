use native.Mathlib.Omega.{arith}
use mathlib.Core.Bool.{true, false}
use Rattle.domain_preparing.proofs.Expressing.{copies_as}
use Rattle.domain_preparing.proofs.Groups.{single_low, single_same, single_atom, single_no_atom, single_high}
use Rattle.domain_preparing.proofs.Testing.{copies_none, copies_same, copies_atom, copies_compare}
use Rattle.domain_preparing.proofs.conditions.put_single.Goals as goal

pub returns-then-tag-lt2 : goal.returns-then-tag-lt2
returns-then-tag-lt2 c = (copies_none _ _ _ c.args.rows.now _ (single_low c.args.code.now c.args.at c.args.tag c.if-tag-lt2.true), record { near = omega arith; few = omega arith })

pub returns-then-tag-lt4 : goal.returns-then-tag-lt4
returns-then-tag-lt4 c = (copies_as (single_same c.args.code.now c.args.at c.args.tag c.if-tag-lt2.false c.if-tag-lt4.true) (copies_same _ _ _ c.args.code.now c.args.at _ c.if-tag-lt2.false c.if-tag-lt4.true c.put_same.ensures.0 c.put_same.ensures.1), record { near = omega arith; few = omega arith })

pub returns-then-tag-lt8 : goal.returns-then-tag-lt8
returns-then-tag-lt8 c = (copies_as (single_atom c.args.code.now c.args.at c.args.tag c.if-tag-lt4.false c.if-tag-lt8.true) (copies_atom _ _ _ c.args.code.now c.args.at true _ c.put_fact.ensures.0 c.put_fact.ensures.1), record { near = omega arith; few = omega arith })

pub returns-then-tag-lt12 : goal.returns-then-tag-lt12
returns-then-tag-lt12 c = (copies_as (single_no_atom c.args.code.now c.args.at c.args.tag c.if-tag-lt8.false c.if-tag-lt12.true) (copies_atom _ _ _ c.args.code.now c.args.at false _ c.put_fact-then-tag-lt12.ensures.0 c.put_fact-then-tag-lt12.ensures.1), record { near = omega arith; few = omega arith })

pub returns-then-tag-lt22 : goal.returns-then-tag-lt22
returns-then-tag-lt22 c = (copies_compare _ _ _ c.args.code.now c.args.at _ c.if-tag-lt12.false c.if-tag-lt22.true c.put_compare.ensures.0 c.put_compare.ensures.1, c.put_compare.ensures.2)

pub returns : goal.returns
returns c = (copies_none _ _ _ c.args.rows.now _ (single_high c.args.code.now c.args.at c.args.tag c.if-tag-lt22.false), record { near = omega arith; few = omega arith })
