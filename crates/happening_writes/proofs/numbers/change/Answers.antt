use mathlib.Core.Path.{◌∙◌}
use native.Mathlib.Omega.{arith}
use Rattle.happening_forms.specs.Summed.{four_at}
use Rattle.happening_writes.proofs.Following.{ended, told}
use Rattle.happening_writes.proofs.Turning.{changes_end, changes_fact, room_fact, changes_fail, changes_number, room_number, further_so, ranged_so}
use Rattle.happening_writes.proofs.Bounds.{room_bound}
use Rattle.happening_writes.proofs.numbers.change.Goals as goal

pub returns : goal.returns
returns c = let rows = c.args.rows.now in let os = four_at c.args.objects.now c.args.k in let f = ended _ _ c.in_default.ensures in changes_end rows os c.args.old.now c.args.line _ c.loop-row.fresh f ∙ c.loop-row.invariant.1

pub loop-row-smaller-in-Fact : goal.loop-row-smaller-in-Fact
loop-row-smaller-in-Fact c = let f = told _ _ c.in-Some.ensures c.in-Fact.is in omega (arith, f.inside, f.further)

pub loop-row-preserved-in-Fact : goal.loop-row-preserved-in-Fact
loop-row-preserved-in-Fact c = let rows = c.args.rows.now in let os = four_at c.args.objects.now c.args.k in let f = told _ _ c.in-Some.ensures c.in-Fact.is in (room_fact rows os c.args.old.now c.args.line _ f c.loop-row.fresh c.loop-row.invariant.0, changes_fact rows os c.args.old.now c.args.line _ f c.loop-row.fresh ∙ c.loop-row.invariant.1)

pub overflow_add-at : goal.overflow_add-at
overflow_add-at c = let f = told _ _ c.in-Some.ensures c.in-Number.is in omega (arith, f.inside)

pub index-x-requires : goal.index-x-requires
index-x-requires c = let f = told _ _ c.in-Some.ensures c.in-Number.is in (c.requires.0, f.few, omega (arith, f.inside))

pub change_number-o-requires : goal.change_number-o-requires
change_number-o-requires c = let rows = c.args.rows.now in let os = four_at c.args.objects.now c.args.k in let f = told _ _ c.in-Some.ensures c.in-Number.is in (ranged_so rows os c.args.old.now c.args.line _ f c.index-x.ensures c.value-e.ensures, room_bound _ _ _ c.loop-row.invariant.0)

pub returns-in_default-o : goal.returns-in_default-o
returns-in_default-o c = let rows = c.args.rows.now in let os = four_at c.args.objects.now c.args.k in let f = told _ _ c.in-Some.ensures c.in-Number.is in changes_fail rows os c.args.old.now c.args.line _ f c.index-x.ensures c.value-e.ensures c.loop-row.fresh c.change_number-o.ensures c.in_default-o.not-Done ∙ c.loop-row.invariant.1

pub loop-row-smaller : goal.loop-row-smaller
loop-row-smaller c = let rows = c.args.rows.now in let os = four_at c.args.objects.now c.args.k in let f = told _ _ c.in-Some.ensures c.in-Number.is in omega (arith, f.inside, further_so rows os c.args.old.now c.args.line _ f c.index-x.ensures c.value-e.ensures)

pub loop-row-preserved : goal.loop-row-preserved
loop-row-preserved c = let rows = c.args.rows.now in let os = four_at c.args.objects.now c.args.k in let f = told _ _ c.in-Some.ensures c.in-Number.is in (room_number rows os c.args.old.now c.args.line _ f c.index-x.ensures c.value-e.ensures c.loop-row.fresh c.change_number-o.ensures c.loop-row.invariant.0, changes_number rows os c.args.old.now c.args.line _ f c.index-x.ensures c.value-e.ensures c.loop-row.fresh c.change_number-o.ensures c.in-Done.is ∙ c.loop-row.invariant.1)
