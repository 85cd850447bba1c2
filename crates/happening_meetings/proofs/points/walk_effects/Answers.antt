use mathlib.Core.Path.{refl}
use native.Mathlib.Omega.{arith}
use Rattle.happening_forms.specs.Summed.{four_at}
use Rattle.happening_writes.proofs.Following.{ended, told}
use Rattle.happening_meetings.proofs.Going.{onward_start}
use Rattle.happening_meetings.proofs.Writing.{effects_over, effects_fact, effects_number, number_further}
use Rattle.happening_meetings.proofs.points.walk_effects.Goals as goal

pub loop-row-init : goal.loop-row-init
loop-row-init c = onward_start _ _ _

pub returns : goal.returns
returns c = effects_over c.args.rows.now (four_at c.args.objects.now c.args.k) c.loop-row.at c.loop-row.invariant (ended _ _ c.in_default.ensures)

pub overflow_add-at : goal.overflow_add-at
overflow_add-at c = omega (arith, (told _ _ c.in-Some.ensures c.in-Fact.is).inside)

pub index-x-requires : goal.index-x-requires
index-x-requires c = (c.requires, (told _ _ c.in-Some.ensures c.in-Fact.is).few, omega (arith, (told _ _ c.in-Some.ensures c.in-Fact.is).inside))

pub loop-row-smaller-in-Fact : goal.loop-row-smaller-in-Fact
loop-row-smaller-in-Fact c = omega (arith, (told _ _ c.in-Some.ensures c.in-Fact.is).inside, (told _ _ c.in-Some.ensures c.in-Fact.is).further)

pub loop-row-preserved-in-Fact : goal.loop-row-preserved-in-Fact
loop-row-preserved-in-Fact c = effects_fact c.args.rows.now (four_at c.args.objects.now c.args.k) c.loop-row.at c.loop-row.invariant c.touch-found.ensures.0 c.touch-found.ensures.1 (told _ _ c.in-Some.ensures c.in-Fact.is) c.index-x.ensures c.fact_cell.ensures.0 c.fact_kind.ensures refl

pub overflow_add-at-in-Number : goal.overflow_add-at-in-Number
overflow_add-at-in-Number c = omega (arith, (told _ _ c.in-Some.ensures c.in-Number.is).inside)

pub index-x-requires-in-Number : goal.index-x-requires-in-Number
index-x-requires-in-Number c = (c.requires, (told _ _ c.in-Some.ensures c.in-Number.is).few, omega (arith, (told _ _ c.in-Some.ensures c.in-Number.is).inside))

pub loop-row-smaller : goal.loop-row-smaller
loop-row-smaller c = omega (arith, (told _ _ c.in-Some.ensures c.in-Number.is).inside, number_further (told _ _ c.in-Some.ensures c.in-Number.is) c.walk_expr-e.ensures.0)

pub loop-row-preserved : goal.loop-row-preserved
loop-row-preserved c = effects_number c.args.rows.now (four_at c.args.objects.now c.args.k) c.loop-row.at c.loop-row.invariant c.touch-h.ensures.0 c.touch-h.ensures.1 (told _ _ c.in-Some.ensures c.in-Number.is) c.index-x-in-Number.ensures c.number_cell.ensures.0 c.number_kind.ensures c.walk_expr-e.ensures refl refl
