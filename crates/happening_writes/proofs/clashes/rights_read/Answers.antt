use mathlib.Core.Path.{refl, ◌∙◌}
use native.Mathlib.Omega.{arith}
use Rattle.happening_forms.specs.Summed.{four_at, summed}
use Rattle.happening_meaning.specs.Writes.{right_reads}
use Rattle.happening_writes.proofs.Following.{ended, told}
use Rattle.happening_writes.proofs.Turning.{some_none, some_pass, rights_hit, rights_on, rights_further}
use Rattle.happening_writes.proofs.clashes.rights_read.Goals as goal

pub returns : goal.returns
returns c = let os = four_at c.args.objects.now c.args.k in let f = ended _ _ c.in_default.ensures in some_none (right_reads summed os c.args.x) f ∙ c.loop-row.invariant

pub loop-row-smaller-in-Fact : goal.loop-row-smaller-in-Fact
loop-row-smaller-in-Fact c = let f = told _ _ c.in-Some.ensures c.in-Fact.is in omega (arith, f.inside, f.further)

pub loop-row-preserved-in-Fact : goal.loop-row-preserved-in-Fact
unfolding right_reads
loop-row-preserved-in-Fact c = let os = four_at c.args.objects.now c.args.k in let f = told _ _ c.in-Some.ensures c.in-Fact.is in some_pass (right_reads summed os c.args.x) f.effects refl ∙ c.loop-row.invariant

pub returns-then-e : goal.returns-then-e
returns-then-e c = let rows = c.args.rows.now in let os = four_at c.args.objects.now c.args.k in let f = told _ _ c.in-Some.ensures c.in-Number.is in rights_hit rows os c.args.x _ f c.expr_reads-e.ensures c.if-e.true ∙ c.loop-row.invariant

pub loop-row-smaller : goal.loop-row-smaller
loop-row-smaller c = let rows = c.args.rows.now in let os = four_at c.args.objects.now c.args.k in let f = told _ _ c.in-Some.ensures c.in-Number.is in omega (arith, f.inside, rights_further rows os c.args.x _ f c.expr_reads-e.ensures)

pub loop-row-preserved : goal.loop-row-preserved
loop-row-preserved c = let rows = c.args.rows.now in let os = four_at c.args.objects.now c.args.k in let f = told _ _ c.in-Some.ensures c.in-Number.is in rights_on rows os c.args.x _ f c.expr_reads-e.ensures c.if-e.false ∙ c.loop-row.invariant
