use mathlib.Core.Path.{refl}
use Rattle.happening_forms.specs.Summed.{four_at}
use Rattle.happening_writes.proofs.Following.{ended, told}
use Rattle.happening_writes.proofs.Turning.{marks_end, marks_fact, marks_number}
use Rattle.happening_writes.proofs.Showing.{shown_none, shown_fact, shown_number}
use Rattle.happening_writes.proofs.marks.Marks.step.Goals as goal

pub returns-in_err-row : goal.returns-in_err-row
returns-in_err-row c =
    let e = shown_none c.args.asked (marks_end c.args.self.now.rows.now (four_at c.args.self.now.objects.now c.args.self.now.k) _ (ended _ _ c.in_err-row.ensures)) in
    rw c.from_residual.ensures (e, e)

pub index-x-requires : goal.index-x-requires
index-x-requires c = let f = told _ _ c.in_ok-row.ensures c.in-Fact.is in (f.inside, f.few)

pub returns-in-Fact : goal.returns-in-Fact
returns-in-Fact c = shown_fact c.args.asked (marks_fact _ _ (told _ _ c.in_ok-row.ensures c.in-Fact.is) refl) c.asks_fact.ensures c.index-x.ensures

pub index-x-requires-in-Number : goal.index-x-requires-in-Number
index-x-requires-in-Number c = let f = told _ _ c.in_ok-row.ensures c.in-Number.is in (f.inside, f.few)

pub returns-in-Number : goal.returns-in-Number
returns-in-Number c = shown_number c.args.asked (marks_number _ _ (told _ _ c.in_ok-row.ensures c.in-Number.is) refl c.expr_end-self.ensures c.assigns.ensures) c.asks_number.ensures c.index-x-in-Number.ensures
