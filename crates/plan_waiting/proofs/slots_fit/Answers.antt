use Rattle.std.proofs.Common.{sym, ◌∙◌, rules, tests}
use Rattle.std.proofs.lemmas.Iterator.{YieldsList-from_slice}
use Rattle.std.proofs.lemmas.Iterator.Search.{all_from_yields_List}
use Rattle.plan_meaning.specs.declared.Slot.{Slot}
use Rattle.plan_waiting.specs.Waiting.{used, step_fits}
use Rattle.plan_waiting.proofs.Fitting.{fit_all}
use Rattle.plan_waiting.proofs.slots_fit.Goals as goal

pub returns : goal.returns
returns c = let a = c.args in
    all_from_yields_List (λ (s : Slot). step_fits a.n s.step) _ _ c.all.result c.all.ensures.ran (YieldsList-from_slice (used a.q) c.iter.ensures.rest) (λ x b q k. search (rules, tests)) ∙ sym (fit_all a.n (used a.q))
