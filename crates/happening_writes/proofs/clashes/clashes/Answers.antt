use mathlib.Core.Path.{◌∙◌, ap}
use mathlib.Core.List.{List}
use Rattle.std.proofs.Common.{rules}
use Rattle.happening_forms.specs.Summed.{four_at}
use Rattle.happening_meaning.specs.Writes.{some, against}
use Rattle.happening_meaning.specs.declared.Mark.{Mark}
use Rattle.happening_writes.specs.Rows.{marks_at}
use Rattle.happening_writes.specs.Asking.{shown_all}
use Rattle.happening_writes.specs.declared.marks.Asked.{Asked}
use Rattle.happening_writes.proofs.Showing.{against_asked}
use Rattle.happening_writes.proofs.Walking.{any_some}
use Rattle.happening_writes.proofs.clashes.clashes.Goals as goal

pub returns : goal.returns
returns c =
    let ms : List Mark = marks_at c.args.rows.now (four_at c.args.objects.now c.args.k) c.args.from in
    any_some (against c.args.m) c.asking.result c.any.new.self _ c.any.ensures.ran c.asking.ensures (λ m b q k. search rules)
    ∙ ap (λ (q : Asked). some (against c.args.m) (shown_all q ms)) c.asked_against.ensures ∙ against_asked c.args.m ms
