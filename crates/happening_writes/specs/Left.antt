-- What is left of a walk over the effects of a list.
use Rattle.std.specs.Prelude.{List}
use Rattle.happening_meaning.specs.declared.Mark.{Mark}
use Rattle.happening_forms.specs.Summed.{four_at}
use Rattle.happening_writes.specs.Rows.{marks_at}
use Rattle.happening_writes.specs.Asking.{shown_all}
use Rattle.happening_writes.specs.declared.marks.Marks.{Marks}
use Rattle.happening_writes.specs.declared.marks.Walk.{Walk}

abbrev pub left : Marks → List Mark
left w = marks_at w.rows.now (four_at w.objects.now w.k) w.at

-- as a walk that asks for some shows it
abbrev pub shown_left : Walk → List Mark
shown_left w = shown_all w.asked (left w.marks)
