-- How steps and points lie in the code's numbers: any numbers say some step.
use Rattle.std.specs.Prelude.{ℕ, [], ◌∷◌, true, false, cond, eqb, get_or}
use Rattle.plan_meaning.specs.Plan.{Span, moment, lasting, Step, Point, begins, ends, Answer, blank, step, refusal}
use Rattle.plan_meaning.specs.Promised.{Act, duration_of}
use Rattle.plan_meaning.specs.Lines.{Refused, refused_at}
use Rattle.plan_meaning.specs.declared.Step as D
use Rattle.plan_meaning.specs.declared.Slot.{Slot}
use Rattle.plan_meaning.specs.declared.Line.{Line}
use Rattle.plan_meaning.specs.declared.Line.TheVariants as L

-- "holding 0" is refused: no step that lasts has the duration 0
unfoldable pub span_in : ℕ → Span
span_in d = cond (eqb d 0) moment (lasting d)

unfoldable pub step_in : D.Step → Step Act
step_in x =
    record {
      line = x.line;
      start = x.start;
      span = span_in x.duration;
      act = record { action = x.action; objects = x.a ∷ x.b ∷ x.c ∷ x.d ∷ []; width = x.width };
    }

unfoldable pub point_in : Slot → Point Act
point_in s = cond s.ends (ends (step_in s.step) s.step.duration) (begins (step_in s.step))

-- what line n says
abbrev pub answer_in : ℕ → Line → Answer Act Refused
answer_in n L.Blank = blank
answer_in n (L.Read x) = step (step_in x)
answer_in n (L.Refused k p) = refusal (refused_at k n p)

-- ---- and back

unfoldable pub step_of : Step Act → D.Step
step_of x =
    record {
      line = x.line;
      start = x.start;
      duration = duration_of x.span;
      action = x.act.action;
      a = get_or x.act.objects 0 0;
      b = get_or x.act.objects 1 0;
      c = get_or x.act.objects 2 0;
      d = get_or x.act.objects 3 0;
      width = x.act.width;
    }

abbrev pub slot_of : Point Act → Slot
slot_of (begins x) = record { step = step_of x; ends = false }
slot_of (ends x d) = record { step = step_of x; ends = true }
