use mathlib.Core.Path.{refl, ap}
use native.Mathlib.Omega.{arith}
use Rattle.domain_stored_meaning.specs.Entries.{signed_in}
use Rattle.happening_state.specs.States.{state_in}
use Rattle.plan_meaning.specs.Lines.{line_at}
use Rattle.plan_lines.specs.Knowing.{known_in}
use Rattle.plan_running.specs.Running.{rules_in, queue_held}
use Rattle.plan_waiting.proofs.Soundness.{sound_step_of}
use Rattle.plan_feeding.specs.declared.PlanProgress.{PlanProgress}
use Rattle.plan_feeding.specs.Feeding.{check_in}
use Rattle.plan_meaning.proofs.Places.{line_places}
use Rattle.plan_lines.proofs.Names.{signed_length}
use Rattle.plan_feeding.proofs.Answering.{lined_refused, lined_read, taken_blank, taken_refusal, taken_step, read_line, read_width}
use borrow.Author.Rules.{rules}
use Rattle.plan_feeding.proofs.stepping.take_line.Goals as goal

pub overflow_add-place : goal.overflow_add-place
overflow_add-place c = let a = c.args in
    let known = known_in a.tables.now a.counts a.heads.now a.acting a.rows.now in
    let e = lined_refused a.acting c.line_at-l.result c.in-Refused.k c.in-Refused.place (line_at a.text.now known a.p.number a.p.start 0) c.in-Refused.is c.line_at-l.ensures in
    let h = line_places a.text.now known a.p.number a.p.start 0 (omega arith) c.in-Refused.k c.in-Refused.place e in
    search rules

pub take_step-requires : goal.take_step-requires
take_step-requires c = let a = c.args in
    let known = known_in a.tables.now a.counts a.heads.now a.acting a.rows.now in
    let g = lined_read a.acting c.line_at-l.result c.in-Read.x (line_at a.text.now known a.p.number a.p.start 0) c.in-Read.is c.line_at-l.ensures in
    let n = read_line a.text.now known a.p.number a.p.start a.acting c.in-Read.x g in
    let w = read_width a.text.now known a.p.number a.p.start a.acting c.in-Read.x g in
    ((a.acting, c.requires.2.0), c.requires.3, n, g.within.1, omega (arith, c.requires.4, w), c.requires.5, c.requires.6, (a.acting, sound_step_of a.acting c.in-Read.x g.within.0 g.within.1 g.within.2))

pub returns-in-Blank : goal.returns-in-Blank
returns-in-Blank c = let a = c.args in (
  λ g s. taken_blank (rules_in a.rows.now g (signed_in a.heads.now a.acting) s) (state_in a.facts.now a.numbers.now) (queue_held a.work.now) a.p c.requires.3 a.acting c.line_at-l.result
      (line_at a.text.now (known_in a.tables.now a.counts a.heads.now a.acting a.rows.now) a.p.number a.p.start 0) c.line_at-l.ensures c.in-Blank.is,
  c.requires.2,
  refl,
  c.requires.6,
)

pub returns-in-Refused : goal.returns-in-Refused
returns-in-Refused c = let a = c.args in (
  λ g s. taken_refusal (rules_in a.rows.now g (signed_in a.heads.now a.acting) s) (state_in a.facts.now a.numbers.now) (queue_held a.work.now) a.p c.requires.3 a.acting c.line_at-l.result
      (line_at a.text.now (known_in a.tables.now a.counts a.heads.now a.acting a.rows.now) a.p.number a.p.start 0) c.line_at-l.ensures c.refuse.result c.in-Refused.k c.in-Refused.place c.in-Refused.is c.refuse.ensures,
  rw c.refuse.ensures c.requires.2,
  ap (λ (p : PlanProgress). p.number) c.refuse.ensures,
  c.requires.6,
)

pub returns-in-Read : goal.returns-in-Read
returns-in-Read c = let a = c.args in let x = c.in-Read.x in let taken = c.take_step in
    let read = line_at a.text.now (known_in a.tables.now a.counts a.heads.now a.acting a.rows.now) a.p.number a.p.start 0 in
    let i = (lined_read a.acting c.line_at-l.result x read c.in-Read.is c.line_at-l.ensures).within in
    let n = signed_length a.heads.now a.acting in
    let new = check_in (state_in taken.new.facts taken.new.numbers) (queue_held taken.new.work) taken.result in (
      λ g s. taken_step (rules_in a.rows.now g (signed_in a.heads.now a.acting) s) (state_in a.facts.now a.numbers.now) (queue_held a.work.now) a.p c.requires.3 a.acting c.line_at-l.result
          read c.line_at-l.ensures new x c.in-Read.is (taken.ensures.0 g (signed_in a.heads.now a.acting) s (rw n c.requires.2.0) (rw n c.requires.1.1)),
      (
        taken.ensures.1 a.acting c.requires.2.0 (sound_step_of a.acting x i.0 i.1 i.2),
        taken.ensures.4 1000000000000 c.requires.2.1 i.1,
        omega (arith, taken.ensures.2),
        omega (arith, taken.ensures.3),
        omega (arith, taken.ensures.3),
      ),
      taken.ensures.3,
      taken.ensures.5,
    )
