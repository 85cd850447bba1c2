use mathlib.Core.Logic.{inl, inr}
use mathlib.Core.Path.{◌≡◌}
use native.Mathlib.Omega.{arith}
use Rattle.plan_meaning.specs.Lines.{line_at, long_of, refused_at}
use Rattle.plan_lines.specs.Knowing.{known_in}
use Rattle.plan_meaning.proofs.Places.{line_places}
use Rattle.plan_feeding.proofs.Answering.{lined_refused, long_blank, long_read, long_refused, refused_as}
use borrow.Author.Rules.{rules}
use Rattle.plan_feeding.proofs.stepping.refuse_long.Goals as goal

pub overflow_add-place : goal.overflow_add-place
overflow_add-place c = let a = c.args in
    let known = known_in a.tables.now a.counts a.heads.now a.acting a.rows.now in
    let e = lined_refused a.acting c.line_at-l.result c.in-Refused.k c.in-Refused.place (line_at a.text.now known a.p.number a.p.start 0) c.in-Refused.is c.line_at-l.ensures in
    let h = line_places a.text.now known a.p.number a.p.start 0 (omega arith) c.in-Refused.k c.in-Refused.place e in
    search rules

pub returns-in-Blank : goal.returns-in-Blank
returns-in-Blank c = let a = c.args in let l = c.line_at-l in
    let read = line_at a.text.now (known_in a.tables.now a.counts a.heads.now a.acting a.rows.now) a.p.number a.p.start 0 in
    let e : refused_at 14 a.p.number 256 ≡ long_of a.p.number read = elim c.in-Blank.is [ inl b ↦ long_blank a.p.number a.acting l.result read l.ensures b | inr r ↦ long_read a.p.number a.acting l.result read l.ensures r.0 r.1 ] in
    refused_as a.p c.refuse.result 14 256 (long_of a.p.number read) e c.refuse.ensures

pub returns-in-Refused : goal.returns-in-Refused
returns-in-Refused c = let a = c.args in let l = c.line_at-l in
    let read = line_at a.text.now (known_in a.tables.now a.counts a.heads.now a.acting a.rows.now) a.p.number a.p.start 0 in
    refused_as a.p c.refuse-in-Refused.result c.in-Refused.k c.in-Refused.place (long_of a.p.number read) (long_refused a.p.number a.acting l.result read l.ensures c.in-Refused.k c.in-Refused.place c.in-Refused.is) c.refuse-in-Refused.ensures
