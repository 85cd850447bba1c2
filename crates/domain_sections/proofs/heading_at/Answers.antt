use mathlib.Core.Path.{sym, ◌∙◌}
use native.Mathlib.Omega.{arith}
use Rattle.domain_due.proofs.Dues.{answer_done, answer_refused, any_named, any_inside, name_refused, ahead_done}
use Rattle.domain_sections.proofs.Frames.{heading_1, heading_2, heading_3, heading_4, heading_5, heading_6, heading_7, heading_stops, heading_read}
use Rattle.std.proofs.lemmas.Result.{err_from_is_err_and}
use Rattle.text_words.specs.Bytes.{bytes}
use Rattle.domain_sections.proofs.heading_at.Goals as goal

pub returns-in_err-a : goal.returns-in_err-a
returns-in_err-a c = let p = err_from_is_err_and c.from_residual.result c.from_residual.ensures.1 in rw (p.1, p.2) (heading_stops c.args.text.now _ _ _ (heading_1 c.args.text.now c.args.w.now c.args.from _ _ (answer_refused _ _ _ (sym c.opening.ensures.0 ∙ c.in_err-a.was))))

pub word_due-requires : goal.word_due-requires
word_due-requires c = let b0 = ahead_done _ _ _ _ _ c.in_ok-a.was c.opening.ensures.1 in b0.1

pub returns-in_err-b : goal.returns-in_err-b
unfolding bytes
returns-in_err-b c = let p = err_from_is_err_and c.from_residual-in_err-b.result c.from_residual-in_err-b.ensures.1 in rw (p.1, p.2) (heading_stops c.args.text.now _ _ _ (heading_2 c.args.text.now c.args.w.now c.args.from _ _ (answer_done _ _ _ (sym c.opening.ensures.0 ∙ c.in_ok-a.was)) _ _ (answer_refused _ _ _ (sym c.word_due.ensures.0 ∙ c.in_err-b.was))))

pub opening-requires-2 : goal.opening-requires-2
opening-requires-2 c = let b1 = ahead_done _ _ _ _ _ c.in_ok-b.was c.word_due.ensures.1 in b1.1

pub returns-in_err-c : goal.returns-in_err-c
unfolding bytes
returns-in_err-c c = let p = err_from_is_err_and c.from_residual-in_err-c.result c.from_residual-in_err-c.ensures.1 in rw (p.1, p.2) (heading_stops c.args.text.now _ _ _ (heading_3 c.args.text.now c.args.w.now c.args.from _ _ (answer_done _ _ _ (sym c.opening.ensures.0 ∙ c.in_ok-a.was)) _ _ (answer_done _ _ _ (sym c.word_due.ensures.0 ∙ c.in_ok-b.was)) _ _ (answer_refused _ _ _ (sym c.opening-2.ensures.0 ∙ c.in_err-c.was))))

pub word_due-requires-2 : goal.word_due-requires-2
word_due-requires-2 c = let b2 = ahead_done _ _ _ _ _ c.in_ok-c.was c.opening-2.ensures.1 in b2.1

pub returns-in_err-d : goal.returns-in_err-d
unfolding bytes
returns-in_err-d c = let p = err_from_is_err_and c.from_residual-in_err-d.result c.from_residual-in_err-d.ensures.1 in rw (p.1, p.2) (heading_stops c.args.text.now _ _ _ (heading_4 c.args.text.now c.args.w.now c.args.from _ _ (answer_done _ _ _ (sym c.opening.ensures.0 ∙ c.in_ok-a.was)) _ _ (answer_done _ _ _ (sym c.word_due.ensures.0 ∙ c.in_ok-b.was)) _ _ (answer_done _ _ _ (sym c.opening-2.ensures.0 ∙ c.in_ok-c.was)) _ _ (answer_refused _ _ _ (sym c.word_due-2.ensures.0 ∙ c.in_err-d.was))))

pub any_name-requires : goal.any_name-requires
any_name-requires c = let b3 = ahead_done _ _ _ _ _ c.in_ok-d.was c.word_due-2.ensures.1 in b3.1

pub closing-requires : goal.closing-requires
closing-requires c = let b4 = ahead_done _ _ _ _ _ c.in_ok-e.was c.any_name.ensures.1 in b4.1

pub returns-in_err-e : goal.returns-in_err-e
unfolding bytes
returns-in_err-e c = let p = err_from_is_err_and c.from_residual-in_err-e.result c.from_residual-in_err-e.ensures.1 in rw (p.1, p.2) (heading_stops c.args.text.now _ _ _ (heading_5 c.args.text.now c.args.w.now c.args.from _ _ (answer_done _ _ _ (sym c.opening.ensures.0 ∙ c.in_ok-a.was)) _ _ (answer_done _ _ _ (sym c.word_due.ensures.0 ∙ c.in_ok-b.was)) _ _ (answer_done _ _ _ (sym c.opening-2.ensures.0 ∙ c.in_ok-c.was)) _ _ (answer_done _ _ _ (sym c.word_due-2.ensures.0 ∙ c.in_ok-d.was)) _ _ (name_refused _ _ _ (sym c.any_name.ensures.0 ∙ c.in_err-e.was))))

pub returns-in_err-next : goal.returns-in_err-next
unfolding bytes
returns-in_err-next c = let p = err_from_is_err_and c.from_residual-in_err-next.result c.from_residual-in_err-next.ensures.1 in rw (p.1, p.2) (heading_stops c.args.text.now _ _ _ (heading_6 c.args.text.now c.args.w.now c.args.from _ _ (answer_done _ _ _ (sym c.opening.ensures.0 ∙ c.in_ok-a.was)) _ _ (answer_done _ _ _ (sym c.word_due.ensures.0 ∙ c.in_ok-b.was)) _ _ (answer_done _ _ _ (sym c.opening-2.ensures.0 ∙ c.in_ok-c.was)) _ _ (answer_done _ _ _ (sym c.word_due-2.ensures.0 ∙ c.in_ok-d.was)) _ _ (any_named _ _ _ _ _ (sym c.any_name.ensures.0 ∙ c.in_ok-e.was)).is _ _ (answer_refused _ _ _ (sym c.closing.ensures.0 ∙ c.in_err-next.was))))

pub returns : goal.returns
unfolding bytes
returns c = let b3 = ahead_done _ _ _ _ _ c.in_ok-d.was c.word_due-2.ensures.1 in let b4 = ahead_done _ _ _ _ _ c.in_ok-e.was c.any_name.ensures.1 in let b5 = ahead_done _ _ _ _ _ c.in_ok-next.was c.closing.ensures.1 in let m = any_inside _ 14 _ _ _ b3.1 (sym c.any_name.ensures.0 ∙ c.in_ok-e.was) in heading_read _ _ _ _ _ (heading_7 _ _ _ _ _ (answer_done _ _ _ (sym c.opening.ensures.0 ∙ c.in_ok-a.was)) _ _ (answer_done _ _ _ (sym c.word_due.ensures.0 ∙ c.in_ok-b.was)) _ _ (answer_done _ _ _ (sym c.opening-2.ensures.0 ∙ c.in_ok-c.was)) _ _ (answer_done _ _ _ (sym c.word_due-2.ensures.0 ∙ c.in_ok-d.was)) _ _ (any_named _ _ _ _ _ (sym c.any_name.ensures.0 ∙ c.in_ok-e.was)).is _ _ (answer_done _ _ _ (sym c.closing.ensures.0 ∙ c.in_ok-next.was))) (omega arith) b4.1 b5.1
