use Rattle.std.proofs.lemmas.Result.{err_from_is_err_and}
use mathlib.Core.Path.{refl, sym, ◌∙◌}
use mathlib.Core.List.{[], ◌∷◌}
use native.Mathlib.Omega.{arith}
use Rattle.text_words.specs.Bytes.{bytes}
use Rattle.domain_due.proofs.Dues.{answer_done, answer_refused, ahead_done, name_refused}
use Rattle.domain_typed_lists.proofs.Outcomes.{room_done}
use Rattle.domain_typed_lists.proofs.Declaring.{named, name_short, signed_done, signed_refused}
use Rattle.domain_actions.proofs.Heading.{title_none, title_known, title_no_word, title_no_bracket, title_opened, titled_refused, opened_refused, titled_done, beyond_refused, beyond_done}
use Rattle.domain_actions.proofs.headers.header_at.Goals as goal

pub returns-in_err-end : goal.returns-in_err-end
returns-in_err-end c = let p = err_from_is_err_and c.from_residual.result c.from_residual.ensures.1 in rw (p.1, p.2, ← c.in_err-end.was) ((λ sc t i h. titled_refused _ _ _ _ _ _ _ _ _ _ (title_none _ sc t _ _ _ (name_refused _ _ _ (sym c.new_name.ensures.0 ∙ c.in_err-end.was))) c.in_err-end.was, beyond_refused _ _ _ _ _ c.in_err-end.was))

pub returns-in_err-fresh_at : goal.returns-in_err-fresh_at
returns-in_err-fresh_at c = let p = err_from_is_err_and c.from_residual-in_err-fresh_at.result c.from_residual-in_err-fresh_at.ensures.1 in rw (p.1, p.2, ← c.in_err-fresh_at.was) ((λ sc t i h. titled_refused _ _ _ _ _ _ _ _ _ _ (title_known _ sc t _ c.in_ok-end.start c.in_ok-end.end (named _ 14 c.args.from c.in_ok-end.start c.in_ok-end.end (sym c.new_name.ensures.0 ∙ c.in_ok-end.was)) _ _ (answer_refused _ _ _ (sym (c.fresh_at.ensures.0 32 t h) ∙ c.in_err-fresh_at.was))) c.in_err-fresh_at.was, beyond_refused _ _ _ _ _ c.in_err-fresh_at.was))

pub word_due-requires : goal.word_due-requires
word_due-requires c = let q = ahead_done _ _ _ _ _ c.in_ok-end.was c.new_name.ensures.1 in q.1

pub returns-in_err-behind : goal.returns-in_err-behind
unfolding bytes
returns-in_err-behind c = let p = err_from_is_err_and c.from_residual-in_err-behind.result c.from_residual-in_err-behind.ensures.1 in rw (p.1, p.2, ← c.in_err-behind.was) ((λ sc t i h. titled_refused _ _ _ _ _ _ _ _ _ _ (title_no_word _ sc t _ c.in_ok-end.start c.in_ok-end.end (named _ 14 c.args.from c.in_ok-end.start c.in_ok-end.end (sym c.new_name.ensures.0 ∙ c.in_ok-end.was)) _ _ (answer_done _ _ _ (sym (c.fresh_at.ensures.0 32 t h) ∙ c.in_ok-fresh_at.was)) _ _ (answer_refused _ _ _ (sym c.word_due.ensures.0 ∙ c.in_err-behind.was))) c.in_err-behind.was, beyond_refused _ _ _ _ _ c.in_err-behind.was))

pub opening-requires : goal.opening-requires
opening-requires c = let q = ahead_done _ _ _ _ _ c.in_ok-behind.was c.word_due.ensures.1 in q.1

pub returns-in_err-inside : goal.returns-in_err-inside
unfolding bytes
returns-in_err-inside c = let p = err_from_is_err_and c.from_residual-in_err-inside.result c.from_residual-in_err-inside.ensures.1 in rw (p.1, p.2, ← c.in_err-inside.was) ((λ sc t i h. titled_refused _ _ _ _ _ _ _ _ _ _ (title_no_bracket _ sc t _ c.in_ok-end.start c.in_ok-end.end (named _ 14 c.args.from c.in_ok-end.start c.in_ok-end.end (sym c.new_name.ensures.0 ∙ c.in_ok-end.was)) _ _ (answer_done _ _ _ (sym (c.fresh_at.ensures.0 32 t h) ∙ c.in_ok-fresh_at.was)) _ _ (answer_done _ _ _ (sym c.word_due.ensures.0 ∙ c.in_ok-behind.was)) _ _ (answer_refused _ _ _ (sym c.opening.ensures.0 ∙ c.in_err-inside.was))) c.in_err-inside.was, beyond_refused _ _ _ _ _ c.in_err-inside.was))

pub parameters_to-requires : goal.parameters_to-requires
parameters_to-requires c = let q = ahead_done _ _ _ _ _ c.in_ok-inside.was c.opening.ensures.1 in (q.1, c.requires.1, c.requires.2, c.requires.3, refl)

pub returns-in_err-after : goal.returns-in_err-after
unfolding bytes
returns-in_err-after c = let p = err_from_is_err_and c.from_residual-in_err-after.result c.from_residual-in_err-after.ensures.1 in rw (p.1, p.2, ← c.in_err-after.was) ((λ sc t i h. titled_refused _ _ _ _ _ _ _ _ _ _ (opened_refused _ sc t _ c.in_ok-end.start c.in_ok-end.end _ (title_opened _ sc t _ c.in_ok-end.start c.in_ok-end.end (named _ 14 c.args.from c.in_ok-end.start c.in_ok-end.end (sym c.new_name.ensures.0 ∙ c.in_ok-end.was)) _ _ (answer_done _ _ _ (sym (c.fresh_at.ensures.0 32 t h) ∙ c.in_ok-fresh_at.was)) _ _ (answer_done _ _ _ (sym c.word_due.ensures.0 ∙ c.in_ok-behind.was)) _ _ (answer_done _ _ _ (sym c.opening.ensures.0 ∙ c.in_ok-inside.was))) _ _ (signed_refused _ 4 _ (0 ∷ 0 ∷ 0 ∷ 0 ∷ 0 ∷ []) _ _ _ (c.parameters_to.ensures.0 sc i).0 c.in_err-after.was)) c.in_err-after.was, beyond_refused _ _ _ _ _ c.in_err-after.was))

pub overflow_add-m : goal.overflow_add-m
overflow_add-m c = let x = signed_done _ 4 _ (0 ∷ 0 ∷ 0 ∷ 0 ∷ 0 ∷ []) _ _ _ (c.parameters_to.ensures.0 c.requires.1.0 c.requires.1.1).0 c.in_ok-after.was (omega arith) in omega (arith, x.fits)

pub slice_bounds-info-end : goal.slice_bounds-info-end
slice_bounds-info-end c = let x = signed_done _ 4 _ (0 ∷ 0 ∷ 0 ∷ 0 ∷ 0 ∷ []) _ _ _ (c.parameters_to.ensures.0 c.requires.1.0 c.requires.1.1).0 c.in_ok-after.was (omega arith) in x.room

pub slice_bounds-enter-end : goal.slice_bounds-enter-end
slice_bounds-enter-end c = let x = signed_done _ 4 _ (0 ∷ 0 ∷ 0 ∷ 0 ∷ 0 ∷ []) _ _ _ (c.parameters_to.ensures.0 c.requires.1.0 c.requires.1.1).0 c.in_ok-after.was (omega arith) in sym x.long

pub enter-requires : goal.enter-requires
enter-requires c = let x = signed_done _ 4 _ (0 ∷ 0 ∷ 0 ∷ 0 ∷ 0 ∷ []) _ _ _ (c.parameters_to.ensures.0 c.requires.1.0 c.requires.1.1).0 c.in_ok-after.was (omega arith) in (c.requires.4, (room_done _ _ _ _ _ c.in_ok-fresh_at.was c.fresh_at.ensures.1), rw c.part_of.ensures (name_short _ 14 c.args.from c.in_ok-end.start c.in_ok-end.end (sym c.new_name.ensures.0 ∙ c.in_ok-end.was) c.requires.0), omega (arith, x.long, x.fits))

pub returns : goal.returns
unfolding bytes
returns c = let q = ahead_done _ _ _ _ _ c.in_ok-end.was c.new_name.ensures.1 in let w = ahead_done _ _ _ _ _ c.in_ok-behind.was c.word_due.ensures.1 in let o = ahead_done _ _ _ _ _ c.in_ok-inside.was c.opening.ensures.1 in let p = ahead_done _ _ _ _ _ c.in_ok-after.was c.parameters_to.ensures.1 in (λ sc t i h. let x = signed_done _ 4 _ (0 ∷ 0 ∷ 0 ∷ 0 ∷ 0 ∷ []) _ _ _ (c.parameters_to.ensures.0 sc i).0 c.in_ok-after.was (omega arith) in titled_done _ sc t _ c.in_ok-end.start c.in_ok-end.end _ (title_opened _ sc t _ c.in_ok-end.start c.in_ok-end.end (named _ 14 c.args.from c.in_ok-end.start c.in_ok-end.end (sym c.new_name.ensures.0 ∙ c.in_ok-end.was)) _ _ (answer_done _ _ _ (sym (c.fresh_at.ensures.0 32 t h) ∙ c.in_ok-fresh_at.was)) _ _ (answer_done _ _ _ (sym c.word_due.ensures.0 ∙ c.in_ok-behind.was)) _ _ (answer_done _ _ _ (sym c.opening.ensures.0 ∙ c.in_ok-inside.was))) _ _ _ _ _ _ _ x (c.parameters_to.ensures.0 sc i).1 (room_done _ _ _ _ _ c.in_ok-fresh_at.was c.fresh_at.ensures.1) (rw c.part_of.ensures at (c.enter.ensures t h)), beyond_done _ _ _ _ (omega (arith, q.0, w.0, o.0, p.0)) p.1)
