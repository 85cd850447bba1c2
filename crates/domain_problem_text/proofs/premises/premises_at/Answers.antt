use Rattle.std.proofs.lemmas.Result.{err_from_is_err_and}
use mathlib.Core.Path.{refl, sym, ◌∙◌}
use native.Mathlib.Omega.{arith}
use Rattle.text_words.specs.Bytes.{bytes}
use Rattle.domain_due.proofs.Dues.{ahead_done, answer_done, answer_refused}
use Rattle.domain_problem_text.proofs.Grounding.{grounded_by, grounded_refused}
use Rattle.domain_problem_text.proofs.Naming.{onwards_further, onwards_refused, titled_end, headed, unheaded, before_heading, before_domain, behind_domain}
use Rattle.domain_meaning.proofs.Headings.{heading_past}
use Rattle.domain_problem_text.proofs.premises.premises_at.Goals as goal

pub of_domain-requires : goal.of_domain-requires
of_domain-requires c = titled_end _ _ _ _ _ c.in_ok-a.was c.heading_at.ensures.1

pub returns-in_err-b : goal.returns-in_err-b
unfolding bytes
returns-in_err-b c = let p = err_from_is_err_and c.from_residual-in_err-b.result c.from_residual-in_err-b.ensures.1 in rw (p.1, p.2, ← c.in_err-b.was) ((λ d h e. grounded_refused _ _ _ d _ _ _ (before_domain _ d _ (headed _ _ _ _ (sym c.heading_at.ensures.0 ∙ c.in_ok-a.was)) _ _ (answer_refused _ _ _ (sym (c.of_domain.ensures.0 d e) ∙ c.in_err-b.was))) c.in_err-b.was, onwards_refused _ _ _ _ _ c.in_err-b.was))

pub objects_section-requires : goal.objects_section-requires
objects_section-requires c = let a = ahead_done _ _ _ _ _ c.in_ok-b.was c.of_domain.ensures.1 in (a.1, c.requires.0, c.requires.1)

pub returns : goal.returns
unfolding bytes
returns c = let x = (headed _ _ _ _ (sym c.heading_at.ensures.0 ∙ c.in_ok-a.was)) in let a = ahead_done _ _ _ _ _ c.in_ok-b.was c.of_domain.ensures.1 in (λ d h e. grounded_by _ _ _ d _ _ (behind_domain _ d _ x _ _ (answer_done _ _ _ (sym (c.of_domain.ensures.0 d e) ∙ c.in_ok-b.was))) (c.objects_section.ensures.0 d h), onwards_further _ _ _ _ (omega (arith, heading_past _ (bytes "problem") _ _ x.is, a.0)) c.objects_section.ensures.1)

pub returns-in_err-a : goal.returns-in_err-a
unfolding bytes
returns-in_err-a c = let p = err_from_is_err_and c.from_residual.result c.from_residual.ensures.1 in rw (p.1, p.2) (λ d h e. grounded_refused _ _ _ d _ _ _ (before_heading _ d _ _ (unheaded _ _ _ (sym c.heading_at.ensures.0 ∙ c.in_err-a.was))) refl, onwards_refused _ _ _ _ _ refl)
