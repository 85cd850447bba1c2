-- The one definition of the whole: from the bytes of domain, problem and plan to the bytes of the line, and the final facts and numbers. RULES 1.
use Rattle.std.specs.Prelude.{ℕ, List, map, cond, eqb, ℤ, length, take}
use Rattle.std.proofs.Math.Option.{Option, some, none}
use Rattle.text_words.specs.Bytes.{bytes}
use Rattle.domain_meaning.specs.Read.{Read, got, refused}
use Rattle.domain_meaning.specs.Domain.{Domain, read_domain}
use Rattle.domain_meaning.specs.Problem.{Problem, read_problem}
use Rattle.domain_meaning.specs.Indexes.{sum_of, bases_of, padded}
use Rattle.domain_meaning.specs.First.{undefined, first_facts, first_numbers}
use Rattle.happening_meaning.specs.State.{State, Grounds, inside}
use Rattle.happening_meaning.specs.Happening.{promises}
use Rattle.happening_meaning.specs.declared.Outcome.{Outcome}
use Rattle.happening_meaning.specs.declared.Outcome.TheVariants.{Done}
use Rattle.plan_meaning.specs.Plan.{Run, going, failed, Rules, Result}
use Rattle.plan_meaning.specs.Plan as P
use Rattle.plan_meaning.specs.Text.{meaning}
use Rattle.plan_meaning.specs.Promised.{Act, rules_of}
use Rattle.plan_meaning.specs.Lines.{Known, Refused, reader, limits}
use Rattle.check_wording.specs.Wording.{verdict_line, refusal_line}

-- the final facts, 1 if true, else 0, at each fact index; the final numbers, at each number's
pub record Final : Type 0 where
  pub facts : List ℕ
  pub numbers : List ℤ

-- the line, and the final state if no text is refused: "23 facts or numbers asked after a plan refusal"
pub record Answered : Type 0 where
  pub line : List ℕ
  pub final : Option Final

-- ---- what domain and problem give the plan: the places of facts and numbers, the first state, the rules, the names

-- 32 predicates and 16 functions at most
unfoldable pub grounds_of : Domain → Problem → Grounds
grounds_of d p =
    record {
      objects = length p.objects;
      facts = padded 32 (bases_of (length p.objects) d.predicates);
      numbers = padded 16 (bases_of (length p.objects) d.functions);
    }

abbrev pub first_state : Problem → State
first_state p = record { facts = first_facts p.init; numbers = first_numbers p.init }

abbrev pub rules_for : Domain → Problem → Rules State Act Outcome
rules_for d p = rules_of (promises (grounds_of d p) p.goal) d.actions (first_state p)

abbrev pub known_for : Domain → Problem → Known
known_for d p = record { types = d.types; objects = p.objects; actions = d.actions }

-- ---- what is shown

-- "1 if true, else 0"
abbrev pub bit : ℕ → ℕ
bit b = cond (eqb b 1) 1 0

-- "−1,000,000,000,001 if undefined"
abbrev pub shown : ℤ → ℤ
shown z = cond (inside z) z undefined

-- so many facts and so many numbers of a state
abbrev pub final_of : ℕ → ℕ → State → Final
final_of f n s = record { facts = map bit (take f s.facts); numbers = map shown (take n s.numbers) }

abbrev pub ran_line : Run State Outcome → List ℕ
ran_line (going s t) = verdict_line Done t
ran_line (failed s t w) = verdict_line w t

abbrev pub last_state : Run State Outcome → State
last_state (going s t) = s
last_state (failed s t w) = s

-- ---- the whole

abbrev pub refused_plan : Refused → Answered
refused_plan e = record { line = refusal_line (bytes "plan") e.number e.line e.column; final = none }

unfoldable pub of_plan : ℕ → ℕ → Result State Outcome Refused → Answered
of_plan f n (P.refused e) = refused_plan e
of_plan f n (P.ended r) = record { line = ran_line r; final = some (final_of f n (last_state r)) }

unfoldable pub plan_answer : Domain → Problem → List ℕ → Answered
plan_answer d p plan =
    of_plan (sum_of (length p.objects) d.predicates) (sum_of (length p.objects) d.functions)
    (meaning (rules_for d p) limits (reader (known_for d p)) plan)

-- "`refused domain 8 133 0`"
abbrev pub refused_text : List ℕ → ℕ → ℕ → Answered
refused_text w k p = record { line = refusal_line w k p 0; final = none }

abbrev pub of_problem : Domain → Read Problem → List ℕ → Answered
of_problem d (got p n) plan = plan_answer d p plan
of_problem d (refused k q) plan = refused_text (bytes "problem") k q

abbrev pub of_domain : Read Domain → List ℕ → List ℕ → Answered
of_domain (got d n) problem plan = of_problem d (read_problem problem d) plan
of_domain (refused k q) problem plan = refused_text (bytes "domain") k q

-- "The domain's refusals come before the problem's", and both before the plan's
unfoldable pub answer : List ℕ → List ℕ → List ℕ → Answered
answer domain problem plan = of_domain (read_domain domain) problem plan
