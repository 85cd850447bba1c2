-- No line that is answered is longer than 64 bytes, whatever the three texts: "20 is for under 64 bytes for a line", and 64 are enough. Assumes nothing.
use mathlib.Core.List.{List, []}
use mathlib.Core.Option.{Option, some, none}
use mathlib.Core.Path.{◌≡◌, refl}
use Prim.Native.Nat.{ℕ, ◌≤◌, ◌<◌}
use native.Mathlib.Omega.{arith}
use lib.ListN.{length}
use Rattle.text_words.specs.Bytes.{bytes}
use Rattle.domain_meaning.specs.Read.{Read, got, refused}
use Rattle.domain_meaning.specs.Domain.{Domain, read_domain}
use Rattle.domain_meaning.specs.Problem.{Problem, read_problem}
use Rattle.domain_meaning.specs.Indexes.{sum_of}
use Rattle.happening_meaning.specs.State.{State}
use Rattle.happening_meaning.specs.declared.Outcome.{Outcome}
use Rattle.happening_meaning.specs.declared.Outcome.TheVariants.{Done, Duration, Condition, Undefined, Range, Itself, Conflict, Invariant, Goal}
use Rattle.plan_meaning.specs.Plan.{Step, Run, going, failed, verdict, Answer, steps, first_refusal, unless, result}
use Rattle.plan_meaning.specs.Text.{lines, answers, meaning}
use Rattle.plan_meaning.specs.Promised.{Act}
use Rattle.plan_meaning.specs.Lines.{Refused, reader, limits}
use Rattle.plan_meaning.proofs.Lists.{all_map}
use Rattle.plan_meaning.proofs.Listed.{listed_small}
use Rattle.plan_meaning.proofs.Bounds.{TextRefusal, text_steps, text_refusal, times_small}
use Rattle.check_wording.specs.Wording.{line_of, second_of, refusal_line}
use Rattle.check_wording.proofs.Lengths.{verdict_short, text_refusal_short, plan_refusal_short}
use Rattle.check_validity_meaning.proofs.Naming.{Names}
use Rattle.check_validity_meaning.proofs.Instant.{run_time, run_word}
use Rattle.check_validity_meaning.proofs.Verdicts.{verdict_time, verdict_names}
use Rattle.check_meaning.specs.Answer.{grounds_of, first_state, rules_for, known_for, ran_line, of_plan, plan_answer, of_problem, of_domain, answer}

-- ---- a verdict

abbrev InPlan : ℕ → Type 0
InPlan l = l ≤ 1000000

written_lines : (w : Outcome) → Names InPlan w → (line_of w ≤ 1000000) × (second_of w ≤ 1000000)
unfolding line_of second_of
written_lines Done n = (omega arith, omega arith)
written_lines (Duration l) n = (n, omega arith)
written_lines (Condition l) n = (n, omega arith)
written_lines (Undefined l) n = (n, omega arith)
written_lines (Range l) n = (n, omega arith)
written_lines (Itself l) n = (n, omega arith)
written_lines (Conflict l m) n = n
written_lines (Invariant l) n = (n, omega arith)
written_lines Goal n = (omega arith, omega arith)

run_short : (r : Run State Outcome) → run_time r < 2000000000000 → Names InPlan (run_word r) → length (ran_line r) ≤ 64
run_short (going s t) h n = let l = written_lines Done tt in verdict_short Done t h l.0 l.1
run_short (failed s t w) h n = let l = written_lines w n in verdict_short w t h l.0 l.1

-- ---- a plan's answer

refused_short : (e : Refused) → TextRefusal e → length (refusal_line (bytes "plan") e.number e.line e.column) ≤ 64
refused_short e h =
    let s = listed_small e.number e.line e.column h in
    let k = s.number in
    let l = s.line in
    let c = s.column in
    plan_refusal_short e.number e.line e.column (omega (arith, k)) (omega (arith, l)) (omega (arith, c))

module _ (d : Domain) (p : Problem) (text : List ℕ) where
  abbrev said : List (Answer Act Refused)
  said = answers (reader (known_for d p)) 1 0 (lines text)

  abbrev plan : List (Step Act)
  plan = steps said

  judged_short : length (ran_line (verdict (rules_for d p) plan)) ≤ 64
  judged_short =
      let small = text_steps (known_for d p) text in
      run_short (verdict (rules_for d p) plan)
      (verdict_time (grounds_of d p) p.goal d.actions (first_state p) plan (λ t. t < 2000000000000) (omega arith) (times_small plan small))
      (verdict_names (grounds_of d p) p.goal d.actions (first_state p) plan InPlan (omega arith) (all_map (λ x h. h.line) plan small))

  plan_short : length (plan_answer d p text).line ≤ 64
  unfolding plan_answer of_plan meaning result
  plan_short = go (first_refusal limits [] said) refl
    where
      go : (o : Option Refused) → first_refusal limits [] said ≡ o
          → length (of_plan (sum_of (length p.objects) d.predicates) (sum_of (length p.objects) d.functions)
          (unless o (verdict (rules_for d p) plan))).line ≤ 64
      go none q = judged_short
      go (some e) q = refused_short e (text_refusal (known_for d p) text e q)

-- ---- the whole

pub answer_short : (domain problem text : List ℕ) → length (answer domain problem text).line ≤ 64
unfolding answer bytes
answer_short domain problem text = by (read_domain domain)
  where
    behind : (d : Domain) (r : Read Problem) → length (of_problem d r text).line ≤ 64
    behind d (got p n) = plan_short d p text
    behind d (refused k q) = text_refusal_short (bytes "problem") k q (omega arith)

    by : (r : Read Domain) → length (of_domain r problem text).line ≤ 64
    by (got d n) = behind d (read_problem problem d)
    by (refused k q) = text_refusal_short (bytes "domain") k q (omega arith)
