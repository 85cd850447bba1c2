-- Demand 2, down to the bytes: the line begins with `valid` exactly if no line of the plan is refused and the plan is valid; otherwise it is the line of the
-- first failure. Assumes nothing.
use Prim.Native.Nat.{ℕ, ◌≤◌}
use mathlib.Core.Bool.{Bool, true, false, cond, true≢false}
use mathlib.Core.List.{List, ◌∷◌, ◌++◌, map}
use mathlib.Core.Logic.{◌⊎◌, inl, inr}
use mathlib.Core.Option.{some, none}
use mathlib.Core.Path.{◌≡◌, refl, sym, ap, subst, ◌∙◌}
use native.Mathlib.Omega.{arith}
use lib.ListN.{length, take, drop, get_or}
use Rattle.text_words.specs.Bytes.{bytes}
use Rattle.domain_meaning.specs.Read.{Read, got, refused}
use Rattle.domain_meaning.specs.Domain.{Domain, read_domain}
use Rattle.domain_meaning.specs.Problem.{Problem, read_problem}
use Rattle.domain_meaning.specs.Indexes.{sum_of}
use Rattle.domain_meaning.specs.Actions.{Action}
use Rattle.happening_meaning.specs.State.{State}
use Rattle.happening_meaning.specs.Happening.{is_done, Happened, Promises, promises}
use Rattle.happening_meaning.specs.declared.Outcome.{Outcome}
use Rattle.happening_meaning.specs.declared.Outcome.TheVariants.{Done, Duration, Condition, Undefined, Range, Itself, Conflict, Invariant, Goal}
use Rattle.plan_meaning.specs.Plan.{next, stop, going, failed, Result}
use Rattle.plan_meaning.specs.Plan as P
use Rattle.plan_meaning.specs.Text.{meaning}
use Rattle.plan_meaning.specs.Feed.{joined}
use Rattle.plan_meaning.specs.Lines.{Refused, reader, limits}
use Rattle.plan_meaning.specs.Promised.{step_for, point_for, failure, outcome_of, rules_of}
use Rattle.plan_meaning.proofs.Judged.{meaning_ended}
use Rattle.plan_meaning.proofs.Stopping.{Reasons, StopsBy, verdict_by}
use Rattle.plan_meaning.proofs.Bounds.{empty_line_lem}
use Rattle.check_wording.specs.Wording.{word_of, verdict_line, refusal_line}
use Rattle.check_meaning.specs.Answer.{grounds_of, first_state, rules_for, known_for, of_plan, answer}
use Rattle.check_validity_meaning.specs.Valid as Plans
use Rattle.check_validity_meaning.proofs.Answers.{valid_or_fails}
use Rattle.check_demand_laws.specs.Calling.{line}
use Rattle.check_demand_laws.specs.Told.{Reads, refusal_of, steps_of, Valid, FailsFirst}
use Rattle.check_demand_laws.specs.Ours.{ours}
use Rattle.check_demand_laws.specs.Demands.{written, Demand2}
use Rattle.check_demand_laws.proofs.Whole.{means, answered}
use Rattle.check_demand_laws.proofs.Exactly.{exactly_valid, exactly_first}
use Rattle.check_demand_laws.proofs.Third.{whole_answer}

-- ---- how lines begin

-- two lists of different first elements
other : {A : Type 0} {a b : ℕ} {l m : List ℕ} → ¬ (a ≡ b) → a ∷ l ≡ b ∷ m → A
other h e = absurd (h (ap (λ l. get_or l 0 0) e))

word_begins : (w : Outcome) (u : ℕ) (rest : List ℕ) → take 5 (verdict_line w u ++ rest) ≡ bytes "valid" → w ≡ Done
unfolding verdict_line word_of bytes
word_begins Done u rest e = refl
word_begins (Duration l) u rest e = other (λ n. let y : ⊥ = omega arith in y) e
word_begins (Condition l) u rest e = other (λ n. let y : ⊥ = omega arith in y) e
word_begins (Undefined l) u rest e = other (λ n. let y : ⊥ = omega arith in y) e
word_begins (Range l) u rest e = other (λ n. let y : ⊥ = omega arith in y) e
word_begins (Itself l) u rest e = other (λ n. let y : ⊥ = omega arith in y) e
word_begins (Conflict l m) u rest e = other (λ n. let y : ⊥ = omega arith in y) e
word_begins (Invariant l) u rest e = other (λ n. let y : ⊥ = omega arith in y) e
word_begins Goal u rest e = other (λ n. let y : ⊥ = omega arith in y) e

valid_begins : (u : ℕ) (rest : List ℕ) → take 5 (verdict_line Done u ++ rest) ≡ bytes "valid"
unfolding verdict_line word_of bytes
valid_begins u rest = refl

refusal_begins : {A : Type 0} (w : List ℕ) (k p q : ℕ) (rest : List ℕ) → take 5 (refusal_line w k p q ++ rest) ≡ bytes "valid" → A
unfolding refusal_line bytes
refusal_begins w k p q rest e = other (λ n. let y : ⊥ = omega arith in y) e

-- ---- a failure is no success

abbrev Failing : Outcome → Type 0
Failing w = is_done w ≡ false

failure_fails : (o w : Outcome) → failure o ≡ some w → Failing w
failure_fails o w = go (is_done o) refl
  where
    go : (b : Bool) → is_done o ≡ b → cond b none (some o) ≡ some w → Failing w
    go true e h = absurd (let z : ◌≡◌ {A = ℕ} 0 1 = cc in let y : ⊥ = omega arith in y)
    go false e h = let k : o ≡ w = cc in ap is_done (sym k) ∙ e

happened_fails : (x : Happened) (w : Outcome) → outcome_of x ≡ stop w → Failing w
happened_fails x w = go (is_done x.outcome) refl
  where
    go : (b : Bool) → is_done x.outcome ≡ b → cond b (next x.state) (stop x.outcome) ≡ stop w → Failing w
    go true e h = absurd (let z : ◌≡◌ {A = ℕ} 0 1 = cc in let y : ⊥ = omega arith in y)
    go false e h = let k : x.outcome ≡ w = cc in ap is_done (sym k) ∙ e

reasons : (Q : Promises) (as' : List Action) (s : State) → Reasons (rules_of Q as' s) Failing
reasons Q as' s =
    record {
      happens = λ u ps w. happened_fails (Q.happen u (map (point_for as') ps)) w;
      spans = λ u xs w. failure_fails (Q.over u (map (step_for as') xs)) w;
      ends = λ u w. failure_fails (Q.goal u) w;
    }

came_failing : (d : Domain) (p : Problem) (text : List ℕ) (e : State) (u : ℕ) (w : Outcome)
    → meaning (rules_for d p) limits (reader (known_for d p)) text ≡ P.ended (failed e u w) → Failing w
came_failing d p text e u w h =
    subst (StopsBy (rules_for d p) Failing) (meaning_ended (rules_for d p) limits (reader (known_for d p)) (empty_line_lem (known_for d p)) text (failed e u w) h)
    (verdict_by (rules_for d p) Failing (reasons (promises (grounds_of d p) p.goal) d.actions (first_state p)) (steps_of d p text))

-- ---- texts that are read

module _ (s t : List ℕ) (ps : List (List ℕ)) (d : Domain) (p : Problem) (r : Reads s t d p) where
  abbrev came : Result State Outcome Refused
  came = means s t d p r.domain_end r.problem_end r.domain_read r.problem_read ps

  answer_is : answer s t (joined ps) ≡ of_plan (sum_of (length p.objects) d.predicates) (sum_of (length p.objects) d.functions) came
  answer_is = answered s t d p r.domain_end r.problem_end r.domain_read r.problem_read ps

  valid_line : (e : State) (u : ℕ) → Valid d p (joined ps) e u → (answer s t (joined ps)).line ≡ verdict_line Done u
  unfolding of_plan
  valid_line e u v =
      rw (answer_is, (exactly_valid s t d p r.domain_end r.problem_end r.domain_read r.problem_read ps e u).1 v) refl

  failure_line : (e : State) (u : ℕ) (w : Outcome) → FailsFirst d p (joined ps) e u w → (answer s t (joined ps)).line ≡ verdict_line w u
  unfolding of_plan
  failure_line e u w v =
      rw (answer_is, (exactly_first s t d p r.domain_end r.problem_end r.domain_read r.problem_read ps e u w).1 v) refl

  abbrev IsValid : Type 0
  IsValid = (e : State) × (u : ℕ) × Valid d p (joined ps) e u

  begins_valid : (rest : List ℕ) → take 5 ((answer s t (joined ps)).line ++ rest) ≡ bytes "valid" → IsValid
  unfolding of_plan
  begins_valid rest h = go came refl (rw answer_is at h)
    where
      go : (x : Result State Outcome Refused) → came ≡ x
          → take 5 ((of_plan (sum_of (length p.objects) d.predicates) (sum_of (length p.objects) d.functions) x).line ++ rest) ≡ bytes "valid" → IsValid
      go (P.refused e) q b = refusal_begins (bytes "plan") e.number e.line e.column rest b
      go (P.ended (going e u)) q b = (e, u, (exactly_valid s t d p r.domain_end r.problem_end r.domain_read r.problem_read ps e u).0 q)
      go (P.ended (failed e u w)) q b = absurd (true≢false (sym (ap is_done (word_begins w u rest b)) ∙ came_failing d p (joined ps) e u w q))

-- ---- any texts

module _ (s t : List ℕ) (ps : List (List ℕ)) (out : List ℕ) (h : 64 ≤ length out) where
  line_is : (line ours s t ps out).1 ≡ written (answer s t (joined ps)).line out
  line_is = ap (λ x. x.1) (whole_answer s t ps out h)

  abbrev SomeValid : Type 0
  SomeValid = (d : Domain) × (p : Problem) × Reads s t d p × (e : State) × (u : ℕ) × Valid d p (joined ps) e u

  only_valid : (rest : List ℕ) → take 5 ((answer s t (joined ps)).line ++ rest) ≡ bytes "valid" → SomeValid
  unfolding answer
  only_valid rest b = by (read_domain s) refl
    where
      reads : (d : Domain) (m : ℕ) → read_domain s ≡ got d m → (x : Read Problem) → read_problem t d ≡ x → SomeValid
      reads d m e (got p n) f =
          let r : Reads s t d p = record { domain_end = m; domain_read = e; problem_end = n; problem_read = f } in
          let v = begins_valid s t ps d p r rest b in
          (d, p, r, v.0, v.1, v.2)
      reads d m e (refused k q) f = refusal_begins (bytes "problem") k q 0 rest (rw (e, f) at b)

      by : (x : Read Domain) → read_domain s ≡ x → SomeValid
      by (got d m) e = reads d m e (read_problem t d) refl
      by (refused k q) e = refusal_begins (bytes "domain") k q 0 rest (rw e at b)

pub demand_2 : Demand2 ours
demand_2 =
    record {
      valid = λ s t ps out h. (
        (λ b. only_valid s t ps out h (drop (length (answer s t (joined ps)).line) out) (sym (ap (λ l. take 5 l) (line_is s t ps out h)) ∙ b)),
        λ v. ap (λ l. take 5 l) (line_is s t ps out h ∙ ap (λ w. written w out) (valid_line s t ps v.0 v.1 v.2 v.3 v.4 v.5))
            ∙ valid_begins v.4 (drop (length (verdict_line Done v.4)) out),
      );
      timed = λ s t ps out h d p r e u v. line_is s t ps out h ∙ ap (λ w. written w out) (valid_line s t ps d p r e u v);
      named = λ s t ps out h d p r e u w v. line_is s t ps out h ∙ ap (λ w. written w out) (failure_line s t ps d p r e u w v);
      decided = λ d p plan k. by d p plan k (valid_or_fails (grounds_of d p) p.goal d.actions (first_state p) (steps_of d p plan));
    }
  where
    by : (d : Domain) (p : Problem) (plan : List ℕ) → refusal_of d p plan ≡ none
        → ((e : State) × (u : ℕ) × Plans.Valid (grounds_of d p) d.actions (steps_of d p plan) p.goal (first_state p) e u)
        ⊎ ((e : State) × (u : ℕ) × (w : Outcome) × Plans.FailsFirst (grounds_of d p) d.actions (steps_of d p plan) p.goal (first_state p) e u w)
        → ((e : State) × (u : ℕ) × Valid d p plan e u) ⊎ ((e : State) × (u : ℕ) × (w : Outcome) × FailsFirst d p plan e u w)
    by d p plan k (inl x) = inl (x.0, x.1, (k, x.2))
    by d p plan k (inr x) = inr (x.0, x.1, x.2, (k, x.3))
