-- Demands 2 and 3: for every domain, problem and list of parts, what load, feed, finish and the questions give is `answer` of the texts and the joined parts.
-- Assumes nothing.
use Prim.Native.Nat.{ℕ, ◌≤◌}
use mathlib.Core.List.{List, [], ◌∷◌, ◌++◌}
use mathlib.Core.Bool.{false}
use mathlib.Core.Path.{◌≡◌, refl, sym, ap, subst, ◌∙◌}
use native.Mathlib.Omega.{arith}
use borrow.Author.Tests.{le-ltb}
use lib.ListN.{length, drop}
use lib.Seq.{sets}
use Rattle.base_laws.proofs.Sets.{sets_first}
use Rattle.domain_meaning.specs.Read.{Read, got, refused}
use Rattle.domain_meaning.specs.Domain.{Domain, read_domain}
use Rattle.domain_meaning.specs.Problem.{Problem, read_problem}
use Rattle.domain_meaning.specs.Indexes.{sum_of}
use Rattle.domain_meaning.specs.Actions.{Action}
use Rattle.happening_meaning.specs.State.{State}
use Rattle.happening_meaning.specs.Happening.{Promises, promises}
use Rattle.happening_meaning.specs.declared.Outcome as Why
use Rattle.plan_meaning.specs.Plan.{Result}
use Rattle.plan_meaning.specs.Feed.{Feed, joined, feeds, new, close}
use Rattle.plan_meaning.specs.Text.{Reader, meaning}
use Rattle.plan_meaning.specs.Promised.{Act, rules_of}
use Rattle.plan_meaning.specs.Lines.{Refused, reader, limits}
use Rattle.plan_meaning.proofs.Rising as Plans
use Rattle.text_words.specs.Bytes.{bytes}
use Rattle.check_wording.specs.Wording.{refusal_line}
use Rattle.domain_load.specs.Load.{loaded_of, fixed_of, load_of}
use Rattle.check_meaning.specs.Answer.{Answered, grounds_of, first_state, rules_for, known_for, of_plan, plan_answer, refused_text, answer}
use Rattle.check_calls.specs.Calls as C
use Rattle.check_calls.specs.Calls.{counters_fit, formed, well_formed, any_state, rules_on, known_on, held_by, result_of, check_for, open_of, writing_line, line_of}
use Rattle.domain_load.specs.declared.LoadAnswer.{LoadAnswer}
use Rattle.domain_load.specs.declared.LoadAnswer.TheVariants as Is
use Rattle.check_calls.specs.declared.Check.{Check}
use Rattle.check_calls.specs.declared.LoadReply.{LoadReply}
use Rattle.check_demand_laws.proofs.Sessions.{feeds_of, session_of, asked_line_lem}
use Rattle.check_demand_laws.proofs.Begun.{feed_same, close_same}
use Rattle.check_demand_laws.proofs.Keeping.{KeptResult}
use Rattle.check_demand_laws.proofs.Session.{session, closed_kept}
use Rattle.check_demand_laws.proofs.Asking.{asked_line}
use Rattle.check_demand_laws.proofs.Loaded as L
use Rattle.check_demand_laws.proofs.Short.{answer_short}

-- ---- what is to come does not hang on where the run began

module _ (P : Promises) (as' : List Action) (s t : State) (D : Reader Act Refused) where
  feeds_same : (ps : List (List ℕ)) (m : Feed State Act Why.Outcome Refused) → feeds (rules_of P as' s) limits D m ps ≡ feeds (rules_of P as' t) limits D m ps
  feeds_same [] m = refl
  feeds_same (p ∷ ps) m = ap (λ x. feeds (rules_of P as' s) limits D x ps) (feed_same P as' s t D p m) ∙ feeds_same ps _

-- ---- two texts that are read

module _ (s t : List ℕ) (d : Domain) (p : Problem) (m n : ℕ) (e : read_domain s ≡ got d m) (f : read_problem t d ≡ got p n) (ps : List (List ℕ)) where
  abbrev pub means : Result State Why.Outcome Refused
  means = meaning (rules_for d p) limits (reader (known_for d p)) (joined ps)

  abbrev loaded : Check
  loaded = L.loaded s t d p m n e f

  closing : close (rules_on loaded) limits (reader (known_on loaded)) (feeds (rules_on loaded) limits (reader (known_on loaded)) (held_by loaded) ps) ≡ means
  closing =
      (λ i. close (rules i) limits (reads i) (feeds (rules i) limits (reads i) (L.held_loaded s t d p m n e f i) ps))
      ∙ close_same P d.actions any_state (first_state p) D (feeds (rules_of P d.actions any_state) limits D begun ps)
      ∙ ap (λ x. close (rules_for d p) limits D x) (feeds_same P d.actions any_state (first_state p) D ps begun)
      ∙ Plans.whole P d.actions (first_state p) (known_for d p) ps
    where
      P : Promises
      P = promises (grounds_of d p) p.goal

      D : Reader Act Refused
      D = reader (known_for d p)

      begun : Feed State Act Why.Outcome Refused
      begun = new (rules_for d p) limits (reader (known_for d p))

      rules : rules_on loaded ≡ rules_of (promises (grounds_of d p) p.goal) d.actions any_state
      rules = L.rules_loaded s t d p m n e f

      reads : reader (known_on loaded) ≡ D
      reads = L.reader_loaded s t d p m n e f

  -- the check after finish
  finished : (C.finish_of (feeds_of loaded ps)).check ≡ C.ended loaded means
  finished = session ps loaded (L.loaded_open s t d p m n e f) ∙ ap (λ x. C.ended loaded x) closing

  -- what the plan means is listed
  pub means_kept : KeptResult means
  means_kept = subst KeptResult closing (closed_kept loaded ps (L.loaded_open s t d p m n e f))

  pub opened : open_of s t ≡ record { check = loaded; answer = Is.Loaded }
  unfolding open_of load_of loaded_of
  opened = rw (e, f)

  read_line : (line : List ℕ) → 64 ≤ length line → asked_line_lem (open_of s t).answer (session_of s t ps) line ≡ sets line 0 (answer s t (joined ps)).line
  unfolding answer plan_answer
  read_line line h =
      ap (λ (o : LoadReply). asked_line_lem o.answer (C.finish_of (feeds_of o.check ps)).check line) opened
      ∙ ap (λ (c : Check). (result_of c line).1) finished
      ∙ asked_line loaded (L.loaded_open s t d p m n e f).formed means means_kept (sum_of (length p.objects) d.predicates)
      (sum_of (length p.objects) d.functions) line h
      ∙ rw (e, f) refl

-- ---- a text that is refused

module _ (s t : List ℕ) (k q : ℕ) where
  pub domain_opened : read_domain s ≡ refused k q → open_of s t ≡ record { check = check_for (fixed_of (Is.Domain k q)) 0; answer = Is.Domain k q }
  unfolding open_of load_of fixed_of
  domain_opened e = rw e

  domain_answered : (plan : List ℕ) → read_domain s ≡ refused k q → answer s t plan ≡ refused_text (bytes "domain") k q
  unfolding answer
  domain_answered plan e = rw e

  module _ (d : Domain) (m : ℕ) (e : read_domain s ≡ got d m) (f : read_problem t d ≡ refused k q) where
    pub problem_opened : open_of s t ≡ record { check = check_for (fixed_of (Is.Problem k q)) 0; answer = Is.Problem k q }
    unfolding open_of load_of fixed_of
    problem_opened = rw (e, f)

    problem_answered : (plan : List ℕ) → answer s t plan ≡ refused_text (bytes "problem") k q
    unfolding answer
    problem_answered plan = rw (e, f)

-- the line of a refused text
refused_line_lem : (v : LoadAnswer) (w : List ℕ) (k q : ℕ) (c : Check) (line : List ℕ) → 64 ≤ length line → line_of v line ≡ writing_line (refusal_line w k q 0) line
    → (line_of v line).1 ≡ sets line 0 (refusal_line w k q 0)
refused_line_lem v w k q c line h e = ap (λ x. x.1) e ∙ rw (le-ltb (length line) 64 h) refl

module _ (s t : List ℕ) (k q : ℕ) (ps : List (List ℕ)) (line : List ℕ) (h : 64 ≤ length line) where
  domain_line : read_domain s ≡ refused k q → asked_line_lem (open_of s t).answer (session_of s t ps) line ≡ sets line 0 (answer s t (joined ps)).line
  unfolding line_of
  domain_line e =
      ap (λ (o : LoadReply). asked_line_lem o.answer (C.finish_of (feeds_of o.check ps)).check line) (domain_opened s t k q e)
      ∙ refused_line_lem (Is.Domain k q) (bytes "domain") k q (session_of s t ps) line h refl
      ∙ ap (λ (a : Answered). sets line 0 a.line) (sym (domain_answered s t k q (joined ps) e))

  problem_line : (d : Domain) (m : ℕ) → read_domain s ≡ got d m → read_problem t d ≡ refused k q
      → asked_line_lem (open_of s t).answer (session_of s t ps) line ≡ sets line 0 (answer s t (joined ps)).line
  unfolding line_of
  problem_line d m e f =
      ap (λ (o : LoadReply). asked_line_lem o.answer (C.finish_of (feeds_of o.check ps)).check line) (problem_opened s t k q d m e f)
      ∙ refused_line_lem (Is.Problem k q) (bytes "problem") k q (session_of s t ps) line h refl
      ∙ ap (λ (a : Answered). sets line 0 a.line) (sym (problem_answered s t k q d m e f (joined ps)))

-- the line
pub whole_line : (s t : List ℕ) (ps : List (List ℕ)) (line : List ℕ) → 64 ≤ length line
    → asked_line_lem (open_of s t).answer (session_of s t ps) line ≡ sets line 0 (answer s t (joined ps)).line
whole_line s t ps line h = by (read_domain s) refl
  where
    behind : (d : Domain) (m : ℕ) → read_domain s ≡ got d m → (x : Read Problem) → read_problem t d ≡ x
        → asked_line_lem (open_of s t).answer (session_of s t ps) line ≡ sets line 0 (answer s t (joined ps)).line
    behind d m e (got p n) f = read_line s t d p m n e f ps line h
    behind d m e (refused k q) f = problem_line s t k q ps line h d m e f

    by : (x : Read Domain) → read_domain s ≡ x → asked_line_lem (open_of s t).answer (session_of s t ps) line ≡ sets line 0 (answer s t (joined ps)).line
    by (got d m) e = behind d m e (read_problem t d) refl
    by (refused k q) e = domain_line s t k q ps line h e

pub whole_line_first : (s t : List ℕ) (ps : List (List ℕ)) (line : List ℕ) → 64 ≤ length line
    → asked_line_lem (open_of s t).answer (session_of s t ps) line
    ≡ (answer s t (joined ps)).line ++ drop (length (answer s t (joined ps)).line) line
whole_line_first s t ps line h =
    whole_line s t ps line h
    ∙ sets_first (answer s t (joined ps)).line line (omega (arith, answer_short s t (joined ps)))

-- ---- the check after finish, and what it answers

module _ (s t : List ℕ) (d : Domain) (p : Problem) (m n : ℕ) (e : read_domain s ≡ got d m) (f : read_problem t d ≡ got p n) (ps : List (List ℕ)) where
  abbrev check : Check
  check = L.loaded s t d p m n e f

  abbrev fact_count : ℕ
  fact_count = sum_of (length p.objects) d.predicates

  abbrev number_count : ℕ
  number_count = sum_of (length p.objects) d.functions

  pub ended_session : session_of s t ps ≡ C.ended check (means s t d p m n e f ps)
  ended_session = ap (λ (o : LoadReply). (C.finish_of (feeds_of o.check ps)).check) (opened s t d p m n e f ps) ∙ finished s t d p m n e f ps

  pub answered : answer s t (joined ps) ≡ of_plan fact_count number_count (means s t d p m n e f ps)
  unfolding answer plan_answer
  answered = rw (e, f)

-- the one fixed check of a refused load isn't well formed
pub fixed_unformed : (v : LoadAnswer) → well_formed (check_for (fixed_of v) 0) ≡ false
unfolding formed counters_fit
fixed_unformed v = refl
