-- Demand 3: whatever the parts, everything answered is what the definition gives for the whole plan at once. Assumes nothing.
use Prim.Native.Nat.{ℕ, ◌≤◌}
use mathlib.Core.Bool.{true}
use mathlib.Core.List.{List, [], ◌∷◌, map}
use mathlib.Core.Path.{◌≡◌, refl, ap, subst, ◌∙◌}
use native.Mathlib.Omega.{arith}
use borrow.Author.Tests.{le-ltb}
use lib.IntN.{ℤ}
use lib.ListN.{length, take, length-map, length-take}
use Rattle.base_laws.proofs.Sets.{sets_first}
use Rattle.text_words.specs.Bytes.{bytes}
use Rattle.domain_meaning.specs.Read.{Read, got, refused}
use Rattle.domain_meaning.specs.Domain.{Domain, read_domain}
use Rattle.domain_meaning.specs.Problem.{Problem, read_problem}
use Rattle.domain_meaning.specs.Indexes.{sum_of}
use Rattle.happening_meaning.specs.State.{State}
use Rattle.happening_meaning.specs.declared.Outcome as Why
use Rattle.plan_meaning.specs.Plan.{going, failed, Result}
use Rattle.plan_meaning.specs.Plan as P
use Rattle.plan_meaning.specs.Feed.{joined}
use Rattle.plan_meaning.specs.Lines.{Refused}
use Rattle.check_wording.specs.Wording.{refusal_line}
use Rattle.check_meaning.specs.Answer.{bit, shown, last_state, of_plan, answer}
use Rattle.domain_load.specs.declared.LoadAnswer.{LoadAnswer}
use Rattle.domain_load.specs.declared.LoadAnswer.TheVariants as Is
use Rattle.check_calls.specs.Calls as C
use Rattle.check_calls.specs.Calls.{well_formed, feed_of, finish_of, result_of, facts_of, numbers_of, open_of, writing_line}
use Rattle.check_calls.specs.declared.Check.{Check}
use Rattle.check_calls.specs.declared.Answer.TheVariants as A
use Rattle.check_demand_laws.specs.Calling.{feeds, session, line, line_of}
use Rattle.check_demand_laws.specs.Told.{Reads}
use Rattle.check_demand_laws.specs.Ours.{ours}
use Rattle.check_demand_laws.specs.Demands.{written, Shows, Demand3}
use Rattle.check_demand_laws.proofs.Sessions.{feeds_of, session_of, asked_line_lem}
use Rattle.check_demand_laws.proofs.Keeping.{KeptResult}
use Rattle.check_demand_laws.proofs.Asking.{ended_formed}
use Rattle.check_demand_laws.proofs.Loaded as L
use Rattle.check_demand_laws.proofs.Whole.{means, means_kept, opened, domain_opened, problem_opened, ended_session, answered, whole_line_first}
use Rattle.check_demand_laws.proofs.Replies.{loaded_replies, finish_replies}

-- ---- a session in the words of the page

same_feeds : (ps : List (List ℕ)) (c : Check) → feeds ours c ps ≡ feeds_of c ps
unfolding feeds_of
same_feeds [] c = refl
same_feeds (p ∷ ps) c = same_feeds ps (feed_of c p).check

pub same_session : (s t : List ℕ) (ps : List (List ℕ)) → (session ours s t ps).0 ≡ session_of s t ps
same_session s t ps = ap (λ c. (finish_of c).check) (same_feeds ps (open_of s t).check)

same_finish : (s t : List ℕ) (ps : List (List ℕ)) → (session ours s t ps).1 ≡ (finish_of (feeds_of (open_of s t).check ps)).answer
same_finish s t ps = ap (λ c. (finish_of c).answer) (same_feeds ps (open_of s t).check)

same_line : (v : LoadAnswer) (c : Check) (out : List ℕ) → (line_of ours v c out).1 ≡ asked_line_lem v c out
same_line Is.Loaded c out = refl
same_line (Is.Domain k p) c out = refl
same_line (Is.Problem k p) c out = refl

-- ---- the line and how many bytes it has

module _ (c : Check) (f : well_formed c ≡ true) where
  line_counted : (x : Result State Why.Outcome Refused) → KeptResult x → (j k : ℕ) (out : List ℕ) → 64 ≤ length out
      → (result_of (C.ended c x) out).0.answer ≡ A.Done (length (of_plan j k x).line)
  unfolding result_of C.ended of_plan
  line_counted (P.refused e) l j k out h = rw (ended_formed c f (P.refused e) l, le-ltb (length out) 64 h)
  line_counted (P.ended (going s t)) l j k out h = rw (ended_formed c f (P.ended (going s t)) l, le-ltb (length out) 64 h)
  line_counted (P.ended (failed s t w)) l j k out h = rw (ended_formed c f (P.ended (failed s t w)) l, le-ltb (length out) 64 h)

module _ (s t : List ℕ) (ps : List (List ℕ)) (out : List ℕ) (h : 64 ≤ length out) where
  abbrev Counted : Type 0
  Counted = (line_of ours (open_of s t).answer (session_of s t ps) out).0 ≡ A.Done (length (answer s t (joined ps)).line)

  refused_counted : (w : List ℕ) → (writing_line w out).0 ≡ A.Done (length w)
  refused_counted w = rw (le-ltb (length out) 64 h)

  domain_counted : (k q : ℕ) → read_domain s ≡ refused k q → Counted
  unfolding C.line_of answer
  domain_counted k q e = rw (domain_opened s t k q e, e) (refused_counted (refusal_line (bytes "domain") k q 0))

  problem_counted : (d : Domain) (m k q : ℕ) → read_domain s ≡ got d m → read_problem t d ≡ refused k q → Counted
  unfolding C.line_of answer
  problem_counted d m k q e f = rw (problem_opened s t k q d m e f, e, f) (refused_counted (refusal_line (bytes "problem") k q 0))

  read_counted : (d : Domain) (p : Problem) (m n : ℕ) → read_domain s ≡ got d m → read_problem t d ≡ got p n → Counted
  read_counted d p m n e f =
      rw (opened s t d p m n e f ps, ended_session s t d p m n e f ps, answered s t d p m n e f ps)
      (line_counted (L.loaded s t d p m n e f) (L.loaded_open s t d p m n e f).formed (means s t d p m n e f ps) (means_kept s t d p m n e f ps)
      (sum_of (length p.objects) d.predicates) (sum_of (length p.objects) d.functions) out h)

  counted : Counted
  counted = by (read_domain s) refl
    where
      behind : (d : Domain) (m : ℕ) → read_domain s ≡ got d m → (x : Read Problem) → read_problem t d ≡ x → Counted
      behind d m e (got p n) f = read_counted d p m n e f
      behind d m e (refused k q) f = problem_counted d m k q e f

      by : (x : Read Domain) → read_domain s ≡ x → Counted
      by (got d m) e = behind d m e (read_problem t d) refl
      by (refused k q) e = domain_counted k q e

  pub whole_answer : line ours s t ps out ≡ (A.Done (length (answer s t (joined ps)).line), written (answer s t (joined ps)).line out)
  whole_answer =
      ap (λ c. line_of ours (open_of s t).answer c out) (same_session s t ps)
      ∙ (λ i. (counted i, (same_line (open_of s t).answer (session_of s t ps) out ∙ whole_line_first s t ps out h) i))

-- ---- the final facts and numbers

module _ (c : Check) (f : well_formed c ≡ true) where
  shown_facts : (x : Result State Why.Outcome Refused) → KeptResult x → (k : ℕ) (out : List ℕ) → c.model.sizes.facts ≤ length out
      → Shows ours (of_plan c.model.sizes.facts k x).final (λ y. y.facts) out (ours.facts (C.ended c x) out)
  unfolding facts_of C.ended of_plan
  shown_facts (P.refused e) l k out h = rw (ended_formed c f (P.refused e) l) refl
  shown_facts (P.ended r) l k out h =
      rw (ended_formed c f (P.ended r) l, le-ltb (length out) c.model.sizes.facts h)
      (ap (λ o. ((C.ended c (P.ended r), A.Done (length w)), o))
      (sets_first w out (omega (
        arith,
        length-map (take c.model.sizes.facts (last_state r).facts) bit,
        length-take c.model.sizes.facts (last_state r).facts,
      ))))
    where
      w : List ℕ
      w = map bit (take c.model.sizes.facts (last_state r).facts)

  shown_numbers : (x : Result State Why.Outcome Refused) → KeptResult x → (j : ℕ) (out : List ℤ) → c.model.sizes.numbers ≤ length out
      → Shows ours (of_plan j c.model.sizes.numbers x).final (λ y. y.numbers) out (ours.numbers (C.ended c x) out)
  unfolding numbers_of C.ended of_plan
  shown_numbers (P.refused e) l j out h = rw (ended_formed c f (P.refused e) l) refl
  shown_numbers (P.ended r) l j out h =
      rw (ended_formed c f (P.ended r) l, le-ltb (length out) c.model.sizes.numbers h)
      (ap (λ o. ((C.ended c (P.ended r), A.Done (length w)), o))
      (sets_first w out (omega (
        arith,
        length-map (take c.model.sizes.numbers (last_state r).numbers) shown,
        length-take c.model.sizes.numbers (last_state r).numbers,
      ))))
    where
      w : List ℤ
      w = map shown (take c.model.sizes.numbers (last_state r).numbers)

module _ (s t : List ℕ) (d : Domain) (p : Problem) (r : Reads s t d p) (ps : List (List ℕ)) where
  abbrev check : Check
  check = L.loaded s t d p r.domain_end r.problem_end r.domain_read r.problem_read

  abbrev came : Result State Why.Outcome Refused
  came = means s t d p r.domain_end r.problem_end r.domain_read r.problem_read ps

  abbrev facts : ℕ
  facts = sum_of (length p.objects) d.predicates

  abbrev numbers : ℕ
  numbers = sum_of (length p.objects) d.functions

  final_is : answer s t (joined ps) ≡ of_plan facts numbers came
  final_is = answered s t d p r.domain_end r.problem_end r.domain_read r.problem_read ps

  check_is : (session ours s t ps).0 ≡ C.ended check came
  check_is = same_session s t ps ∙ ended_session s t d p r.domain_end r.problem_end r.domain_read r.problem_read ps

  kept : KeptResult came
  kept = means_kept s t d p r.domain_end r.problem_end r.domain_read r.problem_read ps

  formed : well_formed check ≡ true
  formed = (L.loaded_open s t d p r.domain_end r.problem_end r.domain_read r.problem_read).formed

  facts_shown : (out : List ℕ) → facts ≤ length out → Shows ours (answer s t (joined ps)).final (λ y. y.facts) out (ours.facts (session ours s t ps).0 out)
  facts_shown out =
      rw (final_is, check_is)
      (subst (λ (j : ℕ). j ≤ length out → Shows ours (of_plan j numbers came).final (λ y. y.facts) out (ours.facts (C.ended check came) out))
      (L.facts_loaded s t d p r.domain_end r.problem_end r.domain_read r.problem_read)
      (shown_facts check formed came kept numbers out))

  numbers_shown : (out : List ℤ) → numbers ≤ length out → Shows ours (answer s t (joined ps)).final (λ y. y.numbers) out
      (ours.numbers (session ours s t ps).0 out)
  numbers_shown out =
      rw (final_is, check_is)
      (subst (λ (j : ℕ). j ≤ length out → Shows ours (of_plan facts j came).final (λ y. y.numbers) out (ours.numbers (C.ended check came) out))
      (L.numbers_loaded s t d p r.domain_end r.problem_end r.domain_read r.problem_read)
      (shown_numbers check formed came kept facts out))

pub demand_3 : Demand3 ours
demand_3 =
    record {
      whole_line = whole_answer;
      whole_facts = λ s t d p r ps out. facts_shown s t d p r ps out;
      whole_numbers = λ s t d p r ps out. numbers_shown s t d p r ps out;
      each_feed = λ s t d p r ps. loaded_replies s t d p r.domain_end r.problem_end r.domain_read r.problem_read ps;
      finish = λ s t d p r ps. same_finish s t ps ∙ finish_replies s t d p r.domain_end r.problem_end r.domain_read r.problem_read ps;
    }
