-- Demand 1: each call ends with a listed answer, a refusal comes when its rule says, and it changes nothing that was lent. Assumes nothing.
use Prim.Native.Nat.{ℕ}
use mathlib.Core.Bool.{Bool, true, false, cond, not}
use mathlib.Core.List.{List, [], ◌∷◌, map}
use mathlib.Core.Option.{some, none}
use mathlib.Core.Path.{◌≡◌, refl, sym, ap, ◌∙◌}
use native.Mathlib.Omega.{arith}
use lib.Dec.{ltb}
use lib.IntN.{ℤ}
use lib.ListN.{length, take}
use lib.Seq.{sets}
use Rattle.base_laws.proofs.Splits.{either}
use Rattle.domain_meaning.specs.Read.{Read, got, refused}
use Rattle.domain_meaning.specs.Domain.{Domain, read_domain}
use Rattle.domain_meaning.specs.Problem.{Problem, read_problem}
use Rattle.happening_meaning.specs.State.{State}
use Rattle.happening_meaning.specs.declared.Outcome as Why
use Rattle.plan_meaning.specs.Plan.{Result}
use Rattle.plan_meaning.specs.Plan as P
use Rattle.plan_meaning.specs.Feed.{close}
use Rattle.plan_meaning.specs.Lines.{Refused, reader, limits}
use Rattle.text_words.specs.Bytes.{bytes}
use Rattle.check_wording.specs.Wording.{refusal_line}
use Rattle.check_meaning.specs.Answer.{bit, shown}
use Rattle.domain_load.specs.declared.LoadAnswer.{LoadAnswer}
use Rattle.domain_load.specs.declared.LoadAnswer.TheVariants as Is
use Rattle.plan_feeding.specs.declared.PlanProgress.{PlanProgress}
use Rattle.check_calls.specs.Calls as C
use Rattle.check_calls.specs.Calls.{well_formed, rules_on, known_on, held_by, standing, feed_of, finish_of, result_of, facts_of, numbers_of, open_of}
use Rattle.check_calls.specs.Numbers.{number_of, place_of}
use Rattle.check_calls.specs.declared.Check.{Check}
use Rattle.check_calls.specs.declared.Reply.{Reply}
use Rattle.check_calls.specs.declared.Answer.{Answer}
use Rattle.check_calls.specs.declared.Answer.TheVariants as A
use Rattle.check_demand_laws.specs.Calling.{Call, feed, finish, result, facts, numbers, lent, make}
use Rattle.check_demand_laws.specs.Calling as Lent
use Rattle.check_demand_laws.specs.Ruling.{load_answer, ranked, reply, is_some, rules, otherwise, line_rules, finished_by}
use Rattle.check_demand_laws.specs.Ours.{refusal_in, ours}
use Rattle.check_demand_laws.specs.Demands.{Same, Opens}
use Rattle.check_demand_laws.proofs.Whole.{opened, domain_opened, problem_opened, fixed_unformed}
use Rattle.check_demand_laws.proofs.Loaded.{loaded_open}
use Rattle.check_demand_laws.proofs.Kept.{feed_keeps, finish_keeps, result_asked, facts_asked, numbers_asked, fixed_one}
use Rattle.check_demand_laws.proofs.Replies.{open_is, feed_unfinished}

-- ---- load: the grammar decides

pub load_ruled : (s t : List ℕ) → (open_of s t).answer ≡ load_answer s t
load_ruled s t = by (read_domain s) refl
  where
    behind : (d : Domain) (m : ℕ) → read_domain s ≡ got d m → (x : Read Problem) → read_problem t d ≡ x → (open_of s t).answer ≡ load_answer s t
    behind d m e (got p n) f = rw (opened s t d p m n e f [], e, f)
    behind d m e (refused k q) f = rw (problem_opened s t k q d m e f, e, f)

    by : (x : Read Domain) → read_domain s ≡ x → (open_of s t).answer ≡ load_answer s t
    by (got d m) e = behind d m e (read_problem t d) refl
    by (refused k q) e = rw (domain_opened s t k q e, e)

-- ---- the rules of the calls

same : {a b : Answer} → a ≡ b → Same a b
same e = (ap number_of e, ap place_of e)

abbrev stands_in : PlanProgress → Refused
stands_in p = record { number = p.refusal; line = p.at; column = p.column }

stands : (p : PlanProgress) → standing p ≡ reply (refusal_in p)
stands p = go p.refused
  where
    go : (b : Bool) → cond b (A.Refused p.refusal p.at p.column) (A.Done 0)
        ≡ reply (cond b (some (stands_in p)) none)
    go true = refl
    go false = refl

-- an answer that stands in the check that is handed back
while_open_lem : (c : Check) (next : Check) → (C.while_open c (C.answering next)).answer
    ≡ ranked ((not (well_formed c), A.Unformed) ∷ (c.finished, A.Late) ∷ []) (reply (refusal_in (C.while_open c (C.answering next)).check.progress))
while_open_lem c next = go (well_formed c) c.finished
  where
    go : (b f : Bool) → (cond b (cond f (C.fed c A.Late) (C.answering next)) (C.fed c A.Unformed)).answer
        ≡ cond (not b) A.Unformed (cond f A.Late (reply (refusal_in
        (cond b (cond f (C.fed c A.Late) (C.answering next)) (C.fed c A.Unformed)).check.progress)))
    go false f = refl
    go true true = refl
    go true false = stands next.progress

pub feed_ruled : (c : Check) (p : List ℕ) → (feed_of c p).answer ≡ ranked (rules ours c (feed p)) (otherwise ours c (feed p))
unfolding feed_of
feed_ruled c p = go c.progress.refused _ _
  where
    go : (b : Bool) (x y : Check) → (C.while_open c (cond b (C.answering x) (C.answering y))).answer
        ≡ ranked (rules ours c (feed p)) (reply (refusal_in (C.while_open c (cond b (C.answering x) (C.answering y))).check.progress))
    go true x y = while_open_lem c x
    go false x y = while_open_lem c y

pub finish_ruled : (c : Check) → (finish_of c).answer ≡ ranked (rules ours c finish) (otherwise ours c finish)
unfolding finish_of
finish_ruled c = go c.progress.refused _ _
  where
    go : (b : Bool) (x y : Check) → (C.while_open c (cond b (C.answering x) (C.answering y))).answer
        ≡ ranked (rules ours c finish) (reply (refusal_in (C.while_open c (cond b (C.answering x) (C.answering y))).check.progress))
    go true x y = while_open_lem c x
    go false x y = while_open_lem c y

-- asking with a lent output
module _ {X : Type 0} (c : Check) (out : List X) where
  done_ruled : (next : Reply × List X) (rs : List (Bool × Answer)) → Same next.0.answer (ranked rs (A.Done 0))
      → Same (C.when_done c out next).0.answer (ranked ((not (well_formed c), A.Unformed) ∷ (not c.finished, A.Early) ∷ rs) (A.Done 0))
  done_ruled next rs h = go (well_formed c) c.finished
    where
      go : (b f : Bool) → Same (cond {A = Reply × List X} b (cond f next (C.fed c A.Early, out)) (C.fed c A.Unformed, out)).0.answer
          (cond (not b) A.Unformed (cond (not f) A.Early (ranked rs (A.Done 0))))
      go false f = (refl, refl)
      go true false = (refl, refl)
      go true true = h

  written_ruled : (least : ℕ) (w : List X) → Same (C.writing c out least w).0.answer (ranked ((ltb (length out) least, A.Short) ∷ []) (A.Done 0))
  written_ruled least w = go (ltb (length out) least)
    where
      go : (b : Bool) → Same (cond {A = Reply × List X} b (C.fed c A.Short, out) (C.fed c (A.Done (length w)), sets out 0 w)).0.answer
          (cond b A.Short (A.Done 0))
      go true = (refl, refl)
      go false = (refl, refl)

  stated_ruled : (next : Reply × List X) (rs : List (Bool × Answer)) → Same next.0.answer (ranked rs (A.Done 0))
      → Same (C.unless_refused c out next).0.answer (ranked ((is_some (refusal_in c.progress), A.Stateless) ∷ rs) (A.Done 0))
  stated_ruled next rs h = go c.progress.refused
    where
      go : (b : Bool) → Same (cond {A = Reply × List X} b (C.fed c A.Stateless, out) next).0.answer
          (cond (is_some (cond b (some (stands_in c.progress)) none)) A.Stateless (ranked rs (A.Done 0)))
      go true = (refl, refl)
      go false = h

  state_ruled : (least : ℕ) (w : List X) → Same (C.when_done c out (C.unless_refused c out (C.writing c out least w))).0.answer
      (ranked ((not (well_formed c), A.Unformed) ∷ (not c.finished, A.Early) ∷ (is_some (refusal_in c.progress), A.Stateless)
      ∷ (ltb (length out) least, A.Short) ∷ []) (A.Done 0))
  state_ruled least w =
      done_ruled (C.unless_refused c out (C.writing c out least w)) ((is_some (refusal_in c.progress), A.Stateless) ∷ (ltb (length out) least, A.Short) ∷ [])
      (stated_ruled (C.writing c out least w) ((ltb (length out) least, A.Short) ∷ []) (written_ruled least w))

pub ruled : (c : Check) (x : Call) → Same (make ours c x).answer (ranked (rules ours c x) (otherwise ours c x))
unfolding result_of facts_of numbers_of
ruled c (feed p) = same (feed_ruled c p)
ruled c finish = same (finish_ruled c)
ruled c (result out) = done_ruled c out (C.writing c out 64 w) ((ltb (length out) 64, A.Short) ∷ []) (written_ruled c out 64 w)
  where
    w : List ℕ
    w = C.line_in c.progress
ruled c (facts out) = state_ruled c out c.model.sizes.facts (map bit (take c.model.sizes.facts c.facts))
ruled c (numbers out) = state_ruled c out c.model.sizes.numbers (map shown (take c.model.sizes.numbers c.numbers))

-- the line of a refused load
module _ (w out : List ℕ) where
  refused_ruled : Same (C.writing_line w out).0 (ranked ((ltb (length out) 64, A.Short) ∷ []) (A.Done 0))
  refused_ruled = go (ltb (length out) 64)
    where
      go : (b : Bool) → Same (cond {A = Answer × List ℕ} b (A.Short, out) (A.Done (length w), sets out 0 w)).0 (cond b A.Short (A.Done 0))
      go true = (refl, refl)
      go false = (refl, refl)

pub line_ruled : (v : LoadAnswer) (out : List ℕ) → Same (C.line_of v out).0 (ranked (line_rules v out) (A.Done 0))
unfolding C.line_of
line_ruled Is.Loaded out = (refl, refl)
line_ruled (Is.Domain k p) out = refused_ruled (refusal_line (bytes "domain") k p 0) out
line_ruled (Is.Problem k p) out = refused_ruled (refusal_line (bytes "problem") k p 0) out

-- ---- a refusal changes nothing that was lent

abbrev Refuses : Answer → Type 0
Refuses a = ¬ (number_of a ≡ 0)

module _ {X : Type 0} (c : Check) (out : List X) where
  abbrev Stays : Reply × List X → Type 0
  Stays r = Refuses r.0.answer → r.1 ≡ out

  done_stays : (next : Reply × List X) → Stays next → Stays (C.when_done c out next)
  done_stays next h = either Stays (well_formed c) (either Stays c.finished h (λ n. refl)) (λ n. refl)

  written_stays : (least : ℕ) (w : List X) → Stays (C.writing c out least w)
  written_stays least w = either Stays (ltb (length out) least) (λ n. refl) (λ n. absurd (n refl))

  stated_stays : (next : Reply × List X) → Stays next → Stays (C.unless_refused c out next)
  stated_stays next h = either Stays c.progress.refused (λ n. refl) h

pub output_kept : (c : Check) (x : Call) → Refuses (make ours c x).answer → (make ours c x).output ≡ lent x
unfolding result_of facts_of numbers_of
output_kept c (feed p) n = refl
output_kept c finish n = refl
output_kept c (result out) n = ap (λ o. Lent.bytes o) (done_stays c out (C.writing c out 64 w) (written_stays c out 64 w) n)
  where
    w : List ℕ
    w = C.line_in c.progress
output_kept c (facts out) n = ap (λ o. Lent.bytes o) (done_stays c out (C.unless_refused c out (C.writing c out k w))
    (stated_stays c out (C.writing c out k w) (written_stays c out k w)) n)
  where
    k : ℕ
    k = c.model.sizes.facts

    w : List ℕ
    w = map bit (take c.model.sizes.facts c.facts)
output_kept c (numbers out) n = ap (λ o. Lent.amounts o) (done_stays c out (C.unless_refused c out (C.writing c out k w))
    (stated_stays c out (C.writing c out k w) (written_stays c out k w)) n)
  where
    k : ℕ
    k = c.model.sizes.numbers

    w : List ℤ
    w = map shown (take c.model.sizes.numbers c.numbers)

pub line_kept : (v : LoadAnswer) (out : List ℕ) → Refuses (C.line_of v out).0 → (C.line_of v out).1 ≡ out
unfolding C.line_of
line_kept Is.Loaded out n = refl
line_kept (Is.Domain k p) out n = either (λ (r : Answer × List ℕ). Refuses r.0 → r.1 ≡ out) (ltb (length out) 64) (λ m. refl) (λ m. absurd (m refl)) n
line_kept (Is.Problem k p) out n = either (λ (r : Answer × List ℕ). Refuses r.0 → r.1 ≡ out) (ltb (length out) 64) (λ m. refl) (λ m. absurd (m refl)) n

-- ---- what a call does to the check

pub refusal_stays : (c : Check) (p : List ℕ) (e : Refused) → refusal_in c.progress ≡ some e → (feed_of c p).check ≡ c
unfolding feed_of
refusal_stays c p e h = go (well_formed c) c.finished c.progress.refused _ h
  where
    go : (b f r : Bool) (y : Reply) → cond r (some (stands_in c.progress)) none ≡ some e
        → (cond b (cond f (C.fed c A.Late) (cond r (C.answering c) y)) (C.fed c A.Unformed)).check ≡ c
    go false f r y h = refl
    go true true r y h = refl
    go true false true y h = refl
    go true false false y h = absurd (let z : ◌≡◌ {A = ℕ} 0 1 = cc in let y : ⊥ = omega arith in y)

late_same : (c : Check) (next : Reply) → c.finished ≡ true → (C.while_open c next).check.finished ≡ true
late_same c next e = go (well_formed c)
  where
    go : (b : Bool) → (cond b (cond c.finished (C.fed c A.Late) next) (C.fed c A.Unformed)).check.finished ≡ true
    go false = e
    go true = ap (λ f. (cond f (C.fed c A.Late) next).check.finished) e ∙ e

ended_finished : (c : Check) (x : Result State Why.Outcome Refused) → (C.ended c x).finished ≡ true
unfolding C.ended
ended_finished c (P.refused e) = refl
ended_finished c (P.ended e) = refl

finish_finished : (c : Check) → well_formed c ≡ true → (finish_of c).check.finished ≡ true
unfolding finish_of
finish_finished c f = go c.finished refl c.progress.refused
  where
    next : Bool → Reply
    next r = cond r (C.answering (C.with_finish c)) (C.answering (C.ended c (close (rules_on c) limits (reader (known_on c)) (held_by c))))

    finished : (r : Bool) → (next r).check.finished ≡ true
    finished true = refl
    finished false = ended_finished c (close (rules_on c) limits (reader (known_on c)) (held_by c))

    go : (b : Bool) → c.finished ≡ b → (r : Bool) → (C.while_open c (next r)).check.finished ≡ true
    go true e r = late_same c (next r) e
    go false e r = ap (λ (x : Reply). x.check.finished) (open_is c (next r) f e) ∙ finished r

feed_late : (c : Check) (p : List ℕ) → c.finished ≡ true → (feed_of c p).check.finished ≡ true
unfolding feed_of
feed_late c p e = late_same c _ e

feed_finished : (c : Check) (p : List ℕ) → well_formed c ≡ true → (feed_of c p).check.finished ≡ c.finished
feed_finished c p f = go c.finished refl
  where
    go : (b : Bool) → c.finished ≡ b → (feed_of c p).check.finished ≡ c.finished
    go true e = feed_late c p e ∙ sym e
    go false e = feed_unfinished c p f e ∙ sym e

pub finishes : (c : Check) (x : Call) → well_formed c ≡ true → (make ours c x).check.finished ≡ finished_by x c.finished
finishes c (feed p) f = feed_finished c p f
finishes c finish f = finish_finished c f
finishes c (result out) f = ap (λ (x : Check). x.finished) (result_asked c out).0
finishes c (facts out) f = ap (λ (x : Check). x.finished) (facts_asked c out).0
finishes c (numbers out) f = ap (λ (x : Check). x.finished) (numbers_asked c out).0

pub keeps : (c : Check) (x : Call) → well_formed c ≡ true → well_formed (make ours c x).check ≡ true
keeps c (feed p) f = feed_keeps c f p
keeps c finish f = finish_keeps c f
keeps c (result out) f = ap (λ x. well_formed x) (result_asked c out).0 ∙ f
keeps c (facts out) f = ap (λ x. well_formed x) (facts_asked c out).0 ∙ f
keeps c (numbers out) f = ap (λ x. well_formed x) (numbers_asked c out).0 ∙ f

-- ---- load

pub opens : (s t : List ℕ) → Opens ours (open_of s t).answer (open_of s t).check
opens s t = by (read_domain s) refl
  where
    behind : (d : Domain) (m : ℕ) → read_domain s ≡ got d m → (x : Read Problem) → read_problem t d ≡ x → Opens ours (open_of s t).answer (open_of s t).check
    behind d m e (got p n) f = rw (opened s t d p m n e f []) ((loaded_open s t d p m n e f).formed, refl, refl)
    behind d m e (refused k q) f = rw (problem_opened s t k q d m e f) (fixed_unformed (Is.Problem k q), fixed_one (Is.Problem k q))

    by : (x : Read Domain) → read_domain s ≡ x → Opens ours (open_of s t).answer (open_of s t).check
    by (got d m) e = behind d m e (read_problem t d) refl
    by (refused k q) e = rw (domain_opened s t k q e) (fixed_unformed (Is.Domain k q), fixed_one (Is.Domain k q))
