-- The three demands, of the calls of `check_calls`. Assumes nothing.
use Prim.Native.Nat.{ℕ, ◌+◌, ◌≤◌}
use mathlib.Core.Bool.{Bool, true, false}
use mathlib.Core.List.{List, [], ◌∷◌, ◌++◌, map}
use mathlib.Core.Path.{◌≡◌, refl, ap, ◌∙◌}
use native.Mathlib.Omega.{arith}
use native.Mathlib.Decide.{dec_le}
use borrow.Author.Tests.{eqb-true, eqb-false, ltb-false, lt-ltb, le-leb}
use lib.Dec.{eqb, ltb}
use lib.ListN.{length, take, drop}
use lib.Seq.{sets, sets-eq, take_at}
use Rattle.base_laws.proofs.Splits.{choose, either}
use Rattle.domain_meaning.specs.Read.{Read, got, refused}
use Rattle.domain_meaning.specs.Domain.{Domain, read_domain}
use Rattle.domain_meaning.specs.Problem.{Problem, read_problem}
use Rattle.domain_refusal_laws.specs.Listed.{Listed}
use Rattle.domain_refusal_laws.proofs.SoundTexts.{listed_in_domain_lem, listed_in_problem_lem}
use Rattle.domain_refusal_laws.proofs.Lowest.{lowest_in_domain, lowest_in_problem}
use Rattle.check_meaning.specs.Answer.{bit, shown}
use Rattle.check_meaning.specs.Listed.{listed_in_text}
use Rattle.check_calls.specs.Calls as C
use Rattle.check_calls.specs.Calls.{well_formed, feed_of, finish_of, result_of, facts_of, numbers_of, open_of}
use Rattle.check_calls.specs.declared.Check.{Check}
use Rattle.check_calls.specs.declared.Reply.{Reply}
use Rattle.check_calls.specs.declared.Answer.{Answer}
use Rattle.check_calls.specs.declared.Answer.TheVariants as A
use Rattle.check_demand_laws.specs.Calling.{Call, feed, finish, result, facts, numbers, make}
use Rattle.check_demand_laws.specs.Ruling.{load_answer, listed_load, listed_plan_answer, listed_asked, listed_answer}
use Rattle.check_demand_laws.specs.Ours.{ours}
use Rattle.check_demand_laws.specs.Demands.{Demand1}
use Rattle.check_demand_laws.proofs.Listed.{Taken, feed_listed, finish_listed, line_short, line_ends_lem}
use Rattle.check_demand_laws.proofs.First.{load_ruled, ruled, line_ruled, output_kept, line_kept, refusal_stays, finishes, opens, keeps}
use Rattle.check_demand_laws.proofs.Writing.{refuses, output_written, check_kept}
pub use Rattle.check_demand_laws.proofs.Second.{demand_2}
pub use Rattle.check_demand_laws.proofs.Third.{demand_3}

-- ---- load answers what is listed

two : {k : ℕ} → 1 ≤ k → ¬ (k ≡ 1) → 2 ≤ k
two {k} h n = elim (dec_le 2 k) [
  | yes i ↦ i
  | no i ↦ absurd (n (omega arith))
]

text_listed : (most size k p : ℕ) → Listed most size k p → listed_in_text most size k p ≡ true
unfolding listed_in_text
text_listed most size k p h = go (eqb k 1) refl
  where
    go : (b : Bool) → eqb k 1 ≡ b → listed_in_text most size k p ≡ true
    go true e =
        let l = h.long (eqb-true k 1 e) in
        rw (e, l.0, lt-ltb 32768 size l.1)
    go false e =
        rw (e, le-leb 2 k (two h.least (eqb-false k 1 e)), le-leb k most h.highest, le-leb p size h.inside, le-leb p 32768 h.low)

load_listed : (s t : List ℕ) → listed_load (length s) (length t) (open_of s t).answer ≡ true
load_listed s t = rw (load_ruled s t) (by (read_domain s) refl)
  where
    reads : (d : Domain) (m : ℕ) → read_domain s ≡ got d m → (x : Read Problem) → read_problem t d ≡ x → listed_load (length s) (length t) (load_answer s t) ≡ true
    reads d m e (got p n) f = rw (e, f)
    reads d m e (refused k q) f = rw (e, f) (text_listed 13 (length t) k q (listed_in_problem_lem t d k q f))

    by : (x : Read Domain) → read_domain s ≡ x → listed_load (length s) (length t) (load_answer s t) ≡ true
    by (got d m) e = reads d m e (read_problem t d) refl
    by (refused k q) e = rw e (text_listed 12 (length s) k q (listed_in_domain_lem s k q e))

-- ---- and so does each call on a check

taken_listed : (a : Answer) → Taken a → listed_plan_answer a ≡ true
taken_listed (A.Done n) t = refl
taken_listed (A.Refused k l c) t = t
taken_listed A.Unformed t = refl
taken_listed A.Short t = absurd t
taken_listed A.Late t = refl
taken_listed A.Early t = absurd t
taken_listed A.Stateless t = absurd t

module _ {X : Type 0} (c : Check) (out : List X) (least : ℕ) (w : List X) where
  abbrev Among : List ℕ → Reply × List X → Type 0
  Among ks r = listed_asked ks r.0.answer ≡ true

  asked_listed : Among (0 ∷ 19 ∷ 20 ∷ 22 ∷ []) (C.when_done c out (C.writing c out least w))
  asked_listed =
      let P = Among (0 ∷ 19 ∷ 20 ∷ 22 ∷ []) in
      either P (well_formed c) (either P c.finished (either P (ltb (length out) least) refl refl) refl) refl

  state_listed : Among (0 ∷ 19 ∷ 20 ∷ 22 ∷ 23 ∷ []) (C.when_done c out (C.unless_refused c out (C.writing c out least w)))
  state_listed =
      let P = Among (0 ∷ 19 ∷ 20 ∷ 22 ∷ 23 ∷ []) in
      either P (well_formed c) (either P c.finished (either P c.progress.refused refl (either P (ltb (length out) least) refl refl)) refl) refl

listed : (c : Check) (x : Call) → listed_answer x (make ours c x).answer ≡ true
unfolding result_of facts_of numbers_of
listed c (feed p) = taken_listed (feed_of c p).answer (feed_listed c p)
listed c finish = taken_listed (finish_of c).answer (finish_listed c)
listed c (result out) = asked_listed c out 64 (C.line_in c.progress)
listed c (facts out) = state_listed c out c.model.sizes.facts (map bit (take c.model.sizes.facts c.facts))
listed c (numbers out) = state_listed c out c.model.sizes.numbers (map shown (take c.model.sizes.numbers c.numbers))

-- ---- the line that is written is whole

abbrev Whole : Reply × List ℕ → Type 0
Whole r = (n : ℕ) → r.0.answer ≡ A.Done n → (n ≤ 64) × (w : List ℕ) × (take n r.1 ≡ w ++ 10 ∷ [])

line_whole : (c : Check) (out : List ℕ) → Whole (result_of c out)
unfolding result_of
line_whole c out =
    choose Whole (well_formed c)
    (λ f. choose Whole c.finished
    (λ _. choose Whole (ltb (length out) 64) (λ _ n d. refuses n (λ z. let y : ⊥ = omega arith in y) d) (λ l. written f (ltb-false (length out) 64 l)))
    (λ _ n d. refuses n (λ z. let y : ⊥ = omega arith in y) d))
    (λ _ n d. refuses n (λ z. let y : ⊥ = omega arith in y) d)
  where
    line : List ℕ
    line = C.line_in c.progress

    written : well_formed c ≡ true → 64 ≤ length out → Whole (C.fed c (A.Done (length line)), sets out 0 line)
    written f l n d =
        let k : length line ≡ n = cc in
        let h = line_short c f in
        let e = line_ends_lem c.progress in
        (omega (arith, h, k), e.0, ap (λ o. take n o) (sets-eq line out 0 (omega (arith, h, l))) ∙ take_at line (drop (0 + length line) out) n k ∙ e.1)

pub demand_1 : Demand1 ours
demand_1 =
    record {
      load_listed = load_listed;
      listed = listed;
      load_ruled = load_ruled;
      lowest = (lowest_in_domain, lowest_in_problem);
      ruled = ruled;
      line_ruled = line_ruled;
      output_kept = output_kept;
      line_kept = line_kept;
      output_written = output_written;
      line_whole = line_whole;
      check_kept = check_kept;
      refusal_stays = refusal_stays;
      finishes = finishes;
      opens = opens;
      keeps = keeps;
    }
