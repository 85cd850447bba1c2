-- Which answers each call can give, and which refusal comes first: "Of 19 to 23 the order is 19, 21, 22, 23, 20, a standing plan refusal after 21".
-- RULES 13.
use Rattle.std.specs.Prelude.{ℕ, ◌≤◌, Bool, true, false, cond, not, List, [], ◌∷◌, ◌≡◌, eqb, ltb, length, drop}
use Rattle.std.proofs.Math.Option.{Option, some, none}
use Rattle.domain_meaning.specs.Read.{Read, got, refused}
use Rattle.domain_meaning.specs.Domain.{Domain, read_domain}
use Rattle.domain_meaning.specs.Problem.{Problem, read_problem}
use Rattle.plan_meaning.specs.Lines.{Refused}
use Rattle.text_words.specs.Bytes.{is_one_of}
use Rattle.check_meaning.specs.Listed.{listed_in_domain, listed_in_problem, listed_in_plan}
use Rattle.domain_load.specs.declared.LoadAnswer.{LoadAnswer}
use Rattle.domain_load.specs.declared.LoadAnswer.TheVariants as Is
use Rattle.check_calls.specs.declared.Answer.{Answer}
use Rattle.check_calls.specs.declared.Answer.TheVariants as A
use Rattle.check_calls.specs.Numbers.{number_of, load_number, load_place, on_refused}
use Rattle.check_demand_laws.specs.Calling.{Calls, Call, feed, finish, result, facts, numbers, Lent, nothing, bytes, amounts}

-- ---- load: "The domain's refusals come before the problem's"

abbrev pub of_problem : Read Problem → LoadAnswer
of_problem (got p n) = Is.Loaded
of_problem (refused k q) = Is.Problem k q

abbrev pub of_domain : Read Domain → List ℕ → LoadAnswer
of_domain (got d n) problem = of_problem (read_problem problem d)
of_domain (refused k q) problem = Is.Domain k q

abbrev pub load_answer : List ℕ → List ℕ → LoadAnswer
load_answer domain problem = of_domain (read_domain domain) problem

-- which text an answer is about: none, the domain, the problem
abbrev pub on_text : {X : Type 0} → LoadAnswer → X → X → X → X
on_text Is.Loaded x y z = x
on_text (Is.Domain k p) x y z = y
on_text (Is.Problem k p) x y z = z

abbrev pub is_loaded : LoadAnswer → Bool
is_loaded v = on_text v true false false

-- texts of so many bytes: 0 where none is refused
abbrev pub listed_load : ℕ → ℕ → LoadAnswer → Bool
listed_load domain problem v = on_text v (λ k p. eqb k 0) (listed_in_domain domain) (listed_in_problem problem) (load_number v) (load_place v)

-- ---- the calls on a check

-- a plan refusal of the table, or one of these numbers
abbrev pub listed_plan_answer : Answer → Bool
listed_plan_answer a = on_refused a listed_in_plan (is_one_of (number_of a) (0 ∷ 19 ∷ 21 ∷ []))

-- no plan refusal, and one of these numbers
abbrev pub listed_asked : List ℕ → Answer → Bool
listed_asked ks a = on_refused a (λ k l c. false) (is_one_of (number_of a) ks)

abbrev pub listed_answer : Call → Answer → Bool
listed_answer (feed part) a = listed_plan_answer a
listed_answer finish a = listed_plan_answer a
listed_answer (result out) a = listed_asked (0 ∷ 19 ∷ 20 ∷ 22 ∷ []) a
listed_answer (facts out) a = listed_asked (0 ∷ 19 ∷ 20 ∷ 22 ∷ 23 ∷ []) a
listed_answer (numbers out) a = listed_asked (0 ∷ 19 ∷ 20 ∷ 22 ∷ 23 ∷ []) a

-- the first refusal whose rule applies, or what is answered where none does
abbrev pub ranked : List (Bool × Answer) → Answer → Answer
ranked [] a = a
ranked (r ∷ rs) a = cond r.0 r.1 (ranked rs a)

-- a plan refusal, or that all is done
abbrev pub reply : Option Refused → Answer
reply none = A.Done 0
reply (some e) = A.Refused e.number e.line e.column

abbrev pub is_some : Option Refused → Bool
is_some none = false
is_some (some e) = true

module _ {C : Type 0} (K : Calls C) where
  -- "19 check handed in isn't well formed", "20 lent output too short", "21 fed or finished after finish", "22 result asked before finish",
  -- "23 facts or numbers asked after a plan refusal"; "20 is for under 64 bytes for a line, or fewer places than facts or numbers"
  abbrev pub rules : C → Call → List (Bool × Answer)
  rules c (feed part) = (not (K.formed c), A.Unformed) ∷ (K.finished c, A.Late) ∷ []
  rules c finish = (not (K.formed c), A.Unformed) ∷ (K.finished c, A.Late) ∷ []
  rules c (result out) = (not (K.formed c), A.Unformed) ∷ (not (K.finished c), A.Early) ∷ (ltb (length out) 64, A.Short) ∷ []
  rules c (facts out) =
      (not (K.formed c), A.Unformed) ∷ (not (K.finished c), A.Early)
      ∷ (is_some (K.standing c), A.Stateless) ∷ (ltb (length out) (K.sizes c).0, A.Short) ∷ []
  rules c (numbers out) =
      (not (K.formed c), A.Unformed) ∷ (not (K.finished c), A.Early)
      ∷ (is_some (K.standing c), A.Stateless) ∷ (ltb (length out) (K.sizes c).1, A.Short) ∷ []

  -- where none of them applies: "A plan refusal stays: feeding and finishing give it again"; asking is done
  abbrev pub otherwise : C → Call → Answer
  otherwise c (feed part) = reply (K.standing (K.feed c part).0)
  otherwise c finish = reply (K.standing (K.finish c).0)
  otherwise c (result out) = A.Done 0
  otherwise c (facts out) = A.Done 0
  otherwise c (numbers out) = A.Done 0

-- the line of a refused load: a load that is not refused has no line yet
abbrev pub line_rules : LoadAnswer → List ℕ → List (Bool × Answer)
line_rules v out = (is_loaded v, A.Early) ∷ (ltb (length out) 64, A.Short) ∷ []

-- whether a check is finished after a call on it
abbrev pub finished_by : Call → Bool → Bool
finished_by (feed part) b = b
finished_by finish b = true
finished_by (result out) b = b
finished_by (facts out) b = b
finished_by (numbers out) b = b

-- ---- what is lent

-- the first n places of an output may be written: "What isn't written stays."
abbrev pub Written : ℕ → Lent → Lent → Type 0
Written n nothing after = (n ≡ 0) × (after ≡ nothing)
Written n (bytes out) (bytes now') = (n ≤ length out) × (length now' ≡ length out) × (drop n now' ≡ drop n out)
Written n (bytes out) nothing = ⊥
Written n (bytes out) (amounts now') = ⊥
Written n (amounts out) (amounts now') = (n ≤ length out) × (length now' ≡ length out) × (drop n now' ≡ drop n out)
Written n (amounts out) nothing = ⊥
Written n (amounts out) (bytes now') = ⊥
