-- The three demands on a plan checker, of any calls: for all bytes, all checks, all orders of calls, all ways to cut a plan.
use Rattle.std.specs.Prelude.{ℕ, ◌≤◌, true, false, List, [], ◌∷◌, ◌++◌, ◌↔◌, ◌⊎◌, ◌≡◌, ℤ, length, take, drop}
use Rattle.std.proofs.Math.Option.{Option, some, none}
use Rattle.text_words.specs.Bytes.{bytes}
use Rattle.domain_meaning.specs.Domain.{Domain}
use Rattle.domain_meaning.specs.Problem.{Problem}
use Rattle.domain_meaning.specs.Indexes.{sum_of}
use Rattle.happening_meaning.specs.State.{State}
use Rattle.happening_meaning.specs.declared.Outcome.{Outcome}
use Rattle.happening_meaning.specs.declared.Outcome.TheVariants.{Done}
use Rattle.plan_meaning.specs.Text.{joined}
use Rattle.plan_meaning.specs.Lines.{Refused}
use Rattle.domain_refusal_laws.specs.Lowest.{LowestInDomain, LowestInProblem}
use Rattle.check_wording.specs.Wording.{verdict_line}
use Rattle.check_meaning.specs.Answer.{Final, answer}
use Rattle.domain_load.specs.declared.LoadAnswer.{LoadAnswer}
use Rattle.domain_load.specs.declared.LoadAnswer.TheVariants as Is
use Rattle.check_calls.specs.declared.Answer.{Answer}
use Rattle.check_calls.specs.declared.Answer.TheVariants as A
use Rattle.check_calls.specs.Numbers.{number_of, place_of}
use Rattle.check_demand_laws.specs.Calling.{Calls, Call, lent, make, replies, session, line}
use Rattle.check_demand_laws.specs.Ruling.{load_answer, listed_load, listed_answer, ranked, reply, rules, otherwise, line_rules, finished_by, Written}
use Rattle.check_demand_laws.specs.Told.{Reads, refusal_of, replies_to, Valid, FailsFirst}

-- an output with w written from its first place on
abbrev pub written : {A : Type 0} → List A → List A → List A
written w out = w ++ drop (length w) out

-- two answers have the same number and the same place
abbrev pub Same : Answer → Answer → Type 0
Same a b = (number_of a ≡ number_of b) × (place_of a ≡ place_of b)

module _ {C : Type 0} (K : Calls C) where
  abbrev pub Opens : LoadAnswer → C → Type 0
  Opens Is.Loaded c = (K.formed c ≡ true) × (K.finished c ≡ false) × (K.standing c ≡ none)
  Opens (Is.Domain k p) c = (K.formed c ≡ false) × (c ≡ K.fixed)
  Opens (Is.Problem k p) c = (K.formed c ≡ false) × (c ≡ K.fixed)

  -- what asking for facts or numbers gives: 23 where there is no final state
  abbrev pub Shows : {A : Type 0} → Option Final → (Final → List A) → List A → (C × Answer) × List A → Type 0
  Shows none part out given = given ≡ ((given.0.0, A.Stateless), out)
  Shows (some f) part out given = given ≡ ((given.0.0, A.Done (length (part f))), written (part f) out)

  -- ---- 1. "Whatever bytes come as domain, problem or plan, and whatever is called in whatever order, each call ends with one of the listed answers.
  -- A refusal has its number and place, is given when its rule says and at no other time, and changes nothing the caller lent."
  pub record Demand1 : Type 0 where
    -- a listed answer, with its number and place
    pub load_listed : (s t : List ℕ) → listed_load (length s) (length t) (K.load s t).1 ≡ true
    pub listed : (c : C) (x : Call) → listed_answer x (make K c x).answer ≡ true
    -- given when its rule says: for domain and problem the grammar, whose refusals depend on nothing after their place
    pub load_ruled : (s t : List ℕ) → (K.load s t).1 ≡ load_answer s t
    pub lowest : LowestInDomain × LowestInProblem
    pub ruled : (c : C) (x : Call) → Same (make K c x).answer (ranked (rules K c x) (otherwise K c x))
    pub line_ruled : (v : LoadAnswer) (out : List ℕ) → Same (K.line v out).0 (ranked (line_rules v out) (A.Done 0))
    -- nothing that was lent is changed by a refusal, and no more is written than is said
    pub output_kept : (c : C) (x : Call) → ¬ (number_of (make K c x).answer ≡ 0) → (make K c x).output ≡ lent x
    pub line_kept : (v : LoadAnswer) (out : List ℕ) → ¬ (number_of (K.line v out).0 ≡ 0) → (K.line v out).1 ≡ out
    pub output_written : (c : C) (x : Call) (n : ℕ) → (make K c x).answer ≡ A.Done n → Written n (lent x) (make K c x).output
    -- a line has at most 64 bytes, its LF the last of them
    pub line_whole : (c : C) (out : List ℕ) (n : ℕ) → (K.result c out).0.1 ≡ A.Done n → (n ≤ 64) × (w : List ℕ) × (take n (K.result c out).1 ≡ w ++ 10 ∷ [])
    -- "19 to 23 return the check unchanged"; "A plan refusal stays: .. feeding changes nothing, finishing still finishes"
    pub check_kept : (c : C) (x : Call) → 19 ≤ number_of (make K c x).answer → (make K c x).check ≡ c
    pub refusal_stays : (c : C) (part : List ℕ) (e : Refused) → K.standing c ≡ some e → (K.feed c part).0 ≡ c
    pub finishes : (c : C) (x : Call) → K.formed c ≡ true → K.finished (make K c x).check ≡ finished_by x (K.finished c)
    -- "Well formed" is "met by every check from a load not refused or from a call on a well-formed one"; "A refused load hands back one fixed check
    -- that 19 refuses"
    pub opens : (s t : List ℕ) → Opens (K.load s t).1 (K.load s t).0
    pub keeps : (c : C) (x : Call) → K.formed c ≡ true → K.formed (make K c x).check ≡ true

  -- ---- 2. ""valid" is answered exactly if every happening can be executed without interference, every condition that spans an action holds in between, and
  -- the goal holds at the end. Otherwise the first failure is named, with its time and lines."
  pub record Demand2 : Type 0 where
    pub valid : (s t : List ℕ) (ps : List (List ℕ)) (out : List ℕ) → 64 ≤ length out
        → (take 5 (line K s t ps out).1 ≡ bytes "valid")
        ↔ ((d : Domain) × (p : Problem) × Reads s t d p × (e : State) × (u : ℕ) × Valid d p (joined ps) e u)
    pub timed : (s t : List ℕ) (ps : List (List ℕ)) (out : List ℕ) → 64 ≤ length out → (d : Domain) (p : Problem) → Reads s t d p
        → (e : State) (u : ℕ) → Valid d p (joined ps) e u → (line K s t ps out).1 ≡ written (verdict_line Done u) out
    pub named : (s t : List ℕ) (ps : List (List ℕ)) (out : List ℕ) → 64 ≤ length out → (d : Domain) (p : Problem) → Reads s t d p
        → (e : State) (u : ℕ) (w : Outcome) → FailsFirst d p (joined ps) e u w → (line K s t ps out).1 ≡ written (verdict_line w u) out
    -- a plan of which no line is refused is valid or has a first failure
    pub decided : (d : Domain) (p : Problem) (plan : List ℕ) → refusal_of d p plan ≡ none
        → ((e : State) × (u : ℕ) × Valid d p plan e u) ⊎ ((e : State) × (u : ℕ) × (w : Outcome) × FailsFirst d p plan e u w)

  -- ---- 3. "A plan may be cut anywhere and fed in any number of parts; everything answered is what the definition gives for the whole plan at once, which
  -- knows nothing of parts."
  pub record Demand3 : Type 0 where
    -- the line, from its first byte to its LF, and how many bytes it has
    pub whole_line : (s t : List ℕ) (ps : List (List ℕ)) (out : List ℕ) → 64 ≤ length out
        → line K s t ps out ≡ (A.Done (length (answer s t (joined ps)).line), written (answer s t (joined ps)).line out)
    -- the final facts and numbers
    pub whole_facts : (s t : List ℕ) (d : Domain) (p : Problem) → Reads s t d p → (ps : List (List ℕ)) (out : List ℕ)
        → sum_of (length p.objects) d.predicates ≤ length out
        → Shows (answer s t (joined ps)).final (λ f. f.facts) out (K.facts (session K s t ps).0 out)
    pub whole_numbers : (s t : List ℕ) (d : Domain) (p : Problem) → Reads s t d p → (ps : List (List ℕ)) (out : List ℤ)
        → sum_of (length p.objects) d.functions ≤ length out
        → Shows (answer s t (joined ps)).final (λ f. f.numbers) out (K.numbers (session K s t ps).0 out)
    -- the call whose bytes decide a refusal is the first to answer it, and each later one gives it again
    pub each_feed : (s t : List ℕ) (d : Domain) (p : Problem) → Reads s t d p → (ps : List (List ℕ))
        → replies K (K.load s t).0 ps ≡ replies_to d p [] ps
    pub finish : (s t : List ℕ) (d : Domain) (p : Problem) → Reads s t d p → (ps : List (List ℕ))
        → (session K s t ps).1 ≡ reply (refusal_of d p (joined ps))
