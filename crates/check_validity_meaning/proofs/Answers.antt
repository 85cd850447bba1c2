-- What follows from `exactly`: a plan is valid or has a first failure, never both, and either in one way.
-- And the same of the answer to a plan's text, fed in any parts. Assumes nothing.
use mathlib.Core.List.{List, []}
use mathlib.Core.Logic.{◌↔◌, ◌⊎◌, inl, inr}
use mathlib.Core.Option.{Option, some, none}
use mathlib.Core.Path.{◌≡◌, refl, sym, ap, ◌∙◌}
use mathlib.Core.Bool.{Bool, true, false, true≢false}
use Prim.Native.Nat.{ℕ}
use Rattle.domain_meaning.specs.Conditions.{Cond}
use Rattle.domain_meaning.specs.Actions.{Action}
use Rattle.happening_meaning.specs.State.{State, Grounds}
use Rattle.happening_meaning.specs.Happening.{promises}
use Rattle.happening_meaning.specs.declared.Outcome.{Outcome}
use Rattle.plan_meaning.specs.Plan.{Step, Run, going, failed, verdict, Answer, Result, refused, ended, steps, first_refusal, unless, result}
use Rattle.plan_meaning.specs.Text.{lines, answers, meaning}
use Rattle.plan_meaning.specs.Feed.{joined, feeds, new, close}
use Rattle.plan_meaning.specs.Promised.{Act}
use Rattle.plan_meaning.specs.Lines.{Known, Refused, reader, limits}
use Rattle.plan_meaning.proofs.Rising.{whole}
use Rattle.check_validity_meaning.specs.Valid.{Valid, FailsFirst}
use Rattle.check_validity_meaning.proofs.Instant.{run_state, run_time, run_word, not_both, rules}
use Rattle.check_validity_meaning.proofs.Exactly.{exactly_valid, exactly_first}

module _ (g : Grounds) (goal : Cond) (as' : List Action) (s : State) (plan : List (Step Act)) where
  pub valid_once : (e f : State) (t u : ℕ) → Valid g as' plan goal s e t → Valid g as' plan goal s f u → (e ≡ f) × (t ≡ u)
  valid_once e f t u a b =
      let q = sym ((exactly_valid g goal as' s plan e t).1 a) ∙ (exactly_valid g goal as' s plan f u).1 b in
      (ap run_state q, ap run_time q)

  pub fails_once : (e f : State) (t u : ℕ) (w v : Outcome) → FailsFirst g as' plan goal s e t w → FailsFirst g as' plan goal s f u v
      → (e ≡ f) × (t ≡ u) × (w ≡ v)
  fails_once e f t u w v a b =
      let q = sym ((exactly_first g goal as' s plan e t w).1 a) ∙ (exactly_first g goal as' s plan f u v).1 b in
      (ap run_state q, ap run_time q, ap run_word q)

  pub not_valid : (e f : State) (t u : ℕ) (w : Outcome) → Valid g as' plan goal s e t → FailsFirst g as' plan goal s f u w → ⊥
  not_valid e f t u w a b = not_both (sym ((exactly_valid g goal as' s plan e t).1 a) ∙ (exactly_first g goal as' s plan f u w).1 b)

  abbrev IsValid : Type 0
  IsValid = (e : State) × (t : ℕ) × Valid g as' plan goal s e t

  abbrev IsFailing : Type 0
  IsFailing = (e : State) × (t : ℕ) × (w : Outcome) × FailsFirst g as' plan goal s e t w

  pub valid_or_fails : IsValid ⊎ IsFailing
  valid_or_fails = go (verdict (rules g goal as' s) plan) refl
    where
      go : (r : Run State Outcome) → verdict (rules g goal as' s) plan ≡ r → IsValid ⊎ IsFailing
      go (going e t) q = inl (e, t, (exactly_valid g goal as' s plan e t).0 q)
      go (failed e t w) q = inr (e, t, w, (exactly_first g goal as' s plan e t w).0 q)

-- ---- the answer to a text

abbrev is_none : {E : Type 0} → Option E → Bool
is_none none = true
is_none (some x) = false

module _ {S W E : Type 0} where
  abbrev is_ended : Result S W E → Bool
  is_ended (refused x) = false
  is_ended (ended r) = true

  abbrev run_of : Run S W → Result S W E → Run S W
  run_of d (refused x) = d
  run_of d (ended r) = r

  -- a refusal, or the verdict on the steps
  answered : (o : Option E) (r v : Run S W) → (unless o r ≡ ended v) ↔ ((o ≡ none) × (r ≡ v))
  answered none r v = ((λ e. (refl, ap (run_of r) e)), λ e. ap ended e.1)
  answered (some x) r v = ((λ e. absurd (true≢false (sym (ap is_ended e)))), λ e. absurd (true≢false (sym (ap is_none e.0))))

-- k is what the plan's names stand for
module _ (g : Grounds) (goal : Cond) (as' : List Action) (s : State) (k : Known) where
  -- what the lines of a text say
  abbrev pub said : List ℕ → List (Answer Act Refused)
  said text = answers (reader k) 1 0 (lines text)

  abbrev pub refusal_in : List ℕ → Option Refused
  refusal_in text = first_refusal limits [] (said text)

  -- what the machine gives that is fed a text in these parts and finished
  abbrev pub given : List (List ℕ) → Result State Outcome Refused
  given parts = close (rules g goal as' s) limits (reader k) (feeds (rules g goal as' s) limits (reader k) (new (rules g goal as' s) limits (reader k)) parts)

  told : (parts : List (List ℕ)) → given parts ≡ unless (refusal_in (joined parts)) (verdict (rules g goal as' s) (steps (said (joined parts))))
  unfolding meaning result
  told parts = whole (promises g goal) as' s k parts

  pub answers_valid : (parts : List (List ℕ)) (e : State) (u : ℕ)
      → (given parts ≡ ended (going e u)) ↔ ((refusal_in (joined parts) ≡ none) × Valid g as' (steps (said (joined parts))) goal s e u)
  answers_valid parts e u =
      let plan = steps (said (joined parts)) in
      let a = answered (refusal_in (joined parts)) (verdict (rules g goal as' s) plan) (going e u) in
      let x = exactly_valid g goal as' s plan e u in
      ((λ q. let h = a.0 (sym (told parts) ∙ q) in (h.0, x.0 h.1)), λ h. told parts ∙ a.1 (h.0, x.1 h.1))

  pub answers_first : (parts : List (List ℕ)) (e : State) (t : ℕ) (w : Outcome)
      → (given parts ≡ ended (failed e t w)) ↔ ((refusal_in (joined parts) ≡ none) × FailsFirst g as' (steps (said (joined parts))) goal s e t w)
  answers_first parts e t w =
      let plan = steps (said (joined parts)) in
      let a = answered (refusal_in (joined parts)) (verdict (rules g goal as' s) plan) (failed e t w) in
      let x = exactly_first g goal as' s plan e t w in
      ((λ q. let h = a.0 (sym (told parts) ∙ q) in (h.0, x.0 h.1)), λ h. told parts ∙ a.1 (h.0, x.1 h.1))
