-- One instant of a run: it goes on exactly where its happening is executed and what spans it holds.
-- Otherwise it stops with the first failure. Assumes nothing.
use mathlib.Core.Bool.{Bool, true, false, true≢false}
use mathlib.Core.List.{List, map}
use mathlib.Core.Logic.{◌⊎◌, inl, inr}
use mathlib.Core.Path.{◌≡◌, refl, sym, ap, subst, ◌∙◌}
use Prim.Native.Nat.{ℕ}
use Rattle.domain_meaning.specs.Conditions.{Cond}
use Rattle.domain_meaning.specs.Actions.{Action}
use Rattle.happening_meaning.specs.State.{State, Grounds}
use Rattle.happening_meaning.specs.Happening.{Point, is_done, happening, spanning, promises}
use Rattle.happening_meaning.specs.Happening as H
use Rattle.happening_meaning.specs.declared.Outcome.{Outcome}
use Rattle.happening_meaning.specs.declared.Outcome.TheVariants.{Done}
use Rattle.plan_meaning.specs.Lists.{keep}
use Rattle.plan_meaning.specs.Plan.{Step, points, at, under, Run, going, failed, Rules, tested}
use Rattle.plan_meaning.specs.Plan as P
use Rattle.plan_meaning.specs.Promised.{Act, step_for, failure, rules_of}
use Rattle.check_validity_meaning.specs.Lists.{All, First}
use Rattle.check_validity_meaning.specs.Happens.{Executable, Within}
use Rattle.check_validity_meaning.specs.Failing.{Fails}
use Rattle.check_validity_meaning.specs.Valid.{happening_at, Spanned, Breaks, Happens, FailsAt, before, after}
use Rattle.check_validity_meaning.proofs.Deciding.{Decides, is_done_lem}
use Rattle.check_validity_meaning.proofs.Under.{under_decides}
use Rattle.check_validity_meaning.proofs.Happening as W

-- ---- two runs that are equal

abbrev run_goes : Run State Outcome → Bool
run_goes (going s t) = true
run_goes (failed s t w) = false

abbrev pub run_state : Run State Outcome → State
run_state (going s t) = s
run_state (failed s t w) = s

abbrev pub run_time : Run State Outcome → ℕ
run_time (going s t) = t
run_time (failed s t w) = t

abbrev pub run_word : Run State Outcome → Outcome
run_word (going s t) = Done
run_word (failed s t w) = w

pub not_both : {A : Type 0} {s e : State} {t u : ℕ} {w : Outcome} → ◌≡◌ {A = Run State Outcome} (going s t) (failed e u w) → A
not_both e = absurd (true≢false (ap run_goes e))

pub tested_done : (o : Outcome) (t : ℕ) (s : State) → o ≡ Done → tested t s (failure o) ≡ going s t
tested_done o t s e = rw e

pub tested_fails : (o : Outcome) (t : ℕ) (s : State) → is_done o ≡ false → tested t s (failure o) ≡ failed s t o
tested_fails o t s e = rw e

abbrev pub rules : Grounds → Cond → List Action → State → Rules State Act Outcome
rules g goal as' s0 = rules_of (promises g goal) as' s0

module _ (g : Grounds) (goal : Cond) (as' : List Action) (s0 : State) (plan : List (Step Act)) where
  module _ (t : ℕ) (s : State) where
    abbrev pub stepped : Run State Outcome
    stepped = P.after (rules g goal as' s0) t s (keep (under t) plan) ((rules g goal as' s0).happen s (at t (points plan)))

    abbrev here : List Point
    here = happening_at g as' plan t

    abbrev over : List H.Step
    over = map (step_for as') (keep (under t) plan)

    abbrev next : State
    next = W.after g s here

    abbrev before_next : Outcome
    before_next = W.steps g s here

    abbrev behind_next : Outcome
    behind_next = spanning g next over

    abbrev decides : Decides (Executable g s here × All (Within g next) here) (Fails g s here) before_next
    decides = W.happening_decides g s here

    abbrev over_decides : Decides (All (Spanned g as' plan t next) plan) (λ w. First (Spanned g as' plan t next) (Breaks g as' plan t next w) plan) behind_next
    over_decides = under_decides g as' plan t next

    to_next : before_next ≡ Done → stepped ≡ tested t next (failure behind_next)
    to_next e =
        let l = W.leads g s here in
        let h = happening g s here in
        let d : is_done h.outcome ≡ true = ap is_done (l.0 ∙ e) in
        let n : h.state ≡ next = l.1 e in
        rw (d, n)

    no_next : is_done before_next ≡ false → stepped ≡ failed s t before_next
    no_next e =
        let l = W.leads g s here in
        let h = happening g s here in
        let d : is_done h.outcome ≡ false = ap is_done l.0 ∙ e in
        rw (d, l.0)

    -- ---- from what the definitions say

    pub goes : (n : State) → Happens g as' plan t s n → stepped ≡ going n t
    goes n h =
        let x = h.executable in
        let q : n ≡ next = W.only_result g s here x n h.result in
        let e : before_next ≡ Done = decides.done (x, subst (λ (u : State). All (Within g u) here) q h.within) in
        let f : behind_next ≡ Done = over_decides.done (subst (λ (u : State). All (Spanned g as' plan t u) plan) q h.spanned) in
        to_next e ∙ tested_done behind_next t next f ∙ ap (λ (u : State). going u t) (sym q)

    pub stops : (w : Outcome) (e : State) → FailsAt g as' plan t s w e → stepped ≡ failed e t w
    stops w e (before f q) =
        let d = decides.only w f in
        no_next (ap is_done d.0 ∙ d.1) ∙ (λ i. failed (q i) t (d.0 i))
    stops w e (after x r a f) =
        let q : e ≡ next = W.only_result g s here x e r in
        let k : before_next ≡ Done = decides.done (x, subst (λ (u : State). All (Within g u) here) q a) in
        let d = over_decides.only w (subst (λ (u : State). First (Spanned g as' plan t u) (Breaks g as' plan t u w) plan) q f) in
        to_next k ∙ tested_fails behind_next t next (ap is_done d.0 ∙ d.1) ∙ (λ i. failed (sym q i) t (d.0 i))

    -- ---- and back

    pub record Stopped : Type 0 where
      pub word : Outcome
      pub state : State
      pub fails : FailsAt g as' plan t s word state
      pub stop : stepped ≡ failed state t word

    pub cases : (Happens g as' plan t s next × (stepped ≡ going next t)) ⊎ Stopped
    cases = go (is_done before_next) (is_done behind_next) refl refl
      where
        go : (b c : Bool) → is_done before_next ≡ b → is_done behind_next ≡ c → (Happens g as' plan t s next × (stepped ≡ going next t)) ⊎ Stopped
        go true true p q =
            let e = is_done_lem before_next p in
            let x = decides.right e in
            let f = is_done_lem behind_next q in
            let y = over_decides.right f in
            inl (record { executable = x.0; result = W.result g s here x.0; within = x.1; spanned = y }, to_next e ∙ tested_done behind_next t next f)
        go true false p q =
            let e = is_done_lem before_next p in
            let x = decides.right e in
            let f = after x.0 (W.result g s here x.0) x.1 (over_decides.wrong q) in
            inr (record { word = behind_next; state = next; fails = f; stop = to_next e ∙ tested_fails behind_next t next q })
        go false true p q = inr (record { word = before_next; state = s; fails = before (decides.wrong p) refl; stop = no_next p })
        go false false p q = inr (record { word = before_next; state = s; fails = before (decides.wrong p) refl; stop = no_next p })

    pub went : (n : State) (u : ℕ) → stepped ≡ going n u → Happens g as' plan t s n × (t ≡ u)
    went n u e = go cases
      where
        go : (Happens g as' plan t s next × (stepped ≡ going next t)) ⊎ Stopped → Happens g as' plan t s n × (t ≡ u)
        go (inl h) = let q = sym h.1 ∙ e in (subst (Happens g as' plan t s) (ap run_state q) h.0, ap run_time q)
        go (inr f) = not_both (sym e ∙ f.stop)

    pub stopped : (e : State) (u : ℕ) (w : Outcome) → stepped ≡ failed e u w → FailsAt g as' plan t s w e × (t ≡ u)
    stopped e u w q = go cases
      where
        go : (Happens g as' plan t s next × (stepped ≡ going next t)) ⊎ Stopped → FailsAt g as' plan t s w e × (t ≡ u)
        go (inl h) = not_both (sym h.1 ∙ q)
        go (inr f) = let r = sym f.stop ∙ q in (
          subst (λ (k : Run State Outcome). FailsAt g as' plan t s (run_word k) (run_state k)) r f.fails,
          ap run_time r,
        )
