-- The theorem `exactly`: the verdict on a plan is `valid` exactly where the plan is valid, and otherwise it is the failure that comes first. Assumes nothing.
use mathlib.Core.Bool.{Bool, true, false}
use mathlib.Core.List.{List, [], ◌∷◌, ◌++◌}
use mathlib.Core.Logic.{◌↔◌, ◌⊎◌, inl, inr}
use mathlib.Core.Path.{◌≡◌, refl, sym, ap, subst, ◌∙◌}
use Prim.Native.Nat.{ℕ, zero, suc, ◌≤◌, ◌<◌}
use native.Mathlib.Nat.{eq-or-lt_of_le}
use native.Mathlib.Omega.{arith}
use Rattle.domain_meaning.specs.Conditions.{Cond}
use Rattle.domain_meaning.specs.Actions.{Action}
use Rattle.happening_meaning.specs.State.{State, Grounds}
use Rattle.happening_meaning.specs.Happening.{is_done, reached}
use Rattle.happening_meaning.specs.declared.Outcome.{Outcome}
use Rattle.plan_meaning.specs.Plan.{Step, Point, points, at, latest, Run, going, failed, tested, up_to, verdict}
use Rattle.plan_meaning.specs.Promised.{Act, failure}
use Rattle.plan_meaning.proofs.Drain.{skip}
use Rattle.plan_meaning.proofs.Lists.{all_map}
use Rattle.check_validity_meaning.specs.Lists.{All, ◌∈◌, Ascending}
use Rattle.check_validity_meaning.specs.Valid.{last_of, times_of, HappeningsBelow, Trace, Executes, Valid, Stops, Misses, FailsFirst}
use Rattle.check_validity_meaning.proofs.Lists.{all_in}
use Rattle.check_validity_meaning.proofs.Deciding.{is_done_lem}
use Rattle.check_validity_meaning.proofs.Steps.{reached_decides}
use Rattle.check_validity_meaning.proofs.Instant.{run_state, run_time, run_word, not_both, tested_done, tested_fails, rules, stepped, goes, stops, went}
use Rattle.check_validity_meaning.proofs.Instant.{stopped}
use Rattle.check_validity_meaning.proofs.Times.{none_at, at_none, some_at, below_latest, last_snoc, trace_snoc, none_below, below_quiet, below_more}
use Rattle.check_validity_meaning.proofs.Times.{below_all, all_below_lem}

least : (b v : ℕ) (ts : List ℕ) → Ascending b ts → v ∈ ts → b ≤ v
least b v [] a i = absurd i
least b v (t ∷ ts) a (inl e) = let l = a.0 in omega (arith, l, e)
least b v (t ∷ ts) a (inr i) = let l = least (suc t) v ts a.1 i in let k = a.0 in omega (arith, l, k)

module _ (g : Grounds) (goal : Cond) (as' : List Action) (s0 : State) (plan : List (Step Act)) where
  abbrev run : ℕ → Run State Outcome
  run b = up_to (rules g goal as' s0) plan b

  -- ---- what a run says

  pub record Reached (b : ℕ) (s : State) (u : ℕ) : Type 0 where
    pub times : List ℕ
    pub below : HappeningsBelow plan b times
    pub trace : Trace g as' plan s0 times s
    pub last : last_of 0 times ≡ u

  step_on_lem : (t : ℕ) (s : State) (u : ℕ) (q : Point Act) (qs : List (Point Act)) → at t (points plan) ≡ q ∷ qs → run t ≡ going s u
      → run (suc t) ≡ stepped g goal as' s0 plan t s
  unfolding up_to
  step_on_lem t s u q qs p r = rw (p, r)

  step_quiet : (t : ℕ) → at t (points plan) ≡ [] → run (suc t) ≡ run t
  unfolding up_to
  step_quiet t p = rw p

  step_failed : (t : ℕ) (e : State) (u : ℕ) (w : Outcome) → run t ≡ failed e u w → run (suc t) ≡ failed e u w
  unfolding up_to
  step_failed t e u w r = go (at t (points plan)) refl
    where
      go : (ps : List (Point Act)) → at t (points plan) ≡ ps → run (suc t) ≡ failed e u w
      go [] p = rw (p, r)
      go (q ∷ qs) p = rw (p, r)

  reach : (b : ℕ) (s : State) (u : ℕ) → run b ≡ going s u → Reached b s u
  unfolding up_to
  reach zero s u e = record { times = []; below = none_below plan; trace = ap run_state e; last = ap run_time e }
  reach (suc t) s u e = go (at t (points plan)) refl (run t) refl (reach t)
    where
      go : (ps : List (Point Act)) → at t (points plan) ≡ ps → (r : Run State Outcome) → run t ≡ r
          → ((s' : State) (u' : ℕ) → run t ≡ going s' u' → Reached t s' u') → Reached (suc t) s u
      go [] p r k ih =
          let x = ih s u (sym (step_quiet t p) ∙ e) in
          record { times = x.times; below = below_quiet plan t x.times p x.below; trace = x.trace; last = x.last }
      go (q ∷ qs) p (failed s' u' w) k ih = not_both (sym e ∙ step_failed t s' u' w k)
      go (q ∷ qs) p (going s' u') k ih =
          let x = ih s' u' k in
          let h = went g goal as' s0 plan t s' s u (sym (step_on_lem t s' u' q qs p k) ∙ e) in
          record {
            times = x.times ++ t ∷ [];
            below = below_more plan t x.times (some_at t (points plan) q qs p) x.below;
            trace = trace_snoc g as' plan s0 s' s x.times t x.trace h.0;
            last = last_snoc 0 t x.times ∙ h.1;
          }

  stop : (b : ℕ) (e : State) (t : ℕ) (w : Outcome) → run b ≡ failed e t w → Stops g as' plan s0 e t w
  unfolding up_to
  stop zero e t w k = not_both k
  stop (suc b) e t w k = go (at b (points plan)) refl (run b) refl (stop b e t w)
    where
      go : (ps : List (Point Act)) → at b (points plan) ≡ ps → (r : Run State Outcome) → run b ≡ r
          → (run b ≡ failed e t w → Stops g as' plan s0 e t w) → Stops g as' plan s0 e t w
      go [] p r q ih = ih (sym (step_quiet b p) ∙ k)
      go (x ∷ xs) p (failed s u v) q ih = ih (q ∙ sym (step_failed b s u v q) ∙ k)
      go (x ∷ xs) p (going s u) q ih =
          let h = stopped g goal as' s0 plan b s e t w (sym (step_on_lem b s u x xs p q) ∙ k) in
          let r = reach b s u q in
          subst (λ (v : ℕ). Stops g as' plan s0 e v w) h.1
          (record { times = r.times; earlier = r.below; now = some_at b (points plan) x xs p; state = s; trace = r.trace; fails = h.0 })

  -- ---- and back

  present : (t : ℕ) (s : State) (u : ℕ) → t ∈ times_of plan → run t ≡ going s u → run (suc t) ≡ stepped g goal as' s0 plan t s
  present t s u i r = go (at t (points plan)) refl
    where
      go : (ps : List (Point Act)) → at t (points plan) ≡ ps → run (suc t) ≡ stepped g goal as' s0 plan t s
      go [] p = absurd (all_in (λ v. ¬ (v ≡ t)) (times_of plan) (at_none t (points plan) p) t i refl)
      go (q ∷ qs) p = step_on_lem t s u q qs p r

  runs : (c : ℕ) (ts : List ℕ) (b : ℕ) (s : State) (u : ℕ) (e : State) → b ≤ c → run b ≡ going s u → Ascending b ts
      → All (λ v. b ≤ v → v < c → v ∈ ts) (times_of plan) → All (λ v. (v < c) × (v ∈ times_of plan)) ts → Trace g as' plan s ts e → run c ≡ going e (last_of u ts)
  runs c [] b s u e h r a k o q =
      skip (rules g goal as' s0) plan b c h
      (λ t x y. none_at t (points plan) (all_map (λ v f z. f (omega (arith, x, z)) (omega (arith, y, z))) (times_of plan) k))
      ∙ r ∙ ap (λ (n : State). going n u) q
  runs c (t ∷ ts) b s u e h r a k o (n, hp, more) =
      let l = o.0.0 in
      let quiet : run t ≡ run b =
      skip (rules g goal as' s0) plan b t a.0
      (λ v x y. none_at v (points plan) (all_map (λ w f z. behind v w y z (f (omega (arith, x, z)) (omega (arith, y, z, l)))) (times_of plan) k)) in
      runs c ts (suc t) n t e l (present t s u o.0.1 (quiet ∙ r) ∙ goes g goal as' s0 plan t s n hp) a.1
      (all_map (λ v f x y. later v x (f (let m = a.0 in omega (arith, x, m)) y)) (times_of plan) k) o.1 more
    where
      behind : (v w : ℕ) → v < t → w ≡ v → w ∈ (t ∷ ts) → ⊥
      behind v w y z i = let m = least t w (t ∷ ts) (omega arith, a.1) i in omega (arith, m, y, z)

      later : (v : ℕ) → suc t ≤ v → v ∈ (t ∷ ts) → v ∈ ts
      later v x (inl z) = absurd (let y : ⊥ = omega (arith, x, z) in y)
      later v x (inr i) = i

  -- ---- the verdict

  abbrev end : ℕ
  end = suc (latest (points plan))

  -- a failure stays
  stays_failed : (b c : ℕ) (e : State) (t : ℕ) (w : Outcome) → b ≤ c → run b ≡ failed e t w → run c ≡ failed e t w
  stays_failed b zero e t w h k = let q : zero ≡ b = omega arith in ap run q ∙ k
  stays_failed b (suc c) e t w h k = go (eq-or-lt_of_le h) (λ l. stays_failed b c e t w l k)
    where
      go : (b ≡ suc c) ⊎ (b < suc c) → (b ≤ c → run c ≡ failed e t w) → run (suc c) ≡ failed e t w
      go (inl q) ih = ap run (sym q) ∙ k
      go (inr l) ih = step_failed c e t w (ih (omega (arith, l)))

  executes : (e : State) (u : ℕ) → run end ≡ going e u → Executes g as' plan s0 e u
  executes e u r = let x = reach end e u r in record { times = x.times; sequence = below_all plan x.times x.below; trace = x.trace; last = x.last }

  executed_below : (c : ℕ) (ts : List ℕ) (e : State) → HappeningsBelow plan c ts → Trace g as' plan s0 ts e → run c ≡ going e (last_of 0 ts)
  unfolding up_to
  executed_below c ts e b r = runs c ts 0 s0 0 e (omega arith) refl b.ordered (all_map (λ v f _. f) (times_of plan) b.every) b.only r

  executed : (e : State) (u : ℕ) → Executes g as' plan s0 e u → run end ≡ going e u
  executed e u x = executed_below end x.times e (all_below_lem plan x.times x.sequence) x.trace ∙ ap (λ (v : ℕ). going e v) x.last

  abbrev verdict_of : Run State Outcome
  verdict_of = verdict (rules g goal as' s0) plan

  at_end : (s : State) (u : ℕ) → run end ≡ going s u → verdict_of ≡ tested u s (failure (reached g goal s))
  unfolding verdict
  at_end s u r = rw r

  failed_end : (e : State) (t : ℕ) (w : Outcome) → run end ≡ failed e t w → verdict_of ≡ failed e t w
  unfolding verdict
  failed_end e t w r = rw r

  meets : (e : State) (u : ℕ) → verdict_of ≡ going e u → Valid g as' plan goal s0 e u
  meets e u k = go (run end) refl
    where
      met : (s : State) (t : ℕ) → run end ≡ going s t → (b : Bool) → is_done (reached g goal s) ≡ b → Valid g as' plan goal s0 e u
      met s t r true d =
          let f = is_done_lem (reached g goal s) d in
          let q : going s t ≡ going e u = sym (at_end s t r ∙ tested_done (reached g goal s) t s f) ∙ k in
          subst (λ (v : Run State Outcome). Valid g as' plan goal s0 (run_state v) (run_time v)) q
          (record { executes = executes s t r; reached = (reached_decides g s goal).right f })
      met s t r false d = not_both (sym k ∙ at_end s t r ∙ tested_fails (reached g goal s) t s d)

      go : (r : Run State Outcome) → run end ≡ r → Valid g as' plan goal s0 e u
      go (failed s t w) r = not_both (sym k ∙ failed_end s t w r)
      go (going s t) r = met s t r (is_done (reached g goal s)) refl

  valid : (e : State) (u : ℕ) → Valid g as' plan goal s0 e u → verdict_of ≡ going e u
  valid e u v = at_end e u (executed e u v.executes) ∙ tested_done (reached g goal e) u e ((reached_decides g e goal).done v.reached)

  fails : (e : State) (t : ℕ) (w : Outcome) → verdict_of ≡ failed e t w → FailsFirst g as' plan goal s0 e t w
  fails e t w k = go (run end) refl
    where
      missed : (s : State) (u : ℕ) → run end ≡ going s u → (b : Bool) → is_done (reached g goal s) ≡ b → FailsFirst g as' plan goal s0 e t w
      missed s u r true d = not_both (sym (at_end s u r ∙ tested_done (reached g goal s) u s (is_done_lem (reached g goal s) d)) ∙ k)
      missed s u r false d =
          let q : failed s u (reached g goal s) ≡ failed e t w = sym (at_end s u r ∙ tested_fails (reached g goal s) u s d) ∙ k in
          inr (subst (λ (v : Run State Outcome). Misses g as' plan goal s0 (run_state v) (run_time v) (run_word v)) q
          (record { executes = executes s u r; missed = (reached_decides g s goal).wrong d }))

      go : (r : Run State Outcome) → run end ≡ r → FailsFirst g as' plan goal s0 e t w
      go (going s u) r = missed s u r (is_done (reached g goal s)) refl
      go (failed s u v) r = inl (stop end e t w (r ∙ sym (failed_end s u v r) ∙ k))

  first : (e : State) (t : ℕ) (w : Outcome) → FailsFirst g as' plan goal s0 e t w → verdict_of ≡ failed e t w
  first e t w (inl x) =
      let r = executed_below t x.times x.state x.earlier x.trace in
      let f = present t x.state (last_of 0 x.times) x.now r ∙ stops g goal as' s0 plan t x.state w e x.fails in
      failed_end e t w (stays_failed (suc t) end e t w (all_in (λ v. v < end) (times_of plan) (below_latest (points plan)) t x.now) f)
  first e t w (inr x) =
      let d = (reached_decides g e goal).only w x.missed in
      at_end e t (executed e t x.executes) ∙ tested_fails (reached g goal e) t e (ap is_done d.0 ∙ d.1) ∙ ap (failed e t) d.0

  -- `valid` is answered if and only if the plan is valid
  pub exactly_valid : (e : State) (u : ℕ) → (verdict (rules g goal as' s0) plan ≡ going e u) ↔ Valid g as' plan goal s0 e u
  exactly_valid e u = (meets e u, valid e u)

  -- a failure is answered if and only if it is the first
  pub exactly_first : (e : State) (t : ℕ) (w : Outcome) → (verdict (rules g goal as' s0) plan ≡ failed e t w) ↔ FailsFirst g as' plan goal s0 e t w
  exactly_first e t w = (fails e t w, first e t w)

  pub exactly : ((e : State) (u : ℕ) → (verdict (rules g goal as' s0) plan ≡ going e u) ↔ Valid g as' plan goal s0 e u)
      × ((e : State) (t : ℕ) (w : Outcome) → (verdict (rules g goal as' s0) plan ≡ failed e t w) ↔ FailsFirst g as' plan goal s0 e t w)
  exactly = (exactly_valid, exactly_first)
