-- What the machine keeps while a plan is fed lies in the check's places, and what it would answer is listed: no more than 64 points, a line of at most 256
-- bytes, numbers of plan lines. Assumes nothing.
use Prim.Native.Nat.{ℕ, zero, suc, ◌+◌, ◌≤◌, ◌<◌, max}
use mathlib.Core.Bool.{Bool, true, false, cond}
use mathlib.Core.List.{List, [], ◌∷◌, ◌++◌, map}
use mathlib.Core.Path.{◌≡◌, refl, ap, ◌∙◌}
use native.Mathlib.Omega.{arith}
use borrow.Author.Tests.{ltb-true, ltb-false}
use lib.Dec.{ltb, leb, eqb}
use lib.ListN.{length, length-append}
use Rattle.domain_meaning.specs.Actions.{Action}
use Rattle.happening_meaning.specs.State.{State}
use Rattle.happening_meaning.specs.Happening.{is_done, Happened, Promises}
use Rattle.happening_meaning.specs.Happening as H
use Rattle.happening_meaning.specs.declared.Outcome as Why
use Rattle.plan_meaning.specs.Lists.{keep}
use Rattle.plan_meaning.specs.Plan.{Span, moment, lasting, Step, Point, begins, ends, Run, going, failed, Rules, time, at, from, ending, points_of, latest}
use Rattle.plan_meaning.specs.Plan.{tested, after, instant, judged, Answer, blank, step, refusal, Result, refused, ended}
use Rattle.plan_meaning.specs.Machine.{Check, waits, halted, soonest, under_way, drain, admit, take, finish}
use Rattle.plan_meaning.specs.Feed.{Feed, reading, byte, feed, feeds, close}
use Rattle.plan_meaning.specs.Promised.{Act, duration_of, point_for, step_for, failure, outcome_of, rules_of}
use Rattle.plan_meaning.specs.Stored.{step_in, point_in, step_of, slot_of}
use Rattle.plan_meaning.specs.Lines.{Known, Refused, reader, limits}
use Rattle.plan_meaning.specs.declared.Slot.{Slot}
use Rattle.plan_meaning.proofs.Lists.{All, all_append}
use Rattle.plan_meaning.proofs.Drain.{drain_go, drain_done}
use Rattle.plan_meaning.proofs.Walk.{ReadStep}
use Rattle.plan_meaning.proofs.Steps.{reads_steps, step_there}
use Rattle.plan_meaning.proofs.Bounds.{SmallStep, TextRefusal, crowded_listed, past_listed, read_small, read_listed, long_listed, empty_line_lem}
use Rattle.plan_waiting.specs.Waiting.{step_fits}
use Rattle.plan_waiting.proofs.Soundness.{sound_step_of, sound_start, sound_duration}
use Rattle.plan_waiting.proofs.Fitting.{listed_step_of, listed_step_line, fits_sound, fits_listed, fits_of}
use Rattle.check_meaning.specs.Listed.{listed_verdict}
use Rattle.check_demand_laws.proofs.Naming.{InPlan, Named}

-- ---- what can be kept

-- a point that lies in numbers is there again, and its numbers fit
abbrev pub SoundPoint : ℕ → Point Act → Type 0
SoundPoint n p = (point_in (slot_of p) ≡ p) × (step_fits n (slot_of p).step ≡ true)

-- what can be answered of a run: what fails is no success, and is listed
pub record Failed (w : Why.Outcome) : Type 0 where
  pub fails : is_done w ≡ false
  pub listed : listed_verdict w ≡ true

abbrev pub Told : Run State Why.Outcome → Type 0
Told (going s t) = t < 2000000000000
Told (failed s t w) = Failed w × (t < 2000000000000)

pub record Kept (n : ℕ) (r : Run State Why.Outcome) (s : ℕ) (q : List (Point Act)) : Type 0 where
  pub told : Told r
  pub start : s < 1000000000000
  pub few : length q ≤ 64
  pub sound : All (SoundPoint n) q

abbrev pub KeptCheck : ℕ → Check State Act Why.Outcome Refused → Type 0
KeptCheck n (waits r s q) = Kept n r s q
KeptCheck n (halted e) = TextRefusal e

pub record Line (k : ℕ) (part : List ℕ) : Type 0 where
  pub short : length part ≤ 256
  pub first : 0 < k
  pub last : k ≤ 1000001
  pub empty : 1000000 < k → length part ≡ 0

abbrev pub KeptFeed : ℕ → Feed State Act Why.Outcome Refused → Type 0
KeptFeed n (reading m k part) = KeptCheck n m × Line k part

abbrev pub KeptResult : Result State Why.Outcome Refused → Type 0
KeptResult (refused e) = TextRefusal e
KeptResult (ended r) = Told r

-- ---- a point that waits: its line and its time

abbrev line_on_lem : Point Act → ℕ
line_on_lem (begins x) = x.line
line_on_lem (ends x d) = x.line

slot_line : (p : Point Act) → (slot_of p).step.line ≡ line_on_lem p
unfolding step_of
slot_line (begins x) = refl
slot_line (ends x d) = refl

point_line : (n : ℕ) (p : Point Act) → SoundPoint n p → InPlan (line_on_lem p)
point_line n p h = rw (← slot_line p) (listed_step_line (slot_of p).step (fits_listed n (slot_of p).step h.1))

slot_time : (s : Slot) → time (point_in s) ≤ s.step.start + s.step.duration
unfolding point_in step_in
slot_time s = go s.ends
  where
    go : (b : Bool) → time (cond b (ends (step_in s.step) s.step.duration) (begins (step_in s.step))) ≤ s.step.start + s.step.duration
    go true = omega arith
    go false = omega arith

point_time : (n : ℕ) (p : Point Act) → SoundPoint n p → time p < 2000000000000
point_time n p h =
    let x = (slot_of p).step in
    let s = fits_sound n x h.1 in
    let a = sound_start n x s in
    let b = sound_duration n x s in
    let t : time (point_in (slot_of p)) ≡ time p = ap time h.0 in
    omega (arith, slot_time (slot_of p), a, b, t)

latest_below : (n : ℕ) (q : List (Point Act)) → All (SoundPoint n) q → latest q < 2000000000000
latest_below n [] a = omega arith
latest_below n (p ∷ q) a = omega (arith, point_time n p a.0, latest_below n q a.1)

-- ---- a happening keeps it

told_failure : (o : Why.Outcome) (t : ℕ) (s : State) → t < 2000000000000 → listed_verdict o ≡ true → Told (tested t s (failure o))
told_failure o t s h l = go (is_done o) refl
  where
    go : (b : Bool) → is_done o ≡ b → Told (tested t s (failure o))
    go true e = rw e h
    go false e = rw e (record { fails = e; listed = l }, h)

all_kept : {A : Type 0} (Q : A → Type 0) (f : A → Bool) (xs : List A) → All Q xs → All Q (keep f xs)
all_kept Q f [] h = tt
all_kept Q f (x ∷ xs) h = go (f x) refl (all_kept Q f xs h.1)
  where
    go : (b : Bool) → f x ≡ b → All Q (keep f xs) → All Q (keep f (x ∷ xs))
    go true e ih = rw e (h.0, ih)
    go false e ih = rw e ih

under_lined : (n t : ℕ) (q : List (Point Act)) → All (SoundPoint n) q → All (λ x. InPlan x.line) (under_way t q)
under_lined n t [] a = tt
under_lined n t (begins x ∷ q) a = under_lined n t q a.1
under_lined n t (ends x d ∷ q) a = go (ltb t (x.start + d)) (under_lined n t q a.1)
  where
    go : (b : Bool) → All (λ (y : Step Act). InPlan y.line) (under_way t q)
        → All (λ (y : Step Act). InPlan y.line) (cond b (x ∷ under_way t q) (under_way t q))
    go true ih = (point_line n (ends x d) a.0, ih)
    go false ih = ih

module _ (P : Promises) (N : Named P) (as' : List Action) (s₀ : State) where
  abbrev R : Rules State Act Why.Outcome
  R = rules_of P as' s₀

  points_lined : (n : ℕ) (ps : List (Point Act)) → All (SoundPoint n) ps → All (λ (p : H.Point). InPlan (H.line_of p)) (map (point_for as') ps)
  points_lined n [] a = tt
  points_lined n (begins x ∷ ps) a = (point_line n (begins x) a.0, points_lined n ps a.1)
  points_lined n (ends x d ∷ ps) a = (point_line n (ends x d) a.0, points_lined n ps a.1)

  steps_lined : (xs : List (Step Act)) → All (λ x. InPlan x.line) xs → All (λ (x : H.Step). InPlan x.line) (map (step_for as') xs)
  steps_lined [] a = tt
  steps_lined (x ∷ xs) a = (a.0, steps_lined xs a.1)

  told_after : (t : ℕ) (s : State) (xs : List (Step Act)) (h : Happened) → t < 2000000000000 → All (λ x. InPlan x.line) xs
      → listed_verdict h.outcome ≡ true
      → Told (after R t s xs (outcome_of h))
  told_after t s xs h l a v = go (is_done h.outcome) refl
    where
      go : (b : Bool) → is_done h.outcome ≡ b → Told (after R t s xs (outcome_of h))
      go true e =
          rw e (told_failure (P.over h.state (map (step_for as') xs)) t h.state l (N.over h.state (map (step_for as') xs) (steps_lined xs a)))
      go false e = rw e (record { fails = e; listed = v }, l)

  told_instant : (n t : ℕ) (ps : List (Point Act)) (xs : List (Step Act)) (r : Run State Why.Outcome) → t < 2000000000000 → All (SoundPoint n) ps
      → All (λ x. InPlan x.line) xs
      → Told r → Told (instant R t ps xs r)
  told_instant n t [] xs r l a b h = h
  told_instant n t (p ∷ ps) xs (failed s u w) l a b h = h
  told_instant n t (p ∷ ps) xs (going s u) l a b h =
      told_after t s xs (P.happen s (map (point_for as') (p ∷ ps))) l b (N.happen s (map (point_for as') (p ∷ ps)) (points_lined n (p ∷ ps) a))

  told_judged : (r : Run State Why.Outcome) → Told r → Told (judged R r)
  told_judged (failed s t w) h = h
  told_judged (going s t) h = told_failure (P.goal s) t s h (N.goal s)

  abbrev Both : ℕ → Run State Why.Outcome × List (Point Act) → Type 0
  Both n rq = Told rq.0 × All (SoundPoint n) rq.1

  -- one time and what is left
  abbrev onward : ℕ → Run State Why.Outcome → List (Point Act) → Run State Why.Outcome
  onward b r q = instant R (soonest b q) (at (soonest b q) q) (under_way (soonest b q) q) r

  drain_kept : (n k b : ℕ) (r : Run State Why.Outcome) (q : List (Point Act)) → b ≤ 2000000000000 → Told r → All (SoundPoint n) q → Both n (drain R k b r q)
  unfolding drain
  drain_kept n zero b r q l h a = (h, a)
  drain_kept n (suc k) b r q l h a =
      go (ltb (soonest b q) b) refl
      (λ g. drain_kept n k b (onward b r q) (from (suc (soonest b q)) q) l g (all_kept (SoundPoint n) (λ p. leb (suc (soonest b q)) (time p)) q a))
    where
      go : (c : Bool) → ltb (soonest b q) b ≡ c → (Told (onward b r q) → Both n (drain R k b (onward b r q) (from (suc (soonest b q)) q)))
          → Both n (drain R (suc k) b r q)
      go true e ih =
          let i = ltb-true (soonest b q) b e in
          rw (drain_go R b k r q i)
          (ih
          (told_instant n (soonest b q) (at (soonest b q) q) (under_way (soonest b q) q) r (omega (arith, i))
          (all_kept (SoundPoint n) (λ p. eqb (time p) (soonest b q)) q a)
          (under_lined n (soonest b q) q a) h))
      go false e ih = rw (drain_done R b (suc k) r q (ltb-false (soonest b q) b e)) (h, a)

-- ---- a line keeps it

begins_there : (x : Step Act) → step_in (step_of x) ≡ x → point_in (slot_of (begins x)) ≡ begins x
unfolding point_in
begins_there x h = rw h

stored_duration : (x : Step Act) → (step_of x).duration ≡ duration_of x.span
unfolding step_of
stored_duration x = refl

ends_there : (x : Step Act) (d : ℕ) → step_in (step_of x) ≡ x → duration_of x.span ≡ d → point_in (slot_of (ends x d)) ≡ ends x d
unfolding point_in
ends_there x d h e = ap (λ y. ends y (step_of x).duration) h ∙ ap (λ c. ends x c) (stored_duration x ∙ e)

module _ (s : List ℕ) (k : Known) (n before : ℕ) (x : Step Act) (h : ReadStep s k n before x) (small : SmallStep x) where
  step_sound : step_fits (length k.actions) (step_of x) ≡ true
  unfolding step_of
  step_sound =
      fits_of (length k.actions) (step_of x) (sound_step_of (length k.actions) (step_of x) h.action h.start h.duration)
      (listed_step_of (step_of x) small.first small.line small.width)

  sound_points : All (SoundPoint (length k.actions)) (points_of x)
  sound_points = go x.span refl
    where
      there : step_in (step_of x) ≡ x
      there = step_there s k n before x h

      go : (d : Span) → x.span ≡ d → All (SoundPoint (length k.actions)) (begins x ∷ ending x d)
      go moment e = ((begins_there x there, step_sound), tt)
      go (lasting d) e = ((begins_there x there, step_sound), ((ends_there x d there (ap duration_of e), step_sound), tt))

module _ (P : Promises) (N : Named P) (as' : List Action) (s₀ : State) (k : Known) where
  abbrev acting : ℕ
  acting = length k.actions

  abbrev rules : Rules State Act Why.Outcome
  rules = R P N as' s₀

  admit_kept : (x : Step Act) (r : Run State Why.Outcome) (q : List (Point Act)) → Told r → SmallStep x → All (SoundPoint acting) q
      → KeptCheck acting (admit rules limits x r q)
  admit_kept x r q h l a = go (ltb 64 (length q)) refl
    where
      go : (b : Bool) → ltb 64 (length q) ≡ b → KeptCheck acting (admit rules limits x r q)
      go true e = rw e (crowded_listed x l)
      go false e = rw e (record { told = h; start = l.start; few = ltb-false 64 (length q) e; sound = a })

  -- line j, of at most 256 bytes
  take_kept : (m : Check State Act Why.Outcome Refused) (j before : ℕ) (l : List ℕ) → 1 ≤ j → j ≤ 1000000 → length l ≤ 256 → KeptCheck acting m
      → KeptCheck acting (take rules limits m ((reader k).line j before l))
  take_kept (halted e) j before l lo hi w h = h
  take_kept (waits r u q) j before l lo hi w h = by ((reader k).line j before l) refl
    where
      by : (a : Answer Act Refused) → (reader k).line j before l ≡ a → KeptCheck acting (take rules limits (waits r u q) a)
      by blank e = h
      by (refusal f) e = read_listed k j before lo hi l f e
      by (step x) e =
          let s = reads_steps k j before l x e in
          let small = read_small k j before lo hi l w x e in
          let i = small.start in
          let d = drain_kept P N as' s₀ acting (length q) x.start r q (omega (arith, i)) h.told h.sound in
          admit_kept x (drain rules (length q) x.start r q).0 ((drain rules (length q) x.start r q).1 ++ points_of x) d.0 small
          (all_append (SoundPoint acting) (drain rules (length q) x.start r q).1 (points_of x) d.1 (sound_points l k j before x s small))

  pub byte_kept : (m : Feed State Act Why.Outcome Refused) (b : ℕ) → KeptFeed acting m → KeptFeed acting (byte rules limits (reader k) m b)
  byte_kept (reading (halted e) j part) b h = h
  byte_kept (reading (waits r u q) j part) b h = most (ltb 1000000 j) refl
    where
      lo : 1 ≤ j
      lo = h.1.first

      width : (c : Bool) → ltb (length part) 256 ≡ c → j ≤ 1000000
          → KeptFeed acting (cond c (reading (waits r u q) j (part ++ b ∷ [])) (reading (halted ((reader k).long j u (part ++ b ∷ []))) j part))
      width true e l = (
        h.0,
        record {
          short = omega (arith, length-append part (b ∷ []), ltb-true (length part) 256 e);
          first = h.1.first;
          last = h.1.last;
          empty = λ i. absurd (let y : ⊥ = omega (arith, l, i) in y);
        },
      )
      width false e l = (long_listed k j u lo l (part ++ b ∷ []) (omega (arith, length-append part (b ∷ []), ltb-false (length part) 256 e)), h.1)

      lf : (c : Bool) → eqb b 10 ≡ c → j ≤ 1000000
          → KeptFeed acting (cond c (reading (take rules limits (waits r u q) ((reader k).line j u part)) (suc j) [])
          (cond (ltb (length part) 256) (reading (waits r u q) j (part ++ b ∷ [])) (reading (halted ((reader k).long j u (part ++ b ∷ []))) j part)))
      lf true e l = (
        take_kept (waits r u q) j u part lo l h.1.short h.0,
        record { short = omega arith; first = omega arith; last = omega (arith, l); empty = λ i. refl },
      )
      lf false e l = width (ltb (length part) 256) refl l

      most : (c : Bool) → ltb 1000000 j ≡ c → KeptFeed acting (byte rules limits (reader k) (reading (waits r u q) j part) b)
      most true e = rw e (past_listed j (ltb-true 1000000 j e) h.1.last, h.1)
      most false e = rw e (lf (eqb b 10) refl (ltb-false 1000000 j e))

  pub feed_kept : (bs : List ℕ) (m : Feed State Act Why.Outcome Refused) → KeptFeed acting m → KeptFeed acting (feed rules limits (reader k) m bs)
  feed_kept [] m h = h
  feed_kept (b ∷ bs) m h = feed_kept bs (byte rules limits (reader k) m b) (byte_kept m b h)

  pub feeds_kept : (ps : List (List ℕ)) (m : Feed State Act Why.Outcome Refused) → KeptFeed acting m → KeptFeed acting (feeds rules limits (reader k) m ps)
  feeds_kept [] m h = h
  feeds_kept (p ∷ ps) m h = feeds_kept ps (feed rules limits (reader k) m p) (feed_kept p m h)

  -- ---- the end keeps it

  finish_kept : (m : Check State Act Why.Outcome Refused) → KeptCheck acting m → KeptResult (finish rules limits m)
  finish_kept (halted e) h = h
  finish_kept (waits r s q) h =
      let i = h.start in
      let b = latest_below acting q h.sound in
      told_judged P N as' s₀ (drain rules (length q) (suc (max s (latest q))) r q).0
      (drain_kept P N as' s₀ acting (length q) (suc (max s (latest q))) r q (omega (arith, i, b)) h.told h.sound).0

  pub close_kept : (m : Feed State Act Why.Outcome Refused) → KeptFeed acting m → KeptResult (close rules limits (reader k) m)
  close_kept (reading (halted e) j part) h = h.0
  close_kept (reading (waits r u q) j part) h = go (ltb 1000000 j) refl
    where
      -- past the millionth line nothing is left
      none : (l : List ℕ) → length l ≡ 0 → KeptResult (finish rules limits (take rules limits (waits r u q) ((reader k).line j u l)))
      none [] e = rw (empty_line_lem k j u) (finish_kept (waits r u q) h.0)
      none (c ∷ l) e = absurd (let y : ⊥ = omega arith in y)

      go : (b : Bool) → ltb 1000000 j ≡ b → KeptResult (finish rules limits (take rules limits (waits r u q) ((reader k).line j u part)))
      go true e = none part (h.1.empty (ltb-true 1000000 j e))
      go false e =
          finish_kept (take rules limits (waits r u q) ((reader k).line j u part))
          (take_kept (waits r u q) j u part h.1.first (ltb-false 1000000 j e) h.1.short h.0)
