-- Step 5 for the line at a place, and for all lines as they came: a line that held, and looks at nothing that was written, need not be judged. Assumes nothing.
use Prim.Native.Nat.{ℕ, ◌+◌, ◌%◌, ◌≤◌, ◌<◌}
use mathlib.Core.Bool.{Bool, true, false, true≢false}
use mathlib.Core.List.{List, ◌∷◌}
use mathlib.Core.Logic.{◌⊎◌, inl, inr}
use mathlib.Core.Path.{◌≡◌, refl, sym, ap, ◌∙◌}
use native.Mathlib.Nat.{mod-lt, zero-lt-suc, eq-or-lt_of_le}
use native.Mathlib.Numerals.{add-one}
use native.Mathlib.Omega.{arith}
use lib.ListN.{length, length-take, drop, get_or, set, length-set, drop_of_length-le}
use lib.Seq.{get_or-set_same, get_or-set_other, get_or-take, drop-cons, length-take-le}
use Rattle.domain_prepared_meaning.specs.Decode.{action_at}
use Rattle.happening_meaning.specs.State.{State}
use Rattle.happening_meaning.specs.Happening as H
use Rattle.happening_meaning.specs.Happening.{step_of, is_done, spans, spanning}
use Rattle.happening_meaning.specs.declared.Outcome.{Outcome}
use Rattle.happening_meaning.specs.declared.Outcome.TheVariants.{Done}
use Rattle.happening_meaning.proofs.Failing.{Fails, fails}
use Rattle.happening_forms.specs.Summed.{summed}
use Rattle.happening_placing.specs.Given.{nameless, line_at}
use Rattle.happening_placing.proofs.Placing.{four_are}
use Rattle.happening_steps.proofs.Promised.{spanning_end, spanning_turn, spanning_fails}
use Rattle.plan_meaning.specs.declared.Step.{Step}
use Rattle.plan_meaning.specs.declared.Slot.{Slot}
use Rattle.plan_waiting.specs.Waiting.{used, no_slot}
use Rattle.plan_waiting.specs.Lent.{slot_in, queue_in, place_at, Kept}
use Rattle.plan_waiting.proofs.LentPlaces.{slots_long, slot_there}
use Rattle.plan_running.specs.Lines.{step_on, is_open, lines_on, slot_on, Holds, Spares, Spared, Spanned, Judged}

-- ---- one line

-- the line at place p, by the numbers that say it
pub line_on : (rows words objects : List ℕ) (p : ℕ) {l a : ℕ} → l ≡ (slot_in words objects p).step.line → a ≡ (slot_in words objects p).step.action
    → line_at rows objects p l a (slot_in words objects p).step.duration ≡ step_on rows (slot_in words objects p).step
unfolding slot_in
line_on rows words objects p el ea =
    rw (el, ea) (ap (step_with (slot_in words objects p).step) (four_are objects p refl refl refl refl))
  where
    step_with : Step → List ℕ → H.Step
    step_with x os = step_of x.line (action_at rows (x.action % 32) nameless) os x.duration

-- nothing is claimed of any line
pub spanned_none : (rows words objects : List ℕ) (n t : ℕ) (watches : List ℕ) (s : State) → length watches ≡ 65
    → Spanned rows words objects n t (set watches 64 0) s
spanned_none rows words objects n t watches s long =
    record {
      long = length-set watches 64 0 ∙ long;
      lines = λ i h g l.
          let z : get_or (set watches 64 0) 64 0 ≡ 0 = get_or-set_same watches 64 0 0 (omega arith) in
          absurd (let y : ⊥ = omega (arith, l) in y);
    }

-- ---- the lines as they came

module _ (rows words objects : List ℕ) (n t : ℕ) (s : State) where
  abbrev waits : List Slot
  waits = used (queue_in words objects n)

  -- of the lines from number i on
  abbrev spans_from : ℕ → Outcome
  spans_from i = spanning summed s (lines_on rows t (drop i waits))

  -- the first i points are gone through
  pub record Judging (watches₀ watches : List ℕ) (i : ℕ) : Type 0 where
    pub most : i ≤ n
    pub long : length watches ≡ 65
    pub rest : (k : ℕ) → i ≤ k → k < n → get_or watches (place_at words k) 0 ≡ get_or watches₀ (place_at words k) 0
    pub done : (k : ℕ) → k < i → is_open t (slot_on words objects k) ≡ true → Holds rows (slot_on words objects k) (get_or watches (place_at words k) 0) s
    pub left : spans_from i ≡ spanning summed s (lines_on rows t waits)

  module _ {watches₀ watches : List ℕ} {i : ℕ} (k : Judging watches₀ watches i) where
    pub spares_here : {written : ℕ} → Spared rows words objects n watches₀ written s → i < n → {p : ℕ} → p ≡ place_at words i
        → (slot_in words objects p).ends ≡ true → (slot_in words objects p).step.start < get_or watches₀ 64 0
        → Spares rows (slot_in words objects p) (get_or watches p 0) written s
    spares_here w h ep = rw (ep, k.rest i (omega arith) h) (w.lines i h)

    module _ (kept : Kept words objects n) (h : i < n) {p : ℕ} (ep : p ≡ place_at words i) {watches' : List ℕ} {o : Outcome}
        (j : Judged rows (slot_in words objects p) p t watches watches' s o) where
      away : (m : ℕ) → m < n → (m ≡ i → ⊥) → place_at words m ≡ p → ⊥
      away m l d e = let few = kept.few in d (kept.apart m i (omega arith) (omega arith) (e ∙ ep))

      next : drop i waits ≡ slot_in words objects p ∷ drop (i + 1) waits
      next =
          let few = kept.few in
          let l : length waits ≡ n = length-take-le n (queue_in words objects 0).slots (omega (arith, slots_long words objects)) in
          drop-cons waits i no_slot (omega arith)
          ∙ rw (add-one, get_or-take n (queue_in words objects 0).slots i no_slot h, slot_there words objects i (omega arith), ep)

      lines_open : is_open t (slot_in words objects p) ≡ true
          → lines_on rows t (drop i waits) ≡ step_on rows (slot_in words objects p).step ∷ lines_on rows t (drop (i + 1) waits)
      lines_open g = rw (next, g)

      lines_shut : is_open t (slot_in words objects p) ≡ false → lines_on rows t (drop (i + 1) waits) ≡ lines_on rows t (drop i waits)
      lines_shut g = sym (rw (next, g))

      pub judging_fails : Fails o → o ≡ spanning summed s (lines_on rows t waits)
      judging_fails f = go (is_open t (slot_in words objects p)) refl ∙ k.left
        where
          go : (b : Bool) → is_open t (slot_in words objects p) ≡ b → o ≡ spans_from i
          go true g = spanning_fails summed s (lines_open g) (rw g at j.outcome) f
          go false g = let z : o ≡ Done = rw g at j.outcome in absurd (true≢false (sym (ap is_done z) ∙ fails o f))

      pub judging_dropped : Spanned rows words objects n t (set watches' 64 0) s
      judging_dropped = spanned_none rows words objects n t watches' s j.long

      module _ (d : o ≡ Done) where
        here : is_open t (slot_in words objects p) ≡ true → Holds rows (slot_in words objects p) (get_or watches' p 0) s
        here g = (j.watch g, sym (rw g at j.outcome) ∙ d)

        below : (m : ℕ) → m < i + 1 → is_open t (slot_on words objects m) ≡ true → Holds rows (slot_on words objects m) (get_or watches' (place_at words m) 0) s
        below m a g = go (eq-or-lt_of_le l)
          where
            l : m ≤ i
            l = omega arith

            go : (m ≡ i) ⊎ (m < i) → Holds rows (slot_on words objects m) (get_or watches' (place_at words m) 0) s
            go (inl e) =
                let f : is_open t (slot_on words objects m) ≡ true → Holds rows (slot_on words objects m) (get_or watches' (place_at words m) 0) s =
                rw (e, ← ep) here in
                f g
            go (inr b) =
                let h = k.done m b g in
                (j.other (place_at words m) (away m (omega arith) (λ e. omega arith)) ∙ h.0, h.1)

        turn : spans_from (i + 1) ≡ spans_from i
        turn = go (is_open t (slot_in words objects p)) refl
          where
            go : (b : Bool) → is_open t (slot_in words objects p) ≡ b → spans_from (i + 1) ≡ spans_from i
            go true g = spanning_turn summed s (lines_open g) (rw g at j.outcome) d
            go false g = ap (spanning summed s) (lines_shut g)

        pub judging_next : Judging watches₀ watches' (i + 1)
        judging_next =
            record {
              most = omega arith;
              long = j.long;
              rest = λ m a b. j.other (place_at words m) (away m b (λ e. omega arith)) ∙ k.rest m (omega arith) b;
              done = below;
              left = turn ∙ k.left;
            }

    -- all are gone through
    module _ (h : n ≤ i) where
      pub judging_end : Done ≡ spanning summed s (lines_on rows t waits)
      judging_end =
          let l : length waits ≤ i = omega (arith, length-take n (queue_in words objects 0).slots) in
          spanning_end summed s (ap (lines_on rows t) (drop_of_length-le waits l)) ∙ k.left

      pub judging_spanned : (b : ℕ) → Spanned rows words objects n t (set watches 64 b) s
      judging_spanned b =
          record {
            long = length-set watches 64 b ∙ k.long;
            lines = λ m a g l.
                let few : place_at words m < 64 = mod-lt (get_or words (384 + m) 0) (zero-lt-suc 63) in
                rw (get_or-set_other watches 64 (place_at words m) b 0 (λ e. omega arith)) (k.done m (omega arith) g);
          }
