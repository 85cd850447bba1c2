-- What is known between two happenings: at first, when a line is entered, through a happening, and when its points are taken out. Assumes nothing.
use Prim.Native.Nat.{ℕ, zero, suc, ◌+◌, ◌≤◌, ◌<◌}
use mathlib.Core.Bool.{Bool, true, false, true≢false, ◌&&◌}
use mathlib.Core.List.{List, [], ◌∷◌, map}
use mathlib.Core.Path.{◌≡◌, refl, sym, ap, ◌∙◌}
use native.Mathlib.Nat.{mod-lt, zero-lt-suc}
use native.Mathlib.Omega.{arith}
use borrow.Author.Tests.{leb-true, lt-ltb, le-ltb, ltb-true, ltb-false, eqb-true}
use lib.Dec.{leb, ltb}
use lib.IntN.{ℤ}
use lib.ListN.{length, get_or, replicate, length-map, length-replicate}
use lib.Seq.{get_or-take, length-take-le}
use Rattle.happening_meaning.specs.State.{State}
use Rattle.happening_meaning.specs.Happening.{Point, all_marks, happened, happening}
use Rattle.happening_meaning.specs.declared.Outcome.{Outcome}
use Rattle.happening_forms.specs.Summed.{summed}
use Rattle.happening_state.specs.States.{state_in}
use Rattle.happening_writes.specs.Masks.{mask_from}
use Rattle.happening_meetings.specs.Marks.{no_marks}
use Rattle.happening_steps.proofs.Unwatched.{unwatched}
use Rattle.plan_meaning.specs.Lists.{keep}
use Rattle.plan_meaning.specs.Plan.{time, from}
use Rattle.plan_meaning.specs.Stored.{point_in}
use Rattle.plan_meaning.specs.declared.Step.{Step}
use Rattle.plan_meaning.specs.declared.Slot.{Slot}
use Rattle.plan_meaning.proofs.Lists.{All, all_map, all_keep, keep_none, keep_shorter}
use Rattle.plan_waiting.specs.Waiting.{used, waiting, no_slot}
use Rattle.plan_waiting.specs.Lent.{queue_in, place_at, Kept, Left, Entered}
use Rattle.plan_waiting.proofs.LentPlaces.{slots_long, slot_there}
use Rattle.plan_running.specs.Running.{Watched, Poised}
use Rattle.plan_running.specs.Lines.{step_on, point_on, is_at, is_open, points_on, lines_on, slot_on, Holds, Spared, Spanned, Claimed}

-- ---- at first nothing is claimed

pub poised_none : (rows words objects : List ℕ) (n : ℕ) (facts : List ℕ) (numbers fresh : List ℤ) → Kept words objects n → fresh ≡ numbers
    → Poised rows words objects n no_marks (replicate 65 0) facts numbers fresh
poised_none rows words objects n facts numbers fresh kept same =
    record {
      kept = kept;
      clean = refl;
      same = same;
      watched = record { long = length-replicate {A = ℕ} 65 0; lines = λ i h e l. absurd (let y : ⊥ = omega (arith, l) in y) };
    }

-- ---- a line is entered: all that is claimed is of lines that start before it

module _ (rows words objects : List ℕ) (n : ℕ) (marks watches facts : List ℕ) (numbers fresh : List ℤ) (words' objects' : List ℕ) (r : ℕ) (x : Step) where
  pub poised_enter : Poised rows words objects n marks watches facts numbers fresh → Kept words' objects' r → Entered words objects n words' objects' r x
      → get_or watches 64 0 ≤ x.start → Poised rows words' objects' r marks watches facts numbers fresh
  poised_enter p kept e b =
      record { kept = kept; clean = p.clean; same = p.same; watched = record { long = p.watched.long; lines = λ i h. by i h (ltb i n) refl } }
    where
      by : (i : ℕ) → i < r → (c : Bool) → ltb i n ≡ c → (slot_on words' objects' i).ends ≡ true → (slot_on words' objects' i).step.start < get_or watches 64 0
          → Holds rows (slot_on words' objects' i) (get_or watches (place_at words' i) 0) (state_in facts numbers)
      by i h true c = let w = e.was i (ltb-true i n c) in rw (w.1, w.0) (p.watched.lines i (ltb-true i n c))
      by i h false c = λ g l.
          let z : (slot_on words' objects' i).step.start ≡ x.start = ap (λ (y : Step). y.start) (e.new i (ltb-false i n c) h) in
          absurd (let y : ⊥ = omega (arith, l) in y)

-- ---- through a happening

module _ {rows words objects : List ℕ} {n : ℕ} {watches : List ℕ} {s : State} (w : Watched rows words objects n watches s) where
  -- what looks at nothing that was written holds in the new state
  pub watched_spared : (ps : List Point) {o : Outcome} {s' : State} {written : ℕ} → happened o s' ≡ happening summed s ps
      → written ≡ mask_from 0 (all_marks summed ps) → Spared rows words objects n watches written s'
  watched_spared ps eh ew =
      record {
        long = w.long;
        lines = λ i h e l.
            let k = w.lines i h e l in
            (k.0, λ z. unwatched summed s ps eh (step_on rows (slot_on words objects i).step) (rw ew at z) ∙ k.1);
      }

-- ---- all points have the time of the happening

keep_full : (f : Slot → Bool) (l : List Slot) → length (keep f l) ≡ length l → All (λ s. f s ≡ true) l
keep_full f [] e = tt
keep_full f (s ∷ ss) e = go (f s) refl (keep_full f ss)
  where
    go : (b : Bool) → f s ≡ b → (length (keep f ss) ≡ length ss → All (λ x. f x ≡ true) ss) → All (λ x. f x ≡ true) (s ∷ ss)
    go true h ih = (h, ih (omega (arith, rw h at e)))
    go false h ih = absurd (let y : ⊥ = omega (arith, rw h at e, keep_shorter f ss) in y)

and_not : (a b : Bool) → b ≡ false → (a && b) ≡ false
and_not true b e = e
and_not false b e = refl

and_so : (a b : Bool) → a ≡ true → b ≡ true → (a && b) ≡ true
and_so true b d e = e
and_so false b d e = d

shut_at : (t : ℕ) (s : Slot) → is_at t s ≡ true → is_open t s ≡ false
shut_at t s h =
    and_not s.ends (ltb t (time (point_in s))) (le-ltb t (time (point_in s)) (omega (arith, eqb-true (time (point_in s)) t h)))

all_there : (P : Slot → Type 0) (l : List Slot) (i : ℕ) → i < length l → All P l → P (get_or l i no_slot)
all_there P [] i h a = absurd (let y : ⊥ = omega arith in y)
all_there P (s ∷ ss) zero h a = a.0
all_there P (s ∷ ss) (suc i) h a = all_there P ss i (omega arith) a.1

module _ (words objects : List ℕ) (n : ℕ) (few : n ≤ 64) where
  abbrev waits : List Slot
  waits = used (queue_in words objects n)

  waits_long : length waits ≡ n
  waits_long = length-take-le n (queue_in words objects 0).slots (omega (arith, slots_long words objects))

  waits_there : (i : ℕ) → i < n → get_or waits i no_slot ≡ slot_on words objects i
  waits_there i h = get_or-take n (queue_in words objects 0).slots i no_slot h ∙ slot_there words objects i (omega arith)

  module _ (t : ℕ) {k : ℕ} (ek : k ≡ length (points_on [] t waits)) (all : k ≡ n) where
    all_shut : All (λ s. is_open t s ≡ false) waits
    all_shut =
        all_map (shut_at t) waits
        (keep_full (is_at t) waits (sym (length-map (keep (is_at t) waits) (point_on [])) ∙ sym ek ∙ all ∙ sym waits_long))

    -- then no line is under way
    pub none_open : (rows : List ℕ) → lines_on rows t waits ≡ []
    none_open rows = ap (map (λ (s : Slot). step_on rows s.step)) (keep_none (is_open t) waits all_shut)

    pub none_spanned : (rows watches : List ℕ) (s : State) → length watches ≡ 65 → Spanned rows words objects n t watches s
    none_spanned rows watches s long =
        record {
          long = long;
          lines = λ i h g.
              let shut = all_there (λ x. is_open t x ≡ false) waits i (omega (arith, waits_long)) all_shut in
              absurd (true≢false (sym g ∙ (rw (waits_there i h) at shut)));
        }

-- ---- its points are taken out

module _ {rows words objects : List ℕ} {n t : ℕ} {watches : List ℕ} {s : State} (w : Spanned rows words objects n t watches s) {words' : List ℕ} {r : ℕ}
    (kept : Kept words' objects r) (gone : waiting (queue_in words' objects r) ≡ from (suc t) (waiting (queue_in words objects n)))
    (left : Left words objects n words' r) where
  later_all : All (λ p. t < time p) (waiting (queue_in words' objects r))
  later_all = rw gone (all_keep (λ p. leb (suc t) (time p)) (λ p e. leb-true (suc t) (time p) e) (waiting (queue_in words objects n)))

  later_there : (i : ℕ) → i < r → t < time (point_in (slot_on words' objects i))
  later_there i h =
      rw (← waits_there words' objects r kept.few i h)
      (all_there (λ x. t < time (point_in x)) (used (queue_in words' objects r)) i (omega (arith, waits_long words' objects r kept.few))
      (unmapped (used (queue_in words' objects r)) later_all))
    where
      unmapped : (l : List Slot) → All (λ p. t < time p) (map point_in l) → All (λ x. t < time (point_in x)) l
      unmapped [] a = tt
      unmapped (x ∷ xs) a = (a.0, unmapped xs a.1)

  pub watched_left : Watched rows words' objects r watches s
  watched_left =
      record {
        long = w.long;
        lines = λ i h e l.
            let f = left.from i h in
            let j = f.0 in
            let x = slot_on words' objects i in
            let under : is_open t x ≡ true = and_so x.ends (ltb t (time (point_in x))) e (lt-ltb t (time (point_in x)) (later_there i h)) in
            rw (f.3, f.2) (w.lines j f.1 (rw f.3 at under) (rw f.3 at l));
      }

-- ---- less is claimed

pub watched_less : {rows words objects : List ℕ} {n : ℕ} {watches watches' : List ℕ} {s : State} {b : ℕ} → Watched rows words objects n watches s
    → Claimed watches watches' b → Watched rows words objects n watches' s
watched_less {words = words} w c =
    record {
      long = c.long;
      lines = λ i h e l.
          let few : place_at words i < 64 = mod-lt (get_or words (384 + i) 0) (zero-lt-suc 63) in
          rw (c.other (place_at words i) (λ z. omega arith)) (w.lines i h e (omega (arith, l, c.less)));
    }
