-- Points that lie in lent numbers: the places as a list, a point put to a place, and the times of the first n. Assumes nothing.
use Prim.Native.Nat.{ℕ, zero, suc, ◌+◌, ◌*◌, ◌%◌, ◌≤◌, ◌<◌, max}
use mathlib.Core.Bool.{Bool, true, false}
use mathlib.Core.List.{List, [], ◌∷◌, ◌++◌, map, map-append}
use mathlib.Core.Path.{◌≡◌, refl, sym, ap, ◌∙◌}
use native.Mathlib.Nat.{add-zero}
use native.Mathlib.Numerals.{add-one}
use native.Mathlib.Omega.{arith}
use borrow.Author.Tests.{eq-eqb, ne_eqb}
use lib.Dec.{eqb}
use lib.ListN.{length, take, get_or, set, length-set, length-map}
use lib.Seq.{get_or-set_same, get_or-set_other, get_or-take, ext_get_or, take-suc, length-take-le}
use Rattle.plan_meaning.specs.Plan.{time, latest}
use Rattle.plan_meaning.specs.Stored.{point_in}
use Rattle.plan_meaning.specs.declared.Slot.{Slot}
use Rattle.plan_ordering.proofs.Mapping.{map_take}
use Rattle.plan_waiting.specs.declared.Queue.{Queue}
use Rattle.plan_waiting.specs.Waiting.{used, waiting, no_slot, sound_step, sound_all, Sound}
use Rattle.plan_waiting.specs.Lent.{when_in, slot_in, slot_at, places_from, places_in, queue_in, Put, Sized, TimedWords, TimedWord}
use Rattle.plan_waiting.proofs.Soundness.{sound_start, sound_duration, sound_snoc, timed_at}
use Rattle.plan_waiting.proofs.Points.{end_time, start_time, latest_more}

-- ---- the places

module _ (words : List ℕ) where
  places_many : (k i : ℕ) → length (places_from words k i) ≡ k
  unfolding places_from
  places_many zero i = refl
  places_many (suc k) i = ap suc (places_many k (i + 1))

  place_from_lem : (k i j : ℕ) → j < k → get_or (places_from words k i) j 0 ≡ get_or words (384 + (i + j)) 0
  unfolding places_from
  place_from_lem zero i j h = absurd (let y : ⊥ = omega arith in y)
  place_from_lem (suc k) i zero h = rw (add-zero i)
  place_from_lem (suc k) i (suc j) h = let e : i + 1 + j ≡ i + suc j = omega arith in rw (← e) (place_from_lem k (i + 1) j (omega arith))

  pub places_long : length (places_in words) ≡ 64
  places_long = places_many 64 0

  pub place_there : (i : ℕ) → i < 64 → get_or (places_in words) i 0 ≡ get_or words (384 + i) 0
  place_there i h = let e : 384 + (0 + i) ≡ 384 + i = omega arith in place_from_lem 64 0 i h ∙ ap (λ (k : ℕ). get_or words k 0) e

  pub places_more : (i : ℕ) → i < 64 → take (i + 1) (places_in words) ≡ take i (places_in words) ++ get_or words (384 + i) 0 ∷ []
  places_more i h = rw (add-one, ← place_there i h) (take-suc (places_in words) i 0 (omega (arith, places_long)))

-- the same numbers list the same places
pub places_same : (words words' : List ℕ) (n : ℕ) → n ≤ 64 → ((k : ℕ) → k < n → get_or words' (384 + k) 0 ≡ get_or words (384 + k) 0)
    → take n (places_in words') ≡ take n (places_in words)
places_same words words' n few h =
    let l : length (take n (places_in words)) ≡ n = length-take-le n (places_in words) (omega (arith, places_long words)) in
    let l' : length (take n (places_in words')) ≡ n = length-take-le n (places_in words') (omega (arith, places_long words')) in
    ext_get_or 0 (take n (places_in words')) (take n (places_in words)) (l' ∙ sym l)
    (λ k g.
    let b : k < n = omega arith in
    get_or-take n (places_in words') k 0 b ∙ place_there words' k (omega arith) ∙ h k b
    ∙ sym (get_or-take n (places_in words) k 0 b ∙ place_there words k (omega arith)))

pub mapped_at : (f : ℕ → Slot) (l : List ℕ) (i : ℕ) → i < length l → get_or (map f l) i no_slot ≡ f (get_or l i 0)
mapped_at f [] i h = absurd (let y : ⊥ = omega arith in y)
mapped_at f (x ∷ l) zero h = refl
mapped_at f (x ∷ l) (suc i) h = mapped_at f l i (omega arith)

module _ (words objects : List ℕ) where
  pub slots_long : length (queue_in words objects 0).slots ≡ 64
  slots_long = length-map (places_in words) (slot_at words objects) ∙ places_long words

  pub slot_there : (i : ℕ) → i < 64 → get_or (queue_in words objects 0).slots i no_slot ≡ slot_in words objects (get_or words (384 + i) 0 % 64)
  slot_there i h =
      mapped_at (slot_at words objects) (places_in words) i (omega (arith, places_long words))
      ∙ ap (λ (p : ℕ). slot_in words objects (p % 64)) (place_there words i h)

  pub used_is : (n : ℕ) → used (queue_in words objects n) ≡ map (slot_at words objects) (take n (places_in words))
  used_is n = sym (map_take (slot_at words objects) n (places_in words))

-- the same words of places hold the same points
pub slot_same : (words words' objects : List ℕ) (p : ℕ) → p < 64 → ((k : ℕ) → k < 384 → get_or words' k 0 ≡ get_or words k 0)
    → slot_in words' objects p ≡ slot_in words objects p
unfolding slot_in
slot_same words words' objects p h g =
    rw (
      g (6 * p) (omega arith),
      g (6 * p + 1) (omega arith),
      g (6 * p + 2) (omega arith),
      g (6 * p + 3) (omega arith),
      g (6 * p + 4) (omega arith),
      g (6 * p + 5) (omega arith),
    )

-- ---- numbers stored one after the other: the next at n + k

abbrev next : List ℕ → ℕ → ℕ → List ℕ → List ℕ
next l n k [] = l
next l n k (v ∷ vs) = next (set l (n + k) v) n (suc k) vs

next_other : (l : List ℕ) (n k : ℕ) (vs : List ℕ) (j : ℕ) → (n + k ≤ j → j < n + k + length vs → ⊥) → get_or (next l n k vs) j 0 ≡ get_or l j 0
next_other l n k [] j out = refl
next_other l n k (v ∷ vs) j out =
    next_other (set l (n + k) v) n (suc k) vs j (λ a b. out (omega (arith, a)) (omega (arith, b)))
    ∙ get_or-set_other l (n + k) j v 0 (λ e. out (omega (arith, e)) (omega (arith, e)))

next_there : (l : List ℕ) (n k : ℕ) (vs : List ℕ) (m : ℕ) → m < length vs → n + k + length vs ≤ length l → get_or (next l n k vs) (n + (k + m)) 0 ≡ get_or vs m 0
next_there l n k [] m h room = absurd (let y : ⊥ = omega arith in y)
next_there l n k (v ∷ vs) zero h room =
    rw (add-zero k) (next_other (set l (n + k) v) n (suc k) vs (n + k) (λ a b. omega (arith, a)) ∙ get_or-set_same l (n + k) v 0 (omega arith))
next_there l n k (v ∷ vs) (suc m) h room =
    let e : suc k + m ≡ k + suc m = omega arith in
    rw (← e) (next_there (set l (n + k) v) n (suc k) vs m (omega arith) (simp length-set (omega arith)))

-- a first number at n, and more after it
module _ (l : List ℕ) (n v : ℕ) (vs : List ℕ) where
  abbrev run : List ℕ
  run = next (set l n v) n 1 vs

  run_other : (j : ℕ) → (n ≤ j → j < n + 1 + length vs → ⊥) → get_or run j 0 ≡ get_or l j 0
  run_other j out =
      next_other (set l n v) n 1 vs j (λ a b. out (omega (arith, a)) b) ∙ get_or-set_other l n j v 0 (λ e. out (omega (arith, e)) (omega (arith, e)))

  run_first : n < length l → get_or run n 0 ≡ v
  run_first room = next_other (set l n v) n 1 vs n (λ a b. omega (arith, a)) ∙ get_or-set_same l n v 0 room

  run_next : (m : ℕ) → m < length vs → n + 1 + length vs ≤ length l → get_or run (n + (1 + m)) 0 ≡ get_or vs m 0
  run_next m h room = next_there (set l n v) n 1 vs m h (simp length-set (omega arith))

-- ---- a point put to place i

when_ends : (ends : Bool) → eqb (when_in ends) 3 ≡ ends
when_ends true = refl
when_ends false = refl

module _ (words objects : List ℕ) (i : ℕ) (s : Slot) where
  abbrev five : List ℕ
  five = s.step.action ∷ when_in s.ends ∷ s.step.duration ∷ s.step.start ∷ s.step.width ∷ []

  abbrev three : List ℕ
  three = s.step.b ∷ s.step.c ∷ s.step.d ∷ []

  abbrev pub words_with : List ℕ
  words_with = run words (6 * i) s.step.line five

  abbrev pub objects_with : List ℕ
  objects_with = run objects (4 * i) s.step.a three

  module _ (long : length words ≡ 640) (wide : length objects ≡ 256) (h : i < 64) where
    word : (m : ℕ) → m < 5 → get_or words_with (6 * i + (1 + m)) 0 ≡ get_or five m 0
    word m k = run_next words (6 * i) s.step.line five m k (omega arith)

    object : (m : ℕ) → m < 3 → get_or objects_with (4 * i + (1 + m)) 0 ≡ get_or three m 0
    object m k = run_next objects (4 * i) s.step.a three m k (omega arith)

    put_same : slot_in words_with objects_with i ≡ s
    unfolding slot_in
    put_same =
        rw (
          run_first words (6 * i) s.step.line five (omega arith),
          word 0 (omega arith),
          word 1 (omega arith),
          word 2 (omega arith),
          word 3 (omega arith),
          word 4 (omega arith),
          run_first objects (4 * i) s.step.a three (omega arith),
          object 0 (omega arith),
          object 1 (omega arith),
          object 2 (omega arith),
          when_ends s.ends,
        )

  module _ (j : ℕ) (away : j ≡ i → ⊥) where
    word_away : (m : ℕ) → m < 6 → get_or words_with (6 * j + m) 0 ≡ get_or words (6 * j + m) 0
    word_away m k = run_other words (6 * i) s.step.line five (6 * j + m) (λ a b. away (omega (arith, a, b)))

    object_away : (m : ℕ) → m < 4 → get_or objects_with (4 * j + m) 0 ≡ get_or objects (4 * j + m) 0
    object_away m k = run_other objects (4 * i) s.step.a three (4 * j + m) (λ a b. away (omega (arith, a, b)))

    put_other : slot_in words_with objects_with j ≡ slot_in words objects j
    unfolding slot_in
    put_other =
        rw (
          run_other words (6 * i) s.step.line five (6 * j) (λ a b. away (omega (arith, a, b))),
          word_away 1 (omega arith),
          word_away 2 (omega arith),
          word_away 3 (omega arith),
          word_away 4 (omega arith),
          word_away 5 (omega arith),
          run_other objects (4 * i) s.step.a three (4 * j) (λ a b. away (omega (arith, a, b))),
          object_away 1 (omega arith),
          object_away 2 (omega arith),
          object_away 3 (omega arith),
        )

  next_long : (l : List ℕ) (n k : ℕ) (vs : List ℕ) → length (next l n k vs) ≡ length l
  next_long l n k [] = refl
  next_long l n k (v ∷ vs) = next_long (set l (n + k) v) n (suc k) vs ∙ length-set l (n + k) v

  pub slot_put : Sized words objects → i < 64 → Put words objects words_with objects_with i s
  slot_put sized h =
      record {
        there = put_same sized.0 sized.1 h;
        other = put_other;
        behind = λ k g. run_other words (6 * i) s.step.line five k (λ a b. omega (arith, a, b));
        long = next_long (set words (6 * i) s.step.line) (6 * i) 1 five ∙ length-set words (6 * i) s.step.line ∙ sized.0;
        wide = next_long (set objects (4 * i) s.step.a) (4 * i) 1 three ∙ length-set objects (4 * i) s.step.a ∙ sized.1;
      }

-- ---- times

module _ (words : List ℕ) (i : ℕ) where
  pub word_start : TimedWord words i → get_or words (6 * i + 4) 0 < 1000000000000
  unfolding slot_in
  word_start t = sound_start t.1.0 (slot_in words t.0 i).step t.1.1

  pub word_duration : TimedWord words i → get_or words (6 * i + 3) 0 < 1000000000000
  unfolding slot_in
  word_duration t = sound_duration t.1.0 (slot_in words t.0 i).step t.1.1

  module _ (objects : List ℕ) where
    pub ends_there : get_or words (6 * i + 2) 0 ≡ 3 → (slot_in words objects i).ends ≡ true
    unfolding slot_in
    ends_there e = eq-eqb (get_or words (6 * i + 2) 0) 3 e

    pub begins_there : (get_or words (6 * i + 2) 0 ≡ 3 → ⊥) → (slot_in words objects i).ends ≡ false
    unfolding slot_in
    begins_there e = ne_eqb (get_or words (6 * i + 2) 0) 3 e

    pub end_there : get_or words (6 * i + 2) 0 ≡ 3 → time (point_in (slot_in words objects i)) ≡ get_or words (6 * i + 4) 0 + get_or words (6 * i + 3) 0
    unfolding slot_in
    end_there e = end_time (slot_in words objects i) (ends_there e)

    pub start_there : (get_or words (6 * i + 2) 0 ≡ 3 → ⊥) → time (point_in (slot_in words objects i)) ≡ get_or words (6 * i + 4) 0
    unfolding slot_in
    start_there e = start_time (slot_in words objects i) (begins_there e)

pub ruleset point_times = (word_start, word_duration, ends_there, begins_there, end_there, start_there)

pub timed_place : (words : List ℕ) (n i : ℕ) → TimedWords words n → i < n → TimedWord words (get_or words (384 + i) 0 % 64)
timed_place words n i t h =
    let o = t.0 in
    let few = t.1.1.0 in
    (o, rw (← slot_there words o i (omega arith)) (timed_at (queue_in words o n) i (slots_long words o) t.1 h))

-- ---- one point more

module _ (words objects : List ℕ) (i : ℕ) (h : i < 64) where
  pub latest_place : latest (waiting (queue_in words objects (i + 1)))
      ≡ max (time (point_in (slot_in words objects (get_or words (384 + i) 0 % 64)))) (latest (waiting (queue_in words objects i)))
  latest_place = rw (← slot_there words objects i h) (latest_more (queue_in words objects 0).slots i (omega (arith, slots_long words objects)))

-- ---- a point more after those of a queue

module _ (q r : Queue) (s : Slot) (there : used r ≡ used q ++ s ∷ []) where
  pub grown_waits : waiting r ≡ waiting q ++ point_in s ∷ []
  grown_waits = ap (map point_in) there ∙ map-append point_in (used q) (s ∷ [])

  pub grown_sound : (m : ℕ) → r.count ≤ 64 → Sound m q → sound_step m s.step ≡ true → Sound m r
  grown_sound m few h k = (few, ap (sound_all m) there ∙ sound_snoc m (used q) s h.1 k)
