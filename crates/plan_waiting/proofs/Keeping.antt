-- What is kept of the points that wait: the first key tells the soonest time, those of its time are the happening, and what is kept stays so where a point is
-- entered and where a happening is taken out. Assumes nothing.
use Prim.Native.Nat.{ℕ, zero, suc, ◌+◌, ◌-◌, ◌*◌, ◌%◌, ◌≤◌, ◌<◌, min}
use mathlib.Core.Bool.{Bool, true, false, cond, not}
use mathlib.Core.List.{List, [], ◌∷◌, map}
use mathlib.Core.Path.{◌≡◌, refl, sym, ap, ap₂, ◌∙◌}
use native.Mathlib.Nat.{mod-lt, zero-lt-suc}
use native.Mathlib.Omega.{arith}
use borrow.Author.Tests.{eqb-true, eqb-false, le-leb, lt-leb}
use lib.Dec.{eqb, leb}
use lib.ListN.{length, take, drop, get_or, set, length-set, length-drop}
use lib.Seq.{get_or-set_same, get_or-set_other, get_or-take, get_or-drop, ext_get_or, take-take, drop-drop, length-take-le}
use Rattle.plan_meaning.specs.Lists.{keep}
use Rattle.plan_meaning.specs.Plan.{time, from}
use Rattle.plan_meaning.specs.Machine as Machine
use Rattle.plan_meaning.specs.Stored.{point_in}
use Rattle.plan_meaning.specs.declared.Slot.{Slot}
use Rattle.plan_meaning.proofs.Lists.{All, keep_same}
use Rattle.plan_ordering.specs.Order.{soonest, ordered, front}
use Rattle.plan_ordering.specs.Order as Order
use Rattle.plan_ordering.specs.Keys.{time_of, keys_in}
use Rattle.plan_ordering.proofs.Ordering.{Sorted, NotBelow, ordered_sorted, soonest_ordered, soonest_first, soonest_not_below}
use Rattle.plan_ordering.proofs.Ordering.{happening, remaining, length_ordered}
use Rattle.plan_ordering.proofs.Mapping.{map_take, map_drop, keep_map, drop_take, front_map, front_few, all_ordered, ordered_same, map_same}
use Rattle.plan_waiting.specs.Waiting.{used, waiting, Sound}
use Rattle.plan_waiting.specs.Lent.{slot_in, slot_at, places_in, queue_in, begin_in, when_at, key_at, keys_of, place_of, place_at, Kept, Due, Going, Sifted, Left}
use Rattle.plan_waiting.proofs.Soundness.{sound_keep}
use Rattle.plan_waiting.proofs.LentPlaces.{places_long, places_same, place_there, used_is, slot_same}

-- ---- keys

module _ (slot : ℕ → Slot) where
  pub key_time : (p : ℕ) → time_of (key_at slot p) ≡ when_at slot p
  key_time p = let l : p % 64 < 64 = mod-lt p (zero-lt-suc 63) in omega arith

  key_place : (p : ℕ) → key_at slot p % 64 ≡ p % 64
  key_place p = let l : p % 64 < 64 = mod-lt p (zero-lt-suc 63) in omega arith

  -- the soonest time of points is that of their places
  soonest_places : (b : ℕ) (ps : List ℕ) → Machine.soonest b (map point_in (map slot ps)) ≡ soonest (when_at slot) b ps
  unfolding soonest
  soonest_places b [] = refl
  soonest_places b (p ∷ ps) = ap (min (when_at slot p)) (soonest_places b ps)

-- two ways to find what lies at a place that agree on the places in question give the same keys
pub keys_same : (f g : ℕ → Slot) (ps : List ℕ) → All (λ p. f p ≡ g p) ps → keys_of f ps ≡ keys_of g ps
keys_same f g ps h =
    ap (map (key_at f)) (ordered_same (when_at f) (when_at g) ps (times ps h))
    ∙ map_same (key_at f) (key_at g) (ordered (when_at g) ps) (all_ordered (λ p. key_at f p ≡ key_at g p) (when_at g) ps (keys ps h))
  where
    times : (qs : List ℕ) → All (λ p. f p ≡ g p) qs → All (λ p. when_at f p ≡ when_at g p) qs
    times [] a = tt
    times (q ∷ qs) a = (ap (λ (s : Slot). time (point_in s)) a.0, times qs a.1)

    keys : (qs : List ℕ) → All (λ p. f p ≡ g p) qs → All (λ p. key_at f p ≡ key_at g p) qs
    keys [] a = tt
    keys (q ∷ qs) a = (ap (λ (s : Slot). time (point_in s) * 64 + q % 64) a.0, keys qs a.1)

-- the places of keys
places_keys : (slot : ℕ → Slot) (ps : List ℕ) → map place_of (map (key_at slot) ps) ≡ map place_of ps
places_keys slot [] = refl
places_keys slot (p ∷ ps) = ap₂ ◌∷◌ (key_place slot p) (places_keys slot ps)

-- a key finds what lies at its place
slots_keys : (words objects : List ℕ) (ps : List ℕ) → map (slot_at words objects) (map (key_at (slot_at words objects)) ps) ≡ map (slot_at words objects) ps
slots_keys words objects [] = refl
slots_keys words objects (p ∷ ps) = ap₂ ◌∷◌ (ap (slot_in words objects) (key_place (slot_at words objects) p)) (slots_keys words objects ps)

-- the same numbers from b on
pub drop_same : (l m : List ℕ) (b : ℕ) → length m ≡ length l → ((k : ℕ) → b ≤ k → get_or m k 0 ≡ get_or l k 0) → drop b m ≡ drop b l
drop_same l m b e h =
    ext_get_or 0 (drop b m) (drop b l) (length-drop b m ∙ ap (λ (n : ℕ). n - b) e ∙ sym (length-drop b l))
    (λ i k. get_or-drop b m i 0 ∙ h (b + i) (omega arith) ∙ sym (get_or-drop b l i 0))

-- of points that are not before a time, those that are not after it are at it
not_later : (when : ℕ → ℕ) (t : ℕ) (ps : List ℕ) → NotBelow when t ps → All (λ p. eqb (when p) t ≡ not (leb (suc t) (when p))) ps
unfolding NotBelow
not_later when t [] h = tt
not_later when t (p ∷ ps) h = (go (eqb (when p) t) refl, not_later when t ps h.1)
  where
    go : (b : Bool) → eqb (when p) t ≡ b → b ≡ not (leb (suc t) (when p))
    go true e = let z : when p ≡ t = eqb-true (when p) t e in rw (lt-leb (suc t) (when p) (omega arith))
    go false e = let z : when p ≡ t → ⊥ = eqb-false (when p) t e in rw (le-leb (suc t) (when p) (omega (arith, h.0)))

-- number i of k is in m
abbrev Found : List ℕ → List ℕ → ℕ → Type 0
Found k m i = (j : ℕ) × (j < length m) × (get_or k i 0 ≡ get_or m j 0)

-- what passes a test was in the list
kept_from : (f : ℕ → Bool) (l : List ℕ) (i : ℕ) → i < length (keep f l) → Found (keep f l) l i
kept_from f [] i h = absurd (let y : ⊥ = omega arith in y)
kept_from f (x ∷ l) i h = go (f x) (kept_from f l) i h
  where
    further : (i : ℕ) → Found (keep f l) l i → Found (keep f l) (x ∷ l) i
    further i k = (suc k.0, omega (arith, k.1), k.2)

    go : (b : Bool) → ((i : ℕ) → i < length (keep f l) → Found (keep f l) l i) → (i : ℕ) → i < length (cond b (x ∷ keep f l) (keep f l))
        → Found (cond b (x ∷ keep f l) (keep f l)) (x ∷ l) i
    go true ih zero h = (0, omega arith, refl)
    go true ih (suc i) h = further i (ih i (omega arith))
    go false ih i h = further i (ih i h)

-- ---- what is kept

module _ (words objects : List ℕ) (n : ℕ) (h : Kept words objects n) where
  abbrev ps : List ℕ
  ps = take n (places_in words)

  abbrev slot : ℕ → Slot
  slot = slot_at words objects

  waits_listed : (b : ℕ) → Machine.soonest b (waiting (queue_in words objects n)) ≡ soonest (when_at slot) b ps
  waits_listed b = ap (λ (l : List Slot). Machine.soonest b (map point_in l)) (used_is words objects n) ∙ soonest_places slot b ps

  waits : (b : ℕ) → Machine.soonest b (waiting (queue_in words objects n)) ≡ soonest (when_at slot) b (ordered (when_at slot) ps)
  waits b = waits_listed b ∙ sym (soonest_ordered (when_at slot) b ps)

  first_time : (b : ℕ) (s : List ℕ) → Sorted (when_at slot) s → keys_in words (begin_in words) n ≡ map (key_at slot) s → 0 < n
      → soonest (when_at slot) b s ≡ min (time_of (get_or words (begin_in words) 0)) b
  first_time b [] o e g =
      let l : length (keys_in words (begin_in words) n) ≡ n =
      length-take-le n (drop (begin_in words) words) (simp length-drop (omega (arith, h.inside.within, h.inside.sized))) in
      absurd (let z : length (keys_in words (begin_in words) n) ≡ 0 = ap length e in let y : ⊥ = omega arith in y)
  first_time b (p ∷ s) o e g =
      let k : get_or words (begin_in words) 0 ≡ key_at slot p =
      ap (λ (i : ℕ). get_or words i 0) (let z : begin_in words ≡ begin_in words + 0 = omega arith in z)
      ∙ sym (get_or-take n (drop (begin_in words) words) 0 0 g ∙ get_or-drop (begin_in words) words 0 0) ∙ ap (λ (l : List ℕ). get_or l 0 0) e in
      soonest_first (when_at slot) b p s o ∙ ap (λ (t : ℕ). min t b) (sym (ap time_of k ∙ key_time slot p))

  pub next_first : (b : ℕ) → 0 < n → Machine.soonest b (waiting (queue_in words objects n)) ≡ min (time_of (get_or words (begin_in words) 0)) b
  next_first b g = waits b ∙ first_time b (ordered (when_at slot) ps) (ordered_sorted (when_at slot) ps) h.holds g

  -- ---- the happening at the soonest time

  module _ (t b : ℕ) (et : t ≡ Machine.soonest b (waiting (queue_in words objects n))) where
    none_below : NotBelow (when_at slot) t (ordered (when_at slot) ps)
    none_below = rw (et, waits b) (soonest_not_below (when_at slot) b (ordered (when_at slot) ps))

    none_sooner : NotBelow (when_at slot) t ps
    none_sooner = rw (et, waits_listed b) (soonest_not_below (when_at slot) b ps)

    front_keys : front time_of t (keys_in words (begin_in words) n) ≡ front (when_at slot) t (ordered (when_at slot) ps)
    front_keys = ap (front time_of t) h.holds ∙ front_map (key_at slot) time_of (when_at slot) (key_time slot) t (ordered (when_at slot) ps)

    module _ (k : ℕ) (e : k ≡ front time_of t (keys_in words (begin_in words) n)) (l : k ≤ n) where
      first_keys : keys_in words (begin_in words) k ≡ map (key_at slot) (Order.at (when_at slot) t ps)
      first_keys =
          sym (take-take k n (drop (begin_in words) words) l) ∙ ap (take k) h.holds
          ∙ sym (map_take (key_at slot) k (ordered (when_at slot) ps))
          ∙ ap (λ (i : ℕ). map (key_at slot) (take i (ordered (when_at slot) ps))) (e ∙ front_keys)
          ∙ ap (map (key_at slot)) (happening (when_at slot) t ps none_below)

      pub due_keys : Due words objects n t k
      due_keys =
          record {
            is =
                ap (map slot) first_keys ∙ slots_keys words objects (Order.at (when_at slot) t ps)
                ∙ sym (keep_map slot (λ s. eqb (time (point_in s)) t) ps)
                ∙ ap (keep (λ s. eqb (time (point_in s)) t)) (sym (used_is words objects n));
          }

      pub due_going : Going (λ p. leb (suc t) (when_at slot p)) words (begin_in words) n k
      due_going =
          ap (map place_of) first_keys ∙ places_keys slot (Order.at (when_at slot) t ps)
          ∙ ap (map place_of) (keep_same (λ p. eqb (when_at slot p) t) (λ p. not (leb (suc t) (when_at slot p))) ps (not_later (when_at slot) t ps none_sooner))

    -- ---- a happening taken out

    module _ (after : List ℕ) (r : ℕ) (s : Sifted (λ p. leb (suc t) (when_at slot p)) words after n r) (begin : ℕ) (eb : begin ≡ begin_in words + (n - r)) where
      abbrev words' : List ℕ
      words' = set after 448 begin

      cell : (k : ℕ) → (k ≡ 448 → ⊥) → get_or words' k 0 ≡ get_or after k 0
      cell k g = get_or-set_other after 448 k begin 0 g

      same_slot : (p : ℕ) → slot_at words' objects p ≡ slot_at words objects p
      same_slot p = slot_same words words' objects (p % 64) (mod-lt p (zero-lt-suc 63)) (λ k g. cell k (λ e. omega arith) ∙ s.below k g)

      left : take r (places_in words') ≡ Order.from (when_at slot) (suc t) ps
      left =
          let l : r ≤ n = s.fewer in
          let few : n ≤ 64 = h.few in
          places_same after words' r (omega arith) (λ k g. cell (384 + k) (λ e. omega arith)) ∙ s.done

      begin_there : begin_in words' ≡ begin
      begin_there = get_or-set_same after 448 begin 0 (omega (arith, s.long))

      counted : length (Order.from (when_at slot) (suc t) ps) ≡ r
      counted =
          let l : r ≤ n = s.fewer in
          let few : n ≤ 64 = h.few in
          ap length (sym s.done) ∙ length-take-le r (places_in after) (omega (arith, places_long after))

      front_is : front (when_at slot) t (ordered (when_at slot) ps) ≡ n - r
      front_is =
          let o = ordered (when_at slot) ps in
          let few : n ≤ 64 = h.few in
          let all : length o ≡ n = length_ordered (when_at slot) ps ∙ length-take-le n (places_in words) (omega (arith, places_long words)) in
          let rest : length o - front (when_at slot) t o ≡ r =
          sym (length-drop (front (when_at slot) t o) o) ∙ ap length (remaining (when_at slot) t ps none_below)
          ∙ length_ordered (when_at slot) (Order.from (when_at slot) (suc t) ps) ∙ counted in
          let inside : front (when_at slot) t o ≤ length o = front_few (when_at slot) t o in
          omega arith

      keys_left : keys_in words' begin r ≡ keys_of slot (Order.from (when_at slot) (suc t) ps)
      keys_left =
          let l : r ≤ n = s.fewer in
          let low : 449 ≤ begin_in words = h.inside.low in
          let m : n - (n - r) ≡ r = omega arith in
          ap (take r) (drop_same words words' begin (length-set after 448 begin ∙ s.long ∙ sym h.inside.sized)
          (λ k g. cell k (λ e. omega arith) ∙ s.above k (omega arith)))
          ∙ ap₂ (λ (i j : ℕ). take i (drop j words)) (sym m) eb
          ∙ ap (take (n - (n - r))) (sym (drop-drop (n - r) (begin_in words) words))
          ∙ sym (drop_take (n - r) n (drop (begin_in words) words) (omega arith))
          ∙ ap (drop (n - r)) h.holds
          ∙ sym (map_drop (key_at slot) (n - r) (ordered (when_at slot) ps))
          ∙ ap (λ (i : ℕ). map (key_at slot) (drop i (ordered (when_at slot) ps))) (sym front_is)
          ∙ ap (map (key_at slot)) (remaining (when_at slot) t ps none_below)

      pub kept_later : Kept words' objects r
      kept_later =
          let l : r ≤ n = s.fewer in
          let few : n ≤ 64 = h.few in
          let w : begin_in words + n ≤ 640 = h.inside.within in
          let low : 449 ≤ begin_in words = h.inside.low in
          record {
            few = omega arith;
            wide = h.wide;
            inside = rw begin_there (record { sized = length-set after 448 begin ∙ s.long; low = omega arith; within = omega arith });
            apart = λ i j a b e. s.apart i j a b
                (ap (λ (x : ℕ). x % 64) (sym (cell (384 + i) (λ z. omega arith))) ∙ e ∙ ap (λ (x : ℕ). x % 64) (cell (384 + j) (λ z. omega arith)));
            holds =
                ap (λ (i : ℕ). keys_in words' i r) begin_there ∙ keys_left
                ∙ sym (keys_same (slot_at words' objects) slot (Order.from (when_at slot) (suc t) ps) (everywhere (Order.from (when_at slot) (suc t) ps)))
                ∙ ap (keys_of (slot_at words' objects)) (sym left);
          }
        where
          everywhere : (qs : List ℕ) → All (λ p. slot_at words' objects p ≡ slot p) qs
          everywhere [] = tt
          everywhere (q ∷ qs) = (same_slot q, everywhere qs)

      used_later : used (queue_in words' objects r) ≡ keep (λ (x : Slot). leb (suc t) (time (point_in x))) (used (queue_in words objects n))
      used_later =
          used_is words' objects r ∙ ap (map (slot_at words' objects)) left
          ∙ same (Order.from (when_at slot) (suc t) ps)
          ∙ sym (keep_map slot (λ (x : Slot). leb (suc t) (time (point_in x))) ps)
          ∙ ap (keep (λ (x : Slot). leb (suc t) (time (point_in x)))) (sym (used_is words objects n))
        where
          same : (qs : List ℕ) → map (slot_at words' objects) qs ≡ map slot qs
          same [] = refl
          same (q ∷ qs) = ap₂ ◌∷◌ (same_slot q) (same qs)

      pub waits_later : waiting (queue_in words' objects r) ≡ from (suc t) (waiting (queue_in words objects n))
      waits_later = ap (map point_in) used_later ∙ sym (keep_map point_in (λ p. leb (suc t) (time p)) (used (queue_in words objects n)))

      pub sound_later : (m : ℕ) → Sound m (queue_in words objects n) → Sound m (queue_in words' objects r)
      sound_later m g =
          let l : r ≤ n = s.fewer in
          let few : n ≤ 64 = h.few in
          (omega arith, rw used_later (sound_keep m (λ (x : Slot). leb (suc t) (time (point_in x))) (used (queue_in words objects n)) g.1))

      pub left_there : Left words objects n words' r
      left_there =
          record {
            from = λ i g.
                let l : r ≤ n = s.fewer in
                let few : n ≤ 64 = h.few in
                let many : length ps ≡ n = length-take-le n (places_in words) (omega (arith, places_long words)) in
                let k = kept_from (λ p. leb (suc t) (when_at slot p)) ps i (omega (arith, counted)) in
                let j = k.0 in
                let inside : j < n = omega (arith, many, k.1) in
                let listed : get_or after (384 + i) 0 ≡ get_or words (384 + j) 0 =
                sym (get_or-take r (places_in after) i 0 g ∙ place_there after i (omega arith)) ∙ ap (λ (q : List ℕ). get_or q i 0) s.done
                ∙ k.2 ∙ get_or-take n (places_in words) j 0 inside ∙ place_there words j (omega arith) in
                let e : place_at words' i ≡ place_at words j = ap (λ (x : ℕ). x % 64) (cell (384 + i) (λ z. omega arith) ∙ listed) in
                (j, inside, e, ap (slot_in words' objects) e ∙ same_slot (get_or words (384 + j) 0));
          }
