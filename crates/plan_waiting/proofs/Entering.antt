-- A point more in a free place: what is kept stays so. And where no point waits. Assumes nothing.
use Prim.Native.Nat.{ℕ, ◌+◌, ◌*◌, ◌%◌, ◌≤◌, ◌<◌}
use mathlib.Core.Bool.{Bool, true, false}
use mathlib.Core.List.{List, [], ◌∷◌, ◌++◌, map, map-append}
use mathlib.Core.Path.{◌≡◌, refl, sym, ap, ap₂, ◌∙◌}
use native.Mathlib.Nat.{mod-lt, zero-lt-suc}
use native.Mathlib.Omega.{arith}
use borrow.Author.Tests.{eqb-true, eqb-false}
use lib.Dec.{eqb}
use lib.ListN.{length, take, get_or, set, length-set}
use lib.Seq.{get_or-set_same, get_or-set_other, drop-set-lt}
use Rattle.plan_meaning.specs.Plan.{time}
use Rattle.plan_meaning.specs.Stored.{point_in}
use Rattle.plan_meaning.specs.declared.Step.{Step}
use Rattle.plan_meaning.specs.declared.Slot.{Slot}
use Rattle.plan_meaning.proofs.Lists.{All}
use Rattle.plan_ordering.specs.Order.{insert, insert_all, ordered}
use Rattle.plan_ordering.specs.Keys.{time_of, keys_in, Inside}
use Rattle.plan_ordering.proofs.Ordering.{entered}
use Rattle.plan_ordering.proofs.Mapping.{all_first, insert_map, map_same}
use Rattle.plan_waiting.specs.Waiting.{used}
use Rattle.plan_waiting.specs.Lent.{slot_in, slot_at, places_in, queue_in, begin_in, when_at, key_at, keys_of, place_at, Kept, Put, Entered}
use Rattle.plan_waiting.proofs.LentPlaces.{places_long, place_there, places_more, places_same, used_is, slot_same}
use Rattle.plan_waiting.proofs.Keeping.{key_time, keys_same, drop_same}

module _ (words objects : List ℕ) (n : ℕ) (h : Kept words objects n) (few : n < 64) (s : Slot) (w o : List ℕ) (p : ℕ)
    (ep : p ≡ get_or words (384 + n) 0 % 64) (put : Put words objects w o p s) (w₂ : List ℕ) (b key : ℕ) (inside : Inside w₂ b (n + 1))
    (same : (k : ℕ) → k < 449 → get_or w₂ k 0 ≡ get_or w k 0) (keys : keys_in w₂ b (n + 1) ≡ insert time_of key (keys_in w (begin_in w) n))
    (ek : key ≡ time (point_in s) * 64 + p) where
  abbrev words' : List ℕ
  words' = set w₂ 448 b

  abbrev new : ℕ
  new = get_or words (384 + n) 0

  abbrev ps : List ℕ
  ps = take n (places_in words)

  cell : (k : ℕ) → k < 448 → get_or words' k 0 ≡ get_or w k 0
  cell k g = get_or-set_other w₂ 448 k b 0 (λ e. omega arith) ∙ same k (omega arith)

  listed : (k : ℕ) → k < 64 → get_or words' (384 + k) 0 ≡ get_or words (384 + k) 0
  listed k g = cell (384 + k) (omega arith) ∙ put.behind (384 + k) (omega arith)

  slot_now : (q : ℕ) → slot_at words' o q ≡ slot_in w o (q % 64)
  slot_now q = slot_same w words' o (q % 64) (mod-lt q (zero-lt-suc 63)) (λ k g. cell k (omega arith))

  new_slot : slot_at words' o new ≡ s
  new_slot = slot_now new ∙ ap (slot_in w o) (sym ep) ∙ put.there

  old_slot : (i : ℕ) → i < n → slot_at words' o (get_or words (384 + i) 0) ≡ slot_at words objects (get_or words (384 + i) 0)
  old_slot i g =
      slot_now (get_or words (384 + i) 0)
      ∙ put.other (place_at words i) (λ e. let z : i ≡ n = h.apart i n (omega arith) few (e ∙ ep) in let y : ⊥ = omega (arith, z, g) in y)

  old_slots : All (λ q. slot_at words' o q ≡ slot_at words objects q) ps
  old_slots =
      all_first (λ q. slot_at words' o q ≡ slot_at words objects q) 0 n (places_in words) (omega (arith, places_long words))
      (λ i g. rw (place_there words i (omega arith)) (old_slot i g))

  places_now : take (n + 1) (places_in words') ≡ ps ++ new ∷ []
  places_now = places_same words words' (n + 1) (omega arith) (λ k g. listed k (omega arith)) ∙ places_more words n few

  begin_then : begin_in w ≡ begin_in words
  begin_then = put.behind 448 (omega arith)

  keys_then : keys_in w (begin_in w) n ≡ keys_of (slot_at words objects) ps
  keys_then =
      ap (λ (i : ℕ). keys_in w i n) begin_then
      ∙ ap (take n) (drop_same words w (begin_in words) (put.long ∙ sym h.inside.sized) (λ k g. put.behind k (omega (arith, h.inside.low))))
      ∙ h.holds

  begin_now : begin_in words' ≡ b
  begin_now = get_or-set_same w₂ 448 b 0 (omega (arith, inside.sized))

  key_now : key_at (slot_at words' o) new ≡ key
  key_now = ap₂ (λ (x : Slot) (y : ℕ). time (point_in x) * 64 + y) new_slot (sym ep) ∙ sym ek

  keys_now : keys_in words' b (n + 1) ≡ keys_of (slot_at words' o) (ps ++ new ∷ [])
  keys_now =
      let f = slot_at words' o in
      ap (take (n + 1)) (drop-set-lt b w₂ 448 b (omega (arith, inside.low)))
      ∙ keys
      ∙ ap₂ (insert time_of) (sym key_now) (keys_then ∙ sym (keys_same f (slot_at words objects) ps old_slots))
      ∙ sym (insert_map (key_at f) time_of (when_at f) (key_time f) new (ordered (when_at f) ps))
      ∙ ap (map (key_at f)) (sym (entered (when_at f) ps new))

  pub kept_enter : Kept words' o (n + 1)
  kept_enter =
      record {
        few = omega arith;
        wide = put.wide;
        inside = rw begin_now (record { sized = length-set w₂ 448 b ∙ inside.sized; low = inside.low; within = inside.within });
        apart = λ i j k l e. h.apart i j k l (ap (λ (x : ℕ). x % 64) (sym (listed i k)) ∙ e ∙ ap (λ (x : ℕ). x % 64) (listed j l));
        holds = ap (λ (i : ℕ). keys_in words' i (n + 1)) begin_now ∙ keys_now ∙ ap (keys_of (slot_at words' o)) (sym places_now);
      }

  pub used_enter : used (queue_in words' o (n + 1)) ≡ used (queue_in words objects n) ++ s ∷ []
  used_enter =
      used_is words' o (n + 1) ∙ ap (map (slot_at words' o)) places_now
      ∙ map-append (slot_at words' o) ps (new ∷ [])
      ∙ ap₂ (λ (x : List Slot) (y : Slot). x ++ y ∷ [])
      (map_same (slot_at words' o) (slot_at words objects) ps old_slots ∙ sym (used_is words objects n)) new_slot

  place_now : (k : ℕ) → k < 64 → place_at words' k ≡ place_at words k
  place_now k g = ap (λ (x : ℕ). x % 64) (listed k g)

  pub point_entered : Entered words objects n words' o (n + 1) s.step
  point_entered =
      record {
        was = λ i g. let e = place_now i (omega arith) in (e, ap (slot_in words' o) e ∙ old_slot i g);
        new = λ i a b.
            let z : i ≡ n = omega arith in
            ap (λ (q : Slot). q.step) (ap (λ (k : ℕ). slot_in words' o (place_at words' k)) z ∙ ap (slot_in words' o) (place_now n few) ∙ new_slot);
      }

-- one point of a step after the other
pub both_entered : {w₀ o₀ w₁ o₁ w₂ o₂ : List ℕ} {n : ℕ} {x : Step} → Entered w₀ o₀ n w₁ o₁ (n + 1) x → Entered w₁ o₁ (n + 1) w₂ o₂ (n + 1 + 1) x
    → Entered w₀ o₀ n w₂ o₂ (n + 1 + 1) x
both_entered {w₀} {o₀} {w₁} {o₁} {w₂} {o₂} {n} {x} one two =
    record {
      was = λ i g.
          let a = two.was i (omega arith) in
          let b = one.was i g in
          (a.0 ∙ b.0, a.1 ∙ b.1);
      new = λ i a b. go i a b (eqb i n) refl;
    }
  where
    go : (i : ℕ) → n ≤ i → i < n + 1 + 1 → (c : Bool) → eqb i n ≡ c → (slot_in w₂ o₂ (place_at w₂ i)).step ≡ x
    go i a b true e =
        let z : i ≡ n = eqb-true i n e in
        ap (λ (q : Slot). q.step) (two.was i (omega arith)).1 ∙ one.new i a (omega arith)
    go i a b false e =
        let z : i ≡ n → ⊥ = eqb-false i n e in
        two.new i (omega arith) b

-- the keys stay inside where a point is put to a place
pub inside_put : (words objects : List ℕ) (n : ℕ) → Kept words objects n → (w o : List ℕ) (p : ℕ) (s : Slot) → Put words objects w o p s
    → Inside w (begin_in w) n
inside_put words objects n h w o p s put =
    rw (put.behind 448 (omega arith)) (record { sized = put.long; low = h.inside.low; within = h.inside.within })

-- ---- no point

module _ (words objects : List ℕ) (long : length words ≡ 640) (wide : length objects ≡ 256) (each : (k : ℕ) → k < 64 → get_or words (384 + k) 0 ≡ k) where
  abbrev cleared : List ℕ
  cleared = set words 448 449

  listed_there : (k : ℕ) → k < 64 → get_or cleared (384 + k) 0 % 64 ≡ k
  listed_there k g =
      let e : get_or cleared (384 + k) 0 ≡ k = get_or-set_other words 448 (384 + k) 449 0 (λ e. omega arith) ∙ each k g in
      omega arith

  pub kept_none : Kept cleared objects 0
  unfolding insert_all
  kept_none =
      let e : begin_in cleared ≡ 449 = get_or-set_same words 448 449 0 (omega (arith, long)) in
      record {
        few = omega arith;
        wide = wide;
        inside = rw e (record { sized = length-set words 448 449 ∙ long; low = omega arith; within = omega arith });
        apart = λ i j a b h. sym (listed_there i a) ∙ h ∙ listed_there j b;
        holds = refl;
      }
