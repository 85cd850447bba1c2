-- Lists of effects that stand in rows are read back. Assumes nothing.
use mathlib.Core.Path.{◌≡◌, refl, ap}
use mathlib.Core.List.{List, [], ◌∷◌, ◌++◌, map}
use mathlib.Core.Bool.{Bool, true, false, cond}
use Prim.Native.Nat.{ℕ, zero, suc, ◌+◌, ◌-◌, ◌≤◌, ◌<◌}
use native.Mathlib.Omega.{arith}
use lib.ListN.{length, length-append}
use borrow.Author.Tests.{lt-ltb, le-ltb}
use Rattle.domain_meaning.specs.Effects.{Change, assign, raise, lower, Effect, becomes, changes}
use Rattle.domain_meaning.specs.Actions.{When, Timed}
use Rattle.domain_rows.specs.Held.{byte_at}
use Rattle.domain_stored_meaning.specs.Cells.{change_cell}
use Rattle.domain_stored_meaning.specs.Decode.{decoded}
use Rattle.domain_stored_meaning.specs.Good.{GoodEffect, GoodEffects, GoodParts}
use Rattle.domain_stored_meaning.proofs.Standing.{Stands, below, head_is, front, after}
use Rattle.domain_prepared_meaning.specs.Preparing.{is_at, parts_at, all_effects, effect}
use Rattle.domain_prepared_meaning.specs.Rows.{share_bytes, form_bytes, expr_bytes, effect_bytes, effects_bytes}
use Rattle.domain_prepared_meaning.specs.Decode.{begins_effect, becomes_at, change_at, effect_at, effects_from, effects_at}
use Rattle.domain_prepared_meaning.specs.Good.{PreparesEffect, PreparesEffects}
use Rattle.domain_prepared_meaning.proofs.Forms.{share_count, form_read, expr_read}

-- ---- the effects of one time

module _ (n k : ℕ) (ps fs : List ℕ) where
  good_join : (xs ys : List Effect) → GoodEffects xs → GoodEffects ys → GoodEffects (xs ++ ys)
  unfolding GoodEffects
  good_join [] ys g h = h
  good_join (x ∷ xs) ys g h = (g.0, good_join xs ys g.1 h)

  prepares_join : (xs ys : List Effect) → PreparesEffects n ps fs k xs → PreparesEffects n ps fs k ys → PreparesEffects n ps fs k (xs ++ ys)
  unfolding PreparesEffects
  prepares_join [] ys g h = h
  prepares_join (x ∷ xs) ys g h = (g.0, prepares_join xs ys g.1 h)

  -- what is so of every part is so of the parts of one time, joined
  module _ (P : List Effect → Type 0) (nil : P []) (join : (xs ys : List Effect) → P xs → P ys → P (xs ++ ys)) where
    all_parts : (w : When) (xs : List (Timed (List Effect))) → GoodParts P xs → P (all_effects (parts_at w xs))
    unfolding GoodParts parts_at all_effects
    all_parts w [] g = nil
    all_parts w (x ∷ xs) g = go (is_at x.when w) (all_parts w xs g.1)
      where
        go : (b : Bool) → P (all_effects (parts_at w xs)) → P (all_effects (cond b (x.what ∷ parts_at w xs) (parts_at w xs)))
        go true i = join x.what (all_effects (parts_at w xs)) g.0 i
        go false i = i

  pub effects_good : (w : When) (xs : List (Timed (List Effect))) → GoodParts GoodEffects xs → GoodEffects (all_effects (parts_at w xs))
  unfolding GoodEffects
  effects_good w xs g = all_parts GoodEffects tt good_join w xs g

  pub effects_prepare : (w : When) (xs : List (Timed (List Effect))) → GoodParts (PreparesEffects n ps fs k) xs
      → PreparesEffects n ps fs k (all_effects (parts_at w xs))
  unfolding PreparesEffects
  effects_prepare w xs g = all_parts (PreparesEffects n ps fs k) tt prepares_join w xs g

-- ---- effects, by their tags

becomes_tag : (yes' : Bool) (rows : List ℕ) (at v : ℕ) → v ≤ 3 → effect_at rows at (cond yes' 4 8 + v) ≡ becomes_at rows at yes' v
unfolding effect_at
becomes_tag true rows at v h = let e : 4 + v - 4 ≡ v = omega arith in rw (lt-ltb (4 + v) 8 (omega arith), e)
becomes_tag false rows at v h =
    let e : 8 + v - 8 ≡ v = omega arith in
    rw (le-ltb (8 + v) 8 (omega arith), lt-ltb (8 + v) 12 (omega arith), e)

change_tag : (how : Change) (rows : List ℕ) (at v : ℕ) → v ≤ 2 → effect_at rows at (change_cell how + v) ≡ change_at rows at how v
unfolding effect_at
change_tag assign rows at v h =
    let e : 12 + v - 12 ≡ v = omega arith in
    rw (le-ltb (12 + v) 8 (omega arith), le-ltb (12 + v) 12 (omega arith), lt-ltb (12 + v) 15 (omega arith), e)
change_tag raise rows at v h =
    let e : 15 + v - 15 ≡ v = omega arith in
    rw (le-ltb (15 + v) 8 (omega arith), le-ltb (15 + v) 12 (omega arith), le-ltb (15 + v) 15 (omega arith), lt-ltb (15 + v) 18 (omega arith), e)
change_tag lower rows at v h =
    let e : 18 + v - 18 ≡ v = omega arith in
    rw (le-ltb (18 + v) 8 (omega arith), le-ltb (18 + v) 12 (omega arith), le-ltb (18 + v) 15 (omega arith), le-ltb (18 + v) 18 (omega arith), e)

-- the first byte of a row
record Begun (xs : List ℕ) : Type 0 where
  tag : ℕ
  others : List ℕ
  are : xs ≡ tag ∷ others
  some : 4 ≤ tag
  most : tag ≤ 20

-- the rows say the number of objects, if there are variables
module _ (n k : ℕ) (rows : List ℕ) (few : k ≤ 4) (counted : 0 < k → byte_at rows 0 ≡ n) (ps fs : List ℕ) where
  begun : (e : Effect) → GoodEffect e → Begun (effect_bytes n ps fs e)
  unfolding effect_bytes GoodEffect
  begun (becomes true r) g =
      record { tag = 4 + length (share_bytes r.args); others = _; are = refl; some = omega arith; most = omega (arith, share_count r.args, g.few) }
  begun (becomes false r) g =
      record { tag = 8 + length (share_bytes r.args); others = _; are = refl; some = omega arith; most = omega (arith, share_count r.args, g.few) }
  begun (changes assign r x) g =
      record { tag = 12 + length (share_bytes r.args); others = _; are = refl; some = omega arith; most = omega (arith, share_count r.args, g.0.few) }
  begun (changes raise r x) g =
      record { tag = 15 + length (share_bytes r.args); others = _; are = refl; some = omega arith; most = omega (arith, share_count r.args, g.0.few) }
  begun (changes lower r x) g =
      record { tag = 18 + length (share_bytes r.args); others = _; are = refl; some = omega arith; most = omega (arith, share_count r.args, g.0.few) }

  -- an effect that stands in rows is read back prepared, with the place after it
  pub effect_read : (e : Effect) (at : ℕ) → GoodEffect e → PreparesEffect n ps fs k e → Stands rows at (effect_bytes n ps fs e)
      → effect_at rows at (byte_at rows at) ≡ decoded (effect n ps fs e) (at + length (effect_bytes n ps fs e))
  unfolding GoodEffect PreparesEffect effect_bytes effect
  effect_read (becomes yes' r) at g h s =
      let v = length (share_bytes r.args) in
      let c = share_count r.args in
      let m : at + 3 + v ≡ at + suc (suc (suc v)) = omega arith in
      rw (
        head_is s,
        becomes_tag yes' rows at v (omega (arith, g.few)),
        form_read n k rows few counted ps r at g.few h s,
        m,
      )
  effect_read (changes how r x) at g h s =
      let bytes = form_bytes n ps fs (change_cell how) fs r in
      let ys = expr_bytes n ps fs x in
      let v = length (share_bytes r.args) in
      let c = share_count r.args in
      let l : at + 3 + v ≡ at + length bytes = omega arith in
      let m : at + length bytes + length ys ≡ at + length (bytes ++ ys) = omega (arith, length-append bytes ys) in
      rw (
        head_is s,
        change_tag how rows at v (omega (arith, g.0.few)),
        form_read n k rows few counted fs r at (omega (arith, g.0.few)) h.0 (front bytes ys s),
        l,
        expr_read n k rows few counted ps fs x (at + length bytes) 16 g.1 h.1 (after bytes ys s),
        m,
      )

  -- ---- lists

  end_read_lem : (at m : ℕ) → 1 ≤ m → Stands rows at (0 ∷ []) → effects_from m rows at ≡ []
  unfolding effects_from begins_effect
  end_read_lem at zero h s = absurd (let y : ⊥ = omega arith in y)
  end_read_lem at (suc m) h s = rw (below s, head_is s)

  cons_read : {e : Effect} {es : List Effect} (xs ys : List ℕ) (at m : ℕ) → Begun xs → Stands rows at (xs ++ ys)
      → effect_at rows at (byte_at rows at) ≡ decoded e (at + length xs) → effects_from m rows (at + length xs) ≡ es → effects_from (suc m) rows at ≡ e ∷ es
  unfolding effects_from begins_effect
  cons_read xs ys at m b s e r =
      let t : Stands rows at (b.tag ∷ (b.others ++ ys)) = rw b.are at s in
      let h = head_is t in
      let o = rw h at e in
      rw (below t, h, le-ltb b.tag 4 b.some, lt-ltb b.tag 21 (omega (arith, b.most)), o, r)

  -- a list that stands in rows is read back, in as many steps as it has bytes
  pub effects_read : (es : List Effect) (at m : ℕ) → length (effects_bytes n ps fs es) ≤ m → GoodEffects es → PreparesEffects n ps fs k es
      → Stands rows at (effects_bytes n ps fs es) → effects_from m rows at ≡ map (effect n ps fs) es
  unfolding GoodEffects PreparesEffects effects_bytes
  effects_read [] at m l g h s = end_read_lem at m l s
  effects_read (e ∷ es) at zero l g h s =
      let b = begun e g.0 in
      absurd (let y : ⊥ = omega (arith, length-append (effect_bytes n ps fs e) (effects_bytes n ps fs es), ap length b.are) in y)
  effects_read (e ∷ es) at (suc m) l g h s =
      let xs = effect_bytes n ps fs e in
      let ys = effects_bytes n ps fs es in
      let b = begun e g.0 in
      cons_read xs ys at m b s (effect_read e at g.0 h.0 (front xs ys s))
      (effects_read es (at + length xs) m (omega (arith, length-append xs ys, ap length b.are)) g.1 h.1 (after xs ys s))

  pub list_read : (es : List Effect) (at : ℕ) → GoodEffects es → PreparesEffects n ps fs k es → Stands rows at (effects_bytes n ps fs es)
      → effects_at rows at ≡ map (effect n ps fs) es
  list_read es at g h s = effects_read es at (length rows) (omega (arith, s.room)) g h s
