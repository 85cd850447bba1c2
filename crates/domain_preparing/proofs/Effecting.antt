-- Effects copied, by their first cell, and lists of them. Assumes nothing.
use mathlib.Core.Path.{◌≡◌, refl, sym, ap, ◌∙◌}
use mathlib.Core.List.{List, [], ◌∷◌, ◌++◌, append_assoc}
use mathlib.Core.Bool.{Bool, true, false, not, cond, false≢true}
use Prim.Native.Nat.{ℕ, zero, suc, ◌+◌, ◌-◌, ◌≤◌, ◌<◌}
use native.Mathlib.Omega.{arith}
use native.Mathlib.Decide.{dec_le}
use lib.Dec.{ltb}
use lib.ListN.{length, set}
use borrow.Author.Tests.{lt-ltb, le-ltb, ltb-true}
use Rattle.domain_meaning.specs.Effects.{Change, assign, raise, lower, Effect}
use Rattle.domain_rows.specs.Held.{byte_at}
use Rattle.domain_stored_meaning.specs.Cells.{change_cell}
use Rattle.domain_stored_meaning.specs.Decode.{decoded, both, ref_at, expression_at, becomes_at, change_at, effect_at, begins, effects_at}
use Rattle.domain_prepared_meaning.specs.Preparing.{all_effects}
use Rattle.domain_prepared_meaning.specs.Rows.{form_bytes, expr_bytes, effect_bytes, effects_bytes}
use Rattle.domain_forms.specs.Stored.{Stored}
use Rattle.domain_preparing.specs.Written.{Copies, open_effects, all_of}
use Rattle.domain_forms.proofs.Storing.{stored_one, stored_as, stored_then}
use Rattle.domain_preparing.proofs.Expressing.{copies_as}

-- ---- whether one begins

module _ (tag : ℕ) where
  pub begins_low : tag < 4 → false ≡ begins tag
  unfolding begins
  begins_low h = rw (lt-ltb tag 4 h)

  pub begins_high : 4 ≤ tag → ltb tag 21 ≡ begins tag
  unfolding begins
  begins_high h = rw (le-ltb tag 4 h)

  begun : begins tag ≡ true → 4 ≤ tag
  unfolding begins
  begun e = elim (dec_le 4 tag) [
    | yes h ↦ h
    | no h ↦ absurd (false≢true (rw (lt-ltb tag 4 (omega arith)) at e))
  ]

  pub begun_within : begins tag ≡ true → (4 ≤ tag) × (tag < 21)
  unfolding begins
  begun_within e = let h = begun e in (h, ltb-true tag 21 (rw (le-ltb tag 4 h) at e))

-- ---- one effect

module _ (code : List ℕ) (at tag : ℕ) where
  pub effect_adds : tag < 8 → effect_at code at tag ≡ becomes_at code at true (tag - 4)
  unfolding effect_at
  effect_adds h = rw (lt-ltb tag 8 h)

  pub effect_deletes : 8 ≤ tag → tag < 12 → effect_at code at tag ≡ becomes_at code at false (tag - 8)
  unfolding effect_at
  effect_deletes l h = rw (le-ltb tag 8 l, lt-ltb tag 12 h)

  pub effect_assigns : 12 ≤ tag → tag < 15 → effect_at code at tag ≡ change_at code at assign (tag - 12)
  unfolding effect_at
  effect_assigns l h = rw (le-ltb tag 8 (omega arith), le-ltb tag 12 l, lt-ltb tag 15 h)

  pub effect_raises : 15 ≤ tag → tag < 18 → effect_at code at tag ≡ change_at code at raise (tag - 15)
  unfolding effect_at
  effect_raises l h = rw (le-ltb tag 8 (omega arith), le-ltb tag 12 (omega arith), le-ltb tag 15 l, lt-ltb tag 18 h)

  pub effect_lowers : 18 ≤ tag → effect_at code at tag ≡ change_at code at lower (tag - 18)
  unfolding effect_at
  effect_lowers l = rw (le-ltb tag 8 (omega arith), le-ltb tag 12 (omega arith), le-ltb tag 15 (omega arith), le-ltb tag 18 l)

  module _ (n : ℕ) (ps fs : List ℕ) {l : List ℕ} {u : ℕ} {l' : List ℕ} {next free : ℕ} where
    pub copies_fact : (yes' : Bool) (k : ℕ) → effect_at code at tag ≡ becomes_at code at yes' k
        → Stored l u (form_bytes n ps fs (cond yes' 4 8) ps (ref_at code (at + 1) k)) l' free → next ≡ at + 2 + k
        → Copies (effect_bytes n ps fs) l u (effect_at code at tag) l' next free
    unfolding effect_bytes
    copies_fact yes' k e s m = copies_as e (record { stored = s; ends = m })

    pub copies_change : (how : Change) (k : ℕ) → effect_at code at tag ≡ change_at code at how k
        → Stored l u (form_bytes n ps fs (change_cell how) fs (ref_at code (at + 1) k) ++ expr_bytes n ps fs (expression_at code (at + 2 + k)).tree) l' free
        → next ≡ (expression_at code (at + 2 + k)).next → Copies (effect_bytes n ps fs) l u (effect_at code at tag) l' next free
    unfolding effect_bytes
    copies_change how k e s m = copies_as e (record { stored = s; ends = m })

-- ---- lists, so many at most

turned_true : (b : Bool) → not b ≡ true → b ≡ false
turned_true true h = sym h
turned_true false h = refl

pub turned_false : (b : Bool) → not b ≡ false → b ≡ true
turned_false true h = refl
turned_false false h = sym h

module _ (code : List ℕ) (i left : ℕ) where
  pub effects_spent : left ≡ 0 → effects_at left code i ≡ decoded [] i
  unfolding effects_at
  effects_spent h = rw h

  pub effects_out : length code ≤ i → effects_at left code i ≡ decoded [] i
  unfolding effects_at
  effects_out h = by_left left
    where
      by_left : (n : ℕ) → effects_at n code i ≡ decoded [] i
      by_left zero = refl
      by_left (suc n) = simp (le-ltb i (length code) h)

  module _ {tag : ℕ} {b : Bool} (l : 0 < left) (h : i < length code) (t : tag ≡ byte_at code i) (g : b ≡ begins tag) where
    pub effects_last : not b ≡ true → effects_at left code i ≡ decoded [] (i + 1)
    unfolding effects_at
    effects_last z = let m : left ≡ suc (left - 1) = omega arith in rw m (simp (lt-ltb i (length code) h, ← t, ← g, turned_true b z))

    pub effects_step : not b ≡ false → effects_at left code i ≡ both ◌∷◌ (effect_at code i tag) (λ j. effects_at (left - 1) code j)
    unfolding effects_at
    effects_step z = by_left left l
      where
        by_left : (n : ℕ) → 0 < n → effects_at n code i ≡ both ◌∷◌ (effect_at code i tag) (λ j. effects_at (n - 1) code j)
        by_left zero k = absurd (omega arith)
        by_left (suc n) k = let m : suc n - 1 ≡ n = omega arith in simp (lt-ltb i (length code) h, ← t, ← g, turned_false b z, m)

module _ (n : ℕ) (ps fs : List ℕ) where
  pub open_none : open_effects n ps fs [] ≡ []
  unfolding open_effects
  open_none = refl

  pub open_cons : (e : Effect) (es : List Effect) → open_effects n ps fs (e ∷ es) ≡ effect_bytes n ps fs e ++ open_effects n ps fs es
  unfolding open_effects
  open_cons e es = refl

  open_join : (xs ys : List Effect) → open_effects n ps fs (xs ++ ys) ≡ open_effects n ps fs xs ++ open_effects n ps fs ys
  unfolding open_effects
  open_join [] ys = refl
  open_join (x ∷ xs) ys = ap (λ (zs : List ℕ). effect_bytes n ps fs x ++ zs) (open_join xs ys) ∙ sym (append_assoc (effect_bytes n ps fs x) _ _)

  -- those of several parts, and the 0 after them
  open_parts : (ess : List (List Effect)) → all_of (open_effects n ps fs) ess ≡ open_effects n ps fs (all_effects ess)
  unfolding all_of open_effects all_effects
  open_parts [] = refl
  open_parts (es ∷ ess) = ap (λ (zs : List ℕ). open_effects n ps fs es ++ zs) (open_parts ess) ∙ sym (open_join es (all_effects ess))

  closed : (es : List Effect) → open_effects n ps fs es ++ 0 ∷ [] ≡ effects_bytes n ps fs es
  unfolding open_effects effects_bytes
  closed [] = refl
  closed (e ∷ es) = append_assoc (effect_bytes n ps fs e) _ _ ∙ ap (λ (zs : List ℕ). effect_bytes n ps fs e ++ zs) (closed es)

  pub effects_stored : (ess : List (List Effect)) (l : List ℕ) (u : ℕ) {l' l'' : List ℕ} {v : ℕ} → Stored l u (all_of (open_effects n ps fs) ess) l' v
      → l'' ≡ set l' v 0 → Stored l u (effects_bytes n ps fs (all_effects ess)) l'' (v + 1)
  effects_stored ess l u {l'} {v = v} s e =
      stored_as l u (ap (λ (zs : List ℕ). zs ++ 0 ∷ []) (open_parts ess) ∙ closed (all_effects ess))
      (stored_then l u (all_of (open_effects n ps fs) ess) s (stored_one l' v 0 e))
