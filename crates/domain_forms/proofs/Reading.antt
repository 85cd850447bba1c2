-- First indexes, times and the bytes of a number, by the ways of the code that reads them. Assumes nothing.
use mathlib.Core.Path.{◌≡◌, refl, sym, ◌∙◌}
use mathlib.Core.List.{List}
use mathlib.Core.Bool.{Bool, true, false, not, cond}
use Prim.Native.Nat.{ℕ, zero, suc, ◌+◌, ◌-◌, ◌*◌, ◌≤◌, ◌<◌}
use native.Mathlib.Nat.{le_trans, min-le_left}
use native.Mathlib.Omega.{arith}
use lib.Dec.{eqb}
use lib.ListN.{length, get_or, take, drop, length-take, get_or-eq_default}
use lib.Seq.{get_or-take, get_or-drop}
use borrow.Author.Tests.{ne_eqb, eqb-true}
use Rattle.domain_meaning.specs.Actions.{When, start, whole, end}
use Rattle.domain_rows.specs.Held.{byte_at}
use Rattle.domain_stored_meaning.specs.Decode.{when_of, little_at}
use Rattle.domain_prepared_meaning.specs.Preparing.{is_at}
use Rattle.domain_forms.specs.Stored.{firsts_in}

past_take : (n : ℕ) (l : List ℕ) (i : ℕ) → n ≤ i → 0 ≡ get_or (take n l) i 0
past_take n l i h = sym (get_or-eq_default (take n l) 0 (let e : length (take n l) ≤ n = rw (length-take n l) (min-le_left n (length l)) in le_trans e h))

module _ (fs : List ℕ) (h : ℕ) where
  pub function_there : (t : Bool) {r : ℕ} → t ≡ true → h < 16 → r ≡ get_or fs (32 + h) 0 → r ≡ get_or (firsts_in t fs) h 0
  function_there t e l g = rw e (g ∙ sym (get_or-take 16 (drop 32 fs) h 0 l ∙ get_or-drop 32 fs h 0))

  pub function_past : (t : Bool) → t ≡ true → 16 ≤ h → 0 ≡ get_or (firsts_in t fs) h 0
  function_past t e l = rw e (past_take 16 (drop 32 fs) h l)

  pub predicate_there : (t : Bool) {r : ℕ} → t ≡ false → h < 32 → r ≡ get_or fs h 0 → r ≡ get_or (firsts_in t fs) h 0
  predicate_there t e l g = rw e (g ∙ sym (get_or-take 32 fs h 0 l))

  pub predicate_past : (t : Bool) → t ≡ false → 32 ≤ h → 0 ≡ get_or (firsts_in t fs) h 0
  predicate_past t e l = rw e (past_take 32 fs h l)

-- ---- times

-- at the start, over all, else at the end
abbrev when_by : Bool → Bool → When
when_by a b = cond a start (cond b whole end)

starts_by : (a b : Bool) → a ≡ is_at (when_by a b) start
starts_by true b = refl
starts_by false true = refl
starts_by false false = refl

-- a tag of 2 is none of 1
lasts_by : (a b : Bool) → (b ≡ true → a ≡ false) → b ≡ is_at (when_by a b) whole
lasts_by true true h = h refl
lasts_by true false h = refl
lasts_by false true h = refl
lasts_by false false h = refl

ends_by : (b : Bool) → not b ≡ is_at (when_by false b) end
ends_by true = refl
ends_by false = refl

module _ (tag time : ℕ) where
  pub at_start_lem : time ≡ 1 → eqb tag 1 ≡ is_at (when_of tag) (when_of time)
  unfolding when_of
  at_start_lem h = rw h (starts_by (eqb tag 1) (eqb tag 2))

  pub over_all : time ≡ 2 → eqb tag 2 ≡ is_at (when_of tag) (when_of time)
  unfolding when_of
  over_all h = rw h (lasts_by (eqb tag 1) (eqb tag 2) (λ e. ne_eqb tag 1 (λ f. let z : tag ≡ 2 = eqb-true tag 2 e in omega arith)))

  module _ (n : time ≡ 1 → ⊥) (m : time ≡ 2 → ⊥) where
    pub not_at_end : tag ≡ 1 → false ≡ is_at (when_of tag) (when_of time)
    unfolding when_of
    not_at_end h = rw (ne_eqb time 1 n, ne_eqb time 2 m, h)

    pub at_end : (tag ≡ 1 → ⊥) → not (eqb tag 2) ≡ is_at (when_of tag) (when_of time)
    unfolding when_of
    at_end h = rw (ne_eqb time 1 n, ne_eqb time 2 m, ne_eqb tag 1 h) (ends_by (eqb tag 2))

-- ---- the bytes of a number, read from the last to the first

-- how many numbers k bytes tell apart
unfoldable pub many : ℕ → ℕ
many zero = 1
many (suc k) = 256 * many k

-- the bytes from the i-th on are read
pub record Read (code : List ℕ) (at k acc i : ℕ) : Type 0 where
  pub left : i ≤ k
  pub is : acc ≡ little_at code (at + i) (k - i)
  pub small : acc < many (k - i)

many_5 : (n : ℕ) → n ≤ 5 → many n ≤ 1099511627776
unfolding many
many_5 zero h = omega arith
many_5 (suc zero) h = omega arith
many_5 (suc (suc zero)) h = omega arith
many_5 (suc (suc (suc zero))) h = omega arith
many_5 (suc (suc (suc (suc zero)))) h = omega arith
many_5 (suc (suc (suc (suc (suc zero))))) h = omega arith
many_5 (suc (suc (suc (suc (suc (suc n)))))) h = absurd (omega arith)

module _ (code : List ℕ) (at k : ℕ) where
  pub read_none : Read code at k 0 k
  unfolding little_at many
  read_none =
      let z : k - k ≡ 0 = omega arith in
      record { left = omega arith; is = rw z; small = rw z (omega arith) }

  pub read_step : (acc i : ℕ) {b : ℕ} → 0 < i → b < 256 → b ≡ byte_at code (at + (i - 1)) → Read code at k acc i → Read code at k (acc * 256 + b) (i - 1)
  unfolding little_at many
  read_step acc i {b} p l e r =
      let m : i ≤ k = r.left in
      let z : k - (i - 1) ≡ suc (k - i) = omega arith in
      let y : at + (i - 1) + 1 ≡ at + i = omega arith in
      let s : acc < many (k - i) = r.small in
      record { left = omega arith; is = rw (z, y, ← e, ← r.is) (omega arith); small = rw z (omega arith) }

  pub read_small : (acc i : ℕ) → k ≤ 5 → Read code at k acc i → acc < 1099511627776
  read_small acc i h r =
      let s : acc < many (k - i) = r.small in
      let m : many (k - i) ≤ 1099511627776 = many_5 (k - i) (omega arith) in
      omega arith

  pub read_all : (acc i : ℕ) → i ≡ 0 → Read code at k acc i → acc ≡ little_at code at k
  read_all acc i z r =
      let p : at + i ≡ at = omega arith in
      let q : k - i ≡ k = omega arith in
      rw (p, q) at r.is
