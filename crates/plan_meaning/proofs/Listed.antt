-- The table of plan refusals: its tests from facts about numbers, and back. Assumes nothing.
use Prim.Native.Nat.{ℕ, ◌≤◌}
use mathlib.Core.Bool.{Bool, true, false, ◌&&◌, false≢true}
use mathlib.Core.List.{List, [], ◌∷◌}
use mathlib.Core.Path.{◌≡◌, refl, sym, ap, ◌∙◌}
use native.Mathlib.Omega.{arith}
use borrow.Author.Tests.{leb-true, le-leb, eqb-true}
use lib.Dec.{eqb, leb}
use Rattle.base_laws.proofs.Splits.{and_left, and_right}
use Rattle.text_words.specs.Bytes.{is_one_of}
use Rattle.plan_meaning.specs.Listed.{plan_rows, listed_line, listed_column, listed_row, listed_in_plan}

-- ---- rows

pub row_of_lem : (k c : ℕ) → is_one_of k plan_rows ≡ true → listed_row k c ≡ true
unfolding listed_row
row_of_lem k c h = go (eqb k 14) refl
  where
    go : (b : Bool) → eqb k 14 ≡ b → listed_row k c ≡ true
    go true e = absurd (false≢true (ap (λ n. is_one_of n plan_rows) (sym (eqb-true k 14 e)) ∙ h))
    go false e = rw e h

pub row_14 : listed_row 14 257 ≡ true
unfolding listed_row
row_14 = refl

no_row_15 : (c : ℕ) → listed_row 15 c ≡ false
unfolding listed_row
no_row_15 c = refl

abbrev all_below : ℕ → List ℕ → Bool
all_below m [] = true
all_below m (n ∷ ns) = leb n m && all_below m ns

one_below : (m k : ℕ) (ns : List ℕ) → all_below m ns ≡ true → is_one_of k ns ≡ true → k ≤ m
one_below m k [] a h = absurd (false≢true h)
one_below m k (n ∷ ns) a h = go (eqb k n) refl (one_below m k ns (and_right (leb n m) (all_below m ns) a))
  where
    go : (b : Bool) → eqb k n ≡ b → (is_one_of k ns ≡ true → k ≤ m) → k ≤ m
    go true e ih = omega (arith, eqb-true k n e, leb-true n m (and_left (leb n m) (all_below m ns) a))
    go false e ih = ih (rw e at h)

row_small : (k c : ℕ) → listed_row k c ≡ true → k ≤ 18
unfolding listed_row
row_small k c h = go (eqb k 14) refl
  where
    go : (b : Bool) → eqb k 14 ≡ b → k ≤ 18
    go true e = omega (arith, eqb-true k 14 e)
    go false e = one_below 18 k plan_rows refl (rw e at h)

-- ---- lines and columns

pub line_of : (l : ℕ) → 1 ≤ l → l ≤ 1000000 → listed_line l ≡ true
unfolding listed_line
line_of l lo hi = rw (le-leb 1 l lo, le-leb l 1000000 hi)

pub line_parts : (l : ℕ) → listed_line l ≡ true → (1 ≤ l) × (l ≤ 1000000)
unfolding listed_line
line_parts l h = (leb-true 1 l (and_left (leb 1 l) (leb l 1000000) h), leb-true l 1000000 (and_right (leb 1 l) (leb l 1000000) h))

column_of : (c : ℕ) → 1 ≤ c → c ≤ 257 → listed_column c ≡ true
unfolding listed_column
column_of c lo hi = rw (le-leb 1 c lo, le-leb c 257 hi)

column_small : (c : ℕ) → listed_column c ≡ true → c ≤ 257
unfolding listed_column
column_small c h = leb-true c 257 (and_right (leb 1 c) (leb c 257) h)

-- ---- refusals

pub listed_of : (k l c : ℕ) → listed_line l ≡ true → 1 ≤ c → c ≤ 257 → listed_row k c ≡ true → listed_in_plan k l c ≡ true
unfolding listed_in_plan
listed_of k l c line lo hi row = go (eqb k 15) refl
  where
    go : (b : Bool) → eqb k 15 ≡ b → listed_in_plan k l c ≡ true
    go true e = absurd (false≢true (sym (no_row_15 c) ∙ ap (λ n. listed_row n c) (sym (eqb-true k 15 e)) ∙ row))
    go false e = rw (e, line, column_of c lo hi, row)

pub beyond_listed : listed_in_plan 15 1000001 1 ≡ true
unfolding listed_in_plan
beyond_listed = refl

-- what a line needs that is to be written
pub record Small (k l c : ℕ) : Type 0 where
  pub number : k ≤ 18
  pub line : l ≤ 1000001
  pub column : c ≤ 257

pub listed_small : (k l c : ℕ) → listed_in_plan k l c ≡ true → Small k l c
unfolding listed_in_plan
listed_small k l c h = go (eqb k 15) refl
  where
    beyond : (eqb l 1000001 && eqb c 1) ≡ true → k ≡ 15 → Small k l c
    beyond i e =
        let a = eqb-true l 1000001 (and_left (eqb l 1000001) (eqb c 1) i) in
        let b = eqb-true c 1 (and_right (eqb l 1000001) (eqb c 1) i) in
        record { number = omega (arith, e); line = omega (arith, a); column = omega (arith, b) }

    within : (listed_line l && listed_column c && listed_row k c) ≡ true → Small k l c
    within i =
        let a = and_left (listed_line l && listed_column c) (listed_row k c) i in
        let b = (line_parts l (and_left (listed_line l) (listed_column c) a)).1 in
        record {
          number = row_small k c (and_right (listed_line l && listed_column c) (listed_row k c) i);
          line = omega (arith, b);
          column = column_small c (and_right (listed_line l) (listed_column c) a);
        }

    go : (b : Bool) → eqb k 15 ≡ b → Small k l c
    go true e = beyond (rw e at h) (eqb-true k 15 e)
    go false e = within (rw e at h)
