-- A number that stands in the code is read back. Assumes nothing.
use mathlib.Core.Path.{◌≡◌, refl, sym, ap, ◌∙◌}
use mathlib.Core.List.{List, ◌∷◌}
use mathlib.Core.Bool.{Bool, true, false, cond}
use Prim.Native.Nat.{ℕ, zero, suc, ◌+◌, ◌/◌, ◌%◌, ◌≤◌, ◌<◌}
use native.Mathlib.Numerals.{add-one}
use native.Mathlib.Omega.{arith}
use native.Mathlib.Decide.{ℕ_discrete}
use lib.Dec.{eqb}
use lib.IntN.{ℤ, nat_abs, pos}
use lib.ListN.{length, take, drop}
use lib.Seq.{drop-cons}
use lib.Signed.{mag, lt_z}
use borrow.Author.Tests.{lt-ltb, le-ltb, ne_eqb, eqb-true}
use Rattle.domain_expressions.proofs.Sizes.{size_all}
use Rattle.text_words.proofs.Ranges.{holds, holds_at}
use Rattle.domain_rows.specs.Held.{byte_at}
use Rattle.domain_literals.specs.Literal.{sign_base, size_of, bytes_of, literal, number_cells, little_of, size_in, number_in}
use Rattle.domain_literals.proofs.Back.{number_back}
use Rattle.domain_literals.proofs.Cells.{bytes_length, cells_whole, cells_fine}
use Rattle.domain_stored_meaning.specs.Decode.{decoded, little_at, number_at, leaf_at, expr_node, expr_at}
use Rattle.domain_stored_meaning.proofs.Standing.{Stands, below, head_is}
use Rattle.domain_meaning.specs.Terms.{number}

-- the byte at a place, and those after it
byte_first : (code : List ℕ) (at : ℕ) → at < length code → drop at code ≡ byte_at code at ∷ drop (at + 1) code
unfolding byte_at
byte_first code at h = rw (lt-ltb at (length code) h, add-one at) (drop-cons code at 0 h)

little_of_lem : (code : List ℕ) (at k : ℕ) → at + k ≤ length code → little_at code at k ≡ little_of (take k (drop at code))
unfolding little_at little_of
little_of_lem code at zero h = refl
little_of_lem code at (suc k) h = rw (byte_first code at (omega arith), little_of_lem code (at + 1) k (omega arith))

number_in_lem : (code : List ℕ) (at : ℕ) → at < length code → at + 1 + size_in (byte_at code at) ≤ length code
    → number_at code (at + 1) (byte_at code at) ≡ number_in (drop at code)
unfolding number_at number_in
number_in_lem code at h r = rw (byte_first code at h, little_of_lem code (at + 1) (size_in (byte_at code at)) r)

-- ---- the first cell

abbrev says : ℕ → ℕ → Bool
says base k = eqb (size_in (base + k)) k

-- cells of a number: what the first says, and how many there are
record Sized (xs : List ℕ) : Type 0 where
  tag : ℕ
  bytes : List ℕ
  are : xs ≡ tag ∷ bytes
  big : 16 ≤ tag
  few : size_in tag ≤ 5
  count : length bytes ≡ size_in tag

sized_literal : (base v : ℕ) → 16 ≤ base → holds (says base) 0 6 ≡ true → Sized (literal base v)
sized_literal base v h t =
    let m = size_all v in
    let e : size_in (base + size_of v) ≡ size_of v =
    eqb-true (size_in (base + size_of v)) (size_of v) (holds_at 6 (says base) 0 (size_of v) t (omega arith) (omega (arith, m))) in
    record {
      tag = base + size_of v;
      bytes = bytes_of (size_of v) v;
      are = refl;
      big = omega arith;
      few = rw e m;
      count = bytes_length (size_of v) v ∙ sym e;
    }

sized : (z : ℤ) → Sized (number_cells z)
unfolding sign_base
sized z = elim (ℕ_discrete (nat_abs z % 1000) 0) [
  | yes e ↦ rw (cells_whole z e) (whole (lt_z z (pos 0)))
  | no e ↦ rw (cells_fine z e) (fine (lt_z z (pos 0)))
]
  where
    whole : (t : Bool) → Sized (literal (cond t 24 16 + 16) (nat_abs z / 1000))
    whole true = sized_literal 40 (nat_abs z / 1000) (omega arith) refl
    whole false = sized_literal 32 (nat_abs z / 1000) (omega arith) refl

    fine : (t : Bool) → Sized (literal (cond t 24 16) (nat_abs z))
    fine true = sized_literal 24 (nat_abs z) (omega arith) refl
    fine false = sized_literal 16 (nat_abs z) (omega arith) refl

-- what a number that stands in the code gives: the tag of its first cell, and the number by it
pub record Told (z : ℤ) (code : List ℕ) (at : ℕ) : Type 0 where
  pub tag : ℕ
  pub bytes : List ℕ
  pub stands : Stands code at (tag ∷ bytes)
  pub big : 16 ≤ tag
  pub few : size_in tag ≤ 5
  pub next : at + 1 + size_in tag ≡ at + length (number_cells z)
  pub is : number_at code (at + 1) tag ≡ z

pub number_told : (z : ℤ) (code : List ℕ) (at : ℕ) → mag z < 1099511627775 → Stands code at (number_cells z) → Told z code at
number_told z code at g s =
    let w = sized z in
    let t : Stands code at (w.tag ∷ w.bytes) = rw w.are at s in
    let h = head_is t in
    let n : at + 1 + size_in w.tag ≡ at + length (number_cells z) = rw w.are (omega (arith, w.count)) in
    let r : at + 1 + size_in (byte_at code at) ≤ length code = rw (h, n) s.room in
    let q : number_at code (at + 1) w.tag ≡ z =
    ap (λ (k : ℕ). number_at code (at + 1) k) (sym h) ∙ number_in_lem code at (omega (arith, t.room)) r ∙ ap number_in s.here ∙ number_back z s.rest g in
    record { tag = w.tag; bytes = w.bytes; stands = t; big = w.big; few = w.few; next = n; is = q }

pub number_read : (z : ℤ) (code : List ℕ) (at d : ℕ) → mag z < 1099511627775 → Stands code at (number_cells z)
    → expr_at (suc d) code at ≡ decoded (number z) (at + length (number_cells z))
unfolding expr_at expr_node leaf_at
number_read z code at d g s =
    let w = number_told z code at g s in
    rw (
      below w.stands,
      head_is w.stands,
      ne_eqb w.tag 0 (λ i. omega (arith, w.big)),
      ne_eqb w.tag 1 (λ i. omega (arith, w.big)),
      ne_eqb w.tag 2 (λ i. omega (arith, w.big)),
      le-ltb w.tag 5 (omega (arith, w.big)),
      le-ltb w.tag 8 (omega (arith, w.big)),
      le-ltb w.tag 16 w.big,
      lt-ltb (size_in w.tag) 6 (omega (arith, w.few)),
      w.is,
      w.next,
    )
