-- The ways through one part. Assumes nothing.
use mathlib.Core.Path.{◌≡◌, refl, sym, ap, ◌∙◌}
use mathlib.Core.List.{List, append-nil}
use mathlib.Core.Bool.{Bool}
use Prim.Native.Nat.{ℕ, suc, ◌+◌, ◌<◌}
use native.Mathlib.Omega.{arith}
use native.Mathlib.Numerals.{add-one}
use lib.ListN.{length, set}
use lib.Seq.{sets}
use Rattle.domain_meaning.specs.Read.{Read, Reader, got, refused}
use Rattle.domain_meaning.specs.Due.{closing}
use Rattle.domain_meaning.specs.Terms.{Counted}
use Rattle.domain_meaning.specs.Actions.{When, start, whole, end, timed, time_of, part_behind}
use Rattle.domain_due.specs.Answers.{Parsed}
use Rattle.domain_due.specs.Answers as A
use Rattle.domain_due.proofs.Dues.{never_done, done_parts, refused_parts}
use Rattle.domain_expressions.specs.Codes.{Written}
use Rattle.domain_expressions.proofs.Passed.{passed}
use Rattle.domain_expressions.specs.Codes.{Progress}
use Rattle.domain_expressions.specs.Codes.{Done, Refused}
use Rattle.domain_expressions.proofs.Ends.{written_refused}
use Rattle.domain_expressions.proofs.Operands.{written_got, written_not}
use Rattle.domain_stored_meaning.specs.Cells.{when_cell}
use Rattle.domain_timed_parts.specs.Bodies.{as_is, timed_cells}
use Rattle.domain_timed_parts.specs.Times.{when_answer}

-- ---- a time, by its answer

pub record Timely (x : Read When) (a v : ℕ) : Type 0 where
  pub when : When
  pub is : x ≡ got when a
  pub cell : v ≡ when_cell when

pub when_done_lem : (x : Read When) (a v : ℕ) → when_answer x ≡ A.Done a v → Timely x a v
when_done_lem (got w n) a v e = let q = done_parts n a (when_cell w) v e in record { when = w; is = rw q.0; cell = sym q.1 }
when_done_lem (refused k p) a v e = never_done k p a v e

pub when_refused : (x : Read When) (k p : ℕ) → when_answer x ≡ A.Refused k p → x ≡ refused k p
when_refused (got w n) k p e = never_done k p n (when_cell w) (sym e)
when_refused (refused j q) k p e = let r = refused_parts j k q p e in rw (r.0, r.1)

pub when_small : (w : When) → when_cell w < 256
when_small start = omega arith
when_small whole = omega arith
when_small end = omega arith

wrote_timed : (code : List ℕ) (u : ℕ) (w : When) (y : Counted (List ℕ)) (b x v l : ℕ) (m₁ m : List ℕ) → x ≡ when_cell w → m₁ ≡ set code u x
    → v ≡ u + 1 + length y.tree
    → l ≡ y.left → m ≡ sets m₁ (u + 1) y.tree → Written timed_cells code u (Done b v l) m (got (timed w y) b)
unfolding Written timed_cells
wrote_timed code u w y b x v l m₁ m cell q free left stored =
    let long : v ≡ u + suc (length y.tree) = omega (arith, free) in
    rw (append-nil y.tree) (rw (long, left) refl, stored ∙ rw (q, cell, add-one u))

-- ---- after a part's first word, from p to e; f reads what stands in it

module _ (s : List ℕ) (over : Bool) (f : ℕ → ℕ → Reader (Counted (List ℕ))) (d n p e : ℕ) (code : List ℕ) (u : ℕ) where
  pub behind_untimed : (r : Parsed) (b : Progress) (k q : ℕ) → r ≡ when_answer (time_of s d over p e e) → r ≡ A.Refused k q → b ≡ passed n r
      → Written timed_cells code u b code (part_behind s over f d n p e e)
  unfolding part_behind
  behind_untimed r b k q h i j =
      written_refused timed_cells code u b code _ k q (rw (when_refused (time_of s d over p e e) k q (sym h ∙ i)) refl) (j ∙ ap (passed n) i)

  module _ (a x : ℕ) (t : Timely (time_of s d over p e e) a x) (m₁ : List ℕ) (r : Progress) (m : List ℕ) (w : Written as_is m₁ (u + 1) r m (f d n a)) where
    pub behind_refused : (k q : ℕ) → r ≡ Refused k q → Written timed_cells code u r m (part_behind s over f d n p e e)
    unfolding part_behind
    behind_refused k q i = written_refused timed_cells code u r m _ k q (rw (t.is, written_not as_is m₁ (u + 1) r m (f d n a) k q w i) refl) i

    module _ (b v l : ℕ) (i : r ≡ Done b v l) where
      pub behind_unclosed : (z : Progress) (k q : ℕ) → closing s d b ≡ refused k q → z ≡ Refused k q
          → Written timed_cells code u z m (part_behind s over f d n p e e)
      unfolding part_behind
      behind_unclosed z k q j o =
          let g = written_got as_is m₁ (u + 1) r m (f d n a) b v l w i in
          written_refused timed_cells code u z m _ k q (rw (t.is, g.is, j) refl) o

      pub behind_done : (o q : ℕ) → closing s d b ≡ got o q → m₁ ≡ set code u x → Written timed_cells code u (Done q v l) m (part_behind s over f d n p e e)
      unfolding part_behind
      behind_done o q j h =
          let g = written_got as_is m₁ (u + 1) r m (f d n a) b v l w i in
          rw (t.is, g.is, j) (wrote_timed code u t.when g.tree q x v l m₁ m t.cell h g.free g.left g.stored)
