-- Answers that were given, and what was read; a name that is looked for in rows. Assumes nothing.
use Rattle.std.specs.Prelude.{Option, Err}
use mathlib.Core.Path.{◌≡◌, refl, sym, ap, ◌∙◌}
use mathlib.Core.List.{List, []}
use Prim.Native.Nat.{ℕ, ◌≤◌, ◌<◌}
use native.Mathlib.Omega.{arith}
use lib.ListN.{length}
use Rattle.text_words.specs.Spelling.{place_from}
use Rattle.text_words.specs.Names.{names_of}
use Rattle.domain_meaning.specs.Read.{Read, got, refused}
use Rattle.domain_meaning.specs.Tables.{Table, lookup}
use Rattle.domain_due.specs.Answers.{Parsed, Done, Refused}
use Rattle.domain_due.proofs.Dues.{done_parts, refused_parts}
use Rattle.domain_rows.specs.Held.{rows_of, Holds}
use Rattle.domain_rows.proofs.Rows.{lookup_held}
use Rattle.domain_typed_lists.specs.Outcome.{Outcome, Below, Room}

pub outcome_by : (m : ℕ) (r : Parsed) (rows : List ℕ) (x y : Read Table) → x ≡ y → Outcome m r rows y → Outcome m r rows x
outcome_by m r rows x y e h = rw e h

-- a table was read: it is held, with v names
pub record As (m : ℕ) (rows : List ℕ) (a v : ℕ) (x : Read Table) : Type 0 where
  pub table : Table
  pub holds : Holds m rows v table
  pub is : x ≡ got table a

pub outcome_done : (x : Read Table) (m : ℕ) (r : Parsed) (rows : List ℕ) (a v : ℕ) → Outcome m r rows x → r ≡ Done a v → As m rows a v x
unfolding Outcome
outcome_done (got t n) m r rows a v h e =
    let q = done_parts n a (length t) v (sym h.0 ∙ e) in
    record { table = t; holds = rw q.1 at h.1; is = ap (λ (j : ℕ). got t j) q.0 }
outcome_done (refused k p) m r rows a v h e = absurd (let z : ◌≡◌ {A = ℕ} 0 1 = cc in let y : ⊥ = omega arith in y)

pub outcome_refused : (x : Read Table) (m : ℕ) (r : Parsed) (rows : List ℕ) (k p : ℕ) → Outcome m r rows x → r ≡ Refused k p → x ≡ refused k p
unfolding Outcome
outcome_refused (got t n) m r rows k p h e = absurd (let q = h.0 in let z : ◌≡◌ {A = ℕ} 0 1 = cc q in let y : ⊥ = omega arith in y)
outcome_refused (refused j q) m r rows k p h e = let z = refused_parts j k q p (sym h ∙ e) in rw (z.0, z.1)

pub refuses : (m : ℕ) (r : Parsed) (rows : List ℕ) (k p : ℕ) (x : Read Table) → x ≡ refused k p → r ≡ Refused k p → Outcome m r rows x
unfolding Outcome
refuses m r rows k p x e h = rw e h

pub reads : (m : ℕ) (rows : List ℕ) (n a : ℕ) (t : Table) (x : Read Table) → x ≡ got t a → Holds m rows n t → Outcome m (Done a n) rows x
unfolding Outcome
reads m rows n a t x e h = rw (e, h.count) (refl, rw h.count at h)

pub below_done : (b a v : ℕ) (r : Parsed) → r ≡ Done a v → Below b r → v < b
unfolding Below
below_done b a v r e h = rw e at h

pub below_refused : (b k p : ℕ) (r : Parsed) → r ≡ Refused k p → Below b r
unfolding Below
below_refused b k p r e = rw e tt

pub below_most : (r : Parsed) (b d : ℕ) → b ≤ d → Below b r → Below d r
unfolding Below
below_most (Done a v) b d h q = omega arith
below_most (Err why) b d h q = tt

pub room_done : (m n a v : ℕ) (r : Parsed) → r ≡ Done a v → Room m n r → n < m
unfolding Room
room_done m n a v r e h = rw e at h

-- rows that are all zeros hold no name
pub holds_none : (m : ℕ) (rows : List ℕ) → rows ≡ rows_of m [] → Holds m rows 0 []
holds_none m rows e = record { are = e; count = refl; fits = let z : 0 ≤ m = omega arith in z; short = tt }

-- what `find` answers of the word v, which is w
pub found : (m : ℕ) (rows : List ℕ) (n : ℕ) (t : Table) (w v : List ℕ) (r f : Option ℕ) → Holds m rows n t → r ≡ place_from 0 (names_of n rows) v → v ≡ w
    → r ≡ f → lookup t w ≡ f
found m rows n t w v r f h q z e = sym (lookup_held m rows n t w h) ∙ sym (ap (λ (x : List ℕ). place_from 0 (names_of n rows) x) z) ∙ sym q ∙ e
