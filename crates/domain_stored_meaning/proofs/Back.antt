-- A table that lies in rows is what its rows give back. Assumes nothing.
use mathlib.Core.Path.{◌≡◌, refl, sym, ap, ◌∙◌}
use mathlib.Core.List.{List, [], ◌∷◌, ◌++◌, append-nil}
use Prim.Native.Nat.{ℕ, zero, suc, ◌+◌, ◌*◌, ◌≤◌, ◌<◌}
use native.Mathlib.Nat.{add-zero}
use native.Mathlib.Omega.{arith}
use lib.ListN.{length, get_or, take, length-append}
use lib.Seq.{drop_at}
use Rattle.domain_meaning.specs.Tables.{Entry, entry, name_of, info_of, Table}
use Rattle.domain_rows.specs.Held.{byte_at, row_of, rows_of, Short, Holds}
use Rattle.domain_meaning.specs.Indexes.{padded}
use Rattle.domain_rows.proofs.Rows.{length_padded, take_padded, none, row, short_at}
use Rattle.domain_terms.specs.Scoped.{AllSigned}
use Rattle.domain_terms.proofs.Wanted.{signed_at}
use Rattle.domain_stored_meaning.proofs.Standing.{Stands, head_is, behind, front, after}
use Rattle.domain_stored_meaning.specs.Entries.{bytes_from, name_in, info_in, typed_row, signed_row, entries_from, typed_in, signed_in, Typed, AllTyped}

-- ---- bytes that stand somewhere

bytes_stand : (rows : List ℕ) (at : ℕ) (xs : List ℕ) → Stands rows at xs → bytes_from rows at (length xs) ≡ xs
unfolding bytes_from
bytes_stand rows at [] s = refl
bytes_stand rows at (x ∷ xs) s = rw (head_is s, bytes_stand rows (at + 1) xs (behind s))

-- m bytes that hold a name, or numbers
padded_back : (rows : List ℕ) (at m : ℕ) (w : List ℕ) → Stands rows at (padded m w) → length w ≤ m → take (length w) (bytes_from rows at m) ≡ w
padded_back rows at m w s h =
    ap (λ (k : ℕ). take (length w) (bytes_from rows at k)) (sym (length_padded m w))
    ∙ ap (λ (l : List ℕ). take (length w) l) (bytes_stand rows at (padded m w) s ∙ sym (append-nil (padded m w)))
    ∙ take_padded m w [] h

-- ---- a row

module _ (m : ℕ) (rows : List ℕ) (n : ℕ) (t : Table) (h : Holds m rows n t) (i : ℕ) (below : i < n) where
  row_stands : Stands rows (38 * i) (row_of (get_or t i none))
  row_stands =
      let r = row t m i (omega (arith, h.count, h.fits)) (omega (arith, h.count, h.fits)) in
      let e = get_or t i none in
      let is : rows ≡ r.front ++ (row_of e ++ r.rest) = h.are ∙ r.is in
      record {
        room = rw is (omega (arith, r.long, length-append r.front (row_of e ++ r.rest), length-append (row_of e) r.rest));
        rest = r.rest;
        here = rw is (drop_at r.front (row_of e ++ r.rest) (38 * i) r.long);
      }

  name_back : name_in rows i ≡ name_of (get_or t i none)
  unfolding name_in
  name_back =
      let e = get_or t i none in
      let s : Stands rows (38 * i + 1 + length (padded 5 (info_of e))) (padded 32 (name_of e)) =
      after (padded 5 (info_of e)) (padded 32 (name_of e)) (behind row_stands) in
      let place : 38 * i + 1 + length (padded 5 (info_of e)) ≡ 38 * i + 6 = omega (arith, length_padded 5 (info_of e)) in
      rw (head_is row_stands) (padded_back rows (38 * i + 6) 32 (name_of e) (rw place at s) (short_at t i h.short))

  info_stands : Stands rows (38 * i + 1) (padded 5 (info_of (get_or t i none)))
  info_stands = let e = get_or t i none in front (padded 5 (info_of e)) (padded 32 (name_of e)) (behind row_stands)

  info_back : (is : List ℕ) → info_of (get_or t i none) ≡ is → length is ≤ 5 → info_in (length is) rows i ≡ is
  unfolding info_in
  info_back is e few = padded_back rows (38 * i + 1) 5 is (rw e at info_stands) few

  count_back : (k : ℕ) (ks : List ℕ) → info_of (get_or t i none) ≡ k ∷ ks → byte_at rows (38 * i + 1) ≡ k
  unfolding padded
  count_back k ks e = head_is (rw e at info_stands)

  -- an entry, by its name and its numbers
  row_back : (is : List ℕ) → info_of (get_or t i none) ≡ is → length is ≤ 5 → entry (name_in rows i) (info_in (length is) rows i) ≡ get_or t i none
  row_back is e few = rw (name_back, info_back is e few) (made (get_or t i none) e)
    where
      made : (e : Entry) → info_of e ≡ is → entry (name_of e) is ≡ e
      made (entry w js) q = rw q

-- ---- all rows

each_back : (f : ℕ → Entry) (t : Table) (i : ℕ) → ((j : ℕ) → j < length t → f (i + j) ≡ get_or t j none) → entries_from f i (length t) ≡ t
unfolding entries_from
each_back f [] i h = refl
each_back f (e ∷ t) i h =
    let first : f i ≡ e = ap f (sym (add-zero i)) ∙ h 0 (omega arith) in
    let on : (j : ℕ) → j < length t → f (i + 1 + j) ≡ get_or t j none = λ j k. let q : i + 1 + j ≡ i + suc j = omega arith in ap f q ∙ h (suc j) (omega arith) in
    rw (first, each_back f t (i + 1) on)

typed_at : (t : Table) (i : ℕ) → AllTyped t → i < length t → Typed (get_or t i none)
unfolding AllTyped
typed_at [] i h k = absurd (let z : ⊥ = omega arith in z)
typed_at (e ∷ t) zero h k = h.0
typed_at (e ∷ t) (suc i) h k = typed_at t i h.1 (omega arith)

module _ (m : ℕ) (rows : List ℕ) (n : ℕ) (t : Table) (h : Holds m rows n t) where
  pub typed_held : AllTyped t → typed_in rows n ≡ t
  unfolding typed_in typed_row
  typed_held a = rw h.count (each_back (typed_row rows) t 0 one)
    where
      one : (j : ℕ) → j < length t → typed_row rows (0 + j) ≡ get_or t j none
      one j k =
          let e : 0 + j ≡ j = omega arith in
          let g = typed_at t j a k in
          rw e (row_back m rows n t h j (omega (arith, h.count)) (g.type ∷ []) g.is (let z : 1 ≤ 5 = omega arith in z))

  pub signed_held : AllSigned t → signed_in rows n ≡ t
  unfolding signed_in signed_row
  signed_held a = rw h.count (each_back (signed_row rows) t 0 one)
    where
      one : (j : ℕ) → j < length t → signed_row rows (0 + j) ≡ get_or t j none
      one j k =
          let e : 0 + j ≡ j = omega arith in
          let g = signed_at t j a k in
          let b : j < n = omega (arith, h.count) in
          rw (e, count_back m rows n t h j b (length g.wanted) g.wanted g.is)
          (row_back m rows n t h j b (length g.wanted ∷ g.wanted) g.is (let z : suc (length g.wanted) ≤ 5 = omega (arith, g.few) in z))

-- the rows themselves
rows_hold : (m : ℕ) (t : Table) → length t ≤ m → Short t → Holds m (rows_of m t) (length t) t
rows_hold m t h k = record { are = refl; count = refl; fits = h; short = k }

pub typed_back : (m : ℕ) (t : Table) → length t ≤ m → Short t → AllTyped t → typed_in (rows_of m t) (length t) ≡ t
typed_back m t h k a = typed_held m (rows_of m t) (length t) t (rows_hold m t h k) a

pub signed_back : (m : ℕ) (t : Table) → length t ≤ m → Short t → AllSigned t → signed_in (rows_of m t) (length t) ≡ t
signed_back m t h k a = signed_held m (rows_of m t) (length t) t (rows_hold m t h k) a
