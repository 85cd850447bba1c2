-- What a table in a part of a slice keeps, byte by byte. Assumes nothing.
use Rattle.std.specs.Prelude.{Some}
use mathlib.Core.Path.{◌≡◌, refl, sym, ap, ◌∙◌}
use mathlib.Core.List.{List, [], ◌∷◌, ◌++◌, append_assoc, map}
use mathlib.Core.Bool.{Bool, true, false, cond}
use Prim.Native.Nat.{ℕ, zero, suc, ◌+◌, ◌-◌, ◌*◌, ◌≤◌, ◌<◌}
use native.Mathlib.Nat.{add_comm}
use native.Mathlib.Numerals.{add-one}
use native.Mathlib.Omega.{arith}
use native.Mathlib.Decide.{dec_le}
use borrow.Author.Tests.{lt-ltb, eq-eqb, ne_eqb, le-leb, lt-leb}
use lib.ListN.{length, get_or, drop, length-take, length-drop, length-map, get_or-append, get_or-eq_default}
use lib.Seq.{get_or-take, get_or-drop, get_or-append-add}
use lib.Dec.{eqb}
use Rattle.text_words.specs.Spelling.{same_word, place_from}
use Rattle.text_tokens.specs.Runs.{part}
use Rattle.domain_meaning.specs.Tables.{entry, name_of, info_of, Table, entry_at, type_of, lookup, is_below}
use Rattle.domain_rows.specs.Held.{byte_at, row_of, Holds}
use Rattle.domain_meaning.specs.Indexes.{padded}
use Rattle.domain_terms.specs.Raw.{kept_in, below_in}
use Rattle.domain_rows.proofs.Rows.{length_padded, length_rows, row}

-- a number of a row, after the name's length
padded_at : (m j : ℕ) (xs : List ℕ) → j < m → get_or (padded m xs) j 0 ≡ get_or xs j 0
unfolding padded
padded_at zero j xs h = absurd (let z : ⊥ = omega arith in z)
padded_at (suc m) zero [] h = refl
padded_at (suc m) zero (x ∷ xs) h = refl
padded_at (suc m) (suc j) [] h = padded_at m j [] (omega arith)
padded_at (suc m) (suc j) (x ∷ xs) h = padded_at m j xs (omega arith)

kept_at : (m : ℕ) (rows : List ℕ) (n : ℕ) (t : Table) (h : Holds m rows n t) (i j : ℕ) → i < n → j < 5
    → get_or rows (38 * i + (1 + j)) 0 ≡ get_or (info_of (entry_at t i)) j 0
kept_at m rows n t h i j below few =
    let r = row t m i (omega (arith, h.count, h.fits)) (omega (arith, h.count, h.fits)) in
    let e = entry_at t i in
    ap (λ (l : List ℕ). get_or l (38 * i + (1 + j)) 0) (h.are ∙ r.is)
    ∙ ap (λ (k : ℕ). get_or (r.front ++ (row_of e ++ r.rest)) (k + (1 + j)) 0) (sym r.long)
    ∙ get_or-append-add r.front (row_of e ++ r.rest) (1 + j) 0
    ∙ rw (add_comm 1 j, add-one j) (ap (λ (l : List ℕ). get_or l j 0) (append_assoc (padded 5 (info_of e)) (padded 32 (name_of e)) r.rest))
    ∙ get_or-append (padded 5 (info_of e)) (padded 32 (name_of e) ++ r.rest) 0 j (omega (arith, length_padded 5 (info_of e)))
    ∙ padded_at 5 j (info_of e) few

module _ (tables : List ℕ) (from to m n : ℕ) (t : Table) (h : Holds m (part tables from to) n t) where
  long : 38 * m ≤ length tables - from
  long =
      let e : length (part tables from to) ≡ 38 * m = ap length h.are ∙ length_rows m t in
      omega (arith, e, length-take (to - from) (drop from tables), length-drop from tables)

  kept_in_part : (i j : ℕ) → i < n → j < 5 → byte_at tables (from + 38 * i + 1 + j) ≡ get_or (info_of (entry_at t i)) j 0
  unfolding byte_at
  kept_in_part i j below few =
      let k = 38 * i + (1 + j) in
      let at : from + 38 * i + 1 + j ≡ from + k = omega arith in
      let e : length (part tables from to) ≡ 38 * m = ap length h.are ∙ length_rows m t in
      let room : from + k < length tables = omega (arith, long, h.fits) in
      let short : k < to - from = omega (arith, e, length-take (to - from) (drop from tables), h.fits) in
      rw (at, lt-ltb (from + k) (length tables) room, ← get_or-drop from tables k 0, ← get_or-take (to - from) (drop from tables) k 0 short)
      (kept_at m (part tables from to) n t h i j below few)

kept_past : (m : ℕ) (rows : List ℕ) (n : ℕ) (t : Table) (i j : ℕ) → Holds m rows n t → n ≤ i → 0 ≡ get_or (info_of (entry_at t i)) j 0
kept_past m rows n t i j h past =
    let b : length t ≤ i = omega (arith, h.count) in
    rw (get_or-eq_default t (entry [] []) b)

-- ---- any bytes, and those that hold a table

pub raw_past : (tables : List ℕ) (from n i j : ℕ) → n ≤ i → kept_in tables from n i j ≡ 0
unfolding kept_in
raw_past tables from n i j h = rw (le-leb n i h)

pub raw_kept : (tables : List ℕ) (from n i j : ℕ) → i < n → kept_in tables from n i j ≡ byte_at tables (from + 38 * i + 1 + j)
unfolding kept_in
raw_kept tables from n i j h = rw (lt-leb n i h)

pub raw_held : (tables : List ℕ) (from to m n : ℕ) (t : Table) (i j : ℕ) → Holds m (part tables from to) n t → j < 5
    → kept_in tables from n i j ≡ get_or (info_of (entry_at t i)) j 0
raw_held tables from to m n t i j h few = elim (dec_le n i) [
  | yes past ↦ raw_past tables from n i j past ∙ kept_past m (part tables from to) n t i j h past
  | no here ↦ raw_kept tables from n i j (omega arith) ∙ kept_in_part tables from to m n t h i j (omega arith) few
]

-- ---- the way up from a type

pub below_same : (k : ℕ) (tables : List ℕ) (n x b : ℕ) → 0 < k → x ≡ b → true ≡ below_in k tables n x b
unfolding below_in
below_same zero tables n x b h e = absurd (let z : ⊥ = omega arith in z)
below_same (suc k) tables n x b h e = rw (eq-eqb x b e)

pub below_up : (k : ℕ) (tables : List ℕ) (n x b : ℕ) → 0 < k → (x ≡ b → ⊥) → below_in k tables n x b ≡ below_in (k - 1) tables n (kept_in tables 0 n x 0) b
unfolding below_in
below_up zero tables n x b h e = absurd (let z : ⊥ = omega arith in z)
below_up (suc k) tables n x b h e = let q : suc k - 1 ≡ k = omega arith in rw (q, ne_eqb x b e)

pub below_end : (k : ℕ) (tables : List ℕ) (n x b : ℕ) → k ≤ 0 → eqb x b ≡ below_in k tables n x b
unfolding below_in
below_end k tables n x b h = let q : k ≡ 0 = omega arith in rw q

-- bytes that keep each type's parent
pub below_kept : (k : ℕ) (tables : List ℕ) (n : ℕ) (ts : Table) (x b : ℕ) → ((i : ℕ) → kept_in tables 0 n i 0 ≡ type_of (entry_at ts i))
    → below_in k tables n x b ≡ is_below k ts x b
unfolding below_in is_below
below_kept zero tables n ts x b h = refl
below_kept (suc k) tables n ts x b h = rw (h x, below_kept k tables n ts (type_of (entry_at ts x)) b h)

pub below_held : (tables : List ℕ) (to m n : ℕ) (ts : Table) (x b : ℕ) → Holds m (part tables 0 to) n ts → below_in n tables n x b ≡ is_below (length ts) ts x b
below_held tables to m n ts x b h =
    below_kept n tables n ts x b (λ i. raw_held tables 0 to m n ts i 0 h (let z : 0 < 5 = omega arith in z)) ∙ ap (λ (k : ℕ). is_below k ts x b) h.count

-- ---- a name that was found stands in its table

place_below : (vs : List (List ℕ)) (w : List ℕ) (k i : ℕ) → place_from k vs w ≡ Some i → i < k + length vs
unfolding place_from
place_below [] w k i e = absurd (let z : ◌≡◌ {A = ℕ} 0 1 = cc in let y : ⊥ = omega arith in y)
place_below (v ∷ vs) w k i e = go (same_word v w) e (λ h. place_below vs w (k + 1) i h)
  where
    go : (t : Bool) → cond t (Some k) (place_from (k + 1) vs w) ≡ Some i → (place_from (k + 1) vs w ≡ Some i → i < k + 1 + length vs) → i < k + suc (length vs)
    go true h f = let q : k ≡ i = cc in omega arith
    go false h f = omega (arith, f h)

pub found_below : (t : Table) (w : List ℕ) (i : ℕ) → lookup t w ≡ Some i → i < length t
unfolding lookup
found_below t w i e = omega (arith, place_below (map name_of t) w 0 i e, length-map t name_of)
