-- Laws of the rows of a table. Assumes nothing.
use mathlib.Core.Path.{◌≡◌, refl, sym, ap, ◌∙◌}
use mathlib.Core.List.{List, [], ◌∷◌, ◌++◌, append_assoc, append-nil, map}
use Prim.Native.Nat.{ℕ, zero, suc, ◌+◌, ◌-◌, ◌*◌, ◌≤◌, ◌<◌}
use native.Mathlib.Numerals.{add-one}
use native.Mathlib.Omega.{arith}
use native.Mathlib.Decide.{dec_le}
use borrow.Author.Tests.{lt-ltb, le-ltb}
use lib.ListN.{length, get_or, take, drop, set, length-append, drop_of_length-le, get_or-append, get_or-map, get_or-eq_default, length-map}
use lib.Seq.{sets, drop-cons, drop_at, get_or_at, set_at, take_at, drop-append-add, get_or-append-add}
use Rattle.base_laws.proofs.Sets.{sets_cons, sets_at}
use Rattle.text_words.specs.Names as Names
use Rattle.text_words.specs.Spelling.{place_from}
use Rattle.domain_meaning.specs.Tables.{Entry, entry, name_of, info_of, type_of, with_type, Table, lookup, retype}
use Rattle.domain_rows.specs.Held.{byte_at, row_of, rows_of, Short, Holds}
use Rattle.domain_meaning.specs.Indexes.{padded}

-- ---- a byte past the end is 0 by either reading

pub byte_past : (rows : List ℕ) (i : ℕ) → length rows ≤ i → byte_at rows i ≡ 0
unfolding byte_at
byte_past rows i past = rw (le-ltb i (length rows) past)

pub byte_is : (rows : List ℕ) (i : ℕ) → byte_at rows i ≡ get_or rows i 0
unfolding byte_at
byte_is rows i = elim (dec_le (length rows) i) [
  | yes past ↦ byte_past rows i past ∙ sym (get_or-eq_default rows 0 past)
  | no here ↦ rw (lt-ltb i (length rows) (omega arith))
]

-- ---- names and rows

pub length_padded : (m : ℕ) (w : List ℕ) → length (padded m w) ≡ m
unfolding padded
length_padded zero w = refl
length_padded (suc m) [] = ap suc (length_padded m [])
length_padded (suc m) (b ∷ bs) = ap suc (length_padded m bs)

pub take_padded : (m : ℕ) (w rest : List ℕ) → length w ≤ m → take (length w) (padded m w ++ rest) ≡ w
unfolding padded
take_padded m [] rest h = refl
take_padded zero (b ∷ bs) rest h = absurd (let z : ⊥ = omega arith in z)
take_padded (suc m) (b ∷ bs) rest h = ap (λ (l : List ℕ). b ∷ l) (take_padded m bs rest (omega arith))

-- a name stored over zeros
pub sets_padded : (m : ℕ) (w rest : List ℕ) → length w ≤ m → sets (padded m [] ++ rest) 0 w ≡ padded m w ++ rest
unfolding padded
sets_padded m [] rest h = refl
sets_padded zero (b ∷ bs) rest h = absurd (let z : ⊥ = omega arith in z)
sets_padded (suc m) (b ∷ bs) rest h = sets_cons b (padded m [] ++ rest) 0 bs ∙ ap (λ (l : List ℕ). b ∷ l) (sets_padded m bs rest (omega arith))

pub length_row : (e : Entry) → length (row_of e) ≡ 38
length_row e = let z : suc (length (padded 5 (info_of e) ++ padded 32 (name_of e))) ≡ 38 =
    omega (arith, length-append (padded 5 (info_of e)) (padded 32 (name_of e)), length_padded 5 (info_of e), length_padded 32 (name_of e)) in z

pub length_rows : (m : ℕ) (t : Table) → length (rows_of m t) ≡ 38 * m
unfolding rows_of
length_rows zero t = refl
length_rows (suc m) [] = omega (arith, length-append (row_of (entry [] [])) (rows_of m []), length_row (entry [] []), length_rows m [])
length_rows (suc m) (e ∷ t) = omega (arith, length-append (row_of e) (rows_of m t), length_row e, length_rows m t)

-- ---- one row: the table with the entry e at i, where it has i names or more

unfoldable pub put : Table → ℕ → Entry → Table
put [] i e = e ∷ []
put (x ∷ t) zero e = e ∷ t
put (x ∷ t) (suc i) e = x ∷ put t i e

abbrev pub none : Entry
none = entry [] []

-- the rows before row i and after it
pub record Row (m : ℕ) (t : Table) (i : ℕ) : Type 0 where
  pub front : List ℕ
  pub rest : List ℕ
  pub long : length front ≡ 38 * i
  pub is : rows_of m t ≡ front ++ (row_of (get_or t i none) ++ rest)
  pub after : (e : Entry) → rows_of m (put t i e) ≡ front ++ (row_of e ++ rest)

pub row : (t : Table) (m i : ℕ) → i ≤ length t → i < m → Row m t i
unfolding rows_of put
row t zero i h k = absurd (let z : ⊥ = omega arith in z)
row [] (suc m) zero h k = record { front = []; rest = rows_of m []; long = refl; is = refl; after = λ e. refl }
row [] (suc m) (suc i) h k = absurd (let z : ⊥ = omega arith in z)
row (x ∷ t) (suc m) zero h k = record { front = []; rest = rows_of m t; long = refl; is = refl; after = λ e. refl }
row (x ∷ t) (suc m) (suc i) h k =
    let r = row t m i (omega arith) (omega arith) in
    record {
      front = row_of x ++ r.front;
      rest = r.rest;
      long = let z : length (row_of x ++ r.front) ≡ 38 * suc i = omega (arith, length-append (row_of x) r.front, length_row x, r.long) in z;
      is = ap (λ (l : List ℕ). row_of x ++ l) r.is ∙ sym (append_assoc (row_of x) r.front (row_of (get_or t i none) ++ r.rest));
      after = λ e. ap (λ (l : List ℕ). row_of x ++ l) (r.after e) ∙ sym (append_assoc (row_of x) r.front (row_of e ++ r.rest));
    }

pub put_end : (t : Table) (e : Entry) → put t (length t) e ≡ t ++ e ∷ []
unfolding put
put_end [] e = refl
put_end (x ∷ t) e = ap (λ (l : Table). x ∷ l) (put_end t e)

pub short_at : (t : Table) (i : ℕ) → Short t → length (name_of (get_or t i none)) ≤ 32
short_at [] i h = let z : 0 ≤ 32 = omega arith in z
short_at (x ∷ t) zero h = h.0
short_at (x ∷ t) (suc i) h = short_at t i h.1

pub short_put : (t : Table) (i : ℕ) (e : Entry) → Short t → length (name_of e) ≤ 32 → Short (put t i e)
unfolding put
short_put [] i e h k = (k, tt)
short_put (x ∷ t) zero e h k = (k, h.1)
short_put (x ∷ t) (suc i) e h k = (h.0, short_put t i e h.1 k)

pub length_put : (t : Table) (i : ℕ) (e : Entry) → i < length t → length (put t i e) ≡ length t
unfolding put
length_put [] i e h = absurd (let z : ⊥ = omega arith in z)
length_put (x ∷ t) zero e h = refl
length_put (x ∷ t) (suc i) e h = ap suc (length_put t i e (omega arith))

pub rows_long : (m : ℕ) (rows : List ℕ) (n : ℕ) (t : Table) → Holds m rows n t → length rows ≡ 38 * m
rows_long m rows n t h = ap length h.are ∙ length_rows m t

-- the name of a row, after its length and its numbers
drop_info : (is w rest : List ℕ) → drop 5 ((padded 5 is ++ padded 32 w) ++ rest) ≡ padded 32 w ++ rest
drop_info is w rest = ap (λ (l : List ℕ). drop 5 l) (append_assoc (padded 5 is) (padded 32 w) rest)
    ∙ drop_at (padded 5 is) (padded 32 w ++ rest) 5 (length_padded 5 is)

head_padded : (is : List ℕ) → get_or (padded 5 is) 0 0 ≡ get_or is 0 0
unfolding padded
head_padded [] = refl
head_padded (i ∷ is) = refl

-- the type stored over the first number
set_info : (is x : List ℕ) (k : ℕ) → set (padded 5 is ++ x) 0 k ≡ padded 5 (k ∷ drop 1 is) ++ x
unfolding padded
set_info [] x k = refl
set_info (i ∷ is) x k = refl

-- ---- what is read of row i, and what is stored in it

module _ (m : ℕ) (rows : List ℕ) (n : ℕ) (t : Table) (h : Holds m rows n t) (i : ℕ) (below : i < n) where
  the_row : Row m t i
  the_row = row t m i (omega (arith, h.count, h.fits)) (omega (arith, h.count, h.fits))

  pub row_type : get_or rows (38 * i + 1) 0 ≡ type_of (get_or t i none)
  row_type =
      let r = the_row in
      let e = get_or t i none in
      ap (λ (l : List ℕ). get_or l (38 * i + 1) 0) (h.are ∙ r.is)
      ∙ ap (λ (k : ℕ). get_or (r.front ++ (row_of e ++ r.rest)) (k + 1) 0) (sym r.long)
      ∙ get_or-append-add r.front (row_of e ++ r.rest) 1 0
      ∙ ap (λ (l : List ℕ). get_or l 0 0) (append_assoc (padded 5 (info_of e)) (padded 32 (name_of e)) r.rest)
      ∙ get_or-append (padded 5 (info_of e)) (padded 32 (name_of e) ++ r.rest) 0 0 (omega (arith, length_padded 5 (info_of e)))
      ∙ head_padded (info_of e)

  -- a type stored
  pub row_typed : (k : ℕ) → Holds m (set rows (38 * i + 1) k) n (put t i (with_type k (get_or t i none)))
  row_typed k =
      let r = the_row in
      let e = get_or t i none in
      let l = length (name_of e) in
      let x = padded 32 (name_of e) ++ r.rest in
      let long : length (r.front ++ l ∷ []) ≡ 38 * i + 1 = omega (arith, length-append r.front (l ∷ []), r.long) in
      record {
        are = ap (λ (y : List ℕ). set y (38 * i + 1) k) (h.are ∙ r.is
            ∙ ap (λ (y : List ℕ). r.front ++ (l ∷ y)) (append_assoc (padded 5 (info_of e)) (padded 32 (name_of e)) r.rest)
            ∙ sym (append_assoc r.front (l ∷ []) (padded 5 (info_of e) ++ x)))
            ∙ sets_at (r.front ++ l ∷ []) (padded 5 (info_of e) ++ x) (k ∷ []) (38 * i + 1) long
            ∙ append_assoc r.front (l ∷ []) (set (padded 5 (info_of e) ++ x) 0 k)
            ∙ ap (λ (y : List ℕ). r.front ++ (l ∷ y)) (set_info (info_of e) x k
            ∙ sym (append_assoc (padded 5 (k ∷ drop 1 (info_of e))) (padded 32 (name_of e)) r.rest))
            ∙ sym (r.after (with_type k e));
        count = h.count ∙ sym (length_put t i (with_type k e) (omega (arith, h.count)));
        fits = h.fits;
        short = short_put t i (with_type k e) h.short (short_at t i h.short);
      }

-- a name stored in the first row that is free
pub row_entered : (m : ℕ) (rows : List ℕ) (n : ℕ) (t : Table) (w is : List ℕ) → Holds m rows n t → n < m → length w ≤ 32 → length is ≤ 5
    → Holds m (sets (sets (set rows (38 * n) (length w)) (38 * n + 1) is) (38 * n + 6) w) (n + 1) (t ++ entry w is ∷ [])
row_entered m rows n t w is h below k q =
    let r = row t m n (omega (arith, h.count)) below in
    let l = length w in
    let free : get_or t n none ≡ none = past t n (omega (arith, h.count)) in
    let x = padded 32 [] ++ r.rest in
    let one : length (r.front ++ l ∷ []) ≡ 38 * n + 1 = omega (arith, length-append r.front (l ∷ []), r.long) in
    let six : length ((r.front ++ l ∷ []) ++ padded 5 is) ≡ 38 * n + 6 =
    omega (arith, length-append (r.front ++ l ∷ []) (padded 5 is), one, length_padded 5 is) in
    record {
      are = ap (λ (y : List ℕ). sets (sets (set y (38 * n) l) (38 * n + 1) is) (38 * n + 6) w)
          (h.are ∙ r.is ∙ ap (λ (e : Entry). r.front ++ (row_of e ++ r.rest)) free
          ∙ ap (λ (y : List ℕ). r.front ++ (0 ∷ y)) (append_assoc (padded 5 []) (padded 32 []) r.rest))
          ∙ ap (λ (y : List ℕ). sets (sets y (38 * n + 1) is) (38 * n + 6) w)
          (set_at r.front 0 (padded 5 [] ++ x) l (38 * n) r.long ∙ sym (append_assoc r.front (l ∷ []) (padded 5 [] ++ x)))
          ∙ ap (λ (y : List ℕ). sets y (38 * n + 6) w) (sets_at (r.front ++ l ∷ []) (padded 5 [] ++ x) is (38 * n + 1) one
          ∙ ap (λ (y : List ℕ). (r.front ++ l ∷ []) ++ y) (sets_padded 5 is x q)
          ∙ sym (append_assoc (r.front ++ l ∷ []) (padded 5 is) x))
          ∙ sets_at ((r.front ++ l ∷ []) ++ padded 5 is) x w (38 * n + 6) six
          ∙ ap (λ (y : List ℕ). ((r.front ++ l ∷ []) ++ padded 5 is) ++ y) (sets_padded 32 w r.rest k)
          ∙ append_assoc (r.front ++ l ∷ []) (padded 5 is) (padded 32 w ++ r.rest)
          ∙ append_assoc r.front (l ∷ []) (padded 5 is ++ (padded 32 w ++ r.rest))
          ∙ ap (λ (y : List ℕ). r.front ++ (l ∷ y)) (sym (append_assoc (padded 5 is) (padded 32 w) r.rest))
          ∙ sym (r.after (entry w is))
          ∙ ap (λ (y : Table). rows_of m y) (ap (λ (j : ℕ). put t j (entry w is)) h.count ∙ put_end t (entry w is));
      count = let z : n + 1 ≡ length (t ++ entry w is ∷ []) = omega (arith, h.count, length-append t (entry w is ∷ [])) in z;
      fits = let z : n + 1 ≤ m = omega arith in z;
      short = short_more t (entry w is) h.short k;
    }
  where
    past : (t : Table) (i : ℕ) → length t ≤ i → get_or t i none ≡ none
    past [] i h = refl
    past (x ∷ t) zero h = absurd (let z : ⊥ = omega arith in z)
    past (x ∷ t) (suc i) h = past t i (omega arith)

    short_more : (t : Table) (e : Entry) → Short t → length (name_of e) ≤ 32 → Short (t ++ e ∷ [])
    short_more [] e h k = (k, tt)
    short_more (x ∷ t) e h k = (h.0, short_more t e h.1 k)

-- ---- the types, a name at a time

pub retype_step : (i : ℕ) (t : Table) (k : ℕ) → i < length t → retype i k t ≡ retype (suc i) k (put t i (with_type k (get_or t i none)))
unfolding retype put
retype_step i [] k h = absurd (let z : ⊥ = omega arith in z)
retype_step zero (e ∷ t) k h = refl
retype_step (suc i) (e ∷ t) k h = ap (λ (l : Table). e ∷ l) (retype_step i t k (omega arith))

pub retype_end : (i : ℕ) (t : Table) (k : ℕ) → length t ≤ i → retype i k t ≡ t
unfolding retype
retype_end zero [] k h = refl
retype_end zero (e ∷ t) k h = absurd (let z : ⊥ = omega arith in z)
retype_end (suc i) [] k h = refl
retype_end (suc i) (e ∷ t) k h = ap (λ (l : Table). e ∷ l) (retype_end i t k (omega arith))

-- ---- stores one by one

-- the rows, with the types stored up to name i, hold a table whose rest is to be typed
pub record Filled (m : ℕ) (rows : List ℕ) (n i g k : ℕ) (t : Table) : Type 0 where
  pub now : Table
  pub holds : Holds m rows n now
  pub same : retype i k now ≡ retype g k t

pub filled_more : (m : ℕ) (rows : List ℕ) (n i g k : ℕ) (t : Table) → i < n → Filled m rows n i g k t → Filled m (set rows (38 * i + 1) k) n (i + 1) g k t
filled_more m rows n i g k t h f = record {
  now = put f.now i (with_type k (get_or f.now i none));
  holds = row_typed m rows n f.now f.holds i h k;
  same = ap (λ (j : ℕ). retype j k (put f.now i (with_type k (get_or f.now i none)))) (add-one i)
      ∙ sym (retype_step i f.now k (omega (arith, f.holds.count))) ∙ f.same;
}

pub filled_end : (m : ℕ) (rows : List ℕ) (n i g k : ℕ) (t : Table) → n ≤ i → Filled m rows n i g k t → Holds m rows n (retype g k t)
filled_end m rows n i g k t h f = rw (sym f.same ∙ retype_end i f.now k (omega (arith, f.holds.count))) f.holds

-- ---- the types of all names

module _ (m : ℕ) (rows : List ℕ) (n : ℕ) (t : Table) (h : Holds m rows n t) (out : List ℕ) (i : ℕ) where
  pub signed_step : i < n → sets (set out (i + 1) (get_or rows (38 * i + 1) 0)) (i + 1 + 1) (drop (i + 1) (map type_of t)) ≡ sets out (i + 1)
      (drop i (map type_of t))
  signed_step below =
      let e : i + 1 + 1 ≡ suc (i + 1) = omega arith in
      let b : i < length (map type_of t) = omega (arith, h.count, length-map t type_of) in
      let v : get_or rows (38 * i + 1) 0 ≡ get_or (map type_of t) i 0 = row_type m rows n t h i below ∙ sym (get_or-map type_of t i none) in
      let d : drop i (map type_of t) ≡ get_or (map type_of t) i 0 ∷ drop (i + 1) (map type_of t) = rw (add-one, drop-cons (map type_of t) i 0) in
      ap (λ (k : ℕ). sets (set out (i + 1) (get_or rows (38 * i + 1) 0)) k (drop (i + 1) (map type_of t))) e
      ∙ ap (λ (k : ℕ). sets (set out (i + 1) k) (suc (i + 1)) (drop (i + 1) (map type_of t))) v
      ∙ sym (ap (λ (l : List ℕ). sets out (i + 1) l) d)

  pub signed_end : n ≤ i → sets out (i + 1) (drop i (map type_of t)) ≡ out
  signed_end past =
      let b : length (map type_of t) ≤ i = omega (arith, h.count, length-map t type_of) in
      ap (λ (l : List ℕ). sets out (i + 1) l) (drop_of_length-le (map type_of t) b)

-- ---- the names of a table, as they are looked up

take_front : (m : ℕ) (w rest : List ℕ) → take m (padded m w ++ rest) ≡ padded m w
take_front m w rest = take_at (padded m w) rest m (length_padded m w)

name_back : (e : Entry) (rest : List ℕ) → length (name_of e) ≤ 32 → Names.name_of (row_of e ++ rest) ≡ name_of e
unfolding Names.name_of
name_back e rest h =
    rw (drop_info (info_of e) (name_of e) rest, take_front 32 (name_of e) rest)
    (ap (λ (l : List ℕ). take (length (name_of e)) l) (sym (append-nil (padded 32 (name_of e)))) ∙ take_padded 32 (name_of e) [] h)

names_back : (t : Table) (m n : ℕ) → n ≡ length t → n ≤ m → Short t → Names.names_of n (rows_of m t) ≡ map name_of t
unfolding Names.names_of rows_of
names_back [] m zero h k s = refl
names_back [] m (suc n) h k s = absurd (let z : ⊥ = omega arith in z)
names_back (e ∷ t) m zero h k s = absurd (let z : ⊥ = omega arith in z)
names_back (e ∷ t) zero (suc n) h k s = absurd (let z : ⊥ = omega arith in z)
names_back (e ∷ t) (suc m) (suc n) h k s =
    let long : 38 ≤ length (row_of e ++ rows_of m t) = omega (arith, length-append (row_of e) (rows_of m t), length_row e) in
    rw (
      le-ltb (length (row_of e ++ rows_of m t)) 38 long,
      name_back e (rows_of m t) s.0,
      drop_at (row_of e) (rows_of m t) 38 (length_row e),
      names_back t m n (omega arith) (omega arith) s.1,
    )

-- looking a word up in the rows is looking it up in the table
pub lookup_held : (m : ℕ) (rows : List ℕ) (n : ℕ) (t : Table) (w : List ℕ) → Holds m rows n t → place_from 0 (Names.names_of n rows) w ≡ lookup t w
unfolding lookup
lookup_held m rows n t w h = rw (h.are, names_back t m n h.count h.fits h.short)
