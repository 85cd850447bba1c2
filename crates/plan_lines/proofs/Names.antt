-- Tables that are read back from any rows: their names, their numbers, and the actions they declare. Assumes nothing.
use mathlib.Core.Path.{◌≡◌, refl, sym, ap, ◌∙◌}
use mathlib.Core.List.{List, [], ◌∷◌, map}
use mathlib.Core.Bool.{Bool, true, false, cond}
use Prim.Native.Nat.{ℕ, zero, suc, ◌+◌, ◌-◌, ◌*◌, ◌≤◌, ◌<◌, min}
use native.Mathlib.Nat.{add-zero}
use native.Mathlib.Omega.{arith}
use native.Mathlib.Decide.{dec_le}
use borrow.Author.Tests.{lt-ltb, le-ltb, ne_eqb}
use lib.Dec.{ltb, eqb}
use lib.ListN.{length, get_or, take, drop, length-take, length-drop, get_or-eq_default}
use lib.Seq.{get_or-take, get_or-drop, drop-drop}
use Rattle.base_laws.proofs.Lists.{at_cons}
use Rattle.text_tokens.specs.Runs.{part}
use Rattle.text_words.specs.Names as Names
use Rattle.text_words.specs.Spelling.{place_from}
use Rattle.domain_meaning.specs.Tables.{Entry, entry, name_of, Table, entry_at, type_of, wanted_of, lookup, is_below}
use Rattle.domain_rows.specs.Held.{byte_at}
use Rattle.domain_rows.proofs.Rows.{byte_is}
use Rattle.domain_terms.specs.Raw.{kept_in, below_in}
use Rattle.domain_terms.proofs.Kept.{raw_past, raw_kept, below_kept}
use Rattle.domain_meaning.specs.Actions.{moment, rule}
use Rattle.domain_prepared_meaning.specs.Preparing.{action_by}
use Rattle.domain_prepared_meaning.specs.Decode.{expression_at, lasts_at, place_in, action_at, actions_at}
use Rattle.plan_meaning.specs.Lines.{declarations}
use Rattle.plan_lines.specs.Knowing.{lasts_of}
use Rattle.domain_stored_meaning.specs.Entries.{bytes_from, name_in, info_in, typed_row, signed_row, entries_from, typed_in, signed_in}

-- ---- bytes

byte_in_part : (tables : List ℕ) (from to k : ℕ) → from + k < to → byte_at (part tables from to) k ≡ byte_at tables (from + k)
byte_in_part tables from to k h =
    byte_is (part tables from to) k
    ∙ get_or-take (to - from) (drop from tables) k 0 (omega arith)
    ∙ get_or-drop from tables k 0
    ∙ sym (byte_is tables (from + k))

pub part_long : (tables : List ℕ) (from to : ℕ) → to ≤ length tables → length (part tables from to) ≡ to - from
part_long tables from to h = rw (length-take (to - from) (drop from tables), length-drop from tables) (omega arith)

bytes_are : (rows : List ℕ) (k at : ℕ) → at + k ≤ length rows → bytes_from rows at k ≡ take k (drop at rows)
unfolding bytes_from
bytes_are rows zero at h = refl
bytes_are rows (suc k) at h = rw (at_cons rows at (omega arith), byte_is rows at, bytes_are rows k (at + 1) (omega arith))

bytes_at : (rows : List ℕ) (k at j : ℕ) → j < k → get_or (bytes_from rows at k) j 0 ≡ byte_at rows (at + j)
unfolding bytes_from
bytes_at rows zero at j h = absurd (let z : ⊥ = omega arith in z)
bytes_at rows (suc k) at zero h = rw (add-zero at)
bytes_at rows (suc k) at (suc j) h =
    let q : at + 1 + j ≡ at + suc j = omega arith in
    bytes_at rows k (at + 1) j (omega arith) ∙ ap (λ (i : ℕ). byte_at rows i) q

length_bytes : (rows : List ℕ) (k at : ℕ) → length (bytes_from rows at k) ≡ k
unfolding bytes_from
length_bytes rows zero at = refl
length_bytes rows (suc k) at = ap suc (length_bytes rows k (at + 1))

-- ---- names

name_in_lem : (rows : List ℕ) (i : ℕ) → 38 * i + 38 ≤ length rows → name_in rows i ≡ Names.name_of (drop (38 * i) rows)
unfolding name_in Names.name_of
name_in_lem rows i h =
    rw (bytes_are rows 32 (38 * i + 6) (omega arith), byte_is rows (38 * i), get_or-drop (38 * i) rows 0 0, add-zero (38 * i), drop-drop 6 (38 * i) rows)

module _ (rows : List ℕ) (f : ℕ → Entry) (named : (i : ℕ) → name_of (f i) ≡ name_in rows i) where
  names_from : (n i : ℕ) → 38 * (i + n) ≤ length rows → Names.names_of n (drop (38 * i) rows) ≡ map name_of (entries_from f i n)
  unfolding Names.names_of entries_from
  names_from zero i h = refl
  names_from (suc n) i h =
      let k : 38 ≤ length rows - 38 * i = omega arith in
      let q : 38 * i + 38 ≡ 38 * (i + 1) = omega arith in
      rw (
        length-drop (38 * i) rows,
        le-ltb (length rows - 38 * i) 38 k,
        drop-drop 38 (38 * i) rows,
        q,
        named i,
        name_in_lem rows i (omega arith),
        names_from n (i + 1) (omega arith),
      )

  lookup_from : (n : ℕ) (w : List ℕ) → 38 * n ≤ length rows → place_from 0 (Names.names_of n rows) w ≡ lookup (entries_from f 0 n) w
  unfolding lookup
  lookup_from n w h = ap (λ (vs : List (List ℕ)). place_from 0 vs w) (names_from n 0 (omega arith))

pub lookup_typed : (rows : List ℕ) (n : ℕ) (w : List ℕ) → 38 * n ≤ length rows → place_from 0 (Names.names_of n rows) w ≡ lookup (typed_in rows n) w
unfolding typed_in typed_row
lookup_typed rows n w h = lookup_from rows (typed_row rows) (λ i. refl) n w h

pub lookup_signed : (rows : List ℕ) (n : ℕ) (w : List ℕ) → 38 * n ≤ length rows → place_from 0 (Names.names_of n rows) w ≡ lookup (signed_in rows n) w
unfolding signed_in signed_row
lookup_signed rows n w h = lookup_from rows (signed_row rows) (λ i. refl) n w h

-- ---- entries

length_entries : (f : ℕ → Entry) (n i : ℕ) → length (entries_from f i n) ≡ n
unfolding entries_from
length_entries f zero i = refl
length_entries f (suc n) i = ap suc (length_entries f n (i + 1))

entry_from : (f : ℕ → Entry) (n i j : ℕ) → j < n → entry_at (entries_from f i n) j ≡ f (i + j)
unfolding entries_from
entry_from f zero i j h = absurd (let z : ⊥ = omega arith in z)
entry_from f (suc n) i zero h = rw (add-zero i)
entry_from f (suc n) i (suc j) h =
    let q : i + 1 + j ≡ i + suc j = omega arith in
    entry_from f n (i + 1) j (omega arith) ∙ ap f q

entry_here : (f : ℕ → Entry) (n i : ℕ) → i < n → entry_at (entries_from f 0 n) i ≡ f i
entry_here f n i h = let q : 0 + i ≡ i = omega arith in entry_from f n 0 i h ∙ ap f q

entry_past : (f : ℕ → Entry) (n i : ℕ) → n ≤ i → entry_at (entries_from f 0 n) i ≡ entry [] []
entry_past f n i h = let b : length (entries_from f 0 n) ≤ i = omega (arith, length_entries f n 0) in get_or-eq_default (entries_from f 0 n) (entry [] []) b

pub signed_length : (rows : List ℕ) (n : ℕ) → length (signed_in rows n) ≡ n
unfolding signed_in
signed_length rows n = length_entries (signed_row rows) n 0

pub typed_length : (rows : List ℕ) (n : ℕ) → length (typed_in rows n) ≡ n
unfolding typed_in
typed_length rows n = length_entries (typed_row rows) n 0

-- ---- types

module _ (tables : List ℕ) (from to n : ℕ) (room : from + 38 * n ≤ to) where
  pub kept_typed : (i : ℕ) → kept_in tables from n i 0 ≡ type_of (entry_at (typed_in (part tables from to) n) i)
  unfolding typed_in typed_row info_in bytes_from
  kept_typed i = elim (dec_le n i) [
    | yes past ↦ rw (raw_past tables from n i 0 past, entry_past (typed_row (part tables from to)) n i past)
    | no here ↦
        let q : from + 38 * i + 1 + 0 ≡ from + (38 * i + 1) = omega arith in
        rw (
          raw_kept tables from n i 0 (omega arith),
          entry_here (typed_row (part tables from to)) n i (omega arith),
          q,
          byte_in_part tables from to (38 * i + 1) (omega arith),
        )
  ]

pub below_typed : (tables : List ℕ) (to n a b : ℕ) → 38 * n ≤ to
    → below_in n tables n a b ≡ is_below (length (typed_in (part tables 0 to) n)) (typed_in (part tables 0 to) n) a b
below_typed tables to n a b h =
    let ts = typed_in (part tables 0 to) n in
    below_kept n tables n ts a b (kept_typed tables 0 to n (omega arith)) ∙ ap (λ (k : ℕ). is_below k ts a b) (sym (typed_length (part tables 0 to) n))

-- ---- parameters

module _ (heads : List ℕ) (n i : ℕ) where
  pub arity_signed : length (wanted_of (entry_at (signed_in heads n) i)) ≡ min (kept_in heads 0 n i 0) 4
  unfolding signed_in signed_row info_in bytes_from
  arity_signed = elim (dec_le n i) [
    | yes past ↦ rw (raw_past heads 0 n i 0 past, entry_past (signed_row heads) n i past)
    | no here ↦
        let q : 0 + 38 * i + 1 + 0 ≡ 38 * i + 1 = omega arith in
        rw (raw_kept heads 0 n i 0 (omega arith), entry_here (signed_row heads) n i (omega arith), q)
        (length-take (byte_at heads (38 * i + 1)) (bytes_from heads (38 * i + 1 + 1) 4)
        ∙ ap (λ (k : ℕ). min (byte_at heads (38 * i + 1)) k) (length_bytes heads 4 (38 * i + 1 + 1)))
  ]

  pub wanted_signed : (j : ℕ) → j < length (wanted_of (entry_at (signed_in heads n) i))
      → kept_in heads 0 n i (j + 1) ≡ get_or (wanted_of (entry_at (signed_in heads n) i)) j 0
  unfolding signed_in signed_row info_in bytes_from
  wanted_signed j h = elim (dec_le n i) [
    | yes past ↦ absurd (let z : ⊥ = omega (arith, arity_signed, raw_past heads 0 n i 0 past) in z)
    | no here ↦
        let q : 0 + 38 * i + 1 + 0 ≡ 38 * i + 1 = omega arith in
        let p : 0 + 38 * i + 1 + (j + 1) ≡ 38 * i + 1 + 1 + j = omega arith in
        let b : j < byte_at heads (38 * i + 1) = rw (← q, ← raw_kept heads 0 n i 0 (omega arith)) (omega (arith, arity_signed)) in
        rw (raw_kept heads 0 n i (j + 1) (omega arith), entry_here (signed_row heads) n i (omega arith), p)
        (sym (get_or-take (byte_at heads (38 * i + 1)) (bytes_from heads (38 * i + 1 + 1) 4) j 0 b
        ∙ bytes_at heads 4 (38 * i + 1 + 1) j (omega (arith, arity_signed))))
  ]

-- ---- the model's actions

pub lasting_read_lem : (rows : List ℕ) (at : ℕ) → ltb 0 (byte_at rows at) ≡ lasts_of (lasts_at rows at)
unfolding lasts_at byte_at
lasting_read_lem rows at = within (ltb at (length rows)) (get_or rows at 0)
  where
    within : (t : Bool) (b : ℕ) → ltb 0 (cond t b 0) ≡ lasts_of
        (cond t (cond (eqb (cond t b 0) 0) moment (rule (expression_at rows (at + 1)).tree)) moment)
    within true zero = refl
    within true (suc b) = rw (lt-ltb 0 (suc b) (omega arith), ne_eqb (suc b) 0 (λ e. let z : ⊥ = omega (arith, e) in z))
    within false b = refl

-- the first of an action's places, of its two bytes
pub place_read : (rows : List ℕ) (i : ℕ) → byte_at rows (1 + 12 * i) + 256 * byte_at rows (1 + 12 * i + 1) ≡ place_in rows i 0
unfolding place_in
place_read rows i = let z : 1 + 12 * i + 2 * 0 ≡ 1 + 12 * i = omega arith in rw z

pub declarations_read : (rows : List ℕ) (j : ℕ) (es : Table) → declarations (actions_at rows j es) ≡ es
unfolding actions_at action_at action_by
declarations_read rows j [] = refl
declarations_read rows j (e ∷ es) = ap (λ (t : Table). e ∷ t) (declarations_read rows (j + 1) es)
