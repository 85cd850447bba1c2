-- Tables of their own, stored in the parts of one slice of zeros, are the tables of a scope. Assumes nothing.
use mathlib.Core.Path.{◌≡◌, refl, sym, ap, ◌∙◌}
use mathlib.Core.List.{List, []}
use Prim.Native.Nat.{ℕ, ◌≤◌}
use native.Mathlib.Omega.{arith}
use lib.ListN.{length}
use lib.Seq.{sets, length-sets}
use Rattle.text_words.specs.Bytes.{bytes}
use Rattle.text_tokens.specs.Runs.{part}
use Rattle.domain_meaning.specs.Read.{Read, got, refused}
use Rattle.domain_meaning.specs.Due.{Name}
use Rattle.domain_meaning.specs.Domain.{Vocabulary, heading_of, flags_section, vocabulary, scope_in}
use Rattle.domain_rows.specs.Held.{rows_of}
use Rattle.domain_meaning.specs.Indexes.{padded}
use Rattle.domain_rows.proofs.Rows.{length_rows, rows_long}
use Rattle.domain_rows.proofs.Parts.{part_before, part_behind_lem, part_stored}
use Rattle.domain_terms.specs.Scoped.{Scoped}
use Rattle.domain_typed_lists.proofs.Outcomes.{holds_none}
use Rattle.domain_sections.specs.Openings.{Titled, titled_of}
use Rattle.domain_sections.specs.Openings as T
use Rattle.domain_preamble.specs.Beginning.{Preamble, Refused, counts_of, Lists, Listed, Declares}
use Rattle.domain_meaning.proofs.Headings.{headed}
use Rattle.domain_preamble.proofs.Ways.{Title, titled}
use Rattle.domain_rows.specs.Layout.{objects_at, predicates_at, functions_at, variables_at, tables_length}

-- the last four rows of zeros
last_zeros : part (rows_of 133 []) variables_at tables_length ≡ rows_of 4 []
unfolding rows_of padded
last_zeros = refl

-- ---- the slice after each table is stored

module _ (ts os ps fs l l1 l2 l3 l4 : List ℕ) (e1 : l1 ≡ sets l 0 ts) (e2 : l2 ≡ sets l1 objects_at os) (e3 : l3 ≡ sets l2 predicates_at ps)
    (e4 : l4 ≡ sets l3 functions_at fs)
    (n1 : length ts ≡ objects_at) (n2 : length os ≡ 2432) (n3 : length ps ≡ 1216) (n4 : length fs ≡ 608) (long : length l ≡ tables_length) where
  long1 : length l1 ≡ tables_length
  long1 = rw e1 (length-sets l 0 ts ∙ long)

  long2 : length l2 ≡ tables_length
  long2 = rw e2 (length-sets l1 objects_at os ∙ long1)

  long3 : length l3 ≡ tables_length
  long3 = rw e3 (length-sets l2 predicates_at ps ∙ long2)

  long4 : length l4 ≡ tables_length
  long4 = rw e4 (length-sets l3 functions_at fs ∙ long3)

  types_part : part l4 0 objects_at ≡ ts
  types_part =
      ap (λ (k : List ℕ). part k 0 objects_at) e4 ∙ part_before fs l3 0 objects_at functions_at (omega arith) (omega arith)
      ∙ ap (λ (k : List ℕ). part k 0 objects_at) e3 ∙ part_before ps l2 0 objects_at predicates_at (omega arith) (omega arith)
      ∙ ap (λ (k : List ℕ). part k 0 objects_at) e2 ∙ part_before os l1 0 objects_at objects_at (omega arith) (omega arith)
      ∙ ap (λ (k : List ℕ). part k 0 objects_at) e1 ∙ part_stored l ts 0 objects_at (omega arith) (omega arith)

  objects_part : part l4 objects_at predicates_at ≡ os
  objects_part =
      ap (λ (k : List ℕ). part k objects_at predicates_at) e4 ∙ part_before fs l3 objects_at predicates_at functions_at (omega arith) (omega arith)
      ∙ ap (λ (k : List ℕ). part k objects_at predicates_at) e3 ∙ part_before ps l2 objects_at predicates_at predicates_at (omega arith) (omega arith)
      ∙ ap (λ (k : List ℕ). part k objects_at predicates_at) e2 ∙ part_stored l1 os objects_at predicates_at (omega arith) (omega (arith, long1))

  predicates_part : part l4 predicates_at functions_at ≡ ps
  predicates_part =
      ap (λ (k : List ℕ). part k predicates_at functions_at) e4 ∙ part_before fs l3 predicates_at functions_at functions_at (omega arith) (omega arith)
      ∙ ap (λ (k : List ℕ). part k predicates_at functions_at) e3 ∙ part_stored l2 ps predicates_at functions_at (omega arith) (omega (arith, long2))

  functions_part : part l4 functions_at variables_at ≡ fs
  functions_part = ap (λ (k : List ℕ). part k functions_at variables_at) e4 ∙ part_stored l3 fs functions_at variables_at (omega arith) (omega (arith, long3))

  rest_part : part l4 variables_at tables_length ≡ part l variables_at tables_length
  rest_part =
      ap (λ (k : List ℕ). part k variables_at tables_length) e4 ∙ part_behind_lem fs l3 variables_at tables_length functions_at (omega arith)
      ∙ ap (λ (k : List ℕ). part k variables_at tables_length) e3 ∙ part_behind_lem ps l2 variables_at tables_length predicates_at (omega arith)
      ∙ ap (λ (k : List ℕ). part k variables_at tables_length) e2 ∙ part_behind_lem os l1 variables_at tables_length objects_at (omega arith)
      ∙ ap (λ (k : List ℕ). part k variables_at tables_length) e1 ∙ part_behind_lem ts l variables_at tables_length 0 (omega arith)

  scoped : l ≡ rows_of 133 [] → (len : ℕ) (h : Name) (from p e : ℕ) (r : Preamble) (v : Vocabulary) (n : ℕ) → Lists len h from p e r ts os ps fs v n
      → Scoped l4 (counts_of v) (scope_in v)
  scoped z len h from p e r v n x = record {
    types = rw types_part x.types;
    objects = rw objects_part x.objects;
    predicates = rw predicates_part x.predicates;
    functions = rw functions_part x.functions;
    variables = holds_none 4 (part l4 variables_at tables_length) (rest_part ∙ ap (λ (k : List ℕ). part k variables_at tables_length) z ∙ last_zeros);
    action = refl;
    facts = x.facts;
    numbers = x.numbers;
  }

-- ---- the heading, the flags and the tables together

module _ (s : List ℕ) (a from p e v : ℕ) (r : Preamble) (ts os ps fs tables : List ℕ) (k i : ℕ) (w : r ≡ Refused k i) where
  undeclared_by : (h : Name) (y : Read Vocabulary) → Listed (length s) h from p e r ts os ps fs y → Declares s (Refused k i) tables y
  unfolding Listed Declares
  undeclared_by h (refused j q) y = sym w ∙ y
  undeclared_by h (got u n) y = absurd (let d = sym w ∙ y.is in let z : ◌≡◌ {A = ℕ} 0 1 = cc in let x : ⊥ = omega arith in x)

  -- a section after the flags was refused
  pub undeclared : (t : Titled) → t ≡ titled_of (heading_of s (bytes "domain") 0) → t ≡ T.At a p e → flags_section s a ≡ got v from
      → ((h : Name) (b w : ℕ) → heading_of s (bytes "domain") 0 ≡ got h b → flags_section s b ≡ got w from
      → Listed (length s) h from p e r ts os ps fs (vocabulary s 0))
      → Declares s (Refused k i) tables (vocabulary s 0)
  undeclared t g q c f =
      let x = titled (heading_of s (bytes "domain") 0) a p e (sym g ∙ q) in
      undeclared_by x.name (vocabulary s 0) (f x.name a v x.is c)

module _ (s : List ℕ) (a from p e v : ℕ) (r : Preamble) (ts os ps fs l l4 : List ℕ) (z : l ≡ rows_of 133 [])
    (q : l4 ≡ sets (sets (sets (sets l 0 ts) objects_at os) predicates_at ps) functions_at fs) where
  declares_by : (h : Name) → Title p e h → heading_of s (bytes "domain") 0 ≡ got h a → a ≤ from → (y : Read Vocabulary)
      → Listed (length s) h from p e r ts os ps fs y → Declares s r l4 y
  unfolding Listed Declares
  declares_by h x g b (refused k i) y = y
  declares_by h x g b (got u n) y =
      let w = headed s (bytes "domain") 0 h a g in
      let long : length l ≡ tables_length = ap length z ∙ length_rows 133 [] in
      let n1 : length ts ≡ objects_at = rows_long 17 ts _ _ y.types in
      let n2 : length os ≡ 2432 = rows_long 64 os _ _ y.objects in
      let n3 : length ps ≡ 1216 = rows_long 32 ps _ _ y.predicates in
      let n4 : length fs ≡ 608 = rows_long 16 fs _ _ y.functions in
      record {
        from = p;
        to = e;
        is = y.is;
        name = rw (← x.starts, ← x.ends) w.name ∙ sym y.name;
        named = rw (← x.ends) w.named;
        scope = scoped ts os ps fs l _ _ _ l4 refl refl refl q n1 n2 n3 n4 long z _ h from p e r u n y;
        long = long4 ts os ps fs l _ _ _ l4 refl refl refl q n1 n2 n3 n4 long;
        past = omega (arith, w.past, b, y.onwards);
        within = y.within;
      }

  pub declares : (t : Titled) → t ≡ titled_of (heading_of s (bytes "domain") 0) → t ≡ T.At a p e → flags_section s a ≡ got v from → a ≤ from
      → ((h : Name) (b w : ℕ) → heading_of s (bytes "domain") 0 ≡ got h b → flags_section s b ≡ got w from
      → Listed (length s) h from p e r ts os ps fs (vocabulary s 0))
      → Declares s r l4 (vocabulary s 0)
  declares t g i c b f =
      let x = titled (heading_of s (bytes "domain") 0) a p e (sym g ∙ i) in
      declares_by x.name x.title x.is b (vocabulary s 0) (f x.name a v x.is c)
