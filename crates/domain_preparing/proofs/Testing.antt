-- Conditions copied: the single ones by their first cell, and an `and` as the list of its parts. Assumes nothing.
use mathlib.Core.Path.{◌≡◌, refl, sym, ap, ◌∙◌}
use mathlib.Core.List.{List, [], ◌∷◌, ◌++◌, append-nil, append_assoc}
use mathlib.Core.Bool.{Bool, true, false, cond}
use Prim.Native.Nat.{ℕ, zero, suc, ◌+◌, ◌-◌, ◌≤◌, ◌<◌}
use native.Mathlib.Omega.{arith}
use native.Mathlib.Decide.{dec_le}
use native.Mathlib.Numerals.{add-one}
use lib.Dec.{eqb}
use lib.ListN.{set}
use lib.Seq.{sets}
use borrow.Author.Tests.{lt-ltb, le-ltb}
use Rattle.domain_meaning.specs.Conditions.{Cond, Conds, all, none, cons}
use Rattle.domain_rows.specs.Held.{byte_at}
use Rattle.domain_terms.specs.Cells.{cell_of}
use Rattle.domain_stored_meaning.specs.Cells.{comparison_cell}
use Rattle.domain_stored_meaning.specs.Decode.{Decoded, mapped, no_cond, arg_of, ref_at, expression_at, comparison_of, atom_at, same_at, compare_at, single_at}
use Rattle.domain_prepared_meaning.specs.Preparing.{singles, singles_of, all_singles}
use Rattle.domain_prepared_meaning.specs.Rows.{form_bytes, expr_bytes, test_bytes, tests_bytes}
use Rattle.domain_forms.specs.Stored.{Stored}
use Rattle.domain_preparing.specs.Written.{Copies, open_tests, all_of}
use Rattle.domain_forms.proofs.Storing.{stored_none, stored_one, stored_as, stored_then}
use Rattle.domain_preparing.proofs.Expressing.{copies_as}
use Rattle.domain_preparing.proofs.Groups.{single_compare, single_no_compare}

-- ---- first cells

pub cell_back : (x : ℕ) → cell_of (arg_of x) ≡ x
unfolding arg_of
cell_back x = elim (dec_le 64 x) [
  | yes h ↦ rw (le-ltb x 64 h) (omega arith)
  | no h ↦ rw (lt-ltb x 64 (omega arith))
]

operator_back : (op : ℕ) → op < 5 → comparison_cell (comparison_of op) ≡ op
unfolding comparison_of
operator_back zero h = refl
operator_back (suc zero) h = refl
operator_back (suc (suc zero)) h = refl
operator_back (suc (suc (suc zero))) h = refl
operator_back (suc (suc (suc (suc zero)))) h = refl
operator_back (suc (suc (suc (suc (suc n))))) h = absurd (omega arith)

same_tag : (tag : ℕ) → 2 ≤ tag → tag < 4 → cond (eqb tag 2) 2 3 ≡ tag
same_tag tag l h = elim (dec_le tag 2) [
  | yes e ↦ let z : tag ≡ 2 = omega arith in rw z
  | no e ↦ let z : tag ≡ 3 = omega arith in rw z
]

pub same_stored : (l : List ℕ) (u tag x y : ℕ) {p q : ℕ} {l₁ l₂ l₃ : List ℕ} → p ≡ x → q ≡ y → l₁ ≡ set l u tag → l₂ ≡ set l₁ (u + 1) p
    → l₃ ≡ set l₂ (u + 2) q → Stored l u (tag ∷ x ∷ y ∷ []) l₃ (u + 3)
same_stored l u tag x y {p} {q} ep eq e₁ e₂ e₃ =
    let a : u + 2 ≡ suc (suc u) = omega arith in
    record { are = e₃ ∙ rw (e₂, e₁, ep, eq, a, add-one u); free = omega arith }

-- ---- single conditions

module _ (n : ℕ) (ps fs : List ℕ) where
  abbrev bytes : Cond → List ℕ
  bytes c = open_tests n ps fs (singles c)

  open_one : (c : Cond) → open_tests n ps fs (c ∷ []) ≡ test_bytes n ps fs c
  unfolding open_tests
  open_one c = append-nil (test_bytes n ps fs c)

  abbrev sides : List ℕ → ℕ → List ℕ
  sides code at = expr_bytes n ps fs (expression_at code (at + 1)).tree ++ expr_bytes n ps fs (expression_at code (expression_at code (at + 1)).next).tree

  module _ (l : List ℕ) (u : ℕ) where
    pub copies_none : {d : Decoded Cond} {m : ℕ} → d ≡ no_cond m → Copies bytes l u d l m u
    unfolding open_tests singles
    copies_none e = rw e (record { stored = stored_none l u; ends = refl })

  module _ (code : List ℕ) (at : ℕ) {l : List ℕ} {u : ℕ} {l' : List ℕ} {next free : ℕ} where
    pub copies_same : (tag : ℕ) → 2 ≤ tag → tag < 4 → Stored l u (tag ∷ byte_at code (at + 1) ∷ byte_at code (at + 2) ∷ []) l' free → next ≡ at + 3
        → Copies bytes l u (same_at code at (eqb tag 2)) l' next free
    unfolding same_at singles test_bytes
    copies_same tag lo hi s e =
        record { stored = rw (open_one, same_tag tag lo hi, cell_back (byte_at code (at + 1)), cell_back (byte_at code (at + 2))) s; ends = e }

    pub copies_atom : (yes' : Bool) (k : ℕ) → Stored l u (form_bytes n ps fs (cond yes' 4 8) ps (ref_at code (at + 1) k)) l' free → next ≡ at + 2 + k
        → Copies bytes l u (atom_at code at yes' k) l' next free
    unfolding atom_at singles test_bytes
    copies_atom yes' k s e = record { stored = rw open_one s; ends = e }

    side : (yes' : Bool) (op tag : ℕ) → op < 5 → cond yes' 12 17 + op ≡ tag → Stored l u (tag ∷ sides code at) l' free
        → next ≡ (expression_at code (expression_at code (at + 1)).next).next → Copies bytes l u (compare_at code at yes' op) l' next free
    unfolding compare_at singles test_bytes
    side yes' op tag h t s e = record { stored = rw (open_one, operator_back op h, t) s; ends = e }

    pub copies_compare : (tag : ℕ) → 12 ≤ tag → tag < 22 → Stored l u (tag ∷ sides code at) l' free
        → next ≡ (expression_at code (expression_at code (at + 1)).next).next → Copies bytes l u (single_at code at tag) l' next free
    copies_compare tag lo hi s e = elim (dec_le 17 tag) [
      | yes h ↦ copies_as (single_no_compare code at tag h hi) (side false (tag - 17) tag (omega arith) (omega arith) s e)
      | no h ↦ copies_as (single_compare code at tag lo (omega arith)) (side true (tag - 12) tag (omega arith) (omega arith) s e)
    ]

  -- ---- lists

  open_join : (xs ys : List Cond) → open_tests n ps fs (xs ++ ys) ≡ open_tests n ps fs xs ++ open_tests n ps fs ys
  unfolding open_tests
  open_join [] ys = refl
  open_join (x ∷ xs) ys = ap (λ (zs : List ℕ). test_bytes n ps fs x ++ zs) (open_join xs ys) ∙ sym (append_assoc (test_bytes n ps fs x) _ _)

  abbrev listed : Conds → List ℕ
  listed cs = open_tests n ps fs (singles_of cs)

  pub listed_none : listed none ≡ []
  unfolding open_tests singles
  listed_none = refl

  pub listed_cons : (c : Cond) (cs : Conds) → listed (cons c cs) ≡ bytes c ++ listed cs
  unfolding singles
  listed_cons c cs = open_join (singles c) (singles_of cs)

  pub copies_group : {d : Decoded Cond} {e : Decoded Conds} {l : List ℕ} {u : ℕ} {l' : List ℕ} {next free : ℕ} → d ≡ mapped all e
      → Copies listed l u e l' next free → Copies bytes l u d l' next free
  unfolding singles
  copies_group q c = rw q (record { stored = c.stored; ends = c.ends })

  -- ---- those of several parts, and the 0 after them

  open_parts : (cs : List Cond) → all_of bytes cs ≡ open_tests n ps fs (all_singles cs)
  unfolding all_of open_tests all_singles
  open_parts [] = refl
  open_parts (c ∷ cs) = ap (λ (zs : List ℕ). bytes c ++ zs) (open_parts cs) ∙ sym (open_join (singles c) (all_singles cs))

  tests_closed : (cs : List Cond) → open_tests n ps fs cs ++ 0 ∷ [] ≡ tests_bytes n ps fs cs
  unfolding open_tests tests_bytes
  tests_closed [] = refl
  tests_closed (c ∷ cs) = append_assoc (test_bytes n ps fs c) _ _ ∙ ap (λ (zs : List ℕ). test_bytes n ps fs c ++ zs) (tests_closed cs)

  pub tests_stored : (cs : List Cond) (l : List ℕ) (u : ℕ) {l' l'' : List ℕ} {v : ℕ} → Stored l u (all_of bytes cs) l' v → l'' ≡ set l' v 0
      → Stored l u (tests_bytes n ps fs (all_singles cs)) l'' (v + 1)
  tests_stored cs l u {l'} {v = v} s e =
      stored_as l u (ap (λ (zs : List ℕ). zs ++ 0 ∷ []) (open_parts cs) ∙ tests_closed (all_singles cs))
      (stored_then l u (all_of bytes cs) s (stored_one l' v 0 e))

  -- those of one condition, and the 0
  pub goal_stored : (c : Cond) (l : List ℕ) {l' l'' : List ℕ} {v : ℕ} → Stored l 0 (bytes c) l' v → l'' ≡ set l' v 0
      → l'' ≡ sets l 0 (tests_bytes n ps fs (singles c))
  goal_stored c l {l'} {v = v} s e = (stored_as l 0 (tests_closed (singles c)) (stored_then l 0 (bytes c) s (stored_one l' v 0 e))).are
