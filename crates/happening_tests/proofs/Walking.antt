-- Lists of single conditions in the rows, as code goes through them: what is left leads to the whole. Assumes nothing.
use mathlib.Core.Path.{◌≡◌, refl, ap, ◌∙◌}
use mathlib.Core.List.{List, [], ◌∷◌}
use mathlib.Core.Bool.{Bool, true, false, cond, ◌||◌}
use Rattle.std.proofs.Common.{Option, Some, None}
use Prim.Native.Nat.{ℕ, zero, suc, ◌+◌, ◌-◌, ◌<◌}
use native.Mathlib.Omega.{arith}
use lib.Bits.{bit_or}
use lib.Dec.{ltb}
use lib.ListN.{length}
use Rattle.domain_meaning.specs.Conditions.{Cond}
use Rattle.domain_rows.specs.Held.{byte_at}
use Rattle.domain_stored_meaning.specs.Decode.{Decoded, comparison_of}
use Rattle.domain_prepared_meaning.specs.Decode.{begins_test, test_at, tests_from}
use Rattle.happening_meaning.specs.State.{State}
use Rattle.happening_meaning.specs.Truths.{agrees, truth_of, and_then, hold_all}
use Rattle.happening_meaning.specs.Writes.{some, cond_reads}
use Rattle.happening_meaning.specs.declared.Truth.{Truth}
use Rattle.happening_meaning.specs.declared.Truth.TheVariants.{Holds, Fails, Undefined, Range}
use Rattle.happening_forms.specs.Summed.{summed}
use Rattle.happening_forms.specs.declared.Taken.{Taken}
use Rattle.happening_tests.specs.Taken.{wants, row_of, row_at}
use Rattle.happening_tests.specs.Judging.{judged, row_judged}
use Rattle.happening_tests.specs.Reading.{cond_mask, mask_from, masked, row_masked, found, row_found}
use Rattle.happening_tests.specs.declared.taken.Row.{Row}
use Rattle.happening_tests.proofs.Rows.{by_tag, kept}

-- ---- one condition, taken apart

as_wanted : (w b : Bool) → agrees true (wants w b) ≡ agrees w b
unfolding agrees
as_wanted true b = refl
as_wanted false true = refl
as_wanted false false = refl

it : {x row : Row} → Some x ≡ Some row → x ≡ row
it e = cc

module _ (rows os : List ℕ) (at tag : ℕ) where
  abbrev here : Decoded Cond
  here = test_at rows at tag

  is_row : row_of os (at + 1) here ≡ None → ⊥
  is_row = by_tag rows at tag (λ d. row_of os (at + 1) d ≡ None → ⊥) (λ w e. cc) (λ w v e. cc) (λ w op e. cc)

  module _ {row : Row} (e : row_of os (at + 1) here ≡ Some row) where
    pub row_judged_lem : (s : State) → row_judged rows s os row ≡ judged (truth_of summed s os here.tree) here.next
    unfolding row_judged truth_of
    row_judged_lem s =
        by_tag rows at tag (λ d. row_of os (at + 1) d ≡ Some row → row_judged rows s os row ≡ judged (truth_of summed s os d.tree) d.next)
        (λ w e. rw (← it e) (ap (λ (t : Truth). judged t (at + 3)) (as_wanted w _))) (λ w v e. rw (← it e)) (λ w op e. rw (← it e, kept (comparison_of op))) e

    pub row_masked_lem : row_masked rows os row ≡ masked (cond_mask summed os here.tree) here.next
    unfolding row_masked cond_mask
    row_masked_lem =
        by_tag rows at tag (λ d. row_of os (at + 1) d ≡ Some row → row_masked rows os row ≡ masked (cond_mask summed os d.tree) d.next)
        (λ w e. rw (← it e)) (λ w v e. rw (← it e)) (λ w op e. rw (← it e)) e

    pub row_found_lem : (numeric : Bool) (x : ℕ) → row_found rows os numeric x row ≡ found (cond_reads summed os numeric x here.tree) here.next
    unfolding row_found cond_reads
    row_found_lem numeric x =
        by_tag rows at tag (λ d. row_of os (at + 1) d ≡ Some row → row_found rows os numeric x row ≡ found (cond_reads summed os numeric x d.tree) d.next)
        (λ w e. rw (← it e)) (λ w v e. rw (← it e)) (λ w op e. rw (← it e)) e

-- ---- lists

ended_by : (p q : Bool) (r : Option Row) (cs : List Cond) → (r ≡ None → ⊥) → cond p (cond q r None) None ≡ None → cond p (cond q cs []) [] ≡ []
ended_by true true r cs n e = absurd (n e)
ended_by true false r cs n e = refl
ended_by false q r cs n e = refl

begun_rest : (p q : Bool) (r : Option Row) (cs : List Cond) {row : Row} → cond p (cond q r None) None ≡ Some row → cond p (cond q cs []) [] ≡ cs
begun_rest true true r cs e = refl
begun_rest true false r cs e = cc
begun_rest false q r cs e = cc

begun_row : (p q : Bool) (r : Option Row) {row : Row} → cond p (cond q r None) None ≡ Some row → r ≡ Some row
begun_row true true r e = e
begun_row true false r e = cc
begun_row false q r e = cc

module _ (rows os : List ℕ) (i : ℕ) where
  abbrev pub now' : Decoded Cond
  now' = test_at rows i (byte_at rows i)

  pub tests_spent : (left : ℕ) → left ≡ 0 → tests_from left rows i ≡ []
  unfolding tests_from
  tests_spent left h = rw h

  pub tests_end : (left : ℕ) → row_at rows os i ≡ None → tests_from left rows i ≡ []
  unfolding tests_from row_at
  tests_end zero e = refl
  tests_end (suc n) e =
      ended_by (ltb i (length rows)) (begins_test (byte_at rows i)) (row_of os (i + 1) now') (now'.tree ∷ tests_from n rows now'.next)
      (is_row rows os i (byte_at rows i)) e

  module _ {row : Row} (e : row_at rows os i ≡ Some row) where
    pub tests_step : {left rest : ℕ} → left ≡ suc rest → tests_from left rows i ≡ now'.tree ∷ tests_from rest rows now'.next
    unfolding tests_from row_at
    tests_step {left} {rest} l =
        rw l
        (begun_rest (ltb i (length rows)) (begins_test (byte_at rows i)) (row_of os (i + 1) now') (now'.tree ∷ tests_from rest rows now'.next) e)

    pub row_here : row_of os (i + 1) now' ≡ Some row
    unfolding row_at
    row_here = begun_row (ltb i (length rows)) (begins_test (byte_at rows i)) (row_of os (i + 1) now') e

-- ---- the truth of a list, up to the first that does not hold

decided : (a b : Truth) → (a ≡ Holds → ⊥) → a ≡ and_then a b
unfolding and_then
decided Holds b h = absurd (h refl)
decided Fails b h = refl
decided Undefined b h = refl
decided Range b h = refl

module _ (rows os : List ℕ) (s : State) {whole : Truth} (i left : ℕ) (o : hold_all summed s os (tests_from left rows i) ≡ whole) where
  pub hold_spent : left ≡ 0 → Holds ≡ whole
  unfolding hold_all
  hold_spent h = rw (tests_spent rows os i left h) at o

  pub hold_end : row_at rows os i ≡ None → Holds ≡ whole
  unfolding hold_all
  hold_end h = rw (tests_end rows os i left h) at o

  module _ {row : Row} (e : row_at rows os i ≡ Some row) {v : Taken Truth} (ev : v ≡ row_judged rows s os row) where
    was : v ≡ judged (truth_of summed s os (now' rows os i).tree) (now' rows os i).next
    was = ev ∙ row_judged_lem rows os i (byte_at rows i) (row_here rows os i e) s

    onward : (rest : ℕ) → left ≡ suc rest → and_then v.what (hold_all summed s os (tests_from rest rows v.next)) ≡ whole
    unfolding hold_all
    onward rest l = rw was (rw (tests_step rows os i e l) at o)

    pub hold_fails : 0 < left → (v.what ≡ Holds → ⊥) → v.what ≡ whole
    hold_fails l n = decided v.what _ n ∙ onward (left - 1) (omega arith)

    pub hold_turn : {rest : ℕ} → left ≡ suc rest → v.what ≡ Holds → hold_all summed s os (tests_from rest rows v.next) ≡ whole
    unfolding and_then
    hold_turn {rest} l n = rw n at (onward rest l)

-- ---- what a list reads

module _ (rows os : List ℕ) {whole : ℕ} (m i left : ℕ) (o : mask_from summed os m (tests_from left rows i) ≡ whole) where
  pub mask_spent : left ≡ 0 → m ≡ whole
  unfolding mask_from
  mask_spent h = rw (tests_spent rows os i left h) at o

  pub mask_end : row_at rows os i ≡ None → m ≡ whole
  unfolding mask_from
  mask_end h = rw (tests_end rows os i left h) at o

  pub mask_turn : {row : Row} → row_at rows os i ≡ Some row → {v : Taken ℕ} → v ≡ row_masked rows os row → {rest : ℕ} → left ≡ suc rest
      → mask_from summed os (bit_or m v.what) (tests_from rest rows v.next) ≡ whole
  unfolding mask_from
  mask_turn e ev l = rw (ev ∙ row_masked_lem rows os i (byte_at rows i) (row_here rows os i e)) (rw (tests_step rows os i e l) at o)

module _ (rows os : List ℕ) (numeric : Bool) (x : ℕ) {whole : Bool} (i left : ℕ)
    (o : some (cond_reads summed os numeric x) (tests_from left rows i) ≡ whole) where
  pub read_spent : left ≡ 0 → false ≡ whole
  unfolding some
  read_spent h = rw (tests_spent rows os i left h) at o

  pub read_end : row_at rows os i ≡ None → false ≡ whole
  unfolding some
  read_end h = rw (tests_end rows os i left h) at o

  module _ {row : Row} (e : row_at rows os i ≡ Some row) {v : Taken Bool} (ev : v ≡ row_found rows os numeric x row) where
    left_over : (rest : ℕ) → left ≡ suc rest → (v.what || some (cond_reads summed os numeric x) (tests_from rest rows v.next)) ≡ whole
    unfolding some
    left_over rest l = rw (ev ∙ row_found_lem rows os i (byte_at rows i) (row_here rows os i e) numeric x) (rw (tests_step rows os i e l) at o)

    pub read_found : 0 < left → v.what ≡ true → true ≡ whole
    read_found l n = rw n at (left_over (left - 1) (omega arith))

    pub read_turn : {rest : ℕ} → left ≡ suc rest → v.what ≡ false → some (cond_reads summed os numeric x) (tests_from rest rows v.next) ≡ whole
    read_turn {rest} l n = rw n at (left_over rest l)
