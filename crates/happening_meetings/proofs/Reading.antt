-- The walk over what stands at a place, by what it is: an expression, a single condition that was taken apart, a duration rule. Assumes nothing.
use mathlib.Core.Path.{◌≡◌, refl, sym, ap, ◌∙◌}
use mathlib.Core.List.{List, ◌++◌}
use mathlib.Core.Bool.{Bool, true, false, ◌||◌}
use Rattle.std.proofs.Common.{Some, None}
use Prim.Native.Nat.{ℕ, suc, ◌+◌}
use lib.IntN.{ℤ}
use Rattle.domain_meaning.specs.Terms.{Ref, Expr, number, value, minus}
use Rattle.domain_meaning.specs.Actions.{Lasting, moment, rule}
use Rattle.domain_rows.specs.Held.{byte_at}
use Rattle.domain_stored_meaning.specs.Decode.{Decoded, decoded, mapped, both}
use Rattle.domain_prepared_meaning.specs.Decode.{expression_at, test_at, tests_from}
use Rattle.happening_meaning.specs.State.{number_of}
use Rattle.happening_forms.specs.Summed.{summed}
use Rattle.happening_expressions.proofs.Shapes.{two_of}
use Rattle.happening_tests.specs.Taken.{row_of, row_at}
use Rattle.happening_tests.specs.declared.taken.Row.{Row}
use Rattle.happening_tests.specs.declared.taken.Row.TheVariants.{Fact, Same, Compare}
use Rattle.happening_tests.proofs.Rows.{by_tag}
use Rattle.happening_tests.proofs.Walking.{now', tests_spent, tests_end, tests_step, row_here}
use Rattle.happening_meetings.specs.declared.walks.Mode.{Mode}
use Rattle.happening_meetings.specs.Accesses.{Access, access, fact_cell, number_cell, expr_accesses, cond_accesses, tests_accesses, rule_accesses}
use Rattle.happening_meetings.specs.Marks.{after_one, met_one, Went}
use Rattle.happening_meetings.specs.Taken.{row_accesses, row_next}
use Rattle.happening_meetings.proofs.Going.{went_none, went_one, went_both, went_same, Onward, onward_end, onward_turn}

-- ---- expressions

two_accesses : (os : List ℕ) (t : Bool) (a b : Expr) → expr_accesses summed os (two_of t a b) ≡ expr_accesses summed os a ++ expr_accesses summed os b
unfolding expr_accesses
two_accesses os true a b = refl
two_accesses os false a b = refl

module _ (os : List ℕ) (mode : Mode) (l : List ℕ) where
  -- the place after it, and the walk over what it reads
  abbrev pub Walks : Decoded Expr → ℕ → Bool → List ℕ → Type 0
  Walks d n f m = (n ≡ d.next) × Went mode l (expr_accesses summed os d.tree) f m

  module _ {d : Decoded Expr} where
    pub walk_none : {z : ℤ} {n : ℕ} → d ≡ decoded (number z) n → Walks d n false l
    unfolding expr_accesses
    walk_none e = rw e (refl, went_none mode l)

    pub walk_plain : {z : ℤ} {n : ℕ} → d.tree ≡ number z → n ≡ d.next → Walks d n false l
    unfolding expr_accesses
    walk_plain e n = (n, rw e (went_none mode l))

    pub walk_value : {r : Ref} {m n i c : ℕ} {h : Bool} {k : List ℕ} → d ≡ decoded (value r) m → n ≡ d.next → i ≡ number_of summed os r
        → c ≡ number_cell i → h ≡ met_one mode l (access 0 c) → k ≡ after_one mode l (access 0 c) → Walks d n h k
    unfolding expr_accesses
    walk_value {r} {m} {n} {i} {c} {h} {k} e en i' c' h' k' =
        (en, rw (e, ← i', ← c') (went_one mode l (access 0 c) h' k'))

    pub walk_same : {e : Decoded Expr} {n : ℕ} {f : Bool} {k : List ℕ} → d ≡ e → Walks e n f k → Walks d n f k
    walk_same e w = rw e w

    pub walk_minus : (e : Decoded Expr) {n : ℕ} {f : Bool} {k : List ℕ} → d ≡ mapped minus e → Walks e n f k → Walks d n f k
    unfolding expr_accesses
    walk_minus e s w = rw s w

pub walk_two : (os : List ℕ) (mode : Mode) (l : List ℕ) {d : Decoded Expr} (t : Bool) (e : Decoded Expr) (f : ℕ → Decoded Expr) {n o : ℕ} {a b c : Bool}
    {k m : List ℕ} → d ≡ both (two_of t) e f → Walks os mode l e n a k → Walks os mode k (f n) o b m → c ≡ (a || b) → Walks os mode l d o c m
walk_two os mode l t e f {n} {o} {a} {b} {c} {k} {m} s wa wb q =
    rw (s, ← wa.0, two_accesses os t e.tree (f n).tree) (wb.0, went_both mode l wa.1 wb.1 q)

-- ---- a single condition that was taken apart

module _ (rows os : List ℕ) (mode : Mode) (l : List ℕ) (row : Row) where
  abbrev pub RowWalks : ℕ → Bool → List ℕ → Type 0
  RowWalks n f m = (n ≡ row_next rows row) × Went mode l (row_accesses rows os row) f m

  pub row_fact : {w : Bool} {i n c : ℕ} {h : Bool} {k : List ℕ} → row ≡ Fact w i n → c ≡ fact_cell i → h ≡ met_one mode l (access 0 c)
      → k ≡ after_one mode l (access 0 c) → RowWalks n h k
  unfolding row_next row_accesses
  row_fact {c = c} e c' h' k' = rw (e, ← c') (refl, went_one mode l (access 0 c) h' k')

  pub row_same : {h : Bool} {n : ℕ} → row ≡ Same h n → RowWalks n false l
  unfolding row_next row_accesses
  row_same e = rw e (refl, went_none mode l)

  pub row_compare : {w : Bool} {op e n o : ℕ} {a b c : Bool} {k m : List ℕ} → row ≡ Compare w op e → Walks os mode l (expression_at rows e) n a k
      → Walks os mode k (expression_at rows n) o b m → c ≡ (a || b) → RowWalks o c m
  unfolding row_next row_accesses
  row_compare {e = e} q wa wb r = (
    wb.0 ∙ ap (λ (i : ℕ). (expression_at rows i).next) wa.0 ∙ sym (ap (row_next rows) q),
    went_same mode l
        (ap (λ (i : ℕ). expr_accesses summed os (expression_at rows e).tree ++ expr_accesses summed os (expression_at rows i).tree) wa.0
        ∙ sym (ap (row_accesses rows os) q))
        (went_both mode l wa.1 wb.1 r),
  )

-- ---- a list of single conditions

it : {x row : Row} → Some x ≡ Some row → x ≡ row
it e = cc

module _ (rows os : List ℕ) (at tag : ℕ) {row : Row} (e : row_of os (at + 1) (test_at rows at tag) ≡ Some row) where
  row_accesses_lem : row_accesses rows os row ≡ cond_accesses summed os (test_at rows at tag).tree
  unfolding row_accesses cond_accesses
  row_accesses_lem =
      by_tag rows at tag (λ d. row_of os (at + 1) d ≡ Some row → row_accesses rows os row ≡ cond_accesses summed os d.tree)
      (λ w e. rw (← it e)) (λ w v e. rw (← it e)) (λ w op e. rw (← it e)) e

  row_next_lem : row_next rows row ≡ (test_at rows at tag).next
  unfolding row_next
  row_next_lem =
      by_tag rows at tag (λ d. row_of os (at + 1) d ≡ Some row → row_next rows row ≡ d.next)
      (λ w e. rw (← it e)) (λ w v e. rw (← it e)) (λ w op e. rw (← it e)) e

module _ (rows os : List ℕ) (i left : ℕ) {mode : Mode} {f : Bool} {m l : List ℕ} {whole : List Access}
    (o : Onward mode f m (tests_accesses summed os (tests_from left rows i)) l whole) where
  pub tests_over : left ≡ 0 → Went mode l whole f m
  unfolding tests_accesses
  tests_over h = onward_end o (ap (tests_accesses summed os) (tests_spent rows os i left h))

  pub tests_ended : row_at rows os i ≡ None → Went mode l whole f m
  unfolding tests_accesses
  tests_ended e = onward_end o (ap (tests_accesses summed os) (tests_end rows os i left e))

  pub tests_turn : {row : Row} → row_at rows os i ≡ Some row → {rest : ℕ} → left ≡ suc rest → {next : ℕ} {h : Bool} {n : List ℕ}
      → (next ≡ row_next rows row) × Went mode m (row_accesses rows os row) h n
      → Onward mode (f || h) n (tests_accesses summed os (tests_from rest rows next)) l whole
  unfolding tests_accesses
  tests_turn {row} e k w =
      let here : row_of os (i + 1) (now' rows os i) ≡ Some row = row_here rows os i e in
      rw (w.0 ∙ row_next_lem rows os i (byte_at rows i) here)
      (onward_turn o (ap (tests_accesses summed os) (tests_step rows os i e k)) (went_same mode m (row_accesses_lem rows os i (byte_at rows i) here) w.1) refl)

-- ---- the duration rule

module _ (os : List ℕ) {r : Lasting} (mode : Mode) (l : List ℕ) where
  pub rule_unwalked : r ≡ moment → Went mode l (rule_accesses summed os r) false l
  unfolding rule_accesses
  rule_unwalked e = rw e (went_none mode l)

  pub rule_walked : (d : Decoded Expr) → r ≡ rule d.tree → {n : ℕ} {f : Bool} {m : List ℕ} → Walks os mode l d n f m
      → Went mode l (rule_accesses summed os r) f m
  unfolding rule_accesses
  rule_walked d e w = rw e w.1
