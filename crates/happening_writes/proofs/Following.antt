-- One effect of a list after the other: what the row at a place says of the effects from there on. Places grow, so as many steps as there are bytes
-- are enough, from every place. Assumes nothing.
use mathlib.Core.Path.{◌≡◌, refl, sym, ap, subst, ◌∙◌}
use mathlib.Core.List.{List, [], ◌∷◌}
use mathlib.Core.Bool.{Bool, true, false, cond, true≢false}
use Prim.Native.Nat.{ℕ, zero, suc, ◌+◌, ◌-◌, ◌*◌, ◌≤◌, ◌<◌}
use native.Mathlib.Omega.{arith}
use lib.Dec.{ltb, eqb}
use lib.ListN.{length}
use borrow.Author.Tests.{lt-ltb, le-ltb, ltb-true}
use Rattle.base_laws.proofs.Splits.{either, choose}
use Rattle.domain_meaning.specs.Terms.{Expr}
use Rattle.domain_meaning.specs.Effects.{Change, assign, raise, lower, Effect, becomes, changes}
use Rattle.domain_literals.specs.Literal.{size_in}
use Rattle.domain_rows.specs.Held.{byte_at}
use Rattle.domain_stored_meaning.specs.Decode.{Decoded, decoded, mapped}
use Rattle.domain_prepared_meaning.specs.Forms.{ref_by}
use Rattle.domain_prepared_meaning.specs.Decode.{form_at, leaf_at, expr_node, expr_at, expression_at, begins_effect, effect_at, effects_from, effects_at}
use Rattle.std.specs.declared.option.Option.{Option}
use Rattle.std.specs.declared.option.Option.TheVariants.{Some, None}
use Rattle.happening_writes.specs.declared.rows.How.{How}
use Rattle.happening_writes.specs.declared.rows.Row.{Row}
use Rattle.happening_writes.specs.declared.rows.Row.TheVariants.{Fact, Number}
use Rattle.happening_writes.specs.Rows.{params_of, how_of, row_of, taken_at, row_at}
use Rattle.happening_writes.proofs.Decoding.{by_tag}

-- ---- places grow

module _ (rows : List ℕ) where
  leaf_after : (at tag : ℕ) → at ≤ (leaf_at rows at tag).next
  unfolding leaf_at
  leaf_after at tag =
      let P : Decoded Expr → Type 0 = λ d. at ≤ d.next in
      either P (ltb tag 5) (omega arith)
      (either P (ltb tag 8) (omega arith) (either P (ltb tag 16) (omega arith) (either P (ltb (size_in tag) 6) (omega arith) (omega arith))))

  expr_after : (d at : ℕ) → at ≤ (expr_at d rows at).next
  unfolding expr_at expr_node
  expr_after zero at = omega arith
  expr_after (suc d) at =
      let P : Decoded Expr → Type 0 = λ e. at ≤ e.next in
      let a = expr_after d (at + 1) in
      let b = expr_after d (expr_at d rows (at + 1)).next in
      either P (ltb at (length rows))
      (either P (eqb (byte_at rows at) 0) (omega arith)
      (either P (eqb (byte_at rows at) 1) (omega arith) (either P (eqb (byte_at rows at) 2) (omega arith) (leaf_after at (byte_at rows at))))) (omega arith)

  pub effect_after : (at tag : ℕ) → at + 3 ≤ (effect_at rows at tag).next
  unfolding effect_at
  effect_after at tag =
      let P : Decoded Effect → Type 0 = λ e. at + 3 ≤ e.next in
      let a = expr_after 16 (at + 3 + (tag - 12)) in
      let b = expr_after 16 (at + 3 + (tag - 15)) in
      let c = expr_after 16 (at + 3 + (tag - 18)) in
      either P (ltb tag 8) (omega arith)
      (either P (ltb tag 12) (omega arith) (either P (ltb tag 15) (omega arith) (either P (ltb tag 18) (omega arith) (omega arith))))

  -- ---- steps enough

  abbrev next_at : ℕ → ℕ
  next_at at = (effect_at rows at (byte_at rows at)).next

  abbrev onward : ℕ → List Effect → List Effect
  onward at es =
      cond (ltb at (length rows)) (cond (begins_effect (byte_at rows at)) ((effect_at rows at (byte_at rows at)).tree ∷ es) []) []

  enough : (n m at : ℕ) → length rows ≤ n + at → length rows ≤ m + at → effects_from n rows at ≡ effects_from m rows at
  unfolding effects_from
  enough zero zero at h l = refl
  enough zero (suc m) at h l = let q : length rows ≤ at = omega arith in rw (le-ltb at (length rows) q)
  enough (suc n) zero at h l = let q : length rows ≤ at = omega arith in rw (le-ltb at (length rows) q)
  enough (suc n) (suc m) at h l =
      ap (onward at) (enough n m (next_at at) (omega (arith, effect_after at (byte_at rows at))) (omega (arith, effect_after at (byte_at rows at))))

  unfolded : (at : ℕ) → effects_at rows at ≡ onward at (effects_at rows (next_at at))
  unfolding effects_from
  unfolded at = enough (length rows) (suc (length rows)) at (omega arith) (omega arith)

  -- ---- how many there are: each takes three bytes or more

  few : (n at : ℕ) → 3 * length (effects_from n rows at) ≤ length rows - at + 2
  unfolding effects_from
  few zero at = omega arith
  few (suc n) at =
      let P : List Effect → Type 0 = λ es. 3 * length es ≤ length rows - at + 2 in
      let i = few n (next_at at) in
      choose P (ltb at (length rows))
      (λ h. either P (begins_effect (byte_at rows at)) (omega (arith, ltb-true at (length rows) h, effect_after at (byte_at rows at))) (omega arith))
      (λ h. omega arith)

  pub effects_few : (at : ℕ) → 3 * length (effects_at rows at) ≤ length rows + 2
  effects_few at = omega (arith, few (length rows) at)

-- ---- what a row says of the effects from its place on

pub record FactAt (rows : List ℕ) (at : ℕ) (added : Bool) (v next : ℕ) : Type 0 where
  pub few : v ≤ 3
  pub inside : at < length rows
  pub further : at < next
  pub effects : effects_at rows at ≡ becomes added (ref_by (form_at rows (at + 1) v)) ∷ effects_at rows next

pub record NumberAt (rows : List ℕ) (at : ℕ) (how : How) (v right : ℕ) : Type 0 where
  pub change : Change
  pub called : how_of change ≡ how
  pub few : v ≤ 3
  pub inside : at < length rows
  pub further : at < (expression_at rows right).next
  pub effects : effects_at rows at
      ≡ changes change (ref_by (form_at rows (at + 1) v)) (expression_at rows right).tree ∷ effects_at rows (expression_at rows right).next

abbrev pub Says : List ℕ → ℕ → Row → Type 0
Says rows at (Fact a v n) = FactAt rows at a v n
Says rows at (Number h v r) = NumberAt rows at h v r

abbrev Tells : List ℕ → ℕ → Option Row → Type 0
Tells rows at None = effects_at rows at ≡ []
Tells rows at (Some r) = Says rows at r

params_few : (tag : ℕ) → begins_effect tag ≡ true → params_of tag ≤ 3
unfolding params_of begins_effect
params_few tag b =
    choose (λ (n : ℕ). n ≤ 3) (ltb tag 8) (λ h. omega (arith, ltb-true tag 8 h))
    (λ _. choose (λ (n : ℕ). n ≤ 3) (ltb tag 12) (λ h. omega (arith, ltb-true tag 12 h))
    (λ _. choose (λ (n : ℕ). n ≤ 3) (ltb tag 15) (λ h. omega (arith, ltb-true tag 15 h))
    (λ _. choose (λ (n : ℕ). n ≤ 3) (ltb tag 18) (λ h. omega (arith, ltb-true tag 18 h)) (λ _. last (ltb tag 4) b))))
  where
    last : (low : Bool) → cond low false (ltb tag 21) ≡ true → tag - 18 ≤ 3
    last true e = absurd (true≢false (sym e))
    last false e = omega (arith, ltb-true tag 21 e)

module _ (rows : List ℕ) (at : ℕ) where
  abbrev tag : ℕ
  tag = byte_at rows at

  module _ (h : at < length rows) (b : begins_effect (byte_at rows at) ≡ true) where
    one_more : effects_at rows at ≡ (effect_at rows at (byte_at rows at)).tree ∷ effects_at rows (next_at rows at)
    one_more = unfolded rows at ∙ rw (lt-ltb at (length rows) h, b)

    -- of each kind: the effect, and the place after it
    fact_so : (a : Bool) → effect_at rows at (byte_at rows at)
        ≡ decoded (becomes a (ref_by (form_at rows (at + 1) (params_of (byte_at rows at))))) (at + 3 + params_of (byte_at rows at))
        → Says rows at (taken_at rows at (byte_at rows at))
    unfolding row_of
    fact_so a e =
        rw e
        (record {
          few = params_few (byte_at rows at) b;
          inside = h;
          further = omega arith;
          effects = one_more ∙ ap (λ (d : Decoded Effect). d.tree ∷ effects_at rows d.next) e;
        })

    number_so : (how : Change) → effect_at rows at (byte_at rows at)
        ≡ mapped (changes how (ref_by (form_at rows (at + 1) (params_of (byte_at rows at))))) (expression_at rows (at + 3 + params_of (byte_at rows at)))
        → Says rows at (taken_at rows at (byte_at rows at))
    unfolding row_of
    number_so how e =
        rw e
        (record {
          change = how;
          called = refl;
          few = params_few (byte_at rows at) b;
          inside = h;
          further = omega (arith, expr_after rows 16 (at + 3 + params_of (byte_at rows at)));
          effects = one_more ∙ ap (λ (d : Decoded Effect). d.tree ∷ effects_at rows d.next) e;
        })

    taken_says : Says rows at (taken_at rows at (byte_at rows at))
    unfolding effect_at params_of
    taken_says =
        by_tag tag (λ (p : ltb tag 8 ≡ true). fact_so true (rw p)) (λ (p : ltb tag 8 ≡ false) (q : ltb tag 12 ≡ true). fact_so false (rw (p, q)))
        (λ (p : ltb tag 8 ≡ false) (q : ltb tag 12 ≡ false) (r : ltb tag 15 ≡ true). number_so assign (rw (p, q, r)))
        (λ (p : ltb tag 8 ≡ false) (q : ltb tag 12 ≡ false) (r : ltb tag 15 ≡ false) (s : ltb tag 18 ≡ true). number_so raise (rw (p, q, r, s)))
        (λ (p : ltb tag 8 ≡ false) (q : ltb tag 12 ≡ false) (r : ltb tag 15 ≡ false) (s : ltb tag 18 ≡ false). number_so lower (rw (p, q, r, s)))

  says : Tells rows at (row_at rows at)
  unfolding row_at
  says = by_place (ltb at (length rows)) refl
    where
      by_begin : ltb at (length rows) ≡ true → (b : Bool) → begins_effect (byte_at rows at) ≡ b
          → Tells rows at (cond b (Some (taken_at rows at (byte_at rows at))) None)
      by_begin h true e = taken_says (ltb-true at (length rows) h) e
      by_begin h false e = unfolded rows at ∙ rw (h, e)

      by_place : (b : Bool) → ltb at (length rows) ≡ b
          → Tells rows at (cond b (cond (begins_effect (byte_at rows at)) (Some (taken_at rows at (byte_at rows at))) None) None)
      by_place true h = by_begin h (begins_effect (byte_at rows at)) refl
      by_place false h = unfolded rows at ∙ rw h

  -- where the list ends, and of a row that code has taken apart
  pub ended : None ≡ row_at rows at → effects_at rows at ≡ []
  ended e = subst (Tells rows at) (sym e) says

  pub told : {row r : Row} → Some row ≡ row_at rows at → row ≡ r → Says rows at r
  told {row} {r} e q = subst (Says rows at) q (subst (Tells rows at) (sym e) says)
