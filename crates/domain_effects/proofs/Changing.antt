-- A change of a number: its target, its expression, its bracket, and what was written of them. Assumes nothing.
use Rattle.std.specs.Prelude.{None, Some, Err}
use mathlib.Core.Path.{◌≡◌, refl, sym, ap, ◌∙◌}
use mathlib.Core.List.{List, [], ◌∷◌, ◌++◌}
use Prim.Native.Nat.{ℕ, zero, suc, ◌+◌, ◌-◌, ◌≤◌}
use native.Mathlib.Omega.{arith}
use lib.ListN.{length, length-append}
use lib.Seq.{sets}
use Rattle.base_laws.proofs.Sets.{sets_append}
use Rattle.text_tokens.specs.Runs.{part}
use Rattle.domain_meaning.specs.Read.{got, refused, and_then}
use Rattle.domain_meaning.specs.Tables.{lookup, declared}
use Rattle.domain_meaning.specs.Due.{opening, closing, any_name}
use Rattle.domain_meaning.specs.Terms.{Scope, Ref, Expr, counts, counted, reference, expression}
use Rattle.domain_meaning.specs.Effects.{Change, changes, target, change_at}
use Rattle.domain_due.specs.Answers.{answer_of, name_of, Ahead}
use Rattle.domain_due.specs.Answers.{Parsed}
use Rattle.domain_due.specs.Answers as A
use Rattle.domain_due.proofs.Dues.{answer_done, answer_refused, any_named, name_refused}
use Rattle.domain_terms.proofs.Taken.{Took, wrote_got, wrote_not}
use Rattle.domain_terms.specs.Cells.{Wrote, Room}
use Rattle.domain_terms.proofs.Wanted.{wrote_refused}
use Rattle.domain_expressions.specs.Codes.{ref_cells, cells_of, Written, Over}
use Rattle.domain_expressions.proofs.Passed.{passed}
use Rattle.domain_expressions.specs.Codes.{Progress}
use Rattle.domain_expressions.specs.Codes.{Done, Refused}
use Rattle.domain_expressions.proofs.Ends.{written_refused}
use Rattle.domain_stored_meaning.specs.Cells.{change_cell, effect_cells, effects_cells}
use Rattle.domain_effects.proofs.Facts.{one_cells}

-- ---- what was read, by the answer

-- ---- the target

module _ (s : List ℕ) (d : ℕ) (c : Scope) (from : ℕ) (tag : ℕ) (code : List ℕ) (u : ℕ) (a : Parsed) (ea : a ≡ answer_of (opening s d from)) where
  pub target_unopened : (k p : ℕ) (m : List ℕ) → a ≡ A.Refused k p → Wrote (ref_cells tag) code u a m (target s d c from)
  unfolding target
  target_unopened k p m q = wrote_refused (ref_cells tag) code u a m _ k p (rw (answer_refused (opening s d from) k p (sym ea ∙ q))) q

  module _ (next o : ℕ) (qa : a ≡ A.Done next o) (b : Parsed) (eb : b ≡ name_of (any_name s (d - 1) next)) where
    pub target_unnamed : (k p : ℕ) (m : List ℕ) → b ≡ A.Refused k p → Wrote (ref_cells tag) code u b m (target s d c from)
    unfolding target
    target_unnamed k p m q =
        wrote_refused (ref_cells tag) code u b m _ k p (rw (
          answer_done (opening s d from) next o (sym ea ∙ qa),
          name_refused (any_name s (d - 1) next) k p (sym eb ∙ q),
        )) q

    module _ (e p : ℕ) (qb : b ≡ A.Done e p) where
      pub target_missing : (m : List ℕ) → lookup c.functions (part s p e) ≡ None → Wrote (ref_cells tag) code u (A.Refused 8 p) m (target s d c from)
      unfolding target declared
      target_missing m q =
          wrote_refused (ref_cells tag) code u (A.Refused 8 p) m _ 8 p
          (rw (answer_done (opening s d from) next o (sym ea ∙ qa), (any_named s (d - 1) next p e (sym eb ∙ qb)).is, q)) refl

      pub target_stored : (i : ℕ) (r : Parsed) (m : List ℕ) → lookup c.functions (part s p e) ≡ Some i
          → Wrote (ref_cells tag) code u r m (reference s (d - 1) c c.functions i e) → Wrote (ref_cells tag) code u r m (target s d c from)
      unfolding target declared
      target_stored i r m q h = rw (answer_done (opening s d from) next o (sym ea ∙ qa), (any_named s (d - 1) next p e (sym eb ∙ qb)).is, q) h

pub room_from : (r : Parsed) (n u at from : ℕ) → from + 2 ≤ at → Ahead n at r → Room (u + 2) at r → Ahead n from r × Room u from r
unfolding Ahead Room
room_from (A.Done a v) n u at from i h k = ((omega (arith, h.0), h.1), (omega (arith, k.0), omega (arith, k.1)))
room_from (Err why) n u at from i h k = (tt, tt)

pub room_at : (u at a v : ℕ) (r : Parsed) → r ≡ A.Done a v → Room u at r → (u ≤ v) × (v + at ≤ u + a)
unfolding Room
room_at u at a v r e h = rw e at h

pub over_at : (u at a v : ℕ) (r : Parsed) → r ≡ A.Done a v → Over u at r → (u ≤ v) × (v + at ≤ u + a + 1)
unfolding Over
over_at u at a v r e h = rw e at h

-- ---- the change

change_cells : (how : Change) (tag : ℕ) (r : Ref) (x : Expr) → tag ≡ change_cell how → effects_cells (changes how r x ∷ []) ≡ ref_cells tag r ++ cells_of x
unfolding effect_cells
change_cells how tag r x e = rw e (one_cells (changes how r x))

module _ (s : List ℕ) (d : ℕ) (c : Scope) (how : Change) (p e : ℕ) where
  pub change_many : (n : ℕ) → n ≡ 0 → change_at s d c how n p e ≡ refused 12 p
  unfolding change_at counted
  change_many n z = rw z

  change_read : (n : ℕ) → (n ≡ 0 → ⊥)
      → change_at s d c how n p e ≡ and_then (target s d c e) (λ r a. and_then (expression s d c a)
      (λ x b. and_then (closing s d b) (λ _ k. got (counts (changes how r x ∷ []) (n - 1)) k)))
  unfolding change_at counted
  change_read zero z = absurd (z refl)
  change_read (suc n) z = let k : suc n - 1 ≡ n = omega arith in rw k

  module _ (n : ℕ) (z : n ≡ 0 → ⊥) (tag : ℕ) (et : tag ≡ change_cell how) (code : List ℕ) (u : ℕ) (a : Parsed) (m₁ : List ℕ)
      (wa : Wrote (ref_cells tag) code u a m₁ (target s d c e)) where
    pub change_untargeted : (k q : ℕ) (r : Progress) (m : List ℕ) → a ≡ A.Refused k q → r ≡ passed n a
        → Written effects_cells code u r m (change_at s d c how n p e)
    change_untargeted k q r m h j =
        written_refused effects_cells code u r m _ k q (rw (change_read n z, wrote_not (ref_cells tag) code u a m₁ _ k q wa h)) (j ∙ ap (passed n) h)

    module _ (after v : ℕ) (qa : a ≡ A.Done after v) (x : Parsed) (m₂ : List ℕ) (wx : Wrote cells_of m₁ v x m₂ (expression s d c after)) where
      target_is : Took (ref_cells tag) code u m₁ after v (target s d c e)
      target_is = wrote_got (ref_cells tag) code u a m₁ _ after v wa qa

      pub change_valueless : (k q : ℕ) (r : Progress) (m : List ℕ) → x ≡ A.Refused k q → r ≡ passed n x
          → Written effects_cells code u r m (change_at s d c how n p e)
      change_valueless k q r m h j =
          written_refused effects_cells code u r m _ k q (rw (change_read n z, target_is.is, wrote_not cells_of m₁ v x m₂ _ k q wx h)) (j ∙ ap (passed n) h)

      module _ (end free : ℕ) (qx : x ≡ A.Done end free) (b : Parsed) (eb : b ≡ answer_of (closing s d end)) where
        value_is : Took cells_of m₁ v m₂ end free (expression s d c after)
        value_is = wrote_got cells_of m₁ v x m₂ _ end free wx qx

        pub change_unclosed : (k q : ℕ) (r : Progress) (m : List ℕ) → b ≡ A.Refused k q → r ≡ passed n b
            → Written effects_cells code u r m (change_at s d c how n p e)
        change_unclosed k q r m h j =
            written_refused effects_cells code u r m _ k q
            (rw (change_read n z, target_is.is, value_is.is, answer_refused (closing s d end) k q (sym eb ∙ h))) (j ∙ ap (passed n) h)

        long : free ≡ u + length (ref_cells tag target_is.tree ++ cells_of value_is.tree)
        long = omega (arith, target_is.free, value_is.free, length-append (ref_cells tag target_is.tree) (cells_of value_is.tree))

        all_stored : m₂ ≡ sets code u (ref_cells tag target_is.tree ++ cells_of value_is.tree)
        all_stored =
            value_is.stored ∙ ap (λ (l : List ℕ). sets l v (cells_of value_is.tree)) target_is.stored
            ∙ ap (λ (k : ℕ). sets (sets code u (ref_cells tag target_is.tree)) k (cells_of value_is.tree)) target_is.free
            ∙ sets_append code u (ref_cells tag target_is.tree) (cells_of value_is.tree)

        pub change_stored : (next o : ℕ) → b ≡ A.Done next o → Written effects_cells code u (Done next free (n - 1)) m₂ (change_at s d c how n p e)
        unfolding Written
        change_stored next o h =
            rw (
              change_read n z,
              target_is.is,
              value_is.is,
              answer_done (closing s d end) next o (sym eb ∙ h),
              change_cells how tag target_is.tree value_is.tree et,
              ← long,
            )
            (refl, all_stored)
