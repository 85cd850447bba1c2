-- Lists of effects: their cells one after the other, the ways through a list, and what the loop says of the rest, said of the whole. Assumes nothing.
use mathlib.Core.Path.{◌≡◌, refl, sym, ap, ◌∙◌}
use mathlib.Core.List.{List, [], ◌∷◌, ◌++◌, append_assoc}
use Prim.Native.Nat.{ℕ, zero, suc, ◌+◌, ◌-◌, ◌≤◌, ◌<◌}
use native.Mathlib.Nat.{add-zero}
use native.Mathlib.Omega.{arith}
use lib.ListN.{length, length-append}
use lib.Seq.{sets}
use types.Run.{OneOf}
use denote.Enum.Declared.{tag_of}
use Rattle.base_laws.proofs.Sets.{sets_append}
use Rattle.text_tokens.specs.Tokens.{token_at}
use Rattle.text_tokens.specs.declared.tokens.Token.TheVariants as T
use Rattle.text_tokens.specs.contracts.tokens.Token as token-type
use Rattle.domain_meaning.specs.Read.{Read, Reader, got, refused, and_then}
use Rattle.domain_meaning.specs.Due.{closing}
use Rattle.domain_meaning.specs.Terms.{Counted, counts}
use Rattle.domain_meaning.specs.Effects.{Effect, effects_to}
use Rattle.domain_due.proofs.Dues.{not_close}
use Rattle.domain_expressions.specs.Codes.{Written}
use Rattle.domain_expressions.specs.Codes.{Progress}
use Rattle.domain_expressions.specs.Codes.{Done, Refused}
use Rattle.domain_expressions.proofs.Ends.{written_refused}
use Rattle.domain_expressions.proofs.Operands.{written_got, written_not}
use Rattle.domain_stored_meaning.specs.Cells.{effect_cells, effects_cells}

cells_append : (xs ys : List Effect) → effects_cells (xs ++ ys) ≡ effects_cells xs ++ effects_cells ys
unfolding effects_cells
cells_append [] ys = refl
cells_append (x ∷ xs) ys = ap (λ (l : List ℕ). effect_cells x ++ l) (cells_append xs ys) ∙ sym (append_assoc (effect_cells x) (effects_cells xs) (effects_cells ys))

-- ---- what was written

written_none : (code : List ℕ) (u n next : ℕ) → Written effects_cells code u (Done next u n) code (got (counts [] n) next)
unfolding Written effects_cells
written_none code u n next = rw (add-zero u) (refl, refl)

module _ (code : List ℕ) (u : ℕ) (xs : List Effect) (v : ℕ) (m₁ : List ℕ) (free : v ≡ u + length (effects_cells xs))
    (stored : m₁ ≡ sets code u (effects_cells xs)) where
  written_more : (r : Progress) (m : List ℕ) (y : Read (Counted (List Effect))) → Written effects_cells m₁ v r m y
      → Written effects_cells code u r m (and_then y (λ ys b. got (counts (xs ++ ys.tree) ys.left) b))
  unfolding Written
  written_more r m (got ys b) h =
      let long : v + length (effects_cells ys.tree) ≡ u + length (effects_cells xs ++ effects_cells ys.tree) =
      omega (arith, length-append (effects_cells xs) (effects_cells ys.tree)) in
      rw (cells_append xs ys.tree, ← long) (
        h.0,
        h.1 ∙ ap (λ (l : List ℕ). sets l v (effects_cells ys.tree)) stored
            ∙ ap (λ (k : ℕ). sets (sets code u (effects_cells xs)) k (effects_cells ys.tree)) free
            ∙ sets_append code u (effects_cells xs) (effects_cells ys.tree),
      )
  written_more r m (refused k p) h = h

-- ---- the ways through a list

module _ (s : List ℕ) (d : ℕ) (f : ℕ → Reader (Counted (List Effect))) (n at : ℕ) where
  list_closed : (k p next : ℕ) → 0 < k → token_at s at ≡ T.Close p next → effects_to k s d f n at ≡ got (counts [] n) next
  unfolding effects_to closing
  list_closed zero p next h e = absurd (let z : ⊥ = omega arith in z)
  list_closed (suc k) p next h e = simp e

  module _ (o : OneOf (0 ∷ 1 ∷ 2 ∷ 4 ∷ 5 ∷ 6 ∷ []) (tag_of token-type.the_type (token_at s at))) where
    list_refused : (k j p : ℕ) → 0 < k → f n at ≡ refused j p → effects_to k s d f n at ≡ refused j p
    unfolding effects_to
    list_refused zero j p h e = absurd (let z : ⊥ = omega arith in z)
    list_refused (suc k) j p h e = rw (not_close (token_at s at) _ _ o, e)

    list_more : (k : ℕ) (x : Counted (List Effect)) (a : ℕ) → 0 < k → f n at ≡ got x a
        → effects_to k s d f n at ≡ and_then (effects_to (k - 1) s d f x.left a) (λ xs b. got (counts (x.tree ++ xs.tree) xs.left) b)
    unfolding effects_to
    list_more zero x a h e = absurd (let z : ⊥ = omega arith in z)
    list_more (suc k) x a h e = let i : suc k - 1 ≡ k = omega arith in rw (not_close (token_at s at) _ _ o, e, i)

-- ---- the loop

pub record Onward (s : List ℕ) (d : ℕ) (f : ℕ → Reader (Counted (List Effect))) (code₀ : List ℕ) (used left from k : ℕ) (code : List ℕ) (u n at : ℕ) :
    Type 0 where
  pub j : ℕ
  pub enough : length s - at < j
  pub on : (r : Progress) (m : List ℕ) → Written effects_cells code u r m (effects_to j s d f n at)
      → Written effects_cells code₀ used r m (effects_to k s d f left from)

pub onward_start : (s : List ℕ) (d : ℕ) (f : ℕ → Reader (Counted (List Effect))) (code : List ℕ) (used left from k : ℕ) → length s - from < k
    → Onward s d f code used left from k code used left from
onward_start s d f code used left from k h = record { j = k; enough = h; on = λ r m w. w }

module _ (s : List ℕ) (d : ℕ) (f : ℕ → Reader (Counted (List Effect))) (code₀ : List ℕ) (used left from k : ℕ) (code : List ℕ) (u n at : ℕ)
    (o : Onward s d f code₀ used left from k code u n at) where
  some : 0 < o.j
  some = omega (arith, o.enough)

  pub onward_closed : (p next : ℕ) → token_at s at ≡ T.Close p next → Written effects_cells code₀ used (Done next u n) code (effects_to k s d f left from)
  onward_closed p next e = o.on (Done next u n) code (rw (list_closed s d f n at o.j p next some e) (written_none code u n next))

  module _ (no : OneOf (0 ∷ 1 ∷ 2 ∷ 4 ∷ 5 ∷ 6 ∷ []) (tag_of token-type.the_type (token_at s at))) (x : Progress) (m₁ : List ℕ)
      (w : Written effects_cells code u x m₁ (f n at)) where
    pub onward_refused : (i p : ℕ) → x ≡ Refused i p → Written effects_cells code₀ used x m₁ (effects_to k s d f left from)
    onward_refused i p e = o.on x m₁ (written_refused effects_cells code u x m₁ _ i p
        (list_refused s d f n at no o.j i p some (written_not effects_cells code u x m₁ (f n at) i p w e)) e)

    pub onward_more : (a v l : ℕ) → x ≡ Done a v l → at < a → a ≤ length s → Onward s d f code₀ used left from k m₁ v l a
    onward_more a v l e lo hi =
        let g = written_got effects_cells code u x m₁ (f n at) a v l w e in
        record {
          j = o.j - 1;
          enough = omega (arith, o.enough);
          on = λ r m h. o.on r m (rw (list_more s d f n at no o.j g.tree a some g.is)
              (written_more code u g.tree.tree v m₁ g.free g.stored r m _ (rw g.left at h)));
        }
