-- The conditions of an `and` one by one: what is said of the rest is said of the whole. Assumes nothing.
use mathlib.Core.Path.{◌≡◌, refl, ap, ◌∙◌}
use mathlib.Core.List.{List, [], ◌∷◌, ◌++◌}
use Prim.Native.Nat.{ℕ, zero, suc, ◌+◌, ◌-◌, ◌≤◌, ◌<◌}
use native.Mathlib.Omega.{arith}
use lib.ListN.{length, set, length-append}
use lib.Seq.{sets}
use types.Run.{OneOf}
use denote.Enum.Declared.{tag_of}
use Rattle.base_laws.proofs.Sets.{sets_append}
use Rattle.text_tokens.specs.Tokens.{token_at}
use Rattle.text_tokens.specs.declared.tokens.Token.TheVariants as T
use Rattle.text_tokens.specs.contracts.tokens.Token as token-type
use Rattle.domain_meaning.specs.Read.{Read, Reader, got, refused, and_then}
use Rattle.domain_meaning.specs.Due.{closing}
use Rattle.domain_meaning.specs.Terms.{Counted, counts}
use Rattle.domain_meaning.specs.Conditions.{Cond, Conds, none, cons, list_to}
use Rattle.domain_due.proofs.Dues.{not_close}
use Rattle.domain_expressions.specs.Codes.{Progress, Done, Refused, Written}
use Rattle.domain_expressions.proofs.Ends.{written_refused}
use Rattle.domain_expressions.proofs.Operands.{written_got, written_not}
use Rattle.domain_stored_meaning.specs.Cells.{cond_cells, conds_cells}

-- ---- the ways

module _ (s : List ℕ) (d : ℕ) (f : ℕ → Reader (Counted Cond)) (k n at : ℕ) where
  list_end : (p a : ℕ) → token_at s at ≡ T.Close p a → list_to (suc k) s d f n at ≡ got (counts none n) a
  unfolding list_to closing
  list_end p a e = simp e

  module _ (o : OneOf (0 ∷ 1 ∷ 2 ∷ 4 ∷ 5 ∷ 6 ∷ []) (tag_of token-type.the_type (token_at s at))) where
    list_refused : (i p : ℕ) → f n at ≡ refused i p → list_to (suc k) s d f n at ≡ refused i p
    unfolding list_to
    list_refused i p e = rw (not_close (token_at s at) _ _ o, e)

    list_more : (x : Counted Cond) (a : ℕ) → f n at ≡ got x a
        → list_to (suc k) s d f n at ≡ and_then (list_to k s d f x.left a) (λ xs b. got (counts (cons x.tree xs.tree) xs.left) b)
    unfolding list_to
    list_more x a e = rw (not_close (token_at s at) _ _ o, e)

-- ---- what was written

end_written : (code : List ℕ) (u n a : ℕ) (m : List ℕ) → m ≡ set code u 0 → Written conds_cells code u (Done a (u + 1) n) m (got (counts none n) a)
unfolding Written conds_cells
end_written code u n a m h = (refl, h)

more_written : (code : List ℕ) (u v : ℕ) (m₁ : List ℕ) (x : Cond) (r : Progress) (m : List ℕ) (y : Read (Counted Conds))
    → v ≡ u + length (cond_cells x) → m₁ ≡ sets code u (cond_cells x)
    → Written conds_cells m₁ v r m y → Written conds_cells code u r m (and_then y (λ xs b. got (counts (cons x xs.tree) xs.left) b))
unfolding Written conds_cells
more_written code u v m₁ x r m (got t b) ev h w =
    let long : u + length (cond_cells x ++ conds_cells t.tree) ≡ v + length (conds_cells t.tree) =
    omega (arith, length-append (cond_cells x) (conds_cells t.tree)) in (
      rw long w.0,
      w.1 ∙ ap (λ (l : List ℕ). sets l v (conds_cells t.tree)) h ∙ ap (λ (i : ℕ). sets (sets code u (cond_cells x)) i (conds_cells t.tree)) ev
          ∙ sets_append code u (cond_cells x) (conds_cells t.tree),
    )
more_written code u v m₁ x r m (refused k p) ev h w = w

-- ---- the loop: from place `from` on, where cells begin at `used`, it has come to `at`, cells from u on being free and n conditions left

pub record Step (s : List ℕ) (d : ℕ) (f : ℕ → Reader (Counted Cond)) (from : ℕ) (code₀ : List ℕ) (used left : ℕ) (code : List ℕ) (at u n k : ℕ) : Type 0 where
  pub j : ℕ
  pub enough : length s - at < j
  pub on : (r : Progress) (m : List ℕ) → Written conds_cells code u r m (list_to j s d f n at) → Written conds_cells code₀ used r m (list_to k s d f left from)

abbrev pub Onward : List ℕ → ℕ → (ℕ → Reader (Counted Cond)) → ℕ → List ℕ → ℕ → ℕ → List ℕ → ℕ → ℕ → ℕ → Type 0
Onward s d f from code₀ used left code at u n = (k : ℕ) → length s - from < k → Step s d f from code₀ used left code at u n k

pub onward_start : (s : List ℕ) (d : ℕ) (f : ℕ → Reader (Counted Cond)) (from : ℕ) (code : List ℕ) (used left : ℕ)
    → Onward s d f from code used left code from used left
onward_start s d f from code used left k h = record { j = k; enough = h; on = λ r m w. w }

module _ (s : List ℕ) (d : ℕ) (f : ℕ → Reader (Counted Cond)) (from : ℕ) (code₀ : List ℕ) (used left : ℕ) (code : List ℕ) (at u n : ℕ) where
  at_end : (k j : ℕ) → length s - at < j
      → ((r : Progress) (m : List ℕ) → Written conds_cells code u r m (list_to j s d f n at) → Written conds_cells code₀ used r m (list_to k s d f left from))
      → (p a : ℕ) (m : List ℕ) → token_at s at ≡ T.Close p a → m ≡ set code u 0 → Written conds_cells code₀ used (Done a (u + 1) n) m (list_to k s d f left from)
  at_end k zero enough on p a m e h = absurd (let z : ⊥ = omega (arith, enough) in z)
  at_end k (suc j) enough on p a m e h = on (Done a (u + 1) n) m (rw (list_end s d f j n at p a e) (end_written code u n a m h))

  pub onward_end : Onward s d f from code₀ used left code at u n → (k : ℕ) → length s - from < k → (p a : ℕ) (m : List ℕ) → token_at s at ≡ T.Close p a
      → m ≡ set code u 0
      → Written conds_cells code₀ used (Done a (u + 1) n) m (list_to k s d f left from)
  onward_end w k h p a m e q = at_end k (w k h).j (w k h).enough (w k h).on p a m e q

  module _ (o : OneOf (0 ∷ 1 ∷ 2 ∷ 4 ∷ 5 ∷ 6 ∷ []) (tag_of token-type.the_type (token_at s at))) (r₁ : Progress) (m₁ : List ℕ)
      (w₁ : Written cond_cells code u r₁ m₁ (f n at)) where
    at_refused : (k j : ℕ) → length s - at < j
        → ((r : Progress) (m : List ℕ) → Written conds_cells code u r m (list_to j s d f n at) → Written conds_cells code₀ used r m (list_to k s d f left from))
        → (i p : ℕ) → r₁ ≡ Refused i p → Written conds_cells code₀ used (Refused i p) m₁ (list_to k s d f left from)
    at_refused k zero enough on i p e = absurd (let z : ⊥ = omega (arith, enough) in z)
    at_refused k (suc j) enough on i p e =
        on (Refused i p) m₁ (written_refused conds_cells code u _ m₁ _ i p
        (list_refused s d f j n at o i p (written_not cond_cells code u r₁ m₁ (f n at) i p w₁ e)) refl)

    pub onward_refused : Onward s d f from code₀ used left code at u n → (k : ℕ) → length s - from < k → (i p : ℕ) → r₁ ≡ Refused i p
        → Written conds_cells code₀ used (Refused i p) m₁ (list_to k s d f left from)
    onward_refused w k h i p e = at_refused k (w k h).j (w k h).enough (w k h).on i p e

    one_more : (k j : ℕ) → length s - at < j
        → ((r : Progress) (m : List ℕ) → Written conds_cells code u r m (list_to j s d f n at) → Written conds_cells code₀ used r m (list_to k s d f left from))
        → (a v l : ℕ) → at < a → a ≤ length s → r₁ ≡ Done a v l → Step s d f from code₀ used left m₁ a v l k
    one_more k zero enough on a v l lo hi e = absurd (let z : ⊥ = omega (arith, enough) in z)
    one_more k (suc j) enough on a v l lo hi e =
        let g = written_got cond_cells code u r₁ m₁ (f n at) a v l w₁ e in
        record {
          j = j;
          enough = omega (arith, enough, lo, hi);
          on =
              λ r m w.
              on r m
              (rw (list_more s d f j n at o g.tree a g.is)
              (more_written code u v m₁ g.tree.tree r m (list_to j s d f g.tree.left a) g.free g.stored (rw g.left at w)));
        }

    pub onward_more : Onward s d f from code₀ used left code at u n → (a v l : ℕ) → at < a → a ≤ length s → r₁ ≡ Done a v l
        → Onward s d f from code₀ used left m₁ a v l
    onward_more w a v l lo hi e k h = one_more k (w k h).j (w k h).enough (w k h).on a v l lo hi e
