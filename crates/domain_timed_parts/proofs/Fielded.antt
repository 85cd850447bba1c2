-- The ways through a field that may be missing. Assumes nothing.
use Rattle.std.specs.Prelude.{None, Some, Err}
use mathlib.Core.Path.{◌≡◌, refl, ap, ◌∙◌}
use mathlib.Core.List.{List, [], ◌∷◌, ◌++◌, append-nil}
use mathlib.Core.Bool.{Bool, true, false, cond}
use Prim.Native.Nat.{ℕ, suc, ◌+◌, ◌≤◌}
use native.Mathlib.Omega.{arith}
use native.Mathlib.Numerals.{add-one}
use lib.ListN.{length, set, length-append}
use lib.Seq.{sets}
use Rattle.base_laws.proofs.Sets.{sets_append}
use Rattle.text_words.specs.Spelling.{same_word}
use Rattle.text_tokens.specs.Runs.{part}
use Rattle.text_tokens.specs.Tokens.{token_at}
use Rattle.text_tokens.specs.declared.tokens.Token.{Token}
use Rattle.text_tokens.specs.declared.tokens.Token.TheVariants as T
use Rattle.domain_meaning.specs.Read.{◌>>=◌, Read, Reader, got, refused, give, and_then}
use Rattle.domain_meaning.specs.Due.{token, on_word}
use Rattle.domain_meaning.specs.Terms.{Scope, Counted, counts}
use Rattle.domain_meaning.specs.Actions.{Timed, parts, at_start, field_of}
use Rattle.domain_due.specs.Answers as A
use Rattle.domain_terms.specs.Cells.{Wrote}
use Rattle.domain_expressions.specs.Codes.{Written, Spent}
use Rattle.domain_expressions.specs.Codes.{Progress}
use Rattle.domain_expressions.specs.Codes.{Done, Refused}
use Rattle.domain_expressions.proofs.Operands.{written_got, written_not}
use Rattle.domain_timed_parts.specs.Bodies.{as_is, body_of, timed_cells}
use Rattle.domain_timed_parts.specs.Fields.{field_found, parts_of, field_parts, ended_cells, Onwards}

-- ---- what stands after the word

instant : (code : List ℕ) (u : ℕ) (r : Progress) (m₁ m : List ℕ) (x : Read (Counted (List ℕ))) → m₁ ≡ set code u 1 → Written as_is m₁ (u + 1) r m x
    → Written timed_cells code u r m (and_then x (λ y a. got (counts (at_start y.tree ∷ []) y.left) a))
unfolding Written timed_cells
instant code u r m₁ m (got y a) q h =
    let long : u + 1 + length y.tree ≡ u + suc (length y.tree) = omega arith in
    rw (append-nil y.tree) (h.0 ∙ rw long refl, h.1 ∙ rw (q, add-one u))
instant code u r m₁ m (refused k p) q h = h

module _ (s : List ℕ) (c : Scope) (n at : ℕ) (durative over : Bool) (code : List ℕ) (u : ℕ) (r : Progress) (m : List ℕ) where
  pub held_parts : durative ≡ true → Written timed_cells code u r m (parts s over (body_of over s c) 14 n at)
      → Written timed_cells code u r m (parts_of durative over s c n at)
  unfolding parts_of
  held_parts e w = rw e w

  pub held_instant : (m₁ : List ℕ) → durative ≡ false → m₁ ≡ set code u 1 → Written as_is m₁ (u + 1) r m (body_of over s c 14 n at)
      → Written timed_cells code u r m (parts_of durative over s c n at)
  unfolding parts_of
  held_instant m₁ e q w = rw e (instant code u r m₁ m (body_of over s c 14 n at) q w)

-- a cell was stored before
pub spent_under : (r : Progress) (n u at : ℕ) → Spent 1 n (u + 1) at r → Spent 2 n u at r
unfolding Spent
spent_under (Done a v l) n u at h = (h.0, h.1, omega (arith, h.2), omega (arith, h.3))
spent_under (Err why) n u at h = tt

-- ---- whether the word is there

-- the word is read, or nothing is
abbrev asked : List ℕ → Bool → Reader Bool
asked s b =
    cond b
    (do
      _ ← token s
      give true)
    (give false)

unasked : (s : List ℕ) (at : ℕ) (b : Bool) → None ≡ field_found (asked s b at) → asked s b at ≡ got false at
unasked s at true h = absurd (let z : ◌≡◌ {A = ℕ} 0 1 = cc in let y : ⊥ = omega arith in y)
unasked s at false h = refl

absent : (s w : List ℕ) (at : ℕ) (t : Token) → None ≡ field_found (on_word t (λ k p e. asked s (same_word (part s p e) w)) (give false) at)
    → on_word t (λ k p e. asked s (same_word (part s p e) w)) (give false) at ≡ got false at
absent s w at (T.Word k p e) h = unasked s at (same_word (part s p e) w) h
absent s w at (T.Number z p e) h = refl
absent s w at (T.Open p n) h = refl
absent s w at (T.Close p n) h = refl
absent s w at (T.Mark m p n) h = refl
absent s w at (T.Refusal k p) h = refl
absent s w at (T.End p) h = refl

missing : (s w : List ℕ) (at : ℕ) → None ≡ field_found (field_of s w at) → field_of s w at ≡ got false at
unfolding field_of
missing s w at h = absent s w at (token_at s at) h

there : (x : Read Bool) (e : ℕ) → Some e ≡ field_found x → x ≡ got true e
there (got true n) e h = let z : e ≡ n = cc in rw z
there (got false n) e h = absurd (let z : ◌≡◌ {A = ℕ} 0 1 = cc in let y : ⊥ = omega arith in y)
there (refused k p) e h = absurd (let z : ◌≡◌ {A = ℕ} 0 1 = cc in let y : ⊥ = omega arith in y)

-- parts, and the cell that ends them
ended : (code : List ℕ) (u : ℕ) (xs : List (Timed (List ℕ))) (a v : ℕ) (m m' : List ℕ) → v ≡ u + length (timed_cells xs)
    → m ≡ sets code u (timed_cells xs) → m' ≡ set m v 0
    → Wrote ended_cells code u (A.Done a (v + 1)) m' (got xs a)
unfolding Wrote
ended code u xs a v m m' free stored q =
    let cells = timed_cells xs in
    let long : v + 1 ≡ u + length (cells ++ 0 ∷ []) = omega (arith, free, length-append cells (0 ∷ [])) in
    (rw long refl, q ∙ ap (λ (k : List ℕ). set k v 0) stored ∙ ap (λ (k : ℕ). set (sets code u cells) k 0) free ∙ sets_append code u cells (0 ∷ []))

-- ---- the field

module _ (s : List ℕ) (c : Scope) (w : List ℕ) (n at : ℕ) (durative over : Bool) (code : List ℕ) (u : ℕ) where
  pub field_none : (m : List ℕ) → None ≡ field_found (field_of s w at) → m ≡ set code u 0
      → Wrote ended_cells code u (A.Done at (u + 1)) m (field_parts durative over s c w n at)
  unfolding field_parts Wrote timed_cells
  field_none m h q = rw (missing s w at h) (refl, q)

  module _ (e : ℕ) (h : Some e ≡ field_found (field_of s w at)) (r : Progress) (m : List ℕ)
      (x : Written timed_cells code u r m (parts_of durative over s c n e)) where
    pub field_refused : (k p : ℕ) → r ≡ Refused k p → Wrote ended_cells code u (A.Refused k p) m (field_parts durative over s c w n at)
    unfolding field_parts Wrote
    field_refused k p i = rw (there (field_of s w at) e h, written_not timed_cells code u r m (parts_of durative over s c n e) k p x i) refl

    pub field_done : (a v l : ℕ) (m' : List ℕ) → r ≡ Done a v l → m' ≡ set m v 0
        → Wrote ended_cells code u (A.Done a (v + 1)) m' (field_parts durative over s c w n at)
    unfolding field_parts
    field_done a v l m' i q =
        let g = written_got timed_cells code u r m (parts_of durative over s c n e) a v l x i in
        rw (there (field_of s w at) e h, g.is) (ended code u g.tree.tree a v m m' g.free g.stored q)

pub onwards_by : (n used at a v : ℕ) → at ≤ a → a ≤ n → used ≤ v → v + at ≤ used + a + 2 → Onwards n used at (A.Done a v)
unfolding Onwards
onwards_by n used at a v lo hi up few = (lo, hi, up, few)

pub onwards_refused : (n used at k p : ℕ) → Onwards n used at (A.Refused k p)
unfolding Onwards
onwards_refused n used at k p = tt
