-- What is said of the parts of a rule, said of the whole, and of what an action begins with. Assumes nothing.
use Rattle.std.specs.Prelude.{Err}
use mathlib.Core.Path.{◌≡◌, refl, sym, ◌∙◌}
use mathlib.Core.List.{List}
use mathlib.Core.Bool.{Bool, true, false}
use Prim.Native.Nat.{ℕ, suc, ◌+◌, ◌≤◌, ◌<◌}
use native.Mathlib.Numerals.{add-one}
use native.Mathlib.Omega.{arith}
use lib.ListN.{length, set}
use Rattle.domain_meaning.proofs.Readings.{then_then}
use Rattle.text_words.specs.Bytes.{bytes}
use Rattle.text_tokens.specs.Tokens.{token_at, spot_at}
use Rattle.domain_meaning.specs.Read.{Read, Reader, got, refused, and_then, give}
use Rattle.domain_meaning.specs.Due.{after_of, opening, closing, fixed}
use Rattle.domain_meaning.specs.Terms.{Scope, Expr, expression}
use Rattle.domain_meaning.specs.Actions.{rule, rule_head, duration_spot, duration_rule}
use Rattle.domain_due.specs.Answers.{answer_of, Ahead}
use Rattle.domain_due.specs.Answers.{Parsed}
use Rattle.domain_due.specs.Answers.{Done, Refused}
use Rattle.domain_due.proofs.Dues.{answer_done, answer_refused, ahead_by}
use Rattle.domain_terms.proofs.Taken.{wrote_got, wrote_not, wrote_by}
use Rattle.domain_terms.specs.Cells.{Wrote, Room}
use Rattle.domain_terms.proofs.Wanted.{wrote_refused, room_done}
use Rattle.domain_expressions.specs.Codes.{cells_of, Over}
use Rattle.domain_stored_meaning.specs.Cells.{lasting_cells}
use Rattle.domain_durations.specs.Lasts.{rule_begun, lasting_of, Reached}

-- ---- what was read, by the answer

-- ---- a rule, after what stands before its expression

abbrev behind : List ℕ → Scope → Reader Expr
behind s c at = and_then (expression s 13 c at) (λ x n. and_then (closing s 13 n) (λ _. give x))

abbrev head_of : List ℕ → ℕ → Reader ℕ
head_of s v n = rule_head s (token_at s n) (after_of (token_at s n))

abbrev spot_of : List ℕ → ℕ → Reader ℕ
spot_of s v n = duration_spot s (spot_at s n (bytes "?duration")) n

rule_parts : (s : List ℕ) (c : Scope) (at : ℕ) → duration_rule s c at ≡ and_then (rule_begun s at) (λ _. behind s c)
unfolding duration_rule rule_begun
rule_parts s c at = go (opening s 14 at)
  where
    go : (x : Read ℕ) → and_then x (λ v n. and_then (head_of s v n) (λ w m. and_then (spot_of s w m) (λ _. behind s c)))
        ≡ and_then (and_then x (λ v n. and_then (head_of s v n) (spot_of s))) (λ _. behind s c)
    go (got v n) = sym (then_then (head_of s v n) (spot_of s) (λ _. behind s c))
    go (refused k p) = refl

rule_got : (s : List ℕ) (c : Scope) (at v a : ℕ) (x : Expr) (b p n : ℕ) → rule_begun s at ≡ got v a → expression s 13 c a ≡ got x b
    → closing s 13 b ≡ got p n → duration_rule s c at ≡ got x n
rule_got s c at v a x b p n i j k = rule_parts s c at ∙ rw (i, j, k)

module _ (s : List ℕ) (c : Scope) (at : ℕ) (code : List ℕ) (u : ℕ) (r : Parsed) (q : r ≡ answer_of (rule_begun s at)) where
  pub rule_unbegun : (k p : ℕ) → r ≡ Refused k p → Wrote cells_of code u r code (duration_rule s c at)
  rule_unbegun k p e =
      let o = answer_refused (rule_begun s at) k p (sym q ∙ e) in
      wrote_refused cells_of code u r code (duration_rule s c at) k p (rule_parts s c at ∙ rw o) e

  module _ (a v : ℕ) (e : r ≡ Done a v) (r₂ : Parsed) (m : List ℕ) (w : Wrote cells_of code u r₂ m (expression s 13 c a)) where
    pub rule_empty : (k p : ℕ) → r₂ ≡ Refused k p → Wrote cells_of code u r₂ m (duration_rule s c at)
    rule_empty k p i =
        let o = answer_done (rule_begun s at) a v (sym q ∙ e) in
        let x = wrote_not cells_of code u r₂ m (expression s 13 c a) k p w i in
        wrote_refused cells_of code u r₂ m (duration_rule s c at) k p (rule_parts s c at ∙ rw (o, x)) i

    module _ (b f : ℕ) (i : r₂ ≡ Done b f) (r₃ : Parsed) (q₃ : r₃ ≡ answer_of (closing s 13 b)) where
      pub rule_open : (k p : ℕ) → r₃ ≡ Refused k p → Wrote cells_of code u r₃ m (duration_rule s c at)
      rule_open k p j =
          let o = answer_done (rule_begun s at) a v (sym q ∙ e) in
          let g = wrote_got cells_of code u r₂ m (expression s 13 c a) b f w i in
          let z = answer_refused (closing s 13 b) k p (sym q₃ ∙ j) in
          wrote_refused cells_of code u r₃ m (duration_rule s c at) k p (rule_parts s c at ∙ rw (o, g.is, z)) j

      pub rule_read : (n p : ℕ) → r₃ ≡ Done n p → Wrote cells_of code u (Done n f) m (duration_rule s c at)
      rule_read n p j =
          let o = answer_done (rule_begun s at) a v (sym q ∙ e) in
          let g = wrote_got cells_of code u r₂ m (expression s 13 c a) b f w i in
          let z = answer_done (closing s 13 b) n p (sym q₃ ∙ j) in
          wrote_by cells_of code u m (duration_rule s c at) g.tree n f (rule_got s c at v a g.tree b p n o g.is z) g.free g.stored

pub over_done : (u at a v : ℕ) (r : Parsed) → r ≡ Done a v → Over u at r → (u ≤ v) × (v + at ≤ u + a + 1)
unfolding Over
over_done u at a v r e h = rw e at h

pub rule_places : (n u from at a v b : ℕ) → from < at → at < a → a < b → b ≤ n → u ≤ v → v + at ≤ u + a + 1 → Ahead n from (Done b v) × Room u from (Done b v)
rule_places n u from at a v b h i j k l o = (ahead_by _ _ _ _ (omega arith) k, room_done _ _ _ _ l (omega arith))

-- ---- what an action begins with

pub reached_refused : (n u at k p : ℕ) (r : Parsed) → r ≡ Refused k p → Reached n u at r
unfolding Reached
reached_refused n u at k p r e = rw e tt

lasts : (code : List ℕ) (u : ℕ) (r : Parsed) (m : List ℕ) (x : Read Expr) → Wrote cells_of (set code u 1) (u + 1) r m x
    → Wrote lasting_cells code u r m (and_then x (λ y. give (rule y)))
unfolding Wrote lasting_cells
lasts code u r m (got y n) h =
    let e : u + 1 + length (cells_of y) ≡ u + suc (length (cells_of y)) = omega arith in
    (rw e at h.0, rw (add-one u) at h.1)
lasts code u r m (refused k p) h = h

module _ (s : List ℕ) (c : Scope) (at : ℕ) (code : List ℕ) (u : ℕ) (durative : Bool) where
  pub lasts_not : (m : List ℕ) → durative ≡ false → m ≡ set code u 0 → Wrote lasting_cells code u (Done at (u + 1)) m (lasting_of durative s c at)
  unfolding Wrote lasting_cells lasting_of
  lasts_not m b h = rw b (refl, h)

  module _ (b : durative ≡ true) (r : Parsed) (q : r ≡ answer_of (fixed s 14 ":duration" at)) where
    pub lasts_unsaid : (k p : ℕ) → r ≡ Refused k p → Wrote lasting_cells code u r code (lasting_of durative s c at)
    unfolding lasting_of
    lasts_unsaid k p e =
        let o = answer_refused (fixed s 14 ":duration" at) k p (sym q ∙ e) in
        let y : lasting_of durative s c at ≡ refused k p = rw (b, o) in
        wrote_refused lasting_cells code u r code (lasting_of durative s c at) k p y e

    pub lasts_ruled : (a v : ℕ) (m : List ℕ) (r₂ : Parsed) (m₂ : List ℕ) → r ≡ Done a v → m ≡ set code u 1 → Wrote cells_of m (u + 1) r₂ m₂ (duration_rule s c a)
        → Wrote lasting_cells code u r₂ m₂ (lasting_of durative s c at)
    unfolding lasting_of
    lasts_ruled a v m r₂ m₂ e h w =
        let o = answer_done (fixed s 14 ":duration" at) a v (sym q ∙ e) in
        let y : lasting_of durative s c at ≡ and_then (duration_rule s c a) (λ y. give (rule y)) = rw (b, o) in
        rw y (lasts code u r₂ m₂ (duration_rule s c a) (rw h at w))

pub reached_moment : (n u at : ℕ) → at ≤ n → Reached n u at (Done at (u + 1))
unfolding Reached
reached_moment n u at h = (omega arith, h, omega arith, omega arith)

pub reached_rule : (n u from at : ℕ) (r : Parsed) → from < at → Ahead n at r → Room (u + 1) at r → Reached n u from r
unfolding Reached Ahead Room
reached_rule n u from at (Done a v) i h k = (omega (arith, h.0), h.1, omega (arith, k.0), omega (arith, k.1))
reached_rule n u from at (Err why) i h k = tt
