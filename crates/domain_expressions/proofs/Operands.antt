-- An expression by its parts: what was written of the operands, and the operator's cell before them. Assumes nothing.
use Rattle.std.specs.Prelude.{None, Some, Err}
use mathlib.Core.Path.{◌≡◌, refl, sym, ap, ◌∙◌}
use mathlib.Core.List.{List, ◌∷◌, ◌++◌}
use mathlib.Core.Bool.{Bool, true, false}
use Prim.Native.Nat.{ℕ, suc, ◌+◌, ◌≤◌, ◌<◌}
use native.Mathlib.Omega.{arith}
use lib.ListN.{length, set, length-append}
use lib.Seq.{sets}
use Rattle.base_laws.proofs.Sets.{set_before, sets_append}
use Rattle.text_tokens.specs.Tokens.{token_at}
use Rattle.text_tokens.specs.declared.tokens.Token.{Token}
use Rattle.text_tokens.specs.declared.tokens.Token.TheVariants as T
use Rattle.domain_meaning.specs.Read.{Read, Reader, got, refused, and_then}
use Rattle.domain_meaning.specs.Due.{after_of, on_close, closing}
use Rattle.domain_meaning.specs.Terms.{Expr, minus, difference, plus, Counted, counts, operands_end}
use Rattle.domain_expressions.specs.Codes.{Progress, Done, Refused, cells_of, Written, Spent, Joined, lone_end}
use Rattle.domain_expressions.specs.Begins.{operands}
use Rattle.domain_due.proofs.Dues.{refused_parts}
use Rattle.domain_expressions.proofs.Passed.{read_parts, never_read}

-- ---- what was read, by the answer

pub record Arrived {A : Type 0} (cells : A → List ℕ) (code : List ℕ) (u : ℕ) (m : List ℕ) (a v l : ℕ) (x : Read (Counted A)) : Type 0 where
  pub tree : Counted A
  pub is : x ≡ got tree a
  pub free : v ≡ u + length (cells tree.tree)
  pub left : l ≡ tree.left
  pub stored : m ≡ sets code u (cells tree.tree)

module _ {A : Type 0} (cells : A → List ℕ) (code : List ℕ) (u : ℕ) (r : Progress) (m : List ℕ) where
  pub written_got : (x : Read (Counted A)) (a v l : ℕ) → Written cells code u r m x → r ≡ Done a v l → Arrived cells code u m a v l x
  unfolding Written
  written_got (got t n) a v l h e =
      let q = read_parts n a (u + length (cells t.tree)) v t.left l (sym h.0 ∙ e) in
      record { tree = t; is = rw q.0; free = sym q.1; left = sym q.2; stored = h.1 }
  written_got (refused k p) a v l h e = never_read k p a v l (sym h ∙ e)

  pub written_not : (x : Read (Counted A)) (k p : ℕ) → Written cells code u r m x → r ≡ Refused k p → x ≡ refused k p
  unfolding Written
  written_not (got t n) k p h e = never_read k p n (u + length (cells t.tree)) t.left (sym e ∙ h.0)
  written_not (refused j q) k p h e = let o = refused_parts j k q p (sym h ∙ e) in rw (o.0, o.1)

-- ---- the ways through the operands

pub record Closes (t : Token) (n : ℕ) : Type 0 where
  pub place : ℕ
  pub is : t ≡ T.Close place n

no_end : {A : Type 0} (n : ℕ) → None ≡ Some n → A
no_end n h = absurd (let z : ◌≡◌ {A = ℕ} 0 1 = cc in let y : ⊥ = omega arith in y)

closes : (t : Token) (n : ℕ) → on_close t (λ p. Some (after_of t)) None ≡ Some n → Closes t n
closes (T.Word k p e) n h = no_end n h
closes (T.Number z p e) n h = no_end n h
closes (T.Open p e) n h = no_end n h
closes (T.Close p e) n h = let q : e ≡ n = cc in record { place = p; is = rw q }
closes (T.Mark m p e) n h = no_end n h
closes (T.Refusal k p) n h = no_end n h
closes (T.End p) n h = no_end n h

pub lone_token : (negative : Bool) (t : Token) (n : ℕ) → lone_end negative t ≡ Some n → Closes t n
lone_token true t n h = closes t n h
lone_token false t n h = no_end n h

open_yet : {A : Type 0} (t : Token) (f : ℕ → A) (g : A) → on_close t (λ p. Some (after_of t)) None ≡ None → on_close t f g ≡ g
open_yet (T.Word k p e) f g h = refl
open_yet (T.Number z p e) f g h = refl
open_yet (T.Open p e) f g h = refl
open_yet (T.Close p e) f g h = no_end e (sym h)
open_yet (T.Mark m p e) f g h = refl
open_yet (T.Refusal k p) f g h = refl
open_yet (T.End p) f g h = refl

-- `-` or `+` of two
abbrev both : Bool → Expr → Expr → Expr
both true a b = difference a b
both false a b = plus a b

module _ (s : List ℕ) (d : ℕ) (f : ℕ → Reader (Counted Expr)) (m e : ℕ) where
  pub operands_refused : (negative : Bool) (k p : ℕ) → f m e ≡ refused k p → operands negative s d f m e ≡ refused k p
  operands_refused true k p q = rw q
  operands_refused false k p q = rw q

  module _ (x : Counted Expr) (a : ℕ) (q : f m e ≡ got x a) where
    pub operands_lone : (negative : Bool) (n : ℕ) → lone_end negative (token_at s a) ≡ Some n
        → operands negative s d f m e ≡ got (counts (minus x.tree) x.left) n
    unfolding closing
    operands_lone true n h = let c = closes (token_at s a) n h in simp (q, c.is)
    operands_lone false n h = no_end n h

    pub second_refused : (negative : Bool) (k p : ℕ) → lone_end negative (token_at s a) ≡ None → f x.left a ≡ refused k p
        → operands negative s d f m e ≡ refused k p
    second_refused true k p h o = rw (q, open_yet (token_at s a) _ _ h, o)
    second_refused false k p h o = rw (q, o)

    pub operands_two : (negative : Bool) (y : Counted Expr) (b : ℕ) → lone_end negative (token_at s a) ≡ None → f x.left a ≡ got y b
        → operands negative s d f m e ≡ and_then (operands_end s d y.left b) (λ _ n. got (counts (both negative x.tree y.tree) y.left) n)
    operands_two true y b h o = rw (q, open_yet (token_at s a) _ _ h, o)
    operands_two false y b h o = rw (q, o)

-- ---- what was written of them

module _ (code : List ℕ) (u : ℕ) (x : Counted Expr) where
  pub wrote_lone : (n v l : ℕ) (m₁ m : List ℕ) → v ≡ u + 1 + length (cells_of x.tree) → l ≡ x.left → m₁ ≡ sets code (u + 1) (cells_of x.tree)
      → m ≡ set m₁ u 0
      → Written cells_of code u (Done n v l) m (got (counts (minus x.tree) x.left) n)
  unfolding Written cells_of
  wrote_lone n v l m₁ m e q h k =
      let one : u + 1 ≡ suc u = omega arith in
      let w : v ≡ u + suc (length (cells_of x.tree)) = omega arith in (
        rw (w, q),
        k ∙ ap (λ (r : List ℕ). set r u 0) h ∙ set_before code u (u + 1) 0 (cells_of x.tree) (omega arith)
            ∙ ap (λ (i : ℕ). sets (set code u 0) i (cells_of x.tree)) one,
      )

  module _ (y : Counted Expr) (v w l : ℕ) (m₁ m₂ : List ℕ) (ev : v ≡ u + 1 + length (cells_of x.tree)) (ew : w ≡ v + length (cells_of y.tree))
      (el : l ≡ y.left) (h₁ : m₁ ≡ sets code (u + 1) (cells_of x.tree)) (h₂ : m₂ ≡ sets m₁ v (cells_of y.tree)) where
    cells_two : (op : ℕ) → set m₂ u op ≡ sets code u (op ∷ (cells_of x.tree ++ cells_of y.tree))
    cells_two op =
        let xs = cells_of x.tree in
        let ys = cells_of y.tree in
        let one : u + 1 ≡ suc u = omega arith in
        ap (λ (r : List ℕ). set r u op) (h₂ ∙ ap (λ (r : List ℕ). sets r v ys) h₁ ∙ ap (λ (i : ℕ). sets (sets code (u + 1) xs) i ys) ev
        ∙ sets_append code (u + 1) xs ys)
        ∙ set_before code u (u + 1) op (xs ++ ys) (omega arith)
        ∙ ap (λ (i : ℕ). sets (set code u op) i (xs ++ ys)) one

    long_two : w ≡ u + suc (length (cells_of x.tree ++ cells_of y.tree))
    long_two = omega (arith, length-append (cells_of x.tree) (cells_of y.tree))

    pub wrote_two : (negative : Bool) (r : Progress) (m : List ℕ) (z : Read ℕ) → Joined m₂ u w l negative r m z
        → Written cells_of code u r m (and_then z (λ _ n. got (counts (both negative x.tree y.tree) y.left) n))
    unfolding Written Joined cells_of
    wrote_two true r m (got p n) h = (rw (← el, ← long_two) h.0, h.1 ∙ cells_two 1)
    wrote_two false r m (got p n) h = (rw (← el, ← long_two) h.0, h.1 ∙ cells_two 2)
    wrote_two negative r m (refused k p) h = h

-- ---- the answers of an expression

pub spent_by : (n u at a v l : ℕ) → at < a → a ≤ n → u ≤ v → v + at ≤ u + a + 1 → Spent 1 n u at (Done a v l)
unfolding Spent
spent_by n u at a v l i j k h = (i, j, k, h)

pub spent_at : (more n u at a v l : ℕ) (r : Progress) → r ≡ Done a v l → Spent more n u at r → (at < a) × (a ≤ n) × (u ≤ v) × (v + at ≤ u + a + more)
unfolding Spent
spent_at more n u at a v l r e h = rw e at h

pub spent_within : (r : Progress) (n u w at from : ℕ) → from ≤ at → u ≤ w → w + from ≤ u + at + 1 → Spent 0 n w at r → Spent 1 n u from r
unfolding Spent
spent_within (Done a v l) n u w at from i j k h = (omega (arith, h.0), h.1, omega (arith, h.2), omega (arith, h.3))
spent_within (Err why) n u w at from i j q h = tt
