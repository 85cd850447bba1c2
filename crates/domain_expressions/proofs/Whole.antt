-- What is said of the parts of an expression, said of the whole: one law for each way through it. Assumes nothing.
use Rattle.std.specs.Prelude.{None, Option, Some, Ok, Err}
use mathlib.Core.Path.{◌≡◌, refl, sym, ap, ◌∙◌}
use mathlib.Core.List.{List}
use mathlib.Core.Bool.{Bool}
use Prim.Native.Nat.{ℕ, ◌+◌, ◌-◌, ◌≤◌, ◌<◌}
use lib.IntN.{ℤ}
use lib.ListN.{length, set}
use lib.Seq.{sets}
use lib.Signed.{mag}
use Rattle.text_tokens.specs.Tokens.{token_at}
use Rattle.domain_meaning.specs.Read.{Read, got, refused, and_then, give}
use Rattle.domain_meaning.specs.Terms.{Scope, Expr, number, Counted, counts, operands_end, function_at, expr, expression}
use Rattle.domain_due.specs.Answers.{Parsed, at, Ahead}
use Rattle.domain_due.specs.Answers as A
use Rattle.domain_due.proofs.Dues.{close_in}
use Rattle.domain_terms.specs.Cells.{Wrote}
use Rattle.domain_literals.specs.Literal.{number_cells}
use Rattle.domain_expressions.specs.Codes.{Progress, Done, Refused, cells_of, Written, Spent, Joined, lone_end, Over}
use Rattle.domain_expressions.specs.Begins.{Begun, operands, Begins, Placed}
use Rattle.domain_expressions.specs.declared.heads.ExpressionHead.TheVariants as B
use Rattle.domain_expressions.proofs.Ends.{written_refused}
use Rattle.domain_expressions.proofs.Operands.{written_got, written_not, lone_token, operands_refused, operands_lone, second_refused, operands_two}
use Rattle.domain_expressions.proofs.Operands.{wrote_lone, wrote_two}

-- ---- places

module _ (at most d : ℕ) (r : Begun) where
  pub number_place : (z : ℤ) (e m : ℕ) → r ≡ Ok (B.Number z e m) → Placed at most d r → (at < e) × (e ≤ most) × (length (number_cells z) + at ≤ e + 1)
      × (mag z < 1099511627776)
  unfolding Placed
  number_place z e m q h = rw q at h

  pub function_place : (p e : ℕ) → r ≡ Ok (B.Function p e) → Placed at most d r → (at + 2 ≤ e) × (e ≤ most) × (0 < d)
  unfolding Placed
  function_place p e q h = rw q at h

  pub operation_place : (negative : Bool) (e m : ℕ) → r ≡ Ok (B.Operation negative e m) → Placed at most d r → (at + 2 ≤ e) × (e ≤ most) × (0 < d)
  unfolding Placed
  operation_place negative e m q h = rw q at h

pub lone_in : (s : List ℕ) (a n : ℕ) (negative : Bool) (f : Option ℕ) → a ≤ length s → f ≡ lone_end negative (token_at s a) → f ≡ Some n → (a < n) × (n ≤ length s)
lone_in s a n negative f h e q = let c = lone_token negative (token_at s a) n (sym e ∙ q) in close_in s a h c.place n c.is

-- ---- the ways

module _ (s : List ℕ) (c : Scope) (d n : ℕ) (r : Begun) (x : Read (Counted Expr)) (h : Begins s c d n r x) where
  pub whole_number : (z : ℤ) (e m : ℕ) (code : List ℕ) (u v : ℕ) (code' : List ℕ) → r ≡ Ok (B.Number z e m) → v ≡ u + length (number_cells z)
      → code' ≡ sets code u (number_cells z)
      → Written cells_of code u (Done e v m) code' x
  unfolding Begins Written cells_of
  whole_number z e m code u v code' q i j = let k : x ≡ got (counts (number z) m) e = rw q at h in rw (k, i) (refl, j)

  pub whole_function : (p e : ℕ) (code : List ℕ) (u : ℕ) (a : Progress) (code' : List ℕ) → r ≡ Ok (B.Function p e)
      → Written cells_of code u a code' (function_at s (d - 1) c n p e e)
      → Written cells_of code u a code' x
  unfolding Begins
  whole_function p e code u a code' q w = let k : x ≡ function_at s (d - 1) c n p e e = rw q at h in rw k w

  pub whole_refused : (k p : ℕ) (code : List ℕ) (u : ℕ) (code' : List ℕ) → r ≡ Err (at k p) → Written cells_of code u (Refused k p) code' x
  unfolding Begins
  whole_refused k p code u code' q = let w : x ≡ refused k p = rw q at h in written_refused cells_of code u (Refused k p) code' x k p w refl

  module _ (negative : Bool) (e m : ℕ) (q : r ≡ Ok (B.Operation negative e m)) (code : List ℕ) (u : ℕ) (r₁ : Progress) (m₁ : List ℕ)
      (w₁ : Written cells_of code (u + 1) r₁ m₁ (expr (d - 1) s c m e)) where
    way : x ≡ operands negative s (d - 1) (expr (d - 1) s c) m e
    unfolding Begins
    way = rw q at h

    pub whole_first : (k p : ℕ) → r₁ ≡ Refused k p → Written cells_of code u (Refused k p) m₁ x
    whole_first k p i = written_refused cells_of code u _ m₁ x k p
        (way ∙ operands_refused s (d - 1) (expr (d - 1) s c) m e negative k p (written_not cells_of code (u + 1) r₁ m₁ _ k p w₁ i)) refl

    module _ (a v l : ℕ) (i : r₁ ≡ Done a v l) (f : Option ℕ) (j : f ≡ lone_end negative (token_at s a)) where
      pub whole_lone : (k : ℕ) (m₂ : List ℕ) → f ≡ Some k → m₂ ≡ set m₁ u 0 → Written cells_of code u (Done k v l) m₂ x
      whole_lone k m₂ o p =
          let g = written_got cells_of code (u + 1) r₁ m₁ _ a v l w₁ i in
          rw (way ∙ operands_lone s (d - 1) (expr (d - 1) s c) m e g.tree a g.is negative k (sym j ∙ o))
          (wrote_lone code u g.tree k v l m₁ m₂ g.free g.left g.stored p)

      module _ (o : f ≡ None) (r₂ : Progress) (m₂ : List ℕ) (w₂ : Written cells_of m₁ v r₂ m₂ (expr (d - 1) s c l a)) where
        pub whole_second : (k p : ℕ) → r₂ ≡ Refused k p → Written cells_of code u (Refused k p) m₂ x
        whole_second k p t =
            let g = written_got cells_of code (u + 1) r₁ m₁ _ a v l w₁ i in
            let z = written_not cells_of m₁ v r₂ m₂ _ k p w₂ t in
            written_refused cells_of code u _ m₂ x k p
            (way ∙ second_refused s (d - 1) (expr (d - 1) s c) m e g.tree a g.is negative k p (sym j ∙ o)
            (ap (λ (y : ℕ). expr (d - 1) s c y a) (sym g.left) ∙ z)) refl

        pub whole_two : (b w t : ℕ) (r₃ : Progress) (m₃ : List ℕ) → r₂ ≡ Done b w t → Joined m₂ u w t negative r₃ m₃ (operands_end s (d - 1) t b)
            → Written cells_of code u r₃ m₃ x
        whole_two b w t r₃ m₃ k z =
            let g = written_got cells_of code (u + 1) r₁ m₁ _ a v l w₁ i in
            let y = written_got cells_of m₁ v r₂ m₂ _ b w t w₂ k in
            rw (way ∙ operands_two s (d - 1) (expr (d - 1) s c) m e g.tree a g.is negative y.tree b (sym j ∙ o)
            (ap (λ (z : ℕ). expr (d - 1) s c z a) (sym g.left) ∙ y.is))
            (wrote_two code u g.tree y.tree v w t m₁ m₂ g.free y.free y.left g.stored y.stored negative r₃ m₃
            (operands_end s (d - 1) y.tree.left b)
            (joined_left m₂ u w t y.tree.left negative r₃ m₃ s b y.left z))
          where
            joined_left : (l₂ : List ℕ) (i₂ w₃ t₁ t₂ : ℕ) (neg : Bool) (p : Progress) (l₃ s₁ : List ℕ) (b₁ : ℕ) → t₁ ≡ t₂
                → Joined l₂ i₂ w₃ t₁ neg p l₃ (operands_end s₁ (d - 1) t₁ b₁) → Joined l₂ i₂ w₃ t₁ neg p l₃ (operands_end s₁ (d - 1) t₂ b₁)
            joined_left l₂ i₂ w₃ t₁ t₂ neg p l₃ s₁ b₁ q₁ h₁ = rw (sym q₁) h₁

-- ---- an expression of its own

abbrev alone : Progress → Parsed
alone (Done a v l) = A.Done a v
alone (Err why) = Err why

alone_wrote : (code : List ℕ) (u : ℕ) (r : Progress) (m : List ℕ) (x : Read (Counted Expr)) → Written cells_of code u r m x
    → Wrote cells_of code u (alone r) m (and_then x (λ y. give y.tree))
unfolding Written Wrote
alone_wrote code u r m (got y n) h = (ap alone h.0, h.1)
alone_wrote code u r m (refused k p) h = ap alone h

alone_spent : (r : Progress) (n u at : ℕ) → Spent 1 n u at r → Ahead n at (alone r) × Over u at (alone r)
unfolding Spent Ahead Over
alone_spent (Done a v l) n u at h = ((h.0, h.1), (h.2, h.3))
alone_spent (Err why) n u at h = (tt, tt)

module _ (code : List ℕ) (u : ℕ) (r : Progress) (m s : List ℕ) (d : ℕ) (c : Scope) (at : ℕ) (h : Written cells_of code u r m (expr d s c 16 at)) where
  pub own_done : (a v l : ℕ) → r ≡ Done a v l → Wrote cells_of code u (A.Done a v) m (expression s d c at)
  unfolding expression
  own_done a v l e = let w = alone_wrote code u r m (expr d s c 16 at) h in rw e at w

  pub own_refused : (k p : ℕ) → r ≡ Refused k p → Wrote cells_of code u (A.Refused k p) m (expression s d c at)
  unfolding expression
  own_refused k p e = let w = alone_wrote code u r m (expr d s c 16 at) h in rw e at w

module _ (n u at : ℕ) (r : Progress) (h : Spent 1 n u at r) where
  pub own_places : (a v l : ℕ) → r ≡ Done a v l → Ahead n at (A.Done a v) × Over u at (A.Done a v)
  own_places a v l e = let w = alone_spent r n u at h in rw e at w

pub over_refused : (u at k p : ℕ) → Over u at (A.Refused k p)
unfolding Over
over_refused u at k p = tt
