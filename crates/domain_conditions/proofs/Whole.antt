-- What is said of the parts of a condition, said of the whole. Assumes nothing.
use Rattle.std.specs.Prelude.{Ok, Err}
use mathlib.Core.Path.{◌≡◌, refl, sym, ap, ◌∙◌}
use mathlib.Core.List.{List}
use mathlib.Core.Bool.{Bool, true, false}
use Prim.Native.Nat.{ℕ, zero, suc, ◌+◌, ◌-◌}
use native.Mathlib.Omega.{arith}
use lib.ListN.{length, set}
use lib.Seq.{sets}
use Rattle.domain_meaning.proofs.Readings.{then_same, then_then}
use Rattle.text_tokens.specs.Tokens.{token_at}
use Rattle.text_tokens.specs.declared.tokens.Token.{Token}
use Rattle.text_tokens.specs.declared.tokens.Token.TheVariants as T
use Rattle.text_tokens.specs.declared.tokens.Word.TheVariants as W
use Rattle.domain_meaning.specs.Read.{Read, Reader, got, refused, and_then, give, refuse}
use Rattle.domain_meaning.specs.Due.{after_of, wrong, on_open, on_word, opening, closing}
use Rattle.domain_meaning.specs.Terms.{Scope, Counted, counts}
use Rattle.domain_meaning.specs.Conditions.{Cond, Conds, all, atom_at, negated_head, negation, list_to, conjunction, condition_head, condition}
use Rattle.domain_due.specs.Answers as A
use Rattle.domain_expressions.specs.Codes.{Progress, Done, Refused, Written}
use Rattle.domain_expressions.proofs.Ends.{written_refused}
use Rattle.domain_expressions.proofs.Operands.{written_got, written_not}
use Rattle.domain_stored_meaning.specs.Cells.{cond_cells, conds_cells}
use Rattle.domain_conditions.specs.Begins.{comparison_of, compared, headed_by, in_bracket, Begun, Begins}
use Rattle.domain_conditions.specs.Closed.{closed_by}
use Rattle.domain_conditions.specs.declared.heads.ConditionHead.TheVariants as H

-- ---- what is read, by the head

module _ (s : List ℕ) (d : ℕ) (c : Scope) (yes' : Bool) (n : ℕ) (f g : ℕ → ℕ → Reader (Counted Cond)) (r : Begun) (x : Read (Counted Cond))
    (h : Begins s d c yes' n f g r x) where
  pub by_and : (p e : ℕ) → r ≡ Ok (H.And p e) → x ≡ f p e e
  unfolding Begins
  by_and p e q = rw q at h

  pub by_not : (p e : ℕ) → r ≡ Ok (H.Not p e) → x ≡ g p e e
  unfolding Begins
  by_not p e q = rw q at h

  pub by_atom : (p e : ℕ) → r ≡ Ok (H.Atom p e) → x ≡ atom_at s d c yes' n p e e
  unfolding Begins
  by_atom p e q = rw q at h

  pub by_comparison : (k e m : ℕ) → r ≡ Ok (H.Compared k e m) → x ≡ compared s d c yes' (comparison_of k) m e
  unfolding Begins
  by_comparison k e m q = rw q at h

  pub by_refused : (k p : ℕ) → r ≡ Err (A.at k p) → x ≡ refused k p
  unfolding Begins
  by_refused k p q = rw q at h

-- ---- no bracket opens where no level is left

never_open : {B : Type 0} (t : Token) (f g : ℕ → Reader B) → and_then (on_open t (λ p. refuse 12 p) (wrong 0 t) (after_of t)) f ≡ and_then
    (on_open t (λ p. refuse 12 p) (wrong 0 t) (after_of t)) g
never_open (T.Word k p e) f g = refl
never_open (T.Number z p e) f g = refl
never_open (T.Open p n) f g = refl
never_open (T.Close p n) f g = refl
never_open (T.Mark m p n) f g = refl
never_open (T.Refusal k p) f g = refl
never_open (T.End p) f g = refl

module _ (s : List ℕ) (c : Scope) (n : ℕ) where
  head_condition : (d : ℕ) (f : ℕ → Reader (Counted Cond)) (t : Token) (a : ℕ)
      → on_word t (condition_head s d c f n) (wrong d t) a ≡ on_word t (headed_by s d c true n (λ p e. conjunction s d f n) (λ p e. negation s d c n)) (wrong d t) a
  head_condition d f (T.Word W.Name p e) a = refl
  head_condition d f (T.Word W.Variable p e) a = refl
  head_condition d f (T.Word W.Keyword p e) a = refl
  head_condition d f (T.Word W.Operator p e) a = refl
  head_condition d f (T.Number z p e) a = refl
  head_condition d f (T.Open p e) a = refl
  head_condition d f (T.Close p e) a = refl
  head_condition d f (T.Mark m p e) a = refl
  head_condition d f (T.Refusal k p) a = refl
  head_condition d f (T.End p) a = refl

  head_negation : (d : ℕ) (t : Token) (a : ℕ)
      → on_word t (negated_head s d c n) (wrong d t) a ≡ on_word t (headed_by s d c false n (λ p e. refuse 11 p) (λ p e. atom_at s d c false n p e)) (wrong d t) a
  head_negation d (T.Word W.Name p e) a = refl
  head_negation d (T.Word W.Variable p e) a = refl
  head_negation d (T.Word W.Keyword p e) a = refl
  head_negation d (T.Word W.Operator p e) a = refl
  head_negation d (T.Number z p e) a = refl
  head_negation d (T.Open p e) a = refl
  head_negation d (T.Close p e) a = refl
  head_negation d (T.Mark m p e) a = refl
  head_negation d (T.Refusal k p) a = refl
  head_negation d (T.End p) a = refl

  condition_bracket : (d at : ℕ) → condition d s c n at ≡ in_bracket s d c true n (λ p e. conjunction s (d - 1) (condition (d - 1) s c) n)
      (λ p e. negation s (d - 1) c n) at
  unfolding condition opening
  condition_bracket zero at = never_open (token_at s at) _ _
  condition_bracket (suc d) at =
      let o : suc d - 1 ≡ d = omega arith in
      rw o (then_same (opening s (suc d) at) _ _ (λ p b. head_condition d (condition d s c) (token_at s b) (after_of (token_at s b))))

  negation_bracket : (d at : ℕ) → negation s d c n at
      ≡ and_then (in_bracket s d c false n (λ p e. refuse 11 p) (λ p e. atom_at s (d - 1) c false n p e) at) (λ x b. and_then (closing s d b) (λ _ z. got x z))
  unfolding negation
  negation_bracket d at =
      then_same (opening s d at) _ _ (λ p b. ap (λ (y : Read (Counted Cond)). and_then y (λ x i. and_then (closing s d i) (λ _ z. got x z)))
      (head_negation (d - 1) (token_at s b) (after_of (token_at s b))))
      ∙ sym (then_then (opening s d at) _ _)

module _ (s : List ℕ) (d : ℕ) (c : Scope) (n at : ℕ) (r : Begun)
    (h : Begins s (d - 1) c true n (λ p e. conjunction s (d - 1) (condition (d - 1) s c) n) (λ p e. negation s (d - 1) c n) r
    (in_bracket s d c true n (λ p e. conjunction s (d - 1) (condition (d - 1) s c) n) (λ p e. negation s (d - 1) c n) at)) where
  pub condition_and : (p e : ℕ) → r ≡ Ok (H.And p e) → condition d s c n at ≡ conjunction s (d - 1) (condition (d - 1) s c) n e
  condition_and p e q = condition_bracket s c n d at ∙ by_and s (d - 1) c true n _ _ r _ h p e q

  pub condition_not : (p e : ℕ) → r ≡ Ok (H.Not p e) → condition d s c n at ≡ negation s (d - 1) c n e
  condition_not p e q = condition_bracket s c n d at ∙ by_not s (d - 1) c true n _ _ r _ h p e q

  pub condition_atom : (p e : ℕ) → r ≡ Ok (H.Atom p e) → condition d s c n at ≡ atom_at s (d - 1) c true n p e e
  condition_atom p e q = condition_bracket s c n d at ∙ by_atom s (d - 1) c true n _ _ r _ h p e q

  pub condition_comparison : (k e m : ℕ) → r ≡ Ok (H.Compared k e m) → condition d s c n at ≡ compared s (d - 1) c true (comparison_of k) m e
  condition_comparison k e m q = condition_bracket s c n d at ∙ by_comparison s (d - 1) c true n _ _ r _ h k e m q

  pub condition_refused : (k p : ℕ) → r ≡ Err (A.at k p) → condition d s c n at ≡ refused k p
  condition_refused k p q = condition_bracket s c n d at ∙ by_refused s (d - 1) c true n _ _ r _ h k p q

-- ---- after `not`

closed_written : (code : List ℕ) (u v l : ℕ) (m : List ℕ) (t : Counted Cond) (x : Read ℕ) → v ≡ u + length (cond_cells t.tree) → l ≡ t.left
    → m ≡ sets code u (cond_cells t.tree)
    → Written cond_cells code u (closed_by v l x) m (and_then x (λ _ z. got t z))
unfolding Written
closed_written code u v l m t (got p n) ev el h = (rw (ev, el), h)
closed_written code u v l m t (refused k p) ev el h = refl

module _ (s : List ℕ) (d : ℕ) (c : Scope) (n at : ℕ) (code : List ℕ) (u : ℕ) (r₁ : Progress) (m : List ℕ)
    (w : Written cond_cells code u r₁ m (in_bracket s d c false n (λ p e. refuse 11 p) (λ p e. atom_at s (d - 1) c false n p e) at)) where
  pub negation_refused : (k p : ℕ) → r₁ ≡ Refused k p → Written cond_cells code u (Refused k p) m (negation s d c n at)
  negation_refused k p e =
      written_refused cond_cells code u _ m _ k p
      (negation_bracket s c n d at ∙ ap (λ (y : Read (Counted Cond)). and_then y (λ x b. and_then (closing s d b) (λ _ z. got x z)))
      (written_not cond_cells code u r₁ m _ k p w e)) refl

  pub negation_done : (a v l : ℕ) (r : Progress) → r₁ ≡ Done a v l → r ≡ closed_by v l (closing s d a) → Written cond_cells code u r m (negation s d c n at)
  negation_done a v l r e q =
      let g = written_got cond_cells code u r₁ m _ a v l w e in
      rw (q, negation_bracket s c n d at ∙ ap (λ (y : Read (Counted Cond)). and_then y (λ x b. and_then (closing s d b) (λ _ z. got x z))) g.is)
      (closed_written code u v l m g.tree (closing s d a) g.free g.left g.stored)

-- ---- after `and`

all_written : (code : List ℕ) (u : ℕ) (r : Progress) (m : List ℕ) (x : Read (Counted Conds)) → Written conds_cells (set code u 1) (u + 1) r m x
    → Written cond_cells code u r m (and_then x (λ xs. give (counts (all xs.tree) xs.left)))
unfolding Written cond_cells conds_cells
all_written code u r m (got t n) h =
    let one : u + 1 ≡ suc u = omega arith in
    let long : u + suc (length (conds_cells t.tree)) ≡ u + 1 + length (conds_cells t.tree) = omega arith in
    (rw long h.0, rw one at h.1)
all_written code u r m (refused k p) h = h

pub conjunction_written : (s : List ℕ) (d : ℕ) (f : ℕ → Reader (Counted Cond)) (n at : ℕ) (code : List ℕ) (u : ℕ) (r : Progress) (m : List ℕ)
    → Written conds_cells (set code u 1) (u + 1) r m (list_to (length s + 1) s d f n at) → Written cond_cells code u r m (conjunction s d f n at)
unfolding conjunction
conjunction_written s d f n at code u r m h = all_written code u r m (list_to (length s + 1) s d f n at) h
