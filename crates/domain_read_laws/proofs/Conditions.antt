-- Conditions that are read name what is declared, their size is at most as many as bytes were read, and their width at most 113 for each single one that
-- was counted. Assumes nothing.
use mathlib.Core.List.{List}
use mathlib.Core.Bool.{Bool, true, false}
use Prim.Native.Nat.{ℕ, zero, suc, ◌+◌, ◌*◌, ◌-◌, ◌≤◌}
use native.Mathlib.Omega.{arith}
use lib.ListN.{length}
use Rattle.text_words.specs.Fixed.{head_of}
use Rattle.text_words.specs.declared.fixed.HeadWord.{HeadWord}
use Rattle.text_words.specs.declared.fixed.HeadWord.TheVariants as H
use Rattle.text_tokens.specs.Runs.{part}
use Rattle.text_tokens.specs.Tokens.{token_at}
use Rattle.text_tokens.specs.declared.tokens.Word.{Word}
use Rattle.text_tokens.specs.declared.tokens.Word.TheVariants as W
use Rattle.domain_meaning.specs.Read.{Reader}
use Rattle.domain_meaning.specs.Terms.{Scope, Counted}
use Rattle.domain_meaning.specs.Conditions.{Comparison, equal, less, at_most, more, at_least, Cond, Conds, atom_at}
use Rattle.domain_meaning.specs.Conditions.{comparison, same_objects, equality, operated, negated_head, in_negation, negation, list_to, conjunction, condition_head}
use Rattle.domain_meaning.specs.Conditions.{condition}
use Rattle.domain_meaning.proofs.Given.{Fits, fits, stops, fits_also, given_then, given_also, word_gives, word_ahead, close_ahead, name_gives}
use Rattle.domain_meaning.proofs.Steps.{opening_fits, closing_fits}
use Rattle.domain_read_laws.proofs.Sizes.{cond_size, conds_size}
use Rattle.domain_read_laws.proofs.Widths.{cond_width, conds_width}
use Rattle.domain_read_laws.proofs.Named.{NamedCond, NamedConds, cond_deeper}
use Rattle.domain_read_laws.proofs.Terms.{declared_fits, argument_fits, reference_fits, counted_then, expression_fits}

-- of n single conditions some are left
pub record CountedCond (c : Scope) (d n : ℕ) (x : Counted Cond) : Type 0 where
  pub named : NamedCond c d x.tree
  pub narrow : cond_width x.tree + 113 * x.left ≤ 113 * n

abbrev size_of : Counted Cond → ℕ
size_of x = cond_size x.tree

-- ---- single conditions, which take one level, after the bracket and the head word, of which two bytes are read already

module _ (s : List ℕ) (c : Scope) (e : ℕ) where
  atom_fits : (d : ℕ) (yes' : Bool) (n p i at : ℕ) → Fits (CountedCond c (suc e) n) size_of at 2 (atom_at s d c yes' n p i at)
  unfolding atom_at cond_size cond_width NamedCond
  atom_fits d yes' n p i at =
      given_then _ (declared_fits c.predicates p (part s p i) at)
      (λ j a h. counted_then p n a _
      (λ m l. given_then _ (reference_fits s c d c.predicates j a h.good)
      (λ r k v. fits (record { named = v.good; narrow = omega arith }) (omega arith) (omega arith))))

  same_fits : (d : ℕ) (yes' : Bool) (m at : ℕ) → Fits (CountedCond c (suc e) (suc m)) size_of at 2 (same_objects s d c yes' m at)
  unfolding same_objects cond_size cond_width NamedCond
  same_fits d yes' m at =
      given_then _ (argument_fits s c d at)
      (λ a i h. given_then _ (argument_fits s c d i)
      (λ b j l. given_then _ (closing_fits s d j) (λ q n v. fits (record { named = (h.good, l.good); narrow = omega arith }) (omega arith) (omega arith))))

  module _ (d : ℕ) (deep : d ≤ 15) where
    comparison_fits : (yes' : Bool) (op : Comparison) (m at : ℕ) → Fits (CountedCond c (suc e) (suc m)) size_of at 2 (comparison s d c yes' op m at)
    unfolding comparison cond_size cond_width NamedCond
    comparison_fits yes' op m at =
        given_then _ (expression_fits s c d at deep)
        (λ a i h. given_then _ (expression_fits s c d i deep)
        (λ b j l. given_then _ (closing_fits s d j)
        (λ q n v. fits (record { named = (h.good.named, l.good.named); narrow = omega arith }) (omega arith) (omega arith))))

    equality_fits : (yes' : Bool) (m at : ℕ) → Fits (CountedCond c (suc e) (suc m)) size_of at 2 (equality s d c yes' m at)
    unfolding equality
    equality_fits yes' m at = word_ahead (token_at s at) _ _ at (λ k p i. same_fits d yes' m at) (comparison_fits yes' equal m at)

    operated_fits : (yes' : Bool) (n : ℕ) (w : HeadWord) (p at : ℕ) → Fits (CountedCond c (suc e) n) size_of at 2 (operated s d c yes' n w p at)
    operated_fits yes' n H.Equal p at = counted_then p n at _ (λ m l. rw l (equality_fits yes' m at))
    operated_fits yes' n H.Less p at = counted_then p n at _ (λ m l. rw l (comparison_fits yes' less m at))
    operated_fits yes' n H.AtMost p at = counted_then p n at _ (λ m l. rw l (comparison_fits yes' at_most m at))
    operated_fits yes' n H.More p at = counted_then p n at _ (λ m l. rw l (comparison_fits yes' more m at))
    operated_fits yes' n H.AtLeast p at = counted_then p n at _ (λ m l. rw l (comparison_fits yes' at_least m at))
    operated_fits yes' n H.And p at = stops
    operated_fits yes' n H.Not p at = stops
    operated_fits yes' n H.Plus p at = stops
    operated_fits yes' n H.Minus p at = stops
    operated_fits yes' n H.Assign p at = stops
    operated_fits yes' n H.Increase p at = stops
    operated_fits yes' n H.Decrease p at = stops
    operated_fits yes' n H.Other p at = stops

    negated_fits : (n : ℕ) (k : Word) (p i at : ℕ) → Fits (CountedCond c (suc e) n) size_of at 2 (negated_head s d c n k p i at)
    negated_fits n W.Name p i at = name_gives (head_of (part s p i)) _ _ _ at stops (atom_fits d false n p i at) (atom_fits d false n p i at)
    negated_fits n W.Variable p i at = stops
    negated_fits n W.Keyword p i at = stops
    negated_fits n W.Operator p i at = operated_fits false n (head_of (part s p i)) p at

    in_negation_fits : (n at : ℕ) → Fits (CountedCond c (suc e) n) size_of at 1 (in_negation s d c n at)
    in_negation_fits n at = word_gives s at _ _ (λ k p i t h l y. fits_also (negated_fits n k p i i) (omega arith) (λ a m u. omega arith)) stops

  negation_fits : (d n at : ℕ) → d ≤ 15 → Fits (CountedCond c (suc e) n) size_of at 2 (negation s d c n at)
  unfolding negation
  negation_fits d n at deep =
      given_then _ (opening_fits s d at)
      (λ p i h. given_then _ (in_negation_fits (d - 1) (omega arith) n i)
      (λ x j l. given_then _ (closing_fits s d j) (λ q m v. fits l.good (omega arith) (omega arith))))

-- ---- lists, of which f reads a part of e levels

module _ (s : List ℕ) (c : Scope) (d e : ℕ) (f : ℕ → Reader (Counted Cond)) (r : (n at : ℕ) → Fits (CountedCond c e n) size_of at 0 (f n at)) where
  record CountedList (n : ℕ) (xs : Counted Conds) : Type 0 where
    named : NamedConds c e xs.tree
    narrow : conds_width xs.tree + 113 * xs.left ≤ 113 * n

  list_fits : (k n at : ℕ) → Fits (CountedList n) (λ xs. conds_size xs.tree) at 0 (list_to k s d f n at)
  unfolding list_to conds_size conds_width NamedConds
  list_fits zero n at = stops
  list_fits (suc k) n at =
      close_ahead (token_at s at) _ _ at
      (λ p. given_then _ (closing_fits s d at) (λ q m h. fits (record { named = tt; narrow = omega arith }) (omega arith) (omega arith)))
      (given_then _ (r n at)
      (λ x i h. given_then _ (list_fits k x.left i)
      (λ xs j u. fits (record { named = (h.good.named, u.good.named); narrow = omega arith }) (omega arith) (omega arith))))

  conjunction_fits : (n at : ℕ) → Fits (CountedCond c (suc e) n) size_of at 2 (conjunction s d f n at)
  unfolding conjunction cond_size cond_width NamedCond
  conjunction_fits n at =
      given_then _ (list_fits (length s + 1) n at)
      (λ xs m h. fits (record { named = h.good.named; narrow = h.good.narrow }) (omega arith) (omega arith))

-- a condition, where d levels of brackets are left
module _ (s : List ℕ) (c : Scope) where
  head_fits : (d : ℕ) (f : ℕ → Reader (Counted Cond)) → d ≤ 15 → ((n at : ℕ) → Fits (CountedCond c d n) size_of at 0 (f n at))
      → (n : ℕ) (k : Word) (p i at : ℕ) → Fits (CountedCond c (suc d) n) size_of at 2 (condition_head s d c f n k p i at)
  head_fits d f h r n W.Name p i at =
      name_gives (head_of (part s p i)) _ _ _ at (conjunction_fits s c d d f r n at) (negation_fits s c d d n at h) (atom_fits s c d d true n p i at)
  head_fits d f h r n W.Variable p i at = stops
  head_fits d f h r n W.Keyword p i at = stops
  head_fits d f h r n W.Operator p i at = operated_fits s c d d h true n (head_of (part s p i)) p at

  levels_fit : (d n at : ℕ) → d ≤ 16 → Fits (CountedCond c d n) size_of at 0 (condition d s c n at)
  unfolding condition
  levels_fit zero n at h = given_then _ (opening_fits s zero at) (λ p i k. stops)
  levels_fit (suc d) n at h =
      given_then _ (opening_fits s (suc d) at)
      (λ p i l. word_gives s i _ _
      (λ k q e t u v y. fits_also (head_fits d (condition d s c) (omega arith) (λ m j. levels_fit d m j (omega arith)) n k q e e) (omega arith)
      (λ a m o. omega arith)) stops)

  pub condition_fits : (d n at : ℕ) → d ≤ 16 → Fits (CountedCond c 16 n) size_of at 0 (condition d s c n at)
  condition_fits d n at h =
      given_also (levels_fit d n at h)
      (λ x m k. record {
        good = record { named = cond_deeper c x.tree d 16 h k.good.named; narrow = k.good.narrow };
        on = k.on;
        size = k.size;
      })
