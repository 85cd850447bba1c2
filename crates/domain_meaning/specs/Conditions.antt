-- Conditions as trees, and reading them. "An `and` holds conditions, and a condition may be an `and`; an empty one holds." RULES 4.
use Rattle.std.specs.Prelude.{ℕ, zero, suc, ◌+◌, ◌-◌, List, Bool, true, false, length}
use Rattle.text_words.specs.Fixed.{head_of}
use Rattle.text_words.specs.declared.fixed.HeadWord.{HeadWord}
use Rattle.text_words.specs.declared.fixed.HeadWord.TheVariants as H
use Rattle.text_tokens.specs.Runs.{part}
use Rattle.text_tokens.specs.declared.tokens.Word.{Word}
use Rattle.text_tokens.specs.declared.tokens.Word.TheVariants as W
use Rattle.domain_meaning.specs.Read.{◌>>=◌, Reader, give, refuse}
use Rattle.domain_meaning.specs.Tables.{declared}
use Rattle.domain_meaning.specs.Due.{token, peek, wrong, opening, closing, on_close, on_word}
use Rattle.domain_meaning.specs.Terms.{Scope, Arg, Ref, Expr, argument, reference, Counted, counts, counted, on_name, expression}

-- "comparisons `= < <= > >=`"
pub data Comparison : Type 0 where
  equal : Comparison
  less : Comparison
  at_most : Comparison
  more : Comparison
  at_least : Comparison

-- a single condition is as it is written (true), or under `not`
mutual
  pub data Cond : Type 0 where
    all : Conds → Cond
    atom : Bool → Ref → Cond
    same : Bool → Arg → Arg → Cond
    compare : Bool → Comparison → Expr → Expr → Cond

  pub data Conds : Type 0 where
    none : Conds
    cons : Cond → Conds → Conds

-- ---- single conditions, of which n are left; "the first token after `=` decides": a name or variable begins an equality of objects

unfoldable pub atom_at : List ℕ → ℕ → Scope → Bool → ℕ → ℕ → ℕ → Reader (Counted Cond)
atom_at s d c yes' n p e = do
  i ← declared c.predicates p (part s p e)
  m ← counted p n
  r ← reference s d c c.predicates i
  give (counts (atom yes' r) m)

unfoldable pub comparison : List ℕ → ℕ → Scope → Bool → Comparison → ℕ → Reader (Counted Cond)
comparison s d c yes' op m = do
  a ← expression s d c
  b ← expression s d c
  _ ← closing s d
  give (counts (compare yes' op a b) m)

-- "Equality of objects tests no types."
unfoldable pub same_objects : List ℕ → ℕ → Scope → Bool → ℕ → Reader (Counted Cond)
same_objects s d c yes' m = do
  a ← argument s d c
  b ← argument s d c
  _ ← closing s d
  give (counts (same yes' a.arg b.arg) m)

unfoldable pub equality : List ℕ → ℕ → Scope → Bool → ℕ → Reader (Counted Cond)
equality s d c yes' m = do
  t ← peek s
  on_word t (λ k p e. same_objects s d c yes' m) (comparison s d c yes' equal m)

-- a condition that begins with an operator at p
abbrev pub operated : List ℕ → ℕ → Scope → Bool → ℕ → HeadWord → ℕ → Reader (Counted Cond)
operated s d c yes' n H.Equal p = do
  m ← counted p n
  equality s d c yes' m
operated s d c yes' n H.Less p = do
  m ← counted p n
  comparison s d c yes' less m
operated s d c yes' n H.AtMost p = do
  m ← counted p n
  comparison s d c yes' at_most m
operated s d c yes' n H.More p = do
  m ← counted p n
  comparison s d c yes' more m
operated s d c yes' n H.AtLeast p = do
  m ← counted p n
  comparison s d c yes' at_least m
operated s d c yes' n H.And p = refuse 3 p
operated s d c yes' n H.Not p = refuse 3 p
operated s d c yes' n H.Plus p = refuse 3 p
operated s d c yes' n H.Minus p = refuse 3 p
operated s d c yes' n H.Assign p = refuse 3 p
operated s d c yes' n H.Increase p = refuse 3 p
operated s d c yes' n H.Decrease p = refuse 3 p
operated s d c yes' n H.Other p = refuse 3 p

-- ---- under `not`

-- "`not` around one atom or comparison"; "`not` around `and`" is 11. `not` is no predicate's name: 8
abbrev pub negated_head : List ℕ → ℕ → Scope → ℕ → Word → ℕ → ℕ → Reader (Counted Cond)
negated_head s d c n W.Name p e = on_name (head_of (part s p e)) (refuse 11 p) (atom_at s d c false n p e) (atom_at s d c false n p e)
negated_head s d c n W.Variable p e = refuse 3 p
negated_head s d c n W.Keyword p e = refuse 3 p
negated_head s d c n W.Operator p e = operated s d c false n (head_of (part s p e)) p

abbrev pub in_negation : List ℕ → ℕ → Scope → ℕ → Reader (Counted Cond)
in_negation s d c n = do
  h ← token s
  on_word h (negated_head s d c n) (wrong d h)

-- after `not`, where d levels are left, to its closing bracket
unfoldable pub negation : List ℕ → ℕ → Scope → ℕ → Reader (Counted Cond)
negation s d c n = do
  _ ← opening s d
  x ← in_negation s (d - 1) c n
  _ ← closing s d
  give x

-- ---- lists: f reads one condition. The first number bounds the steps
unfoldable pub list_to : ℕ → List ℕ → ℕ → (ℕ → Reader (Counted Cond)) → ℕ → Reader (Counted Conds)
list_to zero s d f n = refuse 0 0
list_to (suc k) s d f n = do
  t ← peek s
  on_close t
      (λ p. do
        _ ← closing s d
        give (counts none n))
      (do
        x ← f n
        xs ← list_to k s d f x.left
        give (counts (cons x.tree xs.tree) xs.left))

unfoldable pub conjunction : List ℕ → ℕ → (ℕ → Reader (Counted Cond)) → ℕ → Reader (Counted Cond)
conjunction s d f n = do
  xs ← list_to (length s + 1) s d f n
  give (counts (all xs.tree) xs.left)

abbrev pub condition_head : List ℕ → ℕ → Scope → (ℕ → Reader (Counted Cond)) → ℕ → Word → ℕ → ℕ → Reader (Counted Cond)
condition_head s d c f n W.Name p e = on_name (head_of (part s p e)) (conjunction s d f n) (negation s d c n) (atom_at s d c true n p e)
condition_head s d c f n W.Variable p e = refuse 3 p
condition_head s d c f n W.Keyword p e = refuse 3 p
condition_head s d c f n W.Operator p e = operated s d c true n (head_of (part s p e)) p

-- a condition, where d levels of brackets are left, and n single conditions
unfoldable pub condition : ℕ → List ℕ → Scope → ℕ → Reader (Counted Cond)
condition zero s c n = do
  _ ← opening s zero
  refuse 0 0
condition (suc d) s c n = do
  _ ← opening s (suc d)
  h ← token s
  on_word h (condition_head s d c (condition d s c) n) (wrong d h)
