-- Effects as trees, and reading them: "effects `assign`, `increase`, `decrease`, atoms and their negations"; "Effects nest under `and`." RULES 4.
use Rattle.std.specs.Prelude.{ℕ, zero, suc, ◌+◌, ◌-◌, List, [], ◌∷◌, ◌++◌, Bool, true, false, length}
use Rattle.text_words.specs.Fixed.{head_of}
use Rattle.text_words.specs.declared.fixed.HeadWord.{HeadWord}
use Rattle.text_words.specs.declared.fixed.HeadWord.TheVariants as H
use Rattle.text_tokens.specs.Runs.{part}
use Rattle.text_tokens.specs.declared.tokens.Word.{Word}
use Rattle.text_tokens.specs.declared.tokens.Word.TheVariants as W
use Rattle.domain_meaning.specs.Read.{◌>>=◌, Reader, give, refuse}
use Rattle.domain_meaning.specs.Tables.{declared}
use Rattle.domain_meaning.specs.Due.{token, peek, wrong, opening, closing, on_close, on_word, Name, any_name}
use Rattle.domain_meaning.specs.Terms.{Scope, Ref, Expr, reference, Counted, counts, counted, on_name, expression}

-- what happens to a number
pub data Change : Type 0 where
  assign : Change
  raise : Change
  lower : Change

-- a fact is made true or false, a number is changed by the value of an expression
pub data Effect : Type 0 where
  becomes : Bool → Ref → Effect
  changes : Change → Ref → Expr → Effect

-- ---- single effects, of which n are left

unfoldable pub becomes_at : List ℕ → ℕ → Scope → Bool → ℕ → ℕ → ℕ → Reader (Counted (List Effect))
becomes_at s d c yes' n p e = do
  i ← declared c.predicates p (part s p e)
  m ← counted p n
  r ← reference s d c c.predicates i
  give (counts (becomes yes' r ∷ []) m)

-- the number to be changed: "Functions are always bracketed."
unfoldable pub target : List ℕ → ℕ → Scope → Reader Ref
target s d c = do
  _ ← opening s d
  n ← any_name s (d - 1)
  i ← declared c.functions n.place n.word
  reference s (d - 1) c c.functions i

unfoldable pub change_at : List ℕ → ℕ → Scope → Change → ℕ → ℕ → Reader (Counted (List Effect))
change_at s d c how n p = do
  m ← counted p n
  r ← target s d c
  x ← expression s d c
  _ ← closing s d
  give (counts (changes how r x ∷ []) m)

-- after `not`: an atom. "`not` around `and`", in effects too, is 11
abbrev pub deleted_word : List ℕ → ℕ → Scope → ℕ → Word → ℕ → ℕ → Reader (Counted (List Effect))
deleted_word s d c n W.Name p e = on_name (head_of (part s p e)) (refuse 11 p) (becomes_at s d c false n p e) (becomes_at s d c false n p e)
deleted_word s d c n W.Variable p e = refuse 3 p
deleted_word s d c n W.Keyword p e = refuse 3 p
deleted_word s d c n W.Operator p e = refuse 3 p

abbrev pub in_deletion : List ℕ → ℕ → Scope → ℕ → Reader (Counted (List Effect))
in_deletion s d c n = do
  h ← token s
  on_word h (deleted_word s d c n) (wrong d h)

unfoldable pub deletion : List ℕ → ℕ → Scope → ℕ → Reader (Counted (List Effect))
deletion s d c n = do
  _ ← opening s d
  x ← in_deletion s (d - 1) c n
  _ ← closing s d
  give x

-- ---- lists of effects, one after the other: f reads one. The first number bounds the steps
unfoldable pub effects_to : ℕ → List ℕ → ℕ → (ℕ → Reader (Counted (List Effect))) → ℕ → Reader (Counted (List Effect))
effects_to zero s d f n = refuse 0 0
effects_to (suc k) s d f n = do
  t ← peek s
  on_close t
      (λ p. do
        _ ← closing s d
        give (counts [] n))
      (do
        x ← f n
        xs ← effects_to k s d f x.left
        give (counts (x.tree ++ xs.tree) xs.left))

abbrev pub effect_head : List ℕ → ℕ → Scope → (ℕ → Reader (Counted (List Effect))) → ℕ → HeadWord → ℕ → ℕ → Reader (Counted (List Effect))
effect_head s d c f n H.And p e = effects_to (length s + 1) s d f n
effect_head s d c f n H.Not p e = deletion s d c n
effect_head s d c f n H.Assign p e = change_at s d c assign n p
effect_head s d c f n H.Increase p e = change_at s d c raise n p
effect_head s d c f n H.Decrease p e = change_at s d c lower n p
effect_head s d c f n H.Equal p e = becomes_at s d c true n p e
effect_head s d c f n H.Less p e = becomes_at s d c true n p e
effect_head s d c f n H.AtMost p e = becomes_at s d c true n p e
effect_head s d c f n H.More p e = becomes_at s d c true n p e
effect_head s d c f n H.AtLeast p e = becomes_at s d c true n p e
effect_head s d c f n H.Plus p e = becomes_at s d c true n p e
effect_head s d c f n H.Minus p e = becomes_at s d c true n p e
effect_head s d c f n H.Other p e = becomes_at s d c true n p e

abbrev pub effect_word : List ℕ → ℕ → Scope → (ℕ → Reader (Counted (List Effect))) → ℕ → Word → ℕ → ℕ → Reader (Counted (List Effect))
effect_word s d c f n W.Name p e = effect_head s d c f n (head_of (part s p e)) p e
effect_word s d c f n W.Variable p e = refuse 3 p
effect_word s d c f n W.Keyword p e = refuse 3 p
effect_word s d c f n W.Operator p e = refuse 3 p

-- an effect, where d levels of brackets are left, and n single effects
unfoldable pub effect : ℕ → List ℕ → Scope → ℕ → Reader (Counted (List Effect))
effect zero s c n = do
  _ ← opening s zero
  refuse 0 0
effect (suc d) s c n = do
  _ ← opening s (suc d)
  h ← token s
  on_word h (effect_word s d c (effect d s c) n) (wrong d h)
