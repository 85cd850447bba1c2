-- Expressions, conditions and effects depend on nothing after what they reach. Assumes nothing.
use mathlib.Core.Path.{◌≡◌, refl}
use mathlib.Core.List.{List, [], ◌∷◌, ◌++◌}
use mathlib.Core.Bool.{Bool, true, false}
use Prim.Native.Nat.{ℕ, zero, suc, ◌+◌, ◌-◌, ◌<◌}
use native.Mathlib.Omega.{arith}
use lib.ListN.{length}
use lib.Dec.{eqb}
use Rattle.text_words.specs.Fixed.{head_of}
use Rattle.text_words.specs.declared.fixed.HeadWord.{HeadWord}
use Rattle.text_words.specs.declared.fixed.HeadWord.TheVariants as H
use Rattle.text_tokens.specs.Runs.{part}
use Rattle.text_tokens.specs.Tokens.{token_at}
use Rattle.text_tokens.specs.declared.tokens.Word.{Word}
use Rattle.text_tokens.specs.declared.tokens.Word.TheVariants as W
use Rattle.text_tokens.specs.declared.tokens.Token.{Token}
use Rattle.text_tokens.specs.declared.tokens.Token.TheVariants as T
use Rattle.domain_meaning.specs.Read.{◌>>=◌, Reader, give, refuse}
use Rattle.domain_meaning.specs.Tables.{Table, declared}
use Rattle.domain_meaning.specs.Due.{token, wrong, on_word, after_of}
use Rattle.domain_meaning.specs.Terms.{Scope, Ref, Expr, minus, difference, value, reference, Counted, counts, counted, leaf, operands_end, plus_of, minus_of}
use Rattle.domain_meaning.specs.Terms.{on_name, operation, headed, in_bracket, expr, expression}
use Rattle.domain_meaning.specs.Conditions.{Comparison, equal, less as below, at_most, more, at_least, Cond, atom, none, cons, atom_at, comparison, same_objects}
use Rattle.domain_meaning.specs.Conditions.{equality, operated, negated_head, in_negation, negation, list_to, conjunction, condition_head, condition}
use Rattle.domain_meaning.specs.Effects.{Change, assign, raise, lower, Effect, becomes, becomes_at, target, change_at, deleted_word, in_deletion, deletion}
use Rattle.domain_meaning.specs.Effects.{effects_to, effect_head, effect_word, effect}
use Rattle.domain_refusal_laws.specs.Lowest.{next_of}
use Rattle.domain_refusal_laws.proofs.Local.{Edge, next, Over, Plain, gives, never, then, bounded, Behind, token_then, peek_then, after, refuses, wrongs}
use Rattle.domain_refusal_laws.proofs.Local.{choose, Held, stays, stops, gives_behind, held, worded, on_word_lem, on_number_lem, on_open_lem, on_close_lem}
use Rattle.domain_refusal_laws.proofs.Suffice.{Strict, opens_strict, Enough, enough, fewer, and_same, close_same, Known}
use Rattle.domain_refusal_laws.proofs.Heads.{declared_held, opening_local, closing_local, name_then}
use Rattle.domain_refusal_laws.proofs.Closed.{argument_then, reference_local}

counted_held : (p m n : ℕ) → Held p n (counted p m n)
unfolding counted
counted_held p zero n = stops 12 refl
counted_held p (suc m) n = stays m refl

-- a name with its arguments, of which one more may stand
referred : {A : Type 0} {E : Edge} {k : Word} {i : ℕ} (t : Table) (d : ℕ) (c : Scope) (n p e : ℕ) (j : Ref → ℕ → A)
    → Behind E (T.Word k p e) i (Over E (next E)) (λ v. ◌>>=◌ (declared t p (part v p e))
    (λ f. ◌>>=◌ (counted p n) (λ m. ◌>>=◌ (reference v d c t f) (λ r. give (j r m)))))
referred t d c n p e j =
    worded (λ v w. ◌>>=◌ (declared t p w) (λ f. ◌>>=◌ (counted p n) (λ m. ◌>>=◌ (reference v d c t f) (λ r. give (j r m)))))
    (λ w. held (declared t p w) (declared_held t p w) (λ f. held (counted p n) (counted_held p n) (λ m. after (then (reference_local d c t f) (λ r. gives)))))

-- ---- expressions

leaf_behind : {E : Edge} (d n : ℕ) (t : Token) → Behind E t (after_of t) (Over E (next E)) (λ v. leaf d n t)
leaf_behind d n = on_number_lem (λ z p e. held (counted p n) (counted_held p n) (λ m. gives_behind)) (λ t. wrongs d)

operands_local : {E : Edge} (d n : ℕ) → Plain E (λ v. operands_end v d n)
unfolding operands_end
operands_local d n = token_then (on_close_lem (λ p m. gives_behind) (on_number_lem (λ z p e. choose (eqb n 0) refuses refuses) (λ t. wrongs d)))

module _ {E : Edge} (d : ℕ) (c : Scope) {f : List ℕ → ℕ → Reader (Counted Expr)} (h : (n : ℕ) → Plain E (λ v. f v n)) where
  plus_local : (n : ℕ) → Plain E (λ v. plus_of v d (f v) n)
  plus_local n = then (h n) (λ a. then (h a.left) (λ b. then (operands_local d b.left) (λ i. gives)))

  minus_local : (n : ℕ) → Plain E (λ v. minus_of v d (f v) n)
  minus_local n =
      then (h n) (λ a. peek_then (λ m. on_close_lem
      (λ p k. after (then (closing_local d) (λ i. gives {a = counts (minus a.tree) a.left})))
      (λ t. after (then (h a.left) (λ b. then (operands_local d b.left) (λ i. gives {a = counts (difference a.tree b.tree) b.left}))))))

  operation_behind : {k : Word} (n : ℕ) (x : HeadWord) (p e : ℕ) → Behind E (T.Word k p e) e (Over E (next E)) (λ v. operation v d (f v) n x p)
  operation_behind n H.And p e = refuses
  operation_behind n H.Not p e = refuses
  operation_behind n H.Equal p e = refuses
  operation_behind n H.Less p e = refuses
  operation_behind n H.AtMost p e = refuses
  operation_behind n H.More p e = refuses
  operation_behind n H.AtLeast p e = refuses
  operation_behind n H.Plus p e = held (counted p n) (counted_held p n) (λ m. after (plus_local m))
  operation_behind n H.Minus p e = held (counted p n) (counted_held p n) (λ m. after (minus_local m))
  operation_behind n H.Assign p e = refuses
  operation_behind n H.Increase p e = refuses
  operation_behind n H.Decrease p e = refuses
  operation_behind n H.Other p e = refuses

  headed_behind : (n : ℕ) (k : Word) (p e : ℕ) → Behind E (T.Word k p e) e (Over E (next E)) (λ v. headed v d c (f v) n k p e)
  headed_behind n W.Name p e = referred c.functions d c n p e (λ r m. counts (value r) m)
  headed_behind n W.Variable p e = refuses
  headed_behind n W.Keyword p e = refuses
  headed_behind n W.Operator p e = worded (λ v w. operation v d (f v) n (head_of w) p) (λ w. operation_behind n (head_of w) p e)

  bracket_local : (n : ℕ) → Plain E (λ v. in_bracket v d c (f v) n)
  bracket_local n = token_then (on_word_lem (headed_behind n) (λ t. wrongs d))

expr_local : {E : Edge} (d : ℕ) (c : Scope) (n : ℕ) → Plain E (λ v. expr d v c n)
unfolding expr
expr_local zero c n = token_then (leaf_behind zero n)
expr_local (suc d) c n = token_then (on_open_lem (λ p m. after (bracket_local d c (λ m. expr_local d c m) n)) (leaf_behind (suc d) n))

pub expression_local : {E : Edge} (d : ℕ) (c : Scope) → Plain E (λ v. expression v d c)
unfolding expression
expression_local d c = then (expr_local d c 16) (λ x. gives)

-- ---- conditions

on_name_lem : {A : Type 0} {E : Edge} {F : ℕ → Type 0} {t : Token} {n : ℕ} {a b o : List ℕ → Reader A} (x : HeadWord)
    → Behind E t n F a → Behind E t n F b → Behind E t n F o → Behind E t n F (λ v. on_name x (a v) (b v) (o v))
on_name_lem H.And f g h = f
on_name_lem H.Not f g h = g
on_name_lem H.Equal f g h = h
on_name_lem H.Less f g h = h
on_name_lem H.AtMost f g h = h
on_name_lem H.More f g h = h
on_name_lem H.AtLeast f g h = h
on_name_lem H.Plus f g h = h
on_name_lem H.Minus f g h = h
on_name_lem H.Assign f g h = h
on_name_lem H.Increase f g h = h
on_name_lem H.Decrease f g h = h
on_name_lem H.Other f g h = h

module _ {E : Edge} (d : ℕ) (c : Scope) where
  atom_behind : {k : Word} {i : ℕ} (y : Bool) (n p e : ℕ) → Behind E (T.Word k p e) i (Over E (next E)) (λ v. atom_at v d c y n p e)
  unfolding atom_at
  atom_behind y n p e = referred c.predicates d c n p e (λ r m. counts (atom y r) m)

  comparison_local : (y : Bool) (op : Comparison) (m : ℕ) → Plain E (λ v. comparison v d c y op m)
  unfolding comparison
  comparison_local y op m = then (expression_local d c) (λ a. then (expression_local d c) (λ b. then (closing_local d) (λ i. gives)))

  objects_local : (y : Bool) (m : ℕ) → Plain E (λ v. same_objects v d c y m)
  unfolding same_objects
  objects_local y m = argument_then d c (λ a k e. after (argument_then d c (λ b k e. after (then (closing_local d) (λ i. gives)))))

  equality_local : (y : Bool) (m : ℕ) → Plain E (λ v. equality v d c y m)
  unfolding equality
  equality_local y m = peek_then (λ n. on_word_lem (λ k p e. after (objects_local y m)) (λ t. after (comparison_local y equal m)))

  operated_behind : {k : Word} {i : ℕ} (y : Bool) (n : ℕ) (x : HeadWord) (p e : ℕ) → Behind E (T.Word k p e) i (Over E (next E)) (λ v. operated v d c y n x p)
  operated_behind y n H.And p e = refuses
  operated_behind y n H.Not p e = refuses
  operated_behind y n H.Equal p e = held (counted p n) (counted_held p n) (λ m. after (equality_local y m))
  operated_behind y n H.Less p e = held (counted p n) (counted_held p n) (λ m. after (comparison_local y below m))
  operated_behind y n H.AtMost p e = held (counted p n) (counted_held p n) (λ m. after (comparison_local y at_most m))
  operated_behind y n H.More p e = held (counted p n) (counted_held p n) (λ m. after (comparison_local y more m))
  operated_behind y n H.AtLeast p e = held (counted p n) (counted_held p n) (λ m. after (comparison_local y at_least m))
  operated_behind y n H.Plus p e = refuses
  operated_behind y n H.Minus p e = refuses
  operated_behind y n H.Assign p e = refuses
  operated_behind y n H.Increase p e = refuses
  operated_behind y n H.Decrease p e = refuses
  operated_behind y n H.Other p e = refuses

  negated_behind : (n : ℕ) (k : Word) (p e : ℕ) → Behind E (T.Word k p e) e (Over E (next E)) (λ v. negated_head v d c n k p e)
  negated_behind n W.Name p e =
      worded (λ v w. on_name (head_of w) (refuse 11 p) (atom_at v d c false n p e) (atom_at v d c false n p e))
      (λ w. on_name_lem (head_of w) refuses (atom_behind false n p e) (atom_behind false n p e))
  negated_behind n W.Variable p e = refuses
  negated_behind n W.Keyword p e = refuses
  negated_behind n W.Operator p e = worded (λ v w. operated v d c false n (head_of w) p) (λ w. operated_behind false n (head_of w) p e)

  in_negation_local : (n : ℕ) → Plain E (λ v. in_negation v d c n)
  in_negation_local n = token_then (on_word_lem (negated_behind n) (λ t. wrongs d))

negation_local : {E : Edge} (d : ℕ) (c : Scope) (n : ℕ) → Plain E (λ v. negation v d c n)
unfolding negation
negation_local d c n = then (opening_local d) (λ i. then (in_negation_local (d - 1) c n) (λ x. then (closing_local d) (λ j. gives)))

list_local : {E : Edge} (k d : ℕ) {f : List ℕ → ℕ → Reader (Counted Cond)} → ((n : ℕ) → Plain E (λ v. f v n)) → (n : ℕ) → Plain E (λ v. list_to k v d (f v) n)
unfolding list_to
list_local zero d h n = never
list_local (suc k) d h n =
    peek_then (λ m. on_close_lem
    (λ p j. after (then (closing_local d) (λ i. gives {a = counts none n})))
    (λ t. after (then (h n) (λ x. then (list_local k d h x.left) (λ xs. gives {a = counts (cons x.tree xs.tree) xs.left})))))

list_suffices : (s : List ℕ) (d : ℕ) {f : List ℕ → ℕ → Reader (Counted Cond)} → ((n : ℕ) → Strict (λ v. f v n)) → (j k n at : ℕ) → Enough s j at → Enough s k at
    → list_to j s d (f s) n at ≡ list_to k s d (f s) n at
unfolding list_to
list_suffices s d g zero k n at ej ek = absurd (let y : ⊥ = omega arith in y)
list_suffices s d g (suc j) zero n at ej ek = absurd (let y : ⊥ = omega arith in y)
list_suffices s d {f} g (suc j) (suc k) n at ej ek =
    close_same (token_at s at) _ _ _ at (and_same (f s n at) (λ x m e.
    let b : (next_of s at < length s) × (next_of s at < next_of s m) = (g n).strict s at m x e in
    rw (list_suffices s d g j k x.left m (fewer ej b) (fewer ek b))))

module _ (d : ℕ) (c : Scope) {f : List ℕ → ℕ → Reader (Counted Cond)} (h : Known f) where
  conjunction_local : {E : Edge} (n : ℕ) → Plain E (λ v. conjunction v d (f v) n)
  unfolding conjunction
  conjunction_local {E} n =
      then (bounded (λ k v. list_to k v d (f v) n) (λ s at j k a b. list_suffices s d h.1 j k n at (enough s j at a) (enough s k at b))
      (λ k. list_local k d (h.0 E) n))
      (λ xs. gives)

  condition_behind : {E : Edge} (n : ℕ) (k : Word) (p e : ℕ) → Behind E (T.Word k p e) e (Over E (next E)) (λ v. condition_head v d c (f v) n k p e)
  condition_behind n W.Name p e =
      worded (λ v w. on_name (head_of w) (conjunction v d (f v) n) (negation v d c n) (atom_at v d c true n p e))
      (λ w. on_name_lem (head_of w) (after (conjunction_local n)) (after (negation_local d c n)) (atom_behind d c true n p e))
  condition_behind n W.Variable p e = refuses
  condition_behind n W.Keyword p e = refuses
  condition_behind n W.Operator p e = worded (λ v w. operated v d c true n (head_of w) p) (λ w. operated_behind d c true n (head_of w) p e)

  condition_rest : {E : Edge} (n : ℕ) → Plain E (λ v. ◌>>=◌ (token v) (λ t. on_word t (condition_head v d c (f v) n) (wrong d t)))
  condition_rest n = token_then (on_word_lem (condition_behind n) (λ t. wrongs d))

condition_known : (d : ℕ) (c : Scope) → Known (λ v n. condition d v c n)
unfolding condition
condition_known zero c = (λ E n. then (opening_local zero) (λ i. never), λ n. opens_strict zero (λ v i. refuse 0 0) (λ s q i. never))
condition_known (suc d) c = (
  λ E n. then (opening_local (suc d)) (λ i. condition_rest d c (condition_known d c) n),
  λ n. opens_strict (suc d) (λ v i. ◌>>=◌ (token v) (λ t. on_word t (condition_head v d c (λ m. condition d v c m) n) (wrong d t)))
      (λ s q i. condition_rest d c (condition_known d c) n),
)

pub condition_local : {E : Edge} (d : ℕ) (c : Scope) (n : ℕ) → Plain E (λ v. condition d v c n)
condition_local {E} d c n = (condition_known d c).0 E n

-- ---- effects

target_local : {E : Edge} (d : ℕ) (c : Scope) → Plain E (λ v. target v d c)
unfolding target
target_local d c =
    then (opening_local d) (λ i. name_then (d - 1) (λ n e. held (declared c.functions n.place n.word)
    (declared_held c.functions n.place n.word)
    (λ f. after (reference_local (d - 1) c c.functions f))))

module _ {E : Edge} (d : ℕ) (c : Scope) where
  becomes_behind : {k : Word} {i : ℕ} (y : Bool) (n p e : ℕ) → Behind E (T.Word k p e) i (Over E (next E)) (λ v. becomes_at v d c y n p e)
  unfolding becomes_at
  becomes_behind y n p e = referred c.predicates d c n p e (λ r m. counts (becomes y r ∷ []) m)

  change_behind : {k : Word} {i e : ℕ} (how : Change) (n p : ℕ) → Behind E (T.Word k p e) i (Over E (next E)) (λ v. change_at v d c how n p)
  unfolding change_at
  change_behind how n p =
      held (counted p n) (counted_held p n) (λ m. after (then (target_local d c) (λ r. then (expression_local d c) (λ x. then (closing_local d) (λ i. gives)))))

  deleted_behind : (n : ℕ) (k : Word) (p e : ℕ) → Behind E (T.Word k p e) e (Over E (next E)) (λ v. deleted_word v d c n k p e)
  deleted_behind n W.Name p e =
      worded (λ v w. on_name (head_of w) (refuse 11 p) (becomes_at v d c false n p e) (becomes_at v d c false n p e))
      (λ w. on_name_lem (head_of w) refuses (becomes_behind false n p e) (becomes_behind false n p e))
  deleted_behind n W.Variable p e = refuses
  deleted_behind n W.Keyword p e = refuses
  deleted_behind n W.Operator p e = refuses

  in_deletion_local : (n : ℕ) → Plain E (λ v. in_deletion v d c n)
  in_deletion_local n = token_then (on_word_lem (deleted_behind n) (λ t. wrongs d))

deletion_local : {E : Edge} (d : ℕ) (c : Scope) (n : ℕ) → Plain E (λ v. deletion v d c n)
unfolding deletion
deletion_local d c n = then (opening_local d) (λ i. then (in_deletion_local (d - 1) c n) (λ x. then (closing_local d) (λ j. gives)))

effects_local : {E : Edge} (k d : ℕ) {f : List ℕ → ℕ → Reader (Counted (List Effect))} → ((n : ℕ) → Plain E (λ v. f v n)) → (n : ℕ)
    → Plain E (λ v. effects_to k v d (f v) n)
unfolding effects_to
effects_local zero d h n = never
effects_local (suc k) d h n =
    peek_then (λ m. on_close_lem
    (λ p j. after (then (closing_local d) (λ i. gives {a = counts [] n})))
    (λ t. after (then (h n) (λ x. then (effects_local k d h x.left) (λ xs. gives {a = counts (x.tree ++ xs.tree) xs.left})))))

effects_suffice : (s : List ℕ) (d : ℕ) {f : List ℕ → ℕ → Reader (Counted (List Effect))} → ((n : ℕ) → Strict (λ v. f v n)) → (j k n at : ℕ)
    → Enough s j at → Enough s k at
    → effects_to j s d (f s) n at ≡ effects_to k s d (f s) n at
unfolding effects_to
effects_suffice s d g zero k n at ej ek = absurd (let y : ⊥ = omega arith in y)
effects_suffice s d g (suc j) zero n at ej ek = absurd (let y : ⊥ = omega arith in y)
effects_suffice s d {f} g (suc j) (suc k) n at ej ek =
    close_same (token_at s at) _ _ _ at (and_same (f s n at) (λ x m e.
    let b : (next_of s at < length s) × (next_of s at < next_of s m) = (g n).strict s at m x e in
    rw (effects_suffice s d g j k x.left m (fewer ej b) (fewer ek b))))

module _ (d : ℕ) (c : Scope) {f : List ℕ → ℕ → Reader (Counted (List Effect))} (h : Known f) where
  list_behind : {E : Edge} (n : ℕ) → Plain E (λ v. effects_to (length v + 1) v d (f v) n)
  list_behind {E} n =
      bounded (λ k v. effects_to k v d (f v) n) (λ s at j k a b. effects_suffice s d h.1 j k n at (enough s j at a) (enough s k at b))
      (λ k. effects_local k d (h.0 E) n)

  effect_head_lem : {E : Edge} {k : Word} (n : ℕ) (x : HeadWord) (p e : ℕ) → Behind E (T.Word k p e) e (Over E (next E)) (λ v. effect_head v d c (f v) n x p e)
  effect_head_lem n H.And p e = after (list_behind n)
  effect_head_lem n H.Not p e = after (deletion_local d c n)
  effect_head_lem n H.Equal p e = becomes_behind d c true n p e
  effect_head_lem n H.Less p e = becomes_behind d c true n p e
  effect_head_lem n H.AtMost p e = becomes_behind d c true n p e
  effect_head_lem n H.More p e = becomes_behind d c true n p e
  effect_head_lem n H.AtLeast p e = becomes_behind d c true n p e
  effect_head_lem n H.Plus p e = becomes_behind d c true n p e
  effect_head_lem n H.Minus p e = becomes_behind d c true n p e
  effect_head_lem n H.Assign p e = change_behind d c assign n p
  effect_head_lem n H.Increase p e = change_behind d c raise n p
  effect_head_lem n H.Decrease p e = change_behind d c lower n p
  effect_head_lem n H.Other p e = becomes_behind d c true n p e

  effect_behind : {E : Edge} (n : ℕ) (k : Word) (p e : ℕ) → Behind E (T.Word k p e) e (Over E (next E)) (λ v. effect_word v d c (f v) n k p e)
  effect_behind n W.Name p e = worded (λ v w. effect_head v d c (f v) n (head_of w) p e) (λ w. effect_head_lem n (head_of w) p e)
  effect_behind n W.Variable p e = refuses
  effect_behind n W.Keyword p e = refuses
  effect_behind n W.Operator p e = refuses

  effect_rest : {E : Edge} (n : ℕ) → Plain E (λ v. ◌>>=◌ (token v) (λ t. on_word t (effect_word v d c (f v) n) (wrong d t)))
  effect_rest n = token_then (on_word_lem (effect_behind n) (λ t. wrongs d))

effect_known : (d : ℕ) (c : Scope) → Known (λ v n. effect d v c n)
unfolding effect
effect_known zero c = (λ E n. then (opening_local zero) (λ i. never), λ n. opens_strict zero (λ v i. refuse 0 0) (λ s q i. never))
effect_known (suc d) c = (
  λ E n. then (opening_local (suc d)) (λ i. effect_rest d c (effect_known d c) n),
  λ n. opens_strict (suc d) (λ v i. ◌>>=◌ (token v) (λ t. on_word t (effect_word v d c (λ m. effect d v c m) n) (wrong d t)))
      (λ s q i. effect_rest d c (effect_known d c) n),
)

pub effect_local : {E : Edge} (d : ℕ) (c : Scope) (n : ℕ) → Plain E (λ v. effect d v c n)
effect_local {E} d c n = (effect_known d c).0 E n
