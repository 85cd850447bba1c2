-- Arguments, expressions, conditions and effects are read soundly. Assumes nothing.
use mathlib.Core.Path.{refl}
use mathlib.Core.List.{List, [], ◌∷◌}
use mathlib.Core.Bool.{Bool, true, false}
use Prim.Native.Nat.{ℕ, zero, suc, ◌+◌, ◌-◌, ◌<◌}
use native.Mathlib.Omega.{arith}
use lib.Dec.{eqb}
use lib.ListN.{length}
use Rattle.text_words.specs.Fixed.{head_of}
use Rattle.text_words.specs.declared.fixed.HeadWord.{HeadWord}
use Rattle.text_words.specs.declared.fixed.HeadWord.TheVariants as H
use Rattle.text_tokens.specs.Runs.{part}
use Rattle.text_tokens.specs.declared.tokens.Word.{Word}
use Rattle.text_tokens.specs.declared.tokens.Word.TheVariants as W
use Rattle.domain_meaning.specs.Read.{◌>>=◌, Reader, give}
use Rattle.domain_meaning.specs.Tables.{Table, entry_at, wanted_of, declared, is_below}
use Rattle.domain_meaning.specs.Terms.{Scope, Given, Ref, Expr, given_by, argument, fits, arguments, reference, Counted, counted, leaf, operands_end, plus_of}
use Rattle.domain_meaning.specs.Terms.{minus_of, on_name, operation, headed, in_bracket, expr, expression}
use Rattle.domain_meaning.specs.Conditions.{Comparison, equal, less, at_most, more, at_least, Cond, atom_at, comparison, same_objects, equality, operated}
use Rattle.domain_meaning.specs.Conditions.{negated_head, in_negation, negation, list_to, conjunction, condition_head, condition}
use Rattle.domain_meaning.specs.Effects.{Change, assign, raise, lower, Effect, becomes_at, target, change_at, deleted_word, in_deletion, deletion, effects_to}
use Rattle.domain_meaning.specs.Effects.{effect_head, effect_word, effect}
use Rattle.domain_refusal_laws.proofs.Sound.{Stands, Sound, Any, gives, refuses, spent, then, fewer, choose, After, token_then, wrongs, on_word_lem}
use Rattle.domain_refusal_laws.proofs.Sound.{on_number_lem, on_open_lem, on_close_lem, peek_close, peek_word}
use Rattle.domain_refusal_laws.proofs.SoundRows.{declared_sound, opening_sound, shut_sound, closing_sound, name_sound}

-- an argument has its place
abbrev Placed : List ℕ → Given → Type 0
Placed s g = Stands s g.place

-- a reader with a number of its own that takes a byte wherever it begins
abbrev Takes : {A : Type 0} → List ℕ → ℕ → (ℕ → Reader A) → Type 0
Takes s x f = (from n : ℕ) → Sound s x from 1 Any (f n)

module _ {s : List ℕ} {x : ℕ} where
  -- ---- arguments

  given_sound : {from : ℕ} (c : Scope) (k : Word) (p e : ℕ) → Stands s p → Sound s x from 0 (Placed s) (given_by s c k p e)
  given_sound c W.Name p e h = then (declared_sound c.objects (part s p e) h) (λ i _. gives h)
  given_sound c W.Variable p e h = choose c.in_action (then (declared_sound c.variables (part s (p + 1) e) h) (λ i _. gives h)) (refuses refl h)
  given_sound c W.Keyword p e h = refuses refl h
  given_sound c W.Operator p e h = refuses refl h

  argument_sound : {from : ℕ} (d : ℕ) (c : Scope) → Sound s x from 1 (Placed s) (argument s d c)
  unfolding argument
  argument_sound d c = token_then (on_word_lem (λ k p e h. given_sound c k p e h) (wrongs d))

  fits_sound : {from : ℕ} (c : Scope) (want : ℕ) (g : Given) → Placed s g → Sound s x from 0 Any (fits c want g)
  unfolding fits
  fits_sound c want g h = choose (is_below (length c.types) c.types g.type want) (gives tt) (refuses refl h)

  arguments_sound : {from : ℕ} (d : ℕ) (c : Scope) (wants : List ℕ) → Sound s x from 1 Any (arguments s d c wants)
  unfolding arguments
  arguments_sound d c [] =
      peek_close (λ p h. then (closing_sound d) (λ i _. gives tt)) (then (argument_sound d c) (λ g h. refuses {b = 0} refl h))
  arguments_sound {from = from} d c (want ∷ wants) =
      peek_close
      (λ p h. refuses refl h)
      (then (argument_sound d c) (λ g h. then (fits_sound c want g h) (λ a _. then (arguments_sound {from = from + 1 + 0} d c wants) (λ as' _. gives tt))))

  pub reference_sound : {from : ℕ} (d : ℕ) (c : Scope) (t : Table) (i : ℕ) → Sound s x from 1 Any (reference s d c t i)
  unfolding reference
  reference_sound d c t i = then (arguments_sound d c (wanted_of (entry_at t i))) (λ as' _. gives tt)

  counted_sound : {from p : ℕ} (n : ℕ) → Stands s p → Sound s x from 0 Any (counted p n)
  unfolding counted
  counted_sound zero h = refuses refl h
  counted_sound (suc n) h = gives tt

  -- a name with its arguments, of which one more may stand
  referred : {A : Type 0} {from p : ℕ} (t : Table) (w : List ℕ) (d : ℕ) (c : Scope) (n : ℕ) (j : Ref → ℕ → A) → Stands s p
      → Sound s x from 0 Any (◌>>=◌ (declared t p w) (λ i. ◌>>=◌ (counted p n) (λ m. ◌>>=◌ (reference s d c t i) (λ r. give (j r m)))))
  referred t w d c n j h = then (declared_sound t w h) (λ i _. then (counted_sound n h) (λ m _. then (reference_sound d c t i) (λ r _. gives tt)))

  -- ---- expressions

  leaf_sound : {from : ℕ} (d n : ℕ) → After s x from Any (λ t. leaf d n t)
  leaf_sound d n = on_number_lem (λ z p h. then (counted_sound n h) (λ m _. gives tt)) (wrongs d)

  operands_sound : {from : ℕ} (d n : ℕ) → Sound s x from 1 Any (operands_end s d n)
  unfolding operands_end
  operands_sound d n = token_then (on_close_lem (λ p. gives tt) (on_number_lem (λ z p h. choose {b = 0} (eqb n 0) (refuses refl h) (refuses refl h)) (wrongs d)))

  module _ (d : ℕ) (c : Scope) {f : ℕ → Reader (Counted Expr)} (h : Takes s x f) where
    plus_sound : {from : ℕ} (n : ℕ) → Sound s x from 1 Any (plus_of s d f n)
    plus_sound n = then (h _ n) (λ a _. then (h _ a.left) (λ b _. then (operands_sound d b.left) (λ i _. gives tt)))

    minus_sound : {from : ℕ} (n : ℕ) → Sound s x from 1 Any (minus_of s d f n)
    minus_sound n =
        then (h _ n) (λ a _. peek_close
        (λ p q. then (closing_sound d) (λ i _. gives tt))
        (then (h _ a.left) (λ b _. then (operands_sound d b.left) (λ i _. gives tt))))

    operation_sound : {from p : ℕ} (n : ℕ) (y : HeadWord) → Stands s p → Sound s x from 0 Any (operation s d f n y p)
    operation_sound n H.And q = refuses refl q
    operation_sound n H.Not q = refuses refl q
    operation_sound n H.Equal q = refuses refl q
    operation_sound n H.Less q = refuses refl q
    operation_sound n H.AtMost q = refuses refl q
    operation_sound n H.More q = refuses refl q
    operation_sound n H.AtLeast q = refuses refl q
    operation_sound n H.Plus q = then (counted_sound n q) (λ m _. plus_sound m)
    operation_sound n H.Minus q = then (counted_sound n q) (λ m _. minus_sound m)
    operation_sound n H.Assign q = refuses refl q
    operation_sound n H.Increase q = refuses refl q
    operation_sound n H.Decrease q = refuses refl q
    operation_sound n H.Other q = refuses refl q

    headed_sound : {from : ℕ} (n : ℕ) (k : Word) (p e : ℕ) → Stands s p → Sound s x from 0 Any (headed s d c f n k p e)
    headed_sound n W.Name p e q = referred c.functions (part s p e) d c n _ q
    headed_sound n W.Variable p e q = refuses refl q
    headed_sound n W.Keyword p e q = refuses refl q
    headed_sound n W.Operator p e q = operation_sound n (head_of (part s p e)) q

    bracket_sound : {from : ℕ} (n : ℕ) → Sound s x from 1 Any (in_bracket s d c f n)
    bracket_sound n = token_then (on_word_lem (λ k p e q. headed_sound n k p e q) (wrongs d))

  expr_sound : {from : ℕ} (d : ℕ) (c : Scope) (n : ℕ) → Sound s x from 1 Any (expr d s c n)
  unfolding expr
  expr_sound zero c n = token_then (leaf_sound zero n)
  expr_sound (suc d) c n = token_then (on_open_lem (λ p q i. bracket_sound d c (λ from m. expr_sound d c m) n) (leaf_sound (suc d) n))

  pub expression_sound : {from : ℕ} (d : ℕ) (c : Scope) → Sound s x from 1 Any (expression s d c)
  unfolding expression
  expression_sound d c = then (expr_sound d c 16) (λ y _. gives tt)

  -- ---- conditions

  on_name_lem : {A : Type 0} {from b : ℕ} {l m o : Reader A} (y : HeadWord) → Sound s x from b Any l → Sound s x from b Any m → Sound s x from b Any o
      → Sound s x from b Any (on_name y l m o)
  on_name_lem H.And f g h = f
  on_name_lem H.Not f g h = g
  on_name_lem H.Equal f g h = h
  on_name_lem H.Less f g h = h
  on_name_lem H.AtMost f g h = h
  on_name_lem H.More f g h = h
  on_name_lem H.AtLeast f g h = h
  on_name_lem H.Plus f g h = h
  on_name_lem H.Minus f g h = h
  on_name_lem H.Assign f g h = h
  on_name_lem H.Increase f g h = h
  on_name_lem H.Decrease f g h = h
  on_name_lem H.Other f g h = h

  module _ (d : ℕ) (c : Scope) where
    atom_sound : {from p : ℕ} (yes' : Bool) (n e : ℕ) → Stands s p → Sound s x from 0 Any (atom_at s d c yes' n p e)
    unfolding atom_at
    atom_sound {p = p} yes' n e h = referred c.predicates (part s p e) d c n _ h

    comparison_sound : {from : ℕ} (yes' : Bool) (op : Comparison) (m : ℕ) → Sound s x from 1 Any (comparison s d c yes' op m)
    unfolding comparison
    comparison_sound yes' op m = then (expression_sound d c) (λ a _. then (expression_sound d c) (λ b _. then (closing_sound d) (λ i _. gives tt)))

    objects_sound : {from : ℕ} (yes' : Bool) (m : ℕ) → Sound s x from 1 Any (same_objects s d c yes' m)
    unfolding same_objects
    objects_sound yes' m = then (argument_sound d c) (λ a _. then (argument_sound d c) (λ b _. then (closing_sound d) (λ i _. gives tt)))

    equality_sound : {from : ℕ} (yes' : Bool) (m : ℕ) → Sound s x from 1 Any (equality s d c yes' m)
    unfolding equality
    equality_sound yes' m = peek_word (objects_sound yes' m) (comparison_sound yes' equal m)

    operated_sound : {from p : ℕ} (yes' : Bool) (n : ℕ) (y : HeadWord) → Stands s p → Sound s x from 0 Any (operated s d c yes' n y p)
    operated_sound yes' n H.And h = refuses refl h
    operated_sound yes' n H.Not h = refuses refl h
    operated_sound yes' n H.Equal h = then (counted_sound n h) (λ m _. equality_sound yes' m)
    operated_sound yes' n H.Less h = then (counted_sound n h) (λ m _. comparison_sound yes' less m)
    operated_sound yes' n H.AtMost h = then (counted_sound n h) (λ m _. comparison_sound yes' at_most m)
    operated_sound yes' n H.More h = then (counted_sound n h) (λ m _. comparison_sound yes' more m)
    operated_sound yes' n H.AtLeast h = then (counted_sound n h) (λ m _. comparison_sound yes' at_least m)
    operated_sound yes' n H.Plus h = refuses refl h
    operated_sound yes' n H.Minus h = refuses refl h
    operated_sound yes' n H.Assign h = refuses refl h
    operated_sound yes' n H.Increase h = refuses refl h
    operated_sound yes' n H.Decrease h = refuses refl h
    operated_sound yes' n H.Other h = refuses refl h

    negated_sound : {from : ℕ} (n : ℕ) (k : Word) (p e : ℕ) → Stands s p → Sound s x from 0 Any (negated_head s d c n k p e)
    negated_sound n W.Name p e h = on_name_lem (head_of (part s p e)) (refuses refl h) (atom_sound false n e h) (atom_sound false n e h)
    negated_sound n W.Variable p e h = refuses refl h
    negated_sound n W.Keyword p e h = refuses refl h
    negated_sound n W.Operator p e h = operated_sound false n (head_of (part s p e)) h

  in_negation_sound : {from : ℕ} (d : ℕ) (c : Scope) (n : ℕ) → Sound s x from 1 Any (in_negation s d c n)
  in_negation_sound d c n = token_then (on_word_lem (λ k p e h. negated_sound d c n k p e h) (wrongs d))

  negation_sound : {from : ℕ} (d : ℕ) (c : Scope) (n : ℕ) → Sound s x from 1 Any (negation s d c n)
  unfolding negation
  negation_sound d c n = then (opening_sound d) (λ i _. then (in_negation_sound (d - 1) c n) (λ y _. then (closing_sound d) (λ j _. gives tt)))

  list_sound : {from : ℕ} (k d : ℕ) {f : ℕ → Reader (Counted Cond)} → Takes s x f → (n : ℕ) → length s < k + from → Sound s x from 1 Any (list_to k s d f n)
  unfolding list_to
  list_sound zero d h n i = spent (omega arith)
  list_sound {from = from} (suc k) d h n i =
      peek_close
      (λ p q. then (closing_sound d) (λ i _. gives tt))
      (then (h _ n) (λ y _. then (list_sound {from = from + 1} k d h y.left (omega arith)) (λ ys _. gives tt)))

  module _ (d : ℕ) (c : Scope) {f : ℕ → Reader (Counted Cond)} (h : Takes s x f) where
    conjunction_sound : {from : ℕ} (n : ℕ) → Sound s x from 1 Any (conjunction s d f n)
    unfolding conjunction
    conjunction_sound n = then (list_sound (length s + 1) d h n (omega arith)) (λ ys _. gives tt)

    head_sound : {from : ℕ} (n : ℕ) (k : Word) (p e : ℕ) → Stands s p → Sound s x from 0 Any (condition_head s d c f n k p e)
    head_sound n W.Name p e q = on_name_lem (head_of (part s p e)) (fewer (conjunction_sound n)) (fewer (negation_sound d c n)) (atom_sound d c true n e q)
    head_sound n W.Variable p e q = refuses refl q
    head_sound n W.Keyword p e q = refuses refl q
    head_sound n W.Operator p e q = operated_sound d c true n (head_of (part s p e)) q

  pub condition_sound : {from : ℕ} (d : ℕ) (c : Scope) (n : ℕ) → Sound s x from 1 Any (condition d s c n)
  unfolding condition
  condition_sound zero c n = then {c = 0} shut_sound (λ i q. absurd q)
  condition_sound (suc d) c n =
      then (opening_sound (suc d)) (λ i _. token_then (on_word_lem (λ k p e q. head_sound d c (λ from m. condition_sound d c m) n k p e q) (wrongs d)))

  -- ---- effects

  target_sound : {from : ℕ} (d : ℕ) (c : Scope) → Sound s x from 1 Any (target s d c)
  unfolding target
  target_sound d c =
      then (opening_sound d) (λ i _. then (name_sound (d - 1))
      (λ n h. then (declared_sound c.functions n.word h) (λ f _. reference_sound (d - 1) c c.functions f)))

  module _ (d : ℕ) (c : Scope) where
    becomes_sound : {from p : ℕ} (yes' : Bool) (n e : ℕ) → Stands s p → Sound s x from 0 Any (becomes_at s d c yes' n p e)
    unfolding becomes_at
    becomes_sound {p = p} yes' n e h = referred c.predicates (part s p e) d c n _ h

    change_sound : {from p : ℕ} (how : Change) (n : ℕ) → Stands s p → Sound s x from 0 Any (change_at s d c how n p)
    unfolding change_at
    change_sound how n h =
        then (counted_sound n h) (λ m _. then (target_sound d c) (λ r _. then (expression_sound d c) (λ y _. then (closing_sound d) (λ i _. gives tt))))

    deleted_sound : {from : ℕ} (n : ℕ) (k : Word) (p e : ℕ) → Stands s p → Sound s x from 0 Any (deleted_word s d c n k p e)
    deleted_sound n W.Name p e h = on_name_lem (head_of (part s p e)) (refuses refl h) (becomes_sound false n e h) (becomes_sound false n e h)
    deleted_sound n W.Variable p e h = refuses refl h
    deleted_sound n W.Keyword p e h = refuses refl h
    deleted_sound n W.Operator p e h = refuses refl h

  in_deletion_sound : {from : ℕ} (d : ℕ) (c : Scope) (n : ℕ) → Sound s x from 1 Any (in_deletion s d c n)
  in_deletion_sound d c n = token_then (on_word_lem (λ k p e h. deleted_sound d c n k p e h) (wrongs d))

  deletion_sound : {from : ℕ} (d : ℕ) (c : Scope) (n : ℕ) → Sound s x from 1 Any (deletion s d c n)
  unfolding deletion
  deletion_sound d c n = then (opening_sound d) (λ i _. then (in_deletion_sound (d - 1) c n) (λ y _. then (closing_sound d) (λ j _. gives tt)))

  effects_sound : {from : ℕ} (k d : ℕ) {f : ℕ → Reader (Counted (List Effect))} → Takes s x f → (n : ℕ) → length s < k + from
      → Sound s x from 1 Any (effects_to k s d f n)
  unfolding effects_to
  effects_sound zero d h n i = spent (omega arith)
  effects_sound {from = from} (suc k) d h n i =
      peek_close
      (λ p q. then (closing_sound d) (λ i _. gives tt))
      (then (h _ n) (λ y _. then (effects_sound {from = from + 1} k d h y.left (omega arith)) (λ ys _. gives tt)))

  module _ (d : ℕ) (c : Scope) {f : ℕ → Reader (Counted (List Effect))} (h : Takes s x f) where
    effect_head_lem : {from : ℕ} (n : ℕ) (y : HeadWord) (p e : ℕ) → Stands s p → Sound s x from 0 Any (effect_head s d c f n y p e)
    effect_head_lem n H.And p e q = fewer (effects_sound (length s + 1) d h n (omega arith))
    effect_head_lem n H.Not p e q = fewer (deletion_sound d c n)
    effect_head_lem n H.Equal p e q = becomes_sound d c true n e q
    effect_head_lem n H.Less p e q = becomes_sound d c true n e q
    effect_head_lem n H.AtMost p e q = becomes_sound d c true n e q
    effect_head_lem n H.More p e q = becomes_sound d c true n e q
    effect_head_lem n H.AtLeast p e q = becomes_sound d c true n e q
    effect_head_lem n H.Plus p e q = becomes_sound d c true n e q
    effect_head_lem n H.Minus p e q = becomes_sound d c true n e q
    effect_head_lem n H.Assign p e q = change_sound d c assign n q
    effect_head_lem n H.Increase p e q = change_sound d c raise n q
    effect_head_lem n H.Decrease p e q = change_sound d c lower n q
    effect_head_lem n H.Other p e q = becomes_sound d c true n e q

    effect_word_lem : {from : ℕ} (n : ℕ) (k : Word) (p e : ℕ) → Stands s p → Sound s x from 0 Any (effect_word s d c f n k p e)
    effect_word_lem n W.Name p e q = effect_head_lem n (head_of (part s p e)) p e q
    effect_word_lem n W.Variable p e q = refuses refl q
    effect_word_lem n W.Keyword p e q = refuses refl q
    effect_word_lem n W.Operator p e q = refuses refl q

  pub effect_sound : {from : ℕ} (d : ℕ) (c : Scope) (n : ℕ) → Sound s x from 1 Any (effect d s c n)
  unfolding effect
  effect_sound zero c n = then {c = 0} shut_sound (λ i q. absurd q)
  effect_sound (suc d) c n =
      then (opening_sound (suc d)) (λ i _. token_then (on_word_lem (λ k p e q. effect_word_lem d c (λ from m. effect_sound d c m) n k p e q) (wrongs d)))
