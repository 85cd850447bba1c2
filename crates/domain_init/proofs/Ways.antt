-- The ways of reading a fact or a number of init. Assumes nothing.
use Rattle.std.specs.Prelude.{Err}
use mathlib.Core.Path.{◌≡◌, refl, sym, ap, ◌∙◌}
use mathlib.Core.List.{List, [], ◌∷◌}
use mathlib.Core.Bool.{Bool, true, false, ◌&&◌}
use Prim.Native.Nat.{ℕ, ◌≤◌, ◌<◌}
use native.Mathlib.Omega.{arith}
use types.Run.{OneOf}
use denote.Enum.Declared.{tag_of}
use lib.Dec.{leb}
use lib.IntN.{ℤ}
use lib.ListN.{length, get_or, set}
use lib.Signed.{lt_z}
use borrow.Author.Tests.{leb-true}
use Rattle.domain_meaning.proofs.Readings.{then_then, then_same}
use Rattle.text_words.specs.Bytes.{bytes}
use Rattle.text_words.specs.Spelling.{same_word}
use Rattle.text_tokens.specs.Runs.{part}
use Rattle.text_tokens.specs.Tokens.{token_at}
use Rattle.text_tokens.specs.declared.tokens.Token.{Token}
use Rattle.text_tokens.specs.declared.tokens.Token.TheVariants as T
use Rattle.text_tokens.specs.declared.tokens.Word.{Word}
use Rattle.text_tokens.specs.declared.tokens.Word.TheVariants as W
use Rattle.text_tokens.specs.contracts.tokens.Token as token-type
use Rattle.text_tokens.proofs.Within.{Within, token_within}
use Rattle.domain_meaning.specs.Read.{Read, Reader, got, refused, and_then, give}
use Rattle.domain_meaning.specs.Tables.{Table, declared}
use Rattle.domain_meaning.specs.Due.{number_of, place_of, opening, closing, any_name}
use Rattle.domain_meaning.specs.Terms.{Scope, reference}
use Rattle.domain_meaning.specs.Problem.{Init, is_given, once, with_fact, with_number, fact_of, value_of, init_word, sums_fit}
use Rattle.domain_meaning.specs.Indexes.{sum_of, index_of}
use Rattle.domain_due.specs.Answers.{answer_of, name_of, Ahead}
use Rattle.domain_due.specs.Answers.{Parsed}
use Rattle.domain_due.specs.Answers.{Done, Refused}
use Rattle.domain_due.proofs.Dues.{not_word, not_number, answer_done, answer_refused, any_named, name_refused}
use Rattle.domain_terms.specs.Scoped.{Scoped, Signatures}
use Rattle.domain_terms.specs.declared.scope.Counts.{Counts}
use Rattle.domain_meaning.specs.First.{undefined}
use Rattle.domain_init.specs.Parts.{ground_of, ground_behind, target_of, value_for, entry_of, Listed, Stands, Took}
use Rattle.domain_init.proofs.Indexed.{ground_below}
use Rattle.domain_init.proofs.States.{stands_fact, stands_number, given_is_defined, number_defined}
use Rattle.domain_rows.specs.Layout.{predicates_at, functions_at, variables_at}

-- ---- tables

pub listed_signed : (tables : List ℕ) (off to n : ℕ) → Listed tables off to n → Signatures tables off n
listed_signed tables off to n l = record { rows = l.rows; to = to; table = l.table; holds = l.holds; signed = l.signed; few = l.few; near = l.near }

module _ (tables : List ℕ) (n : Counts) (c : Scope) (h : Scoped tables n c) where
  pub predicates_listed : Listed tables predicates_at functions_at n.predicates
  predicates_listed = record {
    rows = 32;
    table = c.predicates;
    holds = h.predicates;
    signed = h.facts;
    few = omega (arith, h.predicates.fits);
    near = omega arith;
  }

  pub functions_listed : Listed tables functions_at variables_at n.functions
  functions_listed = record {
    rows = 16;
    table = c.functions;
    holds = h.functions;
    signed = h.numbers;
    few = omega (arith, h.functions.fits);
    near = omega arith;
  }

-- ---- places

pub ahead_later : (n at b : ℕ) (r : Parsed) → at ≤ b → Ahead n b r → Ahead n at r
unfolding Ahead
ahead_later n at b (Done a v) h w = (omega (arith, w.0), w.1)
ahead_later n at b (Err why) h w = tt

pub number_in_lem : (s : List ℕ) (at : ℕ) (z : ℤ) (p e : ℕ) → at ≤ length s → token_at s at ≡ T.Number z p e → (at < e) × (e ≤ length s)
unfolding Within
number_in_lem s at z p e h q = let w = rw q at (token_within s at h) in (omega (arith, w.0, w.1), w.2)

-- ---- one reader after another

-- what is done with the index of a ground fact or number
ground_on : {A : Type 0} (s : List ℕ) (d : ℕ) (c : Scope) (t : Table) (p e at : ℕ) (f : ℕ → Reader A)
    → and_then (ground_of s d c t p e at) f ≡ and_then (declared t p (part s p e) at)
    (λ i b. and_then (reference s d c t i b) (λ r. f (index_of (length c.objects) t r)))
unfolding ground_of ground_behind
ground_on s d c t p e at f = then_then (declared t p (part s p e) at) _ f
    ∙ then_same (declared t p (part s p e) at) _ _ (λ i b. then_then (reference s d c t i b) _ f)

-- ---- what was taken

took_refused : (r : Parsed) (facts : List ℕ) (numbers : List ℤ) (x : Read Init) (k p : ℕ) → x ≡ refused k p → r ≡ Refused k p → Took r facts numbers x
unfolding Took
took_refused r facts numbers x k p e h = rw e h

took_got : (facts : List ℕ) (numbers : List ℤ) (x : Read Init) (y : Init) (n : ℕ) → x ≡ got y n → Stands facts numbers y → Took (Done n 0) facts numbers x
unfolding Took
took_got facts numbers x y n e h = rw e (refl, h)

-- ---- a fact

module _ (s : List ℕ) (c : Scope) (x : Init) (p e : ℕ) (a : Parsed) (h : a ≡ answer_of (ground_of s 13 c c.predicates p e e)) where
  pub fact_refused : (facts : List ℕ) (numbers : List ℤ) (k q : ℕ) → a ≡ Refused k q → Took a facts numbers (fact_of s c x p e e)
  fact_refused facts numbers k q i =
      took_refused a facts numbers _ k q
      (sym (ground_on s 13 c c.predicates p e e (λ j. give (with_fact x j)))
      ∙ ap (λ (y : Read ℕ). and_then y (λ j. give (with_fact x j))) (answer_refused (ground_of s 13 c c.predicates p e e) k q (sym h ∙ i))) i

  pub fact_done : (facts facts' : List ℕ) (numbers : List ℤ) (n i : ℕ) → a ≡ Done n i → facts' ≡ set facts i 1 → Stands facts numbers x
      → Took (Done n 0) facts' numbers (fact_of s c x p e e)
  fact_done facts facts' numbers n i j k w =
      took_got facts' numbers _ (with_fact x i) n
      (sym (ground_on s 13 c c.predicates p e e (λ y. give (with_fact x y)))
      ∙ ap (λ (y : Read ℕ). and_then y (λ z. give (with_fact x z))) (answer_done (ground_of s 13 c c.predicates p e e) n i (sym h ∙ j)))
      (stands_fact facts numbers x w facts' i k)

-- ---- the number that is given

sums_numbers : (c : Scope) → sums_fit c ≡ true → sum_of (length c.objects) c.functions ≤ 1024
sums_numbers c h = leb-true _ _ (second (leb (sum_of (length c.objects) c.predicates) 16384) _ h)
  where
    second : (a b : Bool) → (a && b) ≡ true → b ≡ true
    second true b k = k
    second false b k = absurd (let z : ◌≡◌ {A = ℕ} 0 1 = cc in let y : ⊥ = omega arith in y)

module _ (s : List ℕ) (c : Scope) (x : Init) (at : ℕ) (o : Parsed) (ho : o ≡ answer_of (opening s 13 at)) where
  pub target_shut : (k q : ℕ) → o ≡ Refused k q → o ≡ answer_of (target_of s c x at)
  unfolding target_of
  target_shut k q i = rw (answer_refused (opening s 13 at) k q (sym ho ∙ i)) i

  module _ (b q : ℕ) (i : o ≡ Done b q) (w : Parsed) (hw : w ≡ name_of (any_name s 12 b)) where
    pub target_nameless : (k l : ℕ) → w ≡ Refused k l → w ≡ answer_of (target_of s c x at)
    unfolding target_of
    target_nameless k l j = rw (answer_done (opening s 13 at) b q (sym ho ∙ i), name_refused (any_name s 12 b) k l (sym hw ∙ j)) j

    module _ (e p : ℕ) (j : w ≡ Done e p) (a : Parsed) (ha : a ≡ answer_of (ground_of s 12 c c.functions p e e)) where
      target_as : target_of s c x at ≡ and_then (ground_of s 12 c c.functions p e e) (λ y. once p y x.numbers)
      unfolding target_of
      target_as =
          let n = any_named s 12 b p e (sym hw ∙ j) in
          rw (answer_done (opening s 13 at) b q (sym ho ∙ i), n.is) (sym (ground_on s 12 c c.functions p e e (λ y. once p y x.numbers)))

      pub target_refused : (k l : ℕ) → a ≡ Refused k l → a ≡ answer_of (target_of s c x at)
      target_refused k l m = rw (target_as, answer_refused (ground_of s 12 c c.functions p e e) k l (sym ha ∙ m)) m

      module _ (n v : ℕ) (m : a ≡ Done n v) (facts : List ℕ) (numbers : List ℤ) (st : Stands facts numbers x) (out : c.in_action ≡ false)
          (tables : List ℕ) (counts : Counts)
          (sc : Scoped tables counts c) (fit : sums_fit c ≡ true) where
        ground_is : ground_of s 12 c c.functions p e e ≡ got v n
        ground_is = answer_done (ground_of s 12 c c.functions p e e) n v (sym ha ∙ m)

        given : lt_z undefined (get_or numbers v undefined) ≡ is_given v x.numbers
        given = given_is_defined facts numbers x v st (omega
            (arith, ground_below s 12 c c.functions p e out sc.numbers v n ground_is, sums_numbers c fit))

        pub target_twice : lt_z undefined (get_or numbers v undefined) ≡ true → Refused 7 p ≡ answer_of (target_of s c x at)
        target_twice t = rw (target_as, ground_is, sym given ∙ t)

        pub target_once : lt_z undefined (get_or numbers v undefined) ≡ false → Done n v ≡ answer_of (target_of s c x at)
        target_once t = rw (target_as, ground_is, sym given ∙ t)

-- ---- its value

module _ (s : List ℕ) (x : Init) (i at : ℕ) (facts : List ℕ) where
  pub value_else : (numbers : List ℤ) (t : Token) (r : Parsed) → t ≡ token_at s at → OneOf (0 ∷ 2 ∷ 3 ∷ 4 ∷ 5 ∷ 6 ∷ []) (tag_of token-type.the_type t)
      → r ≡ Refused (number_of 13 t) (place_of t) → Took r facts numbers (value_for s x i at)
  unfolding value_for
  value_else numbers t r e o q = took_refused r facts numbers (value_for s x i at) (number_of 13 t) (place_of t) (rw (← e, not_number t _ _ o)) q

  module _ (z : ℤ) (p e : ℕ) (q : token_at s at ≡ T.Number z p e) (a : Parsed) (h : a ≡ answer_of (closing s 13 e)) where
    pub value_open : (numbers : List ℤ) (k l : ℕ) → a ≡ Refused k l → Took a facts numbers (value_for s x i at)
    unfolding value_for
    value_open numbers k l j = took_refused a facts numbers _ k l (rw (q, answer_refused (closing s 13 e) k l (sym h ∙ j))) j

    pub value_done : (numbers numbers' : List ℤ) (n v : ℕ) → a ≡ Done n v → numbers' ≡ set numbers i z → Stands facts numbers x
        → Took (Done n 0) facts numbers' (value_for s x i at)
    unfolding value_for
    value_done numbers numbers' n v j k w =
        took_got facts numbers' _ (with_number x i z) n (rw (q, answer_done (closing s 13 e) n v (sym h ∙ j)))
        (stands_number facts numbers x w numbers' i z k (number_defined s at z p e q))

module _ (s : List ℕ) (c : Scope) (x : Init) (at : ℕ) (a : Parsed) (h : a ≡ answer_of (target_of s c x at)) where
  value_as : and_then (target_of s c x at) (λ i. value_for s x i) ≡ value_of s c x at
  unfolding target_of value_for
  value_as =
      then_then (opening s 13 at) _ _
      ∙ then_same (opening s 13 at) _ _ (λ o b. then_then (any_name s 12 b) _ _
      ∙ then_same (any_name s 12 b) _ _ (λ n d. then_then (declared c.functions n.place n.word d) _ _
      ∙ then_same (declared c.functions n.place n.word d) _ _ (λ f g. then_then (reference s 12 c c.functions f g) _ _)))

  pub number_refused : (facts : List ℕ) (numbers : List ℤ) (k p : ℕ) → a ≡ Refused k p → Took a facts numbers (value_of s c x at)
  number_refused facts numbers k p i = took_refused a facts numbers _ k p (sym value_as ∙ rw (answer_refused (target_of s c x at) k p (sym h ∙ i))) i

  pub number_done : (facts : List ℕ) (numbers : List ℤ) (n v : ℕ) (r : Parsed) → a ≡ Done n v → Took r facts numbers (value_for s x v n)
      → Took r facts numbers (value_of s c x at)
  number_done facts numbers n v r i w = rw (← value_as, answer_done (target_of s c x at) n v (sym h ∙ i)) w

-- ---- with its brackets

module _ (s : List ℕ) (c : Scope) (x : Init) (at : ℕ) (o : Parsed) (ho : o ≡ answer_of (opening s 14 at)) (facts : List ℕ) (numbers : List ℤ) where
  pub entry_shut : (k q : ℕ) → o ≡ Refused k q → Took o facts numbers (entry_of s c x at)
  unfolding entry_of
  entry_shut k q i = took_refused o facts numbers _ k q (rw (answer_refused (opening s 14 at) k q (sym ho ∙ i))) i

  module _ (b q : ℕ) (i : o ≡ Done b q) where
    pub entry_else : (t : Token) (r : Parsed) → t ≡ token_at s b → OneOf (1 ∷ 2 ∷ 3 ∷ 4 ∷ 5 ∷ 6 ∷ []) (tag_of token-type.the_type t)
        → r ≡ Refused (number_of 13 t) (place_of t) → Took r facts numbers (entry_of s c x at)
    unfolding entry_of
    entry_else t r e w z =
        took_refused r facts numbers (entry_of s c x at) (number_of 13 t) (place_of t)
        (rw (answer_done (opening s 14 at) b q (sym ho ∙ i), ← e, not_word t _ _ w)) z

    module _ (k : Word) (p e : ℕ) (t : token_at s b ≡ T.Word k p e) where
      entry_as : (j : Word) → k ≡ j → entry_of s c x at ≡ init_word s c x j p e e
      unfolding entry_of
      entry_as j w = rw (answer_done (opening s 14 at) b q (sym ho ∙ i), t, w)

      pub entry_fact : (r : Parsed) → k ≡ W.Name → Took r facts numbers (fact_of s c x p e e) → Took r facts numbers (entry_of s c x at)
      entry_fact r w z = rw (entry_as W.Name w) z

      pub entry_number : (r : Parsed) → k ≡ W.Operator → same_word (part s p e) (bytes "=") ≡ true → Took r facts numbers (value_of s c x e)
          → Took r facts numbers (entry_of s c x at)
      entry_number r w y z = rw (entry_as W.Operator w, y) z

      pub entry_operator : k ≡ W.Operator → same_word (part s p e) (bytes "=") ≡ false → Took (Refused 3 p) facts numbers (entry_of s c x at)
      entry_operator w y = took_refused _ facts numbers _ 3 p (entry_as W.Operator w ∙ rw y) refl

      pub entry_variable : k ≡ W.Variable → Took (Refused 3 p) facts numbers (entry_of s c x at)
      entry_variable w = took_refused _ facts numbers _ 3 p (entry_as W.Variable w) refl

      pub entry_keyword : k ≡ W.Keyword → Took (Refused 3 p) facts numbers (entry_of s c x at)
      entry_keyword w = took_refused _ facts numbers _ 3 p (entry_as W.Keyword w) refl
