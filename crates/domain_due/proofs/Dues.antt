-- What a token is not, and the ways through what is due. Assumes nothing.
use mathlib.Core.Path.{◌≡◌, refl, sym, ap, ◌∙◌}
use mathlib.Core.List.{List, [], ◌∷◌}
use mathlib.Core.Bool.{true, false, cond}
use Prim.Native.Nat.{ℕ, ◌-◌, ◌≤◌, ◌<◌}
use native.Mathlib.Omega.{arith}
use lib.IntN.{ℤ}
use lib.ListN.{length}
use types.Run.{OneOf, miss}
use denote.Enum.Declared.{tag_of}
use borrow.Author.Tests.{eq-eqb, ne_eqb}
use Rattle.base_laws.proofs.Pairs.{pair_parts}
use Rattle.text_words.specs.Spelling.{same_word}
use Rattle.text_words.specs.Fixed.{is_reserved}
use Rattle.text_tokens.specs.Runs.{part}
use Rattle.text_tokens.specs.Tokens.{token_at}
use Rattle.text_tokens.specs.declared.tokens.Token.{Token}
use Rattle.text_tokens.specs.declared.tokens.Token.TheVariants as T
use Rattle.text_tokens.specs.declared.tokens.Word.{Word}
use Rattle.text_tokens.specs.declared.tokens.Word.TheVariants as W
use Rattle.text_tokens.specs.contracts.tokens.Token as token-type
use Rattle.text_tokens.specs.contracts.tokens.Word as word-type
use Rattle.text_tokens.proofs.Within.{Within, token_within}
use Rattle.domain_meaning.specs.Read.{Read, got, refused, give, refuse}
use Rattle.domain_meaning.specs.Due.{after_of, number_of, place_of, wrong, on_word, on_number, on_open, on_close, on_refusal, on_end, opening, closing, word_due}
use Rattle.domain_meaning.specs.Due.{is_name_word, Name, any_name, new_name}
use Rattle.domain_due.specs.Answers.{answer_of, name_of, Ahead}
use Rattle.domain_due.specs.Answers.{Parsed, at, Done, Refused}
use Rattle.domain_due.specs.declared.Refusal.{Refusal}
use Rattle.std.specs.Prelude.{Result, Err}

-- ---- a token that is not of a kind

pub not_word : {A : Type 0} (t : Token) (f : Word → ℕ → ℕ → A) (a : A) → OneOf (1 ∷ 2 ∷ 3 ∷ 4 ∷ 5 ∷ 6 ∷ []) (tag_of token-type.the_type t) → on_word t f a ≡ a
not_word (T.Word k p e) f a h = absurd (miss (1 ∷ 2 ∷ 3 ∷ 4 ∷ 5 ∷ 6 ∷ []) 0 tt h)
not_word (T.Number z p e) f a h = refl
not_word (T.Open p n) f a h = refl
not_word (T.Close p n) f a h = refl
not_word (T.Mark m p n) f a h = refl
not_word (T.Refusal k p) f a h = refl
not_word (T.End p) f a h = refl

pub not_number : {A : Type 0} (t : Token) (f : ℤ → ℕ → A) (a : A) → OneOf (0 ∷ 2 ∷ 3 ∷ 4 ∷ 5 ∷ 6 ∷ []) (tag_of token-type.the_type t) → on_number t f a ≡ a
not_number (T.Word k p e) f a h = refl
not_number (T.Number z p e) f a h = absurd (miss (0 ∷ 2 ∷ 3 ∷ 4 ∷ 5 ∷ 6 ∷ []) 1 tt h)
not_number (T.Open p n) f a h = refl
not_number (T.Close p n) f a h = refl
not_number (T.Mark m p n) f a h = refl
not_number (T.Refusal k p) f a h = refl
not_number (T.End p) f a h = refl

pub not_open : {A : Type 0} (t : Token) (f : ℕ → A) (a : A) → OneOf (0 ∷ 1 ∷ 3 ∷ 4 ∷ 5 ∷ 6 ∷ []) (tag_of token-type.the_type t) → on_open t f a ≡ a
not_open (T.Word k p e) f a h = refl
not_open (T.Number z p e) f a h = refl
not_open (T.Open p n) f a h = absurd (miss (0 ∷ 1 ∷ 3 ∷ 4 ∷ 5 ∷ 6 ∷ []) 2 tt h)
not_open (T.Close p n) f a h = refl
not_open (T.Mark m p n) f a h = refl
not_open (T.Refusal k p) f a h = refl
not_open (T.End p) f a h = refl

pub not_close : {A : Type 0} (t : Token) (f : ℕ → A) (a : A) → OneOf (0 ∷ 1 ∷ 2 ∷ 4 ∷ 5 ∷ 6 ∷ []) (tag_of token-type.the_type t) → on_close t f a ≡ a
not_close (T.Word k p e) f a h = refl
not_close (T.Number z p e) f a h = refl
not_close (T.Open p n) f a h = refl
not_close (T.Close p n) f a h = absurd (miss (0 ∷ 1 ∷ 2 ∷ 4 ∷ 5 ∷ 6 ∷ []) 3 tt h)
not_close (T.Mark m p n) f a h = refl
not_close (T.Refusal k p) f a h = refl
not_close (T.End p) f a h = refl

pub not_refusal : {A : Type 0} (t : Token) (f : ℕ → ℕ → A) (a : A) → OneOf (0 ∷ 1 ∷ 2 ∷ 3 ∷ 4 ∷ 6 ∷ []) (tag_of token-type.the_type t) → on_refusal t f a ≡ a
not_refusal (T.Word k p e) f a h = refl
not_refusal (T.Number z p e) f a h = refl
not_refusal (T.Open p n) f a h = refl
not_refusal (T.Close p n) f a h = refl
not_refusal (T.Mark m p n) f a h = refl
not_refusal (T.Refusal k p) f a h = absurd (miss (0 ∷ 1 ∷ 2 ∷ 3 ∷ 4 ∷ 6 ∷ []) 5 tt h)
not_refusal (T.End p) f a h = refl

pub not_end : {A : Type 0} (t : Token) (f : ℕ → A) (a : A) → OneOf (0 ∷ 1 ∷ 2 ∷ 3 ∷ 4 ∷ 5 ∷ []) (tag_of token-type.the_type t) → on_end t f a ≡ a
not_end (T.Word k p e) f a h = refl
not_end (T.Number z p e) f a h = refl
not_end (T.Open p n) f a h = refl
not_end (T.Close p n) f a h = refl
not_end (T.Mark m p n) f a h = refl
not_end (T.Refusal k p) f a h = refl
not_end (T.End p) f a h = absurd (miss (0 ∷ 1 ∷ 2 ∷ 3 ∷ 4 ∷ 5 ∷ []) 6 tt h)

pub not_name : (k : Word) → OneOf (1 ∷ 2 ∷ 3 ∷ []) (tag_of word-type.the_type k) → is_name_word k ≡ false
not_name W.Name h = absurd (miss (1 ∷ 2 ∷ 3 ∷ []) 0 tt h)
not_name W.Variable h = refl
not_name W.Keyword h = refl
not_name W.Operator h = refl

pub word_as : (t : Token) (k j : Word) (p e : ℕ) → t ≡ T.Word k p e → k ≡ j → t ≡ T.Word j p e
word_as t k j p e q h = rw h at q

-- ---- answers

pub ahead_done : (n at a v : ℕ) (r : Parsed) → r ≡ Done a v → Ahead n at r → (at < a) × (a ≤ n)
unfolding Ahead
ahead_done n at a v r e h = rw e at h

pub ahead_refused : (n at k p : ℕ) (r : Parsed) → r ≡ Refused k p → Ahead n at r
unfolding Ahead
ahead_refused n at k p r e = rw e tt

pub ahead_by : (n at a v : ℕ) → at < a → a ≤ n → Ahead n at (Done a v)
unfolding Ahead
ahead_by n at a v lo hi = (lo, hi)

-- two equal answers have the same parts
pub done_parts : (a b v w : ℕ) → Done a v ≡ Done b w → (a ≡ b) × (v ≡ w)
done_parts a b v w e = let q : ◌≡◌ {A = ℕ × ℕ} (a, v) (b, w) = cc in pair_parts a b v w q

pub refused_parts : {T : Type 0} (j k q p : ℕ) → ◌≡◌ {A = Result T Refusal} (Err (at j q)) (Err (at k p)) → (j ≡ k) × (q ≡ p)
refused_parts j k q p e =
    let h : at j q ≡ at k p = cc in
    (ap (λ (r : Refusal). r.0) h, ap (λ (r : Refusal). r.1) h)

-- what is refused is not read
pub never_done : {A : Type 0} (k p a v : ℕ) → Refused k p ≡ Done a v → A
never_done k p a v h = absurd (let z : ◌≡◌ {A = ℕ} 0 1 = cc in let y : ⊥ = omega arith in y)

pub answer_done : (x : Read ℕ) (a v : ℕ) → answer_of x ≡ Done a v → x ≡ got v a
answer_done (got w n) a v e = let h = done_parts n a w v e in rw (h.0, h.1)
answer_done (refused k p) a v e = absurd (let z : ◌≡◌ {A = ℕ} 0 1 = cc in let y : ⊥ = omega arith in y)

pub answer_refused : (x : Read ℕ) (k p : ℕ) → answer_of x ≡ Refused k p → x ≡ refused k p
answer_refused (got w n) k p e = absurd (let z : ◌≡◌ {A = ℕ} 0 1 = cc in let y : ⊥ = omega arith in y)
answer_refused (refused j q) k p e = let h = refused_parts j k q p e in rw (h.0, h.1)

-- ---- where a token of a kind lies

module _ (s : List ℕ) (at : ℕ) (h : at ≤ length s) where
  pub open_in : (p n : ℕ) → token_at s at ≡ T.Open p n → (at < n) × (n ≤ length s)
  unfolding Within
  open_in p n e = let w = rw e at (token_within s at h) in (omega (arith, w.0, w.1), w.2)

  pub close_in : (p n : ℕ) → token_at s at ≡ T.Close p n → (at < n) × (n ≤ length s)
  unfolding Within
  close_in p n e = let w = rw e at (token_within s at h) in (omega (arith, w.0, w.1), w.2)

  pub word_in : (k : Word) (p e : ℕ) → token_at s at ≡ T.Word k p e → (at ≤ p) × (p < e) × (e ≤ length s)
  unfolding Within
  word_in k p e q = let w = rw q at (token_within s at h) in (w.0, w.1, w.2)

  pub name_in_lem : (p e : ℕ) → token_at s at ≡ T.Word W.Name p e → e - p ≤ 32
  unfolding Within
  name_in_lem p e q = let w = rw q at (token_within s at h) in w.3

-- ---- the ways

module _ (s : List ℕ) (d at : ℕ) where
  pub opening_else : (t : Token) (r : Parsed) → t ≡ token_at s at → OneOf (0 ∷ 1 ∷ 3 ∷ 4 ∷ 5 ∷ 6 ∷ []) (tag_of token-type.the_type t)
      → r ≡ Refused (number_of d t) (place_of t) → (r ≡ answer_of (opening s d at)) × Ahead (length s) at r
  unfolding opening
  opening_else t r e o q = (rw (← e, not_open t _ _ o) q, ahead_refused _ _ _ _ r q)

  pub opening_deep : (p n : ℕ) → token_at s at ≡ T.Open p n → d ≡ 0 → (Refused 12 p ≡ answer_of (opening s d at)) × Ahead (length s) at (Refused 12 p)
  unfolding opening
  opening_deep p n e z = (rw (e, eq-eqb d 0 z), ahead_refused _ _ _ _ _ refl)

  pub opening_read : (p n : ℕ) → at ≤ length s → token_at s at ≡ T.Open p n → (d ≡ 0 → ⊥) → (Done n p ≡ answer_of (opening s d at))
      × Ahead (length s) at (Done n p)
  unfolding opening
  opening_read p n h e z = let w = open_in s at h p n e in (rw (e, ne_eqb d 0 z), ahead_by _ _ _ _ w.0 w.1)

  pub closing_else : (t : Token) (r : Parsed) → t ≡ token_at s at → OneOf (0 ∷ 1 ∷ 2 ∷ 4 ∷ 5 ∷ 6 ∷ []) (tag_of token-type.the_type t)
      → r ≡ Refused (number_of d t) (place_of t) → (r ≡ answer_of (closing s d at)) × Ahead (length s) at r
  unfolding closing
  closing_else t r e o q = (rw (← e, not_close t _ _ o) q, ahead_refused _ _ _ _ r q)

  pub closing_read : (p n : ℕ) → at ≤ length s → token_at s at ≡ T.Close p n → (Done n p ≡ answer_of (closing s d at)) × Ahead (length s) at (Done n p)
  unfolding closing
  closing_read p n h e = let w = close_in s at h p n e in (rw e, ahead_by _ _ _ _ w.0 w.1)

  pub word_else : (w : List ℕ) (t : Token) (r : Parsed) → t ≡ token_at s at → OneOf (1 ∷ 2 ∷ 3 ∷ 4 ∷ 5 ∷ 6 ∷ []) (tag_of token-type.the_type t)
      → r ≡ Refused (number_of d t) (place_of t) → (r ≡ answer_of (word_due s d w at)) × Ahead (length s) at r
  unfolding word_due
  word_else w t r e o q = (rw (← e, not_word t _ _ o) q, ahead_refused _ _ _ _ r q)

  pub word_read : (w : List ℕ) (k : Word) (p e : ℕ) → at ≤ length s → token_at s at ≡ T.Word k p e → same_word (part s p e) w ≡ true
      → (Done e p ≡ answer_of (word_due s d w at)) × Ahead (length s) at (Done e p)
  unfolding word_due
  word_read w k p e h q m = let l = word_in s at h k p e q in (rw (q, m), ahead_by _ _ _ _ (omega arith) l.2)

  pub word_other : (w : List ℕ) (k : Word) (p e : ℕ) → token_at s at ≡ T.Word k p e → same_word (part s p e) w ≡ false
      → (Refused 3 p ≡ answer_of (word_due s d w at)) × Ahead (length s) at (Refused 3 p)
  unfolding word_due
  word_other w k p e q m = (rw (q, m), ahead_refused _ _ _ _ _ refl)

  pub any_else : (t : Token) (r : Parsed) → t ≡ token_at s at → OneOf (1 ∷ 2 ∷ 3 ∷ 4 ∷ 5 ∷ 6 ∷ []) (tag_of token-type.the_type t)
      → r ≡ Refused (number_of d t) (place_of t) → (r ≡ name_of (any_name s d at)) × Ahead (length s) at r
  unfolding any_name
  any_else t r e o q = (rw (← e, not_word t _ _ o) q, ahead_refused _ _ _ _ r q)

  pub any_other : (k : Word) (p e : ℕ) → token_at s at ≡ T.Word k p e → is_name_word k ≡ false
      → (Refused 3 p ≡ name_of (any_name s d at)) × Ahead (length s) at (Refused 3 p)
  unfolding any_name
  any_other k p e q m = (rw (q, m), ahead_refused _ _ _ _ _ refl)

  pub any_read : (p e : ℕ) → at ≤ length s → token_at s at ≡ T.Word W.Name p e → (Done e p ≡ name_of (any_name s d at)) × Ahead (length s) at (Done e p)
  unfolding any_name
  any_read p e h q = let l = word_in s at h W.Name p e q in (rw q, ahead_by _ _ _ _ (omega arith) l.2)

-- ---- a name that was read is the part of the text between its places

pub record Named (s : List ℕ) (v a : ℕ) (x : Read Name) : Type 0 where
  pub is : x ≡ got (record { place = v; word = part s v a }) a

any_of : (s : List ℕ) (d : ℕ) (t : Token) (v a : ℕ)
    → name_of (on_word t (λ k p e. cond (is_name_word k) (give (record { place = p; word = part s p e })) (refuse 3 p)) (wrong d t) (after_of t)) ≡ Done a v
    → Named s v a (on_word t (λ k p e. cond (is_name_word k) (give (record { place = p; word = part s p e })) (refuse 3 p)) (wrong d t) (after_of t))
any_of s d (T.Word W.Name p e) v a h = let q = done_parts e a p v h in record { is = rw (q.0, q.1) }
any_of s d (T.Word W.Variable p e) v a h = never_done _ _ a v h
any_of s d (T.Word W.Keyword p e) v a h = never_done _ _ a v h
any_of s d (T.Word W.Operator p e) v a h = never_done _ _ a v h
any_of s d (T.Number z p e) v a h = never_done _ _ a v h
any_of s d (T.Open p n) v a h = never_done _ _ a v h
any_of s d (T.Close p n) v a h = never_done _ _ a v h
any_of s d (T.Mark m p n) v a h = never_done _ _ a v h
any_of s d (T.Refusal k p) v a h = never_done _ _ a v h
any_of s d (T.End p) v a h = never_done _ _ a v h

pub any_named : (s : List ℕ) (d at v a : ℕ) → name_of (any_name s d at) ≡ Done a v → Named s v a (any_name s d at)
unfolding any_name
any_named s d at v a h = any_of s d (token_at s at) v a h

pub name_refused : (x : Read Name) (k p : ℕ) → name_of x ≡ Refused k p → x ≡ refused k p
name_refused (got w n) k p e = absurd (let z : ◌≡◌ {A = ℕ} 0 1 = cc in let y : ⊥ = omega arith in y)
name_refused (refused j q) k p e = let h = refused_parts j k q p e in rw (h.0, h.1)

-- a name that is declared

module _ (s : List ℕ) (d at : ℕ) (r : Parsed) (q : r ≡ name_of (any_name s d at)) where
  pub new_refused : (k p : ℕ) → r ≡ Refused k p → (Refused k p ≡ name_of (new_name s d at)) × Ahead (length s) at (Refused k p)
  unfolding new_name
  new_refused k p e = (rw (name_refused (any_name s d at) k p (sym q ∙ e)), ahead_refused _ _ _ _ _ refl)

  module _ (a v : ℕ) (e : r ≡ Done a v) where
    pub new_reserved : is_reserved (part s v a) ≡ true → (Refused 3 v ≡ name_of (new_name s d at)) × Ahead (length s) at (Refused 3 v)
    unfolding new_name
    new_reserved h = (rw ((any_named s d at v a (sym q ∙ e)).is, h), ahead_refused _ _ _ _ _ refl)

    pub new_read : is_reserved (part s v a) ≡ false → Ahead (length s) at r → (Done a v ≡ name_of (new_name s d at)) × Ahead (length s) at (Done a v)
    unfolding new_name
    new_read h w = (rw ((any_named s d at v a (sym q ∙ e)).is, h), rw e at w)

-- a name that was read has a byte at least
any_between : (s : List ℕ) (d at : ℕ) (t : Token) (v a : ℕ) → Within s at t
    → name_of (on_word t (λ k p e. cond (is_name_word k) (give (record { place = p; word = part s p e })) (refuse 3 p)) (wrong d t) (after_of t)) ≡ Done a v → v < a
unfolding Within
any_between s d at (T.Word W.Name p e) v a w h = let q = done_parts e a p v h in omega (arith, w.1, q.0, q.1)
any_between s d at (T.Word W.Variable p e) v a w h = never_done _ _ a v h
any_between s d at (T.Word W.Keyword p e) v a w h = never_done _ _ a v h
any_between s d at (T.Word W.Operator p e) v a w h = never_done _ _ a v h
any_between s d at (T.Number z p e) v a w h = never_done _ _ a v h
any_between s d at (T.Open p n) v a w h = never_done _ _ a v h
any_between s d at (T.Close p n) v a w h = never_done _ _ a v h
any_between s d at (T.Mark m p n) v a w h = never_done _ _ a v h
any_between s d at (T.Refusal k p) v a w h = never_done _ _ a v h
any_between s d at (T.End p) v a w h = never_done _ _ a v h

pub any_inside : (s : List ℕ) (d at v a : ℕ) → at ≤ length s → name_of (any_name s d at) ≡ Done a v → v < a
unfolding any_name
any_inside s d at v a h q = any_between s d at (token_at s at) v a (token_within s at h) q
