-- The ways through a step's duration. Assumes nothing.
use mathlib.Core.Path.{◌≡◌, refl}
use mathlib.Core.List.{List, [], ◌∷◌}
use mathlib.Core.Bool.{Bool, true, false}
use Prim.Native.Nat.{ℕ, ◌<◌}
use lib.IntN.{ℤ, nat_abs}
use types.Run.{OneOf}
use denote.Enum.Declared.{tag_of}
use borrow.Author.Tests.{eq-eqb, ne_eqb}
use Rattle.text_tokens.specs.Tokens.{plan_token_at}
use Rattle.text_tokens.specs.declared.tokens.Token.{Token}
use Rattle.text_tokens.specs.declared.tokens.Token.TheVariants as T
use Rattle.text_tokens.specs.contracts.tokens.Token as token-type
use Rattle.domain_meaning.specs.Due.{number_of, place_of}
use Rattle.domain_due.specs.Answers.{answer_of, Parsed, Done, Refused}
use Rattle.domain_due.proofs.Dues.{not_number, not_end, answer_done, answer_refused}
use Rattle.domain_meaning.specs.Actions.{Lasting}
use Rattle.domain_meaning.specs.Actions as A
use Rattle.plan_meaning.specs.Lines.{mark, line_end, duration_in, span_of}
use Rattle.plan_lines.specs.Knowing.{lasts_of}
use Rattle.plan_lines.specs.Reading.{AmountAnswer, span_answer, lasting_read}
use Rattle.plan_lines.proofs.Marks.{not_mark}

pub amount_refused : (r : Parsed) (k p : ℕ) → r ≡ Refused k p → AmountAnswer r
amount_refused r k p e = rw e tt

-- ---- after the bracket

module _ (s : List ℕ) (at : ℕ) where
  pub duration_else : (t : Token) (r : Parsed) → t ≡ plan_token_at s at → OneOf (0 ∷ 2 ∷ 3 ∷ 4 ∷ 5 ∷ 6 ∷ []) (tag_of token-type.the_type t)
      → r ≡ Refused (number_of 1 t) (place_of t) → (r ≡ span_answer (duration_in s at)) × AmountAnswer r
  unfolding duration_in
  duration_else t r e o q = (rw (← e, not_number t _ _ o) q, amount_refused r _ _ q)

  module _ (z : ℤ) (p e d : ℕ) (q : plan_token_at s at ≡ T.Number z p e) (v : d ≡ nat_abs z) where
    pub duration_zero : d ≡ 0 → (Refused 17 p ≡ span_answer (duration_in s at)) × Unit {0}
    unfolding duration_in
    duration_zero h = (rw (q, ← v, eq-eqb d 0 h), tt)

    module _ (some : d ≡ 0 → ⊥) where
      pub duration_open : (k b : ℕ) → answer_of (mark s 93 e) ≡ Refused k b → (Refused k b ≡ span_answer (duration_in s at)) × Unit {0}
      unfolding duration_in
      duration_open k b m = (rw (q, ← v, ne_eqb d 0 some, answer_refused (mark s 93 e) k b m), tt)

      module _ (a w : ℕ) (m : answer_of (mark s 93 e) ≡ Done a w) where
        pub duration_on : (k b : ℕ) → answer_of (line_end s a) ≡ Refused k b → (Refused k b ≡ span_answer (duration_in s at)) × Unit {0}
        unfolding duration_in
        duration_on k b l = (rw (q, ← v, ne_eqb d 0 some, answer_done (mark s 93 e) a w m, answer_refused (line_end s a) k b l), tt)

        pub duration_read : (n x : ℕ) → answer_of (line_end s a) ≡ Done n x → d < 1000000000000 → (Done n d ≡ span_answer (duration_in s at)) × (d < 1000000000000)
        unfolding duration_in
        duration_read n x l h = (rw (q, ← v, ne_eqb d 0 some, answer_done (mark s 93 e) a w m, answer_done (line_end s a) n x l), h)

-- ---- the bracket, or the line's end

module _ (s : List ℕ) (at : ℕ) where
  pub lasting_missing : (b : Bool) (p : ℕ) → plan_token_at s at ≡ T.End p → b ≡ true → (Refused 17 p ≡ span_answer (lasting_read s b at)) × Unit {0}
  unfolding lasting_read
  lasting_missing b p e h = (rw (e, h), tt)

  pub lasting_none : (b : Bool) (p : ℕ) → plan_token_at s at ≡ T.End p → b ≡ false → Done p 0 ≡ span_answer (lasting_read s b at)
  unfolding lasting_read
  lasting_none b p e h = rw (e, h)

  pub lasting_else : (b : Bool) (t : Token) (r : Parsed) → t ≡ plan_token_at s at → OneOf (0 ∷ 1 ∷ 2 ∷ 3 ∷ 4 ∷ 5 ∷ []) (tag_of token-type.the_type t)
      → OneOf (0 ∷ 1 ∷ 2 ∷ 3 ∷ 5 ∷ 6 ∷ []) (tag_of token-type.the_type t)
      → r ≡ Refused (number_of 1 t) (place_of t) → (r ≡ span_answer (lasting_read s b at)) × AmountAnswer r
  unfolding lasting_read
  lasting_else b t r e o k q = (rw (← e, not_end t _ _ o, not_mark t _ _ k) q, amount_refused r _ _ q)

  module _ (c p n : ℕ) (e : plan_token_at s at ≡ T.Mark c p n) where
    pub lasting_other : (b : Bool) → (c ≡ 91 → ⊥) → Refused 3 p ≡ span_answer (lasting_read s b at)
    unfolding lasting_read
    lasting_other true h = rw (e, ne_eqb c 91 h)
    lasting_other false h = rw (e, ne_eqb c 91 h)

    pub lasting_read_lem : (b : Bool) → c ≡ 91 → b ≡ true → duration_in s n ≡ lasting_read s b at
    unfolding lasting_read
    lasting_read_lem b h k = rw (e, k, eq-eqb c 91 h)

    pub lasting_needless : (b : Bool) → c ≡ 91 → b ≡ false → Refused 17 p ≡ span_answer (lasting_read s b at)
    unfolding lasting_read
    lasting_needless b h k = rw (e, k, eq-eqb c 91 h)

-- whether it is a durative action is all that counts
pub span_lasting : (s : List ℕ) (l : Lasting) (at : ℕ) → lasting_read s (lasts_of l) at ≡ span_of s l at
unfolding lasting_read span_of
span_lasting s A.moment at = refl
span_lasting s (A.rule e) at = refl
