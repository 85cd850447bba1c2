-- The ways to a part, or to parts, by the word after the bracket. Assumes nothing.
use Rattle.std.specs.Prelude.{Err}
use mathlib.Core.Path.{◌≡◌}
use mathlib.Core.List.{List, [], ◌∷◌}
use mathlib.Core.Bool.{Bool, true, false, cond}
use Prim.Native.Nat.{ℕ, ◌+◌, ◌-◌, ◌≤◌}
use native.Mathlib.Omega.{arith}
use lib.ListN.{length}
use types.Run.{OneOf}
use denote.Enum.Declared.{tag_of}
use Rattle.text_words.specs.Bytes.{bytes}
use Rattle.text_words.specs.Spelling.{same_word}
use Rattle.text_tokens.specs.Runs.{part}
use Rattle.text_tokens.specs.Tokens.{token_at}
use Rattle.text_tokens.specs.declared.tokens.Word.{Word}
use Rattle.text_tokens.specs.declared.tokens.Token.{Token}
use Rattle.text_tokens.specs.declared.tokens.Token.TheVariants as T
use Rattle.text_tokens.specs.contracts.tokens.Token as token-type
use Rattle.domain_meaning.specs.Read.{Reader, got, refused}
use Rattle.domain_meaning.specs.Due.{number_of, place_of, opening}
use Rattle.domain_meaning.specs.Terms.{Counted}
use Rattle.domain_meaning.specs.Actions.{Timed, part_behind, part_at, parts_to, parts}
use Rattle.domain_expressions.specs.Codes.{Written, Spent}
use Rattle.domain_expressions.specs.Codes.{Progress}
use Rattle.domain_expressions.specs.Codes.{Done, Refused}
use Rattle.domain_expressions.proofs.Ends.{written_refused}
use Rattle.domain_timed_parts.specs.Bodies.{timed_cells}
use Rattle.domain_timed_parts.proofs.Opening.{opened_refused, opened_else, opened_word}

-- what was read from a later place on was read from an earlier one on
pub spent_back : (r : Progress) (n u at from : ℕ) → from ≤ at → Spent 0 n u at r → Spent 0 n u from r
unfolding Spent
spent_back (Done a v l) n u at from le h = (omega (arith, h.0), h.1, h.2, omega (arith, h.3))
spent_back (Err why) n u at from le h = tt

module _ (s : List ℕ) (over : Bool) (f : ℕ → ℕ → Reader (Counted (List ℕ))) (d n at : ℕ) (code : List ℕ) (u : ℕ) where
  abbrev one : Word → ℕ → ℕ → Reader (Counted (List (Timed (List ℕ))))
  one k p e = part_behind s over f (d - 1) n p e

  abbrev several : Word → ℕ → ℕ → Reader (Counted (List (Timed (List ℕ))))
  several k p e = cond (same_word (part s p e) (bytes "and")) (parts_to s over f (length s + 1) (d - 1) n) (part_behind s over f (d - 1) n p e)

  pub part_unopened : (r : Progress) (k p : ℕ) → opening s d at ≡ refused k p → r ≡ Refused k p → Written timed_cells code u r code (part_at s over f d n at)
  unfolding part_at
  part_unopened r k p o e = written_refused timed_cells code u r code _ k p (opened_refused s d at one k p o) e

  pub parts_unopened : (r : Progress) (k p : ℕ) → opening s d at ≡ refused k p → r ≡ Refused k p → Written timed_cells code u r code (parts s over f d n at)
  unfolding parts
  parts_unopened r k p o e = written_refused timed_cells code u r code _ k p (opened_refused s d at several k p o) e

  module _ (v a : ℕ) (o : opening s d at ≡ got v a) where
    module _ (t : Token) (q : t ≡ token_at s a) (h : OneOf (1 ∷ 2 ∷ 3 ∷ 4 ∷ 5 ∷ 6 ∷ []) (tag_of token-type.the_type t)) (r : Progress)
        (e : r ≡ Refused (number_of (d - 1) t) (place_of t)) where
      pub part_else : Written timed_cells code u r code (part_at s over f d n at)
      unfolding part_at
      part_else = written_refused timed_cells code u r code _ (number_of (d - 1) t) (place_of t) (opened_else s d at one v a o t q h) e

      pub parts_else : Written timed_cells code u r code (parts s over f d n at)
      unfolding parts
      parts_else = written_refused timed_cells code u r code _ (number_of (d - 1) t) (place_of t) (opened_else s d at several v a o t q h) e

    module _ (k : Word) (p e : ℕ) (q : token_at s a ≡ T.Word k p e) (r : Progress) (m : List ℕ) where
      pub part_headed : Written timed_cells code u r m (part_behind s over f (d - 1) n p e e) → Written timed_cells code u r m (part_at s over f d n at)
      unfolding part_at
      part_headed w = rw (opened_word s d at one v a o k p e q) w

      pub parts_several : same_word (part s p e) (bytes "and") ≡ true → Written timed_cells code u r m (parts_to s over f (length s + 1) (d - 1) n e)
          → Written timed_cells code u r m (parts s over f d n at)
      unfolding parts
      parts_several h w = rw (opened_word s d at several v a o k p e q) (rw h w)

      pub parts_one : same_word (part s p e) (bytes "and") ≡ false → Written timed_cells code u r m (part_behind s over f (d - 1) n p e e)
          → Written timed_cells code u r m (parts s over f d n at)
      unfolding parts
      parts_one h w = rw (opened_word s d at several v a o k p e q) (rw h w)
