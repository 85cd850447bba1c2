-- A bracket and the word after it, by which the rest is read. Assumes nothing.
use mathlib.Core.Path.{◌≡◌, ap}
use mathlib.Core.List.{List, [], ◌∷◌}
use Prim.Native.Nat.{ℕ, zero, suc, ◌-◌, ◌<◌}
use native.Mathlib.Omega.{arith}
use types.Run.{OneOf}
use denote.Enum.Declared.{tag_of}
use Rattle.domain_meaning.proofs.Readings.{never}
use Rattle.text_tokens.specs.Tokens.{token_at}
use Rattle.text_tokens.specs.declared.tokens.Word.{Word}
use Rattle.text_tokens.specs.declared.tokens.Token.{Token}
use Rattle.text_tokens.specs.declared.tokens.Token.TheVariants as T
use Rattle.text_tokens.specs.contracts.tokens.Token as token-type
use Rattle.domain_meaning.specs.Read.{◌>>=◌, Reader, got, refused, refuse}
use Rattle.domain_meaning.specs.Due.{token, number_of, place_of, after_of, wrong, on_open, on_word, opening}
use Rattle.domain_due.proofs.Dues.{not_word}

shut : (t : Token) (n v a : ℕ) → on_open t (λ p. refuse 12 p) (wrong 0 t) n ≡ got v a → ⊥
shut (T.Word k p e) n v a h = never h
shut (T.Number z p e) n v a h = never h
shut (T.Open p e) n v a h = never h
shut (T.Close p e) n v a h = never h
shut (T.Mark b p e) n v a h = never h
shut (T.Refusal k p) n v a h = never h
shut (T.End p) n v a h = never h

-- a bracket that was read was not too deep
pub opened_deep : (s : List ℕ) (d at v a : ℕ) → opening s d at ≡ got v a → 0 < d
unfolding opening
opened_deep s zero at v a h = absurd (shut (token_at s at) (after_of (token_at s at)) v a h)
opened_deep s (suc d) at v a h = omega arith

module _ {B : Type 0} (s : List ℕ) (d at : ℕ) (f : Word → ℕ → ℕ → Reader B) where
  abbrev pub opened : Reader B
  opened = do
    _ ← opening s d
    t ← token s
    on_word t f (wrong (d - 1) t)

  pub opened_refused : (k p : ℕ) → opening s d at ≡ refused k p → opened at ≡ refused k p
  opened_refused k p e = rw e

  module _ (v a : ℕ) (o : opening s d at ≡ got v a) where
    pub opened_else : (t : Token) → t ≡ token_at s a → OneOf (1 ∷ 2 ∷ 3 ∷ 4 ∷ 5 ∷ 6 ∷ []) (tag_of token-type.the_type t)
        → opened at ≡ refused (number_of (d - 1) t) (place_of t)
    opened_else t e h = rw (o, ← e) (ap (λ (x : Reader B). x (after_of t)) (not_word t f (refuse (number_of (d - 1) t) (place_of t)) h))

    pub opened_word : (k : Word) (p e : ℕ) → token_at s a ≡ T.Word k p e → opened at ≡ f k p e e
    opened_word k p e q = rw (o, q)
