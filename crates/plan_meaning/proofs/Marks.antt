-- What holds of whatever is read where a mark may stand. Assumes nothing.
use Prim.Native.Nat.{ℕ}
use Rattle.text_tokens.specs.declared.tokens.Token.{Token}
use Rattle.text_tokens.specs.declared.tokens.Token.TheVariants as T
use Rattle.domain_meaning.specs.Read.{Reader}
use Rattle.domain_meaning.proofs.Given.{Given}
use Rattle.plan_meaning.specs.Lines.{on_mark}

-- R holds of the token
module _ {A : Type 0} {P : A → ℕ → Type 0} {Q : ℕ → ℕ → Type 0} (R : Token → Type 0) where
  pub given_mark : (t : Token) (f : ℕ → ℕ → Reader A) (g : Reader A) (n : ℕ) → R t → ((b p e : ℕ) → R (T.Mark b p e) → Given P Q (f b p n))
      → Given P Q (g n) → Given P Q (on_mark t f g n)
  given_mark (T.Word k p e) f g n r h o = o
  given_mark (T.Number z p e) f g n r h o = o
  given_mark (T.Open p e) f g n r h o = o
  given_mark (T.Close p e) f g n r h o = o
  given_mark (T.Mark b p e) f g n r h o = h b p e r
  given_mark (T.Refusal k p) f g n r h o = o
  given_mark (T.End p) f g n r h o = o
