-- Signs that are looked for before a plan line's next token is read in full: what the code answers. The tokens themselves are those of `Tokens`.
use Rattle.std.specs.Prelude.{◌≡◌, ℕ, ◌<◌, List, Bool, true, false, cond, eqb}
use Prim.Native.Char.{code}
use Rattle.text_words.specs.Bytes.{kind_of, on_start}
use Rattle.text_tokens.specs.Tokens.{square_of, plan_token_at}

-- a colon or a bracket
unfoldable pub is_sign : ℕ → Bool
is_sign b = cond (eqb b (code ":")) true (on_start (kind_of b) false true false)

-- what is known of the token at p if the sign b was found there; nothing if not
abbrev pub Stands : Bool → List ℕ → ℕ → ℕ → Type 0
Stands true s p b = (p < 256) × (plan_token_at s p ≡ square_of b p)
Stands false s p b = Unit {0}
