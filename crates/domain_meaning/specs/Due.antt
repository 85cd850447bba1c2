-- What is due at a place: a token, a bracket, a word. The number d is that of the levels of brackets that are left: "brackets 16 deep". RULES 3.
use Rattle.std.specs.Prelude.{ℕ, List, Bool, true, false, cond, ℤ, eqb}
use Prim.Native.String.{String}
use Rattle.text_words.specs.Bytes.{bytes}
use Rattle.text_words.specs.Spelling.{same_word}
use Rattle.text_words.specs.Fixed.{is_reserved}
use Rattle.text_tokens.specs.Runs.{part}
use Rattle.text_tokens.specs.Tokens.{token_at}
use Rattle.text_tokens.specs.declared.tokens.Token.{Token}
use Rattle.text_tokens.specs.declared.tokens.Token.TheVariants as T
use Rattle.text_tokens.specs.declared.tokens.Word.{Word}
use Rattle.text_tokens.specs.declared.tokens.Word.TheVariants as W
use Rattle.domain_meaning.specs.Read.{◌>>=◌, Reader, got, give, refuse}

abbrev pub after_of : Token → ℕ
after_of (T.Word k p e) = e
after_of (T.Number z p e) = e
after_of (T.Open p n) = n
after_of (T.Close p n) = n
after_of (T.Mark b p n) = n
after_of (T.Refusal k p) = p
after_of (T.End p) = p

-- the next token, whatever it is
abbrev pub token : List ℕ → Reader Token
token s at = got (token_at s at) (after_of (token_at s at))

-- the next token, which is looked at and not read
abbrev pub peek : List ℕ → Reader Token
peek s at = got (token_at s at) at

-- a token that may not stand here, where d levels are left: its own refusal, 4 at the text's end, 12 for a bracket too deep, else 3
abbrev pub number_of : ℕ → Token → ℕ
number_of d (T.Word k p e) = 3
number_of d (T.Number z p e) = 3
number_of d (T.Open p n) = cond (eqb d 0) 12 3
number_of d (T.Close p n) = 3
number_of d (T.Mark m p n) = 3
number_of d (T.Refusal k p) = k
number_of d (T.End p) = 4

abbrev pub place_of : Token → ℕ
place_of (T.Word k p e) = p
place_of (T.Number z p e) = p
place_of (T.Open p n) = p
place_of (T.Close p n) = p
place_of (T.Mark m p n) = p
place_of (T.Refusal k p) = p
place_of (T.End p) = p

abbrev pub wrong : {A : Type 0} → ℕ → Token → Reader A
wrong d t = refuse (number_of d t) (place_of t)

-- ---- what to do with a token of one kind, and with any other

-- a word: its kind, where it begins and ends
abbrev pub on_word : {A : Type 0} → Token → (Word → ℕ → ℕ → A) → A → A
on_word (T.Word k p e) f a = f k p e
on_word (T.Number z p e) f a = a
on_word (T.Open p n) f a = a
on_word (T.Close p n) f a = a
on_word (T.Mark m p n) f a = a
on_word (T.Refusal k p) f a = a
on_word (T.End p) f a = a

-- a number: its value and its place
abbrev pub on_number : {A : Type 0} → Token → (ℤ → ℕ → A) → A → A
on_number (T.Word k p e) f a = a
on_number (T.Number z p e) f a = f z p
on_number (T.Open p n) f a = a
on_number (T.Close p n) f a = a
on_number (T.Mark m p n) f a = a
on_number (T.Refusal k p) f a = a
on_number (T.End p) f a = a

-- an opening bracket: its place
abbrev pub on_open : {A : Type 0} → Token → (ℕ → A) → A → A
on_open (T.Word k p e) f a = a
on_open (T.Number z p e) f a = a
on_open (T.Open p n) f a = f p
on_open (T.Close p n) f a = a
on_open (T.Mark m p n) f a = a
on_open (T.Refusal k p) f a = a
on_open (T.End p) f a = a

-- a closing bracket: its place
abbrev pub on_close : {A : Type 0} → Token → (ℕ → A) → A → A
on_close (T.Word k p e) f a = a
on_close (T.Number z p e) f a = a
on_close (T.Open p n) f a = a
on_close (T.Close p n) f a = f p
on_close (T.Mark m p n) f a = a
on_close (T.Refusal k p) f a = a
on_close (T.End p) f a = a

-- a refusal: its number and its place
abbrev pub on_refusal : {A : Type 0} → Token → (ℕ → ℕ → A) → A → A
on_refusal (T.Word k p e) f a = a
on_refusal (T.Number z p e) f a = a
on_refusal (T.Open p n) f a = a
on_refusal (T.Close p n) f a = a
on_refusal (T.Mark m p n) f a = a
on_refusal (T.Refusal k p) f a = f k p
on_refusal (T.End p) f a = a

-- the text's end
abbrev pub on_end : {A : Type 0} → Token → (ℕ → A) → A → A
on_end (T.Word k p e) f a = a
on_end (T.Number z p e) f a = a
on_end (T.Open p n) f a = a
on_end (T.Close p n) f a = a
on_end (T.Mark m p n) f a = a
on_end (T.Refusal k p) f a = a
on_end (T.End p) f a = f p

-- ---- what is due

-- an opening bracket; inside it one level less is left. "12 .. first .. bracket too many"
unfoldable pub opening : List ℕ → ℕ → Reader ℕ
opening s d = do
  t ← token s
  on_open t (λ p. cond (eqb d 0) (refuse 12 p) (give p)) (wrong d t)

unfoldable pub closing : List ℕ → ℕ → Reader ℕ
closing s d = do
  t ← token s
  on_close t (λ p. give p) (wrong d t)

abbrev pub is_name_word : Word → Bool
is_name_word W.Name = true
is_name_word W.Variable = false
is_name_word W.Keyword = false
is_name_word W.Operator = false

-- a fixed word
unfoldable pub word_due : List ℕ → ℕ → List ℕ → Reader ℕ
word_due s d w = do
  t ← token s
  on_word t (λ k p e. cond (same_word (part s p e) w) (give p) (refuse 3 p)) (wrong d t)

abbrev pub fixed : List ℕ → ℕ → String → Reader ℕ
fixed s d w = word_due s d (bytes w)

-- a name, where it stands
pub record Name : Type 0 where
  pub place : ℕ
  pub word : List ℕ

-- any name
unfoldable pub any_name : List ℕ → ℕ → Reader Name
any_name s d = do
  t ← token s
  on_word t (λ k p e. cond (is_name_word k) (give (record { place = p; word = part s p e })) (refuse 3 p)) (wrong d t)

-- a name that is declared here; "`and`, `not`, `assign`, `increase` and `decrease` can't be declared (3)"
unfoldable pub new_name : List ℕ → ℕ → Reader Name
new_name s d = do
  n ← any_name s d
  cond (is_reserved n.word) (refuse 3 n.place) (give n)
