-- What the functions answer, by what the definition of a plan line says is read.
use Rattle.std.specs.Prelude.{◌≡◌, ℕ, ◌<◌, List, Bool, true, false, cond, eqb, ℤ, pos, nat_abs, length, Err}
use Prim.Native.Char.{code}
use Rattle.std.proofs.lemmas.List.Edits.{sets}
use Rattle.text_tokens.specs.Runs.{part}
use Rattle.text_tokens.specs.declared.tokens.Token.{Token}
use Rattle.text_tokens.specs.declared.tokens.Token.TheVariants as T
use Rattle.domain_meaning.specs.Read.{◌>>=◌, Read, Reader, got, refused, give, refuse}
use Rattle.domain_meaning.specs.Tables.{Table, declared}
use Rattle.domain_meaning.specs.Due.{Name, on_word, on_end}
use Rattle.domain_due.specs.Answers.{Parsed, Done, Refused}
use Rattle.plan_meaning.specs.Plan.{Span, moment}
use Rattle.plan_meaning.specs.Lines.{token, misplaced, on_mark, name, duration_in}
use Rattle.plan_meaning.specs.Promised.{duration_of}

-- a number without a sign, of at most nine digits and three decimals
abbrev pub Plain : ℤ → Type 0
Plain z = (z ≡ pos (nat_abs z)) × (nat_abs z < 1000000000000)

abbrev pub Small : Token → Type 0
Small (T.Word k p e) = Unit {0}
Small (T.Number z p e) = Plain z
Small (T.Open p n) = Unit {0}
Small (T.Close p n) = Unit {0}
Small (T.Mark b p n) = Unit {0}
Small (T.Refusal k p) = Unit {0}
Small (T.End p) = Unit {0}

-- a number that was read is one of a plan line
abbrev pub AmountAnswer : Parsed → Type 0
AmountAnswer (Done n a) = a < 1000000000000
AmountAnswer (Err why) = Unit {0}

-- how long a step lasts was read: 0 for a simple action
abbrev pub span_answer : Read Span → Parsed
span_answer (got d n) = Done n (duration_of d)
span_answer (refused k p) = Refused k p

unfoldable pub named_action : List ℕ → Table → Reader ℕ
named_action s t = do
  w ← name s
  declared t w.place w.word

-- `name` of the definition, of a token that was read
abbrev pub name_from : List ℕ → Token → Reader Name
name_from s t = on_word t (λ k p e. give (record { place = p; word = part s p e })) (misplaced t)

-- which of a table's names a token is that was read
unfoldable pub named_by : List ℕ → Table → Token → Reader ℕ
named_by s names t = do
  w ← name_from s t
  declared names w.place w.word

abbrev pub end_read : Bool → ℕ → Reader Span
end_read true p = refuse 17 p
end_read false p = give moment

abbrev pub bracket_read : List ℕ → Bool → ℕ → ℕ → Reader Span
bracket_read s true b p = cond (eqb b (code "[")) (duration_in s) (refuse 3 p)
bracket_read s false b p = cond (eqb b (code "[")) (refuse 17 p) (refuse 3 p)

-- `span_of` of the definition, by whether the action is a durative one
unfoldable pub lasting_read : List ℕ → Bool → Reader Span
lasting_read s lasts = do
  t ← token s
  on_end t (end_read lasts) (on_mark t (bracket_read s lasts) (misplaced t))

-- objects were read: how many, and they are stored from the first place on
unfoldable pub Listed : Parsed → List ℕ → List ℕ → Read (List ℕ) → Type 0
Listed r before after (got os n) = (r ≡ Done n (length os)) × (after ≡ sets before 0 os)
Listed r before after (refused k p) = r ≡ Refused k p
