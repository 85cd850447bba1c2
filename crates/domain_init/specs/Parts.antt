-- The parts of init as readers of their own, and what is known of facts and numbers between them.
use Rattle.std.specs.Prelude.{◌≡◌, ℕ, ◌≤◌, List, [], ◌∷◌, true, ℤ, length}
use Rattle.std.specs.Int.Signed.{lt_z}
use Rattle.text_tokens.specs.Runs.{part}
use Rattle.domain_meaning.specs.Read.{◌>>=◌, Read, Reader, got, refused, give}
use Rattle.domain_meaning.specs.Tables.{Table, declared}
use Rattle.domain_meaning.specs.Due.{token, wrong, opening, closing, on_word, any_name}
use Rattle.domain_meaning.specs.Terms.{Scope, reference}
use Rattle.domain_meaning.specs.Problem.{Valued, Init, once, number_due, with_number, init_word}
use Rattle.domain_meaning.specs.Indexes.{index_of}
use Rattle.domain_rows.specs.Held.{Holds}
use Rattle.domain_terms.specs.Scoped.{AllSigned}
use Rattle.domain_due.specs.Answers.{Parsed}
use Rattle.domain_due.specs.Answers.{Done, Refused}
use Rattle.domain_meaning.specs.First.{undefined, first_facts, first_numbers}
use Rattle.domain_rows.specs.Layout.{tables_length}

-- after its name, number i of a table: the index of a ground fact or number
unfoldable pub ground_behind : List ℕ → ℕ → Scope → Table → ℕ → Reader ℕ
ground_behind s d c t i = do
  r ← reference s d c t i
  give (index_of (length c.objects) t r)

-- its name stands from p to e
unfoldable pub ground_of : List ℕ → ℕ → Scope → Table → ℕ → ℕ → Reader ℕ
ground_of s d c t p e = do
  i ← declared t p (part s p e)
  ground_behind s d c t i

-- after `=`: the index of the number that is given
unfoldable pub target_of : List ℕ → Scope → Init → Reader ℕ
target_of s c x = do
  _ ← opening s 13
  n ← any_name s 12
  f ← declared c.functions n.place n.word
  r ← reference s 12 c c.functions f
  once n.place (index_of (length c.objects) c.functions r) x.numbers

-- its value
unfoldable pub value_for : List ℕ → Init → ℕ → Reader Init
value_for s x i = do
  t ← token s
  z ← number_due t
  _ ← closing s 13
  give (with_number x i z)

-- a fact or a number with its brackets
unfoldable pub entry_of : List ℕ → Scope → Init → Reader Init
entry_of s c x = do
  _ ← opening s 14
  h ← token s
  on_word h (init_word s c x) (wrong 13 h)

-- a table of predicates or functions, from `off` to `to`
pub record Listed (tables : List ℕ) (off to n : ℕ) : Type 0 where
  pub rows : ℕ
  pub table : Table
  pub holds : Holds rows (part tables off to) n table
  pub signed : AllSigned table
  pub few : n ≤ 64
  pub near : off ≤ tables_length

-- no value is that of an undefined number
unfoldable pub Defined : List Valued → Type 0
Defined [] = Unit {0}
Defined (v ∷ vs) = (lt_z undefined v.value ≡ true) × Defined vs

-- what has been read so far is x
pub record Stands (facts : List ℕ) (numbers : List ℤ) (x : Init) : Type 0 where
  pub facts_are : facts ≡ first_facts x
  pub numbers_are : numbers ≡ first_numbers x
  pub defined : Defined x.numbers

-- one more was read
unfoldable pub Took : Parsed → List ℕ → List ℤ → Read Init → Type 0
Took r facts numbers (got x n) = (r ≡ Done n 0) × Stands facts numbers x
Took r facts numbers (refused k p) = r ≡ Refused k p
