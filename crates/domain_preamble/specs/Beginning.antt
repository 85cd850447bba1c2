-- What is answered of a domain's text up to its actions, and what its tables hold then, by what the definition says is read.
use Rattle.std.specs.Prelude.{◌≡◌, ℕ, ◌≤◌, List, false, length, Result, Ok, Err}
use Rattle.text_tokens.specs.Runs.{part}
use Rattle.domain_meaning.specs.Read.{Read, got, refused}
use Rattle.domain_meaning.specs.Due.{Name}
use Rattle.domain_meaning.specs.Domain.{Vocabulary, scope_in}
use Rattle.domain_due.specs.declared.Refusal.{Refusal}
use Rattle.domain_due.specs.Answers.{at}
use Rattle.domain_rows.specs.Held.{Holds}
use Rattle.domain_terms.specs.Scoped.{AllSigned, Scoped}
use Rattle.domain_terms.specs.declared.scope.Counts.{Counts}
use Rattle.domain_rows.specs.Layout.{tables_length}

-- what is answered of a domain's text up to its actions
abbrev pub Preamble : Type 0
Preamble = Result (ℕ × ℕ × ℕ × Counts) Refusal

-- the place after it, the name from, to, and how many names each table has
pattern abbrev pub Done : ℕ → ℕ → ℕ → Counts → Preamble
Done a p e counts = Ok (a, p, e, counts)

-- the refusal's number and place
abbrev pub Refused : ℕ → ℕ → Preamble
Refused k p = Err (at k p)

-- how many names each table has
abbrev pub counts_of : Vocabulary → Counts
counts_of v =
    record {
      types = length v.types;
      objects = length v.constants;
      predicates = length v.predicates;
      functions = length v.functions;
      variables = 0;
      in_action = false;
    }

-- four tables of their own hold what is declared from `from` on, in a domain of the name h, which stands from p to e
pub record Lists (len : ℕ) (h : Name) (from p e : ℕ) (r : Preamble) (ts os ps fs : List ℕ) (v : Vocabulary) (n : ℕ) : Type 0 where
  pub is : r ≡ Done n p e (counts_of v)
  pub name : v.name ≡ h.word
  pub types : Holds 17 ts (length v.types) v.types
  pub objects : Holds 64 os (length v.constants) v.constants
  pub predicates : Holds 32 ps (length v.predicates) v.predicates
  pub functions : Holds 16 fs (length v.functions) v.functions
  pub facts : AllSigned v.predicates
  pub numbers : AllSigned v.functions
  pub onwards : from ≤ n
  pub within : n ≤ len

unfoldable pub Listed : ℕ → Name → ℕ → ℕ → ℕ → Preamble → List ℕ → List ℕ → List ℕ → List ℕ → Read Vocabulary → Type 0
Listed len h from p e r ts os ps fs (got v n) = Lists len h from p e r ts os ps fs v n
Listed len h from p e r ts os ps fs (refused k q) = r ≡ Refused k q

-- the text s was read up to n: its name stands in it, and the tables are those of the scope in which its actions begin
pub record Declared (s : List ℕ) (r : Preamble) (tables : List ℕ) (v : Vocabulary) (n : ℕ) : Type 0 where
  pub from : ℕ
  pub to : ℕ
  pub is : r ≡ Done n from to (counts_of v)
  pub name : part s from to ≡ v.name
  pub named : to ≤ length s
  pub scope : Scoped tables (counts_of v) (scope_in v)
  pub long : length tables ≡ tables_length
  pub past : 6 ≤ n
  pub within : n ≤ length s

unfoldable pub Declares : List ℕ → Preamble → List ℕ → Read Vocabulary → Type 0
Declares s r tables (got v n) = Declared s r tables v n
Declares s r tables (refused k p) = r ≡ Refused k p
