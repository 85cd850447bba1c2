-- What is answered of a domain's text, and what was stored of it.
use Rattle.std.specs.Prelude.{◌≡◌, ℕ, ◌≤◌, List, false, length, Result, Ok, Err}
use Rattle.std.proofs.lemmas.List.Edits.{sets}
use Rattle.text_tokens.specs.Runs.{part}
use Rattle.domain_meaning.specs.Read.{Read, got, refused}
use Rattle.domain_meaning.specs.Domain.{Domain, Vocabulary, vocabulary, scope_in}
use Rattle.domain_meaning.specs.Problem.{scope_of}
use Rattle.domain_due.specs.declared.Refusal.{Refusal}
use Rattle.domain_due.specs.Answers.{at}
use Rattle.domain_rows.specs.Held.{Holds}
use Rattle.domain_terms.specs.Scoped.{Scoped}
use Rattle.domain_terms.specs.declared.scope.Counts.{Counts}
use Rattle.domain_stored_meaning.specs.Cells.{actions_cells, starts_of}
use Rattle.domain_preamble.specs.Beginning.{counts_of}
use Rattle.domain_actions.specs.Acted.{declarations}
use Rattle.domain_rows.specs.Layout.{tables_length}

-- what is answered of a domain's text
abbrev pub Known : Type 0
Known = Result (ℕ × ℕ × Counts × ℕ) Refusal

-- its name from, to; how many names each table has; how many actions there are
pattern abbrev pub Done : ℕ → ℕ → Counts → ℕ → Known
Done from to counts acting = Ok (from, to, counts, acting)

-- the refusal's number and place
abbrev pub Refused : ℕ → ℕ → Known
Refused k p = Err (at k p)

-- how many names each table of a domain has
abbrev pub counts_in : Domain → Counts
counts_in d =
    record {
      types = length d.types;
      objects = length d.constants;
      predicates = length d.predicates;
      functions = length d.functions;
      variables = 0;
      in_action = false;
    }

-- what is declared before the actions was read up to `at`
pub record Preceded (s : List ℕ) (at p e : ℕ) (counts : Counts) (tables : List ℕ) (v : Vocabulary) : Type 0 where
  pub is : vocabulary s 0 ≡ got v at
  pub counted : counts ≡ counts_of v
  pub name : part s p e ≡ v.name
  pub named : e ≤ length s
  pub scope : Scoped tables counts (scope_in v)
  pub long : length tables ≡ tables_length

-- the domain was read: its name from, to, its tables, the rows of its actions, their cells and where these begin
pub record Knowing (s code starts : List ℕ) (r : Known) (tables' rows' code' starts' : List ℕ) (d : Domain) : Type 0 where
  pub from : ℕ
  pub to : ℕ
  pub is : r ≡ Done from to (counts_in d) (length d.actions)
  pub name : part s from to ≡ d.name
  pub named : to ≤ length s
  pub scope : Scoped tables' (counts_in d) (scope_of d d.constants)
  pub long : length tables' ≡ tables_length
  pub rows : Holds 32 rows' (length d.actions) (declarations d.actions)
  pub cells : code' ≡ sets code 0 (actions_cells d.actions)
  pub places : starts' ≡ sets starts 0 (starts_of 0 d.actions)
  pub few : length (actions_cells d.actions) ≤ length s
  pub short : length s ≤ 32768

unfoldable pub Knows : List ℕ → List ℕ → List ℕ → Known → List ℕ → List ℕ → List ℕ → List ℕ → Read Domain → Type 0
Knows s code starts r tables' rows' code' starts' (got d n) = Knowing s code starts r tables' rows' code' starts' d
Knows s code starts r tables' rows' code' starts' (refused k p) = r ≡ Refused k p
