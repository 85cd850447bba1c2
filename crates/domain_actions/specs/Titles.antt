-- An action's name and its parameters, in front of all else that is said of it; what a function answers of them and what it stores.
use Rattle.std.specs.Prelude.{◌≡◌, ℕ, ◌+◌, ◌≤◌, ◌<◌, List, [], ◌∷◌, ◌++◌, true, length, Err}
use Rattle.domain_meaning.specs.Read.{◌>>=◌, Read, Reader, got, refused, give}
use Rattle.domain_meaning.specs.Tables.{Table, fresh}
use Rattle.domain_meaning.specs.Due.{opening, fixed, new_name}
use Rattle.domain_meaning.specs.Lists.{variables_to, signature}
use Rattle.domain_meaning.specs.Terms.{Scope}
use Rattle.domain_meaning.specs.Actions.{within}
use Rattle.domain_due.specs.Answers.{Parsed}
use Rattle.domain_due.specs.Answers.{Done, Refused}
use Rattle.domain_rows.specs.Held.{Holds}
use Rattle.domain_terms.specs.Scoped.{Scoped}
use Rattle.domain_terms.specs.declared.scope.Counts.{Counts}

pub record Title : Type 0 where
  pub word : List ℕ
  pub variables : Table

-- "actions 32 of at most 4 parameters"; t has the actions before this one
unfoldable pub title_of : List ℕ → Scope → Table → Reader Title
title_of s c t = do
  n ← new_name s 14
  _ ← fresh 32 t n.place n.word
  _ ← fixed s 14 ":parameters"
  _ ← opening s 14
  vs ← variables_to s c.types 4
  give (record { word = n.word; variables = vs })

-- the counts in an action with v parameters
abbrev pub acting : Counts → ℕ → Counts
acting n v = record { types = n.types; objects = n.objects; predicates = n.predicates; functions = n.functions; variables = v; in_action = true }

-- the parameters were read: own is the scope of the action
unfoldable pub Owned : Scope → Counts → List ℕ → Read Table → Type 0
Owned c n own (got vs m) = Scoped own (acting n (length vs)) (within c vs)
Owned c n own (refused k p) = Unit {0}

-- an action more, with its scope
pub record Entered (c : Scope) (counts : Counts) (n : ℕ) (t : Table) (r : Parsed) (rows' own' : List ℕ) (h : Title) (m : ℕ) : Type 0 where
  pub answer : r ≡ Done m (length h.variables)
  pub room : n < 32
  pub rows : Holds 32 rows' (n + 1) (t ++ signature h.word h.variables ∷ [])
  pub own : Scoped own' (acting counts (length h.variables)) (within c h.variables)

unfoldable pub Titled : Scope → Counts → ℕ → Table → Parsed → List ℕ → List ℕ → Read Title → Type 0
Titled c counts n t r rows' own' (got h m) = Entered c counts n t r rows' own' h m
Titled c counts n t r rows' own' (refused k p) = r ≡ Refused k p

-- four tokens at least were read, within the text's n bytes
unfoldable pub Beyond : ℕ → ℕ → Parsed → Type 0
Beyond n at (Done a v) = (at + 4 ≤ a) × (a ≤ n)
Beyond n at (Err why) = Unit {0}
