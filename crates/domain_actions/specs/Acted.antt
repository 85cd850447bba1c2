-- What is answered of actions, and what was stored of them.
use Rattle.std.specs.Prelude.{◌≡◌, ℕ, ◌+◌, ◌*◌, ◌≤◌, ◌<◌, List, [], ◌∷◌, ◌++◌, map, Bool, true, false, length, None, Option, Some, Err}
use Rattle.std.proofs.lemmas.List.Edits.{sets}
use Rattle.domain_meaning.specs.Read.{Read, Reader, got, refused, and_then}
use Rattle.domain_meaning.specs.Tables.{Entry}
use Rattle.domain_meaning.specs.Terms.{Scope}
use Rattle.domain_meaning.specs.Conditions.{Cond, condition}
use Rattle.domain_meaning.specs.Effects.{Effect, effect}
use Rattle.domain_meaning.specs.Actions.{Timed, Action, action, when_field, one_condition, one_instant, tree_of, parts, simple_body, durative_body}
use Rattle.domain_meaning.specs.Domain.{actions_to}
use Rattle.domain_due.specs.Answers.{Parsed}
use Rattle.domain_due.specs.Answers.{Done, Refused}
use Rattle.domain_rows.specs.Held.{Holds}
use Rattle.domain_stored_meaning.specs.Cells.{action_cells, start_of, actions_cells, starts_of}

-- the condition's field, of a durative action or a simple one
unfoldable pub conditions_of : Bool → List ℕ → Scope → Reader (List (Timed Cond))
conditions_of true s c = when_field s ":condition" (tree_of (parts s true (λ d n. condition d s c n) 14 32))
conditions_of false s c = when_field s ":precondition" (one_condition s c)

-- the effect's
unfoldable pub effects_of : Bool → List ℕ → Scope → Reader (List (Timed (List Effect)))
effects_of true s c = when_field s ":effect" (tree_of (parts s false (λ d n. effect d s c n) 14 16))
effects_of false s c = when_field s ":effect" (one_instant s c)

-- what stands after an action's parameters
unfoldable pub rest_of : Bool → List ℕ → Scope → Entry → Reader Action
rest_of true s c e = durative_body s c e
rest_of false s c e = simple_body s c e

-- an action with the name and parameters of e was read: its cells were stored from `used` on, and where they begin as number n
unfoldable pub Bodied : Entry → List ℕ → ℕ → List ℕ → ℕ → Parsed → List ℕ → List ℕ → Read Action → Type 0
Bodied e code used starts n r code' starts' (got a m) =
    (r ≡ Done m (used + length (action_cells a))) × (code' ≡ sets code used (action_cells a))
    × (starts' ≡ sets starts (3 * n) (start_of used a)) × (a.declared ≡ e)
Bodied e code used starts n r code' starts' (refused k p) = r ≡ Refused k p

-- the place after is within the text's n bytes and not before `at`; at most `more` cells more were written than bytes were read
unfoldable pub Ended : ℕ → ℕ → ℕ → ℕ → Parsed → Type 0
Ended more n used at (Done a v) = (at ≤ a) × (a ≤ n) × (used ≤ v) × (v + at ≤ used + a + more)
Ended more n used at (Err why) = Unit {0}

-- the names and parameters of actions
abbrev pub declarations : List Action → List Entry
declarations as' = map (λ a. a.declared) as'

-- an action more, after as'
pub record Added (as' : List Action) (code : List ℕ) (used : ℕ) (starts : List ℕ)
    (r : Parsed) (rows' code' starts' : List ℕ) (bs : List Action) (m : ℕ) : Type 0 where
  pub action : Action
  pub is : bs ≡ as' ++ action ∷ []
  pub answer : r ≡ Done m (used + length (action_cells action))
  pub rows : Holds 32 rows' (length as' + 1) (declarations bs)
  pub cells : code' ≡ sets code used (action_cells action)
  pub places : starts' ≡ sets starts (3 * length as') (start_of used action)

unfoldable pub Adds : List Action → List ℕ → ℕ → List ℕ → Parsed → List ℕ → List ℕ → List ℕ → Read (List Action) → Type 0
Adds as' code used starts r rows' code' starts' (got bs m) = Added as' code used starts r rows' code' starts' bs m
Adds as' code used starts r rows' code' starts' (refused k p) = r ≡ Refused k p

-- all actions: how many there are, their rows, their cells and where these begin
pub record Stored (n : ℕ) (code starts : List ℕ) (r : Parsed) (rows' code' starts' : List ℕ) (bs : List Action) (m : ℕ) : Type 0 where
  pub answer : r ≡ Done m (length bs)
  pub rows : Holds 32 rows' (length bs) (declarations bs)
  pub cells : code' ≡ sets code 0 (actions_cells bs)
  pub places : starts' ≡ sets starts 0 (starts_of 0 bs)
  pub few : length (actions_cells bs) ≤ n

unfoldable pub Stores : ℕ → List ℕ → List ℕ → Parsed → List ℕ → List ℕ → List ℕ → Read (List Action) → Type 0
Stores n code starts r rows' code' starts' (got bs m) = Stored n code starts r rows' code' starts' bs m
Stores n code starts r rows' code' starts' (refused k p) = r ≡ Refused k p

-- how the rest of the actions, as' being read, begins
unfoldable pub Begins : List ℕ → Scope → List Action → ℕ → Option (Bool × ℕ) → Read (List Action) → ℕ → Type 0
Begins s c as' k (Some (durative, e)) x at = x ≡ and_then (action s c durative as' e) (λ bs. actions_to k s c bs)
Begins s c as' k None x at = x ≡ got as' at

-- its word ends within the text's n bytes, past `from`
unfoldable pub Further : ℕ → ℕ → Option (Bool × ℕ) → Type 0
Further n from (Some (durative, e)) = (from < e) × (e ≤ n)
Further n from None = Unit {0}

-- the place after is within the text's n bytes and not before `at`
unfoldable pub Later : ℕ → ℕ → Parsed → Type 0
Later n at (Done a v) = (at ≤ a) × (a ≤ n)
Later n at (Err why) = Unit {0}
