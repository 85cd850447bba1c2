-- What the writers of rows promise: bytes stored one after the other, and how far they may go and have gone. A store past the end of the rows stores
-- nothing, so none asks for room in them; what is asked is that the places are numbers that the machine has.
use Rattle.std.specs.Prelude.{◌≡◌, ℕ, ◌+◌, ◌*◌, ◌≤◌, List, [], ◌∷◌, ◌++◌, Bool, cond, length, get_or, take, drop}
use Rattle.std.proofs.lemmas.List.Edits.{sets}
use Rattle.domain_meaning.specs.Terms.{Arg, object, variable, Ref, Expr}
use Rattle.domain_meaning.specs.Conditions.{Cond, Conds}
use Rattle.domain_meaning.specs.Effects.{Effect}
use Rattle.domain_meaning.specs.Actions.{Action}
use Rattle.domain_stored_meaning.specs.Decode.{Decoded}
use Rattle.domain_forms.specs.Stored.{Stored, count_in, predicates_in, functions_in}
use Rattle.domain_prepared_meaning.specs.Preparing.{singles, singles_of}
use Rattle.domain_prepared_meaning.specs.Rows.{two_bytes, expr_bytes, test_bytes, effect_bytes, sizes, places_from, action_bytes, all_places, actions_bytes}

-- what was read is d: its bytes were stored, and the place after it is answered with the first free place
pub record Copies {A : Type 0} (bytes : A → List ℕ) (rows : List ℕ) (used : ℕ) (d : Decoded A) (rows' : List ℕ) (next free : ℕ) : Type 0 where
  pub stored : Stored rows used (bytes d.tree) rows' free
  pub ends : next ≡ d.next

-- ---- how far: of n cells, those from `at` on are still to be read. A row has at most six bytes for each of its cells, and what is read last may
-- reach past the end, by at most 8

pub record Room (n at used : ℕ) : Type 0 where
  pub near : at ≤ n + 8
  pub left : used + 6 * (n + 10) ≤ 18446744073709551615 + 6 * at

-- cells were read up to `next`, and for them bytes written up to `free`: at most six for each, and so many more
pub record Spent (more n at used next free : ℕ) : Type 0 where
  pub near : next ≤ n + 8
  pub few : free + 6 * at ≤ used + 6 * next + more

-- ---- lists of bytes without the 0 at their end

module _ (n : ℕ) (ps fs : List ℕ) where
  unfoldable pub open_tests : List Cond → List ℕ
  open_tests [] = []
  open_tests (c ∷ cs) = test_bytes n ps fs c ++ open_tests cs

  unfoldable pub open_effects : List Effect → List ℕ
  open_effects [] = []
  open_effects (e ∷ es) = effect_bytes n ps fs e ++ open_effects es

-- ---- the bytes of each, by the first indexes

module _ (firsts : List ℕ) where
  abbrev pub expr_in : Expr → List ℕ
  expr_in e = expr_bytes (count_in firsts) (predicates_in firsts) (functions_in firsts) e

  abbrev pub cond_in : Cond → List ℕ
  cond_in c = open_tests (count_in firsts) (predicates_in firsts) (functions_in firsts) (singles c)

  abbrev pub conds_in : Conds → List ℕ
  conds_in cs = open_tests (count_in firsts) (predicates_in firsts) (functions_in firsts) (singles_of cs)

  abbrev pub effect_in : Effect → List ℕ
  effect_in e = effect_bytes (count_in firsts) (predicates_in firsts) (functions_in firsts) e

  abbrev pub effects_in : List Effect → List ℕ
  effects_in es = open_effects (count_in firsts) (predicates_in firsts) (functions_in firsts) es

-- what stands in several parts, one after the other
unfoldable pub all_of : {A : Type 0} → (A → List ℕ) → List A → List ℕ
all_of bytes [] = []
all_of bytes (x ∷ xs) = bytes x ++ all_of bytes xs

-- ---- actions

-- numbers of two bytes each
abbrev pub words_of : List ℕ → List ℕ
words_of [] = []
words_of (x ∷ xs) = two_bytes x ++ words_of xs

-- the lists of a were stored from `used` on, and their places as those of action j
pub record Acted (n : ℕ) (ps fs rows : List ℕ) (j used : ℕ) (a : Action) (rows' : List ℕ) (free : ℕ) : Type 0 where
  pub are : rows' ≡ sets (sets rows (1 + 12 * j) (places_from n ps fs used (sizes n ps fs a))) used (action_bytes n ps fs a)
  pub ends : free ≡ used + length (action_bytes n ps fs a)

-- the rows when those of all actions are stored, from number j on
abbrev pub all_acted : ℕ → List ℕ → List ℕ → List ℕ → ℕ → ℕ → List Action → List ℕ
all_acted n ps fs rows j used as' = sets (sets rows (1 + 12 * j) (all_places n ps fs used as')) used (actions_bytes n ps fs as')
