-- What is prepared with first indexes that were laid. Assumes nothing.
use mathlib.Core.Path.{◌≡◌, ap, ◌∙◌}
use mathlib.Core.List.{List}
use Prim.Native.Nat.{ℕ}
use lib.ListN.{set, get_or, take, drop}
use lib.Seq.{sets}
use Rattle.domain_meaning.specs.Tables.{Table}
use Rattle.domain_meaning.specs.Conditions.{Cond}
use Rattle.domain_meaning.specs.Actions.{Action}
use Rattle.domain_indexes.specs.Firsts.{firsts_of}
use Rattle.domain_prepared_meaning.specs.Preparing.{singles}
use Rattle.domain_prepared_meaning.specs.Rows.{tests_bytes, all_places, actions_bytes, lists_at}
use Rattle.domain_load.specs.Load.{zeros, predicate_firsts, function_firsts, prepared_actions, prepared_goal}
use Rattle.domain_load.proofs.Laying.{predicates_in_lem, functions_in_lem, count_in_lem}

module _ (n : ℕ) (ps fs : Table) (firsts : List ℕ) (e : firsts ≡ firsts_of n ps fs) where
  pub count_is : get_or firsts 48 0 ≡ n
  count_is = ap (λ (l : List ℕ). get_or l 48 0) e ∙ count_in_lem n ps fs

  predicates_are : take 32 firsts ≡ predicate_firsts n ps
  predicates_are = ap (λ (l : List ℕ). take 32 l) e ∙ predicates_in_lem n ps fs

  functions_are : take 16 (drop 32 firsts) ≡ function_firsts n fs
  functions_are = ap (λ (l : List ℕ). take 16 (drop 32 l)) e ∙ functions_in_lem n ps fs

  pub rows_prepared : (rows : List ℕ) (as' : List Action)
      → rows ≡ sets (sets (set (zeros 33153) 0 (get_or firsts 48 0)) 1
      (all_places (get_or firsts 48 0) (take 32 firsts) (take 16 (drop 32 firsts)) lists_at as')) lists_at
      (actions_bytes (get_or firsts 48 0) (take 32 firsts) (take 16 (drop 32 firsts)) as')
      → rows ≡ prepared_actions n ps fs as'
  unfolding prepared_actions
  rows_prepared rows as' h =
      h ∙ (λ i. sets (sets (set (zeros 33153) 0 (count_is i)) 1 (all_places (count_is i) (predicates_are i) (functions_are i) lists_at as')) lists_at
      (actions_bytes (count_is i) (predicates_are i) (functions_are i) as'))

  pub goal_prepared : (goal : List ℕ) (c : Cond)
      → goal ≡ sets (zeros 7233) 0 (tests_bytes (get_or firsts 48 0) (take 32 firsts) (take 16 (drop 32 firsts)) (singles c)) → goal ≡ prepared_goal n ps fs c
  unfolding prepared_goal
  goal_prepared goal c h = h ∙ (λ i. sets (zeros 7233) 0 (tests_bytes (count_is i) (predicates_are i) (functions_are i) (singles c)))
