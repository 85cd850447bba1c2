-- What load gives of two texts that it takes is read back as the trees that the grammar reads, prepared.
use mathlib.Core.Path.{◌≡◌, refl, sym, ap, ◌∙◌}
use mathlib.Core.List.{List, map}
use Prim.Native.Nat.{ℕ, ◌+◌, ◌≤◌}
use native.Mathlib.Omega.{arith}
use lib.ListN.{length, length-map, length-replicate}
use Rattle.domain_meaning.specs.Read.{got}
use Rattle.domain_meaning.specs.Tables.{Table}
use Rattle.domain_meaning.specs.Conditions.{Cond}
use Rattle.domain_meaning.specs.Actions.{Action}
use Rattle.domain_meaning.specs.Domain.{Domain, read_domain}
use Rattle.domain_meaning.specs.Problem.{Problem, read_problem}
use Rattle.domain_rows.specs.Held.{rows_of}
use Rattle.domain_stored_meaning.proofs.Standing.{stored}
use Rattle.domain_stored_meaning.specs.Entries.{AllTyped, typed_in, signed_in}
use Rattle.domain_stored_meaning.proofs.Back.{typed_back, signed_back}
use Rattle.domain_prepared_meaning.specs.Preparing.{singles, action_of, goal_of}
use Rattle.domain_prepared_meaning.specs.Rows.{tests_bytes, all_places, actions_bytes, lists_at}
use Rattle.domain_prepared_meaning.specs.Decode.{actions_at, goal_at}
use Rattle.domain_prepared_meaning.proofs.Actions.{actions_back, goal_back}
use Rattle.domain_terms.specs.Scoped.{AllSigned}
use Rattle.domain_actions.specs.Acted.{declarations}
use Rattle.domain_read_laws.proofs.Tables.{Fit, Declared}
use Rattle.domain_read_laws.proofs.Whole.{read_fits}
use Rattle.domain_read_laws.proofs.Prepared.{padded_prepare}
use Rattle.domain_load.specs.Load.{zeros, predicate_firsts, function_firsts, prepared_actions, prepared_goal, model_of, loaded_of, load_of}
use Rattle.domain_load.specs.Decode.{Reading, decode, reading_of}
use Rattle.domain_load.proofs.Apart.{types_part, objects_part, predicates_part, functions_part}
use Rattle.domain_load.proofs.Standing.{places_long, count_stands, places_stand, lists_stand}
use Rattle.domain_load.proofs.Loading.{both_loaded}

-- ---- the parts of a reading

typed_fits : (most : ℕ) (t : Table) (rows : List ℕ) → rows ≡ rows_of most t → Fit AllTyped most t → typed_in rows (length t) ≡ t
typed_fits most t rows e f = ap (λ (r : List ℕ). typed_in r (length t)) e ∙ typed_back most t f.few f.short f.kept

signed_fits : (K : Table → Type 0) (most : ℕ) (t : Table) (rows : List ℕ) → rows ≡ rows_of most t → Fit K most t → AllSigned t → signed_in rows (length t) ≡ t
signed_fits K most t rows e f a = ap (λ (r : List ℕ). signed_in r (length t)) e ∙ signed_back most t f.few f.short a

made : (ts us os qs ps rs fs gs : Table) (as' bs : List Action) (c g : Cond) → ts ≡ us → os ≡ qs → ps ≡ rs → fs ≡ gs → as' ≡ bs → c ≡ g
    → ◌≡◌ {A = Reading}
    (record { types = ts; objects = os; predicates = ps; functions = fs; actions = as'; goal = c })
    (record { types = us; objects = qs; predicates = rs; functions = gs; actions = bs; goal = g })
made ts us os qs ps rs fs gs as' bs c g h i j k l m = rw (h, i, j, k, l, m)

module _ (s t : List ℕ) (d : Domain) (p : Problem) (m n : ℕ) (e : read_domain s ≡ got d m) (f : read_problem t d ≡ got p n) where
  abbrev o : ℕ
  o = length p.objects

  abbrev ps : List ℕ
  ps = predicate_firsts o d.predicates

  abbrev fs : List ℕ
  fs = function_firsts o d.functions

  heads_back : Fit AllSigned 32 (declarations d.actions) → signed_in (rows_of 32 (declarations d.actions)) (length d.actions) ≡ declarations d.actions
  heads_back h =
      let k : length d.actions ≡ length (declarations d.actions) = sym (length-map d.actions (λ a. a.declared)) in
      ap (λ (i : ℕ). signed_in (rows_of 32 (declarations d.actions)) i) k
      ∙ signed_back 32 (declarations d.actions) h.few h.short h.kept

  rows_back : actions_at (prepared_actions o d.predicates d.functions d.actions) 0 (declarations d.actions)
      ≡ map (action_of o ps fs) d.actions
  unfolding prepared_actions
  rows_back =
      let g = read_fits s t d p m n e f in
      let places = all_places o ps fs lists_at d.actions in
      let lists = actions_bytes o ps fs d.actions in
      let near : 1 + length places ≤ lists_at =
      omega (arith, places_long o ps fs lists_at d.actions, g.domain.heads.few, length-map d.actions (λ a. a.declared)) in
      let short : length lists ≤ 32768 = g.domain.rows o ps fs in
      let room : lists_at + length lists ≤ length (zeros 33153) = omega (arith, length-replicate {A = ℕ} 33153 0) in
      actions_back o _ (count_stands (zeros 33153) o places lists_at lists near room) ps fs d.actions g.domain.actions (padded_prepare d p g).actions
      (omega arith) (places_stand (zeros 33153) o places lists_at lists near room) (lists_stand (zeros 33153) o places lists_at lists near room)

  goal_read : goal_at (prepared_goal o d.predicates d.functions p.goal) ≡ goal_of o ps fs p.goal
  unfolding prepared_goal
  goal_read =
      let g = read_fits s t d p m n e f in
      let list = tests_bytes o ps fs (singles p.goal) in
      let room : 0 + length list ≤ length (zeros 7233) = omega (arith, g.problem.rows o ps fs, length-replicate {A = ℕ} 7233 0) in
      goal_back o ps fs _ p.goal g.problem.goal (padded_prepare d p g).goal (stored (zeros 7233) 0 list room)

  pub model_back : decode (model_of d p) ≡ reading_of d p
  unfolding decode model_of
  model_back =
      let g = (read_fits s t d p m n e f).domain in
      let h = (read_fits s t d p m n e f).problem in
      made _ _ _ _ _ _ _ _ _ _ _ _
      (typed_fits 17 d.types _ (types_part d p.objects) g.types)
      (typed_fits 64 p.objects _ (objects_part d p.objects) h.objects)
      (signed_fits (Declared 3) 32 d.predicates _ (predicates_part d p.objects) g.predicates g.predicates.kept.signed)
      (signed_fits (Declared 2) 16 d.functions _ (functions_part d p.objects) g.functions g.functions.kept.signed)
      (ap (actions_at _ 0) (heads_back g.heads) ∙ rows_back) goal_read

  -- so is what load gives
  pub load_back : decode (load_of s t).model ≡ reading_of d p
  unfolding loaded_of
  load_back = ap (λ x. decode x.model) (sym (both_loaded s t d m e p n f (loaded_of d p) refl)) ∙ model_back
