-- The check of two texts that are read: it can be fed, its rules and names are those of the trees, and nothing has happened yet. Assumes nothing.
use Prim.Native.Nat.{ℕ}
use mathlib.Core.Bool.{false≢true}
use mathlib.Core.List.{List, []}
use mathlib.Core.Path.{◌≡◌, refl, ◌∙◌}
use native.Mathlib.Omega.{arith}
use lib.ListN.{length, length-map}
use Rattle.domain_meaning.specs.Read.{got}
use Rattle.domain_meaning.specs.Domain.{Domain, read_domain}
use Rattle.domain_meaning.specs.Problem.{Problem, read_problem, scope_of}
use Rattle.domain_meaning.specs.Indexes.{sum_of}
use Rattle.happening_meaning.specs.Happening.{promises}
use Rattle.plan_meaning.specs.Feed.{new}
use Rattle.plan_meaning.specs.Promised.{rules_of}
use Rattle.plan_meaning.specs.Lines.{reader, limits}
use Rattle.domain_load.specs.Decode.{decode, reading_of}
use Rattle.domain_load.specs.Load.{predicate_firsts, function_firsts, model_of, loaded_of}
use Rattle.domain_load.proofs.Back.{model_back}
use Rattle.domain_read_laws.proofs.Whole.{read_fits}
use Rattle.domain_read_laws.proofs.Sums.{sums_fit_lem}
use Rattle.happening_forms.specs.Summed.{summed}
use Rattle.plan_prepared_laws.proofs.Rules.{rules_same}
use Rattle.plan_prepared_laws.proofs.Reading.{reader_same}
use Rattle.plan_waiting.specs.Waiting.{queue_of}
use Rattle.plan_feeding.specs.Feeding.{check_in}
use Rattle.check_meaning.specs.Answer.{grounds_of, rules_for, known_for}
use Rattle.check_calls.specs.Calls.{any_state, rules_on, known_on, held_by, check_for}
use Rattle.check_calls.specs.declared.Check.{Check}
use Rattle.check_calls.proofs.Formed.{Sizes, formed_of}
use Rattle.check_demand_laws.proofs.Naming.{done_listed}
use Rattle.check_demand_laws.proofs.Storing.{none_fits, fresh_counters}
use Rattle.check_demand_laws.proofs.Session.{Open}

-- ---- the check

module _ (s t : List ℕ) (d : Domain) (p : Problem) (m n : ℕ) (e : read_domain s ≡ got d m) (f : read_problem t d ≡ got p n) where
  abbrev pub loaded : Check
  loaded = check_for (loaded_of d p) 1

  -- the sizes of RULES 6 hold, so the check is well formed
  sizes : Sizes loaded.model.counts loaded.model.acting loaded.model.sizes.facts loaded.model.sizes.numbers
  unfolding loaded_of model_of
  sizes =
      let h = read_fits s t d p m n e f in
      let g = sums_fit_lem (scope_of d p.objects) h.problem.sums in
      record {
        types = h.domain.types.few;
        objects = h.problem.objects.few;
        actions = omega (arith, h.domain.heads.few, length-map d.actions (λ a. a.declared));
        few_facts = g.0;
        few_numbers = g.1;
      }

  pub loaded_open : Open loaded
  loaded_open =
      record {
        formed = formed_of loaded.progress loaded.model.counts loaded.model.acting loaded.model.sizes.facts
            loaded.model.sizes.numbers (queue_of [])
            (record {
              counters = fresh_counters loaded.progress refl refl refl;
              answers = record { refusal = λ q. absurd (false≢true q); verdict = done_listed; time = omega arith };
              sizes = sizes;
              few = (none_fits loaded.model.acting).0;
              slots = (none_fits loaded.model.acting).1;
            });
        unfinished = refl;
        unrefused = refl;
      }

  -- the number of objects, and the first indexes of predicates and of functions
  abbrev objects : ℕ
  objects = length p.objects

  abbrev predicates : List ℕ
  predicates = predicate_firsts objects d.predicates

  abbrev functions : List ℕ
  functions = function_firsts objects d.functions

  -- what its numbers say is what the trees say, prepared
  model_is : decode loaded.model ≡ reading_of d p
  unfolding loaded_of
  model_is = model_back s t d p m n e f

  pub rules_loaded : rules_on loaded ≡ rules_of (promises (grounds_of d p) p.goal) d.actions any_state
  unfolding rules_on grounds_of
  rules_loaded =
      (λ i. rules_of (promises summed (model_is i).goal) (model_is i).actions any_state)
      ∙ rules_same objects predicates functions d.actions p.goal any_state

  pub reader_loaded : reader (known_on loaded) ≡ reader (known_for d p)
  unfolding known_on
  reader_loaded =
      (λ i. reader (record { types = (model_is i).types; objects = (model_is i).objects; actions = (model_is i).actions }))
      ∙ reader_same objects predicates functions d.types p.objects d.actions

  -- nothing has happened and nothing waits
  pub held_loaded : held_by loaded ≡ new (rules_for d p) limits (reader (known_for d p))
  unfolding check_in loaded_of queue_of
  held_loaded = refl

  pub facts_loaded : loaded.model.sizes.facts ≡ sum_of (length p.objects) d.predicates
  unfolding loaded_of model_of
  facts_loaded = refl

  pub numbers_loaded : loaded.model.sizes.numbers ≡ sum_of (length p.objects) d.functions
  unfolding loaded_of model_of
  numbers_loaded = refl
