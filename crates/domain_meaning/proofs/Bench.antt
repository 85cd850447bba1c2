-- The bench of RULES 14: its texts, and the trees that they are read to, by computation.
use mathlib.Core.Path.{◌≡◌, refl}
use mathlib.Core.List.{List, [], ◌∷◌}
use mathlib.Core.Bool.{true, false}
use Prim.Native.Nat.{ℕ}
use lib.IntN.{pos}
use Rattle.text_words.specs.Bytes.{bytes}
use Rattle.text_words.specs.Fixed.{head_of, is_flag, is_reserved}
use Rattle.text_tokens.proofs.Examples.{open_tokens}
use Rattle.domain_meaning.specs.Read.{got}
use Rattle.domain_meaning.specs.Tables.{Entry, entry, lookup, fresh, declared, is_below, retype}
use Rattle.domain_meaning.specs.Due.{opening, closing, word_due, any_name, new_name}
use Rattle.domain_meaning.specs.Lists.{type_named, type_due, group, item, declare, waiting, typed, names_to, variables_to, types_to, declaration, declarations}
use Rattle.domain_meaning.specs.Terms.{object, variable, Ref, number, value, argument, fits, arguments, reference, counted, operands_end, expr, expression}
use Rattle.domain_meaning.specs.Indexes.{sum_of, bases_from, digits, index_in, index_of}
use Rattle.domain_meaning.specs.Conditions.{atom, compare, at_least, atom_at, comparison, same_objects, equality, negation, list_to, conjunction, condition}
use Rattle.domain_meaning.specs.Effects.{becomes, changes, assign, raise, becomes_at, target, change_at, deletion, effects_to, effect}
use Rattle.domain_meaning.specs.Actions.{start, whole, end, moment, rule, time_of, part_behind, part_at, parts_to, parts, duration_rule, field_of, simple_body}
use Rattle.domain_meaning.specs.Actions.{durative_body, action}
use Rattle.domain_meaning.specs.Domain.{Domain, begins_with, ending, heading_of, flags_to, actions_to, flags_section, types_section, constants_section}
use Rattle.domain_meaning.specs.Domain.{declared_section, vocabulary, domain_text, read_domain}
use Rattle.domain_meaning.specs.Problem.{Valued, Problem, is_given, init_to, section_due_of, init_and_goal, premises, problem_text, read_problem}

-- on an `unfolding` line this opens all that reading a domain or a problem goes through
unfoldable pub open_texts : Unit {0}
unfolding open_tokens head_of is_flag is_reserved lookup fresh declared is_below retype opening closing word_due any_name new_name type_named type_due group
    item declare waiting typed names_to variables_to types_to declaration declarations argument fits arguments reference counted operands_end expr
    expression atom_at comparison same_objects equality negation list_to conjunction condition becomes_at target change_at deletion effects_to effect time_of
    part_behind part_at parts_to parts duration_rule field_of simple_body durative_body action begins_with ending heading_of flags_to actions_to flags_section
    types_section constants_section declared_section vocabulary domain_text read_domain sum_of bases_from digits index_in index_of is_given init_to section_due_of
    init_and_goal premises problem_text read_problem
open_texts = tt

pub bench_text : List ℕ
bench_text = bytes "(define (domain bench) (:requirements :strips :typing :fluents :durative-actions) (:types pump) (:predicates (ready ?p - pump) (on ?p - pump)) (:functions (lock ?p - pump) (doses ?p - pump)) (:durative-action dose :parameters (?p - pump) :duration (= ?duration (lock ?p)) :condition (and (at start (ready ?p)) (over all (on ?p))) :effect (and (at start (not (ready ?p))) (at end (ready ?p)) (at end (increase (doses ?p) 1)))) (:action off :parameters (?p - pump) :precondition (on ?p) :effect (not (on ?p))) (:action note :parameters (?p - pump) :effect (increase (doses ?p) 1)) (:action zero :parameters (?p - pump) :effect (assign (doses ?p) 0)))"

pub problem_bytes : List ℕ
problem_bytes = bytes "(define (problem two-doses) (:domain bench) (:objects a b - pump) (:init (ready a) (ready b) (on a) (on b) (= (lock a) 5) (= (lock b) 5) (= (doses a) 0) (= (doses b) 0)) (:goal (>= (doses a) 2)))"

unfoldable pub pump : List ℕ → Entry
pump w = entry w (1 ∷ 1 ∷ [])

unfoldable pub of_pump : ℕ → Ref
of_pump i = record { head = i; args = variable 0 ∷ [] }

unfoldable pub bench : Domain
bench = record {
  name = bytes "bench";
  types = entry (bytes "object") (0 ∷ []) ∷ entry (bytes "pump") (0 ∷ []) ∷ [];
  constants = [];
  predicates = pump (bytes "ready") ∷ pump (bytes "on") ∷ [];
  functions = pump (bytes "lock") ∷ pump (bytes "doses") ∷ [];
  actions =
      record {
        declared = pump (bytes "dose");
        lasting = rule (value (of_pump 0));
        conditions = record { when = start; what = atom true (of_pump 0) } ∷ record { when = whole; what = atom true (of_pump 1) } ∷ [];
        effects = record { when = start; what = becomes false (of_pump 0) ∷ [] } ∷ record { when = end; what = becomes true (of_pump 0) ∷ [] }
            ∷ record { when = end; what = changes raise (of_pump 1) (number (pos 1000)) ∷ [] } ∷ [];
      }
      ∷ record {
        declared = pump (bytes "off");
        lasting = moment;
        conditions = record { when = start; what = atom true (of_pump 1) } ∷ [];
        effects =
            record { when = start; what = becomes false (of_pump 1) ∷ [] } ∷ [];
      }
      ∷ record {
        declared = pump (bytes "note");
        lasting = moment;
        conditions = [];
        effects =
            record { when = start; what = changes raise (of_pump 1) (number (pos 1000)) ∷ [] } ∷ [];
      }
      ∷ record {
        declared = pump (bytes "zero");
        lasting = moment;
        conditions = [];
        effects =
            record { when = start; what = changes assign (of_pump 1) (number (pos 0)) ∷ [] } ∷ [];
      }
      ∷ [];
}

pub bench_read : read_domain bench_text ≡ got bench 648
unfolding open_texts bench_text bench pump of_pump
bench_read = refl

unfoldable pub valued : ℕ → ℕ → Valued
valued i z = record { index = i; value = pos z }

unfoldable pub two_doses : Problem
two_doses = record {
  objects = entry (bytes "a") (1 ∷ []) ∷ entry (bytes "b") (1 ∷ []) ∷ [];
  init = record { facts = 0 ∷ 1 ∷ 2 ∷ 3 ∷ []; numbers = valued 0 5000 ∷ valued 1 5000 ∷ valued 2 0 ∷ valued 3 0 ∷ [] };
  goal = compare true at_least (value (record { head = 1; args = object 0 ∷ [] })) (number (pos 2000));
}

pub problem_read : read_problem problem_bytes bench ≡ got two_doses 195
unfolding open_texts problem_bytes bench pump of_pump two_doses valued
problem_read = refl

-- on an `unfolding` line this opens the two trees
unfoldable pub open_bench : Unit {0}
unfolding bytes bench two_doses valued pump of_pump
open_bench = tt
