-- Texts that are accepted, beside the trees that they are read to, by computation: a vocabulary with constants and types below types, conditions,
-- expressions and effects of every form over it, and where atoms of two and three arguments lie.
use mathlib.Core.Path.{◌≡◌, refl}
use mathlib.Core.List.{List, [], ◌∷◌}
use mathlib.Core.Bool.{true, false}
use Prim.Native.Nat.{ℕ}
use Prim.Native.String.{String}
use lib.IntN.{ℤ, pos, negsuc}
use lib.ListN.{length}
use Rattle.text_words.specs.Bytes.{bytes}
use Rattle.domain_meaning.specs.Read.{Read, Reader, got}
use Rattle.domain_meaning.specs.Tables.{Table, entry}
use Rattle.domain_meaning.specs.Terms.{Scope, Arg, object, variable, Ref, Expr, number, value, minus, difference, plus, expression}
use Rattle.domain_meaning.specs.Indexes.{bases_from, digits, index_in, index_of}
use Rattle.domain_meaning.specs.Conditions.{Cond, all, atom, same, compare, none, cons, equal, less, at_most, more, at_least, condition}
use Rattle.domain_meaning.specs.Effects.{Effect, becomes, changes, assign, raise, lower, effect}
use Rattle.domain_meaning.specs.Actions.{start, end, moment, rule, Action, tree_of}
use Rattle.domain_meaning.specs.Domain.{Domain, read_domain}
use Rattle.domain_meaning.specs.Problem.{Valued, Problem, read_problem}
use Rattle.domain_meaning.proofs.Bench.{open_texts}

-- a text, and what it is read to
pub data Row (A : Type 0) : Type 0 where
  row : String → A → Row A

abbrev read_all : {A : Type 0} → (List ℕ → Reader A) → List (Row A) → List (Read A)
read_all read [] = []
read_all read (row text x ∷ rows) = read (bytes text) 0 ∷ read_all read rows

abbrev wanted : {A : Type 0} → List (Row A) → List (Read A)
wanted [] = []
wanted (row text x ∷ rows) = got x (length (bytes text)) ∷ wanted rows

-- every text is read to its end, to the tree beside it
abbrev Each : {A : Type 0} → (List ℕ → Reader A) → List (Row A) → Type 0
Each read rows = read_all read rows ≡ wanted rows

-- ---- the vocabulary: types 0 `object`, 1 `tool`, 2 `drill` and 3 `saw` below it, 4 `place`

abbrev types : Table
types = entry (bytes "object") (0 ∷ []) ∷ entry (bytes "tool") (0 ∷ []) ∷ entry (bytes "drill") (1 ∷ []) ∷ entry (bytes "saw") (1 ∷ [])
    ∷ entry (bytes "place") (0 ∷ []) ∷ []

abbrev constants : Table
constants = entry (bytes "home") (4 ∷ []) ∷ []

-- how many arguments, then their types
abbrev predicates : Table
predicates = entry (bytes "idle") (0 ∷ []) ∷ entry (bytes "lies") (2 ∷ 1 ∷ 4 ∷ []) ∷ entry (bytes "goes") (3 ∷ 1 ∷ 4 ∷ 4 ∷ []) ∷ []

abbrev functions : Table
functions = entry (bytes "level") (0 ∷ []) ∷ entry (bytes "cost") (1 ∷ 1 ∷ []) ∷ entry (bytes "way") (2 ∷ 4 ∷ 4 ∷ []) ∷ []

abbrev to : ℕ → List Arg → Ref
to i as' = record { head = i; args = as' }

-- ---- a domain: constants, a declared type as parent, an argument of a type below the wanted one, nested `and`s

shop_text : List ℕ
shop_text = bytes "(define (domain shop) (:requirements :typing :equality :negative-preconditions :fluents :durative-actions) (:types tool - object drill saw - tool place) (:constants home - place) (:predicates (idle) (lies ?t - tool ?p - place) (goes ?t - tool ?p ?q - place)) (:functions (level) (cost ?t - tool) (way ?p ?q - place)) (:action haul :parameters (?t - drill ?p ?q - place) :precondition (and (lies ?t ?p) (not (= ?p ?q))) :effect (and (not (lies ?t ?p)) (lies ?t ?q) (decrease (level) (way ?p ?q)))) (:durative-action rest :parameters () :duration (= ?duration (+ (level) 1)) :condition (at start (and (idle) (and (> (level) 0)))) :effect (at end (and (idle) (and (idle))))))"

-- its parameters are `?t - drill ?p ?q - place`
abbrev haul : Action
haul =
    record {
      declared = entry (bytes "haul") (3 ∷ 2 ∷ 4 ∷ 4 ∷ []);
      lasting = moment;
      conditions = record {
        when = start;
        what = all (cons (atom true (to 1 (variable 0 ∷ variable 1 ∷ [])))
            (cons (same false (variable 1) (variable 2)) none));
      } ∷ [];
      effects = record {
        when = start;
        what = becomes false (to 1 (variable 0 ∷ variable 1 ∷ [])) ∷ becomes true (to 1 (variable 0 ∷ variable 2 ∷ []))
            ∷ changes lower (to 0 []) (value (to 2 (variable 1 ∷ variable 2 ∷ []))) ∷ [];
      } ∷ [];
    }

abbrev rest : Action
rest =
    record {
      declared = entry (bytes "rest") (0 ∷ []);
      lasting = rule (plus (value (to 0 [])) (number (pos 1000)));
      conditions = record {
        when = start;
        what = all (cons (atom true (to 0 []))
            (cons (all (cons (compare true more (value (to 0 [])) (number (pos 0))) none)) none));
      } ∷ [];
      effects = record { when = end; what = becomes true (to 0 []) ∷ becomes true (to 0 []) ∷ [] } ∷ [];
    }

abbrev shop : Domain
shop = record { name = bytes "shop"; types = types; constants = constants; predicates = predicates; functions = functions; actions = haul ∷ rest ∷ [] }

shop_read : read_domain shop_text ≡ got shop 672
unfolding open_texts shop_text
shop_read = refl

-- ---- a problem: "constants first", so home is 0, d 1, s 2 and yard 3 of four objects. "first argument highest": (lies d home) lies at 1 + 1·4 + 0,
-- (goes d home yard) at 17 + 1·16 + 0·4 + 3, (way yard home) at 5 + 3·4 + 0

job_text : List ℕ
job_text = bytes "(define (problem job) (:domain shop) (:objects d - drill s - saw yard - place) (:init (idle) (lies d home) (lies s yard) (goes d home yard) (goes s yard home) (= (level) 2.5) (= (cost s) -1) (= (way yard home) 7)) (:goal (and (idle) (lies d yard))))"

abbrev valued : ℕ → ℤ → Valued
valued i z = record { index = i; value = z }

abbrev job : Problem
job =
    record {
      objects = entry (bytes "home") (4 ∷ []) ∷ entry (bytes "d") (2 ∷ []) ∷ entry (bytes "s") (3 ∷ []) ∷ entry (bytes "yard") (4 ∷ []) ∷ [];
      init = record { facts = 0 ∷ 5 ∷ 12 ∷ 36 ∷ 61 ∷ []; numbers = valued 0 (pos 2500) ∷ valued 3 (negsuc 999) ∷ valued 17 (pos 7000) ∷ [] };
      goal = all (cons (atom true (to 0 [])) (cons (atom true (to 1 (object 1 ∷ object 3 ∷ []))) none));
    }

job_read : read_problem job_text shop ≡ got job 249
unfolding open_texts job_text
job_read = refl

-- the rule by itself: with 4 objects a name of one argument has indexes 0 to 3, so the next name's begin at 4; 1, 2, 3 are the digits of 27
three_arguments : index_of 4 (entry [] (1 ∷ 0 ∷ []) ∷ entry [] (3 ∷ 0 ∷ 0 ∷ 0 ∷ []) ∷ []) (to 1 (object 1 ∷ object 2 ∷ object 3 ∷ [])) ≡ 31
unfolding index_of index_in bases_from digits
three_arguments = refl

-- in a step with the objects 3 and 2, its two parameters in turn: 2 and 3 are the digits of 11
two_parameters : index_in (0 ∷ 4 ∷ []) 4 (3 ∷ 2 ∷ []) (to 1 (variable 1 ∷ variable 0 ∷ [])) ≡ 15
unfolding index_in digits
two_parameters = refl

-- ---- conditions, expressions and effects of an action of that domain, with the parameters `?t - drill ?p ?q - place`

abbrev scope : Scope
scope =
    record {
      types = types;
      objects = constants;
      predicates = predicates;
      functions = functions;
      variables = entry (bytes "t") (2 ∷ []) ∷ entry (bytes "p") (4 ∷ []) ∷ entry (bytes "q") (4 ∷ []) ∷ [];
      in_action = true;
    }

abbrev home : Arg
home = object 0

abbrev t : Arg
t = variable 0

abbrev p : Arg
p = variable 1

abbrev q : Arg
q = variable 2

abbrev level : Expr
level = value (to 0 [])

abbrev one : Expr
one = number (pos 1000)

condition_rows : List (Row Cond)
condition_rows =
    row "(idle)" (atom true (to 0 []))
    ∷ row "(not (lies ?t home))" (atom false (to 1 (t ∷ home ∷ [])))
    ∷ row "(goes ?t ?p ?q)" (atom true (to 2 (t ∷ p ∷ q ∷ [])))
    ∷ row "(= ?t home)" (same true t home)
    ∷ row "(not (= ?p ?q))" (same false p q)
    ∷ row "(= (level) 1)" (compare true equal level one)
    ∷ row "(< (cost ?t) (way ?q ?p))" (compare true less (value (to 1 (t ∷ []))) (value (to 2 (q ∷ p ∷ []))))
    ∷ row "(<= 1 (level))" (compare true at_most one level)
    ∷ row "(> (level) -0.5)" (compare true more level (number (negsuc 499)))
    ∷ row "(>= (level) 1)" (compare true at_least level one)
    ∷ row "(not (> (level) 1))" (compare false more level one)
    ∷ row "(and)" (all none)
    ∷ row "(AND (idle) (and (and) (not (idle))) (= ?p ?q))"
    (all (cons (atom true (to 0 [])) (cons (all (cons (all none) (cons (atom false (to 0 [])) none))) (cons (same true p q) none))))
    ∷ []

conditions_read : Each (λ s. tree_of (condition 14 s scope 32)) condition_rows
unfolding open_texts condition_rows
conditions_read = refl

-- the last has 16 operators and operands
expression_rows : List (Row Expr)
expression_rows =
    row "-5" (number (negsuc 4999))
    ∷ row "(- 5)" (minus (number (pos 5000)))
    ∷ row "(- (level) (cost ?t))" (difference level (value (to 1 (t ∷ []))))
    ∷ row "(+ 1 (way home ?q))" (plus one (value (to 2 (home ∷ q ∷ []))))
    ∷ row "(- (- (+ 1 (level))) 1)" (difference (minus (plus one level)) one)
    ∷ row "(+ 1 (+ 1 (+ 1 (+ 1 (+ 1 (+ 1 (+ 1 (- 1))))))))" (plus one (plus one (plus one (plus one (plus one (plus one (plus one (minus one))))))))
    ∷ []

expressions_read : Each (λ s. expression s 14 scope) expression_rows
unfolding open_texts expression_rows
expressions_read = refl

-- "Effects nest under `and`": they are read to one list, as written
effect_rows : List (Row (List Effect))
effect_rows =
    row "(lies ?t ?p)" (becomes true (to 1 (t ∷ p ∷ [])) ∷ [])
    ∷ row "(not (goes ?t home ?q))" (becomes false (to 2 (t ∷ home ∷ q ∷ [])) ∷ [])
    ∷ row "(assign (level) -1)" (changes assign (to 0 []) (number (negsuc 999)) ∷ [])
    ∷ row "(increase (cost ?t) (level))" (changes raise (to 1 (t ∷ [])) level ∷ [])
    ∷ row "(decrease (way ?p ?q) (- (level)))" (changes lower (to 2 (p ∷ q ∷ [])) (minus level) ∷ [])
    ∷ row "(and (idle) (and (decrease (level) 1) (and)) (not (idle)))" (becomes true (to 0 []) ∷ changes lower (to 0 []) one ∷ becomes false (to 0 []) ∷ [])
    ∷ []

effects_read : Each (λ s. tree_of (effect 14 s scope 16)) effect_rows
unfolding open_texts effect_rows
effects_read = refl
