-- A text for each refusal: its number and its place, by computation.
use mathlib.Core.Path.{◌≡◌, refl}
use mathlib.Core.List.{List, [], ◌∷◌, ◌++◌}
use Prim.Native.Nat.{ℕ}
use Prim.Native.Char.{code}
use Prim.Native.String.{String}
use lib.ListN.{replicate}
use Rattle.text_words.specs.Bytes.{bytes}
use Rattle.domain_meaning.specs.Read.{Read, got, refused}
use Rattle.domain_meaning.specs.Domain.{read_domain}
use Rattle.domain_meaning.specs.Problem.{read_problem}
use Rattle.domain_meaning.proofs.Bench.{open_texts, pump, bench}

pub data Row : Type 0 where
  row : String → ℕ → ℕ → Row

abbrev refusal_of : {A : Type 0} → Read A → List ℕ
refusal_of (got a n) = []
refusal_of (refused k p) = k ∷ p ∷ []

abbrev read_all : {A : Type 0} → (List ℕ → Read A) → List Row → List (List ℕ)
read_all read [] = []
read_all read (row text k p ∷ rows) = refusal_of (read (bytes text)) ∷ read_all read rows

abbrev wanted : List Row → List (List ℕ)
wanted [] = []
wanted (row text k p ∷ rows) = (k ∷ p ∷ []) ∷ wanted rows

bad_domains : List Row
bad_domains =
    row "(define (domain d) \u{1})" 2 19
    ∷ row "(define (domain d) (:types a) (:types b))" 3 31
    ∷ row "(define (domain d) (:predicates (and)))" 3 33
    ∷ row "(define (domain d) (:functions (f) - number))" 3 35
    ∷ row "(define (domain d) (:action a :parameters () :effect ()))" 3 54
    ∷ row "(define (domain d) " 4 19
    ∷ row "(define (domain d) (:types abcdefghijklmnopqrstuvwxyz-123456))" 5 27
    ∷ row "(define (domain d) 5a)" 6 19
    ∷ row "(define (domain d) (:types a A))" 7 29
    ∷ row "(define (domain d) (:types object))" 7 27
    ∷ row "(define (domain d) (:types a b - a))" 8 33
    ∷ row "(define (domain d) (:predicates (p)) (:action a :parameters () :precondition (not (not (p)))))" 8 83
    ∷ row "(define (domain d) (:predicates (p ?x)) (:action a :parameters () :precondition (p)))" 9 82
    ∷ row "(define (domain d) (:constants k) (:predicates (p)) (:action a :parameters () :precondition (p k)))" 9 95
    ∷ row "(define (domain d) (:types t) (:constants k) (:predicates (p ?x - t)) (:action a :parameters () :precondition (p k)))" 10 113
    ∷ row "(define (domain d) (:requirements :typing :adl))" 11 42
    ∷ row "(define (domain d) (:types a - (either b c)))" 11 32
    ∷ row "(define (domain d) (:action a :parameters () :precondition (not (and))))" 11 65
    ∷ row "(define (domain d) (:predicates (p)) (:action a :parameters () :precondition (or (p))))" 11 78
    ∷ row "(define (domain d) (:functions (f)) (:durative-action a :parameters () :duration (<= ?duration 5)))" 11 82
    ∷ row "(define (domain d) (:functions (f)) (:action a :parameters () :precondition (< (f) ?duration)))" 11 83
    ∷ row "(define (domain d) (:predicates (p ?a ?b ?c ?d)))" 12 44
    ∷ row "(define (domain d) (:action a :parameters () :precondition (and (and (and (and (and (and (and (and (and (and (and (and (and (and (and)))))))))))))))))" 12 129
    ∷ row "(define (domain d) (:functions (f)) (:action a :parameters () :precondition (< 0 (+ 1 (+ 1 (+ 1 (+ 1 (+ 1 (+ 1 (+ 1 (+ 1 1)))))))))))" 12 121
    ∷ []

domains_refused : read_all read_domain bad_domains ≡ wanted bad_domains
unfolding open_texts bad_domains
domains_refused = refl

bad_problems : List Row
bad_problems =
    row "(define (problem q) (:domain other))" 13 29
    ∷ row "(define (problem q) (:init) (:domain bench))" 3 21
    ∷ row "(define (problem q) (:goal (and)) (:domain bench))" 3 21
    ∷ row "(define (problem q) (:domain bench) (:goal (on ?p)))" 3 47
    ∷ row "(define (problem q) (:domain bench) (:init (= f 5)) (:goal (and)))" 3 46
    ∷ row "(define (problem q) (:domain bench) (:objects a - pump) (:init (= (lock a) 5) (= (lock a) 6)) (:goal (and)))" 7 82
    ∷ row "(define (problem q) (:domain bench) (:goal (on c)))" 8 47
    ∷ row "(define (problem q) (:domain bench) (:goal (and)) (:metric minimize (f)))" 11 51
    ∷ row "(define (problem q) (:domain bench) (:objects o0 o1 o2 o3 o4 o5 o6 o7 o8 o9 o10 o11 o12 o13 o14 o15 o16 o17 o18 o19 o20 o21 o22 o23 o24 o25 o26 o27 o28 o29 o30 o31 o32 o33 o34 o35 o36 o37 o38 o39 o40 o41 o42 o43 o44 o45 o46 o47 o48 o49 o50 o51 o52 o53 o54 o55 o56 o57 o58 o59 o60 o61 o62 o63 o64))" 12 292
    ∷ []

problems_refused : read_all (λ s. read_problem s bench) bad_problems ≡ wanted bad_problems
unfolding open_texts bad_problems bench pump
problems_refused = refl

-- a text of 32,769 bytes is refused at 32,768, if nothing is before that
long_refused : read_domain (bytes "(define (domain d))" ++ replicate 32750 (code " ")) ≡ refused 1 32768
unfolding open_texts
long_refused = refl
