-- Worked examples: how far a refusal reaches in short texts, and that the two rows which look further have to. Each by computation.
use mathlib.Core.Path.{◌≡◌, refl}
use mathlib.Core.List.{List, [], ◌∷◌}
use Prim.Native.Nat.{ℕ}
use Rattle.text_words.specs.Bytes.{bytes}
use Rattle.domain_meaning.specs.Read.{refused}
use Rattle.domain_meaning.specs.Tables.{entry}
use Rattle.domain_meaning.specs.Domain.{Domain, read_domain}
use Rattle.domain_meaning.specs.Problem.{read_problem}
use Rattle.domain_meaning.proofs.Bench.{open_texts}
use Rattle.domain_refusal_laws.specs.Lowest.{seen, reach, closed, reach_in_problem}

-- a word at its end and the byte after it; a bracket; a byte that is not allowed; the text's end; a bracket that is 12; one that is 3, and the
-- word, the bracket or the end after it; 7 in a domain, and in a problem after no argument and after two
reaches : List ℕ
reaches =
    reach (bytes "pump ; x") 8 0 ∷ reach (bytes ") a") 3 0 ∷ reach (bytes "\u{1}a") 2 0 ∷ reach (bytes "a ") 4 2 ∷ reach (bytes "- (b c)") 12 2
    ∷ reach (bytes "- (b c)") 3 2 ∷ reach (bytes "- ( ;x\n (c)") 3 2 ∷ reach (bytes "- ( ") 3 2
    ∷ reach (bytes "f) 5") 7 0 ∷ reach_in_problem (bytes "f) 5") 7 0 ∷ reach_in_problem (bytes "f a ;)\n b) 5") 7 0
    ∷ []

reached : reaches ≡ (5 ∷ 1 ∷ 1 ∷ 3 ∷ 3 ∷ 5 ∷ 9 ∷ 5 ∷ 2 ∷ 2 ∷ 10 ∷ [])
unfolding open_texts seen reach closed reach_in_problem reaches
reached = refl

-- ---- why two rows look further: texts that are the same to the end of the token, and are not refused in the same way

-- the bracket, and the token after it
either_decides : (read_domain (bytes "(define (domain d) (:types a - (b)))") ≡ refused 3 31)
    × (read_domain (bytes "(define (domain d) (:types a - (either b)))") ≡ refused 11 32)
unfolding open_texts
either_decides = (refl, refl)

small : Domain
small = record {
  name = bytes "d";
  types = entry (bytes "object") (0 ∷ []) ∷ [];
  constants = entry (bytes "a") (0 ∷ []) ∷ entry (bytes "b") (0 ∷ []) ∷ [];
  predicates = [];
  functions = entry (bytes "f") (1 ∷ 0 ∷ []) ∷ [];
  actions = [];
}

-- the function's name, and its argument
argument_decides : (read_problem (bytes "(define (problem q) (:domain d) (:init (= (f a) 1) (= (f a)") small ≡ refused 7 55)
    × (read_problem (bytes "(define (problem q) (:domain d) (:init (= (f a) 1) (= (f b)") small ≡ refused 4 59)
unfolding open_texts small
argument_decides = (refl, refl)
