-- A domain and a problem that are refused: one line, whatever the texts after them are.
use mathlib.Core.Path.{◌≡◌, refl, ap}
use Prim.Native.Nat.{ℕ}
use mathlib.Core.List.{List}
use Rattle.text_words.specs.Bytes.{bytes}
use Rattle.domain_meaning.specs.Read.{refused}
use Rattle.domain_meaning.specs.Domain.{read_domain}
use Rattle.domain_meaning.specs.Problem.{read_problem}
use Rattle.domain_meaning.proofs.Bench.{bench, bench_text, bench_read, open_texts, open_bench}
use Rattle.check_wording.specs.Wording.{decimal_to, refusal_line}
use Rattle.check_meaning.specs.Answer.{of_domain, answer}

bad_domain : read_domain (bytes "(define (domain d) (:types a b - a))") ≡ refused 8 33
unfolding open_texts
bad_domain = refl

pub domain_refused : (problem plan : List ℕ) → (answer (bytes "(define (domain d) (:types a b - a))") problem plan).line ≡ bytes "refused domain 8 33 0\n"
unfolding bytes decimal_to refusal_line answer
domain_refused problem plan = ap (λ r. (of_domain r problem plan).line) bad_domain

bad_problem : read_problem (bytes "(define (problem q) (:domain bench) (:goal (on c)))") bench ≡ refused 8 47
unfolding open_texts open_bench
bad_problem = refl

pub problem_refused : (plan : List ℕ) → (answer bench_text (bytes "(define (problem q) (:domain bench) (:goal (on c)))") plan).line ≡ bytes
    "refused problem 8 47 0\n"
unfolding bytes decimal_to refusal_line answer
problem_refused plan = rw (bench_read, bad_problem)
