-- The lowest place: a refusal depends on nothing after the token where it stands, but for two rows that look further (docs/DECISIONS.md). RULES 3.
use Rattle.std.specs.Prelude.{◌≡◌, List, cond, ◌&&◌, ℕ, zero, suc, ◌+◌, ◌-◌, max, length, get_or, take, eqb}
use Prim.Native.Char.{code}
use Rattle.text_words.specs.Bytes.{kind_of, on_start}
use Rattle.text_tokens.specs.Runs.{run_end}
use Rattle.text_tokens.specs.Tokens.{token_at}
use Rattle.domain_meaning.specs.Read.{refused}
use Rattle.domain_meaning.specs.Due.{after_of, place_of, on_close}
use Rattle.domain_meaning.specs.Domain.{Domain, read_domain}
use Rattle.domain_meaning.specs.Problem.{read_problem}

-- how many bytes are looked at to know the token that begins at p. A run is ended by the byte after it; a bracket and a byte that is not
-- allowed are known by themselves; the text's end is known by the byte that is missing
unfoldable pub seen : List ℕ → ℕ → ℕ
seen s p = on_start (kind_of (get_or s p 0)) (run_end s (code ";") (p + 1) + 1) (p + 1) (p + 1)

-- the place of the first token at or after a place
abbrev pub next_of : List ℕ → ℕ → ℕ
next_of s at = place_of (token_at s at)

-- how many bytes are looked at for the refusal k at p: those of the token there. Where a bracket is 3, the token after it is looked at too:
-- if a type is due and the word there is `either`, the text is refused there, by 11
unfoldable pub reach : List ℕ → ℕ → ℕ → ℕ
reach s k p = cond (eqb k 3 && eqb (get_or s p 0) (code "(")) (max (seen s p) (seen s (next_of s (p + 1)))) (seen s p)

-- the end of the first closing bracket at or after a place. The first number bounds the steps
unfoldable pub closed : ℕ → List ℕ → ℕ → ℕ
closed zero s at = at
closed (suc k) s at = on_close (token_at s at) (λ p. p + 1) (closed k s (after_of (token_at s at)))

-- the same in a problem, where 7 may stand at the name of a function whose number is given twice: that is known where its `(f ..)` is closed,
-- which is the first closing bracket after the name. (The name ends one byte before what is seen of it.)
unfoldable pub reach_in_problem : List ℕ → ℕ → ℕ → ℕ
reach_in_problem s k p = cond (eqb k 7) (max (reach s k p) (closed (length s + 1) s (seen s p - 1))) (reach s k p)

-- The law: of two texts, the first is refused by k at p, and the second has the same bytes as far as that refusal reaches. Then the second is
-- refused by k at p too, whatever stands after it, and however long it is.
abbrev pub LowestInDomain : Type 0
LowestInDomain = (s t : List ℕ) (k p : ℕ) → take (reach s k p) s ≡ take (reach s k p) t
    → read_domain s ≡ refused k p → read_domain t ≡ refused k p

abbrev pub LowestInProblem : Type 0
LowestInProblem = (s t : List ℕ) (d : Domain) (k p : ℕ) → take (reach_in_problem s k p) s ≡ take (reach_in_problem s k p) t
    → read_problem s d ≡ refused k p → read_problem t d ≡ refused k p
