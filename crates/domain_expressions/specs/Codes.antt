-- References and expressions as cells of the code, and what a reader of expressions answers.
use Rattle.std.specs.Prelude.{◌≡◌, ℕ, ◌+◌, ◌≤◌, ◌<◌, List, ◌∷◌, ◌++◌, Bool, cond, length, set, None, Option, Some, Result, Ok, Err}
use Rattle.std.proofs.lemmas.List.Edits.{sets}
use Rattle.text_tokens.specs.declared.tokens.Token.{Token}
use Rattle.domain_meaning.specs.Read.{Read, got, refused}
use Rattle.domain_meaning.specs.Due.{on_close, after_of}
use Rattle.domain_meaning.specs.Terms.{Ref, Expr, number, value, minus, difference, plus, Counted}
use Rattle.domain_literals.specs.Literal.{number_cells}
use Rattle.domain_due.specs.Answers.{Parsed, at}
use Rattle.domain_due.specs.Answers as A
use Rattle.domain_due.specs.declared.Refusal.{Refusal}
use Rattle.domain_terms.specs.Cells.{arg_cells}

-- what a reader of expressions, conditions or effects answers
abbrev pub Progress : Type 0
Progress = Result (ℕ × ℕ × ℕ) Refusal

-- the place after what was read, the first cell that is free, and how many may follow
pattern abbrev pub Done : ℕ → ℕ → ℕ → Progress
Done n v left = Ok (n, v, left)

-- the refusal's number and place
abbrev pub Refused : ℕ → ℕ → Progress
Refused k p = Err (at k p)

-- a tag with the count of arguments, the head's number, the arguments
abbrev pub ref_cells : ℕ → Ref → List ℕ
ref_cells tag r = (tag + length r.args) ∷ r.head ∷ arg_cells r.args

-- the first cell: 0, 1, 2 for `-` of one, `-` of two, `+`; 5 to 7 for a function of none, one, two arguments; 16 or more for a number
unfoldable pub cells_of : Expr → List ℕ
cells_of (number z) = number_cells z
cells_of (value r) = ref_cells 5 r
cells_of (minus a) = 0 ∷ cells_of a
cells_of (difference a b) = 1 ∷ (cells_of a ++ cells_of b)
cells_of (plus a b) = 2 ∷ (cells_of a ++ cells_of b)

-- a tree was read, and its cells were stored from `used` on: the place after, the first cell that is free, how many may follow
unfoldable pub Written : {A : Type 0} → (A → List ℕ) → List ℕ → ℕ → Progress → List ℕ → Read (Counted A) → Type 0
Written cells code used r code' (got x n) =
    (r ≡ Done n (used + length (cells x.tree)) x.left) × (code' ≡ sets code used (cells x.tree))
Written cells code used r code' (refused k p) = r ≡ Refused k p

-- the place after is past `from` and within n bytes; of cells were written at most `more` more than bytes were read
unfoldable pub Spent : ℕ → ℕ → ℕ → ℕ → Progress → Type 0
Spent more n used from (Done a v l) = (from < a) × (a ≤ n) × (used ≤ v) × (v + from ≤ used + a + more)
Spent more n used from (Err why) = Unit {0}

-- of an expression of its own, at most one cell more was written than bytes were read
unfoldable pub Over : ℕ → ℕ → Parsed → Type 0
Over used from (A.Done a v) = (used ≤ v) × (v + from ≤ used + a + 1)
Over used from (Err why) = Unit {0}

-- after two operands: the bracket was read, and the operator's cell was stored at `used`
unfoldable pub Joined : List ℕ → ℕ → ℕ → ℕ → Bool → Progress → List ℕ → Read ℕ → Type 0
Joined code used free left negative r code' (got p n) = (r ≡ Done n free left) × (code' ≡ set code used (cond negative 1 2))
Joined code used free left negative r code' (refused k p) = r ≡ Refused k p

-- where the operands of `-` end after the first, if it is the only one
abbrev pub lone_end : Bool → Token → Option ℕ
lone_end negative t = cond negative (on_close t (λ p. Some (after_of t)) None) None
