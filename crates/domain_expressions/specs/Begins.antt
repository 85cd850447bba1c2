-- How an expression begins, by what the definition says is read there.
use Rattle.std.specs.Prelude.{◌≡◌, ℕ, ◌+◌, ◌-◌, ◌≤◌, ◌<◌, List, Bool, true, false, length, Result, Ok, Err}
use Rattle.std.specs.Int.Signed.{mag}
use Rattle.domain_meaning.specs.Read.{Read, Reader, got, refused}
use Rattle.domain_meaning.specs.Terms.{Scope, Expr, number, Counted, counts, plus_of, minus_of, function_at, expr}
use Rattle.domain_literals.specs.Literal.{number_cells}
use Rattle.domain_due.specs.declared.Refusal.{Refusal}
use Rattle.domain_expressions.specs.declared.heads.ExpressionHead.{ExpressionHead}
use Rattle.domain_expressions.specs.declared.heads.ExpressionHead.TheVariants as B

-- what the reader of a beginning answers
abbrev pub Begun : Type 0
Begun = Result ExpressionHead Refusal

-- `-` if it is one, else `+`
abbrev pub operands : Bool → List ℕ → ℕ → (ℕ → Reader (Counted Expr)) → ℕ → Reader (Counted Expr)
operands true s d f n = minus_of s d f n
operands false s d f n = plus_of s d f n

-- after a bracket; f reads an expression one level down
unfoldable pub Bracketed : List ℕ → ℕ → Scope → (ℕ → Reader (Counted Expr)) → ℕ → Begun → Read (Counted Expr) → Type 0
Bracketed s d c f n (Ok (B.Number z e m)) x = ⊥
Bracketed s d c f n (Ok (B.Function p e)) x = x ≡ function_at s d c n p e e
Bracketed s d c f n (Ok (B.Operation minus e m)) x = x ≡ operands minus s d f m e
Bracketed s d c f n (Err why) x = x ≡ refused why.0 why.1

-- an expression, where d levels are left and n may follow
unfoldable pub Begins : List ℕ → Scope → ℕ → ℕ → Begun → Read (Counted Expr) → Type 0
Begins s c d n (Ok (B.Number z e m)) x = x ≡ got (counts (number z) m) e
Begins s c d n (Ok (B.Function p e)) x = x ≡ function_at s (d - 1) c n p e e
Begins s c d n (Ok (B.Operation minus e m)) x = x ≡ operands minus s (d - 1) (expr (d - 1) s c) m e
Begins s c d n (Err why) x = x ≡ refused why.0 why.1

-- a head word ends past `at`, and not past `most`
unfoldable pub Inside : ℕ → ℕ → Begun → Type 0
Inside at most (Ok (B.Number z e m)) = ⊥
Inside at most (Ok (B.Function p e)) = (at < e) × (e ≤ most)
Inside at most (Ok (B.Operation minus e m)) = (at < e) × (e ≤ most)
Inside at most (Err why) = Unit {0}

-- where it ends, in a text of `most` bytes: a number takes at most one cell more than its bytes, a bracket and its head word are two bytes at least
unfoldable pub Placed : ℕ → ℕ → ℕ → Begun → Type 0
Placed at most d (Ok (B.Number z e m)) =
    (at < e) × (e ≤ most) × (length (number_cells z) + at ≤ e + 1) × (mag z < 1099511627776)
Placed at most d (Ok (B.Function p e)) = (at + 2 ≤ e) × (e ≤ most) × (0 < d)
Placed at most d (Ok (B.Operation minus e m)) = (at + 2 ≤ e) × (e ≤ most) × (0 < d)
Placed at most d (Err why) = Unit {0}
