-- What any bytes say where tables are due: the numbers kept with a name, and the way up from a type.
use Rattle.std.specs.Prelude.{ℕ, zero, suc, ◌+◌, ◌*◌, List, Bool, cond, ◌||◌, eqb, leb}
use Rattle.domain_rows.specs.Held.{byte_at}

-- number j of those kept with name i, in the table from `from` on, which has n names
unfoldable pub kept_in : List ℕ → ℕ → ℕ → ℕ → ℕ → ℕ
kept_in tables from n i j = cond (leb n i) 0 (byte_at tables (from + 38 * i + 1 + j))

-- a type is another, or below it, among n types; the first number bounds the steps up
unfoldable pub below_in : ℕ → List ℕ → ℕ → ℕ → ℕ → Bool
below_in zero tables n a b = eqb a b
below_in (suc k) tables n a b = eqb a b || below_in k tables n (kept_in tables 0 n a 0) b
