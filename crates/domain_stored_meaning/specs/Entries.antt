-- Tables of declared names, read back from the rows in which they lie. Any bytes give some table: a byte past the end is 0.
use Rattle.std.specs.Prelude.{◌≡◌, ℕ, zero, suc, ◌+◌, ◌*◌, List, [], ◌∷◌, take}
use Rattle.domain_meaning.specs.Tables.{Entry, entry, info_of, Table}
use Rattle.domain_rows.specs.Held.{byte_at}

-- k bytes from `at` on
unfoldable pub bytes_from : List ℕ → ℕ → ℕ → List ℕ
bytes_from rows at zero = []
bytes_from rows at (suc k) = byte_at rows at ∷ bytes_from rows (at + 1) k

-- the name of row i: as many of its 32 bytes as its length says
unfoldable pub name_in : List ℕ → ℕ → List ℕ
name_in rows i = take (byte_at rows (38 * i)) (bytes_from rows (38 * i + 6) 32)

-- the first k of the five numbers kept with it
unfoldable pub info_in : ℕ → List ℕ → ℕ → List ℕ
info_in k rows i = take k (bytes_from rows (38 * i + 1) 5)

-- a type, an object or a variable: one number
unfoldable pub typed_row : List ℕ → ℕ → Entry
typed_row rows i = entry (name_in rows i) (info_in 1 rows i)

-- a predicate, a function or an action: a count, and as many numbers
unfoldable pub signed_row : List ℕ → ℕ → Entry
signed_row rows i = entry (name_in rows i) (info_in (suc (byte_at rows (38 * i + 1))) rows i)

-- n entries, from number i on
unfoldable pub entries_from : (ℕ → Entry) → ℕ → ℕ → Table
entries_from f i zero = []
entries_from f i (suc n) = f i ∷ entries_from f (i + 1) n

unfoldable pub typed_in : List ℕ → ℕ → Table
typed_in rows n = entries_from (typed_row rows) 0 n

unfoldable pub signed_in : List ℕ → ℕ → Table
signed_in rows n = entries_from (signed_row rows) 0 n

-- an entry that keeps one number
pub record Typed (e : Entry) : Type 0 where
  pub type : ℕ
  pub is : info_of e ≡ type ∷ []

unfoldable pub AllTyped : Table → Type 0
AllTyped [] = Unit {0}
AllTyped (e ∷ t) = Typed e × AllTyped t
