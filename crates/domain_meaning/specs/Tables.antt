-- Tables of declared names. RULES 6.
use Rattle.std.specs.Prelude.{ℕ, zero, suc, List, [], ◌∷◌, map, Bool, cond, ◌||◌, length, get_or, drop, eqb, ltb, None, Option, Some}
use Rattle.text_words.specs.Spelling.{place_from}
use Rattle.domain_meaning.specs.Read.{Reader, refuse, give}

-- a declared name, and the numbers that are kept with it: of a type its parent, of an object or a variable its type,
-- of a predicate, a function or an action how many arguments it has, and their types
pub data Entry : Type 0 where
  entry : List ℕ → List ℕ → Entry

abbrev pub name_of : Entry → List ℕ
name_of (entry w is) = w

abbrev pub info_of : Entry → List ℕ
info_of (entry w is) = is

abbrev pub Table : Type 0
Table = List Entry

-- the entry with a number; past the end, one without a name
abbrev pub entry_at : Table → ℕ → Entry
entry_at t i = get_or t i (entry [] [])

-- the type of a name, or a type's parent
abbrev pub type_of : Entry → ℕ
type_of e = get_or (info_of e) 0 0

-- the types of a predicate's, function's or action's arguments
abbrev pub wanted_of : Entry → List ℕ
wanted_of e = drop 1 (info_of e)

-- where a name first stands in a table
unfoldable pub lookup : Table → List ℕ → Option ℕ
lookup t w = place_from 0 (map name_of t) w

abbrev pub on_found : {A : Type 0} → Option ℕ → (ℕ → A) → A → A
on_found (Some i) f n = f i
on_found None f n = n

-- a name w at p, new in a table that has room for `max`. "7 name .. given twice"; "12 another size is passed"; "7, 8 before 12"
unfoldable pub fresh : ℕ → Table → ℕ → List ℕ → Reader ℕ
fresh max t p w = on_found (lookup t w) (λ i. refuse 7 p) (cond (ltb (length t) max) (give p) (refuse 12 p))

-- a name w at p that has been declared. "8 undeclared name .. where a declared one is due"
unfoldable pub declared : Table → ℕ → List ℕ → Reader ℕ
declared t p w = on_found (lookup t w) (λ i. give i) (refuse 8 p)

-- ---- types: "An untyped name is an `object`", which is type 0 and its own parent

-- a type is another, or below it; the first number bounds the steps up
unfoldable pub is_below : ℕ → Table → ℕ → ℕ → Bool
is_below zero ts a b = eqb a b
is_below (suc k) ts a b = eqb a b || is_below k ts (type_of (entry_at ts a)) b

-- the entry with the type k
abbrev pub with_type : ℕ → Entry → Entry
with_type k e = entry (name_of e) (k ∷ drop 1 (info_of e))

-- the names from number g on have the type k
unfoldable pub retype : ℕ → ℕ → Table → Table
retype zero k t = map (with_type k) t
retype (suc g) k [] = []
retype (suc g) k (e ∷ t) = e ∷ retype g k t
