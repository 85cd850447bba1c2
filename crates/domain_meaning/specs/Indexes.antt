-- Where facts and numbers lie, with n objects. Init and every happening go by this one rule. RULES 8.
use Rattle.std.specs.Prelude.{ℕ, zero, suc, ◌+◌, ◌*◌, ◌^◌, List, [], ◌∷◌, map, get_or}
use Rattle.domain_meaning.specs.Tables.{Entry, Table, info_of}
use Rattle.domain_meaning.specs.Terms.{Arg, object, variable, Ref}

-- how many arguments a predicate or function has
abbrev pub arity : Entry → ℕ
arity e = get_or (info_of e) 0 0

-- "the sum of n^arguments"
unfoldable pub sum_of : ℕ → Table → ℕ
sum_of n [] = 0
sum_of n (e ∷ t) = n ^ arity e + sum_of n t

-- the first index of each name of a table, after those that make `sum`
unfoldable pub bases_from : ℕ → ℕ → Table → List ℕ
bases_from n sum [] = []
bases_from n sum (e ∷ t) = sum ∷ bases_from n (sum + n ^ arity e) t

abbrev pub bases_of : ℕ → Table → List ℕ
bases_of n t = bases_from n 0 t

-- m numbers: those of a list, then zeros
unfoldable pub padded : ℕ → List ℕ → List ℕ
padded zero w = []
padded (suc m) [] = 0 ∷ padded m []
padded (suc m) (b ∷ bs) = b ∷ padded m bs

-- the object that an argument stands for, os being those of the step
abbrev pub object_of : List ℕ → Arg → ℕ
object_of os (object i) = i
object_of os (variable i) = get_or os i 0

-- numbers read as digits in base n, "first argument highest", after those that make acc
unfoldable pub digits : ℕ → ℕ → List ℕ → ℕ
digits n acc [] = acc
digits n acc (x ∷ xs) = digits n (acc * n + x) xs

-- "a fact's index is its predicate's first index plus its arguments read as digits in base n, first argument highest; a number's likewise"
unfoldable pub index_in : List ℕ → ℕ → List ℕ → Ref → ℕ
index_in firsts n os r = get_or firsts r.head 0 + digits n 0 (map (object_of os) r.args)

-- by the table of names; no variable stands in init
unfoldable pub index_of : ℕ → Table → Ref → ℕ
index_of n t r = index_in (bases_of n t) n [] r
