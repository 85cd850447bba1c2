-- What the definitions need of lists.
use Rattle.std.specs.Prelude.{Bool, cond, List, [], ◌∷◌}

-- the elements of a list that pass a test, in order
abbrev pub keep : {A : Type 0} → (A → Bool) → List A → List A
keep f [] = []
keep f (x ∷ xs) = cond (f x) (x ∷ keep f xs) (keep f xs)
