-- Marks: at each cell what the points so far did there. 0 nothing, 1 more than one kind of thing, k + 2 only things of kind k.
use Rattle.std.specs.Prelude.{◌≡◌, ℕ, ◌+◌, Bool, true, false, cond, ◌||◌, List, [], ◌∷◌, eqb, get_or, set, replicate}
use Rattle.happening_meetings.specs.Accesses.{Access}
use Rattle.happening_meetings.specs.declared.walks.Mode.{Mode}
use Rattle.happening_meetings.specs.declared.walks.Mode.TheVariants.{Meet, Mark, Wipe}

abbrev pub no_marks : List ℕ
no_marks = replicate 17408 0

-- the mark with one thing more
unfoldable pub join_of : ℕ → ℕ → ℕ
join_of m k = cond (eqb m 0) (k + 2) (cond (eqb m (k + 2)) m 1)

-- whether what is marked clashes with a thing of kind k
unfoldable pub hit_by : ℕ → ℕ → Bool
hit_by m k = cond (eqb m 0) false (cond (eqb m (k + 2)) (eqb k 3) true)

abbrev pub mark_one : List ℕ → Access → List ℕ
mark_one l a = set l a.index (join_of (get_or l a.index 0) a.kind)

abbrev pub hit_one : List ℕ → Access → Bool
hit_one l a = hit_by (get_or l a.index 0) a.kind

unfoldable pub mark_all : List ℕ → List Access → List ℕ
mark_all l [] = l
mark_all l (a ∷ xs) = mark_all (mark_one l a) xs

unfoldable pub hit_any : List ℕ → List Access → Bool
hit_any l [] = false
hit_any l (a ∷ xs) = hit_one l a || hit_any l xs

unfoldable pub wipe_all : List ℕ → List Access → List ℕ
wipe_all l [] = l
wipe_all l (a ∷ xs) = wipe_all (set l a.index 0) xs

-- ---- one walk in three modes: each access is held against the marks, marked, or wiped

unfoldable pub after_one : Mode → List ℕ → Access → List ℕ
after_one Meet l a = l
after_one Mark l a = mark_one l a
after_one Wipe l a = set l a.index 0

unfoldable pub met_one : Mode → List ℕ → Access → Bool
met_one Meet l a = hit_one l a
met_one Mark l a = false
met_one Wipe l a = false

unfoldable pub walked : Mode → List ℕ → List Access → List ℕ
walked mode l [] = l
walked mode l (a ∷ xs) = walked mode (after_one mode l a) xs

unfoldable pub met : Mode → List ℕ → List Access → Bool
met mode l [] = false
met mode l (a ∷ xs) = met_one mode l a || met mode (after_one mode l a) xs

-- what a walk over accesses says: whether something was met, and the marks after it
pub record Went (mode : Mode) (l : List ℕ) (xs : List Access) (found : Bool) (after : List ℕ) : Type 0 where
  pub told : found ≡ met mode l xs
  pub left : after ≡ walked mode l xs

-- ---- all points: each is held against the marks of those before it, then marked

unfoldable pub mark_each : List ℕ → List (List Access) → List ℕ
mark_each l [] = l
mark_each l (p ∷ ps) = mark_each (mark_all l p) ps

unfoldable pub scan : List ℕ → List (List Access) → Bool
scan l [] = false
scan l (p ∷ ps) = hit_any l p || scan (mark_all l p) ps

unfoldable pub wipe_each : List ℕ → List (List Access) → List ℕ
wipe_each l [] = l
wipe_each l (p ∷ ps) = wipe_each (wipe_all l p) ps
