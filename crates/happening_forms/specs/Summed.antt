-- Where facts and numbers lie that are named by prepared forms, and the objects of a point.
use Rattle.std.specs.Prelude.{ℕ, ◌+◌, ◌*◌, List, [], ◌∷◌, get_or}
pub use Rattle.happening_prepared_laws.specs.Summed.{summed}

-- the four objects of point k
unfoldable pub four_at : List ℕ → ℕ → List ℕ
four_at objects k = get_or objects (4 * k) 0 ∷ get_or objects (4 * k + 1) 0 ∷ get_or objects (4 * k + 2) 0 ∷ get_or objects (4 * k + 3) 0 ∷ []
