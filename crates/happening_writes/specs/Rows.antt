-- The effects of a list in rows, one after the other: what stands at a place, and what the list from there on writes.
use Rattle.std.specs.Prelude.{ℕ, ◌+◌, ◌-◌, List, Bool, true, false, cond, ltb, length, Option, Some, None}
use Rattle.domain_meaning.specs.Effects.{Change, assign, raise, lower, Effect, becomes, changes}
use Rattle.domain_rows.specs.Held.{byte_at}
use Rattle.domain_prepared_meaning.specs.Forms.{index_by}
use Rattle.domain_prepared_meaning.specs.Decode.{form_at, begins_effect, effect_at, effects_at}
use Rattle.happening_meaning.specs.Writes.{marks_of}
use Rattle.happening_meaning.specs.declared.Mark.{Mark}
use Rattle.happening_forms.specs.Summed.{summed}
use Rattle.happening_writes.specs.declared.rows.How.{How}
use Rattle.happening_writes.specs.declared.rows.How.TheVariants.{Assigned, Raised, Lowered}
use Rattle.happening_writes.specs.declared.rows.Row.{Row}
use Rattle.happening_writes.specs.declared.rows.Row.TheVariants.{Fact, Number}

-- how many arguments of an effect are parameters, by its first byte
unfoldable pub params_of : ℕ → ℕ
params_of tag =
    cond (ltb tag 8) (tag - 4) (cond (ltb tag 12) (tag - 8) (cond (ltb tag 15) (tag - 12) (cond (ltb tag 18) (tag - 15) (tag - 18))))

-- what is done to a number, as code says it
abbrev pub how_of : Change → How
how_of assign = Assigned
how_of raise = Raised
how_of lower = Lowered

-- what an effect on a number does, by its first byte
abbrev pub how_in : ℕ → How
how_in tag = cond (ltb tag 15) Assigned (cond (ltb tag 18) Raised Lowered)

abbrev pub assigns : How → Bool
assigns Assigned = true
assigns Raised = false
assigns Lowered = false

-- an effect as a row: so many of its arguments are parameters; its right side stands at a place, and it ends at one
unfoldable pub row_of : ℕ → ℕ → ℕ → Effect → Row
row_of v right next (becomes yes' r) = Fact yes' v next
row_of v right next (changes how r e) = Number (how_of how) v right

abbrev pub taken_at : List ℕ → ℕ → ℕ → Row
taken_at rows at tag = row_of (params_of tag) (at + 3 + params_of tag) (effect_at rows at tag).next (effect_at rows at tag).tree

-- what stands at a place of a list, unless it ends there
unfoldable pub row_at : List ℕ → ℕ → Option Row
row_at rows at = cond (ltb at (length rows)) (cond (begins_effect (byte_at rows at)) (Some (taken_at rows at (byte_at rows at))) None) None

-- ---- what is written, os being the objects of the point

-- the index of the fact or number of the row at a place
abbrev pub placed : List ℕ → List ℕ → ℕ → ℕ → ℕ
placed rows os at v = index_by (form_at rows (at + 1) v) os

abbrev pub marks_at : List ℕ → List ℕ → ℕ → List Mark
marks_at rows os at = marks_of summed os (effects_at rows at)
