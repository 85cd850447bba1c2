-- What leads an effect, by what the definition says is read there.
use Rattle.std.specs.Prelude.{◌≡◌, ℕ, ◌+◌, ◌≤◌, ◌<◌, List, true, length, Result, Ok, Err}
use Rattle.domain_meaning.specs.Read.{◌>>=◌, Read, Reader, refused}
use Rattle.domain_meaning.specs.Due.{token, wrong, on_word}
use Rattle.domain_meaning.specs.Terms.{Scope, Counted}
use Rattle.domain_meaning.specs.Effects.{Change, Effect, becomes_at, change_at, deletion, effects_to, effect_word}
use Rattle.domain_stored_meaning.specs.Cells.{change_cell}
use Rattle.domain_due.specs.declared.Refusal.{Refusal}
use Rattle.domain_effects.specs.declared.heads.EffectHead.{EffectHead}
use Rattle.domain_effects.specs.declared.heads.EffectHead.TheVariants as L

-- after an effect's bracket; f reads an effect one level down
abbrev pub in_bracket : List ℕ → ℕ → Scope → (ℕ → Reader (Counted (List Effect))) → ℕ → Reader (Counted (List Effect))
in_bracket s d c f n = do
  h ← token s
  on_word h (effect_word s d c f n) (wrong d h)

-- what the reader of a beginning answers
abbrev pub Begun : Type 0
Begun = Result EffectHead Refusal

-- the change is one whose cell is the tag
abbrev pub Changes : List ℕ → ℕ → Scope → ℕ → ℕ → ℕ → ℕ → Read (Counted (List Effect)) → Type 0
Changes s d c n tag p e x = (how : Change) × (tag ≡ change_cell how) × (x ≡ change_at s d c how n p e)

-- what is read after the head word, where n effects are left
unfoldable pub Leads : List ℕ → ℕ → Scope → (ℕ → Reader (Counted (List Effect))) → ℕ → Begun → Read (Counted (List Effect)) → Type 0
Leads s d c f n (Ok (L.All e)) x = x ≡ effects_to (length s + 1) s d f n e
Leads s d c f n (Ok (L.Not e)) x = x ≡ deletion s d c n e
Leads s d c f n (Ok (L.Change tag p e)) x = Changes s d c n tag p e x
Leads s d c f n (Ok (L.Fact p e)) x = x ≡ becomes_at s d c true n p e e
Leads s d c f n (Err why) x = x ≡ refused why.0 why.1

-- a head word ends from `least` to `most`, and stands in one of so many levels; the cell of a change leaves room for a count of arguments
unfoldable pub Inside : ℕ → ℕ → ℕ → Begun → Type 0
Inside least most levels (Ok (L.All e)) = (least ≤ e) × (e ≤ most) × (0 < levels)
Inside least most levels (Ok (L.Not e)) = (least ≤ e) × (e ≤ most) × (0 < levels)
Inside least most levels (Ok (L.Change tag p e)) = (least ≤ e) × (e ≤ most) × (0 < levels) × (tag ≤ 251)
Inside least most levels (Ok (L.Fact p e)) = (least ≤ e) × (e ≤ most) × (0 < levels)
Inside least most levels (Err why) = Unit {0}
