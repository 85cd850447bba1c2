-- Points that lie as numbers for the layer of happenings: four numbers (line, action, time in the action, duration) and four objects each.
use Rattle.std.specs.Prelude.{◌≡◌, ℕ, ◌+◌, ◌*◌, List, [], ◌∷◌, get_or}
use Rattle.happening_forms.specs.Summed.{four_at}
use Rattle.plan_meaning.specs.declared.Slot.{Slot}
use Rattle.plan_waiting.specs.Lent.{when_in}

-- these, from number j on
unfoldable pub Laid : List ℕ → List ℕ → ℕ → List Slot → Type 0
Laid points objects j [] = Unit {0}
Laid points objects j (s ∷ ss) =
    (get_or points (4 * j) 0 ≡ s.step.line)
    × (get_or points (4 * j + 1) 0 ≡ s.step.action)
    × (get_or points (4 * j + 2) 0 ≡ when_in s.ends)
    × (get_or points (4 * j + 3) 0 ≡ s.step.duration)
    × (four_at objects j ≡ s.step.a ∷ s.step.b ∷ s.step.c ∷ s.step.d ∷ [])
    × Laid points objects (j + 1) ss
