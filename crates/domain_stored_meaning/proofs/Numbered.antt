-- Action i of those declared, by its three places in the code; the time of a point, by its number. Assumes nothing.
use mathlib.Core.List.{List}
use mathlib.Core.Path.{◌≡◌, refl}
use Prim.Native.Nat.{ℕ, ◌+◌, ◌*◌, ◌<◌}
use native.Mathlib.Omega.{arith}
use lib.ListN.{length, get_or}
use Rattle.domain_meaning.specs.Tables.{Table, entry_at}
use Rattle.domain_meaning.specs.Actions.{start, end, Action}
use Rattle.domain_rows.specs.Held.{byte_at}
use Rattle.domain_stored_meaning.specs.Decode.{when_of, conditions_at, effect_parts_at, lasting_at, action_from, action_at, actions_at}
use Rattle.domain_stored_meaning.proofs.Actions.{numbered}

pub action_at_lem : (code starts : List ℕ) (es : Table) (i : ℕ) (none : Action) → i < length es
    → get_or (actions_at code starts 0 es) i none
    ≡ record {
      declared = entry_at es i;
      lasting = (lasting_at code (byte_at starts (3 * i))).tree;
      conditions = (conditions_at code (byte_at starts (3 * i + 1))).tree;
      effects = (effect_parts_at code (byte_at starts (3 * i + 2))).tree;
    }
unfolding action_at action_from
action_at_lem code starts es i none h = let z : 0 + i ≡ i = omega arith in rw z at (numbered es code starts 0 i none (omega arith))

pub when_start : when_of 1 ≡ start
unfolding when_of
when_start = refl

pub when_end : when_of 3 ≡ end
unfolding when_of
when_end = refl
