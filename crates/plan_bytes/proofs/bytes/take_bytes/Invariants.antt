use mathlib.Core.Path.{◌≡◌}
use lib.ListN.{length}
use Rattle.domain_meaning.specs.Conditions.{Cond}
use Rattle.happening_meaning.specs.State.{State}
use Rattle.domain_stored_meaning.specs.Entries.{signed_in}
use Rattle.happening_state.specs.States.{state_in}
use Rattle.plan_meaning.specs.Feed.{feed}
use Rattle.plan_meaning.specs.Lines.{reader, limits}
use Rattle.plan_running.specs.Running.{rules_in, queue_held, IsPoised}
use Rattle.plan_lines.specs.Knowing.{known_in}
use Rattle.plan_feeding.specs.Feeding.{held_in, Fit}
use Rattle.plan_bytes.specs.Ends.{line_end}
use Rattle.plan_bytes.proofs.bytes.take_bytes.Given as goal

abbrev pub invariant-loop-work : goal.invariant-loop-work
invariant-loop-work l = (l.end ≡ line_end l.rest)
    × Fit l.acting (queue_held l.work) l.p
    × (length l.line ≡ 257)
    × ((c : Cond) (s : State)
    → feed (rules_in l.rows c (signed_in l.heads l.acting) s) limits (reader (known_in l.tables l.counts l.heads l.acting l.rows)) (held_in (state_in l.facts l.numbers) l.line (queue_held l.work) l.p) l.rest
    ≡ feed (rules_in l.rows c (signed_in l.heads l.acting) s) limits (reader (known_in l.tables l.counts l.heads l.acting l.rows)) (held_in (state_in l.initial.facts l.initial.numbers) l.initial.line (queue_held l.initial.work) l.initial.p) l.part)
    × (length l.facts ≡ length l.initial.facts)
    × (length l.numbers ≡ length l.initial.numbers)
    × (length l.fresh ≡ length l.initial.fresh)
    × IsPoised l.rows l.work l.facts l.numbers l.fresh

abbrev pub decreases-loop-work : goal.decreases-loop-work
decreases-loop-work l = length l.rest
