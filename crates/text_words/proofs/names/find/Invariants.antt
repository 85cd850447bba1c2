use mathlib.Core.Path.{◌≡◌}
use Prim.Native.Nat.{◌-◌, ◌≤◌}
use lib.ListN.{length, drop}
use Rattle.text_words.specs.Spelling.{place_from}
use Rattle.text_words.specs.Names.{names_of}
use Rattle.text_words.proofs.names.find.Given as goal

abbrev pub invariant-loop-i : goal.invariant-loop-i
invariant-loop-i l = (l.i ≤ l.n) × (l.at ≤ length l.rows) × (place_from 0 (names_of l.n l.rows) l.w ≡ place_from l.i (names_of (l.n - l.i) (drop l.at l.rows)) l.w)
