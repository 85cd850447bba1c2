use lib.ListN.{length-drop}
use lib.Seq.{take_all}
use mathlib.Core.Path.{sym, ◌∙◌}
use Prim.Native.Nat.{◌-◌, ◌≤◌}
use native.Mathlib.Omega.{arith}
use lib.ListN.{length, drop}
use Rattle.text_tokens.proofs.Steps.{part_short, part_none, part_rest}
use Rattle.text_tokens.proofs.runs.part_of.Goals as goal

pub returns-then-text-from : goal.returns-then-text-from
returns-then-text-from c = sym (part_none c.args.text.now c.args.from c.args.to (omega arith))

pub returns-then-text-to : goal.returns-then-text-to
returns-then-text-to c = let q : c.args.from ≤ length c.args.text.now = omega arith in sym (part_rest c.args.text.now c.args.from c.args.to (omega arith) ∙ sym (take_all (length c.args.text.now - c.args.from) (drop c.args.from c.args.text.now) (simp length-drop (omega arith))))

pub returns-then-to-from : goal.returns-then-to-from
returns-then-to-from c = sym (part_short c.args.text.now c.args.from c.args.to (omega arith))
