use borrow.Enum.Refused.{opened}
use mathlib.Core.Path.{sym, ap, ◌∙◌}
use mathlib.Core.Bool.{Bool, ◌&&◌}
use Prim.Native.Nat.{◌+◌}
use native.Mathlib.Omega.{arith}
use lib.ListN.{get_or, drop}
use Rattle.text_words.specs.Bytes.{kind_of}
use Rattle.text_words.specs.Spelling.{name_bytes}
use Rattle.text_words.proofs.Named.{named_from}
use Rattle.text_words.proofs.Others.{not_letter}
use Rattle.text_words.proofs.Steps.{name_none, name_some}
use Rattle.text_words.proofs.spelling.is_name.Goals as goal

pub returns-then-w-from : goal.returns-then-w-from
returns-then-w-from c = sym (name_none _ _ c.if-w-from.true)

pub returns-in_default : goal.returns-in_default
returns-in_default c = sym (name_some c.args.w.now c.args.from c.if-w-from.false ∙ ap (λ (t : Bool). t && name_bytes (drop (c.args.from + 1) c.args.w.now)) (not_letter (kind_of (get_or c.args.w.now c.args.from 0)) (rw c.kind_of.ensures at (opened c.in_default.in_default-own.keys2))))

pub returns : goal.returns
returns c = rw c.name_end.ensures (sym (name_some _ _ c.if-w-from.false ∙ simp (sym c.kind_of.ensures ∙ c.in-Letter.is) (named_from c.args.w.now (c.args.from + 1) (omega arith))))
