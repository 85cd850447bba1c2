-- Each way out is a law of Storing.
use Rattle.std.proofs.lemmas.Bool.{not-true, not-false}
use mathlib.Core.Path.{sym, ◌∙◌}
use Rattle.domain_holding.proofs.Storing.{stored, idle, ended, named, odd}
use Rattle.domain_holding.proofs.take_byte.Goals as goal

pub returns-then-used-block : goal.returns-then-used-block
returns-then-used-block c = let a = c.args in
    stored a.block.now a.held a.b c.in_run-on.result c.in_run-on.ensures c.if-used-block.true

pub returns-then-not-held : goal.returns-then-not-held
returns-then-not-held c = let a = c.args in
    idle a.block.now a.held a.b c.if-used-block.false (not-true a.held.going c.if-not-held.true)

pub returns-then-not-on : goal.returns-then-not-on
returns-then-not-on c = let a = c.args in
    ended a.block.now a.held a.b c.if-used-block.false (sym c.in_run-on.ensures ∙ c.if-not-on.true)

pub returns-then-is_name_byte : goal.returns-then-is_name_byte
returns-then-is_name_byte c = let a = c.args in
    named a.block.now a.held a.b c.if-used-block.false (not-false a.held.going c.if-not-held.false) (sym c.in_run-on.ensures ∙ c.if-not-on.false) (sym c.is_name_byte.ensures ∙ c.if-is_name_byte.true)

pub returns : goal.returns
returns c = let a = c.args in
    rw c.put_last.ensures (odd a.block.now a.held a.b c.if-used-block.false (not-false a.held.going c.if-not-held.false) (sym c.in_run-on.ensures ∙ c.if-not-on.false) (sym c.is_name_byte.ensures ∙ c.if-is_name_byte.false))
