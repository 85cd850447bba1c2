use mathlib.Core.Path.{sym, ◌∙◌}
use native.Mathlib.Omega.{arith}
use Rattle.domain_terms.proofs.Kept.{raw_past, raw_kept, raw_held}
use borrow.Author.Rules.{rules}
use Rattle.domain_terms.proofs.scope.kept_in.Goals as goal

pub returns-then-n-i : goal.returns-then-n-i
returns-then-n-i c = let past = raw_past c.args.tables.now c.args.from c.args.n c.args.i c.args.j c.if-n-i.true in
    (λ m to t h. sym past ∙ raw_held c.args.tables.now c.args.from to m c.args.n t c.args.i c.args.j h c.requires.2, omega arith, sym past)

pub returns : goal.returns
returns c = let kept = c.byte.ensures ∙ sym (raw_kept c.args.tables.now c.args.from c.args.n c.args.i c.args.j c.if-n-i.false) in
    (λ m to t h. kept ∙ raw_held c.args.tables.now c.args.from to m c.args.n t c.args.i c.args.j h c.requires.2, search rules, kept)
