use Rattle.domain_preparing.proofs.prepare.Goals as goal

pub returns : goal.returns
returns c = λ es h. rw (c.put.ensures, c.entry.ensures.0) at (c.put_actions.ensures es h)
