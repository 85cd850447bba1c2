use Rattle.check_calls.proofs.listing.standing_fits.Goals as goal

pub returns-then-refused : goal.returns-then-refused
returns-then-refused c = rw c.if-refused.true c.is_refusal.ensures

pub returns : goal.returns
returns c = rw c.if-refused.false
