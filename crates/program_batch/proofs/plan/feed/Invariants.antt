-- `program_batch::plan::feed` ends: the measure is how many bytes are left. Assumes nothing.
use Rattle.program_batch.proofs.plan.feed.Given as goal

abbrev pub decreases-loop-left : goal.decreases-loop-left
decreases-loop-left l = l.left
