-- `program_batch::reading::read` ends: the measure is how many bytes are left. Assumes nothing.
use Rattle.program_batch.proofs.reading.read.Given as goal

abbrev pub decreases-loop-left : goal.decreases-loop-left
decreases-loop-left l = l.left
