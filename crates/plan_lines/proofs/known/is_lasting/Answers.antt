use Rattle.plan_lines.proofs.Names.{lasting_read_lem, place_read}
use Rattle.plan_lines.proofs.known.is_lasting.Goals as goal

pub returns : goal.returns
returns c = rw (c.cell-3.ensures.0, c.cell.ensures.0, c.cell-2.ensures.0, place_read) (lasting_read_lem _ _)
