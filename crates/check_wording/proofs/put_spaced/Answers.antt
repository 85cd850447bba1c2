use mathlib.Core.List.{[], ◌∷◌}
use Rattle.check_wording.specs.Wording.{decimal}
use Rattle.check_wording.proofs.Puts.{behind}
use Rattle.check_wording.proofs.put_spaced.Goals as goal

pub returns : goal.returns
returns c = behind c.args.out.now _ (32 ∷ []) (decimal _) c.put_byte-digits.ensures c.put_number.ensures
