use borrow.Enum.Refused.{opened}
use Rattle.check_calls.proofs.Loading.{opened_refused, opened_loaded}
use Rattle.check_calls.proofs.load.Goals as goal

pub returns-in_default : goal.returns-in_default
returns-in_default c = opened_refused _ _ _ c.load-loaded.ensures (opened c.in_default.in_default-own.keys2) _ c.check_for-check.ensures

pub returns : goal.returns
returns c = opened_loaded _ _ _ c.load-loaded.ensures c.in-Loaded.is _ c.check_for-check-2.ensures
