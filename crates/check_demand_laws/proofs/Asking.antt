-- What is asked of a check after finish is what the plan's answer shows. Assumes nothing.
use Prim.Native.Nat.{ℕ, ◌≤◌}
use mathlib.Core.Bool.{true}
use mathlib.Core.List.{List}
use mathlib.Core.Path.{◌≡◌, refl}
use borrow.Author.Tests.{le-ltb}
use lib.ListN.{length}
use lib.Seq.{sets}
use Rattle.happening_meaning.specs.State.{State}
use Rattle.happening_meaning.specs.declared.Outcome as Why
use Rattle.plan_meaning.specs.Plan.{going, failed, Result, refused, ended}
use Rattle.plan_meaning.specs.Lines.{Refused}
use Rattle.check_meaning.specs.Answer.{of_plan}
use Rattle.check_calls.specs.Calls as C
use Rattle.check_calls.specs.Calls.{well_formed, result_of}
use Rattle.check_calls.specs.declared.Check.{Check}
use Rattle.check_demand_laws.proofs.Keeping.{KeptResult}
use Rattle.check_demand_laws.proofs.Storing.{fresh_formed, ended_answers}
use Rattle.check_demand_laws.proofs.Session.{refused_formed}

-- x is what the machine can come to
module _ (c : Check) (f : well_formed c ≡ true) where
  pub ended_formed : (x : Result State Why.Outcome Refused) → KeptResult x → well_formed (C.ended c x) ≡ true
  unfolding C.ended
  ended_formed (refused e) k = refused_formed c e true f k
  ended_formed (ended r) k = fresh_formed c f (C.ended c (ended r)).progress refl refl refl (ended_answers r k)

  -- the line
  pub asked_line : (x : Result State Why.Outcome Refused) → KeptResult x → (j k : ℕ) (line : List ℕ) → 64 ≤ length line
      → (result_of (C.ended c x) line).1 ≡ sets line 0 (of_plan j k x).line
  unfolding result_of C.ended of_plan
  asked_line (refused e) l j k line h = rw (ended_formed (refused e) l, le-ltb (length line) 64 h)
  asked_line (ended (going s t)) l j k line h = rw (ended_formed (ended (going s t)) l, le-ltb (length line) 64 h)
  asked_line (ended (failed s t w)) l j k line h = rw (ended_formed (ended (failed s t w)) l, le-ltb (length line) 64 h)
