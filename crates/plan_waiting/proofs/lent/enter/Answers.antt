use mathlib.Core.Path.{◌≡◌, ap, ◌∙◌}
use Prim.Native.Nat.{◌+◌}
use mathlib.Core.List.{List, [], ◌∷◌, ◌++◌}
use native.Mathlib.Omega.{arith}
use lib.ListN.{length}
use Rattle.plan_meaning.specs.Stored.{point_in}
use Rattle.plan_waiting.specs.Waiting.{waiting}
use Rattle.plan_waiting.specs.Lent.{queue_in}
use Rattle.plan_waiting.proofs.Points.{start_of, end_of, two_points, one_more, two_more}
use Rattle.plan_waiting.proofs.LentPlaces.{grown_waits, grown_sound}
use Rattle.plan_waiting.proofs.Entering.{both_entered}
use Rattle.plan_meaning.specs.Plan.{Point}
use Rattle.plan_meaning.specs.Promised.{Act}
use Rattle.plan_waiting.proofs.lent.enter.Goals as goal

pub returns-then-x-eq0 : goal.returns-then-x-eq0
returns-then-x-eq0 c = let a = c.args in
    let q = queue_in a.words.now a.objects.now a.n in
    let u = c.enter_point in
    let r = queue_in u.new.words u.new.objects (a.n + 1) in
    let s = start_of a.x in (
      u.ensures.0,
      one_more a.x (waiting q) (waiting r) c.if-x-eq0.true (grown_waits q r s u.ensures.1),
      λ m. grown_sound q r s u.ensures.1 m u.ensures.0.few,
      u.ensures.2,
    )

pub enter_point-requires-2 : goal.enter_point-requires-2
enter_point-requires-2 c = let a = c.args in
    (c.enter_point.ensures.0, omega (arith, ap length (two_points a.x c.if-x-eq0.false)), c.requires.2)

pub returns : goal.returns
returns c = let a = c.args in
    let n = a.n in
    let u = c.enter_point in
    let v = c.enter_point-2 in
    let q = queue_in a.words.now a.objects.now n in
    let q' = queue_in u.new.words u.new.objects (n + 1) in
    let r = queue_in v.new.words v.new.objects (n + 1 + 1) in
    let one = grown_waits q q' (start_of a.x) u.ensures.1 in
    let two = grown_waits q' r (end_of a.x) v.ensures.1 in
    let both = two ∙ ap (λ (ps : List (Point Act)). ps ++ point_in (end_of a.x) ∷ []) one in
    let e : n + 1 + 1 ≡ n + 2 = omega arith in
    rw (← e) (
      v.ensures.0,
      two_more a.x (waiting q) (waiting r) c.if-x-eq0.false both,
      λ m h k. grown_sound q' r (end_of a.x) v.ensures.1 m v.ensures.0.few (grown_sound q q' (start_of a.x) u.ensures.1 m u.ensures.0.few h k) k,
      both_entered u.ensures.2 v.ensures.2,
    )
