use mathlib.Core.Bool.{Bool}
use mathlib.Core.Path.{◌≡◌}
use Prim.Native.Nat.{ℕ, suc, ◌+◌, ◌-◌}
use native.Mathlib.Omega.{arith}
use lib.Dec.{leb}
use Rattle.plan_waiting.specs.Lent.{slot_at, begin_in, when_at, Sifted}
use Rattle.plan_waiting.proofs.Keeping.{due_going, kept_later, waits_later, sound_later, left_there}
use Rattle.plan_waiting.proofs.lent.later.Goals as goal

pub returns : goal.returns
returns c = let a = c.args in
    let n = a.n in
    let w = a.words.now in
    let l = c.take_due.new.words in
    let k = c.front_of-k.result in
    let first = c.front_of-k.ensures in
    let all : n - k + k ≡ n = omega (arith, first.1) in
    let begin : begin_in w + k ≡ begin_in w + (n - (n - k)) = omega (arith, first.1) in
    λ o b h e.
    let f : ℕ → Bool = λ p. leb (suc a.t) (when_at (slot_at w o) p) in
    let s : Sifted f w l n (n - k) = rw all at (c.take_due.ensures f (rw all (due_going w o n h a.t b e k first.0 first.1))) in (
      kept_later w o n h a.t b e l (n - k) s _ begin,
      waits_later w o n h a.t b e l (n - k) s _ begin,
      sound_later w o n h a.t b e l (n - k) s _ begin,
      left_there w o n h a.t b e l (n - k) s _ begin,
    )
