-- A table stored in a part of a slice: that part holds it, and the other parts stay. Assumes nothing.
use mathlib.Core.Path.{◌≡◌, refl, ap, ◌∙◌}
use mathlib.Core.List.{List, [], ◌∷◌, ◌++◌, append_assoc}
use Prim.Native.Nat.{ℕ, suc, ◌+◌, ◌-◌, ◌≤◌}
use native.Mathlib.Omega.{arith}
use lib.ListN.{length, take, drop, set}
use lib.Seq.{sets, sets-eq, length-take-le, drop_at, take_at, take-set-le, drop-set-lt, drop-set-add}
use Rattle.text_tokens.specs.Runs.{part}

before_set : (l : List ℕ) (p e i v : ℕ) → p ≤ e → e ≤ i → part (set l i v) p e ≡ part l p e
before_set l p e i v h k =
    let q : i ≡ p + (i - p) = omega arith in
    let r : e - p ≤ i - p = omega arith in
    ap (λ (j : ℕ). take (e - p) (drop p (set l j v))) q
    ∙ ap (λ (x : List ℕ). take (e - p) x) (drop-set-add p l (i - p) v)
    ∙ take-set-le (e - p) (drop p l) (i - p) v r

-- a part before what is stored
pub part_before : (vs l : List ℕ) (p e at : ℕ) → p ≤ e → e ≤ at → part (sets l at vs) p e ≡ part l p e
part_before [] l p e at h k = refl
part_before (v ∷ vs) l p e at h k = part_before vs (set l at v) p e (suc at) h (omega arith) ∙ before_set l p e at v h k

-- a part after it
pub part_behind_lem : (vs l : List ℕ) (p e at : ℕ) → at + length vs ≤ p → part (sets l at vs) p e ≡ part l p e
part_behind_lem [] l p e at h = refl
part_behind_lem (v ∷ vs) l p e at h =
    part_behind_lem vs (set l at v) p e (suc at) (omega arith) ∙ ap (λ (x : List ℕ). take (e - p) x) (drop-set-lt p l at v (omega arith))

-- the part itself
pub part_stored : (l vs : List ℕ) (at e : ℕ) → e ≡ at + length vs → e ≤ length l → part (sets l at vs) at e ≡ vs
part_stored l vs at e q h =
    let room : at + length vs ≤ length l = omega arith in
    let n : e - at ≡ length vs = omega arith in
    rw (
      n,
      sets-eq vs l at room,
      append_assoc (take at l) vs (drop (at + length vs) l),
      drop_at (take at l) (vs ++ drop (at + length vs) l) at (length-take-le at l (omega arith)),
    )
    (take_at vs (drop (at + length vs) l) (length vs) refl)
