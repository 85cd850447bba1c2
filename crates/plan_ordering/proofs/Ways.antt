-- What the library's calls give: the window copied to another place, and how many keys stand in front. Assumes nothing.
use Rattle.std.proofs.Common.{◌≡◌, ℕ, ◌+◌, ◌≤◌, cond, List, [], ◌∷◌, ◌++◌, eqb, length, take, drop, refl, ap, ◌∙◌, append_assoc, arith, suc, one-add, length-drop, length-take-le, take_at, drop_at}
use lib.Seq.{paste}
use Rattle.std.specs.List.{prefix_len}
use Rattle.plan_ordering.specs.Order.{front}
use Rattle.plan_ordering.specs.Keys.{keys_in}

pub keys_pasted : (l : List ℕ) (from to n : ℕ) → from + n ≤ length l → to + n ≤ length l → keys_in (paste l to (drop from l) n) to n ≡ keys_in l from n
keys_pasted l from to n h g =
    let first : length (take to l) ≡ to = length-take-le to l (omega arith) in
    let keys : length (keys_in l from n) ≡ n = length-take-le n (drop from l) (simp length-drop (omega arith)) in
    ap (λ (m : List ℕ). keys_in m to n) (append_assoc (take to l) (keys_in l from n) (drop (to + n) l))
    ∙ ap (take n) (drop_at (take to l) (keys_in l from n ++ drop (to + n) l) to first)
    ∙ take_at (keys_in l from n) (drop (to + n) l) n keys

pub front_prefix : {A : Type 0} (time : A → ℕ) (t : ℕ) (s : List A) → front time t s ≡ prefix_len (λ x. eqb (time x) t) s
unfolding front
front_prefix time t [] = refl
front_prefix time t (x ∷ s) = ap (λ (n : ℕ). cond (eqb (time x) t) n 0) (simp one-add (ap suc (front_prefix time t s)))
