-- Actions that stand in the code are read back. Assumes nothing.
use mathlib.Core.Path.{◌≡◌, refl}
use mathlib.Core.List.{List, [], ◌∷◌, ◌++◌, map}
use Prim.Native.Nat.{ℕ, zero, suc, ◌+◌, ◌*◌, ◌≤◌}
use native.Mathlib.Omega.{arith}
use lib.ListN.{length, length-append, get_or}
use lib.Seq.{sets}
use Rattle.domain_meaning.specs.Tables.{Table, entry_at}
use Rattle.domain_meaning.specs.Conditions.{Cond}
use Rattle.domain_meaning.specs.Effects.{Effect}
use Rattle.domain_meaning.specs.Actions.{When, start, whole, end, Timed, Lasting, moment, rule, Action}
use Rattle.domain_expressions.specs.Codes.{cells_of}
use Rattle.domain_stored_meaning.specs.Cells.{cond_cells, when_cell, parts_cells, list_cells, lasting_cells, action_cells, actions_cells, starts_of}
use Rattle.domain_stored_meaning.specs.Decode.{Decoded, decoded, cond_at, effects_at, when_of, parts_at, conditions_at, effect_parts_at, lasting_at, action_from}
use Rattle.domain_stored_meaning.specs.Decode.{action_at, actions_at}
use Rattle.domain_stored_meaning.specs.Good.{GoodCond, GoodEffects, GoodParts, GoodLasting, GoodAction, GoodActions}
use Rattle.domain_stored_meaning.proofs.Standing.{Stands, below, head_is, behind, front, after, stored}
use Rattle.domain_stored_meaning.proofs.Expressions.{expr_read}
use Rattle.domain_stored_meaning.proofs.Conditions.{cond_read}
use Rattle.domain_stored_meaning.proofs.Effects.{effects_read}

-- ---- parts, f reading back what the cells of one are

module _ {A : Type 0} (cells : A → List ℕ) (P : A → Type 0) (f : ℕ → Decoded A) (code : List ℕ)
    (back : (x : A) (at : ℕ) → P x → Stands code at (cells x) → f at ≡ decoded x (at + length (cells x))) where
  part_read : (w : When) (x : A) {xs : List (Timed A)} (ys : List ℕ) (at n : ℕ) → Stands code at (when_cell w ∷ (cells x ++ ys)) → P x
      → parts_at f n code (at + 1 + length (cells x)) ≡ decoded xs (at + 1 + length (cells x) + length ys)
      → parts_at f (suc n) code at ≡ decoded (record { when = w; what = x } ∷ xs) (at + suc (length (cells x ++ ys)))
  unfolding parts_at when_of
  part_read start x ys at n s g e =
      let k : at + 1 + length (cells x) + length ys ≡ at + suc (length (cells x ++ ys)) = omega (arith, length-append (cells x) ys) in
      rw (below s, head_is s, back x (at + 1) g (front (cells x) ys (behind s)), e, k)
  part_read whole x ys at n s g e =
      let k : at + 1 + length (cells x) + length ys ≡ at + suc (length (cells x ++ ys)) = omega (arith, length-append (cells x) ys) in
      rw (below s, head_is s, back x (at + 1) g (front (cells x) ys (behind s)), e, k)
  part_read end x ys at n s g e =
      let k : at + 1 + length (cells x) + length ys ≡ at + suc (length (cells x ++ ys)) = omega (arith, length-append (cells x) ys) in
      rw (below s, head_is s, back x (at + 1) g (front (cells x) ys (behind s)), e, k)

  end_read_lem : (at n : ℕ) → 1 ≤ n → Stands code at (0 ∷ []) → parts_at f n code at ≡ decoded [] (at + 1)
  unfolding parts_at
  end_read_lem at zero h s = absurd (let y : ⊥ = omega arith in y)
  end_read_lem at (suc n) h s = rw (below s, head_is s)

  pub parts_read : (xs : List (Timed A)) (at n : ℕ) → length (parts_cells cells xs) ≤ n → GoodParts P xs → Stands code at (parts_cells cells xs)
      → parts_at f n code at ≡ decoded xs (at + length (parts_cells cells xs))
  unfolding GoodParts parts_cells
  parts_read [] at n h g s = end_read_lem at n h s
  parts_read (x ∷ xs) at zero h g s = absurd (let y : ⊥ = omega arith in y)
  parts_read (x ∷ xs) at (suc n) h g s =
      part_read x.when x.what (parts_cells cells xs) at n s g.0
      (parts_read xs (at + 1 + length (cells x.what)) n (omega (arith, length-append (cells x.what) (parts_cells cells xs))) g.1
      (after (cells x.what) (parts_cells cells xs) (behind s)))

module _ (code : List ℕ) (at : ℕ) where
  pub conditions_read : (xs : List (Timed Cond)) → GoodParts (GoodCond 16) xs → Stands code at (parts_cells cond_cells xs)
      → conditions_at code at ≡ decoded xs (at + length (parts_cells cond_cells xs))
  conditions_read xs g s =
      parts_read cond_cells (GoodCond 16) (cond_at 16 code) code (λ x i h t. cond_read x code i 16 h t) xs at (length code) (omega (arith, s.room)) g s

  pub effect_parts_read : (xs : List (Timed (List Effect))) → GoodParts GoodEffects xs → Stands code at (parts_cells list_cells xs)
      → effect_parts_at code at ≡ decoded xs (at + length (parts_cells list_cells xs))
  effect_parts_read xs g s =
      parts_read list_cells GoodEffects (effects_at (length code) code) code
      (λ x i h t. effects_read x code i (length code) (omega (arith, t.room)) h t) xs at (length code)
      (omega (arith, s.room)) g s

-- ---- the duration rule

pub lasting_read_lem : (l : Lasting) (code : List ℕ) (at : ℕ) → GoodLasting l → Stands code at (lasting_cells l)
    → lasting_at code at ≡ decoded l (at + length (lasting_cells l))
unfolding GoodLasting lasting_cells lasting_at
lasting_read_lem moment code at g s = rw (below s, head_is s)
lasting_read_lem (rule x) code at g s =
    let n : at + 1 + length (cells_of x) ≡ at + suc (length (cells_of x)) = omega arith in
    rw (below s, head_is s, expr_read x code (at + 1) 16 g (behind s), n)

-- ---- actions

-- an action that stands in the code is read back from its three places
pub action_read : (a : Action) (code : List ℕ) (u : ℕ) → GoodAction a → Stands code u (action_cells a)
    → action_from code u (u + length (lasting_cells a.lasting))
    (u + length (lasting_cells a.lasting) + length (parts_cells cond_cells a.conditions)) a.declared ≡ a
unfolding action_cells action_from
action_read a code u g s =
    let ls = lasting_cells a.lasting in
    let cs = parts_cells cond_cells a.conditions in
    let es = parts_cells list_cells a.effects in
    let t : Stands code (u + length ls) (cs ++ es) = after ls (cs ++ es) s in
    rw (
      lasting_read_lem a.lasting code u g.lasting (front ls (cs ++ es) s),
      conditions_read code (u + length ls) a.conditions g.conditions (front cs es t),
      effect_parts_read code (u + length ls + length cs) a.effects g.effects (after cs es t),
    )

-- so are actions one after the other, from where the starts say
pub actions_read : (as' : List Action) (code starts : List ℕ) (u j : ℕ) → GoodActions as' → Stands code u (actions_cells as')
    → Stands starts (3 * j) (starts_of u as')
    → actions_at code starts j (map (λ a. a.declared) as') ≡ as'
unfolding GoodActions actions_cells starts_of actions_at action_at
actions_read [] code starts u j g s t = refl
actions_read (a ∷ as') code starts u j g s t =
    let t1 = behind t in
    let t2 = behind t1 in
    let e : 3 * j + 1 + 1 ≡ 3 * j + 2 = omega arith in
    let n : 3 * j + 1 + 1 + 1 ≡ 3 * (j + 1) = omega arith in
    let t3 : Stands starts (3 * (j + 1)) (starts_of (u + length (action_cells a)) as') = rw n at (behind t2) in
    rw (
      head_is t,
      head_is t1,
      ← e,
      head_is t2,
      action_read a code u g.0 (front (action_cells a) (actions_cells as') s),
      actions_read as' code starts (u + length (action_cells a)) (j + 1) g.1 (after (action_cells a) (actions_cells as') s) t3,
    )

pub starts_length : (u : ℕ) (as' : List Action) → length (starts_of u as') ≡ 3 * length as'
unfolding starts_of
starts_length u [] = refl
starts_length u (a ∷ as') = omega (arith, starts_length (u + length (action_cells a)) as')

-- actions that were stored are read back
pub actions_back : (as' : List Action) (code starts : List ℕ) → GoodActions as' → length (actions_cells as') ≤ length code → 3 * length as' ≤ length starts
    → actions_at (sets code 0 (actions_cells as')) (sets starts 0 (starts_of 0 as')) 0 (map (λ a. a.declared) as') ≡ as'
actions_back as' code starts g h k =
    actions_read as' (sets code 0 (actions_cells as')) (sets starts 0 (starts_of 0 as')) 0 0 g
    (stored code 0 (actions_cells as') (omega arith))
    (stored starts 0 (starts_of 0 as') (omega (arith, starts_length 0 as')))

-- the action with a number, by itself
pub numbered : (es : Table) (code starts : List ℕ) (j i : ℕ) (a : Action) → suc i ≤ length es
    → get_or (actions_at code starts j es) i a ≡ action_at code starts (j + i) (entry_at es i)
unfolding actions_at
numbered [] code starts j i a h = absurd (let y : ⊥ = omega arith in y)
numbered (e ∷ es) code starts j zero a h = let z : j + 0 ≡ j = omega arith in rw z
numbered (e ∷ es) code starts j (suc i) a h = let z : j + suc i ≡ j + 1 + i = omega arith in rw z (numbered es code starts (j + 1) i a (omega arith))
