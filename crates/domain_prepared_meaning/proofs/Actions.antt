-- Prepared actions and a goal that stand in rows are read back. Assumes nothing.
use mathlib.Core.Path.{◌≡◌, refl, ap, ap₂}
use mathlib.Core.List.{List, [], ◌∷◌, ◌++◌, map}
use Prim.Native.Nat.{ℕ, zero, suc, ◌+◌, ◌*◌, ◌≤◌, ◌<◌}
use native.Mathlib.Omega.{arith}
use lib.ListN.{length, length-append, get_or}
use Rattle.domain_meaning.specs.Tables.{Table, entry_at}
use Rattle.domain_meaning.specs.Conditions.{Cond, all}
use Rattle.domain_meaning.specs.Effects.{Effect}
use Rattle.domain_meaning.specs.Actions.{When, start, whole, end, Lasting, moment, rule, Action}
use Rattle.domain_rows.specs.Held.{byte_at}
use Rattle.domain_stored_meaning.specs.Good.{GoodCond, GoodLasting, GoodAction, GoodActions}
use Rattle.domain_stored_meaning.proofs.Standing.{Stands, below, head_is, behind, front, after}
use Rattle.domain_prepared_meaning.specs.Preparing.{singles, tests_for, effects_for, test, effect, lasts, action_by, conds_of, action_of, goal_of}
use Rattle.domain_prepared_meaning.specs.Rows.{tests_bytes, effects_bytes, lasts_bytes, action_bytes, actions_bytes, sizes, places_from}
use Rattle.domain_prepared_meaning.specs.Rows.{all_places, lists_at, effect_bytes}
use Rattle.domain_prepared_meaning.specs.Decode.{tests_at, effects_at, lasts_at, action_at, actions_at, goal_at}
use Rattle.domain_prepared_meaning.specs.Good.{PreparesCond, PreparesLasting, PreparesAction, PreparesActions}
use Rattle.domain_prepared_meaning.proofs.Forms.{expr_read}
use Rattle.domain_prepared_meaning.proofs.Places.{places_read, six_stand}
use Rattle.domain_prepared_meaning.proofs.Tests.{singles_good, tests_good}
use Rattle.domain_prepared_meaning.proofs.Tests as T
use Rattle.domain_prepared_meaning.proofs.Effects.{effects_good, effects_prepare}
use Rattle.domain_prepared_meaning.proofs.Effects as E

-- a list of effects has an end
effects_some : (n : ℕ) (ps fs : List ℕ) (es : List Effect) → 1 ≤ length (effects_bytes n ps fs es)
unfolding effects_bytes
effects_some n ps fs [] = omega arith
effects_some n ps fs (e ∷ es) = omega (arith, length-append (effect_bytes n ps fs e) (effects_bytes n ps fs es), effects_some n ps fs es)

places_length : (n : ℕ) (ps fs : List ℕ) (u : ℕ) (ks : List ℕ) → length (places_from n ps fs u ks) ≡ 2 + 2 * length ks
unfolding places_from
places_length n ps fs u [] = refl
places_length n ps fs u (k ∷ ks) = omega (arith, places_length n ps fs (u + k) ks)

-- ---- actions; the rows say the number of objects

module _ (n : ℕ) (rows : List ℕ) (counted : byte_at rows 0 ≡ n) (ps fs : List ℕ) where
  lasts_read : (l : Lasting) (at : ℕ) → GoodLasting l → PreparesLasting n ps fs 4 l → Stands rows at (lasts_bytes n ps fs l) → lasts_at rows at ≡ lasts n ps fs l
  unfolding GoodLasting PreparesLasting lasts_bytes lasts_at lasts
  lasts_read moment at g h s = rw (below s, head_is s)
  lasts_read (rule x) at g h s =
      rw (below s, head_is s, expr_read n 4 rows (omega arith) (λ _. counted) ps fs x (at + 1) 16 g h (behind s))

  module _ (a : Action) (g : GoodAction a) (h : PreparesAction n ps fs 4 a) where
    tests_at_lem : (w : When) (at : ℕ) → Stands rows at (tests_bytes n ps fs (tests_for w a)) → tests_at rows at ≡ map (test n ps fs) (tests_for w a)
    tests_at_lem w at s =
        T.list_read n 4 rows (omega arith) (λ _. counted) ps fs (tests_for w a) at (tests_good n 4 ps fs w a.conditions g.conditions h.conditions) s

    effects_at_lem : (w : When) (at : ℕ) → Stands rows at (effects_bytes n ps fs (effects_for w a)) → effects_at rows at ≡ map (effect n ps fs) (effects_for w a)
    effects_at_lem w at s =
        E.list_read n 4 rows (omega arith) (λ _. counted) ps fs (effects_for w a) at (effects_good n 4 ps fs w a.effects g.effects)
        (effects_prepare n 4 ps fs w a.effects h.effects) s

    -- an action that stands in rows, its lists from u on, is read back prepared from its six places
    action_read : (u i : ℕ) (zs : List ℕ) → u + length (action_bytes n ps fs a) ≤ 65536 → Stands rows u (action_bytes n ps fs a)
        → Stands rows (1 + 12 * i) (places_from n ps fs u (sizes n ps fs a) ++ zs) → action_at rows i a.declared ≡ action_of n ps fs a
    unfolding action_bytes action_at action_of action_by
    action_read u i zs m s t =
        let l = lasts_bytes n ps fs a.lasting in
        let b = tests_bytes n ps fs (tests_for start a) in
        let c = tests_bytes n ps fs (tests_for whole a) in
        let d = tests_bytes n ps fs (tests_for end a) in
        let e = effects_bytes n ps fs (effects_for start a) in
        let f = effects_bytes n ps fs (effects_for end a) in
        let room : u + length l + length b + length c + length d + length e < 65536 = omega (
          arith,
          length-append l (b ++ (c ++ (d ++ (e ++ f)))),
          length-append b (c ++ (d ++ (e ++ f))),
          length-append c (d ++ (e ++ f)),
          length-append d (e ++ f),
          length-append e f,
          effects_some n ps fs (effects_for end a),
        ) in
        let p = places_read n ps fs rows i u (length l) (length b) (length c) (length d) (length e) zs room t in
        let x = six_stand l b c d e f s in
        rw (p.lasting, p.first, p.during, p.last, p.begun, p.ended)
        (rw (
          lasts_read a.lasting _ g.lasting h.lasting x.lasting,
          tests_at_lem start _ x.first,
          tests_at_lem whole _ x.during,
          tests_at_lem end _ x.last,
          effects_at_lem start _ x.begun,
          effects_at_lem end _ x.ended,
        ))

  -- so are actions one after the other, from number i on
  pub actions_read : (as' : List Action) (u i : ℕ) → GoodActions as' → PreparesActions n ps fs 4 as' → u + length (actions_bytes n ps fs as') ≤ 65536
      → Stands rows u (actions_bytes n ps fs as') → Stands rows (1 + 12 * i) (all_places n ps fs u as')
      → actions_at rows i (map (λ (a : Action). a.declared) as') ≡ map (action_of n ps fs) as'
  unfolding GoodActions PreparesActions actions_bytes all_places actions_at
  actions_read [] u i g h m s t = refl
  actions_read (a ∷ as') u i g h m s t =
      let xs = action_bytes n ps fs a in
      let ys = actions_bytes n ps fs as' in
      let ks = places_from n ps fs u (sizes n ps fs a) in
      let ls = all_places n ps fs (u + length xs) as' in
      let q = length-append xs ys in
      let e : 1 + 12 * i + length ks ≡ 1 + 12 * (i + 1) = omega (arith, places_length n ps fs u (sizes n ps fs a)) in
      ap₂ ◌∷◌ (action_read a g.0 h.0 u i ls (omega arith) (front xs ys s) t)
      (actions_read as' (u + length xs) (i + 1) g.1 h.1 (omega arith) (after xs ys s) (rw e at (after ks ls t)))

  -- all actions, where rows have their lists
  pub actions_back : (as' : List Action) → GoodActions as' → PreparesActions n ps fs 4 as' → lists_at + length (actions_bytes n ps fs as') ≤ 65536
      → Stands rows 1 (all_places n ps fs lists_at as') → Stands rows lists_at (actions_bytes n ps fs as')
      → actions_at rows 0 (map (λ (a : Action). a.declared) as') ≡ map (action_of n ps fs) as'
  actions_back as' g h m t s = actions_read as' lists_at 0 g h m s t

-- ---- the goal, in which no variable stands

pub goal_back : (n : ℕ) (ps fs goal : List ℕ) (c : Cond) → GoodCond 16 c → PreparesCond n ps fs 0 c → Stands goal 0 (tests_bytes n ps fs (singles c))
    → goal_at goal ≡ goal_of n ps fs c
unfolding goal_at goal_of
goal_back n ps fs goal c g h s =
    ap (λ (cs : List Cond). all (conds_of cs))
    (T.list_read n 0 goal (omega arith) (λ z. absurd (let y : ⊥ = omega arith in y)) ps fs (singles c) 0 (singles_good n 0 ps fs c 16 g h) s)

-- ---- the action with a number, by itself

pub numbered : (es : Table) (rows : List ℕ) (j i : ℕ) (a : Action) → suc i ≤ length es
    → get_or (actions_at rows j es) i a ≡ action_at rows (j + i) (entry_at es i)
unfolding actions_at
numbered [] rows j i a h = absurd (let y : ⊥ = omega arith in y)
numbered (e ∷ es) rows j zero a h = let z : j + 0 ≡ j = omega arith in rw z
numbered (e ∷ es) rows j (suc i) a h = let z : j + suc i ≡ j + 1 + i = omega arith in rw z (numbered es rows (j + 1) i a (omega arith))
