-- Prepared rows are no longer than the size of their trees, and the end of a list. Assumes nothing.
use mathlib.Core.Path.{◌≡◌}
use mathlib.Core.List.{List, [], ◌∷◌, ◌++◌}
use mathlib.Core.Bool.{cond}
use Prim.Native.Nat.{ℕ, ◌+◌, ◌≤◌}
use native.Mathlib.Omega.{arith}
use lib.ListN.{length, length-append}
use Rattle.domain_meaning.specs.Terms.{Arg, object, variable, Ref, Expr, number, value, minus, difference, plus}
use Rattle.domain_meaning.specs.Conditions.{Cond, Conds, all, atom, same, compare, none, cons}
use Rattle.domain_meaning.specs.Effects.{Effect, becomes, changes}
use Rattle.domain_meaning.specs.Actions.{When, start, whole, end, Timed, Lasting, moment, rule, Action}
use Rattle.domain_stored_meaning.specs.Cells.{change_cell}
use Rattle.domain_prepared_meaning.specs.Forms.{form_of}
use Rattle.domain_prepared_meaning.specs.Preparing.{is_at, parts_at, singles, singles_of, all_singles, all_effects, tests_for, effects_for}
use Rattle.domain_prepared_meaning.specs.Rows.{two_bytes, share_bytes, form_bytes, expr_bytes, test_bytes, effect_bytes, tests_bytes, effects_bytes, lasts_bytes}
use Rattle.domain_prepared_meaning.specs.Rows.{action_bytes, actions_bytes}
use Rattle.domain_read_laws.proofs.Sizes.{ref_size_lem, expr_size, cond_size, conds_size, effect_size, effects_size, list_size, parts_size, lasting_size, action_size}
use Rattle.domain_read_laws.proofs.Sizes.{actions_size}

share_size : (xs : List Arg) → length (share_bytes xs) ≤ length xs
unfolding share_bytes
share_size [] = omega arith
share_size (object i ∷ xs) = omega (arith, share_size xs)
share_size (variable i ∷ xs) = omega (arith, share_size xs)

module _ (n : ℕ) (ps fs : List ℕ) where
  pub form_size : (tag : ℕ) (firsts : List ℕ) (r : Ref) → length (form_bytes n ps fs tag firsts r) ≤ ref_size_lem r
  form_size tag firsts r =
      omega (arith, share_size r.args, length-append (two_bytes (form_of n firsts r).base) (share_bytes r.args))

  expr_rows : (x : Expr) → length (expr_bytes n ps fs x) ≤ expr_size x
  unfolding expr_bytes expr_size
  expr_rows (number z) = omega arith
  expr_rows (value r) = form_size 5 fs r
  expr_rows (minus a) = omega (arith, expr_rows a)
  expr_rows (difference a b) = omega (arith, expr_rows a, expr_rows b, length-append (expr_bytes n ps fs a) (expr_bytes n ps fs b))
  expr_rows (plus a b) = omega (arith, expr_rows a, expr_rows b, length-append (expr_bytes n ps fs a) (expr_bytes n ps fs b))

  -- ---- lists, without their ends

  pub tests_join : (xs ys : List Cond) → length (tests_bytes n ps fs (xs ++ ys)) + 1 ≡ length (tests_bytes n ps fs xs) + length (tests_bytes n ps fs ys)
  unfolding tests_bytes
  tests_join [] ys = omega arith
  tests_join (c ∷ xs) ys =
      omega (
        arith,
        tests_join xs ys,
        length-append (test_bytes n ps fs c) (tests_bytes n ps fs (xs ++ ys)),
        length-append (test_bytes n ps fs c) (tests_bytes n ps fs xs),
      )

  effects_join : (xs ys : List Effect) → length (effects_bytes n ps fs (xs ++ ys)) + 1 ≡ length (effects_bytes n ps fs xs) + length (effects_bytes n ps fs ys)
  unfolding effects_bytes
  effects_join [] ys = omega arith
  effects_join (e ∷ xs) ys =
      omega (
        arith,
        effects_join xs ys,
        length-append (effect_bytes n ps fs e) (effects_bytes n ps fs (xs ++ ys)),
        length-append (effect_bytes n ps fs e) (effects_bytes n ps fs xs),
      )

  pub one_test : (c : Cond) → length (tests_bytes n ps fs (c ∷ [])) ≡ length (test_bytes n ps fs c) + 1
  unfolding tests_bytes
  one_test c = omega (arith, length-append (test_bytes n ps fs c) (0 ∷ []))

  pub no_test : length (tests_bytes n ps fs []) ≡ 1
  unfolding tests_bytes
  no_test = omega arith

  -- the single conditions of a condition, with the end of their list
  mutual
    unfolding singles singles_of test_bytes cond_size conds_size

    singles_rows : (c : Cond) → length (tests_bytes n ps fs (singles c)) ≤ cond_size c + 1
    singles_rows (all cs) = omega (arith, singles_of_rows cs)
    singles_rows (atom yes' r) = omega (arith, one_test (atom yes' r), form_size (cond yes' 4 8) ps r)
    singles_rows (same yes' a b) = omega (arith, one_test (same yes' a b))
    singles_rows (compare yes' op a b) =
        omega (
          arith,
          one_test (compare yes' op a b),
          expr_rows a,
          expr_rows b,
          length-append (expr_bytes n ps fs a) (expr_bytes n ps fs b),
        )

    singles_of_rows : (cs : Conds) → length (tests_bytes n ps fs (singles_of cs)) ≤ conds_size cs
    singles_of_rows none = omega (arith, no_test)
    singles_of_rows (cons c cs) = omega (arith, singles_rows c, singles_of_rows cs, tests_join (singles c) (singles_of cs))

  effects_rows : (es : List Effect) → length (effects_bytes n ps fs es) ≤ effects_size es + 1
  unfolding effects_bytes effect_bytes effects_size effect_size
  effects_rows [] = omega arith
  effects_rows (becomes yes' r ∷ es) =
      omega (
        arith,
        effects_rows es,
        form_size (cond yes' 4 8) ps r,
        length-append (form_bytes n ps fs (cond yes' 4 8) ps r) (effects_bytes n ps fs es),
      )
  effects_rows (changes how r x ∷ es) =
      let ref = form_bytes n ps fs (change_cell how) fs r in
      omega (
        arith,
        effects_rows es,
        form_size (change_cell how) fs r,
        expr_rows x,
        length-append ref (expr_bytes n ps fs x),
        length-append (ref ++ expr_bytes n ps fs x) (effects_bytes n ps fs es),
      )

  -- ---- an action: what is said of each time, each list with its end

  abbrev tests_all : List (Timed Cond) → When → ℕ
  tests_all xs w = length (tests_bytes n ps fs (all_singles (parts_at w xs)))

  abbrev effects_all : List (Timed (List Effect)) → When → ℕ
  effects_all xs w = length (effects_bytes n ps fs (all_effects (parts_at w xs)))

  conditions_rows : (xs : List (Timed Cond)) → tests_all xs start + tests_all xs whole + tests_all xs end ≤ parts_size cond_size xs + 2
  unfolding parts_at all_singles parts_size tests_bytes
  conditions_rows [] = omega arith
  conditions_rows (x ∷ xs) = go x.when (conditions_rows xs)
    where
      more : (ys : List Cond) → length (tests_bytes n ps fs (singles x.what ++ ys)) ≤ cond_size x.what + length (tests_bytes n ps fs ys)
      more ys = omega (arith, tests_join (singles x.what) ys, singles_rows x.what)

      said : When → When → ℕ
      said v w = length (tests_bytes n ps fs (all_singles (cond (is_at v w) (x.what ∷ parts_at w xs) (parts_at w xs))))

      go : (v : When) → tests_all xs start + tests_all xs whole + tests_all xs end ≤ parts_size cond_size xs + 2
          → said v start + said v whole + said v end ≤ 1 + (cond_size x.what + parts_size cond_size xs) + 2
      go start h = omega (arith, more (all_singles (parts_at start xs)))
      go whole h = omega (arith, more (all_singles (parts_at whole xs)))
      go end h = omega (arith, more (all_singles (parts_at end xs)))

  effect_parts_rows : (xs : List (Timed (List Effect))) → effects_all xs start + effects_all xs end ≤ parts_size list_size xs + 1
  unfolding parts_at all_effects parts_size effects_bytes
  effect_parts_rows [] = omega arith
  effect_parts_rows (x ∷ xs) = go x.when (effect_parts_rows xs)
    where
      more : (ys : List Effect) → length (effects_bytes n ps fs (x.what ++ ys)) ≤ effects_size x.what + length (effects_bytes n ps fs ys)
      more ys = omega (arith, effects_join x.what ys, effects_rows x.what)

      said : When → When → ℕ
      said v w = length (effects_bytes n ps fs (all_effects (cond (is_at v w) (x.what ∷ parts_at w xs) (parts_at w xs))))

      go : (v : When) → effects_all xs start + effects_all xs end ≤ parts_size list_size xs + 1
          → said v start + said v end ≤ 1 + (list_size x.what + parts_size list_size xs) + 1
      go start h = omega (arith, more (all_effects (parts_at start xs)))
      go whole h = omega arith
      go end h = omega (arith, more (all_effects (parts_at end xs)))

  lasting_rows : (l : Lasting) → length (lasts_bytes n ps fs l) ≤ lasting_size l
  unfolding lasts_bytes lasting_size
  lasting_rows moment = omega arith
  lasting_rows (rule x) = omega (arith, expr_rows x)

  action_rows : (a : Action) → length (action_bytes n ps fs a) ≤ action_size a
  unfolding action_bytes
  action_rows a =
      let l = lasts_bytes n ps fs a.lasting in
      let i = tests_bytes n ps fs (tests_for start a) in
      let j = tests_bytes n ps fs (tests_for whole a) in
      let k = tests_bytes n ps fs (tests_for end a) in
      let e = effects_bytes n ps fs (effects_for start a) in
      let f = effects_bytes n ps fs (effects_for end a) in
      omega (
        arith,
        length-append l (i ++ (j ++ (k ++ (e ++ f)))),
        length-append i (j ++ (k ++ (e ++ f))),
        length-append j (k ++ (e ++ f)),
        length-append k (e ++ f),
        length-append e f,
        lasting_rows a.lasting,
        conditions_rows a.conditions,
        effect_parts_rows a.effects,
      )

  pub actions_rows : (as' : List Action) → length (actions_bytes n ps fs as') ≤ actions_size as'
  unfolding actions_bytes actions_size
  actions_rows [] = omega arith
  actions_rows (a ∷ as') = omega (arith, action_rows a, actions_rows as', length-append (action_bytes n ps fs a) (actions_bytes n ps fs as'))
