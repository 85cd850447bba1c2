-- The points given to a call, one by one: their accesses, by marks; all inside. Assumes nothing.
use mathlib.Core.Path.{◌≡◌, refl, sym, ap, ap₂, ◌∙◌}
use mathlib.Core.List.{List, [], ◌∷◌, ◌++◌, map}
use mathlib.Core.Bool.{Bool, true, false, cond, ◌||◌}
use Prim.Native.Nat.{ℕ, suc, ◌+◌, ◌-◌, ◌≤◌, ◌<◌}
use native.Mathlib.Omega.{arith}
use lib.Dec.{ltb}
use borrow.Author.Tests.{ltb-true}
use Rattle.domain_meaning.specs.Terms.{Expr, number, value, minus, difference, plus}
use Rattle.domain_meaning.specs.Conditions.{Cond, Conds, all, atom, same, compare, none, cons}
use Rattle.domain_meaning.specs.Effects.{Effect, becomes, changes}
use Rattle.domain_meaning.specs.Actions.{Lasting, moment, rule}
use Rattle.domain_prepared_meaning.specs.Decode.{tests_at, effects_at}
use Rattle.happening_meaning.specs.State.{Grounds, fact_of, number_of}
use Rattle.happening_meaning.specs.Happening.{Point, objects_of, conditions_of, effects_of, rule_of, marks}
use Rattle.happening_meaning.specs.Writes.{marks_of}
use Rattle.happening_forms.specs.Summed.{summed, four_at}
use Rattle.happening_placing.specs.Given.{rule_in, placed_in, point_in, points_in}
use Rattle.happening_placing.specs.declared.Placed.{Placed}
use Rattle.happening_placing.proofs.Placing.{objects_are, rule_is, conditions_are, effects_are}
use Rattle.happening_writes.specs.Rows.{marks_at}
use Rattle.happening_meetings.specs.declared.walks.Mode.{Mode}
use Rattle.happening_meetings.specs.declared.walks.Mode.TheVariants.{Meet, Mark, Wipe}
use Rattle.happening_meetings.specs.Accesses.{Access, fact_cell, number_cell, expr_accesses, cond_accesses, conds_accesses, tests_accesses}
use Rattle.happening_meetings.specs.Accesses.{rule_accesses, effect_accesses, effects_accesses, all_accesses, point_accesses, some_pair}
use Rattle.happening_meetings.specs.Marks.{no_marks, mark_all, hit_any, mark_each, scan, wipe_each, Went}
use Rattle.happening_meetings.specs.Points.{placed_accesses, accesses_in}
use Rattle.happening_meetings.proofs.Marking.{Inside, InsideAll, or_assoc, or_false, none_hit, scanned, all_wiped}
use Rattle.happening_meetings.proofs.Going.{went_both, went_same, held, marked, wiped}

-- ---- every access is at a cell

pub fact_inside : (x : ℕ) → fact_cell x < 17408
unfolding fact_cell
fact_inside x = go (ltb x 16384) refl
  where
    go : (b : Bool) → ltb x 16384 ≡ b → cond b x 0 < 17408
    go true e = omega (arith, ltb-true x 16384 e)
    go false e = omega arith

pub number_inside : (x : ℕ) → number_cell x < 17408
unfolding number_cell
number_inside x = go (ltb x 1024) refl
  where
    go : (b : Bool) → ltb x 1024 ≡ b → cond b (16384 + x) 0 < 17408
    go true e = omega (arith, ltb-true x 1024 e)
    go false e = omega arith

both_inside : (xs ys : List Access) → Inside 17408 xs → Inside 17408 ys → Inside 17408 (xs ++ ys)
unfolding Inside
both_inside [] ys p q = q
both_inside (x ∷ xs) ys p q = (p.0, both_inside xs ys p.1 q)

module _ (g : Grounds) (os : List ℕ) where
  expr_inside : (e : Expr) → Inside 17408 (expr_accesses g os e)
  unfolding expr_accesses Inside
  expr_inside (number z) = tt
  expr_inside (value r) = (number_inside (number_of g os r), tt)
  expr_inside (minus e) = expr_inside e
  expr_inside (difference a b) = both_inside (expr_accesses g os a) (expr_accesses g os b) (expr_inside a) (expr_inside b)
  expr_inside (plus a b) = both_inside (expr_accesses g os a) (expr_accesses g os b) (expr_inside a) (expr_inside b)

  mutual
    unfolding cond_accesses Inside

    cond_inside : (c : Cond) → Inside 17408 (cond_accesses g os c)
    cond_inside (all cs) = conds_inside cs
    cond_inside (atom yes' r) = (fact_inside (fact_of g os r), tt)
    cond_inside (same yes' a b) = tt
    cond_inside (compare yes' op a b) = both_inside (expr_accesses g os a) (expr_accesses g os b) (expr_inside a) (expr_inside b)

    conds_inside : (cs : Conds) → Inside 17408 (conds_accesses g os cs)
    conds_inside none = tt
    conds_inside (cons c cs) = both_inside (cond_accesses g os c) (conds_accesses g os cs) (cond_inside c) (conds_inside cs)

  tests_inside : (cs : List Cond) → Inside 17408 (tests_accesses g os cs)
  unfolding tests_accesses Inside
  tests_inside [] = tt
  tests_inside (c ∷ cs) = both_inside (cond_accesses g os c) (tests_accesses g os cs) (cond_inside c) (tests_inside cs)

  rule_inside : (l : Lasting) → Inside 17408 (rule_accesses g os l)
  unfolding rule_accesses Inside
  rule_inside moment = tt
  rule_inside (rule e) = expr_inside e

  effect_inside : (e : Effect) → Inside 17408 (effect_accesses g os e)
  unfolding effect_accesses Inside
  effect_inside (becomes yes' r) = (fact_inside (fact_of g os r), tt)
  effect_inside (changes how r e) = (number_inside (number_of g os r), expr_inside e)

  effects_inside : (es : List Effect) → Inside 17408 (effects_accesses g os es)
  unfolding effects_accesses Inside
  effects_inside [] = tt
  effects_inside (e ∷ es) = both_inside (effect_accesses g os e) (effects_accesses g os es) (effect_inside e) (effects_inside es)

  all_inside : (cs : List Cond) (l : Lasting) (es : List Effect) → Inside 17408 (all_accesses g os cs l es)
  all_inside cs l es =
      both_inside (tests_accesses g os cs) (rule_accesses g os l ++ effects_accesses g os es) (tests_inside cs)
      (both_inside (rule_accesses g os l) (effects_accesses g os es) (rule_inside l) (effects_inside es))

pub points_inside : (g : Grounds) (ps : List Point) → InsideAll 17408 (map (point_accesses g) ps)
unfolding InsideAll point_accesses
points_inside g [] = tt
points_inside g (p ∷ ps) = (all_inside g (objects_of p) (conditions_of p) (rule_of p) (effects_of p), points_inside g ps)

-- ---- a point by its places

all_same : {os us : List ℕ} {cs ds : List Cond} {l k : Lasting} {es fs : List Effect} → os ≡ us → cs ≡ ds → l ≡ k → es ≡ fs
    → all_accesses summed os cs l es ≡ all_accesses summed us ds k fs
all_same a b c d = cc

pub placed_point : (rows points objects : List ℕ) (j : ℕ) {p : Placed} → p ≡ placed_in rows points j
    → placed_accesses rows (four_at objects j) p ≡ point_accesses summed (point_in rows points objects j)
unfolding placed_accesses point_accesses
placed_point rows points objects j e =
    ap (placed_accesses rows (four_at objects j)) e
    ∙ sym (all_same (objects_are rows points objects j) (conditions_are rows points objects j) (rule_is rows points objects j)
    (effects_are rows points objects j))

pub marks_are : (rows points objects : List ℕ) (j : ℕ) → marks summed (point_in rows points objects j)
    ≡ marks_at rows (four_at objects j) (placed_in rows points j).effects
marks_are rows points objects j =
    ap₂ (λ (os : List ℕ) (es : List Effect). marks_of summed os es) (objects_are rows points objects j) (effects_are rows points objects j)

pub point_went : (rows os : List ℕ) (p : Placed) (mode : Mode) (l : List ℕ) {a b c d e : Bool} {k m n : List ℕ}
    → Went mode l (tests_accesses summed os (tests_at rows p.tests)) a k → Went mode k (rule_accesses summed os (rule_in rows p)) b m
    → Went mode m (effects_accesses summed os (effects_at rows p.effects)) c n → d ≡ (b || c) → e ≡ (a || d) → Went mode l (placed_accesses rows os p) e n
unfolding placed_accesses
point_went rows os p mode l {k = k} wa wb wc q r = went_both mode l wa (went_both mode k wb wc q) r

-- ---- the points from number j on

module _ (rows points objects : List ℕ) (n j : ℕ) where
  pub points_end : n ≤ j → points_in rows points objects (n - j) j ≡ []
  unfolding points_in
  points_end h = let e : n - j ≡ 0 = omega arith in rw e

  pub points_step : j < n → points_in rows points objects (n - j) j ≡ point_in rows points objects j ∷ points_in rows points objects (n - (j + 1)) (j + 1)
  unfolding points_in
  points_step h = let e : n - j ≡ suc (n - (j + 1)) = omega arith in rw e

  abbrev here : List Access
  here = point_accesses summed (point_in rows points objects j)

  abbrev rest : List (List Access)
  rest = accesses_in rows points objects (n - j) j

  abbrev later : List (List Access)
  later = accesses_in rows points objects (n - (j + 1)) (j + 1)

  step : j < n → rest ≡ here ∷ later
  step h = ap (map (point_accesses summed)) (points_step h)

  over : n ≤ j → rest ≡ []
  over h = ap (map (point_accesses summed)) (points_end h)

  module _ (h : n ≤ j) where
    pub mark_end : (l : List ℕ) → l ≡ mark_each l rest
    unfolding mark_each
    mark_end l = rw (over h)

    pub wipe_end : (l : List ℕ) → l ≡ wipe_each l rest
    unfolding wipe_each
    wipe_end l = rw (over h)

  module _ (h : j < n) {p : Placed} (ep : p ≡ placed_in rows points j) (l : List ℕ) where
    pub wipe_turn : {f : Bool} {m : List ℕ} → Went Wipe l (placed_accesses rows (four_at objects j) p) f m → wipe_each m later ≡ wipe_each l rest
    unfolding wipe_each
    wipe_turn w =
        ap (λ (k : List ℕ). wipe_each k later) (wiped l here (went_same Wipe l (placed_point rows points objects j ep) w)) ∙ sym (ap (wipe_each l) (step h))

module _ (rows points objects : List ℕ) (n : ℕ) where
  pub points_all : points_in rows points objects (n - 0) 0 ≡ points_in rows points objects n 0
  points_all = let e : n - 0 ≡ n = omega arith in rw e

  pub accesses_all : accesses_in rows points objects (n - 0) 0 ≡ accesses_in rows points objects n 0
  accesses_all = ap (map (point_accesses summed)) points_all

-- a loop over the points, one by one
pub ruleset by_point = (points_step, points_end, points_all)

-- ---- all points, held, marked and wiped

module _ (rows points objects : List ℕ) (last : ℕ) where
  -- what is left of a scan: point j is held and not marked, those after it are neither
  abbrev pub ahead : ℕ → List ℕ → Bool
  ahead j l = scan (mark_all l (here rows points objects (last + 1) j)) (later rows points objects (last + 1) j)

  pub scan_start : {l : List ℕ} → l ≡ no_marks → ahead 0 l ≡ scan no_marks (accesses_in rows points objects (last + 1) 0)
  unfolding scan
  scan_start z =
      ap (ahead 0) z
      ∙ sym (ap (λ (b : Bool). b || ahead 0 no_marks) (none_hit (here rows points objects (last + 1) 0)))
      ∙ ap (scan no_marks) (sym (step rows points objects (last + 1) 0 (omega arith)) ∙ accesses_all rows points objects (last + 1))

  pub scan_end : (j : ℕ) → last ≤ j → (l : List ℕ) (b : Bool) → b ≡ (b || ahead j l)
  unfolding scan
  scan_end j h l b = rw (over rows points objects (last + 1) (j + 1) (omega arith)) (sym (or_false b))

  module _ (j : ℕ) (h : j < last) {p q : Placed} (ep : p ≡ placed_in rows points j) (eq : q ≡ placed_in rows points (j + 1)) {l m k : List ℕ} {a b : Bool}
      (w : Went Mark l (placed_accesses rows (four_at objects j) p) b m) (v : Went Meet m (placed_accesses rows (four_at objects (j + 1)) q) a k) where
    marked_here : m ≡ mark_all l (here rows points objects last j)
    marked_here = marked l (here rows points objects last j) (went_same Mark l (placed_point rows points objects j ep) w)

    held_next : (a ≡ hit_any m (here rows points objects last (j + 1))) × (k ≡ m)
    held_next = held m (here rows points objects last (j + 1)) (went_same Meet m (placed_point rows points objects (j + 1) eq) v)

    pub mark_turn : mark_each k (later rows points objects last j) ≡ mark_each l (rest rows points objects last j)
    unfolding mark_each
    mark_turn =
        ap (λ (i : List ℕ). mark_each i (later rows points objects last j)) (held_next.1 ∙ marked_here)
        ∙ sym (ap (mark_each l) (step rows points objects last j h))

    pub scan_turn : (c : Bool) {d : Bool} → d ≡ (c || a) → (d || ahead (j + 1) k) ≡ (c || ahead j l)
    unfolding scan
    scan_turn c e =
        ap₂ (λ (x : Bool) (i : List ℕ). x || ahead (j + 1) i) (e ∙ ap (λ (x : Bool). c || x) held_next.0) held_next.1
        ∙ or_assoc c (hit_any m (here rows points objects last (j + 1))) (ahead (j + 1) m)
        ∙ ap₂ (λ (i : List ℕ) (xs : List (List Access)). c || scan i xs) marked_here (sym (step rows points objects (last + 1) (j + 1) (omega arith)))

pub pairs_scanned : (rows points objects : List ℕ) (n : ℕ) → 0 < n → {m k : List ℕ} {b : Bool}
    → b ≡ scan no_marks (accesses_in rows points objects ((n - 1) + 1) 0) → m ≡ mark_each no_marks (accesses_in rows points objects (n - 1) 0)
    → k ≡ wipe_each m (accesses_in rows points objects (n - 1) 0) → (b ≡ some_pair (accesses_in rows points objects n 0)) × (k ≡ no_marks)
pairs_scanned rows points objects n h eb em ek =
    let e : (n - 1) + 1 ≡ n = omega arith in
    let xs = accesses_in rows points objects (n - 1) 0 in (
      eb
          ∙ ap (λ (i : ℕ). scan no_marks (accesses_in rows points objects i 0)) e
          ∙ scanned (accesses_in rows points objects n 0) (points_inside summed (points_in rows points objects n 0)),
      ek ∙ ap (λ (i : List ℕ). wipe_each i xs) em ∙ all_wiped xs,
    )
