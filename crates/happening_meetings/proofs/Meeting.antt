-- Points that interfere meet: so where no two lists of accesses meet, all pairs are clear. Assumes nothing.
use mathlib.Core.Path.{◌≡◌, refl, sym, subst, ◌∙◌}
use mathlib.Core.List.{List, [], ◌∷◌, ◌++◌, map}
use mathlib.Core.Bool.{Bool, true, false, cond, not, ◌&&◌, ◌||◌}
use Prim.Native.Nat.{ℕ}
use native.Mathlib.Omega.{arith}
use lib.Dec.{eqb}
use borrow.Author.Tests.{eqb-true, eq-eqb}
use Rattle.domain_meaning.specs.Terms.{Expr, number, value, minus, difference, plus}
use Rattle.domain_meaning.specs.Conditions.{Cond, Conds, all, atom, same, compare, none, cons}
use Rattle.domain_meaning.specs.Effects.{assign, raise, lower, Effect, becomes, changes}
use Rattle.domain_meaning.specs.Actions.{Lasting, moment, rule}
use Rattle.happening_meaning.specs.State.{Grounds, fact_of, number_of}
use Rattle.happening_meaning.specs.Writes.{some, expr_reads, cond_reads, conds_read, right_reads, mark_of, marks_of, undo, collide, against}
use Rattle.happening_meaning.specs.Happening.{Point, objects_of, conditions_of, effects_of, rule_of, rule_reads, reads_fact, reads_number, reads, marks, interfere}
use Rattle.happening_meaning.specs.Happening.{line_of, each, unless, clear, pairs}
use Rattle.happening_meaning.specs.declared.Mark.{Mark}
use Rattle.happening_meaning.specs.declared.Mark.TheVariants.{Nothing, Fact, Number}
use Rattle.happening_meaning.specs.declared.Outcome.TheVariants.{Done, Conflict}
use Rattle.happening_meetings.specs.Accesses.{Access, access, clash, clashes, meet, some_pair, fact_cell, number_cell, expr_accesses, cond_accesses}
use Rattle.happening_meetings.specs.Accesses.{conds_accesses, tests_accesses, rule_accesses, effect_accesses, effects_accesses, point_accesses}

never : false ≡ true → ⊥
never h = let n : ◌≡◌ {A = ℕ} 0 1 = cc in omega arith

-- ---- one access of a list

data Among : Access → List Access → Type 0 where
  here : {a : Access} {xs : List Access} → Among a (a ∷ xs)
  there : {a b : Access} {xs : List Access} → Among a xs → Among a (b ∷ xs)

first : {a : Access} {xs : List Access} (ys : List Access) → Among a xs → Among a (xs ++ ys)
first ys here = here
first ys (there m) = there (first ys m)

second : {a : Access} (xs : List Access) {ys : List Access} → Among a ys → Among a (xs ++ ys)
second [] m = m
second (x ∷ xs) m = there (second xs m)

or_second : (a b : Bool) → b ≡ true → (a || b) ≡ true
or_second true b h = refl
or_second false b h = h

hit : (f : Access → Bool) {a : Access} {xs : List Access} → Among a xs → f a ≡ true → some f xs ≡ true
unfolding some
hit f here h = rw h
hit f (there {b = b} {xs = xs} m) h = or_second (f b) (some f xs) (hit f m h)

meets : {a b : Access} {xs ys : List Access} → Among a xs → Among b ys → clashes a b ≡ true → meet xs ys ≡ true
unfolding meet
meets {a} {b} {xs} {ys} m n h = hit (λ c. some (clashes c) ys) m (hit (clashes a) n h)

-- one of two parts
either : {a : Access} (p q : Bool) (xs : List Access) {ys : List Access} → (p ≡ true → Among a xs) → (q ≡ true → Among a ys) → (p || q) ≡ true
    → Among a (xs ++ ys)
either true q xs {ys} f k h = first ys (f refl)
either false q xs f k h = second xs (k h)

-- ---- what is read is among the accesses

module _ (g : Grounds) (os : List ℕ) where
  abbrev Reads : ℕ → List Access → Type 0
  Reads c xs = Among (access 0 c) xs

  expr_read : (x : ℕ) (e : Expr) → expr_reads g os x e ≡ true → Reads (number_cell x) (expr_accesses g os e)
  unfolding expr_reads expr_accesses
  expr_read x (number z) h = absurd (never h)
  expr_read x (value r) h = subst (λ (y : ℕ). Reads (number_cell y) (expr_accesses g os (value r))) (eqb-true (number_of g os r) x h) here
  expr_read x (minus e) h = expr_read x e h
  expr_read x (difference a b) h = either (expr_reads g os x a) (expr_reads g os x b) (expr_accesses g os a) (expr_read x a) (expr_read x b) h
  expr_read x (plus a b) h = either (expr_reads g os x a) (expr_reads g os x b) (expr_accesses g os a) (expr_read x a) (expr_read x b) h

  abbrev cell_of : Bool → ℕ → ℕ
  cell_of numeric x = cond numeric (number_cell x) (fact_cell x)

  module _ (numeric : Bool) (x : ℕ) where
    mutual
      unfolding cond_reads cond_accesses

      cond_read : (c : Cond) → cond_reads g os numeric x c ≡ true → Reads (cell_of numeric x) (cond_accesses g os c)
      cond_read (all cs) h = conds_read_lem cs h
      cond_read (atom yes' r) h = go numeric h
        where
          go : (b : Bool) → cond b false (eqb (fact_of g os r) x) ≡ true → Reads (cell_of b x) (access 0 (fact_cell (fact_of g os r)) ∷ [])
          go true f = absurd (never f)
          go false f = subst (λ (y : ℕ). Reads (fact_cell y) (access 0 (fact_cell (fact_of g os r)) ∷ [])) (eqb-true (fact_of g os r) x f) here
      cond_read (same yes' a b) h = absurd (never h)
      cond_read (compare yes' op a b) h = go numeric h
        where
          go : (n : Bool) → cond n (expr_reads g os x a || expr_reads g os x b) false ≡ true → Reads (cell_of n x) (expr_accesses g os a ++ expr_accesses g os b)
          go true f = either (expr_reads g os x a) (expr_reads g os x b) (expr_accesses g os a) (expr_read x a) (expr_read x b) f
          go false f = absurd (never f)

      conds_read_lem : (cs : Conds) → conds_read g os numeric x cs ≡ true → Reads (cell_of numeric x) (conds_accesses g os cs)
      conds_read_lem none h = absurd (never h)
      conds_read_lem (cons c cs) h =
          either (cond_reads g os numeric x c) (conds_read g os numeric x cs) (cond_accesses g os c) (λ i. cond_read c i) (λ i. conds_read_lem cs i) h

    tests_read : (cs : List Cond) → some (cond_reads g os numeric x) cs ≡ true → Reads (cell_of numeric x) (tests_accesses g os cs)
    unfolding some tests_accesses
    tests_read [] h = absurd (never h)
    tests_read (c ∷ cs) h =
        either (cond_reads g os numeric x c) (some (cond_reads g os numeric x) cs) (cond_accesses g os c) (cond_read c) (tests_read cs) h

  rule_read : (x : ℕ) (l : Lasting) → rule_reads g os x l ≡ true → Reads (number_cell x) (rule_accesses g os l)
  unfolding rule_reads rule_accesses
  rule_read x moment h = absurd (never h)
  rule_read x (rule e) h = expr_read x e h

  right_read : (x : ℕ) (e : Effect) → right_reads g os x e ≡ true → Reads (number_cell x) (effect_accesses g os e)
  unfolding right_reads effect_accesses
  right_read x (becomes yes' r) h = absurd (never h)
  right_read x (changes how r e) h = there (expr_read x e h)

  rights_read : (x : ℕ) (es : List Effect) → some (right_reads g os x) es ≡ true → Reads (number_cell x) (effects_accesses g os es)
  unfolding some effects_accesses
  rights_read x [] h = absurd (never h)
  rights_read x (e ∷ es) h = either (right_reads g os x e) (some (right_reads g os x) es) (effect_accesses g os e) (right_read x e) (rights_read x es) h

  -- ---- what is written is among them

  abbrev Writes : Mark → List Access → Type 0
  Writes Nothing xs = Unit {0}
  Writes (Fact a x) xs = Among (access (cond a 1 2) (fact_cell x)) xs
  Writes (Number a x) xs = Among (access (cond a 3 1) (number_cell x)) xs

  effect_writes : (e : Effect) → Writes (mark_of g os e) (effect_accesses g os e)
  unfolding mark_of effect_accesses
  effect_writes (becomes yes' r) = here
  effect_writes (changes assign r e) = here
  effect_writes (changes raise r e) = here
  effect_writes (changes lower r e) = here

  writes_first : (m : Mark) (xs ys : List Access) → Writes m xs → Writes m (xs ++ ys)
  writes_first Nothing xs ys w = tt
  writes_first (Fact a x) xs ys w = first ys w
  writes_first (Number a x) xs ys w = first ys w

  writes_second : (m : Mark) (xs ys : List Access) → Writes m ys → Writes m (xs ++ ys)
  writes_second Nothing xs ys w = tt
  writes_second (Fact a x) xs ys w = second xs w
  writes_second (Number a x) xs ys w = second xs w

  -- a mark of which something is said, and its access
  written : (f : Mark → Bool) (es : List Effect) → some f (marks_of g os es) ≡ true
      → (m : Mark) × (f m ≡ true) × Writes m (effects_accesses g os es)
  unfolding some effects_accesses
  written f [] h = absurd (never h)
  written f (e ∷ es) h = go (f (mark_of g os e)) refl h (written f es)
    where
      go : (b : Bool) → f (mark_of g os e) ≡ b → (b || some f (marks_of g os es)) ≡ true
          → (some f (marks_of g os es) ≡ true → (m : Mark) × (f m ≡ true) × Writes m (effects_accesses g os es))
          → (m : Mark) × (f m ≡ true) × Writes m (effect_accesses g os e ++ effects_accesses g os es)
      go true q k ih = (mark_of g os e, q, writes_first (mark_of g os e) (effect_accesses g os e) (effects_accesses g os es) (effect_writes e))
      go false q k ih = let w = ih k in (w.0, w.1, writes_second w.0 (effect_accesses g os e) (effects_accesses g os es) w.2)

-- ---- accesses that clash

at_one : (c k l : ℕ) → clash k l ≡ true → clashes (access k c) (access l c) ≡ true
unfolding clashes
at_one c k l h = rw (eq-eqb c c refl) h

-- f says a cell: two indexes that are equal have one
at_same : (f : ℕ → ℕ) (x y k l : ℕ) (b : Bool) → (b ≡ true → clash k l ≡ true) → (eqb x y && b) ≡ true → clashes (access k (f x)) (access l (f y)) ≡ true
at_same f x y k l b j h = go (eqb x y) refl h
  where
    go : (e : Bool) → eqb x y ≡ e → (e && b) ≡ true → clashes (access k (f x)) (access l (f y)) ≡ true
    go true q i = rw (eqb-true x y q) (at_one (f y) k l (j i))
    go false q i = absurd (never i)

module _ (xs ys : List Access) (g : Grounds) (os us : List ℕ) where
  abbrev ReadsAt : Mark → List Access → Type 0
  ReadsAt Nothing zs = ⊥
  ReadsAt (Fact a x) zs = Among (access 0 (fact_cell x)) zs
  ReadsAt (Number a x) zs = Among (access 0 (number_cell x)) zs

  read_written : (m : Mark) → ReadsAt m xs → Writes g os m ys → meet xs ys ≡ true
  unfolding clash
  read_written Nothing r w = absurd r
  read_written (Fact true x) r w = meets r w (at_one (fact_cell x) 0 1 refl)
  read_written (Fact false x) r w = meets r w (at_one (fact_cell x) 0 2 refl)
  read_written (Number true x) r w = meets r w (at_one (number_cell x) 0 3 refl)
  read_written (Number false x) r w = meets r w (at_one (number_cell x) 0 1 refl)

  written_read : (m : Mark) → Writes g os m xs → ReadsAt m ys → meet xs ys ≡ true
  unfolding clash
  written_read Nothing w r = absurd r
  written_read (Fact true x) w r = meets w r (at_one (fact_cell x) 1 0 refl)
  written_read (Fact false x) w r = meets w r (at_one (fact_cell x) 2 0 refl)
  written_read (Number true x) w r = meets w r (at_one (number_cell x) 3 0 refl)
  written_read (Number false x) w r = meets w r (at_one (number_cell x) 1 0 refl)

  facts_clash : (a b : Bool) → cond a (not b) b ≡ true → clash (cond a 1 2) (cond b 1 2) ≡ true
  unfolding clash
  facts_clash true true h = h
  facts_clash true false h = refl
  facts_clash false true h = refl
  facts_clash false false h = h

  numbers_clash : (a b : Bool) → (a || b) ≡ true → clash (cond a 3 1) (cond b 3 1) ≡ true
  unfolding clash
  numbers_clash true true h = refl
  numbers_clash true false h = refl
  numbers_clash false true h = refl
  numbers_clash false false h = h

  or_none : (b : Bool) → (b || false) ≡ true → b ≡ true
  or_none true h = refl
  or_none false h = h

  both_written : (m k : Mark) → against m k ≡ true → Writes g os m xs → Writes g us k ys → meet xs ys ≡ true
  unfolding against collide undo
  both_written Nothing k h w v = absurd (never h)
  both_written (Fact a x) Nothing h w v = absurd (never h)
  both_written (Fact a x) (Fact b y) h w v = meets w v (at_same fact_cell x y (cond a 1 2) (cond b 1 2) (cond a (not b) b) (facts_clash a b) h)
  both_written (Fact a x) (Number b y) h w v = absurd (never h)
  both_written (Number a x) Nothing h w v = absurd (never h)
  both_written (Number a x) (Fact b y) h w v = absurd (never h)
  both_written (Number a x) (Number b y) h w v =
      meets w v (at_same number_cell x y (cond a 3 1) (cond b 3 1) (a || b) (numbers_clash a b) (or_none (eqb x y && (a || b)) h))

-- ---- points

one_of : {P : Type 0} (a b c : Bool) → (a ≡ true → P) → (b ≡ true → P) → (c ≡ true → P) → (a || b || c) ≡ true → P
one_of true b c f g k h = f refl
one_of false true c f g k h = g refl
one_of false false c f g k h = k h

module _ (g : Grounds) where
  in_effects : (p : Point) (m : Mark) → Writes g (objects_of p) m (effects_accesses g (objects_of p) (effects_of p)) → Writes g (objects_of p) m (point_accesses g p)
  unfolding point_accesses
  in_effects p m w =
      let os = objects_of p in
      let es = effects_accesses g os (effects_of p) in
      let ls = rule_accesses g os (rule_of p) in
      writes_second g os m (tests_accesses g os (conditions_of p)) (ls ++ es) (writes_second g os m ls es w)

  in_point : (p : Point) (m : Mark) → reads g p m ≡ true → ReadsAt [] [] g [] [] m (point_accesses g p)
  unfolding reads reads_fact reads_number point_accesses
  in_point p Nothing h = absurd (never h)
  in_point p (Fact a x) h =
      first (rule_accesses g (objects_of p) (rule_of p) ++ effects_accesses g (objects_of p) (effects_of p))
      (tests_read g (objects_of p) false x (conditions_of p) h)
  in_point p (Number a x) h =
      let os = objects_of p in
      let es = effects_accesses g os (effects_of p) in
      let ls = rule_accesses g os (rule_of p) in
      let ts = tests_accesses g os (conditions_of p) in
      one_of (some (cond_reads g os true x) (conditions_of p)) (rule_reads g os x (rule_of p)) (some (right_reads g os x) (effects_of p))
      (λ q. first (ls ++ es) (tests_read g os true x (conditions_of p) q)) (λ q. second ts (first es (rule_read g os x (rule_of p) q)))
      (λ q. second ts (second ls (rights_read g os x (effects_of p) q))) h

  module _ (p q : Point) where
    abbrev Meet : Type 0
    Meet = meet (point_accesses g p) (point_accesses g q) ≡ true

    reads_first : some (reads g p) (marks g q) ≡ true → Meet
    reads_first h =
        let w = written g (objects_of q) (reads g p) (effects_of q) h in
        read_written (point_accesses g p) (point_accesses g q) g (objects_of q) [] w.0 (in_point p w.0 w.1) (in_effects q w.0 w.2)

    reads_second : some (reads g q) (marks g p) ≡ true → Meet
    reads_second h =
        let w = written g (objects_of p) (reads g q) (effects_of p) h in
        written_read (point_accesses g p) (point_accesses g q) g (objects_of p) [] w.0 (in_effects p w.0 w.2) (in_point q w.0 w.1)

    effects_clash : some (λ m. some (against m) (marks g q)) (marks g p) ≡ true → Meet
    effects_clash h =
        let w = written g (objects_of p) (λ m. some (against m) (marks g q)) (effects_of p) h in
        let v = written g (objects_of q) (against w.0) (effects_of q) w.1 in
        both_written (point_accesses g p) (point_accesses g q) g (objects_of p) (objects_of q) w.0 v.0 v.1 (in_effects p w.0 w.2)
        (in_effects q v.0 v.2)

    -- THE LAW
    pub interfere_meet : interfere g p q ≡ true → Meet
    unfolding interfere
    interfere_meet h =
        one_of (some (reads g p) (marks g q)) (some (reads g q) (marks g p)) (some (λ m. some (against m) (marks g q)) (marks g p)) reads_first reads_second
        effects_clash h

    clear_apart : meet (point_accesses g p) (point_accesses g q) ≡ false → clear g p q ≡ Done
    unfolding clear
    clear_apart h = go (interfere g p q) refl
      where
        go : (b : Bool) → interfere g p q ≡ b → cond b (Conflict (line_of p) (line_of q)) Done ≡ Done
        go true e = absurd (never (sym h ∙ interfere_meet e))
        go false e = refl

  -- ---- all pairs

  neither : {P : Type 0} (a b : Bool) → (a ≡ false → b ≡ false → P) → (a || b) ≡ false → P
  neither true b f h = absurd (never (sym h))
  neither false b f h = f refl h

  clear_each : (p : Point) (qs : List Point) → some (meet (point_accesses g p)) (map (point_accesses g) qs) ≡ false → each (clear g p) qs ≡ Done
  unfolding some each unless
  clear_each p [] h = refl
  clear_each p (q ∷ qs) h =
      neither (meet (point_accesses g p) (point_accesses g q)) (some (meet (point_accesses g p)) (map (point_accesses g) qs))
      (λ a b. rw (clear_apart p q a) (clear_each p qs b)) h

  pub pairs_quiet : (ps : List Point) → some_pair (map (point_accesses g) ps) ≡ false → pairs g ps ≡ Done
  unfolding some_pair pairs unless
  pairs_quiet [] h = refl
  pairs_quiet (p ∷ ps) h =
      neither (some (meet (point_accesses g p)) (map (point_accesses g) ps)) (some_pair (map (point_accesses g) ps))
      (λ a b. rw (clear_each p ps a) (pairs_quiet ps b)) h
