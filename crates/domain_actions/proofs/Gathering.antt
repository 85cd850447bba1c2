-- Actions, one after the other: what is read of the rest, from here, is read of the whole. Assumes nothing.
use Rattle.std.specs.Prelude.{None, Option, Some}
use mathlib.Core.Path.{◌≡◌, refl, sym, ap, ◌∙◌}
use mathlib.Core.List.{List, [], ◌∷◌, ◌++◌, append_assoc, append-nil}
use mathlib.Core.Bool.{Bool}
use Prim.Native.Nat.{ℕ, suc, ◌+◌, ◌-◌, ◌*◌, ◌≤◌, ◌<◌}
use native.Mathlib.Omega.{arith}
use native.Mathlib.Nat.{add-zero}
use lib.ListN.{length, length-append}
use lib.Seq.{sets}
use Rattle.base_laws.proofs.Sets.{sets_append}
use Rattle.domain_meaning.specs.Read.{Read, got, refused, and_then}
use Rattle.domain_meaning.specs.Terms.{Scope}
use Rattle.domain_meaning.specs.Actions.{Action, action}
use Rattle.domain_meaning.specs.Domain.{actions_to}
use Rattle.domain_due.specs.Answers.{Parsed}
use Rattle.domain_due.specs.Answers.{Done, Refused}
use Rattle.domain_due.proofs.Dues.{never_done, done_parts, refused_parts}
use Rattle.domain_rows.specs.Held.{rows_of, Holds}
use Rattle.domain_stored_meaning.specs.Cells.{action_cells, actions_cells, start_of, starts_of}
use Rattle.domain_stored_meaning.proofs.Actions.{starts_length}
use Rattle.domain_actions.specs.Acted.{declarations, Added, Adds, Stores, Begins, Later}

-- ---- an action more

cells_more : (as' : List Action) (a : Action) → actions_cells (as' ++ a ∷ []) ≡ actions_cells as' ++ action_cells a
unfolding actions_cells
cells_more [] a = append-nil (action_cells a)
cells_more (b ∷ as') a = ap (λ (t : List ℕ). action_cells b ++ t) (cells_more as' a) ∙ sym (append_assoc (action_cells b) (actions_cells as') (action_cells a))

starts_more : (u : ℕ) (as' : List Action) (a : Action) → starts_of u (as' ++ a ∷ []) ≡ starts_of u as' ++ start_of (u + length (actions_cells as')) a
unfolding starts_of actions_cells
starts_more u [] a = append-nil (start_of u a) ∙ ap (λ (t : ℕ). start_of t a) (sym (add-zero u))
starts_more u (b ∷ as') a =
    let n = length (action_cells b) in
    let e : u + n + length (actions_cells as') ≡ u + length (action_cells b ++ actions_cells as') =
    omega (arith, length-append (action_cells b) (actions_cells as')) in
    ap (λ (t : List ℕ). start_of u b ++ t) (starts_more (u + n) as' a ∙ ap (λ (t : ℕ). starts_of (u + n) as' ++ start_of t a) e)

-- ---- an action, by its answer

adds_got : (as' : List Action) (code : List ℕ) (u : ℕ) (starts : List ℕ) (r : Parsed) (rows code' starts' : List ℕ) (x : Read (List Action)) (a v : ℕ)
    → Adds as' code u starts r rows code' starts' x → r ≡ Done a v → (bs : List Action) × (x ≡ got bs a) × Added as' code u starts r rows code' starts' bs a
unfolding Adds
adds_got as' code u starts r rows code' starts' (got bs m) a v w e =
    let q : Done m (u + length (action_cells w.action)) ≡ Done a v = sym w.answer ∙ e in
    let i = (done_parts m a (u + length (action_cells w.action)) v q).0 in
    (bs, rw i refl, rw i at w)
adds_got as' code u starts r rows code' starts' (refused k p) a v w e = never_done k p a v (sym w ∙ e)

adds_not : (as' : List Action) (code : List ℕ) (u : ℕ) (starts : List ℕ) (r : Parsed) (rows code' starts' : List ℕ) (x : Read (List Action)) (k p : ℕ)
    → Adds as' code u starts r rows code' starts' x → r ≡ Refused k p → x ≡ refused k p
unfolding Adds
adds_not as' code u starts r rows code' starts' (got bs m) k p w e = never_done k p m (u + length (action_cells w.action)) (sym e ∙ w.answer)
adds_not as' code u starts r rows code' starts' (refused j q) k p w e =
    let o : Refused j q ≡ Refused k p = sym w ∙ e in
    let i = refused_parts j k q p o in
    rw (i.0, i.1)

-- ---- the rest

module _ (s : List ℕ) (c : Scope) (k from : ℕ) (code₀ starts₀ : List ℕ) where
  -- as' were read; the rest stands from `at` on
  pub record Onward (at n u : ℕ) (rows code starts : List ℕ) : Type 0 where
    pub before : List Action
    pub fuel : ℕ
    pub enough : length s - at < fuel
    pub count : n ≡ length before
    pub used : u ≡ length (actions_cells before)
    pub rowed : Holds 32 rows n (declarations before)
    pub cells : code ≡ sets code₀ 0 (actions_cells before)
    pub places : starts ≡ sets starts₀ 0 (starts_of 0 before)
    pub same : actions_to k s c [] from ≡ actions_to fuel s c before at

  pub onward_start : (rows : List ℕ) → length s - from < k → rows ≡ rows_of 32 [] → Onward from 0 0 rows code₀ starts₀
  unfolding actions_cells starts_of
  onward_start rows h e =
      record {
        before = [];
        fuel = k;
        enough = h;
        count = refl;
        used = refl;
        rowed =
            record { are = e; count = refl; fits = omega arith; short = tt };
        cells = refl;
        places = refl;
        same = refl;
      }

  module _ (at n u : ℕ) (rows code starts : List ℕ) (o : Onward at n u rows code starts) where
    more : o.fuel ≡ suc (o.fuel - 1)
    more = omega (arith, o.enough)

    pub onward_last : (b : Option (Bool × ℕ)) → b ≡ None → Begins s c o.before (o.fuel - 1) b (actions_to (suc (o.fuel - 1)) s c o.before at) at
        → u ≤ length s
        → Stores (length s) code₀ starts₀ (Done at n) rows code starts (actions_to k s c [] from)
    unfolding Begins Stores
    onward_last b e h few =
        let q : actions_to k s c [] from ≡ got o.before at = o.same ∙ ap (λ (j : ℕ). actions_to j s c o.before at) more ∙ rw e at h in
        rw q
        (record {
          answer = rw o.count refl;
          rows = rw o.count at o.rowed;
          cells = o.cells;
          places = o.places;
          few = omega (arith, o.used);
        })

    module _ (b : Option (Bool × ℕ)) (durative : Bool) (e : ℕ) (q : b ≡ Some (durative, e))
        (h : Begins s c o.before (o.fuel - 1) b (actions_to (suc (o.fuel - 1)) s c o.before at) at)
        (r : Parsed) (rows' code' starts' : List ℕ) (w : Adds o.before code u starts r rows' code' starts' (action s c durative o.before e)) where
      step : actions_to k s c [] from ≡ and_then (action s c durative o.before e) (λ bs. actions_to (o.fuel - 1) s c bs)
      unfolding Begins
      step = o.same ∙ ap (λ (j : ℕ). actions_to j s c o.before at) more ∙ rw q at h

      pub onward_refused : (j p : ℕ) → r ≡ Refused j p → Stores (length s) code₀ starts₀ r rows' code' starts' (actions_to k s c [] from)
      unfolding Stores
      onward_refused j p i = rw (step, adds_not o.before code u starts r rows' code' starts' _ j p w i) i

      pub onward_more : (a v : ℕ) → r ≡ Done a v → at < a → a ≤ length s → Onward a (n + 1) v rows' code' starts'
      onward_more a v i lo hi =
          let g = adds_got o.before code u starts r rows' code' starts' (action s c durative o.before e) a v w i in
          let d = g.2 in
          grown g.0 d.action d.is (step ∙ ap (λ (x : Read (List Action)). and_then x (λ bs. actions_to (o.fuel - 1) s c bs)) g.1) d.rows
          d.cells d.places (sym i ∙ d.answer)
        where
          grown : (bs : List Action) (x : Action) → bs ≡ o.before ++ x ∷ [] → actions_to k s c [] from ≡ actions_to (o.fuel - 1) s c bs a
              → Holds 32 rows' (length o.before + 1) (declarations bs)
              → code' ≡ sets code u (action_cells x) → starts' ≡ sets starts (3 * length o.before) (start_of u x)
              → Done a v ≡ Done a (u + length (action_cells x)) → Onward a (n + 1) v rows' code' starts'
          grown bs x is same rowed cells places free =
              let y = (done_parts a a v (u + length (action_cells x)) free).1 in
              let cs = actions_cells o.before in
              let more-cells : actions_cells bs ≡ cs ++ action_cells x = ap actions_cells is ∙ cells_more o.before x in
              let more-starts : starts_of 0 bs ≡ starts_of 0 o.before ++ start_of (0 + length cs) x = ap (starts_of 0) is ∙ starts_more 0 o.before x in
              let zero-u : 0 + length cs ≡ u = omega (arith, o.used) in
              let three : 0 + length (starts_of 0 o.before) ≡ 3 * length o.before = omega (arith, starts_length 0 o.before) in
              record {
                before = bs;
                fuel = o.fuel - 1;
                enough = omega (arith, o.enough);
                count = omega (arith, o.count, ap length is, length-append o.before (x ∷ []));
                used = omega (arith, y, o.used, ap length more-cells, length-append cs (action_cells x));
                rowed = rw (← o.count) at rowed;
                cells = cells ∙ ap (λ (t : List ℕ). sets t u (action_cells x)) o.cells
                    ∙ ap (λ (t : ℕ). sets (sets code₀ 0 cs) t (action_cells x)) (sym zero-u) ∙ sets_append code₀ 0 cs (action_cells x)
                    ∙ ap (sets code₀ 0) (sym more-cells);
                places = places ∙ ap (λ (t : List ℕ). sets t (3 * length o.before) (start_of u x)) o.places
                    ∙ ap (λ (t : ℕ). sets (sets starts₀ 0 (starts_of 0 o.before)) t (start_of u x)) (sym three)
                    ∙ sets_append starts₀ 0 (starts_of 0 o.before) (start_of u x)
                    ∙ ap (λ (t : ℕ). sets starts₀ 0 (starts_of 0 o.before ++ start_of t x)) (sym zero-u)
                    ∙ ap (sets starts₀ 0) (sym more-starts);
                same = same;
              }

pub later_by : (n at a v : ℕ) → at ≤ a → a ≤ n → Later n at (Done a v)
unfolding Later
later_by n at a v lo hi = (lo, hi)

pub later_refused : (n at k p : ℕ) (r : Parsed) → r ≡ Refused k p → Later n at r
unfolding Later
later_refused n at k p r e = rw e tt
