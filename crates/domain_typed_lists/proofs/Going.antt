-- The ways through `fresh`, `declare`, `group` and `typed`, and the invariant of the list's loop. Assumes nothing.
use Rattle.std.specs.Prelude.{None, Option, Some, is_some}
use mathlib.Core.Path.{◌≡◌, refl, sym, ◌∙◌}
use mathlib.Core.List.{List, [], ◌∷◌, ◌++◌}
use mathlib.Core.Bool.{Bool, true, false, cond, true≢false}
use Prim.Native.Nat.{ℕ, zero, suc, ◌+◌, ◌-◌, ◌≤◌, ◌<◌}
use native.Mathlib.Omega.{arith}
use borrow.Author.Tests.{lt-ltb, le-ltb}
use lib.ListN.{length}
use lib.Dec.{ltb}
use Rattle.text_tokens.specs.Runs.{part}
use Rattle.domain_meaning.specs.Read.{Read, Reader, got, refused, and_then, give, refuse}
use Rattle.domain_meaning.specs.Tables.{entry, Table, lookup, on_found, fresh, retype}
use Rattle.domain_meaning.specs.Lists.{type_due, group, item, declare, waiting, typed, names_to}
use Rattle.domain_meaning.specs.Lists as G
use Rattle.domain_due.specs.Answers.{Parsed, Done, Refused}
use Rattle.domain_rows.specs.Held.{Holds}
use Rattle.domain_typed_lists.specs.Outcome.{Outcome}
use Rattle.domain_typed_lists.proofs.Outcomes.{outcome_done, outcome_refused, refuses, reads}

-- ---- a name is declared

module _ (max : ℕ) (t : Table) (p : ℕ) (w : List ℕ) (at : ℕ) where
  pub fresh_known : (f : Option ℕ) → lookup t w ≡ f → is_some f ≡ true → fresh max t p w at ≡ refused 7 p
  unfolding fresh
  fresh_known (Some i) e h = simp e
  fresh_known None e h = absurd (true≢false (sym h))

  pub fresh_full : (f : Option ℕ) → lookup t w ≡ f → is_some f ≡ false → max ≤ length t → fresh max t p w at ≡ refused 12 p
  unfolding fresh
  fresh_full (Some i) e n h = absurd (true≢false n)
  fresh_full None e n h = simp (e, le-ltb (length t) max h)

  pub fresh_new : (f : Option ℕ) → lookup t w ≡ f → is_some f ≡ false → length t < max → fresh max t p w at ≡ got p at
  unfolding fresh
  fresh_new (Some i) e n h = absurd (true≢false n)
  fresh_new None e n h = simp (e, lt-ltb (length t) max h)

  pub declare_done : (v a : ℕ) → fresh max t p w at ≡ got v a → declare max t p w at ≡ got (t ++ entry w (0 ∷ []) ∷ []) a
  unfolding declare
  declare_done v a e = simp e

  pub declare_refused : (k q : ℕ) → fresh max t p w at ≡ refused k q → declare max t p w at ≡ refused k q
  unfolding declare
  declare_refused k q e = simp e

stays : (f : Option ℕ) (b : Bool) (p at v a : ℕ) → on_found f (λ i. refuse 7 p) (cond b (give p) (refuse 12 p)) at ≡ got v a → a ≡ at
stays (Some i) b p at v a e = absurd (let z : ◌≡◌ {A = ℕ} 0 1 = cc in let y : ⊥ = omega arith in y)
stays None true p at v a e = cc
stays None false p at v a e = absurd (let z : ◌≡◌ {A = ℕ} 0 1 = cc in let y : ⊥ = omega arith in y)

-- nothing is read by it
pub fresh_stays : (max : ℕ) (t : Table) (p : ℕ) (w : List ℕ) (at v a : ℕ) → fresh max t p w at ≡ got v a → a ≡ at
unfolding fresh
fresh_stays max t p w at v a e = stays (lookup t w) (ltb (length t) max) p at v a e

declared_stays : (x : Read ℕ) (l u : Table) (a at : ℕ) → ((v b : ℕ) → x ≡ got v b → b ≡ at) → and_then x (λ _ b. got l b) ≡ got u a → a ≡ at
declared_stays (got v b) l u a at f e = let z : a ≡ b = cc in z ∙ f v b refl
declared_stays (refused k p) l u a at f e = absurd (let z : ◌≡◌ {A = ℕ} 0 1 = cc in let y : ⊥ = omega arith in y)

pub declare_stays : (max : ℕ) (t : Table) (p : ℕ) (w : List ℕ) (at : ℕ) (u : Table) (a : ℕ) → declare max t p w at ≡ got u a → a ≡ at
unfolding declare
declare_stays max t p w at u a e = declared_stays (fresh max t p w at) (t ++ entry w (0 ∷ []) ∷ []) u a at (λ v b. fresh_stays max t p w at v b) e

-- ---- a group is typed, after a dash at p

module _ (s : List ℕ) (own : Bool) (ts t : Table) (g p at : ℕ) where
  pub group_none : length t ≤ g → and_then (waiting t g p at) (λ _. group s own ts t g) ≡ refused 3 p
  unfolding waiting
  group_none h = simp (le-ltb g (length t) h)

  pub group_done : g < length t → (k a : ℕ) → type_due s (cond own t ts) (cond own g (length ts)) at ≡ got k a
      → and_then (waiting t g p at) (λ _. group s own ts t g) ≡ got (retype g k t) a
  unfolding waiting group
  group_done h k a e = simp (lt-ltb g (length t) h, e)

  pub group_refused : g < length t → (k q : ℕ) → type_due s (cond own t ts) (cond own g (length ts)) at ≡ refused k q
      → and_then (waiting t g p at) (λ _. group s own ts t g) ≡ refused k q
  unfolding waiting group
  group_refused h k q e = simp (lt-ltb g (length t) h, e)

in_turn : (x : Read ℕ) (f : ℕ → Reader Table) (h : Table → Reader Table) → and_then x (λ a n. and_then (f a n) h) ≡ and_then (and_then x f) h
in_turn (got a n) f h = refl
in_turn (refused k p) f h = refl

-- ---- the ways through a list

module _ (k : ℕ) (s : List ℕ) (var own : Bool) (ts : Table) (max : ℕ) (t : Table) (g at : ℕ) where
  pub typed_close : (n : ℕ) → item s var at ≡ got G.closes n → typed (suc k) s var own ts max t g at ≡ got t n
  unfolding typed
  typed_close n e = simp e

  pub typed_refused : (j p : ℕ) → item s var at ≡ refused j p → typed (suc k) s var own ts max t g at ≡ refused j p
  unfolding typed
  typed_refused j p e = simp e

  pub typed_dash : (p n : ℕ) → item s var at ≡ got (G.dash p) n
      → typed (suc k) s var own ts max t g at ≡ and_then (and_then (waiting t g p n) (λ _. group s own ts t g)) (λ u a. typed k s var own ts max u (length u) a)
  unfolding typed
  typed_dash p n e = simp e (in_turn (waiting t g p n) (λ _. group s own ts t g) (λ u a. typed k s var own ts max u (length u) a))

  pub typed_name : (p b n : ℕ) → item s var at ≡ got (G.names p (part s b n)) n
      → typed (suc k) s var own ts max t g at ≡ and_then (declare max t p (part s b n) n) (λ u a. typed k s var own ts max u g a)
  unfolding typed
  typed_name p b n e = simp e

-- ---- the loop: what the definition says of the rest, from the table as it is, it says of the whole

pub record Going (s : List ℕ) (var own : Bool) (ts : Table) (max : ℕ) (t₀ : Table) (g₀ from : ℕ) (rows : List ℕ) (n g at : ℕ) : Type 0 where
  pub table : Table
  pub holds : Holds max rows n table
  pub on : (k : ℕ) → length s - from < k → (j : ℕ) × (length s - at < j) × (typed k s var own ts max t₀ g₀ from ≡ typed j s var own ts max table g at)

module _ (s : List ℕ) (var own : Bool) (ts : Table) (max : ℕ) (t₀ : Table) (g₀ from : ℕ) (rows : List ℕ) (n g at : ℕ)
    (o : Going s var own ts max t₀ g₀ from rows n g at) where
  -- the whole is what the rest is
  whole : (x : Read Table) → ((j : ℕ) → length s - at ≤ j → typed (suc j) s var own ts max o.table g at ≡ x)
      → (k : ℕ) → length s - from < k → typed k s var own ts max t₀ g₀ from ≡ x
  whole x f k h = go (o.on k h).0 (o.on k h).1 (o.on k h).2
    where
      go : (j : ℕ) → length s - at < j → typed k s var own ts max t₀ g₀ from ≡ typed j s var own ts max o.table g at
          → typed k s var own ts max t₀ g₀ from ≡ x
      go zero q e = absurd (let z : ⊥ = omega arith in z)
      go (suc j) q e = e ∙ f j (omega arith)

  further : (u : Table) (rows' : List ℕ) (n' g' at' : ℕ) → Holds max rows' n' u → at < at' → at' ≤ length s
      → ((j : ℕ) → length s - at ≤ j → typed (suc j) s var own ts max o.table g at ≡ typed j s var own ts max u g' at')
      → Going s var own ts max t₀ g₀ from rows' n' g' at'
  further u rows' n' g' at' h lo hi f = record { table = u; holds = h; on = λ k q. go k (o.on k q).0 (o.on k q).1 (o.on k q).2 }
    where
      go : (k j : ℕ) → length s - at < j → typed k s var own ts max t₀ g₀ from ≡ typed j s var own ts max o.table g at
          → (i : ℕ) × (length s - at' < i) × (typed k s var own ts max t₀ g₀ from ≡ typed i s var own ts max u g' at')
      go k zero q e = absurd (let z : ⊥ = omega arith in z)
      go k (suc j) q e = (j, omega arith, e ∙ f j (omega arith))

  pub going_close : (e : ℕ) → item s var at ≡ got G.closes e → (k : ℕ) → length s - from < k → Outcome max (Done e n) rows (typed k s var own ts max t₀ g₀ from)
  going_close e q k h = reads max rows n e o.table _ (whole (got o.table e) (λ j _. typed_close j s var own ts max o.table g at e q) k h) o.holds

  pub going_refused : (i p : ℕ) (r : List ℕ) → item s var at ≡ refused i p → (k : ℕ) → length s - from < k
      → Outcome max (Refused i p) r (typed k s var own ts max t₀ g₀ from)
  going_refused i p r q k h = refuses max (Refused i p) r i p _ (whole (refused i p) (λ j _. typed_refused j s var own ts max o.table g at i p q) k h) refl

  module _ (p e : ℕ) (q : item s var at ≡ got (G.dash p) e) (r : Parsed) (rows' : List ℕ)
      (out : Outcome max r rows' (and_then (waiting o.table g p e) (λ _. group s own ts o.table g))) where
    way : (j : ℕ) → typed (suc j) s var own ts max o.table g at ≡ and_then (and_then (waiting o.table g p e) (λ _. group s own ts o.table g))
        (λ u a. typed j s var own ts max u (length u) a)
    way j = typed_dash j s var own ts max o.table g at p e q

    pub going_group : (a m : ℕ) → r ≡ Done a m → at < a → a ≤ length s → Going s var own ts max t₀ g₀ from rows' m m a
    going_group a m d lo hi =
        let x = outcome_done _ max r rows' a m out d in
        further x.table rows' m m a x.holds lo hi (λ j _. way j ∙ simp (x.is, sym x.holds.count))

    pub going_group_refused : (i c : ℕ) → r ≡ Refused i c → (k : ℕ) → length s - from < k → Outcome max (Refused i c) rows' (typed k s var own ts max t₀ g₀ from)
    going_group_refused i c d k h = refuses max (Refused i c) rows' i c _ (whole (refused i c) (λ j _. way j ∙ simp (outcome_refused _ max r rows' i c out d)) k h) refl

  module _ (p b e : ℕ) (q : item s var at ≡ got (G.names p (part s b e)) e) (r : Parsed) (rows' : List ℕ)
      (out : Outcome max r rows' (declare max o.table p (part s b e) e)) where
    pub going_name : (a m : ℕ) → r ≡ Done a m → at < e → e ≤ length s → Going s var own ts max t₀ g₀ from rows' m g e
    going_name a m d lo hi =
        let x = outcome_done _ max r rows' a m out d in
        let stay : a ≡ e = declare_stays max o.table p (part s b e) e x.table a x.is in
        further x.table rows' m g e x.holds lo hi (λ j _. typed_name j s var own ts max o.table g at p b e q ∙ simp (x.is, stay))

    pub going_name_refused : (i c : ℕ) → r ≡ Refused i c → (k : ℕ) → length s - from < k → Outcome max (Refused i c) rows' (typed k s var own ts max t₀ g₀ from)
    going_name_refused i c d k h = refuses max (Refused i c) rows' i c _
        (whole (refused i c) (λ j _. typed_name j s var own ts max o.table g at p b e q ∙ simp (outcome_refused _ max r rows' i c out d)) k h) refl

-- ---- lists with a table of their own, or after the names of one

pub names_typed : (s : List ℕ) (ts : Table) (max : ℕ) (t : Table) (at n : ℕ) → n ≡ length t
    → names_to s ts max t at ≡ typed (length s + 1) s false false ts max t n at
unfolding names_to
names_typed s ts max t at n e = rw e
