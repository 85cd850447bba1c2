-- The tests of steps 2 and 3 find what the definitions forbid. Assumes nothing.
use mathlib.Core.Bool.{Bool, true, false, cond, not, ◌&&◌, ◌||◌, true≢false, false≢true}
use mathlib.Core.List.{List, [], ◌∷◌}
use mathlib.Core.Path.{◌≡◌, refl, sym, ap, subst, ◌∙◌}
use Prim.Native.Nat.{ℕ}
use lib.Dec.{eqb}
use borrow.Author.Tests.{eqb-true, eq-eqb}
use Rattle.base_laws.proofs.Splits.{or_left, or_right}
use Rattle.domain_meaning.specs.Effects.{Effect, becomes, changes}
use Rattle.happening_meaning.specs.State.{Grounds, number_of}
use Rattle.happening_meaning.specs.Writes.{some, mark_of, marks_of, undo, collide, against, itself}
use Rattle.happening_meaning.specs.Happening.{Point, line_of, objects_of, effects_of, marks, apart, reads, interfere, clear, pairs}
use Rattle.happening_meaning.specs.declared.Mark.{Mark}
use Rattle.happening_meaning.specs.declared.Mark.TheVariants.{Nothing, Fact, Number}
use Rattle.happening_meaning.specs.declared.Outcome.TheVariants.{Itself, Conflict}
use Rattle.plan_meaning.proofs.Lists.{all_map}
use Rattle.check_validity_meaning.specs.Lists.{Pairwise, FirstPair, ◌∈◌}
use Rattle.check_validity_meaning.specs.Happens.{Additive, Consistent, Unmoved, NonInterfering}
use Rattle.check_validity_meaning.specs.Failing.{Inconsistent, Interfering}
use Rattle.check_validity_meaning.proofs.Lists.{neither, all_in, in_all, all_mapped, mapped_all, none_in, all_none}
use Rattle.check_validity_meaning.proofs.Deciding.{Decides, always, by_test, then, each_decides}
use Rattle.check_validity_meaning.proofs.Marking.{assigns, not_assign, assigns_not, number_mark, makes_mark, changes_mark, mark_makes, mark_changes}
use Rattle.check_validity_meaning.proofs.Finding.{unfound, absent}
use Rattle.check_validity_meaning.proofs.Reading.{reads_fact_lem, reads_number_lem}

-- ---- two effects

-- if both write one number, neither assigns it
abbrev AddUp : Mark → Mark → Type 0
AddUp m k = (a b : Bool) (x : ℕ) → m ≡ Number a x → k ≡ Number b x → (a ≡ false) × (b ≡ false)

collide_additive : (m k : Mark) → collide m k ≡ false → AddUp m k
unfolding collide
collide_additive m k e a b x p q =
    let f : (eqb x x && (a || b)) ≡ false = rw (p, q) at e in
    let h : (a || b) ≡ false = rw (eq-eqb x x refl) at f in
    (or_left a b h, or_right a b h)

additive_collide : (m k : Mark) → AddUp m k → collide m k ≡ false
unfolding collide
additive_collide Nothing k h = refl
additive_collide (Fact a x) k h = refl
additive_collide (Number a x) Nothing h = refl
additive_collide (Number a x) (Fact b y) h = refl
additive_collide (Number a x) (Number b y) h = go (eqb x y) refl
  where
    go : (c : Bool) → eqb x y ≡ c → (c && (a || b)) ≡ false
    go true e = let p = h a b x refl (ap (Number b) (sym (eqb-true x y e))) in neither p.0 p.1
    go false e = refl

undo_same : (a b : Bool) (x : ℕ) → undo (Fact a x) (Fact b x) ≡ false → a ≡ b
unfolding undo
undo_same a b x e = go a b (let f : cond a (not b) b ≡ false = rw (eq-eqb x x refl) at e in f)
  where
    go : (c d : Bool) → cond c (not d) d ≡ false → c ≡ d
    go true true e = refl
    go true false e = absurd (true≢false e)
    go false true e = absurd (true≢false e)
    go false false e = refl

agree_undo : (m k : Mark) → ((a b : Bool) (x : ℕ) → m ≡ Fact a x → k ≡ Fact b x → a ≡ b) → undo m k ≡ false
unfolding undo
agree_undo Nothing k h = refl
agree_undo (Number a x) k h = refl
agree_undo (Fact a x) Nothing h = refl
agree_undo (Fact a x) (Number b y) h = refl
agree_undo (Fact a x) (Fact b y) h = go (eqb x y) refl
  where
    alike : (c d : Bool) → c ≡ d → cond c (not d) d ≡ false
    alike true true e = refl
    alike true false e = absurd (true≢false e)
    alike false true e = absurd (false≢true e)
    alike false false e = refl

    go : (c : Bool) → eqb x y ≡ c → (c && cond a (not b) b) ≡ false
    go true e = alike a b (h a b x refl (ap (Fact b) (sym (eqb-true x y e))))
    go false e = refl

-- ---- step 2

module _ (g : Grounds) (os : List ℕ) where
  collide_effects : (d e : Effect) → collide (mark_of g os d) (mark_of g os e) ≡ false → Additive g os d e
  collide_effects (becomes yes' r) e c = tt
  collide_effects (changes h r a) (becomes yes' q) c = tt
  collide_effects (changes h r a) (changes k q b) c = λ e.
      let n = collide_additive (mark_of g os (changes h r a)) (mark_of g os (changes k q b)) c (assigns h) (assigns k) (number_of g os r)
      (number_mark g os h r a) (number_mark g os k q b ∙ ap (Number (assigns k)) (sym e)) in
      (not_assign h n.0, not_assign k n.1)

  effects_collide : (d e : Effect) → Additive g os d e → collide (mark_of g os d) (mark_of g os e) ≡ false
  unfolding collide mark_of
  effects_collide (becomes yes' r) e t = refl
  effects_collide (changes h r a) (becomes yes' q) t = rw (number_mark g os h r a)
  effects_collide (changes h r a) (changes k q b) t = rw (number_mark g os h r a, number_mark g os k q b) (go (eqb (number_of g os r) (number_of g os q)) refl)
    where
      go : (c : Bool) → eqb (number_of g os r) (number_of g os q) ≡ c → (c && (assigns h || assigns k)) ≡ false
      go true e = let n = t (eqb-true (number_of g os r) (number_of g os q) e) in neither (assigns_not h n.0) (assigns_not k n.1)
      go false e = refl

  consistent_itself : (es : List Effect) → Pairwise (Additive g os) es → itself (marks_of g os es) ≡ false
  unfolding itself
  consistent_itself [] h = refl
  consistent_itself (e ∷ es) h =
      neither
      (all_none (collide (mark_of g os e)) (marks_of g os es)
      (all_mapped (λ (m : Mark). collide (mark_of g os e) m ≡ false) (mark_of g os) es (all_map (effects_collide e) es h.0)))
      (consistent_itself es h.1)

  itself_consistent : (es : List Effect) → itself (marks_of g os es) ≡ false → Pairwise (Additive g os) es
  unfolding itself
  itself_consistent [] e = tt
  itself_consistent (d ∷ es) e =
      let ms = marks_of g os es in
      let a = some (collide (mark_of g os d)) ms in (
        all_map (collide_effects d) es
            (mapped_all (λ (m : Mark). collide (mark_of g os d) m ≡ false) (mark_of g os) es (none_in (collide (mark_of g os d)) ms (or_left a (itself ms) e))),
        itself_consistent es (or_right a (itself ms) e),
      )

pub apart_decides : (g : Grounds) (p : Point) → Decides (Consistent g p) (Inconsistent g p) (apart g p)
unfolding apart
apart_decides g p = by_test (itself (marks g p)) (Itself (line_of p)) refl (itself_consistent g (objects_of p) (effects_of p))
    (consistent_itself g (objects_of p) (effects_of p))

-- ---- step 3

module _ (g : Grounds) (p q : Point) where
  unmoved_reads : Unmoved g p q → some (reads g p) (marks g q) ≡ false
  unfolding reads
  unmoved_reads u = all_none (reads g p) (marks g q) (in_all (marks g q) go)
    where
      go : (m : Mark) → m ∈ marks g q → reads g p m ≡ false
      go Nothing i = refl
      go (Fact a x) i = unfound (reads_fact_lem g p x) (u.facts a x (mark_makes g q a x i))
      go (Number a x) i = let c = mark_changes g q a x i in unfound (reads_number_lem g p x) (u.numbers c.how x c.it)

  reads_unmoved : some (reads g p) (marks g q) ≡ false → Unmoved g p q
  unfolding reads
  reads_unmoved e =
      let h = all_in (λ m. reads g p m ≡ false) (marks g q) (none_in (reads g p) (marks g q) e) in
      record {
        facts = λ a x m. absent (reads_fact_lem g p x) (h (Fact a x) (makes_mark g q a x m));
        numbers = λ how x c. absent (reads_number_lem g p x) (h (Number (assigns how) x) (changes_mark g q how x c));
      }

abbrev meet : List Mark → List Mark → Bool
meet ms ks = some (λ m. some (against m) ks) ms

-- effects of two points that can be together
module _ (ms ks : List Mark) where
  abbrev Agree : Type 0
  Agree = (a b : Bool) (x : ℕ) → Fact a x ∈ ms → Fact b x ∈ ks → a ≡ b

  abbrev Add : Type 0
  Add = (a b : Bool) (x : ℕ) → Number a x ∈ ms → Number b x ∈ ks → (a ≡ false) × (b ≡ false)

  together_meet : Agree → Add → meet ms ks ≡ false
  unfolding against
  together_meet f n =
      all_none _ ms (in_all ms (λ m i. all_none (against m) ks (in_all ks (λ k j. neither
      (additive_collide m k (λ a b x p q. n a b x (subst (λ r. r ∈ ms) p i) (subst (λ r. r ∈ ks) q j)))
      (agree_undo m k (λ a b x p q. f a b x (subst (λ r. r ∈ ms) p i) (subst (λ r. r ∈ ks) q j)))))))

  meet_against : meet ms ks ≡ false → (m k : Mark) → m ∈ ms → k ∈ ks → against m k ≡ false
  meet_against e m k i j =
      let a : some (against m) ks ≡ false = all_in (λ r. some (against r) ks ≡ false) ms (none_in (λ r. some (against r) ks) ms e) m i in
      all_in (λ r. against m r ≡ false) ks (none_in (against m) ks a) k j

  meet_agree : meet ms ks ≡ false → Agree
  unfolding against
  meet_agree e a b x i j =
      let m = Fact a x in
      let k = Fact b x in
      undo_same a b x (or_right (collide m k) (undo m k) (meet_against e m k i j))

  meet_add : meet ms ks ≡ false → Add
  unfolding against
  meet_add e a b x i j =
      let m = Number a x in
      let k = Number b x in
      collide_additive m k (or_left (collide m k) (undo m k) (meet_against e m k i j)) a b x refl refl

module _ (g : Grounds) (p q : Point) where
  non_interfering : NonInterfering g p q → interfere g p q ≡ false
  unfolding interfere
  non_interfering h =
      neither (neither (unmoved_reads g p q h.first_reads) (unmoved_reads g q p h.second_reads))
      (together_meet (marks g p) (marks g q) (λ a b x i j. h.facts a b x (mark_makes g p a x i) (mark_makes g q b x j)) add)
    where
      add : Add (marks g p) (marks g q)
      add a b x i j =
          let c = mark_changes g p a x i in
          let d = mark_changes g q b x j in
          let n = h.numbers c.how d.how x c.it d.it in
          (sym c.same ∙ assigns_not c.how n.0, sym d.same ∙ assigns_not d.how n.1)

  no_interference : interfere g p q ≡ false → NonInterfering g p q
  unfolding interfere
  no_interference e =
      let a = some (reads g p) (marks g q) in
      let b = some (reads g q) (marks g p) in
      let c = meet (marks g p) (marks g q) in
      let f = or_right (a || b) c e in
      record {
        first_reads = reads_unmoved g p q (or_left a b (or_left (a || b) c e));
        second_reads = reads_unmoved g q p (or_right a b (or_left (a || b) c e));
        facts = λ m n x i j. meet_agree (marks g p) (marks g q) f m n x (makes_mark g p m x i) (makes_mark g q n x j);
        numbers = λ h k x i j.
            let n = meet_add (marks g p) (marks g q) f (assigns h) (assigns k) x (changes_mark g p h x i) (changes_mark g q k x j) in
            (not_assign h n.0, not_assign k n.1);
      }

  clear_decides : Decides (NonInterfering g p q) (Interfering g p q) (clear g p q)
  unfolding clear
  clear_decides = by_test (interfere g p q) (Conflict (line_of p) (line_of q)) refl no_interference non_interfering

pub pairs_decide : (g : Grounds) (ps : List Point)
    → Decides (Pairwise (NonInterfering g) ps) (λ w. FirstPair (NonInterfering g) (λ p q. Interfering g p q w) ps) (pairs g ps)
unfolding pairs
pairs_decide g [] = always
pairs_decide g (p ∷ ps) = then (each_decides (clear g p) (clear_decides g p) ps) (pairs_decide g ps)
