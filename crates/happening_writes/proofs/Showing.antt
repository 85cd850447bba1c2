-- What a walk asks for is all that its answer hangs on: with the index 0 in place of one that it doesn't ask for the answer is the same. Assumes nothing.
use mathlib.Core.Path.{◌≡◌, refl, sym, ap, ◌∙◌}
use mathlib.Core.List.{List, [], ◌∷◌}
use mathlib.Core.Bool.{Bool, true, false, cond, not, ◌&&◌}
use Prim.Native.Nat.{ℕ}
use lib.Dec.{eqb}
use lib.IntN.{ℤ}
use Rattle.std.specs.Iterator.{YieldsFirst}
use Rattle.std.specs.declared.option.Option.{Option}
use Rattle.std.specs.declared.option.Option.TheVariants.{Some, None}
use Rattle.happening_meaning.specs.Writes.{some, collide, undo, against, itself}
use Rattle.happening_meaning.specs.Happening.{each_mark, with, without, leaves}
use Rattle.happening_meaning.specs.declared.Mark.{Mark}
use Rattle.happening_meaning.specs.declared.Mark.TheVariants.{Nothing, Fact, Number}
use Rattle.happening_writes.specs.declared.marks.Asked.{Asked}
use Rattle.happening_writes.specs.declared.marks.Asked.TheVariants.{All, Facts, Numbers}
use Rattle.happening_writes.specs.declared.marks.Marks.{Marks}
use Rattle.happening_writes.specs.Asking.{asks_fact, asks_number, asked_against, shown, shown_all}
use Rattle.happening_writes.specs.Left.{left}
use Rattle.happening_writes.specs.Changing.{settle_one, settle_all, write_fact, adds}

pub shown_whole : (ms : List Mark) → shown_all All ms ≡ ms
unfolding shown
shown_whole [] = refl
shown_whole (Nothing ∷ ms) = ap (λ (ks : List Mark). Nothing ∷ ks) (shown_whole ms)
shown_whole (Fact a x ∷ ms) = ap (λ (ks : List Mark). Fact a x ∷ ks) (shown_whole ms)
shown_whole (Number a x ∷ ms) = ap (λ (ks : List Mark). Number a x ∷ ks) (shown_whole ms)

-- a step of a walk that asks for all gives what is written
pub whole_first : (s t : Marks) (r : Option Mark) → YieldsFirst (λ w. shown_all All (left w)) s r t → YieldsFirst left s r t
whole_first s t None h = (sym (shown_whole (left s)) ∙ h.0, sym (shown_whole (left t)) ∙ h.1)
whole_first s t (Some m) h = sym (shown_whole (left s)) ∙ h ∙ ap (λ (ks : List Mark). m ∷ ks) (shown_whole (left t))

-- ---- one step: the first is shown, and what is left of the rest

module _ (q : Asked) {l : List Mark} where
  pub shown_none : l ≡ [] → shown_all q l ≡ []
  shown_none e = rw e

  module _ {ms : List Mark} {a : Bool} {i : ℕ} where
    pub shown_fact : l ≡ Fact a i ∷ ms → {b : Bool} → b ≡ asks_fact q a → {x : ℕ} → x ≡ cond b i 0 → shown_all q l ≡ Fact a x ∷ shown_all q ms
    unfolding shown
    shown_fact e k h = rw (e, h, k)

    pub shown_number : l ≡ Number a i ∷ ms → {b : Bool} → b ≡ asks_number q → {x : ℕ} → x ≡ cond b i 0 → shown_all q l ≡ Number a x ∷ shown_all q ms
    unfolding shown
    shown_number e k h = rw (e, h, k)

-- ---- a search

pub some_shown : (f : Mark → Bool) (q : Asked) (ms : List Mark) → ((m : Mark) → f (shown q m) ≡ f m) → some f (shown_all q ms) ≡ some f ms
unfolding some
some_shown f q [] h = refl
some_shown f q (m ∷ ms) h = rw (h m, some_shown f q ms h)

collide_shown : (m k : Mark) → collide m (shown Numbers k) ≡ collide m k
unfolding collide shown
collide_shown Nothing k = refl
collide_shown (Fact a x) k = refl
collide_shown (Number a x) Nothing = refl
collide_shown (Number a x) (Fact b y) = refl
collide_shown (Number a x) (Number b y) = refl

first_shown : (m k : Mark) → collide (shown Numbers m) k ≡ collide m k
unfolding collide shown
first_shown Nothing k = refl
first_shown (Fact a x) k = refl
first_shown (Number a x) k = refl

and_none : (b : Bool) → (b && false) ≡ false
and_none true = refl
and_none false = refl

undo_shown : (a : Bool) (x : ℕ) (b : Bool) (y : ℕ) → undo (Fact a x) (shown (Facts (not a)) (Fact b y)) ≡ undo (Fact a x) (Fact b y)
unfolding undo shown
undo_shown true x true y = and_none (eqb x 0) ∙ sym (and_none (eqb x y))
undo_shown true x false y = refl
undo_shown false x true y = refl
undo_shown false x false y = and_none (eqb x 0) ∙ sym (and_none (eqb x y))

against_shown : (m k : Mark) → against m (shown (asked_against m) k) ≡ against m k
unfolding against collide undo shown
against_shown Nothing k = refl
against_shown (Fact a x) Nothing = refl
against_shown (Fact a x) (Fact b y) = undo_shown a x b y
against_shown (Fact a x) (Number b y) = refl
against_shown (Number a x) Nothing = refl
against_shown (Number a x) (Fact b y) = refl
against_shown (Number a x) (Number b y) = refl

pub against_asked : (m : Mark) (ms : List Mark) → some (against m) (shown_all (asked_against m) ms) ≡ some (against m) ms
against_asked m ms = some_shown (against m) (asked_against m) ms (against_shown m)

some_first : (m : Mark) (ks : List Mark) → some (collide (shown Numbers m)) ks ≡ some (collide m) ks
unfolding some
some_first m [] = refl
some_first m (k ∷ ks) = rw (first_shown m k, some_first m ks)

pub itself_asked : (ms : List Mark) → itself (shown_all Numbers ms) ≡ itself ms
unfolding itself
itself_asked [] = refl
itself_asked (m ∷ ms) =
    rw (some_shown (collide (shown Numbers m)) Numbers ms (collide_shown (shown Numbers m)), some_first m ms, itself_asked ms)

leaves_shown : (ns : List ℤ) (m : Mark) → leaves ns (shown Numbers m) ≡ leaves ns m
unfolding leaves shown
leaves_shown ns Nothing = refl
leaves_shown ns (Fact a x) = refl
leaves_shown ns (Number a x) = refl

pub leaves_asked : (ns : List ℤ) (ms : List Mark) → some (leaves ns) (shown_all Numbers ms) ≡ some (leaves ns) ms
leaves_asked ns ms = some_shown (leaves ns) Numbers ms (leaves_shown ns)

-- ---- what is written

pub settle_asked : (source target : List ℤ) (ms : List Mark) → settle_all source target (shown_all Numbers ms) ≡ settle_all source target ms
unfolding settle_all settle_one shown
settle_asked source target [] = refl
settle_asked source target (Nothing ∷ ms) = settle_asked source target ms
settle_asked source target (Fact a x ∷ ms) = settle_asked source target ms
settle_asked source target (Number a x ∷ ms) = settle_asked source (settle_one source target (Number a x)) ms

fact_shown : (add : Bool) (fs : List ℕ) (m : Mark) → write_fact add fs (shown (Facts add) m) ≡ write_fact add fs m
unfolding with without shown
fact_shown true fs Nothing = refl
fact_shown true fs (Fact true x) = refl
fact_shown true fs (Fact false x) = refl
fact_shown true fs (Number a x) = refl
fact_shown false fs Nothing = refl
fact_shown false fs (Fact true x) = refl
fact_shown false fs (Fact false x) = refl
fact_shown false fs (Number a x) = refl

pub facts_asked : (add : Bool) (fs : List ℕ) (ms : List Mark) → each_mark (write_fact add) fs (shown_all (Facts add) ms) ≡ each_mark (write_fact add) fs ms
unfolding each_mark
facts_asked add fs [] = refl
facts_asked add fs (m ∷ ms) =
    ap (λ (gs : List ℕ). each_mark (write_fact add) gs (shown_all (Facts add) ms)) (fact_shown add fs m) ∙ facts_asked add (write_fact add fs m) ms

adds_shown : (q : Asked) (m : Mark) → adds (shown q m) ≡ adds m
unfolding adds shown
adds_shown q Nothing = refl
adds_shown q (Fact a x) = refl
adds_shown q (Number a x) = refl

pub adds_asked : (q : Asked) (ms : List Mark) → some adds (shown_all q ms) ≡ some adds ms
adds_asked q ms = some_shown adds q ms (adds_shown q)
