-- What effects don't write stays: a fact or number whose bit is not in their mask is as it was. Assumes nothing.
use mathlib.Core.Path.{◌≡◌, refl, sym, ap, ◌∙◌}
use mathlib.Core.List.{List, [], ◌∷◌, ◌++◌}
use mathlib.Core.Bool.{Bool, true, false}
use Prim.Native.Nat.{ℕ, ◌+◌}
use lib.Bits.{bit_or}
use borrow.Author.Tests.{ne_eqb}
use Rattle.happening_meaning.specs.State.{State, Grounds, is_true}
use Rattle.happening_meaning.specs.Writes.{some}
use Rattle.happening_meaning.specs.Happening.{Point, all_marks, new_facts, change_points, each_mark, with, without}
use Rattle.happening_meaning.specs.declared.Mark.{Mark}
use Rattle.happening_meaning.specs.declared.Mark.TheVariants.{Nothing, Fact, Number}
use Rattle.happening_state.specs.States.{state_in}
use Rattle.happening_state.specs.Masks.{has, fact_bit, number_bit, Touched}
use Rattle.happening_state.proofs.Bits.{not_first, not_second, not_bit}
use Rattle.happening_state.proofs.Keeping.{fact_other}
use Rattle.happening_writes.specs.Changing.{write_fact}
use Rattle.happening_writes.specs.Masks.{mark_bit, mask_from}
use Rattle.happening_writes.proofs.Settling.{names, except_same, except_points}

-- added or deleted
pub bit_fact : (added : Bool) (x : ℕ) → fact_bit x ≡ mark_bit (Fact added x)
unfolding mark_bit
bit_fact true x = refl
bit_fact false x = refl

pub bit_number : (assigned : Bool) (x : ℕ) → number_bit x ≡ mark_bit (Number assigned x)
unfolding mark_bit
bit_number assigned x = refl

pub mask_append : (w : ℕ) (ms ks : List Mark) → mask_from w (ms ++ ks) ≡ mask_from (mask_from w ms) ks
unfolding mask_from
mask_append w [] ks = refl
mask_append w (m ∷ ms) ks = mask_append (bit_or w (mark_bit m)) ms ks

-- ---- a bit that is not in the mask is in none of its marks

not_before : (w x : ℕ) (ms : List Mark) → has (mask_from w ms) x ≡ false → has w x ≡ false
unfolding mask_from
not_before w x [] h = h
not_before w x (m ∷ ms) h = not_first w (mark_bit m) x (not_before (bit_or w (mark_bit m)) x ms h)

-- of the mask of a mark and those after it
not_here : (w x : ℕ) (m : Mark) (ms : List Mark) → has (mask_from (bit_or w (mark_bit m)) ms) x ≡ false → has (mark_bit m) x ≡ false
not_here w x m ms h = not_second w (mark_bit m) x (not_before (bit_or w (mark_bit m)) x ms h)

-- ---- facts

fact_stays : (add : Bool) (fs : List ℕ) (m : Mark) (x : ℕ) → has (mark_bit m) x ≡ false → is_true (write_fact add fs m) x ≡ is_true fs x
unfolding mark_bit with without
fact_stays true fs Nothing x h = refl
fact_stays false fs Nothing x h = refl
fact_stays true fs (Fact true y) x h = fact_other fs y x 1 (not_bit y x h)
fact_stays true fs (Fact false y) x h = refl
fact_stays false fs (Fact true y) x h = refl
fact_stays false fs (Fact false y) x h = fact_other fs y x 0 (not_bit y x h)
fact_stays true fs (Number a y) x h = refl
fact_stays false fs (Number a y) x h = refl

pub facts_stay : (add : Bool) (fs : List ℕ) (ms : List Mark) (w x : ℕ) → has (mask_from w ms) x ≡ false
    → is_true (each_mark (write_fact add) fs ms) x ≡ is_true fs x
unfolding mask_from each_mark
facts_stay add fs [] w x h = refl
facts_stay add fs (m ∷ ms) w x h = facts_stay add (write_fact add fs m) ms (bit_or w (mark_bit m)) x h ∙ fact_stays add fs m x (not_here w x m ms h)

-- ---- numbers

unnamed : (w x : ℕ) (ms : List Mark) → has (mask_from w ms) (x + 32) ≡ false → some (names x) ms ≡ false
unfolding mask_from some names
unnamed w x [] h = refl
unnamed w x (Nothing ∷ ms) h = unnamed (bit_or w (mark_bit Nothing)) x ms h
unnamed w x (Fact a y ∷ ms) h = unnamed (bit_or w (mark_bit (Fact a y))) x ms h
unnamed w x (Number a y ∷ ms) h =
    let n : has (number_bit y) (x + 32) ≡ false = ap (λ (b : ℕ). has b (x + 32)) (bit_number a y) ∙ not_here w (x + 32) (Number a y) ms h in
    rw (ne_eqb x y (λ e. not_bit (y + 32) (x + 32) n (ap (λ (i : ℕ). i + 32) e))) (unnamed (bit_or w (mark_bit (Number a y))) x ms h)

-- ---- all points of a happening

pub happened_touched : (g : Grounds) (s : State) (ps : List Point) (w : ℕ)
    → Touched (mask_from w (all_marks g ps)) s (state_in (new_facts g s.facts ps) (change_points g s.numbers s.numbers ps).numbers)
happened_touched g s ps w =
    let ms = all_marks g ps in
    record {
      facts = λ x h. sym (facts_stay true (each_mark without s.facts ms) ms w x h ∙ facts_stay false s.facts ms w x h);
      numbers = λ x h. (except_points g s.numbers s.numbers [] s.numbers ps (except_same s.numbers)).1 x (unnamed w x ms h);
    }
