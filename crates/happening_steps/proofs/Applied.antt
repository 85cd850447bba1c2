-- Step 4 over the points from number j on: what is left leads to the whole. Assumes nothing.
use mathlib.Core.Path.{◌≡◌, refl, sym, ap, ◌∙◌}
use mathlib.Core.List.{List, [], ◌++◌}
use mathlib.Core.Bool.{Bool, ◌||◌, or-false}
use Prim.Native.Nat.{ℕ, ◌+◌, ◌-◌, ◌*◌, ◌≤◌, ◌<◌}
use native.Mathlib.Omega.{arith}
use lib.IntN.{ℤ}
use lib.ListN.{length}
use Rattle.domain_prepared_meaning.specs.Decode.{effects_at}
use Rattle.happening_meaning.specs.Writes.{some}
use Rattle.happening_meaning.specs.Happening.{Point, Made, made, change_all, change_points, each_mark, all_marks, effects_of}
use Rattle.happening_meaning.specs.Happening.{line_of, objects_of}
use Rattle.happening_meaning.specs.declared.Mark.{Mark}
use Rattle.happening_meaning.specs.declared.Outcome.{Outcome}
use Rattle.happening_meaning.specs.declared.Outcome.TheVariants.{Done}
use Rattle.happening_forms.specs.Summed.{summed, four_at}
use Rattle.happening_writes.specs.Rows.{marks_at}
use Rattle.happening_writes.specs.Changing.{Room, settle_all, adds}
use Rattle.happening_writes.specs.Masks.{mask_from}
use Rattle.happening_writes.proofs.Bounds.{room_start, room_less, room_all}
use Rattle.happening_writes.proofs.Following.{effects_few}
use Rattle.happening_writes.proofs.Joining.{each_append, some_more}
use Rattle.happening_writes.proofs.Masking.{mask_append}
use Rattle.happening_writes.proofs.Turning.{not_done}
use Rattle.happening_writes.proofs.Settling.{settle_append}
use Rattle.happening_placing.specs.Given.{placed_in, point_in, points_in}
use Rattle.happening_placing.specs.declared.Placed.{Placed}
use Rattle.happening_placing.proofs.Placing.{line_is, objects_are, effects_are}
use Rattle.happening_meetings.proofs.Crossing.{marks_here}
use Rattle.happening_meetings.proofs.Given.{points_end, points_step}

abbrev made_at : List ℕ → List ℕ → ℕ → List ℤ → List ℤ → Placed → Made
made_at rows os j old ns p = change_all summed old p.line (four_at os j) ns (effects_at rows p.effects)

marks_end : {xs : List Point} → xs ≡ [] → all_marks summed xs ≡ []
unfolding all_marks
marks_end e = rw e

settle_none : (a b : List ℤ) → b ≡ settle_all a b []
unfolding settle_all
settle_none a b = refl

-- ---- room for the points from number j on: each has less than 22,000 effects, by the rows' length

few : (rows : List ℕ) (at : ℕ) → length rows ≤ 65536 → length (effects_at rows at) ≤ 22000
few rows at h = omega (arith, effects_few rows at)

pub room_first : (n : ℕ) (old ns : List ℤ) → n ≤ 64 → ns ≡ old → Room ((n - 0) * 22000) old ns
room_first n old ns h e = rw e (room_start ((n - 0) * 22000) old (omega arith))

module _ (rows : List ℕ) (n j : ℕ) (old ns : List ℤ) (h : j < n) (s : length rows ≤ 65536) (r : Room ((n - j) * 22000) old ns) where
  pub room_here : (at : ℕ) → Room (length (effects_at rows at)) old ns
  room_here at = let q = few rows at s in room_less ((n - j) * 22000) (length (effects_at rows at)) old ns (omega arith) r

  pub room_next : (os : List ℕ) (p : Placed) {o : Outcome} {ms : List ℤ} → made o ms ≡ made_at rows os j old ns p → Room ((n - (j + 1)) * 22000) old ms
  room_next os p e =
      rw (ap (λ m. m.numbers) e)
      (room_all summed old p.line (four_at os j) 22000 ((n - (j + 1)) * 22000) ns (effects_at rows p.effects) (few rows p.effects s)
      (room_less ((n - j) * 22000) (22000 + (n - (j + 1)) * 22000) old ns (omega arith) r))

-- ---- the ways of the loops

module _ (rows ps os : List ℕ) (n j : ℕ) where
  module _ (z : n ≤ j) where
    pub change_end : (old ns : List ℤ) → made Done ns ≡ change_points summed old ns (points_in rows ps os (n - j) j)
    unfolding change_points
    change_end old ns = rw (points_end rows ps os n j z)

    pub write_end : (f : List ℕ → Mark → List ℕ) (fs : List ℕ) → fs ≡ each_mark f fs (all_marks summed (points_in rows ps os (n - j) j))
    unfolding each_mark
    write_end f fs = rw (marks_end (points_end rows ps os n j z))

    pub adds_end : (any : Bool) → any ≡ (any || some adds (all_marks summed (points_in rows ps os (n - j) j)))
    unfolding some
    adds_end any = rw (marks_end (points_end rows ps os n j z)) (sym (or-false any))

    pub settle_end : (a b : List ℤ) → b ≡ settle_all a b (all_marks summed (points_in rows ps os (n - j) j))
    settle_end a b = settle_none a b ∙ ap (settle_all a b) (sym (marks_end (points_end rows ps os n j z)))

    pub mask_end : (w : ℕ) → w ≡ mask_from w (all_marks summed (points_in rows ps os (n - j) j))
    unfolding mask_from
    mask_end w = rw (marks_end (points_end rows ps os n j z))

  module _ (h : j < n) {p : Placed} (ep : p ≡ placed_in rows ps j) where
    made_is : (old ns : List ℤ) → change_all summed old (line_of (point_in rows ps os j)) (objects_of (point_in rows ps os j)) ns (effects_of (point_in rows ps os j))
        ≡ made_at rows os j old ns p
    made_is old ns = rw (ep, ← effects_are rows ps os j, ← objects_are rows ps os j, ← line_is rows ps os j)

    marks_step : all_marks summed (points_in rows ps os (n - j) j)
        ≡ marks_at rows (four_at os j) p.effects ++ all_marks summed (points_in rows ps os (n - (j + 1)) (j + 1))
    unfolding all_marks
    marks_step =
        rw (points_step rows ps os n j h)
        (ap (λ ms. ms ++ all_marks summed (points_in rows ps os (n - (j + 1)) (j + 1))) (sym (marks_here rows ps os j ep)))

    pub change_turn : (old ns : List ℤ) {o : Outcome} {ms : List ℤ} → made o ms ≡ made_at rows os j old ns p → o ≡ Done
        → change_points summed old ms (points_in rows ps os (n - (j + 1)) (j + 1)) ≡ change_points summed old ns (points_in rows ps os (n - j) j)
    unfolding change_points
    change_turn old ns e d = sym (rw (points_step rows ps os n j h, made_is old ns, ← e, d))

    pub change_fails : (old ns : List ℤ) {o : Outcome} {ms : List ℤ} → made o ms ≡ made_at rows os j old ns p → (o ≡ Done → ⊥)
        → made o ms ≡ change_points summed old ns (points_in rows ps os (n - j) j)
    unfolding change_points
    change_fails old ns {o} e f = rw (points_step rows ps os n j h, made_is old ns, ← e, not_done o f)

    pub write_turn : (f : List ℕ → Mark → List ℕ) (fs : List ℕ) {gs : List ℕ} → gs ≡ each_mark f fs (marks_at rows (four_at os j) p.effects)
        → each_mark f gs (all_marks summed (points_in rows ps os (n - (j + 1)) (j + 1))) ≡ each_mark f fs (all_marks summed (points_in rows ps os (n - j) j))
    write_turn f fs e =
        ap (λ x. each_mark f x (all_marks summed (points_in rows ps os (n - (j + 1)) (j + 1)))) e
        ∙ sym (each_append f fs (marks_at rows (four_at os j) p.effects) (all_marks summed (points_in rows ps os (n - (j + 1)) (j + 1))))
        ∙ ap (each_mark f fs) (sym marks_step)

    pub adds_turn : (any : Bool) {more : Bool} → more ≡ (any || some adds (marks_at rows (four_at os j) p.effects))
        → (more || some adds (all_marks summed (points_in rows ps os (n - (j + 1)) (j + 1))))
        ≡ (any || some adds (all_marks summed (points_in rows ps os (n - j) j)))
    adds_turn any q =
        some_more adds any (marks_at rows (four_at os j) p.effects) (all_marks summed (points_in rows ps os (n - (j + 1)) (j + 1))) q
        ∙ ap (λ ms. any || some adds ms) (sym marks_step)

    pub settle_turn : (a b : List ℤ) {d : List ℤ} → d ≡ settle_all a b (marks_at rows (four_at os j) p.effects)
        → settle_all a d (all_marks summed (points_in rows ps os (n - (j + 1)) (j + 1))) ≡ settle_all a b (all_marks summed (points_in rows ps os (n - j) j))
    settle_turn a b e =
        ap (λ x. settle_all a x (all_marks summed (points_in rows ps os (n - (j + 1)) (j + 1)))) e
        ∙ sym (settle_append a b (marks_at rows (four_at os j) p.effects) (all_marks summed (points_in rows ps os (n - (j + 1)) (j + 1))))
        ∙ ap (settle_all a b) (sym marks_step)

    pub mask_turn : (w : ℕ) {m : ℕ} → m ≡ mask_from w (marks_at rows (four_at os j) p.effects)
        → mask_from m (all_marks summed (points_in rows ps os (n - (j + 1)) (j + 1))) ≡ mask_from w (all_marks summed (points_in rows ps os (n - j) j))
    mask_turn w e =
        ap (λ x. mask_from x (all_marks summed (points_in rows ps os (n - (j + 1)) (j + 1)))) e
        ∙ sym (mask_append w (marks_at rows (four_at os j) p.effects) (all_marks summed (points_in rows ps os (n - (j + 1)) (j + 1))))
        ∙ ap (mask_from w) (sym marks_step)
