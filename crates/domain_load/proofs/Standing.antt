-- What stands in the rows of a model: the number of objects, the places of the actions' lists, the lists. Assumes nothing.
use mathlib.Core.Path.{◌≡◌, refl, sym, ap, ◌∙◌}
use mathlib.Core.List.{List, [], ◌∷◌}
use Prim.Native.Nat.{ℕ, ◌+◌, ◌*◌, ◌≤◌}
use native.Mathlib.Omega.{arith}
use lib.ListN.{length, set, length-set}
use lib.Seq.{sets, length-sets}
use Rattle.base_laws.proofs.Sets.{set_before}
use Rattle.domain_meaning.specs.Actions.{Action}
use Rattle.domain_rows.specs.Held.{byte_at}
use Rattle.domain_stored_meaning.proofs.Standing.{Stands, stored, head_is}
use Rattle.domain_prepared_meaning.specs.Rows.{places_from, action_bytes, all_places}
use Rattle.domain_forms.proofs.Storing.{sets_before}

-- each action has six places of two bytes
pub places_long : (n : ℕ) (ps fs : List ℕ) (u : ℕ) (as' : List Action) → length (all_places n ps fs u as') ≡ 12 * length as'
unfolding all_places places_from
places_long n ps fs u [] = refl
places_long n ps fs u (a ∷ as') = omega (arith, places_long n ps fs (u + length (action_bytes n ps fs a)) as')

-- a number, places after it and lists from u on, stored one after the other
module _ (l : List ℕ) (n : ℕ) (places : List ℕ) (u : ℕ) (lists : List ℕ) (near : 1 + length places ≤ u) (room : u + length lists ≤ length l) where
  abbrev rows : List ℕ
  rows = sets (sets (set l 0 n) 1 places) u lists

  pub count_stands : byte_at rows 0 ≡ n
  count_stands =
      let e : set (sets (sets l 1 places) u lists) 0 n ≡ rows =
      set_before (sets l 1 places) 0 u n lists (omega arith) ∙ ap (λ (k : List ℕ). sets k u lists) (set_before l 0 1 n places (omega arith)) in
      let long : 0 + 1 ≤ length (sets (sets l 1 places) u lists) =
      omega (arith, length-sets (sets l 1 places) u lists, length-sets l 1 places) in
      ap (λ (k : List ℕ). byte_at k 0) (sym e) ∙ head_is (stored (sets (sets l 1 places) u lists) 0 (n ∷ []) long)

  pub places_stand : Stands rows 1 places
  places_stand =
      let e : sets (sets (set l 0 n) u lists) 1 places ≡ rows = sets_before (set l 0 n) 1 u places lists near in
      let long : 1 + length places ≤ length (sets (set l 0 n) u lists) = omega (arith, length-sets (set l 0 n) u lists, length-set l 0 n) in
      rw e at (stored (sets (set l 0 n) u lists) 1 places long)

  pub lists_stand : Stands rows u lists
  lists_stand = stored (sets (set l 0 n) 1 places) u lists (omega (arith, length-sets (set l 0 n) 1 places, length-set l 0 n))
