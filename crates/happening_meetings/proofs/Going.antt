-- A walk over accesses part by part, and its three modes: held against the marks, marked, wiped. Assumes nothing.
use mathlib.Core.Path.{◌≡◌, refl, sym, ap, ap₂, ◌∙◌}
use mathlib.Core.List.{List, [], ◌∷◌, ◌++◌}
use mathlib.Core.Bool.{Bool, false, ◌||◌}
use Prim.Native.Nat.{ℕ}
use Rattle.happening_meetings.specs.declared.walks.Mode.{Mode}
use Rattle.happening_meetings.specs.declared.walks.Mode.TheVariants.{Meet, Mark, Wipe}
use Rattle.happening_meetings.specs.Accesses.{Access}
use Rattle.happening_meetings.specs.Marks.{mark_all, hit_any, wipe_all, after_one, met_one, walked, met, Went}
use Rattle.happening_meetings.proofs.Marking.{or_assoc, or_false}

walked_append : (mode : Mode) (l : List ℕ) (xs ys : List Access) → walked mode l (xs ++ ys) ≡ walked mode (walked mode l xs) ys
unfolding walked
walked_append mode l [] ys = refl
walked_append mode l (a ∷ xs) ys = walked_append mode (after_one mode l a) xs ys

met_append : (mode : Mode) (l : List ℕ) (xs ys : List Access) → met mode l (xs ++ ys) ≡ (met mode l xs || met mode (walked mode l xs) ys)
unfolding met walked
met_append mode l [] ys = refl
met_append mode l (a ∷ xs) ys =
    ap (λ (b : Bool). met_one mode l a || b) (met_append mode (after_one mode l a) xs ys)
    ∙ sym (or_assoc (met_one mode l a) (met mode (after_one mode l a) xs) (met mode (walked mode (after_one mode l a) xs) ys))

-- ---- what code does, part by part

module _ (mode : Mode) (l : List ℕ) where
  pub went_none : Went mode l [] false l
  unfolding walked met
  went_none = record { told = refl; left = refl }

  pub went_one : (a : Access) {f : Bool} {m : List ℕ} → f ≡ met_one mode l a → m ≡ after_one mode l a → Went mode l (a ∷ []) f m
  unfolding walked met
  went_one a e q = record { told = e ∙ sym (or_false (met_one mode l a)); left = q }

  pub went_both : {xs ys : List Access} {f h b : Bool} {m n : List ℕ} → Went mode l xs f m → Went mode m ys h n → b ≡ (f || h) → Went mode l (xs ++ ys) b n
  went_both {xs} {ys} {f} {h} {b} {m} {n} w v e =
      record {
        told = e ∙ ap₂ ◌||◌ w.told (v.told ∙ ap (λ (k : List ℕ). met mode k ys) w.left) ∙ sym (met_append mode l xs ys);
        left = v.left ∙ ap (λ (k : List ℕ). walked mode k ys) w.left ∙ sym (walked_append mode l xs ys);
      }

  pub went_same : {xs ys : List Access} {f : Bool} {m : List ℕ} → xs ≡ ys → Went mode l xs f m → Went mode l ys f m
  went_same e w = rw e at w

-- ---- the three modes

holding : (l : List ℕ) (xs : List Access) → (walked Meet l xs ≡ l) × (met Meet l xs ≡ hit_any l xs)
unfolding walked met hit_any after_one met_one
holding l [] = (refl, refl)
holding l (a ∷ xs) = ((holding l xs).0, ap (λ (b : Bool). met_one Meet l a || b) (holding l xs).1)

marking : (l : List ℕ) (xs : List Access) → walked Mark l xs ≡ mark_all l xs
unfolding walked mark_all after_one
marking l [] = refl
marking l (a ∷ xs) = marking (after_one Mark l a) xs

wiping : (l : List ℕ) (xs : List Access) → walked Wipe l xs ≡ wipe_all l xs
unfolding walked wipe_all after_one
wiping l [] = refl
wiping l (a ∷ xs) = wiping (after_one Wipe l a) xs

module _ (l : List ℕ) (xs : List Access) {f : Bool} {m : List ℕ} where
  pub held : Went Meet l xs f m → (f ≡ hit_any l xs) × (m ≡ l)
  held w = (w.told ∙ (holding l xs).1, w.left ∙ (holding l xs).0)

  pub marked : Went Mark l xs f m → m ≡ mark_all l xs
  marked w = w.left ∙ marking l xs

  pub wiped : Went Wipe l xs f m → m ≡ wipe_all l xs
  wiped w = w.left ∙ wiping l xs

-- ---- a walk through a list: what is left leads to the whole

pub record Onward (mode : Mode) (found : Bool) (marks : List ℕ) (rest : List Access) (l : List ℕ) (whole : List Access) : Type 0 where
  pub told : (found || met mode marks rest) ≡ met mode l whole
  pub left : walked mode marks rest ≡ walked mode l whole

pub onward_start : (mode : Mode) (l : List ℕ) (xs : List Access) → Onward mode false l xs l xs
onward_start mode l xs = record { told = refl; left = refl }

module _ {mode : Mode} {f : Bool} {m : List ℕ} {rest : List Access} {l : List ℕ} {whole : List Access} (o : Onward mode f m rest l whole) where
  pub onward_end : rest ≡ [] → Went mode l whole f m
  unfolding walked met
  onward_end e =
      let p : Onward mode f m [] l whole = rw e at o in
      record { told = sym (or_false f) ∙ p.told; left = p.left }

  pub onward_turn : {xs ys : List Access} {h b : Bool} {n : List ℕ} → rest ≡ (xs ++ ys) → Went mode m xs h n → b ≡ (f || h) → Onward mode b n ys l whole
  onward_turn {xs} {ys} {h} {b} {n} e w q =
      record {
        told =
            ap₂ (λ (c : Bool) (k : List ℕ). c || met mode k ys) (q ∙ ap (λ (c : Bool). f || c) w.told) w.left
            ∙ or_assoc f (met mode m xs) (met mode (walked mode m xs) ys)
            ∙ ap (λ (c : Bool). f || c) (sym (met_append mode m xs ys) ∙ ap (met mode m) (sym e))
            ∙ o.told;
        left = ap (λ (k : List ℕ). walked mode k ys) w.left ∙ sym (walked_append mode m xs ys) ∙ ap (walked mode m) (sym e) ∙ o.left;
      }
