-- The marks of a point's effects are what its effects write. Assumes nothing.
use mathlib.Core.Bool.{Bool, true, false, true≢false, false≢true}
use mathlib.Core.List.{List, [], ◌∷◌}
use mathlib.Core.Logic.{◌⊎◌, inl, inr}
use mathlib.Core.Path.{◌≡◌, refl, sym, ap, subst, ◌∙◌}
use Prim.Native.Nat.{ℕ}
use Rattle.domain_meaning.specs.Terms.{Ref, Expr}
use Rattle.domain_meaning.specs.Effects.{Change, assign, raise, lower, Effect, becomes, changes}
use Rattle.happening_meaning.specs.State.{Grounds, fact_of, number_of}
use Rattle.happening_meaning.specs.Writes.{mark_of}
use Rattle.happening_meaning.specs.Happening.{Point, objects_of, effects_of, marks, all_marks}
use Rattle.happening_meaning.specs.declared.Mark.{Mark}
use Rattle.happening_meaning.specs.declared.Mark.TheVariants.{Nothing, Fact, Number}
use Rattle.check_validity_meaning.specs.Lists.{◌∈◌}
use Rattle.check_validity_meaning.specs.Reads.{Makes, Changes}
use Rattle.check_validity_meaning.specs.Happens.{SomeMakes}
use Rattle.check_validity_meaning.proofs.Lists.{in_left, in_right, in_either, in_mapped, from_mapped}

-- ---- a mark, taken apart

abbrev pub index_of : Mark → ℕ
index_of Nothing = 0
index_of (Fact a x) = x
index_of (Number a x) = x

-- a fact that is added, a number that is assigned
abbrev pub adds : Mark → Bool
adds Nothing = false
adds (Fact a x) = a
adds (Number a x) = a

abbrev pub is_fact : Mark → Bool
is_fact Nothing = false
is_fact (Fact a x) = true
is_fact (Number a x) = false

abbrev is_number : Mark → Bool
is_number Nothing = false
is_number (Fact a x) = false
is_number (Number a x) = true

abbrev pub assigns : Change → Bool
assigns assign = true
assigns raise = false
assigns lower = false

pub assigning : (how : Change) → assigns how ≡ true → how ≡ assign
assigning assign e = refl
assigning raise e = absurd (false≢true e)
assigning lower e = absurd (false≢true e)

pub not_assign : (how : Change) → assigns how ≡ false → ¬ (how ≡ assign)
not_assign how e q = true≢false (sym (ap assigns q) ∙ e)

pub assigns_not : (how : Change) → ¬ (how ≡ assign) → assigns how ≡ false
assigns_not assign n = absurd (n refl)
assigns_not raise n = refl
assigns_not lower n = refl

module _ (g : Grounds) (os : List ℕ) where
  fact_mark : (yes' : Bool) (r : Ref) → mark_of g os (becomes yes' r) ≡ Fact yes' (fact_of g os r)
  unfolding mark_of
  fact_mark yes' r = refl

  pub number_mark : (how : Change) (r : Ref) (e : Expr) → mark_of g os (changes how r e) ≡ Number (assigns how) (number_of g os r)
  unfolding mark_of
  number_mark assign r e = refl
  number_mark raise r e = refl
  number_mark lower r e = refl

-- ---- the marks of a point

module _ (g : Grounds) (p : Point) where
  pub makes_mark : (a : Bool) (x : ℕ) → Makes g p a x → Fact a x ∈ marks g p
  makes_mark a x m =
      subst (λ (k : Mark). k ∈ marks g p) (fact_mark g (objects_of p) a m.fact ∙ ap (Fact a) m.index)
      (in_mapped (mark_of g (objects_of p)) (becomes a m.fact) (effects_of p) m.effect)

  pub changes_mark : (how : Change) (x : ℕ) → Changes g p how x → Number (assigns how) x ∈ marks g p
  changes_mark how x m =
      subst (λ (k : Mark). k ∈ marks g p) (number_mark g (objects_of p) how m.target m.amount ∙ ap (Number (assigns how)) m.index)
      (in_mapped (mark_of g (objects_of p)) (changes how m.target m.amount) (effects_of p) m.effect)

  pub mark_makes : (a : Bool) (x : ℕ) → Fact a x ∈ marks g p → Makes g p a x
  mark_makes a x i = let h = from_mapped (mark_of g (objects_of p)) (Fact a x) (effects_of p) i in go h.0 h.1 h.2
    where
      go : (f : Effect) → f ∈ effects_of p → Fact a x ≡ mark_of g (objects_of p) f → Makes g p a x
      go (becomes b r) j q =
          let k = q ∙ fact_mark g (objects_of p) b r in
          record { fact = r; effect = subst (λ (c : Bool). becomes c r ∈ effects_of p) (sym (ap adds k)) j; index = sym (ap index_of k) }
      go (changes how r e) j q = absurd (true≢false (ap is_fact (q ∙ number_mark g (objects_of p) how r e)))

  pub record Marked (a : Bool) (x : ℕ) : Type 0 where
    pub how : Change
    pub same : assigns how ≡ a
    pub it : Changes g p how x

  pub mark_changes : (a : Bool) (x : ℕ) → Number a x ∈ marks g p → Marked a x
  mark_changes a x i = let h = from_mapped (mark_of g (objects_of p)) (Number a x) (effects_of p) i in go h.0 h.1 h.2
    where
      go : (f : Effect) → f ∈ effects_of p → Number a x ≡ mark_of g (objects_of p) f → Marked a x
      go (becomes b r) j q = absurd (true≢false (ap is_number (q ∙ fact_mark g (objects_of p) b r)))
      go (changes how r e) j q =
          let k = q ∙ number_mark g (objects_of p) how r e in
          record { how = how; same = sym (ap adds k); it = record { target = r; amount = e; effect = j; index = sym (ap index_of k) } }

-- ---- the marks of all points

module _ (g : Grounds) (a : Bool) (x : ℕ) where
  pub all_makes : (ps : List Point) → Fact a x ∈ all_marks g ps → SomeMakes g ps a x
  unfolding all_marks
  all_makes [] i = absurd i
  all_makes (p ∷ ps) i = go (in_either (Fact a x) (marks g p) (all_marks g ps) i) (all_makes ps)
    where
      go : (Fact a x ∈ marks g p) ⊎ (Fact a x ∈ all_marks g ps) → (Fact a x ∈ all_marks g ps → SomeMakes g ps a x) → SomeMakes g (p ∷ ps) a x
      go (inl j) ih = (p, inl refl, mark_makes g p a x j)
      go (inr j) ih = let h = ih j in (h.0, inr h.1, h.2)

  pub makes_all : (ps : List Point) → SomeMakes g ps a x → Fact a x ∈ all_marks g ps
  unfolding all_marks
  makes_all [] h = absurd h.1
  makes_all (p ∷ ps) (q, inl e, m) = in_left (Fact a x) (marks g p) (all_marks g ps) (makes_mark g p a x (subst (λ (r : Point). Makes g r a x) e m))
  makes_all (p ∷ ps) (q, inr i, m) = in_right (Fact a x) (marks g p) (all_marks g ps) (makes_all ps (q, i, m))
