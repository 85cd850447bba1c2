-- The numbers after a happening: what the effects put one after the other is, number by number, what the definitions say, and only that. Assumes nothing.
use mathlib.Core.Bool.{Bool, true, false, cond, true≢false}
use mathlib.Core.List.{List, [], ◌∷◌}
use mathlib.Core.Logic.{◌⊎◌, inl, inr}
use mathlib.Core.Path.{◌≡◌, refl, sym, ap, subst, ◌∙◌}
use Prim.Native.Nat.{ℕ, ◌<◌}
use native.Mathlib.Omega.{arith}
use lib.Dec.{eqb}
use lib.IntN.{ℤ, pos, ◌+ℤ◌, +ℤ_idr, +ℤ_assoc}
use lib.ListN.{length, get_or, length-set}
use lib.Seq.{get_or-set_same, get_or-set_other, lt-length-set, ext_get_or}
use borrow.Author.Tests.{eqb-true, eqb-false}
use Rattle.domain_meaning.specs.Effects.{Change, assign, raise, lower, Effect, becomes, changes}
use Rattle.domain_meaning.specs.Terms.{Ref, Expr}
use Rattle.domain_meaning.specs.First.{undefined}
use Rattle.happening_meaning.specs.State.{State, Grounds, number_at, number_of}
use Rattle.happening_meaning.specs.Happening.{Point, objects_of, effects_of, new_number}
use Rattle.plan_meaning.proofs.Lists.{all_map, all_append}
use Rattle.check_validity_meaning.specs.Lists.{All, Pairwise, ◌∈◌}
use Rattle.check_validity_meaning.specs.Reads.{Changes}
use Rattle.check_validity_meaning.specs.Happens.{Additive, Consistent, NonInterfering, Written, signed, share, total, NewNumber}
use Rattle.check_validity_meaning.proofs.Lists.{all_in, in_all, pairwise_append}
use Rattle.check_validity_meaning.proofs.Marking.{assigns, assigning, assigns_not}
use Rattle.check_validity_meaning.proofs.Made.{written, all_written_lem, put, puts}

-- two that write one number only raise or lower it
abbrev Together : Written → Written → Type 0
Together w v = w.index ≡ v.index → (assigns w.how ≡ false) × (assigns v.how ≡ false)

-- ---- number by number

pub length_puts : (ns : List ℤ) (ws : List Written) → length (puts ns ws) ≡ length ns
length_puts ns [] = refl
length_puts ns (w ∷ ws) = length_puts (put ns w) ws ∙ length-set ns w.index (new_number w.how (number_at ns w.index) w.amount)

module _ (x : ℕ) where
  put_same : (ns : List ℤ) (w : Written) → x < length ns → w.index ≡ x → number_at (put ns w) x ≡ new_number w.how (number_at ns x) w.amount
  unfolding number_at
  put_same ns w h e = rw e (get_or-set_same ns x (new_number w.how (get_or ns x undefined) w.amount) undefined h)

  put_other : (ns : List ℤ) (w : Written) → ¬ (w.index ≡ x) → number_at (put ns w) x ≡ number_at ns x
  unfolding number_at
  put_other ns w n = get_or-set_other ns w.index x (new_number w.how (get_or ns w.index undefined) w.amount) undefined (λ e. n (sym e))

  lt_put : (ns : List ℤ) (w : Written) → x < length ns → x < length (put ns w)
  lt_put ns w h = lt-length-set ns w.index (new_number w.how (number_at ns w.index) w.amount) h

  puts_other : (ns : List ℤ) (ws : List Written) → All (λ w. ¬ (w.index ≡ x)) ws → number_at (puts ns ws) x ≡ number_at ns x
  puts_other ns [] a = refl
  puts_other ns (w ∷ ws) a = puts_other (put ns w) ws a.1 ∙ put_other ns w a.0

  -- an effect that does not assign x adds its share
  shares : (ns : List ℤ) (w : Written) → x < length ns → (w.index ≡ x → ¬ (w.how ≡ assign)) → number_at (put ns w) x ≡ number_at ns x +ℤ share x w
  shares ns w h n = go (eqb w.index x) refl
    where
      sums : (how : Change) (a z : ℤ) → ¬ (how ≡ assign) → new_number how a z ≡ a +ℤ signed how z
      sums assign a z n = absurd (n refl)
      sums raise a z n = refl
      sums lower a z n = refl

      go : (b : Bool) → eqb w.index x ≡ b → number_at (put ns w) x ≡ number_at ns x +ℤ cond b (signed w.how w.amount) (pos 0)
      go true e = let q = eqb-true w.index x e in put_same ns w h q ∙ sums w.how (number_at ns x) w.amount (n q)
      go false e = put_other ns w (eqb-false w.index x e) ∙ sym (+ℤ_idr (number_at ns x))

  puts_rest : (ns : List ℤ) (ws : List Written) → x < length ns → All (λ w. w.index ≡ x → ¬ (w.how ≡ assign)) ws
      → number_at (puts ns ws) x ≡ number_at ns x +ℤ total x ws
  puts_rest ns [] h a = sym (+ℤ_idr (number_at ns x))
  puts_rest ns (w ∷ ws) h a =
      puts_rest (put ns w) ws (lt_put ns w h) a.1
      ∙ ap (λ (z : ℤ). z +ℤ total x ws) (shares ns w h a.0)
      ∙ +ℤ_assoc (number_at ns x) (share x w) (total x ws)

  puts_assigned : (ns : List ℤ) (ws : List Written) → x < length ns → Pairwise Together ws
      → All (λ w. w.index ≡ x → w.how ≡ assign → number_at (puts ns ws) x ≡ w.amount) ws
  puts_assigned ns [] h t = tt
  puts_assigned ns (w ∷ ws) h t = (
    λ e a. puts_other (put ns w) ws (all_map (λ v k f. true≢false (sym (ap assigns a) ∙ (k (e ∙ sym f)).0)) ws t.0)
        ∙ put_same ns w h e ∙ ap (λ (c : Change). new_number c (number_at ns x) w.amount) a,
    puts_assigned (put ns w) ws (lt_put ns w h) t.1,
  )

  -- ---- and only that

  -- some effect assigns x, or none does
  pub record Assigned (ws : List Written) : Type 0 where
    pub one : Written
    pub inside : one ∈ ws
    pub index : one.index ≡ x
    pub how : one.how ≡ assign

  assigned? : (ws : List Written) → Assigned ws ⊎ All (λ w. w.index ≡ x → ¬ (w.how ≡ assign)) ws
  assigned? [] = inr tt
  assigned? (w ∷ ws) = go (eqb w.index x) (assigns w.how) refl refl (assigned? ws)
    where
      rest : (w.index ≡ x → ¬ (w.how ≡ assign)) → Assigned ws ⊎ All (λ v. v.index ≡ x → ¬ (v.how ≡ assign)) ws
          → Assigned (w ∷ ws) ⊎ All (λ v. v.index ≡ x → ¬ (v.how ≡ assign)) (w ∷ ws)
      rest n (inl a) = inl (record { one = a.one; inside = inr a.inside; index = a.index; how = a.how })
      rest n (inr a) = inr (n, a)

      go : (b c : Bool) → eqb w.index x ≡ b → assigns w.how ≡ c → Assigned ws ⊎ All (λ v. v.index ≡ x → ¬ (v.how ≡ assign)) ws
          → Assigned (w ∷ ws) ⊎ All (λ v. v.index ≡ x → ¬ (v.how ≡ assign)) (w ∷ ws)
      go true true p q r = inl (record { one = w; inside = inl refl; index = eqb-true w.index x p; how = assigning w.how q })
      go true false p q r = rest (λ e a. true≢false (sym (ap assigns a) ∙ q)) r
      go false true p q r = rest (λ e a. eqb-false w.index x p e) r
      go false false p q r = rest (λ e a. eqb-false w.index x p e) r

  one_number : (s t u : State) (ws : List Written) → NewNumber s t ws x → NewNumber s u ws x → number_at t.numbers x ≡ number_at u.numbers x
  one_number s t u ws a b = go (assigned? ws)
    where
      go : Assigned ws ⊎ All (λ w. w.index ≡ x → ¬ (w.how ≡ assign)) ws → number_at t.numbers x ≡ number_at u.numbers x
      go (inl k) =
          all_in (λ w. w.index ≡ x → w.how ≡ assign → number_at t.numbers x ≡ w.amount) ws a.assigned k.one k.inside k.index k.how
          ∙ sym (all_in (λ w. w.index ≡ x → w.how ≡ assign → number_at u.numbers x ≡ w.amount) ws b.assigned k.one k.inside k.index k.how)
      go (inr n) = a.rest n ∙ sym (b.rest n)

-- ---- the effects of the points of a happening go together

module _ (g : Grounds) (s : State) where
  -- the effect that writes
  changed : (os : List ℕ) (es : List Effect) (w : Written) → w ∈ written g s os es
      → (r : Ref) × (e : Expr) × (changes w.how r e ∈ es) × (number_of g os r ≡ w.index)
  changed os [] w i = absurd i
  changed os (becomes yes' r ∷ es) w i = let h = changed os es w i in (h.0, h.1, inr h.2, h.3)
  changed os (changes how r e ∷ es) w (inl p) = (r, e, inl (ap (λ (v : Written). changes v.how r e) p), sym (ap (λ (v : Written). v.index) p))
  changed os (changes how r e ∷ es) w (inr i) = let h = changed os es w i in (h.0, h.1, inr h.2, h.3)

  within_point : (os : List ℕ) (es : List Effect) → Pairwise (Additive g os) es → Pairwise Together (written g s os es)
  within_point os [] a = tt
  within_point os (becomes yes' r ∷ es) a = within_point os es a.1
  within_point os (changes how r e ∷ es) a = (
    in_all (written g s os es) (λ v i q.
        let h = changed os es v i in
        let n = all_in (Additive g os (changes how r e)) es a.0 (changes v.how h.0 h.1) h.2 (q ∙ sym h.3) in
        (assigns_not how n.0, assigns_not v.how n.1)),
    within_point os es a.1,
  )

  abbrev written_by : Point → List Written
  written_by p = written g s (objects_of p) (effects_of p)

  changes_by : (p : Point) (w : Written) → w ∈ written_by p → Changes g p w.how w.index
  changes_by p w i =
      let h = changed (objects_of p) (effects_of p) w i in
      record { target = h.0; amount = h.1; effect = h.2; index = h.3 }

  between_points : (p : Point) (ps : List Point) → All (NonInterfering g p) ps → (w : Written) → w ∈ written_by p → All (Together w) (all_written_lem g s ps)
  between_points p [] a w i = tt
  between_points p (q ∷ ps) a w i =
      all_append (Together w) (written_by q) (all_written_lem g s ps)
      (in_all (written_by q) (λ v j e.
      let n = a.0.numbers w.how v.how v.index (subst (Changes g p w.how) e (changes_by p w i)) (changes_by q v j) in
      (assigns_not w.how n.0, assigns_not v.how n.1)))
      (between_points p ps a.1 w i)

  together : (ps : List Point) → All (Consistent g) ps → Pairwise (NonInterfering g) ps → Pairwise Together (all_written_lem g s ps)
  together [] a b = tt
  together (p ∷ ps) a b =
      pairwise_append Together (written_by p) (all_written_lem g s ps) (within_point (objects_of p) (effects_of p) a.0) (together ps a.1 b.1)
      (in_all (written_by p) (between_points p ps b.0))

  module _ (ps : List Point) (a : All (Consistent g) ps) (b : Pairwise (NonInterfering g) ps) where
    abbrev put_by : List ℤ
    put_by = puts s.numbers (all_written_lem g s ps)

    pub new_numbers : (fs : List ℕ) (x : ℕ) → x < length s.numbers → NewNumber s (record { facts = fs; numbers = put_by }) (all_written_lem g s ps) x
    new_numbers fs x h =
        record {
          assigned = puts_assigned x s.numbers (all_written_lem g s ps) h (together ps a b);
          rest = puts_rest x s.numbers (all_written_lem g s ps) h;
        }

    pub only_numbers : (t : State) → length t.numbers ≡ length s.numbers
        → ((x : ℕ) → x < length s.numbers → NewNumber s t (all_written_lem g s ps) x) → t.numbers ≡ put_by
    unfolding number_at
    only_numbers t e n =
        ext_get_or undefined t.numbers put_by (e ∙ sym (length_puts s.numbers (all_written_lem g s ps)))
        (λ x h. let k : x < length s.numbers = omega (arith, h, e) in
        one_number x s t (record { facts = t.facts; numbers = put_by }) (all_written_lem g s ps) (n x k) (new_numbers t.facts x k))
