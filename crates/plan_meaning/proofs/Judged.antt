-- The machine, fed a text that may go on, is halted exactly by the first refusal of what is judged so far. Assumes nothing.
use Prim.Native.Nat.{ℕ, suc, ◌≤◌, ◌<◌}
use mathlib.Core.Bool.{Bool, true, false, cond, ◌||◌, or-true}
use mathlib.Core.List.{List, [], ◌∷◌, ◌++◌, append-nil}
use mathlib.Core.Option.{Option, some, none}
use mathlib.Core.Path.{◌≡◌, refl, sym, ap, ◌∙◌}
use native.Mathlib.Omega.{arith}
use borrow.Author.Tests.{ltb-true, ltb-false, lt-ltb, le-ltb}
use lib.Dec.{ltb, eqb}
use lib.ListN.{length, length-append}
use Rattle.plan_meaning.specs.Plan.{Run, Rules, Step, Point, Limits, Answer, blank, step, refusal, Result, refused, ended, verdict, steps, first_refusal}
use Rattle.plan_meaning.specs.Plan.{unless, result}
use Rattle.plan_meaning.specs.Machine.{Check, waits, halted, fresh, take, takes, finish}
use Rattle.plan_meaning.specs.Text.{Reader, lines, start_after, says, answer, answers, judged, meaning}
use Rattle.plan_meaning.specs.Feed.{Feed, reading, byte, feed, new}
use Rattle.plan_meaning.proofs.Stream.{right}
use Rattle.plan_meaning.proofs.Text.{begun, first, says_short, says_long, Ok, Last, take_last, at_more, answers_rise}

abbrev pub stop_of : {S A W E : Type 0} → Check S A W E → Option E
stop_of (halted e) = some e
stop_of (waits r s q) = none

-- the refusal that a machine has met
abbrev pub stop_in : {S A W E : Type 0} → Feed S A W E → Option E
stop_in (reading m n part) = stop_of m

-- the refusal of a text
abbrev pub refusal_in : {S W E : Type 0} → Result S W E → Option E
refusal_in (refused e) = some e
refusal_in (ended r) = none

module _ {S A W E : Type 0} (R : Rules S A W) (L : Limits A E) (D : Reader A E) (none_said : (n s : ℕ) → D.line n s [] ≡ blank) where
  takes_halted : (e : E) (ls : List (Answer A E)) → takes R L (halted e) ls ≡ halted e
  takes_halted e [] = refl
  takes_halted e (a ∷ ls) = takes_halted e ls

  pub feed_halted : (e : E) (n : ℕ) (part bs : List ℕ) → feed R L D (reading (halted e) n part) bs ≡ reading (halted e) n part
  feed_halted e n part [] = refl
  feed_halted e n part (b ∷ bs) = feed_halted e n part bs

  says_none : (n s : ℕ) → says D n s [] ≡ blank
  says_none n s = says_short R L D n s [] (omega arith) ∙ none_said n s

  -- what is judged of the lines from number n on, the machine standing at a step's start s
  abbrev told : Check S A W E → ℕ → ℕ → List (List ℕ) → Option E
  told m n s ls = stop_of (takes R L m (answers D n s (judged D n ls)))

  module _ (r : Run S W) (s : ℕ) (q : List (Point A)) (n : ℕ) where
    at_end : (part : List ℕ) → Ok R L D n part → none ≡ told (waits r s q) n s (begun part (lines []))
    at_end part k = rw (append-nil, le-ltb D.width (length part) k.short) (go (ltb D.most n) refl)
      where
        go : (c : Bool) → ltb D.most n ≡ c → none ≡ stop_of (takes R L (waits r s q) (answers D n s (cond (ltb D.most n) part [] ∷ [])))
        go false e = rw (e, says_none n s)
        go true e = rw (e, k.empty (ltb-true D.most n e), says_none n s)

    -- a line that is refused as a whole, whatever stands after it
    at_stop : (e : E) (l : List ℕ) (ls : List (List ℕ)) → (ltb D.width (length l) || ltb D.most n) ≡ true
        → ((ms : List (List ℕ)) → answer D n s l ms ≡ refusal e)
        → some e ≡ told (waits r s q) n s (l ∷ ls)
    at_stop e l [] h f = rw (h, f [])
    at_stop e l (m ∷ ls) h f = rw (f (judged D (suc n) (m ∷ ls))) (sym (ap stop_of (takes_halted e (answers D (suc n) s (judged D (suc n) (m ∷ ls))))))

    at_beyond : (b : ℕ) (bs : List ℕ) → D.most < n → some (D.beyond n) ≡ told (waits r s q) n s (begun [] (lines (b ∷ bs)))
    at_beyond b bs h = go (eqb b 10) refl (first bs)
      where
        most : ltb D.most n ≡ true
        most = lt-ltb D.most n h

        wide : (l : List ℕ) → (ltb D.width (length l) || ltb D.most n) ≡ true
        wide l = rw most (or-true (ltb D.width (length l)))

        lf : (l : List ℕ) (ls : List (List ℕ)) → some (D.beyond n) ≡ told (waits r s q) n s ([] ∷ l ∷ ls)
        lf l [] = rw most (sym (ap stop_of (takes_halted (D.beyond n) (answers D (suc n) s (judged D (suc n) (l ∷ []))))))
        lf l (m ∷ ls) = rw most (sym (ap stop_of (takes_halted (D.beyond n) (answers D (suc n) s (judged D (suc n) (l ∷ m ∷ ls))))))

        go : (c : Bool) → eqb b 10 ≡ c → (l : List ℕ) × (ls : List (List ℕ)) × (lines bs ≡ l ∷ ls)
            → some (D.beyond n) ≡ told (waits r s q) n s (begun [] (lines (b ∷ bs)))
        go true e f = rw (e, f.2) (lf f.0 f.1)
        go false e f = rw (e, f.2) (at_stop (D.beyond n) (b ∷ f.0) f.1 (wide (b ∷ f.0)) (λ ms. rw most))

    at_lf : (part : List ℕ) (b : ℕ) (bs : List ℕ) → n ≤ D.most → eqb b 10 ≡ true → length part ≤ D.width
        → told (take R L (waits r s q) (D.line n s part)) (suc n) (start_after s (D.line n s part)) (begun [] (lines bs)) ≡ told (waits r s q) n s
        (begun part (lines (b ∷ bs)))
    at_lf part b bs h e k = rw (e, (first bs).2, append-nil, le-ltb D.most n h, says_short R L D n s part k)

    at_full : (part : List ℕ) (b : ℕ) (bs : List ℕ) → n ≤ D.most → eqb b 10 ≡ false → length part ≡ D.width
        → some (D.long n s (part ++ b ∷ [])) ≡ told (waits r s q) n s (begun part (lines (b ∷ bs)))
    at_full part b bs h e k =
        rw (e, (first bs).2)
        (at_stop (D.long n s (part ++ b ∷ [])) (part ++ b ∷ (first bs).0) (first bs).1
        (rw (lt-ltb D.width (length (part ++ b ∷ (first bs).0)) (omega (arith, length-append part (b ∷ (first bs).0)))))
        (λ ms. rw (le-ltb D.most n h, says_long R L D n s part (first bs).0 b k)))

  so_far : (bs : List ℕ) (m : Check S A W E) (s n : ℕ) (part : List ℕ) → Ok R L D n part → Last R L D m s
      → stop_in (feed R L D (reading m n part) bs) ≡ told m n s (begun part (lines bs))
  so_far [] (halted e) s n part k u = sym (ap stop_of (takes_halted e (answers D n s (judged D n (begun part (lines []))))))
  so_far [] (waits r s q) s' n part k u = rw (← u) (at_end r s q n part k)
  so_far (b ∷ bs) (halted e) s n part k u =
      ap stop_in (feed_halted e n part bs) ∙ sym (ap stop_of (takes_halted e (answers D n s (judged D n (begun part (lines (b ∷ bs)))))))
  so_far (b ∷ bs) (waits r s q) s' n part k u =
      rw (← u) (go (ltb D.most n) (eqb b 10) (ltb (length part) D.width) refl refl refl (so_far bs))
    where
      go : (c d f : Bool) → ltb D.most n ≡ c → eqb b 10 ≡ d → ltb (length part) D.width ≡ f
          → ((m : Check S A W E) (s n : ℕ) (part : List ℕ) → Ok R L D n part → Last R L D m s
          → stop_in (feed R L D (reading m n part) bs) ≡ told m n s (begun part (lines bs)))
          → stop_in (feed R L D (byte R L D (reading (waits r s q) n part) b) bs) ≡ told (waits r s q) n s (begun part (lines (b ∷ bs)))
      go true d f e₁ e₂ e₃ ih =
          let l : D.most < n = ltb-true D.most n e₁ in
          rw (k.empty l, ← at_beyond r s q n b bs l, e₁) (ap stop_in (feed_halted (D.beyond n) n [] bs))
      go false true f e₁ e₂ e₃ ih =
          rw (← at_lf r s q n part b bs (ltb-false D.most n e₁) e₂ k.short, e₁, e₂)
          (ih (take R L (waits r s q) (D.line n s part)) (start_after s (D.line n s part)) (suc n) [] (record { short = omega arith; empty = λ h. refl })
          (take_last R L D r s q (D.line n s part)))
      go false false true e₁ e₂ e₃ ih =
          let l : length part < D.width = ltb-true (length part) D.width e₃ in
          rw (at_more R L D r s q n part b bs e₂, e₁, e₂, e₃)
          (ih (waits r s q) s n (part ++ b ∷ []) (record {
            short = omega (arith, length-append part (b ∷ []));
            empty = λ h. absurd (let z : n ≤ D.most = ltb-false D.most n e₁ in omega arith);
          }) refl)
      go false false false e₁ e₂ e₃ ih =
          let l : D.width ≤ length part = ltb-false (length part) D.width e₃ in
          let l' : length part ≤ D.width = k.short in
          rw (← at_full r s q n part b bs (ltb-false D.most n e₁) e₂ (omega arith), e₁, e₂, e₃)
          (ap stop_in (feed_halted (D.long n s (part ++ b ∷ [])) n part bs))

  stop_finish : (m : Check S A W E) → stop_of m ≡ refusal_in (finish R L m)
  stop_finish (halted e) = refl
  stop_finish (waits r s q) = refl

  result_refusal : (ls : List (Answer A E)) → refusal_in (result R L ls) ≡ first_refusal L [] ls
  unfolding result
  result_refusal ls = go (first_refusal L [] ls)
    where
      go : (o : Option E) → refusal_in (unless o (verdict R (steps ls))) ≡ o
      go none = refl
      go (some e) = refl

  pub meaning_refusal : (text : List ℕ) → refusal_in (meaning R L D text) ≡ first_refusal L [] (answers D 1 0 (lines text))
  unfolding meaning
  meaning_refusal text = result_refusal (answers D 1 0 (lines text))

  -- a text that is not refused comes to the verdict on its steps
  pub meaning_ended : (text : List ℕ) (r : Run S W) → meaning R L D text ≡ ended r → verdict R (steps (answers D 1 0 (lines text))) ≡ r
  unfolding meaning result
  meaning_ended text r = go (first_refusal L [] (answers D 1 0 (lines text)))
    where
      go : (o : Option E) → unless o (verdict R (steps (answers D 1 0 (lines text)))) ≡ ended r → verdict R (steps (answers D 1 0 (lines text))) ≡ r
      go none e = cc
      go (some x) e = absurd (let z : ◌≡◌ {A = ℕ} 0 1 = cc in let y : ⊥ = omega arith in y)

  -- the refusal that a text's bytes so far decide is the one that the machine has met
  pub decided : ((n s : ℕ) (l : List ℕ) (x : Step A) → D.line n s l ≡ step x → s ≤ x.start) → (text : List ℕ)
      → stop_in (feed R L D (new R L D) text) ≡ first_refusal L [] (answers D 1 0 (judged D 1 (lines text)))
  decided rises text =
      so_far text (fresh R L) 0 1 [] (record { short = omega arith; empty = λ h. refl }) refl
      ∙ rw (first text).2
      (stop_finish (takes R L (fresh R L) said)
      ∙ ap refusal_in (right R L said (answers_rise R L D rises (judged D 1 ((first text).0 ∷ (first text).1)) 1 0))
      ∙ result_refusal said)
    where
      said : List (Answer A E)
      said = answers D 1 0 (judged D 1 ((first text).0 ∷ (first text).1))
