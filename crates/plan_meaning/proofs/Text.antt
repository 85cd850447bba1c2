-- The machine, fed a text in parts and finished, gives what the definition says of the whole text. Assumes nothing.
use Prim.Native.Nat.{ℕ, suc, ◌≤◌, ◌<◌}
use mathlib.Core.Bool.{Bool, true, false, cond, ◌&&◌}
use mathlib.Core.List.{List, [], ◌∷◌, ◌++◌, append-nil}
use mathlib.Core.Path.{◌≡◌, refl, sym, ◌∙◌}
use native.Mathlib.Omega.{arith}
use borrow.Author.Tests.{ltb-true, ltb-false, lt-ltb, le-ltb}
use lib.Dec.{ltb, eqb}
use lib.ListN.{take as firsts}
use lib.ListN.{length, length-append}
use lib.Seq.{append_snoc, take_at}
use Rattle.plan_meaning.specs.Plan.{Run, Rules, Step, Point, points_of, Limits, Answer, blank, step, refusal, Result, refused}
use Rattle.plan_meaning.specs.Machine.{Check, waits, halted, drain, fresh, take, takes, finish}
use Rattle.plan_meaning.specs.Text.{Reader, lines, some_byte, start_after, says, answer, answers, meaning}
use Rattle.plan_meaning.specs.Feed.{Feed, reading, byte, feed, feeds, new, close, joined}
use Rattle.plan_meaning.proofs.Stream.{Rises, right, halts}

-- the lines of a text whose first line has begun
abbrev pub begun : List ℕ → List (List ℕ) → List (List ℕ)
begun part [] = part ∷ []
begun part (l ∷ ls) = (part ++ l) ∷ ls

-- a text has a first line
pub first : (bs : List ℕ) → (l : List ℕ) × (ls : List (List ℕ)) × (lines bs ≡ l ∷ ls)
first [] = ([], [], refl)
first (b ∷ bs) = go (eqb b 10) refl (first bs)
  where
    go : (c : Bool) → eqb b 10 ≡ c → (l : List ℕ) × (ls : List (List ℕ)) × (lines bs ≡ l ∷ ls) → (l : List ℕ) × (ls : List (List ℕ)) × (lines (b ∷ bs) ≡ l ∷ ls)
    go true e f = ([], lines bs, rw e)
    go false e f = (b ∷ f.0, f.1, rw (e, f.2))

never : {A E : Type 0} (e : E) (x : Step A) → ◌≡◌ {A = Answer A E} (refusal e) (step x) → ⊥
never e x p = let z : ◌≡◌ {A = ℕ} 0 1 = cc in omega arith

module _ {S A W E : Type 0} (R : Rules S A W) (L : Limits A E) (D : Reader A E) where
  stuck : (e : E) (n : ℕ) (part bs : List ℕ) → close R L D (feed R L D (reading (halted e) n part) bs) ≡ refused e
  stuck e n part [] = refl
  stuck e n part (b ∷ bs) = stuck e n part bs

  pub says_short : (n s : ℕ) (l : List ℕ) → length l ≤ D.width → says D n s l ≡ D.line n s l
  says_short n s l h = rw (le-ltb D.width (length l) h)

  pub says_long : (n s : ℕ) (part l : List ℕ) (b : ℕ) → length part ≡ D.width → says D n s (part ++ b ∷ l) ≡ refusal (D.long n s (part ++ b ∷ []))
  says_long n s part l b h =
      rw (
        lt-ltb D.width (length (part ++ b ∷ l)) (omega (arith, length-append part (b ∷ l))),
        ← append_snoc part b l,
        take_at (part ++ b ∷ []) l (suc D.width) (omega (arith, length-append part (b ∷ []))),
      )

  -- the line so far is no longer than the limit, and empty past the last line
  pub record Ok (n : ℕ) (part : List ℕ) : Type 0 where
    pub short : length part ≤ D.width
    pub empty : D.most < n → part ≡ []

  -- what is left of the definition at each kind of byte
  module _ (r : Run S W) (s : ℕ) (q : List (Point A)) (n : ℕ) where
    after_lines : List (List ℕ) → Result S W E
    after_lines ls = finish R L (takes R L (waits r s q) (answers D n s ls))

    at_end : (part : List ℕ) → Ok n part → after_lines (begun part (lines [])) ≡ finish R L (take R L (waits r s q) (D.line n s part))
    unfolding after_lines
    at_end part k = rw append-nil (go (ltb D.most n) refl)
      where
        go : (c : Bool) → ltb D.most n ≡ c
            → finish R L (take R L (waits r s q) (cond (ltb D.most n && some_byte part []) (refusal (D.beyond n)) (says D n s part)))
            ≡ finish R L (take R L (waits r s q) (D.line n s part))
        go false e = rw (e, says_short n s part k.short)
        go true e = rw (e, k.empty (ltb-true D.most n e), says_short n s [] (omega arith))

    at_beyond : (b : ℕ) (bs : List ℕ) → D.most < n → after_lines (begun [] (lines (b ∷ bs))) ≡ refused (D.beyond n)
    unfolding after_lines
    at_beyond b bs h = go (eqb b 10) refl (first bs)
      where
        go : (c : Bool) → eqb b 10 ≡ c → (l : List ℕ) × (ls : List (List ℕ)) × (lines bs ≡ l ∷ ls)
            → finish R L (takes R L (waits r s q) (answers D n s (begun [] (lines (b ∷ bs))))) ≡ refused (D.beyond n)
        go true e f = rw (e, f.2, lt-ltb D.most n h) (halts R L (D.beyond n) (answers D (suc n) s (f.0 ∷ f.1)))
        go false e f = rw (e, f.2, lt-ltb D.most n h) (halts R L (D.beyond n) (answers D (suc n) s f.1))

    at_lf : (part : List ℕ) (b : ℕ) (bs : List ℕ) → n ≤ D.most → eqb b 10 ≡ true → length part ≤ D.width
        → after_lines (begun part (lines (b ∷ bs))) ≡ finish R L
        (takes R L (take R L (waits r s q) (D.line n s part)) (answers D (suc n) (start_after s (D.line n s part)) (begun [] (lines bs))))
    unfolding after_lines
    at_lf part b bs h e k = rw (e, (first bs).2, append-nil, le-ltb D.most n h, says_short n s part k)

    pub at_more : (part : List ℕ) (b : ℕ) (bs : List ℕ) → eqb b 10 ≡ false → begun part (lines (b ∷ bs)) ≡ begun (part ++ b ∷ []) (lines bs)
    at_more part b bs e = rw (e, (first bs).2, append_snoc)

    at_full : (part : List ℕ) (b : ℕ) (bs : List ℕ) → n ≤ D.most → eqb b 10 ≡ false → length part ≡ D.width
        → after_lines (begun part (lines (b ∷ bs))) ≡ refused (D.long n s (part ++ b ∷ []))
    unfolding after_lines
    at_full part b bs h e k =
        rw (e, (first bs).2, le-ltb D.most n h, says_long n s part (first bs).0 b k)
        (halts R L (D.long n s (part ++ b ∷ [])) (answers D (suc n) s (first bs).1))

  -- s is the start of the last step that the check has read
  abbrev pub Last : Check S A W E → ℕ → Type 0
  Last (halted e) s = Unit
  Last (waits r u q) s = u ≡ s

  pub take_last : (r : Run S W) (s : ℕ) (q : List (Point A)) (a : Answer A E) → Last (take R L (waits r s q) a) (start_after s a)
  take_last r s q blank = refl
  take_last r s q (refusal e) = tt
  take_last r s q (step x) = go (ltb L.waiting (length ((drain R (length q) x.start r q).1 ++ points_of x))) refl
    where
      go : (c : Bool) → ltb L.waiting (length ((drain R (length q) x.start r q).1 ++ points_of x)) ≡ c → Last (take R L (waits r s q) (step x)) x.start
      go true e = rw e tt
      go false e = rw e refl

  reads : (bs : List ℕ) (m : Check S A W E) (s n : ℕ) (part : List ℕ) → Ok n part → Last m s
      → close R L D (feed R L D (reading m n part) bs) ≡ finish R L (takes R L m (answers D n s (begun part (lines bs))))
  unfolding after_lines
  reads [] (halted e) s n part k u = sym (halts R L e (answers D n s (begun part (lines []))))
  reads [] (waits r s q) s' n part k u = rw (← u) (sym (at_end r s q n part k))
  reads (b ∷ bs) (halted e) s n part k u = stuck e n part bs ∙ sym (halts R L e (answers D n s (begun part (lines (b ∷ bs)))))
  reads (b ∷ bs) (waits r s q) s' n part k u =
      rw (← u) (go (ltb D.most n) (eqb b 10) (ltb (length part) D.width) refl refl refl (reads bs))
    where
      go : (c d f : Bool) → ltb D.most n ≡ c → eqb b 10 ≡ d → ltb (length part) D.width ≡ f
          → ((m : Check S A W E) (s n : ℕ) (part : List ℕ) → Ok n part → Last m s
          → close R L D (feed R L D (reading m n part) bs) ≡ finish R L (takes R L m (answers D n s (begun part (lines bs)))))
          → close R L D (feed R L D (byte R L D (reading (waits r s q) n part) b) bs) ≡ after_lines r s q n (begun part (lines (b ∷ bs)))
      go true d f e₁ e₂ e₃ ih =
          let l : D.most < n = ltb-true D.most n e₁ in
          rw (k.empty l, at_beyond r s q n b bs l, e₁) (stuck (D.beyond n) n [] bs)
      go false true f e₁ e₂ e₃ ih =
          rw (at_lf r s q n part b bs (ltb-false D.most n e₁) e₂ k.short, e₁, e₂)
          (ih (take R L (waits r s q) (D.line n s part)) (start_after s (D.line n s part)) (suc n) []
          (record { short = omega arith; empty = λ h. refl }) (take_last r s q (D.line n s part)))
      go false false true e₁ e₂ e₃ ih =
          let l : length part < D.width = ltb-true (length part) D.width e₃ in
          rw (at_more r s q n part b bs e₂, e₁, e₂, e₃)
          (ih (waits r s q) s n (part ++ b ∷ []) (record {
            short = omega (arith, length-append part (b ∷ []));
            empty = λ h. absurd (let z : n ≤ D.most = ltb-false D.most n e₁ in omega arith);
          }) refl)
      go false false false e₁ e₂ e₃ ih =
          let l : D.width ≤ length part = ltb-false (length part) D.width e₃ in
          let l' : length part ≤ D.width = k.short in
          rw (at_full r s q n part b bs (ltb-false D.most n e₁) e₂ (omega arith), e₁, e₂, e₃) (stuck (D.long n s (part ++ b ∷ [])) n part bs)

  -- a text may be cut into parts anywhere
  pub feed_append : (m : Feed S A W E) (p q : List ℕ) → feed R L D m (p ++ q) ≡ feed R L D (feed R L D m p) q
  feed_append m [] q = refl
  feed_append m (b ∷ p) q = feed_append (byte R L D m b) p q

  pub feeds_joined : (m : Feed S A W E) (ps : List (List ℕ)) → feeds R L D m ps ≡ feed R L D m (joined ps)
  feeds_joined m [] = refl
  feeds_joined m (p ∷ ps) = feeds_joined (feed R L D m p) ps ∙ sym (feed_append m p (joined ps))

  module _ (promise : (n s : ℕ) (l : List ℕ) (x : Step A) → D.line n s l ≡ step x → s ≤ x.start) where
    -- no step that is read starts before the one before it
    answer_rises : (n s : ℕ) (l : List ℕ) (ls : List (List ℕ)) (x : Step A) → answer D n s l ls ≡ step x → s ≤ x.start
    answer_rises n s l ls x e = go (ltb D.most n && some_byte l ls) (ltb D.width (length l)) refl refl
      where
        go : (c d : Bool) → (ltb D.most n && some_byte l ls) ≡ c → ltb D.width (length l) ≡ d → s ≤ x.start
        go true d p q = let z : refusal (D.beyond n) ≡ step x = rw p at e in absurd (never (D.beyond n) x z)
        go false true p q = let z : refusal (D.long n s (firsts (suc D.width) l)) ≡ step x =
            rw (p, q) at e in absurd (never (D.long n s (firsts (suc D.width) l)) x z)
        go false false p q = let z : D.line n s l ≡ step x = rw (p, q) at e in promise n s l x z

    pub answers_rise : (ls : List (List ℕ)) (n s : ℕ) → Rises s (answers D n s ls)
    answers_rise [] n s = tt
    answers_rise (l ∷ ls) n s = go (answer D n s l ls) (answer_rises n s l ls) (answers_rise ls (suc n))
      where
        go : (a : Answer A E) → ((x : Step A) → a ≡ step x → s ≤ x.start) → ((u : ℕ) → Rises u (answers D (suc n) u ls))
            → Rises s (a ∷ answers D (suc n) (start_after s a) ls)
        go blank f ih = ih s
        go (refusal e) f ih = tt
        go (step x) f ih = (f x refl, ih x.start)

    -- THE THEOREM: the machine, fed the parts of a text and finished, gives what the whole text means
    pub fed : (ps : List (List ℕ)) → close R L D (feeds R L D (new R L D) ps) ≡ meaning R L D (joined ps)
    unfolding meaning
    fed ps =
        rw (feeds_joined (new R L D) ps)
        (reads (joined ps) (fresh R L) 0 1 [] (record { short = omega arith; empty = λ h. refl }) refl
        ∙ rw (first (joined ps)).2 (right R L (answers D 1 0 ((first (joined ps)).0 ∷ (first (joined ps)).1))
        (answers_rise ((first (joined ps)).0 ∷ (first (joined ps)).1) 1 0)))
