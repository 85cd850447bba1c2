-- A session: however the plan is cut, the check after finish is the one that the plan's meaning as a whole gives. Assumes nothing.
use Prim.Native.Nat.{ℕ}
use mathlib.Core.Bool.{Bool, true, false}
use mathlib.Core.List.{List, [], ◌∷◌}
use mathlib.Core.Path.{◌≡◌, refl, sym, ap, subst, ◌∙◌}
use lib.ListN.{length}
use Rattle.happening_meaning.specs.State.{State}
use Rattle.happening_meaning.specs.Happening.{promises}
use Rattle.happening_forms.specs.Summed.{summed}
use Rattle.happening_meaning.specs.declared.Outcome as Why
use Rattle.plan_meaning.specs.Plan.{Point, Run, Rules, Result, refused, ended}
use Rattle.plan_meaning.specs.Machine.{waits, halted}
use Rattle.plan_meaning.specs.Feed.{Feed, reading, feed, feeds, close}
use Rattle.plan_meaning.specs.Text.{Reader}
use Rattle.plan_meaning.specs.Promised.{Act}
use Rattle.plan_meaning.specs.Lines.{Refused, reader, limits}
use Rattle.plan_meaning.proofs.Bounds.{TextRefusal}
use Rattle.plan_bytes.proofs.Machine.{feed_halted}
use Rattle.domain_load.specs.Decode.{decode}
use Rattle.check_calls.specs.Calls as C
use Rattle.check_calls.specs.Calls.{formed, well_formed, any_state, rules_on, known_on, held_by, refused_check, stored, feed_of, finish_of}
use Rattle.check_calls.specs.declared.Check.{Check}
use Rattle.check_demand_laws.proofs.Sessions.{feeds_of}
use Rattle.check_demand_laws.proofs.Naming.{named}
use Rattle.check_demand_laws.proofs.Keeping.{Kept, Line, KeptFeed, KeptResult, feed_kept, feeds_kept, close_kept}
use Rattle.check_demand_laws.proofs.Storing.{held_back, stored_formed, held_kept, acting_known, fresh_formed, refused_answers}

-- a check that can be fed
pub record Open (c : Check) : Type 0 where
  pub formed : well_formed c ≡ true
  pub unfinished : c.finished ≡ false
  pub unrefused : c.progress.refused ≡ false

abbrev pub fed_by : Check → List ℕ → Feed State Act Why.Outcome Refused
fed_by c p = feed (rules_on c) limits (reader (known_on c)) (held_by c) p

abbrev pub closed_by : Check → Feed State Act Why.Outcome Refused → Check
closed_by c m = C.ended c (close (rules_on c) limits (reader (known_on c)) m)

pub feed_open : (c : Check) (p : List ℕ) → Open c → (feed_of c p).check ≡ stored c (fed_by c p)
unfolding feed_of
feed_open c p o = rw (o.formed, o.unfinished, o.unrefused)

pub finish_open : (c : Check) → Open c → (finish_of c).check ≡ closed_by c (held_by c)
unfolding finish_of
finish_open c o = rw (o.formed, o.unfinished, o.unrefused)

open_kept : (c : Check) → Open c → KeptFeed (length (known_on c).actions) (held_by c)
open_kept c o = subst (λ (n : ℕ). KeptFeed n (held_by c)) (sym (acting_known c)) (held_kept c o.formed o.unrefused)

pub fed_kept : (c : Check) (p : List ℕ) → Open c → KeptFeed c.model.acting (fed_by c p)
unfolding rules_on
fed_kept c p o =
    let goal = (decode c.model).goal in
    subst (λ (n : ℕ). KeptFeed n (fed_by c p)) (acting_known c)
    (feed_kept (promises summed goal) (named summed goal) (decode c.model).actions any_state (known_on c) p (held_by c) (open_kept c o))

-- what comes of more parts and the end is listed
pub closed_kept : (c : Check) (ps : List (List ℕ)) → Open c
    → KeptResult (close (rules_on c) limits (reader (known_on c)) (feeds (rules_on c) limits (reader (known_on c)) (held_by c) ps))
unfolding rules_on
closed_kept c ps o =
    let goal = (decode c.model).goal in
    let P = promises summed goal in
    close_kept P (named summed goal) (decode c.model).actions any_state (known_on c) (feeds (rules_on c) limits (reader (known_on c)) (held_by c) ps)
    (feeds_kept P (named summed goal) (decode c.model).actions any_state (known_on c) ps (held_by c) (open_kept c o))

-- ---- a check whose plan is refused

module _ (R : Rules State Act Why.Outcome) (D : Reader Act Refused) where
  feeds_halted : (ps : List (List ℕ)) (e : Refused) (n : ℕ) (part : List ℕ) → feeds R limits D (reading (halted e) n part) ps ≡ reading (halted e) n part
  feeds_halted [] e n part = refl
  feeds_halted (p ∷ ps) e n part = ap (λ m. feeds R limits D m ps) (feed_halted R limits D e n part p) ∙ feeds_halted ps e n part

module _ (c : Check) (e : Refused) (f : well_formed (refused_check c e false) ≡ true) where
  pub refused_feed : (p : List ℕ) → (feed_of (refused_check c e false) p).check ≡ refused_check c e false
  unfolding feed_of
  refused_feed p = rw f

  refused_feeds : (ps : List (List ℕ)) → feeds_of (refused_check c e false) ps ≡ refused_check c e false
  unfolding feeds_of
  refused_feeds [] = refl
  refused_feeds (p ∷ ps) = ap (λ x. feeds_of x ps) (refused_feed p) ∙ refused_feeds ps

  refused_finish : (finish_of (refused_check c e false)).check ≡ refused_check c e true
  unfolding finish_of
  refused_finish = rw f

-- ---- the parts one after the other

module _ (c : Check) where
  -- a refused plan leaves a check that is well formed
  pub refused_formed : (e : Refused) (done : Bool) → well_formed c ≡ true → TextRefusal e → well_formed (refused_check c e done) ≡ true
  refused_formed e done f h = fresh_formed c f (refused_check c e done).progress refl refl refl (refused_answers (refused_check c e done).progress h refl)

  abbrev Rc : Rules State Act Why.Outcome
  Rc = rules_on c

  abbrev Dc : Reader Act Refused
  Dc = reader (known_on c)

  -- what comes of a check whose machine stands at m, once it is fed more and finished
  halted_end : (ps : List (List ℕ)) (e : Refused) (n : ℕ) (part : List ℕ) → well_formed c ≡ true → TextRefusal e
      → (finish_of (feeds_of (stored c (reading (halted e) n part)) ps)).check ≡ closed_by c (feeds Rc limits Dc (reading (halted e) n part) ps)
  unfolding stored C.ended
  halted_end ps e n part f h =
      ap (λ x. (finish_of x).check) (refused_feeds c e (refused_formed e false f h) ps)
      ∙ refused_finish c e (refused_formed e false f h)
      ∙ ap (λ m. closed_by c m) (sym (feeds_halted Rc Dc ps e n part))

  pub stored_open : (r : Run State Why.Outcome) (s : ℕ) (q : List (Point Act)) (k : ℕ) (part : List ℕ) → well_formed c ≡ true
      → Kept c.model.acting r s q → Line k part
      → Open (stored c (reading (waits r s q) k part))
  unfolding stored
  stored_open r s q k part f h l = record { formed = stored_formed c r s q k part f h l; unfinished = refl; unrefused = refl }

  -- rules, names and the end hang on the model alone
  pub rules_kept : (r : Run State Why.Outcome) (s : ℕ) (q : List (Point Act)) (k : ℕ) (part : List ℕ)
      → rules_on (stored c (reading (waits r s q) k part)) ≡ rules_on c
  unfolding stored rules_on
  rules_kept r s q k part = refl

  pub known_kept : (r : Run State Why.Outcome) (s : ℕ) (q : List (Point Act)) (k : ℕ) (part : List ℕ)
      → known_on (stored c (reading (waits r s q) k part)) ≡ known_on c
  unfolding stored known_on
  known_kept r s q k part = refl

  same_end : (r : Run State Why.Outcome) (s : ℕ) (q : List (Point Act)) (k : ℕ) (part : List ℕ) (m : Feed State Act Why.Outcome Refused)
      → closed_by (stored c (reading (waits r s q) k part)) m ≡ closed_by c m
  unfolding stored rules_on known_on C.ended
  same_end r s q k part m = ended_same (close Rc limits Dc m)
    where
      ended_same : (x : Result State Why.Outcome Refused) → C.ended (stored c (reading (waits r s q) k part)) x ≡ C.ended c x
      ended_same (refused e) = refl
      ended_same (ended r') = refl

module _ (c : Check) (r : Run State Why.Outcome) (s : ℕ) (q : List (Point Act)) (k : ℕ) (part : List ℕ) (ps : List (List ℕ)) where
  abbrev kept : Check
  kept = stored c (reading (waits r s q) k part)

  -- the stored check goes on where the machine stood
  again : (n : ℕ) → Kept n r s q → Line k part
      → closed_by kept (feeds (rules_on kept) limits (reader (known_on kept)) (held_by kept) ps) ≡ closed_by c
      (feeds (rules_on c) limits (reader (known_on c)) (reading (waits r s q) k part) ps)
  again n h l =
      same_end c r s q k part (feeds (rules_on kept) limits (reader (known_on kept)) (held_by kept) ps)
      ∙ ap (λ m. closed_by c m) (going_on n h l)
    where
      same_rules : feeds (rules_on kept) limits (reader (known_on kept)) (reading (waits r s q) k part) ps ≡ feeds (rules_on c) limits
          (reader (known_on c)) (reading (waits r s q) k part) ps
      same_rules = λ i. feeds (rules_kept c r s q k part i) limits (reader (known_kept c r s q k part i)) (reading (waits r s q) k part) ps

      going_on : (n : ℕ) → Kept n r s q → Line k part
          → feeds (rules_on kept) limits (reader (known_on kept)) (held_by kept) ps ≡ feeds (rules_on c) limits (reader (known_on c))
          (reading (waits r s q) k part) ps
      going_on n h l = ap (λ m. feeds (rules_on kept) limits (reader (known_on kept)) m ps) (held_back c r s q k part n h l) ∙ same_rules

-- however the plan is cut, the check after finish is what closing the machine gives
pub session : (ps : List (List ℕ)) (c : Check) → Open c → (finish_of (feeds_of c ps)).check ≡ closed_by c
    (feeds (rules_on c) limits (reader (known_on c)) (held_by c) ps)
unfolding feeds_of
session [] c o = finish_open c o
session (p ∷ ps) c o = ap (λ x. (finish_of (feeds_of x ps)).check) (feed_open c p o) ∙ by (fed_by c p) (fed_kept c p o) (λ d. session ps d)
  where
    by : (m : Feed State Act Why.Outcome Refused) → KeptFeed c.model.acting m
        → ((d : Check) → Open d → (finish_of (feeds_of d ps)).check ≡ closed_by d (feeds (rules_on d) limits (reader (known_on d)) (held_by d) ps))
        → (finish_of (feeds_of (stored c m) ps)).check ≡ closed_by c (feeds (rules_on c) limits (reader (known_on c)) m ps)
    by (reading (halted e) n part) h ih = halted_end c ps e n part o.formed h.0
    by (reading (waits r s q) n part) h ih =
        ih (stored c (reading (waits r s q) n part)) (stored_open c r s q n part o.formed h.0 h.1)
        ∙ again c r s q n part ps c.model.acting h.0 h.1
