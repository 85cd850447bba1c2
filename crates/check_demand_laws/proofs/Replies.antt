-- What feeding a plan's parts answers, and finishing: the call whose bytes decide a refusal is the first to answer it, and each later one gives it again.
-- Assumes nothing.
use Prim.Native.Nat.{ℕ}
use mathlib.Core.Bool.{Bool, true, false, cond}
use mathlib.Core.List.{List, [], ◌∷◌, ◌++◌}
use mathlib.Core.Option.{some}
use mathlib.Core.Path.{◌≡◌, refl, sym, ap, ◌∙◌}
use Rattle.domain_meaning.specs.Read.{got}
use Rattle.domain_meaning.specs.Domain.{Domain, read_domain}
use Rattle.domain_meaning.specs.Problem.{Problem, read_problem}
use Rattle.happening_meaning.specs.State.{State}
use Rattle.happening_meaning.specs.Happening.{promises}
use Rattle.happening_meaning.specs.declared.Outcome as Why
use Rattle.plan_meaning.specs.Plan.{Rules, Result, refused, ended}
use Rattle.plan_meaning.specs.Machine.{waits, halted}
use Rattle.plan_meaning.specs.Feed.{Feed, reading, feed, new, joined}
use Rattle.plan_meaning.specs.Text.{Reader}
use Rattle.plan_meaning.specs.Promised.{Act, rules_of}
use Rattle.plan_meaning.specs.Lines.{Refused, reader, limits}
use Rattle.plan_meaning.proofs.Text.{feed_append}
use Rattle.plan_meaning.proofs.Judged.{stop_in, refusal_in, meaning_refusal}
use Rattle.plan_meaning.proofs.Bounds.{empty_line_lem}
use Rattle.plan_meaning.proofs.Rising.{judged_so_far}
use Rattle.plan_bytes.proofs.Machine.{feed_halted}
use Rattle.check_meaning.specs.Answer.{grounds_of, first_state, rules_for, known_for}
use Rattle.check_calls.specs.Calls as C
use Rattle.check_calls.specs.Calls.{well_formed, any_state, rules_on, known_on, held_by, refused_check, stored, standing, feed_of, finish_of, open_of}
use Rattle.check_calls.specs.declared.Check.{Check}
use Rattle.check_calls.specs.declared.Answer.{Answer}
use Rattle.check_calls.specs.declared.LoadReply.{LoadReply}
use Rattle.check_calls.specs.declared.Reply.{Reply}
use Rattle.check_demand_laws.specs.Calling.{replies}
use Rattle.check_demand_laws.specs.Ruling.{reply}
use Rattle.check_demand_laws.specs.Told.{refusal_of, refusal_so_far, replies_to}
use Rattle.check_demand_laws.proofs.Sessions.{feeds_of}
use Rattle.check_demand_laws.specs.Ours.{ours}
use Rattle.check_demand_laws.proofs.Begun.{feed_same}
use Rattle.check_demand_laws.proofs.Keeping.{KeptFeed}
use Rattle.check_demand_laws.proofs.Storing.{held_back}
use Rattle.check_demand_laws.proofs.Session.{Open, fed_by, feed_open, fed_kept, refused_formed, refused_feed, stored_open, rules_kept, known_kept}
use Rattle.check_demand_laws.proofs.Loaded as L
use Rattle.check_demand_laws.proofs.Whole.{means, opened, ended_session}
use Rattle.check_demand_laws.proofs.Kept.{feed_keeps}

-- what a machine answers to parts one after the other
module _ (R : Rules State Act Why.Outcome) (D : Reader Act Refused) where
  abbrev answers_to : Feed State Act Why.Outcome Refused → List (List ℕ) → List Answer
  answers_to m [] = []
  answers_to m (p ∷ ps) = reply (stop_in (feed R limits D m p)) ∷ answers_to (feed R limits D m p) ps

-- ---- a check answers as its machine does

standing_stored : (c : Check) (m : Feed State Act Why.Outcome Refused) → standing (stored c m).progress ≡ reply (stop_in m)
unfolding stored
standing_stored c (reading (halted e) n part) = refl
standing_stored c (reading (waits r s q) n part) = refl

feed_whole : (c : Check) (p : List ℕ) → Open c → feed_of c p ≡ C.answering (stored c (fed_by c p))
unfolding feed_of
feed_whole c p o = rw (o.formed, o.unfinished, o.unrefused)

feed_answer : (c : Check) (p : List ℕ) → Open c → (feed_of c p).answer ≡ reply (stop_in (fed_by c p))
feed_answer c p o = ap (λ (x : Reply). x.answer) (feed_whole c p o) ∙ standing_stored c (fed_by c p)

module _ (c : Check) (e : Refused) (f : well_formed (refused_check c e false) ≡ true) where
  refused_answer : (p : List ℕ) → (feed_of (refused_check c e false) p).answer ≡ reply (some e)
  unfolding feed_of
  refused_answer p = rw f

  refused_replies : (R : Rules State Act Why.Outcome) (D : Reader Act Refused) (n : ℕ) (part : List ℕ) (ps : List (List ℕ))
      → replies ours (refused_check c e false) ps ≡ answers_to R D (reading (halted e) n part) ps
  refused_replies R D n part [] = refl
  refused_replies R D n part (p ∷ ps) =
      rw (feed_halted R limits D e n part p, refused_answer p, refused_feed c e f p)
      (ap (λ rs. reply (some e) ∷ rs) (refused_replies R D n part ps))

pub check_replies : (ps : List (List ℕ)) (c : Check) → Open c → replies ours c ps ≡ answers_to (rules_on c) (reader (known_on c)) (held_by c) ps
unfolding stored
check_replies [] c o = refl
check_replies (p ∷ ps) c o = rw (feed_answer c p o, feed_open c p o)
    (ap (λ rs. reply (stop_in (fed_by c p)) ∷ rs) (by (fed_by c p) (fed_kept c p o) (λ d. check_replies ps d)))
  where
    by : (m : Feed State Act Why.Outcome Refused) → KeptFeed c.model.acting m
        → ((d : Check) → Open d → replies ours d ps ≡ answers_to (rules_on d) (reader (known_on d)) (held_by d) ps)
        → replies ours (stored c m) ps ≡ answers_to (rules_on c) (reader (known_on c)) m ps
    by (reading (halted e) n part) h ih = refused_replies c e (refused_formed c e false o.formed h.0) (rules_on c) (reader (known_on c)) n part ps
    by (reading (waits r s q) n part) h ih =
        ih (stored c (reading (waits r s q) n part)) (stored_open c r s q n part o.formed h.0 h.1)
        ∙ (λ i. answers_to (rules_kept c r s q n part i) (reader (known_kept c r s q n part i)) (held_back c r s q n part c.model.acting h.0 h.1 i) ps)

-- ---- the parts of a plan, after two texts that are read

module _ (d : Domain) (p : Problem) where
  abbrev D : Reader Act Refused
  D = reader (known_for d p)

  abbrev Q : Rules State Act Why.Outcome
  Q = rules_for d p

  fed_on : (before part : List ℕ)
      → feed (rules_of (promises (grounds_of d p) p.goal) d.actions any_state) limits D (feed Q limits D (new Q limits D) before) part ≡ feed Q
      limits D (new Q limits D) (before ++ part)
  fed_on before part =
      feed_same (promises (grounds_of d p) p.goal) d.actions any_state (first_state p) D part (feed Q limits D (new Q limits D) before)
      ∙ sym (feed_append Q limits D (new Q limits D) before part)

  answers_from : (ps : List (List ℕ)) (before : List ℕ)
      → answers_to (rules_of (promises (grounds_of d p) p.goal) d.actions any_state) D (feed Q limits D (new Q limits D) before) ps ≡ replies_to d p before ps
  answers_from [] before = refl
  answers_from (part ∷ ps) before =
      rw (fed_on before part, judged_so_far (promises (grounds_of d p) p.goal) d.actions (first_state p) (known_for d p) (before ++ part))
      (ap (λ rs. reply (refusal_so_far d p (before ++ part)) ∷ rs) (answers_from ps (before ++ part)))

module _ (s t : List ℕ) (d : Domain) (p : Problem) (m n : ℕ) (e : read_domain s ≡ got d m) (f : read_problem t d ≡ got p n) (ps : List (List ℕ)) where
  abbrev loaded : Check
  loaded = L.loaded s t d p m n e f

  pub loaded_replies : replies ours (open_of s t).check ps ≡ replies_to d p [] ps
  loaded_replies =
      ap (λ (o : LoadReply). replies ours o.check ps) (opened s t d p m n e f ps)
      ∙ check_replies ps loaded (L.loaded_open s t d p m n e f)
      ∙ (λ i. answers_to (L.rules_loaded s t d p m n e f i) (L.reader_loaded s t d p m n e f i) (L.held_loaded s t d p m n e f i) ps)
      ∙ answers_from d p ps []

-- ---- finish

pub open_is : (c : Check) (next : Reply) → well_formed c ≡ true → c.finished ≡ false → C.while_open c next ≡ next
open_is c next f e = rw (f, e)

-- a check that is finished now answers what stands in it
finish_stands : (c : Check) → well_formed c ≡ true → c.finished ≡ false → (finish_of c).answer ≡ standing (finish_of c).check.progress
unfolding finish_of
finish_stands c f e = go c.progress.refused _ _
  where
    go : (b : Bool) (x y : Check) → (C.while_open c (cond b (C.answering x) (C.answering y))).answer ≡ standing
        (C.while_open c (cond b (C.answering x) (C.answering y))).check.progress
    go true x y = rw (open_is c (C.answering x) f e)
    go false x y = rw (open_is c (C.answering y) f e)

stored_unfinished : (c : Check) (m : Feed State Act Why.Outcome Refused) → (stored c m).finished ≡ false
unfolding stored
stored_unfinished c (reading (halted x) k part) = refl
stored_unfinished c (reading (waits r u q) k part) = refl

pub feed_unfinished : (c : Check) (p : List ℕ) → well_formed c ≡ true → c.finished ≡ false → (feed_of c p).check.finished ≡ false
unfolding feed_of
feed_unfinished c p f e = go c.progress.refused
  where
    go : (b : Bool) → (C.while_open c (cond b (C.answering c) (C.answering (stored c (fed_by c p))))).check.finished ≡ false
    go true = ap (λ (x : Reply). x.check.finished) (open_is c (C.answering c) f e) ∙ e
    go false = ap (λ (x : Reply). x.check.finished) (open_is c (C.answering (stored c (fed_by c p))) f e) ∙ stored_unfinished c (fed_by c p)

feeds_open : (ps : List (List ℕ)) (c : Check) → well_formed c ≡ true → c.finished ≡ false
    → (well_formed (feeds_of c ps) ≡ true) × ((feeds_of c ps).finished ≡ false)
unfolding feeds_of
feeds_open [] c f e = (f, e)
feeds_open (p ∷ ps) c f e = feeds_open ps (feed_of c p).check (feed_keeps c f p) (feed_unfinished c p f e)

ended_stands : (c : Check) (x : Result State Why.Outcome Refused) → standing (C.ended c x).progress ≡ reply (refusal_in x)
unfolding C.ended
ended_stands c (refused e) = refl
ended_stands c (ended r) = refl

module _ (s t : List ℕ) (d : Domain) (p : Problem) (m n : ℕ) (e : read_domain s ≡ got d m) (f : read_problem t d ≡ got p n) (ps : List (List ℕ)) where
  pub finish_replies : (finish_of (feeds_of (open_of s t).check ps)).answer ≡ reply (refusal_of d p (joined ps))
  finish_replies =
      let o = L.loaded_open s t d p m n e f in
      let h = feeds_open ps (L.loaded s t d p m n e f) o.formed o.unfinished in
      ap (λ (x : LoadReply). (finish_of (feeds_of x.check ps)).answer) (opened s t d p m n e f ps)
      ∙ finish_stands (feeds_of (L.loaded s t d p m n e f) ps) h.0 h.1
      ∙ ap (λ (x : Check). standing x.progress) (sym (ap (λ (x : LoadReply). (finish_of (feeds_of x.check ps)).check) (opened s t d p m n e f ps))
      ∙ ended_session s t d p m n e f ps)
      ∙ ended_stands (L.loaded s t d p m n e f) (means s t d p m n e f ps)
      ∙ ap reply (meaning_refusal (rules_for d p) limits (reader (known_for d p)) (empty_line_lem (known_for d p)) (joined ps))
