-- What each way through feed and finish gives is what the contracts say. Assumes nothing.
use mathlib.Core.Path.{◌≡◌, refl, sym, ap, ◌∙◌}
use mathlib.Core.List.{List, []}
use mathlib.Core.Bool.{Bool, true, false, not, ◌&&◌, false≢true}
use Prim.Native.Nat.{ℕ, ◌≤◌}
use native.Mathlib.Omega.{arith}
use lib.ListN.{length, take}
use Rattle.domain_meaning.specs.Indexes.{padded}
use Rattle.domain_stored_meaning.specs.Entries.{signed_in}
use Rattle.domain_prepared_meaning.specs.Decode.{goal_at}
use Rattle.domain_load.proofs.Decoded.{types_in_lem, objects_in_lem, actions_in, goal_in}
use Rattle.happening_meaning.specs.State.{State}
use Rattle.happening_meaning.specs.Happening.{promises}
use Rattle.happening_meaning.specs.declared.Outcome.{Outcome}
use Rattle.happening_forms.specs.Summed.{summed}
use Rattle.plan_meaning.specs.Plan.{Rules, Result}
use Rattle.plan_meaning.specs.Feed.{Feed, feed, close}
use Rattle.plan_meaning.specs.Promised.{Act, rules_of}
use Rattle.plan_meaning.specs.Lines.{Known, Refused, reader, limits}
use Rattle.plan_waiting.specs.Waiting.{used, queue_of}
use Rattle.plan_waiting.specs.declared.Queue.{Queue}
use Rattle.plan_running.specs.Running.{rules_in, Rowed}
use Rattle.plan_lines.specs.Knowing.{Tabled, Headed, known_in}
use Rattle.plan_lines.proofs.Knowing.{known_in_lem}
use Rattle.plan_feeding.specs.Feeding.{refused_in, held_in, closed_in, Fit}
use Rattle.plan_feeding.specs.declared.PlanProgress.{PlanProgress}
use Rattle.check_calls.specs.declared.Check.{Check}
use Rattle.check_calls.specs.declared.Reply.{Reply}
use Rattle.check_calls.specs.declared.Answer.{Answer}
use Rattle.check_calls.specs.declared.Answer.TheVariants as A
use Rattle.check_calls.specs.Calls.{well_formed, any_state, rules_on, known_on, held_by, refused_from, settled, ended_from, empty_line, stored, ended}
use Rattle.check_calls.specs.Calls.{fed, standing, answering, with_finish, while_open, feed_of, finish_of}
use Rattle.check_calls.proofs.Formed.{formed_parts, formed_sound}
use Rattle.check_calls.proofs.Storing.{stored_held, stored_refused, ended_refused, ended_run}
use Rattle.domain_rows.specs.Layout.{tables_length}

-- ---- 19 and 21

module _ (c : Check) (next : Reply) where
  pub unformed : well_formed c ≡ false → fed c A.Unformed ≡ while_open c next
  unformed h = rw (h)

  pub late : well_formed c ≡ true → c.finished ≡ true → fed c A.Late ≡ while_open c next
  late h k = rw (h, k)

-- a part only makes the line longer
pub plain_parts : (good done all : Bool) → (good && not done && all) ≡ true → (good ≡ true) × (done ≡ false) × (all ≡ true)
plain_parts true false true h = (refl, refl, refl)
plain_parts true false false h = absurd (false≢true h)
plain_parts true true all h = absurd (false≢true h)
plain_parts false done all h = absurd (false≢true h)

-- ---- what taking a part and ending a plan ask

-- the arrays are as long as their types say
pub record Long (c : Check) : Type 0 where
  pub tables : length c.model.tables ≡ tables_length
  pub heads : length c.model.actions ≡ 1216
  pub rows : length c.model.rows ≡ 33153
  pub line : length c.line ≡ 257

pub ready_for : (c : Check) → well_formed c ≡ true → Long c → c.progress.refused ≡ false
    → Tabled c.model.tables c.model.counts
    × Headed c.model.actions c.model.acting
    × Fit c.model.acting c.queue c.progress
    × (c.progress.refused ≡ false)
    × (length c.line ≡ 257)
    × Rowed c.model.rows
    × (c.numbers ≡ c.numbers)
ready_for c good h free =
    let g = formed_parts c.progress c.model.counts c.model.acting c.model.sizes.facts c.model.sizes.numbers c.queue good in (
      (omega (arith, h.tables), g.sizes.types, g.sizes.objects),
      (omega (arith, h.heads), g.sizes.actions),
      (formed_sound g, g.counters.timely, g.counters.short, g.counters.first, g.counters.lines),
      free,
      h.line,
      (omega (arith, h.rows), omega (arith, h.rows)),
      refl,
    )

-- ---- the rules and the names

abbrev pub rules_by : Check → Rules State Act Outcome
rules_by c =
    rules_in c.model.rows (goal_at c.model.goal) (signed_in c.model.actions c.model.acting) any_state

abbrev pub known_by : Check → Known
known_by c = known_in c.model.tables c.model.counts c.model.actions c.model.acting c.model.rows

pub rules_on_lem : (c : Check) → rules_by c ≡ rules_on c
unfolding rules_on
rules_on_lem c = λ i. rules_of (promises summed (goal_in c.model i)) (actions_in c.model i) any_state

pub known_on_lem : (c : Check) → known_by c ≡ known_on c
unfolding known_on
known_on_lem c =
    known_in_lem c.model.tables c.model.counts c.model.actions c.model.acting c.model.rows
    ∙ (λ i. record { types = types_in_lem c.model i; objects = objects_in_lem c.model i; actions = actions_in c.model i })

-- ---- a refusal that stood before the call

module _ (c : Check) (good : well_formed c ≡ true) (going : c.finished ≡ false)
    (stands : c.progress.refused ≡ true) (a : Answer) (e : a ≡ standing c.progress) where
  pub feed_stands : (part : List ℕ) → fed c a ≡ feed_of c part
  unfolding feed_of
  feed_stands part = ap (fed c) e ∙ rw (good, going, stands)

  pub finish_stands : fed (with_finish c) a ≡ finish_of c
  unfolding finish_of
  finish_stands = ap (fed (with_finish c)) e ∙ rw (good, going, stands)

-- ---- a part that is taken, and a plan's end

module _ (c : Check) (good : well_formed c ≡ true) (going : c.finished ≡ false) (free : c.progress.refused ≡ false) where
  feed_is : (part : List ℕ) (m : Feed State Act Outcome Refused) → m ≡ feed (rules_by c) limits (reader (known_by c)) (held_by c) part
      → answering (stored c m) ≡ feed_of c part
  unfolding feed_of
  feed_is part m h =
      ap (λ x. answering (stored c x)) (h ∙ (λ i. feed (rules_on_lem c i) limits (reader (known_on_lem c i)) (held_by c) part))
      ∙ rw (good, going, free)

  finish_is : (m : Result State Outcome Refused) → m ≡ close (rules_by c) limits (reader (known_by c)) (held_by c)
      → answering (ended c m) ≡ finish_of c
  unfolding finish_of
  finish_is m h =
      ap (λ x. answering (ended c x)) (h ∙ (λ i. close (rules_on_lem c i) limits (reader (known_on_lem c i)) (held_by c)))
      ∙ rw (good, going, free)

  standing_refused : (p : PlanProgress) (done : Bool) → p.refused ≡ true → standing p ≡ standing (refused_from c.model (refused_in p) done).progress
  standing_refused p done h = rw (h)

  pub feed_stopped : (part : List ℕ) (s : State) (line : List ℕ) (q : Queue) (p : PlanProgress)
      → held_in s line q p ≡ feed (rules_by c) limits (reader (known_by c)) (held_by c) part → p.refused ≡ true
      → (x : Check) → x ≡ refused_from c.model (refused_in p) false → (a : Answer) → a ≡ standing p → fed x a ≡ feed_of c part
  feed_stopped part s line q p h stopped x e a f =
      (λ i. fed (e i) ((f ∙ standing_refused p false stopped) i))
      ∙ sym (ap answering (stored_refused c s line q p stopped))
      ∙ feed_is part (held_in s line q p) h

  pub finish_stopped : (s : State) (p : PlanProgress) → closed_in s p ≡ close (rules_by c) limits (reader (known_by c)) (held_by c) → p.refused ≡ true
      → (x : Check) → x ≡ refused_from c.model (refused_in p) true → (a : Answer) → a ≡ standing p → fed x a ≡ finish_of c
  finish_stopped s p h stopped x e a f =
      (λ i. fed (e i) ((f ∙ standing_refused p true stopped) i))
      ∙ sym (ap answering (ended_refused c s p stopped))
      ∙ finish_is (closed_in s p) h

  pub feed_goes : (part : List ℕ) (s : State) (line : List ℕ) (q : Queue) (p : PlanProgress)
      → held_in s line q p ≡ feed (rules_by c) limits (reader (known_by c)) (held_by c) part → p.refused ≡ false → p.used ≤ 256 → length line ≡ 257
      → (queue : Queue) (tidied : List ℕ) (after : PlanProgress) → queue ≡ queue_of (used q) → tidied ≡ padded 257 (take p.used line) → after ≡ settled p
      → fed
      (record { model = c.model; facts = s.facts; numbers = s.numbers; queue = queue; line = tidied; progress = after; finished = c.finished })
      (A.Done 0)
      ≡ feed_of c part
  feed_goes part s line q p h goes few long queue tidied after eq el ep =
      (λ i. fed
      (record { model = c.model; facts = s.facts; numbers = s.numbers; queue = eq i; line = el i; progress = ep i; finished = going i })
      (A.Done 0))
      ∙ sym (ap answering (stored_held c s line q p goes few long))
      ∙ feed_is part (held_in s line q p) h

  pub finish_goes : (s : State) (p : PlanProgress) → closed_in s p ≡ close (rules_by c) limits (reader (known_by c)) (held_by c) → p.refused ≡ false
      → (queue : Queue) (tidied : List ℕ) (after : PlanProgress) → queue ≡ queue_of [] → tidied ≡ empty_line → after ≡ ended_from p.past
      → fed
      (record { model = c.model; facts = s.facts; numbers = s.numbers; queue = queue; line = tidied; progress = after; finished = true })
      (A.Done 0)
      ≡ finish_of c
  finish_goes s p h goes queue tidied after eq el ep =
      (λ i. fed
      (record { model = c.model; facts = s.facts; numbers = s.numbers; queue = eq i; line = el i; progress = ep i; finished = true })
      (A.Done 0))
      ∙ sym (ap answering (ended_run c s p goes))
      ∙ finish_is (closed_in s p) h
