-- What each call does: the check after it, its answer, and the lent output. Refusals 19 to 23 in the order of RULES 13: 19, 21, 22, 23, 20, a standing plan
-- refusal after 21.
use Rattle.std.specs.Prelude.{ℕ, List, [], map, Bool, true, false, cond, ◌&&◌, ltb, leb, eqb, ℤ, length, take}
use Rattle.std.proofs.lemmas.List.Edits.{sets}
use Rattle.text_words.specs.Bytes.{bytes}
use Rattle.domain_meaning.specs.Indexes.{padded}
use Rattle.domain_meaning.specs.First.{no_facts, no_numbers}
use Rattle.domain_load.specs.Decode.{decode}
use Rattle.domain_load.specs.Load.{load_of}
use Rattle.domain_load.specs.declared.Loaded.{Loaded}
use Rattle.domain_load.specs.declared.Model.{Model}
use Rattle.domain_load.specs.declared.LoadAnswer.{LoadAnswer}
use Rattle.domain_load.specs.declared.LoadAnswer.TheVariants as Is
use Rattle.domain_terms.specs.declared.scope.Counts.{Counts}
use Rattle.happening_forms.specs.Summed.{summed}
use Rattle.happening_meaning.specs.State.{State}
use Rattle.happening_meaning.specs.Happening.{promises}
use Rattle.happening_meaning.specs.declared.Outcome.{Outcome}
use Rattle.happening_meaning.specs.declared.Outcome.TheVariants as O
use Rattle.plan_meaning.specs.Plan.{Run, going, failed, Rules, Result}
use Rattle.plan_meaning.specs.Plan as P
use Rattle.plan_meaning.specs.Machine.{waits, halted}
use Rattle.plan_meaning.specs.Feed.{Feed, reading, feed, close}
use Rattle.plan_meaning.specs.Promised.{Act, rules_of}
use Rattle.plan_meaning.specs.Lines.{Known, Refused, reader, limits}
use Rattle.plan_meaning.specs.Stored.{slot_of}
use Rattle.plan_waiting.specs.Waiting.{used, queue_of, slots_fit}
use Rattle.plan_waiting.specs.declared.Queue.{Queue}
use Rattle.plan_running.specs.declared.Past.{Past}
use Rattle.plan_feeding.specs.Feeding.{held_in}
use Rattle.plan_feeding.specs.declared.PlanProgress.{PlanProgress}
use Rattle.check_wording.specs.Wording.{verdict_line, refusal_line}
use Rattle.check_meaning.specs.Answer.{bit, shown, last_state}
use Rattle.check_meaning.specs.Listed.{listed_in_plan, listed_verdict, listed_time}
use Rattle.check_calls.specs.declared.Check.{Check}
use Rattle.check_calls.specs.declared.Answer.{Answer}
use Rattle.check_calls.specs.declared.Answer.TheVariants as A
use Rattle.check_calls.specs.declared.LoadReply.{LoadReply}
use Rattle.check_calls.specs.declared.Reply.{Reply}

-- ---- "Well formed" is a test of the check's numbers

-- where the plan is: past the millionth line no byte is kept
unfoldable pub counters_fit : PlanProgress → Bool
counters_fit p =
    ltb 0 p.number && leb p.number (cond (eqb p.used 0) 1000001 1000000) && leb p.used 256 && ltb p.start 1000000000000

-- what would be answered: a plan refusal that stands, or what came of the plan so far
unfoldable pub answers_fit : PlanProgress → Bool
answers_fit p =
    cond p.refused (listed_in_plan p.refusal p.at p.column) true && listed_verdict p.past.outcome && listed_time p.past.time

unfoldable pub sizes_fit : Counts → ℕ → ℕ → ℕ → Bool
sizes_fit counts acting fact_count number_count =
    leb counts.types 17 && leb counts.objects 64 && leb acting 32 && leb fact_count 16384 && leb number_count 1024

unfoldable pub formed : PlanProgress → Counts → ℕ → ℕ → ℕ → Queue → Bool
formed p counts acting fact_count number_count q =
    counters_fit p && answers_fit p && sizes_fit counts acting fact_count number_count && leb q.count 64 && slots_fit acting (used q)

abbrev pub well_formed : Check → Bool
well_formed c = formed c.progress c.model.counts c.model.acting c.model.sizes.facts c.model.sizes.numbers c.queue

-- ---- what a check stands for: the rules and the names that its model's numbers say, and the machine's state

abbrev pub state_of : Check → State
state_of c = record { facts = c.facts; numbers = c.numbers }

-- what is to come does not hang on where the run began
abbrev pub any_state : State
any_state = record { facts = []; numbers = [] }

unfoldable pub rules_on : Check → Rules State Act Outcome
rules_on c = rules_of (promises summed (decode c.model).goal) (decode c.model).actions any_state

unfoldable pub known_on : Check → Known
known_on c = record { types = (decode c.model).types; objects = (decode c.model).objects; actions = (decode c.model).actions }

abbrev pub held_by : Check → Feed State Act Outcome Refused
held_by c = held_in (state_of c) c.line c.queue c.progress

-- ---- the check that a state of the machine leaves: zeros in the places that are not in use, so that there is one

abbrev pub no_past : Past
no_past = record { outcome = O.Done; time = 0 }

abbrev pub past_of : Run State Outcome → Past
past_of (going s t) = record { outcome = O.Done; time = t }
past_of (failed s t w) = record { outcome = w; time = t }

abbrev pub ready : ℕ → PlanProgress
ready n = record { used = 0; number = n; start = 0; past = no_past; refused = false; refusal = 0; at = 0; column = 0 }

abbrev pub empty_line : List ℕ
empty_line = padded 257 []

-- no refusal, and zeros for its place
abbrev pub settled : PlanProgress → PlanProgress
settled p =
    record { used = p.used; number = p.number; start = p.start; past = p.past; refused = false; refusal = 0; at = 0; column = 0 }

-- after a refusal nothing of the run is kept
abbrev pub refused_from : Model → Refused → Bool → Check
refused_from m e done =
    record {
      model = m;
      facts = no_facts;
      numbers = no_numbers;
      queue = queue_of [];
      line = empty_line;
      progress = record { used = 0; number = 1; start = 0; past = no_past; refused = true; refusal = e.number; at = e.line; column = e.column };
      finished = done;
    }

abbrev pub refused_check : Check → Refused → Bool → Check
refused_check c e done = refused_from c.model e done

unfoldable pub stored : Check → Feed State Act Outcome Refused → Check
stored c (reading (halted e) n part) = refused_check c e false
stored c (reading (waits run s q) n part) =
    record {
      model = c.model;
      facts = (last_state run).facts;
      numbers = (last_state run).numbers;
      queue = queue_of (map slot_of q);
      line = padded 257 part;
      progress = record { used = length part; number = n; start = s; past = past_of run; refused = false; refusal = 0; at = 0; column = 0 };
      finished = false;
    }

abbrev pub ended_from : Past → PlanProgress
ended_from past = record { used = 0; number = 1; start = 0; past = past; refused = false; refusal = 0; at = 0; column = 0 }

unfoldable pub ended : Check → Result State Outcome Refused → Check
ended c (P.refused e) = refused_check c e true
ended c (P.ended run) =
    record {
      model = c.model;
      facts = (last_state run).facts;
      numbers = (last_state run).numbers;
      queue = queue_of [];
      line = empty_line;
      progress = ended_from (past_of run);
      finished = true;
    }

-- ---- the calls

abbrev pub fed : Check → Answer → Reply
fed c a = record { check = c; answer = a }

-- "A plan refusal stays: feeding and finishing give it again"
abbrev pub standing : PlanProgress → Answer
standing p = cond p.refused (A.Refused p.refusal p.at p.column) (A.Done 0)

abbrev pub answering : Check → Reply
answering c = fed c (standing c.progress)

abbrev pub with_finish : Check → Check
with_finish c =
    record {
      model = c.model;
      facts = c.facts;
      numbers = c.numbers;
      queue = c.queue;
      line = c.line;
      progress = c.progress;
      finished = true;
    }

-- 19 and 21, else what the call does
abbrev pub while_open : Check → Reply → Reply
while_open c next = cond (well_formed c) (cond c.finished (fed c A.Late) next) (fed c A.Unformed)

unfoldable pub feed_of : Check → List ℕ → Reply
feed_of c part =
    while_open c (cond c.progress.refused (answering c) (answering (stored c (feed (rules_on c) limits (reader (known_on c)) (held_by c) part))))

unfoldable pub finish_of : Check → Reply
finish_of c =
    while_open c (cond c.progress.refused (answering (with_finish c)) (answering (ended c (close (rules_on c) limits (reader (known_on c)) (held_by c)))))

-- 19 and 22, else what the call does with the lent output
abbrev pub when_done : {A : Type 0} → Check → A → Reply × A → Reply × A
when_done c out next = cond (well_formed c) (cond c.finished next (fed c A.Early, out)) (fed c A.Unformed, out)

-- 20, else what is written from the first place on
abbrev pub writing : {A : Type 0} → Check → List A → ℕ → List A → Reply × List A
writing c out least w = cond (ltb (length out) least) (fed c A.Short, out) (fed c (A.Done (length w)), sets out 0 w)

abbrev pub line_in : PlanProgress → List ℕ
line_in p = cond p.refused (refusal_line (bytes "plan") p.refusal p.at p.column) (verdict_line p.past.outcome p.past.time)

unfoldable pub result_of : Check → List ℕ → Reply × List ℕ
result_of c out = when_done c out (writing c out 64 (line_in c.progress))

-- 23, else what is written
abbrev pub unless_refused : {A : Type 0} → Check → A → Reply × A → Reply × A
unless_refused c out next = cond c.progress.refused (fed c A.Stateless, out) next

unfoldable pub facts_of : Check → List ℕ → Reply × List ℕ
facts_of c out = when_done c out (unless_refused c out (writing c out c.model.sizes.facts (map bit (take c.model.sizes.facts c.facts))))

unfoldable pub numbers_of : Check → List ℤ → Reply × List ℤ
numbers_of c out = when_done c out (unless_refused c out (writing c out c.model.sizes.numbers (map shown (take c.model.sizes.numbers c.numbers))))

-- ---- load: "A refused load hands back one fixed check that 19 refuses"

abbrev pub check_for : Loaded → ℕ → Check
check_for l n =
    record {
      model = l.model;
      facts = l.facts;
      numbers = l.numbers;
      queue = queue_of [];
      line = empty_line;
      progress = ready n;
      finished = false;
    }

abbrev pub opened_by : LoadAnswer → Loaded → LoadReply
opened_by Is.Loaded l = record { check = check_for l 1; answer = Is.Loaded }
opened_by (Is.Domain k p) l = record { check = check_for l 0; answer = Is.Domain k p }
opened_by (Is.Problem k p) l = record { check = check_for l 0; answer = Is.Problem k p }

unfoldable pub open_of : List ℕ → List ℕ → LoadReply
open_of domain problem = opened_by (load_of domain problem).answer (load_of domain problem)

abbrev pub writing_line : List ℕ → List ℕ → Answer × List ℕ
writing_line w out = cond (ltb (length out) 64) (A.Short, out) (A.Done (length w), sets out 0 w)

-- "A refused load's line is written from its answer, without a check"; a load that is not refused has no line yet: 22
unfoldable pub line_of : LoadAnswer → List ℕ → Answer × List ℕ
line_of Is.Loaded out = (A.Early, out)
line_of (Is.Domain k p) out = writing_line (refusal_line (bytes "domain") k p 0) out
line_of (Is.Problem k p) out = writing_line (refusal_line (bytes "problem") k p 0) out
