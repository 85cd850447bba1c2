-- A happening: "All points of one time, by line number". What its points read and write, when two of them interfere, steps 1 to 5, and the goal. RULES 11.
use Rattle.std.specs.Prelude.{ℕ, List, [], ◌∷◌, ◌++◌, Bool, true, false, cond, not, ◌&&◌, ◌||◌, eqb, set, ℤ, pos, ◌+ℤ◌, ◌-ℤ◌}
use Rattle.std.specs.Int.Signed.{le_z}
use Rattle.domain_meaning.specs.Conditions.{Cond}
use Rattle.domain_meaning.specs.Effects.{Change, assign, raise, lower, Effect, becomes, changes}
use Rattle.domain_meaning.specs.Actions.{When, start, whole, end, Timed, Lasting, moment, rule, Action}
use Rattle.happening_meaning.specs.State.{State, Grounds, inside, number_at, stored, number_of}
use Rattle.happening_meaning.specs.Truths.{value_of, truth_of, hold_all}
use Rattle.happening_meaning.specs.Writes.{some, expr_reads, cond_reads, right_reads, marks_of, against, itself}
use Rattle.happening_meaning.specs.declared.Value.{Value}
use Rattle.happening_meaning.specs.declared.Value.TheVariants as Is
use Rattle.happening_meaning.specs.declared.Truth.{Truth}
use Rattle.happening_meaning.specs.declared.Truth.TheVariants as T
use Rattle.happening_meaning.specs.declared.Mark.{Mark}
use Rattle.happening_meaning.specs.declared.Mark.TheVariants as M
use Rattle.happening_meaning.specs.declared.Outcome.{Outcome}
use Rattle.happening_meaning.specs.declared.Outcome.TheVariants.{Done, Duration, Condition, Undefined, Range, Itself, Conflict, Invariant, Goal}

-- ---- points

-- a step of a plan: its line, what its action says, its objects, and how long it lasts
pub record Step : Type 0 where
  pub line : ℕ
  pub rule : Lasting
  pub conditions : List (Timed Cond)
  pub effects : List (Timed (List Effect))
  pub objects : List ℕ
  pub duration : ℕ

abbrev pub step_of : ℕ → Action → List ℕ → ℕ → Step
step_of l a os d =
    record { line = l; rule = a.lasting; conditions = a.conditions; effects = a.effects; objects = os; duration = d }

-- a point of a step: its start or single instant, or its end
pub record Point : Type 0 where
  pub step : Step
  pub when : When

abbrev pub order : When → ℕ
order start = 1
order whole = 2
order end = 3

abbrev pub same_time : When → When → Bool
same_time v w = eqb (order v) (order w)

-- what an action says of a time
unfoldable pub parts_for : {A : Type 0} → When → List (Timed A) → List A
parts_for w [] = []
parts_for w (p ∷ ps) = cond (same_time p.when w) (p.what ∷ parts_for w ps) (parts_for w ps)

unfoldable pub joined : {A : Type 0} → List (List A) → List A
joined [] = []
joined (xs ∷ xss) = xs ++ joined xss

abbrev pub line_of : Point → ℕ
line_of p = p.step.line

abbrev pub objects_of : Point → List ℕ
objects_of p = p.step.objects

abbrev pub conditions_of : Point → List Cond
conditions_of p = parts_for p.when p.step.conditions

abbrev pub effects_of : Point → List Effect
effects_of p = joined (parts_for p.when p.step.effects)

-- "for a start, the duration rule"
abbrev pub rule_at : When → Lasting → Lasting
rule_at start l = l
rule_at whole l = moment
rule_at end l = moment

abbrev pub rule_of : Point → Lasting
rule_of p = rule_at p.when p.step.rule

-- ---- failures

abbrev pub is_done : Outcome → Bool
is_done Done = true
is_done (Duration l) = false
is_done (Condition l) = false
is_done (Undefined l) = false
is_done (Range l) = false
is_done (Itself l) = false
is_done (Conflict l m) = false
is_done (Invariant l) = false
is_done Goal = false

-- the first failure decides
unfoldable pub unless : Outcome → Outcome → Outcome
unless o next = cond (is_done o) next o

-- f of each, up to the first failure
unfoldable pub each : {A : Type 0} → (A → Outcome) → List A → Outcome
each f [] = Done
each f (x ∷ xs) = unless (f x) (each f xs)

-- what the truth of a condition of a line means, `fails` being the word for one that doesn't hold
unfoldable pub judged : Outcome → ℕ → Truth → Outcome
judged fails l T.Holds = Done
judged fails l T.Fails = fails
judged fails l T.Undefined = Undefined l
judged fails l T.Range = Range l

-- ---- step 1: "for a start, the duration rule; then its conditions"

abbrev pub lasts : ℕ → ℕ → Value → Outcome
lasts l d (Is.Number z) = cond (le_z z (pos d) && le_z (pos d) z) Done (Duration l)
lasts l d Is.Undefined = Undefined l
lasts l d Is.Range = Range l

unfoldable pub lasting : Grounds → List ℤ → Point → Lasting → Outcome
lasting g ns p moment = Done
lasting g ns p (rule e) = lasts (line_of p) p.step.duration (value_of g ns (objects_of p) e)

unfoldable pub tested : Grounds → State → Point → Outcome
tested g s p =
    unless (lasting g s.numbers p (rule_of p))
    (judged (Condition (line_of p)) (line_of p) (hold_all g s (objects_of p) (conditions_of p)))

-- ---- step 2

abbrev pub marks : Grounds → Point → List Mark
marks g p = marks_of g (objects_of p) (effects_of p)

unfoldable pub apart : Grounds → Point → Outcome
apart g p = cond (itself (marks g p)) (Itself (line_of p)) Done

-- ---- step 3: interference; RULES 11, step 3; Fox and Long, Definition 12

unfoldable pub rule_reads : Grounds → List ℕ → ℕ → Lasting → Bool
rule_reads g os x moment = false
rule_reads g os x (rule e) = expr_reads g os x e

-- a fact read in a condition
unfoldable pub reads_fact : Grounds → Point → ℕ → Bool
reads_fact g p x = some (cond_reads g (objects_of p) false x) (conditions_of p)

-- a number read "in a condition, a duration rule or a right side"
unfoldable pub reads_number : Grounds → Point → ℕ → Bool
reads_number g p x =
    some (cond_reads g (objects_of p) true x) (conditions_of p)
    || rule_reads g (objects_of p) x (rule_of p)
    || some (right_reads g (objects_of p) x) (effects_of p)

-- the point reads what an effect of another one writes
unfoldable pub reads : Grounds → Point → Mark → Bool
reads g p M.Nothing = false
reads g p (M.Fact a x) = reads_fact g p x
reads g p (M.Number a x) = reads_number g p x

unfoldable pub interfere : Grounds → Point → Point → Bool
interfere g p q =
    some (reads g p) (marks g q) || some (reads g q) (marks g p) || some (λ m. some (against m) (marks g q)) (marks g p)

-- "Per pair, ordered by the lower line, then the higher"
unfoldable pub clear : Grounds → Point → Point → Outcome
clear g p q = cond (interfere g p q) (Conflict (line_of p) (line_of q)) Done

unfoldable pub pairs : Grounds → List Point → Outcome
pairs g [] = Done
pairs g (p ∷ ps) = unless (each (clear g p) ps) (pairs g ps)

-- ---- step 4

-- an outcome, and the numbers that go with it
pub record Made : Type 0 where
  pub outcome : Outcome
  pub numbers : List ℤ

abbrev pub made : Outcome → List ℤ → Made
made o ns = record { outcome = o; numbers = ns }

abbrev pub on_made : Made → (List ℤ → Made) → Made
on_made m f = cond (is_done m.outcome) (f m.numbers) m

-- a value that line l needs, the numbers so far being ns
abbrev pub on_needed : ℕ → List ℤ → Value → (ℤ → Made) → Made
on_needed l ns (Is.Number z) f = f z
on_needed l ns Is.Undefined f = made (Undefined l) ns
on_needed l ns Is.Range f = made (Range l) ns

-- "a number to be raised or lowered must be defined"
abbrev pub needed : Change → List ℤ → ℕ → Value
needed assign old x = Is.Number (pos 0)
needed raise old x = stored old x
needed lower old x = stored old x

-- "assigned numbers are set; the rest become old plus the exact sum of rises and falls"
abbrev pub new_number : Change → ℤ → ℤ → ℤ
new_number assign so z = z
new_number raise so z = so +ℤ z
new_number lower so z = so -ℤ z

abbrev pub set_number : Change → List ℤ → ℕ → ℤ → List ℤ
set_number how ns x z = set ns x (new_number how (number_at ns x) z)

-- "effects as written: the right side evaluates, then a number to be raised or lowered must be defined"; both in the old numbers
unfoldable pub change_one : Grounds → List ℤ → ℕ → List ℕ → List ℤ → Effect → Made
change_one g old l os ns (becomes yes' r) = made Done ns
change_one g old l os ns (changes how r e) =
    on_needed l ns (value_of g old os e)
    (λ z. on_needed l ns (needed how old (number_of g os r)) (λ _. made Done (set_number how ns (number_of g os r) z)))

unfoldable pub change_all : Grounds → List ℤ → ℕ → List ℕ → List ℤ → List Effect → Made
change_all g old l os ns [] = made Done ns
change_all g old l os ns (e ∷ es) = on_made (change_one g old l os ns e) (λ ms. change_all g old l os ms es)

unfoldable pub change_points : Grounds → List ℤ → List ℤ → List Point → Made
change_points g old ns [] = made Done ns
change_points g old ns (p ∷ ps) = on_made (change_all g old (line_of p) (objects_of p) ns (effects_of p)) (λ ms. change_points g old ms ps)

-- a new value outside the range
unfoldable pub leaves : List ℤ → Mark → Bool
leaves ns M.Nothing = false
leaves ns (M.Fact a x) = false
leaves ns (M.Number a x) = not (inside (number_at ns x))

-- "the lowest line to write one is named"
unfoldable pub stays : Grounds → List ℤ → Point → Outcome
stays g ns p = cond (some (leaves ns) (marks g p)) (Range (line_of p)) Done

-- "(old without deleted) with added"
unfoldable pub without : List ℕ → Mark → List ℕ
without fs M.Nothing = fs
without fs (M.Fact added x) = cond added fs (set fs x 0)
without fs (M.Number a x) = fs

unfoldable pub with : List ℕ → Mark → List ℕ
with fs M.Nothing = fs
with fs (M.Fact added x) = cond added (set fs x 1) fs
with fs (M.Number a x) = fs

-- f with each mark of all points, one after the other
unfoldable pub each_mark : (List ℕ → Mark → List ℕ) → List ℕ → List Mark → List ℕ
each_mark f fs [] = fs
each_mark f fs (m ∷ ms) = each_mark f (f fs m) ms

unfoldable pub all_marks : Grounds → List Point → List Mark
all_marks g [] = []
all_marks g (p ∷ ps) = marks g p ++ all_marks g ps

abbrev pub new_facts : Grounds → List ℕ → List Point → List ℕ
new_facts g fs ps = each_mark with (each_mark without fs (all_marks g ps)) (all_marks g ps)

-- an outcome, and the state that goes with it: a failure leaves the old one
pub record Happened : Type 0 where
  pub outcome : Outcome
  pub state : State

abbrev pub happened : Outcome → State → Happened
happened o s = record { outcome = o; state = s }

abbrev pub on_done : Outcome → State → Happened → Happened
on_done o old h = cond (is_done o) h (happened o old)

abbrev pub applied : Grounds → State → List Point → Made → Happened
applied g s ps m =
    on_done (unless m.outcome (each (stays g m.numbers) ps)) s
    (happened Done (record { facts = new_facts g s.facts ps; numbers = m.numbers }))

-- ---- steps 1 to 4: "Steps 1 to 4 see the state before it."

unfoldable pub allowed : Grounds → State → List Point → Outcome
allowed g s ps = unless (each (tested g s) ps) (unless (each (apart g) ps) (pairs g ps))

unfoldable pub happening : Grounds → State → List Point → Happened
happening g s ps = on_done (allowed g s ps) s (applied g s ps (change_points g s.numbers s.numbers ps))

-- ---- step 5: "the `over all` conditions of every durative line" that is given, "by line number"

unfoldable pub spans : Grounds → State → Step → Outcome
spans g s x = judged (Invariant x.line) x.line (hold_all g s x.objects (parts_for whole x.conditions))

unfoldable pub spanning : Grounds → State → List Step → Outcome
spanning g s xs = each (spans g s) xs

-- ---- "The last state of all meets the goal."; "failures at the goal have .. lines 0 0"

-- no variable stands in a goal
abbrev pub no_objects : List ℕ
no_objects = 0 ∷ 0 ∷ 0 ∷ 0 ∷ []

unfoldable pub reached : Grounds → Cond → State → Outcome
reached g c s = judged Goal 0 (truth_of g s no_objects c)

-- ---- what the layer of plan lines sees of this one

pub record Promises : Type 0 where
  pub happen : State → List Point → Happened
  pub over : State → List Step → Outcome
  pub goal : State → Outcome

abbrev pub promises : Grounds → Cond → Promises
promises g c = record { happen = happening g; over = spanning g; goal = reached g c }
