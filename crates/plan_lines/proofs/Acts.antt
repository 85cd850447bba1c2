-- The ways through a plan line: what is refused on the way is the line's refusal, and the whole way gives the step. Assumes nothing.
use Rattle.std.specs.Prelude.{Result, Ok, Err}
use mathlib.Core.Path.{◌≡◌, refl, sym, ap, ◌∙◌}
use mathlib.Core.List.{List, [], ◌∷◌}
use mathlib.Core.Bool.{Bool, true, false}
use mathlib.Core.Option.{some}
use Prim.Native.Nat.{ℕ, ◌+◌, ◌≤◌, ◌<◌}
use native.Mathlib.Omega.{arith}
use borrow.Author.Tests.{ne_eqb, eqb-false}
use lib.Dec.{eqb}
use lib.IntN.{nat_abs}
use lib.ListN.{length, length-map, get_or}
use lib.Seq.{sets}
use types.Run.{OneOf}
use denote.Enum.Declared.{tag_of}
use Rattle.plan_meaning.proofs.Marks.{given_mark}
use Rattle.domain_meaning.proofs.Given.{Given, reads, refuses, given_then, given_either, given_number, given_end, given_got}
use Rattle.text_tokens.specs.Tokens.{plan_token_at}
use Rattle.text_tokens.specs.declared.tokens.Token.{Token}
use Rattle.text_tokens.specs.declared.tokens.Token.TheVariants as T
use Rattle.text_tokens.specs.contracts.tokens.Token as token-type
use Rattle.domain_meaning.specs.Indexes.{padded}
use Rattle.domain_meaning.specs.Read.{Read, Reader, got, refused, and_then}
use Rattle.domain_meaning.specs.Due.{after_of}
use Rattle.domain_meaning.specs.Tables.{Table, entry_at, wanted_of}
use Rattle.domain_meaning.specs.Actions.{Action}
use Rattle.domain_due.specs.Answers.{answer_of, Parsed, at, Done, Refused}
use Rattle.domain_due.specs.declared.Refusal.{Refusal}
use Rattle.domain_due.proofs.Dues.{not_end, done_parts, refused_parts, answer_done, answer_refused, never_done}
use Rattle.domain_prepared_meaning.specs.Preparing.{action_by}
use Rattle.domain_prepared_meaning.specs.Decode.{lasts_at, place_in, action_at}
use Rattle.domain_prepared_meaning.proofs.Actions.{numbered}
use Rattle.domain_stored_meaning.specs.Entries.{signed_in}
use Rattle.domain_terms.specs.declared.scope.Counts.{Counts}
use Rattle.plan_meaning.specs.Plan.{Span, lasting, Step}
use Rattle.plan_meaning.specs.Promised.{Act, duration_of, action_of}
use Rattle.plan_meaning.specs.Stored.{span_in, step_in, step_of}
use Rattle.plan_meaning.specs.Lines.{Known, declarations, mark, opening, start_at, line_end, objects_to, duration_in, span_of, act_at, line_at}
use Rattle.plan_meaning.specs.declared.Step as D
use Rattle.plan_meaning.specs.declared.Line.{Line}
use Rattle.plan_meaning.specs.declared.Line.TheVariants as R
use Rattle.domain_rows.proofs.Rows.{length_padded}
use Rattle.plan_meaning.proofs.Stored.{duration_back}
use Rattle.plan_meaning.proofs.Walk.{ReadStep}
use Rattle.plan_meaning.proofs.Steps.{step_there}
use Rattle.plan_lines.specs.Knowing.{known_in, lasts_of}
use Rattle.plan_lines.specs.Reading.{AmountAnswer, span_answer, named_action, lasting_read, Listed}
use Rattle.plan_lines.specs.Steps.{step_from, Stepped, Lined}
use Rattle.plan_lines.proofs.Names.{signed_length, arity_signed}
use Rattle.plan_lines.proofs.Lasts.{span_lasting}
use Rattle.plan_lines.proofs.Objects.{named_then, known_named, action_below, objects_count, four_padded}

-- ---- a refusal on the way

pub stepped_refused : (n c p : ℕ) (x : Read (Step Act)) → x ≡ refused c p → Stepped n (Err (at c p)) x
unfolding Stepped
stepped_refused n c p x h = rw h refl

same_refused : {A : Type 0} (j b c p : ℕ) → Refused j b ≡ Refused c p → ◌≡◌ {A = Read A} (refused j b) (refused c p)
same_refused j b c p e = let h = refused_parts j c b p e in rw (h.0, h.1)

listed_refused : (r : Parsed) (out m : List ℕ) (c p : ℕ) (x : Read (List ℕ)) → Listed r out m x → r ≡ Refused c p → x ≡ refused c p
unfolding Listed
listed_refused r out m c p (got os n) h e = never_done c p n (length os) (sym e ∙ h.0)
listed_refused r out m c p (refused j b) h e = same_refused j b c p (sym h ∙ e)

pub amount_done : (r : Parsed) (a v : ℕ) → r ≡ Done a v → AmountAnswer r → v < 1000000000000
amount_done r a v e h = rw e at h

-- ---- how long a step lasts lies in a number

abbrev Lies : Span → ℕ → Type 0
Lies d n = span_in (duration_of d) ≡ d

abbrev Free : ℕ → ℕ → Type 0
Free c p = Unit {0}

lasting_lies : (d : ℕ) → (d ≡ 0 → ⊥) → span_in d ≡ lasting d
unfolding span_in
lasting_lies d h = rw (ne_eqb d 0 h)

duration_lies : (s : List ℕ) (at : ℕ) → Given Lies Free (duration_in s at)
unfolding duration_in
duration_lies s at =
    given_then _
    (given_number {P = λ d n. Lies (lasting d) n} (λ t. Unit {0}) (plan_token_at s at) _ _ _ tt
    (λ z p e i. given_either (eqb (nat_abs z) 0) _ _ _ (λ _. refuses tt) (λ q. reads (lasting_lies (nat_abs z) (eqb-false (nat_abs z) 0 q))))
    (refuses tt))
    (λ d n h. any_lies (mark s 93 n) _ (λ _ e. any_lies (line_end s e) _ (λ _ b. reads h)))
  where
    any_lies : (x : Read ℕ) (f : ℕ → Reader Span) → ((a n : ℕ) → Given Lies Free (f a n)) → Given Lies Free (and_then x f)
    any_lies (got a n) f h = h a n
    any_lies (refused c p) f h = refuses tt

span_lies : (s : List ℕ) (b : Bool) (at : ℕ) → Given Lies Free (lasting_read s b at)
unfolding lasting_read span_in
span_lies s true at =
    given_end (λ t. Unit {0}) (plan_token_at s at) _ _ _ tt (λ p i. refuses tt)
    (given_mark (λ t. Unit {0}) (plan_token_at s at) _ _ _ tt (λ b p e i. given_either (eqb b 91) _ _ _ (λ _. duration_lies s _) (λ _. refuses tt)) (refuses tt))
span_lies s false at =
    given_end (λ t. Unit {0}) (plan_token_at s at) _ _ _ tt (λ p i. reads refl)
    (given_mark (λ t. Unit {0}) (plan_token_at s at) _ _ _ tt (λ b p e i. given_either (eqb b 91) _ _ _ (λ _. refuses tt) (λ _. refuses tt)) (refuses tt))

span_refused : (x : Read Span) (c p : ℕ) → span_answer x ≡ Refused c p → x ≡ refused c p
span_refused (got d n) c p e = never_done c p n (duration_of d) (sym e)
span_refused (refused j q) c p e = same_refused j q c p e

-- the number that was answered says the span
span_done : (x : Read Span) (a d : ℕ) → Given Lies Free x → span_answer x ≡ Done a d → x ≡ got (span_in d) a
span_done (got t n) a d (reads h) e =
    let q = done_parts n a (duration_of t) d e in
    let w : t ≡ span_in d = sym h ∙ ap span_in q.1 in
    rw (w, q.0)
span_done (refused c p) a d g e = never_done c p a d e

-- ---- objects that were taken

record Taken (x : Read (List ℕ)) (out m : List ℕ) (at : ℕ) : Type 0 where
  objects : List ℕ
  is : x ≡ got objects at
  stored : m ≡ sets out 0 objects

listed_done : (r : Parsed) (out m : List ℕ) (a u : ℕ) (x : Read (List ℕ)) → Listed r out m x → r ≡ Done a u → Taken x out m a
unfolding Listed
listed_done r out m a u (got os n) h e = let q = done_parts n a (length os) u (sym h.0 ∙ e) in record { objects = os; is = rw q.0; stored = h.1 }
listed_done r out m a u (refused c p) h e = never_done c p a u (sym h ∙ e)

-- ---- the action with a number, of what the model's numbers say

known_many : (tables : List ℕ) (c : Counts) (heads : List ℕ) (acting : ℕ) (rows : List ℕ)
    → length (known_in tables c heads acting rows).actions ≡ acting
known_many tables c heads acting rows =
    sym (length-map (known_in tables c heads acting rows).actions (λ (a : Action). a.declared))
    ∙ ap (λ (t : Table). length t) (known_named tables c heads acting rows)
    ∙ signed_length heads acting

module _ (tables : List ℕ) (c : Counts) (heads : List ℕ) (acting : ℕ) (rows : List ℕ) (i : ℕ) (h : i < acting) where
  known_declared : (action_of (known_in tables c heads acting rows).actions i).declared ≡ entry_at (signed_in heads acting) i
  unfolding known_in action_at action_by
  known_declared = rw (numbered (signed_in heads acting) rows 0 i _ (omega (arith, signed_length heads acting)))

  known_lasting : (action_of (known_in tables c heads acting rows).actions i).lasting ≡ lasts_at rows (place_in rows i 0)
  unfolding known_in action_at action_by
  known_lasting =
      let z : 0 + i ≡ i = omega arith in
      rw (numbered (signed_in heads acting) rows 0 i _ (omega (arith, signed_length heads acting)), z)

-- ---- the ways through an action

abbrev made : ℕ → ℕ → ℕ → List ℕ → List ℕ → Span → Step Act
made n start i s os d = record { line = n; start = start; span = d; act = record { action = i; objects = padded 4 os; width = length s } }

-- after the action's name: the objects, and how long it lasts, which l reads
abbrev behind : List ℕ → Known → ℕ → ℕ → ℕ → List ℕ → Reader Span → Reader (Step Act)
behind s k n start i wants l at = and_then (objects_to s k wants at) (λ os b. and_then (l b) (λ d e. got (made n start i s os d) e))

abbrev behind_of : List ℕ → Known → ℕ → ℕ → ℕ → Reader (Step Act)
behind_of s k n start i = behind s k n start i (wanted_of (action_of k.actions i).declared) (span_of s (action_of k.actions i).lasting)

module _ (s : List ℕ) (k : Known) (n start at : ℕ) where
  pub colon_refused : (c p : ℕ) → answer_of (mark s 58 at) ≡ Refused c p → act_at s k n start at ≡ refused c p
  unfolding act_at
  colon_refused c p e = rw (answer_refused (mark s 58 at) c p e)

  module _ (a v : ℕ) (m : answer_of (mark s 58 at) ≡ Done a v) where
    pub opening_refused : (c p : ℕ) → answer_of (opening s a) ≡ Refused c p → act_at s k n start at ≡ refused c p
    unfolding act_at
    opening_refused c p e = rw (answer_done (mark s 58 at) a v m, answer_refused (opening s a) c p e)

    module _ (b w : ℕ) (o : answer_of (opening s a) ≡ Done b w) where
      act_named : act_at s k n start at ≡ and_then (named_action s (declarations k.actions) b) (behind_of s k n start)
      unfolding act_at
      act_named = rw (answer_done (mark s 58 at) a v m, answer_done (opening s a) b w o) (named_then s (declarations k.actions) (behind_of s k n start) b)

-- the step as it lies in numbers, m what was stored of the objects
abbrev stored : ℕ → ℕ → ℕ → ℕ → List ℕ → ℕ → D.Step
stored n start d i m width =
    record { line = n; start = start; duration = d; action = i; a = get_or m 0 0; b = get_or m 1 0; c = get_or m 2 0; d = get_or m 3 0; width = width }

stored_lies : (s : List ℕ) (k : Known) (n start d i : ℕ) (m os : List ℕ) → i < length k.actions → start < 1000000000000 → d < 1000000000000 → m ≡ padded 4 os
    → step_in (stored n start d i m (length s)) ≡ made n start i s os (span_in d)
unfolding step_of
stored_lies s k n start d i m os below small short e =
    let x : Step Act = made n start i s os (span_in d) in
    let q : stored n start d i m (length s) ≡ step_of x = rw (e, duration_back d) in
    let y : ReadStep s k n 0 x = record {
      line = refl;
      rises = omega arith;
      start = small;
      width = refl;
      action = below;
      objects = length_padded 4 os;
      duration = rw (duration_back d) short;
      span = ap span_in (duration_back d);
    } in
    ap step_in q ∙ step_there s k n 0 x y

module _ (s tables : List ℕ) (c : Counts) (heads : List ℕ) (acting : ℕ) (rows : List ℕ) (n start at a v : ℕ) (m : answer_of (mark s 58 at) ≡ Done a v)
    (b w : ℕ) (o : answer_of (opening s a) ≡ Done b w) where
  abbrev known : Known
  known = known_in tables c heads acting rows

  act_known : act_at s known n start at ≡ and_then (named_action s (signed_in heads acting) b) (behind_of s known n start)
  act_known = act_named s known n start at a v m b w o ∙ ap (λ (t : Table). and_then (named_action s t b) (behind_of s known n start))
      (known_named tables c heads acting rows)

  pub name_refused : (q p : ℕ) → answer_of (named_action s (signed_in heads acting) b) ≡ Refused q p → act_at s known n start at ≡ refused q p
  name_refused q p e = act_known ∙ rw (answer_refused (named_action s (signed_in heads acting) b) q p e)

  module _ (e i : ℕ) (f : answer_of (named_action s (signed_in heads acting) b) ≡ Done e i) where
    below : i < acting
    below = action_below s heads acting b e i f

    abbrev wants : List ℕ
    wants = wanted_of (entry_at (signed_in heads acting) i)

    abbrev lasts : Bool
    lasts = lasts_of (lasts_at rows (place_in rows i 0))

    act_behind : act_at s known n start at ≡ behind s known n start i wants (lasting_read s lasts) e
    act_behind =
        act_known
        ∙ rw (
          answer_done (named_action s (signed_in heads acting) b) e i f,
          known_declared tables c heads acting rows i below,
          known_lasting tables c heads acting rows i below,
        )
        (ap (λ (h : Reader Span). behind s known n start i wants h e) (λ j g. sym (span_lasting s (lasts_at rows (place_in rows i 0)) g) j))

    module _ (r : Parsed) (out t : List ℕ) (l : Listed r out t (objects_to s known wants e)) where
      pub objects_refused : (q p : ℕ) → r ≡ Refused q p → act_at s known n start at ≡ refused q p
      objects_refused q p h = act_behind ∙ rw (listed_refused r out t q p _ l h)

      module _ (g u : ℕ) (h : r ≡ Done g u) where
        taken : Taken (objects_to s known wants e) out t g
        taken = listed_done r out t g u (objects_to s known wants e) l h

        pub lasting_refused : (q p : ℕ) → span_answer (lasting_read s lasts g) ≡ Refused q p → act_at s known n start at ≡ refused q p
        lasting_refused q p y = act_behind ∙ rw (taken.is, span_refused (lasting_read s lasts g) q p y)

        module _ (z d : ℕ) (y : span_answer (lasting_read s lasts g) ≡ Done z d) where
          act_read : act_at s known n start at ≡ got (made n start i s taken.objects (span_in d)) z
          act_read = act_behind ∙ rw (taken.is, span_done (lasting_read s lasts g) z d (span_lies s lasts g) y)

          pub act_stepped : out ≡ 0 ∷ 0 ∷ 0 ∷ 0 ∷ [] → start < 1000000000000 → d < 1000000000000
              → Stepped acting (Ok (stored n start d i t (length s))) (act_at s known n start at)
          unfolding Stepped
          act_stepped zeros small short =
              rw act_read (stored n start d i t (length s), refl, lies, (below, small, short))
            where
              count : length taken.objects ≤ 4
              count = omega (arith, given_got (objects_count s known wants e) taken.is, arity_signed heads acting i)

              lies : step_in (stored n start d i t (length s)) ≡ made n start i s taken.objects (span_in d)
              lies =
                  stored_lies s known n start d i t taken.objects (omega (arith, below, known_many tables c heads acting rows)) small short
                  (taken.stored ∙ ap (λ (h : List ℕ). sets h 0 taken.objects) zeros ∙ four_padded taken.objects count)

-- ---- the ways through a line

abbrev line_of : Result D.Step Refusal → Line
line_of (Ok y) = R.Read y
line_of (Err why) = R.Refused why.0 why.1

stepped_lined : (n : ℕ) (r : Result D.Step Refusal) (x : Read (Step Act)) → Stepped n r x → Lined n (line_of r) (and_then x (λ y e. got (some y) e))
unfolding Stepped Lined
stepped_lined n r (got y e) h = (h.0, ap line_of h.1, h.2, h.3)
stepped_lined n r (refused c p) h = ap line_of h

module _ (s : List ℕ) (k : Known) (n before : ℕ) (t : Token) where
  pub start_refused : (c p : ℕ) → answer_of (start_at before t (after_of t)) ≡ Refused c p → step_from s k n before t (after_of t) ≡ refused c p
  unfolding step_from
  start_refused c p h = rw (answer_refused (start_at before t (after_of t)) c p h)

  pub step_started : (a start : ℕ) → answer_of (start_at before t (after_of t)) ≡ Done a start → step_from s k n before t (after_of t) ≡ act_at s k n start a
  unfolding step_from
  step_started a start h = rw (answer_done (start_at before t (after_of t)) a start h)

module _ (s : List ℕ) (k : Known) (n before at acting : ℕ) where
  pub line_blank : (p : ℕ) → plan_token_at s at ≡ T.End p → Lined acting R.Blank (line_at s k n before at)
  unfolding line_at Lined
  line_blank p e = rw e refl

  module _ (t : Token) (e : t ≡ plan_token_at s at) (o : OneOf (0 ∷ 1 ∷ 2 ∷ 3 ∷ 4 ∷ 5 ∷ []) (tag_of token-type.the_type t)) where
    line_started : line_at s k n before at ≡ and_then (step_from s k n before t (after_of t)) (λ x z. got (some x) z)
    unfolding line_at step_from
    line_started = rw (← e, not_end t _ _ o) (go (start_at before t (after_of t)))
      where
        go : (x : Read ℕ) → and_then x (λ start a. and_then (act_at s k n start a) (λ y z. got (some y) z)) ≡ and_then
            (and_then x (λ start a. act_at s k n start a)) (λ y z. got (some y) z)
        go (got start a) = refl
        go (refused c p) = refl

    pub line_stepped : (r : Result D.Step Refusal) → Stepped acting r (step_from s k n before t (after_of t)) → Lined acting (line_of r) (line_at s k n before at)
    line_stepped r h = rw line_started (stepped_lined acting r (step_from s k n before t (after_of t)) h)
