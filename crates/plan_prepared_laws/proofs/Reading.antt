-- Plan lines are read over prepared actions as over the actions: they see what an action declares and whether it lasts. Assumes nothing.
use Prim.Native.Nat.{ℕ, zero, suc}
use Prim.Native.Char.{code}
use mathlib.Core.Path.{◌≡◌, refl, ap, ◌∙◌, fun_ext}
use mathlib.Core.List.{List, [], ◌∷◌}
use mathlib.Core.Option.{some, none}
use lib.ListN.{length}
use Rattle.domain_meaning.specs.Indexes.{padded}
use Rattle.domain_meaning.specs.Read.{◌>>=◌, Reader, give, refuse}
use Rattle.domain_meaning.specs.Tables.{Table, wanted_of, declared}
use Rattle.domain_meaning.specs.Due.{on_close, on_end}
use Rattle.domain_meaning.specs.Actions.{Lasting, Action}
use Rattle.domain_meaning.specs.Actions as A
use Rattle.domain_prepared_meaning.specs.Preparing.{lasts}
use Rattle.domain_prepared_meaning.proofs.Declared.{declared_same, all_declared, lasting_same, lasts_moment, lasts_rule}
use Rattle.plan_meaning.specs.Plan.{Span, Step}
use Rattle.plan_meaning.specs.Promised.{Act, action_of}
use Rattle.plan_meaning.specs.Lines.{Known, token, peek, mark, opening, name, start_at, argument, fits, objects_to, span_of, act_at, line_at}
use Rattle.plan_meaning.specs.Lines.{answer_of, long_of, reader}
use Rattle.plan_prepared_laws.proofs.Rules.{preparing}

-- what is known of names with other actions
abbrev known : Table → Table → List Action → Known
known ts os as' = record { types = ts; objects = os; actions = as' }

objects_same : (s : List ℕ) (ts os : Table) (as' bs : List Action) (wants : List ℕ)
    → objects_to s (known ts os as') wants ≡ objects_to s (known ts os bs) wants
unfolding objects_to argument fits
objects_same s ts os as' bs [] = refl
objects_same s ts os as' bs (want ∷ wants) =
    ap (λ (f : Reader (List ℕ)). do
      t ← peek s
      on_close t
          (λ p. refuse 9 p)
          (do
            g ← argument s (known ts os as')
            i ← fits (known ts os as') want g
            is ← f
            give (i ∷ is)))
    (objects_same s ts os as' bs wants)

-- with n objects, the first indexes of predicates (ps) and of functions (fs)
module _ (n : ℕ) (ps fs : List ℕ) where
  lasts_span : (s : List ℕ) (l : Lasting) → span_of s (lasts n ps fs l) ≡ span_of s l
  unfolding span_of
  lasts_span s A.moment = ap (span_of s) (lasts_moment n ps fs)
  lasts_span s (A.rule e) = ap (span_of s) (lasts_rule n ps fs e)

  -- also past the last action
  span_same : (s : List ℕ) (as' : List Action) (i : ℕ) → span_of s (action_of (preparing n ps fs as') i).lasting ≡ span_of s (action_of as' i).lasting
  span_same s [] i = refl
  span_same s (a ∷ as') zero = ap (span_of s) (lasting_same n ps fs a) ∙ lasts_span s a.lasting
  span_same s (a ∷ as') (suc i) = span_same s as' i

  wanted_same : (as' : List Action) (i : ℕ) → (action_of (preparing n ps fs as') i).declared ≡ (action_of as' i).declared
  wanted_same [] i = refl
  wanted_same (a ∷ as') zero = declared_same n ps fs a
  wanted_same (a ∷ as') (suc i) = wanted_same as' i

  module _ (ts os : Table) (as' : List Action) where
    abbrev as_read : Known
    as_read = known ts os as'

    abbrev as_prepared : Known
    as_prepared = known ts os (preparing n ps fs as')

    -- a line after its start, by the names of the actions, the reader of each one's objects and the reader of its duration
    abbrev act_by : List ℕ → ℕ → ℕ → Table → (ℕ → Reader (List ℕ)) → (ℕ → Reader Span) → Reader (Step Act)
    act_by s m start names objects span = do
      _ ← mark s (code ":")
      _ ← opening s
      w ← name s
      i ← declared names w.place w.word
      is ← objects i
      d ← span i
      give (record { line = m; start = start; span = d; act = record { action = i; objects = padded 4 is; width = length s } })

    act_same : (s : List ℕ) (m start : ℕ) → act_at s as_prepared m start ≡ act_at s as_read m start
    unfolding act_at
    act_same s m start =
        let objects : (i : ℕ) → objects_to s as_prepared (wanted_of (action_of as_prepared.actions i).declared)
        ≡ objects_to s as_read (wanted_of (action_of as' i).declared) =
        λ i. ap (λ e. objects_to s as_prepared (wanted_of e)) (wanted_same as' i)
        ∙ objects_same s ts os (preparing n ps fs as') as' (wanted_of (action_of as' i).declared) in
        λ j. act_by s m start (all_declared n ps fs as' j) (λ i. objects i j) (λ i. span_same s as' i j)

    line_same : (s : List ℕ) (m before : ℕ) → line_at s as_prepared m before ≡ line_at s as_read m before
    unfolding line_at
    line_same s m before =
        ap (λ (f : ℕ → Reader (Step Act)). do
          t ← token s
          on_end t (λ p. give none)
              (do
                start ← start_at before t
                x ← f start
                give (some x)))
        (fun_ext (act_same s m))

    pub reader_same : reader as_prepared ≡ reader as_read
    reader_same = λ i. record {
      width = 256;
      most = 1000000;
      line = λ m before s. answer_of m (line_same s m before i 0);
      long = λ m before s. long_of m (line_same s m before i 0);
      beyond = λ m. (reader as_read).beyond m;
    }
