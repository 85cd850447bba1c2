-- Plan lines: "One step a line: `start: (action objects) [duration]`, the bracket for durative actions only. Blank lines and comments pass." RULES 10.
use Rattle.std.specs.Prelude.{ℕ, ◌+◌, List, [], ◌∷◌, map, cond, eqb, ltb, nat_abs, length}
use Prim.Native.Char.{code}
use Rattle.std.proofs.Math.Option.{Option, some, none}
use Rattle.text_tokens.specs.Runs.{part}
use Rattle.text_tokens.specs.Tokens.{plan_token_at}
use Rattle.text_tokens.specs.declared.tokens.Token.{Token}
use Rattle.text_tokens.specs.declared.tokens.Token.TheVariants as T
use Rattle.domain_meaning.specs.Indexes.{padded}
use Rattle.domain_meaning.specs.Read.{◌>>=◌, Read, Reader, got, refused, give, refuse}
use Rattle.domain_meaning.specs.Tables.{Table, entry_at, type_of, wanted_of, declared, is_below}
use Rattle.domain_meaning.specs.Due.{after_of, wrong, on_word, on_number, on_open, on_close, on_end, Name}
use Rattle.domain_meaning.specs.Actions.{Lasting, Action}
use Rattle.domain_meaning.specs.Actions as A
use Rattle.plan_meaning.specs.Plan.{Span, moment, lasting, Step, Answer, blank, step, refusal, Limits}
use Rattle.plan_meaning.specs.Text as X
use Rattle.plan_meaning.specs.Promised.{Act, action_of}

-- what a plan's names stand for
pub record Known : Type 0 where
  pub types : Table
  pub objects : Table
  pub actions : List Action

-- ---- what is due in a line; brackets do not nest there, so no level is counted

abbrev pub token : List ℕ → Reader Token
token s at = got (plan_token_at s at) (after_of (plan_token_at s at))

abbrev pub peek : List ℕ → Reader Token
peek s at = got (plan_token_at s at) at

abbrev pub misplaced : {A : Type 0} → Token → Reader A
misplaced t = wrong 1 t

-- a colon or a square bracket: which one and its place
abbrev pub on_mark : {A : Type 0} → Token → (ℕ → ℕ → A) → A → A
on_mark (T.Word k p e) f a = a
on_mark (T.Number z p e) f a = a
on_mark (T.Open p n) f a = a
on_mark (T.Close p n) f a = a
on_mark (T.Mark b p n) f a = f b p
on_mark (T.Refusal k p) f a = a
on_mark (T.End p) f a = a

unfoldable pub mark : List ℕ → ℕ → Reader ℕ
mark s b = do
  t ← token s
  on_mark t (λ c p. cond (eqb c b) (give p) (refuse 3 p)) (misplaced t)

unfoldable pub opening : List ℕ → Reader ℕ
opening s = do
  t ← token s
  on_open t (λ p. give p) (misplaced t)

-- "In plans there are no keywords": a word there is a name
unfoldable pub name : List ℕ → Reader Name
name s = do
  t ← token s
  on_word t (λ k p e. give (record { place = p; word = part s p e })) (misplaced t)

unfoldable pub line_end : List ℕ → Reader ℕ
line_end s = do
  t ← token s
  on_end t (λ p. give p) (misplaced t)

-- ---- the start: "16 start below the previous step's start"

unfoldable pub start_at : ℕ → Token → Reader ℕ
start_at before t = on_number t (λ z p. cond (ltb (nat_abs z) before) (refuse 16 p) (give (nat_abs z))) (misplaced t)

-- ---- the objects: rows 8, 9 and 10 as in the domain

-- an object, where it stands
pub record Given : Type 0 where
  pub place : ℕ
  pub object : ℕ

unfoldable pub argument : List ℕ → Known → Reader Given
argument s k = do
  n ← name s
  i ← declared k.objects n.place n.word
  give (record { place = n.place; object = i })

unfoldable pub fits : Known → ℕ → Given → Reader ℕ
fits k want g =
    cond (is_below (length k.types) k.types (type_of (entry_at k.objects g.object)) want) (give g.object) (refuse 10 g.place)

-- to the closing bracket
unfoldable pub objects_to : List ℕ → Known → List ℕ → Reader (List ℕ)
objects_to s k [] = do
  t ← peek s
  on_close t
      (λ p. do
        _ ← token s
        give [])
      (do
        g ← argument s k
        refuse 9 g.place)
objects_to s k (want ∷ wants) = do
  t ← peek s
  on_close t
      (λ p. refuse 9 p)
      (do
        g ← argument s k
        i ← fits k want g
        is ← objects_to s k wants
        give (i ∷ is))

-- ---- the duration: "17 bracket missing, not wanted, or holding 0: line end, `[`, the number"

-- after `[`
unfoldable pub duration_in : List ℕ → Reader Span
duration_in s = do
  t ← token s
  d ← on_number t (λ z p. cond (eqb (nat_abs z) 0) (refuse 17 p) (give (nat_abs z))) (misplaced t)
  _ ← mark s (code "]")
  _ ← line_end s
  give (lasting d)

abbrev pub bracket_of : List ℕ → Lasting → ℕ → ℕ → Reader Span
bracket_of s A.moment b p = cond (eqb b (code "[")) (refuse 17 p) (refuse 3 p)
bracket_of s (A.rule e) b p = cond (eqb b (code "[")) (duration_in s) (refuse 3 p)

abbrev pub end_of : Lasting → ℕ → Reader Span
end_of A.moment p = give moment
end_of (A.rule e) p = refuse 17 p

unfoldable pub span_of : List ℕ → Lasting → Reader Span
span_of s l = do
  t ← token s
  on_end t (end_of l) (on_mark t (bracket_of s l) (misplaced t))

-- ---- a line

abbrev pub declarations : List Action → Table
declarations as' = map (λ (a : Action). a.declared) as'

-- after the start: n is the line's number
unfoldable pub act_at : List ℕ → Known → ℕ → ℕ → Reader (Step Act)
act_at s k n start = do
  _ ← mark s (code ":")
  _ ← opening s
  w ← name s
  i ← declared (declarations k.actions) w.place w.word
  os ← objects_to s k (wanted_of (action_of k.actions i).declared)
  d ← span_of s (action_of k.actions i).lasting
  give (record { line = n; start = start; span = d; act = record { action = i; objects = padded 4 os; width = length s } })

-- a line is a step or nothing; `before` is the previous step's start
unfoldable pub line_at : List ℕ → Known → ℕ → ℕ → Reader (Option (Step Act))
line_at s k n before = do
  t ← token s
  on_end t (λ p. give none)
      (do
        start ← start_at before t
        x ← act_at s k n start
        give (some x))

-- ---- "in plans, line and column from 1, a line's end being its length plus 1"

pub record Refused : Type 0 where
  pub number : ℕ
  pub line : ℕ
  pub column : ℕ

abbrev pub refused_at : ℕ → ℕ → ℕ → Refused
refused_at k n p = record { number = k; line = n; column = p + 1 }

abbrev pub answer_of : ℕ → Read (Option (Step Act)) → Answer Act Refused
answer_of n (got (some x) at) = step x
answer_of n (got none at) = blank
answer_of n (refused k p) = refusal (refused_at k n p)

-- "of one too long, only what ends before column 257 is judged, and if none of it is refused it is 14"
abbrev pub long_of : ℕ → Read (Option (Step Act)) → Refused
long_of n (got x at) = refused_at 14 n 256
long_of n (refused k p) = refused_at k n p

abbrev pub reader : Known → X.Reader Act Refused
reader k =
    record {
      width = 256;
      most = 1000000;
      line = λ n before s. answer_of n (line_at s k n before 0);
      long = λ n before s. long_of n (line_at s k n before 0);
      beyond = λ n. refused_at 15 n 0;
    }

-- "18 too many waiting points: line end"
abbrev pub limits : Limits Act Refused
limits = record { waiting = 64; crowded = λ x. refused_at 18 x.line x.act.width }
