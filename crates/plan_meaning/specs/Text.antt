-- What a plan's text means, over the whole text at once: its lines, what each says, and what they come to. RULES 10.
use Rattle.std.specs.Prelude.{ℕ, suc, Bool, true, false, cond, ◌&&◌, ◌||◌, List, [], ◌∷◌, ◌++◌, ltb, eqb, length, take}
use Rattle.plan_meaning.specs.Plan.{Rules, Limits, Answer, blank, step, refusal, Result, result}

-- what the layer of words promises: how a line is read, from its number, the start of the step before it, and its bytes, and the refusal of one that
-- is too long, from its bytes up to the first past the limit
pub record Reader (A E : Type 0) : Type 0 where
  pub width : ℕ
  pub most : ℕ
  pub line : ℕ → ℕ → List ℕ → Answer A E
  pub long : ℕ → ℕ → List ℕ → E
  pub beyond : ℕ → E

-- parts as one text
abbrev pub joined : List (List ℕ) → List ℕ
joined [] = []
joined (p ∷ ps) = p ++ joined ps

abbrev pub onto : ℕ → List (List ℕ) → List (List ℕ)
onto b [] = (b ∷ []) ∷ []
onto b (l ∷ ls) = (b ∷ l) ∷ ls

-- the lines of a text: what stands before, between and after its LFs
abbrev pub lines : List ℕ → List (List ℕ)
lines [] = [] ∷ []
lines (b ∷ bs) = cond (eqb b 10) ([] ∷ lines bs) (onto b (lines bs))

-- there is a byte, an LF counted, in a line or after it
abbrev pub some_byte : List ℕ → List (List ℕ) → Bool
some_byte [] [] = false
some_byte [] (m ∷ ls) = true
some_byte (b ∷ l) ls = true

-- the start of the last step, once a line has been read
abbrev pub start_after : {A E : Type 0} → ℕ → Answer A E → ℕ
start_after s blank = s
start_after s (step x) = x.start
start_after s (refusal e) = s

module _ {A E : Type 0} (D : Reader A E) where
  -- what a line says, s the start of the step before it
  abbrev pub says : ℕ → ℕ → List ℕ → Answer A E
  says n s l = cond (ltb D.width (length l)) (refusal (D.long n s (take (suc D.width) l))) (D.line n s l)

  -- the same, with the lines after it: past the last line that may be, a byte is refused
  abbrev pub answer : ℕ → ℕ → List ℕ → List (List ℕ) → Answer A E
  answer n s l ls = cond (ltb D.most n && some_byte l ls) (refusal (D.beyond n)) (says n s l)

  -- what the lines from number n on say
  abbrev pub answers : ℕ → ℕ → List (List ℕ) → List (Answer A E)
  answers n s [] = []
  answers n s (l ∷ ls) = answer n s l ls ∷ answers (suc n) (start_after s (answer n s l ls)) ls

  -- "A line is judged when its LF, its byte at column 257 or the finish is met": of the lines from number n on of a text that may go on, the last one says
  -- nothing before it is too long or has a byte past the last line that may be
  abbrev pub judged : ℕ → List (List ℕ) → List (List ℕ)
  judged n [] = []
  judged n (l ∷ []) = cond (ltb D.width (length l) || ltb D.most n) l [] ∷ []
  judged n (l ∷ m ∷ ls) = l ∷ judged (suc n) (m ∷ ls)

module _ {S A W E : Type 0} (R : Rules S A W) (L : Limits A E) (D : Reader A E) where
  -- what a text comes to
  unfoldable pub meaning : List ℕ → Result S W E
  meaning text = result R L (answers D 1 0 (lines text))
