-- A problem, and reading its text: "a problem domain, objects, init, goal, the middle two optional". RULES 5.
use Rattle.std.specs.Prelude.{ℕ, zero, suc, ◌+◌, List, [], ◌∷◌, ◌++◌, Bool, true, false, cond, ◌&&◌, ◌||◌, ℤ, length, eqb, leb}
use Prim.Native.String.{String}
use Rattle.text_words.specs.Bytes.{bytes}
use Rattle.text_words.specs.Spelling.{same_word}
use Rattle.text_tokens.specs.Runs.{part}
use Rattle.text_tokens.specs.declared.tokens.Token.{Token}
use Rattle.text_tokens.specs.declared.tokens.Word.{Word}
use Rattle.text_tokens.specs.declared.tokens.Word.TheVariants as W
use Rattle.domain_meaning.specs.Read.{◌>>=◌, Read, Reader, give, refuse}
use Rattle.domain_meaning.specs.Tables.{Table, declared}
use Rattle.domain_meaning.specs.Due.{token, peek, wrong, on_number, opening, closing, on_close, on_word, word_due, Name, any_name}
use Rattle.domain_meaning.specs.Lists.{names_to}
use Rattle.domain_meaning.specs.Terms.{Scope, reference}
use Rattle.domain_meaning.specs.Indexes.{sum_of, index_of}
use Rattle.domain_meaning.specs.Conditions.{Cond, condition}
use Rattle.domain_meaning.specs.Domain.{Domain, on_opened, begins, section, ending, heading}

-- ---- init: "atoms and `(= (f ..) number)`; other facts are false, other numbers undefined"

-- a ground number's first value
pub record Valued : Type 0 where
  pub index : ℕ
  pub value : ℤ

-- the facts that are true, and the numbers that are defined, in their order
pub record Init : Type 0 where
  pub facts : List ℕ
  pub numbers : List Valued

unfoldable pub is_given : ℕ → List Valued → Bool
is_given i [] = false
is_given i (v ∷ vs) = eqb i v.index || is_given i vs

-- "7 .. number in init, given twice: the second name", as soon as its `(f ..)` is closed
abbrev pub once : ℕ → ℕ → List Valued → Reader ℕ
once p i vs = cond (is_given i vs) (refuse 7 p) (give i)

abbrev pub number_due : Token → Reader ℤ
number_due t = on_number t (λ z p. give z) (wrong 13 t)

abbrev pub with_fact : Init → ℕ → Init
with_fact x i = record { facts = x.facts ++ i ∷ []; numbers = x.numbers }

abbrev pub with_number : Init → ℕ → ℤ → Init
with_number x i z = record { facts = x.facts; numbers = x.numbers ++ record { index = i; value = z } ∷ [] }

abbrev pub value_of : List ℕ → Scope → Init → Reader Init
value_of s c x = do
  _ ← opening s 13
  n ← any_name s 12
  f ← declared c.functions n.place n.word
  r ← reference s 12 c c.functions f
  i ← once n.place (index_of (length c.objects) c.functions r) x.numbers
  t ← token s
  z ← number_due t
  _ ← closing s 13
  give (with_number x i z)

abbrev pub fact_of : List ℕ → Scope → Init → ℕ → ℕ → Reader Init
fact_of s c x p e = do
  i ← declared c.predicates p (part s p e)
  r ← reference s 13 c c.predicates i
  give (with_fact x (index_of (length c.objects) c.predicates r))

abbrev pub init_word : List ℕ → Scope → Init → Word → ℕ → ℕ → Reader Init
init_word s c x W.Name p e = fact_of s c x p e
init_word s c x W.Operator p e = cond (same_word (part s p e) (bytes "=")) (value_of s c x) (refuse 3 p)
init_word s c x W.Variable p e = refuse 3 p
init_word s c x W.Keyword p e = refuse 3 p

-- what init holds, to its closing bracket. The first number bounds the steps
unfoldable pub init_to : ℕ → List ℕ → Scope → Init → Reader Init
init_to zero s c x = refuse 0 0
init_to (suc k) s c x = do
  t ← peek s
  on_close t
      (λ p. do
        _ ← closing s 14
        give x)
      (do
        _ ← opening s 14
        h ← token s
        y ← on_word h (init_word s c x) (wrong 13 h)
        init_to k s c y)

-- ---- "With n objects, .. the sum of n^arguments is at most 16,384 over predicates and 1,024 over functions": 12 at `:init`, else `:goal`

abbrev pub sums_fit : Scope → Bool
sums_fit c = leb (sum_of (length c.objects) c.predicates) 16384 && leb (sum_of (length c.objects) c.functions) 1024

abbrev pub sums_at : Scope → ℕ → Reader ℕ
sums_at c p = cond (sums_fit c) (give p) (refuse 12 p)

-- a section that is due: its bracket, then its word. Any other word is 3, also `:init` and `:goal`: the sums are judged at those in their turn
unfoldable pub section_due_of : List ℕ → List ℕ → Reader ℕ
section_due_of s w = do
  _ ← opening s 15
  word_due s 14 w

abbrev pub section_due : List ℕ → String → Reader ℕ
section_due s w = section_due_of s (bytes w)

pub record Problem : Type 0 where
  pub objects : Table
  pub init : Init
  pub goal : Cond

abbrev pub scope_of : Domain → Table → Scope
scope_of d os = record { types = d.types; objects = os; predicates = d.predicates; functions = d.functions; variables = []; in_action = false }

-- "13 problem names another domain: the name"
abbrev pub same_domain : Domain → Name → Reader Name
same_domain d n = cond (same_word n.word d.name) (give n) (refuse 13 n.place)

abbrev pub of_domain : List ℕ → Domain → Reader ℕ
of_domain s d = do
  _ ← section_due s ":domain"
  n ← any_name s 14
  _ ← same_domain d n
  closing s 14

abbrev pub nothing : Init
nothing = record { facts = []; numbers = [] }

abbrev pub init_at : List ℕ → Scope → ℕ → Reader Init
init_at s c p = do
  _ ← sums_at c p
  init_to (length s + 1) s c nothing

-- "64 single conditions in the goal"
abbrev pub goal_to : List ℕ → Scope → Reader Cond
goal_to s c = do
  g ← condition 14 s c 64
  _ ← closing s 14
  give g.tree

-- init and goal: the sums are judged at the first of them
unfoldable pub init_and_goal : List ℕ → Scope → Reader Problem
init_and_goal s c = do
  o ← begins s ":init"
  x ← on_opened o (λ p. init_at s c p) (give nothing)
  q ← section_due s ":goal"
  _ ← on_opened o (λ p. give q) (sums_at c q)
  g ← goal_to s c
  give (record { objects = c.objects; init = x; goal = g })

-- what a problem has before init: the objects, after the domain's constants
unfoldable pub premises : List ℕ → Domain → Reader Table
premises s d = do
  _ ← heading s "problem"
  _ ← of_domain s d
  section s ":objects" d.constants (names_to s d.types 64 d.constants)

unfoldable pub problem_text : List ℕ → Domain → Reader Problem
problem_text s d = do
  os ← premises s d
  p ← init_and_goal s (scope_of d os)
  _ ← ending s
  give p

unfoldable pub read_problem : List ℕ → Domain → Read Problem
read_problem s d = problem_text s d 0
