-- Arguments, references to facts and numbers, and expressions: as trees, and reading them. RULES 4.
use Rattle.std.specs.Prelude.{ℕ, zero, suc, ◌+◌, ◌-◌, List, [], ◌∷◌, Bool, cond, ℤ, eqb, length}
use Rattle.text_words.specs.Fixed.{head_of}
use Rattle.text_words.specs.declared.fixed.HeadWord.{HeadWord}
use Rattle.text_words.specs.declared.fixed.HeadWord.TheVariants as H
use Rattle.text_tokens.specs.Runs.{part}
use Rattle.text_tokens.specs.declared.tokens.Token.{Token}
use Rattle.text_tokens.specs.declared.tokens.Word.{Word}
use Rattle.text_tokens.specs.declared.tokens.Word.TheVariants as W
use Rattle.domain_meaning.specs.Read.{◌>>=◌, Reader, give, refuse}
use Rattle.domain_meaning.specs.Tables.{Table, entry_at, type_of, wanted_of, declared, is_below}
use Rattle.domain_meaning.specs.Due.{token, peek, wrong, on_number, on_open, closing, on_close, on_word}

-- what has been declared where a condition or an effect stands
pub record Scope : Type 0 where
  pub types : Table
  pub objects : Table
  pub predicates : Table
  pub functions : Table
  -- the action's parameters
  pub variables : Table
  -- whether there is an action: "A variable in init, goal or plan is 3"
  pub in_action : Bool

-- an argument: an object, or a parameter of the action
pub data Arg : Type 0 where
  object : ℕ → Arg
  variable : ℕ → Arg

-- a predicate or function with its arguments
pub record Ref : Type 0 where
  pub head : ℕ
  pub args : List Arg

pub data Expr : Type 0 where
  number : ℤ → Expr
  value : Ref → Expr
  minus : Expr → Expr
  difference : Expr → Expr → Expr
  plus : Expr → Expr → Expr

-- ---- arguments

-- an argument where it stands, with its type
pub record Given : Type 0 where
  pub place : ℕ
  pub arg : Arg
  pub type : ℕ

abbrev pub object_at : Scope → ℕ → ℕ → Given
object_at c p i = record { place = p; arg = object i; type = type_of (entry_at c.objects i) }

abbrev pub variable_at : Scope → ℕ → ℕ → Given
variable_at c p i = record { place = p; arg = variable i; type = type_of (entry_at c.variables i) }

-- "8 undeclared name, or action's variable, where a declared one is due"
abbrev pub given_by : List ℕ → Scope → Word → ℕ → ℕ → Reader Given
given_by s c W.Name p e = do
  i ← declared c.objects p (part s p e)
  give (object_at c p i)
given_by s c W.Variable p e =
    cond c.in_action
    (do
      i ← declared c.variables p (part s (p + 1) e)
      give (variable_at c p i))
    (refuse 3 p)
given_by s c W.Keyword p e = refuse 3 p
given_by s c W.Operator p e = refuse 3 p

unfoldable pub argument : List ℕ → ℕ → Scope → Reader Given
argument s d c = do
  t ← token s
  on_word t (given_by s c) (wrong d t)

-- "10 argument's type isn't the wanted type or below it"
unfoldable pub fits : Scope → ℕ → Given → Reader Arg
fits c want g = cond (is_below (length c.types) c.types g.type want) (give g.arg) (refuse 10 g.place)

-- the arguments of wanted types, to the closing bracket. "9 wrong count of arguments: first extra one, or the closing bracket"
unfoldable pub arguments : List ℕ → ℕ → Scope → List ℕ → Reader (List Arg)
arguments s d c [] = do
  t ← peek s
  on_close t
      (λ p. do
        _ ← closing s d
        give [])
      (do
        g ← argument s d c
        refuse 9 g.place)
arguments s d c (want ∷ wants) = do
  t ← peek s
  on_close t
      (λ p. refuse 9 p)
      (do
        g ← argument s d c
        a ← fits c want g
        as' ← arguments s d c wants
        give (a ∷ as'))

-- after its name: a reference to number i of a table, to its closing bracket
unfoldable pub reference : List ℕ → ℕ → Scope → Table → ℕ → Reader Ref
reference s d c t i = do
  as' ← arguments s d c (wanted_of (entry_at t i))
  give (record { head = i; args = as' })

-- ---- counting: "first name, number, head word (past any `not`) .. too many"

-- something that was read, and how many more may follow
pub record Counted (A : Type 0) : Type 0 where
  pub tree : A
  pub left : ℕ

-- one more at p, of which n are left
unfoldable pub counted : ℕ → ℕ → Reader ℕ
counted p zero = refuse 12 p
counted p (suc n) = give n

-- ---- expressions: "16 operators and operands per expression"; n of them are left

abbrev pub counts : {A : Type 0} → A → ℕ → Counted A
counts x n = record { tree = x; left = n }

-- a number; anything else is no expression
abbrev pub number_at : ℕ → ℤ → ℕ → Reader (Counted Expr)
number_at n z p = do
  m ← counted p n
  give (counts (number z) m)

abbrev pub leaf : ℕ → ℕ → Token → Reader (Counted Expr)
leaf d n t = on_number t (number_at n) (wrong d t)

-- after the last operand, n operators and operands being left: a number there is one too many, or not allowed
unfoldable pub operands_end : List ℕ → ℕ → ℕ → Reader ℕ
operands_end s d n = do
  t ← token s
  on_close t (λ p. give p) (on_number t (λ z p. cond (eqb n 0) (refuse 12 p) (refuse 3 p)) (wrong d t))

-- "`+` of two": f reads an expression one level down
abbrev pub plus_of : List ℕ → ℕ → (ℕ → Reader (Counted Expr)) → ℕ → Reader (Counted Expr)
plus_of s d f n = do
  a ← f n
  b ← f a.left
  _ ← operands_end s d b.left
  give (counts (plus a.tree b.tree) b.left)

-- "`-` of one or two expressions"
abbrev pub minus_of : List ℕ → ℕ → (ℕ → Reader (Counted Expr)) → ℕ → Reader (Counted Expr)
minus_of s d f n = do
  a ← f n
  t ← peek s
  on_close t
      (λ p. do
        _ ← closing s d
        give (counts (minus a.tree) a.left))
      (do
        b ← f a.left
        _ ← operands_end s d b.left
        give (counts (difference a.tree b.tree) b.left))

-- what to do with the heads `and` and `not`, and with any other
abbrev pub on_name : {A : Type 0} → HeadWord → A → A → A → A
on_name H.And a n o = a
on_name H.Not a n o = n
on_name H.Equal a n o = o
on_name H.Less a n o = o
on_name H.AtMost a n o = o
on_name H.More a n o = o
on_name H.AtLeast a n o = o
on_name H.Plus a n o = o
on_name H.Minus a n o = o
on_name H.Assign a n o = o
on_name H.Increase a n o = o
on_name H.Decrease a n o = o
on_name H.Other a n o = o

abbrev pub operation : List ℕ → ℕ → (ℕ → Reader (Counted Expr)) → ℕ → HeadWord → ℕ → Reader (Counted Expr)
operation s d f n H.Plus p = do
  m ← counted p n
  plus_of s d f m
operation s d f n H.Minus p = do
  m ← counted p n
  minus_of s d f m
operation s d f n H.And p = refuse 3 p
operation s d f n H.Not p = refuse 3 p
operation s d f n H.Equal p = refuse 3 p
operation s d f n H.Less p = refuse 3 p
operation s d f n H.AtMost p = refuse 3 p
operation s d f n H.More p = refuse 3 p
operation s d f n H.AtLeast p = refuse 3 p
operation s d f n H.Assign p = refuse 3 p
operation s d f n H.Increase p = refuse 3 p
operation s d f n H.Decrease p = refuse 3 p
operation s d f n H.Other p = refuse 3 p

-- "Functions are always bracketed."
abbrev pub function_at : List ℕ → ℕ → Scope → ℕ → ℕ → ℕ → Reader (Counted Expr)
function_at s d c n p e = do
  i ← declared c.functions p (part s p e)
  m ← counted p n
  r ← reference s d c c.functions i
  give (counts (value r) m)

-- what stands after a bracket, by its head word from p to e
abbrev pub headed : List ℕ → ℕ → Scope → (ℕ → Reader (Counted Expr)) → ℕ → Word → ℕ → ℕ → Reader (Counted Expr)
headed s d c f n W.Name p e = function_at s d c n p e
headed s d c f n W.Variable p e = refuse 3 p
headed s d c f n W.Keyword p e = refuse 3 p
headed s d c f n W.Operator p e = operation s d f n (head_of (part s p e)) p

abbrev pub in_bracket : List ℕ → ℕ → Scope → (ℕ → Reader (Counted Expr)) → ℕ → Reader (Counted Expr)
in_bracket s d c f n = do
  h ← token s
  on_word h (headed s d c f n) (wrong d h)

-- an expression, where d levels of brackets are left
unfoldable pub expr : ℕ → List ℕ → Scope → ℕ → Reader (Counted Expr)
expr zero s c n = do
  t ← token s
  leaf zero n t
expr (suc d) s c n = do
  t ← token s
  on_open t (λ p. in_bracket s d c (expr d s c) n) (leaf (suc d) n t)

-- an expression of its own
unfoldable pub expression : List ℕ → ℕ → Scope → Reader Expr
expression s d c = do
  x ← expr d s c 16
  give x.tree
