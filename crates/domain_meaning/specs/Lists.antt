-- Typed lists: names, each group of them before its type; and declarations with typed arguments. RULES 4.
-- In a section's own list 14 levels of brackets are left, in a declaration or after `:parameters (` 13: a bracket is never too deep there.
use Rattle.std.specs.Prelude.{ℕ, zero, suc, ◌+◌, List, [], ◌∷◌, ◌++◌, map, Bool, true, false, cond, ◌||◌, length, ltb, None, Option, Some}
use Rattle.text_words.specs.Bytes.{bytes}
use Rattle.text_words.specs.Spelling.{same_word}
use Rattle.text_words.specs.Fixed.{is_reserved}
use Rattle.text_tokens.specs.Runs.{part}
use Rattle.text_tokens.specs.Tokens.{spot_at}
use Rattle.text_tokens.specs.declared.tokens.Word.{Word}
use Rattle.text_tokens.specs.declared.tokens.Word.TheVariants as W
use Rattle.domain_meaning.specs.Read.{◌>>=◌, Reader, give, refuse}
use Rattle.domain_meaning.specs.Tables.{Entry, entry, Table, type_of, lookup, on_found, fresh, retype}
use Rattle.domain_meaning.specs.Due.{token, peek, wrong, on_open, opening, closing, on_close, on_word, Name, new_name}

-- ---- "A parent type is `object` or stands earlier in the list than its children."

-- the number of a type with the name w at p that stands below number b; 8 where there is none
unfoldable pub type_named : Table → ℕ → ℕ → List ℕ → Reader ℕ
type_named ts b p w = on_found (lookup ts w) (λ i. cond (ltb i b) (give i) (refuse 8 p)) (refuse 8 p)

-- `- (either ..)` is not carried; any other bracket at p, where a type is due, is 3
abbrev pub either_of : ℕ → Option (ℕ × ℕ) → Reader ℕ
either_of p (Some (q, e)) = refuse 11 q
either_of p None = refuse 3 p

abbrev pub type_of_word : List ℕ → Table → ℕ → Word → ℕ → ℕ → Reader ℕ
type_of_word s ts b W.Name p e = type_named ts b p (part s p e)
type_of_word s ts b W.Variable p e = refuse 3 p
type_of_word s ts b W.Keyword p e = refuse 3 p
type_of_word s ts b W.Operator p e = refuse 3 p

abbrev pub type_of_other : List ℕ → ℕ → Reader ℕ
type_of_other s p = either_of p (spot_at s (p + 1) (bytes "either"))

-- a type is due
unfoldable pub type_due : List ℕ → Table → ℕ → Reader ℕ
type_due s ts b = do
  t ← token s
  on_word t (type_of_word s ts b) (on_open t (type_of_other s) (wrong 13 t))

-- after a dash: the type of the names from number g on. A type's parent is a type before the group (`own`); any other name's type is one of ts
unfoldable pub group : List ℕ → Bool → Table → Table → ℕ → Reader Table
group s own ts t g = do
  k ← type_due s (cond own t ts) (cond own g (length ts))
  give (retype g k t)

-- ---- a list of names, or of variables (`var`)

-- the next thing of a list: its end, a dash, or a name to declare
pub data Item : Type 0 where
  closes : Item
  dash : ℕ → Item
  names : ℕ → List ℕ → Item

abbrev pub dash_or3 : List ℕ → ℕ → ℕ → Reader Item
dash_or3 s p e = cond (same_word (part s p e) (bytes "-")) (give (dash p)) (refuse 3 p)

-- "`?` before a name makes a variable": the mark is no part of the name
abbrev pub item_of : List ℕ → Bool → Word → ℕ → ℕ → Reader Item
item_of s var W.Name p e = cond (var || is_reserved (part s p e)) (refuse 3 p) (give (names p (part s p e)))
item_of s var W.Variable p e = cond var (give (names p (part s (p + 1) e))) (refuse 3 p)
item_of s var W.Keyword p e = refuse 3 p
item_of s var W.Operator p e = dash_or3 s p e

unfoldable pub item : List ℕ → Bool → Reader Item
item s var = do
  t ← token s
  on_close t (λ p. give closes) (on_word t (item_of s var) (wrong 13 t))

abbrev pub on_item : {A : Type 0} → Item → A → (ℕ → A) → (ℕ → List ℕ → A) → A
on_item closes c d n = c
on_item (dash p) c d n = d p
on_item (names p w) c d n = n p w

-- "An untyped name is an `object`": type 0, until a group is typed
unfoldable pub declare : ℕ → Table → ℕ → List ℕ → Reader Table
declare max t p w = do
  _ ← fresh max t p w
  give (t ++ entry w (0 ∷ []) ∷ [])

-- a dash at p, before which no name waits for its type, is 3
unfoldable pub waiting : Table → ℕ → ℕ → Reader ℕ
waiting t g p = cond (ltb g (length t)) (give p) (refuse 3 p)

-- the rest of a list, to its closing bracket: the table t so far, of which the names from number g on wait for their type.
-- The first number bounds the steps
unfoldable pub typed : ℕ → List ℕ → Bool → Bool → Table → ℕ → Table → ℕ → Reader Table
typed zero s var own ts max t g = refuse 0 0
typed (suc k) s var own ts max t g = do
  i ← item s var
  on_item i
      (give t)
      (λ p. do
        _ ← waiting t g p
        u ← group s own ts t g
        typed k s var own ts max u (length u))
      (λ p w. do
        u ← declare max t p w
        typed k s var own ts max u g)

unfoldable pub names_to : List ℕ → Table → ℕ → Table → Reader Table
names_to s ts max t = typed (length s + 1) s false false ts max t (length t)

-- the variables of a declaration: "one declaration's parameters are separate"
unfoldable pub variables_to : List ℕ → Table → ℕ → Reader Table
variables_to s ts max = typed (length s + 1) s true false ts max [] 0

-- `object` is the first type, and its own parent
unfoldable pub types_to : List ℕ → Reader Table
types_to s = typed (length s + 1) s false true [] 17 (entry (bytes "object") (0 ∷ []) ∷ []) 1

-- ---- predicates and functions: "(name typed variables)", at most `max` of at most `most` arguments

-- how many arguments, and their types
abbrev pub signature : List ℕ → Table → Entry
signature w vs = entry w (length vs ∷ map type_of vs)

-- after the opening bracket of one declaration
unfoldable pub declaration : List ℕ → Table → ℕ → ℕ → Table → Reader Table
declaration s ts max most t = do
  n ← new_name s 13
  _ ← fresh max t n.place n.word
  vs ← variables_to s ts most
  give (t ++ signature n.word vs ∷ [])

unfoldable pub declarations : ℕ → List ℕ → Table → ℕ → ℕ → Table → Reader Table
declarations zero s ts max most t = refuse 0 0
declarations (suc k) s ts max most t = do
  c ← peek s
  on_close c
      (λ p. do
        _ ← closing s 14
        give t)
      (do
        _ ← opening s 14
        u ← declaration s ts max most t
        declarations k s ts max most u)
