-- A domain, and reading its text: "In order, a domain has requirements, types, constants, predicates, functions, actions of both kinds, each optional".
-- RULES 4.
use Rattle.std.specs.Prelude.{ℕ, zero, suc, ◌+◌, List, [], ◌∷◌, true, false, cond, ◌&&◌, length, get_or, eqb}
use Prim.Native.Char.{code}
use Prim.Native.String.{String}
use Rattle.text_words.specs.Bytes.{bytes}
use Rattle.text_words.specs.Spelling.{same_word}
use Rattle.text_words.specs.Fixed.{is_flag}
use Rattle.text_tokens.specs.Runs.{part}
use Rattle.text_tokens.specs.Tokens.{token_at}
use Rattle.text_tokens.specs.declared.tokens.Token.{Token}
use Rattle.text_tokens.specs.declared.tokens.Word.{Word}
use Rattle.text_tokens.specs.declared.tokens.Word.TheVariants as W
use Rattle.domain_meaning.specs.Read.{◌>>=◌, Read, Reader, got, give, refuse}
use Rattle.domain_meaning.specs.Tables.{entry, Table}
use Rattle.domain_meaning.specs.Due.{token, wrong, word_due, on_refusal, on_end, on_open, opening, closing, on_close, on_word, fixed, Name, any_name}
use Rattle.domain_meaning.specs.Lists.{names_to, types_to, declarations}
use Rattle.domain_meaning.specs.Terms.{Scope}
use Rattle.domain_meaning.specs.Actions.{Action, action}

pub record Domain : Type 0 where
  pub name : List ℕ
  pub types : Table
  pub constants : Table
  pub predicates : Table
  pub functions : Table
  pub actions : List Action

-- ---- sections: a bracket and a keyword

-- a section that was asked for: the place of its word, or that another thing stands there
pub data Opened : Type 0 where
  opened : ℕ → Opened
  other : Opened

abbrev pub on_opened : {A : Type 0} → Opened → (ℕ → A) → A → A
on_opened (opened p) f a = f p
on_opened other f a = a

-- where the next section has the keyword w, its word is read; else nothing is read
abbrev pub section_word : List ℕ → ℕ → List ℕ → Token → Read Opened
section_word s at w t = on_word t (λ k p e. cond (same_word (part s p e) w) (got (opened p) e) (got other at)) (got other at)

abbrev pub behind_open : List ℕ → ℕ → List ℕ → Token → Read Opened
behind_open s at w t = on_open t (λ p. section_word s at w (token_at s (p + 1))) (got other at)

unfoldable pub begins_with : List ℕ → List ℕ → Reader Opened
begins_with s w at = behind_open s at w (token_at s at)

abbrev pub begins : List ℕ → String → Reader Opened
begins s w = begins_with s (bytes w)

-- a section that may be missing
abbrev pub section : {A : Type 0} → List ℕ → String → A → Reader A → Reader A
section s w none body = do
  o ← begins s w
  on_opened o (λ p. body) (give none)

-- the bracket that closes the text's first one, and after it the end. A bracket opens a section, whose word is judged: none may follow
unfoldable pub ending : List ℕ → Reader ℕ
ending s = do
  t ← token s
  on_close t
      (λ p. do
        u ← token s
        on_end u (λ q. give q) (wrong 16 u))
      (on_open t
      (λ p. do
        u ← token s
        wrong 14 u)
      (wrong 15 t))

-- `(define (domain NAME)` or `(define (problem NAME)`
unfoldable pub heading_of : List ℕ → List ℕ → Reader Name
heading_of s w = do
  _ ← opening s 16
  _ ← fixed s 15 "define"
  _ ← opening s 15
  _ ← word_due s 14 w
  n ← any_name s 14
  _ ← closing s 14
  give n

abbrev pub heading : List ℕ → String → Reader Name
heading s w = heading_of s (bytes w)

-- ---- requirements: "a requirement flag other than .." is 11, however long

abbrev pub flag_word : List ℕ → Word → ℕ → ℕ → Reader ℕ
flag_word s W.Keyword p e = cond (is_flag (part s p e)) (give p) (refuse 11 p)
flag_word s W.Name p e = refuse 3 p
flag_word s W.Variable p e = refuse 3 p
flag_word s W.Operator p e = refuse 3 p

abbrev pub flag_of : List ℕ → Token → Reader ℕ
flag_of s t =
    on_word t (flag_word s)
    (on_refusal t (λ k p. cond (eqb k 5 && eqb (get_or s p 0) (code ":")) (refuse 11 p) (refuse k p)) (wrong 14 t))

-- flags to the closing bracket. The first number bounds the steps
unfoldable pub flags_to : ℕ → List ℕ → Reader ℕ
flags_to zero s = refuse 0 0
flags_to (suc k) s = do
  t ← token s
  on_close t
      (λ p. give p)
      (do
        _ ← flag_of s t
        flags_to k s)

-- ---- actions: any number of both kinds. The first number bounds the steps
unfoldable pub actions_to : ℕ → List ℕ → Scope → List Action → Reader (List Action)
actions_to zero s c as' = refuse 0 0
actions_to (suc k) s c as' = do
  simple ← begins s ":action"
  on_opened simple
      (λ p. do
        bs ← action s c false as'
        actions_to k s c bs)
      (do
        durative ← begins s ":durative-action"
        on_opened durative
            (λ p. do
              bs ← action s c true as'
              actions_to k s c bs)
            (give as'))

-- ---- "types 16 besides `object`; objects with constants 64; predicates 32 of at most 3 arguments; functions 16 of at most 2"

abbrev pub only_object : Table
only_object = entry (bytes "object") (0 ∷ []) ∷ []

unfoldable pub flags_section : List ℕ → Reader ℕ
flags_section s = section s ":requirements" 0 (flags_to (length s + 1) s)

unfoldable pub types_section : List ℕ → Reader Table
types_section s = section s ":types" only_object (types_to s)

unfoldable pub constants_section : List ℕ → Table → Reader Table
constants_section s ts = section s ":constants" [] (names_to s ts 64 [])

-- predicates or functions: at most `max` of at most `most` arguments
unfoldable pub declared_section : List ℕ → List ℕ → Table → ℕ → ℕ → Reader Table
declared_section s w ts max most = do
  o ← begins_with s w
  on_opened o (λ p. declarations (length s + 1) s ts max most []) (give [])

-- what a domain declares before its actions
pub record Vocabulary : Type 0 where
  pub name : List ℕ
  pub types : Table
  pub constants : Table
  pub predicates : Table
  pub functions : Table

unfoldable pub vocabulary : List ℕ → Reader Vocabulary
vocabulary s = do
  n ← heading s "domain"
  _ ← flags_section s
  ts ← types_section s
  os ← constants_section s ts
  ps ← declared_section s (bytes ":predicates") ts 32 3
  fs ← declared_section s (bytes ":functions") ts 16 2
  give (record { name = n.word; types = ts; constants = os; predicates = ps; functions = fs })

-- what may be named where its actions begin
abbrev pub scope_in : Vocabulary → Scope
scope_in v = record { types = v.types; objects = v.constants; predicates = v.predicates; functions = v.functions; variables = []; in_action = false }

unfoldable pub domain_text : List ℕ → Reader Domain
domain_text s = do
  v ← vocabulary s
  as' ← actions_to (length s + 1) s (scope_in v) []
  _ ← ending s
  give (record { name = v.name; types = v.types; constants = v.constants; predicates = v.predicates; functions = v.functions; actions = as' })

unfoldable pub read_domain : List ℕ → Read Domain
read_domain s = domain_text s 0
