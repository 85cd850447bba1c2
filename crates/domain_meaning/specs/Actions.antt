-- Actions of both kinds, and reading them: "an action parameters, duration, condition (`:precondition` if simple), effect, the last two optional". RULES 4.
use Rattle.std.specs.Prelude.{ℕ, zero, suc, ◌+◌, ◌-◌, List, [], ◌∷◌, ◌++◌, map, Bool, true, false, cond, ◌&&◌, length, eqb, None, Option, Some}
use Prim.Native.String.{String}
use Rattle.text_words.specs.Bytes.{bytes}
use Rattle.text_words.specs.Spelling.{same_word}
use Rattle.text_tokens.specs.Runs.{part}
use Rattle.text_tokens.specs.Tokens.{spot_at}
use Rattle.text_tokens.specs.declared.tokens.Token.{Token}
use Rattle.domain_meaning.specs.Read.{◌>>=◌, Reader, got, give, refuse}
use Rattle.domain_meaning.specs.Tables.{Entry, Table, fresh}
use Rattle.domain_meaning.specs.Due.{token, peek, wrong, on_refusal, opening, closing, on_close, on_word, fixed, new_name}
use Rattle.domain_meaning.specs.Lists.{variables_to, signature}
use Rattle.domain_meaning.specs.Terms.{Scope, Expr, Counted, counts, expression}
use Rattle.domain_meaning.specs.Conditions.{Cond, condition}
use Rattle.domain_meaning.specs.Effects.{Effect, effect}

-- "`at start`, `over all` (conditions only) or `at end`"; a simple action has its one instant, `start`
pub data When : Type 0 where
  start : When
  whole : When
  end : When

pub record Timed (A : Type 0) : Type 0 where
  pub when : When
  pub what : A

-- how long an action lasts: not at all, or as its rule says, "`(= ?duration e)`"
pub data Lasting : Type 0 where
  moment : Lasting
  rule : Expr → Lasting

pub record Action : Type 0 where
  -- its name and its parameters' types
  pub declared : Entry
  pub lasting : Lasting
  pub conditions : List (Timed Cond)
  pub effects : List (Timed (List Effect))

-- ---- the parts of a durative action, f reading what stands in one

abbrev pub timed : {A : Type 0} → When → Counted A → Counted (List (Timed A))
timed w x = counts (record { when = w; what = x.tree } ∷ []) x.left

-- the time after `at` or `over`
abbrev pub start_or_end : List ℕ → ℕ → Token → Reader When
start_or_end s d t =
    on_word t
    (λ k p e. cond (same_word (part s p e) (bytes "start")) (give start) (cond (same_word (part s p e) (bytes "end")) (give end) (refuse 3 p)))
    (wrong d t)

-- a part's first word, from p to e, and the one after it; `over` is for conditions only
unfoldable pub time_of : List ℕ → ℕ → Bool → ℕ → ℕ → Reader When
time_of s d over p e =
    cond (same_word (part s p e) (bytes "at"))
    (do
      t ← token s
      start_or_end s d t)
    (cond (over && same_word (part s p e) (bytes "over"))
    (do
      _ ← fixed s d "all"
      give whole)
    (refuse 3 p))

module _ {A : Type 0} (s : List ℕ) (over : Bool) (f : ℕ → ℕ → Reader (Counted A)) where
  -- after a part's first word, where d levels are left; f reads what stands in it
  unfoldable pub part_behind : ℕ → ℕ → ℕ → ℕ → Reader (Counted (List (Timed A)))
  part_behind d n p e = do
    w ← time_of s d over p e
    x ← f d n
    _ ← closing s d
    give (timed w x)

  unfoldable pub part_at : ℕ → ℕ → Reader (Counted (List (Timed A)))
  part_at d n = do
    _ ← opening s d
    t ← token s
    on_word t (λ k p e. part_behind (d - 1) n p e) (wrong (d - 1) t)

  -- parts to the closing bracket. The first number bounds the steps
  unfoldable pub parts_to : ℕ → ℕ → ℕ → Reader (Counted (List (Timed A)))
  parts_to zero d n = refuse 0 0
  parts_to (suc k) d n = do
    t ← peek s
    on_close t
        (λ p. do
          _ ← closing s d
          give (counts [] n))
        (do
          x ← part_at d n
          xs ← parts_to k d x.left
          give (counts (x.tree ++ xs.tree) xs.left))

  -- "In a durative action each part, under at most one outer `and`, is .."
  unfoldable pub parts : ℕ → ℕ → Reader (Counted (List (Timed A)))
  parts d n = do
    _ ← opening s d
    t ← token s
    on_word t
        (λ k p e. cond (same_word (part s p e) (bytes "and")) (parts_to (length s + 1) (d - 1) n) (part_behind (d - 1) n p e))
        (wrong (d - 1) t)

-- ---- the fields of an action, whose brackets are the third level: 14 are left

-- "`:duration` is `(= ?duration e)`"; "a duration rule's head word other than `=`" is 11, however long it is
abbrev pub rule_head : List ℕ → Token → Reader ℕ
rule_head s t =
    on_word t (λ k p e. cond (same_word (part s p e) (bytes "=")) (give p) (refuse 11 p))
    (on_refusal t (λ k p. cond (eqb k 5) (refuse 11 p) (refuse k p)) (wrong 13 t))

-- `?duration` may stand here and nowhere else
abbrev pub duration_spot : List ℕ → Option (ℕ × ℕ) → Reader ℕ
duration_spot s (Some (p, e)) = λ at. got p e
duration_spot s None = do
  t ← token s
  wrong 13 t

unfoldable pub duration_rule : List ℕ → Scope → Reader Expr
duration_rule s c = do
  _ ← opening s 14
  h ← token s
  _ ← rule_head s h
  _ ← λ at. duration_spot s (spot_at s at (bytes "?duration")) at
  x ← expression s 13 c
  _ ← closing s 13
  give x

-- whether a field follows; if so its word is read
unfoldable pub field_of : List ℕ → List ℕ → Reader Bool
field_of s w = do
  t ← peek s
  on_word t
      (λ k p e. cond (same_word (part s p e) w)
      (do
        _ ← token s
        give true)
      (give false))
      (give false)

abbrev pub when_field : {A : Type 0} → List ℕ → String → Reader (List A) → Reader (List A)
when_field s w r = do
  b ← field_of s (bytes w)
  cond b r (give [])

-- "32 single conditions and 16 effects per action"
abbrev pub tree_of : {A : Type 0} → Reader (Counted A) → Reader A
tree_of r = do
  x ← r
  give x.tree

abbrev pub at_start : {A : Type 0} → A → Timed A
at_start x = record { when = start; what = x }

abbrev pub one_condition : List ℕ → Scope → Reader (List (Timed Cond))
one_condition s c = do
  x ← condition 14 s c 32
  give (at_start x.tree ∷ [])

abbrev pub one_instant : List ℕ → Scope → Reader (List (Timed (List Effect)))
one_instant s c = do
  x ← effect 14 s c 16
  give (at_start x.tree ∷ [])

-- the scope of an action with the variables vs
abbrev pub within : Scope → Table → Scope
within c vs = record { types = c.types; objects = c.objects; predicates = c.predicates; functions = c.functions; variables = vs; in_action = true }

-- after `:action` or `:durative-action` and the parameters
unfoldable pub simple_body : List ℕ → Scope → Entry → Reader Action
simple_body s c e = do
  cs ← when_field s ":precondition" (one_condition s c)
  es ← when_field s ":effect" (one_instant s c)
  _ ← closing s 14
  give (record { declared = e; lasting = moment; conditions = cs; effects = es })

unfoldable pub durative_body : List ℕ → Scope → Entry → Reader Action
durative_body s c e = do
  _ ← fixed s 14 ":duration"
  x ← duration_rule s c
  cs ← when_field s ":condition" (tree_of (parts s true (λ d n. condition d s c n) 14 32))
  es ← when_field s ":effect" (tree_of (parts s false (λ d n. effect d s c n) 14 16))
  _ ← closing s 14
  give (record { declared = e; lasting = rule x; conditions = cs; effects = es })

-- an action after its section's word: "actions 32 of at most 4 parameters"
unfoldable pub action : List ℕ → Scope → Bool → List Action → Reader (List Action)
action s c durative as' = do
  n ← new_name s 14
  _ ← fresh 32 (map (λ a. a.declared) as') n.place n.word
  _ ← fixed s 14 ":parameters"
  _ ← opening s 14
  vs ← variables_to s c.types 4
  a ← cond durative (durative_body s (within c vs) (signature n.word vs)) (simple_body s (within c vs) (signature n.word vs))
  give (as' ++ a ∷ [])
