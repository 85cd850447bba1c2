-- What a domain and a problem that were read are: tables that fit their rows, trees whose names are declared, no more cells than a text may have bytes,
-- and no longer prepared rows; those of a goal are shorter. Assumes nothing.
use mathlib.Core.Path.{◌≡◌, refl}
use mathlib.Core.List.{List, []}
use mathlib.Core.Bool.{Bool, true, false, cond}
use Prim.Native.Nat.{ℕ, zero, suc, ◌+◌, ◌≤◌, ◌<◌}
use native.Mathlib.Omega.{arith}
use lib.ListN.{length}
use Rattle.text_words.specs.Bytes.{bytes}
use Rattle.text_tokens.specs.Tokens.{token_at}
use Rattle.text_tokens.specs.declared.tokens.Token.{Token}
use Rattle.text_tokens.specs.declared.tokens.Token.TheVariants as T
use Rattle.text_tokens.proofs.Within.{Within, token_in}
use Rattle.domain_meaning.specs.Read.{Read, Reader, got, refused, give, refuse, and_then, ◌>>=◌}
use Rattle.domain_meaning.specs.Tables.{Table}
use Rattle.domain_meaning.specs.Due.{after_of, wrong, on_end, on_open, on_close}
use Rattle.domain_meaning.specs.Terms.{Scope}
use Rattle.domain_meaning.specs.Actions.{Action, action}
use Rattle.domain_meaning.specs.Domain.{Domain, Vocabulary, Opened, opened, other, on_opened, begins_with, heading_of, flags_section, vocabulary, scope_in, actions_to, ending}
use Rattle.domain_meaning.specs.Domain.{domain_text, read_domain}
use Rattle.domain_meaning.specs.Problem.{Init, Problem, sums_fit, sums_at, scope_of, of_domain, premises, init_at, init_to, nothing, section_due_of, section_due, goal_to}
use Rattle.domain_meaning.specs.Problem.{init_and_goal, problem_text, read_problem}
use Rattle.domain_meaning.proofs.Readings.{never}
use Rattle.domain_meaning.proofs.Given.{Given, Any, Gives, Fits, reads, fits, stops, behind, given_got, given_then, fits_also, opened_gives}
use Rattle.domain_meaning.proofs.Steps.{closing_fits, begins_ahead}
use Rattle.domain_sections.proofs.Short.{ending_short}
use Rattle.domain_terms.specs.Scoped.{AllSigned}
use Rattle.domain_stored_meaning.specs.Cells.{cond_cells, actions_cells}
use Rattle.domain_stored_meaning.specs.Entries.{AllTyped}
use Rattle.domain_stored_meaning.specs.Good.{GoodCond, GoodActions, Sized}
use Rattle.domain_prepared_meaning.specs.Preparing.{singles}
use Rattle.domain_prepared_meaning.specs.Rows.{tests_bytes, actions_bytes}
use Rattle.domain_read_laws.proofs.Sizes.{cond_size, actions_size, cond_cells_lem, actions_cells_lem}
use Rattle.domain_read_laws.proofs.Named.{NamedCond, NamedActions, cond_good, actions_good}
use Rattle.domain_read_laws.proofs.Rows.{actions_rows}
use Rattle.domain_read_laws.proofs.Widths.{cond_width, singles_width}
use Rattle.domain_read_laws.proofs.Tables.{Fit, Declared, names_fit, types_section_fits, constants_fit, declared_section_fits}
use Rattle.domain_read_laws.proofs.Conditions.{condition_fits}
use Rattle.domain_read_laws.proofs.Actions.{Acting, heads, action_fits}

-- where the text's end was read, its last bracket stands within the text, which is not too long
ending_in : (s : List ℕ) (at q a : ℕ) → ending s at ≡ got q a → at ≤ 32768
unfolding ending Within
ending_in s at q a h = go (token_at s at) (token_in s at) h
  where
    go : (t : Token) → Within s at t → on_close t (λ p b. on_end (token_at s b) (λ i. give i) (wrong 16 (token_at s b)) (after_of (token_at s b)))
        (on_open t (λ p b. wrong 14 (token_at s b) (after_of (token_at s b))) (wrong 15 t)) (after_of t) ≡ got q a → at ≤ 32768
    go (T.Word k p e) w i = never i
    go (T.Number z p e) w i = never i
    go (T.Open p e) w i = never i
    go (T.Close p e) w i = omega (arith, w.0, w.1, w.2, ending_short s at q a h)
    go (T.Mark b p e) w i = never i
    go (T.Refusal k p) w i = never i
    go (T.End p) w i = never i

ending_fits : (s : List ℕ) (at : ℕ) → Gives (λ _. at ≤ 32768) (ending s at)
ending_fits s at = go (ending s at) refl
  where
    go : (x : Read ℕ) → ending s at ≡ x → Gives (λ _. at ≤ 32768) x
    go (got q a) e = reads (ending_in s at q a e)
    go (refused k p) e = stops

-- ---- what a domain declares

record Spoken (v : Vocabulary) : Type 0 where
  types : Fit AllTyped 17 v.types
  constants : Fit AllTyped 64 v.constants
  predicates : Fit (Declared 3) 32 v.predicates
  functions : Fit (Declared 2) 16 v.functions

vocabulary_fits : (s : List ℕ) (at : ℕ) → Gives Spoken (vocabulary s at)
unfolding vocabulary
vocabulary_fits s at =
    behind (heading_of s (bytes "domain") at) _
    (λ n a. behind (flags_section s a) _
    (λ q b. given_then _ (types_section_fits s b)
    (λ ts d t. given_then _ (constants_fit s ts d)
    (λ os e g. given_then _ (declared_section_fits s (bytes ":predicates") ts 32 3 (omega arith) e)
    (λ ps i h. given_then _ (declared_section_fits s (bytes ":functions") ts 16 2 (omega arith) i)
    (λ fs j k. reads (record { types = t; constants = g; predicates = h; functions = k })))))))

-- ---- a domain

pub record DomainRead (d : Domain) : Type 0 where
  pub types : Fit AllTyped 17 d.types
  pub constants : Fit AllTyped 64 d.constants
  pub predicates : Fit (Declared 3) 32 d.predicates
  pub functions : Fit (Declared 2) 16 d.functions
  pub heads : Fit AllSigned 32 (heads d.actions)
  pub actions : GoodActions d.actions
  pub named : NamedActions (scope_of d d.constants) d.actions
  pub cells : length (actions_cells d.actions) ≤ 32768
  pub rows : (n : ℕ) (ps fs : List ℕ) → length (actions_bytes n ps fs d.actions) ≤ 32768

module _ (s : List ℕ) (c : Scope) where
  -- an action, after which f reads on
  next_fits : (durative : Bool) (as' : List Action) (at a : ℕ) (f : List Action → Reader (List Action)) → at ≤ a → Acting c as'
      → ((bs : List Action) (b : ℕ) → Acting c bs → Fits (Acting c) actions_size b (actions_size bs) (f bs b))
      → Fits (Acting c) actions_size at (actions_size as') (and_then (action s c durative as' a) f)
  next_fits durative as' at a f h g r = given_then _ (action_fits s c durative as' a g)
      (λ bs b l. fits_also (r bs b l.good) (omega arith) (λ x n v. omega arith))

  actions_fits : (k : ℕ) (as' : List Action) (at : ℕ) → Acting c as' → Fits (Acting c) actions_size at (actions_size as') (actions_to k s c as' at)
  unfolding actions_to
  actions_fits zero as' at g = stops
  actions_fits (suc k) as' at g =
      given_then _ (begins_ahead s (bytes ":action") at)
      (λ o a h. opened_gives o _ _ a (λ p. next_fits false as' at a _ h.on g (λ bs b l. actions_fits k bs b l))
      (given_then _ (begins_ahead s (bytes ":durative-action") a)
      (λ d i u. opened_gives d _ _ i (λ p. next_fits true as' at i _ (omega arith) g (λ bs b l. actions_fits k bs b l))
      (fits {a = as'} {n = i} g (omega arith) (omega arith)))))

no_actions : (c : Scope) → Acting c []
unfolding NamedActions
no_actions c = record { names = record { few = let z : 0 ≤ 32 = omega arith in z; short = tt; kept = tt }; named = tt }

domain_text_fits : (s : List ℕ) (at : ℕ) → Gives DomainRead (domain_text s at)
unfolding domain_text actions_size
domain_text_fits s at =
    given_then _ (vocabulary_fits s at)
    (λ v a h. given_then _ (actions_fits s (scope_in v) (length s + 1) [] a (no_actions (scope_in v)))
    (λ as' b g. given_then _ (ending_fits s b)
    (λ q i l. reads
    (record {
      types = h.types;
      constants = h.constants;
      predicates = h.predicates;
      functions = h.functions;
      heads = g.good.names;
      actions = actions_good (scope_in v)
          (record { objects = h.constants.few; facts = h.predicates.kept.few; numbers = h.functions.kept.few }) as' g.good.named;
      named = g.good.named;
      cells = omega (arith, g.size, actions_cells_lem as');
      rows = λ n ps fs. omega (arith, g.size, actions_rows n ps fs as');
    }))))

pub domain_read : (s : List ℕ) (d : Domain) (n : ℕ) → read_domain s ≡ got d n → DomainRead d
unfolding read_domain
domain_read s d n e = given_got (domain_text_fits s 0) e

pub domain_sized : (d : Domain) (os : Table) → DomainRead d → length os ≤ 64 → Sized (scope_of d os)
domain_sized d os h l = record { objects = l; facts = h.predicates.kept.few; numbers = h.functions.kept.few }

-- ---- a problem

pub record ProblemRead (d : Domain) (p : Problem) : Type 0 where
  pub objects : Fit AllTyped 64 p.objects
  pub more : length d.constants ≤ length p.objects
  pub goal : GoodCond 16 p.goal
  pub named : NamedCond (scope_of d p.objects) 16 p.goal
  pub cells : length (cond_cells p.goal) ≤ 32768
  -- with the end of the list; each of 64 single conditions has at most 113 bytes
  pub rows : (n : ℕ) (ps fs : List ℕ) → length (tests_bytes n ps fs (singles p.goal)) ≤ 7233
  pub sums : sums_fit (scope_of d p.objects) ≡ true

-- the sums are judged at the first of init and goal
sums_fit_lem : (c : Scope) (p at : ℕ) → Gives (λ _. sums_fit c ≡ true) (sums_at c p at)
sums_fit_lem c p at = go (sums_fit c) refl
  where
    go : (t : Bool) → sums_fit c ≡ t → Gives (λ _. sums_fit c ≡ true) (cond t (give p) (refuse 12 p) at)
    go true h = reads h
    go false h = stops

always : {A : Type 0} {P : Type 0} (x : Read A) → P → Gives (λ _. P) x
always (got a n) h = reads h
always (refused k p) h = stops

init_fits : (s : List ℕ) (c : Scope) (p at : ℕ) → Gives (λ _. sums_fit c ≡ true) (init_at s c p at)
init_fits s c p at = given_then _ (sums_fit_lem c p at) (λ q n h. always (init_to (length s + 1) s c nothing n) h)

-- the domain's constants, and more
abbrev Objects : Domain → Table → Type 0
Objects d os = Fit AllTyped 64 os × (length d.constants ≤ length os)

module _ (s : List ℕ) (d : Domain) (r : DomainRead d) where
  premises_fit : (at : ℕ) → Gives (Objects d) (premises s d at)
  unfolding premises
  premises_fit at =
      behind (heading_of s (bytes "problem") at) _
      (λ n a. behind (of_domain s d a) _
      (λ q b. behind (begins_with s (bytes ":objects") b) _
      (λ o i. opened_gives o _ _ i (λ p. names_fit s d.types d.constants i r.constants) (reads (r.constants, omega arith)))))

  module _ (os : Table) (f : Objects d os) where
    abbrev c : Scope
    c = scope_of d os

    -- a goal that ends at n, the sums being judged
    Ends : Problem → ℕ → Type 0
    Ends p n =
        Objects d p.objects × NamedCond (scope_of d p.objects) 16 p.goal × (cond_size p.goal < n) × (sums_fit (scope_of d p.objects) ≡ true)
        × (cond_width p.goal ≤ 7232)

    goal_fits : (x : Init) (at : ℕ) → sums_fit c ≡ true → Given Ends Any (and_then (goal_to s c at) (λ g. give (record { objects = os; init = x; goal = g })))
    unfolding Ends
    goal_fits x at h =
        given_then _ (goal_to_fits at) (λ g n k. reads (f, k.good.0, let l : cond_size g < n = omega arith in l, h, k.good.1))
      where
        goal_to_fits : (at : ℕ) → Fits (λ g. NamedCond c 16 g × (cond_width g ≤ 7232)) (λ g. cond_size g + 1) at 0 (goal_to s c at)
        goal_to_fits at =
            given_then _ (condition_fits s c 14 64 at (omega arith))
            (λ g n k. given_then _ (closing_fits s 14 n) (λ q i u. fits (k.good.named, omega arith) (omega arith) (omega arith)))

    -- what follows the section of init
    abbrev after : Opened → Reader Problem
    after o = do
      x ← on_opened o (λ p. init_at s c p) (give nothing)
      q ← section_due s ":goal"
      _ ← on_opened o (λ p. give q) (sums_at c q)
      g ← goal_to s c
      give (record { objects = os; init = x; goal = g })

    after_fits : (o : Opened) (at : ℕ) → Given Ends Any (after o at)
    after_fits (opened p) at =
        given_then _ (init_fits s c p at) (λ x b h. behind (section_due_of s (bytes ":goal") b) _ (λ q i. goal_fits x i h))
    after_fits other at =
        behind (section_due_of s (bytes ":goal") at) _ (λ q i. given_then _ (sums_fit_lem c q i) (λ y j h. goal_fits nothing j h))

    init_goal_fits : (at : ℕ) → Given Ends Any (init_and_goal s c at)
    unfolding init_and_goal
    init_goal_fits at = behind (begins_with s (bytes ":init") at) _ (λ o a. after_fits o a)

  goal_good : (p : Problem) → Objects d p.objects → NamedCond (scope_of d p.objects) 16 p.goal → GoodCond 16 p.goal
  goal_good p o h = cond_good (scope_of d p.objects) (domain_sized d p.objects r o.0.few) p.goal 16 h

  problem_text_fits : (at : ℕ) → Gives (ProblemRead d) (problem_text s d at)
  unfolding problem_text Ends
  problem_text_fits at =
      given_then _ (premises_fit at)
      (λ os a f. given_then _ (init_goal_fits os f a)
      (λ p b g. given_then _ (ending_fits s b)
      (λ q i l. reads
      (record {
        objects = g.0.0;
        more = g.0.1;
        goal = goal_good p g.0 g.1;
        named = g.1;
        cells = omega (arith, g.2, cond_cells_lem p.goal);
        rows = λ n ps fs. omega (arith, g.4, singles_width n ps fs p.goal 16 (goal_good p g.0 g.1));
        sums = g.3;
      }))))

pub problem_read : (s : List ℕ) (d : Domain) (p : Problem) (n : ℕ) → DomainRead d → read_problem s d ≡ got p n → ProblemRead d p
unfolding read_problem
problem_read s d p n r e = given_got (problem_text_fits s d r 0) e
