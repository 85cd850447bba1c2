-- The ways through load. Assumes nothing.
use mathlib.Core.Path.{◌≡◌, refl, sym, ap, ◌∙◌}
use mathlib.Core.List.{List}
use mathlib.Core.Bool.{true}
use Prim.Native.Nat.{ℕ}
use native.Mathlib.Omega.{arith}
use lib.IntN.{ℤ}
use lib.ListN.{length}
use lib.Seq.{sets}
use Rattle.text_tokens.specs.Runs.{part}
use Rattle.domain_meaning.specs.Read.{Read, got, refused}
use Rattle.domain_meaning.specs.Domain.{Domain, read_domain}
use Rattle.domain_meaning.specs.Problem.{Problem, read_problem, scope_of, sums_fit}
use Rattle.domain_rows.specs.Held.{rows_of}
use Rattle.domain_terms.specs.Scoped.{Scoped}
use Rattle.domain_terms.specs.declared.scope.Counts.{Counts}
use Rattle.domain_stored_meaning.specs.Cells.{cond_cells}
use Rattle.domain_stored_meaning.specs.Decode.{condition_at, actions_at}
use Rattle.domain_meaning.specs.First.{first_facts, first_numbers}
use Rattle.domain_problem_text.specs.Grounded.{with_objects}
use Rattle.domain_actions.specs.Acted.{declarations}
use Rattle.domain_domain_text.specs.Knowing.{counts_in, Knows}
use Rattle.domain_domain_text.specs.Knowing.{Known}
use Rattle.domain_domain_text.specs.Knowing as K
use Rattle.domain_due.specs.Answers.{Parsed}
use Rattle.domain_due.specs.Answers as A
use Rattle.domain_due.proofs.Dues.{done_parts, refused_parts, never_done}
use Rattle.domain_problem_text.specs.Posed.{Poses, Posed}
use Rattle.domain_load.specs.declared.Sizes.{Sizes}
use Rattle.domain_load.specs.declared.Model.{Model}
use Rattle.domain_load.specs.declared.LoadAnswer.TheVariants as Is
use Rattle.domain_load.specs.declared.Loaded.{Loaded}
use Rattle.domain_load.specs.Load.{zeros, tables_of, sizes_of, prepared_actions, prepared_goal, model_of, loaded_of, Models, fixed_of, of_problem, load_of}
use Rattle.domain_load.proofs.Joined.{tables_are}
use Rattle.domain_load.proofs.Kept.{actions_kept, goal_kept}
use Rattle.domain_rows.specs.Layout.{tables_length}

-- ---- the domain, by its answer

-- it was read, and what was stored of it is its model
pub record Understood (s name code starts : List ℕ) (m : Model) : Type 0 where
  pub domain : Domain
  pub end : ℕ
  pub is : read_domain s ≡ got domain end
  pub model : Models domain name code starts m

-- what is stored of a domain alone
abbrev pub domain_model : List ℕ → List ℕ → Counts → ℕ → Model
domain_model tables actions c n =
    record {
      tables = tables;
      actions = actions;
      rows = zeros 33153;
      goal = zeros 7233;
      sizes = record { facts = 0; numbers = 0 };
      counts = c;
      acting = n;
    }

-- two equal answers have the same parts
known_parts : (p q e f : ℕ) (c b : Counts) (n m : ℕ) → K.Done p e c n ≡ K.Done q f b m → (p ≡ q) × (e ≡ f) × (c ≡ b) × (n ≡ m)
known_parts p q e f c b n m h =
    let g : ◌≡◌ {A = ℕ × ℕ × Counts × ℕ} (p, e, c, n) (q, f, b, m) = cc in (
      ap (λ (x : ℕ × ℕ × Counts × ℕ). x.0) g,
      ap (λ (x : ℕ × ℕ × Counts × ℕ). x.1) g,
      ap (λ (x : ℕ × ℕ × Counts × ℕ). x.2) g,
      ap (λ (x : ℕ × ℕ × Counts × ℕ). x.3) g,
    )

module _ (s : List ℕ) (r : Known) (tables actions code starts : List ℕ) where
  abbrev Answers : Read Domain → Type 0
  Answers x = Knows s (zeros 32768) (zeros 96) r tables actions code starts x

  knows_got : (x : Read Domain) (p e : ℕ) (c : Counts) (n : ℕ) → read_domain s ≡ x → Answers x → r ≡ K.Done p e c n
      → Understood s (part s p e) code starts (domain_model tables actions c n)
  unfolding Knows
  knows_got (got d m) p e c n i h q =
      let g : K.Done h.from h.to (counts_in d) (length d.actions) ≡ K.Done p e c n = sym h.is ∙ q in
      let w = known_parts h.from p h.to e (counts_in d) c (length d.actions) n g in
      let ep : h.from ≡ p = w.0 in
      let ee : h.to ≡ e = w.1 in
      let ec : counts_in d ≡ c = w.2 in
      let en : length d.actions ≡ n = w.3 in
      record {
        domain = d;
        end = m;
        is = i;
        model = record {
          text = s;
          end = m;
          is = i;
          named = ap (λ (k : ℕ). part s k e) (sym ep) ∙ ap (λ (k : ℕ). part s h.from k) (sym ee) ∙ h.name;
          scope = rw (← ec) h.scope;
          long = h.long;
          rows = h.rows.are;
          places = h.places;
          cells = h.cells;
          counted = sym ec;
          acts = sym en;
        };
      }
  knows_got (refused k j) p e c n i h q =
      absurd (let g : K.Refused k j ≡ K.Done p e c n = sym h ∙ q in let z : ◌≡◌ {A = ℕ} 0 1 = cc in let y : ⊥ = omega arith in y)

  knows_not : (x : Read Domain) (k p : ℕ) → Answers x → r ≡ K.Refused k p → x ≡ refused k p
  unfolding Knows
  knows_not (got d m) k p h q =
      absurd (let g : K.Done h.from h.to (counts_in d) (length d.actions) ≡ K.Refused k p = sym h.is ∙ q in let z : ◌≡◌ {A = ℕ} 0 1 =
      cc in let y : ⊥ = omega arith in y)
  knows_not (refused j i) k p h q =
      let z = refused_parts j k i p (sym h ∙ q) in
      rw (z.0, z.1)

  module _ (h : Answers (read_domain s)) where
    pub understood : (p e : ℕ) (c : Counts) (n : ℕ) → r ≡ K.Done p e c n → (name : List ℕ) → name ≡ part s p e
        → Understood s name code starts (domain_model tables actions c n)
    understood p e c n q name i = rw i (knows_got (read_domain s) p e c n refl h q)

    pub no_domain : (t : List ℕ) (k p : ℕ) (x : Loaded) → r ≡ K.Refused k p → x ≡ fixed_of (Is.Domain k p) → x ≡ load_of s t
    unfolding load_of
    no_domain t k p x q f = f ∙ rw (knows_not (read_domain s) k p h q) refl

-- ---- the problem, by its answer

posed_got : (t : List ℕ) (d : Domain) (c : Counts) (r : Parsed) (tables facts : List ℕ) (numbers : List ℤ) (was goal : List ℕ) (x : Read Problem) (a v : ℕ)
    → Posed t d c r tables facts numbers was goal x → r ≡ A.Done a v → (p : Problem) × (x ≡ got p a) × Poses t d c r tables facts numbers was goal p a
    × (v ≡ length p.objects)
unfolding Posed
posed_got t d c r tables facts numbers was goal (got p m) a v h q =
    let g : A.Done m (length p.objects) ≡ A.Done a v = sym h.answer ∙ q in
    let i : m ≡ a = (done_parts m a _ v g).0 in
    let j : length p.objects ≡ v = (done_parts m a _ v g).1 in
    (p, rw i refl, rw i at h, sym j)
posed_got t d c r tables facts numbers was goal (refused k j) a v h q = never_done k j a v (sym h ∙ q)

posed_not : (t : List ℕ) (d : Domain) (c : Counts) (r : Parsed) (tables facts : List ℕ) (numbers : List ℤ) (was goal : List ℕ) (x : Read Problem) (k p : ℕ)
    → Posed t d c r tables facts numbers was goal x → r ≡ A.Refused k p → x ≡ refused k p
unfolding Posed
posed_not t d c r tables facts numbers was goal (got y m) k p h q = never_done k p m (length y.objects) (sym q ∙ h.answer)
posed_not t d c r tables facts numbers was goal (refused j i) k p h q =
    let z = refused_parts j k i p (sym h ∙ q) in
    rw (z.0, z.1)

module _ (t : List ℕ) (d : Domain) (c : Counts) (r : Parsed) (tables facts : List ℕ) (numbers : List ℤ) (was goal : List ℕ)
    (h : Posed t d c r tables facts numbers was goal (read_problem t d)) where
  pub no_problem : (k p : ℕ) (x : Loaded) → r ≡ A.Refused k p → x ≡ fixed_of (Is.Problem k p) → x ≡ of_problem d (read_problem t d)
  no_problem k p x q f = f ∙ rw (posed_not t d c r tables facts numbers was goal (read_problem t d) k p h q) refl

  module _ (a v : ℕ) (q : r ≡ A.Done a v) where
    -- the problem, whose objects are v
    pub record Understands : Type 0 where
      pub problem : Problem
      pub is : read_problem t d ≡ got problem a
      pub objects : v ≡ length problem.objects
      pub scope : Scoped tables (with_objects c v) (scope_of d problem.objects)
      pub fits : sums_fit (scope_of d problem.objects) ≡ true
      pub long : length tables ≡ tables_length
      pub facted : facts ≡ first_facts problem.init
      pub numbered : numbers ≡ first_numbers problem.init
      pub aimed : goal ≡ sets was 0 (cond_cells problem.goal)

    pub understands : Understands
    understands =
        let g = posed_got t d c r tables facts numbers was goal (read_problem t d) a v h q in
        record {
          problem = g.0;
          is = g.1;
          objects = g.3;
          scope = scope_by g.0 g.3 g.2.scope;
          fits = g.2.fits;
          long = g.2.long;
          facted = g.2.facts;
          numbered = g.2.numbers;
          aimed = g.2.goal;
        }
      where
        scope_by : (p : Problem) → v ≡ length p.objects → Scoped tables (with_objects c (length p.objects)) (scope_of d p.objects)
            → Scoped tables (with_objects c v) (scope_of d p.objects)
        scope_by p e k = rw e k

-- ---- both

-- the arrays of a domain and a problem are those of their model
same_model : (d : Domain) (p : Problem) (tables actions rows goal : List ℕ) (sizes : Sizes) (facts : List ℕ) (numbers : List ℤ) (c : Counts) (n : ℕ)
    → tables ≡ tables_of d p.objects → actions ≡ rows_of 32 (declarations d.actions)
    → rows ≡ prepared_actions (length p.objects) d.predicates d.functions d.actions
    → goal ≡ prepared_goal (length p.objects) d.predicates d.functions p.goal
    → sizes ≡ sizes_of (length p.objects) d.predicates d.functions → facts ≡ first_facts p.init → numbers ≡ first_numbers p.init
    → c ≡ with_objects (counts_in d) (length p.objects) → n ≡ length d.actions
    → record {
      model = record { tables = tables; actions = actions; rows = rows; goal = goal; sizes = sizes; counts = c; acting = n };
      facts = facts;
      numbers = numbers;
      answer = Is.Loaded;
    } ≡ loaded_of d p
unfolding loaded_of model_of
same_model d p tables actions rows goal sizes facts numbers c n et ea er eg es ef ev eo em = rw (et, ea, er, eg, es, ef, ev, eo, em) refl

-- the problem's arrays and numbers beside a model of its domain; rows and goal are prepared from cells
pub both_read : (t name code starts : List ℕ) (d : Domain) (m : Model) → Models d name code starts m → (p : Problem) (a : ℕ) → read_problem t d ≡ got p a
    → (tables cells rows goal : List ℕ) (sizes : Sizes) (facts : List ℕ) (numbers : List ℤ) (v : ℕ) → v ≡ length p.objects
    → Scoped tables (with_objects m.counts v) (scope_of d p.objects) → length tables ≡ tables_length → cells ≡ sets (zeros 32768) 0 (cond_cells p.goal)
    → rows ≡ prepared_actions (length p.objects) d.predicates d.functions (actions_at code starts 0 (declarations d.actions))
    → goal ≡ prepared_goal (length p.objects) d.predicates d.functions (condition_at cells 0).tree
    → sizes ≡ sizes_of (length p.objects) d.predicates d.functions → facts ≡ first_facts p.init → numbers ≡ first_numbers p.init
    → record {
      model = record {
        tables = tables;
        actions = m.actions;
        rows = rows;
        goal = goal;
        sizes = sizes;
        counts = with_objects m.counts v;
        acting = m.acting;
      };
      facts = facts;
      numbers = numbers;
      answer = Is.Loaded;
    } ≡ of_problem d (read_problem t d)
both_read t name code starts d m k p a e tables cells rows goal sizes facts numbers v o sc long ec er eg es ef ev =
    same_model d p tables m.actions rows goal sizes facts numbers (with_objects m.counts v) m.acting
    (tables_are tables (with_objects m.counts v) d p.objects sc long) k.rows
    (er ∙ ap (prepared_actions (length p.objects) d.predicates d.functions) (actions_kept d name code starts m k))
    (eg ∙ ap (prepared_goal (length p.objects) d.predicates d.functions) (goal_kept d name code starts m k t p a e cells ec))
    es ef ev
    (ap (λ (n : Counts). with_objects n v) k.counted ∙ ap (with_objects (counts_in d)) o) k.acts
    ∙ rw e refl

pub domain_loaded : (s t : List ℕ) (d : Domain) (end : ℕ) → read_domain s ≡ got d end → (x : Loaded) → x ≡ of_problem d (read_problem t d) → x ≡ load_of s t
unfolding load_of
domain_loaded s t d end i x e = e ∙ rw i refl

pub both_loaded : (s t : List ℕ) (d : Domain) (end : ℕ) → read_domain s ≡ got d end → (p : Problem) (a : ℕ) → read_problem t d ≡ got p a → (x : Loaded)
    → x ≡ loaded_of d p → x ≡ load_of s t
both_loaded s t d end i p a j x e = domain_loaded s t d end i x (e ∙ rw j refl)
