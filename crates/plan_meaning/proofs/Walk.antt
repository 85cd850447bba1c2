-- What is known of every plan line, from one walk through its definition: of the step that it gives, and of its refusal. Assumes nothing.
use Rattle.std.specs.Prelude.{None, Some}
use Rattle.std.specs.Prelude as Prelude
use mathlib.Core.Path.{◌≡◌, refl}
use mathlib.Core.List.{List, [], ◌∷◌}
use mathlib.Core.Bool.{true}
use mathlib.Core.Option.{Option, some, none}
use Prim.Native.Nat.{ℕ, ◌+◌, ◌≤◌, ◌<◌, min}
use native.Mathlib.Omega.{arith}
use lib.Dec.{eqb, ltb}
use lib.IntN.{nat_abs}
use lib.ListN.{length, length-map}
use borrow.Author.Tests.{ltb-false, ne_eqb, eqb-false}
use Rattle.plan_meaning.proofs.Marks.{given_mark}
use Rattle.domain_meaning.proofs.Given.{Given, reads, refuses, given_then, given_either, given_word, given_number, given_open, given_close, given_end}
use Rattle.text_words.specs.Bytes.{is_one_of}
use Rattle.text_tokens.specs.Tokens.{plan_token_at}
use Rattle.text_tokens.specs.declared.tokens.Token.{Token}
use Rattle.domain_rows.proofs.Rows.{length_padded}
use Rattle.domain_terms.proofs.Kept.{found_below}
use Rattle.domain_meaning.specs.Read.{refused, give, refuse}
use Rattle.domain_meaning.specs.Tables.{Table, entry_at, type_of, wanted_of, lookup, on_found, declared, is_below}
use Rattle.domain_meaning.specs.Due.{number_of, place_of}
use Rattle.domain_meaning.specs.Actions.{Lasting, Action}
use Rattle.domain_meaning.specs.Actions as A
use Rattle.plan_meaning.specs.Plan.{Span, moment, lasting, Step}
use Rattle.plan_meaning.specs.Promised.{Act, action_of, duration_of}
use Rattle.plan_meaning.specs.Lines as L
use Rattle.plan_meaning.specs.Lines.{Known, declarations, mark, opening, name, line_end, start_at, argument, fits, objects_to, duration_in, bracket_of, end_of}
use Rattle.plan_meaning.specs.Lines.{span_of, act_at, line_at}
use Rattle.plan_meaning.specs.Stored.{span_in}
use Rattle.plan_meaning.specs.Listed.{plan_rows, listed_row}
use Rattle.plan_meaning.proofs.Listed.{row_of_lem}
use Rattle.plan_meaning.proofs.Tokens.{Told, token_told}

-- the step that line n gives, s its bytes and `before` the previous step's start
pub record ReadStep (s : List ℕ) (k : Known) (n before : ℕ) (x : Step Act) : Type 0 where
  pub line : x.line ≡ n
  pub rises : before ≤ x.start
  pub start : x.start < 1000000000000
  pub width : x.act.width ≡ length s
  pub action : x.act.action < length k.actions
  pub objects : length x.act.objects ≡ 4
  pub duration : duration_of x.span < 1000000000000
  pub span : span_in (duration_of x.span) ≡ x.span

abbrev pub ReadLine : List ℕ → Known → ℕ → ℕ → Option (Step Act) → Type 0
ReadLine s k n before none = Unit {0}
ReadLine s k n before (some x) = ReadStep s k n before x

-- a refusal's number, and its place at or below m
abbrev pub Placed : ℕ → ℕ → ℕ → Type 0
Placed m c p = (p ≤ m) × (listed_row c (p + 1) ≡ true)

-- a span as it lies in a number
record Timed (d : Span) : Type 0 where
  small : duration_of d < 1000000000000
  is : span_in (duration_of d) ≡ d

moment_timed : Timed moment
unfolding span_in
moment_timed = record { small = omega arith; is = refl }

lasting_timed : (d : ℕ) → 0 < d → d < 1000000000000 → Timed (lasting d)
unfolding span_in
lasting_timed d lo hi = record { small = hi; is = rw (ne_eqb d 0 (λ e. let y : ⊥ = omega (arith, e) in y)) }

-- m is not below the line's end, or not below 256
module _ (s : List ℕ) (m : ℕ) (room : min (length s) 256 ≤ m) where
  told : (at : ℕ) → at ≤ m → Told m (plan_token_at s at)
  told at h = token_told s m at room h

  -- row c at p
  row : {A : Type 0} {P : A → ℕ → Type 0} {p : ℕ} (c : ℕ) → p ≤ m → is_one_of c plan_rows ≡ true → Given P (Placed m) (refused c p)
  row {p = p} c h i = refuses (h, row_of_lem c (p + 1) i)

  -- a token that may not stand here
  misplaced_walk : {A : Type 0} {P : A → ℕ → Type 0} {t : Token} → Told m t → Given P (Placed m) (refused (number_of 1 t) (place_of t))
  misplaced_walk h = refuses (h.place, h.row)

  -- ---- what is due

  mark_walk : (b at : ℕ) → at ≤ m → Given (λ (p n : ℕ). n ≤ m) (Placed m) (mark s b at)
  unfolding mark
  mark_walk b at h =
      let t = told at h in
      given_mark (Told m) (plan_token_at s at) _ _ _ t
      (λ c p e i. given_either (eqb c b) _ _ _ (λ _. reads t.after) (λ _. row 3 i.place refl))
      (misplaced_walk t)

  opening_walk : (at : ℕ) → at ≤ m → Given (λ (p n : ℕ). n ≤ m) (Placed m) (opening s at)
  unfolding opening
  opening_walk at h = let t = told at h in given_open (Told m) (plan_token_at s at) _ _ _ t (λ p e i. reads t.after) (misplaced_walk t)

  name_walk : (at : ℕ) → at ≤ m → Given (λ w n. (w.place ≤ m) × (n ≤ m)) (Placed m) (name s at)
  unfolding name
  name_walk at h = let t = told at h in given_word (Told m) (plan_token_at s at) _ _ _ t (λ k p e i. reads (i.place, t.after)) (misplaced_walk t)

  end_walk : (at : ℕ) → at ≤ m → Given (λ (p n : ℕ). n ≤ m) (Placed m) (line_end s at)
  unfolding line_end
  end_walk at h = let t = told at h in given_end (Told m) (plan_token_at s at) _ _ _ t (λ p i. reads t.after) (misplaced_walk t)

  declared_walk : (t : Table) (p : ℕ) (w : List ℕ) (at : ℕ) → p ≤ m → at ≤ m → Given (λ (i n : ℕ). (i < length t) × (n ≤ m)) (Placed m) (declared t p w at)
  unfolding declared
  declared_walk t p w at i h = go (lookup t w) refl
    where
      go : (f : Prelude.Option ℕ) → lookup t w ≡ f → Given (λ (i n : ℕ). (i < length t) × (n ≤ m)) (Placed m) (on_found f (λ i. give i) (refuse 8 p) at)
      go (Some j) e = reads (found_below t w j e, h)
      go None e = row 8 i refl

  -- ---- the objects

  module _ (k : Known) where
    argument_walk : (at : ℕ) → at ≤ m → Given (λ (g : L.Given) n. (g.place ≤ m) × (n ≤ m)) (Placed m) (argument s k at)
    unfolding argument
    argument_walk at h =
        given_then _ (name_walk at h) (λ w n i. given_then _ (declared_walk k.objects w.place w.word n i.0 i.1) (λ o e j. reads (i.0, j.1)))

    fits_walk : (want : ℕ) (g : L.Given) (at : ℕ) → g.place ≤ m → at ≤ m → Given (λ (i n : ℕ). n ≤ m) (Placed m) (fits k want g at)
    unfolding fits
    fits_walk want g at i h =
        given_either (is_below (length k.types) k.types (type_of (entry_at k.objects g.object)) want) _ _ _ (λ _. reads h) (λ _. row 10 i refl)

    objects_walk : (wants : List ℕ) (at : ℕ) → at ≤ m → Given (λ (os : List ℕ) n. n ≤ m) (Placed m) (objects_to s k wants at)
    unfolding objects_to
    objects_walk [] at h =
        let t = told at h in
        given_close (Told m) (plan_token_at s at) _ _ _ t (λ p e i. reads t.after)
        (given_then _ (argument_walk at h) (λ g n i. row 9 i.0 refl))
    objects_walk (want ∷ wants) at h =
        given_close (Told m) (plan_token_at s at) _ _ _ (told at h) (λ p e i. row 9 i.place refl)
        (given_then _ (argument_walk at h)
        (λ g n i. given_then _ (fits_walk want g n i.0 i.1) (λ o e j. given_then _ (objects_walk wants e j) (λ os l q. reads q))))

  -- ---- the duration

  duration_walk : (at : ℕ) → at ≤ m → Given (λ d n. Timed d × (n ≤ m)) (Placed m) (duration_in s at)
  unfolding duration_in
  duration_walk at h =
      let t = told at h in
      given_then _
      (given_number {P = λ (d n : ℕ). Timed (lasting d) × (n ≤ m)} (Told m) (plan_token_at s at) _ _ _ t
      (λ z p e i. given_either (eqb (nat_abs z) 0) _ _ _ (λ _. row 17 i.place refl)
      (λ q. let u = eqb-false (nat_abs z) 0 q in reads (lasting_timed (nat_abs z) (omega (arith, u)) i.small, t.after)))
      (misplaced_walk t))
      (λ d n i. given_then _ (mark_walk 93 n i.1) (λ a e j. given_then _ (end_walk e j) (λ b l q. reads (i.0, q))))

  bracket_walk : (l : Lasting) (b p at : ℕ) → p ≤ m → at ≤ m → Given (λ d n. Timed d × (n ≤ m)) (Placed m) (bracket_of s l b p at)
  bracket_walk A.moment b p at i h = given_either (eqb b 91) _ _ _ (λ _. row 17 i refl) (λ _. row 3 i refl)
  bracket_walk (A.rule e) b p at i h = given_either (eqb b 91) _ _ _ (λ _. duration_walk at h) (λ _. row 3 i refl)

  bare_walk : (l : Lasting) (p at : ℕ) → p ≤ m → at ≤ m → Given (λ d n. Timed d × (n ≤ m)) (Placed m) (end_of l p at)
  bare_walk A.moment p at i h = reads (moment_timed, h)
  bare_walk (A.rule e) p at i h = row 17 i refl

  span_walk : (l : Lasting) (at : ℕ) → at ≤ m → Given (λ d n. Timed d × (n ≤ m)) (Placed m) (span_of s l at)
  unfolding span_of
  span_walk l at h =
      let t = told at h in
      given_end (Told m) (plan_token_at s at) _ _ _ t (λ p i. bare_walk l p _ i.place t.after)
      (given_mark (Told m) (plan_token_at s at) _ _ _ t (λ b p e i. bracket_walk l b p _ i.place t.after) (misplaced_walk t))

  -- ---- a line

  module _ (k : Known) (n before : ℕ) where
    start_walk : (t : Token) (at : ℕ) → Told m t → at ≤ m → Given (λ (z e : ℕ). (before ≤ z) × (z < 1000000000000) × (e ≤ m)) (Placed m) (start_at before t at)
    unfolding start_at
    start_walk t at i h =
        given_number (Told m) t _ _ _ i
        (λ z p e j. given_either (ltb (nat_abs z) before) _ _ _ (λ _. row 16 j.place refl) (λ q. reads (ltb-false (nat_abs z) before q, j.small, h)))
        (misplaced_walk i)

    act_walk : (z at : ℕ) → before ≤ z → z < 1000000000000 → at ≤ m → Given (λ x _. ReadStep s k n before x) (Placed m) (act_at s k n z at)
    unfolding act_at
    act_walk z at lo hi h =
        given_then _ (mark_walk 58 at h)
        (λ a n1 h1. given_then _ (opening_walk n1 h1)
        (λ b n2 h2. given_then _ (name_walk n2 h2)
        (λ w n3 h3. given_then _ (declared_walk (declarations k.actions) w.place w.word n3 h3.0 h3.1)
        (λ i n4 h4. given_then _ (objects_walk k (wanted_of (action_of k.actions i).declared) n4 h4.1)
        (λ os n5 h5. given_then _ (span_walk (action_of k.actions i).lasting n5 h5)
        (λ d n6 h6. reads (record {
          line = refl;
          rises = lo;
          start = hi;
          width = refl;
          action = omega (arith, h4.0, length-map k.actions (λ (a : Action). a.declared));
          objects = length_padded 4 os;
          duration = h6.0.small;
          span = h6.0.is;
        })))))))

    pub line_walk : (at : ℕ) → at ≤ m → Given (λ x _. ReadLine s k n before x) (Placed m) (line_at s k n before at)
    unfolding line_at
    line_walk at h =
        let t = told at h in
        given_end (Told m) (plan_token_at s at) _ _ _ t (λ p i. reads tt)
        (given_then _ (start_walk (plan_token_at s at) _ t t.after) (λ z e i. given_then _ (act_walk z e i.0 i.1 i.2) (λ x l r. reads r)))
