-- Step 4: the effects evaluate or the first that does not is named, and the numbers made are what the effects put, one after the other. Assumes nothing.
use mathlib.Core.Bool.{Bool, true, false}
use mathlib.Core.List.{List, [], ◌∷◌, ◌++◌}
use mathlib.Core.Path.{◌≡◌, refl, sym, ap, subst, ◌∙◌}
use Prim.Native.Nat.{ℕ}
use lib.IntN.{ℤ, pos}
use Rattle.domain_meaning.specs.Effects.{Change, assign, raise, lower, Effect, becomes, changes}
use Rattle.happening_meaning.specs.State.{State, Grounds, number_at, number_of}
use Rattle.happening_meaning.specs.Truths.{value_of}
use Rattle.happening_meaning.specs.Happening.{Point, line_of, objects_of, effects_of, is_done, unless, each, Made, made, on_made, on_needed, needed, set_number}
use Rattle.happening_meaning.specs.Happening.{change_one, change_all, change_points}
use Rattle.happening_meaning.specs.declared.Value.{Value}
use Rattle.happening_meaning.specs.declared.Value.TheVariants as Is
use Rattle.happening_meaning.specs.declared.Outcome.{Outcome}
use Rattle.happening_meaning.specs.declared.Outcome.TheVariants.{Done}
use Rattle.check_validity_meaning.specs.Lists.{All, First}
use Rattle.check_validity_meaning.specs.Values.{HasValue}
use Rattle.check_validity_meaning.specs.Happens.{Given, Doable, Evaluable, Written, Writes, AllWrite}
use Rattle.check_validity_meaning.specs.Failing.{NotGiven, Unmade, FirstUnmade}
use Rattle.check_validity_meaning.proofs.Deciding.{Decides, is_done_lem, is_not, always, then, each_decides}
use Rattle.check_validity_meaning.proofs.Values.{wants, defined_decides, value_decides, has_value}

-- ---- what is evaluated

given_decides : (how : Change) (l : ℕ) (old : List ℤ) (x : ℕ) → Decides (Given how old x) (NotGiven how old x l) (wants l (needed how old x))
given_decides assign l old x = always
given_decides raise l old x = defined_decides l (number_at old x)
given_decides lower l old x = defined_decides l (number_at old x)

module _ (g : Grounds) (s : State) where
  abbrev evaluated : ℕ → List ℕ → Effect → Outcome
  evaluated l os (becomes yes' r) = Done
  evaluated l os (changes how r e) = unless (wants l (value_of g s.numbers os e)) (wants l (needed how s.numbers (number_of g os r)))

  evaluated_decides : (l : ℕ) (os : List ℕ) (e : Effect) → Decides (Doable g s os e) (Unmade g s l os e) (evaluated l os e)
  evaluated_decides l os (becomes yes' r) = always
  evaluated_decides l os (changes how r e) = then (value_decides g s.numbers os l e) (given_decides how l s.numbers (number_of g os r))

  abbrev pub evaluated_by : Point → Outcome
  evaluated_by p = each (evaluated (line_of p) (objects_of p)) (effects_of p)

  pub evaluation_decides : (ps : List Point)
      → Decides (All (Evaluable g s) ps) (λ w. First (Evaluable g s) (λ p. FirstUnmade g s p w) ps) (each evaluated_by ps)
  evaluation_decides ps =
      each_decides evaluated_by (λ p. each_decides (evaluated (line_of p) (objects_of p)) (evaluated_decides (line_of p) (objects_of p)) (effects_of p)) ps

-- ---- what is written

-- 0 where there is no value; none such is executed
abbrev amount_of : Value → ℤ
amount_of (Is.Number z) = z
amount_of Is.Undefined = pos 0
amount_of Is.Range = pos 0

module _ (g : Grounds) (s : State) where
  abbrev pub written : List ℕ → List Effect → List Written
  written os [] = []
  written os (becomes yes' r ∷ es) = written os es
  written os (changes how r e ∷ es) =
      record { how = how; index = number_of g os r; amount = amount_of (value_of g s.numbers os e) } ∷ written os es

  abbrev pub all_written_lem : List Point → List Written
  all_written_lem [] = []
  all_written_lem (p ∷ ps) = written (objects_of p) (effects_of p) ++ all_written_lem ps

  only_written : (os : List ℕ) (es : List Effect) (ws : List Written) → Writes g s os es ws → ws ≡ written os es
  only_written os [] ws h = h
  only_written os (becomes yes' r ∷ es) ws h = only_written os es ws h
  only_written os (changes how r e ∷ es) [] h = absurd h
  only_written os (changes how r e ∷ es) (w ∷ ws) h =
      let v : w.amount ≡ amount_of (value_of g s.numbers os e) = sym (ap amount_of ((has_value g s.numbers os e w.amount).1 h.2)) in
      λ i. record { how = h.0 i; index = h.1 i; amount = v i } ∷ only_written os es ws h.3 i

  is_written : (os : List ℕ) (es : List Effect) → All (Doable g s os) es → Writes g s os es (written os es)
  is_written os [] a = refl
  is_written os (becomes yes' r ∷ es) a = is_written os es a.1
  is_written os (changes how r e ∷ es) a =
      let z = a.0.0.0 in
      let h = a.0.0.1 in
      (refl, refl, subst (HasValue g s.numbers os e) (sym (ap amount_of ((has_value g s.numbers os e z).1 h))) h, is_written os es a.1)

  pub only_all_written : (ps : List Point) (ws : List Written) → AllWrite g s ps ws → ws ≡ all_written_lem ps
  only_all_written [] ws h = h
  only_all_written (p ∷ ps) ws (us, vs, q, a, b) =
      q ∙ (λ i. only_written (objects_of p) (effects_of p) us a i ++ only_all_written ps vs b i)

  pub is_all_written : (ps : List Point) → All (Evaluable g s) ps → AllWrite g s ps (all_written_lem ps)
  is_all_written [] a = refl
  is_all_written (p ∷ ps) a =
      (written (objects_of p) (effects_of p), all_written_lem ps, refl, is_written (objects_of p) (effects_of p) a.0, is_all_written ps a.1)

-- ---- what is made

abbrev pub put : List ℤ → Written → List ℤ
put ns w = set_number w.how ns w.index w.amount

abbrev pub puts : List ℤ → List Written → List ℤ
puts ns [] = ns
puts ns (w ∷ ws) = puts (put ns w) ws

puts_append : (ns : List ℤ) (ws vs : List Written) → puts ns (ws ++ vs) ≡ puts (puts ns ws) vs
puts_append ns [] vs = refl
puts_append ns (w ∷ ws) vs = puts_append (put ns w) ws vs

-- the outcome, and the numbers if it is `Done`
abbrev pub Makes : Made → Outcome → List ℤ → Type 0
Makes m o ns = (m.outcome ≡ o) × (o ≡ Done → m.numbers ≡ ns)

makes_then : (m : Made) (o n : Outcome) (ns : List ℤ) (f : List ℤ → Made) (h : List ℤ → List ℤ) → Makes m o ns → ((ms : List ℤ) → Makes (f ms) n (h ms))
    → Makes (on_made m f) (unless o n) (h ns)
unfolding unless
makes_then m o n ns f h a b = go (is_done o) refl
  where
    go : (d : Bool) → is_done o ≡ d → Makes (on_made m f) (unless o n) (h ns)
    go true e =
        let c : is_done m.outcome ≡ true = ap is_done a.0 ∙ e in
        rw (c, e, a.1 (is_done_lem o e)) (b ns)
    go false e =
        let c : is_done m.outcome ≡ false = ap is_done a.0 ∙ e in
        rw (c, e) (a.0, λ q. is_not q e)

module _ (g : Grounds) (s : State) where
  makes_value : (l : ℕ) (ns : List ℤ) (how : Change) (x : ℕ) (v u : Value)
      → Makes (on_needed l ns v (λ z. on_needed l ns u (λ _. made Done (set_number how ns x z)))) (unless (wants l v) (wants l u))
      (set_number how ns x (amount_of v))
  unfolding unless
  makes_value l ns how x (Is.Number z) (Is.Number y) = (refl, λ e. refl)
  makes_value l ns how x (Is.Number z) Is.Undefined = (refl, λ e. is_not e refl)
  makes_value l ns how x (Is.Number z) Is.Range = (refl, λ e. is_not e refl)
  makes_value l ns how x Is.Undefined u = (refl, λ e. is_not e refl)
  makes_value l ns how x Is.Range u = (refl, λ e. is_not e refl)

  makes_one : (l : ℕ) (os : List ℕ) (ns : List ℤ) (e : Effect)
      → Makes (change_one g s.numbers l os ns e) (evaluated g s l os e) (puts ns (written g s os (e ∷ [])))
  unfolding change_one
  makes_one l os ns (becomes yes' r) = (refl, λ e. refl)
  makes_one l os ns (changes how r e) = makes_value l ns how (number_of g os r) (value_of g s.numbers os e) (needed how s.numbers (number_of g os r))

  written_cons : (os : List ℕ) (e : Effect) (es : List Effect) → written g s os (e ∷ es) ≡ written g s os (e ∷ []) ++ written g s os es
  written_cons os (becomes yes' r) es = refl
  written_cons os (changes how r e) es = refl

  makes_all : (l : ℕ) (os : List ℕ) (ns : List ℤ) (es : List Effect)
      → Makes (change_all g s.numbers l os ns es) (each (evaluated g s l os) es) (puts ns (written g s os es))
  unfolding change_all each
  makes_all l os ns [] = (refl, λ e. refl)
  makes_all l os ns (e ∷ es) =
      rw (written_cons os e es, puts_append ns (written g s os (e ∷ [])) (written g s os es))
      (makes_then (change_one g s.numbers l os ns e) (evaluated g s l os e) (each (evaluated g s l os) es) (puts ns (written g s os (e ∷ [])))
      (λ ms. change_all g s.numbers l os ms es) (λ ms. puts ms (written g s os es)) (makes_one l os ns e) (λ ms. makes_all l os ms es))

  pub makes_points : (ns : List ℤ) (ps : List Point) → Makes (change_points g s.numbers ns ps) (each (evaluated_by g s) ps) (puts ns (all_written_lem g s ps))
  unfolding change_points each
  makes_points ns [] = (refl, λ e. refl)
  makes_points ns (p ∷ ps) =
      let one = written g s (objects_of p) (effects_of p) in
      rw (puts_append ns one (all_written_lem g s ps))
      (makes_then (change_all g s.numbers (line_of p) (objects_of p) ns (effects_of p)) (evaluated_by g s p) (each (evaluated_by g s) ps) (puts ns one)
      (λ ms. change_points g s.numbers ms ps) (λ ms. puts ms (all_written_lem g s ps))
      (makes_all (line_of p) (objects_of p) ns (effects_of p)) (λ ms. makes_points ms ps))
