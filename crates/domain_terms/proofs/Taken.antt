-- What was read and written, by the answer. Assumes nothing.
use mathlib.Core.Path.{◌≡◌, refl, sym, ◌∙◌}
use mathlib.Core.List.{List}
use Prim.Native.Nat.{ℕ, ◌+◌}
use lib.ListN.{length}
use lib.Seq.{sets}
use Rattle.domain_meaning.specs.Read.{Read, got, refused}
use Rattle.domain_due.specs.Answers.{Parsed, Done, Refused}
use Rattle.domain_due.proofs.Dues.{done_parts, refused_parts, never_done}
use Rattle.domain_terms.specs.Cells.{Wrote}

pub record Took {A : Type 0} (cells : A → List ℕ) (code : List ℕ) (u : ℕ) (m : List ℕ) (a v : ℕ) (x : Read A) : Type 0 where
  pub tree : A
  pub is : x ≡ got tree a
  pub free : v ≡ u + length (cells tree)
  pub stored : m ≡ sets code u (cells tree)

module _ {A : Type 0} (cells : A → List ℕ) (code : List ℕ) (u : ℕ) (r : Parsed) (m : List ℕ) where
  pub wrote_got : (x : Read A) (a v : ℕ) → Wrote cells code u r m x → r ≡ Done a v → Took cells code u m a v x
  unfolding Wrote
  wrote_got (got t n) a v h e =
      let q = done_parts n a (u + length (cells t)) v (sym h.0 ∙ e) in
      record { tree = t; is = rw q.0; free = sym q.1; stored = h.1 }
  wrote_got (refused k p) a v h e =
      never_done k p a v (sym h ∙ e)

  pub wrote_not : (x : Read A) (k p : ℕ) → Wrote cells code u r m x → r ≡ Refused k p → x ≡ refused k p
  unfolding Wrote
  wrote_not (got t n) k p h e =
      never_done k p n (u + length (cells t)) (sym e ∙ h.0)
  wrote_not (refused j q) k p h e =
      let o = refused_parts j k q p (sym h ∙ e) in
      rw (o.0, o.1)

pub wrote_by : {A : Type 0} (cells : A → List ℕ) (code : List ℕ) (u : ℕ) (m : List ℕ) (x : Read A) (t : A) (n v : ℕ) → x ≡ got t n
    → v ≡ u + length (cells t) → m ≡ sets code u (cells t) → Wrote cells code u (Done n v) m x
unfolding Wrote
wrote_by cells code u m x t n v e i j = rw (e, i) (refl, j)
