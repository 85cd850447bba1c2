-- Gaps between tokens, and runs of bytes. A place is the number of bytes before it. RULES 2.
use Rattle.std.specs.Prelude.{ℕ, suc, ◌+◌, ◌-◌, List, [], ◌∷◌, Bool, true, false, cond, take, drop, eqb}
use Prim.Native.Char.{code}
use Rattle.text_words.specs.Bytes.{kind_of, is_white, is_refused, in_run}
use Rattle.text_tokens.specs.declared.runs.Gap.{Gap}
use Rattle.text_tokens.specs.declared.runs.Gap.TheVariants as G

-- the bytes of s from p to e
abbrev pub part : List ℕ → ℕ → ℕ → List ℕ
part s p e = take (e - p) (drop p s)

-- "`;` opens a comment to the line's end"; a byte not allowed ends the gap, "comments included"
unfoldable pub gap_step : Bool → ℕ → Gap
gap_step false b = cond (eqb b (code ";")) G.Comment (cond (is_white (kind_of b)) G.Plain G.Token)
gap_step true b = cond (eqb b 10) G.Plain (cond (is_refused (kind_of b)) G.Token G.Comment)

abbrev pub on_gap : {A : Type 0} → Gap → A → A → A → A
on_gap G.Plain a b c = a
on_gap G.Comment a b c = b
on_gap G.Token a b c = c

-- how many bytes of a gap stand at the front, in a comment or not
unfoldable pub gap : Bool → List ℕ → ℕ
gap comment [] = 0
gap comment (b ∷ bs) = on_gap (gap_step comment b) (suc (gap false bs)) (suc (gap true bs)) 0

unfoldable pub gap_end : List ℕ → ℕ → ℕ
gap_end s p = p + gap false (drop p s)

-- how many bytes of a run stand at the front
unfoldable pub run : ℕ → List ℕ → ℕ
run stop [] = 0
run stop (b ∷ bs) = cond (in_run stop b) (suc (run stop bs)) 0

unfoldable pub run_end : List ℕ → ℕ → ℕ → ℕ
run_end s stop p = p + run stop (drop p s)
