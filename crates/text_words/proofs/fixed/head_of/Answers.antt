use mathlib.Core.Path.{sym, ◌∙◌}
use native.Mathlib.Omega.{arith}
use Rattle.text_words.specs.Bytes.{bytes}
use Rattle.text_words.specs.Fixed.{head_of, heads}
use Rattle.text_words.specs.declared.fixed.HeadWord.TheVariants as H
use Rattle.text_words.proofs.Steps.{not_yet, picked_past}
use Rattle.text_words.proofs.fixed.head_of.Goals as goal

pub returns-in_default : goal.returns-in_default
unfolding head_of bytes
returns-in_default c = simp (sym c.word_in.ensures ∙ c.in_default.is)

pub returns-in-0 : goal.returns-in-0
unfolding head_of bytes
returns-in-0 c = simp (sym c.word_in.ensures ∙ c.in-Some.is, c.in-0.is)

pub returns-in-1 : goal.returns-in-1
unfolding head_of bytes
returns-in-1 c = simp (sym c.word_in.ensures ∙ c.in-Some.is, c.in-1.is)

pub returns-in-2 : goal.returns-in-2
unfolding head_of bytes
returns-in-2 c = simp (sym c.word_in.ensures ∙ c.in-Some.is, c.in-2.is)

pub returns-in-3 : goal.returns-in-3
unfolding head_of bytes
returns-in-3 c = simp (sym c.word_in.ensures ∙ c.in-Some.is, c.in-3.is)

pub returns-in-4 : goal.returns-in-4
unfolding head_of bytes
returns-in-4 c = simp (sym c.word_in.ensures ∙ c.in-Some.is, c.in-4.is)

pub returns-in-5 : goal.returns-in-5
unfolding head_of bytes
returns-in-5 c = simp (sym c.word_in.ensures ∙ c.in-Some.is, c.in-5.is)

pub returns-in-6 : goal.returns-in-6
unfolding head_of bytes
returns-in-6 c = simp (sym c.word_in.ensures ∙ c.in-Some.is, c.in-6.is)

pub returns-in-7 : goal.returns-in-7
unfolding head_of bytes
returns-in-7 c = simp (sym c.word_in.ensures ∙ c.in-Some.is, c.in-7.is)

pub returns-in-8 : goal.returns-in-8
unfolding head_of bytes
returns-in-8 c = simp (sym c.word_in.ensures ∙ c.in-Some.is, c.in-8.is)

pub returns-in-9 : goal.returns-in-9
unfolding head_of bytes
returns-in-9 c = simp (sym c.word_in.ensures ∙ c.in-Some.is, c.in-9.is)

pub returns-in-10 : goal.returns-in-10
unfolding head_of bytes
returns-in-10 c = simp (sym c.word_in.ensures ∙ c.in-Some.is, c.in-10.is)

pub returns-in-11 : goal.returns-in-11
unfolding head_of bytes
returns-in-11 c = simp (sym c.word_in.ensures ∙ c.in-Some.is, c.in-11.is)

pub returns-in_default-i : goal.returns-in_default-i
unfolding head_of bytes
returns-in_default-i c = picked_past heads H.Other _ c.in-Some.i (sym c.word_in.ensures ∙ c.in-Some.is) (not_yet 11 c.in-Some.i (not_yet 10 c.in-Some.i (not_yet 9 c.in-Some.i (not_yet 8 c.in-Some.i (not_yet 7 c.in-Some.i (not_yet 6 c.in-Some.i (not_yet 5 c.in-Some.i (not_yet 4 c.in-Some.i (not_yet 3 c.in-Some.i (not_yet 2 c.in-Some.i (not_yet 1 c.in-Some.i (not_yet 0 c.in-Some.i (omega arith) c.in_default-i.in_default-i-own.rest.0.0.0.0.0.0.0.0.0.0.0.1) c.in_default-i.in_default-i-own.rest.0.0.0.0.0.0.0.0.0.0.1) c.in_default-i.in_default-i-own.rest.0.0.0.0.0.0.0.0.0.1) c.in_default-i.in_default-i-own.rest.0.0.0.0.0.0.0.0.1) c.in_default-i.in_default-i-own.rest.0.0.0.0.0.0.0.1) c.in_default-i.in_default-i-own.rest.0.0.0.0.0.0.1) c.in_default-i.in_default-i-own.rest.0.0.0.0.0.1) c.in_default-i.in_default-i-own.rest.0.0.0.0.1) c.in_default-i.in_default-i-own.rest.0.0.0.1) c.in_default-i.in_default-i-own.rest.0.0.1) c.in_default-i.in_default-i-own.rest.0.1) c.in_default-i.in_default-i-own.rest.1)
