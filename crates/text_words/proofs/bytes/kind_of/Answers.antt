use mathlib.Core.Path.{◌≡◌, refl}
use mathlib.Core.Logic.{⊎_elim, inl, inr}
use native.Mathlib.Omega.{arith}
use native.Mathlib.Decide.{dec_le}
use Rattle.text_words.specs.Bytes.{kind_of, bytes}
use Rattle.text_words.specs.declared.bytes.Kind.TheVariants as K
use Rattle.text_words.proofs.Ranges.{kind_at}
use Rattle.text_words.proofs.bytes.kind_of.Goals as goal

pub returns-in-48-to-57 : goal.returns-in-48-to-57
unfolding kind_of bytes
returns-in-48-to-57 c = kind_at 48 10 K.Digit c.args.b refl (omega arith) (omega arith)

pub returns-in-65-to-90 : goal.returns-in-65-to-90
unfolding kind_of bytes
returns-in-65-to-90 c = kind_at 65 26 K.Letter c.args.b refl (omega arith) (omega arith)

pub returns-in-65-to-90-2 : goal.returns-in-65-to-90-2
unfolding kind_of bytes
returns-in-65-to-90-2 c = kind_at 97 26 K.Letter c.args.b refl (omega arith) (omega arith)

pub returns-in_default : goal.returns-in_default
unfolding kind_of bytes
returns-in_default c = kind_at 0 9 K.Refused c.args.b refl (omega arith) (omega arith)

pub returns-in_default-2 : goal.returns-in_default-2
unfolding kind_of bytes
returns-in_default-2 c = let n13 : (c.args.b ≡ 13 → ⊥) = λ e. c.in_default.in_default-own.rest.0.1 (inl e) in elim (dec_le c.args.b 12) [ yes k ↦ kind_at 11 2 K.Refused c.args.b refl (omega arith) (omega arith) | no k ↦ kind_at 14 18 K.Refused c.args.b refl (omega arith) (omega arith) ]

pub returns-in_default-3 : goal.returns-in_default-3
unfolding kind_of bytes
returns-in_default-3 c = kind_at 127 129 K.Refused c.args.b refl (omega arith) (omega arith)

pub returns-in-40 : goal.returns-in-40
unfolding kind_of bytes
returns-in-40 c = ⊎_elim (λ e. rw e) (λ e. rw e) c.in-40.is

pub returns-in-40-2 : goal.returns-in-40-2
unfolding kind_of bytes
returns-in-40-2 c = kind_at 40 2 K.Bracket c.args.b refl (omega arith) (omega arith)

pub returns-in-33-to-126 : goal.returns-in-33-to-126
unfolding kind_of bytes
returns-in-33-to-126 c = rw c.in-33-to-126.in-33-to-126-own.keys3

pub returns-in-33-to-126-2 : goal.returns-in-33-to-126-2
unfolding kind_of bytes
returns-in-33-to-126-2 c = let n32 : (c.args.b ≡ 32 → ⊥) = λ e. c.in-33-to-126.in_default-own.rest.0.1 (inr e) in kind_at 33 7 K.Mark c.args.b refl (omega arith) (omega arith)

pub returns-in-33-to-126-3 : goal.returns-in-33-to-126-3
unfolding kind_of bytes
returns-in-33-to-126-3 c = kind_at 42 6 K.Mark c.args.b refl (omega arith) (omega arith)

pub returns-in-33-to-126-4 : goal.returns-in-33-to-126-4
unfolding kind_of bytes
returns-in-33-to-126-4 c = kind_at 58 7 K.Mark c.args.b refl (omega arith) (omega arith)

pub returns-in-33-to-126-5 : goal.returns-in-33-to-126-5
unfolding kind_of bytes
returns-in-33-to-126-5 c = let n91 : (c.args.b ≡ 91 → ⊥) = λ e. c.in-33-to-126.in_default-own.rest.0.0.1 (inl e) in let n92 : (c.args.b ≡ 92 → ⊥) = λ e. c.in-33-to-126.in_default-own.rest.1 e in let n93 : (c.args.b ≡ 93 → ⊥) = λ e. c.in-33-to-126.in_default-own.rest.0.0.1 (inr e) in kind_at 94 3 K.Mark c.args.b refl (omega arith) (omega arith)

pub returns-in-33-to-126-6 : goal.returns-in-33-to-126-6
unfolding kind_of bytes
returns-in-33-to-126-6 c = kind_at 123 4 K.Mark c.args.b refl (omega arith) (omega arith)

pub returns-in-9 : goal.returns-in-9
unfolding kind_of bytes
returns-in-9 c = ⊎_elim (λ e. rw e) (λ e. rw e) c.in-9.is

pub returns-in-9-2 : goal.returns-in-9-2
unfolding kind_of bytes
returns-in-9-2 c = kind_at 9 2 K.White c.args.b refl (omega arith) (omega arith)
