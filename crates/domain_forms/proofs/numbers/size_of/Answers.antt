use native.Mathlib.Omega.{arith}
use borrow.Author.Tests.{lt-ltb, le-ltb}
use Rattle.domain_literals.specs.Literal.{size_of}
use Rattle.domain_forms.proofs.numbers.size_of.Goals as goal

pub returns-then-v-lt1 : goal.returns-then-v-lt1
unfolding size_of
returns-then-v-lt1 c = (rw (lt-ltb _ _ c.if-v-lt1.true), omega arith)

pub returns-then-v-lt256 : goal.returns-then-v-lt256
unfolding size_of
returns-then-v-lt256 c = (rw (le-ltb _ _ c.if-v-lt1.false, lt-ltb _ _ c.if-v-lt256.true), omega arith)

pub returns-then-v-lt65536 : goal.returns-then-v-lt65536
unfolding size_of
returns-then-v-lt65536 c = (rw (le-ltb _ _ c.if-v-lt1.false, le-ltb _ _ c.if-v-lt256.false, lt-ltb _ _ c.if-v-lt65536.true), omega arith)

pub returns-then-v-lt16777216 : goal.returns-then-v-lt16777216
unfolding size_of
returns-then-v-lt16777216 c = (rw (le-ltb _ _ c.if-v-lt1.false, le-ltb _ _ c.if-v-lt256.false, le-ltb _ _ c.if-v-lt65536.false, lt-ltb _ _ c.if-v-lt16777216.true), omega arith)

pub returns-then-v-lt4294967296 : goal.returns-then-v-lt4294967296
unfolding size_of
returns-then-v-lt4294967296 c = (rw (le-ltb _ _ c.if-v-lt1.false, le-ltb _ _ c.if-v-lt256.false, le-ltb _ _ c.if-v-lt65536.false, le-ltb _ _ c.if-v-lt16777216.false, lt-ltb _ _ c.if-v-lt4294967296.true), omega arith)

pub returns : goal.returns
unfolding size_of
returns c = (rw (le-ltb _ _ c.if-v-lt1.false, le-ltb _ _ c.if-v-lt256.false, le-ltb _ _ c.if-v-lt65536.false, le-ltb _ _ c.if-v-lt16777216.false, le-ltb _ _ c.if-v-lt4294967296.false), omega arith)
