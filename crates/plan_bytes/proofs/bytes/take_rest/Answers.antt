use Prim.Native.Nat.{◌+◌, ◌-◌, ◌≤◌}
use mathlib.Core.Path.{sym, ap, ◌∙◌}
use native.Mathlib.Omega.{arith}
use lib.ListN.{length, take}
use lib.Seq.{length-sets, length-take-le}
use Rattle.plan_lines.specs.Knowing.{known_in}
use Rattle.plan_bytes.proofs.Ends.{end_within, ends_not}
use Rattle.plan_bytes.proofs.Taking.{held_refused, held_beyond, held_more, held_long}
use Rattle.plan_bytes.proofs.bytes.take_rest.Goals as goal

pub returns-then-p : goal.returns-then-p
returns-then-p c = (λ R s q. held_refused R (known_in c.args.tables.now c.args.counts c.args.heads.now c.args.acting c.args.rows.now) s c.args.line.now q c.args.p c.args.rest.now c.if-p.true, λ _ _ f. f, c.requires.3)

pub returns-then-p-gt1000000 : goal.returns-then-p-gt1000000
returns-then-p-gt1000000 c = (
  λ R s q. rw c.refuse.ensures (held_beyond R (known_in c.args.tables.now c.args.counts c.args.heads.now c.args.acting c.args.rows.now) s c.args.line.now q c.args.p c.args.rest.now c.if-p.false c.if-p-gt1000000.true c.if-rest-eq0.false),
  λ _ _ f. rw c.refuse.ensures f,
  c.requires.3,
)

pub copy-requires : goal.copy-requires
copy-requires c = omega (arith, (ends_not c.args.p c.args.end (length c.args.rest.now) c.if-p.false c.if-p-gt1000000.false c.if-end-room.true c.requires.5), c.if-end-room.true, c.requires.2, c.requires.3)

pub returns-then-end-room : goal.returns-then-end-room
returns-then-end-room c = let fits : c.args.p.used + length c.args.rest.now ≤ 256 = omega (arith, (ends_not c.args.p c.args.end (length c.args.rest.now) c.if-p.false c.if-p-gt1000000.false c.if-end-room.true c.requires.5), c.if-end-room.true, c.requires.2) in (
  λ R s q. rw (c.counting.ensures, c.copy.ensures)
      (held_more R (known_in c.args.tables.now c.args.counts c.args.heads.now c.args.acting c.args.rows.now) s c.args.line.now q c.args.p c.args.rest.now c.if-p.false c.if-p-gt1000000.false c.requires.2 c.requires.3
      (omega (arith, (ends_not c.args.p c.args.end (length c.args.rest.now) c.if-p.false c.if-p-gt1000000.false c.if-end-room.true c.requires.5), c.requires.4)) fits),
  λ _ _ f. rw c.counting.ensures (f.0, f.1, fits, f.3, f.4),
  ap length c.copy.ensures ∙ length-sets c.args.line.now c.args.p.used c.args.rest.now ∙ c.requires.3,
)

pub slice_bounds-copy-end : goal.slice_bounds-copy-end
slice_bounds-copy-end c = sym (length-take-le (256 - c.args.p.used + 1) c.args.rest.now ((omega (arith, c.if-end-room.false, c.requires.4, end_within c.args.rest.now))))

pub returns : goal.returns
returns c = let j = 256 - c.args.p.used in (
  λ R s q. held_long R (known_in c.args.tables.now c.args.counts c.args.heads.now c.args.acting c.args.rows.now) s c.args.line.now q c.args.p c.args.rest.now c.if-p.false c.if-p-gt1000000.false c.requires.2 c.requires.3
      j (omega (arith, c.requires.2)) (omega (arith, c.if-end-room.false, c.requires.4)) (length-take-le (j + 1) c.args.rest.now ((omega (arith, c.if-end-room.false, c.requires.4, end_within c.args.rest.now))))
      c.copy-2.new.rows c.counting-full.result c.refuse_long.result c.copy-2.ensures c.counting-full.ensures c.refuse_long.ensures.0 c.refuse_long.ensures.1,
  λ _ _ f. rw (c.refuse_long.ensures.1, c.counting-full.ensures) (f.0, f.1, omega arith, f.3, f.4),
  ap length c.copy-2.ensures ∙ length-sets c.args.line.now c.args.p.used (take (j + 1) c.args.rest.now) ∙ c.requires.3,
)
