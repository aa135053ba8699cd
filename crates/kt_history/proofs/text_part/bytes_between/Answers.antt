use Rattle.std.proofs.Common.{length, ap, ◌∙◌, arith}
use Rattle.kt_history.proofs.Parts.{bytes_of, in_order, within, ends_length}
use Rattle.kt_history.proofs.text_part.bytes_between.Goals as goal

pub start_at-requires : goal.start_at-requires
start_at-requires c = omega (arith, ap length c.ends-ends.ensures, ends_length 0 c.args.texts.now, c.requires.in_order, c.requires.within)

pub start_at-requires-2 : goal.start_at-requires-2
start_at-requires-2 c = omega (arith, ap length c.ends-ends.ensures, ends_length 0 c.args.texts.now, c.requires.within)

pub piece-requires-clause-in_order : goal.piece-requires-clause-in_order
piece-requires-clause-in_order c = rw (c.start_at.ensures, c.start_at-2.ensures, c.ends-ends.ensures) (in_order c.args.texts.now c.args.first c.args.end c.requires.in_order c.requires.within)

pub piece-requires-clause-within : goal.piece-requires-clause-within
piece-requires-clause-within c = rw (c.start_at-2.ensures, c.ends-ends.ensures, c.as_bytes.ensures) (within c.args.texts.now c.args.end c.requires.within)

pub returns : goal.returns
returns c = c.piece.ensures ∙ rw (c.start_at.ensures, c.start_at-2.ensures, c.ends-ends.ensures, c.as_bytes.ensures) (bytes_of c.args.texts.now c.args.first c.args.end c.requires.in_order c.requires.within)
