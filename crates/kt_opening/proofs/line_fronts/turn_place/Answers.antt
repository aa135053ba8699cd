use Rattle.std.proofs.Common.{sym}
use Rattle.kt_opening.proofs.LineReads.{write_long}
use Rattle.kt_opening.proofs.line_fronts.turn_place.Goals as goal

pub returns-then-c-ts-clause-within : goal.returns-then-c-ts-clause-within
returns-then-c-ts-clause-within c = write_long c.args.line.now (c.in-Some.ts, c.in-Some.changes) (sym c.in-Some.ensures)
