use Rattle.std.proofs.Common.{arith}
use Rattle.kt_mvcc.proofs.Index.{tells_alone, tells_fewer}
use Rattle.kt_mvcc.proofs.flight.let_go.Goals as goal

pub returns-then-alone : goal.returns-then-alone
returns-then-alone c = tells_alone c.clear.new.self c.args.who c.args.flying.now c.clear.ensures.empty (grind arith) c.requires.flies

pub returns : goal.returns
returns c = tells_fewer c.args.held.now c.release.new.held c.args.who c.args.flying.now c.release.ensures.keeps c.release.ensures.stood c.release.ensures.left c.requires.tells
