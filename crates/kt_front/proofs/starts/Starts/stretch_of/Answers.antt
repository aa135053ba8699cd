use Rattle.std.proofs.Common.{◌∙◌, arith}
use Rattle.std.proofs.lemmas.List.{take_rest}
use Rattle.kt_front.proofs.Walk.{stretch_at}
use Rattle.kt_front.proofs.starts.Starts.stretch_of.Goals as goal

pub returns : goal.returns
returns c = λ items block are lt. take_rest c.args.bytes.now c.start-start.result ∙ (stretch_at items c.args.self.now c.args.bytes.now c.args.i c.start-start.result block are lt c.start-start.ensures).1

pub returns-then-start-bytes : goal.returns-then-start-bytes
returns-then-start-bytes c = λ items block are lt. absurd (omega (arith, c.if-start-bytes.true, (stretch_at items c.args.self.now c.args.bytes.now c.args.i c.start-start.result block are lt c.start-start.ensures).0))
