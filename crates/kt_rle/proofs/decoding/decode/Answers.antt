use Rattle.std.proofs.Common.{◌∙◌, arith}
use Rattle.kt_rle.specs.Held.{numbers_of}
use Rattle.kt_rle.proofs.Decoded.{read_spells, spells_one, only_refused}
use Rattle.kt_rle.proofs.decoding.decode.Goals as goal

pub returns-in-Err-clause-only : goal.returns-in-Err-clause-only
returns-in-Err-clause-only c = only_refused c.args.width c.args.n c.args.bytes.now c.in-Err.no c.in-Err.ensures.place

pub returns-in-Ok-clause-found : goal.returns-in-Ok-clause-found
returns-in-Ok-clause-found c = rw c.held.ensures (read_spells c.args.width c.args.n c.args.bytes.now c.in-Ok.runs.items (omega arith) c.in-Ok.ensures.read)

pub returns-in-Ok-clause-only : goal.returns-in-Ok-clause-only
returns-in-Ok-clause-only c = λ items s.
    c.held.ensures ∙ spells_one c.args.width c.args.n c.args.bytes.now (numbers_of c.in-Ok.runs.items) items (read_spells c.args.width c.args.n c.args.bytes.now c.in-Ok.runs.items (omega arith) c.in-Ok.ensures.read) s
