use Rattle.kt_plain.proofs.Within.{spells_room, place_any}
use Rattle.kt_plain.proofs.decoding.decode.Goals as goal

pub returns-clause-only : goal.returns-clause-only
returns-clause-only c = λ items s. c.decode_within.ensures.only items (spells_room c.args.width c.args.n items c.args.bytes.now s)

pub returns-clause-place : goal.returns-clause-place
returns-clause-place c = place_any c.args.width c.args.n c.args.bytes.now c.decode_within.result c.decode_within.ensures.place
