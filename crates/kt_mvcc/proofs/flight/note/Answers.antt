use Rattle.std.proofs.Common.{sym, ◌∙◌}
use Rattle.std.proofs.lemmas.Bool.{false≢true}
use Rattle.kt_mvcc.proofs.Index.{tells_more}
use Rattle.kt_mvcc.proofs.flight.note.Goals as goal

-- hashes that are not whole tell of any writes
pub returns-then-is_empty : goal.returns-then-is_empty
returns-then-is_empty c = λ ts whole. absurd (false≢true (sym c.pass_over.ensures ∙ whole))

pub returns-then-whole : goal.returns-then-whole
returns-then-whole c = λ ts. tells_more c.args.held.now c.hold.new.self c.args.flying.now (record { who = c.args.who; ts = ts; keys = c.args.keys.now }) c.hold.ensures.keeps c.hold.ensures.held c.hold.ensures.stood c.requires
