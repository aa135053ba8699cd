use Rattle.std.proofs.Common.{sym, ◌∙◌}
use Rattle.kt_mvcc.specs.Held.{IsFree}
use Rattle.kt_mvcc.proofs.Index.{free_none, none_holds}
use Rattle.kt_mvcc.proofs.flight.holder.Goals as goal

pub returns-then-is_free : goal.returns-then-is_free
returns-then-is_free c =
    let free : IsFree c.args.held.now c.args.keys.now = c.is_free.ensures.free c.if-is_free.true in
    sym (free_none c.args.held.now c.args.flying.now c.args.keys.now c.requires free)

pub returns-then-is_empty : goal.returns-then-is_empty
returns-then-is_empty c = none_holds c.args.keys.now c.args.flying.now (sym c.is_empty.ensures ∙ c.if-is_empty.true)
