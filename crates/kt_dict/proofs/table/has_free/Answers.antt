use Rattle.std.proofs.Common.{◌∙◌, sym, arith}
use Rattle.kt_dict.proofs.Words.{nows}
use Rattle.kt_dict.proofs.Fresh.{free_here, no_free_more, no_free_zero}
use Rattle.kt_dict.proofs.table.has_free.Goals as goal

pub loop-b-init : goal.loop-b-init
loop-b-init c = no_free_zero (nows c.args.entries.now.keys)

pub returns-then-not-has_item : goal.returns-then-not-has_item
returns-then-not-has_item c = sym (free_here (nows c.args.entries.now.keys) c.loop-b.b (omega arith) (sym c.has_item.ensures ∙ c.if-not-has_item.true))

pub loop-b-preserved : goal.loop-b-preserved
loop-b-preserved c = no_free_more (nows c.args.entries.now.keys) c.loop-b.b (sym c.has_item.ensures ∙ c.if-not-has_item.false) c.loop-b.invariant
