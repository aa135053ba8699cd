use Rattle.std.proofs.Common.{◌≡◌, length, sym, ap, ◌∙◌, subst, arith, length-append, ◌++◌, ◌∷◌, []}
use Rattle.std.specs.Prelude.{OnOk}
use Rattle.kt_history.specs.declared.operation.RowOp.{RowOp}
use Rattle.kt_history.specs.Spelled.{op_in, operation, SpellsOp}
use Rattle.kt_history.proofs.Lengths.{length-operation}
use Rattle.kt_history.proofs.Spelled.{spells, op_again}
use Rattle.kt_records.proofs.Records.{op_in_front}
use Rattle.kt_records.proofs.lists.keep.Goals as goal

pub split_at-requires : goal.split_at-requires
split_at-requires c = omega (arith, c.len.ensures, ap length c.requires.spelled.1, length-append (operation c.args.op.now) c.requires.spelled.0, length-operation c.args.op.now)

pub push_spelled-requires : goal.push_spelled-requires
push_spelled-requires c =
    subst SpellsOp (sym (c.split_at.ensures.front ∙ op_in_front c.args.op.now c.args.bytes.now c.requires.spelled.0 c.len.result c.len.ensures c.requires.spelled.1)) (spells c.args.op.now c.requires.fits)

pub returns-clause-ok : goal.returns-clause-ok
returns-clause-ok c =
    let is : op_in c.split_at.result.0.now ≡ c.args.op.now = ap op_in (c.split_at.ensures.front ∙ op_in_front c.args.op.now c.args.bytes.now c.requires.spelled.0 c.len.result c.len.ensures c.requires.spelled.1) ∙ op_again c.args.op.now c.requires.fits in
    subst (λ (op : RowOp). OnOk c.push_spelled.result (c.push_spelled.new.self ≡ c.args.ops.now ++ op ∷ [])) is c.push_spelled.ensures.ok
