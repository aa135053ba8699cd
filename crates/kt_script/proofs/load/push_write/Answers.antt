use Rattle.std.proofs.Common.{◌/◌, ◌^◌, ◌∙◌, ◌++◌, ◌∷◌, [], ap}
use Rattle.kt_history.specs.declared.command.Command.TheVariants as command
use Rattle.kt_history.specs.declared.operation.RowOp.{RowOp}
use Rattle.kt_script.specs.Loads.{load_op}
use Rattle.kt_key.proofs.Escapes.{on_ok}
use Rattle.kt_script.proofs.LoadOps.{op_kept, op_is}
use Rattle.kt_script.proofs.load.push_write.Goals as goal

pub read-requires : goal.read-requires
read-requires c = op_kept c.spell_op.new.op c.args.session _ c.requires.last c.in_ok-spell_op.ensures

pub returns : goal.returns
returns c = on_ok c.push_lone.result c.push_lone.ensures.ok (λ pushed. λ k is.
    pushed ∙ ap (λ w. c.args.commands.now ++ w ∷ []) (ap (λ (o : RowOp). command.Write (record { ops = o ∷ [] }))
    (c.read.ensures ∙ op_is c.spell_op.new.op c.args.session _ c.requires.last c.in_ok-spell_op.ensures ∙ ap (λ n. load_op c.args.session (n / 2 ^ 33)) is)))
