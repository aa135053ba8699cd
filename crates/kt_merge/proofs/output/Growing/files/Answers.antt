use Rattle.std.proofs.Common.{List, sym, ap, subst, ◌∙◌}
use Rattle.kt_baseset.specs.Tables.{BaseValue}
use Rattle.kt_baseset.specs.declared.rows.KeyedRow.{KeyedRow}
use Rattle.kt_baseset.specs.Rows.{keys_in, AreKeys}
use Rattle.kt_merge.proofs.WrittenRowsets.{are_keys, undone_over, redone_over}
use Rattle.kt_merge.proofs.output.Growing.files.Goals as goal

pub build-requires-clause-keys : goal.build-requires-clause-keys
build-requires-clause-keys c = subst (λ (l : List KeyedRow). AreKeys (keys_in l)) (sym c.of.ensures) (are_keys c.args.columns.now c.args.self c.requires.grown c.requires.some c.requires.most)

pub returns-clause-undone : goal.returns-clause-undone
returns-clause-undone c =
    undone_over c.args.columns.now c.args.self c.in_ok-set.set c.requires.grown
    (c.in_ok-set.ensures ∙ ap (λ (rows : List KeyedRow). let set : BaseValue = record { schema = c.args.columns.now; rows = rows } in set) c.of.ensures)

pub returns-clause-redone : goal.returns-clause-redone
returns-clause-redone c =
    redone_over c.args.columns.now c.args.self c.in_ok-set.set c.requires.grown
    (c.in_ok-set.ensures ∙ ap (λ (rows : List KeyedRow). let set : BaseValue = record { schema = c.args.columns.now; rows = rows } in set) c.of.ensures)
