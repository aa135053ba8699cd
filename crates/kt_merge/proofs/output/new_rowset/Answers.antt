use Rattle.std.proofs.Common.{length, ap, rules}
use Rattle.kt_baseset.specs.Tables.{BaseValue}
use Rattle.kt_deltafile.specs.declared.file.Way.TheVariants.{Redo, Undo}
use Rattle.kt_merge.proofs.FilesMore.{file_under}
use Rattle.kt_merge.proofs.WrittenRowsets.{files_over}
use Rattle.kt_merge.proofs.output.new_rowset.Goals as goal

pub new_file-requires : goal.new_file-requires
new_file-requires c = file_under Undo (length c.args.set.rows) c.args.undos.items c.requires.undos

pub new_file-requires-2 : goal.new_file-requires-2
new_file-requires-2 c = file_under Redo (length c.args.set.rows) c.args.redos.items c.requires.redos

pub returns-clause-output : goal.returns-clause-output
returns-clause-output c =
    let set = c.in_ok-base.ensures.set in
    let count = ap (λ (s : BaseValue). length s.rows) set in
    record {
      number = search rules;
      base = c.in_ok-base.ensures.new;
      schema = ap (λ (s : BaseValue). s.schema) set;
      undo = (c.in_ok-undo.ensures.new, files_over Undo (length c.args.set.rows) _ c.in_ok-undo.undo c.args.undos.items c.in_ok-undo.ensures.new c.in_ok-undo.ensures.way c.in_ok-undo.ensures.records c.requires.undos count);
      redo = (c.in_ok-redo.ensures.new, files_over Redo (length c.args.set.rows) _ c.in_ok-redo.redo c.args.redos.items c.in_ok-redo.ensures.new c.in_ok-redo.ensures.way c.in_ok-redo.ensures.records c.requires.redos count);
      fresh = search rules;
    }

pub returns-clause-rows : goal.returns-clause-rows
returns-clause-rows c = ap (λ (s : BaseValue). s.rows) c.in_ok-base.ensures.set
