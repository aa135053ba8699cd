use Rattle.std.proofs.Common.{◌++◌, List, subst}
use Rattle.kt_super.specs.declared.meta.FileRef.{FileRef}
use Rattle.kt_super.specs.Rowsets.{HaveTheSame, numbers_of}
use Rattle.kt_files.proofs.Names.{rowset_named}
use Rattle.kt_files.proofs.removing.add_rowset.Goals as goal

pub returns : goal.returns
returns c =
    rowset_named c.args.named.now.keys c.insert.new.self.keys c.add_files.new.named.keys c.add_files-2.new.named.keys (numbers_of c.args.rowset.now.undo) (numbers_of c.args.rowset.now.redo) c.args.rowset.now.base.file c.in_ok-insert.ensures.keys
    (subst (λ (l : List FileRef). HaveTheSame c.add_files.new.named.keys (c.insert.new.self.keys ++ numbers_of l)) c.as_slice.ensures c.in_ok-add_files.ensures)
    (subst (λ (l : List FileRef). HaveTheSame c.add_files-2.new.named.keys (c.add_files.new.named.keys ++ numbers_of l)) c.as_slice-2.ensures c.in_ok-add_files-2.ensures)
