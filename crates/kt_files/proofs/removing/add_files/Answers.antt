use Rattle.std.proofs.Common.{arith, refl}
use Rattle.kt_files.proofs.Names.{file_named}
use Rattle.kt_files.proofs.removing.add_files.Goals as goal

pub files-preserved : goal.files-preserved
files-preserved c = file_named c.args.named.now.keys c.files.named.keys c.insert.new.self.keys c.args.files.now c.files.file-index _ _ (omega arith) refl c.files.invariant c.in_ok-insert.ensures.keys
