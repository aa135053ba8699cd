use Rattle.kt_deltafile.specs.Spelling.{change_bytes}
use Rattle.kt_deltafile.proofs.Files.{fielded}
use Rattle.kt_deltafile.proofs.writing.put_record.Goals as goal

pub returns-clause-ok : goal.returns-clause-ok
returns-clause-ok c = fielded c.put_change.result c.args.out.now.added c.extend.new.self.added c.extend-2.new.self.added c.put_change.new.out.added _ _ (change_bytes c.args.record1.now.change) _ _ c.in_ok-extend.ensures.ok c.in_ok-extend-2.ensures.ok c.put_change.ensures.ok c.to_le_bytes.ensures c.to_le_bytes-2.ensures
