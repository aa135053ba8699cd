use Rattle.std.proofs.Common.{[]}
use Rattle.kt_records.proofs.Items.{entry_put}
use Rattle.kt_records.proofs.writing.put_entry.Goals as goal

pub returns-clause-ok : goal.returns-clause-ok
returns-clause-ok c = entry_put c.put_listed.result c.args.out.now.added [] c.extend.new.self.added c.put_listed.new.out.added c.head_of.result c.args.entry.now c.head_of.ensures c.in_ok-extend.ensures.ok c.put_listed.ensures.ok
