use Rattle.kt_content.proofs.WrittenRows.{written_passes}
use Rattle.kt_content.proofs.one_visit.written_law.Goals as goal

pub returns : goal.returns
returns c = written_passes
