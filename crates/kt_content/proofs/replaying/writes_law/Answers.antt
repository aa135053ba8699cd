use Rattle.kt_content.proofs.Writes.{writes_have_rows}
use Rattle.kt_content.proofs.replaying.writes_law.Goals as goal

pub returns : goal.returns
returns c = writes_have_rows
