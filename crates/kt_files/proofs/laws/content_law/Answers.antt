use Rattle.kt_files.proofs.Contents.{tell_their_files}
use Rattle.kt_files.proofs.laws.content_law.Goals as goal

pub returns : goal.returns
returns c = tell_their_files
