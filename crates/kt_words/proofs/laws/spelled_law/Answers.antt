use Rattle.kt_words.proofs.Forms.{spelled_taken}
use Rattle.kt_words.proofs.laws.spelled_law.Goals as goal

pub returns : goal.returns
returns c = spelled_taken
