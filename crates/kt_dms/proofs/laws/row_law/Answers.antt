use Rattle.kt_dms.proofs.RowsJoined.{joins_row, leaves_rows}
use Rattle.kt_dms.proofs.laws.row_law.Goals as goal

pub returns : goal.returns
returns c = λ d deltas sorted under. (joins_row d deltas sorted under, λ n ne. leaves_rows n d deltas ne)
