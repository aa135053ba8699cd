use Rattle.kt_schema.specs.Columns.{fill_of}
use Rattle.kt_content.proofs.Fresh.{fresh_empty}
use Rattle.kt_reopen.specs.Holding.HoldBoth.{first}
use Rattle.kt_app.proofs.laws.fresh_law.Goals as goal

pub returns : goal.returns
returns c = λ rules columns log store none. first none (fresh_empty rules (fill_of columns))
