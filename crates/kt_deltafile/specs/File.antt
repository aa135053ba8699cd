-- What a delta file is.
use Rattle.std.specs.Prelude.{List}
use Rattle.kt_history.specs.declared.changes.Delta.{Delta}
use Rattle.kt_deltafile.specs.declared.file.Way.{Way}

-- which way its records lead, and the records
pub record FileView : Type 0 where
  pub way : Way
  pub list : List Delta
