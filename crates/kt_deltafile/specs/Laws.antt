-- What the spelling and its rules keep to.
use Rattle.std.specs.Prelude.{◌≡◌, ℕ, List, Ok}
use Rattle.kt_history.specs.declared.changes.Delta.{Delta}
use Rattle.kt_deltafile.specs.declared.file.Way.{Way}
use Rattle.kt_deltafile.specs.Order.{IsSorted}
use Rattle.kt_deltafile.specs.Rules.{FileFits, IsFile}
use Rattle.kt_deltafile.specs.Spelling.{spelling}
use Rattle.kt_deltafile.specs.Reading.{file_of}

-- what is spelled is read again, so no two files have one spelling
abbrev pub spelling_is_read : Type 0
spelling_is_read = (way : Way) (rows : ℕ) (list : List Delta) → FileFits way rows list → file_of rows (spelling way list) ≡ Ok (record { way = way; list = list })

-- the records of a file are strictly sorted
abbrev pub files_are_sorted : Type 0
files_are_sorted = (way : Way) (list : List Delta) → IsFile way list → IsSorted way list
