-- What the spelling and its rules keep to.
use Rattle.std.specs.Prelude.{◌≡◌, ◌↔◌, ℕ, List, length, Ok, Err}
use Rattle.kt_history.specs.declared.operation.RowOp.{RowOp}
use Rattle.kt_history.specs.Operations.{op_len}
use Rattle.kt_bytes.specs.Places.{AreBytes, IsFault}
use Rattle.kt_records.specs.declared.entry.Entry.{Entry}
use Rattle.kt_records.specs.Spelling.{operation, spelling}
use Rattle.kt_records.specs.Rules.{KeepsRules}
use Rattle.kt_records.specs.Fields.{Spelled}
use Rattle.kt_records.specs.Reading.{record_of}

-- what is spelled is read again, so no two records have one spelling
abbrev pub spelling_is_read : Type 0
spelling_is_read = (entry : Entry) → KeepsRules entry → record_of (spelling entry) ≡ Ok entry

-- an operation's spelling is as long as the operation counts in the log
abbrev pub operation_has_its_length : Type 0
operation_has_its_length = (op : RowOp) → length (operation op) ≡ op_len op

-- the place that is told is the first fault by the spellings alone, and the first fault is told
abbrev pub first_faults_are_told : Type 0
first_faults_are_told = (bytes : List ℕ) (place : ℕ) → AreBytes bytes → (record_of bytes ≡ Err place) ↔ IsFault Spelled bytes place
