-- What the spelling keeps to.
use Rattle.std.specs.Prelude.{◌≡◌, ◌↔◌, ◌<◌, ◌+◌, ◌-◌, ℕ, List, length}
use Rattle.kt_baseset.specs.declared.schema.ColumnShape.{ColumnShape}
use Rattle.kt_baseset.specs.declared.rows.KeyedRow.{KeyedRow}
use Rattle.kt_bytes.specs.Places.{AreBytes}
use Rattle.kt_baseset.specs.declared.errors.CodecNo.TheVariants as answers
use Rattle.kt_baseset.specs.Spelling.{SpellsBase}
use Rattle.kt_baseset.specs.Reading.{IsRefusal}
use Rattle.kt_baseset.specs.Fields.{Stands, IsFrontFault}

-- bytes are refused at one place, and those that are refused are no base file
abbrev pub one_place : Type 0
one_place = (bytes : List ℕ) (a b : ℕ) → AreBytes bytes → IsRefusal bytes (answers.Place a) → IsRefusal bytes (answers.Place b) → a ≡ b

abbrev pub refused_is_none : Type 0
refused_is_none = (bytes : List ℕ) (at : ℕ) (schema : List ColumnShape) (rows : List KeyedRow) → AreBytes bytes → IsRefusal bytes (answers.Place at) → ¬ SpellsBase schema rows bytes

-- where fields of a front stand, the bytes are refused at a place of the fields that come next exactly where it is their first fault
abbrev pub front_faults_are_told : Type 0
front_faults_are_told = (bytes : List ℕ) (front : List (List ℕ)) (rest : List ℕ) (size at : ℕ) → AreBytes bytes → Stands bytes front rest size → at < size → IsRefusal bytes (answers.Place (length bytes - length rest + at)) ↔ IsFrontFault front rest at

-- no two base files have one spelling, and none has two
abbrev pub bytes_spell_one : Type 0
bytes_spell_one = (schema schema' : List ColumnShape) (rows rows' : List KeyedRow) (bytes : List ℕ) → SpellsBase schema rows bytes → SpellsBase schema' rows' bytes → (schema ≡ schema') × (rows ≡ rows')

abbrev pub one_spelling : Type 0
one_spelling = (schema : List ColumnShape) (rows : List KeyedRow) (a b : List ℕ) → SpellsBase schema rows a → SpellsBase schema rows b → a ≡ b
