-- The fields of what stands in front of the blocks of a base file. They alone tell where a front is at fault.
use Rattle.std.specs.Prelude.{◌≡◌, ℕ, ◌+◌, ◌-◌, ◌<◌, ◌≤◌, List, [], ◌∷◌, ◌++◌, length, Ok}
use Rattle.std.specs.List.{concat, flat_map}
use Rattle.std.specs.Int.{w16, w32, to_le_bytes}
use Rattle.kt_bytes.specs.Places.{IsFault, IsSpelled}
use Rattle.kt_bytes.specs.Reading.{number_at}
use Rattle.kt_baseset.specs.declared.errors.CodecNo.{CodecNo}
use Rattle.kt_baseset.specs.declared.errors.CodecNo.TheVariants as answers
use Rattle.kt_baseset.specs.declared.schema.ColumnShape.{ColumnShape}
use Rattle.kt_baseset.specs.declared.held.HeldColumn.{HeldColumn}
use Rattle.kt_baseset.specs.Rows.{AreShapes}
use Rattle.kt_baseset.specs.Tables.{shapes_of}
use Rattle.kt_baseset.specs.Spelling.{ktb1, kind_number, flag_number}
use Rattle.kt_baseset.specs.Reading.{ReadsKeys, ReadsSome}

-- a front: how many rows there are, and what each column is
pub record Front : Type 0 where
  pub rows : ℕ
  pub schema : List ColumnShape

pub record FrontFits (front : Front) : Type 0 where
  pub some : 1 ≤ front.rows
  pub few : front.rows ≤ 3435973836
  pub columns : AreShapes front.schema

-- the letters KTB1, and how many rows there are
abbrev pub head_fields : ℕ → List (List ℕ)
head_fields rows = to_le_bytes w32 ktb1 ∷ to_le_bytes w32 rows ∷ []

-- a column: its id, its kind and whether it may be null
abbrev pub shape_fields : ColumnShape → List (List ℕ)
shape_fields c = to_le_bytes w16 c.id ∷ (kind_number c.kind ∷ []) ∷ (flag_number c.nullable ∷ []) ∷ []

-- columns behind a count
abbrev pub list_fields : ℕ → List ColumnShape → List (List ℕ)
list_fields n schema = to_le_bytes w16 n ∷ flat_map shape_fields schema

abbrev pub front_fields : Front → List (List ℕ)
front_fields front = head_fields front.rows ++ list_fields (length front.schema) front.schema

-- the fields are those of a front
abbrev pub Spelled : List (List ℕ) → Type 0
Spelled all = IsSpelled front_fields FrontFits all

-- Fields of a front stand in the bytes, with the blocks of the keys and of each column between them, and the rest stands
-- behind these. The fields that come next have so many bytes.
pub data Stands (bytes : List ℕ) (front : List (List ℕ)) (rest : List ℕ) (size : ℕ) : Type 0 where
  before_rows : front ≡ [] → rest ≡ bytes → size ≡ 8 → Stands bytes front rest size
  before_count : (keys : List (List ℕ)) → ReadsKeys bytes keys rest → front ≡ head_fields (length keys) → size ≡ 2 → Stands bytes front rest size
  before_column : (keys : List (List ℕ)) (counted listed : List ℕ) (n : ℕ) (columns : List HeldColumn) → ReadsKeys bytes keys counted → number_at w16 counted ≡ Ok (n, listed) → ReadsSome (length keys) n listed columns rest
      → front ≡ head_fields (length keys) ++ list_fields n (shapes_of columns) → size ≡ 4 → Stands bytes front rest size

-- the first fault of the fields that stand and of the rest, behind so many bytes of the rest
abbrev pub IsFrontFault : List (List ℕ) → List ℕ → ℕ → Type 0
IsFrontFault front rest at = IsFault Spelled (concat front ++ rest) (length (concat front) + at)

-- a place in the fields that come next is their first fault
abbrev pub TellsFront : List ℕ → CodecNo → Type 0
TellsFront bytes answers.Memory = Unit {0}
TellsFront bytes (answers.Place offset) = (front : List (List ℕ)) (rest : List ℕ) (size at : ℕ) → Stands bytes front rest size → at < size → offset ≡ length bytes - length rest + at → IsFrontFault front rest at
