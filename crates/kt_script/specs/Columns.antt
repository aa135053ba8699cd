-- Column lines: what a line says of its column, and why it is refused below these columns.
use Rattle.std.specs.Prelude.{◌≡◌, ◌<◌, ◌≤◌, ℕ, ◌+◌, ◌++◌, min, Bool, true, false, not, ◌&&◌, List, [], ◌∷◌, length, take, Option, Some, None, if◌then◌else◌, ◌==◌, nat_le, Result, Ok, Err, codes}
use Rattle.std.specs.List.{list_any}
use Rattle.std.specs.Ordering.{nat_cmp, is_eq}
use Rattle.std.specs.Cmp.Lexicographic.{slice_cmp}
use Rattle.kt_base.specs.declared.cell.Kind.{Kind}
use Rattle.kt_base.specs.declared.cell.Kind.TheVariants as kind
use Rattle.kt_base.specs.declared.cell.Cell.{Cell}
use Rattle.kt_base.specs.declared.literal.LiteralNo.{LiteralNo}
use Rattle.kt_base.specs.declared.literal.LiteralNo.TheVariants as no
use Rattle.kt_base.specs.Literals.{same, cell_in}
use Rattle.kt_key.specs.Fit.{is_bool}
use Rattle.kt_schema.specs.Names.{is_name}
use Rattle.kt_schema.specs.First.{passes_at}
use Rattle.kt_schema.specs.Columns.{is_late, is_weak, is_again}
use Rattle.kt_schema.specs.declared.column.Column.{Column}
use Rattle.kt_script.specs.declared.columns.Line.{Line}
use Rattle.kt_script.specs.declared.columns.LineNo.{LineNo}
use Rattle.kt_script.specs.declared.columns.LineNo.TheVariants as line
use Rattle.kt_script.specs.Pieces.{words_of, text_now}
use Rattle.kt_script.specs.Kinds.{kind_in}
use Rattle.kt_script.specs.Reasons.{sound, Reads, reason_if, cell_value}

-- What a column line says. A default is the text of a literal.
pub record ColumnLine : Type 0 where
  pub name : List ℕ
  pub kind : Kind
  pub key : Bool
  pub nullable : Bool
  pub default : Option (List ℕ)

-- the word of each kind
abbrev pub kind_word : Kind → List ℕ
kind_word kind.Bool = codes "bool"
kind_word kind.Int8 = codes "int8"
kind_word kind.Int16 = codes "int16"
kind_word kind.Int32 = codes "int32"
kind_word kind.Int64 = codes "int64"
kind_word kind.String = codes "string"
kind_word kind.Binary = codes "binary"

abbrev pub kinds : List Kind
kinds = kind.Bool ∷ kind.Int8 ∷ kind.Int16 ∷ kind.Int32 ∷ kind.Int64 ∷ kind.String ∷ kind.Binary ∷ []

abbrev pub kind_of : List ℕ → Option Kind
kind_of word = kind_in kind_word kinds word

-- behind the kind and nullable: nothing, or the default
abbrev pub with_default : List ℕ → Kind → Bool → List (List ℕ) → Option ColumnLine
with_default name kind nullable [] = Some (record { name = name; kind = kind; key = false; nullable = nullable; default = None })
with_default name kind nullable (word ∷ []) = None
with_default name kind nullable (word ∷ literal ∷ []) = if same word (codes "default") then Some (record { name = name; kind = kind; key = false; nullable = nullable; default = Some literal }) else None
with_default name kind nullable (word ∷ literal ∷ more ∷ words) = None

abbrev pub as_key : List ℕ → Kind → List (List ℕ) → Option ColumnLine
as_key name kind [] = Some (record { name = name; kind = kind; key = true; nullable = false; default = None })
as_key name kind (word ∷ words) = None

-- behind the kind
abbrev pub marked : List ℕ → Kind → List (List ℕ) → Option ColumnLine
marked name kind [] = with_default name kind false []
marked name kind (word ∷ words) = if same word (codes "key") then as_key name kind words else (if same word (codes "nullable") then with_default name kind true words else with_default name kind false (word ∷ words))

abbrev pub of_kind : List ℕ → Option Kind → List (List ℕ) → Option ColumnLine
of_kind name None words = None
of_kind name (Some kind) words = marked name kind words

abbrev pub column_line : List (List ℕ) → Option ColumnLine
column_line (first ∷ name ∷ kind ∷ words) = if same first (codes "column") && is_name name then of_kind name (kind_of kind) words else None
column_line words = None

-- among the column lines, whether a line is one more
abbrev pub begins_column : List ℕ → Bool
begins_column line = same (take 7 line) (codes "column ")

abbrev pub default_reason : Result Cell LiteralNo → ℕ
default_reason (Ok c) = sound
default_reason (Err no.Form) = 4
default_reason (Err no.Null) = 10
default_reason (Err no.Kind) = 10
default_reason (Err no.Long) = 10
default_reason (Err no.Memory) = sound

abbrev pub default_no : Kind → Option (List ℕ) → ℕ
default_no kind None = sound
default_no kind (Some literal) = default_reason (cell_in kind literal)

-- a key column behind another one, a key of truth values, a name again, and one column too many
abbrev pub place_no : List Column → ColumnLine → ℕ
place_no columns c = min (reason_if (c.key && list_any (λ d. not d.key) columns) 6)
    (min (reason_if (c.key && is_bool c.kind) 7)
    (min (reason_if (list_any (λ d. is_eq (slice_cmp nat_cmp c.name d.name)) columns) 8)
    (reason_if (nat_le 300 (length columns)) 9)))

abbrev pub said_no : List Column → Option ColumnLine → ℕ
said_no columns None = 4
said_no columns (Some c) = min (default_no c.kind c.default) (place_no columns c)

-- why a column line is refused
abbrev pub column_no : List Column → List ℕ → ℕ
column_no columns line = said_no columns (column_line (words_of line))

abbrev pub default_value : Kind → Option (List ℕ) → Option Cell
default_value kind None = None
default_value kind (Some literal) = Some (cell_value kind literal)

-- the columns with one more, which has its place as its id
abbrev pub with_column : List Column → Option ColumnLine → List Column
with_column columns None = columns
with_column columns (Some c) = columns ++ record { id = length columns + 1; name = c.name; kind = c.kind; key = c.key; nullable = c.nullable; default = default_value c.kind c.default } ∷ []

abbrev pub columns_with : List Column → List ℕ → List Column
columns_with columns line = with_column columns (column_line (words_of line))

-- column lines end with at least one key column above
abbrev pub keys_no : List Column → ℕ
keys_no columns = reason_if (not (list_any (λ c. c.key) columns)) 5

-- a line as its words say it
abbrev pub line_view : Line → ColumnLine
line_view l = record { name = l.name.now; kind = l.kind; key = l.key; nullable = l.nullable; default = text_now l.default }

-- the cell of a default, or its reason
abbrev pub ReadsDefault : Kind → Option (List ℕ) → Result (Option Cell) LineNo → Type 0
ReadsDefault kind text result = Reads (default_no kind text) (default_value kind text) result

-- one column more, or the reason of its line
abbrev pub ReadsColumn : List Column → List ℕ → Result Column LineNo → Type 0
ReadsColumn columns text (Ok c) = (column_no columns text ≡ sound) × (columns_with columns text ≡ columns ++ c ∷ [])
ReadsColumn columns text (Err (line.Reason r)) = (column_no columns text ≡ r) × (r < sound)
ReadsColumn columns text (Err line.Memory) = Unit {0}

-- the ids count up from this one
abbrev pub counts_from : ℕ → List Column → Bool
counts_from n [] = true
counts_from n (c ∷ columns) = (c.id == n) && counts_from (n + 1) columns

-- columns of which each may stand below those before it: no key behind another column, none weak, no name again, at most 300. The ids count up from 1
pub record IsTable (columns : List Column) : Type 0 where
  pub late : (k : ℕ) → k < length columns → is_late columns k ≡ false
  pub weak : (k : ℕ) → k < length columns → passes_at is_weak columns k ≡ false
  pub again : (k : ℕ) → k < length columns → is_again columns k ≡ false
  pub few : length columns ≤ 300
  pub ids : counts_from 1 columns ≡ true
