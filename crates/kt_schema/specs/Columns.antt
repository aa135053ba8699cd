-- Which columns make a schema.
use Rattle.std.specs.Prelude.{ℕ, Bool, not, ◌&&◌, ◌||◌, List, length, take, map, Option, Some, None, unwrap_or, if◌then◌else◌, nat_lt}
use Rattle.std.specs.List.{list_any, filter}
use Rattle.std.specs.Option.{option_or, option_map}
use Rattle.std.specs.Ordering.{nat_cmp, is_eq}
use Rattle.std.specs.Cmp.Lexicographic.{slice_cmp}
use Rattle.kt_base.specs.declared.cell.Kind.{Kind}
use Rattle.kt_base.specs.declared.cell.Cell.{Cell}
use Rattle.kt_base.specs.declared.cell.Cell.TheVariants.{Null}
use Rattle.kt_key.specs.Fit.{is_bool}
use Rattle.kt_schema.specs.declared.column.Column.{Column}
use Rattle.kt_schema.specs.declared.column.SchemaNo.{SchemaNo}
use Rattle.kt_schema.specs.declared.column.SchemaNo.TheVariants as no
use Rattle.kt_schema.specs.First.{first, passes_at}

-- a key column, and before it one that is no key
abbrev pub is_late : List Column → ℕ → Bool
is_late columns k = passes_at (λ c. c.key) columns k && list_any (λ c. not c.key) (take k columns)

-- a key column that may be null, or is of truth values
abbrev pub is_weak : Column → Bool
is_weak c = c.key && (c.nullable || is_bool c.kind)

abbrev pub same_name : Column → Column → Bool
same_name c d = is_eq (slice_cmp nat_cmp c.name d.name)

-- a column that has its name from one before it
abbrev pub is_again : List Column → ℕ → Bool
is_again columns k = passes_at (λ c. list_any (λ d. same_name c d) (take k columns)) columns k

abbrev pub late_column : List Column → Option ℕ
late_column columns = first (is_late columns) (length columns)

abbrev pub weak_column : List Column → Option ℕ
weak_column columns = first (passes_at is_weak columns) (length columns)

abbrev pub again_column : List Column → Option ℕ
again_column columns = first (is_again columns) (length columns)

-- why the columns make no schema: the least reason, and in it the least place
abbrev pub columns_no : List Column → Option SchemaNo
columns_no columns = option_or (if list_any (λ c. c.key) columns then None else Some no.S1)
    (option_or (option_map no.S2 (late_column columns))
    (option_or (option_map no.S3 (weak_column columns))
    (option_or (option_map no.S4 (again_column columns))
    (if nat_lt 300 (length columns) then Some no.S5 else None))))

-- the reason that an error tells of the columns
abbrev pub told_no : SchemaNo → Option SchemaNo
told_no no.Memory = None
told_no told = Some told

abbrev pub key_columns : List Column → List Column
key_columns columns = filter (λ c. c.key) columns

abbrev pub other_columns : List Column → List Column
other_columns columns = filter (λ c. not c.key) columns

abbrev pub key_kinds : List Column → List Kind
key_kinds columns = map (λ c. c.kind) (key_columns columns)

-- each column that is no key, with its default, or null
abbrev pub fill_of : List Column → List (ℕ × Cell)
fill_of columns = map (λ c. (c.id, unwrap_or c.default Null)) (other_columns columns)
