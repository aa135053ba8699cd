-- The one text of a script, with the names of each operation in schema order.
use Rattle.std.specs.Prelude.{◌≡◌, ℕ, ◌≤◌, Bool, true, false, not, ◌&&◌, length, List, [], ◌∷◌, ◌++◌, map, Option, Some, None, if◌then◌else◌, ◌==◌, All, codes}
use Rattle.std.specs.Fmt.{decimal}
use Rattle.std.specs.List.{flat_map, list_any, AllByRecursion}
use Rattle.kt_base.specs.declared.cell.Kind.{Kind}
use Rattle.kt_base.specs.declared.cell.Cell.{Cell}
use Rattle.kt_base.specs.Keys.{key_cells}
use Rattle.kt_base.specs.Literals.{literal, CellBytes}
use Rattle.kt_key.specs.Reading.{Spells}
use Rattle.kt_schema.specs.Names.{is_name}
use Rattle.kt_schema.specs.Columns.{key_kinds, other_columns}
use Rattle.kt_schema.specs.declared.column.Column.{Column}
use Rattle.kt_history.specs.declared.operation.OpKind.{OpKind}
use Rattle.kt_history.specs.declared.operation.RowOp.{RowOp}
use Rattle.kt_history.specs.declared.scan.At.{At}
use Rattle.kt_history.specs.declared.scan.At.TheVariants.{Looked, Given}
use Rattle.kt_history.specs.declared.scan.Test.{Test}
use Rattle.kt_history.specs.declared.scan.Test.TheVariants as test
use Rattle.kt_history.specs.declared.scan.Pred.{Pred}
use Rattle.kt_history.specs.declared.scan.Scan.{Scan}
use Rattle.kt_history.specs.declared.command.Command.{Command}
use Rattle.kt_history.specs.declared.command.Command.TheVariants as command
use Rattle.kt_script.specs.declared.forms.OpForm.{OpForm}
use Rattle.kt_script.specs.declared.forms.OpForm.TheVariants as form
use Rattle.kt_script.specs.Writes.{op_word, op_form}
use Rattle.kt_script.specs.Leads.{chore_word}
use Rattle.kt_script.specs.Texts.{line, words, literals}
use Rattle.kt_script.specs.Columns.{IsTable, kind_word}
use Rattle.kt_script.specs.Loads.{IsLoad}
use Rattle.kt_script.specs.Scripts.{Said, most_bytes, script_of, load_of}
use Rattle.kt_script.specs.Fit.{column_of, compares, PlanFits}

-- texts with a separator between each two
abbrev pub joined : List ℕ → List (List ℕ) → List ℕ
joined separator [] = []
joined separator (text ∷ texts) = text ++ flat_map (λ t. separator ++ t) texts

-- ---- columns

-- a word where a test holds
abbrev pub word_if : Bool → List ℕ → List (List ℕ)
word_if test word = if test then word ∷ [] else []

abbrev pub default_words : Kind → Option Cell → List (List ℕ)
default_words kind None = []
default_words kind (Some c) = codes "default" ∷ literal kind c ∷ []

-- behind a column's kind: key, or nullable and the default where it has them
abbrev pub mark_words : Column → List (List ℕ)
mark_words c = if c.key then codes "key" ∷ [] else word_if c.nullable (codes "nullable") ++ default_words c.kind c.default

abbrev pub column_words : Column → List (List ℕ)
column_words c = codes "column" ∷ c.name ∷ kind_word c.kind ∷ mark_words c

abbrev pub column_text : Column → List ℕ
column_text c = line (words (column_words c))

-- ---- writes

-- the literals of an encoded key
abbrev pub key_words : List Column → List ℕ → List (List ℕ)
key_words columns key = literals (key_kinds columns) (key_cells (key_kinds columns) key)

-- a cell's literal, with the name of its column or without
abbrev pub cell_word : Bool → Column → Cell → List ℕ
cell_word true c cell = c.name ++ 61 ∷ literal c.kind cell
cell_word false c cell = literal c.kind cell

-- cells by rising id, each under the column of its id
abbrev pub cell_words : Bool → List Column → List (ℕ × Cell) → List (List ℕ)
cell_words named [] cells = []
cell_words named (c ∷ columns) [] = []
cell_words named (c ∷ columns) (cell ∷ cells) = if c.id == cell.0 then cell_word named c cell.1 ∷ cell_words named columns cells else cell_words named columns (cell ∷ cells)

-- an insert has each cell, the others name theirs
abbrev pub form_names : OpForm → Bool
form_names form.Literals = false
form_names form.RowNames = true
form_names form.Names = true
form_names form.Key = true

abbrev pub is_named : OpKind → Bool
is_named kind = form_names (op_form kind)

abbrev pub op_words : List Column → RowOp → List (List ℕ)
op_words columns o = op_word o.kind ∷ (key_words columns o.key ++ cell_words (is_named o.kind) (other_columns columns) o.cells)

-- lists of words with a word between each two
abbrev pub parted : List ℕ → List (List (List ℕ)) → List (List ℕ)
parted word [] = []
parted word (ws ∷ more) = ws ++ flat_map (λ vs. word ∷ vs) more

abbrev pub write_words : List Column → List RowOp → List (List ℕ)
write_words columns ops = parted (codes ";") (map (op_words columns) ops)

-- ---- scans

abbrev pub name_of : Option Column → List ℕ
name_of None = []
name_of (Some c) = c.name

-- what is asked of a column
abbrev pub test_words : Column → Test → List (List ℕ)
test_words c (test.Eq cell) = (c.name ++ (codes "=" ++ literal c.kind cell)) ∷ []
test_words c (test.Lt cell) = (c.name ++ (codes "<" ++ literal c.kind cell)) ∷ []
test_words c (test.Le cell) = (c.name ++ (codes "<=" ++ literal c.kind cell)) ∷ []
test_words c (test.Gt cell) = (c.name ++ (codes ">" ++ literal c.kind cell)) ∷ []
test_words c (test.Ge cell) = (c.name ++ (codes ">=" ++ literal c.kind cell)) ∷ []
test_words c test.IsNull = c.name ∷ codes "is" ∷ codes "null" ∷ []
test_words c test.NotNull = c.name ∷ codes "is" ∷ codes "not" ∷ codes "null" ∷ []

abbrev pub words_under : Option Column → Test → List (List ℕ)
words_under None test = []
words_under (Some c) test = test_words c test

abbrev pub pred_words : List Column → Pred → List (List ℕ)
pred_words columns p = words_under (column_of columns p.column) p.test

abbrev pub at_words : At → List (List ℕ)
at_words Looked = codes "now" ∷ []
at_words (Given t) = codes "at" ∷ decimal t ∷ []

abbrev pub names_word : List Column → List ℕ → List ℕ
names_word columns ids = joined (codes ",") (map (λ id. name_of (column_of columns id)) ids)

abbrev pub select_words : List Column → Option (List ℕ) → List (List ℕ)
select_words columns None = []
select_words columns (Some ids) = codes "select" ∷ names_word columns ids ∷ []

abbrev pub where_words : List Column → List Pred → List (List ℕ)
where_words columns [] = []
where_words columns (p ∷ preds) = codes "where" ∷ parted (codes "and") (map (pred_words columns) (p ∷ preds))

abbrev pub scan_words : List Column → Scan → List (List ℕ)
scan_words columns scan = codes "scan" ∷ (at_words scan.at ++ (select_words columns scan.columns ++ where_words columns scan.preds))

-- ---- lines

abbrev pub command_words : List Column → Command → List (List ℕ)
command_words columns (command.Write w) = write_words columns w.ops
command_words columns (command.Scan scan) = scan_words columns scan
command_words columns (command.Mark t) = codes "mark" ∷ decimal t ∷ []
command_words columns (command.Chore c) = chore_word c ∷ []

abbrev pub command_text : List Column → Command → List ℕ
command_text columns c = words (command_words columns c)

abbrev pub session_lines : List Column → List Command → List ℕ
session_lines columns commands = line (codes "session") ++ flat_map (λ c. line (command_text columns c)) commands

-- the lines below the columns: the load line of so many writes, or each session
abbrev pub body_text : Option ℕ → Said → List ℕ
body_text None s = flat_map (session_lines s.columns) s.plan
body_text (Some n) s = line (words (codes "load" ∷ decimal n ∷ []))

-- the text of a script, with a load of so many writes in place of its sessions or without one
abbrev pub script_text : Option ℕ → Said → List ℕ
script_text load s = line (codes "table") ++ flat_map column_text s.columns ++ body_text load s

-- ---- what is printed

-- the bytes are an encoded key of the schema
pub record IsKey (columns : List Column) (key : List ℕ) : Type 0 where
  pub cells : List Cell
  pub spelled : Spells (key_kinds columns) cells key

-- each key of a command is one
abbrev pub HasKeys : List Column → Command → Type 0
HasKeys columns (command.Write w) = All (λ o. IsKey columns o.key) w.ops
HasKeys columns (command.Scan scan) = Unit {0}
HasKeys columns (command.Mark t) = Unit {0}
HasKeys columns (command.Chore c) = Unit {0}

-- ---- reading it again

-- a default of the column's kind, which is not too long. A key has none
abbrev pub default_fits : Column → Option Cell → Bool
default_fits c None = true
default_fits c (Some x) = not c.key && compares c x

-- the bytes of a default are bytes
abbrev pub DefaultBytes : Option Cell → Type 0
DefaultBytes None = Unit {0}
DefaultBytes (Some x) = CellBytes x

-- A column as a script says it.
pub record ColumnFits (c : Column) : Type 0 where
  pub name : is_name c.name ≡ true
  pub default : default_fits c c.default ≡ true
  pub bytes : DefaultBytes c.default

-- Columns that make a table of a script.
pub record ColumnsFit (columns : List Column) : Type 0 where
  pub table : IsTable columns
  pub key : list_any (λ c. c.key) columns ≡ true
  pub each : AllByRecursion ColumnFits columns

-- the bytes of each cell of an operation are bytes
pub record OpBytes (columns : List Column) (o : RowOp) : Type 0 where
  pub key_bytes : AllByRecursion CellBytes (key_cells (key_kinds columns) o.key)
  pub bytes : AllByRecursion (λ (x : ℕ × Cell). CellBytes x.1) o.cells

abbrev pub TestBytes : Test → Type 0
TestBytes (test.Eq x) = CellBytes x
TestBytes (test.Lt x) = CellBytes x
TestBytes (test.Le x) = CellBytes x
TestBytes (test.Gt x) = CellBytes x
TestBytes (test.Ge x) = CellBytes x
TestBytes test.IsNull = Unit {0}
TestBytes test.NotNull = Unit {0}

-- the bytes of each cell of a command are bytes
abbrev pub CommandBytes : List Column → Command → Type 0
CommandBytes columns (command.Write w) = AllByRecursion (OpBytes columns) w.ops
CommandBytes columns (command.Scan scan) = AllByRecursion (λ (p : Pred). TestBytes p.test) scan.preds
CommandBytes columns (command.Mark t) = Unit {0}
CommandBytes columns (command.Chore c) = Unit {0}

-- the text of a script is read as that script, with the sessions that it says
abbrev pub prints_are_read : Type 0
prints_are_read = (s : Said) → ColumnsFit s.columns → PlanFits s.columns s.plan → AllByRecursion (AllByRecursion (CommandBytes s.columns)) s.plan → length (script_text None s) ≤ most_bytes
    → (script_of (script_text None s) ≡ Some s) × (load_of (script_text None s) ≡ None)

-- the text of a load is read as that load
abbrev pub loads_are_read : Type 0
loads_are_read = (s : Said) (n : ℕ) → IsLoad s.columns s.plan n → (script_of (script_text (Some n) s) ≡ Some s) × (load_of (script_text (Some n) s) ≡ Some n)
