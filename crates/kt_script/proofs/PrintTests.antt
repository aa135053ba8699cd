-- Scripts and their texts, worked out.
use Rattle.std.proofs.Common.{◌≡◌, ℕ, pos, List, [], ◌∷◌, refl, true, false, Some, None}
use Rattle.std.specs.Prelude.{codes}
use Rattle.std.specs.Fmt.{digits}
use Rattle.kt_base.specs.declared.cell.Kind.TheVariants as kind
use Rattle.kt_base.specs.declared.cell.Cell.TheVariants as cell
use Rattle.kt_base.specs.declared.chore.Chore.TheVariants as chore
use Rattle.kt_schema.specs.declared.column.Column.{Column}
use Rattle.kt_history.specs.declared.operation.OpKind.TheVariants as op
use Rattle.kt_history.specs.declared.scan.At.TheVariants.{Looked, Given}
use Rattle.kt_history.specs.declared.scan.Test.TheVariants as test
use Rattle.kt_history.specs.declared.command.Command.{Command}
use Rattle.kt_history.specs.declared.command.Command.TheVariants as command
use Rattle.kt_script.specs.Print.{column_text, command_text, script_text}

abbrev host : Column
host = record { id = 1; name = codes "host"; kind = kind.String; key = true; nullable = false; default = None }

abbrev tick : Column
tick = record { id = 2; name = codes "tick"; kind = kind.Int64; key = true; nullable = false; default = None }

abbrev cpu : Column
cpu = record { id = 3; name = codes "cpu"; kind = kind.Int32; key = false; nullable = true; default = None }

abbrev up : Column
up = record { id = 4; name = codes "up"; kind = kind.Bool; key = false; nullable = false; default = Some (cell.Bool true) }

abbrev columns : List Column
columns = host ∷ tick ∷ cpu ∷ up ∷ []

-- the encoded keys of "db1" and 100, "db2" and 100, and "web" and 90
abbrev db1 : List ℕ
db1 = 100 ∷ 98 ∷ 49 ∷ 0 ∷ 0 ∷ 128 ∷ 0 ∷ 0 ∷ 0 ∷ 0 ∷ 0 ∷ 0 ∷ 100 ∷ []

abbrev db2 : List ℕ
db2 = 100 ∷ 98 ∷ 50 ∷ 0 ∷ 0 ∷ 128 ∷ 0 ∷ 0 ∷ 0 ∷ 0 ∷ 0 ∷ 0 ∷ 100 ∷ []

abbrev web : List ℕ
web = 119 ∷ 101 ∷ 98 ∷ 0 ∷ 0 ∷ 128 ∷ 0 ∷ 0 ∷ 0 ∷ 0 ∷ 0 ∷ 0 ∷ 90 ∷ []

abbrev commands : List Command
commands =
    command.Write (record { ops = record { kind = op.Insert; key = db1; cells = (3, cell.Int (pos 57)) ∷ (4, cell.Bool true) ∷ [] } ∷ record { kind = op.Insert; key = db2; cells = (3, cell.Null) ∷ (4, cell.Bool false) ∷ [] } ∷ [] })
    ∷ command.Write (record { ops = record { kind = op.Upsert; key = db1; cells = (3, cell.Int (pos 58)) ∷ [] } ∷ [] })
    ∷ command.Write (record { ops = record { kind = op.Upsert; key = web; cells = (3, cell.Int (pos 1)) ∷ [] } ∷ [] })
    ∷ command.Chore chore.Flush
    ∷ command.Write (record { ops = record { kind = op.Delete; key = db2; cells = [] } ∷ [] })
    ∷ command.Scan (record { at = Looked; columns = Some (1 ∷ 3 ∷ []); preds = record { column = 3; test = test.Gt (cell.Int (pos 0)) } ∷ [] })
    ∷ command.Scan (record { at = Given 40960; columns = None; preds = [] })
    ∷ []

a_key_column : column_text tick ≡ codes "column tick int64 key\n"
a_key_column = refl

a_column_that_may_be_null : column_text cpu ≡ codes "column cpu int32 nullable\n"
a_column_that_may_be_null = refl

a_column_with_a_default : column_text up ≡ codes "column up bool default true\n"
a_column_with_a_default = refl

a_whole_script : script_text None (record { columns = columns; plan = commands ∷ [] })
    ≡ codes "table\ncolumn host string key\ncolumn tick int64 key\ncolumn cpu int32 nullable\ncolumn up bool default true\nsession\ninsert \"db1\" 100 57 true ; insert \"db2\" 100 null false\nupsert \"db1\" 100 cpu=58\nupsert \"web\" 90 cpu=1\nflush\ndelete \"db2\" 100\nscan now select host,cpu where cpu>0\nscan at 40960\n"
unfolding digits
a_whole_script = refl

tests_of_every_kind : command_text columns (command.Scan (record {
  at = Looked;
  columns = None;
  preds =
      record { column = 1; test = test.Eq (cell.Bytes (codes "a b")) } ∷ record { column = 2; test = test.Lt (cell.Int (pos 7)) } ∷ record { column = 2; test = test.Le (cell.Int (pos 8)) } ∷ record { column = 2; test = test.Ge (cell.Int (pos 1)) }
      ∷ record { column = 3; test = test.IsNull } ∷ record { column = 4; test = test.NotNull } ∷ [];
})) ≡ codes "scan now where host=\"a b\" and tick<7 and tick<=8 and tick>=1 and cpu is null and up is not null"
unfolding digits
tests_of_every_kind = refl

an_update : command_text columns (command.Write (record { ops = record { kind = op.Update; key = web; cells = (3, cell.Null) ∷ (4, cell.Bool false) ∷ [] } ∷ [] })) ≡ codes "update \"web\" 90 cpu=null up=false"
unfolding digits
an_update = refl

ignoring : command_text columns (command.Write (record { ops = record { kind = op.InsertIgnore; key = db1; cells = (3, cell.Null) ∷ (4, cell.Bool false) ∷ [] } ∷ record { kind = op.UpdateIgnore; key = web; cells = (3, cell.Null) ∷ [] } ∷ record { kind = op.DeleteIgnore; key = db2; cells = [] } ∷ [] }))
    ≡ codes "insert-ignore \"db1\" 100 null false ; update-ignore \"web\" 90 cpu=null ; delete-ignore \"db2\" 100"
unfolding digits
ignoring = refl

a_mark : command_text columns (command.Mark 4096) ≡ codes "mark 4096"
unfolding digits
a_mark = refl

delta_files : command_text columns (command.Chore chore.FlushDeltas) ≡ codes "flush-deltas"
delta_files = refl

redo_files : command_text columns (command.Chore chore.Minor) ≡ codes "minor"
redo_files = refl

base_files : command_text columns (command.Chore chore.Major) ≡ codes "major"
base_files = refl

rowsets : command_text columns (command.Chore chore.Compact) ≡ codes "compact"
rowsets = refl
