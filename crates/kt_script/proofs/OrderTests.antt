-- Orders of the names of an operation, worked out.
use Rattle.std.proofs.Common.{◌≡◌, List, [], ◌∷◌, refl, true, false, None}
use Rattle.std.specs.Prelude.{codes}
use Rattle.kt_base.specs.declared.cell.Kind.TheVariants as kind
use Rattle.kt_schema.specs.declared.column.Column.{Column}
use Rattle.kt_script.specs.Pieces.{words_of}
use Rattle.kt_script.specs.Writes.{write_no, write_of}

abbrev columns : List Column
columns =
    record { id = 1; name = codes "id"; kind = kind.Int64; key = true; nullable = false; default = None }
    ∷ record { id = 2; name = codes "v"; kind = kind.String; key = false; nullable = false; default = None }
    ∷ record { id = 3; name = codes "n"; kind = kind.Int8; key = false; nullable = true; default = None }
    ∷ []

names_may_be_turned : write_of columns (words_of (codes "upsert 1 n=2 v=\"a b\"")) ≡ write_of columns (words_of (codes "upsert 1 v=\"a b\" n=2"))
names_may_be_turned = refl

each_operation_by_itself : write_of columns (words_of (codes "insert 1 \"a\" 2 ; update 2 n=3 v=\"b\" ; delete 3 ; update 4 n=null")) ≡ write_of columns (words_of (codes "insert 1 \"a\" 2 ; update 2 v=\"b\" n=3 ; delete 3 ; update 4 n=null"))
each_operation_by_itself = refl

names_of_an_ignoring_update_are_turned : write_of columns (words_of (codes "update-ignore 1 n=2 v=\"a\" ; insert-ignore 2 \"b\" 3")) ≡ write_of columns (words_of (codes "update-ignore 1 v=\"a\" n=2 ; insert-ignore 2 \"b\" 3"))
names_of_an_ignoring_update_are_turned = refl

the_key_stays_first : write_no columns (words_of (codes "update n=2 1")) ≡ 12
the_key_stays_first = refl

literals_of_an_insert_stay : write_no columns (words_of (codes "insert 1 2 \"a\"")) ≡ 14
literals_of_an_insert_stay = refl
