use Rattle.std.proofs.Common.{◌++◌}
use Rattle.kt_baseset.specs.Rows.{keys_in}
use Rattle.kt_baseset.specs.Spelling.{lookup_bytes}
use Rattle.kt_baseset.specs.Tables.{columns_of, keys_of, rows_of, shapes_of}
use Rattle.kt_baseset.proofs.Whole.{keys_read, columns_by, last_by, keys_stop, columns_stopped, lookup_stopped, held_read, base_read, base_only, spells_by, valued_by, count_by}
use Rattle.kt_baseset.proofs.decoding.read_set.Goals as goal

pub returns-in-Err-clause-only : goal.returns-in-Err-clause-only
returns-in-Err-clause-only c = λ schema rows s. c.in-Err.ensures.only (keys_in rows) (s.spelled.middle ++ lookup_bytes (keys_in rows)) (keys_read schema rows c.args.bytes.now s)

pub returns-in-Err-clause-stop : goal.returns-in-Err-clause-stop
returns-in-Err-clause-stop c = keys_stop c.in-Err.stop c.args.bytes.now c.in-Err.ensures.stop

pub returns-in-Err-read_columns-clause-only : goal.returns-in-Err-read_columns-clause-only
returns-in-Err-read_columns-clause-only c =
    let front = c.in-Ok.front in
    let count = count_by front.column front.list c.len.result c.in-Ok.ensures.column c.len.ensures in
    λ schema rows s. c.in-Err-read_columns.ensures.only (columns_of schema rows) (lookup_bytes (keys_in rows)) (columns_by schema rows c.args.bytes.now front.list front.rest.now c.len.result c.in-Ok.ensures.only count s)

pub returns-in-Err-read_columns-clause-stop : goal.returns-in-Err-read_columns-clause-stop
returns-in-Err-read_columns-clause-stop c =
    let front = c.in-Ok.front in
    let count = count_by front.column front.list c.len.result c.in-Ok.ensures.column c.len.ensures in
    columns_stopped c.in-Err-read_columns.stop c.args.bytes.now front.list c.len.result front.rest.now c.in-Ok.ensures.found count c.in-Err-read_columns.ensures.stop

pub of-requires : goal.of-requires
of-requires c =
    let front = c.in-Ok.front in
    let count = count_by front.column front.list c.len.result c.in-Ok.ensures.column c.len.ensures in
    let read = c.in-Ok-read_columns.read in
    held_read c.args.bytes.now front.column front.list front.rest.now c.len.result read.0.items read.1.now c.in-Ok-read_lookup.lookup c.in-Ok.ensures.column c.in-Ok.ensures.found count c.in-Ok-read_columns.ensures.found c.in-Ok-read_lookup.ensures.own

pub returns-in-Ok-read_lookup-clause-found : goal.returns-in-Ok-read_lookup-clause-found
returns-in-Ok-read_lookup-clause-found c =
    let front = c.in-Ok.front in
    let count = count_by front.column front.list c.len.result c.in-Ok.ensures.column c.len.ensures in
    let read = c.in-Ok-read_columns.read in
    spells_by c.of.result (shapes_of read.0.items) (rows_of (keys_of front.column.cells) read.0.items) c.args.bytes.now c.of.ensures.schema c.of.ensures.rows
    (base_read c.args.bytes.now front.column front.list front.rest.now c.len.result read.0.items read.1.now c.in-Ok.ensures.column c.in-Ok.ensures.found count c.in-Ok-read_columns.ensures.found c.in-Ok-read_lookup.ensures.found)

pub returns-in-Ok-read_lookup-clause-only : goal.returns-in-Ok-read_lookup-clause-only
returns-in-Ok-read_lookup-clause-only c =
    let front = c.in-Ok.front in
    let count = count_by front.column front.list c.len.result c.in-Ok.ensures.column c.len.ensures in
    let read = c.in-Ok-read_columns.read in
    λ schema rows s. valued_by c.of.result (shapes_of read.0.items) schema (rows_of (keys_of front.column.cells) read.0.items) rows c.of.ensures.schema c.of.ensures.rows
    (base_only schema rows c.args.bytes.now front.column front.list front.rest.now c.len.result read.0.items read.1.now c.in-Ok.ensures.column c.in-Ok.ensures.only count c.in-Ok-read_columns.ensures.only s)

pub returns-in-Err-read_lookup-clause-only : goal.returns-in-Err-read_lookup-clause-only
returns-in-Err-read_lookup-clause-only c =
    let front = c.in-Ok.front in
    let count = count_by front.column front.list c.len.result c.in-Ok.ensures.column c.len.ensures in
    let read = c.in-Ok-read_columns.read in
    λ schema rows s. c.in-Err-read_lookup.ensures.only (last_by schema rows c.args.bytes.now front.list front.rest.now c.len.result read.0.items read.1.now c.in-Ok.ensures.only count c.in-Ok-read_columns.ensures.only s).1

pub returns-in-Err-read_lookup-clause-stop : goal.returns-in-Err-read_lookup-clause-stop
returns-in-Err-read_lookup-clause-stop c =
    let front = c.in-Ok.front in
    let count = count_by front.column front.list c.len.result c.in-Ok.ensures.column c.len.ensures in
    let read = c.in-Ok-read_columns.read in
    lookup_stopped c.in-Err-read_lookup.stop c.args.bytes.now front.list c.len.result front.rest.now read.0.items read.1.now c.in-Ok.ensures.found count c.in-Ok-read_columns.ensures.found c.in-Err-read_lookup.ensures.stop
