use Rattle.std.proofs.Common.{◌≡◌, ℕ, List, map, max, arith, Err, ap, subst, ◌∙◌}
use Rattle.std.proofs.lemmas.Result.{err_from_is_err_and}
use Rattle.kt_loglaws.specs.Replay.{last_of}
use Rattle.kt_schema.specs.declared.column.Column.{Column}
use Rattle.kt_schema.specs.Columns.{fill_of}
use Rattle.kt_diskrowset.specs.declared.data.RowSetData.{RowSetData}
use Rattle.kt_diskrowset.specs.Data.{held_in}
use Rattle.kt_files.specs.Named.{named_in}
use Rattle.kt_reopen.specs.declared.why.Why.TheVariants as why
use Rattle.kt_reopen.specs.Tables.{AllAreLike, DifferFirst}
use Rattle.kt_reopen.specs.Both.{super_in}
use Rattle.kt_reopen.specs.Opened.{found_of, AreReadOf}
use Rattle.kt_reopen.specs.Both.AnswersLater.{in_column, too_late}
use Rattle.kt_reopen.proofs.Answered.{answers_found, answers_late, files_refused, removal_refuses_none, err_again}
use Rattle.kt_reopen.proofs.FirstOpened.{later_opened, late_of_files}
use Rattle.kt_reopen.proofs.Sparing.{left_named, same_files, spared_later, stable_read, stable_kept}
use Rattle.kt_reopen.proofs.opened.open_later.Goals as goal

-- what was found: the superblock with its files, the records, and the stores that they make
pub returns-clause-opened : goal.returns-clause-opened
returns-clause-opened g c =
    let m = c.args.meta in
    let columns = c.args.schema.now in
    let records = c.args.records.now in
    let p = c.in_ok-made.made in
    let held = map held_in c.in_ok-rowsets.rowsets in
    let last_is : c.max-last.result ≡ max m.c (last_of records) = c.max-last.ensures ∙ ap (max m.c) c.last_of.ensures in
    let all = later_opened columns c.args.cells m records p.queued p.stores c.max-last.result p.next_rowset c.into_vec.result.items c.in_ok-rowsets.rowsets c.into_vec.ensures last_is c.in_ok-made.ensures.fits c.in_ok-made.ensures.made c.in_ok-made.ensures.room in
    let none : AllAreLike c.columns.result.now c.columns-2.result.now = rw c.in_default.is at c.first_other.ensures in
    let alike : AllAreLike columns m.schema = subst (λ (l : List Column). AllAreLike columns l) c.columns-2.ensures.value (subst (λ (l : List Column). AllAreLike l c.columns-2.result.now) c.columns.ensures.value none) in (
      found_of (super_in m held) records all.0,
      c.read-superblock.ensures,
      all.2,
      all.3,
      λ told. answers_found columns m records (g.D.Disk.seen c.args.store.now) held (c.in_ok-rowsets.ensures.hold told) alike (omega (arith, last_is)) all.0 all.1,
    )

-- a data file is at fault
pub returns-in_err-rowsets-clause-refused : goal.returns-in_err-rowsets-clause-refused
returns-in_err-rowsets-clause-refused g c = λ no is fault memory told.
    let e = c.in_err-rowsets.field-0.0 in
    let from = err_from_is_err_and c.from_residual.result c.from_residual.ensures.1 in
    files_refused c.args.schema.now c.args.meta c.args.records.now (g.D.Disk.seen c.args.store.now) e no (cc) fault memory (λ file offset at. c.in_err-rowsets.ensures.place file offset (ap (λ x. Err x) at) told)

-- another column, no time left, or an operation that does not fit
pub returns-in-Some-clause-refused : goal.returns-in-Some-clause-refused
returns-in-Some-clause-refused g c = λ no is fault memory told.
    let here : DifferFirst c.columns.result.now c.columns-2.result.now c.in-Some.column = rw c.in-Some.is at c.first_other.ensures in
    let differ : DifferFirst c.args.schema.now c.args.meta.schema c.in-Some.column =
    subst (λ (l : List Column). DifferFirst c.args.schema.now l c.in-Some.column) c.columns-2.ensures.value (subst (λ (l : List Column). DifferFirst l c.columns-2.result.now c.in-Some.column) c.columns.ensures.value here)
    in
    in_column (map held_in c.in_ok-rowsets.rowsets) c.in-Some.column (c.in_ok-rowsets.ensures.hold told) differ (err_again _ _ is)

pub returns-then-last-ge-LAST_MOST-clause-refused : goal.returns-then-last-ge-LAST_MOST-clause-refused
returns-then-last-ge-LAST_MOST-clause-refused g c = λ no is fault memory told.
    let m = c.args.meta in
    let columns = c.args.schema.now in
    let last_is : c.max-last.result ≡ max m.c (last_of c.args.records.now) = c.max-last.ensures ∙ ap (max m.c) c.last_of.ensures in
    let none : AllAreLike c.columns.result.now c.columns-2.result.now = rw c.in_default.is at c.first_other.ensures in
    let alike : AllAreLike columns m.schema = subst (λ (l : List Column). AllAreLike columns l) c.columns-2.ensures.value (subst (λ (l : List Column). AllAreLike l c.columns-2.result.now) c.columns.ensures.value none) in
    too_late (map held_in c.in_ok-rowsets.rowsets) (c.in_ok-rowsets.ensures.hold told) alike (omega (arith, last_is)) (err_again _ _ is ∙ ap (λ (n : ℕ). Err (why.B6 n)) last_is)

pub returns-in_err-made-clause-refused : goal.returns-in_err-made-clause-refused
returns-in_err-made-clause-refused g c = λ no is fault memory told.
    let m = c.args.meta in
    let columns = c.args.schema.now in
    let records = c.args.records.now in
    let last_is : c.max-last.result ≡ max m.c (last_of records) = c.max-last.ensures ∙ ap (max m.c) c.last_of.ensures in
    let none : AllAreLike c.columns.result.now c.columns-2.result.now = rw c.in_default.is at c.first_other.ensures in
    let alike : AllAreLike columns m.schema = subst (λ (l : List Column). AllAreLike columns l) c.columns-2.ensures.value (subst (λ (l : List Column). AllAreLike l c.columns-2.result.now) c.columns.ensures.value none) in
    let from = err_from_is_err_and c.from_residual-in_err-made.result c.from_residual-in_err-made.ensures.1 in
    let same : c.in_err-made.field-0.0 ≡ no = cc in
    let late = late_of_files m records c.into_vec.result.items c.in_ok-rowsets.rowsets c.into_vec.ensures c.in_err-made.field-0.0 no same memory c.in_err-made.ensures.late (fill_of columns) in
    answers_late columns m records (g.D.Disk.seen c.args.store.now) (map held_in c.in_ok-rowsets.rowsets) (c.in_ok-rowsets.ensures.hold told) alike (omega (arith, last_is)) late.0 no late.1 late.2

-- no operation that does not fit is a fault of a device
pub returns-in_err-made-clause-fault : goal.returns-in_err-made-clause-fault
returns-in_err-made-clause-fault g c = λ is.
    let from = err_from_is_err_and c.from_residual-in_err-made.result c.from_residual-in_err-made.ensures.1 in
    let same : c.in_err-made.field-0.0 ≡ why.Fault = cc in
    let late = late_of_files c.args.meta c.args.records.now c.into_vec.result.items c.in_ok-rowsets.rowsets c.into_vec.ensures c.in_err-made.field-0.0 why.Fault same (λ e. cc) c.in_err-made.ensures.late (fill_of c.args.schema.now) in
    let clash = late.2 in
    absurd (cc)

pub returns-in_err-remove_others-clause-refused : goal.returns-in_err-remove_others-clause-refused
returns-in_err-remove_others-clause-refused g c = λ no is fault memory told.
    let e = c.in_err-remove_others.field-0.0 in
    let from = err_from_is_err_and c.from_residual-in_err-remove_others.result c.from_residual-in_err-remove_others.ensures.1 in
    removal_refuses_none e no (cc) fault memory

pub returns-clause-holds : goal.returns-clause-holds
returns-clause-holds g c = λ told. (map held_in c.in_ok-rowsets.rowsets, c.in_ok-rowsets.ensures.hold told, c.read-superblock.ensures)

pub returns-clause-files : goal.returns-clause-files
returns-clause-files g c = (
  map held_in c.in_ok-rowsets.rowsets,
  c.in_ok-rowsets.ensures.named,
  subst (λ (l : List RowSetData). AreReadOf (map held_in l) c.in_ok-made.made.stores.files) c.into_vec.ensures c.in_ok-made.ensures.files,
  λ told. c.in_ok-rowsets.ensures.hold told,
)

-- the files are only read
pub returns-in_err-rowsets-clause-any_moment : goal.returns-in_err-rowsets-clause-any_moment
returns-in_err-rowsets-clause-any_moment g c = λ told. same_files g.D.Disk.seen g.D.Disk.now g.D.Disk.leaves c.args.store.now c.read_rowsets.new.disk (c.read_rowsets.ensures.images told)

pub returns-in-Some-clause-any_moment : goal.returns-in-Some-clause-any_moment
returns-in-Some-clause-any_moment g c = λ told. same_files g.D.Disk.seen g.D.Disk.now g.D.Disk.leaves c.args.store.now c.read_rowsets.new.disk (c.read_rowsets.ensures.images told)

pub returns-then-last-ge-LAST_MOST-clause-any_moment : goal.returns-then-last-ge-LAST_MOST-clause-any_moment
returns-then-last-ge-LAST_MOST-clause-any_moment g c = λ told. same_files g.D.Disk.seen g.D.Disk.now g.D.Disk.leaves c.args.store.now c.read_rowsets.new.disk (c.read_rowsets.ensures.images told)

pub returns-in_err-made-clause-any_moment : goal.returns-in_err-made-clause-any_moment
returns-in_err-made-clause-any_moment g c = λ told. same_files g.D.Disk.seen g.D.Disk.now g.D.Disk.leaves c.args.store.now c.read_rowsets.new.disk (c.read_rowsets.ensures.images told)

-- and others are removed under the superblock that each image has
pub returns-in_err-remove_others-clause-any_moment : goal.returns-in_err-remove_others-clause-any_moment
returns-in_err-remove_others-clause-any_moment g c = λ told.
    let old = c.args.store.now in
    let mid = c.read_rowsets.new.disk in
    spared_later g.D.Disk.seen g.D.Disk.now g.D.Disk.leaves old mid c.remove_others.new.disk c.args.meta (c.read_rowsets.ensures.images told)
    (left_named g.D.Disk.seen g.D.Disk.now g.D.Disk.leaves old mid c.args.meta (c.requires.stable told) (c.requires.named told) (c.read_rowsets.ensures.images told)) (c.remove_others.ensures.any_moment told)

pub returns-clause-any_moment : goal.returns-clause-any_moment
returns-clause-any_moment g c = λ told.
    let old = c.args.store.now in
    let mid = c.read_rowsets.new.disk in
    spared_later g.D.Disk.seen g.D.Disk.now g.D.Disk.leaves old mid c.remove_others.new.disk c.args.meta (c.read_rowsets.ensures.images told)
    (left_named g.D.Disk.seen g.D.Disk.now g.D.Disk.leaves old mid c.args.meta (c.requires.stable told) (c.requires.named told) (c.read_rowsets.ensures.images told)) (c.remove_others.ensures.any_moment told)

pub returns-clause-stable : goal.returns-clause-stable
returns-clause-stable g c = λ told.
    let old = c.args.store.now in
    let mid = c.read_rowsets.new.disk in
    stable_kept g.D.Disk.seen g.D.Disk.now g.D.Disk.leaves mid c.remove_others.new.disk (named_in c.args.meta.rowsets)
    (stable_read g.D.Disk.seen g.D.Disk.now g.D.Disk.leaves old mid (c.requires.stable told) (c.read_rowsets.ensures.images told) (c.read_rowsets.ensures.seen told)) (c.remove_others.ensures.any_moment told) (c.remove_others.ensures.kept told)
