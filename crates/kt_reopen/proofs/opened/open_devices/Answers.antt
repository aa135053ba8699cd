use Rattle.std.proofs.Common.{◌≡◌, IsTrue, List, [], Option, Some, Ok, inl, inr, refl, sym, ap, subst, ◌∙◌}
use Rattle.kt_disk.specs.Disk.{Files}
use Rattle.kt_records.specs.declared.entry.Entry.{Entry}
use Rattle.kt_journal.specs.Log.{IsLog, CanOpen}
use Rattle.kt_super.specs.declared.meta.Meta.{Meta}
use Rattle.kt_diskrowset.specs.Rowset.{HeldFiles}
use Rattle.kt_files.specs.Named.{named_in, AreNamed}
use Rattle.kt_files.specs.Reading.{HoldAll}
use Rattle.kt_files.proofs.SameFiles.{holds_on}
use Rattle.kt_content.specs.Places.{fresh}
use Rattle.kt_reopen.specs.Both.{Answers, AnswersLater, nothing, super_in}
use Rattle.kt_reopen.specs.Both.Answers.{at_once, first, later}
use Rattle.kt_reopen.specs.Opened.{first_meta, AreReadOf}
use Rattle.kt_reopen.proofs.Answered.{not_fault, not_memory}
use Rattle.kt_reopen.proofs.Held.{found_shows, same_table}
use Rattle.kt_reopen.proofs.Pairs.{keeps_files, keeps_first}
use Rattle.kt_reopen.proofs.Sparing.{kept_named, same_files, files_from, store_from, of_store, stand_same, stand_some, stand_none}
use Rattle.kt_reopen.proofs.opened.open_devices.Goals as goal
use Rattle.kt_reopen.proofs.opened.open_devices.Goals.{in-None, in-Some}

-- the slots or the log are refused: nothing has changed
pub returns-in-Err-clause-store_moment : goal.returns-in-Err-clause-store_moment
returns-in-Err-clause-store_moment g c = λ told.
    of_store g.D.Disk.seen g.D.Disk.now g.D.Disk.leaves c.args.store.now c.read_devices.new.store (first_meta c.args.schema.now) (same_files g.D.Disk.seen g.D.Disk.now g.D.Disk.leaves c.args.store.now c.read_devices.new.store (c.read_devices.ensures.images told))

pub returns-in-Err-clause-keeps_err : goal.returns-in-Err-clause-keeps_err
returns-in-Err-clause-keeps_err g c = λ told told'.
    keeps_files g.L.Disk.now g.L.Disk.leaves g.D.Disk.now g.D.Disk.leaves c.args.schema.now c.args.log c.in-Err.refused.0 c.args.store.now c.read_devices.new.store (c.in-Err.ensures.frames_err told)
    (same_files g.D.Disk.seen g.D.Disk.now g.D.Disk.leaves c.args.store.now c.read_devices.new.store (c.read_devices.ensures.images told'))

-- the stores are made, or not
pub returns-in-Ok-rebuilt-clause-store_moment : goal.returns-in-Ok-rebuilt-clause-store_moment
returns-in-Ok-rebuilt-clause-store_moment g c = λ told.
    let old = c.args.store.now in
    let mid = c.read_devices.new.store in
    let first = first_meta c.args.schema.now in
    elim c.match-meta.branch [
      | in-None w ↦ rw (w.store-is) (store_from g.D.Disk.seen g.D.Disk.now g.D.Disk.leaves old mid w.open_first-rebuilt.new.store first (c.read_devices.ensures.images told) (w.open_first-rebuilt.ensures.any_moment told))
      | in-Some w ↦
          rw (w.store-is) (of_store g.D.Disk.seen g.D.Disk.now g.D.Disk.leaves old w.open_later-rebuilt.new.store first
          (files_from g.D.Disk.seen g.D.Disk.now g.D.Disk.leaves old mid w.open_later-rebuilt.new.store (c.read_devices.ensures.images told) (w.open_later-rebuilt.ensures.any_moment told)))
    ]

pub returns-in-Ok-rebuilt-clause-keeps : goal.returns-in-Ok-rebuilt-clause-keeps
returns-in-Ok-rebuilt-clause-keeps g c = λ told told'.
    let old = c.args.store.now in
    let mid = c.read_devices.new.store in
    let journal = c.in-Ok.read.journal in
    elim c.match-meta.branch [
      | in-None w ↦
          let none : c.in-Ok.read.records ≡ [] = c.in-Ok.ensures.bare w.in-None.is in
          rw (w.store-is) (keeps_first g.L.Disk.now g.L.Disk.leaves g.D.Disk.now g.D.Disk.leaves c.args.schema.now c.args.log journal.disk old w.open_first-rebuilt.new.store (c.in-Ok.ensures.frames told)
          (store_from g.D.Disk.seen g.D.Disk.now g.D.Disk.leaves old mid w.open_first-rebuilt.new.store (first_meta c.args.schema.now) (c.read_devices.ensures.images told') (w.open_first-rebuilt.ensures.any_moment told'))
          (λ image left. c.in-Ok.ensures.durable told image left ∙ ap (λ (l : List Entry). Ok l) none))
      | in-Some w ↦
          rw (w.store-is) (keeps_files g.L.Disk.now g.L.Disk.leaves g.D.Disk.now g.D.Disk.leaves c.args.schema.now c.args.log journal.disk old w.open_later-rebuilt.new.store (c.in-Ok.ensures.frames told)
          (files_from g.D.Disk.seen g.D.Disk.now g.D.Disk.leaves old mid w.open_later-rebuilt.new.store (c.read_devices.ensures.images told') (w.open_later-rebuilt.ensures.any_moment told')))
    ]

-- a refusal behind the log's leaves both as an opening does
pub returns-in-Err-rebuilt-clause-store_moment : goal.returns-in-Err-rebuilt-clause-store_moment
returns-in-Err-rebuilt-clause-store_moment g c = λ told.
    let old = c.args.store.now in
    let mid = c.read_devices.new.store in
    let first = first_meta c.args.schema.now in
    elim c.match-meta.branch [
      | in-None w ↦ rw (w.store-is) (store_from g.D.Disk.seen g.D.Disk.now g.D.Disk.leaves old mid w.open_first-rebuilt.new.store first (c.read_devices.ensures.images told) (w.open_first-rebuilt.ensures.any_moment told))
      | in-Some w ↦
          rw (w.store-is) (of_store g.D.Disk.seen g.D.Disk.now g.D.Disk.leaves old w.open_later-rebuilt.new.store first
          (files_from g.D.Disk.seen g.D.Disk.now g.D.Disk.leaves old mid w.open_later-rebuilt.new.store (c.read_devices.ensures.images told) (w.open_later-rebuilt.ensures.any_moment told)))
    ]

pub returns-in-Err-rebuilt-clause-keeps_err : goal.returns-in-Err-rebuilt-clause-keeps_err
returns-in-Err-rebuilt-clause-keeps_err g c = λ told told'.
    let old = c.args.store.now in
    let mid = c.read_devices.new.store in
    let journal = c.in-Ok.read.journal in
    elim c.match-meta.branch [
      | in-None w ↦
          let none : c.in-Ok.read.records ≡ [] = c.in-Ok.ensures.bare w.in-None.is in
          rw (w.store-is, c.into_disk.ensures) (keeps_first g.L.Disk.now g.L.Disk.leaves g.D.Disk.now g.D.Disk.leaves c.args.schema.now c.args.log journal.disk old w.open_first-rebuilt.new.store (c.in-Ok.ensures.frames told)
          (store_from g.D.Disk.seen g.D.Disk.now g.D.Disk.leaves old mid w.open_first-rebuilt.new.store (first_meta c.args.schema.now) (c.read_devices.ensures.images told') (w.open_first-rebuilt.ensures.any_moment told'))
          (λ image left. c.in-Ok.ensures.durable told image left ∙ ap (λ (l : List Entry). Ok l) none))
      | in-Some w ↦
          rw (w.store-is, c.into_disk.ensures) (keeps_files g.L.Disk.now g.L.Disk.leaves g.D.Disk.now g.D.Disk.leaves c.args.schema.now c.args.log journal.disk old w.open_later-rebuilt.new.store (c.in-Ok.ensures.frames told)
          (files_from g.D.Disk.seen g.D.Disk.now g.D.Disk.leaves old mid w.open_later-rebuilt.new.store (c.read_devices.ensures.images told') (w.open_later-rebuilt.ensures.any_moment told')))
    ]

-- why both are refused
pub returns-in-Err-clause-refused : goal.returns-in-Err-clause-refused
returns-in-Err-clause-refused g c = λ refusal told told'.
    let why = c.in-Err.refused.1 in
    at_once why (c.in-Err.ensures.refused (not_fault why refusal) (not_memory why refusal) told told') refl

pub returns-in-Err-rebuilt-clause-refused : goal.returns-in-Err-rebuilt-clause-refused
returns-in-Err-rebuilt-clause-refused g c = λ refusal told told'.
    let why = c.in-Err-rebuilt.why in
    let seen = c.in-Ok.ensures.seen told' in
    elim c.match-meta.branch [
      | in-None w ↦ absurd (elim (w.open_first-rebuilt.ensures.no_refusal why (sym w.rebuilt-is ∙ c.in-Err-rebuilt.is)) [ inl fault ↦ not_fault why refusal fault | inr memory ↦ not_memory why refusal memory ])
      | in-Some w ↦
          later w.in-Some.meta c.in-Ok.read.records (c.in-Ok.ensures.found told told' ∙ ap (λ (m : Option Meta). Ok (m, c.in-Ok.read.records)) w.in-Some.is)
          (rw (sym seen) (w.open_later-rebuilt.ensures.refused why (sym w.rebuilt-is ∙ c.in-Err-rebuilt.is) (not_fault why refusal) (not_memory why refusal) told'))
    ]

-- what was found of both: nothing, or what the superblock and its records make
pub returns-in-Ok-rebuilt-clause-found : goal.returns-in-Ok-rebuilt-clause-found
returns-in-Ok-rebuilt-clause-found g c =
    let columns = c.args.schema.now in
    let records = c.in-Ok.read.records in
    let log = g.L.Disk.seen c.args.log in
    let store = g.D.Disk.seen c.args.store.now in
    elim c.match-meta.branch [
      | in-None w ↦
          let is = sym w.rebuilt-is ∙ c.in-Ok-rebuilt.is in
          let both = rw is at w.open_first-rebuilt.ensures.opened in (
            nothing,
            rw is at w.open_first-rebuilt.ensures.superblock,
            both.0,
            both.1,
            λ told told'.
                let none : c.in-Ok.read.records ≡ [] = c.in-Ok.ensures.bare w.in-None.is in
                let answer : Answers columns log store (Ok nothing) = first (c.in-Ok.ensures.found told told' ∙ (λ i. Ok (w.in-None.is i, none i))) refl in
                (answer, λ rules last past h. found_shows rules columns log store last past nothing tt h answer),
          )
      | in-Some w ↦
          let is = sym w.rebuilt-is ∙ c.in-Ok-rebuilt.is in
          let got = rw is at w.open_later-rebuilt.ensures.opened in (
            got.0,
            got.1,
            got.2,
            got.3,
            λ told told'.
                let more : AnswersLater columns w.in-Some.meta records store (Ok got.0) = subst (λ (s : Files). AnswersLater columns w.in-Some.meta records s (Ok got.0)) (c.in-Ok.ensures.seen told') (got.4 told') in
                let answer : Answers columns log store (Ok got.0) = later w.in-Some.meta records (c.in-Ok.ensures.found told told' ∙ ap (λ (m : Option Meta). Ok (m, records)) w.in-Some.is) more in
                (answer, λ rules last past h. found_shows rules columns log store last past got.0 (subst IsLog got.2.records_are c.in-Ok.ensures.sound) h answer),
          )
    ]

pub returns-in-Ok-rebuilt-clause-table : goal.returns-in-Ok-rebuilt-clause-table
returns-in-Ok-rebuilt-clause-table g c = λ told told' rules last past h. elim c.match-meta.branch [
  | in-None w ↦ (let is = sym w.rebuilt-is ∙ c.in-Ok-rebuilt.is in ap (λ (m : Meta). m.schema) (rw is at w.open_first-rebuilt.ensures.meta))
  | in-Some w ↦
      let is = sym w.rebuilt-is ∙ c.in-Ok-rebuilt.is in
      ap (λ (m : Meta). m.schema) (rw is at w.open_later-rebuilt.ensures.meta)
      ∙ same_table rules c.args.schema.now _ _ last past w.in-Some.meta c.in-Ok.read.records h (c.in-Ok.ensures.found told told' ∙ ap (λ (m : Option Meta). Ok (m, c.in-Ok.read.records)) w.in-Some.is)
]

-- its files hold what the superblock tells
pub returns-in-Ok-rebuilt-clause-holds : goal.returns-in-Ok-rebuilt-clause-holds
returns-in-Ok-rebuilt-clause-holds g c = λ told.
    let r = c.in-Ok-rebuilt.field-0 in
    let mid = g.D.Disk.seen c.read_devices.new.store in
    elim c.match-meta.branch [
      | in-None w ↦
          let is = sym w.rebuilt-is ∙ c.in-Ok-rebuilt.is in
          let new = g.D.Disk.seen w.open_first-rebuilt.new.store in
          let meta_is : r.meta ≡ first_meta c.args.schema.now = rw is at w.open_first-rebuilt.ensures.meta in
          let superblock_is : r.superblock ≡ fresh = rw is at w.open_first-rebuilt.ensures.superblock in
          rw (w.store-is) (subst (λ (m : Meta). (held : List HeldFiles) × HoldAll new m.rowsets held × (r.superblock ≡ super_in m held)) (sym meta_is) ([], tt, superblock_is))
      | in-Some w ↦
          let is = sym w.rebuilt-is ∙ c.in-Ok-rebuilt.is in
          let m = w.in-Some.meta in
          let new = g.D.Disk.seen w.open_later-rebuilt.new.store in
          let meta_is : r.meta ≡ m = rw is at w.open_later-rebuilt.ensures.meta in
          let got : (held : List HeldFiles) × HoldAll mid m.rowsets held × (r.superblock ≡ super_in m held) = (rw is at w.open_later-rebuilt.ensures.holds) told in
          rw (w.store-is) (subst (λ (x : Meta). (held : List HeldFiles) × HoldAll new x.rowsets held × (r.superblock ≡ super_in x held)) (sym meta_is)
          (got.0, holds_on mid new m.rowsets got.0 (λ n h. sym (w.open_later-rebuilt.ensures.kept told n (kept_named (named_in m.rowsets) n h))) got.1, got.2))
    ]

-- and so are those in memory
pub returns-in-Ok-rebuilt-clause-files : goal.returns-in-Ok-rebuilt-clause-files
returns-in-Ok-rebuilt-clause-files g c =
    let r = c.in-Ok-rebuilt.field-0 in
    let mid = g.D.Disk.seen c.read_devices.new.store in
    elim c.match-meta.branch [
      | in-None w ↦
          let is = sym w.rebuilt-is ∙ c.in-Ok-rebuilt.is in
          let new = g.D.Disk.seen w.open_first-rebuilt.new.store in
          let meta_is : r.meta ≡ first_meta c.args.schema.now = rw is at w.open_first-rebuilt.ensures.meta in
          let none : r.made.stores.files ≡ [] = rw is at w.open_first-rebuilt.ensures.files in
          rw (w.store-is)
          (subst (λ (m : Meta). (held : List HeldFiles) × AreNamed m.rowsets held × AreReadOf held r.made.stores.files × (IsTrue g.D.Disk.tells → HoldAll new m.rowsets held)) (sym meta_is)
          ([], tt, subst (AreReadOf []) (sym none) tt, λ told. tt))
      | in-Some w ↦
          let is = sym w.rebuilt-is ∙ c.in-Ok-rebuilt.is in
          let m = w.in-Some.meta in
          let new = g.D.Disk.seen w.open_later-rebuilt.new.store in
          let meta_is : r.meta ≡ m = rw is at w.open_later-rebuilt.ensures.meta in
          let got : (held : List HeldFiles) × AreNamed m.rowsets held × AreReadOf held r.made.stores.files × (IsTrue g.D.Disk.tells → HoldAll mid m.rowsets held) = rw is at w.open_later-rebuilt.ensures.files in
          rw (w.store-is)
          (subst (λ (x : Meta). (held : List HeldFiles) × AreNamed x.rowsets held × AreReadOf held r.made.stores.files × (IsTrue g.D.Disk.tells → HoldAll new x.rowsets held)) (sym meta_is)
          (got.0, got.1, got.2, λ told. holds_on mid new m.rowsets got.0 (λ n h. sym (w.open_later-rebuilt.ensures.kept told n (kept_named (named_in m.rowsets) n h))) (got.3 told)))
    ]

-- nothing is pending of the files that are named, as before
pub returns-in-Err-clause-stand : goal.returns-in-Err-clause-stand
returns-in-Err-clause-stand g c = λ told.
    let new = c.read_devices.new.store in
    stand_same g.D.Disk.seen g.D.Disk.now g.D.Disk.leaves c.args.store.now new (g.met.D.Disk.reads_as_image new told) (c.read_devices.ensures.images told)

pub returns-in-Ok-rebuilt-clause-stand : goal.returns-in-Ok-rebuilt-clause-stand
returns-in-Ok-rebuilt-clause-stand g c = λ told stand.
    let mid = c.read_devices.new.store in
    let stable = c.in-Ok.ensures.stable told in
    let slots = c.in-Ok.ensures.slots told in
    elim c.match-meta.branch [
      | in-None w ↦
          rw (w.store-is) (stand_none g.D.Disk.seen g.D.Disk.now g.D.Disk.leaves mid w.open_first-rebuilt.new.store (first_meta c.args.schema.now) refl stable (slots ∙ ap (λ (m : Option Meta). Ok m) w.in-None.is) (w.open_first-rebuilt.ensures.any_moment told))
      | in-Some w ↦
          let new = w.open_later-rebuilt.new.store in
          rw (w.store-is) (stand_some g.D.Disk.seen g.D.Disk.now g.D.Disk.leaves c.args.store.now mid new w.in-Some.meta (g.met.D.Disk.reads_as_image new told) (c.read_devices.ensures.images told) stable
          (slots ∙ ap (λ (m : Option Meta). Ok m) w.in-Some.is) (w.open_later-rebuilt.ensures.any_moment told) stand)
    ]

pub returns-in-Err-rebuilt-clause-stand : goal.returns-in-Err-rebuilt-clause-stand
returns-in-Err-rebuilt-clause-stand g c = λ told stand.
    let mid = c.read_devices.new.store in
    let stable = c.in-Ok.ensures.stable told in
    let slots = c.in-Ok.ensures.slots told in
    elim c.match-meta.branch [
      | in-None w ↦
          rw (w.store-is) (stand_none g.D.Disk.seen g.D.Disk.now g.D.Disk.leaves mid w.open_first-rebuilt.new.store (first_meta c.args.schema.now) refl stable (slots ∙ ap (λ (m : Option Meta). Ok m) w.in-None.is) (w.open_first-rebuilt.ensures.any_moment told))
      | in-Some w ↦
          let new = w.open_later-rebuilt.new.store in
          rw (w.store-is) (stand_some g.D.Disk.seen g.D.Disk.now g.D.Disk.leaves c.args.store.now mid new w.in-Some.meta (g.met.D.Disk.reads_as_image new told) (c.read_devices.ensures.images told) stable
          (slots ∙ ap (λ (m : Option Meta). Ok m) w.in-Some.is) (w.open_later-rebuilt.ensures.any_moment told) stand)
    ]

pub returns-in-Err-rebuilt-clause-openable_err : goal.returns-in-Err-rebuilt-clause-openable_err
returns-in-Err-rebuilt-clause-openable_err g c = λ told. subst (CanOpen g.L.Disk.now g.L.Disk.leaves) (sym c.into_disk.ensures) (c.in-Ok.ensures.openable told)
