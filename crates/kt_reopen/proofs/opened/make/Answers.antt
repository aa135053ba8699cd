use Rattle.std.proofs.Common.{◌≡◌, ◌∙◌, ℕ, Err, map, sym, ap, subst, arith}
use Rattle.kt_diskrowset.specs.Data.{held_in}
use Rattle.kt_loglaws.specs.Replay.{gate_of}
use Rattle.kt_reopen.specs.declared.replaying.ReplayNo.{ReplayNo}
use Rattle.kt_reopen.specs.Numbers.{next_rowset, named_by}
use Rattle.kt_reopen.specs.Opened.{AreReadOf}
use Rattle.kt_reopen.proofs.Apart.{places_apart}
use Rattle.kt_reopen.proofs.Begun.{begun_kept, begun_under, begun_places, begun_apart, begun_room}
use Rattle.kt_reopen.proofs.Made.{made_fits, made_few, made_opened, made_room, made_late, late_why}
use Rattle.kt_reopen.proofs.Making.{rowsets_read}
use Rattle.kt_reopen.proofs.opened.make.Goals as goal

pub needs_of-requires-clause-apart : goal.needs_of-requires-clause-apart
needs_of-requires-clause-apart c = places_apart c.args.meta.now c.requires.rules

pub replay-requires-clause-kept : goal.replay-requires-clause-kept
replay-requires-clause-kept c =
    let records = c.args.records.now in
    let b = c.in_ok-stores.ensures records c.in_ok-named.ensures c.in_ok-needs.ensures in
    begun_kept c.args.meta.now c.requires.rules records c.requires.log c.args.rowsets.items c.requires.numbers c.args.cells c.in_ok-needs.needs c.in_ok-stores.stores b

pub replay-requires-clause-thawed : goal.replay-requires-clause-thawed
replay-requires-clause-thawed c = (c.in_ok-stores.ensures c.args.records.now c.in_ok-named.ensures c.in_ok-needs.ensures).mem_open

pub replay-requires-clause-under : goal.replay-requires-clause-under
replay-requires-clause-under c =
    let records = c.args.records.now in
    let b = c.in_ok-stores.ensures records c.in_ok-named.ensures c.in_ok-needs.ensures in
    begun_under c.args.meta.now c.requires.rules records c.requires.log c.args.rowsets.items c.requires.numbers c.args.cells c.in_ok-needs.needs c.in_ok-stores.stores b

pub replay-requires-clause-places : goal.replay-requires-clause-places
replay-requires-clause-places c =
    let records = c.args.records.now in
    let b = c.in_ok-stores.ensures records c.in_ok-named.ensures c.in_ok-needs.ensures in
    begun_places c.args.meta.now c.requires.rules records c.requires.log c.args.rowsets.items c.requires.numbers c.args.cells c.in_ok-needs.needs c.in_ok-stores.stores b

pub replay-requires-clause-apart : goal.replay-requires-clause-apart
replay-requires-clause-apart c =
    let records = c.args.records.now in
    let b = c.in_ok-stores.ensures records c.in_ok-named.ensures c.in_ok-needs.ensures in
    begun_apart c.args.meta.now c.requires.rules records c.requires.log c.args.rowsets.items c.requires.numbers c.args.cells c.in_ok-needs.needs c.in_ok-stores.stores b

pub replay-requires-clause-room : goal.replay-requires-clause-room
replay-requires-clause-room c =
    let records = c.args.records.now in
    let b = c.in_ok-stores.ensures records c.in_ok-named.ensures c.in_ok-needs.ensures in
    begun_room c.args.meta.now c.requires.rules records c.requires.log c.args.rowsets.items c.requires.numbers c.args.cells c.in_ok-needs.needs c.in_ok-stores.stores b

pub stores_of-requires-clause-few : goal.stores_of-requires-clause-few
stores_of-requires-clause-few c =
    let records = c.args.records.now in
    let b = c.in_ok-stores.ensures records c.in_ok-named.ensures c.in_ok-needs.ensures in
    made_few c.args.meta.now c.requires.rules records c.requires.log c.args.rowsets.items c.requires.numbers c.args.cells c.in_ok-needs.needs c.in_ok-stores.stores b c.replay.new.stores c.in-Ok.ensures.does

pub returns-in-Ok-clause-made : goal.returns-in-Ok-clause-made
returns-in-Ok-clause-made c = λ columns stores here.
    let records = c.args.records.now in
    let b = c.in_ok-stores.ensures records c.in_ok-named.ensures c.in_ok-needs.ensures in
    let next : c.max.result ≡ next_rowset c.args.meta.now.next_rowset records = (let told = c.in_ok-named.ensures.next_is in let greater = c.max.ensures in omega arith) in
    made_opened c.args.meta.now c.requires.rules records c.requires.log c.args.rowsets.items c.requires.numbers c.args.cells c.in_ok-needs.needs c.in_ok-stores.stores b c.replay.new.stores c.in-Ok.ensures.does
    c.in_ok-stores_of-in-Ok.field-0 c.in_ok-stores_of-in-Ok.ensures.pool c.in_ok-stores_of-in-Ok.ensures.shelf c.in_ok-stores_of-in-Ok.ensures.frozen columns stores c.in-Ok.queued c.max.result here c.in-Ok.ensures.owed next

pub returns-in-Ok-clause-room : goal.returns-in-Ok-clause-room
returns-in-Ok-clause-room c = λ stores.
    let records = c.args.records.now in
    let b = c.in_ok-stores.ensures records c.in_ok-named.ensures c.in_ok-needs.ensures in
    made_room c.args.meta.now c.requires.rules records c.requires.log c.args.rowsets.items c.requires.numbers c.args.cells c.in_ok-needs.needs c.in_ok-stores.stores b c.replay.new.stores c.in-Ok.ensures.does
    c.in_ok-stores_of-in-Ok.field-0 c.in_ok-stores_of-in-Ok.ensures.pool c.in_ok-stores_of-in-Ok.ensures.shelf c.in_ok-stores_of-in-Ok.ensures.frozen stores

pub returns-in-Ok-clause-fits : goal.returns-in-Ok-clause-fits
returns-in-Ok-clause-fits c = λ fill.
    let records = c.args.records.now in
    let b = c.in_ok-stores.ensures records c.in_ok-named.ensures c.in_ok-needs.ensures in
    made_fits c.args.meta.now c.requires.rules records c.requires.log c.args.rowsets.items c.requires.numbers c.args.cells c.in_ok-needs.needs c.in_ok-stores.stores b c.replay.new.stores c.in-Ok.ensures.does fill

-- an operation that does not fit
pub returns-in-Err-Late-clause-late : goal.returns-in-Err-Late-clause-late
returns-in-Err-Late-clause-late c = λ no is refused fill.
    let records = c.args.records.now in
    let b = c.in_ok-stores.ensures records c.in_ok-named.ensures c.in_ok-needs.ensures in (
      c.in-Err-Late.ts,
      made_late c.args.meta.now c.requires.rules records c.requires.log c.args.rowsets.items c.requires.numbers c.args.cells c.in_ok-needs.needs c.in_ok-stores.stores b c.in-Err-Late.ts
          (c.replay.ensures.late c.in-Err-Late.ts (c.in-Err-Late.is ∙ ap (λ (e : ReplayNo). Err e) c.in-Err-Late.field-0-is)) fill,
      late_why no _ _ is (c.in_ok-gate_of-in-Err-Late.ensures ∙ ap (λ (n : ℕ). gate_of n records) c.in-Err-Late.ts-is),
    )

-- the files stay as the log is done
pub returns-in-Ok-clause-files : goal.returns-in-Ok-clause-files
returns-in-Ok-clause-files c =
    let records = c.args.records.now in
    let b = c.in_ok-stores.ensures records c.in_ok-named.ensures c.in_ok-needs.ensures in
    subst (AreReadOf (map held_in c.args.rowsets.items)) (sym (c.in_ok-stores_of-in-Ok.ensures.files ∙ c.in-Ok.ensures.does.ends.files)) (rowsets_read (named_by records) c.args.meta.now.rowsets c.args.rowsets.items c.in_ok-stores.stores.rowsets.items b.rowsets)
