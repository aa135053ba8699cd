use Rattle.std.proofs.Common.{◌≡◌, ℕ, List, refl, sym, ap, subst, ◌∙◌}
use Rattle.kt_records.specs.declared.entry.Entry.{Entry}
use Rattle.kt_loglaws.specs.Appended.{AreOfLogged}
use Rattle.kt_engine.proofs.Opened.{is_opened}
use Rattle.kt_engine.proofs.OpenedBoth.{opened_both}
use Rattle.kt_engine.proofs.OfLogged.{queued_logged}
use Rattle.kt_engine.proofs.StoreOpened.{store_opened}
use Rattle.kt_engine.proofs.engine.Engine.of.Goals as goal

pub invariant_of-result : goal.invariant_of-result
invariant_of-result g c =
    let r = c.requires in
    let f = c.args.found in
    opened_both g.L.Disk.tells g.L.Disk.seen g.L.Disk.now g.L.Disk.leaves g.L.Disk.faults g.D.Disk.tells g.D.Disk.seen g.D.Disk.faults c.args.tablet c.args.journal f.records.now f.superblock.now c.args.queued c.args.store f.store.value f.device.value c.in-Ok-new-2.tablet.value c.in-Ok-boxed_log.log.value c.of.result.value c.of-in-Ok-new-2.result.value c.in-Ok-new.store.value c.in-Ok.running c.no_upkeep-upkeep.result c.next_numbers-first_rowset.result.1 c.next_numbers-first_rowset.result.0 c.of-opened.result.value.names
    c.in-Ok-new-2.ensures.ok c.in-Ok-boxed_log.ensures.side c.of.ensures c.of-in-Ok-new-2.ensures c.in-Ok-new.ensures.ok c.no_upkeep-upkeep.ensures (ap (λ (n : ℕ × ℕ). n.1) c.next_numbers-first_rowset.ensures) (ap (λ (n : ℕ × ℕ). n.0) c.next_numbers-first_rowset.ensures) (ap (λ v. v.names) c.of-opened.ensures)
    (is_opened g.L.Disk.tells g.L.Disk.seen g.L.Disk.now g.L.Disk.leaves g.L.Disk.faults c.args.tablet c.args.journal f.records.now f.superblock.now c.args.queued c.args.store f.store.value f.device.value r.store_home.2
    r.fresh.0 r.fresh.1 r.fresh.2 c.standing.ensures.placed r.named r.shelved r.log r.commits r.taken_up r.numbers r.untold r.since r.last r.names r.count r.reads r.openable r.others r.faults)
    (store_opened g.L.Disk.tells g.L.Disk.seen g.D.Disk.tells g.D.Disk.seen g.D.Disk.faults c.args.tablet c.args.journal f.records.now f.superblock.now c.args.queued c.args.store f.store.value f.device.value
    r.fresh.0 r.fresh.1 r.log r.commits r.taken_up r.numbers r.untold r.since r.last r.count r.reads r.store_home.1 r.superblock r.filed r.mark r.clock r.named r.deltas r.names r.store_faults (λ disk at. c.standing-2.ensures.whole r.store_home.2 disk at) r.room)

pub boxed_log-requires : goal.boxed_log-requires
boxed_log-requires g c =
    let r = c.requires in
    let queued = c.args.queued in
    record { usable = r.usable; durable = r.durable; of_logged = λ t. subst (λ (l : List Entry). AreOfLogged l queued) (sym (r.reads t)) (queued_logged c.args.found.records.now queued r.log r.commits) }

pub take_apart-journal-requires : goal.take_apart-journal-requires
take_apart-journal-requires g c = record { home = ap (λ l. l.holder) (c.into_inner-in-Err-new.ensures ∙ c.in-Ok-boxed_log.ensures.side) }

pub returns-in-Ok-new-2 : goal.returns-in-Ok-new-2
returns-in-Ok-new-2 g c = record {
  view = λ k. record { tablet = c.in-Ok-new-2.ensures.ok k; log = c.in-Ok-boxed_log.ensures.side k; records = c.of.ensures k; super = c.of-in-Ok-new-2.ensures k; device = c.args.found.device.value; store = c.in-Ok-new.ensures.ok k; store_device = c.args.found.store.value; running = c.in-Ok.ensures k; upkeep = c.no_upkeep-upkeep.ensures k; first_file = (c.next_numbers-first_rowset.ensures k).1; first_rowset = (c.next_numbers-first_rowset.ensures k).0; found = (c.of-opened.ensures k).names };
  back = tt;
}

pub returns-in-Err : goal.returns-in-Err
returns-in-Err g c = record { view = tt; back = (refl, refl, c.in-Err.ensures.value_returned) }

pub returns-in-Err-boxed_log : goal.returns-in-Err-boxed_log
returns-in-Err-boxed_log g c = record { view = tt; back = (refl, c.in-Err-boxed_log.ensures.back, c.into_inner.ensures ∙ c.in-Ok-new.ensures.ok) }

pub returns-in-Err-new : goal.returns-in-Err-new
returns-in-Err-new g c =
    let home = sym (ap (λ l. l.home) (c.into_inner-in-Err-new.ensures ∙ c.in-Ok-boxed_log.ensures.side)) ∙ c.take_apart-journal.ensures.journal in
    let same : c.take_apart-journal.result.0 ≡ c.args.journal = cc in
    record { view = tt; back = (c.in-Err-new.ensures.value_returned, same, c.into_inner-in-Err-new-2.ensures ∙ c.in-Ok-new.ensures.ok) }
