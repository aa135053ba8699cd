use Rattle.std.proofs.Common.{◌≡◌, ◌≤◌, ℕ, List, length, Ok, refl, sym, ap, ◌∙◌, subst, arith, Some}
use Rattle.kt_history.specs.declared.target.Target.{Target}
use Rattle.kt_history.specs.Rows.{Row}
use Rattle.kt_records.specs.declared.entry.Entry.{Entry}
use Rattle.kt_journal.specs.Log.{records_of, CanOpen}
use Rattle.kt_schema.specs.Columns.{fill_of}
use Rattle.kt_content.specs.Places.{Super}
use Rattle.kt_content.specs.Content.{IsContent as HoldsPast}
use Rattle.kt_engine.specs.Engines.{KeepsOthers}
use Rattle.std.specs.List.{All}
use Rattle.kt_pool.specs.Contents.{free}
use Rattle.kt_engine.specs.Logged.{TakesUp, NamesOnly}
use Rattle.kt_engine.specs.Memory.{AreNamed}
use Rattle.kt_engine.proofs.Others.{opened_others}
use Rattle.kt_engine.proofs.JobBegins.{first_is}
use Rattle.kt_storeside.specs.Sides.{Beginning, most_from}
use Rattle.kt_disk.specs.Disk.{LeavesOnly}
use Rattle.kt_reopen.specs.Holding.{KeepsContent, IsOfStore}
use Rattle.kt_reopen.specs.Numbers.{next_rowset}
use Rattle.kt_reopen.specs.Opened.{first_meta, AreReadOf, IsRefusal}
use Rattle.kt_storeside.specs.Supers.{NamedStand}
use Rattle.kt_boot.proofs.OneAnswer.{answers_once}
use Rattle.kt_reopen.proofs.Held.{content_found}
use Rattle.kt_reopen.proofs.Taking.{some_is}
use Rattle.kt_super.specs.Body.{IsMeta}
use Rattle.kt_boot.proofs.Room.{begins_with_room}
use Rattle.kt_boot.proofs.Vacant.{not_kept}
use Rattle.kt_boot.proofs.Taken.{commits_are, untold_are, named_are, names_only, deltas_named, numbers_are, shelved_are, last_ends, takes_up, opens_it}
use Rattle.kt_boot.proofs.tablet.open_tablet.Goals as goal

-- what both devices made has a superblock and parts that are those of what was found

pub of-side-requires-clause-rowsets : goal.of-side-requires-clause-rowsets
of-side-requires-clause-rowsets g c = (let at = c.in-Ok.ensures.found.2.next_is in omega arith)

pub of-side-requires-clause-publishes : goal.of-side-requires-clause-publishes
of-side-requires-clause-publishes g c = λ told.
    let new = c.open_devices.new.store in
    let meta = c.in-Ok.ensures.meta told in
    record {
      superblock = meta;
      slots = c.in-Ok.ensures.stable told;
      files = c.open_devices.ensures.stand told (c.requires.stand told) (g.D.Disk.seen new) (g.met.D.Disk.reads_as_image new told) c.in-Ok.opened.meta meta;
    }

pub of-side-requires-clause-vacant : goal.of-side-requires-clause-vacant
of-side-requires-clause-vacant g c = λ told n behind. c.in-Ok.ensures.removed told n (not_kept c.in-Ok.opened.meta n c.in-Ok.ensures.rules behind)

pub of-requires-2-clause-mark : goal.of-requires-2-clause-mark
of-requires-2-clause-mark g c =
    let at : c.in-Ok-of.tablet.mark ≡ c.in-Ok.opened.meta.a = c.in-Ok-of.ensures.found.0 in
    (ap (λ s. s.meta.a) c.of-side.ensures ∙ sym at, c.in-Ok-of.ensures.times.0 ∙ sym at)

pub of-requires-2-clause-clock : goal.of-requires-2-clause-clock
of-requires-2-clause-clock g c =
    let since = c.in-Ok.ensures.found.2.since in
    let at = c.in-Ok-of.ensures.times.1 in
    let is = ap (λ s. s.meta.c) c.of-side.ensures in
    omega arith

pub of-requires-2-clause-superblock : goal.of-requires-2-clause-superblock
of-requires-2-clause-superblock g c = λ told. rw (c.of-side.ensures) (c.in-Ok.ensures.holds told)

-- the stores have the files that were read
pub of-requires-2-clause-filed : goal.of-requires-2-clause-filed
of-requires-2-clause-filed g c =
    let f = c.in-Ok.ensures.files in
    (f.0, rw (c.of-side.ensures) f.1, subst (AreReadOf f.0) (sym c.in-Ok-of.ensures.files) f.2, rw (c.of-side.ensures) f.3)

pub of-requires-2-clause-store_faults : goal.of-requires-2-clause-store_faults
of-requires-2-clause-store_faults g c = rw (c.of-side.ensures, c.of-store_device.ensures) (c.open_devices.ensures.store_faults)

pub of-requires-2-clause-named : goal.of-requires-2-clause-named
of-requires-2-clause-named g c =
    let p = c.in-Ok.opened in
    let found = c.in-Ok.ensures.found in
    subst (λ (s : Super). AreNamed s c.in-Ok-of.tablet.names) (sym found.1)
    (subst (AreNamed found.0.super) (sym c.in-Ok-of.ensures.names) (named_are c.args.schema.now found.0 p.meta p.records p.queued p.stores p.last p.next_rowset found.2))

pub of-requires-2-clause-log : goal.of-requires-2-clause-log
of-requires-2-clause-log g c = c.in-Ok.ensures.found.2.log

pub of-requires-2-clause-commits : goal.of-requires-2-clause-commits
of-requires-2-clause-commits g c =
    let p = c.in-Ok.opened in
    let found = c.in-Ok.ensures.found in
    commits_are c.args.schema.now found.0 p.meta p.records p.queued p.stores p.last p.next_rowset found.2

pub of-requires-2-clause-taken_up : goal.of-requires-2-clause-taken_up
of-requires-2-clause-taken_up g c = λ rules first closed opens holds.
    let p = c.in-Ok.opened in
    let found = c.in-Ok.ensures.found in
    let f = found.0 in
    let tablet = c.in-Ok-of.tablet in
    let work : tablet.core.work.fill ≡ fill_of c.args.schema.now = ap (λ w. w.fill) c.in-Ok-of.ensures.work in
    let is : HoldsPast rules (fill_of c.args.schema.now) f.super f.records tablet.core.opened first =
    subst (λ (s : Super). HoldsPast rules (fill_of c.args.schema.now) s f.records tablet.core.opened first) found.1
    (subst (λ (l : List Entry). HoldsPast rules (fill_of c.args.schema.now) p.superblock l tablet.core.opened first) found.2.records_are
    (subst (λ (w : Row). HoldsPast rules w p.superblock p.records tablet.core.opened first) work holds)) in
    let up = takes_up c.args.schema.now f p.meta p.records p.queued p.stores p.last p.next_rowset found.2 rules tablet.core.opened first is closed tablet.names tablet.core.stores tablet.core.opened c.in-Ok-of.ensures.names
    (c.in-Ok-of.ensures.stores ∙ c.in-Ok-of.ensures.found.2) in
    subst (λ (w : Row). TakesUp rules w p.superblock tablet.names tablet.core.stores p.records p.queued tablet.core.opened first) (sym work)
    (subst (λ (s : Super). TakesUp rules (fill_of c.args.schema.now) s tablet.names tablet.core.stores p.records p.queued tablet.core.opened first) (sym found.1)
    (subst (λ (l : List Entry). TakesUp rules (fill_of c.args.schema.now) f.super tablet.names tablet.core.stores l p.queued tablet.core.opened first) (sym found.2.records_are) up))

pub of-requires-2-clause-deltas : goal.of-requires-2-clause-deltas
of-requires-2-clause-deltas g c =
    let p = c.in-Ok.opened in
    let found = c.in-Ok.ensures.found in
    deltas_named c.args.schema.now found.0 p.meta p.records p.queued p.stores p.last p.next_rowset found.2 c.in-Ok-of.tablet.names c.in-Ok-of.ensures.names

pub of-requires-2-clause-numbers : goal.of-requires-2-clause-numbers
of-requires-2-clause-numbers g c =
    let p = c.in-Ok.opened in
    let found = c.in-Ok.ensures.found in
    numbers_are c.args.schema.now found.0 p.meta p.records p.queued p.stores p.last p.next_rowset found.2 c.in-Ok.ensures.rules _ c.in-Ok-of.tablet.names _ found.1 c.in-Ok-of.ensures.names (ap (λ s. s.next_rowset) c.of-side.ensures)

pub of-requires-2-clause-shelved : goal.of-requires-2-clause-shelved
of-requires-2-clause-shelved g c =
    let p = c.in-Ok.opened in
    let found = c.in-Ok.ensures.found in
    shelved_are c.args.schema.now found.0 p.meta p.records p.queued p.stores p.last p.next_rowset found.2 c.in-Ok-of.tablet.names c.in-Ok-of.tablet.frozen c.in-Ok-of.ensures.names c.in-Ok-of.ensures.frozen

pub of-requires-2-clause-untold : goal.of-requires-2-clause-untold
of-requires-2-clause-untold g c =
    let p = c.in-Ok.opened in
    let found = c.in-Ok.ensures.found in
    untold_are c.args.schema.now found.0 p.meta p.records p.queued p.stores p.last p.next_rowset found.2 c.in-Ok-of.tablet.core.aloft

pub of-requires-2-clause-last : goal.of-requires-2-clause-last
of-requires-2-clause-last g c =
    let p = c.in-Ok.opened in
    let found = c.in-Ok.ensures.found in
    let behind = last_ends c.args.schema.now found.0 p.meta p.records p.queued p.stores p.last p.next_rowset found.2 in
    let at = c.in-Ok-of.ensures.times.1 in
    omega arith

-- its superblocks may spell the names of the stores that come
pub of-requires-2-clause-room : goal.of-requires-2-clause-room
of-requires-2-clause-room g c =
    let p = c.in-Ok.opened in
    let mem = first_is c.in-Ok-of.tablet.names c.active_number-mem.result c.active_number-mem.ensures in
    rw (c.of-side.ensures) (begins_with_room p.meta c.active_number-mem.result p.next_rowset c.in-Ok-of.tablet.names mem)

pub of-requires-2-clause-names : goal.of-requires-2-clause-names
of-requires-2-clause-names g c =
    let p = c.in-Ok.opened in
    let found = c.in-Ok.ensures.found in
    subst (λ (ns : List Target). All (NamesOnly ns) p.queued) (sym c.in-Ok-of.ensures.names) (names_only c.args.schema.now found.0 p.meta p.records p.queued p.stores p.last p.next_rowset found.2)

pub of-requires-2-clause-durable : goal.of-requires-2-clause-durable
of-requires-2-clause-durable g c = λ told image left. c.in-Ok.ensures.durable told image left ∙ ap Ok (sym (c.in-Ok.ensures.reads told))

pub of-requires-2-clause-others : goal.of-requires-2-clause-others
of-requires-2-clause-others g c = λ told.
    subst (λ d. KeepsOthers g.L.Disk.now g.L.Disk.leaves d c.in-Ok.opened.journal.disk) (sym c.of-device.ensures) (opened_others g.L.Disk.now g.L.Disk.leaves c.args.log c.in-Ok.opened.journal.disk (c.in-Ok.ensures.log_moment told))

pub returns-in-Ok-of-2-clause-found : goal.returns-in-Ok-of-2-clause-found
returns-in-Ok-of-2-clause-found g c =
    let view = c.in-Ok-of-2.ensures.view in
    let tablet = ap (λ e. e.tablet) view in
    let p = c.in-Ok.opened in
    let found = c.in-Ok.ensures.found in
    let o = found.2 in (
      found.0,
      record {
        super = ap (λ e. e.super) view ∙ found.1;
        records = ap (λ e. e.records) view ∙ o.records_are;
        last = ap (λ t. t.core.opened) tablet ∙ c.in-Ok-of.ensures.found.1 ∙ o.last_is;
        places = o.places;
        holds = o.holds ∙ sym (ap (λ t. t.opening) tablet ∙ c.in-Ok-of.ensures.found.2);
        names = ap (λ t. t.names) tablet ∙ c.in-Ok-of.ensures.names ∙ o.names;
        owes = ap (λ e. e.log.queued) view ∙ o.owes;
        size = ap (λ t. length t.pool.places) tablet ∙ ap (λ q. length q.places) c.in-Ok-of.ensures.pool ∙ found.3.size;
        unpromised = ap (λ t. t.pool.reserved) tablet ∙ ap (λ q. q.reserved) c.in-Ok-of.ensures.pool ∙ found.3.unpromised;
        enough = subst (λ q. c.args.room ≤ free q) (sym (ap (λ t. t.pool) tablet ∙ c.in-Ok-of.ensures.pool)) found.3.enough;
      },
      λ told told'. (found.4 told told').0,
    )

pub returns-in-Ok-of-2-clause-holds : goal.returns-in-Ok-of-2-clause-holds
returns-in-Ok-of-2-clause-holds g c = λ rules past closed holds.
    let view = c.in-Ok-of-2.ensures.view in
    let engine = c.in-Ok-of-2.engine in
    let tablet = ap (λ e. e.tablet) view in
    let p = c.in-Ok.opened in
    let found = c.in-Ok.ensures.found in
    let f = found.0 in
    let fill = fill_of c.args.schema.now in
    let is : HoldsPast rules fill f.super f.records engine.tablet.core.opened past =
    subst (λ (s : Super). HoldsPast rules fill s f.records engine.tablet.core.opened past) (ap (λ e. e.super) view ∙ found.1)
    (subst (λ (l : List Entry). HoldsPast rules fill engine.super l engine.tablet.core.opened past) (ap (λ e. e.records) view ∙ found.2.records_are) holds) in
    record {
      closed = closed;
      opens = opens_it c.args.schema.now f p.meta p.records p.queued p.stores p.last p.next_rowset found.2 rules engine.tablet.core.opened past is engine.tablet.opening engine.tablet.mark engine.tablet.core.opened
          (ap (λ t. t.opening) tablet ∙ c.in-Ok-of.ensures.found.2) (ap (λ t. t.mark) tablet ∙ c.in-Ok-of.ensures.found.0) (ap (λ t. t.core.opened) tablet ∙ c.in-Ok-of.ensures.found.1) refl;
      holds = subst (λ (w : Row). HoldsPast rules w engine.super engine.records engine.tablet.core.opened past) (sym (ap (λ t. t.core.work.fill) tablet ∙ ap (λ w. w.fill) c.in-Ok-of.ensures.work)) holds;
    }

pub returns-in-Ok-of-2-clause-names : goal.returns-in-Ok-of-2-clause-names
returns-in-Ok-of-2-clause-names g c =
    let view = c.in-Ok-of-2.ensures.view in
    ap (λ e. e.found) view ∙ sym (ap (λ e. e.tablet.names) view)

pub returns-in-Ok-of-2-clause-first_rowset : goal.returns-in-Ok-of-2-clause-first_rowset
returns-in-Ok-of-2-clause-first_rowset g c =
    let view = c.in-Ok-of-2.ensures.view in
    ap (λ e. e.first_rowset) view ∙ sym (ap (λ e. e.store.next_rowset) view)

pub returns-in-Ok-of-2-clause-times : goal.returns-in-Ok-of-2-clause-times
returns-in-Ok-of-2-clause-times g c =
    let view = c.in-Ok-of-2.ensures.view in
    let tablet = ap (λ e. e.tablet) view in
    let found = c.in-Ok.ensures.found in
    let mark = found.2.super.a ∙ sym (ap (λ (s : Super). s.a) (ap (λ e. e.super) view ∙ found.1)) in (
      ap (λ t. t.core.a) tablet ∙ c.in-Ok-of.ensures.times.0 ∙ mark,
      ap (λ t. t.mark) tablet ∙ c.in-Ok-of.ensures.found.0 ∙ mark,
      ap (λ t. t.core.c) tablet ∙ c.in-Ok-of.ensures.times.1 ∙ sym (ap (λ t. t.core.opened) tablet ∙ c.in-Ok-of.ensures.found.1),
    )

pub returns-in-Err-of-clause-openable : goal.returns-in-Err-of-clause-openable
returns-in-Err-of-clause-openable g c = λ told. subst (CanOpen g.L.Disk.now g.L.Disk.leaves) (sym c.given_up.ensures.log) (c.in-Ok.ensures.openable told)

pub returns-clause-openable : goal.returns-clause-openable
returns-clause-openable g c = λ told.
    subst (CanOpen g.L.Disk.now g.L.Disk.leaves) (sym (c.given_up-in-Err-of-2.ensures.log ∙ ap (λ j. j.disk) c.in-Err-of-2.ensures.back.1)) (c.in-Ok.ensures.openable told)

-- a past that both devices hold is one of what was found
pub returns-in-Ok-of-2-clause-content : goal.returns-in-Ok-of-2-clause-content
returns-in-Ok-of-2-clause-content g c = λ told told' rules past_last past holds.
    let view = c.in-Ok-of-2.ensures.view in
    let engine = c.in-Ok-of-2.engine in
    let tablet = ap (λ e. e.tablet) view in
    let p = c.in-Ok.opened in
    let found = c.in-Ok.ensures.found in
    let f = found.0 in
    let fill = fill_of c.args.schema.now in
    let answers = found.4 told told' in
    let last : past_last ≡ engine.tablet.core.opened = (answers.1 rules past_last past holds).last ∙ sym (ap (λ t. t.core.opened) tablet ∙ c.in-Ok-of.ensures.found.1 ∙ found.2.last_is) in
    let is : HoldsPast rules fill f.super f.records engine.tablet.core.opened past = subst (λ (n : ℕ). HoldsPast rules fill f.super f.records n past) last (content_found rules c.args.schema.now _ _ past_last past f holds answers.0) in
    let super : engine.super ≡ f.super = ap (λ e. e.super) view ∙ found.1 in
    let records : engine.records ≡ f.records = ap (λ e. e.records) view ∙ found.2.records_are in (
      last,
      ap (λ e. e.store.meta.schema) view ∙ ap (λ s. s.meta.schema) c.of-side.ensures ∙ c.in-Ok.ensures.table told told' rules past_last past holds,
      λ closed. record {
        closed = closed;
        opens = opens_it c.args.schema.now f p.meta p.records p.queued p.stores p.last p.next_rowset found.2 rules engine.tablet.core.opened past is engine.tablet.opening engine.tablet.mark engine.tablet.core.opened
            (ap (λ t. t.opening) tablet ∙ c.in-Ok-of.ensures.found.2) (ap (λ t. t.mark) tablet ∙ c.in-Ok-of.ensures.found.0) (ap (λ t. t.core.opened) tablet ∙ c.in-Ok-of.ensures.found.1) refl;
        holds =
            subst (λ (w : Row). HoldsPast rules w engine.super engine.records engine.tablet.core.opened past) (sym (ap (λ t. t.core.work.fill) tablet ∙ ap (λ w. w.fill) c.in-Ok-of.ensures.work))
            (subst (λ (s : Super). HoldsPast rules fill s engine.records engine.tablet.core.opened past) (sym super) (subst (λ (l : List Entry). HoldsPast rules fill f.super l engine.tablet.core.opened past) (sym records) is));
      },
    )

pub returns-in-Ok-of-2-clause-low : goal.returns-in-Ok-of-2-clause-low
returns-in-Ok-of-2-clause-low g c =
    let opened = ap (λ e. e.tablet.core.opened) c.in-Ok-of-2.ensures.view ∙ c.in-Ok-of.ensures.found.1 in
    let low = c.in-Ok.ensures.low in
    omega arith

-- the store is as opening left it
pub returns-in-Ok-of-2-clause-rules : goal.returns-in-Ok-of-2-clause-rules
returns-in-Ok-of-2-clause-rules g c = subst IsMeta (sym (ap (λ e. e.store.meta) c.in-Ok-of-2.ensures.view ∙ ap (λ s. s.meta) c.of-side.ensures)) c.in-Ok.ensures.rules

pub returns-in-Ok-of-2-clause-meta : goal.returns-in-Ok-of-2-clause-meta
returns-in-Ok-of-2-clause-meta g c = λ told.
    let store : c.in-Ok-of-2.engine.store ≡ c.of-side.result = ap (λ e. e.store) c.in-Ok-of-2.ensures.view in
    rw (store, c.of-side.ensures) (c.in-Ok.ensures.meta told)

pub returns-in-Ok-of-2-clause-hold : goal.returns-in-Ok-of-2-clause-hold
returns-in-Ok-of-2-clause-hold g c = λ told.
    let store : c.in-Ok-of-2.engine.store ≡ c.of-side.result = ap (λ e. e.store) c.in-Ok-of-2.ensures.view in
    let super : c.in-Ok-of-2.engine.super ≡ c.in-Ok.opened.superblock = ap (λ e. e.super) c.in-Ok-of-2.ensures.view in
    rw (super, store, c.of-side.ensures) (c.in-Ok.ensures.holds told)

pub returns-in-Ok-of-2-clause-removed : goal.returns-in-Ok-of-2-clause-removed
returns-in-Ok-of-2-clause-removed g c = λ told.
    let store : c.in-Ok-of-2.engine.store ≡ c.of-side.result = ap (λ e. e.store) c.in-Ok-of-2.ensures.view in
    rw (store, c.of-side.ensures) (c.in-Ok.ensures.removed told)

pub returns-in-Ok-of-2-clause-next : goal.returns-in-Ok-of-2-clause-next
returns-in-Ok-of-2-clause-next g c =
    let p = c.in-Ok.opened in
    let opened = c.in-Ok.ensures.found.2 in
    let store : c.in-Ok-of-2.engine.store ≡ c.of-side.result = ap (λ e. e.store) c.in-Ok-of-2.ensures.view in
    let records : c.in-Ok-of-2.engine.records ≡ p.records = ap (λ e. e.records) c.in-Ok-of-2.ensures.view in
    let given : p.next_rowset ≡ next_rowset p.meta.next_rowset p.records = opened.next_is ∙ ap (next_rowset p.meta.next_rowset) (sym opened.records_are) in
    rw (store, records, c.of-side.ensures) (given, refl)

-- where there was no memory both devices are as opening left them
pub returns-in-Err-of-clause-any_moment : goal.returns-in-Err-of-clause-any_moment
returns-in-Err-of-clause-any_moment g c = λ told told'.
    let closed = c.given_up in
    subst (λ d. KeepsContent g.L.Disk.now g.L.Disk.leaves g.D.Disk.now g.D.Disk.leaves c.args.schema.now c.args.log c.args.store d closed.result.store) (sym closed.ensures.log)
    (subst (λ s. KeepsContent g.L.Disk.now g.L.Disk.leaves g.D.Disk.now g.D.Disk.leaves c.args.schema.now c.args.log c.args.store c.in-Ok.opened.journal.disk s) (sym closed.ensures.back.0) (c.in-Ok.ensures.keeps told told'))

-- as they are taken into the engine
pub returns-in-Ok-of-2-clause-any_moment_ok : goal.returns-in-Ok-of-2-clause-any_moment_ok
returns-in-Ok-of-2-clause-any_moment_ok g c = λ told told'.
    let view = c.in-Ok-of-2.ensures.view in
    let log : c.in-Ok-of-2.engine.log.known.disk ≡ c.in-Ok.opened.journal.disk = ap (λ e. e.log.known.disk) view in
    let store : c.in-Ok-of-2.engine.store.known ≡ c.open_devices.new.store = ap (λ e. e.store.known) view ∙ ap (λ s. s.known) c.of-side.ensures in
    subst (λ d. KeepsContent g.L.Disk.now g.L.Disk.leaves g.D.Disk.now g.D.Disk.leaves c.args.schema.now c.args.log c.args.store d c.in-Ok-of-2.engine.store.known) (sym log)
    (subst (λ s. KeepsContent g.L.Disk.now g.L.Disk.leaves g.D.Disk.now g.D.Disk.leaves c.args.schema.now c.args.log c.args.store c.in-Ok.opened.journal.disk s) (sym store) (c.in-Ok.ensures.keeps told told'))

pub returns-clause-any_moment : goal.returns-clause-any_moment
returns-clause-any_moment g c = λ told told'.
    let closed = c.given_up-in-Err-of-2 in
    let back = c.in-Err-of-2.ensures.back in
    let home : Some c.open_devices.new.store ≡ Some c.take_apart-store.result.0 = sym (ap (λ s. s.home) (c.in-Err-of-2.ensures.back.2 ∙ c.of-side.ensures)) ∙ c.take_apart-store.ensures.device in
    let store : c.take_apart-store.result.0 ≡ c.open_devices.new.store = sym (some_is _ _ home) in
    subst (λ d. KeepsContent g.L.Disk.now g.L.Disk.leaves g.D.Disk.now g.D.Disk.leaves c.args.schema.now c.args.log c.args.store d closed.result.store) (sym (closed.ensures.log ∙ ap (λ j. j.disk) back.1))
    (subst (λ s. KeepsContent g.L.Disk.now g.L.Disk.leaves g.D.Disk.now g.D.Disk.leaves c.args.schema.now c.args.log c.args.store c.in-Ok.opened.journal.disk s) (sym (closed.ensures.back.0 ∙ store)) (c.in-Ok.ensures.keeps told told'))

pub returns-in-Err-of-clause-store_moment_err : goal.returns-in-Err-of-clause-store_moment_err
returns-in-Err-of-clause-store_moment_err g c = λ told.
    subst (LeavesOnly g.D.Disk.now g.D.Disk.leaves (IsOfStore g.D.Disk.now g.D.Disk.leaves (first_meta c.args.schema.now) c.args.store) c.args.store) (sym c.given_up.ensures.back.0) (c.open_devices.ensures.store_moment told)

pub returns-clause-store_moment_err : goal.returns-clause-store_moment_err
returns-clause-store_moment_err g c = λ told.
    let home : Some c.open_devices.new.store ≡ Some c.take_apart-store.result.0 = sym (ap (λ s. s.home) (c.in-Err-of-2.ensures.back.2 ∙ c.of-side.ensures)) ∙ c.take_apart-store.ensures.device in
    let store : c.take_apart-store.result.0 ≡ c.open_devices.new.store = sym (some_is _ _ home) in
    subst (LeavesOnly g.D.Disk.now g.D.Disk.leaves (IsOfStore g.D.Disk.now g.D.Disk.leaves (first_meta c.args.schema.now) c.args.store) c.args.store) (sym (c.given_up-in-Err-of-2.ensures.back.0 ∙ store))
    (c.open_devices.ensures.store_moment told)

pub returns-in-Err-of-clause-refused : goal.returns-in-Err-of-clause-refused
returns-in-Err-of-clause-refused g c = λ refusal. absurd (subst IsRefusal c.given_up.ensures.why refusal)

pub returns-clause-refused : goal.returns-clause-refused
returns-clause-refused g c = λ refusal. absurd (subst IsRefusal c.given_up-in-Err-of-2.ensures.why refusal)

-- what is found is not refused, and what is refused is not found: a disk as it reads is one of its images, and these are bytes
pub returns-in-Ok-of-2-clause-only : goal.returns-in-Ok-of-2-clause-only
returns-in-Ok-of-2-clause-only g c = λ told told' no answer.
    let store = c.args.store in
    let found = c.in-Ok.ensures.found in
    answers_once c.args.schema.now _ _ (g.met.D.Disk.images_hold_bytes store (g.D.Disk.now store) (g.D.Disk.seen store) told' (g.met.D.Disk.reads_as_image store told')) found.0 no (found.4 told told').0 answer

pub returns-in-Err-clause-only_err : goal.returns-in-Err-clause-only_err
returns-in-Err-clause-only_err g c = λ refusal told told' f answer.
    let store = c.args.store in
    answers_once c.args.schema.now _ _ (g.met.D.Disk.images_hold_bytes store (g.D.Disk.now store) (g.D.Disk.seen store) told' (g.met.D.Disk.reads_as_image store told')) f c.in-Err.why answer (c.in-Err.ensures.refused refusal told told')

pub returns-in-Err-of-clause-only_err : goal.returns-in-Err-of-clause-only_err
returns-in-Err-of-clause-only_err g c = λ refusal. absurd (subst IsRefusal c.given_up.ensures.why refusal)

pub returns-clause-only_err : goal.returns-clause-only_err
returns-clause-only_err g c = λ refusal. absurd (subst IsRefusal c.given_up-in-Err-of-2.ensures.why refusal)

-- nothing is pending of what the superblock of an image names
pub returns-in-Err-of-clause-stand : goal.returns-in-Err-of-clause-stand
returns-in-Err-of-clause-stand g c = λ told. subst (NamedStand g.D.Disk.seen g.D.Disk.now g.D.Disk.leaves) (sym c.given_up.ensures.back.0) (c.open_devices.ensures.stand told (c.requires.stand told))

pub returns-in-Err-clause-stand : goal.returns-in-Err-clause-stand
returns-in-Err-clause-stand g c = λ told. c.open_devices.ensures.stand told (c.requires.stand told)

pub returns-clause-stand : goal.returns-clause-stand
returns-clause-stand g c = λ told.
    let home : Some c.open_devices.new.store ≡ Some c.take_apart-store.result.0 = sym (ap (λ s. s.home) (c.in-Err-of-2.ensures.back.2 ∙ c.of-side.ensures)) ∙ c.take_apart-store.ensures.device in
    let store : c.take_apart-store.result.0 ≡ c.open_devices.new.store = sym (some_is _ _ home) in
    subst (NamedStand g.D.Disk.seen g.D.Disk.now g.D.Disk.leaves) (sym (c.given_up-in-Err-of-2.ensures.back.0 ∙ store)) (c.open_devices.ensures.stand told (c.requires.stand told))

pub returns-in-Ok-of-2-clause-stable : goal.returns-in-Ok-of-2-clause-stable
returns-in-Ok-of-2-clause-stable g c = λ told.
    let store : c.in-Ok-of-2.engine.store ≡ c.of-side.result = ap (λ e. e.store) c.in-Ok-of-2.ensures.view in
    rw (store, c.of-side.ensures) (c.in-Ok.ensures.stable told)

-- where the engine was not made, the log's device comes back as the log was opened
pub returns-clause-log_others_err : goal.returns-clause-log_others_err
returns-clause-log_others_err g c = λ told n other.
    subst (λ d. g.L.Disk.seen d n ≡ g.L.Disk.seen c.args.log n) (sym (c.given_up-in-Err-of-2.ensures.log ∙ ap (λ j. j.disk) c.in-Err-of-2.ensures.back.1)) (c.in-Ok.ensures.log_others told n other)

pub returns-in-Ok-of-2-clause-first_file : goal.returns-in-Ok-of-2-clause-first_file
returns-in-Ok-of-2-clause-first_file g c =
    let view = c.in-Ok-of-2.ensures.view in
    ap (λ e. e.first_file) view ∙ sym (ap (λ e. e.store.next_file) view)

pub returns-in-Ok-of-2-clause-first_store : goal.returns-in-Ok-of-2-clause-first_store
returns-in-Ok-of-2-clause-first_store g c =
    let store : c.in-Ok-of-2.engine.store ≡ c.of-side.result = ap (λ e. e.store) c.in-Ok-of-2.ensures.view in
    let names : c.in-Ok-of-2.engine.tablet.names ≡ c.in-Ok-of.tablet.names = ap (λ e. e.tablet.names) c.in-Ok-of-2.ensures.view in
    let mem = first_is c.in-Ok-of.tablet.names c.active_number-mem.result c.active_number-mem.ensures in
    rw (store, names, c.of-side.ensures) (ap (λ (n : ℕ). let b : Beginning _ = record { device = c.open_devices.new.store; most = most_from c.in-Ok.opened.meta n c.in-Ok.opened.next_rowset } in b) mem)

pub returns-in-Ok-of-2-clause-first_log : goal.returns-in-Ok-of-2-clause-first_log
returns-in-Ok-of-2-clause-first_log g c =
    let view = c.in-Ok-of-2.ensures.view in
    ap (λ e. e.log.first) view ∙ sym (ap (λ e. e.log.known.disk) view)

pub returns-in-Ok-of-2-clause-first_records : goal.returns-in-Ok-of-2-clause-first_records
returns-in-Ok-of-2-clause-first_records g c = λ told.
    let view = c.in-Ok-of-2.ensures.view in
    ap (λ e. records_of (g.L.Disk.seen e.log.first)) view ∙ (c.in-Ok.ensures.reads told ∙ sym (ap (λ e. e.records) view))
