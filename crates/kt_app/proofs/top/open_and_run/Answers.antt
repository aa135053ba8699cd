use Rattle.std.proofs.Common.{◌≤◌, ℕ, [], arith, ap, sym, refl, subst, inl, inr, true, false, ◌∙◌}
use Rattle.std.specs.Prelude.{IsTrue, IfSome}
use Rattle.kt_script.specs.Loads.{IsLoad}
use Rattle.kt_disk.specs.Disk.{Files}
use Rattle.kt_history.specs.Machine.{Workload}
use Rattle.kt_storeside.specs.Sides.{Beginning}
use Rattle.kt_engine.specs.Engines.{KeepsOthers}
use Rattle.kt_engine.specs.Near.{first_number}
use Rattle.kt_app.specs.Images.{CrashLeaves, Both, KeepsFiles, IsSlotNumber, NumbersAreNear, SpellNear}
use Rattle.kt_app.specs.Refusals.{refusal_text}
use Rattle.kt_app.proofs.Numbers.{keeps_files, frames_files, frames_near, still_near, next_low, slots_up, next_spelled, near_at, store_at}
use Rattle.kt_app.proofs.Moments.{log_rests, store_rests, log_shut, store_shut, log_went, store_went}
use Rattle.kt_app.proofs.SourceLaws.{either}
use Rattle.kt_app.proofs.RunLaws.{is_on, was_refused, as_before, let_be, runs_over, kept_over, rose_as, neither_rose}
use Rattle.kt_app.proofs.top.open_and_run.Goals as goal

pub open_tablet-requires-clause-table : goal.open_tablet-requires-clause-table
open_tablet-requires-clause-table g c = c.requires.counted.table

pub run_and_write-status-requires-clause-work : goal.run_and_write-status-requires-clause-work
run_and_write-status-requires-clause-work g c = λ κs outlives. is_on c.args.schema.now _ [] c.args.cells c.in-Ok-open_tablet.ensures.work

pub run_and_write-status-requires-clause-load : goal.run_and_write-status-requires-clause-load
run_and_write-status-requires-clause-load g c = λ κs outlives. subst (λ (n : ℕ). IfSome c.args.load (λ k. IsLoad c.args.schema.now c.args.plan.now k × (1024 ≤ n))) (sym (ap (λ (w : Workload). w.cells) c.in-Ok-open_tablet.ensures.work)) c.requires.load

pub returns-in-Err-clause-openable : goal.returns-in-Err-clause-openable
returns-in-Err-clause-openable g c = let is = c.end_with-in-Err.ensures in rw is.1 c.in-Err.ensures.openable

pub returns-in-Err-clause-stand : goal.returns-in-Err-clause-stand
returns-in-Err-clause-stand g c = let is = c.end_with-in-Err.ensures in rw is.2 c.in-Err.ensures.stand

pub returns-in-Ok-open_tablet-clause-openable : goal.returns-in-Ok-open_tablet-clause-openable
returns-in-Ok-open_tablet-clause-openable g c = let is = c.end_with-in-Ok-open_tablet.ensures in rw is.1 c.run_and_write-status.ensures.openable

pub returns-in-Ok-open_tablet-clause-stand : goal.returns-in-Ok-open_tablet-clause-stand
returns-in-Ok-open_tablet-clause-stand g c = let is = c.end_with-in-Ok-open_tablet.ensures in rw is.2 c.run_and_write-status.ensures.stand

pub returns-in-Ok-open_tablet-clause-printed : goal.returns-in-Ok-open_tablet-clause-printed
returns-in-Ok-open_tablet-clause-printed g c = λ e.
    let is = c.end_with-in-Ok-open_tablet.ensures in
    let opened = c.in-Ok-open_tablet.ensures in
    let engine = c.in-Ok-open_tablet.engine in
    let parts = c.run_and_write-status.result.1 in
    let run = c.run_and_write-status.ensures.printed (sym is.0 ∙ e) in (
      run.0,
      runs_over g.C.Clock.readings g.L.Disk.tells g.L.Disk.seen c.args.log g.D.Disk.tells g.D.Disk.seen c.args.store engine c.args.schema.now c.requires.counted c.args.plan.now c.requires.fits parts.trail opened.content
          engine.tablet.clock c.args.clock parts.clock _ parts.log _ parts.store _ (λ l s. Both (CrashLeaves g.L.Disk.tells g.L.Disk.now g.L.Disk.leaves l) (CrashLeaves g.D.Disk.tells g.D.Disk.now g.D.Disk.leaves s)) c.args.cells opened.clock.0 (sym is.3) is.1 is.2 (ap (λ (w : Workload). w.cells) opened.work) c.args.load false _ run.0 run.2,
      run.1,
    )

pub returns-in-Ok-open_tablet-clause-stopped : goal.returns-in-Ok-open_tablet-clause-stopped
returns-in-Ok-open_tablet-clause-stopped g c = λ e.
    let is = c.end_with-in-Ok-open_tablet.ensures in
    let opened = c.in-Ok-open_tablet.ensures in
    let engine = c.in-Ok-open_tablet.engine in
    let parts = c.run_and_write-status.result.1 in
    let four = sym is.0 ∙ e in
    let run = c.run_and_write-status.ensures.stopped four in (
      rose_as g.L.Disk.faults g.D.Disk.faults opened.devices.1 opened.devices.2 is.1 is.2 (c.run_and_write-status.ensures.fault four),
      inr (
        run.0,
        runs_over g.C.Clock.readings g.L.Disk.tells g.L.Disk.seen c.args.log g.D.Disk.tells g.D.Disk.seen c.args.store engine c.args.schema.now c.requires.counted c.args.plan.now c.requires.fits parts.trail opened.content
            engine.tablet.clock c.args.clock parts.clock _ parts.log _ parts.store _ (λ l s. Both (CrashLeaves g.L.Disk.tells g.L.Disk.now g.L.Disk.leaves l) (CrashLeaves g.D.Disk.tells g.D.Disk.now g.D.Disk.leaves s)) c.args.cells opened.clock.0 (sym is.3) is.1 is.2 (ap (λ (w : Workload). w.cells) opened.work) c.args.load true _ run.0 run.2,
        run.1,
      ),
    )

pub returns-in-Ok-open_tablet-clause-crash : goal.returns-in-Ok-open_tablet-clause-crash
returns-in-Ok-open_tablet-clause-crash g c =
    let is = c.end_with-in-Ok-open_tablet.ensures in
    let opened = c.in-Ok-open_tablet.ensures in
    let engine = c.in-Ok-open_tablet.engine in
    let parts = c.run_and_write-status.result.1 in
    inr (
      parts.trail,
      kept_over g.C.Clock.readings g.L.Disk.tells g.L.Disk.seen c.args.log g.D.Disk.tells g.D.Disk.seen c.args.store engine c.args.schema.now c.requires.counted c.args.plan.now c.requires.fits parts.trail opened.content
          engine.tablet.clock c.args.clock parts.clock _ parts.log _ parts.store _ (λ l s. Both (CrashLeaves g.L.Disk.tells g.L.Disk.now g.L.Disk.leaves l) (CrashLeaves g.D.Disk.tells g.D.Disk.now g.D.Disk.leaves s)) c.args.cells opened.clock.0 (sym is.3) is.1 is.2 (ap (λ (w : Workload). w.cells) opened.work) c.run_and_write-status.ensures.kept,
    )

pub returns-in-Ok-open_tablet-clause-cut : goal.returns-in-Ok-open_tablet-clause-cut
returns-in-Ok-open_tablet-clause-cut g c = λ e.
    let is = c.end_with-in-Ok-open_tablet.ensures in
    let opened = c.in-Ok-open_tablet.ensures in
    let engine = c.in-Ok-open_tablet.engine in
    let parts = c.run_and_write-status.result.1 in
    let run = c.run_and_write-status.ensures.cut (sym is.0 ∙ e) in (
      run.0,
      run.2,
      inr (
        run.1,
        runs_over g.C.Clock.readings g.L.Disk.tells g.L.Disk.seen c.args.log g.D.Disk.tells g.D.Disk.seen c.args.store engine c.args.schema.now c.requires.counted c.args.plan.now c.requires.fits parts.trail opened.content
            engine.tablet.clock c.args.clock parts.clock _ parts.log _ parts.store _ (λ l s. Both (CrashLeaves g.L.Disk.tells g.L.Disk.now g.L.Disk.leaves l) (CrashLeaves g.D.Disk.tells g.D.Disk.now g.D.Disk.leaves s)) c.args.cells opened.clock.0 (sym is.3) is.1 is.2 (ap (λ (w : Workload). w.cells) opened.work) c.args.load run.1 _ run.0 run.3,
        (λ stopped. rose_as g.L.Disk.faults g.D.Disk.faults opened.devices.1 opened.devices.2 is.1 is.2 (run.4 stopped)),
      ),
    )

-- what was opened is not refused
pub returns-in-Ok-open_tablet-clause-refuses : goal.returns-in-Ok-open_tablet-clause-refuses
returns-in-Ok-open_tablet-clause-refuses g c = λ no refusal told tells answer. absurd (c.in-Ok-open_tablet.ensures.only told tells no answer)

-- and is run to its end, unless a count rises
pub returns-in-Ok-open_tablet-clause-complete : goal.returns-in-Ok-open_tablet-clause-complete
returns-in-Ok-open_tablet-clause-complete g c = λ found told tells answer sinks logs stores.
    let is = c.end_with-in-Ok-open_tablet.ensures in
    let opened = c.in-Ok-open_tablet.ensures in
    let engine = c.in-Ok-open_tablet.engine in
    let parts = c.run_and_write-status.result.1 in
    let run = c.run_and_write-status.ensures in
    elim run.statuses [
      | inl zero ↦ inl (is.0 ∙ zero)
      | inr (inl four) ↦ absurd (neither_rose _ _ _ _ logs stores (rose_as g.L.Disk.faults g.D.Disk.faults opened.devices.1 opened.devices.2 is.1 is.2 (run.fault four)))
      | inr (inr (inl six)) ↦ absurd (sinks (run.sink_fault six))
      | inr (inr (inr seven)) ↦ inr (is.0 ∙ seven)
    ]

pub returns-in-Ok-open_tablet-clause-others : goal.returns-in-Ok-open_tablet-clause-others
returns-in-Ok-open_tablet-clause-others g c =
    let is = c.end_with-in-Ok-open_tablet.ensures in
    let opened = c.in-Ok-open_tablet.ensures in
    let engine = c.in-Ok-open_tablet.engine in
    let parts = c.run_and_write-status.result.1 in
    subst (λ x. KeepsFiles (CrashLeaves g.L.Disk.tells g.L.Disk.now g.L.Disk.leaves c.args.log) (CrashLeaves g.L.Disk.tells g.L.Disk.now g.L.Disk.leaves x)) (sym is.1)
    (keeps_files g.L.Disk.tells g.L.Disk.now g.L.Disk.leaves c.args.log _ (subst (λ d. IsTrue g.L.Disk.tells → KeepsOthers g.L.Disk.now g.L.Disk.leaves d parts.log) opened.devices.1 c.run_and_write-status.ensures.others))

pub returns-in-Ok-open_tablet-clause-near : goal.returns-in-Ok-open_tablet-clause-near
returns-in-Ok-open_tablet-clause-near g c =
    let is = c.end_with-in-Ok-open_tablet.ensures in
    let opened = c.in-Ok-open_tablet.ensures in
    let engine = c.in-Ok-open_tablet.engine in
    let parts = c.run_and_write-status.result.1 in
    let run = c.run_and_write-status.ensures in
    let logs = CrashLeaves g.L.Disk.tells g.L.Disk.now g.L.Disk.leaves c.args.log in
    let stores = CrashLeaves g.D.Disk.tells g.D.Disk.now g.D.Disk.leaves c.args.store in
    let files = keeps_files g.L.Disk.tells g.L.Disk.now g.L.Disk.leaves c.args.log _ (subst (λ d. IsTrue g.L.Disk.tells → KeepsOthers g.L.Disk.now g.L.Disk.leaves d parts.log) opened.devices.1 run.others) in
    let near : NumbersAreNear (Both logs stores) (Both (CrashLeaves g.L.Disk.tells g.L.Disk.now g.L.Disk.leaves parts.log) (CrashLeaves g.D.Disk.tells g.D.Disk.now g.D.Disk.leaves parts.store)) = λ bound three up image after n numbered.
    let known = g.D.Disk.seen engine.store.known in
    let slots = λ (files : Files) (was : g.D.Disk.leaves c.args.store (g.D.Disk.now c.args.store) files) (k : ℕ) (is : IsSlotNumber files k). up (record { log = g.L.Disk.seen c.args.log; store = files }) ((after.0.0, (g.met.L.Disk g.world.𝓛 g.world.𝓜 g.world.𝓡 ((λ s x. x), (λ x. x), (λ x. x), λ x. x)).reads_as_image c.args.log after.0.0), (after.1.0, was)) k (inr is) in
    let from = (let moment = opened.store_moment after.1.0 in moment.each (g.D.Disk.now engine.store.known) known moment.later (omega arith) ((g.met.D.Disk g.world.𝓛 g.world.𝓜 g.world.𝓡 ((λ s x. x), (λ x. x), (λ x. x), λ x. x)).reads_as_image engine.store.known after.1.0)) in
    let low : engine.store.meta.next_rowset ≤ bound = next_low g.D.Disk.now g.D.Disk.leaves c.args.schema.now c.args.store known engine.store.meta bound (omega (arith, three)) from (opened.meta after.1.0) slots in
    let given : (k : ℕ) → IsSlotNumber known k → k ≤ bound = slots_up c.args.schema.now from.image known bound three from.slots (slots from.image from.was_left) in
    let file : engine.first_file ≤ bound = (let le = given engine.store.meta.next_file (next_spelled known engine.store.meta (opened.meta after.1.0)) in let e = opened.first_file ∙ opened.next.1 in omega (arith, le, e)) in
    elim numbered [
      | inl named ↦
          near_at logs stores (CrashLeaves g.L.Disk.tells g.L.Disk.now g.L.Disk.leaves parts.log) (CrashLeaves g.D.Disk.tells g.D.Disk.now g.D.Disk.leaves parts.store) c.args.schema.now engine.found engine.first_rowset engine.store.meta.next_rowset (g.L.Disk.seen c.args.log) (g.D.Disk.seen c.args.store)
          (after.0.0, (g.met.L.Disk g.world.𝓛 g.world.𝓜 g.world.𝓡 ((λ s x. x), (λ x. x), (λ x. x), λ x. x)).reads_as_image c.args.log after.0.0) (after.1.0, (g.met.D.Disk g.world.𝓛 g.world.𝓜 g.world.𝓡 ((λ s x. x), (λ x. x), (λ x. x), λ x. x)).reads_as_image c.args.store after.1.0)
          opened.found.0 (opened.found.2 after.0.0 after.1.0) engine.records (opened.records after.0.0) (sym opened.found.1.records) (opened.names ∙ opened.found.1.names) files image after.0 (run.named image.log after.0) (opened.first_rowset ∙ opened.next.0) bound three up low n named
      | inr numbers ↦
          store_at logs stores (CrashLeaves g.L.Disk.tells g.L.Disk.now g.L.Disk.leaves parts.log) (CrashLeaves g.D.Disk.tells g.D.Disk.now g.D.Disk.leaves parts.store) c.args.schema.now engine.found engine.first_rowset engine.store.meta.next_rowset (g.L.Disk.seen c.args.log) (g.D.Disk.seen c.args.store)
          (after.0.0, (g.met.L.Disk g.world.𝓛 g.world.𝓜 g.world.𝓡 ((λ s x. x), (λ x. x), (λ x. x), λ x. x)).reads_as_image c.args.log after.0.0) (after.1.0, (g.met.D.Disk g.world.𝓛 g.world.𝓜 g.world.𝓡 ((λ s x. x), (λ x. x), (λ x. x), λ x. x)).reads_as_image c.args.store after.1.0)
          opened.found.0 (opened.found.2 after.0.0 after.1.0) engine.records (opened.records after.0.0) (sym opened.found.1.records) (opened.names ∙ opened.found.1.names) known image.store engine.first_file engine.store.meta (opened.meta after.1.0) (first_number engine.tablet.names) engine.store.next_rowset
          (sym (ap first_number opened.names)) (sym opened.first_rowset) (subst (λ (b : Beginning _). SpellNear engine.first_rowset engine.first_file b.most (g.D.Disk.seen b.device) image.store) opened.first_store (run.spelled image.store after.1)) (opened.first_rowset ∙ opened.next.0) bound up low file given n numbers
    ] in
    subst (λ l. NumbersAreNear (Both logs stores) (Both (CrashLeaves g.L.Disk.tells g.L.Disk.now g.L.Disk.leaves l) (CrashLeaves g.D.Disk.tells g.D.Disk.now g.D.Disk.leaves c.end_with-in-Ok-open_tablet.result.store))) (sym is.1)
    (subst (λ s. NumbersAreNear (Both logs stores) (Both (CrashLeaves g.L.Disk.tells g.L.Disk.now g.L.Disk.leaves parts.log) (CrashLeaves g.D.Disk.tells g.D.Disk.now g.D.Disk.leaves s))) (sym is.2) near)

pub returns-in-Err-clause-near : goal.returns-in-Err-clause-near
returns-in-Err-clause-near g c =
    let is = c.end_with-in-Err.ensures in
    let closed = c.in-Err.closed in
    let kept = as_before g.L.Disk.tells g.L.Disk.now g.L.Disk.leaves g.D.Disk.tells g.D.Disk.now g.D.Disk.leaves c.args.schema.now c.args.log c.args.store closed.log _ closed.store _ c.in-Err.ensures.log_moment_err c.in-Err.ensures.store_moment_err c.in-Err.ensures.any_moment is.1 is.2 in
    frames_near c.args.schema.now _ _ _ _ kept.frames (λ files left.
    let here = subst (λ s. CrashLeaves g.D.Disk.tells g.D.Disk.now g.D.Disk.leaves s files) is.2 left in
    let moment = c.in-Err.ensures.store_moment_err here.0 in
    let was = moment.each (g.D.Disk.now closed.store) files moment.later (omega arith) here.1 in
    (was.image, (here.0, was.was_left), was.slots))

pub returns-in_default-clause-near : goal.returns-in_default-clause-near
returns-in_default-clause-near g c = let is = c.end_with.ensures in still_near g.L.Disk.tells g.L.Disk.now g.L.Disk.leaves g.D.Disk.tells g.D.Disk.now g.D.Disk.leaves c.args.log _ c.args.store _ is.1 is.2

pub returns-in-Err-clause-refused : goal.returns-in-Err-clause-refused
returns-in-Err-clause-refused g c = λ e.
    let is = c.end_with-in-Err.ensures in
    let closed = c.in-Err.closed in
    let r = c.refuse.ensures.refused (sym is.0 ∙ e) in
    (closed.why, r.0, was_refused g.L.Disk.tells g.L.Disk.seen c.args.log g.D.Disk.tells g.D.Disk.seen c.args.store c.args.schema.now closed.why (c.in-Err.ensures.refused r.0), r.1)

pub returns-in-Err-clause-stopped : goal.returns-in-Err-clause-stopped
returns-in-Err-clause-stopped g c = λ e.
    let is = c.end_with-in-Err.ensures in
    let closed = c.in-Err.closed in
    let r = c.refuse.ensures.fault (sym is.0 ∙ e) in (
      rose_as g.L.Disk.faults g.D.Disk.faults refl refl is.1 is.2 (c.in-Err.ensures.fault r.0),
      inl (r.1, is.3 ∙ c.in-Err.ensures.back, as_before g.L.Disk.tells g.L.Disk.now g.L.Disk.leaves g.D.Disk.tells g.D.Disk.now g.D.Disk.leaves c.args.schema.now c.args.log c.args.store closed.log _ closed.store _ c.in-Err.ensures.log_moment_err c.in-Err.ensures.store_moment_err c.in-Err.ensures.any_moment is.1 is.2),
    )

pub returns-in-Err-clause-untouched : goal.returns-in-Err-clause-untouched
returns-in-Err-clause-untouched g c = λ e.
    let is = c.end_with-in-Err.ensures in
    let closed = c.in-Err.closed in
    (is.3 ∙ c.in-Err.ensures.back, as_before g.L.Disk.tells g.L.Disk.now g.L.Disk.leaves g.D.Disk.tells g.D.Disk.now g.D.Disk.leaves c.args.schema.now c.args.log c.args.store closed.log _ closed.store _ c.in-Err.ensures.log_moment_err c.in-Err.ensures.store_moment_err c.in-Err.ensures.any_moment is.1 is.2)

pub returns-in-Err-clause-cut : goal.returns-in-Err-clause-cut
returns-in-Err-clause-cut g c = λ e.
    let is = c.end_with-in-Err.ensures in
    let closed = c.in-Err.closed in
    let r = c.refuse.ensures.cut (sym is.0 ∙ e) in
    let alone = as_before g.L.Disk.tells g.L.Disk.now g.L.Disk.leaves g.D.Disk.tells g.D.Disk.now g.D.Disk.leaves c.args.schema.now c.args.log c.args.store closed.log _ closed.store _ c.in-Err.ensures.log_moment_err c.in-Err.ensures.store_moment_err c.in-Err.ensures.any_moment is.1 is.2 in
    let clock = is.3 ∙ c.in-Err.ensures.back in (
      refusal_text closed.why,
      r.1,
      either
          (λ refusal. inl (inl (closed.why, refusal, was_refused g.L.Disk.tells g.L.Disk.seen c.args.log g.D.Disk.tells g.D.Disk.seen c.args.store c.args.schema.now closed.why (c.in-Err.ensures.refused refusal), refl), clock, alone))
          (λ failed. inl (inr (ap refusal_text failed, rose_as g.L.Disk.faults g.D.Disk.faults refl refl is.1 is.2 (c.in-Err.ensures.fault failed)), clock, alone)) r.2,
    )

-- what is found is refused for no reason
pub returns-in-Err-clause-complete : goal.returns-in-Err-clause-complete
returns-in-Err-clause-complete g c = λ found told tells answer sinks logs stores.
    let is = c.end_with-in-Err.ensures in
    let closed = c.in-Err.closed in
    let r = c.refuse.ensures in
    elim r.statuses [
      | inl three ↦ let refusal = (r.refused three).0 in absurd (c.in-Err.ensures.only_err refusal told tells found answer)
      | inr (inl four) ↦ absurd (neither_rose _ _ _ _ logs stores (rose_as g.L.Disk.faults g.D.Disk.faults refl refl is.1 is.2 (c.in-Err.ensures.fault (r.fault four).0)))
      | inr (inr (inl six)) ↦ absurd (sinks (r.cut six).0)
      | inr (inr (inr seven)) ↦ inr (is.0 ∙ seven)
    ]

pub returns-in-Err-clause-crash : goal.returns-in-Err-clause-crash
returns-in-Err-clause-crash g c =
    let is = c.end_with-in-Err.ensures in
    let closed = c.in-Err.closed in
    inl (as_before g.L.Disk.tells g.L.Disk.now g.L.Disk.leaves g.D.Disk.tells g.D.Disk.now g.D.Disk.leaves c.args.schema.now c.args.log c.args.store closed.log _ closed.store _ c.in-Err.ensures.log_moment_err c.in-Err.ensures.store_moment_err c.in-Err.ensures.any_moment is.1 is.2)

pub returns-in-Err-clause-others : goal.returns-in-Err-clause-others
returns-in-Err-clause-others g c =
    let is = c.end_with-in-Err.ensures in
    let closed = c.in-Err.closed in
    frames_files _ _ (as_before g.L.Disk.tells g.L.Disk.now g.L.Disk.leaves g.D.Disk.tells g.D.Disk.now g.D.Disk.leaves c.args.schema.now c.args.log c.args.store closed.log _ closed.store _ c.in-Err.ensures.log_moment_err c.in-Err.ensures.store_moment_err c.in-Err.ensures.any_moment is.1 is.2).frames

pub returns-in_default-clause-crash : goal.returns-in_default-clause-crash
returns-in_default-clause-crash g c = let is = c.end_with.ensures in inl (let_be g.L.Disk.tells g.L.Disk.now g.L.Disk.leaves g.D.Disk.tells g.D.Disk.now g.D.Disk.leaves c.args.schema.now c.args.log c.args.store _ _ is.1 is.2)

pub returns-in_default-clause-openable : goal.returns-in_default-clause-openable
returns-in_default-clause-openable g c = let is = c.end_with.ensures in rw is.1 c.requires.openable

pub returns-in_default-clause-stand : goal.returns-in_default-clause-stand
returns-in_default-clause-stand g c = let is = c.end_with.ensures in rw is.2 c.requires.stand

-- at each moment of the call
pub returns-in_default-clause-log_moments : goal.returns-in_default-clause-log_moments
returns-in_default-clause-log_moments g c = λ told. let is = c.end_with.ensures in log_rests g.L.Disk.seen g.L.Disk.now g.L.Disk.leaves g.L.Disk.faults c.args.log _ is.1

pub returns-in_default-clause-store_moments : goal.returns-in_default-clause-store_moments
returns-in_default-clause-store_moments g c = λ told. let is = c.end_with.ensures in store_rests g.D.Disk.seen g.D.Disk.now g.D.Disk.leaves c.args.schema.now c.args.store _ is.2

pub returns-in-Err-clause-log_moments : goal.returns-in-Err-clause-log_moments
returns-in-Err-clause-log_moments g c = λ told. let is = c.end_with-in-Err.ensures in log_shut g.L.Disk.seen g.L.Disk.now g.L.Disk.leaves g.L.Disk.faults c.args.log c.in-Err.closed.log _ is.1 (c.in-Err.ensures.log_moment_err told)

pub returns-in-Err-clause-store_moments : goal.returns-in-Err-clause-store_moments
returns-in-Err-clause-store_moments g c = λ told. let is = c.end_with-in-Err.ensures in store_shut g.D.Disk.seen g.D.Disk.now g.D.Disk.leaves c.args.schema.now c.args.store c.in-Err.closed.store _ is.2 (c.in-Err.ensures.store_moment_err told)

pub returns-in-Ok-open_tablet-clause-log_moments : goal.returns-in-Ok-open_tablet-clause-log_moments
returns-in-Ok-open_tablet-clause-log_moments g c = λ told.
    let is = c.end_with-in-Ok-open_tablet.ensures in
    let opened = c.in-Ok-open_tablet.ensures in
    let engine = c.in-Ok-open_tablet.engine in
    log_went g.L.Disk.seen g.L.Disk.now g.L.Disk.leaves g.L.Disk.faults c.args.log engine.device engine.log.first engine.log.known.disk c.run_and_write-status.result.1.log _ engine.records is.1 opened.devices.1 opened.first_log (opened.records told) (opened.first_records told) (opened.log_moment told)
    (c.run_and_write-status.ensures.log_moments told)

pub returns-in-Ok-open_tablet-clause-store_moments : goal.returns-in-Ok-open_tablet-clause-store_moments
returns-in-Ok-open_tablet-clause-store_moments g c = λ told.
    let is = c.end_with-in-Ok-open_tablet.ensures in
    let opened = c.in-Ok-open_tablet.ensures in
    let engine = c.in-Ok-open_tablet.engine in
    store_went g.D.Disk.seen g.D.Disk.now g.D.Disk.leaves c.args.schema.now c.args.store engine.store.first.device engine.store.known c.run_and_write-status.result.1.store _ is.2 (ap (λ (b : Beginning _). b.device) opened.first_store) (opened.store_moment told)
    (c.run_and_write-status.ensures.store_moments told)
