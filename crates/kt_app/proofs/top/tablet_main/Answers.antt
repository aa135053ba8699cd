use Rattle.std.proofs.Common.{◌≡◌, sym, subst, inl, inr, true, false, ℕ, Option, Some, None, Ok, Err, map}
use Rattle.std.specs.Prelude.{IfSome}
use Rattle.std.specs.Io.KnownBytes.{Appends}
use Rattle.kt_base.specs.Causes.{Grows}
use Rattle.kt_script.specs.Scripts.{Said, workload}
use Rattle.kt_reopen.specs.Both.{Answers}
use Rattle.kt_reopen.specs.Opened.{OneRose}
use Rattle.kt_app.specs.Images.{CrashLeaves, IsRead, Both}
use Rattle.kt_app.specs.Crash.{RunsPlan}
use Rattle.kt_app.proofs.Numbers.{still_near}
use Rattle.kt_app.proofs.Moments.{log_rests}
use Rattle.kt_app.proofs.Loads.{least_cells}
use Rattle.kt_app.proofs.SourceLaws.{said_is, runs_script, stops_script, either}
use Rattle.kt_app.proofs.top.tablet_main.Goals as goal

-- each write of a load has room
with_room : (load : Option ℕ) (P : ℕ → Type 0) (Q : Type 0) → Q → IfSome load P → IfSome load (λ n. P n × Q)
with_room None P Q q h = tt
with_room (Some n) P Q q h = (h, q)

pub open_and_run-requires-clause-load : goal.open_and_run-requires-clause-load
open_and_run-requires-clause-load g c = λ κs outlives. with_room c.in-Ok-take_script.field-0.load _ _ (least_cells (map (λ w. w.now) c.args.words.now) c.in-Ok.settings c.in-Ok.ensures.settings) c.in-Ok-take_script.ensures.loads

pub returns-in-Ok-take_script-clause-printed : goal.returns-in-Ok-take_script-clause-printed
returns-in-Ok-take_script-clause-printed g c = λ e.
    let s : Said = record { columns = c.in-Ok-take_script.field-0.schema; plan = c.in-Ok-take_script.field-0.plan } in
    let known = c.in-Ok-take_script.ensures.said in
    let loads = c.in-Ok-take_script.ensures.load in
    let load = c.in-Ok-take_script.field-0.load in
    let settings = c.in-Ok.settings in
    let form = c.in-Ok.ensures.settings in
    runs_script _ s load _ settings (λ text its said load. RunsPlan (Grows (g.C.Clock.readings c.args.clock) (g.C.Clock.readings c.open_and_run.result.clock)) said.columns (Both (IsRead g.L.Disk.tells g.L.Disk.seen c.args.log) (IsRead g.D.Disk.tells g.D.Disk.seen c.args.store)) (Both (CrashLeaves g.L.Disk.tells g.L.Disk.now g.L.Disk.leaves c.open_and_run.result.log) (CrashLeaves g.D.Disk.tells g.D.Disk.now g.D.Disk.leaves c.open_and_run.result.store)) (workload its.cells said) load false text) (λ text. Appends (g.K.Sink.written c.args.sink.now) (g.K.Sink.written c.open_and_run.new.sink) text) form known loads (c.open_and_run.ensures.printed e)

pub returns-in-Ok-take_script-clause-stopped : goal.returns-in-Ok-take_script-clause-stopped
returns-in-Ok-take_script-clause-stopped g c = λ e.
    let o = c.open_and_run.ensures.stopped e in
    let s : Said = record { columns = c.in-Ok-take_script.field-0.schema; plan = c.in-Ok-take_script.field-0.plan } in
    let known = c.in-Ok-take_script.ensures.said in
    let loads = c.in-Ok-take_script.ensures.load in
    let load = c.in-Ok-take_script.field-0.load in
    let settings = c.in-Ok.settings in
    let form = c.in-Ok.ensures.settings in (
      o.0,
      either (λ failed. inl (failed.0, failed.1, (s, known, failed.2)))
          (λ run. inr (runs_script _ s load _ settings (λ text its said load. RunsPlan (Grows (g.C.Clock.readings c.args.clock) (g.C.Clock.readings c.open_and_run.result.clock)) said.columns (Both (IsRead g.L.Disk.tells g.L.Disk.seen c.args.log) (IsRead g.D.Disk.tells g.D.Disk.seen c.args.store)) (Both (CrashLeaves g.L.Disk.tells g.L.Disk.now g.L.Disk.leaves c.open_and_run.result.log) (CrashLeaves g.D.Disk.tells g.D.Disk.now g.D.Disk.leaves c.open_and_run.result.store)) (workload its.cells said) load true text) (λ text. Appends (g.K.Sink.written c.args.sink.now) (g.K.Sink.written c.open_and_run.new.sink) text) form known loads run)) o.1,
    )

pub returns-in-Ok-take_script-clause-cut : goal.returns-in-Ok-take_script-clause-cut
returns-in-Ok-take_script-clause-cut g c = λ e.
    let o = c.open_and_run.ensures.cut e in
    let s : Said = record { columns = c.in-Ok-take_script.field-0.schema; plan = c.in-Ok-take_script.field-0.plan } in
    let known = c.in-Ok-take_script.ensures.said in
    let loads = c.in-Ok-take_script.ensures.load in
    let load = c.in-Ok-take_script.field-0.load in
    let settings = c.in-Ok.settings in
    let form = c.in-Ok.ensures.settings in (
      o.0,
      o.1,
      either (λ shut. inr (inl (s, settings, form, known, shut.0, shut.1, shut.2)))
          (λ run. inr (inr (stops_script _ s load _ settings (λ stopped its said load. RunsPlan (Grows (g.C.Clock.readings c.args.clock) (g.C.Clock.readings c.open_and_run.result.clock)) said.columns (Both (IsRead g.L.Disk.tells g.L.Disk.seen c.args.log) (IsRead g.D.Disk.tells g.D.Disk.seen c.args.store)) (Both (CrashLeaves g.L.Disk.tells g.L.Disk.now g.L.Disk.leaves c.open_and_run.result.log) (CrashLeaves g.D.Disk.tells g.D.Disk.now g.D.Disk.leaves c.open_and_run.result.store)) (workload its.cells said) load stopped o.0) (λ stopped. stopped ≡ true → OneRose (g.L.Disk.faults c.args.log) (g.L.Disk.faults c.open_and_run.result.log) (g.D.Disk.faults c.args.store) (g.D.Disk.faults c.open_and_run.result.store)) form known loads run))) o.2,
    )

pub returns-in-Ok-take_script-clause-crash : goal.returns-in-Ok-take_script-clause-crash
returns-in-Ok-take_script-clause-crash g c =
    let s : Said = record { columns = c.in-Ok-take_script.field-0.schema; plan = c.in-Ok-take_script.field-0.plan } in
    let known = c.in-Ok-take_script.ensures.said in
    let loads = c.in-Ok-take_script.ensures.load in
    let load = c.in-Ok-take_script.field-0.load in
    let settings = c.in-Ok.settings in
    let form = c.in-Ok.ensures.settings in
    inr (s, settings, known, form, c.open_and_run.ensures.crash)

pub returns-in-Ok-take_script-clause-refuses : goal.returns-in-Ok-take_script-clause-refuses
returns-in-Ok-take_script-clause-refuses g c = λ script settings said no form left is refusal told tells answer.
    let s : Said = record { columns = c.in-Ok-take_script.field-0.schema; plan = c.in-Ok-take_script.field-0.plan } in
    let same : s ≡ said = said_is _ s said script c.in-Ok-take_script.ensures.said left is in
    c.open_and_run.ensures.refuses no refusal told tells (subst (λ (x : Said). Answers x.columns (g.L.Disk.seen c.args.log) (g.D.Disk.seen c.args.store) (Err no)) (sym same) answer)

pub returns-in-Ok-take_script-clause-complete : goal.returns-in-Ok-take_script-clause-complete
returns-in-Ok-take_script-clause-complete g c = λ script settings said found form left is told tells answer sources sinks logs stores.
    let s : Said = record { columns = c.in-Ok-take_script.field-0.schema; plan = c.in-Ok-take_script.field-0.plan } in
    let same : s ≡ said = said_is _ s said script c.in-Ok-take_script.ensures.said left is in
    c.open_and_run.ensures.complete found told tells (subst (λ (x : Said). Answers x.columns (g.L.Disk.seen c.args.log) (g.D.Disk.seen c.args.store) (Ok found)) (sym same) answer) sinks logs stores

pub returns-in-Err-Form-clause-near : goal.returns-in-Err-Form-clause-near
returns-in-Err-Form-clause-near g c = let is = c.end_with.ensures in still_near g.L.Disk.tells g.L.Disk.now g.L.Disk.leaves g.D.Disk.tells g.D.Disk.now g.D.Disk.leaves c.args.log _ c.args.store _ is.1 is.2

pub returns-in-Err-Form-clause-openable : goal.returns-in-Err-Form-clause-openable
returns-in-Err-Form-clause-openable g c = let is = c.end_with.ensures in rw is.1 c.requires.openable

pub returns-in-Err-Form-clause-stand : goal.returns-in-Err-Form-clause-stand
returns-in-Err-Form-clause-stand g c = let is = c.end_with.ensures in rw is.2 c.requires.stand

pub returns-in-Err-Memory-clause-near : goal.returns-in-Err-Memory-clause-near
returns-in-Err-Memory-clause-near g c = let is = c.end_with-in-Err-Memory.ensures in still_near g.L.Disk.tells g.L.Disk.now g.L.Disk.leaves g.D.Disk.tells g.D.Disk.now g.D.Disk.leaves c.args.log _ c.args.store _ is.1 is.2

pub returns-in-Err-Memory-clause-openable : goal.returns-in-Err-Memory-clause-openable
returns-in-Err-Memory-clause-openable g c = let is = c.end_with-in-Err-Memory.ensures in rw is.1 c.requires.openable

pub returns-in-Err-Memory-clause-stand : goal.returns-in-Err-Memory-clause-stand
returns-in-Err-Memory-clause-stand g c = let is = c.end_with-in-Err-Memory.ensures in rw is.2 c.requires.stand

pub returns-in-Err-Line-clause-near : goal.returns-in-Err-Line-clause-near
returns-in-Err-Line-clause-near g c = let is = c.end_with-in-Err-Line.ensures in still_near g.L.Disk.tells g.L.Disk.now g.L.Disk.leaves g.D.Disk.tells g.D.Disk.now g.D.Disk.leaves c.args.log _ c.args.store _ is.1 is.2

pub returns-in-Err-Line-clause-openable : goal.returns-in-Err-Line-clause-openable
returns-in-Err-Line-clause-openable g c = let is = c.end_with-in-Err-Line.ensures in rw is.1 c.requires.openable

pub returns-in-Err-Line-clause-stand : goal.returns-in-Err-Line-clause-stand
returns-in-Err-Line-clause-stand g c = let is = c.end_with-in-Err-Line.ensures in rw is.2 c.requires.stand

pub returns-in-Err-Failed-clause-near : goal.returns-in-Err-Failed-clause-near
returns-in-Err-Failed-clause-near g c = let is = c.end_with-in-Err-Failed.ensures in still_near g.L.Disk.tells g.L.Disk.now g.L.Disk.leaves g.D.Disk.tells g.D.Disk.now g.D.Disk.leaves c.args.log _ c.args.store _ is.1 is.2

pub returns-in-Err-Failed-clause-openable : goal.returns-in-Err-Failed-clause-openable
returns-in-Err-Failed-clause-openable g c = let is = c.end_with-in-Err-Failed.ensures in rw is.1 c.requires.openable

pub returns-in-Err-Failed-clause-stand : goal.returns-in-Err-Failed-clause-stand
returns-in-Err-Failed-clause-stand g c = let is = c.end_with-in-Err-Failed.ensures in rw is.2 c.requires.stand

pub returns-in-Err-Memory-take_script-clause-near : goal.returns-in-Err-Memory-take_script-clause-near
returns-in-Err-Memory-take_script-clause-near g c = let is = c.end_with-in-Err-Memory-take_script.ensures in still_near g.L.Disk.tells g.L.Disk.now g.L.Disk.leaves g.D.Disk.tells g.D.Disk.now g.D.Disk.leaves c.args.log _ c.args.store _ is.1 is.2

pub returns-in-Err-Memory-take_script-clause-openable : goal.returns-in-Err-Memory-take_script-clause-openable
returns-in-Err-Memory-take_script-clause-openable g c = let is = c.end_with-in-Err-Memory-take_script.ensures in rw is.1 c.requires.openable

pub returns-in-Err-Memory-take_script-clause-stand : goal.returns-in-Err-Memory-take_script-clause-stand
returns-in-Err-Memory-take_script-clause-stand g c = let is = c.end_with-in-Err-Memory-take_script.ensures in rw is.2 c.requires.stand

pub returns-in-Err-Form-clause-log_moments : goal.returns-in-Err-Form-clause-log_moments
returns-in-Err-Form-clause-log_moments g c = λ told. let is = c.end_with.ensures in log_rests g.L.Disk.seen g.L.Disk.now g.L.Disk.leaves g.L.Disk.faults c.args.log _ is.1

pub returns-in-Err-Form-clause-store_moments : goal.returns-in-Err-Form-clause-store_moments
returns-in-Err-Form-clause-store_moments g c = λ told. let is = c.end_with.ensures in inl is.2

pub returns-in-Err-Memory-clause-log_moments : goal.returns-in-Err-Memory-clause-log_moments
returns-in-Err-Memory-clause-log_moments g c = λ told. let is = c.end_with-in-Err-Memory.ensures in log_rests g.L.Disk.seen g.L.Disk.now g.L.Disk.leaves g.L.Disk.faults c.args.log _ is.1

pub returns-in-Err-Memory-clause-store_moments : goal.returns-in-Err-Memory-clause-store_moments
returns-in-Err-Memory-clause-store_moments g c = λ told. let is = c.end_with-in-Err-Memory.ensures in inl is.2

pub returns-in-Err-Line-clause-log_moments : goal.returns-in-Err-Line-clause-log_moments
returns-in-Err-Line-clause-log_moments g c = λ told. let is = c.end_with-in-Err-Line.ensures in log_rests g.L.Disk.seen g.L.Disk.now g.L.Disk.leaves g.L.Disk.faults c.args.log _ is.1

pub returns-in-Err-Line-clause-store_moments : goal.returns-in-Err-Line-clause-store_moments
returns-in-Err-Line-clause-store_moments g c = λ told. let is = c.end_with-in-Err-Line.ensures in inl is.2

pub returns-in-Err-Failed-clause-log_moments : goal.returns-in-Err-Failed-clause-log_moments
returns-in-Err-Failed-clause-log_moments g c = λ told. let is = c.end_with-in-Err-Failed.ensures in log_rests g.L.Disk.seen g.L.Disk.now g.L.Disk.leaves g.L.Disk.faults c.args.log _ is.1

pub returns-in-Err-Failed-clause-store_moments : goal.returns-in-Err-Failed-clause-store_moments
returns-in-Err-Failed-clause-store_moments g c = λ told. let is = c.end_with-in-Err-Failed.ensures in inl is.2

pub returns-in-Err-Memory-take_script-clause-log_moments : goal.returns-in-Err-Memory-take_script-clause-log_moments
returns-in-Err-Memory-take_script-clause-log_moments g c = λ told. let is = c.end_with-in-Err-Memory-take_script.ensures in log_rests g.L.Disk.seen g.L.Disk.now g.L.Disk.leaves g.L.Disk.faults c.args.log _ is.1

pub returns-in-Err-Memory-take_script-clause-store_moments : goal.returns-in-Err-Memory-take_script-clause-store_moments
returns-in-Err-Memory-take_script-clause-store_moments g c = λ told. let is = c.end_with-in-Err-Memory-take_script.ensures in inl is.2

pub returns-in-Ok-take_script-clause-store_moments : goal.returns-in-Ok-take_script-clause-store_moments
returns-in-Ok-take_script-clause-store_moments g c = λ told.
    let s : Said = record { columns = c.in-Ok-take_script.field-0.schema; plan = c.in-Ok-take_script.field-0.plan } in
    inr (s, c.in-Ok-take_script.ensures.said, c.open_and_run.ensures.store_moments told)
