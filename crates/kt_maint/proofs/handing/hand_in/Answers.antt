use Rattle.std.proofs.Common.{◌≡◌, ℕ, List, [], ◌∷◌, map, length, Option, None, refl, sym, ap, subst, ◌∙◌}
use Rattle.std.specs.Prelude.{replicate}
use Rattle.std.proofs.lemmas.List.{length-map}
use Rattle.kt_history.specs.declared.changes.KeyChange.{KeyChange}
use Rattle.kt_diskrowset.specs.declared.files.FileHeld.{FileHeld}
use Rattle.kt_diskrowset.specs.Rowset.{HeldFiles}
use Rattle.kt_engine.specs.declared.upkeep.Stage.TheVariants as stage
use Rattle.kt_maint.specs.Runs.{MayAbandon, IsQuiet}
use Rattle.kt_maint.proofs.HandedIn.{swapped, handed, come_has, come_then, come_quiet, come_quiet_then, come_abandon, stage_abandon}
use Rattle.kt_maint.proofs.Stages.{beside_same, beside_then, quiet_stage}
use Rattle.kt_maint.proofs.Visiting.{quiet_then}
use Rattle.kt_maint.proofs.handing.hand_in.Goals as goal

abbrev none : Option FileHeld
none = None

-- for each output a file, where each lacks nothing
none_each : (held : List HeldFiles) → replicate (length held) none ≡ map (λ (h : HeldFiles). none) held
none_each [] = refl
none_each (h ∷ held) = ap (λ (l : List (Option FileHeld)). none ∷ l) (none_each held)

files_none : (held : List HeldFiles) (lists : List (List KeyChange)) (count : ℕ) (files : List (Option FileHeld)) → files ≡ replicate count None → count ≡ length lists → lists ≡ map (λ (h : HeldFiles). []) held → files ≡ map (λ (h : HeldFiles). None) held
files_none held lists count files are long lack =
    are ∙ ap (λ (n : ℕ). replicate n none) (long ∙ ap length lack ∙ length-map held (λ (h : HeldFiles). [])) ∙ none_each held

pub returns-in_default-clause-memory : goal.returns-in_default-clause-memory
returns-in_default-clause-memory g c = λ err.
    subst (λ v. MayAbandon v c.args.by) (sym c.in_default.ensures.same) (stage_abandon c.args.by c.args.engine.now c.requires.read.0 c.requires.read.1 tt c.requires.free)

pub job_collect-requires-clause-free : goal.job_collect-requires-clause-free
job_collect-requires-clause-free g c =
    let by = c.args.by in
    let e0 = c.args.engine.now in
    let e1 = c.job_swap.new.self in
    let s1 = swapped by c.requires.read.0 c.args.outputs.rowsets e0 e1 (c.in-Ok.ensures.swapped c.requires.read.0 c.requires.read.1.has) in
    s1.later.begun.1 ∙ c.requires.free

pub job_collect-requires-clause-stage : goal.job_collect-requires-clause-stage
job_collect-requires-clause-stage g c =
    let by = c.args.by in
    let e0 = c.args.engine.now in
    let e1 = c.job_swap.new.self in
    let s1 = swapped by c.requires.read.0 c.args.outputs.rowsets e0 e1 (c.in-Ok.ensures.swapped c.requires.read.0 c.requires.read.1.has) in
    (s1.job, record { has = come_has by e0 e1 s1; at = s1.at })

pub job_collect-requires-clause-calm : goal.job_collect-requires-clause-calm
job_collect-requires-clause-calm g c =
    let by = c.args.by in
    let e0 = c.args.engine.now in
    let e1 = c.job_swap.new.self in
    let s1 = swapped by c.requires.read.0 c.args.outputs.rowsets e0 e1 (c.in-Ok.ensures.swapped c.requires.read.0 c.requires.read.1.has) in
    ap (λ v. v.tablet.core.aloft) s1.later.beside ∙ c.requires.calm.calm

pub returns-in_default-job_collect-clause-quiet : goal.returns-in_default-job_collect-clause-quiet
returns-in_default-job_collect-clause-quiet g c =
    let by = c.args.by in
    let e0 = c.args.engine.now in
    let e1 = c.job_swap.new.self in
    let s1 = swapped by c.requires.read.0 c.args.outputs.rowsets e0 e1 (c.in-Ok.ensures.swapped c.requires.read.0 c.requires.read.1.has) in
    subst (IsQuiet by e0) (sym c.in_default-job_collect.ensures.same) (come_quiet by e0 e1 s1 c.job_swap.ensures.visit)

pub returns-in_default-job_collect-clause-beside : goal.returns-in_default-job_collect-clause-beside
returns-in_default-job_collect-clause-beside g c =
    let by = c.args.by in
    let e0 = c.args.engine.now in
    let e1 = c.job_swap.new.self in
    let s1 = swapped by c.requires.read.0 c.args.outputs.rowsets e0 e1 (c.in-Ok.ensures.swapped c.requires.read.0 c.requires.read.1.has) in
    beside_same by e0 e1 c.job_collect.new.self s1.later.beside c.in_default-job_collect.ensures.same

pub returns-in_default-job_collect-clause-memory : goal.returns-in_default-job_collect-clause-memory
returns-in_default-job_collect-clause-memory g c = λ err.
    let by = c.args.by in
    let e0 = c.args.engine.now in
    let e1 = c.job_swap.new.self in
    let s1 = swapped by c.requires.read.0 c.args.outputs.rowsets e0 e1 (c.in-Ok.ensures.swapped c.requires.read.0 c.requires.read.1.has) in
    subst (λ v. MayAbandon v by) (sym c.in_default-job_collect.ensures.same) (come_abandon by e0 e1 s1 tt c.requires.free)

pub returns-in_err-files-clause-quiet : goal.returns-in_err-files-clause-quiet
returns-in_err-files-clause-quiet g c =
    let by = c.args.by in
    let e0 = c.args.engine.now in
    let e1 = c.job_swap.new.self in
    let s1 = swapped by c.requires.read.0 c.args.outputs.rowsets e0 e1 (c.in-Ok.ensures.swapped c.requires.read.0 c.requires.read.1.has) in
    let e2 = c.job_collect.new.self in
    let lacks = c.in-Ok-job_collect.ensures.none s1.job (come_has by e0 e1 s1) in
    let s2 = come_then by stage.Collected e0 e1 e2 s1 lacks.1 in
    come_quiet_then by stage.Collected e0 e1 e2 s1 lacks.1 c.job_swap.ensures.visit c.job_collect.ensures.visit

pub returns-in_err-files-clause-beside : goal.returns-in_err-files-clause-beside
returns-in_err-files-clause-beside g c =
    let by = c.args.by in
    let e0 = c.args.engine.now in
    let e1 = c.job_swap.new.self in
    let s1 = swapped by c.requires.read.0 c.args.outputs.rowsets e0 e1 (c.in-Ok.ensures.swapped c.requires.read.0 c.requires.read.1.has) in
    let e2 = c.job_collect.new.self in
    let lacks = c.in-Ok-job_collect.ensures.none s1.job (come_has by e0 e1 s1) in
    let s2 = come_then by stage.Collected e0 e1 e2 s1 lacks.1 in
    s2.later.beside

pub returns-in_err-files-clause-memory : goal.returns-in_err-files-clause-memory
returns-in_err-files-clause-memory g c = λ err.
    let by = c.args.by in
    let e0 = c.args.engine.now in
    let e1 = c.job_swap.new.self in
    let s1 = swapped by c.requires.read.0 c.args.outputs.rowsets e0 e1 (c.in-Ok.ensures.swapped c.requires.read.0 c.requires.read.1.has) in
    let e2 = c.job_collect.new.self in
    let lacks = c.in-Ok-job_collect.ensures.none s1.job (come_has by e0 e1 s1) in
    let s2 = come_then by stage.Collected e0 e1 e2 s1 lacks.1 in
    come_abandon by e0 e2 s2 tt c.requires.free

pub job_missed-requires-clause-free : goal.job_missed-requires-clause-free
job_missed-requires-clause-free g c =
    let by = c.args.by in
    let e0 = c.args.engine.now in
    let e1 = c.job_swap.new.self in
    let s1 = swapped by c.requires.read.0 c.args.outputs.rowsets e0 e1 (c.in-Ok.ensures.swapped c.requires.read.0 c.requires.read.1.has) in
    let e2 = c.job_collect.new.self in
    let lacks = c.in-Ok-job_collect.ensures.none s1.job (come_has by e0 e1 s1) in
    let s2 = come_then by stage.Collected e0 e1 e2 s1 lacks.1 in
    s2.later.begun.1 ∙ c.requires.free

pub job_missed-requires-clause-stage : goal.job_missed-requires-clause-stage
job_missed-requires-clause-stage g c =
    let by = c.args.by in
    let e0 = c.args.engine.now in
    let e1 = c.job_swap.new.self in
    let s1 = swapped by c.requires.read.0 c.args.outputs.rowsets e0 e1 (c.in-Ok.ensures.swapped c.requires.read.0 c.requires.read.1.has) in
    let e2 = c.job_collect.new.self in
    let lacks = c.in-Ok-job_collect.ensures.none s1.job (come_has by e0 e1 s1) in
    let s2 = come_then by stage.Collected e0 e1 e2 s1 lacks.1 in
    (s2.job, record { has = come_has by e0 e2 s2; at = s2.at }, files_none s1.job.held c.in-Ok-job_collect.missed.lists c.len.result c.in_ok-files.files c.in_ok-files.ensures c.len.ensures lacks.0)

pub returns-in_default-job_missed-clause-quiet : goal.returns-in_default-job_missed-clause-quiet
returns-in_default-job_missed-clause-quiet g c =
    let by = c.args.by in
    let e0 = c.args.engine.now in
    let e1 = c.job_swap.new.self in
    let s1 = swapped by c.requires.read.0 c.args.outputs.rowsets e0 e1 (c.in-Ok.ensures.swapped c.requires.read.0 c.requires.read.1.has) in
    let e2 = c.job_collect.new.self in
    let lacks = c.in-Ok-job_collect.ensures.none s1.job (come_has by e0 e1 s1) in
    let s2 = come_then by stage.Collected e0 e1 e2 s1 lacks.1 in
    subst (IsQuiet by e0) (sym c.in_default-job_missed.ensures.same) (come_quiet_then by stage.Collected e0 e1 e2 s1 lacks.1 c.job_swap.ensures.visit c.job_collect.ensures.visit)

pub returns-in_default-job_missed-clause-beside : goal.returns-in_default-job_missed-clause-beside
returns-in_default-job_missed-clause-beside g c =
    let by = c.args.by in
    let e0 = c.args.engine.now in
    let e1 = c.job_swap.new.self in
    let s1 = swapped by c.requires.read.0 c.args.outputs.rowsets e0 e1 (c.in-Ok.ensures.swapped c.requires.read.0 c.requires.read.1.has) in
    let e2 = c.job_collect.new.self in
    let lacks = c.in-Ok-job_collect.ensures.none s1.job (come_has by e0 e1 s1) in
    let s2 = come_then by stage.Collected e0 e1 e2 s1 lacks.1 in
    beside_same by e0 e2 c.job_missed.new.self s2.later.beside c.in_default-job_missed.ensures.same

pub returns-in_default-job_missed-clause-memory : goal.returns-in_default-job_missed-clause-memory
returns-in_default-job_missed-clause-memory g c = λ err.
    let by = c.args.by in
    let e0 = c.args.engine.now in
    let e1 = c.job_swap.new.self in
    let s1 = swapped by c.requires.read.0 c.args.outputs.rowsets e0 e1 (c.in-Ok.ensures.swapped c.requires.read.0 c.requires.read.1.has) in
    let e2 = c.job_collect.new.self in
    let lacks = c.in-Ok-job_collect.ensures.none s1.job (come_has by e0 e1 s1) in
    let s2 = come_then by stage.Collected e0 e1 e2 s1 lacks.1 in
    subst (λ v. MayAbandon v by) (sym c.in_default-job_missed.ensures.same) (come_abandon by e0 e2 s2 tt c.requires.free)

pub returns-clause-quiet : goal.returns-clause-quiet
returns-clause-quiet g c =
    let by = c.args.by in
    let e0 = c.args.engine.now in
    let e1 = c.job_swap.new.self in
    let s1 = swapped by c.requires.read.0 c.args.outputs.rowsets e0 e1 (c.in-Ok.ensures.swapped c.requires.read.0 c.requires.read.1.has) in
    let e2 = c.job_collect.new.self in
    let lacks = c.in-Ok-job_collect.ensures.none s1.job (come_has by e0 e1 s1) in
    let s2 = come_then by stage.Collected e0 e1 e2 s1 lacks.1 in
    let e3 = c.job_missed.new.self in
    let last = c.in-Ok-job_missed.ensures.written s2.job (come_has by e0 e2 s2) in
    quiet_then by e0 e2 e3 (come_quiet_then by stage.Collected e0 e1 e2 s1 lacks.1 c.job_swap.ensures.visit c.job_collect.ensures.visit) (quiet_stage by e2 e3 _ last c.job_missed.ensures.visit)

pub returns-clause-beside : goal.returns-clause-beside
returns-clause-beside g c =
    let by = c.args.by in
    let e0 = c.args.engine.now in
    let e1 = c.job_swap.new.self in
    let s1 = swapped by c.requires.read.0 c.args.outputs.rowsets e0 e1 (c.in-Ok.ensures.swapped c.requires.read.0 c.requires.read.1.has) in
    let e2 = c.job_collect.new.self in
    let lacks = c.in-Ok-job_collect.ensures.none s1.job (come_has by e0 e1 s1) in
    let s2 = come_then by stage.Collected e0 e1 e2 s1 lacks.1 in
    let e3 = c.job_missed.new.self in
    let last = c.in-Ok-job_missed.ensures.written s2.job (come_has by e0 e2 s2) in
    beside_then by e0 e2 e3 s2.later.beside last.beside

pub returns-clause-written : goal.returns-clause-written
returns-clause-written g c =
    λ job has. handed c.args.by job c.args.outputs.rowsets c.args.engine.now c.job_swap.new.self c.job_collect.new.self c.job_missed.new.self (λ j h. (c.in-Ok-job_collect.ensures.none j h).1) c.in-Ok-job_missed.ensures.written has (c.in-Ok.ensures.swapped job has)
