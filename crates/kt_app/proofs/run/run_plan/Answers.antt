use Rattle.std.proofs.Common.{◌≡◌, ◌∙◌, sym, ap, subst, length, Option, Result, Ok, Err}
use Rattle.std.specs.Prelude.{IfOk, IfSome, IsTrue}
use Rattle.std.specs.Result.{result_ok}
use Rattle.std.proofs.lemmas.Result.{IfOk-weaker}
use Rattle.kt_super.specs.declared.meta.Meta.{Meta}
use Rattle.kt_engine.specs.Visits.{root_of}
use Rattle.kt_engine.specs.Pairs.{AreHome}
use Rattle.kt_app.proofs.Runnable.{plan_keeps}
use Rattle.kt_app.proofs.RunLaws.{ran_as, ran_with}
use Rattle.kt_app.proofs.Moments.{log_grew, store_published}
use Rattle.kt_app.proofs.Runs.{kept_of, ran_of, keeps_others, opens_again, names_more, spells_more, no_fault_less, some_failed, store_no_less}
use Rattle.kt_app.proofs.run.run_plan.Goals as goal

-- what is said of a value that is there
some_of : {A E : Type 0} (r : Result A E) (o : Option A) (P : A → Type 0) → o ≡ result_ok r → IfOk r P → IfSome o P
some_of (Ok x) o P e h = subst (λ q. IfSome q P) (sym e) h
some_of (Err x) o P e h = subst (λ q. IfSome q P) (sym e) tt

of_two : {A E : Type 0} (r : Result A E) (P Q S : A → Type 0) → ((x : A) → P x → Q x → S x) → IfOk r P → IfOk r Q → IfOk r S
of_two (Ok x) P Q S f p q = f x p q
of_two (Err x) P Q S f p q = tt

left_is : {A E : Type 0} (r : Result A E) (x : A) (P : A → Type 0) → r ≡ Ok x → IfOk r P → P x
left_is r x P e h = subst (λ q. IfOk q P) e h

pub set_plan-requires-clause-keeps : goal.set_plan-requires-clause-keeps
set_plan-requires-clause-keeps g c = plan_keeps c.args.schema.now c.requires.counted (record c.args.engine.tablet.core.work { plan = c.args.plan.now }) c.requires.fits

-- both devices are at home as they are handed back
pub returns-in-Ok-clause-run : goal.returns-in-Ok-clause-run
returns-in-Ok-clause-run g c =
    let L = g.L.Disk in
    let D = g.D.Disk in
    let view = c.play-played.result.1 in
    let parts = c.take_apart-parts.result in
    let journal = c.take_apart-parts.ensures.log in
    let home : AreHome view parts.log parts.store = record { journal = journal.0; log_home = journal.1; log_is = journal.2; store_home = c.take_apart-parts.ensures.store } in
    let root = c.play-played.ensures.root ∙ ap root_of c.set_plan.ensures in
    let sliced = ap length c.as_slice.ensures in
    some_of c.printed-output.result c.ok.result _ c.ok.ensures.value
    (of_two c.printed-output.result _ _ _
    (λ out stopped text first opens.
    ran_as (sym stopped)
    (ran_with sliced
    (ran_of g.C.Clock.readings L.tells L.now L.leaves D.tells D.seen D.now D.leaves c.args.engine view c.args.schema.now c.args.plan.now c.requires.fresh c.requires.work root c.standing.ensures.sound parts.log parts.store home
    parts.clock c.take_apart-parts.ensures.clock parts.trail c.take_apart-parts.ensures.trail c.standing.ensures.recovers_both c.standing.ensures.marked c.in-Ok.field-0.stopped c.in-Ok.field-0.replies.items
    (rw c.in-Ok.is at c.play-played.ensures.played) c.standing.ensures.recovers_all_of_both c.standing.ensures.published
    c.summary_law.ensures c.args.load text.0 _ _ _ _ out.text c.requires.load (left_is c.load_now-left.result text.0 _ text.1 c.load_now-left.ensures)
    c.times-a.ensures.mark c.times-a.ensures.last (sliced ∙ ap (λ (m : Meta). length m.rowsets) c.take_apart-parts.ensures.meta) c.as_slice-in-Ok.ensures text.2 first opens)))
    c.printed-output.ensures.stopped c.printed-output.ensures.text)

pub returns-in-Ok-clause-kept : goal.returns-in-Ok-clause-kept
returns-in-Ok-clause-kept g c =
    let L = g.L.Disk in
    let D = g.D.Disk in
    let view = c.play-played.result.1 in
    let parts = c.take_apart-parts.result in
    let journal = c.take_apart-parts.ensures.log in
    let home : AreHome view parts.log parts.store = record { journal = journal.0; log_home = journal.1; log_is = journal.2; store_home = c.take_apart-parts.ensures.store } in
    kept_of g.C.Clock.readings L.tells L.now L.leaves D.tells D.seen D.now D.leaves c.args.engine view c.args.schema.now c.args.plan.now c.requires.fresh c.requires.work (c.play-played.ensures.root ∙ ap root_of c.set_plan.ensures) c.standing.ensures.sound parts.log parts.store home
    parts.clock c.take_apart-parts.ensures.clock parts.trail c.take_apart-parts.ensures.trail c.standing.ensures.recovers_both c.standing.ensures.marked

pub returns-in-Ok-clause-openable : goal.returns-in-Ok-clause-openable
returns-in-Ok-clause-openable g c =
    let parts = c.take_apart-parts.result in
    let journal = c.take_apart-parts.ensures.log in
    let home : AreHome c.play-played.result.1 parts.log parts.store = record { journal = journal.0; log_home = journal.1; log_is = journal.2; store_home = c.take_apart-parts.ensures.store } in
    opens_again c.args.engine c.play-played.result.1 c.args.plan.now parts.log parts.store (c.play-played.ensures.root ∙ ap root_of c.set_plan.ensures) c.standing.ensures.home home

pub returns-in-Ok-clause-others : goal.returns-in-Ok-clause-others
returns-in-Ok-clause-others g c =
    let parts = c.take_apart-parts.result in
    let journal = c.take_apart-parts.ensures.log in
    let home : AreHome c.play-played.result.1 parts.log parts.store = record { journal = journal.0; log_home = journal.1; log_is = journal.2; store_home = c.take_apart-parts.ensures.store } in
    keeps_others c.args.engine c.play-played.result.1 c.args.plan.now parts.log parts.store (c.play-played.ensures.root ∙ ap root_of c.set_plan.ensures) c.standing.ensures.home home

pub returns-in-Ok-clause-log_faults : goal.returns-in-Ok-clause-log_faults
returns-in-Ok-clause-log_faults g c =
    let parts = c.take_apart-parts.result in
    let journal = c.take_apart-parts.ensures.log in
    let home : AreHome c.play-played.result.1 parts.log parts.store = record { journal = journal.0; log_home = journal.1; log_is = journal.2; store_home = c.take_apart-parts.ensures.store } in
    no_fault_less c.args.engine c.play-played.result.1 c.args.plan.now parts.log parts.store (c.play-played.ensures.root ∙ ap root_of c.set_plan.ensures) c.standing.ensures.home home

pub returns-in-Err-clause-openable : goal.returns-in-Err-clause-openable
returns-in-Err-clause-openable g c =
    let parts = c.take_apart-parts.result in
    let journal = c.take_apart-parts.ensures.log in
    let home : AreHome c.play-played.result.1 parts.log parts.store = record { journal = journal.0; log_home = journal.1; log_is = journal.2; store_home = c.take_apart-parts.ensures.store } in
    opens_again c.args.engine c.play-played.result.1 c.args.plan.now parts.log parts.store (c.play-played.ensures.root ∙ ap root_of c.set_plan.ensures) c.standing.ensures.home home

pub returns-in-Err-clause-others : goal.returns-in-Err-clause-others
returns-in-Err-clause-others g c =
    let parts = c.take_apart-parts.result in
    let journal = c.take_apart-parts.ensures.log in
    let home : AreHome c.play-played.result.1 parts.log parts.store = record { journal = journal.0; log_home = journal.1; log_is = journal.2; store_home = c.take_apart-parts.ensures.store } in
    keeps_others c.args.engine c.play-played.result.1 c.args.plan.now parts.log parts.store (c.play-played.ensures.root ∙ ap root_of c.set_plan.ensures) c.standing.ensures.home home

pub returns-in-Err-clause-log_faults : goal.returns-in-Err-clause-log_faults
returns-in-Err-clause-log_faults g c =
    let parts = c.take_apart-parts.result in
    let journal = c.take_apart-parts.ensures.log in
    let home : AreHome c.play-played.result.1 parts.log parts.store = record { journal = journal.0; log_home = journal.1; log_is = journal.2; store_home = c.take_apart-parts.ensures.store } in
    no_fault_less c.args.engine c.play-played.result.1 c.args.plan.now parts.log parts.store (c.play-played.ensures.root ∙ ap root_of c.set_plan.ensures) c.standing.ensures.home home

pub returns-in-Err-clause-kept : goal.returns-in-Err-clause-kept
returns-in-Err-clause-kept g c =
    let L = g.L.Disk in
    let D = g.D.Disk in
    let view = c.play-played.result.1 in
    let parts = c.take_apart-parts.result in
    let journal = c.take_apart-parts.ensures.log in
    let home : AreHome view parts.log parts.store = record { journal = journal.0; log_home = journal.1; log_is = journal.2; store_home = c.take_apart-parts.ensures.store } in
    kept_of g.C.Clock.readings L.tells L.now L.leaves D.tells D.seen D.now D.leaves c.args.engine view c.args.schema.now c.args.plan.now c.requires.fresh c.requires.work (c.play-played.ensures.root ∙ ap root_of c.set_plan.ensures) c.standing.ensures.sound parts.log parts.store home
    parts.clock c.take_apart-parts.ensures.clock parts.trail c.take_apart-parts.ensures.trail c.standing.ensures.recovers_both c.standing.ensures.marked

pub returns-in-Ok-clause-store_faults : goal.returns-in-Ok-clause-store_faults
returns-in-Ok-clause-store_faults g c =
    let parts = c.take_apart-parts.result in
    let journal = c.take_apart-parts.ensures.log in
    let home : AreHome c.play-played.result.1 parts.log parts.store = record { journal = journal.0; log_home = journal.1; log_is = journal.2; store_home = c.take_apart-parts.ensures.store } in
    store_no_less c.args.engine c.play-played.result.1 c.args.plan.now parts.log parts.store (c.play-played.ensures.root ∙ ap root_of c.set_plan.ensures) c.standing.ensures.home home g.D.Disk.faults c.standing.ensures.failed

pub returns-in-Err-clause-store_faults : goal.returns-in-Err-clause-store_faults
returns-in-Err-clause-store_faults g c =
    let parts = c.take_apart-parts.result in
    let journal = c.take_apart-parts.ensures.log in
    let home : AreHome c.play-played.result.1 parts.log parts.store = record { journal = journal.0; log_home = journal.1; log_is = journal.2; store_home = c.take_apart-parts.ensures.store } in
    store_no_less c.args.engine c.play-played.result.1 c.args.plan.now parts.log parts.store (c.play-played.ensures.root ∙ ap root_of c.set_plan.ensures) c.standing.ensures.home home g.D.Disk.faults c.standing.ensures.failed

pub returns-in-Ok-clause-fault : goal.returns-in-Ok-clause-fault
returns-in-Ok-clause-fault g c =
    let parts = c.take_apart-parts.result in
    let journal = c.take_apart-parts.ensures.log in
    let home : AreHome c.play-played.result.1 parts.log parts.store = record { journal = journal.0; log_home = journal.1; log_is = journal.2; store_home = c.take_apart-parts.ensures.store } in
    some_of c.printed-output.result c.ok.result _ c.ok.ensures.value
    (IfOk-weaker c.printed-output.result _ _
    (λ out is stopped. some_failed c.args.engine c.play-played.result.1 c.args.plan.now parts.log parts.store (c.play-played.ensures.root ∙ ap root_of c.set_plan.ensures) c.standing.ensures.home home g.D.Disk.faults c.standing.ensures.failed
    (let played = rw c.in-Ok.is at c.play-played.ensures.played in subst IsTrue (is ∙ sym played.ended) stopped))
    c.printed-output.ensures.stopped)

pub returns-in-Ok-clause-named : goal.returns-in-Ok-clause-named
returns-in-Ok-clause-named g c =
    let parts = c.take_apart-parts.result in
    let journal = c.take_apart-parts.ensures.log in
    let home : AreHome c.play-played.result.1 parts.log parts.store = record { journal = journal.0; log_home = journal.1; log_is = journal.2; store_home = c.take_apart-parts.ensures.store } in
    names_more c.args.engine c.play-played.result.1 c.args.plan.now parts.log parts.store (c.play-played.ensures.root ∙ ap root_of c.set_plan.ensures) c.standing.ensures.home home c.standing.ensures.leaves

pub returns-in-Ok-clause-stand : goal.returns-in-Ok-clause-stand
returns-in-Ok-clause-stand g c = c.standing.ensures.side.stand c.take_apart-parts.result.store c.take_apart-parts.ensures.store

pub returns-in-Err-clause-named : goal.returns-in-Err-clause-named
returns-in-Err-clause-named g c =
    let parts = c.take_apart-parts.result in
    let journal = c.take_apart-parts.ensures.log in
    let home : AreHome c.play-played.result.1 parts.log parts.store = record { journal = journal.0; log_home = journal.1; log_is = journal.2; store_home = c.take_apart-parts.ensures.store } in
    names_more c.args.engine c.play-played.result.1 c.args.plan.now parts.log parts.store (c.play-played.ensures.root ∙ ap root_of c.set_plan.ensures) c.standing.ensures.home home c.standing.ensures.leaves

pub returns-in-Err-clause-stand : goal.returns-in-Err-clause-stand
returns-in-Err-clause-stand g c = c.standing.ensures.side.stand c.take_apart-parts.result.store c.take_apart-parts.ensures.store

pub returns-in-Ok-clause-spelled : goal.returns-in-Ok-clause-spelled
returns-in-Ok-clause-spelled g c =
    let parts = c.take_apart-parts.result in
    let journal = c.take_apart-parts.ensures.log in
    let home : AreHome c.play-played.result.1 parts.log parts.store = record { journal = journal.0; log_home = journal.1; log_is = journal.2; store_home = c.take_apart-parts.ensures.store } in
    spells_more c.args.engine c.play-played.result.1 c.args.plan.now parts.log parts.store (c.play-played.ensures.root ∙ ap root_of c.set_plan.ensures) c.standing.ensures.home home g.D.Disk.tells g.D.Disk.seen g.D.Disk.now g.D.Disk.leaves c.standing.ensures.stored c.standing.ensures.made

pub returns-in-Err-clause-spelled : goal.returns-in-Err-clause-spelled
returns-in-Err-clause-spelled g c =
    let parts = c.take_apart-parts.result in
    let journal = c.take_apart-parts.ensures.log in
    let home : AreHome c.play-played.result.1 parts.log parts.store = record { journal = journal.0; log_home = journal.1; log_is = journal.2; store_home = c.take_apart-parts.ensures.store } in
    spells_more c.args.engine c.play-played.result.1 c.args.plan.now parts.log parts.store (c.play-played.ensures.root ∙ ap root_of c.set_plan.ensures) c.standing.ensures.home home g.D.Disk.tells g.D.Disk.seen g.D.Disk.now g.D.Disk.leaves c.standing.ensures.stored c.standing.ensures.made

pub returns-in-Ok-clause-log_moments : goal.returns-in-Ok-clause-log_moments
returns-in-Ok-clause-log_moments g c =
    let parts = c.take_apart-parts.result in
    let journal = c.take_apart-parts.ensures.log in
    let home : AreHome c.play-played.result.1 parts.log parts.store = record { journal = journal.0; log_home = journal.1; log_is = journal.2; store_home = c.take_apart-parts.ensures.store } in
    log_grew c.args.engine c.play-played.result.1 c.args.plan.now parts.log parts.store (c.play-played.ensures.root ∙ ap root_of c.set_plan.ensures) c.standing.ensures.home home c.standing.ensures.log_moments

pub returns-in-Ok-clause-store_moments : goal.returns-in-Ok-clause-store_moments
returns-in-Ok-clause-store_moments g c =
    let parts = c.take_apart-parts.result in
    let journal = c.take_apart-parts.ensures.log in
    let home : AreHome c.play-played.result.1 parts.log parts.store = record { journal = journal.0; log_home = journal.1; log_is = journal.2; store_home = c.take_apart-parts.ensures.store } in
    store_published c.args.engine c.play-played.result.1 c.args.plan.now parts.log parts.store (c.play-played.ensures.root ∙ ap root_of c.set_plan.ensures) c.standing.ensures.home home g.D.Disk.tells g.D.Disk.seen g.D.Disk.now g.D.Disk.leaves c.standing.ensures.store_moments

pub returns-in-Err-clause-log_moments : goal.returns-in-Err-clause-log_moments
returns-in-Err-clause-log_moments g c =
    let parts = c.take_apart-parts.result in
    let journal = c.take_apart-parts.ensures.log in
    let home : AreHome c.play-played.result.1 parts.log parts.store = record { journal = journal.0; log_home = journal.1; log_is = journal.2; store_home = c.take_apart-parts.ensures.store } in
    log_grew c.args.engine c.play-played.result.1 c.args.plan.now parts.log parts.store (c.play-played.ensures.root ∙ ap root_of c.set_plan.ensures) c.standing.ensures.home home c.standing.ensures.log_moments

pub returns-in-Err-clause-store_moments : goal.returns-in-Err-clause-store_moments
returns-in-Err-clause-store_moments g c =
    let parts = c.take_apart-parts.result in
    let journal = c.take_apart-parts.ensures.log in
    let home : AreHome c.play-played.result.1 parts.log parts.store = record { journal = journal.0; log_home = journal.1; log_is = journal.2; store_home = c.take_apart-parts.ensures.store } in
    store_published c.args.engine c.play-played.result.1 c.args.plan.now parts.log parts.store (c.play-played.ensures.root ∙ ap root_of c.set_plan.ensures) c.standing.ensures.home home g.D.Disk.tells g.D.Disk.seen g.D.Disk.now g.D.Disk.leaves c.standing.ensures.store_moments
