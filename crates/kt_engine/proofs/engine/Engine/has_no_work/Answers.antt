use Rattle.std.proofs.Common.{◌≡◌, ◌<◌, ◌∙◌, ℕ, Some, None, sym, ap, subst}
use Rattle.std.proofs.lemmas.Bool.{ltb-true, eqb-true, not-true}
use Rattle.kt_pick.specs.declared.rules.Want.TheVariants as want
use Rattle.kt_tablet.specs.Views.{View}
use Rattle.kt_tablet.specs.Jobs.{dms_in, store_in_names, files_of}
use Rattle.kt_diskrowset.specs.Held.{store_told}
use Rattle.kt_diskrowset.specs.Rowset.{HeldFiles}
use Rattle.kt_engine.specs.Engines.{EngineView}
use Rattle.kt_engine.specs.DeltaJobs.{IsOn, redo_files, nothing, one_file, no_file, no_changes}
use Rattle.kt_engine.proofs.DeltaToDo.{no_rowset}
use Rattle.kt_engine.proofs.engine.Engine.has_no_work.Goals as goal

pub returns-in_default-clause-nothing : goal.returns-in_default-clause-nothing
returns-in_default-clause-nothing g c = λ so.
    let tab : c.deref.result.now ≡ c.args.self.now.tablet = c.deref.ensures ∙ ap (λ (v : EngineView g.row.L.Denot g.row.D.Denot g.row.C.Denot). v.tablet) c.self.view_is in
    nothing (no_rowset c.args.self.now c.args.want.now c.args.rowset c.requires.on (subst (λ (t : View g.row.C.Denot). dms_in c.args.rowset t.names ≡ None) tab (sym c.dms_of.ensures ∙ c.in_default.is)))

pub returns-in-FlushDeltas-clause-nothing : goal.returns-in-FlushDeltas-clause-nothing
returns-in-FlushDeltas-clause-nothing g c = λ so.
    let on : IsOn c.args.rowset (want.FlushDeltas c.in-FlushDeltas.field-0) = subst (IsOn c.args.rowset) c.in-FlushDeltas.is c.requires.on in
    let tab : c.deref.result.now ≡ c.args.self.now.tablet = c.deref.ensures ∙ ap (λ (v : EngineView g.row.L.Denot g.row.D.Denot g.row.C.Denot). v.tablet) c.self.view_is in
    let again : c.deref-in-FlushDeltas.result.now ≡ c.args.self.now.tablet = c.deref-in-FlushDeltas.ensures ∙ ap (λ (v : EngineView g.row.L.Denot g.row.D.Denot g.row.C.Denot). v.tablet) c.self.view_is in
    let there = subst (λ (t : View g.row.C.Denot). dms_in c.args.rowset t.names ≡ Some c.in-Some._dms) tab (sym c.dms_of.ensures ∙ c.in-Some.is) in
    let has = subst (λ (t : View g.row.C.Denot). (dms : ℕ) → dms_in c.args.rowset t.names ≡ Some dms → (h : HeldFiles) × (files_of c.args.rowset t.files ≡ Some h) × (store_in_names c.args.rowset t.names t.core.stores ≡ store_told h)) again (c.has_deltas.ensures (not-true c.has_deltas.result so)) in
    let found = has c.in-Some._dms there in
    no_changes c.args.rowset (c.in-FlushDeltas.is ∙ ap want.FlushDeltas on) found.0 found.1 found.2

pub returns-in-FlushDeltas-clause-there : goal.returns-in-FlushDeltas-clause-there
returns-in-FlushDeltas-clause-there g c = λ no.
    let tab : c.deref.result.now ≡ c.args.self.now.tablet = c.deref.ensures ∙ ap (λ (v : EngineView g.row.L.Denot g.row.D.Denot g.row.C.Denot). v.tablet) c.self.view_is in
    (c.in-Some._dms, subst (λ (t : View g.row.C.Denot). dms_in c.args.rowset t.names ≡ Some c.in-Some._dms) tab (sym c.dms_of.ensures ∙ c.in-Some.is))

pub returns-in-Minor-clause-nothing : goal.returns-in-Minor-clause-nothing
returns-in-Minor-clause-nothing g c = λ so.
    let on : IsOn c.args.rowset (want.Minor c.in-Minor.field-0) = subst (IsOn c.args.rowset) c.in-Minor.is c.requires.on in
    let rowsets_is : c.as_slice.result.now ≡ c.args.self.now.store.meta.rowsets =
    c.as_slice.ensures ∙ ap (λ m. m.rowsets) c.meta.ensures ∙ ap (λ s. s.meta.rowsets) c.deref-2.ensures ∙ ap (λ (v : EngineView g.row.L.Denot g.row.D.Denot g.row.C.Denot). v.store.meta.rowsets) c.self.view_is in
    let redo_is = c.redo_files-redo.ensures ∙ ap (redo_files c.args.rowset) rowsets_is in
    one_file c.args.rowset (c.in-Minor.is ∙ ap want.Minor on) (subst (λ (n : ℕ). n < 2) redo_is (ltb-true c.redo_files-redo.result 2 so))

pub returns-in-Minor-clause-there : goal.returns-in-Minor-clause-there
returns-in-Minor-clause-there g c = λ no.
    let tab : c.deref.result.now ≡ c.args.self.now.tablet = c.deref.ensures ∙ ap (λ (v : EngineView g.row.L.Denot g.row.D.Denot g.row.C.Denot). v.tablet) c.self.view_is in
    (c.in-Some._dms, subst (λ (t : View g.row.C.Denot). dms_in c.args.rowset t.names ≡ Some c.in-Some._dms) tab (sym c.dms_of.ensures ∙ c.in-Some.is))

pub returns-in-Major-clause-nothing : goal.returns-in-Major-clause-nothing
returns-in-Major-clause-nothing g c = λ so.
    let on : IsOn c.args.rowset (want.Major c.in-Major.field-0) = subst (IsOn c.args.rowset) c.in-Major.is c.requires.on in
    let rowsets_is : c.as_slice.result.now ≡ c.args.self.now.store.meta.rowsets =
    c.as_slice.ensures ∙ ap (λ m. m.rowsets) c.meta.ensures ∙ ap (λ s. s.meta.rowsets) c.deref-2.ensures ∙ ap (λ (v : EngineView g.row.L.Denot g.row.D.Denot g.row.C.Denot). v.store.meta.rowsets) c.self.view_is in
    let redo_is = c.redo_files-redo.ensures ∙ ap (redo_files c.args.rowset) rowsets_is in
    no_file c.args.rowset (c.in-Major.is ∙ ap want.Major on) (sym redo_is ∙ eqb-true c.redo_files-redo.result 0 so)

pub returns-in-Major-clause-there : goal.returns-in-Major-clause-there
returns-in-Major-clause-there g c = λ no.
    let tab : c.deref.result.now ≡ c.args.self.now.tablet = c.deref.ensures ∙ ap (λ (v : EngineView g.row.L.Denot g.row.D.Denot g.row.C.Denot). v.tablet) c.self.view_is in
    (c.in-Some._dms, subst (λ (t : View g.row.C.Denot). dms_in c.args.rowset t.names ≡ Some c.in-Some._dms) tab (sym c.dms_of.ensures ∙ c.in-Some.is))
