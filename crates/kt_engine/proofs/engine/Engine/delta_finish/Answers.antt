use Rattle.std.proofs.Common.{◌≡◌, ◌∙◌, ℕ, [], Some, sym, ap, subst}
use Rattle.kt_diskrowset.specs.declared.data.RowSetData.{RowSetData}
use Rattle.kt_diskrowset.specs.Data.{files_in, store_in}
use Rattle.kt_diskrowset.specs.Rows.{UndosLeadBack}
use Rattle.kt_tablet.specs.Jobs.{dms_in, store_in_names}
use Rattle.kt_engine.specs.Jobs.{JobView}
use Rattle.kt_engine.proofs.DeltaBoth.{settled_both, settled_visit, settled_finished}
use Rattle.kt_engine.proofs.Visiting.{visit_of}
use Rattle.kt_engine.proofs.engine.Engine.delta_finish.Goals as goal

pub finish-requires : goal.finish-requires
finish-requires g c =
    let may = rw (sym c.self.view_is) at c.requires.may in
    record { job = (may.0, may.1.1) }

-- what it wrote takes the place of what memory had
pub put_files-requires-clause-lead : goal.put_files-requires-clause-lead
put_files-requires-clause-lead g c =
    let may = rw (sym c.self.view_is) at c.requires.may in
    let left = c.finish.ensures.left may.0 may.1.1 in
    let gave = rw left.1 at c.output_of.ensures in
    let is : c.in-Some.rowset ≡ may.1.0 = (let own = sym c.in-Some.is ∙ gave ∙ ap (λ (j : JobView). j.output) left.2 ∙ may.1.2.output in cc) in
    subst (λ (d : RowSetData). UndosLeadBack (files_in d)) (sym is) may.1.2.lead

pub put_files-requires-clause-none : goal.put_files-requires-clause-none
put_files-requires-clause-none g c =
    let may = rw (sym c.self.view_is) at c.requires.may in
    let left = c.finish.ensures.left may.0 may.1.1 in
    let gave = rw left.1 at c.output_of.ensures in
    let is : c.in-Some.rowset ≡ may.1.0 = (let own = sym c.in-Some.is ∙ gave ∙ ap (λ (j : JobView). j.output) left.2 ∙ may.1.2.output in cc) in
    subst (λ (d : RowSetData). d.fresh ≡ []) (sym is) may.1.2.fresh

pub put_files-requires-clause-there : goal.put_files-requires-clause-there
put_files-requires-clause-there g c =
    let may = rw (sym c.self.view_is) at c.requires.may in
    let left = c.finish.ensures.left may.0 may.1.1 in
    let gave = rw left.1 at c.output_of.ensures in
    let is : c.in-Some.rowset ≡ may.1.0 = (let own = sym c.in-Some.is ∙ gave ∙ ap (λ (j : JobView). j.output) left.2 ∙ may.1.2.output in cc) in
    rw c.deref_mut.ensures.value (subst (λ (d : RowSetData). (dms : ℕ) × (dms_in d.number c.self.inside.tablet.value.names ≡ Some dms)) (sym is) may.1.2.there)

pub put_files-requires-clause-store : goal.put_files-requires-clause-store
put_files-requires-clause-store g c =
    let may = rw (sym c.self.view_is) at c.requires.may in
    let left = c.finish.ensures.left may.0 may.1.1 in
    let gave = rw left.1 at c.output_of.ensures in
    let is : c.in-Some.rowset ≡ may.1.0 = (let own = sym c.in-Some.is ∙ gave ∙ ap (λ (j : JobView). j.output) left.2 ∙ may.1.2.output in cc) in
    rw c.deref_mut.ensures.value (subst (λ (d : RowSetData). store_in d ≡ store_in_names d.number c.self.inside.tablet.value.names c.self.inside.tablet.value.core.stores) (sym is) may.1.2.store)

pub invariant_of-self : goal.invariant_of-self
invariant_of-self g c =
    let old = sym c.self.view_is in
    let may = rw old at c.requires.may in
    let left = c.finish.ensures.left may.0 may.1.1 in
    let gave = rw left.1 at c.output_of.ensures in
    let is : c.in-Some.rowset ≡ may.1.0 = (let own = sym c.in-Some.is ∙ gave ∙ ap (λ (j : JobView). j.output) left.2 ∙ may.1.2.output in cc) in
    let put = rw (is, c.deref_mut.ensures.value) at c.put_files.ensures in
    settled_both g.L.Disk.tells g.L.Disk.seen g.L.Disk.now g.L.Disk.leaves g.L.Disk.faults g.D.Disk.tells g.D.Disk.seen g.D.Disk.faults _ c.args.number may.0 may.1.0 may.1.1 may.1.2 c.put_files.new.self c.finish.new.self (c.finish.ensures.own may.0 may.1.1) c.finish.ensures.begun put c.self.invariant

pub returns-clause-visit : goal.returns-clause-visit
returns-clause-visit g c =
    let old = sym c.self.view_is in
    let may = rw old at c.requires.may in
    let left = c.finish.ensures.left may.0 may.1.1 in
    let gave = rw left.1 at c.output_of.ensures in
    let is : c.in-Some.rowset ≡ may.1.0 = (let own = sym c.in-Some.is ∙ gave ∙ ap (λ (j : JobView). j.output) left.2 ∙ may.1.2.output in cc) in
    let put = rw (is, c.deref_mut.ensures.value) at c.put_files.ensures in
    visit_of _ _ _ _ c.self.view_is (settled_visit g.L.Disk.tells g.L.Disk.seen g.L.Disk.now g.L.Disk.leaves g.L.Disk.faults g.D.Disk.tells g.D.Disk.seen g.D.Disk.faults _ c.args.number may.0 may.1.0 may.1.1 may.1.2 c.put_files.new.self c.finish.new.self (c.finish.ensures.own may.0 may.1.1) c.finish.ensures.begun put)

pub returns-clause-finished : goal.returns-clause-finished
returns-clause-finished g c =
    let old = sym c.self.view_is in
    let may = rw old at c.requires.may in
    let left = c.finish.ensures.left may.0 may.1.1 in
    let gave = rw left.1 at c.output_of.ensures in
    let is : c.in-Some.rowset ≡ may.1.0 = (let own = sym c.in-Some.is ∙ gave ∙ ap (λ (j : JobView). j.output) left.2 ∙ may.1.2.output in cc) in
    let put = rw (is, c.deref_mut.ensures.value) at c.put_files.ensures in
    rw old (settled_finished g.L.Disk.tells g.L.Disk.seen g.L.Disk.now g.L.Disk.leaves g.L.Disk.faults g.D.Disk.tells g.D.Disk.seen g.D.Disk.faults _ c.args.number may.0 may.1.0 may.1.1 may.1.2 c.put_files.new.self c.finish.new.self (c.finish.ensures.own may.0 may.1.1) c.finish.ensures.begun put)
