use Rattle.std.proofs.Common.{Option, refl, sym, ap, subst, ◌∙◌}
use Rattle.kt_super.specs.declared.meta.Meta.{Meta}
use Rattle.kt_storeside.specs.Sides.{SpellLent}
use Rattle.kt_engine.proofs.Moments.{turn_spells, turn_leaves}
use Rattle.kt_engine.proofs.JobBoth.{its_job, older_than, came_both}
use Rattle.kt_engine.proofs.StoreEvents.{home_both}
use Rattle.kt_engine.proofs.StorePurposes.{same_columns}
use Rattle.kt_engine.proofs.Visiting.{visit_of, turn_home_visit}
use Rattle.kt_engine.proofs.engine.Engine.store_home.Goals as goal

-- nothing was to be published
pub invariant_of-self : goal.invariant_of-self
invariant_of-self g c =
    let old = sym c.self.view_is in
    let store = rw c.deref_mut.ensures.value at c.come_home.ensures.side in
    let side = rw c.deref.ensures at c.standing.ensures.side in
    home_both g.L.Disk.tells g.L.Disk.seen g.L.Disk.now g.L.Disk.leaves g.L.Disk.faults g.D.Disk.tells g.D.Disk.seen g.D.Disk.now g.D.Disk.leaves g.D.Disk.faults _ side c.come_home.new.self c.args.lent.device c.args.published c.args.lent.meta c.args.lent.next_rowset c.args.lent.next_file (rw old at c.requires.whole) (rw old at c.requires.meta) (rw old at c.requires.turn) (rw old at c.requires.faults) (rw old at c.requires.numbers).0 (rw old at c.requires.near) (rw old at c.requires.near_files) store c.self.invariant

-- and no job publishes
pub invariant_of-self-then-not-is_publishing : goal.invariant_of-self-then-not-is_publishing
invariant_of-self-then-not-is_publishing g c =
    let old = sym c.self.view_is in
    let store = rw c.deref_mut.ensures.value at c.come_home.ensures.side in
    let side = rw c.deref.ensures at c.standing.ensures.side in
    home_both g.L.Disk.tells g.L.Disk.seen g.L.Disk.now g.L.Disk.leaves g.L.Disk.faults g.D.Disk.tells g.D.Disk.seen g.D.Disk.now g.D.Disk.leaves g.D.Disk.faults _ side c.come_home.new.self c.args.lent.device c.args.published c.args.lent.meta c.args.lent.next_rowset c.args.lent.next_file (rw old at c.requires.whole) (rw old at c.requires.meta) (rw old at c.requires.turn) (rw old at c.requires.faults) (rw old at c.requires.numbers).0 (rw old at c.requires.near) (rw old at c.requires.near_files) store c.self.invariant

-- the superblock of the job that publishes has come home
pub invariant_of-self-2 : goal.invariant_of-self-2
invariant_of-self-2 g c =
    let old = sym c.self.view_is in
    let store = rw c.deref_mut.ensures.value at c.come_home.ensures.side in
    let side = rw c.deref.ensures at c.standing.ensures.side in
    let own = its_job c.args.lent.meta c.self.inside.upkeep.publishing (sym c.is_some-publishes.ensures ∙ c.if-not-publishes.false) (sym c.is_publishing.ensures ∙ c.if-not-is_publishing.false) (rw old at c.requires.job) in
    let home = home_both g.L.Disk.tells g.L.Disk.seen g.L.Disk.now g.L.Disk.leaves g.L.Disk.faults g.D.Disk.tells g.D.Disk.seen g.D.Disk.now g.D.Disk.leaves g.D.Disk.faults _ side c.come_home.new.self c.args.lent.device c.args.published c.args.lent.meta c.args.lent.next_rowset c.args.lent.next_file (rw old at c.requires.whole) (rw old at c.requires.meta) (rw old at c.requires.turn) (rw old at c.requires.faults) (rw old at c.requires.numbers).0 (rw old at c.requires.near) (rw old at c.requires.near_files) store c.self.invariant in
    came_both g.L.Disk.tells g.L.Disk.seen g.L.Disk.now g.L.Disk.leaves g.L.Disk.faults g.D.Disk.tells g.D.Disk.seen g.D.Disk.faults _ c.come_home-2.new.self c.args.number own.1.0 c.args.published own.1.1 own.0 (c.come_home-2.ensures.own own.1.0 own.1.1) c.come_home-2.ensures.begun
    (older_than c.come_home.new.self c.self.inside.store.value.meta c.args.lent.meta c.args.published own.1.0.super (ap (λ s. s.meta) store) (ap (λ s. s.lent) store) own.1.2) home

pub come_home-requires-2 : goal.come_home-requires-2
come_home-requires-2 g c =
    let old = sym c.self.view_is in
    let own = its_job c.args.lent.meta c.self.inside.upkeep.publishing (sym c.is_some-publishes.ensures ∙ c.if-not-publishes.false) (sym c.is_publishing.ensures ∙ c.if-not-is_publishing.false) (rw old at c.requires.job) in
    record { job = (own.1.0, own.1.1) }

pub returns-clause-columns : goal.returns-clause-columns
returns-clause-columns g c =
    let old = sym c.self.view_is in
    let store = rw c.deref_mut.ensures.value at c.come_home.ensures.side in
    ap (λ s. s.meta.schema) store ∙ same_columns c.args.published c.args.lent.meta c.self.inside.store.value (rw old at c.requires.meta) c.self.invariant.1.columns ∙ ap (λ v. v.store.meta.schema) c.self.view_is

pub returns-clause-came : goal.returns-clause-came
returns-clause-came g c = rw (sym c.self.view_is) (λ job m new mine had. record { upkeep = c.come_home-2.ensures.own job had; begun = c.come_home-2.ensures.begun })

-- no other pass's part has changed
pub returns-then-not-publishes-clause-visit : goal.returns-then-not-publishes-clause-visit
returns-then-not-publishes-clause-visit g c =
    let old = sym c.self.view_is in
    let store = rw c.deref_mut.ensures.value at c.come_home.ensures.side in
    let columns = ap (λ s. s.meta.schema) store ∙ same_columns c.args.published c.args.lent.meta c.self.inside.store.value (rw old at c.requires.meta) c.self.invariant.1.columns in
    visit_of c.args.number _ _ _ c.self.view_is (turn_home_visit c.args.number _ c.come_home.new.self c.self.inside.upkeep (rw old at c.requires.out) (ap (λ s. s.holder) store) columns (ap (λ s. s.first) store) (λ k ne. refl))

pub returns-then-not-is_publishing-clause-visit : goal.returns-then-not-is_publishing-clause-visit
returns-then-not-is_publishing-clause-visit g c =
    let old = sym c.self.view_is in
    let store = rw c.deref_mut.ensures.value at c.come_home.ensures.side in
    let columns = ap (λ s. s.meta.schema) store ∙ same_columns c.args.published c.args.lent.meta c.self.inside.store.value (rw old at c.requires.meta) c.self.invariant.1.columns in
    visit_of c.args.number _ _ _ c.self.view_is (turn_home_visit c.args.number _ c.come_home.new.self c.self.inside.upkeep (rw old at c.requires.out) (ap (λ s. s.holder) store) columns (ap (λ s. s.first) store) (λ k ne. refl))

pub returns-clause-visit : goal.returns-clause-visit
returns-clause-visit g c =
    let old = sym c.self.view_is in
    let store = rw c.deref_mut.ensures.value at c.come_home.ensures.side in
    let columns = ap (λ s. s.meta.schema) store ∙ same_columns c.args.published c.args.lent.meta c.self.inside.store.value (rw old at c.requires.meta) c.self.invariant.1.columns in
    let own = its_job c.args.lent.meta c.self.inside.upkeep.publishing (sym c.is_some-publishes.ensures ∙ c.if-not-publishes.false) (sym c.is_publishing.ensures ∙ c.if-not-is_publishing.false) (rw old at c.requires.job) in
    visit_of c.args.number _ _ _ c.self.view_is
    (turn_home_visit c.args.number _ c.come_home.new.self c.come_home-2.new.self (rw old at c.requires.out) (ap (λ s. s.holder) store) columns (ap (λ s. s.first) store) (c.come_home-2.ensures.own own.1.0 own.1.1).others)

-- no slot spells another superblock than the lent one
pub come_home-requires-clause-spells : goal.come_home-requires-clause-spells
come_home-requires-clause-spells g c = λ told.
    let old = sym c.self.view_is in
    let side = rw c.deref.ensures at c.standing.ensures.side in
    let store = c.self.inside.store.value in
    let device = c.args.lent.device in
    let spelled = turn_spells g.D.Disk.tells g.D.Disk.seen g.D.Disk.now g.D.Disk.leaves g.D.Disk.faults _ side told c.args.lent.next_file device (rw old at (c.requires.moments told)) (g.D.Disk.seen device) (g.met.D.Disk.reads_as_image device told) in
    rw (c.deref_mut.ensures.value) (subst (λ (o : Option Meta). SpellLent (g.D.Disk.seen store.known) o (g.D.Disk.seen device)) (sym (rw old at c.requires.meta)) spelled)

pub come_home-requires-clause-moments : goal.come_home-requires-clause-moments
come_home-requires-clause-moments g c = λ told.
    let old = sym c.self.view_is in
    let side = rw c.deref.ensures at c.standing.ensures.side in
    rw (c.deref_mut.ensures.value) (turn_leaves g.D.Disk.tells g.D.Disk.seen g.D.Disk.now g.D.Disk.leaves g.D.Disk.faults _ side told c.args.lent.next_file c.args.lent.device (rw old at (c.requires.moments told)))
