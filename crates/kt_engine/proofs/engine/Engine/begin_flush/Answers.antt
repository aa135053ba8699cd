use Rattle.std.proofs.Common.{◌≡◌, ◌+◌, ◌++◌, length, None, refl, sym, ap, ◌∙◌, arith, length-append}
use Rattle.kt_engine.specs.declared.upkeep.Job.{Job}
use Rattle.kt_engine.specs.declared.upkeep.Stage.TheVariants as stage
use Rattle.kt_engine.specs.Upkeeps.{job_in}
use Rattle.kt_engine.proofs.JobBegins.{next_number, last_is, flush_begins}
use Rattle.kt_engine.proofs.JobBoth.{begun_both}
use Rattle.kt_engine.proofs.engine.Engine.begin_flush.Goals as goal

-- the tablet has frozen, and the job is counted
pub invariant_of-self-2 : goal.invariant_of-self-2
invariant_of-self-2 g c =
    let old = sym c.self.view_is in
    let is = c.deref_mut.ensures.value in
    let h = rw is at c.in_ok-freeze.ensures.frozen in
    let job : Job = record { number = c.counts-begun.result.1 + 1; stage = stage.Begun; bound = 0; mark = 0; taken = c.of.result; last_mem = c.last_frozen.result; many = c.count.result; first_rowset = c.next_numbers-first_rowset.result.0; first_file = c.next_numbers-first_rowset.result.1; inputs = None; outputs = c.none.result; superblock = 0; rowset = 0; dms = 0; read = None; returned = None; frozen = 0; again = None; output = None } in
    let count = c.begin.ensures.begun in
    let numbers = rw c.deref-2.ensures at c.next_numbers-first_rowset.ensures in
    let many : job.many ≡ c.self.inside.log.value.known.count + length (c.self.inside.log.value.out ++ c.self.inside.log.value.queued) =
    let is_count = rw c.deref-4.ensures at c.count.ensures in omega (arith, is_count, length-append c.self.inside.log.value.out c.self.inside.log.value.queued) in
    let last : job.last_mem ≡ h.number = last_is c.self.inside.tablet.value c.freeze.new.self c.last_frozen.result h (rw c.deref-3.ensures at c.last_frozen.ensures.frozen) in
    let few = rw old at c.requires.last in
    let none = rw old at c.requires.free in
    begun_both g.L.Disk.tells g.L.Disk.seen g.L.Disk.now g.L.Disk.leaves g.L.Disk.faults g.D.Disk.tells g.D.Disk.seen g.D.Disk.faults _ c.begin.new.self c.freeze.new.self c.args.number c.args.asked (job_in c.args.asked job) h (c.in_ok-freeze.ensures.fits (h.number + 1) _ (ap (λ t. t.names) h.is)) c.begin.ensures.own (count.1, count.2) (ap (λ n. n + 1) c.counts-begun.ensures.begun ∙ next_number c.self.inside.upkeep.begun) (rw old at c.requires.few) none many
    (ap (λ p. p.0) numbers) few last refl c.self.invariant

pub returns-clause-begun : goal.returns-clause-begun
returns-clause-begun g c =
    let old = sym c.self.view_is in
    let is = c.deref_mut.ensures.value in
    let h = rw is at c.in_ok-freeze.ensures.frozen in
    let job : Job = record { number = c.counts-begun.result.1 + 1; stage = stage.Begun; bound = 0; mark = 0; taken = c.of.result; last_mem = c.last_frozen.result; many = c.count.result; first_rowset = c.next_numbers-first_rowset.result.0; first_file = c.next_numbers-first_rowset.result.1; inputs = None; outputs = c.none.result; superblock = 0; rowset = 0; dms = 0; read = None; returned = None; frozen = 0; again = None; output = None } in
    let count = c.begin.ensures.begun in
    let numbers = rw c.deref-2.ensures at c.next_numbers-first_rowset.ensures in
    let many : job.many ≡ c.self.inside.log.value.known.count + length (c.self.inside.log.value.out ++ c.self.inside.log.value.queued) =
    let is_count = rw c.deref-4.ensures at c.count.ensures in omega (arith, is_count, length-append c.self.inside.log.value.out c.self.inside.log.value.queued) in
    let last : job.last_mem ≡ h.number = last_is c.self.inside.tablet.value c.freeze.new.self c.last_frozen.result h (rw c.deref-3.ensures at c.last_frozen.ensures.frozen) in
    let few = rw old at c.requires.last in
    let none = rw old at c.requires.free in
    let side = rw c.deref.ensures at c.standing.ensures.side in
    rw old
    (flush_begins _ c.freeze.new.self c.begin.new.self h c.args.number c.begin.result c.args.asked (job_in c.args.asked job) c.requires.flush refl (c.of.ensures ∙ c.new.ensures.items) refl refl count.0 (ap (λ n. n + 1) c.counts-begun.ensures.begun) (count.1, count.2 ∙ none) (ap (λ p. p.0) numbers, ap (λ p. p.1) numbers) c.begin.ensures.own
    c.self.invariant.0.ready.shelved c.self.invariant.1.names_below few side.rowsets last many (rw c.deref-5.ensures at c.standing-2.ensures.named))
