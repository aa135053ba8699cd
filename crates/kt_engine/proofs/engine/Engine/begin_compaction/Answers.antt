use Rattle.std.proofs.Common.{◌≡◌, ◌+◌, ◌++◌, length, None, refl, sym, ap, ◌∙◌, arith, length-append}
use Rattle.kt_engine.specs.declared.upkeep.Job.{Job}
use Rattle.kt_engine.specs.declared.upkeep.Stage.TheVariants as stage
use Rattle.kt_engine.specs.Near.{first_number}
use Rattle.kt_engine.specs.Upkeeps.{job_in}
use Rattle.kt_engine.proofs.DeltaBoth.{begun_more}
use Rattle.kt_engine.proofs.JobBegins.{next_number, first_is, all_asked, compaction_begins}
use Rattle.kt_engine.proofs.Jobs.{compaction_on}
use Rattle.kt_engine.proofs.engine.Engine.begin_compaction.Goals as goal

-- the job is counted, and nothing else has changed
pub invariant_of-self : goal.invariant_of-self
invariant_of-self g c =
    let old = sym c.self.view_is in
    let job : Job = record { number = c.counts-begun.result.1 + 1; stage = stage.Begun; bound = 0; mark = 0; taken = c.args.taken; last_mem = c.active_number.result; many = c.count.result; first_rowset = c.next_numbers-first_rowset.result.0; first_file = c.next_numbers-first_rowset.result.1; inputs = None; outputs = c.none.result; superblock = 0; rowset = 0; dms = 0; read = None; returned = None; frozen = 0; again = None; output = None } in
    let count = c.begin.ensures.begun in
    let numbers = rw c.deref-2.ensures at c.next_numbers-first_rowset.ensures in
    let many : job.many ≡ c.self.inside.log.value.known.count + length (c.self.inside.log.value.out ++ c.self.inside.log.value.queued) =
    let is_count = rw c.deref-4.ensures at c.count.ensures in omega (arith, is_count, length-append c.self.inside.log.value.out c.self.inside.log.value.queued) in
    let last : job.last_mem ≡ first_number c.self.inside.tablet.value.names = first_is c.self.inside.tablet.value.names c.active_number.result (rw c.deref-3.ensures at c.active_number.ensures) in
    let few = rw old at c.requires.last in
    let none = rw old at c.requires.free in
    begun_more g.L.Disk.tells g.L.Disk.seen g.L.Disk.now g.L.Disk.leaves g.L.Disk.faults g.D.Disk.tells g.D.Disk.seen g.D.Disk.faults _ c.begin.new.self c.args.number c.args.asked (job_in c.args.asked job) c.begin.ensures.own
    (count.1 ∙ ap (λ n. n + 1) c.counts-begun.ensures.begun ∙ next_number c.self.inside.upkeep.begun) count.2 (rw old at c.requires.few) none refl c.self.invariant
    (compaction_on g.L.Disk.tells g.L.Disk.seen g.D.Disk.tells g.D.Disk.seen g.D.Disk.faults _ c.self.invariant.1 (job_in c.args.asked job) many (ap (λ p. p.0) numbers) few last)

pub returns : goal.returns
returns g c =
    let old = sym c.self.view_is in
    let job : Job = record { number = c.counts-begun.result.1 + 1; stage = stage.Begun; bound = 0; mark = 0; taken = c.args.taken; last_mem = c.active_number.result; many = c.count.result; first_rowset = c.next_numbers-first_rowset.result.0; first_file = c.next_numbers-first_rowset.result.1; inputs = None; outputs = c.none.result; superblock = 0; rowset = 0; dms = 0; read = None; returned = None; frozen = 0; again = None; output = None } in
    let count = c.begin.ensures.begun in
    let numbers = rw c.deref-2.ensures at c.next_numbers-first_rowset.ensures in
    let many : job.many ≡ c.self.inside.log.value.known.count + length (c.self.inside.log.value.out ++ c.self.inside.log.value.queued) =
    let is_count = rw c.deref-4.ensures at c.count.ensures in omega (arith, is_count, length-append c.self.inside.log.value.out c.self.inside.log.value.queued) in
    let last : job.last_mem ≡ first_number c.self.inside.tablet.value.names = first_is c.self.inside.tablet.value.names c.active_number.result (rw c.deref-3.ensures at c.active_number.ensures) in
    let few = rw old at c.requires.last in
    let none = rw old at c.requires.free in
    let side = rw c.deref.ensures at c.standing.ensures.side in
    rw old
    (compaction_begins _ c.self.inside.tablet.value c.begin.new.self c.args.number c.begin.result c.args.asked (job_in c.args.asked job) c.args.taken c.requires.compacts refl refl refl refl count.0 (ap (λ n. n + 1) c.counts-begun.ensures.begun) (count.1, count.2 ∙ none) (ap (λ p. p.0) numbers, ap (λ p. p.1) numbers)
    c.begin.ensures.own refl c.self.invariant.0.ready.shelved c.self.invariant.1.names_below few side.rowsets c.requires.some (all_asked c.args.taken c.self.inside.tablet.value.names (rw old at c.requires.all_there)) last many (rw c.deref-5.ensures at c.standing-2.ensures.named))
