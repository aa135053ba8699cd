use Rattle.std.proofs.Common.{◌+◌, None, map, refl, sym, ap, ◌∙◌}
use Rattle.kt_diskrowset.specs.Rowset.{held_of}
use Rattle.kt_engine.specs.declared.upkeep.Job.{Job}
use Rattle.kt_engine.specs.declared.upkeep.Stage.TheVariants as stage
use Rattle.kt_engine.specs.Upkeeps.{job_in}
use Rattle.kt_engine.proofs.DeltaBoth.{begun_more, begun_so, on_none}
use Rattle.kt_engine.proofs.JobBegins.{next_number}
use Rattle.kt_engine.proofs.engine.Engine.begin_deltas.Goals as goal

pub invariant_of-self : goal.invariant_of-self
invariant_of-self g c =
    let old = sym c.self.view_is in
    let job : Job = record { number = c.counts-begun.result.1 + 1; stage = stage.Begun; bound = 0; mark = 0; taken = c.of.result; last_mem = 0; many = 0; first_rowset = 0; first_file = 0; inputs = None; outputs = c.none.result; superblock = 0; rowset = c.args.rowset; dms = 0; read = None; returned = None; frozen = 0; again = None; output = None } in
    let count = c.begin.ensures.begun in
    begun_more g.L.Disk.tells g.L.Disk.seen g.L.Disk.now g.L.Disk.leaves g.L.Disk.faults g.D.Disk.tells g.D.Disk.seen g.D.Disk.faults _ c.begin.new.self c.args.number c.args.asked (job_in c.args.asked job) c.begin.ensures.own
    (count.1 ∙ ap (λ n. n + 1) c.counts-begun.ensures.begun ∙ next_number c.self.inside.upkeep.begun) count.2 (rw old at c.requires.few) (rw old at c.requires.free) refl c.self.invariant (on_none _ (job_in c.args.asked job) refl)

pub returns : goal.returns
returns g c =
    let old = sym c.self.view_is in
    let job : Job = record { number = c.counts-begun.result.1 + 1; stage = stage.Begun; bound = 0; mark = 0; taken = c.of.result; last_mem = 0; many = 0; first_rowset = 0; first_file = 0; inputs = None; outputs = c.none.result; superblock = 0; rowset = c.args.rowset; dms = 0; read = None; returned = None; frozen = 0; again = None; output = None } in
    let count = c.begin.ensures.begun in
    rw old
    (begun_so g.L.Disk.tells g.L.Disk.seen g.L.Disk.now g.L.Disk.leaves g.L.Disk.faults g.D.Disk.tells g.D.Disk.seen g.D.Disk.faults _ c.begin.new.self c.args.number c.begin.result c.args.asked (job_in c.args.asked job) refl refl count.0 (ap (λ n. n + 1) c.counts-begun.ensures.begun)
    (count.1, count.2 ∙ rw old at c.requires.free) c.requires.on (rw old at c.requires.there) (refl, ap (map held_of) c.none.ensures.0) c.begin.ensures.own)
