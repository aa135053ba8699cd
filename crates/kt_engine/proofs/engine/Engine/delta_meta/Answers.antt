use Rattle.std.proofs.Common.{◌≡◌, ◌<◌, ◌^◌, ◌∙◌, Some, true, sym, ap, subst, arith, rules}
use Rattle.std.proofs.lemmas.Bool.{lt-ltb}
use Rattle.kt_super.specs.declared.meta.Meta.{Meta}
use Rattle.kt_super.specs.Rowsets.{is_small}
use Rattle.kt_outputs.specs.InPlace.{in_place}
use Rattle.kt_outputs.specs.Outputs.{meta_in}
use Rattle.kt_storeside.specs.Sides.{MayBeLent}
use Rattle.kt_engine.specs.DeltaJobs.{delta_meta}
use Rattle.kt_engine.specs.Engines.{EngineView}
use Rattle.kt_engine.specs.Jobs.{JobView, job_of}
use Rattle.kt_engine.specs.Near.{most_deltas}
use Rattle.kt_engine.specs.Stored.{IsStored, next_super}
use Rattle.kt_engine.specs.Upkeeps.{job_in}
use Rattle.kt_engine.proofs.JobMetas.{same_job}
use Rattle.kt_engine.proofs.Within.{deltas_within}
use Rattle.kt_engine.proofs.engine.Engine.delta_meta.Goals as goal

-- it lies within the bounds of the store, as the next one does
pub returns-clause-lent : goal.returns-clause-lent
returns-clause-lent g c =
    let may = c.requires.may in
    let is = subst (λ (v : EngineView _ _ _). IsStored g.L.Disk.tells g.L.Disk.seen g.D.Disk.tells g.D.Disk.seen g.D.Disk.faults v) c.self.view_is c.self.invariant.1 in
    let same : job_in c.in-Some.ensures.0 c.in-Some.job.now ≡ may.0 = same_job c.in-Some.ensures.0 c.in-Some.job.now may.0 _ c.in-Some.ensures.1 (subst (λ (v : EngineView _ _ _). job_of c.args.number v.upkeep ≡ Some may.0) (sym c.self.view_is) may.1.1) in
    let dms : c.in-Some.job.now.dms ≡ may.0.dms = ap (λ (j : JobView). j.dms) same in
    let output = ap (λ (j : JobView). j.output) same ∙ may.1.2.output in
    let rowset : c.in-Some-output.rowset ≡ may.1.0 = (let one : Some c.in-Some-output.rowset ≡ Some may.1.0 = sym c.in-Some-output.is ∙ output in cc) in
    let next_is : c.in_ok-next.next ≡ next_super c.args.self.now = search rules in
    let inside : MayBeLent g.D.Disk.tells g.D.Disk.seen g.D.Disk.now g.D.Disk.leaves c.self.inside.store.value c.in_ok-next.next = rw c.deref-2.ensures at c.in_ok-next.ensures.lent in
    let next : MayBeLent g.D.Disk.tells g.D.Disk.seen g.D.Disk.now g.D.Disk.leaves c.args.self.now.store (next_super c.args.self.now) =
    subst (MayBeLent g.D.Disk.tells g.D.Disk.seen g.D.Disk.now g.D.Disk.leaves c.args.self.now.store) next_is
    (subst (λ (v : EngineView _ _ _). MayBeLent g.D.Disk.tells g.D.Disk.seen g.D.Disk.now g.D.Disk.leaves v.store c.in_ok-next.next) c.self.view_is inside) in
    let low = c.if-dms-ge-SMALL.false in
    let small : is_small may.0.dms ≡ true = lt-ltb may.0.dms (2 ^ 62) (omega (arith, low, dms)) in
    let list : c.of.result ≡ in_place (meta_in may.0.dms may.1.0) c.args.self.now.store.meta.rowsets =
    search rules in
    let meta : ◌≡◌ {A = Meta} (record { number = c.in_ok-next.next.number; a = c.in_ok-next.next.a; c = c.in_ok-next.next.c; need = c.in_ok-next.next.need; last_mem = c.in_ok-next.next.last_mem; next_rowset = c.in_ok-next.next.next_rowset; next_file = c.in_ok-next.next.next_file; next_column = c.in_ok-next.next.next_column; schema = c.in_ok-next.next.schema; rowsets = c.of.result }) (delta_meta c.args.self.now may.0.dms may.1.0) =
    λ i. record {
      number = (next_is i).number;
      a = (next_is i).a;
      c = (next_is i).c;
      need = (next_is i).need;
      last_mem = (next_is i).last_mem;
      next_rowset = (next_is i).next_rowset;
      next_file = (next_is i).next_file;
      next_column = (next_is i).next_column;
      schema = (next_is i).schema;
      rowsets = list i;
    } in
    let near : may.0.dms < most_deltas c.args.self.now.first_rowset = search rules in
    subst (MayBeLent g.D.Disk.tells g.D.Disk.seen g.D.Disk.now g.D.Disk.leaves c.args.self.now.store) (sym meta)
    (may.1.2.lent next small (deltas_within c.args.self.now may.0.dms may.1.0 c.args.self.now.store.first.most is.room near next.within))
