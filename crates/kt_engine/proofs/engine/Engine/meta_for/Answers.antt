use Rattle.std.proofs.Common.{◌≡◌, Some, None, subst, rules}
use Rattle.kt_super.specs.declared.meta.Meta.{Meta}
use Rattle.kt_storeside.specs.Sides.{MayBeLent}
use Rattle.kt_engine.specs.declared.store.Purpose.TheVariants as purpose
use Rattle.kt_engine.specs.Engines.{EngineView}
use Rattle.kt_engine.specs.Stored.{next_super}
use Rattle.kt_engine.proofs.StorePurposes.{lent_of_meta}
use Rattle.kt_engine.proofs.engine.Engine.meta_for.Goals as goal

-- nothing goes out for files
pub returns-in-Write-clause-lent : goal.returns-in-Write-clause-lent
returns-in-Write-clause-lent g c = λ m new. absurd (let no : None ≡ Some m = new in cc)

pub returns-in_ok-meta-in-Publish-clause-lent : goal.returns-in_ok-meta-in-Publish-clause-lent
returns-in_ok-meta-in-Publish-clause-lent g c = λ m new.
    let same : c.in_ok-meta-in-Publish.meta ≡ m = cc in
    let is : c.in_ok-next-in-Publish.next ≡ next_super c.args.self.now = search rules in
    let goes : c.args.purpose ≡ purpose.Publish = search rules in
    let inside : MayBeLent g.D.Disk.tells g.D.Disk.seen g.D.Disk.now g.D.Disk.leaves c.self.inside.store.value c.in_ok-next-in-Publish.next = rw c.deref.ensures at c.in_ok-next-in-Publish.ensures.lent in
    subst (λ (o : Meta). MayBeLent g.D.Disk.tells g.D.Disk.seen g.D.Disk.now g.D.Disk.leaves c.args.self.now.store o) same
    (lent_of_meta (λ (o : Meta). MayBeLent g.D.Disk.tells g.D.Disk.seen g.D.Disk.now g.D.Disk.leaves c.args.self.now.store o) c.args.number c.args.self.now c.in_ok-next-in-Publish.next c.in_ok-meta-in-Publish.meta is
    (subst (λ (v : EngineView _ _ _). MayBeLent g.D.Disk.tells g.D.Disk.seen g.D.Disk.now g.D.Disk.leaves v.store c.in_ok-next-in-Publish.next) c.self.view_is inside)
    c.in_ok-meta-in-Publish.ensures.meta (λ job has. c.requires.job job goes has) c.in_ok-meta-in-Publish.ensures.small)
