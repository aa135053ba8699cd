use Rattle.std.proofs.Common.{◌≡◌, IsTrue, Some, refl, subst}
use Rattle.kt_disk.specs.Disk.{Files}
use Rattle.kt_storeside.specs.Sides.{StoreView, most_above, SpellMade}
use Rattle.kt_storeside.specs.Published.{WasPublished}
use Rattle.kt_storeside.proofs.Sides.{home_is_known, images_made, left_since}
use Rattle.kt_storeside.proofs.side.StoreSide.standing.Goals as goal

pub returns-clause-made : goal.returns-clause-made
returns-clause-made g c =
    subst (λ (v : StoreView _). IsTrue g.D.Disk.tells → (device : _) → v.home ≡ Some device → (image : Files) → g.D.Disk.leaves device (g.D.Disk.now device) image → SpellMade g.D.Disk.seen v image) c.self.view_is
    (images_made g.D.Disk.tells g.D.Disk.seen g.D.Disk.now g.D.Disk.leaves g.D.Disk.faults _ c.self.invariant)

pub returns-clause-moments : goal.returns-clause-moments
returns-clause-moments g c =
    let s = c.self.inside in
    subst (λ (v : StoreView _). IsTrue g.D.Disk.tells → (device : _) → v.home ≡ Some device → WasPublished g.D.Disk.seen g.D.Disk.now g.D.Disk.leaves v.first.device device) c.self.view_is
    (left_since g.D.Disk.tells g.D.Disk.seen g.D.Disk.now g.D.Disk.leaves g.D.Disk.faults _ c.self.invariant
    (home_is_known g.D.Disk.tells g.D.Disk.seen g.D.Disk.now g.D.Disk.leaves g.D.Disk.faults _ s.home s.whole s.went.value s.by s.meta s.lent.value s.next_rowset s.next_file (record { device = s.first.value; most = most_above s.first_number s.first_meta.value s.first_mem.value s.first_rowset.value }) refl))
