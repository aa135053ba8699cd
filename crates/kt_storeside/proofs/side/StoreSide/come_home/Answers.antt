use Rattle.std.proofs.Common.{◌≡◌, ◌≤◌, Some, IsTrue, sym, subst}
use Rattle.std.specs.Prelude.{Ok}
use Rattle.kt_disk.specs.Disk.{LeavesOnly}
use Rattle.kt_super.specs.Slots.{super_of}
use Rattle.kt_storeside.specs.Turns.{IsTurn}
use Rattle.kt_storeside.specs.Sides.{StoreView, Beginning, most_above, side_of, published_in, HasEither, SpellLent, IsSide}
use Rattle.kt_storeside.proofs.Sides.{home_stands}
use Rattle.kt_storeside.proofs.side.StoreSide.come_home.Goals as goal

pub invariant_of-self : goal.invariant_of-self
invariant_of-self g c =
    let s = c.self.inside in
    let first : Beginning _ = record { device = s.first.value; most = most_above s.first_number s.first_meta.value s.first_mem.value s.first_rowset.value } in
    let at : (R : StoreView _ → Type 0) → R c.args.self.now → R (side_of s.home s.whole s.went.value s.by s.meta s.lent.value s.next_rowset s.next_file first) = λ R r. subst R (sym c.self.view_is) r in
    subst (λ h. IsSide g.D.Disk.tells g.D.Disk.seen g.D.Disk.now g.D.Disk.leaves g.D.Disk.faults (side_of h s.whole s.went.value s.by c.put_published.new.place s.lent.value c.args.lent.next_rowset c.args.lent.next_file first)) (sym c.settle.ensures)
    (subst (λ m. IsSide g.D.Disk.tells g.D.Disk.seen g.D.Disk.now g.D.Disk.leaves g.D.Disk.faults (side_of (Some c.args.lent.device) s.whole s.went.value s.by m s.lent.value c.args.lent.next_rowset c.args.lent.next_file first)) (sym c.put_published.ensures)
    (home_stands g.D.Disk.tells g.D.Disk.seen g.D.Disk.now g.D.Disk.leaves g.D.Disk.faults s.home s.whole s.went.value s.by s.meta s.lent.value s.next_rowset s.next_file first
    c.args.lent.device c.args.number c.args.published c.args.lent.meta c.args.lent.next_rowset c.args.lent.next_file c.self.invariant (at (λ v. v.holder ≡ Some c.args.number) c.requires.out)
    (at (λ v. IsTrue v.whole) c.requires.whole) (at (λ v. c.args.lent.meta ≡ v.lent) c.requires.meta)
    (at (λ v. v.next_rowset ≤ c.args.lent.next_rowset) c.requires.numbers.0) (at (λ v. v.next_file ≤ c.args.lent.next_file) c.requires.numbers.1)
    (at (λ v. IsTrue g.D.Disk.tells → IsTurn g.D.Disk.seen g.D.Disk.now g.D.Disk.leaves v.next_file c.args.lent.next_file v.known c.args.lent.device) c.requires.turn)
    (at (λ v. IsTrue g.D.Disk.tells → super_of (g.D.Disk.seen c.args.lent.device) ≡ Ok (Some (published_in c.args.published c.args.lent.meta v.meta))) c.requires.superblock) c.requires.slots
    (at (λ v. IsTrue g.D.Disk.tells → SpellLent (g.D.Disk.seen v.known) c.args.lent.meta (g.D.Disk.seen c.args.lent.device)) c.requires.spells)
    (at (λ v. IsTrue g.D.Disk.tells → LeavesOnly g.D.Disk.now g.D.Disk.leaves (HasEither g.D.Disk.seen v) v.known c.args.lent.device) c.requires.moments)))
