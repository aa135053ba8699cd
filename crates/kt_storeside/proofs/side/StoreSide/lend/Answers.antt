use Rattle.std.proofs.Common.{◌≡◌, Some, None, IsTrue, sym, subst}
use Rattle.kt_super.specs.declared.meta.Meta.{Meta}
use Rattle.kt_storeside.specs.Sides.{StoreView, Beginning, most_above, side_of, MayBeLent, IsSide}
use Rattle.kt_storeside.proofs.Sides.{out_stands}
use Rattle.kt_storeside.proofs.side.StoreSide.lend.Goals as goal

pub invariant_of-self : goal.invariant_of-self
invariant_of-self g c =
    let s = c.self.inside in
    let first : Beginning _ = record { device = s.first.value; most = most_above s.first_number s.first_meta.value s.first_mem.value s.first_rowset.value } in
    let at : (R : StoreView _ → Type 0) → R c.args.self.now → R (side_of s.home s.whole s.went.value s.by s.meta s.lent.value s.next_rowset s.next_file first) = λ R r. subst R (sym c.self.view_is) r in
    subst (λ h. IsSide g.D.Disk.tells g.D.Disk.seen g.D.Disk.now g.D.Disk.leaves g.D.Disk.faults (side_of h s.whole c.of.result.value c.args.number s.meta c.of-2.result.value s.next_rowset s.next_file first)) (sym c.in-Some.ensures.after)
    (subst (λ d. IsSide g.D.Disk.tells g.D.Disk.seen g.D.Disk.now g.D.Disk.leaves g.D.Disk.faults (side_of None s.whole d c.args.number s.meta c.of-2.result.value s.next_rowset s.next_file first)) (sym c.of.ensures)
    (subst (λ m. IsSide g.D.Disk.tells g.D.Disk.seen g.D.Disk.now g.D.Disk.leaves g.D.Disk.faults (side_of None s.whole c.in-Some.device c.args.number s.meta m s.next_rowset s.next_file first)) (sym c.of-2.ensures)
    (out_stands g.D.Disk.tells g.D.Disk.seen g.D.Disk.now g.D.Disk.leaves g.D.Disk.faults s.home s.whole s.went.value s.by s.meta s.lent.value s.next_rowset s.next_file first
    c.in-Some.device c.args.number c.args.meta c.self.invariant (sym c.in-Some.ensures.value) (at (λ v. IsTrue v.whole) c.requires.whole)
    (at (λ v. (m : Meta) → c.args.meta ≡ Some m → MayBeLent g.D.Disk.tells g.D.Disk.seen g.D.Disk.now g.D.Disk.leaves v m) c.requires.lent))))
