use Rattle.std.proofs.Common.{◌≡◌, ◌≤◌, Some, IsTrue, true, false, sym, subst}
use Rattle.kt_base.specs.Causes.{Rose}
use Rattle.kt_disk.specs.Disk.{LeavesOnly}
use Rattle.kt_storeside.specs.Turns.{IsTurn, HasOneOf}
use Rattle.kt_storeside.specs.Sides.{StoreView, Beginning, most_above, side_of, published_in, HasEither, IsSide, LeavesSpelled}
use Rattle.kt_storeside.proofs.Sides.{broken_stands}
use Rattle.kt_storeside.proofs.side.StoreSide.come_broken.Goals as goal

pub invariant_of-self : goal.invariant_of-self
invariant_of-self g c =
    let s = c.self.inside in
    let first : Beginning _ = record { device = s.first.value; most = most_above s.first_number s.first_meta.value s.first_mem.value s.first_rowset.value } in
    let at : (R : StoreView _ → Type 0) → R c.args.self.now → R (side_of s.home s.whole s.went.value s.by s.meta s.lent.value s.next_rowset s.next_file first) = λ R r. subst R (sym c.self.view_is) r in
    subst (λ h. IsSide g.D.Disk.tells g.D.Disk.seen g.D.Disk.now g.D.Disk.leaves g.D.Disk.faults (side_of h false s.went.value s.by s.meta s.lent.value s.next_rowset s.next_file first)) (sym c.settle.ensures)
    (broken_stands g.D.Disk.tells g.D.Disk.seen g.D.Disk.now g.D.Disk.leaves g.D.Disk.faults s.home s.whole s.went.value s.by s.meta s.lent.value s.next_rowset s.next_file first
    c.args.lent.device c.args.number c.args.lent.next_file c.self.invariant (at (λ v. v.holder ≡ Some c.args.number) c.requires.out) (at (λ v. v.next_file ≤ c.args.lent.next_file) c.requires.numbers)
    (at (λ v. IsTrue g.D.Disk.tells → IsTurn g.D.Disk.seen g.D.Disk.now g.D.Disk.leaves v.next_file c.args.lent.next_file v.known c.args.lent.device) c.requires.turn)
    (at (λ v. IsTrue g.D.Disk.tells → HasOneOf g.D.Disk.now g.D.Disk.leaves v.meta (published_in true v.lent v.meta) c.args.lent.device) c.requires.one_of)
    (at (λ v. IsTrue g.D.Disk.tells → LeavesSpelled g.D.Disk.now g.D.Disk.leaves (g.D.Disk.seen v.known) v.lent c.args.lent.device) c.requires.spells)
    (at (λ v. Rose (g.D.Disk.faults v.known) (g.D.Disk.faults c.args.lent.device)) c.requires.rose)
    (at (λ v. IsTrue g.D.Disk.tells → LeavesOnly g.D.Disk.now g.D.Disk.leaves (HasEither g.D.Disk.seen v) v.known c.args.lent.device) c.requires.moments))
