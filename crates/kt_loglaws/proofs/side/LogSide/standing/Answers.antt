use Rattle.std.proofs.Common.{◌≡◌, IsTrue, Some, subst}
use Rattle.kt_journal.specs.Open.{JournalView}
use Rattle.kt_loglaws.specs.Side.{SideView}
use Rattle.kt_loglaws.specs.Appended.{WasAppended}
use Rattle.kt_loglaws.proofs.Appended.{stands}
use Rattle.kt_loglaws.proofs.side.LogSide.standing.Goals as goal

pub returns : goal.returns
returns g c = record {
  moments = subst (λ (v : SideView _). IsTrue g.L.Disk.tells → (journal : JournalView _) → v.home ≡ Some journal → WasAppended g.L.Disk.seen g.L.Disk.now g.L.Disk.leaves v.whole v.first journal.disk) c.self.view_is
      (stands g.L.Disk.tells g.L.Disk.seen g.L.Disk.now g.L.Disk.leaves _ _ _ _ _ _ c.self.invariant.1);
}
