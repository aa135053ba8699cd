use Rattle.std.proofs.Common.{◌≡◌, ◌∙◌, ◌≤◌, Some, false, length, map, ap, subst, arith}
use Rattle.std.specs.List.{AllByRecursion}
use Rattle.std.proofs.lemmas.List.{length-map, take_all}
use Rattle.kt_history.specs.Stores.{Store}
use Rattle.kt_diskrowset.specs.declared.rowset.DiskRowSet.{DiskRowSet}
use Rattle.kt_diskrowset.specs.Rowset as rowset
use Rattle.kt_content.specs.Places.{Place, disk}
use Rattle.kt_reopen.specs.Standing.{placed}
use Rattle.kt_reopen.specs.Steps.{had_in}
use Rattle.kt_reopen.proofs.Joined.{had_is, none_more}
use Rattle.kt_reopen.proofs.replaying.live_before.Goals as goal

pub stores-preserved : goal.stores-preserved
stores-preserved c = λ fill.
    let o = c.args.stores.now in
    none_more c.args.ts c.args.key.now (placed fill o) c.stores.at (c.stores.invariant fill)
    (λ s there. had_is c.args.ts c.args.key.now c.stores.at (placed fill o) false s (c.in_ok-had.ensures fill ∙ ap (λ b. Some b) c.if-branch.false) there)

pub returns : goal.returns
returns c = λ fill.
    let o = c.args.stores.now in
    let each : DiskRowSet → Place × Store = λ d. (disk (rowset.held_of d).number, rowset.store_of d o.pool) in
    let long : length (placed fill o) ≤ c.stores.at = omega (arith, length-map o.rowsets.items each) in
    subst (AllByRecursion (λ (s : Place × Store). had_in c.args.ts c.args.key.now s ≡ false)) (take_all c.stores.at (placed fill o) long) (c.stores.invariant fill)
