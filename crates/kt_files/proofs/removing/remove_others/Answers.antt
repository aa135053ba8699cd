use Rattle.std.proofs.Common.{◌≡◌, ◌∙◌, List, ℕ, sym, subst}
use Rattle.std.specs.List.{Contains}
use Rattle.kt_disk.specs.Disk.{Gone, Files}
use Rattle.kt_super.specs.declared.meta.MetaRowset.{MetaRowset}
use Rattle.kt_super.specs.Rowsets.{HaveTheSame}
use Rattle.kt_files.specs.Named.{named_in}
use Rattle.kt_files.proofs.Names.{kept_same}
use Rattle.kt_files.proofs.Removals.{spares_begun, all_gone}
use Rattle.kt_files.proofs.removing.remove_others.Goals as goal

pub returns-in_err-remove_all-clause-any_moment : goal.returns-in_err-remove_all-clause-any_moment
returns-in_err-remove_all-clause-any_moment g c told =
    let named = subst (λ (l : List MetaRowset). HaveTheSame c.in_ok-named.named.keys (named_in l)) c.as_slice.ensures c.in_ok-named.ensures in
    spares_begun g.D.Disk.seen _ _ _ _ _ _ _ named (c.files.ensures.images told) (c.remove_all.ensures.any_moment told)

pub returns-clause-any_moment : goal.returns-clause-any_moment
returns-clause-any_moment g c told =
    let named = subst (λ (l : List MetaRowset). HaveTheSame c.in_ok-named.named.keys (named_in l)) c.as_slice.ensures c.in_ok-named.ensures in
    spares_begun g.D.Disk.seen _ _ _ _ _ _ _ named (c.files.ensures.images told) (c.remove_all.ensures.any_moment told)

pub returns-clause-removed : goal.returns-clause-removed
returns-clause-removed g c told n removed =
    let seen = g.D.Disk.seen in
    let named = subst (λ (l : List MetaRowset). HaveTheSame c.in_ok-named.named.keys (named_in l)) c.as_slice.ensures c.in_ok-named.ensures in
    let same : seen c.files.new.self ≡ seen c.args.disk.now = c.files.ensures.seen told in
    all_gone c.in_ok-found.found (seen c.args.disk.now) (seen c.remove_all.new.disk) n (c.in_ok-found.ensures.files told)
    (λ listed. c.in_ok-remove_all.ensures.removed told n (subst (λ (l : List ℕ). Contains l n) (sym c.as_slice-2.ensures) listed) (kept_same c.in_ok-named.named.keys (named_in c.args.meta.now.rowsets) named n ∙ removed))
    (subst (λ (f : Files). Gone (f n) (seen c.remove_all.new.disk n)) same (c.in_ok-remove_all.ensures.others told n))
