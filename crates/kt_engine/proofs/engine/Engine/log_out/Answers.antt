use Rattle.std.proofs.Common.{◌≡◌, ℕ, Bool, false, Result, Ok, Err, Option, Some, ap, sym, ◌∙◌}
use Rattle.std.specs.Prelude.{IsErr}
use Rattle.std.specs.Result.{IsErrAnd}
use Rattle.kt_loglaws.specs.declared.side.LogNo.{LogNo as SideNo}
use Rattle.kt_loglaws.specs.declared.side.LogNo.TheVariants as side
use Rattle.kt_engine.specs.declared.log.LogNo.{LogNo}
use Rattle.kt_engine.specs.declared.log.LogNo.TheVariants as no
use Rattle.kt_engine.specs.Engines.{no_of}
use Rattle.kt_engine.proofs.Devices.{lends, both_whole}
use Rattle.kt_engine.proofs.Stored.{out_stored}
use Rattle.kt_engine.proofs.Visiting.{visit_of, not_lent, out_visit}
use Rattle.kt_engine.proofs.engine.Engine.log_out.Goals as goal

by_of : (why : SideNo) (by : ℕ) → no_of why ≡ no.Out by → why ≡ side.Out by
by_of (side.Out b) by h = let same : b ≡ by = cc in ap side.Out same
by_of side.Empty by h = absurd (let e : no.Empty ≡ no.Out by = h in cc)
by_of side.Memory by h = absurd (let e : no.Memory ≡ no.Out by = h in cc)

-- a pass has the log out where the log's side says so
told : {B T : Type 0} (found : Result T LogNo) (sent : Result B SideNo) (why : SideNo) (stopped : Bool) (holder : Option ℕ) → IsErr found × IsErrAnd found (λ e. e ≡ no_of why) → sent ≡ Err why → stopped ≡ false
    → ((by : ℕ) → (sent ≡ Err (side.Out by) → holder ≡ Some by) × (holder ≡ Some by → sent ≡ Err (side.Out by)))
    → (by : ℕ) → (found ≡ Err (no.Out by) → (stopped ≡ false) × (holder ≡ Some by)) × ((stopped ≡ false) × (holder ≡ Some by) → found ≡ Err (no.Out by))
told (Ok x) sent why stopped holder is was goes out by = absurd is.1
told (Err e) sent why stopped holder is was goes out by = (
  λ h. (goes, (out by).0 (let same : e ≡ no.Out by = cc in let at : no_of why ≡ no.Out by = cc in was ∙ ap Err (by_of why by at))),
  λ h. let back = (out by).1 h.1 in let same : why ≡ side.Out by = cc in ap Err (is.1 ∙ ap no_of same),
)

pub returns-in_err-log_out-clause-out : goal.returns-in_err-log_out-clause-out
returns-in_err-log_out-clause-out g c =
    let old = sym c.self.view_is in
    rw old (told c.from_residual.result c.log_out.result c.in_err-log_out.field-0.0 c.self.inside.tablet.value.core.stopped c.self.inside.log.value.holder c.from_residual.ensures c.in_err-log_out.was (rw c.deref.ensures at (sym c.if-is_stopped.ensures)) (rw c.deref_mut.ensures.value at c.log_out.ensures.out))

pub invariant_of-self-2 : goal.invariant_of-self-2
invariant_of-self-2 g c =
    let is = c.deref_mut.ensures.value in (
      lends g.L.Disk.tells g.L.Disk.seen g.L.Disk.now g.L.Disk.leaves g.L.Disk.faults _ c.log_out.new.self c.in_ok-log_out.field-0.journal c.args.number c.self.invariant.0 (rw c.deref.ensures at (sym c.if-is_stopped.ensures)) (rw is at c.in_ok-log_out.ensures.lent.0) (rw is at c.in_ok-log_out.ensures.known.0) (rw is at c.in_ok-log_out.ensures.known.1) (rw is at c.in_ok-log_out.ensures.lent.2),
      out_stored g.L.Disk.tells g.L.Disk.seen g.D.Disk.tells g.D.Disk.seen g.D.Disk.faults _ c.self.invariant.1 c.log_out.new.self c.args.number (rw is at c.in_ok-log_out.ensures.known.1) (rw is at c.in_ok-log_out.ensures.lent.2),
    )

pub returns-clause-out : goal.returns-clause-out
returns-clause-out g c =
    let old = sym c.self.view_is in
    let out = rw c.deref_mut.ensures.value at c.in_ok-log_out.ensures.out in
    λ by. (λ h. absurd (cc), λ h. let k = rw old at h in let back = (out by).1 k.1 in absurd (cc))

pub returns-clause-visit : goal.returns-clause-visit
returns-clause-visit g c =
    let is = c.deref_mut.ensures.value in
    let out = rw is at c.in_ok-log_out.ensures.out in
    visit_of _ _ _ _ c.self.view_is
    (out_visit c.args.number _ c.log_out.new.self
    (not_lent c.self.inside.log.value.holder (λ by h. let back = (out by).1 h in cc))
    (ap (λ l. l.holder) (rw is at c.in_ok-log_out.ensures.lent.2)) (ap (λ l. l.first) (rw is at c.in_ok-log_out.ensures.lent.2)))

-- a tablet that goes on has its log whole
pub log_out-requires : goal.log_out-requires
log_out-requires g c =
    let goes = rw c.deref.ensures at (sym c.if-is_stopped.ensures) in
    record { whole = rw c.deref_mut.ensures.value (both_whole c.self.inside.log.value.whole c.self.inside.store.value.whole (sym goes ∙ c.self.invariant.0.whole)).0 }
