use Rattle.std.proofs.Common.{◌≡◌, ◌∙◌, ◌+◌, List, Some, None, get_or, sym, ap}
use Rattle.std.specs.Prelude.{◌==◌, nat_lt}
use Rattle.std.specs.Bool.{then_some}
use Rattle.std.specs.Option.{option_map}
use Rattle.std.specs.List.{position}
use Rattle.kt_super.specs.declared.meta.MetaRowset.{MetaRowset}
use Rattle.kt_reopen.specs.Bare.{bare, place_at}
use Rattle.kt_reopen.proofs.Needing.{needs_none, needs_at}
use Rattle.kt_reopen.proofs.needed.place_of.Goals as goal

pub returns-in_err-at-in-Delta-clause-place : goal.returns-in_err-at-in-Delta-clause-place
returns-in_err-at-in-Delta-clause-place c =
    let m = c.args.meta.now in
    let r = c.in-Delta.rowset in
    let nowhere : position (λ (x : MetaRowset). x.rowset == r) m.rowsets ≡ None = ap (position (λ (x : MetaRowset). x.rowset == r)) (sym c.as_slice.ensures) ∙ sym c.rowset_at.ensures ∙ c.in_err-at-in-Delta.was in
    rw c.in-Delta.is (ap (option_map (place_at (bare m))) c.from_residual.ensures ∙ sym (needs_none m r c.in-Delta.dms nowhere))

pub returns-in_ok-at-in-Delta-clause-place : goal.returns-in_ok-at-in-Delta-clause-place
returns-in_ok-at-in-Delta-clause-place c =
    let m = c.args.meta.now in
    let r = c.in-Delta.rowset in
    let n = c.in-Delta.dms in
    let at = c.in_ok-at-in-Delta.at in
    let x = c.index-as_slice-at.result in
    let found : position (λ (x : MetaRowset). x.rowset == r) m.rowsets ≡ Some at = ap (position (λ (x : MetaRowset). x.rowset == r)) (sym c.as_slice.ensures) ∙ sym c.rowset_at.ensures ∙ c.in_ok-at-in-Delta.was in
    let is : x ≡ get_or m.rowsets at x = c.index-as_slice-at.is ∙ ap (λ (l : List MetaRowset). get_or l at x) c.as_slice-in-Delta.ensures in
    rw c.in-Delta.is (
    ap (option_map (place_at (bare m))) c.then_some-in-Delta.ensures
    ∙ ap (λ (y : MetaRowset). option_map (place_at (bare m)) (then_some (nat_lt y.last_dms n) (1 + at))) (sym c.index-as_slice-at.is)
    ∙ needs_at m r n at x found is
    )
