use Rattle.std.proofs.Common.{◌≡◌, ◌+◌, ◌-◌, true, arith, sym, ap, ◌∙◌, subst}
use Rattle.std.specs.Prelude.{slice_get}
use Rattle.std.specs.Option.{option_map}
use Rattle.std.proofs.lemmas.Bool.{false≢true}
use Rattle.kt_history.specs.declared.changes.KeyChange.{KeyChange}
use Rattle.kt_tablet.specs.Snaps.{is_above_at}
use Rattle.kt_tablet.specs.SnapLaws.{not_true}
use Rattle.kt_tablet.proofs.Snaps.{above_next, not_above_itself}
use Rattle.kt_tablet.proofs.reading.end_at.Goals as goal

pub returns-clause-here : goal.returns-clause-here
returns-clause-here c = λ ends.
    let cs = c.args.changes.now in
    let q = c.args.key.now in
    let at : c.args.at - 1 + 1 ≡ c.args.at = omega arith in
    let last = c.is_key.ensures.0 c.if-not-is_key.false in
    subst (λ n. is_above_at q (option_map (λ (x : KeyChange). x.key) (slice_get cs n)) ≡ true) at (above_next cs q c.requires (c.args.at - 1) last (λ same. false≢true (sym (not_true _ ends) ∙ c.goes_on.ensures.1 same)))

pub returns-clause-before : goal.returns-clause-before
returns-clause-before c = λ ends k is.
    let cs = c.args.changes.now in
    let at : k ≡ c.args.at - 1 = omega (arith, is) in
    not_above_itself cs c.args.key.now k (ap (λ n. option_map (λ (x : KeyChange). x.key) (slice_get cs n)) at ∙ c.is_key.ensures.0 c.if-not-is_key.false)
