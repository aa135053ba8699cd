use Rattle.std.proofs.Common.{◌≡◌, ◌+◌, ◌-◌, arith, sym, ap, ◌∙◌}
use Rattle.std.specs.Prelude.{slice_get}
use Rattle.std.specs.Option.{option_map}
use Rattle.std.proofs.lemmas.Bool.{false≢true}
use Rattle.kt_history.specs.declared.changes.KeyChange.{KeyChange}
use Rattle.kt_tablet.specs.SnapLaws.{not_true}
use Rattle.kt_tablet.proofs.Snaps.{below_before, reaches_itself, key_within}
use Rattle.kt_tablet.proofs.reading.start_at.Goals as goal

pub returns-then-at-eq0-clause-here : goal.returns-then-at-eq0-clause-here
returns-then-at-eq0-clause-here c = λ _. reaches_itself c.args.changes.now c.args.key.now c.args.at (c.is_key.ensures.0 c.if-not-is_key.false)

pub returns-else-at-eq0-clause-bound : goal.returns-else-at-eq0-clause-bound
returns-else-at-eq0-clause-bound c = λ _. omega (arith, key_within c.args.changes.now c.args.key.now c.args.at (c.is_key.ensures.0 c.if-not-is_key.false))

pub returns-else-at-eq0-clause-here : goal.returns-else-at-eq0-clause-here
returns-else-at-eq0-clause-here c = λ _. reaches_itself c.args.changes.now c.args.key.now c.args.at (c.is_key.ensures.0 c.if-not-is_key.false)

pub returns-else-at-eq0-clause-before : goal.returns-else-at-eq0-clause-before
returns-else-at-eq0-clause-before c = λ starts k is.
    let cs = c.args.changes.now in
    let before : c.args.at - 1 ≡ k = omega (arith, is) in
    let here : k + 1 ≡ c.args.at - 1 + 1 = omega (arith, is) in
    below_before cs c.args.key.now c.requires k (ap (λ n. option_map (λ (x : KeyChange). x.key) (slice_get cs n)) (sym is) ∙ c.is_key.ensures.0 c.if-not-is_key.false)
    (λ same. false≢true (sym (not_true _ starts) ∙ c.goes_on.ensures.1 (ap (λ n. option_map (λ (x : KeyChange). x.key) (slice_get cs n)) before ∙ same ∙ ap (λ n. option_map (λ (x : KeyChange). x.key) (slice_get cs n)) here)))
