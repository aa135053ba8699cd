use Rattle.std.proofs.Common.{◌≡◌, ◌≤◌, ◌∷◌, ◌+◌, Option, Some, drop, arith, sym, ap, ◌∙◌, subst}
use Rattle.std.proofs.lemmas.List.{drop_more}
use Rattle.kt_history.specs.Rows.{Row, AgreeOn}
use Rattle.kt_scan.specs.Live.{row_in}
use Rattle.kt_scan.proofs.Asking.{first_found, first_missing}
use Rattle.kt_scan.proofs.keys.columns_into.Goals as goal

pub returns-then-found : goal.returns-then-found
returns-then-found g c =
    let at = c.loop-at.at in
    let view = c.index-views-at.result in
    let row = g.V.View.row_of in
    let parts : drop at c.args.views.now ≡ view ∷ drop (at + 1) c.args.views.now = drop_more c.args.views.now at view (omega arith) ∙ ap (λ v. v ∷ drop (at + 1) c.args.views.now) (sym c.index-views-at.is) in
    let since : g.V.View.mark view ≤ c.args.t = subst (λ v. g.V.View.mark v ≤ c.args.t) (sym c.index-views-at.is) (c.requires at view (omega arith)) in
    let told = rw c.if-found.true at (c.in_ok-found.ensures since) in
    subst (λ (o : Option Row). AgreeOn c.args.ids.now o (Some c.columns_into.new.row)) (sym (ap (λ vs. row_in row vs c.args.key.now c.args.t) parts) ∙ c.loop-at.invariant)
    (first_found c.args.ids.now (row view c.args.key.now c.args.t) (row_in row (drop (at + 1) c.args.views.now) c.args.key.now c.args.t) c.columns_into.new.row told)

pub loop-at-preserved : goal.loop-at-preserved
loop-at-preserved g c =
    let at = c.loop-at.at in
    let view = c.index-views-at.result in
    let row = g.V.View.row_of in
    let parts : drop at c.args.views.now ≡ view ∷ drop (at + 1) c.args.views.now = drop_more c.args.views.now at view (omega arith) ∙ ap (λ v. v ∷ drop (at + 1) c.args.views.now) (sym c.index-views-at.is) in
    let since : g.V.View.mark view ≤ c.args.t = subst (λ v. g.V.View.mark v ≤ c.args.t) (sym c.index-views-at.is) (c.requires at view (omega arith)) in
    let told = rw c.if-found.false at (c.in_ok-found.ensures since) in
    sym (first_missing c.args.ids.now (row view c.args.key.now c.args.t) (row_in row (drop (at + 1) c.args.views.now) c.args.key.now c.args.t) told)
    ∙ sym (ap (λ vs. row_in row vs c.args.key.now c.args.t) parts) ∙ c.loop-at.invariant
