use Rattle.std.proofs.Common.{◌≡◌, ap, subst, sym, ◌∙◌, arith, refl}
use Rattle.kt_serve.specs.Sessions.{Applies}
use Rattle.kt_serve.proofs.Applies.{may_apply, applies_one, applies_none, applies_then}
use Rattle.kt_serve.proofs.rows.apply_part.Goals as goal

pub loop-row-init : goal.loop-row-init
loop-row-init g c = (applies_none c.args.engine.now c.args.by c.args.at, c.requires.goes, refl, refl, refl)

pub apply_row-requires-clause-next : goal.apply_row-requires-clause-next
apply_row-requires-clause-next g c =
    let a = c.requires.flies in
    let before = c.loop-row.invariant.0 in
    λ _. may_apply c.loop-row.engine c.args.by a.0 a.1 c.loop-row.row a.2 (before.flight a.0 a.1 a.2 a.3) (omega (arith, a.4))

pub apply_row-requires-clause-durable : goal.apply_row-requires-clause-durable
apply_row-requires-clause-durable g c =
    let p = c.requires.durable in
    λ _. (p.0, rw c.loop-row.invariant.2 p.1, rw c.loop-row.invariant.0.log p.2)

pub loop-row-preserved : goal.loop-row-preserved
loop-row-preserved g c = (
  applies_then _ _ _ c.args.by c.args.at c.loop-row.row _ c.visit_law.ensures c.loop-row.invariant.0 (applies_one c.loop-row.engine c.apply_row.new.self c.args.by c.loop-row.row _ c.in-Ok.ensures.applied c.apply_row.ensures.visit (ap (λ v. v.log) c.apply_row.ensures.beside)),
  ap (λ v. v.stopped) c.in-Ok.ensures.applied.core ∙ c.loop-row.invariant.1,
  ap (λ v. v.tablet.places) c.apply_row.ensures.beside ∙ c.loop-row.invariant.2,
  ap (λ v. v.store) c.apply_row.ensures.beside ∙ c.loop-row.invariant.3,
  ap (λ v. v.upkeep) c.apply_row.ensures.beside ∙ c.loop-row.invariant.4,
)

pub returns-clause-applied : goal.returns-clause-applied
returns-clause-applied g c =
    let last : c.args.to ≡ c.loop-row.row = omega arith in
    subst (λ k. Applies c.args.engine.now c.loop-row.engine c.args.by c.args.at k) (sym last) c.loop-row.invariant.0
