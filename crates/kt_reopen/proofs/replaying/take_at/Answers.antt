use Rattle.std.proofs.Common.{◌≡◌, ◌∙◌, ◌-◌, false, Some, None, suc, sym, ap, subst, arith, rules}
use Rattle.kt_history.specs.declared.target.Kindly.TheVariants.{Ins}
use Rattle.kt_history.specs.Rows.{Row}
use Rattle.kt_history.specs.Stores.{kind_made}
use Rattle.kt_reopen.specs.Standing.{placed, KeyUnderAt}
use Rattle.kt_reopen.specs.Steps.{had_at}
use Rattle.kt_reopen.specs.Walks.{FitsAt}
use Rattle.kt_reopen.proofs.Doing.{fits_none, fits_no_insert, fits_done}
use Rattle.kt_reopen.proofs.replaying.take_at.Goals as goal

pub take_in_mem-requires-clause-under : goal.take_in_mem-requires-clause-under
take_in_mem-requires-clause-under c = subst (λ n. KeyUnderAt c.args.ts c.args.op.now.key n c.args.stores.now) c.if-at-eq0.true c.requires.may.under

pub returns-then-at-eq0 : goal.returns-then-at-eq0
returns-then-at-eq0 c = subst (λ n. FitsAt c.args.stores.now c.take_in_mem.new.self n c.args.ts c.args.op.now c.take_in_mem.result) (sym c.if-at-eq0.true) c.take_in_mem.ensures

pub returns-in_default : goal.returns-in_default
returns-in_default c =
    let o = c.args.stores.now in
    let op = c.args.op.now in
    let had = c.in_ok-had.had in
    let found : (fill : Row) → had_at c.args.ts op.key c.args.at (placed fill o) ≡ Some had = λ fill. ap (λ q. had_at c.args.ts q c.args.at (placed fill o)) (sym c.key.ensures) ∙ c.in_ok-had.ensures fill in
    let none : kind_made op.kind had ≡ None = sym (c.kind_made.ensures ∙ ap (λ k. kind_made k had) c.kind.ensures) ∙ c.in_default.is in
    fits_none o c.args.at c.args.ts op had found o none

pub returns-then-eq : goal.returns-then-eq
returns-then-eq c =
    let o = c.args.stores.now in
    let op = c.args.op.now in
    let had = c.in_ok-had.had in
    let i = c.args.at - 1 in
    let place : c.args.at ≡ suc i = omega arith in
    let found : (fill : Row) → had_at c.args.ts op.key (suc i) (placed fill o) ≡ Some had =
    λ fill. ap (λ n. had_at c.args.ts op.key n (placed fill o)) (sym place) ∙ ap (λ q. had_at c.args.ts q c.args.at (placed fill o)) (sym c.key.ensures) ∙ c.in_ok-had.ensures fill in
    let ins : c.in-Some.kind ≡ Ins = search rules in
    let made : kind_made op.kind had ≡ Some Ins = sym (c.kind_made.ensures ∙ ap (λ k. kind_made k had) c.kind.ensures) ∙ c.in-Some.is ∙ ap (λ k. Some k) ins in
    subst (λ n. FitsAt o o n c.args.ts op false) (sym place) (fits_no_insert o o i c.args.ts op had found made)

pub returns : goal.returns
returns c =
    let o = c.args.stores.now in
    let op = c.args.op.now in
    let had = c.in_ok-had.had in
    let found : (fill : Row) → had_at c.args.ts op.key c.args.at (placed fill o) ≡ Some had = λ fill. ap (λ q. had_at c.args.ts q c.args.at (placed fill o)) (sym c.key.ensures) ∙ c.in_ok-had.ensures fill in
    let made : kind_made op.kind had ≡ Some c.in-Some.kind = sym (c.kind_made.ensures ∙ ap (λ k. kind_made k had) c.kind.ensures) ∙ c.in-Some.is in
    let low : c.in-Some.kind ≡ Ins → c.args.at ≡ 0 = λ ins. absurd (search rules) in
    fits_done o c.join.new.self c.args.at c.args.ts op had c.in-Some.kind found made low c.join.ensures.joins
