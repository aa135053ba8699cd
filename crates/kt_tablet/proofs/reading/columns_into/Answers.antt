use Rattle.std.proofs.Common.{◌≡◌, ℕ, Option, None, Some, sym, ◌∙◌, subst}
use Rattle.kt_history.specs.Rows.{Row, AgreeOn}
use Rattle.kt_history.proofs.Asking.{agree_self}
use Rattle.kt_tablet.specs.Bases.{row_by, RestsOn}
use Rattle.kt_tablet.proofs.Bases.{based}
use Rattle.kt_tablet.proofs.reading.columns_into.Goals as goal

pub columns_upon-requires : goal.columns_upon-requires
columns_upon-requires c =
    let rests = based c.args.fill.now c.args.key.now c.args.t c.args.changes.now c.base_of.result c.in-Some.base c.base_of.new.hint c.in-Some.is c.base_of.ensures.rests in
    record { inside = rests.inside; rests = rests }

pub returns-in_ok-columns_upon-in-Some : goal.returns-in_ok-columns_upon-in-Some
returns-in_ok-columns_upon-in-Some c = subst (λ (told : Option Row). AgreeOn c.args.ids.now told (Some c.columns_upon.new.row)) c.base_of.ensures.whole c.in_ok-columns_upon-in-Some.ensures

pub returns-in-None : goal.returns-in-None
returns-in-None c =
    let none : row_by c.args.fill.now c.args.changes.now c.args.key.now c.args.t c.base_of.new.hint ≡ None =
    subst (λ (base : Option ℕ). RestsOn c.args.fill.now c.args.changes.now c.args.key.now c.args.t base c.base_of.new.hint) c.in-None.is c.base_of.ensures.rests in
    subst (λ (told : Option Row). AgreeOn c.args.ids.now told None) (sym none ∙ c.base_of.ensures.whole) (agree_self c.args.ids.now None)
