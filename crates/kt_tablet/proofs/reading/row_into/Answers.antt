use Rattle.std.proofs.Common.{◌≡◌, ℕ, Option, None, sym, ◌∙◌, subst}
use Rattle.kt_tablet.specs.Bases.{row_by, RestsOn}
use Rattle.kt_tablet.proofs.Bases.{based}
use Rattle.kt_tablet.proofs.reading.row_into.Goals as goal

pub row_upon-requires : goal.row_upon-requires
row_upon-requires c = based c.args.fill.now c.args.key.now c.args.t c.args.changes.now c.base_of.result c.in-Some.base c.base_of.new.hint c.in-Some.is c.base_of.ensures.rests

pub returns-in_ok-row_upon-in-Some : goal.returns-in_ok-row_upon-in-Some
returns-in_ok-row_upon-in-Some c = c.in_ok-row_upon-in-Some.ensures ∙ c.base_of.ensures.whole

pub returns-in-None : goal.returns-in-None
returns-in-None c =
    let none : row_by c.args.fill.now c.args.changes.now c.args.key.now c.args.t c.base_of.new.hint ≡ None =
    subst (λ (base : Option ℕ). RestsOn c.args.fill.now c.args.changes.now c.args.key.now c.args.t base c.base_of.new.hint) c.in-None.is c.base_of.ensures.rests in
    sym none ∙ c.base_of.ensures.whole
