use Rattle.std.proofs.Common.{ℕ, List, map, sym, subst, ◌∙◌}
use Rattle.kt_diskrowset.specs.Rowset.{store_of, name_of, held_of}
use Rattle.kt_stores.specs.Takes.{Takes}
use Rattle.kt_tablet.specs.Jobs.{MayChangeOver, HasChangedOver}
use Rattle.kt_engine.specs.Jobs.{takes_by}
use Rattle.kt_engine.proofs.JobOut.{by_some, none_in, some_in}
use Rattle.kt_engine.proofs.job.leave_to.Goals as goal

-- without rowsets it is a flush
pub change_over-requires-clause-may : goal.change_over-requires-clause-may
change_over-requires-clause-may g c = subst (λ (l : List ℕ). MayChangeOver c.args.tablet.now (takes_by l c.args.last) (map (λ r. store_of r c.args.tablet.now.pool) c.args.outputs.items)) (none_in c.args.taken.now (sym c.is_empty.ensures ∙ c.if-is_empty.true)) c.requires.may

pub compact_over-requires-clause-may : goal.compact_over-requires-clause-may
compact_over-requires-clause-may g c =
    subst (λ (t : Takes). MayChangeOver c.args.tablet.now t (map (λ r. store_of r c.args.tablet.now.pool) c.args.outputs.items)) (by_some c.args.taken.now c.args.last (some_in c.args.taken.now (sym c.is_empty.ensures ∙ c.if-is_empty.false))) c.requires.may

pub returns-then-is_empty : goal.returns-then-is_empty
returns-then-is_empty g c =
    subst (λ (l : List ℕ). HasChangedOver c.args.tablet.now c.change_over.new.self (takes_by l c.args.last) (map (λ r. store_of r c.args.tablet.now.pool) c.args.outputs.items) (map name_of c.args.outputs.items) (map held_of c.args.outputs.items)) (sym (none_in c.args.taken.now (sym c.is_empty.ensures ∙ c.if-is_empty.true))) c.change_over.ensures

pub returns-else-is_empty : goal.returns-else-is_empty
returns-else-is_empty g c =
    subst (λ (t : Takes). HasChangedOver c.args.tablet.now c.compact_over.new.self t (map (λ r. store_of r c.args.tablet.now.pool) c.args.outputs.items) (map name_of c.args.outputs.items) (map held_of c.args.outputs.items))
    (sym (by_some c.args.taken.now c.args.last (some_in c.args.taken.now (sym c.is_empty.ensures ∙ c.if-is_empty.false)))) c.compact_over.ensures
