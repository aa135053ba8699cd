use Rattle.std.proofs.Common.{false, true, ◌≡◌, sym, ◌∙◌, subst}
use Rattle.std.specs.Prelude.{IsTrue, IfOk}
use Rattle.kt_pick.specs.declared.rules.Want.{Want}
use Rattle.kt_pick.specs.declared.rules.Want.TheVariants as want
use Rattle.kt_engine.specs.DeltaJobs.{HasNoWork}
use Rattle.kt_engine.proofs.DeltaToDo.{told_nothing, on_of, some_on}
use Rattle.kt_engine.proofs.ToDo.{nothing_in}
use Rattle.kt_engine.proofs.engine.Engine.is_nothing.Goals as goal

pub returns-in-Compact-clause-nothing : goal.returns-in-Compact-clause-nothing
returns-in-Compact-clause-nothing g c =
    subst (λ (w : Want). IfOk c.is_no_compaction.result (λ b. IsTrue b → HasNoWork c.args.self.now w)) (sym c.in-Compact.is)
    (told_nothing c.args.self.now (want.Compact c.in-Compact.taken) c.is_no_compaction.result (nothing_in c.args.self.now (want.Compact c.in-Compact.taken) tt (λ full. let no : true ≡ false = sym (c.is_full.ensures.1 full) ∙ c.if-is_full.false in cc) c.is_no_compaction.result (rw c.as_slice.ensures at c.is_no_compaction.ensures)))

-- of a disk rowset that is there
pub returns-in-FlushDeltas-clause-something : goal.returns-in-FlushDeltas-clause-something
returns-in-FlushDeltas-clause-something g c = λ some.
    let there = c.has_no_work.ensures.there some in
    some_on c.args.self.now c.args.want.now c.in-FlushDeltas.rowset there.0 (on_of c.args.want.now c.in-FlushDeltas.rowset c.in-FlushDeltas.is) (λ full. let no : true ≡ false = sym (c.is_full.ensures.1 full) ∙ c.if-is_full.false in cc) there.1
