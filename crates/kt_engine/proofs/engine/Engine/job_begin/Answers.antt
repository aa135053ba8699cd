use Rattle.std.proofs.Common.{◌≡◌, true, false, Some, sym, ap, ◌∙◌}
use Rattle.kt_engine.specs.JobSteps.{first_holder}
use Rattle.kt_engine.proofs.DeltaToDo.{begins_there}
use Rattle.kt_engine.proofs.ToDo.{begins_few, begins_last, begins_taken}
use Rattle.kt_engine.proofs.engine.Engine.job_begin.Goals as goal

pub returns-then-nothing-clause-nothing : goal.returns-then-nothing-clause-nothing
returns-then-nothing-clause-nothing g c = λ e. (sym c.is_stopped.ensures ∙ c.if-is_stopped.false, c.in_ok-nothing.ensures.nothing c.if-nothing.true)

pub returns-then-nothing-clause-holds : goal.returns-then-nothing-clause-holds
returns-then-nothing-clause-holds g c = λ by open_ some holder. absurd (some (c.in_ok-nothing.ensures.nothing c.if-nothing.true))

pub returns-in-Some-clause-none_to_do : goal.returns-in-Some-clause-none_to_do
returns-in-Some-clause-none_to_do g c = λ open_ none. absurd (c.in_ok-nothing.ensures.something c.if-nothing.false none)

-- the first job that holds an input
pub returns-in-Some-clause-held : goal.returns-in-Some-clause-held
returns-in-Some-clause-held g c = λ by e.
    let first : first_holder c.args.want.now c.args.self.now.upkeep.passes ≡ Some c.in-Some.by = rw (sym c.self.view_is) (sym c.holder_of-holder.ensures ∙ c.in-Some.is) in
    (sym c.is_stopped.ensures ∙ c.if-is_stopped.false, c.in_ok-nothing.ensures.something c.if-nothing.false, (let same : c.in-Some.by ≡ by = cc in first ∙ ap Some same))

pub begin_job-requires-clause-few : goal.begin_job-requires-clause-few
begin_job-requires-clause-few g c = begins_few c.args.self.now c.make_place.new.self c.args.want.now c.in_ok-make_place.ensures.same (c.in_ok-nothing.ensures.something c.if-nothing.false)

pub begin_job-requires-clause-last : goal.begin_job-requires-clause-last
begin_job-requires-clause-last g c = begins_last c.args.self.now c.make_place.new.self c.args.want.now c.in_ok-make_place.ensures.same (c.in_ok-nothing.ensures.something c.if-nothing.false)

pub begin_job-requires-clause-taken : goal.begin_job-requires-clause-taken
begin_job-requires-clause-taken g c = begins_taken c.args.self.now c.make_place.new.self c.args.want.now c.in_ok-asked.asked c.in_ok-make_place.ensures.same c.in_ok-asked.ensures (c.in_ok-nothing.ensures.something c.if-nothing.false)

pub begin_job-requires-clause-rowset : goal.begin_job-requires-clause-rowset
begin_job-requires-clause-rowset g c = begins_there c.args.self.now c.make_place.new.self c.args.want.now c.in_ok-asked.asked c.in_ok-make_place.ensures.same c.in_ok-asked.ensures (c.in_ok-nothing.ensures.there c.if-nothing.false)

pub returns-clause-none_to_do : goal.returns-clause-none_to_do
returns-clause-none_to_do g c = λ open_ none. absurd (c.in_ok-nothing.ensures.something c.if-nothing.false none)
