use Rattle.std.proofs.Common.{◌≡◌, Option, Some, None, Bor, sym, ap, ◌∙◌}
use Rattle.std.specs.Prelude.{MatchOption}
use Rattle.std.specs.Option.{option_map, option_copied}
use Rattle.kt_pick.specs.declared.rules.Want.{Want}
use Rattle.kt_engine.specs.declared.upkeep.Job.{Job}
use Rattle.kt_engine.specs.Jobs.{JobView, UpkeepView}
use Rattle.kt_engine.specs.Upkeeps.{job_in}
use Rattle.kt_engine.proofs.Passes.{not_there, has_at}
use Rattle.kt_engine.proofs.upkeep.Upkeeps.job.Goals as goal

-- what is read is what is there
read_as : (w : Want) (found : Option (Bor Job)) (o : Option Job) (is : Option JobView) → option_copied found ≡ o → is ≡ option_map (job_in w) o → MatchOption found (is ≡ None) (λ read. (v : Want) × (is ≡ Some (job_in v read.now)))
read_as w None o is e same = same ∙ sym (ap (option_map (job_in w)) e)
read_as w (Some j) o is e same = (w, same ∙ sym (ap (option_map (job_in w)) e))

pub returns-in_err-at : goal.returns-in_err-at
returns-in_err-at c = rw c.from_residual.ensures (ap (λ (u : UpkeepView). u.job) (not_there c.args.self.now.passes c.args.pass c.in_err-at.ensures))

pub returns : goal.returns
returns c =
    let there = rw (sym c.self.view_is) at c.in_ok-at.ensures in
    rw (sym c.self.view_is) (read_as c.index.result.now.want c.as_ref.result c.index.result.now.job _ c.as_ref.ensures.value
    (ap (λ (u : UpkeepView). u.job) (has_at c.self.inside.passes.items c.in_ok-at.at c.args.pass c.index.result.now c.index.ensures there.0 there.1 c.self.invariant)))
