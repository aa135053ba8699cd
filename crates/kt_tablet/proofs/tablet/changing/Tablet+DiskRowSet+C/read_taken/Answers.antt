use Rattle.std.proofs.Common.{ap, ◌∙◌}
use Rattle.std.proofs.lemmas.Result.{IfOk-weaker}
use Rattle.kt_stores.specs.Takes.{files_taken}
use Rattle.kt_tablet.specs.Jobs.{taken_rowsets}
use Rattle.kt_tablet.proofs.Frozen.{taken_told}
use Rattle.kt_tablet.proofs.tablet.changing.Tablet+DiskRowSet+C.read_taken.Goals as goal

pub returns-clause-stores : goal.returns-clause-stores
returns-clause-stores g c =
    let i = c.self.inside in
    IfOk-weaker c.read_taken.result _ _ (λ list told. told ∙ taken_told i.fill c.args.numbers.now i.stores.frozen i.stores.shelf ∙ ap (λ v. taken_rowsets c.args.numbers.now v) c.self.view_is) c.read_taken.ensures.stores

pub returns-clause-files : goal.returns-clause-files
returns-clause-files g c = IfOk-weaker c.read_taken.result _ _ (λ list told. told ∙ ap (λ v. files_taken c.args.numbers.now v.files) c.self.view_is) c.read_taken.ensures.files
