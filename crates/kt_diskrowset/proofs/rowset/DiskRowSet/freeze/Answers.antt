use Rattle.std.proofs.Common.{◌∙◌, List, [], ◌∷◌, ◌++◌, refl, ap}
use Rattle.kt_dms.specs.declared.store.DeltaMem.{DeltaMem}
use Rattle.kt_dms.specs.Stores.{number_of}
use Rattle.kt_history.specs.declared.target.Target.TheVariants.{Delta}
use Rattle.kt_diskrowset.specs.Rowset.{mems_of}
use Rattle.kt_diskrowset.proofs.Rowsets.{frozen_is}
use Rattle.kt_diskrowset.proofs.rowset.DiskRowSet.freeze.Goals as goal

pub returns-clause-ok : goal.returns-clause-ok
returns-clause-ok c =
    let s = c.args.self.now in
    let dest = c.replace-full.new.dest in
    let after = c.replace-full.ensures.after in
    let items =
    c.in-Ok.ensures.items ∙ ap (λ (fs : List DeltaMem). fs ++ c.replace-full.result ∷ []) c.reserve.ensures.items
    ∙ ap (λ (m : DeltaMem). s.frozen.items ++ m ∷ []) c.replace-full.ensures.value in
    frozen_is s _ c.new.result c.args.dms (record { stands = c.new.ensures.store; none = c.new.ensures.empty; bare = c.new.ensures.bare; cells = c.new.ensures.none }) c.new.ensures.number refl refl
    (ap (λ (fs : List DeltaMem). fs ++ dest ∷ []) items ∙ ap (λ (m : DeltaMem). mems_of s ++ m ∷ []) after) (ap (λ (n : _). Delta s.number n) (ap number_of after ∙ c.new.ensures.number))
