use Rattle.std.proofs.Common.{map}
use Rattle.kt_diskrowset.specs.Data.{held_in}
use Rattle.kt_outputs.specs.Outputs.{meta_in}
use Rattle.kt_outputs.proofs.Named.{named_before}
use Rattle.kt_outputs.proofs.laws.beside_law.Goals as goal

pub returns : goal.returns
returns c = λ rowsets next_rowset next_file done files later are there hold.
    c.same_law.ensures files later (map (meta_in 0) done) (map held_in done) (named_before rowsets next_rowset next_file done files later are there) hold
