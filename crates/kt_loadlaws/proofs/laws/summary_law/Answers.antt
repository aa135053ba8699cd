use Rattle.kt_loadlaws.specs.Summary.{load_work}
use Rattle.kt_loadlaws.proofs.Counted.{same_rows, same_counts}
use Rattle.kt_loadlaws.proofs.Loads.{load_owner, own_plan}
use Rattle.kt_loadlaws.proofs.laws.summary_law.Goals as goal

pub returns : goal.returns
returns c = λ n cells past last events enough ends run all. (
  same_rows (load_work cells n) load_owner past last events (own_plan cells n enough) ends run all,
  same_counts (load_work cells n) load_owner past last events (own_plan cells n enough) ends run all,
)
