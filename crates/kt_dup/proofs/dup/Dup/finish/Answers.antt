use Rattle.std.proofs.Common.{◌∷◌, []}
use Rattle.kt_history.specs.Stores.{hist_in}
use Rattle.kt_dup.proofs.Split.{none_missed_alike}
use Rattle.kt_dup.proofs.dup.Dup.finish.Goals as goal

pub returns-clause-alike : goal.returns-clause-alike
returns-clause-alike g c = λ j pool s q.
    (none_missed_alike j c.args.self.bound (hist_in q (g.I.RowStore.store c.args.self.input pool) ∷ []) (hist_in q (g.O.RowStore.store c.args.self.output pool) ∷ []) (s q)).0
