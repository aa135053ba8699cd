-- Two writes whose COMMITs come in the other order.
use Rattle.std.proofs.Common.{◌≡◌, List, [], ◌∷◌, take, Ok, refl}
use Rattle.kt_history.specs.declared.change.Change.TheVariants.{Ins}
use Rattle.kt_history.specs.declared.change.Outcome.TheVariants.{Done}
use Rattle.kt_history.specs.declared.operation.OpKind.TheVariants.{Insert}
use Rattle.kt_history.specs.declared.target.Target.TheVariants.{Mem}
use Rattle.kt_history.specs.History.{Past}
use Rattle.kt_records.specs.declared.entry.Entry.{Entry}
use Rattle.kt_records.specs.declared.entry.Entry.TheVariants.{Replicate, Commit}
use Rattle.kt_loglaws.specs.Replay.{replay, last_of, empty}
use Rattle.kt_loglaws.specs.Fronts.{with_records, upto}

abbrev log : List Entry
log = Replicate 5 (record { kind = Insert; key = 97 ∷ []; cells = [] } ∷ []) ∷ Replicate 6 (record { kind = Insert; key = 98 ∷ []; cells = [] } ∷ [])
    ∷ Commit 6 (record { outcome = Done; targets = Mem 1 ∷ [] } ∷ []) ∷ Commit 5 (record { outcome = Done; targets = Mem 1 ∷ [] } ∷ []) ∷ []

abbrev both : Past
both = record { mark = 0; base = []; writes = record { ts = 5; changes = (97 ∷ [], Ins []) ∷ [] } ∷ record { ts = 6; changes = (98 ∷ [], Ins []) ∷ [] } ∷ [] }

abbrev one : Past
one = record { mark = 0; base = []; writes = record { ts = 5; changes = (97 ∷ [], Ins []) ∷ [] } ∷ [] }

whole_log : replay [] log empty log ≡ Ok both
whole_log = refl

without_the_last : replay [] (take 3 log) empty (take 3 log) ≡ Ok both
without_the_last = refl

first_alone : replay [] (take 1 log) empty (take 1 log) ≡ Ok one
first_alone = refl

writes : with_records [] empty log ≡ both
writes = refl

up_to_the_first : upto (last_of (take 1 log)) both ≡ one
up_to_the_first = refl
