-- What a maintenance command has to do.
use Rattle.std.specs.Prelude.{ℕ, ◌-◌, ◌^◌, List, [], ◌∷◌, map, Some}
use Rattle.kt_base.specs.declared.chore.Chore.{Chore}
use Rattle.kt_base.specs.declared.chore.Chore.TheVariants as chore
use Rattle.kt_pick.specs.declared.rules.Want.{Want}
use Rattle.kt_pick.specs.declared.rules.Want.TheVariants as want
use Rattle.kt_engine.specs.Jobs.{UpkeepView, more}

-- what a chore wants of one disk rowset. A flush and a compaction are of none
abbrev pub want_on : Chore → ℕ → Want
want_on chore.FlushDeltas r = want.FlushDeltas r
want_on chore.Minor r = want.Minor r
want_on chore.Major r = want.Major r
want_on _ r = want.Flush

-- of disk rowsets with these numbers
abbrev pub compacts : List ℕ → List Want
compacts [] = []
compacts (r ∷ rowsets) = want.Compact (r ∷ rowsets) ∷ []

abbrev pub wants_of : Chore → List ℕ → List Want
wants_of chore.Flush rowsets = want.Flush ∷ []
wants_of chore.Compact rowsets = compacts rowsets
wants_of chore.FlushDeltas rowsets = map (want_on chore.FlushDeltas) rowsets
wants_of chore.Minor rowsets = map (want_on chore.Minor) rowsets
wants_of chore.Major rowsets = map (want_on chore.Major) rowsets

-- a round has begun
abbrev pub round_of : Chore → List Want → UpkeepView → UpkeepView
round_of c wants u = record u { round = Some c; rounds = more (2 ^ 64 - 1) u.rounds; todo = wants }
