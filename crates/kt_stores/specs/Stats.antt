-- What a maintenance policy asks of the disk rowsets of a tablet.
use Rattle.std.specs.Prelude.{◌≡◌, ℕ, List, [], ◌∷◌}
use Rattle.kt_diskrowset.specs.Held.{store_told}
use Rattle.kt_diskrowset.specs.Rowset.{HeldFiles}
use Rattle.kt_diskrowset.specs.Stats.{IsStat}
use Rattle.kt_history.specs.Stores.{Store}
use Rattle.kt_pick.specs.declared.stats.RowSetStat.{RowSetStat}

-- what one tells that has these files and holds this: where no change is in memory, it holds what its files tell
pub record TellsStat (h : HeldFiles) (store : Store) (s : RowSetStat) : Type 0 where
  pub fresh : ℕ
  pub is : IsStat h fresh s
  pub told : s.fresh ≡ 0 → store ≡ store_told h

-- and each of several, in their order
abbrev pub TellStats : List HeldFiles → List Store → List RowSetStat → Type 0
TellStats [] [] [] = Unit {0}
TellStats (h ∷ files) (store ∷ stores) (s ∷ stats) = TellsStat h store s × TellStats files stores stats
TellStats _ _ _ = ⊥
