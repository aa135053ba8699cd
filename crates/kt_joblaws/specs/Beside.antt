-- Lists of histories side by side. What holds of outputs that were written of two parts of what a job takes holds of both together.
use Rattle.std.specs.Prelude.{ℕ, List, ◌++◌}
use Rattle.kt_history.specs.Stores.{Hist}
use Rattle.kt_histlaws.specs.Fitting.{AreSound}
use Rattle.kt_histlaws.specs.Jobs.{AreAlike}
use Rattle.kt_rowfiles.specs.Files.{DiskRowset}
use Rattle.kt_rowfiles.specs.Merging.{joined_history}
use Rattle.kt_content.specs.Content.{NumbersDiffer}
use Rattle.kt_content.specs.Flushes.{AreFrom, before}
use Rattle.kt_content.specs.Rules.{Rules, HistPasses, RowsetsPass}
use Rattle.kt_content.specs.RunEvents.{RowsetsBelow}
use Rattle.kt_joblaws.specs.Apart.{AreApart}

-- Where the inputs are apart, outputs that show the one part beside those that show the other show both
abbrev pub alike_beside : Type 0
alike_beside = (a : ℕ) (xs ys us vs : List Hist) → AreApart a (xs ++ ys) → AreAlike a xs us → AreAlike a ys vs → AreAlike a (xs ++ ys) (us ++ vs)

-- and so they do in the other order,
abbrev pub alike_in_turn : Type 0
alike_in_turn = (a : ℕ) (xs us vs : List Hist) → AreAlike a xs (us ++ vs) → AreAlike a xs (vs ++ us)

-- their changes rise and fit,
abbrev pub sound_beside : Type 0
sound_beside = (a : ℕ) (us vs : List Hist) → AreSound a us → AreSound a vs → AreSound a (us ++ vs)

-- they have different numbers where those that come second were given theirs later,
abbrev pub numbers_differ_beside : Type 0
numbers_differ_beside = (next last_mem : ℕ) (us vs : List DiskRowset) → NumbersDiffer us → NumbersDiffer vs → RowsetsBelow (before next last_mem) us → AreFrom next vs → NumbersDiffer (us ++ vs)

-- and they pass the rules of a table.
abbrev pub passing_beside : Type 0
passing_beside = (rules : Rules) (us vs : List DiskRowset) → RowsetsPass rules us → RowsetsPass rules vs → RowsetsPass rules (us ++ vs)

-- Of inputs that are apart each part is,
abbrev pub each_part_is_apart : Type 0
each_part_is_apart = (a : ℕ) (xs ys : List Hist) → AreApart a (xs ++ ys) → AreApart a xs × AreApart a ys

-- and what each part has of a key passes where what both have does.
abbrev pub each_part_passes : Type 0
each_part_passes = (rules : Rules) (q : List ℕ) (a : ℕ) (xs ys : List Hist) → AreApart a (xs ++ ys) → HistPasses rules q (joined_history a (xs ++ ys))
    → HistPasses rules q (joined_history a xs) × HistPasses rules q (joined_history a ys)
