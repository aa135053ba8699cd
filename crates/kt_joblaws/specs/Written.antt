-- What holds of merged disk rowsets holds of them once their files are written.
use Rattle.std.specs.Prelude.{◌≡◌, ℕ, List, map}
use Rattle.kt_rowfiles.specs.Files.{hist_in_files}
use Rattle.kt_content.specs.Rules.{Rules, RowsetsPass}
use Rattle.kt_diskrowset.specs.declared.data.RowSetData.{RowSetData}
use Rattle.kt_diskrowset.specs.Data.{files_in, held_in}
use Rattle.kt_files.specs.Content.{rowsets_in}
use Rattle.kt_outputs.specs.Outputs.{meta_in, AreWritten}

-- they have the same histories
abbrev pub written_rowsets_are_the_same : Type 0
written_rowsets_are_the_same = (number : ℕ) (outputs done : List RowSetData) (q : List ℕ) → AreWritten number outputs done → map (hist_in_files q) (map files_in done) ≡ map (hist_in_files q) (map files_in outputs)

-- and pass as they did
abbrev pub written_rowsets_pass : Type 0
written_rowsets_pass = (rules : Rules) (number : ℕ) (outputs done : List RowSetData) → AreWritten number outputs done → RowsetsPass rules (map files_in outputs) → RowsetsPass rules (map files_in done)

-- What a superblock says of them with what their files have is what they tell
abbrev pub named_rowsets_tell : Type 0
named_rowsets_tell = (done : List RowSetData) → rowsets_in (map (meta_in 0) done) (map held_in done) ≡ map files_in done
