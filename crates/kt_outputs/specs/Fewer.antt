-- Some of the disk rowsets that a superblock names, as those that a compaction leaves.
use Rattle.std.specs.Prelude.{ℕ, Bool, List, []}
use Rattle.std.specs.List.{filter}
use Rattle.kt_disk.specs.Disk.{Files}
use Rattle.kt_super.specs.declared.meta.MetaRowset.{MetaRowset}
use Rattle.kt_super.specs.Rowsets.{AreRowsets}
use Rattle.kt_files.specs.Named.{HasNamed}

-- A superblock may name some of them alone, in their order,
abbrev pub some_may_be_named : Type 0
some_may_be_named = (stays : MetaRowset → Bool) (rowsets : List MetaRowset) (next_rowset next_file : ℕ) → AreRowsets next_rowset next_file 0 [] rowsets → AreRowsets next_rowset next_file 0 [] (filter stays rowsets)

-- and their files stand as they did.
abbrev pub some_stand : Type 0
some_stand = (stays : MetaRowset → Bool) (rowsets : List MetaRowset) (files c : Files) → HasNamed rowsets files c → HasNamed (filter stays rowsets) files c
