-- What a superblock and its files tell.
use Rattle.std.specs.Prelude.{map}
use Rattle.kt_diskrowset.specs.Data.{held_in}
use Rattle.kt_content.specs.Places.{Super, fresh}
use Rattle.kt_reopen.specs.declared.superblock.Told.{Told}
use Rattle.kt_reopen.specs.declared.superblock.Told.TheVariants.{Fresh, Read}
use Rattle.kt_reopen.specs.Both.{super_in}

abbrev pub super_told : Told → Super
super_told Fresh = fresh
super_told (Read meta files) = super_in meta.value (map held_in files.value)
