-- The bytes of a file that a superblock names. A file is read up to the length that the superblock says, whatever stands
-- behind it.
use Rattle.std.specs.Prelude.{◌≡◌, ◌<◌, ◌≤◌, ℕ, List, length, take}
use Rattle.kt_disk.specs.Disk.{Files, held}
use Rattle.kt_super.specs.declared.meta.FileRef.{FileRef}

-- the bytes of a file, as many as its length says
abbrev pub bytes_of : Files → FileRef → List ℕ
bytes_of files f = take f.len (held files f.file)

-- it has as many
abbrev pub IsThere : Files → FileRef → Type 0
IsThere files f = f.len ≤ length (held files f.file)

-- the file has fewer bytes than its length says, and this is their end
pub record EndsAt (files : Files) (f : FileRef) (offset : ℕ) : Type 0 where
  pub short : length (held files f.file) < f.len
  pub end : offset ≡ length (held files f.file)

-- a file is at fault: it is shorter than its length, or its bytes are at fault by this rule
pub data IsFileFault (files : Files) (f : FileRef) (IsAtFault : List ℕ → ℕ → Type 0) (offset : ℕ) : Type 0 where
  short : EndsAt files f offset → IsFileFault files f IsAtFault offset
  inside : IsThere files f → IsAtFault (bytes_of files f) offset → IsFileFault files f IsAtFault offset
