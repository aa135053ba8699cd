-- What a crash left of a store at each moment while it went out, turn after turn, and superblocks were published.
use Rattle.std.specs.Prelude.{◌≡◌, ◌⊎◌, ◌≤◌, ◌+◌, ℕ, List, [], ◌∷◌, Option, Some, Ok}
use Rattle.kt_disk.specs.Disk.{Files}
use Rattle.kt_super.specs.declared.meta.Meta.{Meta}
use Rattle.kt_super.specs.Body.{IsMeta}
use Rattle.kt_super.specs.Slots.{super_of}
use Rattle.kt_files.specs.Named.{HasNamed}
use Rattle.kt_storeside.specs.Supers.{HasSuper}

-- a superblock, and files with what it names
pub record Version : Type 0 where
  pub meta : Meta
  pub files : Files

-- a turn: the superblock that went out to be published, if one did, what was published when the turn was over, and the moment of that
pub record Turn : Type 0 where
  pub lent : Option Meta
  pub published : Version
  pub over : ℕ

-- what is published behind such turns, the last of which comes first, and the moment at which that was over
abbrev pub version_after : Version → List Turn → Version
version_after first [] = first
version_after first (t ∷ turns) = t.published

abbrev pub moment_after : ℕ → List Turn → ℕ
moment_after from [] = from
moment_after from (t ∷ turns) = t.over

-- At each moment of a turn a crash left the superblock from before it, or the one that went out, and the files that it names. That one keeps the rules and has
-- the next number, and one of both is published then. The files that the superblock from before names are as they were.
pub record IsTurnOf (left : ℕ → Files → Type 0) (from : ℕ) (before : Version) (t : Turn) : Type 0 where
  pub later : from ≤ t.over
  pub next : (m : Meta) → t.lent ≡ Some m → IsMeta m × (m.number ≡ before.meta.number + 1)
  pub one : (t.published.meta ≡ before.meta) ⊎ (t.lent ≡ Some t.published.meta)
  pub kept : HasNamed before.meta.rowsets before.files t.published.files
  pub each : (n : ℕ) (c : Files) → from ≤ n → n ≤ t.over → left n c → HasSuper before.files before.meta c ⊎ ((m : Meta) × (t.lent ≡ Some m) × HasSuper t.published.files m c)

abbrev pub AreTurns : (ℕ → Files → Type 0) → ℕ → Version → List Turn → Type 0
AreTurns left from first [] = Unit {0}
AreTurns left from first (t ∷ turns) = AreTurns left from first turns × IsTurnOf left (moment_after from turns) (version_after first turns) t

-- From one disk to another nothing was done to the store but such turns, from the first moment to the last. The moments before are as they were.
pub record WasPublished {D : Type 0} (seen : D → Files) (now : D → ℕ) (leaves : D → ℕ → Files → Type 0) (old new : D) : Type 0 where
  pub first : Meta
  pub first_is : super_of (seen old) ≡ Ok (Some first)
  pub turns : List Turn
  pub are : AreTurns (leaves new) (now old) (record { meta = first; files = seen old }) turns
  pub last : moment_after (now old) turns ≡ now new
  pub past : (n : ℕ) (c : Files) → n ≤ now old → leaves new n c → leaves old n c
  pub keeps : (n : ℕ) (c : Files) → n ≤ now old → leaves old n c → leaves new n c

-- what is published then
abbrev pub published_last : {D : Type 0} {seen : D → Files} {now : D → ℕ} {leaves : D → ℕ → Files → Type 0} {old new : D} → WasPublished seen now leaves old new → Version
published_last {D} {seen} {now} {leaves} {old} {new} was = version_after (record { meta = was.first; files = seen old }) was.turns
