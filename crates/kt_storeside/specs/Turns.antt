-- What a pass that has the store out may do to it.
use Rattle.std.specs.Prelude.{◌≡◌, ◌⊎◌, ℕ, Bool, false, ◌&&◌, List, ◌∷◌, [], Some, Ok, nat_le, nat_lt}
use Rattle.kt_disk.specs.Disk.{Files, IsNoneOf}
use Rattle.kt_super.specs.declared.meta.Meta.{Meta}
use Rattle.kt_super.specs.Slots.{super_of}

-- the number is one of those from first up to below next
abbrev pub is_new : ℕ → ℕ → ℕ → Bool
is_new first next n = nat_le first n && nat_lt n next

-- a turn that used these numbers leaves this file alone: it is no slot, and has none of them
pub record IsLeft (first next n : ℕ) : Type 0 where
  pub no_slot : IsNoneOf (1 ∷ 2 ∷ []) n
  pub old : is_new first next n ≡ false

-- A turn that used these numbers for files: the disk reads all files that it leaves alone as before, and each image has them as an image from before.
pub record IsTurn {D : Type 0} (seen : D → Files) (now : D → ℕ) (leaves : D → ℕ → Files → Type 0) (first next : ℕ) (old new : D) : Type 0 where
  pub reads : (n : ℕ) → IsLeft first next n → seen new n ≡ seen old n
  pub images : (c : Files) → leaves new (now new) c → (d : Files) × leaves old (now old) d × ((n : ℕ) → IsLeft first next n → c n ≡ d n)

-- the file has these bytes in each image
abbrev pub StandsWith : {D : Type 0} → (D → ℕ) → (D → ℕ → Files → Type 0) → ℕ → List ℕ → D → Type 0
StandsWith now leaves n bytes disk = (c : Files) → leaves disk (now disk) c → c n ≡ Some bytes

-- the superblock of each image is one of both
abbrev pub HasOneOf : {D : Type 0} → (D → ℕ) → (D → ℕ → Files → Type 0) → Meta → Meta → D → Type 0
HasOneOf now leaves one other disk = (c : Files) → leaves disk (now disk) c → (super_of c ≡ Ok (Some one)) ⊎ (super_of c ≡ Ok (Some other))
