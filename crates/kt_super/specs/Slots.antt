-- The two slots of a disk, and the superblock of an image.
use Rattle.std.specs.Prelude.{◌≡◌, ◌⊎◌, ℕ, zero, suc, ◌+◌, ◌-◌, ◌<◌, Bool, true, false, not, ◌&&◌, ◌==◌, List, [], ◌∷◌, ◌++◌, length, take, drop, Option, Some, None, Result, Ok, Err, nat_lt, nat_le, if◌then◌else◌}
use Rattle.std.specs.Int.{w32, from_le_bytes, to_le_bytes}
use Rattle.kt_disk.specs.Disk.{Files, held, Stable, ButFiles}
use Rattle.kt_super.specs.declared.refusal.Place.{Place}
use Rattle.kt_super.specs.declared.slot.Head.{Head}
use Rattle.kt_super.specs.declared.slot.Head.TheVariants.{Closed, Short, Body}
use Rattle.kt_super.specs.declared.meta.Meta.{Meta}
use Rattle.kt_super.specs.declared.meta.Prepared.{Prepared}
use Rattle.kt_super.specs.Body.{slot_for, spelled_body, body_at}

-- ---- one slot

-- a slot is open where its gate byte is 1 and not its only byte
abbrev pub is_open : List ℕ → Bool
is_open [] = false
is_open (gate ∷ []) = false
is_open (gate ∷ byte ∷ bytes) = gate == 1

-- where a length is at fault: at its own place, or where the bytes run out
abbrev pub misfit : Bool → ℕ → ℕ
misfit there end = if there then 1 else end

-- what a body of this size behind the gate and the length tells: the superblock, or the place of its fault
abbrev pub settled : Bool → ℕ → ℕ → Result (Meta × List ℕ) ℕ → Result (Option Meta) ℕ
settled there end size (Ok (m, rest)) = if there && (length rest == 0) then Ok (Some m) else Err (misfit there end)
settled there end size (Err zero) = Err (misfit there end)
settled there end size (Err (suc left)) = Err (5 + (size - suc left))

-- what stands behind the gate and the length
abbrev pub of_length : ℕ → ℕ → List ℕ → Result (Option Meta) ℕ
of_length slot len rest = settled (nat_le len (length rest)) (5 + length rest) (length (take len rest)) (body_at slot (take len rest))

abbrev pub opened_at : ℕ → List ℕ → Result (Option Meta) ℕ
opened_at slot bytes = if nat_lt (length bytes) 5 then Err (length bytes) else of_length slot (from_le_bytes w32 (take 4 (drop 1 bytes))) (drop 5 bytes)

-- the superblock that a slot tells, none where it is closed, or the place of its first fault
abbrev pub slot_at : ℕ → List ℕ → Result (Option Meta) ℕ
slot_at slot bytes = if is_open bytes then opened_at slot bytes else Ok None

-- how a slot begins, told from its first five bytes
abbrev pub IsHead : List ℕ → Head → Type 0
IsHead front Closed = is_open front ≡ false
IsHead front Short = (is_open front ≡ true) × (length front < 5)
IsHead front (Body len) = (is_open front ≡ true) × (length front ≡ 5) × (len ≡ from_le_bytes w32 (take 4 (drop 1 front)))

-- what stands behind the gate of a slot
abbrev pub spelled_slot : Meta → List ℕ
spelled_slot m = to_le_bytes w32 (length (spelled_body m)) ++ spelled_body m

-- ---- both slots

abbrev pub newer : Option Meta → Option Meta → Option Meta
newer None two = two
newer (Some one) None = Some one
newer (Some one) (Some two) = if nat_lt one.number two.number then Some two else Some one

abbrev pub of_both : Result (Option Meta) ℕ → Result (Option Meta) ℕ → Result (Option Meta) Place
of_both (Err offset) two = Err (record { slot = 1; offset = offset })
of_both (Ok one) (Err offset) = Err (record { slot = 2; offset = offset })
of_both (Ok one) (Ok two) = Ok (newer one two)

-- the superblock of an image: that of the open slot with the greater number, or the place of the first fault
abbrev pub super_of : Files → Result (Option Meta) Place
super_of files = of_both (slot_at 1 (held files 1)) (slot_at 2 (held files 2))

-- ---- a disk that is written

abbrev pub IsSlot : ℕ → Type 0
IsSlot file = (file ≡ 1) ⊎ (file ≡ 2)

-- nothing of either slot is pending
abbrev pub AreStable : {D : Type 0} → (D → Files) → (D → ℕ) → (D → ℕ → Files → Type 0) → D → Type 0
AreStable seen now leaves disk = (slot : ℕ) → IsSlot slot → Stable seen now leaves slot disk

-- one above the open one's, or 1 where none is open
abbrev pub next_number : Option Meta → ℕ
next_number None = 1
next_number (Some m) = m.number + 1

-- the number of the superblock that comes next
pub record IsNext (found : Result (Option Meta) Place) (number : ℕ) : Type 0 where
  pub open_one : Option Meta
  pub found_is : found ≡ Ok open_one
  pub number_is : number ≡ next_number open_one

-- an image with this superblock, which differs from one of the disk in a slot alone, and there tells this
pub record IsWith {D : Type 0} (now : D → ℕ) (leaves : D → ℕ → Files → Type 0) (disk : D) (slot : ℕ) (Is : Result (Option Meta) Place → Type 0) (Told : Result (Option Meta) ℕ → Type 0) (c : Files) : Type 0 where
  pub superblock : Is (super_of c)
  pub here : Told (slot_at slot (held c slot))
  pub others : ButFiles now leaves disk (slot ∷ []) c

-- The slot is closed, and behind its gate stands this superblock, which is the next one.
pub record IsReady (files : Files) (prepared : Prepared) (m : Meta) : Type 0 where
  pub slot : prepared.slot ≡ slot_for m.number
  pub number : prepared.number ≡ m.number
  pub next : IsNext (super_of files) m.number
  pub closed : is_open (held files prepared.slot) ≡ false
  pub behind : slot_at prepared.slot (1 ∷ drop 1 (held files prepared.slot)) ≡ Ok (Some m)

-- a slot with a gate byte that does not open it
abbrev pub is_shut : List ℕ → Bool
is_shut [] = false
is_shut (gate ∷ bytes) = not (gate == 1)

-- an image in which a slot tells this, and all other files are as an image of the disk has them
pub record Tells {D : Type 0} (now : D → ℕ) (leaves : D → ℕ → Files → Type 0) (disk : D) (slot : ℕ) (Is : Result (Option Meta) ℕ → Type 0) (c : Files) : Type 0 where
  pub here : Is (slot_at slot (held c slot))
  pub others : ButFiles now leaves disk (slot ∷ []) c

abbrev pub IsOldOrNone : Result (Option Meta) ℕ → Result (Option Meta) ℕ → Type 0
IsOldOrNone old told = (told ≡ old) ⊎ (told ≡ Ok None)

abbrev pub IsNoneOrNew : Meta → Result (Option Meta) ℕ → Type 0
IsNoneOrNew m told = (told ≡ Ok None) ⊎ (told ≡ Ok (Some m))
