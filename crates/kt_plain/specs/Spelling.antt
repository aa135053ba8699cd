-- The one spelling of each list of items, and the fields that it is made of.
use Rattle.std.specs.Prelude.{◌≡◌, ◌<◌, ◌≤◌, ◌^◌, ℕ, List, [], ◌∷◌, ◌++◌, length, map, All}
use Rattle.std.specs.List.{flat_map, concat}
use Rattle.std.specs.Int.{w32, to_le_bytes}
use Rattle.kt_bytes.specs.Cuts.{ends_of}
use Rattle.kt_plain.specs.declared.widths.Width.{Width}
use Rattle.kt_plain.specs.declared.widths.Width.TheVariants as widths
use Rattle.kt_plain.specs.declared.items.Items.{Items}
use Rattle.kt_plain.specs.declared.items.Items.TheVariants.{Numbers, Texts}
use Rattle.kt_plain.specs.Widths.{number, IsInWidth}
use Rattle.kt_plain.specs.Items.{count}

-- the items have a spelling in the width: numbers of that width, or fewer than 2^32 bytes together,
-- and fewer than 2^32 items
abbrev pub Fits : Width → Items → Type 0
Fits (widths.Numbers w) (Numbers zs) = (length zs < 2 ^ 32) × All (IsInWidth w) zs
Fits (widths.Numbers w) (Texts ts) = ⊥
Fits widths.Bytes (Numbers zs) = ⊥
Fits widths.Bytes (Texts ts) = (length ts < 2 ^ 32) × (length (concat ts) < 2 ^ 32)

-- numbers one after another; of byte lists an end position each, and then all bytes
abbrev pub spelling : Width → Items → List ℕ
spelling w (Texts ts) = flat_map (to_le_bytes w32) (ends_of 0 ts) ++ concat ts
spelling (widths.Numbers w) (Numbers zs) = flat_map (number w) zs
spelling widths.Bytes (Numbers zs) = []

-- the bytes spell these items, which are n
pub record Spells (width : Width) (n : ℕ) (items : Items) (bytes : List ℕ) : Type 0 where
  pub fits : Fits width items
  pub counted : count items ≡ n
  pub spelled : bytes ≡ spelling width items

-- no byte list has more bytes
abbrev pub AreShort : ℕ → Items → Type 0
AreShort most (Numbers zs) = Unit {0}
AreShort most (Texts ts) = All (λ t. length t ≤ most) ts

-- the bytes spell these items, which are n, and no byte list among them has more bytes
pub record SpellsWithin (most : ℕ) (width : Width) (n : ℕ) (items : Items) (bytes : List ℕ) : Type 0 where
  pub spells : Spells width n items bytes
  pub short : AreShort most items

-- bytes spell one list of items at most
abbrev pub SpellsOne : Type 0
SpellsOne = (width : Width) (n : ℕ) (bytes : List ℕ) (a b : Items) → Spells width n a bytes → Spells width n b bytes → a ≡ b

-- ---- its fields

-- a field for each number; of byte lists a field for each end position, and one for all bytes
abbrev pub fields : Width → Items → List (List ℕ)
fields w (Texts ts) = map (to_le_bytes w32) (ends_of 0 ts) ++ concat ts ∷ []
fields (widths.Numbers w) (Numbers zs) = map (number w) zs
fields widths.Bytes (Numbers zs) = []

-- these are the fields of n items
pub record Spelled (width : Width) (n : ℕ) (fs : List (List ℕ)) : Type 0 where
  pub items : Items
  pub fits : Fits width items
  pub counted : count items ≡ n
  pub spelled : fs ≡ fields width items

-- these are the fields of n items, and no byte list among them has more bytes
pub record SpelledWithin (most : ℕ) (width : Width) (n : ℕ) (fs : List (List ℕ)) : Type 0 where
  pub items : Items
  pub fits : Fits width items
  pub short : AreShort most items
  pub counted : count items ≡ n
  pub spelled : fs ≡ fields width items

-- a spelling is its fields joined
abbrev pub IsJoined : Type 0
IsJoined = (width : Width) (items : Items) → Fits width items → spelling width items ≡ concat (fields width items)
