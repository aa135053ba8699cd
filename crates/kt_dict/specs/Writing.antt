-- When a list has no block, and the bytes of an entry.
use Rattle.std.specs.Prelude.{◌≡◌, ℕ, ◌<◌, List, ◌++◌, length}
use Rattle.kt_dict.specs.declared.error.CodecNo.{CodecNo}
use Rattle.kt_dict.specs.declared.error.CodecNo.TheVariants as answers
use Rattle.kt_dict.specs.Spelling.{number, dictionary}

-- the bytes of both fields of an entry
unfoldable pub text : List ℕ → List ℕ
text bytes = number (length bytes) ++ bytes

-- too many different items, and how many; or memory ran out
abbrev pub IsRefusal : List (List ℕ) → CodecNo → Type 0
IsRefusal items answers.Memory = Unit {0}
IsRefusal items (answers.TooMany count) = (count ≡ length (dictionary items)) × (4096 < count)
IsRefusal items (answers.Place offset) = ⊥
