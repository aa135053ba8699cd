-- What a base file has behind its columns: the filter behind its length, and the index, each key behind its length.
use Rattle.std.specs.Prelude.{ℕ, ◌-◌, List, [], ◌∷◌, length, take, drop, Result, Ok, Err, nat_lt, if◌then◌else◌}
use Rattle.std.specs.List.{flat_map}
use Rattle.std.specs.Int.{w16, w32, to_le_bytes}
use Rattle.std.specs.Str.{bytes_eq}

-- its fields in order
abbrev pub key_fields : List ℕ → List (List ℕ)
key_fields key = to_le_bytes w16 (length key) ∷ key ∷ []

abbrev pub fields : List ℕ → List (List ℕ) → List (List ℕ)
fields filter index = to_le_bytes w32 (length filter) ∷ filter ∷ flat_map key_fields index

abbrev pub joined : List (List ℕ) → List ℕ
joined fields = flat_map (λ field. field) fields

-- its one spelling
abbrev pub spelling : List ℕ → List (List ℕ) → List ℕ
spelling filter index = joined (fields filter index)

abbrev pub and_then : Result (List ℕ) ℕ → (List ℕ → Result (List ℕ) ℕ) → Result (List ℕ) ℕ
and_then (Ok rest) f = f rest
and_then (Err left) f = Err left

-- what stands behind a field at the front of some bytes. A fault is told by how many bytes stand from its place to the
-- end: none where bytes are missing, and all from its first byte on where the field is another
unfoldable pub field_at : List ℕ → List ℕ → Result (List ℕ) ℕ
field_at field bytes = if nat_lt (length bytes) (length field) then Err 0 else (if bytes_eq (take (length field) bytes) field then Ok (drop (length field) bytes) else Err (length bytes))

unfoldable pub fields_at : List (List ℕ) → List ℕ → Result (List ℕ) ℕ
fields_at [] bytes = Ok bytes
fields_at (field ∷ more) bytes = and_then (field_at field bytes) (fields_at more)

-- how many bytes they are, or the offset of the first fault
abbrev pub with_offset : ℕ → Result (List ℕ) ℕ → Result ℕ ℕ
with_offset total (Ok rest) = Ok (total - length rest)
with_offset total (Err left) = Err (total - left)

abbrev pub used_of : List ℕ → List (List ℕ) → List ℕ → Result ℕ ℕ
used_of filter index bytes = with_offset (length bytes) (fields_at (fields filter index) bytes)
