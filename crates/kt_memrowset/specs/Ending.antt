-- Which key a list of changes ends in.
use Rattle.std.specs.Prelude.{◌≡◌, ℕ, ◌<◌, List, length}
use Rattle.kt_history.specs.declared.changes.KeyChange.{KeyChange}
use Rattle.kt_history.specs.AsBytes.{last_key}

-- its last change, which is there, is of this key
abbrev pub EndsIn : List ℕ → List KeyChange → Type 0
EndsIn key changes = (0 < length changes) × (last_key changes ≡ key)
