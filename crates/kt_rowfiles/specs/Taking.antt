-- What a job takes of a row's changes: those above a mark and up to a bound. Those at or below the mark make the row at it.
use Rattle.std.specs.Prelude.{ℕ, nat_lt, nat_le, Bool, ◌&&◌, [], ◌∷◌, ◌++◌, Option, if◌then◌else◌}
use Rattle.std.specs.List.{filter}
use Rattle.kt_history.specs.declared.change.Change.{Change}
use Rattle.kt_history.specs.Rows.{Row, apply, undo}
use Rattle.kt_history.specs.Stores.{Steps}
use Rattle.kt_rowfiles.specs.declared.taking.Span.{Span}

abbrev pub lies_in : Span → ℕ → Bool
lies_in span ts = nat_lt span.mark ts && nat_le ts span.bound

abbrev pub spanned : Span → Steps → Steps
spanned span steps = filter (λ (c : ℕ × Change). lies_in span c.0) steps

-- the change that one UNDO record leads back over, if it lies there
abbrev pub led_one : Span → ℕ × Change → Option Row → Steps
led_one span u row = if nat_le u.0 span.bound then (u.0, undo u.1 row) ∷ [] else []

-- and those of UNDO records from the newest, of which each above the mark is taken back
abbrev pub led_in : Span → Steps → Option Row → Steps
led_in span [] row = []
led_in span (u ∷ undos) row = if nat_lt span.mark u.0 then led_in span undos (apply u.1 row) ++ led_one span u row else led_in span undos row
