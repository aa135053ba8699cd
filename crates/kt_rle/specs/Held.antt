-- Runs as they are held: each with where it ends.
use Rattle.std.specs.Prelude.{◌<◌, ◌-◌, ℕ, ℤ, List, [], ◌∷◌}
use Rattle.std.specs.List.{flat_map}
use Rattle.kt_rle.specs.declared.runs.Run.{Run}
use Rattle.kt_rle.specs.declared.runs.Held.{Held}
use Rattle.kt_rle.specs.Runs.{expand, Differ}

-- the runs, of which the first begins at a place
abbrev pub runs_of : ℕ → List Held → List Run
runs_of at [] = []
runs_of at (h ∷ hs) = record { len = h.end - at; value = h.value } ∷ runs_of h.end hs

-- where the last run ends
abbrev pub end_of : ℕ → List Held → ℕ
end_of at [] = at
end_of at (h ∷ hs) = end_of h.end hs

-- the ends rise from a place on
abbrev pub Rise : ℕ → List Held → Type 0
Rise at [] = Unit {0}
Rise at (h ∷ hs) = (at < h.end) × Rise h.end hs

-- the numbers that the runs stand for
abbrev pub numbers_of : List Held → List ℤ
numbers_of hs = flat_map expand (runs_of 0 hs)

-- runs that are held: their ends rise, and neighbours have different numbers
pub record AreHeld (hs : List Held) : Type 0 where
  pub rise : Rise 0 hs
  pub differ : Differ (runs_of 0 hs)
