-- What an engine has of one session.
use Rattle.std.specs.Prelude.{◌≢◌, ℕ, zero, suc, List, [], ◌∷◌, Option, ◌==◌}
use Rattle.std.specs.List.{filter}
use Rattle.kt_history.specs.Machine.{Turn, nth}
use Rattle.kt_histlaws.specs.Pending.{Aloft}
use Rattle.kt_histlaws.specs.Core.{Core}

-- its flying write and where it stands
pub record SessionPart : Type 0 where
  pub flight : List Aloft
  pub turn : Option Turn

abbrev pub part : Core → ℕ → SessionPart
part core s = record { flight = filter (λ w. w.s == s) core.aloft; turn = nth core.turns s }

-- flying write j, if there is one, is of another session
abbrev pub IsOfAnother : ℕ → List Aloft → ℕ → Type 0
IsOfAnother j [] k = Unit {0}
IsOfAnother zero (w ∷ aloft) k = w.s ≢ k
IsOfAnother (suc j) (w ∷ aloft) k = IsOfAnother j aloft k
