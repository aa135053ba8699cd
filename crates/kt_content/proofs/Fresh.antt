-- A fresh tablet.
use Rattle.std.proofs.Common.{ℕ, List, [], ◌∷◌, refl, arith}
use Rattle.kt_histlaws.specs.Histories.{past_hist}
use Rattle.kt_history.specs.Stores.{never}
use Rattle.kt_loglaws.specs.Replay.{empty}
use Rattle.kt_content.specs.Places.{memory}
use Rattle.kt_content.specs.Content.{Shown, a_fresh_tablet_is_empty}

-- a MemRowSet that has nothing of a key shows nothing
pub nothing_shown : (q : List ℕ) → Shown 0 ((memory, never) ∷ []) (past_hist q empty)
nothing_shown q = record {
  shows = record { rows = λ t le. refl; steps = λ t up. refl; one_row = λ t le. tt; one_step = λ t up. tt };
  sound = record { fit = λ t up. (tt, tt); rise = (tt, tt) };
}

pub fresh_empty : a_fresh_tablet_is_empty
fresh_empty rules fill = record {
  enough = omega arith;
  numbers = tt;
  mark = refl;
  last = refl;
  ends = record { is = record { rows = refl; writes = tt }; mark = omega arith; writes = refl };
  passes = tt;
  files = tt;
  keys = λ q. record { held = (memory, never) ∷ []; is = refl; shown = nothing_shown q; once = tt; above = tt };
}
