-- Stores that are apart from a mark on stay so, as a change reaches the one of them that may have the row.
use Rattle.std.proofs.Common.{◌≡◌, ◌<◌, ◌≤◌, ℕ, List, ◌∷◌, map, length, Some, refl, subst, arith}
use Rattle.kt_history.specs.declared.change.Change.{Change}
use Rattle.kt_history.specs.declared.operation.OpKind.{OpKind}
use Rattle.kt_history.specs.Operations.{effect}
use Rattle.kt_history.specs.Rows.{Row}
use Rattle.kt_history.specs.Stores.{Hist, row_of, push, never}
use Rattle.kt_histlaws.specs.Flights.{AllUnder}
use Rattle.kt_histlaws.specs.Histories.{on_nth, first_some, Alone}
use Rattle.kt_histlaws.specs.Jobs.{AreAlike}
use Rattle.kt_histlaws.proofs.Applying.{rows-settled}
use Rattle.kt_histlaws.proofs.Fitting.{sound_push}
use Rattle.kt_histlaws.proofs.Jobs.{both_alike}
use Rattle.kt_joblaws.specs.Apart.{AreApart}
use Rattle.kt_joblaws.proofs.Late.{no_step}

-- one that has nothing is apart from others
pub vacant_apart : (j : ℕ) (hs : List Hist) → AreApart j hs → AreApart j (never ∷ hs)
vacant_apart j hs apart = record {
  one_row = λ t le. apart.one_row t le;
  one_step = λ t up. apart.one_step t up;
  sound = record { fit = λ t up. (tt, apart.sound.fit t up); rise = (tt, apart.sound.rise) };
}

pub pushed_apart : (j ts i : ℕ) (fill cells : Row) (kind : OpKind) (c : Change) (hs : List Hist) → AreApart j hs → j < ts → i < length hs → AllUnder ts hs → Alone i (map (row_of ts) hs) → (effect fill kind cells (first_some (map (row_of ts) hs))).0 ≡ Some c
    → AreApart j (on_nth i (push ts c) hs)
pushed_apart j ts i fill cells kind c hs apart lt inside under alone gives = record { one_row = both.one_row; one_step = both.one_step; sound = sound_push j ts i fill cells kind c hs apart.sound under lt alone gives }
  where
    itself : AreAlike j hs hs
    itself = record { rows = λ t from. refl; steps = λ t up. refl; one_row = apart.one_row; one_step = apart.one_step }

    later : (t : ℕ) → ts ≤ t → Alone i (map (row_of t) hs)
    later t le = subst (Alone i) (rows-settled ts ts t hs under (omega arith) (omega arith)) alone

    both : AreAlike j (on_nth i (push ts c) hs) (on_nth i (push ts c) hs)
    both = both_alike j ts i i c hs hs itself lt inside inside later later (no_step ts ts hs under (omega arith))
