-- The rule of the seat lock.
-- Word 0 counts the trail's entries. Word 1 is the turn: even while the value is at home, odd while a seat has it. Word 2 counts the callers that sleep, and no fact speaks of it. Slot 0 holds the value.
use Rattle.std.specs.Prelude.{◌≡◌, ◌≢◌, ℕ, ◌+◌, ◌%◌, ◌<◌, ◌≤◌, List, [], ◌∷◌, length, slice_index, Option, Some, None}
use mathlib.Core.Option.{some}
use mathlib.Core.Option as maybe
use lib.ListN.{get_elem?}
use Rattle.atomic_table.specs.Table.{State}
use Rattle.kt_seatlock.specs.Trails.{Each, own, Follows}
use Rattle.kt_seatlock.specs.Views.{IsLive, weight, told}
use Rattle.kt_seatlock.specs.declared.view.View.{View}
use Rattle.kt_seatlock.specs.declared.view.Joined.{Joined}
use Rattle.kt_seatlock.specs.declared.view.Stage.{Stage}
use Rattle.kt_seatlock.specs.declared.view.Stage.TheVariants.{Vacant, Filling, Outside, Inside, Gone}

-- where the value is
pub data Phase (T : Type 0) : Type 0 where
  vacant : Phase T
  filling : Phase T
  free : T → Phase T
  held : ℕ → T → Phase T

abbrev pub IsFull : {T : Type 0} → Phase T → Type 0
IsFull vacant = ⊥
IsFull filling = ⊥
IsFull (free x) = Unit {0}
IsFull (held j x) = Unit {0}

-- what a seat in a stage knows of the value's place
abbrev pub InStage : {T : Type 0} → Phase T → ℕ → Stage T → Type 0
InStage ph j Vacant = ph ≡ vacant
InStage ph j Filling = ph ≡ filling
InStage ph j Outside = IsFull ph
InStage ph j (Inside x) = ph ≡ held j x
InStage ph j Gone = Unit {0}

-- the part of a number, as the value tells it or told it when it was got
abbrev pub part_at : {T P : Type 0} → (T → ℕ → P) → Phase T → ℕ → Option P
part_at part vacant k = None
part_at part filling k = None
part_at part (free x) k = Some (part x k)
part_at part (held j x) k = Some (part x k)

-- the trail, as the value tells it or told it when it was got
abbrev pub trail_at : {T E : Type 0} → (T → List E) → Phase T → List E
trail_at trail vacant = []
trail_at trail filling = []
trail_at trail (free x) = trail x
trail_at trail (held j x) = trail x

-- of each number, the trail has just the entries that its pass had seen, each once and in order
abbrev pub HasJustTheirs : {E P : Type 0} → (E → Option ℕ) → List E → List (Joined E P) → Type 0
HasJustTheirs owner trail l = Each (λ q. own owner q.number trail ≡ own owner q.number q.seen) l

module _ {T E P : Type 0} (trail : T → List E) (part : T → ℕ → P) (owner : E → Option ℕ) where
  -- what the words and the slot are in a phase
  abbrev pub AtTurn : Phase T → ℕ → ℕ → List (maybe.Option (Option T)) → List (View T E P) → Type 0
  AtTurn vacant count turn homes views = (turn % 2 ≡ 1) × (get_elem? homes 0 ≡ some (some None)) × (length views ≡ 1) × (count ≡ 0)
  AtTurn filling count turn homes views = (turn % 2 ≡ 1) × (length views ≡ 1) × (count ≡ 0)
  AtTurn (free x) count turn homes views = (turn % 2 ≡ 0) × (get_elem? homes 0 ≡ some (some (Some x))) × (count ≡ length (trail x))
  AtTurn (held j x) count turn homes views = (turn % 2 ≡ 1) × ((v : View T E P) × (get_elem? views j ≡ some v) × (v.stage ≡ Inside x) × (v.seen ≡ trail x) × (count ≡ length (trail x) + v.ahead))

  -- what the seat j, whose number is n, is right about where q was joined into it
  abbrev pub Took : Phase T → ℕ → (ℕ → ℕ) → ℕ → ℕ → Joined E P → Type 0
  Took ph given seat_of j n q = (q.number ≢ n) × (seat_of q.number ≡ j) × (q.number < given) × (q.part ≡ part_at part ph q.number) × Follows owner q.number q.seen (trail_at trail ph)

  -- the value has the part of each, and its trail goes on from what each had seen by entries of others
  abbrev pub AreKept : T → List (Joined E P) → Type 0
  AreKept x l = Each (λ q. (q.part ≡ Some (part x q.number)) × Follows owner q.number q.seen (trail x)) l

  -- what a live seat j is right about: numbers of different seats are different, and one seat alone gives numbers
  pub record Stands (ph : Phase T) (given giver : ℕ) (seat_of : ℕ → ℕ) (j : ℕ) (v : View T E P) : Type 0 where
    pub mine : seat_of v.number ≡ j
    pub below : v.number < given
    pub saw : Follows owner v.number v.seen (trail_at trail ph)
    pub has : v.part ≡ part_at part ph v.number
    pub took : Each (Took ph given seat_of j v.number) v.joined
    pub gives : v.given ≢ 0 → (v.given ≡ given) × (giver ≡ j) × ((k : ℕ) → given ≤ k → part_at part ph k ≡ told part v.filled k)

  abbrev pub Knows : Phase T → ℕ → ℕ → (ℕ → ℕ) → ℕ → View T E P → Type 0
  Knows ph given giver seat_of j v = (IsLive v.stage → Stands ph given giver seat_of j v) × InStage ph j v.stage

-- the sum of f over a list
abbrev pub total : {A : Type 0} → (A → ℕ) → List A → ℕ
total f [] = 0
total f (x ∷ xs) = f x + total f xs

module _ {T E P : Type 0} (trail : T → List E) (part : T → ℕ → P) (owner : E → Option ℕ) where
  -- the words and the slot fit the phase, each seat is right, the seats answer for all numbers given, and no entry bears one that is left
  pub record Kept (s : State (Option T) (View T E P)) : Type 0 where
    pub phase : Phase T
    pub given : ℕ
    pub giver : ℕ
    pub seat_of : ℕ → ℕ
    pub three : length s.words ≡ 3
    pub one : length s.homes ≡ 1
    pub turn : AtTurn trail part owner phase (slice_index s.words 0) (slice_index s.words 1) s.homes s.views
    pub seats : (j : ℕ) (v : View T E P) → get_elem? s.views j ≡ some v → Knows trail part owner phase given giver seat_of j v
    pub whole : total weight s.views ≡ given
    pub fresh : (k : ℕ) → given ≤ k → Each (λ e. owner e ≢ Some k) (trail_at trail phase)
