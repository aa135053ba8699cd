-- What the seats of the lock's table know, and how a view becomes another.
use Rattle.std.specs.Prelude.{ℕ, zero, suc, ◌+◌, List, [], ◌∷◌, ◌++◌, length, Option, Some, None, max}
use Rattle.kt_seatlock.specs.Trails.{longer}
use Rattle.kt_seatlock.specs.declared.view.View.{View}
use Rattle.kt_seatlock.specs.declared.view.Joined.{Joined}
use Rattle.kt_seatlock.specs.declared.view.Stage.{Stage}
use Rattle.kt_seatlock.specs.declared.view.Stage.TheVariants.{Vacant, Filling, Outside, Inside, Gone}

abbrev pub IsLive : {T : Type 0} → Stage T → Type 0
IsLive Vacant = Unit {0}
IsLive Filling = Unit {0}
IsLive Outside = Unit {0}
IsLive (Inside x) = Unit {0}
IsLive Gone = ⊥

abbrev pub lives : {T : Type 0} → Stage T → ℕ
lives Vacant = 1
lives Filling = 1
lives Outside = 1
lives (Inside x) = 1
lives Gone = 0

-- the slots that a pass has with it between two calls
abbrev pub carried_in : {T : Type 0} → Stage T → List (ℕ × Option T)
carried_in Vacant = []
carried_in Filling = []
carried_in Outside = []
carried_in (Inside x) = (0, None) ∷ []
carried_in Gone = []

-- the value that a seat got and has not put back
abbrev pub got_in : {T : Type 0} → Stage T → Option T
got_in Vacant = None
got_in Filling = None
got_in Outside = None
got_in (Inside x) = Some x
got_in Gone = None

-- how many numbers a seat answers for
abbrev pub weight : {T E P : Type 0} → View T E P → ℕ
weight v = lives v.stage + length v.joined

-- the first where its seat may give numbers, and otherwise the second
abbrev pub pick : {A : Type 0} → ℕ → A → A → A
pick zero a b = b
pick (suc n) a b = a

-- the part that the value which filled the lock told
abbrev pub told : {T P : Type 0} → (T → ℕ → P) → Option T → ℕ → Option P
told part None k = None
told part (Some x) k = Some (part x k)

module _ {T E P : Type 0} where
  abbrev pub first_view : View T E P
  first_view = record { number = 0; seen = []; part = None; joined = []; stage = Vacant; filled = None; given = 1; ahead = 0 }

  -- a seat that was joined into another
  abbrev pub gone_view : View T E P
  gone_view = record { number = 0; seen = []; part = None; joined = []; stage = Gone; filled = None; given = 0; ahead = 0 }

  -- what is kept of a pass that is joined into another
  abbrev pub joined_of : View T E P → Joined E P
  joined_of w = record { number = w.number; part = w.part; seen = w.seen }

  abbrev pub both_views : View T E P → View T E P → View T E P
  both_views v w = record { number = v.number; seen = longer v.seen w.seen; part = v.part; joined = joined_of w ∷ (w.joined ++ v.joined); stage = v.stage; filled = pick v.given v.filled w.filled; given = max v.given w.given; ahead = v.ahead }

  -- one number more was given
  abbrev pub left_view : View T E P → View T E P
  left_view v = record { number = v.number; seen = v.seen; part = v.part; joined = v.joined; stage = v.stage; filled = v.filled; given = v.given + 1; ahead = v.ahead }

  abbrev pub filling_view : View T E P → View T E P
  filling_view v = record { number = v.number; seen = v.seen; part = v.part; joined = v.joined; stage = Filling; filled = v.filled; given = v.given; ahead = v.ahead }

  -- k entries were counted that are not home yet
  abbrev pub ahead_view : View T E P → ℕ → View T E P
  ahead_view v k = record { number = v.number; seen = v.seen; part = v.part; joined = v.joined; stage = v.stage; filled = v.filled; given = v.given; ahead = k }

module _ {T E P : Type 0} (part : T → ℕ → P) where
  -- a pass with the number that is given next
  abbrev pub right_view : View T E P → View T E P
  right_view v = record { number = v.given; seen = v.seen; part = told part v.filled v.given; joined = []; stage = Outside; filled = v.filled; given = 0; ahead = 0 }

module _ {T E P : Type 0} (trail : T → List E) where
  -- a seat that has taken the value x
  abbrev pub inside_view : View T E P → T → View T E P
  inside_view v x = record { number = v.number; seen = trail x; part = v.part; joined = v.joined; stage = Inside x; filled = v.filled; given = v.given; ahead = 0 }

module _ {T E P : Type 0} (trail : T → List E) (part : T → ℕ → P) where
  -- a seat that has put the value y back
  abbrev pub outside_view : View T E P → T → View T E P
  outside_view v y = record { number = v.number; seen = trail y; part = Some (part y v.number); joined = v.joined; stage = Outside; filled = v.filled; given = v.given; ahead = 0 }

  -- a seat that has filled the lock with y
  abbrev pub filled_view : View T E P → T → View T E P
  filled_view v y = record { number = v.number; seen = trail y; part = Some (part y v.number); joined = v.joined; stage = Outside; filled = Some y; given = v.given; ahead = 0 }
