-- What a clause says of a pass and of its lock.
use Rattle.std.specs.Prelude.{◌≡◌, ◌≢◌, ℕ, ◌+◌, List, [], Option, None, length}
use Rattle.kt_seatlock.specs.Views.{got_in}
use Rattle.kt_seatlock.specs.declared.view.Joined.{Joined}
use Rattle.kt_seatlock.specs.declared.view.Stage.TheVariants.{Vacant, Outside}
use Rattle.kt_seatlock.specs.declared.shared.Shared.{Ghosts}
use Rattle.kt_seatlock.specs.declared.pass.Pass.{Pass}
use Rattle.kt_seatlock.specs.declared.lock.SeatLock.{SeatLock}

-- how many passes a lock has at most
abbrev pub passes_of : {T E P : Type 0} → SeatLock T E P → ℕ
passes_of lock = lock.passes

module _ {T E P : Type 0} {g : Ghosts T E P} where
  abbrev pub number : Pass T E P g → ℕ
  number p = p.seat.me.0.number

  -- the trail that it has seen
  abbrev pub seen : Pass T E P g → List E
  seen p = p.seat.me.0.seen

  -- its part, none in a vacant lock
  abbrev pub part : Pass T E P g → Option P
  part p = p.seat.me.0.part

  -- the passes that were joined into it: the number of each, its part and what it had seen
  abbrev pub joined : Pass T E P g → List (Joined E P)
  joined p = p.seat.me.0.joined

  -- how many numbers were given out, or 0 where it may give none
  abbrev pub given : Pass T E P g → ℕ
  given p = p.seat.me.0.given

  -- the value that filled the lock, where it may give numbers
  abbrev pub filled : Pass T E P g → Option T
  filled p = p.seat.me.0.filled

  -- the lock is vacant, and this is its only pass
  abbrev pub IsVacant : Pass T E P g → Type 0
  IsVacant p = (p.seat.me.0.stage ≡ Vacant) × (p.seat.me.0.joined ≡ [])

  -- the lock is filled, and the pass is not inside
  abbrev pub IsOutside : Pass T E P g → Type 0
  IsOutside p = p.seat.me.0.stage ≡ Outside

  -- the value that the pass got, where it is inside
  abbrev pub got : Pass T E P g → Option T
  got p = got_in p.seat.me.0.stage

  abbrev pub IsInside : Pass T E P g → Type 0
  IsInside p = got p ≢ None

  abbrev pub IsPassOf : SeatLock T E P → Pass T E P g → Type 0
  IsPassOf lock p = p.seat.table_id ≡ lock.table.shared.table_id

  -- it is a pass of the same lock, with the same number
  abbrev pub IsSamePass : Pass T E P g → Pass T E P g → Type 0
  IsSamePass p q = (q.seat.table_id ≡ p.seat.table_id) × (number q ≡ number p)

  -- nothing that it tells has changed
  abbrev pub IsSame : Pass T E P g → Pass T E P g → Type 0
  IsSame p q = (q.seat.table_id ≡ p.seat.table_id) × (q.seat.id ≡ p.seat.id) × (q.seat.me ≡ p.seat.me)

  -- what was joined into it, what it may give and what filled the lock are the same
  abbrev pub IsAsFull : Pass T E P g → Pass T E P g → Type 0
  IsAsFull p q = (joined q ≡ joined p) × (given q ≡ given p) × (filled q ≡ filled p)

  -- every other pass was joined into it
  abbrev pub IsLastPass : Pass T E P g → Type 0
  IsLastPass p = length (joined p) + 1 ≡ given p

  -- the pass may enter the lock
  abbrev pub MayEnter : SeatLock T E P → Pass T E P g → Type 0
  MayEnter lock p = IsPassOf lock p × IsOutside p

  -- the same pass after some visits, outside again
  abbrev pub IsBack : Pass T E P g → Pass T E P g → Type 0
  IsBack p q = IsSamePass p q × IsAsFull p q × IsOutside q
