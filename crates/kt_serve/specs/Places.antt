-- The passes of many sessions over one lock.
use Rattle.std.specs.Prelude.{◌≡◌, ℕ, List, [], ◌∷◌, Option}
use Rattle.kt_seatlock.specs.Views.{told}
use Rattle.kt_seatlock.specs.Passes.{number, seen, part, joined, given, MayEnter}
use Rattle.kt_seatlock.specs.declared.view.Joined.{Joined}
use Rattle.kt_seatlock.specs.declared.shared.Shared.{Ghosts}
use Rattle.kt_seatlock.specs.declared.pass.Pass.{Pass}
use Rattle.kt_seatlock.specs.declared.lock.SeatLock.{SeatLock}
use Rattle.kt_serve.specs.declared.places.Place.{Place}

module _ {T E P : Type 0} {g : Ghosts T E P} where
  -- It has this number, and has not entered the lock, which this value filled.
  pub record IsNew (lock : SeatLock T E P) (n : ℕ) (trail : List E) (value : Option T) (p : Pass T E P g) : Type 0 where
    pub enters : MayEnter lock p
    pub number_is : number p ≡ n
    pub saw : seen p ≡ trail
    pub part_is : part p ≡ told g.part value n
    pub alone : joined p ≡ []
    pub gives : given p ≡ 0

  -- each pass may be taken in: it is outside, none was joined into it, and it gives no numbers
  abbrev pub AreBack : SeatLock T E P → List (Place T E P g) → Type 0
  AreBack lock [] = Unit {0}
  AreBack lock (p ∷ places) = (MayEnter lock p.pass × (joined p.pass ≡ []) × (given p.pass ≡ 0)) × AreBack lock places

  -- what is kept of a pass that is taken in
  abbrev pub joined_of : Pass T E P g → Joined E P
  joined_of p = record { number = number p; part = part p; seen = seen p }

  -- those taken in before, and all of these, the last in front
  abbrev pub taken : List (Place T E P g) → List (Joined E P) → List (Joined E P)
  taken [] known = known
  taken (p ∷ places) known = taken places (joined_of p.pass ∷ known)
