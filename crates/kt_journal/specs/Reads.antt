-- What stands behind an open gate.
use Rattle.std.specs.Prelude.{◌≡◌, ◌⊎◌, ℕ, Bool, true, false, List, [], ◌∷◌, ◌++◌, length, Some, None}
use Rattle.kt_records.specs.declared.entry.Entry.{Entry}
use Rattle.kt_records.specs.Spelling.{spelling}
use Rattle.kt_records.specs.Reading.{record_of}
use Rattle.kt_journal.specs.Frames.{body, body_at}
use Rattle.kt_journal.specs.Order.{follows, IsFramed}
use Rattle.kt_journal.specs.Log.{following}
use Rattle.kt_journal.specs.declared.order.Order.{Order as Orders}
use Rattle.kt_journal.specs.Tracks.{Tracks}
use Rattle.kt_records.specs.Rules.{KeepsRules}

-- the frame is at fault: it reaches past the end, or its payload is no record that may follow
abbrev pub IsFaulty : List Entry → List ℕ → Type 0
IsFaulty before bytes = (body_at bytes ≡ None) ⊎ ((payload : List ℕ) × (rest : List ℕ) × (body_at bytes ≡ Some (payload, rest)) × (following before (record_of payload) ≡ None))

-- the frame has this record, which may follow, and its payload is so long
pub record IsNext (before : List Entry) (bytes : List ℕ) (entry : Entry) (len : ℕ) : Type 0 where
  pub rest : List ℕ
  pub parts : bytes ≡ body (spelling entry) ++ rest
  pub framed : IsFramed entry
  pub may : follows before entry ≡ true
  pub len_is : len ≡ length (spelling entry)

-- the payload has this record, which may follow and was added to the others, and the order has it
pub record HasFollowing (before : List Entry) (payload : List ℕ) (old new : List Entry) (order : Orders) : Type 0 where
  pub entry : Entry
  pub keeps : KeepsRules entry
  pub spelled : payload ≡ spelling entry
  pub may : follows before entry ≡ true
  pub added : new ≡ old ++ entry ∷ []
  pub tracks : Tracks order (entry ∷ before)

-- so it is, or the payload has none that may follow
abbrev pub Follows : List Entry → List ℕ → List Entry → List Entry → Orders → Bool → Type 0
Follows before payload old new order true = HasFollowing before payload old new order
Follows before payload old new order false = following before (record_of payload) ≡ None

-- the frame has a record of so many bytes, which may follow and was added to the others, and the order has it
pub record HasNext (before : List Entry) (bytes : List ℕ) (len : ℕ) (old new : List Entry) (order : Orders) : Type 0 where
  pub entry : Entry
  pub next : IsNext before bytes entry len
  pub added : new ≡ old ++ entry ∷ []
  pub tracks : Tracks order (entry ∷ before)
