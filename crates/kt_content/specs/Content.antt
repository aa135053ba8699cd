-- What a superblock and the records of a log hold together.
use Rattle.std.specs.Prelude.{◌≡◌, ◌==◌, ℕ, max, true, false, is_some, List, [], ◌∷◌, Result, Ok, ◌≤◌, length, ◌<◌, Option, Some, None}
use Rattle.kt_history.specs.Rows.{Row}
use Rattle.kt_history.specs.History.{Past, IsPast, IsPastUpTo}
use Rattle.kt_history.specs.SamePasts.{ShowTheSame}
use Rattle.kt_records.specs.declared.entry.Entry.{Entry}
use Rattle.kt_histlaws.specs.Histories.{past_hist, ShowsKey}
use Rattle.kt_history.specs.Stores.{Hist, row_of, step_of}
use Rattle.kt_histlaws.specs.Fitting.{AreSound}
use Rattle.kt_loglaws.specs.Replay.{last_of, empty}
use Rattle.kt_rowfiles.specs.Files.{DiskRowset}
use Rattle.kt_content.specs.Places.{Super, Held, fresh, held_in, at_first, OneLive, standing, Place, Standing, places_of, live_in, needed_in, AboveRedos}
use Rattle.kt_content.specs.KeyOps.{KeyOp, seen, played, to_live}
use Rattle.kt_history.specs.declared.operation.RowOp.{RowOp}
use Rattle.kt_history.specs.declared.target.Target.{Target}
use Rattle.kt_content.specs.Rules.{Rules, AreRules, RecordsPass, RowsetsPass, HistPasses}

-- what the stores of an opening have of a key, or the timestamp of the first operation on it that does not fit
abbrev pub content_at : Row → Super → List Entry → List ℕ → Result Held ℕ
content_at fill super records q = played fill super (at_first q super) (seen q records records)

-- two histories are the same from a mark on
pub record SameFrom (m : ℕ) (g h : Hist) : Type 0 where
  pub rows : (t : ℕ) → m ≤ t → row_of t g ≡ row_of t h
  pub steps : (t : ℕ) → m < t → step_of t g ≡ step_of t h

-- these stores have this history of the key from a on, each change in one of them and in order
pub record Shown (a : ℕ) (held : Held) (whole : Hist) : Type 0 where
  pub shows : ShowsKey a (held_in held) whole
  pub sound : AreSound a (held_in held)

-- of an operation without a COMMIT one store at most has the key live just before it, so that the order of the stores decides nothing
abbrev pub UntoldLiveOnce : Held → List KeyOp → Type 0
UntoldLiveOnce held [] = Unit {0}
UntoldLiveOnce held (x ∷ xs) = (is_some x.told ≡ false → OneLive (standing x.ts held)) × UntoldLiveOnce held xs

-- the stores that an operation changes: those that its COMMIT's names still need, or else the one to which it goes
abbrev pub changed_in : Row → Super → Standing → RowOp → Option (List Target) → List Place
changed_in fill super rows op None = places_of (to_live fill op (live_in rows))
changed_in fill super rows op (Some targets) = needed_in super targets

-- each change of a DeltaMemStore lies above the row's records in the REDO files of the rowset
abbrev pub AboveFiles : Row → List ℕ → Super → Held → List KeyOp → Type 0
AboveFiles fill q super held [] = Unit {0}
AboveFiles fill q super held (x ∷ xs) = AboveRedos q super x.ts (changed_in fill super (standing x.ts held) x.op x.told) × AboveFiles fill q super held xs

-- the content of a key is this history
pub record HoldsKey (fill : Row) (super : Super) (records : List Entry) (q : List ℕ) (whole : Hist) : Type 0 where
  pub held : Held
  pub is : content_at fill super records q ≡ Ok held
  pub shown : Shown super.a held whole
  pub once : UntoldLiveOnce held (seen q records records)
  pub above : AboveFiles fill q super held (seen q records records)

-- no two rowsets have one number
abbrev pub LacksNumber : ℕ → List DiskRowset → Type 0
LacksNumber r [] = Unit {0}
LacksNumber r (d ∷ rowsets) = ((r == d.rowset) ≡ false) × LacksNumber r rowsets

abbrev pub NumbersDiffer : List DiskRowset → Type 0
NumbersDiffer [] = Unit {0}
NumbersDiffer (d ∷ rowsets) = LacksNumber d.rowset rowsets × NumbersDiffer rowsets

-- each has its COMMIT
abbrev pub AreTold : List KeyOp → Type 0
AreTold [] = Unit {0}
AreTold (x ∷ xs) = (is_some x.told ≡ true) × AreTold xs

-- A superblock and records hold this past, of which c is the last timestamp. A log with fewer records than the superblock needs has no content, and
-- nor has one with an operation, or a superblock with a row or record, that the rules of the table do not take.
pub record IsContent (rules : Rules) (fill : Row) (super : Super) (records : List Entry) (c : ℕ) (past : Past) : Type 0 where
  pub enough : super.need ≤ length records
  pub numbers : NumbersDiffer super.rowsets
  pub mark : past.mark ≡ super.a
  pub last : c ≡ max super.c (last_of records)
  pub ends : IsPastUpTo c past
  pub passes : RecordsPass rules fill records
  pub files : RowsetsPass rules super.rowsets
  pub keys : (q : List ℕ) → HoldsKey fill super records q (past_hist q past)

-- a fresh tablet holds the empty past
abbrev pub a_fresh_tablet_is_empty : Type 0
a_fresh_tablet_is_empty = (rules : Rules) (fill : Row) → IsContent rules fill fresh [] 0 empty

-- what each store has of a key passes
abbrev pub EachPasses : Rules → List ℕ → Held → Type 0
EachPasses rules q [] = Unit {0}
EachPasses rules q (h ∷ held) = HistPasses rules q h.1 × EachPasses rules q held

-- so it does in each content
abbrev pub what_stores_have_passes : Type 0
what_stores_have_passes = (rules : Rules) (fill : Row) (super : Super) (records : List Entry) (c : ℕ) (past : Past) (q : List ℕ) (held : Held) → AreRules rules
    → IsContent rules fill super records c past → content_at fill super records q ≡ Ok held → EachPasses rules q held

-- pasts of one mark of which each key has the same history from there on show the same, so that no run tells them apart
abbrev pub same_histories_show_the_same : Type 0
same_histories_show_the_same = (p q : Past) → IsPast p → IsPast q → q.mark ≡ p.mark → ((k : List ℕ) → SameFrom p.mark (past_hist k p) (past_hist k q)) → ShowTheSame p q

-- and so do all pasts that a superblock and records hold
abbrev pub contents_show_the_same : Type 0
contents_show_the_same = (rules : Rules) (fill : Row) (super : Super) (records : List Entry) (c d : ℕ) (p q : Past) → IsContent rules fill super records c p
    → IsContent rules fill super records d q → (c ≡ d) × ShowTheSame p q
