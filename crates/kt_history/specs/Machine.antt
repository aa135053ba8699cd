-- The tablet as a machine over the lines of its history.
use Rattle.std.specs.Prelude.{◌≡◌, ℕ, zero, suc, ◌+◌, ◌-◌, ◌*◌, ◌^◌, ◌<◌, ◌≤◌, min, max, Bool, true, false, not, List, [], ◌∷◌, ◌++◌, Option, Some, None, nat_lt, ◌==◌, ◌&&◌, slice_get, slice_set}
use Rattle.std.specs.List.{filter, list_any, list_all}
use Rattle.kt_base.specs.declared.cell.Kind.{Kind}
use Rattle.kt_history.specs.declared.command.Command.{Command}
use Rattle.kt_history.specs.declared.command.Command.TheVariants as command
use Rattle.kt_history.specs.declared.scan.At.{At}
use Rattle.kt_history.specs.declared.scan.At.TheVariants.{Looked, Given}
use Rattle.kt_history.specs.declared.operation.RowOp.{RowOp}
use Rattle.kt_history.specs.declared.event.Event.{Event}
use Rattle.kt_history.specs.declared.event.Event.TheVariants.{Begin, End, Look, Rows, Ancient, Busy, Mark, Chore, Large, Stop}
use Rattle.kt_history.specs.Rows.{Row}
use Rattle.kt_history.specs.History.{Past, IsPastUpTo, rows_at, with_write}
use Rattle.kt_history.specs.Operations.{changes_on, share_key, DifferentKeys, need}

-- what a run is of: the commands of each session, and the size of the pool; the key columns and the others, in order, and of each
-- other column its default, or null
pub record Workload : Type 0 where
  pub plan : List (List Command)
  pub cells : ℕ
  pub keys : List (ℕ × Kind)
  pub others : List (ℕ × Kind)
  pub fill : Row

-- a write that has begun and not ended
pub record Flying : Type 0 where
  pub s : ℕ
  pub i : ℕ
  pub ts : ℕ
  pub ops : List RowOp

-- where a session stands: the number of its next command, and the timestamp that a scan of the present has drawn
pub record Turn : Type 0 where
  pub next : ℕ
  pub look : Option ℕ

-- a is the ancient history mark, c the last timestamp
pub record State : Type 0 where
  pub past : Past
  pub a : ℕ
  pub c : ℕ
  pub flying : List Flying
  pub turns : List Turn
  pub stopped : Bool

-- sessions and commands are counted from 1
abbrev pub nth : {A : Type 0} → List A → ℕ → Option A
nth xs zero = None
nth xs (suc k) = slice_get xs k

abbrev pub set_nth : {A : Type 0} → List A → ℕ → A → List A
set_nth xs zero x = xs
set_nth xs (suc k) x = slice_set xs k x

-- command i of session s
abbrev pub command_of : Option (List Command) → ℕ → Option Command
command_of None i = None
command_of (Some commands) i = nth commands i

abbrev pub command_at : Workload → ℕ → ℕ → Option Command
command_at work s i = command_of (nth work.plan s) i

-- the timestamp that follows c at the clock's reading m
abbrev pub next_timestamp : ℕ → ℕ → ℕ
next_timestamp c m = max (c + 1) (min m (2 ^ 50 - 1) * 4096)

-- no write at or below t flies
abbrev pub none_flies : ℕ → List Flying → Bool
none_flies t flying = list_all (λ w. nat_lt t w.ts) flying

-- the least flying timestamp
abbrev pub least : List Flying → Option ℕ
least [] = None
least (w ∷ flying) = Some (lesser (least flying) w.ts)
  where
    lesser : Option ℕ → ℕ → ℕ
    lesser None n = n
    lesser (Some m) n = min m n

-- up to here no write flies and none will begin
abbrev pub clean_below : Option ℕ → ℕ → ℕ
clean_below None c = c
clean_below (Some f) c = f - 1

-- command i is the next of session s, of which no write flies, and its look is this
pub record IsNext (st : State) (s i : ℕ) (look : Option ℕ) : Type 0 where
  pub next : nth st.turns s ≡ Some (record { next = i; look = look })
  pub rests : list_any (λ w. w.s == s) st.flying ≡ false

-- a write may begin
pub record MayBegin (work : Workload) (st : State) (ops : List RowOp) (ts m : ℕ) : Type 0 where
  pub room : need ops ≤ work.cells
  pub apart : list_any (λ w. share_key ops w.ops) st.flying ≡ false
  pub next : ts ≡ next_timestamp st.c m

-- a fact of the command, if it is a write, a scan that reads then, a mark or maintenance
abbrev pub IfWrite : Option Command → (List RowOp → Type 0) → Type 0
IfWrite (Some (command.Write w)) P = P w.ops
IfWrite (Some (command.Scan scan)) P = ⊥
IfWrite (Some (command.Mark t)) P = ⊥
IfWrite (Some (command.Chore chore)) P = ⊥
IfWrite None P = ⊥

abbrev pub IfScan : Option Command → (At → Type 0) → Type 0
IfScan (Some (command.Write w)) P = ⊥
IfScan (Some (command.Scan scan)) P = P scan.at
IfScan (Some (command.Mark t)) P = ⊥
IfScan (Some (command.Chore chore)) P = ⊥
IfScan None P = ⊥

abbrev pub IfMark : Option Command → (ℕ → Type 0) → Type 0
IfMark (Some (command.Write w)) P = ⊥
IfMark (Some (command.Scan scan)) P = ⊥
IfMark (Some (command.Mark t)) P = P t
IfMark (Some (command.Chore chore)) P = ⊥
IfMark None P = ⊥

abbrev pub IsChore : Option Command → Type 0
IsChore (Some (command.Write w)) = ⊥
IsChore (Some (command.Scan scan)) = ⊥
IsChore (Some (command.Mark t)) = ⊥
IsChore (Some (command.Chore chore)) = Unit {0}
IsChore None = ⊥

-- the look of a scan that reads at t: it has drawn t, or t is given
abbrev pub look_for : At → ℕ → Option ℕ
look_for Looked t = Some t
look_for (Given given) t = None

abbrev pub ReadsAt : At → ℕ → Type 0
ReadsAt Looked t = Unit {0}
ReadsAt (Given given) t = t ≡ given

-- a scan whose time is t, drawn or given, may be answered
abbrev pub MayRead : Workload → State → ℕ → ℕ → ℕ → Type 0
MayRead work st s i t = IfScan (command_at work s i) (λ w. ReadsAt w t × IsNext st s i (look_for w t))

abbrev pub Allowed : Workload → State → Event → Type 0
Allowed work st (Begin s i ts m) = (st.stopped ≡ false) × IsNext st s i None × IfWrite (command_at work s i) (λ ops. MayBegin work st ops ts m)
Allowed work st (End s i ts) = (st.stopped ≡ false) × (list_any (λ w. (w.s == s) && (w.i == i) && (w.ts == ts)) st.flying ≡ true)
Allowed work st (Look s i t m) = (st.stopped ≡ false) × IsNext st s i None × IfScan (command_at work s i) (λ w. w ≡ Looked) × (t ≡ next_timestamp st.c m)
Allowed work st (Rows s i t) = (st.stopped ≡ false) × MayRead work st s i t × (st.a ≤ t) × (none_flies t st.flying ≡ true)
Allowed work st (Ancient s i t a) = (st.stopped ≡ false) × MayRead work st s i t × (t < a) × (a ≡ st.a)
Allowed work st (Busy s i t f) = (st.stopped ≡ false) × IsNext st s i None × IfScan (command_at work s i) (λ w. w ≡ Given t) × (st.a ≤ t) × (least st.flying ≡ Some f) × (f ≤ t)
Allowed work st (Mark s i a) = (st.stopped ≡ false) × IsNext st s i None × IfMark (command_at work s i) (λ t. a ≡ max st.a (min t (clean_below (least st.flying) st.c)))
Allowed work st (Chore s i) = (st.stopped ≡ false) × IsNext st s i None × IsChore (command_at work s i)
Allowed work st (Large s i n) = (st.stopped ≡ false) × IsNext st s i None × IfWrite (command_at work s i) (λ ops. (n ≡ need ops) × (work.cells < n))
Allowed work st Stop = st.stopped ≡ false

-- the operations of a write
abbrev pub ops_of : Option Command → List RowOp
ops_of (Some (command.Write w)) = w.ops
ops_of (Some (command.Scan scan)) = []
ops_of (Some (command.Mark t)) = []
ops_of (Some (command.Chore chore)) = []
ops_of None = []

-- each write of the plan is on different keys
abbrev pub HasDifferentKeys : Workload → Type 0
HasDifferentKeys work = (s i : ℕ) → DifferentKeys (ops_of (command_at work s i))

-- session s goes on to the command after i
abbrev pub answered : State → ℕ → ℕ → State
answered st s i = record st { turns = set_nth st.turns s (record { next = i + 1; look = None }) }

-- the state after a write began
abbrev pub begun : Workload → State → ℕ → ℕ → ℕ → List RowOp → State
begun work st s i ts ops = record st {
  past = with_write st.past ts (changes_on work.fill (rows_at st.past (ts - 1)) ops);
  c = ts;
  flying = st.flying ++ record { s = s; i = i; ts = ts; ops = ops } ∷ [];
}

-- the state after a line
abbrev pub after : Workload → State → Event → State
after work st (Begin s i ts m) = begun work st s i ts (ops_of (command_at work s i))
after work st (End s i ts) = answered (record st { flying = filter (λ w. not (w.s == s)) st.flying }) s i
after work st (Look s i t m) = record st { c = t; turns = set_nth st.turns s (record { next = i; look = Some t }) }
after work st (Rows s i t) = answered (record st { c = max st.c t }) s i
after work st (Ancient s i t a) = answered st s i
after work st (Busy s i t f) = answered st s i
after work st (Mark s i a) = answered (record st { a = a }) s i
after work st (Chore s i) = answered st s i
after work st (Large s i n) = answered st s i
after work st Stop = record st { stopped = true }

-- the state after these lines
abbrev pub state_after : Workload → State → List Event → State
state_after work st [] = st
state_after work st (e ∷ events) = state_after work (after work st e) events

-- each line is allowed in its turn
abbrev pub IsRunFrom : Workload → State → List Event → Type 0
IsRunFrom work st [] = Unit {0}
IsRunFrom work st (e ∷ events) = Allowed work st e × IsRunFrom work (after work st e) events

-- the readings of the clock that the lines show
abbrev pub readings_of : List Event → List ℕ
readings_of [] = []
readings_of (Begin s i ts m ∷ events) = m ∷ readings_of events
readings_of (Look s i t m ∷ events) = m ∷ readings_of events
readings_of (_ ∷ events) = readings_of events

-- each session is at its first command
abbrev pub first_turns : List (List Command) → List Turn
first_turns [] = []
first_turns (commands ∷ plan) = record { next = 1; look = None } ∷ first_turns plan

-- nothing has happened yet
abbrev pub start : Workload → Past → ℕ → State
start work past c = record { past = past; a = past.mark; c = c; flying = []; turns = first_turns work.plan; stopped = false }

-- the lines are a run of the workload from this past and last timestamp
abbrev pub IsRun : Workload → Past → ℕ → List Event → Type 0
IsRun work past c events = IsRunFrom work (start work past c) events

-- in a run of a plan whose writes are on different keys, the past stays one, and no write of it is above the last timestamp
abbrev pub a_past_stays_one : Type 0
a_past_stays_one = (work : Workload) (past : Past) (c : ℕ) (events : List Event) → HasDifferentKeys work → IsPastUpTo c past → IsRun work past c events → IsPastUpTo (state_after work (start work past c) events).c (state_after work (start work past c) events).past
