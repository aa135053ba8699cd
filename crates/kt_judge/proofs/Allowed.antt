-- Each test of a line against what the machine allows.
use Rattle.std.proofs.Common.{◌≡◌, ℕ, ◌^◌, ◌<◌, ◌≤◌, List, [], ◌∷◌, Some, None, Option, refl, true, false, Bool, ◌&&◌, ◌||◌, sym, ap, ◌∙◌, arith, min, max, map}
use Rattle.std.specs.Prelude.{not, nat_le, nat_lt, ◌==◌}
use Rattle.std.specs.List.{list_any, list_all}
use Rattle.std.proofs.lemmas.List.Folds.{list_all-map}
use Rattle.kt_history.specs.declared.command.Command.{Command}
use Rattle.kt_history.specs.declared.command.Command.TheVariants as command
use Rattle.kt_history.specs.declared.operation.RowOp.{RowOp}
use Rattle.kt_history.specs.declared.scan.At.{At}
use Rattle.kt_history.specs.declared.scan.At.TheVariants.{Looked, Given}
use Rattle.kt_history.specs.declared.event.Event.TheVariants.{Begin, End, Look, Rows, Ancient, Busy, Mark, Chore, Large}
use Rattle.kt_history.specs.Operations.{need, share_key}
use Rattle.kt_history.specs.History.{Past}
use Rattle.kt_history.specs.Machine.{Workload, Allowed, IsNext, MayBegin, MayRead, ReadsAt, look_for, IfWrite, IfScan, IfMark, IsChore, command_at, ops_of, least, clean_below, next_timestamp}
use Rattle.kt_judge.specs.Decided.{Decided}
use Rattle.kt_judge.specs.declared.machine.Flight.{Flight}
use Rattle.kt_judge.specs.declared.machine.Machine.{Machine}
use Rattle.kt_judge.specs.Machine.{flown, state_of, write_in, at_in, mark_in, ops_in}
use Rattle.kt_judge.proofs.Steps.{decided_map, decided_2, decided_3, decided_4, decided_5, decided_le, decided_lt, decided_eq, decided_is, decided_not, list_any-map, some_same}

-- ---- which command it is

pub if_write : (o : Option Command) (P : List RowOp → Type 0) (ops : List RowOp) → write_in o ≡ Some ops → (IfWrite o P → P ops) × (P ops → IfWrite o P)
if_write None P ops e = (λ h. absurd h, cc)
if_write (Some (command.Write w)) P ops e =
    let same : w.ops ≡ ops = some_same _ _ e in
    (λ h. subst_ops P _ _ same h, λ h. subst_ops P _ _ (sym same) h)
  where
    subst_ops : (P : List RowOp → Type 0) (xs ys : List RowOp) → xs ≡ ys → P xs → P ys
    subst_ops P xs ys e h = rw (← e) h
if_write (Some (command.Scan scan)) P ops e = (λ h. absurd h, cc)
if_write (Some (command.Mark t)) P ops e = (λ h. absurd h, cc)
if_write (Some (command.Chore chore)) P ops e = (λ h. absurd h, cc)

pub no_write : (o : Option Command) (P : List RowOp → Type 0) → write_in o ≡ None → IfWrite o P → ⊥
no_write None P e h = h
no_write (Some (command.Write w)) P e h = cc
no_write (Some (command.Scan scan)) P e h = h
no_write (Some (command.Mark t)) P e h = h
no_write (Some (command.Chore chore)) P e h = h

pub if_scan : (o : Option Command) (P : At → Type 0) (w : At) → at_in o ≡ Some w → (IfScan o P → P w) × (P w → IfScan o P)
if_scan None P w e = (λ h. absurd h, cc)
if_scan (Some (command.Write x)) P w e = (λ h. absurd h, cc)
if_scan (Some (command.Scan scan)) P w e =
    let same : scan.at ≡ w = some_same _ _ e in
    (λ h. subst_at P _ _ same h, λ h. subst_at P _ _ (sym same) h)
  where
    subst_at : (P : At → Type 0) (x y : At) → x ≡ y → P x → P y
    subst_at P x y e h = rw (← e) h
if_scan (Some (command.Mark t)) P w e = (λ h. absurd h, cc)
if_scan (Some (command.Chore chore)) P w e = (λ h. absurd h, cc)

pub no_scan : (o : Option Command) (P : At → Type 0) → at_in o ≡ None → IfScan o P → ⊥
no_scan None P e h = h
no_scan (Some (command.Write w)) P e h = h
no_scan (Some (command.Scan scan)) P e h = cc
no_scan (Some (command.Mark t)) P e h = h
no_scan (Some (command.Chore chore)) P e h = h

pub if_mark : (o : Option Command) (P : ℕ → Type 0) (t : ℕ) → mark_in o ≡ Some t → (IfMark o P → P t) × (P t → IfMark o P)
if_mark None P t e = (λ h. absurd h, cc)
if_mark (Some (command.Write x)) P t e = (λ h. absurd h, cc)
if_mark (Some (command.Scan scan)) P t e = (λ h. absurd h, cc)
if_mark (Some (command.Mark u)) P t e =
    let same : u ≡ t = some_same _ _ e in
    (λ h. subst_ℕ P _ _ same h, λ h. subst_ℕ P _ _ (sym same) h)
  where
    subst_ℕ : (P : ℕ → Type 0) (x y : ℕ) → x ≡ y → P x → P y
    subst_ℕ P x y e h = rw (← e) h
if_mark (Some (command.Chore chore)) P t e = (λ h. absurd h, cc)

pub no_mark : (o : Option Command) (P : ℕ → Type 0) → mark_in o ≡ None → IfMark o P → ⊥
no_mark None P e h = h
no_mark (Some (command.Write w)) P e h = h
no_mark (Some (command.Scan scan)) P e h = h
no_mark (Some (command.Mark t)) P e h = cc
no_mark (Some (command.Chore chore)) P e h = h

ops_are : (o : Option Command) → ops_of o ≡ ops_in (write_in o)
ops_are None = refl
ops_are (Some (command.Write w)) = refl
ops_are (Some (command.Scan scan)) = refl
ops_are (Some (command.Mark t)) = refl
ops_are (Some (command.Chore chore)) = refl

-- ---- the need

fits_in : (n cells k : ℕ) → k ≡ min n (2 ^ 32) → cells < 2 ^ 32 → Decided (nat_le k cells) (n ≤ cells)
fits_in n cells k e small = decided_map (k ≤ cells) (n ≤ cells) (nat_le k cells) (λ h. omega (arith, h, e)) (λ h. omega (arith, h, e)) (decided_le k cells)

is_need : (n m k : ℕ) → k ≡ min m (2 ^ 32) → n < 2 ^ 32 → Decided (n == k) (n ≡ m)
is_need n m k e small = decided_map (n ≡ k) (n ≡ m) (n == k) (λ h. omega (arith, h, e)) (λ h. omega (arith, h, e)) (decided_eq n k)

-- ---- each line

keys_apart : (work : Workload) (ops : List RowOp) (flying : List Flight) → list_any (λ w. share_key ops w.ops) (map (flown work) flying) ≡ list_any (λ f. share_key ops (ops_in (write_in (command_at work f.s f.i)))) flying
keys_apart work ops [] = refl
keys_apart work ops (f ∷ flying) = ap (λ xs. share_key ops xs || list_any (λ w. share_key ops w.ops) (map (flown work) flying)) (ops_are (command_at work f.s f.i)) ∙ ap (λ b. share_key ops (ops_in (write_in (command_at work f.s f.i))) || b) (keys_apart work ops flying)

pub begin_decided : (work : Workload) (past : Past) (m : Machine) (s i ts r need_of : ℕ) (ops : List RowOp) (n a t : Bool)
    → m.stopped ≡ false → write_in (command_at work s i) ≡ Some ops → Decided n (IsNext (state_of work past m) s i None) → need_of ≡ min (need ops) (2 ^ 32) → work.cells < 2 ^ 32
    → a ≡ list_any (λ f. share_key ops (ops_in (write_in (command_at work f.s f.i)))) m.flying.items → Decided t (ts ≡ next_timestamp m.c r)
    → Decided (((n && nat_le need_of work.cells) && not a) && t) (Allowed work (state_of work past m) (Begin s i ts r))
begin_decided work past m s i ts r need_of ops n a t going e dn nd small da dt =
    let w = if_write (command_at work s i) (λ ops. MayBegin work (state_of work past m) ops ts r) ops e in
    let apart = keys_apart work ops m.flying.items in
    decided_4 (IsNext (state_of work past m) s i None) (need ops ≤ work.cells) (list_any (λ f. share_key ops (ops_in (write_in (command_at work f.s f.i)))) m.flying.items ≡ false) (ts ≡ next_timestamp m.c r) (Allowed work (state_of work past m) (Begin s i ts r))
    n (nat_le need_of work.cells) (not a) t
    (λ h room a' next. (going, h, w.1 (record { room = room; apart = apart ∙ a'; next = next })))
    (λ q. (q.1, (w.0 q.2).room, sym apart ∙ (w.0 q.2).apart, (w.0 q.2).next))
    dn (fits_in (need ops) work.cells need_of nd small) (decided_not a _ da) dt

pub look_decided : (work : Workload) (past : Past) (m : Machine) (s i t r : ℕ) (n b : Bool)
    → m.stopped ≡ false → at_in (command_at work s i) ≡ Some Looked → Decided n (IsNext (state_of work past m) s i None) → Decided b (t ≡ next_timestamp m.c r)
    → Decided (n && b) (Allowed work (state_of work past m) (Look s i t r))
look_decided work past m s i t r n b going e dn db =
    let w = if_scan (command_at work s i) (λ w. w ≡ Looked) Looked e in
    decided_2 (IsNext (state_of work past m) s i None) (t ≡ next_timestamp m.c r) (Allowed work (state_of work past m) (Look s i t r)) n b (λ h k. (going, h, w.1 refl, k)) (λ q. (q.1, q.3)) dn db

pub read_looked : (work : Workload) (past : Past) (m : Machine) (s i t : ℕ) (n : Bool) → at_in (command_at work s i) ≡ Some Looked → Decided n (IsNext (state_of work past m) s i (Some t)) → Decided n (MayRead work (state_of work past m) s i t)
read_looked work past m s i t n e dn =
    let w = if_scan (command_at work s i) (λ w. ReadsAt w t × IsNext (state_of work past m) s i (look_for w t)) Looked e in
    decided_map (IsNext (state_of work past m) s i (Some t)) (MayRead work (state_of work past m) s i t) n (λ h. w.1 (tt, h)) (λ q. (w.0 q).1) dn

pub read_given : (work : Workload) (past : Past) (m : Machine) (s i t given : ℕ) (n : Bool) → at_in (command_at work s i) ≡ Some (Given given) → Decided n (IsNext (state_of work past m) s i None) → Decided ((t == given) && n) (MayRead work (state_of work past m) s i t)
read_given work past m s i t given n e dn =
    let w = if_scan (command_at work s i) (λ w. ReadsAt w t × IsNext (state_of work past m) s i (look_for w t)) (Given given) e in
    decided_2 (t ≡ given) (IsNext (state_of work past m) s i None) (MayRead work (state_of work past m) s i t) (t == given) n (λ h k. w.1 (h, k)) (λ q. w.0 q) (decided_eq t given) dn

pub show_decided : (work : Workload) (past : Past) (m : Machine) (s i t : ℕ) (n b : Bool)
    → m.stopped ≡ false → Decided n (MayRead work (state_of work past m) s i t) → b ≡ list_all (λ f. nat_lt t f.ts) m.flying.items
    → Decided ((n && nat_le m.a t) && b) (Allowed work (state_of work past m) (Rows s i t))
show_decided work past m s i t n b going dn db =
    let none = list_all-map (λ w. nat_lt t w.ts) (flown work) m.flying.items in
    decided_3 (MayRead work (state_of work past m) s i t) (m.a ≤ t) (list_all (λ f. nat_lt t f.ts) m.flying.items ≡ true) (Allowed work (state_of work past m) (Rows s i t)) n (nat_le m.a t) b
    (λ h k l. (going, h, k, none ∙ l)) (λ q. (q.1, q.2, sym none ∙ q.3)) dn (decided_le m.a t) (decided_is b _ db)

pub ancient_decided : (work : Workload) (past : Past) (m : Machine) (s i t a : ℕ) (n : Bool)
    → m.stopped ≡ false → Decided n (MayRead work (state_of work past m) s i t)
    → Decided ((n && nat_lt t a) && (a == m.a)) (Allowed work (state_of work past m) (Ancient s i t a))
ancient_decided work past m s i t a n going dn =
    decided_3 (MayRead work (state_of work past m) s i t) (t < a) (a ≡ m.a) (Allowed work (state_of work past m) (Ancient s i t a)) n (nat_lt t a) (a == m.a) (λ h k l. (going, h, k, l)) (λ q. (q.1, q.2, q.3)) dn (decided_lt t a) (decided_eq a m.a)

pub busy_decided : (work : Workload) (past : Past) (m : Machine) (s i t f given low : ℕ) (n : Bool)
    → m.stopped ≡ false → Some low ≡ least (map (flown work) m.flying.items) → at_in (command_at work s i) ≡ Some (Given given) → Decided n (IsNext (state_of work past m) s i None)
    → Decided (((((given == t) && n) && nat_le m.a t) && (low == f)) && nat_le f t) (Allowed work (state_of work past m) (Busy s i t f))
busy_decided work past m s i t f given low n going lw e dn =
    let w = if_scan (command_at work s i) (λ w. w ≡ Given t) (Given given) e in
    decided_5 (given ≡ t) (IsNext (state_of work past m) s i None) (m.a ≤ t) (low ≡ f) (f ≤ t) (Allowed work (state_of work past m) (Busy s i t f)) (given == t) n (nat_le m.a t) (low == f) (nat_le f t)
    (λ g h k l o. (going, h, w.1 (ap Given g), k, sym lw ∙ ap Some l, o))
    (λ q. (same_given _ _ (w.0 q.2), q.1, q.3, some_same _ _ (lw ∙ q.4), q.5))
    (decided_eq given t) dn (decided_le m.a t) (decided_eq low f) (decided_le f t)
  where
    same_given : (x y : ℕ) → Given x ≡ Given y → x ≡ y
    same_given x y e = cc

pub mark_decided : (work : Workload) (past : Past) (m : Machine) (s i a t top : ℕ) (n : Bool)
    → m.stopped ≡ false → mark_in (command_at work s i) ≡ Some t → Decided n (IsNext (state_of work past m) s i None) → top ≡ max m.a (min t (clean_below (least (map (flown work) m.flying.items)) m.c))
    → Decided (n && (a == top)) (Allowed work (state_of work past m) (Mark s i a))
mark_decided work past m s i a t top n going e dn is =
    let w = if_mark (command_at work s i) (λ t. a ≡ max m.a (min t (clean_below (least (map (flown work) m.flying.items)) m.c))) t e in
    decided_2 (IsNext (state_of work past m) s i None) (a ≡ top) (Allowed work (state_of work past m) (Mark s i a)) n (a == top) (λ h k. (going, h, w.1 (k ∙ is))) (λ q. (q.1, w.0 q.2 ∙ sym is)) dn (decided_eq a top)

pub done_decided : (work : Workload) (past : Past) (m : Machine) (s i : ℕ) (n b : Bool)
    → m.stopped ≡ false → Decided n (IsNext (state_of work past m) s i None) → Decided b (IsChore (command_at work s i)) → Decided (n && b) (Allowed work (state_of work past m) (Chore s i))
done_decided work past m s i n b going dn db = decided_2 (IsNext (state_of work past m) s i None) (IsChore (command_at work s i)) (Allowed work (state_of work past m) (Chore s i)) n b (λ h k. (going, h, k)) (λ q. (q.1, q.2)) dn db

pub large_decided : (work : Workload) (past : Past) (m : Machine) (s i k need_of : ℕ) (ops : List RowOp) (n : Bool)
    → m.stopped ≡ false → write_in (command_at work s i) ≡ Some ops → Decided n (IsNext (state_of work past m) s i None) → need_of ≡ min (need ops) (2 ^ 32) → k < 2 ^ 32
    → Decided ((n && (k == need_of)) && nat_lt work.cells k) (Allowed work (state_of work past m) (Large s i k))
large_decided work past m s i k need_of ops n going e dn nd small =
    let w = if_write (command_at work s i) (λ ops. (k ≡ need ops) × (work.cells < k)) ops e in
    decided_3 (IsNext (state_of work past m) s i None) (k ≡ need ops) (work.cells < k) (Allowed work (state_of work past m) (Large s i k)) n (k == need_of) (nat_lt work.cells k)
    (λ h j l. (going, h, w.1 (j, l))) (λ q. (q.1, (w.0 q.2).0, (w.0 q.2).1)) dn (is_need k (need ops) need_of nd small) (decided_lt work.cells k)

pub end_decided : (work : Workload) (past : Past) (m : Machine) (s i ts : ℕ) (b : Bool)
    → m.stopped ≡ false → b ≡ list_any (λ f. (f.s == s) && (f.i == i) && (f.ts == ts)) m.flying.items → Decided b (Allowed work (state_of work past m) (End s i ts))
end_decided work past m s i ts b going e =
    let any = list_any-map (λ w. (w.s == s) && (w.i == i) && (w.ts == ts)) (flown work) m.flying.items in
    decided_map (list_any (λ f. (f.s == s) && (f.i == i) && (f.ts == ts)) m.flying.items ≡ true) (Allowed work (state_of work past m) (End s i ts)) b (λ h. (going, any ∙ h)) (λ q. sym any ∙ q.1) (decided_is b _ e)
