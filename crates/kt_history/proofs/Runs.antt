-- Runs of the machine: what every run keeps, and that an answer stays.
use Rattle.std.proofs.Common.{◌≡◌, ℕ, ◌-◌, ◌<◌, ◌≤◌, List, [], ◌∷◌, ◌++◌, Some, None, Option, refl, true, false, Bool, ◌&&◌, ◌||◌, cond, ap, ◌∙◌, arith, max}
use Rattle.std.specs.Prelude.{nat_le, not, ◌==◌, IsSome}
use Rattle.std.specs.List.{list_all, list_any, filter, find}
use Rattle.std.proofs.lemmas.Bool.Decides.{nat_tests}
use Rattle.kt_history.specs.declared.command.Command.{Command}
use Rattle.kt_history.specs.declared.command.Command.TheVariants as command
use Rattle.kt_history.specs.declared.operation.RowOp.{RowOp}
use Rattle.kt_history.specs.declared.event.Event.{Event}
use Rattle.kt_history.specs.declared.event.Event.TheVariants.{Begin, End, Look, Rows, Ancient, Busy, Mark, Chore, Large, Stop}
use Rattle.kt_history.specs.History.{rows_at}
use Rattle.kt_history.specs.Operations.{outcomes_on, changes_on}
use Rattle.kt_history.specs.Machine.{Workload, State, Flying, Allowed, IfWrite, MayBegin, ops_of, after, state_after, IsRunFrom, command_at, next_timestamp}
use Rattle.kt_history.specs.declared.reply.Reply.TheVariants as reply
use Rattle.kt_history.specs.Replies.{reply_of, reply_at, answers, shown_by, told}
use Rattle.kt_history.proofs.RowLaws.{rows_at-with_write_below}

pub state_after-append : (work : Workload) (st : State) (es fs : List Event) → state_after work st (es ++ fs) ≡ state_after work (state_after work st es) fs
state_after-append work st [] fs = refl
state_after-append work st (e ∷ es) fs = state_after-append work (after work st e) es fs

pub IsRunFrom-append : (work : Workload) (st : State) (es fs : List Event) → IsRunFrom work st es → IsRunFrom work (state_after work st es) fs → IsRunFrom work st (es ++ fs)
IsRunFrom-append work st [] fs h k = k
IsRunFrom-append work st (e ∷ es) fs h k = (h.0, IsRunFrom-append work (after work st e) es fs h.1 k)

-- what holds of a write holds of its operations
pub of_write : (o : Option Command) (P : List RowOp → Type 0) → IfWrite o P → P (ops_of o)
of_write (Some (command.Write w)) P h = h
of_write (Some (command.Scan scan)) P h = absurd h
of_write (Some (command.Mark t)) P h = absurd h
of_write (Some (command.Chore chore)) P h = absurd h
of_write None P h = absurd h

above : (c m ts : ℕ) → ts ≡ next_timestamp c m → c < ts
above c m ts e = omega arith

-- a write begins above the last timestamp
pub begins_above : (work : Workload) (st : State) (s i ts m : ℕ) → Allowed work st (Begin s i ts m) → st.c < ts
begins_above work st s i ts m h = above st.c m ts (of_write (command_at work s i) (λ ops. MayBegin work st ops ts m) h.2).next

-- the last timestamp never falls
pub c_rises : (work : Workload) (st : State) (e : Event) → Allowed work st e → st.c ≤ (after work st e).c
c_rises work st (Begin s i ts m) h = omega (arith, begins_above work st s i ts m h)
c_rises work st (End s i ts) h = omega arith
c_rises work st (Look s i t m) h = omega (arith, above st.c m t h.3)
c_rises work st (Rows s i t) h = omega arith
c_rises work st (Ancient s i t a) h = omega arith
c_rises work st (Busy s i t f) h = omega arith
c_rises work st (Mark s i a) h = omega arith
c_rises work st (Chore s i) h = omega arith
c_rises work st (Large s i n) h = omega arith
c_rises work st Stop h = omega arith

-- a line leaves the rows at or below the last timestamp as they were
pub rows_stay : (work : Workload) (st : State) (e : Event) (t : ℕ) → Allowed work st e → t ≤ st.c → rows_at (after work st e).past t ≡ rows_at st.past t
rows_stay work st (Begin s i ts m) t h le =
    let up = begins_above work st s i ts m h in
    rows_at-with_write_below st.past ts (changes_on work.fill (rows_at st.past (ts - 1)) (ops_of (command_at work s i))) t (omega arith)
rows_stay work st (End s i ts) t h le = refl
rows_stay work st (Look s i t' m) t h le = refl
rows_stay work st (Rows s i t') t h le = refl
rows_stay work st (Ancient s i t' a) t h le = refl
rows_stay work st (Busy s i t' f) t h le = refl
rows_stay work st (Mark s i a) t h le = refl
rows_stay work st (Chore s i) t h le = refl
rows_stay work st (Large s i n) t h le = refl
rows_stay work st Stop t h le = refl

-- and so does a run
pub rows_stay_all : (work : Workload) (st : State) (es : List Event) (t : ℕ) → IsRunFrom work st es → t ≤ st.c → rows_at (state_after work st es).past t ≡ rows_at st.past t
rows_stay_all work st [] t h le = refl
rows_stay_all work st (e ∷ es) t h le =
    let up = c_rises work st e h.0 in
    rows_stay_all work (after work st e) es t h.1 (omega arith) ∙ rows_stay work st e t h.0 le

-- no flying write is above the last timestamp
abbrev pub FliesUpTo : ℕ → List Flying → Type 0
FliesUpTo c flying = list_all (λ w. nat_le w.ts c) flying ≡ true

pub both : (a b : Bool) → a ≡ true → b ≡ true → (a && b) ≡ true
both true true p q = refl
both true false p q = q
both false b p q = p

pub left : (a b : Bool) → (a && b) ≡ true → a ≡ true
left true b h = refl
left false b h = h

pub right : (a b : Bool) → (a && b) ≡ true → b ≡ true
right true b h = h
right false b h = cc

le_later : (n c d : ℕ) → nat_le n c ≡ true → c ≤ d → nat_le n d ≡ true
le_later n c d h le = grind (arith, nat_tests)

pub flies_later : (c d : ℕ) (flying : List Flying) → c ≤ d → FliesUpTo c flying → FliesUpTo d flying
flies_later c d [] le h = refl
flies_later c d (w ∷ flying) le h = both _ _ (le_later w.ts c d (left _ _ h) le) (flies_later c d flying le (right _ _ h))

pub flies_one_more : (c : ℕ) (flying : List Flying) (w : Flying) → FliesUpTo c flying → w.ts ≤ c → FliesUpTo c (flying ++ w ∷ [])
flies_one_more c [] w h le = both _ _ (le_later w.ts w.ts c (grind (arith, nat_tests)) le) refl
flies_one_more c (v ∷ flying) w h le = both _ _ (left _ _ h) (flies_one_more c flying w (right _ _ h) le)

pub flies_fewer : (c : ℕ) (p : Flying → Bool) (flying : List Flying) → FliesUpTo c flying → FliesUpTo c (filter p flying)
flies_fewer c p [] h = refl
flies_fewer c p (w ∷ flying) h =
    elim (p w) as (λ b. FliesUpTo c (cond b (w ∷ filter p flying) (filter p flying))) [ true ↦ both _ _ (left _ _ h) (flies_fewer c p flying (right _ _ h)) | false ↦ flies_fewer c p flying (right _ _ h) ]

pub flies_after : (work : Workload) (st : State) (e : Event) → Allowed work st e → FliesUpTo st.c st.flying → FliesUpTo (after work st e).c (after work st e).flying
flies_after work st (Begin s i ts m) h f =
    let up = begins_above work st s i ts m h in
    flies_one_more ts st.flying _ (flies_later st.c ts st.flying (omega arith) f) (omega arith)
flies_after work st (End s i ts) h f = flies_fewer st.c (λ w. not (w.s == s)) st.flying f
flies_after work st (Look s i t m) h f = flies_later st.c t st.flying (c_rises work st (Look s i t m) h) f
flies_after work st (Rows s i t) h f = flies_later st.c (max st.c t) st.flying (omega arith) f
flies_after work st (Ancient s i t a) h f = f
flies_after work st (Busy s i t g) h f = f
flies_after work st (Mark s i a) h f = f
flies_after work st (Chore s i) h f = f
flies_after work st (Large s i n) h f = f
flies_after work st Stop h f = f

le_of_eq : (a b c : ℕ) → (a == b) ≡ true → nat_le a c ≡ true → b ≤ c
le_of_eq a b c e h = grind (arith, nat_tests)

pub last_of : (a b c : Bool) → (a && b && c) ≡ true → c ≡ true
last_of a b c h = right (a && b) c h

-- a write that flies is not above the last timestamp
pub flying_below : (s i ts c : ℕ) (flying : List Flying) → list_any (λ w. (w.s == s) && (w.i == i) && (w.ts == ts)) flying ≡ true → FliesUpTo c flying → ts ≤ c
flying_below s i ts c [] any f = cc
flying_below s i ts c (w ∷ flying) any f =
    elim ((w.s == s) && (w.i == i) && (w.ts == ts)) as (λ b. ((w.s == s) && (w.i == i) && (w.ts == ts)) ≡ b → (b || list_any (λ w. (w.s == s) && (w.i == i) && (w.ts == ts)) flying) ≡ true → ts ≤ c) [
      | true ↦ λ here _. le_of_eq w.ts ts c (last_of (w.s == s) (w.i == i) (w.ts == ts) here) (left _ _ f)
      | false ↦ λ _ rest. flying_below s i ts c flying rest (right _ _ f)
    ] refl any

-- the reply of a line is the same against all later writes of the run
pub reply_stays : (work : Workload) (st : State) (e : Event) (es : List Event) → Allowed work st e → FliesUpTo st.c st.flying → IsRunFrom work (after work st e) es
    → reply_of work (state_after work (after work st e) es).past e ≡ reply_of work st.past e
reply_stays work st (Begin s i ts m) es h f run = refl
reply_stays work st (End s i ts) es h f run =
    let low = flying_below s i ts st.c st.flying h.1 f in
    ap (λ rows. Some (reply.At ts (outcomes_on work.fill rows (ops_of (command_at work s i))))) (rows_stay_all work (after work st (End s i ts)) es (ts - 1) run (omega arith))
reply_stays work st (Look s i t m) es h f run = refl
reply_stays work st (Rows s i t) es h f run =
    ap (λ rows. Some (reply.Rows t (shown_by work.keys (command_at work s i) rows))) (rows_stay_all work (after work st (Rows s i t)) es t run (omega arith))
reply_stays work st (Ancient s i t a) es h f run = refl
reply_stays work st (Busy s i t g) es h f run = refl
reply_stays work st (Mark s i a) es h f run = refl
reply_stays work st (Chore s i) es h f run = refl
reply_stays work st (Large s i n) es h f run = refl
reply_stays work st Stop es h f run = refl

-- an answer against all writes of the run is the answer that was told at its line
pub answer_is_told : (work : Workload) (st : State) (es : List Event) (s i : ℕ) → FliesUpTo st.c st.flying → IsRunFrom work st es
    → reply_at work (state_after work st es).past (find (answers s i) es) ≡ told work st es s i
answer_is_told work st [] s i f run = refl
answer_is_told work st (e ∷ es) s i f run =
    elim (answers s i e) as (λ b. reply_at work (state_after work (after work st e) es).past (cond b (Some e) (find (answers s i) es)) ≡ cond b (reply_of work st.past e) (told work (after work st e) es s i)) [
      | true ↦ reply_stays work st e es run.0 f run.1
      | false ↦ answer_is_told work (after work st e) es s i (flies_after work st e run.0 f) run.1
    ]

-- what was told stays told
pub told-append : (work : Workload) (st : State) (es fs : List Event) (s i : ℕ) → IsSome (find (answers s i) es) → told work st (es ++ fs) s i ≡ told work st es s i
told-append work st [] fs s i h = cc
told-append work st (e ∷ es) fs s i h =
    elim (answers s i e) as (λ b. IsSome (cond b (Some e) (find (answers s i) es)) → cond b (reply_of work st.past e) (told work (after work st e) (es ++ fs) s i) ≡ cond b (reply_of work st.past e) (told work (after work st e) es s i)) [
      | true ↦ λ _. refl
      | false ↦ λ g. told-append work (after work st e) es fs s i g
    ] h
