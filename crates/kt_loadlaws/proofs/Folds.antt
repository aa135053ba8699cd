-- What writes do to the rows of some keys, where each session has keys of its own.
use Rattle.std.proofs.Common.{◌≡◌, ℕ, zero, suc, ◌+◌, ◌<◌, ◌≤◌, List, [], ◌∷◌, Some, None, Option, refl, true, false, ◌||◌, sym, ap, ◌∙◌, subst, arith, inl, inr, take, T}
use Rattle.std.specs.Prelude.{is_some, slice_get}
use Rattle.std.specs.List.{cons_option}
use Rattle.std.specs.Ordering.{eq_by_cmp}
use Rattle.std.specs.FinMap.Entries.{find, is_sorted}
use Rattle.std.proofs.lemmas.Bool.{cases_Bool}
use Rattle.kt_history.specs.declared.command.Command.{Command}
use Rattle.kt_history.specs.declared.operation.RowOp.{RowOp}
use Rattle.kt_history.specs.Rows.{Row, Rows, changed, key_cmp}
use Rattle.kt_history.specs.History.{row_after}
use Rattle.kt_history.specs.Operations.{effect, effect_on, keyed, changes_on, outcomes_on, need, DifferentKeys}
use Rattle.kt_history.specs.Machine.{ops_of, nth}
use Rattle.kt_history.proofs.KeyLaws.{find-changed}
use Rattle.kt_history.proofs.PastLaws.{apart-changes_on}
use Rattle.kt_history.proofs.RowLaws.{sorted-replay}
use Rattle.kt_histlaws.specs.Pending.{has_key}
use Rattle.kt_histlaws.proofs.Pending.{same_key}
use Rattle.kt_histlaws.proofs.Flown.{find-none}
use Rattle.kt_loadlaws.specs.Summary.{Folded, command_on, commands_on, sessions_on}

-- the rows after some operations, and after some commands
abbrev pub ops_rows : Row → Rows → List RowOp → Rows
ops_rows fill rows ops = changed (changes_on fill rows ops) rows

abbrev pub rows_on : Row → Rows → List Command → Rows
rows_on fill rows [] = rows
rows_on fill rows (c ∷ commands) = rows_on fill (ops_rows fill rows (ops_of (Some c))) commands

-- the same row of each key of an owner
abbrev pub AgreeFor : (List ℕ → ℕ) → ℕ → Rows → Rows → Type 0
AgreeFor owner s rows others = (q : List ℕ) → owner q ≡ s → find key_cmp q rows ≡ find key_cmp q others

-- each operation is on a key of the owner
abbrev pub AllOwned : (List ℕ → ℕ) → ℕ → List RowOp → Type 0
AllOwned owner s [] = Unit {0}
AllOwned owner s (op ∷ ops) = (owner op.key ≡ s) × AllOwned owner s ops

-- operations of one write, on different keys of the owner, for which so many cells are enough
pub record IsOwn (owner : List ℕ → ℕ) (cells s : ℕ) (ops : List RowOp) : Type 0 where
  pub differ : DifferentKeys ops
  pub room : need ops ≤ cells
  pub owned : AllOwned owner s ops

abbrev pub AllOwn : (List ℕ → ℕ) → ℕ → ℕ → List Command → Type 0
AllOwn owner cells s [] = Unit {0}
AllOwn owner cells s (c ∷ commands) = IsOwn owner cells s (ops_of (Some c)) × AllOwn owner cells s commands

-- sessions from the s-th on, each of which owns its keys
abbrev pub IsOwnPlan : (List ℕ → ℕ) → ℕ → ℕ → List (List Command) → Type 0
IsOwnPlan owner cells s [] = Unit {0}
IsOwnPlan owner cells s (commands ∷ plan) = AllOwn owner cells s commands × IsOwnPlan owner cells (s + 1) plan

-- the commands of a session that may be missing
abbrev pub session_of : Option (List Command) → List Command
session_of None = []
session_of (Some commands) = commands

-- ---- operations

-- on rows that agree, operations make the same changes
pub changes_agree : (owner : List ℕ → ℕ) (s : ℕ) (fill : Row) (rows others : Rows) (ops : List RowOp) → AgreeFor owner s rows others → AllOwned owner s ops → changes_on fill rows ops ≡ changes_on fill others ops
changes_agree owner s fill rows others [] agree own = refl
changes_agree owner s fill rows others (op ∷ ops) agree own =
    ap (λ row. cons_option (keyed op.key (effect fill op.kind op.cells row).0) (changes_on fill rows ops)) (agree op.key own.0)
    ∙ ap (λ rest. cons_option (keyed op.key (effect_on fill others op).0) rest) (changes_agree owner s fill rows others ops agree own.1)

-- and come out the same
pub outcomes_agree : (owner : List ℕ → ℕ) (s : ℕ) (fill : Row) (rows others : Rows) (ops : List RowOp) → AgreeFor owner s rows others → AllOwned owner s ops → outcomes_on fill rows ops ≡ outcomes_on fill others ops
outcomes_agree owner s fill rows others [] agree own = refl
outcomes_agree owner s fill rows others (op ∷ ops) agree own =
    ap (λ row. (effect fill op.kind op.cells row).1 ∷ outcomes_on fill rows ops) (agree op.key own.0)
    ∙ ap (λ rest. (effect_on fill others op).1 ∷ rest) (outcomes_agree owner s fill rows others ops agree own.1)

-- so the rows agree after them
pub ops_agree : (owner : List ℕ → ℕ) (cells s : ℕ) (fill : Row) (rows others : Rows) (ops : List RowOp) → AgreeFor owner s rows others → IsOwn owner cells s ops → AgreeFor owner s (ops_rows fill rows ops) (ops_rows fill others ops)
ops_agree owner cells s fill rows others ops agree own q e =
    find-changed q (changes_on fill rows ops) rows (apart-changes_on fill rows ops own.differ)
    ∙ ap (row_after (find key_cmp q (changes_on fill rows ops))) (agree q e)
    ∙ ap (λ changes. row_after (find key_cmp q changes) (find key_cmp q others)) (changes_agree owner s fill rows others ops agree own.owned)
    ∙ sym (find-changed q (changes_on fill others ops) others (apart-changes_on fill others ops own.differ))

none_has : (owner : List ℕ → ℕ) (s : ℕ) (ops : List RowOp) (q : List ℕ) → AllOwned owner s ops → (owner q ≡ s → ⊥) → has_key q ops ≡ false
none_has owner s [] q own ne = refl
none_has owner s (op ∷ ops) q own ne = elim (cases_Bool (eq_by_cmp key_cmp q op.key)) [
  | inl tied ↦ absurd (ne (ap owner (same_key q op.key tied) ∙ own.0))
  | inr other ↦ ap (λ b. b || has_key q ops) other ∙ none_has owner s ops q own.1 ne
]

-- and the keys of other owners keep their rows
pub ops_leave : (owner : List ℕ → ℕ) (cells s : ℕ) (fill : Row) (rows : Rows) (ops : List RowOp) (q : List ℕ) → IsOwn owner cells s ops → (owner q ≡ s → ⊥) → find key_cmp q (ops_rows fill rows ops) ≡ find key_cmp q rows
ops_leave owner cells s fill rows ops q own ne =
    find-changed q (changes_on fill rows ops) rows (apart-changes_on fill rows ops own.differ)
    ∙ ap (λ o. row_after o (find key_cmp q rows)) (find-none fill rows ops q (none_has owner s ops q own.owned ne))

-- rows by rising key stay so
pub sorted-ops : (fill : Row) (rows : Rows) (ops : List RowOp) → T (is_sorted key_cmp rows) → T (is_sorted key_cmp (ops_rows fill rows ops))
sorted-ops fill rows ops h = sorted-replay 0 (record { ts = 0; changes = changes_on fill rows ops } ∷ []) rows h

-- ---- commands

pub rows_agree : (owner : List ℕ → ℕ) (cells s : ℕ) (fill : Row) (rows others : Rows) (commands : List Command) → AgreeFor owner s rows others → AllOwn owner cells s commands → AgreeFor owner s (rows_on fill rows commands) (rows_on fill others commands)
rows_agree owner cells s fill rows others [] agree own = agree
rows_agree owner cells s fill rows others (c ∷ commands) agree own =
    rows_agree owner cells s fill (ops_rows fill rows (ops_of (Some c))) (ops_rows fill others (ops_of (Some c))) commands (ops_agree owner cells s fill rows others (ops_of (Some c)) agree own.0) own.1

pub rows_leave : (owner : List ℕ → ℕ) (cells s : ℕ) (fill : Row) (rows : Rows) (commands : List Command) (q : List ℕ) → AllOwn owner cells s commands → (owner q ≡ s → ⊥) → find key_cmp q (rows_on fill rows commands) ≡ find key_cmp q rows
rows_leave owner cells s fill rows [] q own ne = refl
rows_leave owner cells s fill rows (c ∷ commands) q own ne =
    rows_leave owner cells s fill (ops_rows fill rows (ops_of (Some c))) commands q own.1 ne ∙ ops_leave owner cells s fill rows (ops_of (Some c)) q own.0 ne

-- one command more
pub next_rows : (fill : Row) (rows : Rows) (commands : List Command) (k : ℕ) → is_some (slice_get commands k) ≡ true
    → rows_on fill rows (take (suc k) commands) ≡ ops_rows fill (rows_on fill rows (take k commands)) (ops_of (slice_get commands k))
next_rows fill rows [] k h = cc
next_rows fill rows (c ∷ commands) zero h = refl
next_rows fill rows (c ∷ commands) (suc k) h = next_rows fill (ops_rows fill rows (ops_of (Some c))) commands k h

pub fold_rows : (fill : Row) (f : Folded) (commands : List Command) → (commands_on fill f commands).rows ≡ rows_on fill f.rows commands
fold_rows fill f [] = refl
fold_rows fill f (c ∷ commands) = fold_rows fill (command_on fill f c) commands

sorted-fold : (fill : Row) (f : Folded) (commands : List Command) → T (is_sorted key_cmp f.rows) → T (is_sorted key_cmp (commands_on fill f commands).rows)
sorted-fold fill f [] h = h
sorted-fold fill f (c ∷ commands) h = sorted-fold fill (command_on fill f c) commands (sorted-ops fill f.rows (ops_of (Some c)) h)

-- ---- sessions one after another

pub sorted-sessions : (fill : Row) (f : Folded) (plan : List (List Command)) → T (is_sorted key_cmp f.rows) → T (is_sorted key_cmp (sessions_on fill f plan).rows)
sorted-sessions fill f [] h = h
sorted-sessions fill f (commands ∷ plan) h = sorted-sessions fill (commands_on fill f commands) plan (sorted-fold fill f commands h)

-- sessions from the s-th on leave the keys of those before
pub plan_leaves : (owner : List ℕ → ℕ) (cells s : ℕ) (fill : Row) (f : Folded) (plan : List (List Command)) (q : List ℕ) → IsOwnPlan owner cells s plan → owner q < s → find key_cmp q (sessions_on fill f plan).rows ≡ find key_cmp q f.rows
plan_leaves owner cells s fill f [] q own lt = refl
plan_leaves owner cells s fill f (commands ∷ plan) q own lt =
    plan_leaves owner cells (s + 1) fill (commands_on fill f commands) plan q own.1 (omega arith)
    ∙ ap (find key_cmp q) (fold_rows fill f commands) ∙ rows_leave owner cells s fill f.rows commands q own.0 (λ e. omega arith)

pub own_session : (owner : List ℕ → ℕ) (cells s k : ℕ) (plan : List (List Command)) → IsOwnPlan owner cells s plan → AllOwn owner cells (s + k) (session_of (slice_get plan k))
own_session owner cells s k [] own = tt
own_session owner cells s zero (commands ∷ plan) own = subst (λ n. AllOwn owner cells n commands) (omega arith) own.0
own_session owner cells s (suc k) (commands ∷ plan) own =
    subst (λ n. AllOwn owner cells n (session_of (slice_get plan k))) (omega arith) (own_session owner cells (s + 1) k plan own.1)

-- a key has the row that its own session leaves
plan_rows : (owner : List ℕ → ℕ) (cells s k : ℕ) (fill : Row) (f : Folded) (plan : List (List Command)) (q : List ℕ) → IsOwnPlan owner cells s plan → owner q ≡ s + k
    → find key_cmp q (sessions_on fill f plan).rows ≡ find key_cmp q (rows_on fill f.rows (session_of (slice_get plan k)))
plan_rows owner cells s k fill f [] q own e = refl
plan_rows owner cells s zero fill f (commands ∷ plan) q own e =
    plan_leaves owner cells (s + 1) fill (commands_on fill f commands) plan q own.1 (omega arith) ∙ ap (find key_cmp q) (fold_rows fill f commands)
plan_rows owner cells s (suc k) fill f (commands ∷ plan) q own e =
    plan_rows owner cells (s + 1) k fill (commands_on fill f commands) plan q own.1 (omega arith)
    ∙ rows_agree owner cells ((s + 1) + k) fill (commands_on fill f commands).rows f.rows (session_of (slice_get plan k))
    (λ p o. ap (find key_cmp p) (fold_rows fill f commands) ∙ rows_leave owner cells s fill f.rows commands p own.0 (λ x. omega arith))
    (own_session owner cells (s + 1) k plan own.1) q (omega arith)

pub summed_rows : (owner : List ℕ → ℕ) (cells : ℕ) (fill : Row) (f : Folded) (plan : List (List Command)) (q : List ℕ) → IsOwnPlan owner cells 1 plan
    → find key_cmp q (sessions_on fill f plan).rows ≡ find key_cmp q (rows_on fill f.rows (session_of (nth plan (owner q))))
summed_rows owner cells fill f plan q own = one (owner q) refl
  where
    one : (k : ℕ) → owner q ≡ k → find key_cmp q (sessions_on fill f plan).rows ≡ find key_cmp q (rows_on fill f.rows (session_of (nth plan k)))
    one zero e = plan_leaves owner cells 1 fill f plan q own (omega arith)
    one (suc k) e = plan_rows owner cells 1 k fill f plan q own (omega arith)
