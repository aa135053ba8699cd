-- What the COMMITs that opening owes name, where it reads no rowset: that they tell what became of their writes.
use Rattle.std.proofs.Common.{◌≡◌, ℕ, zero, suc, ◌-◌, ◌<◌, List, [], ◌∷◌, ◌++◌, Some, None, Option, Ok, refl, sym, true, false, cond, ap, ◌∙◌, subst, arith}
use Rattle.std.specs.FinMap.Entries.{find}
use Rattle.std.specs.List.{All}
use Rattle.kt_history.specs.declared.operation.OpKind.{OpKind}
use Rattle.kt_history.specs.declared.operation.OpKind.TheVariants.{Insert, Upsert, Update, Delete, InsertIgnore, UpdateIgnore, DeleteIgnore}
use Rattle.kt_history.specs.declared.operation.RowOp.{RowOp}
use Rattle.kt_history.specs.declared.target.Target.{Target}
use Rattle.kt_history.specs.declared.target.Target.TheVariants.{Mem, Delta}
use Rattle.kt_history.specs.Rows.{Row, Rows, key_cmp}
use Rattle.kt_history.specs.History.{Past, IsPast, rows_at}
use Rattle.kt_history.specs.Operations.{effect, effect_on, outcomes_on}
use Rattle.kt_history.specs.Stores.{Hist, push, row_of, never}
use Rattle.kt_records.specs.declared.entry.Entry.{Entry}
use Rattle.kt_records.specs.declared.entry.Entry.TheVariants.{Replicate, Commit}
use Rattle.kt_records.specs.declared.entry.CommitRow.{CommitRow}
use Rattle.kt_journal.specs.Log.{IsLog}
use Rattle.kt_loglaws.specs.Fronts.{ops_of}
use Rattle.kt_histlaws.specs.Histories.{past_hist}
use Rattle.kt_histlaws.proofs.Applying.{row-past}
use Rattle.kt_content.specs.Places.{memory, fresh, Held, Moves, places_of, needed_in, and_place, row_before, or_live, same_place, moved, standing}
use Rattle.kt_content.specs.KeyOps.{KeyOp, seen, played, decided, if_fits, to_live}
use Rattle.kt_content.specs.Rules.{Rules}
use Rattle.kt_content.specs.Content.{Shown, HoldsKey, content_at}
use Rattle.kt_content.specs.Content.{IsContent as HoldsPast}
use Rattle.kt_content.specs.MoreOps.{TellsOne}
use Rattle.kt_content.specs.Records.{TellsIn, RowsTell, IsTold, AllTold}
use Rattle.kt_content.proofs.MoreOps.{before_is}
use Rattle.kt_content.proofs.Names.{names_tell}
use Rattle.kt_content.proofs.Records.{commit_more, order_front}
use Rattle.kt_content.proofs.Recovering.{regroup}
use Rattle.kt_content.proofs.Fronts.{same_ops}
use Rattle.kt_content.proofs.Options.{or_none, two_oks, one_alone}
use Rattle.kt_tablet.specs.Rows.{targets_of, AreRecorded}
use Rattle.kt_engine.specs.Logged.{IsMem, rows_before, AreDue}
use Rattle.kt_engine.proofs.Commits.{of_each}
use Rattle.kt_engine.proofs.Records.{lt_test}

-- a key that is in the one MemRowSet alone
abbrev pub alone_in : Hist → Held
alone_in h = (memory, h) ∷ []

-- moves leave it there, and what it was at first
alone_moved : (ts : ℕ) (ms : Moves) (h : Hist) → (g : Hist) × (moved ts ms (alone_in h) ≡ alone_in g) × (g.first ≡ h.first)
alone_moved ts [] h = (h, refl, refl)
alone_moved ts (m ∷ ms) h = elim (same_place m.0 memory) as (λ b. (g : Hist) × (moved ts ms (cond b ((memory, push ts m.1 h) ∷ []) ((memory, h) ∷ [])) ≡ alone_in g) × (g.first ≡ h.first)) [
  | true ↦ alone_moved ts ms (push ts m.1 h)
  | false ↦ alone_moved ts ms h
]

pub alone_played : (fill : Row) (h : Hist) (xs : List KeyOp) (held : Held) → played fill fresh (alone_in h) xs ≡ Ok held → (g : Hist) × (held ≡ alone_in g) × (g.first ≡ h.first)
alone_played fill h [] held e = (h, (let is : alone_in h ≡ held = cc in sym is), refl)
alone_played fill h (x ∷ xs) held e = elim (decided fill fresh (standing x.ts (alone_in h)) x.op x.told) as (λ o. if_fits x.ts (λ moves. played fill fresh (moved x.ts moves (alone_in h)) xs) o ≡ Ok held → (g : Hist) × (held ≡ alone_in g) × (g.first ≡ h.first)) [
  | None ↦ λ e. absurd (cc)
  | Some ms ↦ λ e. let a = alone_moved x.ts ms h in let rest = alone_played fill a.0 xs held (ap (λ (l : Held). played fill fresh l xs) (sym a.1) ∙ e) in (rest.0, rest.1, rest.2 ∙ a.2)
] e

-- a MemRowSet of this run is needed
needs_mem : (name : Target) → IsMem name → needed_in fresh (name ∷ []) ≡ memory ∷ []
needs_mem (Mem number) mem = ap (λ b. and_place (cond b (Some memory) None) []) (lt_test 0 number mem.0)
needs_mem (Delta rowset dms) mem = absurd mem

-- the stores that a COMMIT names of an operation are those that it changed
names_live : (name : Target) → IsMem name → (fill : Row) (kind : OpKind) (key : List ℕ) (cells : Row) (row : Option Row)
    → needed_in fresh (targets_of name (effect fill kind cells row).1) ≡ places_of (to_live fill (record { kind = kind; key = key; cells = cells }) (or_live memory row None))
names_live name mem fill Insert key cells None = needs_mem name mem
names_live name mem fill Insert key cells (Some row) = refl
names_live name mem fill Upsert key cells None = needs_mem name mem
names_live name mem fill Upsert key cells (Some row) = needs_mem name mem
names_live name mem fill Update key cells None = refl
names_live name mem fill Update key cells (Some row) = needs_mem name mem
names_live name mem fill Delete key cells None = refl
names_live name mem fill Delete key cells (Some row) = needs_mem name mem
names_live name mem fill InsertIgnore key cells None = needs_mem name mem
names_live name mem fill InsertIgnore key cells (Some row) = refl
names_live name mem fill UpdateIgnore key cells None = refl
names_live name mem fill UpdateIgnore key cells (Some row) = needs_mem name mem
names_live name mem fill DeleteIgnore key cells None = refl
names_live name mem fill DeleteIgnore key cells (Some row) = needs_mem name mem

-- these rows have of each key what its content has just before the write
abbrev pub AreBefore : Row → List Entry → ℕ → Rows → Type 0
AreBefore fill records ts rows = (q : List ℕ) (h : Hist) → h.first ≡ None → content_at fill fresh records q ≡ Ok (alone_in h) → row_before ts h ≡ find key_cmp q rows

-- an operation's names are told by its outcome on them
one_tells : (name : Target) → IsMem name → (fill : Row) (records : List Entry) (ts : ℕ) (rows : Rows) (op : RowOp) → AreBefore fill records ts rows → TellsIn fill fresh records ts op (targets_of name (effect_on fill rows op).1)
one_tells name mem fill records ts rows op before held found =
    let targets = targets_of name (effect_on fill rows op).1 in
    let a = alone_played fill never (seen op.key records records) held found in
    let row : row_before ts a.0 ≡ find key_cmp op.key rows = before op.key a.0 a.2 (found ∙ ap Ok a.1) in
    let named : needed_in fresh targets ≡ places_of (to_live fill op (or_live memory (row_before ts a.0) None)) =
    names_live name mem fill op.kind op.key op.cells (find key_cmp op.key rows) ∙ ap (λ (r : Option Row). places_of (to_live fill op (or_live memory r None))) (sym row) in
    subst (λ (l : Held). TellsOne fill fresh l ts op targets) (sym a.1) (names_tell fill fresh (alone_in a.0) ts op targets (tt, tt) named, one_alone (row_before ts a.0))

-- and so are those of a write, each of a store of these
rows_tell : (names : List Target) → All IsMem names → (fill : Row) (records : List Entry) (ts : ℕ) (rows : Rows) (ops : List RowOp) (told : List CommitRow) → AreBefore fill records ts rows → AreRecorded names (outcomes_on fill rows ops) told → RowsTell fill fresh records ts ops told
rows_tell names mems fill records ts rows [] [] before are = tt
rows_tell names mems fill records ts rows [] (row ∷ told) before are = absurd are
rows_tell names mems fill records ts rows (op ∷ ops) [] before are = absurd are
rows_tell names mems fill records ts rows (op ∷ ops) (row ∷ told) before are =
    let one = are.0 in
    let own = one_tells one.0 (of_each IsMem names one.0 mems one.1) fill records ts rows op before in
    (subst (λ (r : CommitRow). TellsIn fill fresh records ts op r.targets) (sym one.2) own, rows_tell names mems fill records ts rows ops told before are.1)

-- a past that the log holds has such rows just before a write above the mark
rows_held : (fill : Row) (records : List Entry) (ts : ℕ) (past : Past) → 0 < ts → IsPast past → ((q : List ℕ) → HoldsKey fill fresh records q (past_hist q past)) → AreBefore fill records ts (rows_at past (ts - 1))
rows_held fill records ts past above is keys q h none found =
    let same : (keys q).held ≡ alone_in h = two_oks (content_at fill fresh records q) (keys q).held (alone_in h) (keys q).is found in
    let shown : Shown 0 (alone_in h) (past_hist q past) = subst (λ (l : Held). Shown 0 l (past_hist q past)) same (keys q).shown in
    before_is ts h above ∙ sym (or_none (row_of (ts - 1) h)) ∙ shown.shows.rows (ts - 1) (omega arith) ∙ row-past (ts - 1) q past is

rows_known : (fill : Row) (records : List Entry) (ts : ℕ) (past : Past) → IsPast past → ((q : List ℕ) → HoldsKey fill fresh records q (past_hist q past)) → AreBefore fill records ts (rows_before ts past)
rows_known fill records zero past is keys q h none found = none
rows_known fill records (suc t) past is keys q h none found = subst (λ (n : ℕ). row_before (suc t) h ≡ find key_cmp q (rows_at past n)) (omega arith) (rows_held fill records (suc t) past (omega arith) is keys q h none found)

-- COMMITs that are due are told: so an opened log may go on with them
module _ (rules : Rules) (fill : Row) (names : List Target) (c low : ℕ) (past : Past) (records : List Entry) (mems : All IsMem names) where
  pub due_told : (log queued : List Entry) → ((ts : ℕ) → ops_of ts log ≡ ops_of ts records) → IsLog (log ++ queued) → HoldsPast rules fill fresh log c past → AreDue fill names past records queued → AllTold fill fresh low log queued
  due_told log [] same order is due = tt
  due_told log (Replicate ts ops ∷ queued) same order is due = absurd due
  due_told log (Commit ts rows ∷ queued) same order is due =
      let order' : IsLog ((log ++ Commit ts rows ∷ []) ++ queued) = subst (λ (l : List Entry). IsLog l) (regroup log (Commit ts rows) queued) order in
      let tells : RowsTell fill fresh log ts due.0.0 rows = rows_tell names mems fill log ts (rows_before ts past) due.0.0 rows (rows_known fill log ts past is.ends.is is.keys) due.0.2 in
      let told : IsTold fill fresh log ts rows = record { ops = due.0.0; stands = same ts ∙ due.0.1; tells = tells } in
      let next = commit_more rules fill fresh log c past ts rows (order_front [] (log ++ Commit ts rows ∷ []) queued order') is told in
      (told, due_told (log ++ Commit ts rows ∷ []) queued (λ t. same_ops t log ts rows ∙ same t) order' next due.1)
