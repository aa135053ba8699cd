-- A COMMIT among the records is known of each of its keys.
use Rattle.std.proofs.Common.{◌≡◌, ℕ, List, [], ◌∷◌, ◌++◌, Some, None, refl, sym, ap, ◌∙◌, subst, cond, true, false, Bool, append_assoc, inl, inr}
use Rattle.std.specs.Prelude.{◌==◌}
use Rattle.std.specs.List.{list_any}
use Rattle.std.specs.Ordering.{eq_by_cmp}
use Rattle.kt_history.specs.declared.operation.RowOp.{RowOp}
use Rattle.kt_history.specs.declared.target.Target.{Target}
use Rattle.kt_history.specs.Rows.{Row, key_cmp}
use Rattle.kt_history.specs.History.{Past}
use Rattle.kt_history.specs.Operations.{DifferentKeys}
use Rattle.kt_records.specs.declared.entry.Entry.{Entry}
use Rattle.kt_records.specs.declared.entry.Entry.TheVariants.{Replicate, Commit}
use Rattle.kt_records.specs.declared.entry.CommitRow.{CommitRow}
use Rattle.kt_history.specs.Stores.{Hist}
use Rattle.kt_histlaws.proofs.Pending.{same_key, itself}
use Rattle.kt_journal.specs.Log.{IsLog}
use Rattle.kt_loglaws.specs.Replay.{commit_of}
use Rattle.kt_loglaws.specs.Fronts.{ops_of}
use Rattle.kt_loglaws.proofs.LogOrder.{no_commit_yet, commit_of-after, above_behind, order_behind, one_commit, lacks_around}
use Rattle.kt_content.specs.Rules.{Rules}
use Rattle.kt_content.specs.Places.{Super, Place, Held}
use Rattle.kt_content.specs.KeyOps.{KeyOp, op_on, seen}
use Rattle.kt_content.specs.MoreOps.{untold, told}
use Rattle.kt_content.specs.InMemory.{Stores}
use Rattle.kt_content.specs.Opening.{AreWrites}
use Rattle.kt_content.specs.Lending.{Known, MayBeLent, RowsRestNot, NotEarly}
use Rattle.kt_content.specs.Lending.Known.{settled, pending, taken}
use Rattle.kt_content.specs.KnownCommits.{IsKnown, IsRowOf, a_commit_is_known, RowsGoOn, RunGoesOn, a_run_that_goes_on_is_not_early}
use Rattle.kt_content.proofs.Seen.{seen-append}
use Rattle.kt_content.proofs.Writes.{writes_have_rows}
use Rattle.kt_content.proofs.Records.{stands_at, own_commit}
use Rattle.kt_content.proofs.Recovering.{regroup}
use Rattle.std.proofs.lemmas.Bool.{or_parts}

-- the operation of a row, as its key sees it

differ_at : (all xs : List Entry) (ts : ℕ) (ops : List RowOp) (ys : List Entry) → AreWrites all (xs ++ Replicate ts ops ∷ ys) → DifferentKeys ops
differ_at all [] ts ops ys w = w.0
differ_at all (Replicate t o ∷ xs) ts ops ys w = differ_at all xs ts ops ys w.2
differ_at all (Commit t rows ∷ xs) ts ops ys w = differ_at all xs ts ops ys w

key_apart : (o op : RowOp) (targets : List Target) (ops : List RowOp) (rows : List CommitRow) → list_any (λ (other : RowOp). eq_by_cmp key_cmp o.key other.key) ops ≡ false → IsRowOf op targets ops rows → eq_by_cmp key_cmp o.key op.key ≡ false
key_apart o op targets [] rows none r = absurd r
key_apart o op targets (x ∷ ops) [] none r = absurd r
key_apart o op targets (x ∷ ops) (row ∷ rows) none (inl same) = ap (λ (k : RowOp). eq_by_cmp key_cmp o.key k.key) same.0 ∙ (or_parts _ _ none).0
key_apart o op targets (x ∷ ops) (row ∷ rows) none (inr rest) = key_apart o op targets ops rows (or_parts (eq_by_cmp key_cmp o.key x.key) _ none).1 rest

on_row : (ts : ℕ) (op : RowOp) (targets : List Target) (ops : List RowOp) (rows : List CommitRow) → DifferentKeys ops → IsRowOf op targets ops rows → op_on op.key ts ops (Some rows) ≡ told ts op targets ∷ []
on_row ts op targets [] rows d r = absurd r
on_row ts op targets (o ∷ ops) [] d r = absurd r
on_row ts op targets (o ∷ ops) (row ∷ rows) d (inl same) =
    subst (λ (x : RowOp). op_on x.key ts (o ∷ ops) (Some (row ∷ rows)) ≡ told ts x targets ∷ []) (sym same.0)
    (ap (λ b. cond b (told ts o row.targets ∷ []) (op_on o.key ts ops (Some rows))) (itself o.key) ∙ ap (λ t. told ts o t ∷ []) (sym same.1))
on_row ts op targets (o ∷ ops) (row ∷ rows) d (inr rest) =
    ap (λ b. cond b (told ts o row.targets ∷ []) (op_on op.key ts ops (Some rows))) (other (eq_by_cmp key_cmp op.key o.key) refl) ∙ on_row ts op targets ops rows d.1 rest
  where
    other : (b : Bool) → eq_by_cmp key_cmp op.key o.key ≡ b → eq_by_cmp key_cmp op.key o.key ≡ false
    other true e =
        let same : op.key ≡ o.key = same_key op.key o.key e in
        absurd (let f : true ≡ false = sym (itself o.key) ∙ ap (eq_by_cmp key_cmp o.key) (sym same) ∙ key_apart o op targets ops rows d.0 rest in cc)
    other false e = e

-- one that is not the last is among those before it
before_last : (front : List KeyOp) (x : KeyOp) (behind others : List KeyOp) (y : KeyOp) → front ++ x ∷ behind ≡ others ++ y ∷ [] → (x ≡ y → ⊥) → (more : List KeyOp) × (others ≡ front ++ x ∷ more)
before_last [] x behind [] y e ne = absurd (ne (cc))
before_last [] x behind (o ∷ others) y e ne = let head : x ≡ o = cc in (others, ap (λ k. k ∷ others) (sym head))
before_last (f ∷ []) x behind [] y e ne = absurd (cc)
before_last (f ∷ g ∷ front) x behind [] y e ne = absurd (cc)
before_last (f ∷ front) x behind (o ∷ others) y e ne =
    let rest : front ++ x ∷ behind ≡ others ++ y ∷ [] = cc in
    let head : f ≡ o = cc in
    let found = before_last front x behind others y rest ne in
    (found.0, ap (λ k. k ∷ others) (sym head) ∙ ap (λ l. f ∷ l) found.1)

not_untold : (t ts : ℕ) (o op : RowOp) (targets : List Target) → told ts op targets ≡ untold t o → ⊥
not_untold t ts o op targets e = let f : Some targets ≡ None = ap (λ (x : KeyOp). x.told) e in cc

in_known : (fill : Row) (keep : Place → Bool) (old new : Super) (a b : ℕ) (stores : Stores) (held : Held) (shows whole : Hist) (logged known : List KeyOp) (ts : ℕ) (op : RowOp) (targets : List Target) (front behind : List KeyOp)
    → logged ≡ front ++ told ts op targets ∷ behind → Known fill keep old new a b stores held shows whole logged known → IsKnown known ts op targets
in_known fill keep old new a b stores held shows whole logged known ts op targets front behind is (settled same e) = record { front = front; behind = behind; is = sym same ∙ is }
in_known fill keep old new a b stores held shows whole logged known ts op targets front behind is (pending t o same lt made under) =
    let found = before_last front (told ts op targets) behind known (untold t o) (sym is ∙ same) (not_untold t ts o op targets) in
    record { front = front; behind = found.0; is = found.1 }
in_known fill keep old new a b stores held shows whole logged known ts op targets front behind is (taken before t o names same knows lt e tells on) =
    let found = before_last front (told ts op targets) behind before (untold t o) (sym is ∙ same) (not_untold t ts o op targets) in
    record { front = front; behind = found.0 ++ told t o names ∷ []; is = knows ∙ ap (λ (l : List KeyOp). l ++ told t o names ∷ []) found.1 ∙ append_assoc front (told ts op targets ∷ found.0) (told t o names ∷ []) }

pub commit_known : a_commit_is_known
commit_known fill keep old new a b stores held shows whole records known ts ops rows op targets log stands commit row k =
    let at = stands_at ts ops records stands in
    let differ : DifferentKeys ops = differ_at records at.0 ts ops at.1 (subst (λ (l : List Entry). AreWrites records l) at.2 (writes_have_rows records log)) in
    let here : op_on op.key ts ops (commit_of ts records) ≡ told ts op targets ∷ [] = ap (op_on op.key ts ops) commit ∙ on_row ts op targets ops rows differ row in
    let sees : seen op.key records records ≡ seen op.key records at.0 ++ told ts op targets ∷ seen op.key records at.1 =
    ap (seen op.key records) at.2 ∙ seen-append op.key records at.0 (Replicate ts ops ∷ at.1) ∙ ap (λ l. seen op.key records at.0 ++ (l ++ seen op.key records at.1)) here in
    in_known fill keep old new a b stores held shows whole (seen op.key records records) known ts op targets (seen op.key records at.0) (seen op.key records at.1) sees k

-- a run

ops_of-front : (ts : ℕ) (ops : List RowOp) (xs ys : List Entry) → ops_of ts xs ≡ Some ops → ops_of ts (xs ++ ys) ≡ Some ops
ops_of-front ts ops [] ys e = absurd (cc)
ops_of-front ts ops (Replicate t o ∷ xs) ys e = either (t == ts) e (λ f. ops_of-front ts ops xs ys f)
  where
    either : (b : Bool) → cond b (Some o) (ops_of ts xs) ≡ Some ops → (ops_of ts xs ≡ Some ops → ops_of ts (xs ++ ys) ≡ Some ops) → cond b (Some o) (ops_of ts (xs ++ ys)) ≡ Some ops
    either true f more = f
    either false f more = more f
ops_of-front ts ops (Commit t rows ∷ xs) ys e = ops_of-front ts ops xs ys e

commit_there : (ts : ℕ) (ops : List RowOp) (rows : List CommitRow) (xs ys : List Entry) → IsLog (xs ++ Commit ts rows ∷ ys) → ops_of ts xs ≡ Some ops → commit_of ts (xs ++ Commit ts rows ∷ ys) ≡ Some rows
commit_there ts ops rows xs ys log stands =
    let at = stands_at ts ops xs stands in
    let place : xs ++ Commit ts rows ∷ ys ≡ at.0 ++ Replicate ts ops ∷ (at.1 ++ Commit ts rows ∷ ys) = ap (λ (l : List Entry). l ++ Commit ts rows ∷ ys) at.2 ∙ append_assoc at.0 (Replicate ts ops ∷ at.1) (Commit ts rows ∷ ys) in
    let log' : IsLog (at.0 ++ Replicate ts ops ∷ (at.1 ++ Commit ts rows ∷ ys)) = subst (λ (l : List Entry). IsLog l) place log in
    let behind = order_behind [] at.0 ts ops (at.1 ++ Commit ts rows ∷ ys) log' in
    let lacks = lacks_around ts at.1 rows ys (above_behind [] at.0 ts ops (at.1 ++ Commit ts rows ∷ ys) log') in
    let none = one_commit ts (Replicate ts ops ∷ behind.0) at.1 rows ys lacks.2 behind.1 in
    ap (commit_of ts) place ∙ commit_of-after ts at.0 (Replicate ts ops ∷ (at.1 ++ Commit ts rows ∷ ys)) (no_commit_yet [] at.0 ts ops (at.1 ++ Commit ts rows ∷ ys) refl log')
    ∙ commit_of-after ts at.1 (Commit ts rows ∷ ys) none.0 ∙ own_commit ts rows ys

module _ (rules : Rules) (fill : Row) (keep : Place → Bool) (old new : Super) (stores : List ℕ → Stores) (records : List Entry) (past : Past) (log : IsLog records) (m : MayBeLent rules fill keep old new stores records past) where
  rows_rest : (ts : ℕ) (ops : List RowOp) (rows : List CommitRow) (some : List RowOp) (their : List CommitRow) → ops_of ts records ≡ Some ops → commit_of ts records ≡ Some rows
      → ((op : RowOp) (targets : List Target) → IsRowOf op targets some their → IsRowOf op targets ops rows) → RowsGoOn rules fill keep old new stores records past m ts some their
      → RowsRestNot rules fill keep old new stores records past m ts some their
  rows_rest ts ops rows [] [] stands commit among go = tt
  rows_rest ts ops rows [] (row ∷ their) stands commit among go = absurd go
  rows_rest ts ops rows (op ∷ some) [] stands commit among go = absurd go
  rows_rest ts ops rows (op ∷ some) (row ∷ their) stands commit among go =
      let k = m.keys op.key in
      let is = commit_known fill keep old new k.a k.b (stores op.key) k.held k.shows _ records k.known ts ops rows op row.targets log stands commit (among op row.targets (inl (refl, refl))) k.stands in (
        record { front = is.front; behind = is.behind; stands = is.is; mark = go.0; later = go.1; on = go.2 },
        rows_rest ts ops rows some their stands commit (λ o targets r. among o targets (inr r)) go.3,
      )

  run_rests : (low : ℕ) (front run : List Entry) → records ≡ front ++ run → RunGoesOn rules fill keep old new stores records past m low front run → NotEarly rules fill keep old new stores records past m low front run
  run_rests low front [] same go = tt
  run_rests low front (Replicate ts ops ∷ run) same go = (go.0, run_rests ts (front ++ Replicate ts ops ∷ []) run (same ∙ regroup front (Replicate ts ops) run) go.1)
  run_rests low front (Commit ts rows ∷ run) same go =
      let stands : ops_of ts records ≡ Some go.0.0 = ap (ops_of ts) same ∙ ops_of-front ts go.0.0 front (Commit ts rows ∷ run) go.0.1 in
      let commit : commit_of ts records ≡ Some rows = ap (commit_of ts) same ∙ commit_there ts go.0.0 rows front run (subst (λ (l : List Entry). IsLog l) same log) go.0.1 in (
        (go.0.0, go.0.1, rows_rest ts go.0.0 rows go.0.0 rows stands commit (λ op targets r. r) go.0.2),
        run_rests low (front ++ Commit ts rows ∷ []) run (same ∙ regroup front (Commit ts rows) run) go.1,
      )

pub not_early : a_run_that_goes_on_is_not_early
not_early rules fill keep old new stores durable run past low log m go = run_rests rules fill keep old new stores (durable ++ run) past log m low durable run refl go
