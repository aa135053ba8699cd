-- The COMMITs that a log owes tell what became of their writes.
use Rattle.std.proofs.Common.{◌≡◌, ℕ, List, [], ◌∷◌, ◌++◌, map, Option, Some, None, Ok, Err, Result, refl, sym, ap, ◌∙◌, subst, cond, true, false, Bool, append_assoc, arith}
use Rattle.std.specs.Prelude.{◌==◌}
use Rattle.std.specs.List.{list_any}
use Rattle.std.specs.Ordering.{eq_by_cmp}
use Rattle.std.proofs.lemmas.Bool.{or_parts}
use Rattle.std.proofs.lemmas.Bool.Decides.{nat_tests}
use Rattle.std.proofs.lemmas.Cmp.{nat_list_cmp_total, eq_by_cmp_equiv}
use Rattle.kt_history.specs.declared.operation.RowOp.{RowOp}
use Rattle.kt_history.specs.declared.target.Target.{Target}
use Rattle.kt_history.specs.Rows.{Row, key_cmp}
use Rattle.kt_history.specs.Operations.{DifferentKeys}
use Rattle.kt_history.specs.History.{Past}
use Rattle.kt_histlaws.proofs.Pending.{itself}
use Rattle.kt_records.specs.declared.entry.Entry.{Entry}
use Rattle.kt_records.specs.declared.entry.Entry.TheVariants.{Replicate, Commit}
use Rattle.kt_records.specs.declared.entry.CommitRow.{CommitRow}
use Rattle.kt_journal.specs.Log.{IsLog}
use Rattle.kt_journal.specs.Order.{InOrder, newest_first}
use Rattle.kt_loglaws.specs.Replay.{commit_of}
use Rattle.kt_loglaws.specs.Fronts.{ops_of}
use Rattle.kt_loglaws.proofs.LogOrder.{Lacks, lacks_before}
use Rattle.kt_content.specs.Places.{Super, Place, Held, at_first, standing, live_in, places_of, needed_in, OneLive}
use Rattle.kt_content.specs.KeyOps.{KeyOp, op_on, seen, to_live}
use Rattle.kt_content.specs.Opening.{Placed, held_of, moved_stores, write_opened, then_opened, opened, AreWrites}
use Rattle.kt_content.specs.Rules.{Rules}
use Rattle.kt_content.specs.MoreOps.{PlacesDiffer, untold}
use Rattle.kt_content.specs.Records.{TellsIn, RowsTell, IsTold, AllTold}
use Rattle.kt_content.specs.Content.{IsContent, UntoldLiveOnce, content_at}
use Rattle.kt_content.proofs.Fronts.{same_ops}
use Rattle.kt_content.proofs.LiveOnce.{untold_once}
use Rattle.kt_content.proofs.MoreOps.{stay-played}
use Rattle.kt_content.proofs.Names.{names_tell}
use Rattle.kt_content.proofs.Options.{two_oks}
use Rattle.kt_content.proofs.Records.{order_front, commit_more}
use Rattle.kt_content.proofs.Recovering.{regroup}
use Rattle.kt_content.proofs.RunEvents.{names_end}
use Rattle.kt_content.proofs.Seen.{seen-append, first_differ}
use Rattle.kt_content.proofs.Writes.{writes_have_rows}
use Rattle.kt_reopen.specs.Both.{first_stores, stores_after}
use Rattle.kt_reopen.specs.Numbers.{name_of}
use Rattle.kt_reopen.specs.Owed.{row_told, rows_told, unless_told, then_owed, owed}
use Rattle.kt_reopen.specs.Laws.{owed_commits_are_told}
use Rattle.kt_reopen.proofs.Held.{key_is, content_opened}
use Rattle.kt_reopen.proofs.Naming.{AllNamed, memory_needed, first_named, named_played, live_needed}
use Rattle.kt_reopen.proofs.Still.{still_moved, still_written, still_opened}

-- ---- the operation of a key in its write

turned : (a b : List ℕ) → eq_by_cmp key_cmp a b ≡ false → eq_by_cmp key_cmp b a ≡ false
turned a b h = (eq_by_cmp_equiv nat_list_cmp_total).symm b a ∙ h

any_at : (p : RowOp → Bool) (xs : List RowOp) (y : RowOp) (ys : List RowOp) → list_any p (xs ++ y ∷ ys) ≡ false → p y ≡ false
any_at p [] y ys h = (or_parts (p y) (list_any p ys) h).0
any_at p (x ∷ xs) y ys h = any_at p xs y ys (or_parts (p x) (list_any p (xs ++ y ∷ ys)) h).1

own_op : (ts : ℕ) (done : List RowOp) (op : RowOp) (more : List RowOp) → DifferentKeys (done ++ op ∷ more) → op_on op.key ts (done ++ op ∷ more) None ≡ untold ts op ∷ []
own_op ts [] op more d = ap (λ b. cond b (untold ts op ∷ []) (op_on op.key ts more None)) (itself op.key)
own_op ts (x ∷ done) op more d =
    let apart = turned x.key op.key (any_at (λ (other : RowOp). eq_by_cmp key_cmp x.key other.key) done op more d.0) in
    ap (λ b. cond b (untold ts x ∷ []) (op_on op.key ts (done ++ op ∷ more) None)) apart ∙ own_op ts done op more d.1

same : (n : ℕ) → (n == n) ≡ true
same n = grind (arith, nat_tests)

ops_found : (ts : ℕ) (front : List Entry) (ops : List RowOp) (rest : List Entry) → Lacks ts front → ops_of ts (front ++ Replicate ts ops ∷ rest) ≡ Some ops
ops_found ts [] ops rest lacks = ap (λ b. cond b (Some ops) (ops_of ts rest)) (same ts)
ops_found ts (Replicate t o ∷ front) ops rest lacks = ap (λ b. cond b (Some o) (ops_of ts (front ++ Replicate ts ops ∷ rest))) lacks.0 ∙ ops_found ts front ops rest lacks.1
ops_found ts (Commit t rows ∷ front) ops rest lacks = ops_found ts front ops rest lacks

newest_behind : (before xs : List Entry) (x : Entry) → newest_first before (xs ++ x ∷ []) ≡ x ∷ newest_first before xs
newest_behind before [] x = refl
newest_behind before (y ∷ xs) x = newest_behind (y ∷ before) xs x

-- COMMITs, each of which tells what became of a write of this log
abbrev pub EachTells : Row → Super → List Entry → List Entry → Type 0
EachTells fill super log [] = Unit {0}
EachTells fill super log (Replicate ts ops ∷ queued) = ⊥
EachTells fill super log (Commit ts rows ∷ queued) = ((ops : List RowOp) × (ops_of ts log ≡ Some ops) × RowsTell fill super log ts ops rows) × EachTells fill super log queued

module _ (rules : Rules) (fill : Row) (super : Super) (records : List Entry) (c : ℕ) (past : Past) (log : IsLog records) (is : IsContent rules fill super records c past)
    (final : Placed) (opens : stores_after fill super records ≡ Ok final) where
  abbrev name : Place → Target
  name = name_of super records

  -- what a content has of a key is what was opened
  held_is : (q : List ℕ) (held : Held) → content_at fill super records q ≡ Ok held → held_of q final ≡ held
  held_is q held found = two_oks (content_at fill super records q) (held_of q final) held (key_is rules fill super records c past log is final opens q) found

  held_named : (q : List ℕ) (held : Held) → content_at fill super records q ≡ Ok held → AllNamed super name held
  held_named q held found = named_played super name fill (at_first q super) held (seen q records records) (first_named super records q) found

  held_differs : (q : List ℕ) (held : Held) → content_at fill super records q ≡ Ok held → PlacesDiffer held
  held_differs q held found = (stay-played fill super (at_first q super) held (seen q records records) (first_differ q super is.numbers) refl found).0

  -- of an operation without a COMMIT one store at most has the key live
  once : (front : List Entry) (ts : ℕ) (ops : List RowOp) (rest : List Entry) (done : List RowOp) (op : RowOp) (more : List RowOp) → records ≡ front ++ Replicate ts ops ∷ rest → commit_of ts records ≡ None → ops ≡ done ++ op ∷ more
      → DifferentKeys ops → (held : Held) → content_at fill super records op.key ≡ Ok held → OneLive (standing ts held)
  once front ts ops rest done op more place none parts d held found =
      let own : op_on op.key ts ops (commit_of ts records) ≡ untold ts op ∷ [] =
      ap (op_on op.key ts ops) none ∙ ap (λ (l : List RowOp). op_on op.key ts l None) parts ∙ own_op ts done op more (subst DifferentKeys parts d) in
      let sees : seen op.key records records ≡ seen op.key records front ++ untold ts op ∷ seen op.key records rest =
      ap (seen op.key records) place ∙ seen-append op.key records front (Replicate ts ops ∷ rest) ∙ ap (λ (l : List KeyOp). seen op.key records front ++ (l ++ seen op.key records rest)) own in
      let k = is.keys op.key in
      let same : k.held ≡ held = two_oks (content_at fill super records op.key) k.held held k.is found in
      untold_once held (seen op.key records front) ts op (seen op.key records rest)
      (subst (UntoldLiveOnce held) sees (subst (λ (l : Held). UntoldLiveOnce l (seen op.key records records)) same k.once))

  -- the stores at a write, of which the rows just before it are those in the end
  abbrev StandStill : ℕ → Placed → Type 0
  StandStill ts stores = (k : List ℕ) → standing ts (held_of k stores) ≡ standing ts (held_of k final)

  one_tells : (ts : ℕ) (op : RowOp) (stores : Placed) → StandStill ts stores → ((held : Held) → content_at fill super records op.key ≡ Ok held → OneLive (standing ts held))
      → TellsIn fill super records ts op (row_told fill name (standing ts (held_of op.key stores)) op).targets
  one_tells ts op stores still one held found =
      let targets = (row_told fill name (standing ts (held_of op.key stores)) op).targets in
      let rows : standing ts (held_of op.key stores) ≡ standing ts held = still op.key ∙ ap (standing ts) (held_is op.key held found) in
      let named : needed_in super targets ≡ places_of (to_live fill op (live_in (standing ts held))) =
      ap (λ s. needed_in super (map name (places_of (to_live fill op (live_in s))))) rows ∙ live_needed super name fill op ts held (memory_needed super records) (held_named op.key held found) in
      (names_tell fill super held ts op targets (held_differs op.key held found) named, one held found)

  rows_tell : (front : List Entry) (ts : ℕ) (ops : List RowOp) (rest : List Entry) (done more : List RowOp) (stores : Placed) → records ≡ front ++ Replicate ts ops ∷ rest → commit_of ts records ≡ None → ops ≡ done ++ more → DifferentKeys ops
      → StandStill ts stores → RowsTell fill super records ts more (rows_told fill name ts more stores)
  rows_tell front ts ops rest done [] stores place none parts d still = tt
  rows_tell front ts ops rest done (op ∷ more) stores place none parts d still =
      let moves = to_live fill op (live_in (standing ts (held_of op.key stores))) in (
        one_tells ts op stores still (once front ts ops rest done op more place none parts d),
        rows_tell front ts ops rest (done ++ op ∷ []) more (moved_stores ts op.key moves stores) place none (parts ∙ sym (append_assoc done (op ∷ []) more)) d
            (λ k. still_moved ts ts op.key k moves stores (omega arith) ∙ still k),
      )

  newest_last : (xs : List Entry) (x : Entry) → newest_first [] (xs ++ x ∷ []) ≡ x ∷ newest_first [] xs
  newest_last xs x = newest_behind [] xs x

  one_more : (xs : List Entry) (x : Entry) (ys : List Entry) → (xs ++ x ∷ []) ++ ys ≡ xs ++ x ∷ ys
  one_more xs x ys = append_assoc xs (x ∷ []) ys

  -- one write of the log, and what is owed behind it
  module _ (front : List Entry) (ts : ℕ) (ops : List RowOp) (rest : List Entry) (stores : Placed) (place : records ≡ front ++ Replicate ts ops ∷ rest) (after : InOrder (Replicate ts ops ∷ newest_first [] front) rest) (keys : DifferentKeys ops) where
    owes_it : (o : Option (List CommitRow)) (mid : Placed) → commit_of ts records ≡ o → StandStill ts stores → EachTells fill super records (owed fill super name records mid rest)
        → EachTells fill super records (unless_told o (Commit ts (rows_told fill name ts ops stores)) (owed fill super name records mid rest))
    owes_it (Some rows) mid none still more = more
    owes_it None mid none still more = (
      (
        ops,
        ap (ops_of ts) place ∙ ops_found ts front ops rest (lacks_before [] front ts ops rest (subst IsLog place log)),
        rows_tell front ts ops rest [] ops stores place none refl keys still,
      ),
      more,
    )

    write_owes : (r : Result Placed ℕ) → write_opened fill super ts ops (commit_of ts records) stores ≡ r → then_opened (λ stores. opened fill super records stores rest) r ≡ Ok final
        → ((mid : Placed) → opened fill super records mid rest ≡ Ok final → EachTells fill super records (owed fill super name records mid rest))
        → EachTells fill super records (unless_told (commit_of ts records) (Commit ts (rows_told fill name ts ops stores)) (then_owed (λ stores. owed fill super name records stores rest) r))
    write_owes (Err t) e g more = absurd (cc)
    write_owes (Ok mid) e g more =
        let still : StandStill ts stores = λ k.
        sym (still_opened fill super ts records (Replicate ts ops ∷ newest_first [] front) rest mid final k (omega arith) after g
        ∙ still_written fill super ts ts ops (commit_of ts records) stores mid k (omega arith) e) in
        owes_it (commit_of ts records) mid refl still (more mid g)

  -- each COMMIT that is owed by these records
  each_owed : (front rest : List Entry) (stores : Placed) → records ≡ front ++ rest → InOrder (newest_first [] front) rest → AreWrites records rest → opened fill super records stores rest ≡ Ok final
      → EachTells fill super records (owed fill super name records stores rest)
  each_owed front [] stores place order w h = tt
  each_owed front (Commit t rows ∷ rest) stores place order w h =
      each_owed (front ++ Commit t rows ∷ []) rest stores (place ∙ sym (one_more front (Commit t rows) rest)) (subst (λ (l : List Entry). InOrder l rest) (sym (newest_last front (Commit t rows))) order.2) w h
  each_owed front (Replicate ts ops ∷ rest) stores place order w h =
      write_owes front ts ops rest stores place order.2 w.0 (write_opened fill super ts ops (commit_of ts records) stores) refl h
      (λ mid g. each_owed (front ++ Replicate ts ops ∷ []) rest mid (place ∙ sym (one_more front (Replicate ts ops) rest)) (subst (λ (l : List Entry). InOrder l rest) (sym (newest_last front (Replicate ts ops))) order.2) w.2 g)

  pub owed_tell : EachTells fill super records (owed fill super name records (first_stores super) records)
  owed_tell = each_owed [] records (first_stores super) refl log (writes_have_rows records log) opens

-- ---- one after another

module _ (rules : Rules) (fill : Row) (super : Super) (c low : ℕ) (past : Past) where
  each_on : (log queued : List Entry) (ts : ℕ) (rows : List CommitRow) → IsLog (log ++ Commit ts rows ∷ []) → IsContent rules fill super log c past → IsTold fill super log ts rows
      → EachTells fill super log queued → EachTells fill super (log ++ Commit ts rows ∷ []) queued
  each_on log [] ts rows order is told h = tt
  each_on log (Replicate t ops ∷ queued) ts rows order is told h = absurd h
  each_on log (Commit t their ∷ queued) ts rows order is told h = (
    (h.0.0, same_ops t log ts rows ∙ h.0.1, (names_end rules fill super log c past ts rows (record { ts = t; ops = h.0.0; rows = their } ∷ []) order is told (h.0.2, tt)).0),
    each_on log queued ts rows order is told h.1,
  )

  all_told : (log queued : List Entry) → IsLog (log ++ queued) → IsContent rules fill super log c past → EachTells fill super log queued → AllTold fill super low log queued
  all_told log [] order is h = tt
  all_told log (Replicate ts ops ∷ queued) order is h = absurd h
  all_told log (Commit ts rows ∷ queued) order is h =
      let order' : IsLog ((log ++ Commit ts rows ∷ []) ++ queued) = subst (λ (l : List Entry). IsLog l) (regroup log (Commit ts rows) queued) order in
      let front = order_front [] (log ++ Commit ts rows ∷ []) queued order' in
      let told : IsTold fill super log ts rows = record { ops = h.0.0; stands = h.0.1; tells = h.0.2 } in
      let next = commit_more rules fill super log c past ts rows front is told in
      (told, all_told (log ++ Commit ts rows ∷ []) queued order' next (each_on log queued ts rows front is told h.1))

pub owed_told : owed_commits_are_told
owed_told rules fill super records c low past order is =
    let log = order_front [] records (owed fill super (name_of super records) records (first_stores super) records) order in
    let at = content_opened rules fill super records c past log is in
    all_told rules fill super c low past records (owed fill super (name_of super records) records (first_stores super) records) order is
    (owed_tell rules fill super records c past log is at.0 at.1)
