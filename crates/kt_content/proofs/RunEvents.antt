-- What an engine keeps of its log, its flying writes and its numbers.
use Rattle.std.proofs.Common.{◌≡◌, ◌≤◌, ◌<◌, ℕ, suc, max, List, [], ◌∷◌, ◌++◌, Some, None, Option, refl, sym, ap, ◌∙◌, subst, arith, cond, false, Bool, inl, inr, append_assoc}
use Rattle.std.specs.Prelude.{not, ◌==◌}
use Rattle.std.specs.List.{filter}
use Rattle.std.proofs.lemmas.List.{append-nil}
use Rattle.std.proofs.lemmas.List.Elements.{filter-append}
use Rattle.std.proofs.lemmas.Bool.{lt-ltb}
use Rattle.std.proofs.lemmas.Bool.Decides.{nat_tests}
use Rattle.kt_history.specs.declared.operation.RowOp.{RowOp}
use Rattle.kt_history.specs.Rows.{Row}
use Rattle.kt_history.specs.History.{Past, IsPastUpTo}
use Rattle.kt_records.specs.declared.entry.Entry.{Entry}
use Rattle.kt_records.specs.declared.entry.Entry.TheVariants.{Replicate, Commit}
use Rattle.kt_records.specs.declared.entry.CommitRow.{CommitRow}
use Rattle.kt_histlaws.specs.Pending.{Aloft, is_pending}
use Rattle.kt_journal.specs.Log.{IsLog}
use Rattle.kt_loglaws.specs.Laws.{with_ops}
use Rattle.kt_loglaws.proofs.LogOrder.{AllAbove, above_behind}
use Rattle.kt_rowfiles.specs.Files.{DiskRowset}
use Rattle.kt_content.specs.Places.{Super, Place, memory, disk, fresh, Held, newer, last_dms_of, standing}
use Rattle.kt_content.specs.KeyOps.{KeyOp, seen}
use Rattle.kt_content.specs.Content.{IsContent, content_at}
use Rattle.kt_content.specs.Agreement.{OpsRise}
use Rattle.kt_content.specs.MoreOps.{untold, TellsOne}
use Rattle.kt_content.specs.Records.{RowsTell, IsTold, AllTold}
use Rattle.kt_content.specs.Recovering.{AllTrue}
use Rattle.kt_content.specs.InMemory.{if_there}
use Rattle.kt_content.specs.RunEvents.{a_write_that_begins_is_not_done, a_row_that_is_applied_is_done, names_stay_true_at_a_begin, names_stay_true_at_an_end, a_name_more_is_true, true_names_are_told, what_is_told_is_true, Numbers, RowsetsBelow, DeltasAbove, Has, a_fresh_number_is_needed_where_it_stands}
use Rattle.kt_content.proofs.Records.{KeyOf, key_of, replicate_more, commit_more, commit_key, order_front, stands_at}
use Rattle.kt_content.proofs.Seen.{seen_rise}
use Rattle.kt_content.proofs.Recovering.{ones_alike, later, sees_all, regroup, behind_above}
use Rattle.kt_content.specs.Rules.{Rules, no_rules}
use Rattle.kt_content.proofs.Rules.{ops_pass_none, without_rules}
use Rattle.kt_content.proofs.Options.{two_oks}

-- what is done

abbrev AllLt : ℕ → List KeyOp → Type 0
AllLt ts [] = Unit {0}
AllLt ts (x ∷ xs) = (x.ts < ts) × AllLt ts xs

pub last_above : (low : ℕ) (xs : List KeyOp) (y : KeyOp) → OpsRise low (xs ++ y ∷ []) → low ≤ y.ts
last_above low [] y r = r.0
last_above low (x ∷ xs) y r = let up = last_above (suc x.ts) xs y r.1 in let down = r.0 in omega arith

all_lt : (low : ℕ) (xs : List KeyOp) (y : KeyOp) → OpsRise low (xs ++ y ∷ []) → AllLt y.ts xs
all_lt low [] y r = tt
all_lt low (x ∷ xs) y r = (let up = last_above (suc x.ts) xs y r.1 in omega arith, all_lt (suc x.ts) xs y r.1)

-- the same are pending
module _ (aloft later : List Aloft) (q : List ℕ) where
  is_done : List Aloft → KeyOp → Bool
  is_done aloft x = not (is_pending aloft q x.ts)

  same_all : (xs : List KeyOp) → ((t : ℕ) → is_pending later q t ≡ is_pending aloft q t) → filter (λ (x : KeyOp). not (is_pending later q x.ts)) xs ≡ filter (λ (x : KeyOp). not (is_pending aloft q x.ts)) xs
  same_all [] same = refl
  same_all (x ∷ xs) same = ap (λ b. cond (not b) (x ∷ filter (λ (x : KeyOp). not (is_pending later q x.ts)) xs) (filter (λ (x : KeyOp). not (is_pending later q x.ts)) xs)) (same x.ts)
      ∙ ap (λ l. cond (not (is_pending aloft q x.ts)) (x ∷ l) l) (same_all xs same)

  same_under : (ts : ℕ) (xs : List KeyOp) → AllLt ts xs → ((t : ℕ) → t < ts → is_pending later q t ≡ is_pending aloft q t) → filter (λ (x : KeyOp). not (is_pending later q x.ts)) xs ≡ filter (λ (x : KeyOp). not (is_pending aloft q x.ts)) xs
  same_under ts [] u same = refl
  same_under ts (x ∷ xs) u same = ap (λ b. cond (not b) (x ∷ filter (λ (x : KeyOp). not (is_pending later q x.ts)) xs) (filter (λ (x : KeyOp). not (is_pending later q x.ts)) xs)) (same x.ts u.0)
      ∙ ap (λ l. cond (not (is_pending aloft q x.ts)) (x ∷ l) l) (same_under ts xs u.1 same)

pub begin_not_done : a_write_that_begins_is_not_done
begin_not_done aloft later q records ts ops log same pends = elim (key_of q ts ops) [
  | KeyOf.not_there lacks none ↦
      ap (filter (λ (x : KeyOp). not (is_pending later q x.ts))) (sees_all [] fresh records ts ops log q ∙ ap (λ l. seen q records records ++ l) none ∙ append-nil (seen q records records))
      ∙ same_all aloft later q (seen q records records) (λ t. same t (inr none))
  | KeyOf.there op key one every ↦
      let sees = sees_all [] fresh records ts ops log q ∙ ap (λ l. seen q records records ++ l) one in
      let rise : OpsRise 0 (seen q records records ++ untold ts op ∷ []) = subst (OpsRise 0) sees (seen_rise q (records ++ Replicate ts ops ∷ []) [] (records ++ Replicate ts ops ∷ []) log) in
      ap (filter (λ (x : KeyOp). not (is_pending later q x.ts))) sees
      ∙ filter-append (λ (x : KeyOp). not (is_pending later q x.ts)) (seen q records records) (untold ts op ∷ [])
      ∙ ap (λ b. filter (λ (x : KeyOp). not (is_pending later q x.ts)) (seen q records records) ++ cond (not b) (untold ts op ∷ []) []) (pends op one)
      ∙ append-nil (filter (λ (x : KeyOp). not (is_pending later q x.ts)) (seen q records records))
      ∙ same_under aloft later q ts (seen q records records) (all_lt 0 (seen q records records) (untold ts op) rise) (λ t lt. same t (inl lt))
]

pub applied_done : a_row_that_is_applied_is_done
applied_done aloft later q records front ts op sees rise same was now =
    let up = all_lt 0 front (untold ts op) (subst (OpsRise 0) sees rise) in
    ap (filter (λ (x : KeyOp). not (is_pending later q x.ts))) sees
    ∙ filter-append (λ (x : KeyOp). not (is_pending later q x.ts)) front (untold ts op ∷ [])
    ∙ ap (λ b. filter (λ (x : KeyOp). not (is_pending later q x.ts)) front ++ cond (not b) (untold ts op ∷ []) []) now
    ∙ ap (λ l. l ++ untold ts op ∷ []) (same_under aloft later q ts front up same
    ∙ sym (ap (filter (λ (x : KeyOp). not (is_pending aloft q x.ts))) sees
    ∙ filter-append (λ (x : KeyOp). not (is_pending aloft q x.ts)) front (untold ts op ∷ [])
    ∙ ap (λ b. filter (λ (x : KeyOp). not (is_pending aloft q x.ts)) front ++ cond (not b) (untold ts op ∷ []) []) was
    ∙ append-nil (filter (λ (x : KeyOp). not (is_pending aloft q x.ts)) front)))

-- names

tell_after : (rules : Rules) (fill : Row) (super : Super) (records : List Entry) (c : ℕ) (past : Past) (t : ℕ) (ops : List RowOp) (log : IsLog (records ++ Replicate t ops ∷ [])) → IsContent rules fill super records c past
    → (ts : ℕ) (os : List RowOp) (rows : List CommitRow) → ts ≤ t → RowsTell fill super records ts os rows → RowsTell fill super (records ++ Replicate t ops ∷ []) ts os rows
tell_after rules fill super records c past t ops log is ts [] [] le h = tt
tell_after rules fill super records c past t ops log is ts [] (row ∷ rows) le h = absurd h
tell_after rules fill super records c past t ops log is ts (o ∷ os) [] le h = absurd h
tell_after rules fill super records c past t ops log is ts (o ∷ os) (row ∷ rows) le h = (
  λ held e. (let was = is.keys o.key in
      let next = later fill super records t ops log o.key ts was.held le (key_of o.key t ops) was.is in
      let same : next.0 ≡ held = two_oks (content_at fill super (records ++ Replicate t ops ∷ []) o.key) next.0 held next.1 e in
      ones_alike fill super was.held held ts o row.targets (sym next.2 ∙ ap (standing ts) same) (h.0 was.held was.is)),
  tell_after rules fill super records c past t ops log is ts os rows le h.1,
)

tell_behind : (rules : Rules) (fill : Row) (super : Super) (records : List Entry) (c : ℕ) (past : Past) (t : ℕ) (r : List CommitRow) (log : IsLog (records ++ Commit t r ∷ [])) → IsContent rules fill super records c past → IsTold fill super records t r
    → (ts : ℕ) (os : List RowOp) (rows : List CommitRow) → RowsTell fill super records ts os rows → RowsTell fill super (records ++ Commit t r ∷ []) ts os rows
tell_behind rules fill super records c past t r log is told ts [] [] h = tt
tell_behind rules fill super records c past t r log is told ts [] (row ∷ rows) h = absurd h
tell_behind rules fill super records c past t r log is told ts (o ∷ os) [] h = absurd h
tell_behind rules fill super records c past t r log is told ts (o ∷ os) (row ∷ rows) h = (
  λ held e. (let was = is.keys o.key in
      let same : was.held ≡ held = two_oks (content_at fill super (records ++ Commit t r ∷ []) o.key) was.held held (commit_key fill super records t r o.key was.held log told was.is) e in
      subst (λ (k : Held). TellsOne fill super k ts o row.targets) same (h.0 was.held was.is)),
  tell_behind rules fill super records c past t r log is told ts os rows h.1,
)

pub names_begin : names_stay_true_at_a_begin
names_begin rules fill super records c past ts ops [] log is below known = tt
names_begin rules fill super records c past ts ops (n ∷ named) log is below known = (tell_after rules fill super records c past ts ops log is n.ts n.ops n.rows below.0 known.0, names_begin rules fill super records c past ts ops named log is below.1 known.1)

pub names_end : names_stay_true_at_an_end
names_end rules fill super records c past ts rows [] log is told known = tt
names_end rules fill super records c past ts rows (n ∷ named) log is told known = (tell_behind rules fill super records c past ts rows log is told n.ts n.ops n.rows known.0, names_end rules fill super records c past ts rows named log is told known.1)

pub name_more : a_name_more_is_true
name_more fill super records ts [] [] op row h tells = (tells, tt)
name_more fill super records ts [] (r ∷ rows) op row h tells = absurd h
name_more fill super records ts (o ∷ os) [] op row h tells = absurd h
name_more fill super records ts (o ∷ os) (r ∷ rows) op row h tells = (h.0, name_more fill super records ts os rows op row h.1 tells)

pub names_told : true_names_are_told
names_told fill super records n named known stands = record { ops = n.ops; stands = stands; tells = known.0 }

-- what is told, in the content of all records

tell_on : (fill : Row) (super : Super) (base run : List Entry) (c low : ℕ) (past : Past) (ts : ℕ) (os : List RowOp) (rows : List CommitRow) → IsLog (base ++ run) → IsContent no_rules fill super base c past → IsPastUpTo low past → AllTold fill super low base run → AllAbove ts run
    → RowsTell fill super base ts os rows → RowsTell fill super (base ++ run) ts os rows
tell_on fill super base [] c low past ts os rows log is ends told above h = subst (λ (l : List Entry). RowsTell fill super l ts os rows) (sym (append-nil base)) h
tell_on fill super base (Replicate t ops ∷ run) c low past ts os rows log is ends told above h =
    let log' : IsLog ((base ++ Replicate t ops ∷ []) ++ run) = subst (λ (l : List Entry). IsLog l) (regroup base (Replicate t ops) run) log in
    let front = order_front [] (base ++ Replicate t ops ∷ []) run log' in
    let next = replicate_more no_rules fill super base c low past t ops front is ends told.0 told.1 told.2 (ops_pass_none fill ops) in
    subst (λ (l : List Entry). RowsTell fill super l ts os rows) (sym (regroup base (Replicate t ops) run))
    (tell_on fill super (base ++ Replicate t ops ∷ []) run (max super.c t) t (with_ops fill past t ops) ts os rows log' next.0 next.1 told.3 above.1
    (tell_after no_rules fill super base c past t ops front is ts os rows (let up = above.0 in omega arith) h))
tell_on fill super base (Commit t r ∷ run) c low past ts os rows log is ends told above h =
    let log' : IsLog ((base ++ Commit t r ∷ []) ++ run) = subst (λ (l : List Entry). IsLog l) (regroup base (Commit t r) run) log in
    let front = order_front [] (base ++ Commit t r ∷ []) run log' in
    subst (λ (l : List Entry). RowsTell fill super l ts os rows) (sym (regroup base (Commit t r) run))
    (tell_on fill super (base ++ Commit t r ∷ []) run c low past ts os rows log' (commit_more no_rules fill super base c past t r front is told.0) ends told.1 above (tell_behind no_rules fill super base c past t r front is told.0 ts os rows h))

told_no_rules : (fill : Row) (super : Super) (base run : List Entry) (c low : ℕ) (past : Past) → IsLog (base ++ run) → IsContent no_rules fill super base c past → IsPastUpTo low past → AllTold fill super low base run → AllTrue fill super (base ++ run) low base run
told_no_rules fill super base [] c low past log is ends told = tt
told_no_rules fill super base (Replicate t ops ∷ run) c low past log is ends told =
    let log' : IsLog ((base ++ Replicate t ops ∷ []) ++ run) = subst (λ (l : List Entry). IsLog l) (regroup base (Replicate t ops) run) log in
    let next = replicate_more no_rules fill super base c low past t ops (order_front [] (base ++ Replicate t ops ∷ []) run log') is ends told.0 told.1 told.2 (ops_pass_none fill ops) in (
      told.0,
      told.1,
      told.2,
      subst (λ (l : List Entry). AllTrue fill super l t (base ++ Replicate t ops ∷ []) run) (sym (regroup base (Replicate t ops) run))
          (told_no_rules fill super (base ++ Replicate t ops ∷ []) run (max super.c t) t (with_ops fill past t ops) log' next.0 next.1 told.3),
    )
told_no_rules fill super base (Commit t r ∷ run) c low past log is ends told =
    let log' : IsLog ((base ++ Commit t r ∷ []) ++ run) = subst (λ (l : List Entry). IsLog l) (regroup base (Commit t r) run) log in
    let front = order_front [] (base ++ Commit t r ∷ []) run log' in
    let at = stands_at t told.0.ops base told.0.stands in
    let above : AllAbove t (Commit t r ∷ run) =
    behind_above t at.1 (Commit t r ∷ run) (above_behind [] at.0 t told.0.ops (at.1 ++ Commit t r ∷ run)
    (subst (λ (l : List Entry). IsLog l) (ap (λ (l : List Entry). l ++ Commit t r ∷ run) at.2 ∙ append_assoc at.0 (Replicate t told.0.ops ∷ at.1) (Commit t r ∷ run)) log)) in (
      record { ops = told.0.ops; stands = told.0.stands; tells = tell_on fill super base (Commit t r ∷ run) c low past t told.0.ops r log is ends told above told.0.tells },
      subst (λ (l : List Entry). AllTrue fill super l low (base ++ Commit t r ∷ []) run) (sym (regroup base (Commit t r) run))
          (told_no_rules fill super (base ++ Commit t r ∷ []) run c low past log' (commit_more no_rules fill super base c past t r front is told.0) ends told.1),
    )

-- which the rules of the table have no part in
pub told_is_true : what_is_told_is_true
told_is_true rules fill super base run c low past log is ends told = told_no_rules fill super base run c low past log (without_rules rules fill super base c past is) ends told

-- numbers

above_durable : (p : Place) (n : ℕ) (o : Option ℕ) → ((last : ℕ) → o ≡ Some last → last < n) → newer p n o ≡ if_there p o
above_durable p n None up = refl
above_durable p n (Some last) up = ap (λ b. cond b (Some p) None) (lt-ltb last n (up last refl))

delta_above : (rowsets : List DiskRowset) (deltas : List (ℕ × ℕ)) (r n : ℕ) → DeltasAbove rowsets deltas → Has (r, n) deltas → (last : ℕ) → last_dms_of r rowsets ≡ Some last → last < n
delta_above rowsets [] r n d h last e = absurd h
delta_above rowsets (x ∷ deltas) r n d (inl same) last e = subst (λ (y : ℕ × ℕ). last < y.1) (sym same) (d.0 last (ap (λ (y : ℕ × ℕ). last_dms_of y.0 rowsets) (sym same) ∙ e))
delta_above rowsets (x ∷ deltas) r n d (inr rest) last e = delta_above rowsets deltas r n d.1 rest last e

pub none_named : (numbers : Numbers) (rowsets : List DiskRowset) (r : ℕ) → RowsetsBelow numbers rowsets → numbers.next ≤ r → last_dms_of r rowsets ≡ None
none_named numbers [] r b le = refl
none_named numbers (d ∷ rowsets) r b le = let ne : (d.rowset == r) ≡ false = grind (arith, nat_tests, b.0) in rw ne (none_named numbers rowsets r b.1 le)

pub fresh_number : a_fresh_number_is_needed_where_it_stands
fresh_number super records names numbers f = (
  refl,
  ap (λ b. cond b (Some memory) None) (lt-ltb super.last_mem numbers.active f.mem),
  λ r n has. above_durable (disk r) n (last_dms_of r super.rowsets) (delta_above super.rowsets numbers.deltas r n f.deltas has),
  λ r le. ap (if_there (disk r)) (none_named numbers super.rowsets r f.rowsets le),
)
