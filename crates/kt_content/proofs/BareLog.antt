-- The replay of a log alone, as each key sees it: its content under the superblock of a fresh tablet.
use Rattle.std.proofs.Common.{◌≡◌, ◌<◌, ◌-◌, ℕ, max, List, [], ◌∷◌, ◌++◌, Some, None, Option, Ok, Err, Result, Bool, true, false, cond, ◌||◌, refl, sym, ap, ◌∙◌, subst, arith}
use Rattle.std.specs.Prelude.{is_some, nat_lt}
use Rattle.std.specs.List.{list_any, list_all}
use Rattle.std.specs.Ordering.{eq_by_cmp}
use Rattle.std.specs.FinMap.Entries.{find}
use Rattle.std.proofs.lemmas.Bool.Decides.{nat_tests}
use Rattle.kt_history.specs.declared.change.Change.{Change}
use Rattle.kt_history.specs.declared.operation.RowOp.{RowOp}
use Rattle.kt_history.specs.declared.target.Target.{Target}
use Rattle.kt_history.specs.declared.target.Target.TheVariants.{Mem, Delta}
use Rattle.kt_history.specs.Rows.{Row, key_cmp}
use Rattle.kt_history.specs.History.{Past, IsPastUpTo, rows_at}
use Rattle.kt_history.specs.Operations.{DifferentKeys, effect, effect_on, changes_on}
use Rattle.kt_records.specs.declared.entry.Entry.{Entry}
use Rattle.kt_records.specs.declared.entry.Entry.TheVariants.{Replicate, Commit}
use Rattle.kt_records.specs.declared.entry.CommitRow.{CommitRow}
use Rattle.kt_journal.specs.Order.{InOrder, last_ts, is_above}
use Rattle.kt_histlaws.specs.Histories.{past_hist, timeline}
use Rattle.kt_history.specs.Stores.{Hist}
use Rattle.kt_histlaws.specs.Pending.{has_key}
use Rattle.kt_histlaws.specs.Flights.{AllOps}
use Rattle.kt_histlaws.proofs.Applying.{row-past}
use Rattle.kt_histlaws.proofs.Pending.{same_key, timeline-up_to, itself}
use Rattle.kt_loglaws.specs.Replay.{is_in_memory, is_needed, needed_ops, replayed, is_fitting, replay, last_of, commit_of}
use Rattle.kt_loglaws.specs.Laws.{with_ops}
use Rattle.kt_content.specs.Places.{memory, fresh, Held, Moves, moved, and_place, needed_in, or_live, row_before, standing}
use Rattle.kt_content.specs.KeyOps.{KeyOp, op_on, seen, may_join, with_move, to_each, to_place, to_live, if_fits, played}
use Rattle.kt_content.specs.Content.{Shown, UntoldLiveOnce, AboveFiles, changed_in}
use Rattle.kt_content.specs.MoreOps.{untold, told, with_change, with_op}
use Rattle.kt_content.specs.Opening.{AreWrites}
use Rattle.kt_content.proofs.MoreOps.{operation_more, before_is}
use Rattle.kt_content.proofs.Records.{KeyOf, key_of, up_to_under, none_grown, op_grown, each_grown, ends_grown, ends_later, mark_stays}
use Rattle.kt_content.proofs.AboveFiles.{all_above}
use Rattle.kt_content.proofs.Options.{one_alone, two_oks, is_there}
use Rattle.std.proofs.lemmas.Bool.{and_parts, and_from, or_parts, or_from}

-- a key that is in the one MemRowSet alone
abbrev pub alone_in : Hist → Held
alone_in h = (memory, h) ∷ []

moved_one : (ts : ℕ) (o : Option Change) (h : Hist) → moved ts (to_place memory o) (alone_in h) ≡ alone_in (with_change ts o h)
moved_one ts None h = refl
moved_one ts (Some c) h = refl

live_one : (fill : Row) (op : RowOp) (r : Option Row) → to_live fill op (or_live memory r None) ≡ to_place memory (effect fill op.kind op.cells r).0
live_one fill op None = refl
live_one fill op (Some row) = refl

-- of the names of a COMMIT those of MemRowSets make the one MemRowSet needed
needed_fresh : (targets : List Target) → needed_in fresh targets ≡ cond (list_any is_in_memory targets) (memory ∷ []) []
needed_fresh [] = refl
needed_fresh (Delta r n ∷ targets) = needed_fresh targets
needed_fresh (Mem n ∷ targets) = elim (nat_lt 0 n) as (λ b. and_place (cond b (Some memory) None) (needed_in fresh targets) ≡ cond (b || list_any is_in_memory targets) (memory ∷ []) []) [
  | true ↦ ap (and_place (Some memory)) (needed_fresh targets) ∙ once (list_any is_in_memory targets)
  | false ↦ needed_fresh targets
]
  where
    once : (b : Bool) → and_place (Some memory) (cond b (memory ∷ []) []) ≡ memory ∷ []
    once true = refl
    once false = refl

module _ (fill : Row) (ts : ℕ) (op : RowOp) (h : Hist) (xs : List KeyOp) where
  abbrev goes_on : Moves → Result Held ℕ
  goes_on = λ moves. played fill fresh (moved ts moves (alone_in h)) xs

  pub untold_plays : played fill fresh (alone_in h) (untold ts op ∷ xs) ≡ played fill fresh (alone_in (with_op fill ts op h)) xs
  untold_plays = ap goes_on (live_one fill op (row_before ts h)) ∙ ap (λ l. played fill fresh l xs) (moved_one ts (effect fill op.kind op.cells (row_before ts h)).0 h)

  pub needed_plays : (targets : List Target) (c : Change) → list_any is_in_memory targets ≡ true → (effect fill op.kind op.cells (row_before ts h)).0 ≡ Some c
      → played fill fresh (alone_in h) (told ts op targets ∷ xs) ≡ played fill fresh (alone_in (with_op fill ts op h)) xs
  needed_plays targets c need made =
      ap (λ p. if_fits ts goes_on (to_each fill op (standing ts (alone_in h)) p)) (needed_fresh targets ∙ ap (λ b. cond b (memory ∷ []) []) need)
      ∙ ap (λ o. if_fits ts goes_on (with_move memory (may_join memory o) (Some []))) made
      ∙ ap (λ o. played fill fresh (alone_in (with_change ts o h)) xs) (sym made)

  pub covered_plays : (targets : List Target) → list_any is_in_memory targets ≡ false → played fill fresh (alone_in h) (told ts op targets ∷ xs) ≡ played fill fresh (alone_in h) xs
  covered_plays targets none = ap (λ p. if_fits ts goes_on (to_each fill op (standing ts (alone_in h)) p)) (needed_fresh targets ∙ ap (λ b. cond b (memory ∷ []) []) none)

-- the operations that a COMMIT still needs are on different keys

lacks_needed : (q : List ℕ) (ops : List RowOp) (rows : List CommitRow) → has_key q ops ≡ false → has_key q (needed_ops ops rows) ≡ false
lacks_needed q [] rows l = refl
lacks_needed q (op ∷ ops) [] l = refl
lacks_needed q (op ∷ ops) (row ∷ rows) l = elim (is_needed row) as (λ b. has_key q (cond b (op ∷ needed_ops ops rows) (needed_ops ops rows)) ≡ false) [
  | true ↦ or_from _ _ (or_parts _ _ l).0 (lacks_needed q ops rows (or_parts _ _ l).1)
  | false ↦ lacks_needed q ops rows (or_parts (eq_by_cmp key_cmp q op.key) _ l).1
]

needed_differ : (ops : List RowOp) (rows : List CommitRow) → DifferentKeys ops → DifferentKeys (needed_ops ops rows)
needed_differ [] rows d = tt
needed_differ (op ∷ ops) [] d = tt
needed_differ (op ∷ ops) (row ∷ rows) d = elim (is_needed row) as (λ b. DifferentKeys (cond b (op ∷ needed_ops ops rows) (needed_ops ops rows))) [
  | true ↦ (lacks_needed op.key ops rows d.0, needed_differ ops rows d.1)
  | false ↦ needed_differ ops rows d.1
]

pub replayed_differ : (ops : List RowOp) (o : Option (List CommitRow)) → DifferentKeys ops → DifferentKeys (replayed ops o)
replayed_differ ops None d = d
replayed_differ ops (Some rows) d = needed_differ ops rows d

-- what a COMMIT says of a key
pub data Part (q : List ℕ) (ts : ℕ) (ops : List RowOp) (rows : List CommitRow) : Type 1 where
  nothing : op_on q ts ops (Some rows) ≡ [] → has_key q (needed_ops ops rows) ≡ false → Part q ts ops rows
  covered : (op : RowOp) (targets : List Target) → op_on q ts ops (Some rows) ≡ told ts op targets ∷ [] → list_any is_in_memory targets ≡ false → has_key q (needed_ops ops rows) ≡ false → Part q ts ops rows
  needed : (op : RowOp) (targets : List Target) → op.key ≡ q → op_on q ts ops (Some rows) ≡ told ts op targets ∷ [] → list_any is_in_memory targets ≡ true
      → ((P : RowOp → Type 0) → AllOps P (needed_ops ops rows) → P op) → Part q ts ops rows

lacks_more : (q : List ℕ) (op : RowOp) (ops : List RowOp) (b : Bool) → eq_by_cmp key_cmp q op.key ≡ false → has_key q ops ≡ false → has_key q (cond b (op ∷ ops) ops) ≡ false
lacks_more q op ops true e l = rw (e, l) refl
lacks_more q op ops false e l = l

every_more : (op : RowOp) (ops : List RowOp) (b : Bool) (P : RowOp → Type 0) → AllOps P (cond b (op ∷ ops) ops) → AllOps P ops
every_more op ops true P all = all.1
every_more op ops false P all = all

pub part : (q : List ℕ) (ts : ℕ) (ops : List RowOp) (rows : List CommitRow) → DifferentKeys ops → Part q ts ops rows
part q ts [] rows d = Part.nothing refl refl
part q ts (op ∷ ops) [] d = Part.nothing refl refl
part q ts (op ∷ ops) (row ∷ rows) d = elim (eq_by_cmp key_cmp q op.key) as (λ b. eq_by_cmp key_cmp q op.key ≡ b → Part q ts (op ∷ ops) (row ∷ rows)) [
  | true ↦ λ e. here e (sym (same_key q op.key e)) (is_needed row) refl
  | false ↦ λ e. elim (part q ts ops rows d.1) [
    | Part.nothing none lacks ↦ Part.nothing (rw e none) (lacks_more q op (needed_ops ops rows) (is_needed row) e lacks)
    | Part.covered o targets is no_need lacks ↦ Part.covered o targets (rw e is) no_need (lacks_more q op (needed_ops ops rows) (is_needed row) e lacks)
    | Part.needed o targets key is need every ↦ Part.needed o targets key (rw e is) need (λ P all. every P (every_more op (needed_ops ops rows) (is_needed row) P all))
  ]
] refl
  where
    here : eq_by_cmp key_cmp q op.key ≡ true → op.key ≡ q → (b : Bool) → is_needed row ≡ b → Part q ts (op ∷ ops) (row ∷ rows)
    here e key true n = Part.needed op row.targets key (rw e refl) n (λ P all. (subst (λ b. AllOps P (cond b (op ∷ needed_ops ops rows) (needed_ops ops rows))) n all).0)
    here e key false n = Part.covered op row.targets (rw e refl) n (subst (λ b. has_key q (cond b (op ∷ needed_ops ops rows) (needed_ops ops rows)) ≡ false) (sym n)
        (subst (λ (k : List ℕ). has_key k (needed_ops ops rows) ≡ false) key (lacks_needed op.key ops rows d.0)))

-- each of them fits

pub each_is : (f : RowOp → Bool) (ops : List RowOp) → list_all f ops ≡ true → AllOps (λ op. f op ≡ true) ops
each_is f [] h = tt
each_is f (op ∷ ops) h = ((and_parts (f op) (list_all f ops) h).0, each_is f ops (and_parts (f op) (list_all f ops) h).1)

-- one write, as a key sees it
module _ (fill : Row) (past : Past) (low ts : ℕ) (ops : List RowOp) (ends : IsPastUpTo low past) (lt : low < ts) (q : List ℕ) (shown : Shown 0 (alone_in (past_hist q past)) (past_hist q past)) where
  abbrev Goes : List KeyOp → List KeyOp → Past → Type 0
  Goes front xs next = (played fill fresh (alone_in (past_hist q past)) (front ++ xs) ≡ played fill fresh (alone_in (past_hist q next)) xs) × Shown 0 (alone_in (past_hist q next)) (past_hist q next)

  kept_goes : (front xs : List KeyOp) (next : Past) → past_hist q next ≡ past_hist q past → played fill fresh (alone_in (past_hist q past)) (front ++ xs) ≡ played fill fresh (alone_in (past_hist q past)) xs → Goes front xs next
  kept_goes front xs next same is = (is ∙ ap (λ g. played fill fresh (alone_in g) xs) (sym same), subst (λ (g : Hist). Shown 0 (alone_in g) g) (sym same) shown)

  with_goes : (front xs : List KeyOp) (next : Past) (op : RowOp) → past_hist q next ≡ with_op fill ts op (past_hist q past)
      → played fill fresh (alone_in (past_hist q past)) (front ++ xs) ≡ played fill fresh (alone_in (with_op fill ts op (past_hist q past))) xs → Goes front xs next
  with_goes front xs next op same is =
      let h = past_hist q past in
      let more = operation_more fill fresh 0 ts (alone_in h) (alone_in h) h [] op (tt, tt) refl refl shown (up_to_under low ts (timeline q past.writes) (timeline-up_to q low past.writes ends.writes) lt) (omega arith) in
      let made : more.0 ≡ alone_in (with_op fill ts op h) = two_oks (played fill fresh (alone_in h) (untold ts op ∷ [])) more.0 (alone_in (with_op fill ts op h)) more.1 (untold_plays fill ts op h []) in
      let now : Shown 0 (alone_in (with_op fill ts op h)) (with_op fill ts op h) = subst (λ (l : Held). Shown 0 l (with_op fill ts op h)) made more.2 in
      (is ∙ ap (λ g. played fill fresh (alone_in g) xs) (sym same), subst (λ (g : Hist). Shown 0 (alone_in g) g) (sym same) now)

  row_then : row_before ts (past_hist q past) ≡ find key_cmp q (rows_at past (ts - 1))
  row_then = before_is ts (past_hist q past) (omega arith) ∙ row-past (ts - 1) q past ends.is

  grown_op : (os : List RowOp) (op : RowOp) → DifferentKeys os → op.key ≡ q → ((P : RowOp → Type 0) → AllOps P os → P op) → past_hist q (with_ops fill past ts os) ≡ with_op fill ts op (past_hist q past)
  grown_op os op d key every = subst (λ (k : List ℕ). past_hist k (with_ops fill past ts os) ≡ with_op fill ts op (past_hist k past)) key
      (op_grown fill past low ts os ends lt d op (every (λ o. find key_cmp o.key (changes_on fill (rows_at past (ts - 1)) os) ≡ (effect_on fill (rows_at past (ts - 1)) o).0) (each_grown fill past low ts os ends lt d)))

  told_goes : (rows : List CommitRow) (xs : List KeyOp) → DifferentKeys (needed_ops ops rows) → is_fitting fill (rows_at past (ts - 1)) ops (Some rows) ≡ true → Part q ts ops rows
      → Goes (op_on q ts ops (Some rows)) xs (with_ops fill past ts (needed_ops ops rows))
  told_goes rows xs d fit (Part.nothing is lacks) =
      kept_goes (op_on q ts ops (Some rows)) xs (with_ops fill past ts (needed_ops ops rows)) (none_grown fill past low ts (needed_ops ops rows) ends lt d q lacks) (ap (λ l. played fill fresh (alone_in (past_hist q past)) (l ++ xs)) is)
  told_goes rows xs d fit (Part.covered op targets is none lacks) =
      kept_goes (op_on q ts ops (Some rows)) xs (with_ops fill past ts (needed_ops ops rows)) (none_grown fill past low ts (needed_ops ops rows) ends lt d q lacks)
      (ap (λ l. played fill fresh (alone_in (past_hist q past)) (l ++ xs)) is ∙ covered_plays fill ts op (past_hist q past) xs targets none)
  told_goes rows xs d fit (Part.needed op targets key is need every) =
      let changes : is_some (effect_on fill (rows_at past (ts - 1)) op).0 ≡ true =
      every (λ o. is_some (effect_on fill (rows_at past (ts - 1)) o).0 ≡ true) (each_is (λ o. is_some (effect_on fill (rows_at past (ts - 1)) o).0) (needed_ops ops rows) fit) in
      let c = is_there (effect_on fill (rows_at past (ts - 1)) op).0 changes in
      let row : row_before ts (past_hist q past) ≡ find key_cmp op.key (rows_at past (ts - 1)) = row_then ∙ ap (λ (k : List ℕ). find key_cmp k (rows_at past (ts - 1))) (sym key) in
      with_goes (op_on q ts ops (Some rows)) xs (with_ops fill past ts (needed_ops ops rows)) op (grown_op (needed_ops ops rows) op d key every)
      (ap (λ l. played fill fresh (alone_in (past_hist q past)) (l ++ xs)) is
      ∙ needed_plays fill ts op (past_hist q past) xs targets c.0 need (ap (λ r. (effect fill op.kind op.cells r).0) row ∙ c.1))

  untold_goes : (xs : List KeyOp) → DifferentKeys ops → KeyOf q ts ops → Goes (op_on q ts ops None) xs (with_ops fill past ts ops)
  untold_goes xs d (KeyOf.not_there lacks is) =
      kept_goes (op_on q ts ops None) xs (with_ops fill past ts ops) (none_grown fill past low ts ops ends lt d q lacks) (ap (λ l. played fill fresh (alone_in (past_hist q past)) (l ++ xs)) is)
  untold_goes xs d (KeyOf.there op key is every) =
      with_goes (op_on q ts ops None) xs (with_ops fill past ts ops) op (grown_op ops op d key every)
      (ap (λ l. played fill fresh (alone_in (past_hist q past)) (l ++ xs)) is ∙ untold_plays fill ts op (past_hist q past) xs)

  pub write_goes : (o : Option (List CommitRow)) (xs : List KeyOp) → DifferentKeys ops → is_fitting fill (rows_at past (ts - 1)) ops o ≡ true → Goes (op_on q ts ops o) xs (with_ops fill past ts (replayed ops o))
  write_goes None xs d fit = untold_goes xs d (key_of q ts ops)
  write_goes (Some rows) xs d fit = told_goes rows xs (needed_differ ops rows d) fit (part q ts ops rows d)

-- the writes of a log rise

abbrev pub RiseFrom : ℕ → List Entry → Type 0
RiseFrom low [] = Unit {0}
RiseFrom low (Replicate ts ops ∷ records) = (low < ts) × RiseFrom ts records
RiseFrom low (Commit ts rows ∷ records) = RiseFrom low records

pub log_rises : (low : ℕ) (before records : List Entry) → last_ts before ≡ Some low → InOrder before records → RiseFrom low records
log_rises low before [] is h = tt
log_rises low before (Replicate ts ops ∷ records) is h =
    let above : is_above (Some low) ts ≡ true = ap (λ o. is_above o ts) (sym is) ∙ h.1 in
    let lt : nat_lt low ts ≡ true = above in (grind (arith, nat_tests), log_rises ts (Replicate ts ops ∷ before) records refl h.2)
log_rises low before (Commit ts rows ∷ records) is h = log_rises low (Commit ts rows ∷ before) records is h.2

-- a whole log

pub record Replayed (fill : Row) (all : List Entry) (past final : Past) (low : ℕ) (records : List Entry) : Type 0 where
  pub ends : IsPastUpTo (max low (last_of records)) final
  pub mark : final.mark ≡ past.mark
  pub keys : (q : List ℕ) → (played fill fresh (alone_in (past_hist q past)) (seen q all records) ≡ Ok (alone_in (past_hist q final))) × Shown 0 (alone_in (past_hist q final)) (past_hist q final)

pub replays : (fill : Row) (all : List Entry) (past final : Past) (low : ℕ) (records : List Entry) → AreWrites all records → RiseFrom low records → IsPastUpTo low past
    → ((q : List ℕ) → Shown 0 (alone_in (past_hist q past)) (past_hist q past)) → replay fill all past records ≡ Ok final → Replayed fill all past final low records
replays fill all past final low [] w r ends shown h =
    let same : past ≡ final = cc in
    subst (λ (p : Past). Replayed fill all past p low []) same (record { ends = ends_later low (max low 0) past (omega arith) ends; mark = refl; keys = λ q. (refl, shown q) })
replays fill all past final low (Commit ts rows ∷ records) w r ends shown h =
    let rest = replays fill all past final low records w r ends shown h in
    record { ends = rest.ends; mark = rest.mark; keys = rest.keys }
replays fill all past final low (Replicate ts ops ∷ records) w r ends shown h =
    let o = commit_of ts all in
    let next = with_ops fill past ts (replayed ops o) in
    elim (is_fitting fill (rows_at past (ts - 1)) ops o) as (λ b. is_fitting fill (rows_at past (ts - 1)) ops o ≡ b → cond b (replay fill all next records) (Err ts) ≡ Ok final → Replayed fill all past final low (Replicate ts ops ∷ records)) [
      | true ↦ λ fit h.
          let goes : (q : List ℕ) → (played fill fresh (alone_in (past_hist q past)) (op_on q ts ops o ++ seen q all records) ≡ played fill fresh (alone_in (past_hist q next)) (seen q all records)) × Shown 0 (alone_in (past_hist q next)) (past_hist q next) =
          λ q. write_goes fill past low ts ops ends r.0 q (shown q) o (seen q all records) w.0 fit in
          let rest = replays fill all next final ts records w.2 r.1 (ends_grown fill past low ts (replayed ops o) ends r.0 (replayed_differ ops o w.0)) (λ q. (goes q).1) h in
          record {
            ends = ends_later (max ts (last_of records)) (max low (max ts (last_of records))) final (omega arith) rest.ends;
            mark = rest.mark ∙ mark_stays fill past ts (replayed ops o);
            keys = λ q. ((goes q).0 ∙ (rest.keys q).0, (rest.keys q).1);
          }
      | false ↦ λ fit h. absurd (cc)
    ] refl h

pub once_alone : (h : Hist) (xs : List KeyOp) → UntoldLiveOnce (alone_in h) xs
once_alone h [] = tt
once_alone h (x ∷ xs) = (λ none. one_alone (row_before x.ts h), once_alone h xs)

pub above_none : (fill : Row) (q : List ℕ) (held : Held) (xs : List KeyOp) → AboveFiles fill q fresh held xs
above_none fill q held [] = tt
above_none fill q held (x ∷ xs) = (all_above q fresh x.ts (λ r. tt) (changed_in fill fresh (standing x.ts held) x.op x.told), above_none fill q held xs)

-- and back: what fits each key fits the write

module _ (fill : Row) (past : Past) (ts : ℕ) (row_then : (q : List ℕ) → row_before ts (past_hist q past) ≡ find key_cmp q (rows_at past (ts - 1))) (more : List ℕ → List KeyOp) where
  abbrev Fits : List RowOp → List CommitRow → Type 0
  Fits ops rows = (q : List ℕ) → has_key q ops ≡ true → (held : Held) × (played fill fresh (alone_in (past_hist q past)) (op_on q ts ops (Some rows) ++ more q) ≡ Ok held)

  -- an operation that is needed changes its row
  changes_row : (op : RowOp) (targets : List Target) (held : Held) → list_any is_in_memory targets ≡ true
      → played fill fresh (alone_in (past_hist op.key past)) (told ts op targets ∷ more op.key) ≡ Ok held → is_some (effect_on fill (rows_at past (ts - 1)) op).0 ≡ true
  changes_row op targets held need is =
      let h = past_hist op.key past in
      let row : row_before ts h ≡ find key_cmp op.key (rows_at past (ts - 1)) = row_then op.key in
      let goes : Moves → Result Held ℕ = λ moves. played fill fresh (moved ts moves (alone_in h)) (more op.key) in
      let made : if_fits ts goes (with_move memory (may_join memory (effect fill op.kind op.cells (row_before ts h)).0) (Some [])) ≡ Ok held =
      ap (λ p. if_fits ts goes (to_each fill op (standing ts (alone_in h)) p)) (sym (needed_fresh targets ∙ ap (λ b. cond b (memory ∷ []) []) need)) ∙ is in
      subst (λ r. is_some (effect fill op.kind op.cells r).0 ≡ true) row (some_change goes (effect fill op.kind op.cells (row_before ts h)).0 made)
    where
      some_change : (goes : Moves → Result Held ℕ) (o : Option Change) → if_fits ts goes (with_move memory (may_join memory o) (Some [])) ≡ Ok held → is_some o ≡ true
      some_change goes None e = absurd (cc)
      some_change goes (Some c) e = refl

  all_fit : (ops : List RowOp) (rows : List CommitRow) → DifferentKeys ops → Fits ops rows → list_all (λ op. is_some (effect_on fill (rows_at past (ts - 1)) op).0) (needed_ops ops rows) ≡ true
  all_fit [] rows d f = refl
  all_fit (op ∷ ops) [] d f = refl
  all_fit (op ∷ ops) (row ∷ rows) d f = one (is_needed row) refl (all_fit ops rows d.1 later)
    where
      apart : (q : List ℕ) → has_key q ops ≡ true → (b : Bool) → eq_by_cmp key_cmp q op.key ≡ b → b ≡ false
      apart q has true e = absurd (let g : false ≡ true = sym d.0 ∙ subst (λ (k : List ℕ). has_key k ops ≡ true) (same_key q op.key e) has in cc)
      apart q has false e = refl

      later : Fits ops rows
      later q has =
          let other : eq_by_cmp key_cmp q op.key ≡ false = apart q has (eq_by_cmp key_cmp q op.key) refl in
          let h = f q (ap (λ b. b || has_key q ops) other ∙ has) in
          (h.0, ap (λ b. played fill fresh (alone_in (past_hist q past)) (cond b (told ts op row.targets ∷ []) (op_on q ts ops (Some rows)) ++ more q)) (sym other) ∙ h.1)

      here : is_needed row ≡ true → is_some (effect_on fill (rows_at past (ts - 1)) op).0 ≡ true
      here need =
          let h = f op.key (ap (λ b. b || has_key op.key ops) (itself op.key)) in
          changes_row op row.targets h.0 need
          (ap (λ b. played fill fresh (alone_in (past_hist op.key past)) (cond b (told ts op row.targets ∷ []) (op_on op.key ts ops (Some rows)) ++ more op.key)) (sym (itself op.key)) ∙ h.1)

      one : (b : Bool) → is_needed row ≡ b → list_all (λ op. is_some (effect_on fill (rows_at past (ts - 1)) op).0) (needed_ops ops rows) ≡ true
          → list_all (λ op. is_some (effect_on fill (rows_at past (ts - 1)) op).0) (cond (is_needed row) (op ∷ needed_ops ops rows) (needed_ops ops rows)) ≡ true
      one true need rest = subst (λ b. list_all (λ op. is_some (effect_on fill (rows_at past (ts - 1)) op).0) (cond b (op ∷ needed_ops ops rows) (needed_ops ops rows)) ≡ true) (sym need)
          (and_from _ _ (here need) rest)
      one false need rest = subst (λ b. list_all (λ op. is_some (effect_on fill (rows_at past (ts - 1)) op).0) (cond b (op ∷ needed_ops ops rows) (needed_ops ops rows)) ≡ true) (sym need) rest

  pub write_fits : (ops : List RowOp) (o : Option (List CommitRow)) → DifferentKeys ops
      → ((q : List ℕ) → (held : Held) × (played fill fresh (alone_in (past_hist q past)) (op_on q ts ops o ++ more q) ≡ Ok held)) → is_fitting fill (rows_at past (ts - 1)) ops o ≡ true
  write_fits ops None d f = refl
  write_fits ops (Some rows) d f = all_fit ops rows d (λ q has. f q)

pub replay_ends : (fill : Row) (all : List Entry) (past : Past) (low : ℕ) (records : List Entry) → AreWrites all records → RiseFrom low records → IsPastUpTo low past
    → ((q : List ℕ) → Shown 0 (alone_in (past_hist q past)) (past_hist q past))
    → ((q : List ℕ) → (held : Held) × (played fill fresh (alone_in (past_hist q past)) (seen q all records) ≡ Ok held)) → (final : Past) × (replay fill all past records ≡ Ok final)
replay_ends fill all past low [] w r ends shown f = (past, refl)
replay_ends fill all past low (Commit ts rows ∷ records) w r ends shown f = replay_ends fill all past low records w r ends shown f
replay_ends fill all past low (Replicate ts ops ∷ records) w r ends shown f =
    let o = commit_of ts all in
    let next = with_ops fill past ts (replayed ops o) in
    let fit : is_fitting fill (rows_at past (ts - 1)) ops o ≡ true = write_fits fill past ts (λ q. before_is ts (past_hist q past) (omega (arith, r.0)) ∙ row-past (ts - 1) q past ends.is) (λ q. seen q all records) ops o w.0 f in
    let goes : (q : List ℕ) → (played fill fresh (alone_in (past_hist q past)) (op_on q ts ops o ++ seen q all records) ≡ played fill fresh (alone_in (past_hist q next)) (seen q all records))
    × Shown 0 (alone_in (past_hist q next)) (past_hist q next) =
    λ q. write_goes fill past low ts ops ends r.0 q (shown q) o (seen q all records) w.0 fit in
    let rest = replay_ends fill all next ts records w.2 r.1 (ends_grown fill past low ts (replayed ops o) ends r.0 (replayed_differ ops o w.0)) (λ q. (goes q).1) (λ q. ((f q).0, sym (goes q).0 ∙ (f q).1)) in
    (rest.0, ap (λ b. cond b (replay fill all next records) (Err ts)) fit ∙ rest.1)
