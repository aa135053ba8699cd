-- The superblock that a flush publishes.
use Rattle.std.proofs.Common.{◌≡◌, ◌<◌, ℕ, Bool, List, [], ◌∷◌, ◌++◌, map, Some, None, Option, refl, sym, ap, ◌∙◌, subst, arith, cond, true, false, inl, inr}
use Rattle.std.specs.Prelude.{◌==◌, is_some, nat_lt, not}
use Rattle.std.proofs.lemmas.Bool.{lt-ltb, le-ltb, ne_eqb}
use Rattle.std.proofs.lemmas.List.Elements.{filter-append}
use Rattle.std.proofs.lemmas.List.{map-append, append-nil}
use Rattle.kt_history.specs.declared.target.Target.{Target}
use Rattle.kt_history.specs.declared.target.Target.TheVariants.{Mem, Delta}
use Rattle.kt_history.specs.Stores.{Hist, never}
use Rattle.kt_records.specs.declared.entry.Entry.{Entry}
use Rattle.kt_records.specs.declared.entry.Entry.TheVariants.{Replicate, Commit}
use Rattle.kt_records.specs.declared.entry.CommitRow.{CommitRow}
use Rattle.kt_loglaws.specs.Replay.{commit_of}
use Rattle.kt_histlaws.specs.Fitting.{AreSound}
use Rattle.kt_histlaws.specs.Jobs.{AreAlike}
use Rattle.kt_rowfiles.specs.Files.{DiskRowset, hist_in_files}
use Rattle.kt_content.specs.Rules.{Rules, RowsetsPass}
use Rattle.kt_content.specs.Places.{Super, Place, memory, disk, Held, held_in, in_files, at_first}
use Rattle.kt_content.specs.Content.{NumbersDiffer, LacksNumber}
use Rattle.kt_content.specs.InMemory.{group, groups, hist_at}
use Rattle.kt_content.specs.Publishing.{gone}
use Rattle.kt_content.specs.RunEvents.{Numbers, RowsetsBelow, RecordsBelow, RowsBelow, TargetsBelow, IsBelow}
use Rattle.kt_content.specs.Successors.{kept_rowsets, Succeeds}
use Rattle.kt_content.specs.OneVisit.{IsLeftOrDone, AllLeftOrDone, RowsAre, IfTold, CommitsHandOver}
use Rattle.kt_content.specs.Flushes.{below, flushed, AreFrom, EachTold, before, a_flush_publishes_at_rest, a_flush_stands}
use Rattle.kt_content.proofs.OneVisit.{at_rest_stands}

-- ---- numbers

lacks_more : (next r : ℕ) (rowsets outputs : List DiskRowset) → r < next → LacksNumber r rowsets → AreFrom next outputs → LacksNumber r (rowsets ++ outputs)
lacks_more next r [] [] lt l f = tt
lacks_more next r [] (d ∷ outputs) lt l f = (ne_eqb r d.rowset (λ e. let a = f.0 in omega arith), lacks_more next r [] outputs lt tt f.1)
lacks_more next r (d ∷ rowsets) outputs lt l f = (l.0, lacks_more next r rowsets outputs lt l.1 f)

pub differ_both : (next last_mem : ℕ) (rowsets outputs : List DiskRowset) → NumbersDiffer rowsets → NumbersDiffer outputs → RowsetsBelow (before next last_mem) rowsets → AreFrom next outputs → NumbersDiffer (rowsets ++ outputs)
differ_both next last_mem [] outputs d e b f = e
differ_both next last_mem (r ∷ rowsets) outputs d e b f = (lacks_more next r.rowset rowsets outputs b.0 d.0 f, differ_both next last_mem rowsets outputs d.1 e b.1 f)

pub pass_both : (rules : Rules) (rowsets outputs : List DiskRowset) → RowsetsPass rules rowsets → RowsetsPass rules outputs → RowsetsPass rules (rowsets ++ outputs)
pass_both rules [] outputs p q = q
pass_both rules (r ∷ rowsets) outputs p q = (p.0, pass_both rules rowsets outputs p.1 q)

-- ---- which rowsets are left

none_left : (next : ℕ) (outputs : List DiskRowset) → AreFrom next outputs → kept_rowsets (below next) outputs ≡ []
none_left next [] f = refl
none_left next (d ∷ outputs) f = ap (λ b. cond b (d ∷ kept_rowsets (below next) outputs) (kept_rowsets (below next) outputs)) (le-ltb d.rowset next f.0) ∙ none_left next outputs f.1

succeeds : (old : Super) (a c need last_mem next : ℕ) (outputs : List DiskRowset) → AreFrom next outputs → Succeeds (below next) old (flushed old a c need last_mem outputs)
succeeds old a c need last_mem next outputs f = record {
  rowsets = filter-append (λ (d : DiskRowset). below next (disk d.rowset)) old.rowsets outputs ∙ ap (λ l. kept_rowsets (below next) old.rowsets ++ l) (none_left next outputs f) ∙ append-nil (kept_rowsets (below next) old.rowsets);
  mem = λ k. absurd (cc);
}

none_gone : (next last_mem : ℕ) (q : List ℕ) (rowsets : List DiskRowset) → RowsetsBelow (before next last_mem) rowsets → gone (below next) (in_files q rowsets) ≡ []
none_gone next last_mem q [] b = refl
none_gone next last_mem q (d ∷ rowsets) b =
    ap (λ k. cond (not k) ((disk d.rowset, hist_in_files q d) ∷ gone (below next) (in_files q rowsets)) (gone (below next) (in_files q rowsets))) (lt-ltb d.rowset next b.0) ∙ none_gone next last_mem q rowsets b.1

all_gone : (next : ℕ) (q : List ℕ) (outputs : List DiskRowset) → AreFrom next outputs → gone (below next) (in_files q outputs) ≡ in_files q outputs
all_gone next q [] f = refl
all_gone next q (d ∷ outputs) f =
    ap (λ k. cond (not k) ((disk d.rowset, hist_in_files q d) ∷ gone (below next) (in_files q outputs)) (gone (below next) (in_files q outputs))) (le-ltb d.rowset next f.0)
    ∙ ap (λ l. (disk d.rowset, hist_in_files q d) ∷ l) (all_gone next q outputs f.1)

-- what the files of both have of a key, and of the outputs alone
gone_both : (next last_mem : ℕ) (q : List ℕ) (rowsets outputs : List DiskRowset) → RowsetsBelow (before next last_mem) rowsets → AreFrom next outputs
    → gone (below next) (in_files q (rowsets ++ outputs)) ≡ in_files q outputs
gone_both next last_mem q rowsets outputs b f =
    ap (gone (below next)) (map-append (λ (d : DiskRowset). (disk d.rowset, hist_in_files q d)) rowsets outputs)
    ∙ filter-append (λ (h : Place × Hist). not (below next h.0)) (in_files q rowsets) (in_files q outputs)
    ∙ ap (λ l. l ++ gone (below next) (in_files q outputs)) (none_gone next last_mem q rowsets b)
    ∙ all_gone next q outputs f

pub hists_of_files : (q : List ℕ) (outputs : List DiskRowset) → held_in (in_files q outputs) ≡ map (hist_in_files q) outputs
hists_of_files q [] = refl
hists_of_files q (d ∷ outputs) = ap (λ l. hist_in_files q d ∷ l) (hists_of_files q outputs)

-- the history at an output's place
pub at_output : (next last_mem : ℕ) (q : List ℕ) (r : ℕ) (rowsets outputs : List DiskRowset) → nat_lt r next ≡ false → RowsetsBelow (before next last_mem) rowsets
    → hist_at (disk r) (in_files q (rowsets ++ outputs)) ≡ hist_at (disk r) (in_files q outputs)
at_output next last_mem q r [] outputs up b = refl
at_output next last_mem q r (d ∷ rowsets) outputs up b =
    ap (λ k. cond k (hist_in_files q d) (hist_at (disk r) (in_files q (rowsets ++ outputs)))) (ne_eqb r d.rowset (λ e. let f : nat_lt r next ≡ true = lt-ltb r next (subst (λ k. k < next) (sym e) b.0) in let g : true ≡ false = sym f ∙ up in cc))
    ∙ at_output next last_mem q r rowsets outputs up b.1

-- ---- names

module _ (keep : Place → Bool) (new : Super) (numbers : Numbers) (one : (t : Target) → IsBelow numbers t → IsLeftOrDone keep new t) where
  targets_are : (targets : List Target) → TargetsBelow numbers targets → AllLeftOrDone keep new targets
  targets_are [] b = tt
  targets_are (t ∷ targets) b = (one t b.0, targets_are targets b.1)

  rows_are : (rows : List CommitRow) → RowsBelow numbers rows → RowsAre keep new rows
  rows_are [] b = tt
  rows_are (row ∷ rows) b = (targets_are row.targets b.0, rows_are rows b.1)

  commit_is : (ts : ℕ) (all : List Entry) (rows : List CommitRow) → RecordsBelow numbers all → commit_of ts all ≡ Some rows → RowsAre keep new rows
  commit_is ts [] rows b e = absurd (cc)
  commit_is ts (Replicate t ops ∷ all) rows b e = commit_is ts all rows b e
  commit_is ts (Commit t others ∷ all) rows b e = elim (t == ts) as (λ k. cond k (Some others) (commit_of ts all) ≡ Some rows → RowsAre keep new rows) [
    | true ↦ λ e. (let same : others ≡ rows = cc in subst (RowsAre keep new) same (rows_are others b.0))
    | false ↦ λ e. commit_is ts all rows b.1 e
  ] e

  told_is : (ts : ℕ) (all : List Entry) (o : Option (List CommitRow)) → RecordsBelow numbers all → commit_of ts all ≡ o → is_some o ≡ true → IfTold keep new o
  told_is ts all None b e t = absurd (cc)
  told_is ts all (Some rows) b e t = commit_is ts all rows b e

  -- where each name below these numbers goes on, each COMMIT does
  pub hand_over : (all records : List Entry) → RecordsBelow numbers all → EachTold all records → CommitsHandOver keep new all records
  hand_over all [] b t = tt
  hand_over all (Replicate ts ops ∷ records) b t = (told_is ts all (commit_of ts all) b refl t.0, hand_over all records b t.1)
  hand_over all (Commit ts rows ∷ records) b t = hand_over all records b t

-- a flush leaves the rowsets, and needs no MemRowSet from before
flush_leaves : (old : Super) (a c need last_mem next : ℕ) (outputs : List DiskRowset) (t : Target) → IsBelow (before next last_mem) t → IsLeftOrDone (below next) (flushed old a c need last_mem outputs) t
flush_leaves old a c need last_mem next outputs (Mem n) b = inr (refl, ap (λ k. cond k (Some memory) None) (le-ltb last_mem n b))
flush_leaves old a c need last_mem next outputs (Delta r n) b = inl (lt-ltb r next b)

-- ---- the whole

-- a store that has nothing stands beside others
never_first : (j : ℕ) (xs ys : List Hist) → AreAlike j xs ys → AreAlike j xs (never ∷ ys)
never_first j xs ys h = record { rows = h.rows; steps = h.steps; one_row = h.one_row; one_step = h.one_step }

pub publishes : a_flush_publishes_at_rest
publishes rules old a c need last_mem next outputs records stores j f =
    let new : Super = flushed old a c need last_mem outputs in
    let gone_old : (q : List ℕ) → gone (below next) (at_first q old) ≡ (memory, never) ∷ [] = λ q. ap (λ l. (memory, never) ∷ l) (none_gone next last_mem q old.rowsets f.rowsets) in
    let gone_new : (q : List ℕ) → gone (below next) (at_first q new) ≡ (memory, never) ∷ in_files q outputs = λ q. ap (λ l. (memory, never) ∷ l) (gone_both next last_mem q old.rowsets outputs f.rowsets f.outputs_from) in
    let held_new : (q : List ℕ) → held_in (gone (below next) (at_first q new)) ≡ never ∷ map (hist_in_files q) outputs = λ q. ap held_in (gone_new q) ∙ ap (λ l. never ∷ l) (hists_of_files q outputs) in
    record {
      numbers = differ_both next last_mem old.rowsets outputs f.old_differ f.new_differ f.rowsets f.outputs_from;
      files = pass_both rules old.rowsets outputs f.old_pass f.new_pass;
      succeeds = succeeds old a c need last_mem next outputs f.outputs_from;
      names = hand_over (below next) new (before next last_mem) (flush_leaves old a c need last_mem next outputs) records records f.names f.told;
      alike = λ q. subst (λ (l : List Hist). AreAlike j (groups old (stores q) (gone (below next) (at_first q old))) l) (sym (held_new q))
          (subst (λ (l : Held). AreAlike j (groups old (stores q) l) (never ∷ map (hist_in_files q) outputs)) (sym (gone_old q))
          (subst (λ (l : List Hist). AreAlike j l (never ∷ map (hist_in_files q) outputs)) (sym (append-nil (group old memory (stores q)))) (never_first j (group old memory (stores q)) (map (hist_in_files q) outputs) (f.alike q))));
      sound = λ q. subst (λ (l : List Hist). AreSound a l) (sym (held_new q)) (sound_never a (map (hist_in_files q) outputs) (f.sound q));
      outs = λ q p k. at_place q p k;
      others = λ q p k. left_same q p k;
    }
  where
    -- a store without changes is sound
    sound_never : (m : ℕ) (hs : List Hist) → AreSound m hs → AreSound m (never ∷ hs)
    sound_never m hs s = record { fit = λ t up. (tt, s.fit t up); rise = (tt, s.rise) }

    at_place : (q : List ℕ) (p : Place) → below next p ≡ false → AreAlike a (group (flushed old a c need last_mem outputs) p (stores q)) (hist_at p (at_first q (flushed old a c need last_mem outputs)) ∷ [])
    at_place q memory k = f.active q
    at_place q (disk r) k = subst (λ (h : Hist). AreAlike a (group (flushed old a c need last_mem outputs) (disk r) (stores q)) (h ∷ []))
        (sym (at_output next last_mem q r old.rowsets outputs k f.rowsets)) (f.outs q r k)

    left_same : (q : List ℕ) (p : Place) → below next p ≡ true → group (flushed old a c need last_mem outputs) p (stores q) ≡ group old p (stores q)
    left_same q memory k = absurd (cc)
    left_same q (disk r) k = f.others q r k

pub flush_stands : a_flush_stands
flush_stands rules fill old a c need last_mem next outputs durable high j past live log s calm f l up fresh =
    at_rest_stands rules fill (below next) old (flushed old a c need last_mem outputs) durable high j past live log s calm (publishes rules old a c need last_mem next outputs (durable ++ []) live.stores j f) l up fresh
