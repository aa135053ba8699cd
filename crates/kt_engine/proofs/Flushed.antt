-- The superblock of a flush stands over the stores with its outputs.
use Rattle.std.proofs.Common.{◌≡◌, ℕ, ◌<◌, ◌≤◌, ◌+◌, Bool, true, false, List, [], ◌∷◌, ◌++◌, length, map, Option, Some, None, refl, sym, ap, ◌∙◌, subst, arith, append_assoc, cond}
use Rattle.std.specs.Prelude.{◌==◌, is_some}
use Rattle.std.proofs.lemmas.List.{append-nil, map-append, length-map}
use Rattle.kt_history.specs.declared.operation.RowOp.{RowOp}
use Rattle.kt_history.specs.declared.target.Target.{Target}
use Rattle.kt_history.specs.declared.target.Target.TheVariants.{Mem, Delta}
use Rattle.kt_history.specs.Rows.{Row}
use Rattle.kt_history.specs.Stores.{Steps, Store, Hist, hist_in, never}
use Rattle.kt_records.specs.declared.entry.Entry.{Entry}
use Rattle.kt_records.specs.declared.entry.Entry.TheVariants.{Replicate, Commit}
use Rattle.kt_records.specs.declared.entry.CommitRow.{CommitRow}
use Rattle.kt_journal.specs.Log.{IsLog}
use Rattle.kt_loglaws.specs.Replay.{commit_of}
use Rattle.kt_loglaws.specs.Fronts.{with_records, ops_of}
use Rattle.kt_loglaws.proofs.LogOrder.{same}
use Rattle.kt_histlaws.specs.Core.{Core, Stands}
use Rattle.kt_histlaws.specs.Fitting.{AreSound}
use Rattle.kt_histlaws.specs.Histories.{hists}
use Rattle.kt_histlaws.specs.Jobs.{AreAlike}
use Rattle.kt_histlaws.specs.Pending.{Aloft}
use Rattle.kt_rowfiles.specs.Files.{DiskRowset, hist_in_files, row_under, row_with}
use Rattle.kt_diskrowset.specs.Rows.{hist_found}
use Rattle.kt_diskrowset.proofs.Histories.{hist_is}
use Rattle.kt_content.specs.Places.{Super}
use Rattle.kt_content.specs.Rules.{Rules, RowsetsPass}
use Rattle.kt_content.specs.Content.{NumbersDiffer}
use Rattle.kt_content.specs.InMemory.{mem_rows, rowset, Stores, group}
use Rattle.kt_content.specs.RunEvents.{Numbers, RecordsBelow, RowsetsBelow, StoresBelow, NumbersAreFresh}
use Rattle.kt_content.specs.Recovering.{Lends}
use Rattle.kt_content.specs.Recoverable.{SuperStands}
use Rattle.kt_content.specs.Flushes.{flushed, AreFrom, EachTold, before}
use Rattle.kt_content.proofs.StoresCome.{others_keep}
use Rattle.kt_joblaws.specs.ChangesOver.{hists_of, AreFrozen, AreOlder, in_memory, before_flush, after_flush, FlushesOver}
use Rattle.kt_joblaws.proofs.ChangesOver.{changes_over}
use Rattle.kt_engine.specs.Memory.{name_of, by_name, named_writes, resident, AreNamed}
use Rattle.kt_engine.specs.Logged.{LogStands, UntoldFly, KeepsSince, DeltasBelow}
use Rattle.kt_engine.specs.Over.{bare_store, first_name, AreTaken, AreLeft}
use Rattle.kt_engine.proofs.Deltas.{deltas_over}
use Rattle.kt_engine.proofs.Passed.{EachHist, never_passes, both_pass, behind_passes}
use Rattle.kt_engine.proofs.Rising.{records_rise, rowsets_rise, rowsets_both}
use Rattle.kt_engine.proofs.StoreEvents.{base, past_is, stands_now, ends}

-- ---- each write has its COMMIT

has_ops : (front xs : List Entry) (ts : ℕ) (ops : List RowOp) → (os : List RowOp) × (ops_of ts (front ++ Replicate ts ops ∷ xs) ≡ Some os)
has_ops [] xs ts ops = (ops, ap (λ (b : Bool). cond b (Some ops) (ops_of ts xs)) (same ts))
has_ops (Replicate t os ∷ front) xs ts ops = elim (t == ts) as (λ (b : Bool). (found : List RowOp) × (cond b (Some os) (ops_of ts (front ++ Replicate ts ops ∷ xs)) ≡ Some found)) [
  | true ↦ (os, refl)
  | false ↦ has_ops front xs ts ops
]
has_ops (Commit t rows ∷ front) xs ts ops = has_ops front xs ts ops

pub each_told : (all front xs : List Entry) → all ≡ front ++ xs → UntoldFly all [] → EachTold all xs
each_told all front [] e untold = tt
each_told all front (Replicate ts ops ∷ xs) e untold = (is_told (commit_of ts all) refl, each_told all (front ++ Replicate ts ops ∷ []) xs (e ∙ sym (append_assoc front (Replicate ts ops ∷ []) xs)) untold)
  where
    is_told : (o : Option (List CommitRow)) → commit_of ts all ≡ o → is_some (commit_of ts all) ≡ true
    is_told (Some rows) at = ap is_some at
    is_told None at =
        let found = has_ops front xs ts ops in
        absurd (let flies : false ≡ true = untold ts found.0 (ap (ops_of ts) e ∙ found.1) at in cc)
each_told all front (Commit ts rows ∷ xs) e untold = each_told all (front ++ Commit ts rows ∷ []) xs (e ∙ sym (append_assoc front (Commit ts rows ∷ []) xs)) untold

-- ---- stores by their names

pub name_append : (ns ms : List Target) (hs gs : List Hist) → length ns ≡ length hs → by_name (ns ++ ms) (hs ++ gs) ≡ by_name ns hs ++ by_name ms gs
name_append [] ms [] gs e = refl
name_append [] ms (h ∷ hs) gs e = absurd (omega arith)
name_append (t ∷ ns) ms [] gs e = absurd (omega arith)
name_append (t ∷ ns) ms (h ∷ hs) gs e = ap (λ (l : Stores). (name_of t, h) ∷ l) (name_append ns ms hs gs (omega arith))

pub hists_named : (ns : List Target) (hs : List Hist) → length ns ≡ length hs → hists_of (by_name ns hs) ≡ hs
hists_named [] [] e = refl
hists_named [] (h ∷ hs) e = absurd (omega arith)
hists_named (t ∷ ns) [] e = absurd (omega arith)
hists_named (t ∷ ns) (h ∷ hs) e = ap (λ (l : List Hist). h ∷ l) (hists_named ns hs (omega arith))

taken_named : (low last : ℕ) (ns : List Target) (hs : List Hist) → AreTaken low last ns → AreFrozen low last (by_name ns hs)
taken_named low last [] hs t = tt
taken_named low last (Mem n ∷ ns) [] t = tt
taken_named low last (Mem n ∷ ns) (h ∷ hs) t = (t.0, taken_named low last ns hs t.1)
taken_named low last (Delta r n ∷ ns) hs t = absurd t

left_named : (next : ℕ) (ns : List Target) (hs : List Hist) → AreLeft next ns → AreOlder next (by_name ns hs)
left_named next [] hs l = tt
left_named next (Mem n ∷ ns) hs l = absurd l
left_named next (Delta r n ∷ ns) [] l = tt
left_named next (Delta r n ∷ ns) (h ∷ hs) l = (l.0, left_named next ns hs l.1)

-- an output without a change has what its files have
none_found : (d : DiskRowset) (o : Option (ℕ × Row)) → hist_found d (λ (n : ℕ). []) o ≡ row_with d o
none_found d None = refl
none_found d (Some found) = ap (λ (steps : Steps). record (row_with d (Some found)) { steps = steps }) (append-nil (row_with d (Some found)).steps)

pub bare_is : (q : List ℕ) (d : DiskRowset) → hist_in q (bare_store d) ≡ hist_in_files q d
bare_is q d = hist_is d (λ (n : ℕ). []) q ∙ none_found d (row_under q 0 d.base)

pub bare_hists : (q : List ℕ) (outputs : List DiskRowset) → hists q (map bare_store outputs) ≡ map (hist_in_files q) outputs
bare_hists q [] = refl
bare_hists q (d ∷ outputs) = ap (λ (h : Hist). h ∷ hists q (map bare_store outputs)) (bare_is q d) ∙ ap (λ (l : List Hist). hist_in_files q d ∷ l) (bare_hists q outputs)

pub outputs_named : (q : List ℕ) (outputs : List DiskRowset) → by_name (map first_name outputs) (hists q (map bare_store outputs)) ≡ in_memory q outputs
outputs_named q [] = refl
outputs_named q (d ∷ outputs) = ap (λ (h : Hist). (rowset d.rowset, h) ∷ by_name (map first_name outputs) (hists q (map bare_store outputs))) (bare_is q d) ∙ ap (λ (l : Stores). (rowset d.rowset, hist_in_files q d) ∷ l) (outputs_named q outputs)

-- ---- the whole

-- What a flush that publishes knows of the stores, their names and its outputs
pub record FlushKnows (rules : Rules) (core : Core) (super : Super) (names : List Target) (base : List Entry) (last_mem next high active j : ℕ) (outputs : List DiskRowset) : Type 0 where
  pub taken : List Target
  pub others : List Target
  pub taken_stores : List Store
  pub other_stores : List Store
  pub names_are : names ≡ Mem active ∷ taken ++ others
  pub stores_are : core.stores ≡ [] ∷ taken_stores ++ other_stores
  pub long : length taken ≡ length taken_stores
  pub beside : length others ≡ length other_stores
  pub are_taken : AreTaken super.last_mem last_mem taken
  pub are_left : AreLeft next others
  pub later : (super.last_mem < active) × (last_mem < active)
  pub calm : core.aloft ≡ []
  pub rowsets : RowsetsBelow (before next last_mem) super.rowsets
  pub from : AreFrom next outputs
  pub differ : NumbersDiffer outputs
  pub up : next ≤ high
  pub below : RowsetsBelow (before high last_mem) outputs
  pub recorded : RecordsBelow (before next last_mem) base
  pub left_below : StoresBelow (record { next = high; active = active; deltas = [] }) (map name_of (Mem active ∷ others ++ map first_name outputs))
  pub passes : RowsetsPass rules outputs
  pub alike : (q : List ℕ) → AreAlike j (hists q taken_stores) (map (hist_in_files q) outputs)
  pub sound : (q : List ℕ) → AreSound core.a (map (hist_in_files q) outputs)
  pub mark : j ≤ core.a
  pub outputs_pass : (q : List ℕ) → EachHist rules q (map (hist_in_files q) outputs)

module _ (rules : Rules) (core : Core) (super : Super) (names : List Target) (notes : List (List CommitRow)) (records run : List Entry) (places : List (ℕ × ℕ)) (durable : ℕ) (log : LogStands core records places run) (st : Stands core)
    (k : KeepsSince rules core super names notes records run durable) (all : durable ≡ length (records ++ run)) (last_mem next high active j : ℕ) (outputs : List DiskRowset)
    (f : FlushKnows rules core super names (records ++ run) last_mem next high active j outputs) where
  abbrev pub new_super : Super
  new_super = flushed super core.a core.c durable last_mem outputs

  abbrev pub new_core : Core
  new_core = record core { stores = [] ∷ f.other_stores ++ map bare_store outputs }

  abbrev pub new_names : List Target
  new_names = Mem active ∷ f.others ++ map first_name outputs

  abbrev numbers : Numbers
  numbers = record { next = high; active = active; deltas = [] }

  abbrev frozen : List ℕ → Stores
  frozen q = by_name f.taken (hists q f.taken_stores)

  abbrev others : List ℕ → Stores
  others q = by_name f.others (hists q f.other_stores)

  abbrev all_records : List Entry
  all_records = (records ++ run) ++ []

  now : SuperStands rules core.work.fill super (records ++ run) [] (with_records core.work.fill core.first run) (resident core names notes k.keeps.numbers)
  now = stands_now rules core super names notes records run places durable log st k all

  -- the stores before, by their names
  stores_before : (q : List ℕ) → by_name names (hists q core.stores) ≡ before_flush active (frozen q) (others q)
  stores_before q =
      ap (λ (ns : List Target). by_name ns (hists q core.stores)) f.names_are
      ∙ ap (λ (ss : List Store). by_name (Mem active ∷ f.taken ++ f.others) (hists q ss)) f.stores_are
      ∙ ap (λ (hs : List Hist). (mem_rows active, never) ∷ by_name (f.taken ++ f.others) hs) (map-append (hist_in q) f.taken_stores f.other_stores)
      ∙ ap (λ (l : Stores). (mem_rows active, never) ∷ l) (name_append f.taken f.others (hists q f.taken_stores) (hists q f.other_stores) (f.long ∙ sym (length-map f.taken_stores (hist_in q))))

  -- and after
  stores_after : (q : List ℕ) → by_name new_names (hists q new_core.stores) ≡ after_flush active q outputs (others q)
  stores_after q =
      ap (λ (hs : List Hist). (mem_rows active, never) ∷ by_name (f.others ++ map first_name outputs) hs) (map-append (hist_in q) f.other_stores (map bare_store outputs))
      ∙ ap (λ (l : Stores). (mem_rows active, never) ∷ l)
      (name_append f.others (map first_name outputs) (hists q f.other_stores) (hists q (map bare_store outputs)) (f.beside ∙ sym (length-map f.other_stores (hist_in q))))
      ∙ ap (λ (l : Stores). (mem_rows active, never) ∷ others q ++ l) (outputs_named q outputs)

  higher : (xs : List Entry) → RecordsBelow (before next last_mem) xs → RecordsBelow numbers xs
  higher xs b = records_rise (before next last_mem) numbers xs f.up (let low = f.later.1 in omega arith) b

  old_fresh : NumbersAreFresh super all_records (map name_of new_names) numbers
  old_fresh = record {
    rowsets = rowsets_rise (before next last_mem) numbers super.rowsets f.up f.rowsets;
    records_below = subst (RecordsBelow numbers) (sym (append-nil (records ++ run))) (higher (records ++ run) f.recorded);
    stores = f.left_below;
    mem = f.later.0;
    deltas = tt;
  }

  new_fresh : NumbersAreFresh new_super all_records (map name_of new_names) numbers
  new_fresh = record {
    rowsets = rowsets_both numbers super.rowsets outputs (rowsets_rise (before next last_mem) numbers super.rowsets f.up f.rowsets) (rowsets_rise (before high last_mem) numbers outputs (omega arith) f.below);
    records_below = old_fresh.records_below;
    stores = f.left_below;
    mem = f.later.1;
    deltas = tt;
  }

  over : FlushesOver rules super core.a last_mem next active outputs all_records frozen others j
  over = record {
    old_differ = now.recovered.content.numbers;
    new_differ = f.differ;
    rowsets = f.rowsets;
    outputs_from = f.from;
    names = subst (RecordsBelow (before next last_mem)) (sym (append-nil (records ++ run))) f.recorded;
    told = each_told all_records [] all_records refl (subst (λ (l : List Entry). UntoldFly l []) (sym (append-nil (records ++ run))) (subst (λ (w : List Aloft). UntoldFly (records ++ run) w) f.calm log.untold));
    old_pass = now.recovered.content.files;
    new_pass = f.passes;
    taken = λ q. taken_named super.last_mem last_mem f.taken (hists q f.taken_stores) f.are_taken;
    left = λ q. left_named next f.others (hists q f.other_stores) f.are_left;
    later = f.later;
    alike = λ q. subst (λ (l : List Hist). AreAlike j l (map (hist_in_files q) outputs)) (sym (hists_named f.taken (hists q f.taken_stores) (f.long ∙ sym (length-map f.taken_stores (hist_in q))))) (f.alike q);
    sound = f.sound;
  }

  lends : Lends super new_super (records ++ run) core.c j (with_records core.work.fill core.first run)
  lends = record { enough = omega (arith, all); mark = k.mark; job = f.mark; last = k.clock; up = omega arith; marked = st.flown.marked; ends = ends rules core super names notes records run places durable log st k all }

  calm_names : named_writes core.aloft notes ≡ []
  calm_names = ap (λ (w : List Aloft). named_writes w notes) f.calm

  -- the new superblock stands over the stores with the outputs
  stands : SuperStands rules core.work.fill new_super (records ++ run) [] (with_records core.work.fill core.first run) (resident new_core new_names notes numbers)
  stands =
      let made = changes_over rules core.work.fill super core.a core.c durable last_mem next active outputs (records ++ run) core.c j (with_records core.work.fill core.first run) (resident core names notes k.keeps.numbers) frozen others (map name_of new_names) numbers
      (subst (λ (l : List Entry). IsLog l) (sym (append-nil (records ++ run))) log.log) now calm_names stores_before over lends (omega arith) old_fresh new_fresh in
      others_keep rules core.work.fill new_super (records ++ run) [] (with_records core.work.fill core.first run) _ (λ q. by_name new_names (hists q new_core.stores)) (map name_of new_names) numbers made
      (λ q p. ap (group new_super p) (stores_after q)) new_fresh

  -- what the stores have then passes
  stores_pass : (q : List ℕ) → EachHist rules q (hists q (f.other_stores ++ map bare_store outputs))
  stores_pass q =
      let before : EachHist rules q (never ∷ hists q (f.taken_stores ++ f.other_stores)) = subst (λ (ss : List Store). EachHist rules q (hists q ss)) f.stores_are (k.passes q) in
      let others : EachHist rules q (hists q f.other_stores) = behind_passes rules q (hists q f.taken_stores) (hists q f.other_stores) (subst (EachHist rules q) (map-append (hist_in q) f.taken_stores f.other_stores) before.1) in
      subst (EachHist rules q) (sym (map-append (hist_in q) f.other_stores (map bare_store outputs)))
      (both_pass rules q (hists q f.other_stores) (hists q (map bare_store outputs)) others (subst (EachHist rules q) (sym (bare_hists q outputs)) (f.outputs_pass q)))

  pub flush_since : AreNamed new_super new_names → KeepsSince rules new_core new_super new_names notes records run durable
  flush_since named = record {
    since = run;
    rest = [];
    parts = sym (append-nil run);
    made = omega (arith, all);
    opened = (let s = log.since in omega arith);
    low = core.c;
    from = log.since;
    up = omega arith;
    last = log.last;
    mark = omega arith;
    clock = omega arith;
    named = named;
    deltas = deltas_over next last_mem active f.taken f.others outputs (records ++ run) f.from f.recorded (subst (λ (ns : List Target). DeltasBelow ns (records ++ run)) f.names_are k.deltas);
    passes = λ q. (never_passes rules q, stores_pass q);
    keeps = record {
      recovered = record {
        content = stands.recovered.content;
        told = tt;
        ends = ends rules core super names notes records run places durable log st k all;
        marked = stands.recovered.marked;
        low_enough = st.flown.marked;
        passes = tt;
      };
      writes = sym (past_is rules core super names notes records run places durable log st k all) ∙ k.keeps.writes;
      numbers = numbers;
      stands = stands;
    };
  }
