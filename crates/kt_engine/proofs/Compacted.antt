-- The superblock of a compaction stands over the stores with its outputs.
use Rattle.std.proofs.Common.{◌≡◌, ℕ, suc, ◌<◌, ◌≤◌, ◌+◌, Bool, true, false, List, [], ◌∷◌, ◌++◌, length, map, refl, sym, ap, ◌∙◌, subst, arith, cond}
use Rattle.std.specs.Prelude.{is_some, not}
use Rattle.std.specs.List.{All}
use Rattle.std.proofs.lemmas.List.{append-nil, map-append, length-map}
use Rattle.kt_history.specs.declared.target.Target.{Target}
use Rattle.kt_history.specs.declared.target.Target.TheVariants.{Mem, Delta}
use Rattle.kt_history.specs.Stores.{Store, Hist, hist_in}
use Rattle.kt_records.specs.declared.entry.Entry.{Entry}
use Rattle.kt_records.specs.declared.entry.CommitRow.{CommitRow}
use Rattle.kt_journal.specs.Log.{IsLog}
use Rattle.kt_loglaws.specs.Fronts.{with_records}
use Rattle.kt_histlaws.specs.Core.{Core, Stands}
use Rattle.kt_histlaws.specs.Fitting.{AreSound}
use Rattle.kt_histlaws.specs.Histories.{hists}
use Rattle.kt_histlaws.specs.Jobs.{AreAlike}
use Rattle.kt_histlaws.specs.Pending.{Aloft}
use Rattle.kt_rowfiles.specs.Files.{DiskRowset, hist_in_files}
use Rattle.kt_content.specs.Places.{Super}
use Rattle.kt_content.specs.Rules.{Rules, RowsetsPass}
use Rattle.kt_content.specs.Content.{NumbersDiffer}
use Rattle.kt_content.specs.InMemory.{mem_rows, rowset, Stores, group}
use Rattle.kt_content.specs.RunEvents.{Numbers, RecordsBelow, RowsetsBelow, StoresBelow, NumbersAreFresh}
use Rattle.kt_content.specs.Recovering.{Lends}
use Rattle.kt_content.specs.Recoverable.{SuperStands}
use Rattle.kt_content.specs.Flushes.{AreFrom, before}
use Rattle.kt_content.proofs.StoresCome.{others_keep}
use Rattle.kt_joblaws.specs.Apart.{AreApart}
use Rattle.kt_joblaws.specs.ChangesOver.{hists_of}
use Rattle.kt_joblaws.specs.Compacts.{is_taken, taken_in, left_in, left_rowsets, compacted, after_compaction, AreOf, CompactsOver}
use Rattle.kt_joblaws.proofs.Compacted.{compacts_over}
use Rattle.kt_joblaws.proofs.Read.{those_apart}
use Rattle.kt_joblaws.proofs.Standing.{stand_apart}
use Rattle.kt_stores.specs.Takes.{rowsets, takes, of_taken, of_left}
use Rattle.kt_engine.specs.Memory.{name_of, by_name, named_writes, resident, AreNamed, IsNamed}
use Rattle.kt_engine.specs.Logged.{LogStands, UntoldFly, KeepsSince, DeltasBelow}
use Rattle.kt_engine.specs.Over.{bare_store, first_name}
use Rattle.kt_engine.proofs.Deltas.{deltas_left, deltas_come}
use Rattle.kt_engine.proofs.Flushed.{name_append, hists_named, bare_hists, outputs_named, each_told}
use Rattle.kt_engine.proofs.Jobs.{take_of}
use Rattle.kt_engine.proofs.Lists.{all_head, all_tail}
use Rattle.kt_engine.proofs.Passed.{EachHist, both_pass}
use Rattle.kt_engine.proofs.Rising.{records_rise, rowsets_rise, rowsets_both}
use Rattle.kt_engine.proofs.StoreEvents.{past_is, stands_now, ends}

-- ---- stores by their names, of which some leave

taken_is : (taken : List ℕ) (n : Target) → is_taken (take_of taken) (name_of n) ≡ takes (rowsets taken) n
taken_is taken (Mem n) = refl
taken_is taken (Delta r n) = refl

left_named : (taken : List ℕ) (ns : List Target) (hs : List Hist) → length ns ≡ length hs → by_name (of_left (rowsets taken) ns ns) (of_left (rowsets taken) ns hs) ≡ left_in (take_of taken) (by_name ns hs)
left_named taken [] hs e = refl
left_named taken (n ∷ ns) [] e = absurd (omega arith)
left_named taken (n ∷ ns) (h ∷ hs) e =
    let rest = left_named taken ns hs (omega arith) in
    by (takes (rowsets taken) n) rest ∙ ap (λ (b : Bool). cond (not b) ((name_of n, h) ∷ left_in (take_of taken) (by_name ns hs)) (left_in (take_of taken) (by_name ns hs))) (sym (taken_is taken n))
  where
    by : (b : Bool) → by_name (of_left (rowsets taken) ns ns) (of_left (rowsets taken) ns hs) ≡ left_in (take_of taken) (by_name ns hs)
        → by_name (cond b (of_left (rowsets taken) ns ns) (n ∷ of_left (rowsets taken) ns ns)) (cond b (of_left (rowsets taken) ns hs) (h ∷ of_left (rowsets taken) ns hs))
        ≡ cond (not b) ((name_of n, h) ∷ left_in (take_of taken) (by_name ns hs)) (left_in (take_of taken) (by_name ns hs))
    by true rest = rest
    by false rest = ap (λ (l : Stores). (name_of n, h) ∷ l) rest

pub taken_named : (taken : List ℕ) (ns : List Target) (hs : List Hist) → length ns ≡ length hs → hists_of (taken_in (take_of taken) (by_name ns hs)) ≡ of_taken (rowsets taken) ns hs
taken_named taken [] hs e = refl
taken_named taken (n ∷ ns) [] e = absurd (omega arith)
taken_named taken (n ∷ ns) (h ∷ hs) e =
    let rest = taken_named taken ns hs (omega arith) in
    ap (λ (b : Bool). hists_of (cond b ((name_of n, h) ∷ taken_in (take_of taken) (by_name ns hs)) (taken_in (take_of taken) (by_name ns hs)))) (taken_is taken n) ∙ by (takes (rowsets taken) n) rest
  where
    by : (b : Bool) → hists_of (taken_in (take_of taken) (by_name ns hs)) ≡ of_taken (rowsets taken) ns hs
        → hists_of (cond b ((name_of n, h) ∷ taken_in (take_of taken) (by_name ns hs)) (taken_in (take_of taken) (by_name ns hs))) ≡ cond b (h ∷ of_taken (rowsets taken) ns hs) (of_taken (rowsets taken) ns hs)
    by true rest = ap (λ (l : List Hist). h ∷ l) rest
    by false rest = rest

left_hists : (q : List ℕ) (taken : List ℕ) (ns : List Target) (ss : List Store) → hists q (of_left (rowsets taken) ns ss) ≡ of_left (rowsets taken) ns (hists q ss)
left_hists q taken [] ss = refl
left_hists q taken (n ∷ ns) [] = refl
left_hists q taken (n ∷ ns) (s ∷ ss) = by (takes (rowsets taken) n) (left_hists q taken ns ss)
  where
    by : (b : Bool) → hists q (of_left (rowsets taken) ns ss) ≡ of_left (rowsets taken) ns (hists q ss)
        → hists q (cond b (of_left (rowsets taken) ns ss) (s ∷ of_left (rowsets taken) ns ss)) ≡ cond b (of_left (rowsets taken) ns (hists q ss)) (hist_in q s ∷ of_left (rowsets taken) ns (hists q ss))
    by true rest = rest
    by false rest = ap (λ (l : List Hist). hist_in q s ∷ l) rest

pub taken_hists : (q : List ℕ) (taken : List ℕ) (ns : List Target) (ss : List Store) → hists q (of_taken (rowsets taken) ns ss) ≡ of_taken (rowsets taken) ns (hists q ss)
taken_hists q taken [] ss = refl
taken_hists q taken (n ∷ ns) [] = refl
taken_hists q taken (n ∷ ns) (s ∷ ss) = by (takes (rowsets taken) n) (taken_hists q taken ns ss)
  where
    by : (b : Bool) → hists q (of_taken (rowsets taken) ns ss) ≡ of_taken (rowsets taken) ns (hists q ss)
        → hists q (cond b (s ∷ of_taken (rowsets taken) ns ss) (of_taken (rowsets taken) ns ss)) ≡ cond b (hist_in q s ∷ of_taken (rowsets taken) ns (hists q ss)) (of_taken (rowsets taken) ns (hists q ss))
    by true rest = ap (λ (l : List Hist). hist_in q s ∷ l) rest
    by false rest = rest

left_long : {A : Type 0} (taken : List ℕ) (ns : List Target) (xs : List A) → length ns ≡ length xs → length (of_left (rowsets taken) ns ns) ≡ length (of_left (rowsets taken) ns xs)
left_long taken [] [] e = refl
left_long taken [] (x ∷ xs) e = absurd (omega arith)
left_long taken (n ∷ ns) [] e = absurd (omega arith)
left_long {A} taken (n ∷ ns) (x ∷ xs) e = by (takes (rowsets taken) n) (left_long taken ns xs (omega arith))
  where
    by : (b : Bool) → length (of_left (rowsets taken) ns ns) ≡ length (of_left (rowsets taken) ns xs)
        → length (cond b (of_left (rowsets taken) ns ns) (n ∷ of_left (rowsets taken) ns ns)) ≡ length (cond b (of_left (rowsets taken) ns xs) (x ∷ of_left (rowsets taken) ns xs))
    by true rest = rest
    by false rest = ap suc rest

-- the superblock names each disk rowset among them
pub all_of : (super : Super) (ns : List Target) (hs : List Hist) → All (IsNamed super) ns → AreOf super (by_name ns hs)
all_of super [] hs named = tt
all_of super (n ∷ ns) [] named = tt
all_of super (Mem n ∷ ns) (h ∷ hs) named = (tt, all_of super ns hs (all_tail (IsNamed super) (Mem n) ns named))
all_of super (Delta r n ∷ ns) (h ∷ hs) named = (ap is_some (all_head (IsNamed super) (Delta r n) ns named).0.1, all_of super ns hs (all_tail (IsNamed super) (Delta r n) ns named))

pub rowsets_some : (numbers : Numbers) (take : ℕ → Bool) (ds : List DiskRowset) → RowsetsBelow numbers ds → RowsetsBelow numbers (left_rowsets take ds)
rowsets_some numbers take [] below = tt
rowsets_some numbers take (d ∷ ds) below = by (take d.rowset) (rowsets_some numbers take ds below.1)
  where
    by : (b : Bool) → RowsetsBelow numbers (left_rowsets take ds) → RowsetsBelow numbers (cond (not b) (d ∷ left_rowsets take ds) (left_rowsets take ds))
    by true rest = rest
    by false rest = (below.0, rest)

-- what is left of histories that pass does so
left_pass : (rules : Rules) (q : List ℕ) (taken : List ℕ) (ns : List Target) (hs : List Hist) → EachHist rules q hs → EachHist rules q (of_left (rowsets taken) ns hs)
left_pass rules q taken [] hs each = tt
left_pass rules q taken (n ∷ ns) [] each = tt
left_pass rules q taken (n ∷ ns) (h ∷ hs) each = by (takes (rowsets taken) n) (left_pass rules q taken ns hs each.1)
  where
    by : (b : Bool) → EachHist rules q (of_left (rowsets taken) ns hs) → EachHist rules q (cond b (of_left (rowsets taken) ns hs) (h ∷ of_left (rowsets taken) ns hs))
    by true rest = rest
    by false rest = (each.0, rest)

-- ---- the whole

-- What a compaction that publishes knows of the stores, their names and its outputs
pub record CompactKnows (rules : Rules) (core : Core) (super : Super) (names : List Target) (base : List Entry) (taken : List ℕ) (last_mem next high : ℕ) (outputs : List DiskRowset) : Type 0 where
  pub active : ℕ
  pub others : List Target
  pub first_store : Store
  pub other_stores : List Store
  pub names_are : names ≡ Mem active ∷ others
  pub stores_are : core.stores ≡ first_store ∷ other_stores
  pub long : length others ≡ length other_stores
  pub later : (super.last_mem < active) × (last_mem ≤ active)
  pub calm : core.aloft ≡ []
  pub rowsets_below : RowsetsBelow (before next last_mem) super.rowsets
  pub from : AreFrom next outputs
  pub differ : NumbersDiffer outputs
  pub up : next ≤ high
  pub below : RowsetsBelow (before high last_mem) outputs
  pub recorded : RecordsBelow (before next last_mem) base
  pub left_below : StoresBelow (record { next = high; active = active; deltas = [] }) (map name_of (Mem active ∷ of_left (rowsets taken) others others ++ map first_name outputs))
  pub passes : RowsetsPass rules outputs
  pub alike : (q : List ℕ) → AreAlike core.a (hists q (of_taken (rowsets taken) others other_stores)) (map (hist_in_files q) outputs)
  pub sound : (q : List ℕ) → AreSound core.a (map (hist_in_files q) outputs)
  pub outputs_pass : (q : List ℕ) → EachHist rules q (map (hist_in_files q) outputs)

module _ (rules : Rules) (core : Core) (super : Super) (names : List Target) (notes : List (List CommitRow)) (records run : List Entry) (places : List (ℕ × ℕ)) (durable : ℕ) (log : LogStands core records places run) (st : Stands core)
    (k : KeepsSince rules core super names notes records run durable) (all : durable ≡ length (records ++ run)) (taken : List ℕ) (last_mem next high : ℕ) (outputs : List DiskRowset)
    (f : CompactKnows rules core super names (records ++ run) taken last_mem next high outputs) where
  abbrev take : ℕ → Bool
  take = take_of taken

  abbrev pub new_super : Super
  new_super = compacted take super core.a core.c durable outputs

  abbrev pub new_core : Core
  new_core = record core { stores = f.first_store ∷ of_left (rowsets taken) f.others f.other_stores ++ map bare_store outputs }

  abbrev pub new_names : List Target
  new_names = Mem f.active ∷ of_left (rowsets taken) f.others f.others ++ map first_name outputs

  abbrev numbers : Numbers
  numbers = record { next = high; active = f.active; deltas = [] }

  abbrev all_records : List Entry
  all_records = (records ++ run) ++ []

  abbrev stores : List ℕ → Stores
  stores q = by_name names (hists q core.stores)

  now : SuperStands rules core.work.fill super (records ++ run) [] (with_records core.work.fill core.first run) (resident core names notes k.keeps.numbers)
  now = stands_now rules core super names notes records run places durable log st k all

  -- the stores before, by their names
  stores_before : (q : List ℕ) → stores q ≡ (mem_rows f.active, hist_in q f.first_store) ∷ by_name f.others (hists q f.other_stores)
  stores_before q = ap (λ (ns : List Target). by_name ns (hists q core.stores)) f.names_are ∙ ap (λ (ss : List Store). by_name (Mem f.active ∷ f.others) (hists q ss)) f.stores_are

  -- as long as their names
  hists_long : (q : List ℕ) → length f.others ≡ length (hists q f.other_stores)
  hists_long q = f.long ∙ sym (length-map f.other_stores (hist_in q))

  -- and after
  stores_after : (q : List ℕ) → by_name new_names (hists q new_core.stores) ≡ after_compaction take q outputs (stores q)
  stores_after q =
      ap (λ (hs : List Hist). (mem_rows f.active, hist_in q f.first_store) ∷ by_name (of_left (rowsets taken) f.others f.others ++ map first_name outputs) hs)
      (map-append (hist_in q) (of_left (rowsets taken) f.others f.other_stores) (map bare_store outputs) ∙ ap (λ (hs : List Hist). hs ++ hists q (map bare_store outputs)) (left_hists q taken f.others f.other_stores))
      ∙ ap (λ (l : Stores). (mem_rows f.active, hist_in q f.first_store) ∷ l)
      (name_append (of_left (rowsets taken) f.others f.others) (map first_name outputs) (of_left (rowsets taken) f.others (hists q f.other_stores)) (hists q (map bare_store outputs)) (left_long taken f.others (hists q f.other_stores) (hists_long q)))
      ∙ ap (λ (l : Stores). ((mem_rows f.active, hist_in q f.first_store) ∷ l) ++ by_name (map first_name outputs) (hists q (map bare_store outputs))) (left_named taken f.others (hists q f.other_stores) (hists_long q))
      ∙ ap (λ (l : Stores). ((mem_rows f.active, hist_in q f.first_store) ∷ left_in take (by_name f.others (hists q f.other_stores))) ++ l) (outputs_named q outputs)
      ∙ ap (after_compaction take q outputs) (sym (stores_before q))

  -- of those that are taken
  taken_are : (q : List ℕ) → hists_of (taken_in take (stores q)) ≡ hists q (of_taken (rowsets taken) f.others f.other_stores)
  taken_are q = ap (λ (s : Stores). hists_of (taken_in take s)) (stores_before q) ∙ taken_named taken f.others (hists q f.other_stores) (hists_long q) ∙ sym (taken_hists q taken f.others f.other_stores)

  hists_are : (q : List ℕ) → hists_of (stores q) ≡ hists q core.stores
  hists_are q =
      ap hists_of (stores_before q) ∙ ap (λ (l : List Hist). hist_in q f.first_store ∷ l) (hists_named f.others (hists q f.other_stores) (hists_long q)) ∙ ap (hists q) (sym f.stores_are)

  higher : (xs : List Entry) → RecordsBelow (before next last_mem) xs → RecordsBelow numbers xs
  higher xs b = records_rise (before next last_mem) numbers xs f.up (let low = f.later.1 in omega arith) b

  old_fresh : NumbersAreFresh super all_records (map name_of new_names) numbers
  old_fresh = record {
    rowsets = rowsets_rise (before next last_mem) numbers super.rowsets f.up f.rowsets_below;
    records_below = subst (RecordsBelow numbers) (sym (append-nil (records ++ run))) (higher (records ++ run) f.recorded);
    stores = f.left_below;
    mem = f.later.0;
    deltas = tt;
  }

  new_fresh : NumbersAreFresh new_super all_records (map name_of new_names) numbers
  new_fresh = record {
    rowsets = rowsets_both numbers (left_rowsets take super.rowsets) outputs (rowsets_some numbers take super.rowsets old_fresh.rowsets) (rowsets_rise (before high last_mem) numbers outputs (omega arith) f.below);
    records_below = old_fresh.records_below;
    stores = f.left_below;
    mem = f.later.0;
    deltas = tt;
  }

  over : CompactsOver rules take super core.a next last_mem outputs all_records stores core.a
  over = record {
    old_differ = now.recovered.content.numbers;
    new_differ = f.differ;
    rowsets = f.rowsets_below;
    outputs_from = f.from;
    names = subst (RecordsBelow (before next last_mem)) (sym (append-nil (records ++ run))) f.recorded;
    told = each_told all_records [] all_records refl (subst (λ (l : List Entry). UntoldFly l []) (sym (append-nil (records ++ run))) (subst (λ (w : List Aloft). UntoldFly (records ++ run) w) f.calm log.untold));
    old_pass = now.recovered.content.files;
    new_pass = f.passes;
    named = λ q. all_of super names (hists q core.stores) k.named.each;
    apart = λ q. those_apart core.a (is_taken take) (stores q) (subst (AreApart core.a) (sym (hists_are q)) (stand_apart core q st).0);
    alike = λ q. subst (λ (l : List Hist). AreAlike core.a l (map (hist_in_files q) outputs)) (sym (taken_are q)) (f.alike q);
    sound = f.sound;
  }

  lends : Lends super new_super (records ++ run) core.c core.a (with_records core.work.fill core.first run)
  lends = record { enough = omega (arith, all); mark = k.mark; job = omega arith; last = k.clock; up = omega arith; marked = st.flown.marked; ends = ends rules core super names notes records run places durable log st k all }

  calm_names : named_writes core.aloft notes ≡ []
  calm_names = ap (λ (w : List Aloft). named_writes w notes) f.calm

  -- the new superblock stands over the stores with the outputs
  stands : SuperStands rules core.work.fill new_super (records ++ run) [] (with_records core.work.fill core.first run) (resident new_core new_names notes numbers)
  stands =
      let made = compacts_over rules core.work.fill take super core.a core.c durable next last_mem outputs (records ++ run) core.c core.a (with_records core.work.fill core.first run) (resident core names notes k.keeps.numbers) (map name_of new_names) numbers
      (subst (λ (l : List Entry). IsLog l) (sym (append-nil (records ++ run))) log.log) now calm_names over lends (omega arith) old_fresh new_fresh in
      others_keep rules core.work.fill new_super (records ++ run) [] (with_records core.work.fill core.first run) _ (λ q. by_name new_names (hists q new_core.stores)) (map name_of new_names) numbers made
      (λ q p. ap (group new_super p) (stores_after q)) new_fresh

  -- what the stores have then passes
  stores_pass : (q : List ℕ) → EachHist rules q (hists q new_core.stores)
  stores_pass q =
      let before : EachHist rules q (hist_in q f.first_store ∷ hists q f.other_stores) = subst (λ (ss : List Store). EachHist rules q (hists q ss)) f.stores_are (k.passes q) in
      let others : EachHist rules q (hists q (of_left (rowsets taken) f.others f.other_stores)) = subst (EachHist rules q) (sym (left_hists q taken f.others f.other_stores)) (left_pass rules q taken f.others (hists q f.other_stores) before.1) in (
        before.0,
        subst (EachHist rules q) (sym (map-append (hist_in q) (of_left (rowsets taken) f.others f.other_stores) (map bare_store outputs)))
            (both_pass rules q (hists q (of_left (rowsets taken) f.others f.other_stores)) (hists q (map bare_store outputs)) others (subst (EachHist rules q) (sym (bare_hists q outputs)) (f.outputs_pass q))),
      )

  pub compaction_since : AreNamed new_super new_names → KeepsSince rules new_core new_super new_names notes records run durable
  compaction_since named = record {
    since = run;
    rest = [];
    parts = sym (append-nil run);
    made = omega (arith, all);
    opened = (let s = log.since in omega arith);
    low = core.c;
    from = log.since;
    up = omega arith;
    last = log.last;
    mark = omega arith;
    clock = omega arith;
    named = named;
    deltas = deltas_left (rowsets taken) f.others (map first_name outputs) (records ++ run) (subst (λ (ns : List Target). DeltasBelow ns (records ++ run)) f.names_are k.deltas) (deltas_come next last_mem outputs (records ++ run) f.from f.recorded);
    passes = stores_pass;
    keeps = record {
      recovered = record {
        content = stands.recovered.content;
        told = tt;
        ends = ends rules core super names notes records run places durable log st k all;
        marked = stands.recovered.marked;
        low_enough = st.flown.marked;
        passes = tt;
      };
      writes = sym (past_is rules core super names notes records run places durable log st k all) ∙ k.keeps.writes;
      numbers = numbers;
      stands = stands;
    };
  }
