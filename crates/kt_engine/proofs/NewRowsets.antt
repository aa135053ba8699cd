-- New disk rowsets of their files.
use Rattle.std.proofs.Common.{◌≡◌, ℕ, ◌<◌, ◌+◌, List, [], ◌∷◌, ◌++◌, length, map, take, get_or, refl, sym, ap, ◌∙◌, subst}
use Rattle.std.specs.List.{AllByRecursion}
use Rattle.std.proofs.lemmas.List.{take_more}
use Rattle.kt_history.specs.declared.changes.Delta.{Delta as DeltaRecord}
use Rattle.kt_history.specs.declared.target.Target.TheVariants.{Delta}
use Rattle.kt_history.specs.declared.target.Target.{Target}
use Rattle.kt_history.specs.Stores.{Store}
use Rattle.kt_pool.specs.Contents.{Contents}
use Rattle.kt_super.specs.declared.meta.MetaRowset.{MetaRowset}
use Rattle.kt_rowfiles.specs.Files.{records_for}
use Rattle.kt_diskrowset.specs.declared.data.RowSetData.{RowSetData}
use Rattle.kt_diskrowset.specs.declared.rowset.DiskRowSet.{DiskRowSet}
use Rattle.kt_diskrowset.specs.declared.files.FileHeld.{FileHeld}
use Rattle.kt_diskrowset.specs.Data.{held_in, files_in, store_in}
use Rattle.kt_diskrowset.specs.Rows.{store_with, UndosLeadBack}
use Rattle.kt_diskrowset.specs.Files.{as_files, lists_of}
use Rattle.kt_diskrowset.specs.Rowset.{HeldFiles, held_of, files_of, store_of, name_of, cells_had, IsStore, Owns}
use Rattle.kt_files.specs.Content.{records_of, rowset_in, rowsets_in}
use Rattle.kt_outputs.specs.Outputs.{meta_in}
use Rattle.kt_engine.specs.Over.{bare_store, first_name}
use Rattle.kt_engine.specs.Outputs.{IsBare, AreOutputs, AreMade}

-- ---- what they are made of

lists_same : (files : List FileHeld) → map records_of (as_files files) ≡ lists_of files
lists_same [] = refl
lists_same (f ∷ files) = ap (λ (l : List (List DeltaRecord)). f.deltas.value.list ∷ l) (lists_same files)

-- a disk rowset that has no DeltaMemStore yet is what its files tell
pub told_same : (m : MetaRowset) (d : DiskRowSet) → m.last_dms ≡ 0 → rowset_in m (held_of d) ≡ files_of d
told_same m d none i = record { rowset = d.number; last_dms = none i; base = (files_of d).base; undos = lists_same d.undo i; redos = lists_same d.redo i }

told_data : (m : MetaRowset) (x : RowSetData) → m.last_dms ≡ 0 → rowset_in m (held_in x) ≡ files_in x
told_data m x none i = record { rowset = x.number; last_dms = none i; base = (files_in x).base; undos = lists_same x.undo i; redos = lists_same x.redo i }

-- the same files tell the same
files_same : (x : RowSetData) (d : DiskRowSet) → held_of d ≡ held_in x → files_of d ≡ files_in x
files_same x d held = sym (told_same (meta_in 0 x) d refl) ∙ ap (rowset_in (meta_in 0 x)) held ∙ told_data (meta_in 0 x) x refl

no_fresh : (x : RowSetData) → x.fresh ≡ [] → store_in x ≡ bare_store (files_in x)
no_fresh x none = ap (λ (fresh : List DeltaRecord). store_with (files_in x) (λ (n : ℕ). records_for n fresh)) none

-- one that is made of files has nothing in memory
pub made_bare : (x : RowSetData) (d : DiskRowSet) → x.fresh ≡ [] → held_of d ≡ held_in x → ((pool : Contents) → IsStore d pool) → ((pool : Contents) → store_of d pool ≡ store_in x) → ((pool : Contents) (k : ℕ) → ¬ Owns d pool k) → ((pool : Contents) → cells_had d pool ≡ 0)
    → name_of d ≡ Delta x.number 1 → IsBare d
made_bare x d none held stands store bare empty name = record {
  stands = stands;
  bare = bare;
  none = empty;
  store = λ pool. store pool ∙ no_fresh x none ∙ ap bare_store (sym (files_same x d held));
  name = name ∙ ap (λ (n : ℕ). Delta n 1) (sym (ap (λ (h : HeldFiles). h.number) held));
}

pub made_held : (xs : List RowSetData) (ds : List DiskRowSet) → AreMade xs ds → map held_of ds ≡ map held_in xs
made_held [] [] m = refl
made_held [] (d ∷ ds) m = absurd m
made_held (x ∷ xs) [] m = absurd m
made_held (x ∷ xs) (d ∷ ds) m = ap (λ (h : HeldFiles). h ∷ map held_of ds) m.0.0 ∙ ap (λ (l : List HeldFiles). held_in x ∷ l) (made_held xs ds m.1)

pub made_outputs : (xs : List RowSetData) (ds : List DiskRowSet) → AreMade xs ds → AreOutputs (map (meta_in 0) xs) ds
made_outputs [] [] m = tt
made_outputs [] (d ∷ ds) m = absurd m
made_outputs (x ∷ xs) [] m = absurd m
made_outputs (x ∷ xs) (d ∷ ds) m = ((refl, m.0.1), made_outputs xs ds m.1)

pub made_more : (xs : List RowSetData) (x : RowSetData) (ds : List DiskRowSet) (d : DiskRowSet) → AreMade xs ds → held_of d ≡ held_in x → IsBare d → AreMade (xs ++ x ∷ []) (ds ++ d ∷ [])
made_more [] x [] d m held bare = ((held, bare), tt)
made_more [] x (e ∷ ds) d m held bare = absurd m
made_more (y ∷ xs) x [] d m held bare = absurd m
made_more (y ∷ xs) x (e ∷ ds) d m held bare = (m.0, made_more xs x ds d m.1 held bare)

-- ---- as a superblock tells of them

pub outputs_stores : (pool : Contents) (ms : List MetaRowset) (ds : List DiskRowSet) → AreOutputs ms ds → map (λ (d : DiskRowSet). store_of d pool) ds ≡ map bare_store (rowsets_in ms (map held_of ds))
outputs_stores pool [] [] o = refl
outputs_stores pool [] (d ∷ ds) o = absurd o
outputs_stores pool (m ∷ ms) [] o = absurd o
outputs_stores pool (m ∷ ms) (d ∷ ds) o =
    ap (λ (s : Store). s ∷ map (λ (e : DiskRowSet). store_of e pool) ds) (o.0.1.store pool ∙ ap bare_store (sym (told_same m d o.0.0)))
    ∙ ap (λ (l : List Store). bare_store (rowset_in m (held_of d)) ∷ l) (outputs_stores pool ms ds o.1)

pub outputs_names : (ms : List MetaRowset) (ds : List DiskRowSet) → AreOutputs ms ds → map name_of ds ≡ map first_name (rowsets_in ms (map held_of ds))
outputs_names [] [] o = refl
outputs_names [] (d ∷ ds) o = absurd o
outputs_names (m ∷ ms) [] o = absurd o
outputs_names (m ∷ ms) (d ∷ ds) o = ap (λ (t : Target). t ∷ map name_of ds) o.0.1.name ∙ ap (λ (l : List Target). Delta d.number 1 ∷ l) (outputs_names ms ds o.1)

-- ---- what taking them over asks

pub each_stands : (pool : Contents) (ms : List MetaRowset) (ds : List DiskRowSet) → AreOutputs ms ds → AllByRecursion (λ (d : DiskRowSet). IsStore d pool) ds
each_stands pool [] [] o = tt
each_stands pool [] (d ∷ ds) o = absurd o
each_stands pool (m ∷ ms) [] o = absurd o
each_stands pool (m ∷ ms) (d ∷ ds) o = (o.0.1.stands pool, each_stands pool ms ds o.1)

pub each_bare : (pool : Contents) (ms : List MetaRowset) (ds : List DiskRowSet) → AreOutputs ms ds → AllByRecursion (λ (d : DiskRowSet). (k : ℕ) → ¬ Owns d pool k) ds
each_bare pool [] [] o = tt
each_bare pool [] (d ∷ ds) o = absurd o
each_bare pool (m ∷ ms) [] o = absurd o
each_bare pool (m ∷ ms) (d ∷ ds) o = (o.0.1.bare pool, each_bare pool ms ds o.1)

pub each_empty : (pool : Contents) (ms : List MetaRowset) (ds : List DiskRowSet) → AreOutputs ms ds → AllByRecursion (λ (d : DiskRowSet). cells_had d pool ≡ 0) ds
each_empty pool [] [] o = tt
each_empty pool [] (d ∷ ds) o = absurd o
each_empty pool (m ∷ ms) [] o = absurd o
each_empty pool (m ∷ ms) (d ∷ ds) o = (o.0.1.none pool, each_empty pool ms ds o.1)

-- so it is of what they are taken over as
pub all_stand : (pool : Contents) (ms : List MetaRowset) (ds items : List DiskRowSet) → items ≡ ds → AreOutputs ms ds → AllByRecursion (λ (d : DiskRowSet). IsStore d pool) items
all_stand pool ms ds items same o = subst (λ (l : List DiskRowSet). AllByRecursion (λ (d : DiskRowSet). IsStore d pool) l) (sym same) (each_stands pool ms ds o)

pub all_bare : (pool : Contents) (ms : List MetaRowset) (ds items : List DiskRowSet) → items ≡ ds → AreOutputs ms ds → AllByRecursion (λ (d : DiskRowSet). (k : ℕ) → ¬ Owns d pool k) items
all_bare pool ms ds items same o = subst (λ (l : List DiskRowSet). AllByRecursion (λ (d : DiskRowSet). (k : ℕ) → ¬ Owns d pool k) l) (sym same) (each_bare pool ms ds o)

pub all_empty : (pool : Contents) (ms : List MetaRowset) (ds items : List DiskRowSet) → items ≡ ds → AreOutputs ms ds → AllByRecursion (λ (d : DiskRowSet). cells_had d pool ≡ 0) items
all_empty pool ms ds items same o = subst (λ (l : List DiskRowSet). AllByRecursion (λ (d : DiskRowSet). cells_had d pool ≡ 0) l) (sym same) (each_empty pool ms ds o)

-- ---- those that lead back

abbrev pub LeadBack : List RowSetData → Type 0
LeadBack xs = AllByRecursion (λ d. UndosLeadBack (files_in d)) xs

lead_push : (xs : List RowSetData) (x : RowSetData) → LeadBack xs → UndosLeadBack (files_in x) → LeadBack (xs ++ x ∷ [])
lead_push [] x all own = (own, tt)
lead_push (y ∷ xs) x all own = (all.0, lead_push xs x all.1 own)

-- one more of them
pub lead_more : (xs : List RowSetData) (k : ℕ) (x : RowSetData) → k < length xs → x ≡ get_or xs k x → LeadBack (take k xs) → UndosLeadBack (files_in x) → LeadBack (take (k + 1) xs)
lead_more xs k x lt is all own = subst LeadBack (ap (λ (d : RowSetData). take k xs ++ d ∷ []) is ∙ sym (take_more xs k x lt)) (lead_push (take k xs) x all own)
