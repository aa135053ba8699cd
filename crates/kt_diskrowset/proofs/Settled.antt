-- A disk rowset that a job has rewritten: it tells the same, and its DeltaMemStores have given their cells back.
use Rattle.std.proofs.Common.{◌≡◌, ◌+◌, ℕ, List, [], ◌∷◌, ◌++◌, length, inl, inr, sym, ap, subst, ◌∙◌, arith}
use Rattle.std.proofs.lemmas.List.{append-nil}
use Rattle.kt_pool.specs.Contents.{Contents, at_cell, used}
use Rattle.kt_dms.specs.declared.store.DeltaMem.{DeltaMem}
use Rattle.kt_dms.specs.Stores as dms
use Rattle.kt_history.specs.declared.target.Target.TheVariants.{Delta}
use Rattle.kt_dms.specs.Stores.{deltas_of, steps_for}
use Rattle.kt_rowfiles.specs.Files.{records_for}
use Rattle.kt_diskrowset.specs.declared.data.RowSetData.{RowSetData}
use Rattle.kt_diskrowset.specs.declared.rowset.DiskRowSet.{DiskRowSet}
use Rattle.kt_diskrowset.specs.Data.{files_in, fresh_in, store_in}
use Rattle.kt_diskrowset.specs.Jobs.{AreEmptied}
use Rattle.kt_diskrowset.specs.Mems.{AllStand, AreApart, OwnedBy, steps_in_mems, cells_in}
use Rattle.kt_diskrowset.specs.Rewriting.{IsSettled}
use Rattle.kt_diskrowset.specs.Rows.{UndosLeadBack, store_with}
use Rattle.kt_diskrowset.specs.Rowset.{mems_of, files_of, fresh_of, store_of, name_of, IsStore, Owns, cells_had}
use Rattle.kt_diskrowset.proofs.Histories.{hists_same}
use Rattle.kt_diskrowset.proofs.Leaving.{one_leaves, emptied_before}

-- the last one leaves
pub last_leaves : (all left rest : List DeltaMem) (m : DeltaMem) (old now new : Contents) → AreEmptied all left old now → left ≡ rest ++ m ∷ [] → ((k : ℕ) → ¬ dms.Owns m now k → at_cell new k ≡ at_cell now k)
    → used new + dms.cells_had m now ≡ used now → new.reserved ≡ now.reserved → length new.places ≡ length now.places → AreEmptied all rest old new
last_leaves all left rest m old now new h is frame fewer reserved size =
    subst (λ xs. AreEmptied all xs old new) (append-nil rest) (one_leaves rest m [] all old now new (subst (λ xs. AreEmptied all xs old now) is h) frame fewer reserved size)

pub emptied_all : (s : DiskRowSet) (old now : Contents) → IsStore s old → AreEmptied s.frozen.items [] old now → AreEmptied (mems_of s) (s.active ∷ []) old now
emptied_all s old now st emptied = emptied_before s.frozen.items [] s.active old now emptied st.stand st.apart

-- it has these files now, and the DeltaMemStore that takes changes has none
module _ (s t : DiskRowSet) (old now new : Contents) (d : RowSetData) (st : IsStore s old) (emptied : AreEmptied s.frozen.items [] old now) (lead : UndosLeadBack (files_in d)) (none : d.fresh ≡ []) (told : store_in d ≡ store_of s old)
    (files : files_of t ≡ files_in d) (mems : mems_of t ≡ t.active ∷ []) (name : name_of t ≡ name_of s)
    (stands : dms.IsStore t.active new) (empty : deltas_of t.active new ≡ []) (bare : (k : ℕ) → ¬ dms.Owns t.active new k) (no_cells : dms.cells_had t.active new ≡ 0) where
  none_had : cells_had t new ≡ 0
  none_had = ap (λ ms. cells_in new ms) mems ∙ (let e = no_cells in omega arith)

  fresh_none : (n : ℕ) → fresh_of t new n ≡ []
  fresh_none n = ap (λ ms. steps_in_mems new n ms) mems ∙ ap (λ ds. steps_for n ds ++ []) empty

  none_owned : (k : ℕ) → ¬ Owns t new k
  none_owned k own = elim (subst (λ ms. OwnedBy new ms k) mems own) [ inl is ↦ bare k is | inr other ↦ other ]

  module _ (frame : (k : ℕ) → ¬ dms.Owns s.active now k → at_cell new k ≡ at_cell now k) (fewer : used new + dms.cells_had s.active now ≡ used now) (reserved : new.reserved ≡ now.reserved) (size : length new.places ≡ length now.places) where
    after : AreEmptied (mems_of s) [] old new
    after = one_leaves [] s.active [] (mems_of s) old now new (emptied_all s old now st emptied) frame fewer reserved size

    pub settled : IsSettled s t old new
    settled = record {
      stands = record { stand = subst (AllStand new) (sym mems) (stands, tt); apart = subst (AreApart new) (sym mems) ((λ k own other. other), tt); lead = subst UndosLeadBack (sym files) lead };
      store = ap (λ f. store_with f (fresh_of t new)) files ∙ hists_same (files_in d) (fresh_in d) (fresh_of t new) 0 (files_in d).base (λ m low. fresh_none m ∙ sym (ap (records_for m) none)) ∙ told;
      name = name;
      cells = let a = after.cells in let c = none_had in omega arith;
      fewer = let c = none_had in omega arith;
      owned = λ k own. absurd (none_owned k own);
      frame = after.frame;
      reserved = after.reserved;
      size = after.size;
    }

pub one_name : (r n q m : ℕ) → Delta r n ≡ Delta q m → r ≡ q
one_name r n q m e = cc
