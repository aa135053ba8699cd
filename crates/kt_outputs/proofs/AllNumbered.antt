-- Disk rowsets whose new files are written in turn.
use Rattle.std.proofs.Common.{◌≡◌, ◌<◌, ◌+◌, ℕ, List, [], ◌∷◌, ◌++◌, length, take, get_or, refl, sym, subst}
use Rattle.std.proofs.lemmas.List.{take_more}
use Rattle.kt_disk.specs.Disk.{Files}
use Rattle.kt_diskrowset.specs.declared.data.RowSetData.{RowSetData}
use Rattle.kt_diskrowset.specs.Data.{files_in, held_in}
use Rattle.kt_outputs.specs.Rewriting.{HasNumbers, KeptStand}
use Rattle.kt_outputs.specs.Again.{AreAgain, AllNumbered, AllKeptStand}

again_push : (rs ds : List RowSetData) (r d : RowSetData) → AreAgain rs ds → files_in d ≡ files_in r → d.fresh ≡ [] → AreAgain (rs ++ r ∷ []) (ds ++ d ∷ [])
again_push [] [] r d all same fresh = (same, fresh, tt)
again_push [] (x ∷ ds) r d all same fresh = absurd all
again_push (y ∷ rs) [] r d all same fresh = absurd all
again_push (y ∷ rs) (x ∷ ds) r d all same fresh = (all.0, all.1, again_push rs ds r d all.2 same fresh)

numbered_push : (first at next : ℕ) (rs ds : List RowSetData) (r d : RowSetData) → AllNumbered first at rs ds → HasNumbers at next (held_in r) (held_in d) → AllNumbered first next (rs ++ r ∷ []) (ds ++ d ∷ [])
numbered_push first at next [] [] r d all one = (next, subst (λ (n : ℕ). HasNumbers n next (held_in r) (held_in d)) all one, refl)
numbered_push first at next [] (x ∷ ds) r d all one = absurd all
numbered_push first at next (y ∷ rs) [] r d all one = absurd all
numbered_push first at next (y ∷ rs) (x ∷ ds) r d all one = (all.0, all.1, numbered_push all.0 at next rs ds r d all.2 one)

-- one rowset more
module _ (list ds more : List RowSetData) (i : ℕ) (o d : RowSetData) (lt : i < length list) (added : more ≡ ds ++ d ∷ []) where
  pub again_more : AreAgain (take i list) ds → files_in d ≡ files_in (get_or list i o) → d.fresh ≡ [] → AreAgain (take (i + 1) list) more
  again_more all same fresh =
      subst (λ (l : List RowSetData). AreAgain l more) (sym (take_more list i o lt))
      (subst (AreAgain (take i list ++ get_or list i o ∷ [])) (sym added) (again_push (take i list) ds (get_or list i o) d all same fresh))

  pub all_numbered_more : (first at next : ℕ) → AllNumbered first at (take i list) ds → HasNumbers at next (held_in (get_or list i o)) (held_in d) → AllNumbered first next (take (i + 1) list) more
  all_numbered_more first at next all one =
      subst (λ (l : List RowSetData). AllNumbered first next l more) (sym (take_more list i o lt))
      (subst (AllNumbered first next (take i list ++ get_or list i o ∷ [])) (sym added) (numbered_push first at next (take i list) ds (get_or list i o) d all one))

both_kept : (files : Files) (xs : List RowSetData) (d : RowSetData) → AllKeptStand files (xs ++ d ∷ []) → AllKeptStand files xs × KeptStand files d
both_kept files [] d all = (tt, all.0)
both_kept files (x ∷ xs) d all = let rest = both_kept files xs d all.1 in ((all.0, rest.0), rest.1)

pub kept_more : (files : Files) (list : List RowSetData) (i : ℕ) (d : RowSetData) → i < length list → AllKeptStand files (take (i + 1) list) → AllKeptStand files (take i list) × KeptStand files (get_or list i d)
kept_more files list i d lt all = both_kept files (take i list) (get_or list i d) (subst (AllKeptStand files) (take_more list i d lt) all)
