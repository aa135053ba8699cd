-- An operation of a flying write that is not applied is the last of its key, and lies above the superblock's mark.
use Rattle.std.proofs.Common.{◌≡◌, ◌<◌, ℕ, List, [], ◌∷◌, ◌++◌, Some, None, sym, ap, ◌∙◌, subst}
use Rattle.kt_history.specs.declared.operation.RowOp.{RowOp}
use Rattle.kt_history.specs.Rows.{Row}
use Rattle.kt_history.specs.Stores.{Hist}
use Rattle.kt_records.specs.declared.entry.Entry.{Entry}
use Rattle.kt_content.specs.Places.{Super}
use Rattle.kt_content.specs.KeyOps.{KeyOp, seen}
use Rattle.kt_content.specs.Content.{AreTold}
use Rattle.kt_content.specs.MoreOps.{untold}
use Rattle.kt_content.specs.Recoverable.{Resident, names_of, Stage, KeyStands}
use Rattle.kt_content.specs.Recoverable.Stage.{rests, waits, applied}
use Rattle.kt_content.proofs.Ends.{only_last}
use Rattle.kt_content.proofs.Stages.{not_told}

pub record IsNextOf (super : Super) (logged : List KeyOp) (ts : ℕ) (op : RowOp) : Type 0 where
  pub front : List KeyOp
  pub last : logged ≡ front ++ untold ts op ∷ []
  pub above : super.a < ts

pub next_of : (fill : Row) (super : Super) (live : Resident) (records : List Entry) (q : List ℕ) (whole : Hist) (xs ys : List KeyOp) (ts : ℕ) (op : RowOp)
    → seen q records records ≡ xs ++ untold ts op ∷ ys → names_of live.named q ts ≡ None → KeyStands fill super live records q whole → IsNextOf super (seen q records records) ts op
next_of fill super live records q whole xs ys ts op sees none k = by k.stage
  where
    by : Stage fill super k.mark live q k.held k.shows whole (seen q records records) k.known → IsNextOf super (seen q records records) ts op
    by (rests is told e) = absurd (not_told xs ts op ys (subst AreTold sees told))
    by (waits t o is told lt up at unnamed under e) =
        let l = only_last xs ts op ys k.known (untold t o) (sym sees ∙ is) told in
        record { front = k.known; last = is ∙ ap (λ (x : KeyOp). k.known ++ x ∷ []) (sym l.same); above = subst (λ (x : KeyOp). super.a < x.ts) (sym l.same) up }
    by (applied front t o targets is knows told lt up at some tells e) =
        let l = only_last xs ts op ys front (untold t o) (sym sees ∙ is) told in
        absurd (let f : Some targets ≡ None = sym (subst (λ (x : KeyOp). names_of live.named q x.ts ≡ Some targets) (sym l.same) some) ∙ none in cc)
