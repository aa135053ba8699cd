-- The parts of an opened tablet are those of what both devices hold.
use Rattle.std.proofs.Common.{◌≡◌, ◌≤◌, ◌++◌, ℕ, suc, List, [], ◌∷◌, map, Ok, Err, refl, sym, ap, ◌∙◌, subst, inr}
use Rattle.kt_history.specs.declared.target.Target.{Target}
use Rattle.kt_history.specs.declared.target.Target.TheVariants.{Mem}
use Rattle.kt_history.specs.Rows.{Row}
use Rattle.kt_history.specs.Stores.{Store}
use Rattle.kt_records.specs.declared.entry.Entry.{Entry}
use Rattle.kt_records.specs.declared.entry.Entry.TheVariants.{Replicate, Commit}
use Rattle.kt_records.specs.Rules.{TargetFits}
use Rattle.kt_journal.specs.Log.{IsLog}
use Rattle.kt_loglaws.specs.Replay.{commit_of, last_of}
use Rattle.kt_pool.specs.Contents.{Contents}
use Rattle.kt_memrowset.specs.Stores as mem
use Rattle.kt_tablet.specs.Filling.{filled, all_told}
use Rattle.kt_schema.specs.declared.column.Column.{Column}
use Rattle.kt_schema.specs.Columns.{fill_of}
use Rattle.kt_super.specs.declared.meta.Meta.{Meta}
use Rattle.kt_rowfiles.specs.Files.{DiskRowset}
use Rattle.kt_diskrowset.specs.declared.rowset.DiskRowSet.{DiskRowSet}
use Rattle.kt_diskrowset.specs.Rowset.{HeldFiles}
use Rattle.kt_diskrowset.specs.Rowset as rowset
use Rattle.kt_stores.specs.Shelf.{Shelved, StoresView}
use Rattle.kt_stores.specs.Parts.{kept, shelf_of}
use Rattle.kt_content.specs.Places.{Super, Place, memory, disk}
use Rattle.kt_content.specs.Opening.{Placed, write_opened, opened}
use Rattle.kt_content.proofs.Options.{two_oks}
use Rattle.kt_reopen.specs.declared.stores.Opening.{Opening}
use Rattle.kt_reopen.specs.Bare.{bare, places_under, PlacesApart}
use Rattle.kt_reopen.specs.Naming.{numbered, NameTheSame}
use Rattle.kt_reopen.specs.Both.{Found, super_in, first_stores, stores_after}
use Rattle.kt_reopen.specs.Numbers.{name_of, next_rowset}
use Rattle.kt_reopen.specs.Opened.{IsOpened}
use Rattle.kt_reopen.specs.Owed.{rows_told, unless_told, then_owed, owed, AllHaveCommits}
use Rattle.kt_reopen.specs.Standing.{placed, places_in, names_in}
use Rattle.kt_reopen.specs.Steps.{DoesLog}
use Rattle.kt_reopen.specs.Walks.{NamesEach}
use Rattle.kt_reopen.proofs.Doing.{places_placed}
use Rattle.kt_reopen.proofs.Firsts.{same_write, same_opened}
use Rattle.kt_reopen.proofs.Making.{read}
use Rattle.kt_reopen.proofs.OwedOrder.{AllFit, goes_on}

-- superblocks that name the same have the same places
places_numbered : (rowsets : List DiskRowset) → map (λ (d : DiskRowset). disk d.rowset) rowsets ≡ map (λ (n : ℕ × ℕ). disk n.0) (numbered rowsets)
places_numbered [] = refl
places_numbered (d ∷ rowsets) = ap (λ ps. disk d.rowset ∷ ps) (places_numbered rowsets)

same_places : (one other : Super) → NameTheSame one other → places_under one ≡ places_under other
same_places one other same =
    ap (λ ps. memory ∷ ps) (places_numbered one.rowsets ∙ ap (map (λ (n : ℕ × ℕ). disk n.0)) same.rowsets ∙ sym (places_numbered other.rowsets))

-- and the same is owed under them
same_owed : (one other : Super) → NameTheSame one other → (fill : Row) (name : Place → Target) (all : List Entry) (stores : Placed) (records : List Entry) → owed fill one name all stores records ≡ owed fill other name all stores records
same_owed one other same fill name all stores [] = refl
same_owed one other same fill name all stores (Commit ts rows ∷ records) = same_owed one other same fill name all stores records
same_owed one other same fill name all stores (Replicate ts ops ∷ records) =
    let commits = Commit ts (rows_told fill name ts ops stores) in
    ap (λ w. unless_told (commit_of ts all) commits (then_owed (λ s. owed fill one name all s records) w)) (same_write one other same fill ts ops (commit_of ts all) stores)
    ∙ elim (write_opened fill other ts ops (commit_of ts all) stores) as (λ w. unless_told (commit_of ts all) commits (then_owed (λ s. owed fill one name all s records) w) ≡ unless_told (commit_of ts all) commits (then_owed (λ s. owed fill other name all s records) w)) [
      | Ok s ↦ ap (unless_told (commit_of ts all) commits) (same_owed one other same fill name all s records)
      | Err t ↦ refl
    ]

-- what a shelf has
shelf_stores : (pool : Contents) (rs : List DiskRowSet)
    → map (λ (s : Place × Store). s.1) (map (λ (d : DiskRowSet). (disk (rowset.held_of d).number, rowset.store_of d pool)) rs) ≡ map (λ (s : Shelved). s.store) (shelf_of read pool (map (λ (d : DiskRowSet). inr d) rs))
shelf_stores pool [] = refl
shelf_stores pool (d ∷ rs) = ap (λ l. rowset.store_of d pool ∷ l) (shelf_stores pool rs)

shelf_names : (pool : Contents) (rs : List DiskRowSet) → map (λ (s : Shelved). s.name) (shelf_of read pool (map (λ (d : DiskRowSet). inr d) rs)) ≡ map rowset.name_of rs
shelf_names pool [] = refl
shelf_names pool (d ∷ rs) = ap (λ l. rowset.name_of d ∷ l) (shelf_names pool rs)

-- stores of which none lies in memory are told as they are
none_told : (fill : Row) (stores : List Store) → all_told fill 0 stores ≡ stores
none_told fill [] = refl
none_told fill (s ∷ stores) = ap (λ (l : List Store). s ∷ l) (none_told fill stores)

-- the stores o before a log, which is done on them, and n behind it
module _ (columns : List Column) (f : Found) (m : Meta) (held : List HeldFiles) (o n : Opening) (super : f.super ≡ super_in m held) (same : NameTheSame (bare m) (super_in m held))
    (first : (fill : Row) → placed fill o ≡ first_stores (super_in m held)) (places_first : places_in o ≡ places_under (bare m)) (apart : PlacesApart (places_in o)) (behind : last_of f.records ≤ f.last) (since : m.c ≤ f.last) (done : DoesLog o n m f.records f.records) (here : stores_after (fill_of columns) f.super f.records ≡ Ok f.stores)
    (named : names_in o ≡ map (name_of f.super f.records) (places_under f.super)) where
  abbrev fill : Row
  fill = fill_of columns

  names_same : NameTheSame (bare m) f.super
  names_same = subst (NameTheSame (bare m)) (sym super) same

  first_is : placed fill o ≡ first_stores f.super
  first_is = first fill ∙ ap first_stores (sym super)

  opens : stores_after fill f.super f.records ≡ Ok (placed fill n)
  opens =
      ap (λ (stores : Placed). opened fill f.super f.records stores f.records) (sym first_is)
      ∙ sym (same_opened (bare m) f.super fill f.records (placed fill o) f.records names_same) ∙ done.opened_is fill

  stores_are : f.stores ≡ placed fill n
  stores_are = two_oks (stores_after fill f.super f.records) f.stores (placed fill n) here opens

  places_are : places_in o ≡ places_under f.super
  places_are = places_first ∙ same_places (bare m) f.super names_same

  each_named : NamesEach (name_of f.super f.records) o
  each_named = named ∙ ap (map (name_of f.super f.records)) (sym places_are)

  pub all_opened : (queued : List Entry) (stores : StoresView) (next : ℕ) → IsLog f.records → TargetFits (name_of f.super f.records memory) → AllFit (name_of f.super f.records) (first_stores f.super)
      → ((fill : Row) (name : Place → Target) → NamesEach name o → queued ≡ owed fill (bare m) name f.records (placed fill o) f.records)
      → stores.shelf ≡ shelf_of read n.pool (kept n.mem [] n.rowsets.items) → stores.frozen ≡ 0 → next ≡ next_rowset m.next_rowset f.records → IsOpened columns f m f.records queued stores f.last next
  all_opened queued stores next log mem_fits fits owes shelf none is =
      let due : queued ≡ owed fill f.super (name_of f.super f.records) f.records (first_stores f.super) f.records =
      owes fill (name_of f.super f.records) each_named
      ∙ same_owed (bare m) f.super names_same fill (name_of f.super f.records) f.records (placed fill o) f.records
      ∙ ap (λ (s : Placed). owed fill f.super (name_of f.super f.records) f.records s f.records) first_is
      in
      let on = goes_on fill f.super (name_of f.super f.records) f.records (first_stores f.super) f.stores log mem_fits fits here in
      record {
        super = record { a = sym (ap (λ (s : Super). s.a) super); c = sym (ap (λ (s : Super). s.c) super); need = sym (ap (λ (s : Super). s.need) super); names = names_same };
        records_are = refl;
        last_is = refl;
        behind = behind;
        since = since;
        made = here;
        places = ap (map (λ (s : Place × Store). s.0)) stores_are ∙ places_placed fill n ∙ done.ends.places ∙ places_are;
        holds =
            ap (map (λ (s : Place × Store). s.1)) stores_are
            ∙ first_is_filled
            ∙ (λ k. all_told fill (suc (sym none k)) (map (λ (s : Shelved). s.store) (sym shelf k)));
        names = ap (map (λ (s : Shelved). s.name)) shelf ∙ shelf_head ∙ done.ends.names ∙ named;
        fit = fits;
        apart = subst PlacesApart places_are apart;
        frozen = none;
        next_is = is;
        owes = due;
        log = subst (λ (q : List Entry). IsLog (f.records ++ q)) (sym due) on.0;
        told = subst (λ (q : List Entry). AllHaveCommits (f.records ++ q)) (sym due) on.1;
        ends = ap (λ (q : List Entry). last_of (f.records ++ q)) due ∙ on.2;
      }
    where
      -- the MemRowSet is the first, filled, and the rowsets are as they are
      first_is_filled : map (λ (s : Place × Store). s.1) (placed fill n) ≡ all_told fill 1 (map (λ (s : Shelved). s.store) (shelf_of read n.pool (kept n.mem [] n.rowsets.items)))
      first_is_filled =
          ap (λ (l : List Store). filled fill (mem.store_of n.mem n.pool) ∷ l)
          (shelf_stores n.pool n.rowsets.items ∙ sym (none_told fill (map (λ (s : Shelved). s.store) (shelf_of read n.pool (map (λ (d : DiskRowSet). inr d) n.rowsets.items)))))

      shelf_head : map (λ (s : Shelved). s.name) (shelf_of read n.pool (kept n.mem [] n.rowsets.items)) ≡ names_in n
      shelf_head = ap (λ l. Mem (mem.number_of n.mem) ∷ l) (shelf_names n.pool n.rowsets.items)
