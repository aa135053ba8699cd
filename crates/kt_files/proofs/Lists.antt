-- Files and rowsets that are read one after another.
use Rattle.std.proofs.Common.{◌≡◌, ◌<◌, ◌+◌, ℕ, List, [], ◌∷◌, ◌++◌, length, map, take, drop, get_or, suc, sym, ap, subst, ◌∙◌, add-one, arith}
use Rattle.std.proofs.Math.Seq.{split_at}
use Rattle.std.proofs.lemmas.List.{take_more, map_push, map-append}
use Rattle.kt_disk.specs.Disk.{Files, Same, Turns}
use Rattle.kt_super.specs.declared.meta.FileRef.{FileRef}
use Rattle.kt_super.specs.declared.meta.MetaRowset.{MetaRowset}
use Rattle.kt_deltafile.specs.declared.file.Way.{Way}
use Rattle.kt_deltafile.specs.declared.file.Way.TheVariants.{Redo, Undo}
use Rattle.kt_deltafile.specs.File.{FileView}
use Rattle.kt_diskrowset.specs.declared.base.BaseHeld.{BaseHeld}
use Rattle.kt_diskrowset.specs.declared.files.FileHeld.{FileHeld}
use Rattle.kt_diskrowset.specs.declared.data.RowSetData.{RowSetData}
use Rattle.kt_diskrowset.specs.Files.{as_file, as_files}
use Rattle.kt_diskrowset.specs.Rowset.{HeldFiles}
use Rattle.kt_diskrowset.specs.Data.{held_in}
use Rattle.kt_files.specs.Reading.{HoldsBase, HoldsDeltas, HoldEach, IsDeltasFault, IsListFault, HoldsRowset, HoldAll, IsRowsetFault, in_undo, in_redo, IsFirstFault}
use Rattle.kt_files.specs.Held.{base_in, AreFresh, numbers_in, numbers_named}
use Rattle.kt_files.specs.Named.{base_named, delta_named, deltas_named, Names, AreNamed}

-- ---- a disk that was not yet called

pub turns_none : {D : Type 0} (now : D → ℕ) (leaves : D → ℕ → Files → Type 0) (disk : D) → Turns now leaves Same disk disk
turns_none now leaves disk = record {
  later = omega arith;
  past = λ m c le left. left;
  keeps = λ m c le left. left;
  each = λ m c gt le left. absurd (let no : ⊥ = omega arith in no);
}

-- a list, cut around a place
parted : {X : Type 0} (xs : List X) (i : ℕ) (d x : X) → i < length xs → get_or xs i d ≡ x → xs ≡ take i xs ++ x ∷ drop (i + 1) xs
parted xs i d x lt is =
    split_at xs i d lt ∙ ap (λ y. take i xs ++ y ∷ drop (suc i) xs) is ∙ ap (λ (n : ℕ). take i xs ++ x ∷ drop n xs) (sym (add-one i))

-- ---- files

each_push : (files : Files) (way : Way) (rows : ℕ) (fs : List FileRef) (hs : List (ℕ × ℕ × FileView)) (f : FileRef) (h : ℕ × ℕ × FileView) → HoldEach files way rows fs hs → HoldsDeltas files way rows f h
    → HoldEach files way rows (fs ++ f ∷ []) (hs ++ h ∷ [])
each_push files way rows [] [] f h all one = (one, tt)
each_push files way rows [] (x ∷ hs) f h all one = absurd all
each_push files way rows (y ∷ fs) [] f h all one = absurd all
each_push files way rows (y ∷ fs) (x ∷ hs) f h all one = (all.0, each_push files way rows fs hs f h all.1 one)

-- one file more was read
pub each_more : (files mid : Files) → mid ≡ files → (way : Way) (rows : ℕ) (list : List FileRef) (i : ℕ) (d f : FileRef) (held held1 : List FileHeld) (h : FileHeld) → i < length list → get_or list i d ≡ f
    → HoldEach files way rows (take i list) (as_files held) → held1 ≡ held ++ h ∷ [] → HoldsDeltas mid way rows f (as_file h) → HoldEach files way rows (take (i + 1) list) (as_files held1)
each_more files mid same way rows list i d f held held1 h lt is so_far added one =
    let front : take (i + 1) list ≡ take i list ++ f ∷ [] = take_more list i d lt ∙ ap (λ (x : FileRef). take i list ++ x ∷ []) is in
    let views : as_files held1 ≡ as_files held ++ as_file h ∷ [] = ap as_files added ∙ map_push as_file held h in
    let here : HoldsDeltas files way rows f (as_file h) = subst (λ (x : Files). HoldsDeltas x way rows f (as_file h)) same one in
    subst (λ (l : List FileRef). HoldEach files way rows l (as_files held1)) (sym front)
    (subst (λ (l : List (ℕ × ℕ × FileView)). HoldEach files way rows (take i list ++ f ∷ []) l) (sym views) (each_push files way rows (take i list) (as_files held) f (as_file h) so_far here))

-- one file more is the first at fault
pub list_fault : (files mid : Files) → mid ≡ files → (way : Way) (rows : ℕ) (list : List FileRef) (i : ℕ) (d f : FileRef) (held : List FileHeld) (file offset : ℕ) → i < length list → get_or list i d ≡ f
    → HoldEach files way rows (take i list) (as_files held) → file ≡ f.file → IsDeltasFault mid way rows f offset → IsListFault files way rows list file offset
list_fault files mid same way rows list i d f held file offset lt is so_far name fault = record {
  front = take i list;
  next = f;
  behind = drop (i + 1) list;
  parts = parted list i d f lt is;
  records = as_files held;
  stand = so_far;
  fault = subst (λ (x : Files). IsDeltasFault x way rows f offset) same fault;
  file_is = name;
}

-- ---- the lists of a rowset

pub undo_fault : (files mid : Files) → mid ≡ files → (r : MetaRowset) (base : BaseHeld) (rows : ℕ) (list : List FileRef) (file offset : ℕ) → HoldsBase files r.base (base_in base) → rows ≡ length base.set.value.rows → list ≡ r.undo
    → IsListFault mid Undo rows list file offset → IsRowsetFault files r file offset
undo_fault files mid same r base rows list file offset holds count listed fault =
    in_undo (base_in base) holds
    (subst (λ (x : Files). IsListFault x Undo (length base.set.value.rows) r.undo file offset) same
    (subst (λ (n : ℕ). IsListFault mid Undo n r.undo file offset) count (subst (λ (l : List FileRef). IsListFault mid Undo rows l file offset) listed fault)))

pub redo_fault : (files mid last : Files) → mid ≡ files → last ≡ files → (r : MetaRowset) (base : BaseHeld) (rows : ℕ) (undo redo : List FileRef) (undos : List FileHeld) (file offset : ℕ) → HoldsBase files r.base (base_in base)
    → rows ≡ length base.set.value.rows → undo ≡ r.undo → HoldEach mid Undo rows undo (as_files undos) → redo ≡ r.redo → IsListFault last Redo rows redo file offset → IsRowsetFault files r file offset
redo_fault files mid last same_mid same_last r base rows undo redo undos file offset holds count undo_is stand redo_is fault =
    in_redo (base_in base) holds (as_files undos)
    (subst (λ (x : Files). HoldEach x Undo (length base.set.value.rows) r.undo (as_files undos)) same_mid
    (subst (λ (n : ℕ). HoldEach mid Undo n r.undo (as_files undos)) count (subst (λ (l : List FileRef). HoldEach mid Undo rows l (as_files undos)) undo_is stand)))
    (subst (λ (x : Files). IsListFault x Redo (length base.set.value.rows) r.redo file offset) same_last
    (subst (λ (n : ℕ). IsListFault last Redo n r.redo file offset) count (subst (λ (l : List FileRef). IsListFault last Redo rows l file offset) redo_is fault)))

-- ---- rowsets

all_push : (files : Files) (rs : List MetaRowset) (hs : List HeldFiles) (r : MetaRowset) (h : HeldFiles) → HoldAll files rs hs → HoldsRowset files r h → HoldAll files (rs ++ r ∷ []) (hs ++ h ∷ [])
all_push files [] [] r h all one = (one, tt)
all_push files [] (x ∷ hs) r h all one = absurd all
all_push files (y ∷ rs) [] r h all one = absurd all
all_push files (y ∷ rs) (x ∷ hs) r h all one = (all.0, all_push files rs hs r h all.1 one)

-- one rowset more was read
pub all_more : (files mid : Files) → mid ≡ files → (list : List MetaRowset) (i : ℕ) (r : MetaRowset) (held held1 : List RowSetData) (h : RowSetData) → i < length list → get_or list i r ≡ r → HoldAll files (take i list) (map held_in held)
    → held1 ≡ held ++ h ∷ [] → HoldsRowset mid r (held_in h) → HoldAll files (take (i + 1) list) (map held_in held1)
all_more files mid same list i r held held1 h lt is so_far added one =
    let front : take (i + 1) list ≡ take i list ++ r ∷ [] = take_more list i r lt ∙ ap (λ (x : MetaRowset). take i list ++ x ∷ []) is in
    let views : map held_in held1 ≡ map held_in held ++ held_in h ∷ [] = ap (λ (l : List RowSetData). map held_in l) added ∙ map_push held_in held h in
    let here : HoldsRowset files r (held_in h) = subst (λ (x : Files). HoldsRowset x r (held_in h)) same one in
    subst (λ (l : List MetaRowset). HoldAll files l (map held_in held1)) (sym front)
    (subst (λ (l : List HeldFiles). HoldAll files (take i list ++ r ∷ []) l) (sym views) (all_push files (take i list) (map held_in held) r (held_in h) so_far here))

-- a file of one rowset more is the first at fault
pub first_fault : (files mid : Files) → mid ≡ files → (list : List MetaRowset) (i : ℕ) (r : MetaRowset) (held : List RowSetData) (file offset : ℕ) → i < length list → get_or list i r ≡ r → HoldAll files (take i list) (map held_in held)
    → IsRowsetFault mid r file offset → IsFirstFault files list file offset
first_fault files mid same list i r held file offset lt is so_far fault = record {
  front = take i list;
  next = r;
  behind = drop (i + 1) list;
  parts = parted list i r r lt is;
  before = map held_in held;
  stand = so_far;
  fault = subst (λ (x : Files). IsRowsetFault x r file offset) same fault;
}

fresh_end : (held : List RowSetData) (h : RowSetData) → AreFresh held → h.fresh ≡ [] → AreFresh (held ++ h ∷ [])
fresh_end [] h all one = (one, tt)
fresh_end (x ∷ held) h all one = (all.0, fresh_end held h all.1 one)

pub fresh_more : (held held1 : List RowSetData) (h : RowSetData) → AreFresh held → held1 ≡ held ++ h ∷ [] → h.fresh ≡ [] → AreFresh held1
fresh_more held held1 h all added one = subst (λ (l : List RowSetData). AreFresh l) (sym added) (fresh_end held h all one)

pub numbers_more : (list : List MetaRowset) (i : ℕ) (r : MetaRowset) (held held1 : List RowSetData) (h : RowSetData) → i < length list → get_or list i r ≡ r → numbers_in held ≡ numbers_named (take i list) → held1 ≡ held ++ h ∷ [] → h.number ≡ r.rowset
    → numbers_in held1 ≡ numbers_named (take (i + 1) list)
numbers_more list i r held held1 h lt is so added one =
    ap numbers_in added ∙ map-append (λ (d : RowSetData). d.number) held (h ∷ [])
    ∙ (λ k. so k ++ one k ∷ [])
    ∙ sym (ap numbers_named (take_more list i r lt ∙ ap (λ (x : MetaRowset). take i list ++ x ∷ []) is) ∙ map-append (λ (x : MetaRowset). x.rowset) (take i list) (r ∷ []))

-- ---- as a superblock names them

pub named_more : (list : List FileRef) (i : ℕ) (d f : FileRef) (held held1 : List FileHeld) (h : FileHeld) → i < length list → get_or list i d ≡ f → deltas_named (as_files held) ≡ take i list → held1 ≡ held ++ h ∷ []
    → delta_named (as_file h) ≡ f → deltas_named (as_files held1) ≡ take (i + 1) list
named_more list i d f held held1 h lt is so added one =
    ap (λ (fs : List FileHeld). deltas_named (as_files fs)) added ∙ ap deltas_named (map_push as_file held h) ∙ map_push delta_named (as_files held) (as_file h)
    ∙ (λ k. so k ++ one k ∷ []) ∙ sym (take_more list i d lt ∙ ap (λ (x : FileRef). take i list ++ x ∷ []) is)

names_push : (rs : List MetaRowset) (hs : List HeldFiles) (r : MetaRowset) (h : HeldFiles) → AreNamed rs hs → Names r h → AreNamed (rs ++ r ∷ []) (hs ++ h ∷ [])
names_push [] [] r h all one = (one, tt)
names_push [] (x ∷ hs) r h all one = absurd all
names_push (y ∷ rs) [] r h all one = absurd all
names_push (y ∷ rs) (x ∷ hs) r h all one = (all.0, names_push rs hs r h all.1 one)

pub names_more : (list : List MetaRowset) (i : ℕ) (r : MetaRowset) (held held1 : List RowSetData) (h : RowSetData) → i < length list → get_or list i r ≡ r → AreNamed (take i list) (map held_in held)
    → held1 ≡ held ++ h ∷ [] → Names r (held_in h) → AreNamed (take (i + 1) list) (map held_in held1)
names_more list i r held held1 h lt is so_far added one =
    let front : take (i + 1) list ≡ take i list ++ r ∷ [] = take_more list i r lt ∙ ap (λ (x : MetaRowset). take i list ++ x ∷ []) is in
    let views : map held_in held1 ≡ map held_in held ++ held_in h ∷ [] = ap (λ (l : List RowSetData). map held_in l) added ∙ map_push held_in held h in
    subst (λ (l : List MetaRowset). AreNamed l (map held_in held1)) (sym front)
    (subst (λ (l : List HeldFiles). AreNamed (take i list ++ r ∷ []) l) (sym views) (names_push (take i list) (map held_in held) r (held_in h) so_far one))

-- the files of a rowset, each list as it is named
pub names_rowset : (r : MetaRowset) (base : BaseHeld) (undos redos : List FileHeld) (undo redo : List FileRef) → base_named (base_in base) ≡ r.base → deltas_named (as_files undos) ≡ undo → undo ≡ r.undo → deltas_named (as_files redos) ≡ redo → redo ≡ r.redo
    → Names r (record { number = r.rowset; base = base_in base; undos = as_files undos; redos = as_files redos })
names_rowset r base undos redos undo redo is_base is_undo same_undo is_redo same_redo = λ k. record { rowset = r.rowset; last_dms = r.last_dms; base = is_base k; undo = (is_undo ∙ same_undo) k; redo = (is_redo ∙ same_redo) k }
