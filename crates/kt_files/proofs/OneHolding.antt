-- The files of a superblock hold one thing.
use Rattle.std.proofs.Common.{◌≡◌, ℕ, List, [], ◌∷◌, Ok, Result, length, refl, sym, ap, subst, ◌∙◌}
use Rattle.kt_disk.specs.Disk.{Files}
use Rattle.kt_super.specs.declared.meta.FileRef.{FileRef}
use Rattle.kt_super.specs.declared.meta.MetaRowset.{MetaRowset}
use Rattle.kt_history.specs.declared.changes.Delta.{Delta}
use Rattle.kt_baseset.specs.Tables.{BaseValue}
use Rattle.kt_baseset.proofs.Once.{base_is}
use Rattle.kt_deltafile.specs.declared.file.Way.{Way}
use Rattle.kt_deltafile.specs.declared.file.Way.TheVariants.{Redo, Undo}
use Rattle.kt_deltafile.specs.File.{FileView}
use Rattle.kt_deltafile.specs.Rules.{FileFits}
use Rattle.kt_deltafile.specs.Spelling.{spelling}
use Rattle.kt_deltafile.specs.Reading.{file_of}
use Rattle.kt_deltafile.proofs.Files.{file_again}
use Rattle.kt_diskrowset.specs.Rowset.{HeldFiles}
use Rattle.kt_files.specs.Bytes.{bytes_of}
use Rattle.kt_files.specs.Reading.{HoldsBase, HoldsDeltas, HoldEach, HoldsRowset}
use Rattle.kt_files.specs.Laws.{files_hold_one}

two_oks : {A E : Type 0} (x : Result A E) (a b : A) → x ≡ Ok a → x ≡ Ok b → a ≡ b
two_oks x a b e f = cc

pub base_one : (files : Files) (f : FileRef) (a b : ℕ × ℕ × BaseValue) → HoldsBase files f a → HoldsBase files f b → a ≡ b
base_one files f a b g h =
    let same = base_is a.2.schema b.2.schema a.2.rows b.2.rows (bytes_of files f) g.spelled h.spelled in
    λ k. ((g.file ∙ sym h.file) k, (g.len ∙ sym h.len) k, record { schema = same.0 k; rows = same.1 k })

list_one : (way : Way) (rows : ℕ) (xs ys : List Delta) → FileFits way rows xs → FileFits way rows ys → spelling way xs ≡ spelling way ys → xs ≡ ys
list_one way rows xs ys g h e =
    let x : FileView = record { way = way; list = xs } in
    let y : FileView = record { way = way; list = ys } in
    ap (λ (v : FileView). v.list) (two_oks (file_of rows (spelling way ys)) x y (ap (file_of rows) (sym e) ∙ file_again rows x g) (file_again rows y h))

deltas_one : (files : Files) (way : Way) (rows : ℕ) (f : FileRef) (a b : ℕ × ℕ × FileView) → HoldsDeltas files way rows f a → HoldsDeltas files way rows f b → a ≡ b
deltas_one files way rows f a b g h =
    let lists = list_one way rows a.2.list b.2.list g.fits h.fits (sym g.spelled ∙ h.spelled) in
    λ k. ((g.file ∙ sym h.file) k, (g.len ∙ sym h.len) k, record { way = (g.way_is ∙ sym h.way_is) k; list = lists k })

each_one : (files : Files) (way : Way) (rows : ℕ) (fs : List FileRef) (xs ys : List (ℕ × ℕ × FileView)) → HoldEach files way rows fs xs → HoldEach files way rows fs ys → xs ≡ ys
each_one files way rows [] [] [] g h = refl
each_one files way rows [] [] (y ∷ ys) g h = absurd h
each_one files way rows [] (x ∷ xs) ys g h = absurd g
each_one files way rows (f ∷ fs) [] ys g h = absurd g
each_one files way rows (f ∷ fs) (x ∷ xs) [] g h = absurd h
each_one files way rows (f ∷ fs) (x ∷ xs) (y ∷ ys) g h =
    let first = deltas_one files way rows f x y g.0 h.0 in
    let rest = each_one files way rows fs xs ys g.1 h.1 in
    λ k. first k ∷ rest k

rowset_one : (files : Files) (r : MetaRowset) (a b : HeldFiles) → HoldsRowset files r a → HoldsRowset files r b → a ≡ b
rowset_one files r a b g h =
    let base = base_one files r.base a.base b.base g.base h.base in
    let count : length b.base.2.rows ≡ length a.base.2.rows = ap (λ (v : ℕ × ℕ × BaseValue). length v.2.rows) (sym base) in
    let undos = each_one files Undo (length a.base.2.rows) r.undo a.undos b.undos g.undos (subst (λ n. HoldEach files Undo n r.undo b.undos) count h.undos) in
    let redos = each_one files Redo (length a.base.2.rows) r.redo a.redos b.redos g.redos (subst (λ n. HoldEach files Redo n r.redo b.redos) count h.redos) in
    λ k. record { number = (g.number ∙ sym h.number) k; base = base k; undos = undos k; redos = redos k }

pub all_one : files_hold_one
all_one files [] [] [] g h = refl
all_one files [] [] (y ∷ ys) g h = absurd h
all_one files [] (x ∷ xs) ys g h = absurd g
all_one files (r ∷ rs) [] ys g h = absurd g
all_one files (r ∷ rs) (x ∷ xs) [] g h = absurd h
all_one files (r ∷ rs) (x ∷ xs) (y ∷ ys) g h =
    let first = rowset_one files r x y g.0 h.0 in
    let rest = all_one files rs xs ys g.1 h.1 in
    λ k. first k ∷ rest k
