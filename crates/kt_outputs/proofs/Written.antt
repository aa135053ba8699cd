-- Files that are written one after another, each under the next number.
use Rattle.std.proofs.Common.{◌≡◌, ◌≢◌, ◌≤◌, ◌<◌, ◌+◌, ◌⊎◌, ℕ, suc, List, [], ◌∷◌, ◌++◌, Option, Some, None, length, map, take, get_or, inl, inr, refl, sym, ap, subst, ◌∙◌, arith}
use Rattle.std.specs.List.{AllByRecursion}
use Rattle.std.proofs.lemmas.Bool.{cases_lt}
use Rattle.std.proofs.lemmas.List.{append-nil, take_more, map_push, length-take-le}
use Rattle.std.proofs.lemmas.Grind.{flat_map-append}
use Rattle.std.proofs.Math.Seq.{take-length}
use Rattle.kt_disk.specs.Disk.{Files, held, LeavesOnly, ButFiles}
use Rattle.kt_disk.proofs.Moments.{started, joined, weaker}
use Rattle.kt_super.specs.declared.meta.FileRef.{FileRef}
use Rattle.kt_super.specs.declared.meta.MetaRowset.{MetaRowset}
use Rattle.kt_baseset.specs.Tables.{BaseValue}
use Rattle.kt_baseset.specs.Spelling.{SpellsBase}
use Rattle.kt_history.specs.declared.changes.Delta.{Delta}
use Rattle.kt_rowfiles.specs.Files.{DiskRowset}
use Rattle.kt_diskrowset.specs.Rows.{rows_of}
use Rattle.kt_deltafile.specs.declared.file.Way.{Way}
use Rattle.kt_deltafile.specs.declared.file.Way.TheVariants.{Redo, Undo}
use Rattle.kt_deltafile.specs.File.{FileView}
use Rattle.kt_deltafile.specs.Rules.{FileFits}
use Rattle.kt_deltafile.specs.Spelling.{spelling}
use Rattle.kt_diskrowset.specs.declared.base.BaseHeld.{BaseHeld}
use Rattle.kt_diskrowset.specs.declared.files.FileHeld.{FileHeld}
use Rattle.kt_diskrowset.specs.declared.data.RowSetData.{RowSetData}
use Rattle.kt_diskrowset.specs.Files.{as_file, as_files, lists_of}
use Rattle.kt_diskrowset.specs.Rowset.{HeldFiles, held_with, files_with}
use Rattle.kt_diskrowset.specs.Data.{held_in, files_in}
use Rattle.kt_files.specs.Held.{base_in}
use Rattle.kt_files.specs.Reading.{HoldsBase, HoldsDeltas, HoldEach, HoldsRowset, HoldAll}
use Rattle.kt_outputs.specs.Outputs.{base_ref, delta_ref, meta_in, delta_numbers, file_numbers, all_file_numbers, CountUp, IsOfWay, AreOfWay, IsWhole, AreWhole, AreThere, ButNumbers, HasLeft, AreStable, AreWritten}

-- ---- the disk

module _ {D : Type 0} (seen : D → Files) (now : D → ℕ) (leaves : D → ℕ → Files → Type 0) where
  -- nothing was written
  pub left_none : (first : ℕ) (disk : D) → HasLeft seen now leaves first first disk disk
  left_none first disk = record {
    reads = λ n h. refl;
    any_moment = started seen now leaves (ButNumbers now leaves disk first first) disk (λ c left. record { image = c; was_left = left; others = λ n h. refl });
  }

  pub stable_none : (first : ℕ) (disk : D) → AreStable seen now leaves first first disk
  stable_none first disk c left n up low = absurd (omega arith)

  -- one file was
  apart_from : (file n : ℕ) → (n < file) ⊎ (file + 1 ≤ n) → n ≢ file
  apart_from file n (inl lt) e = omega arith
  apart_from file n (inr le) e = omega arith

  pub left_one : (file : ℕ) (old new : D) → ((n : ℕ) → n ≢ file → seen new n ≡ seen old n) → LeavesOnly now leaves (ButFiles now leaves old (file ∷ [])) old new → HasLeft seen now leaves file (file + 1) old new
  left_one file old new others moments = record {
    reads = λ n h. others n (apart_from file n h);
    any_moment = weaker now leaves (ButFiles now leaves old (file ∷ [])) (ButNumbers now leaves old file (file + 1)) old new
        (λ c b. record { image = b.image; was_left = b.was_left; others = λ n h. b.others n (apart_from file n h, tt) }) moments;
  }

  pub stable_one : (file : ℕ) (bytes : List ℕ) (new : D) → seen new file ≡ Some bytes → ((c : Files) → leaves new (now new) c → c file ≡ Some bytes) → AreStable seen now leaves file (file + 1) new
  stable_one file bytes new reads all c left n up low =
      let same : n ≡ file = omega arith in
      ap c same ∙ all c left ∙ sym (ap (seen new) same ∙ reads)

  -- one run behind another
  module _ (first mid next : ℕ) (old amid new : D) (up : first ≤ mid) (on : mid ≤ next) where
    pub left_then : HasLeft seen now leaves first mid old amid → HasLeft seen now leaves mid next amid new → HasLeft seen now leaves first next old new
    left_then a b = record {
      reads = λ n h. b.reads n (below n h) ∙ a.reads n (above n h);
      any_moment = joined now leaves (ButNumbers now leaves old first next) old amid new
          (weaker now leaves (ButNumbers now leaves old first mid) (ButNumbers now leaves old first next) old amid (λ c was. record { image = was.image; was_left = was.was_left; others = λ n h. was.others n (above n h) }) a.any_moment)
          (record {
            later = b.any_moment.later;
            each = λ m c lo hi left.
                let from = b.any_moment.each m c lo hi left in
                let was = a.any_moment.each (now amid) from.image a.any_moment.later (omega arith) from.was_left in
                record { image = was.image; was_left = was.was_left; others = λ n h. from.others n (below n h) ∙ was.others n (above n h) };
            past = b.any_moment.past;
            keeps = b.any_moment.keeps;
          });
    }
      where
        below : (n : ℕ) → (n < first) ⊎ (next ≤ n) → (n < mid) ⊎ (next ≤ n)
        below n (inl lt) = inl (omega arith)
        below n (inr le) = inr le

        above : (n : ℕ) → (n < first) ⊎ (next ≤ n) → (n < first) ⊎ (mid ≤ n)
        above n (inl lt) = inl lt
        above n (inr le) = inr (omega arith)

    pub stable_then : AreStable seen now leaves first mid amid → HasLeft seen now leaves mid next amid new → AreStable seen now leaves mid next new → AreStable seen now leaves first next new
    stable_then a b s c left n lo hi = elim (cases_lt n mid) [
      | inl lt ↦
          let from = b.any_moment.each (now new) c b.any_moment.later (omega arith) left in
          from.others n (inl lt) ∙ a from.image from.was_left n lo lt ∙ sym (b.reads n (inl lt))
      | inr ge ↦ s c left n ge hi
    ]

    -- files that are as in the end are as in between
    pub there_before : HasLeft seen now leaves mid next amid new → (files : Files) → AreThere first next (seen new) files → AreThere first mid (seen amid) files
    there_before b files same n lo hi = same n lo (omega arith) ∙ b.reads n (inl hi)

    pub there_behind : (files : Files) → AreThere first next (seen new) files → AreThere mid next (seen new) files
    there_behind files same n lo hi = same n (omega arith) hi

    -- the numbers behind are free
    pub free_then : HasLeft seen now leaves first mid old amid → ((n : ℕ) → first ≤ n → seen old n ≡ None) → (n : ℕ) → mid ≤ n → seen amid n ≡ None
    free_then a none n le = a.reads n (inr le) ∙ none n (omega arith)

-- three runs, one behind another
module _ {D : Type 0} (seen : D → Files) (now : D → ℕ) (leaves : D → ℕ → Files → Type 0) (n0 n1 n2 n3 : ℕ) (d0 d1 d2 d3 : D) (up : n0 ≤ n1) (on : n1 ≤ n2) (last : n2 ≤ n3)
    (a : HasLeft seen now leaves n0 n1 d0 d1) (b : HasLeft seen now leaves n1 n2 d1 d2) (c : HasLeft seen now leaves n2 n3 d2 d3) where
  rest_up : n1 ≤ n3
  rest_up = omega arith

  whole_up : n0 ≤ n2
  whole_up = omega arith

  rest_left : HasLeft seen now leaves n1 n3 d1 d3
  rest_left = left_then seen now leaves n1 n2 n3 d1 d2 d3 on last b c

  pub left_three : HasLeft seen now leaves n0 n3 d0 d3
  left_three = left_then seen now leaves n0 n1 n3 d0 d1 d3 up rest_up a rest_left

  pub stable_three : AreStable seen now leaves n0 n1 d1 → AreStable seen now leaves n1 n2 d2 → AreStable seen now leaves n2 n3 d3 → AreStable seen now leaves n0 n3 d3
  stable_three s t u = stable_then seen now leaves n0 n1 n3 d0 d1 d3 up rest_up s rest_left (stable_then seen now leaves n1 n2 n3 d1 d2 d3 on last t c u)

  pub there_first : (files : Files) → AreThere n0 n3 (seen d3) files → AreThere n0 n1 (seen d1) files
  there_first files there = there_before seen now leaves n0 n1 n3 d0 d1 d3 up rest_up rest_left files there

  pub there_second : (files : Files) → AreThere n0 n3 (seen d3) files → AreThere n1 n2 (seen d2) files
  there_second files there = there_before seen now leaves n1 n2 n3 d1 d2 d3 on last c files (there_behind seen now leaves n0 n1 n3 d0 d1 d3 up rest_up files there)

  pub there_third : (files : Files) → AreThere n0 n3 (seen d3) files → AreThere n2 n3 (seen d3) files
  there_third files there = there_behind seen now leaves n0 n2 n3 d0 d2 d3 whole_up last files there

-- ---- files

bytes_there : (files : Files) (file len : ℕ) (bytes : List ℕ) → files file ≡ Some bytes → len ≡ length bytes → (len ≤ length (held files file)) × (take len (held files file) ≡ bytes)
bytes_there files file len bytes is long =
    let same : held files file ≡ bytes = ap (λ (o : Option (List ℕ)). held (λ n. o) file) is in (
      subst (λ (l : List ℕ). len ≤ length l) (sym same) (omega arith),
      ap (take len) same ∙ ap (λ (n : ℕ). take n bytes) long ∙ take-length bytes,
    )

pub base_holds : (files : Files) (b was : BaseHeld) (bytes : List ℕ) → b.set.value ≡ was.set.value → SpellsBase was.set.value.schema was.set.value.rows bytes → files b.file ≡ Some bytes → b.len ≡ length bytes → HoldsBase files (base_ref b) (base_in b)
base_holds files b was bytes same spelled is long =
    let there = bytes_there files b.file b.len bytes is long in
    record {
      file = refl;
      len = refl;
      there = there.0;
      spelled = subst (SpellsBase b.set.value.schema b.set.value.rows) (sym there.1) (subst (λ (v : BaseValue). SpellsBase v.schema v.rows bytes) (sym same) spelled);
    }

pub deltas_hold : (files : Files) (way : Way) (rows : ℕ) (f was : FileHeld) (bytes : List ℕ) → f.deltas.value ≡ was.deltas.value → IsOfWay way rows was → bytes ≡ spelling was.deltas.value.way was.deltas.value.list → files f.file ≡ Some bytes → f.len ≡ length bytes
    → HoldsDeltas files way rows (delta_ref f) (as_file f)
deltas_hold files way rows f was bytes same of spelled is long =
    let there = bytes_there files f.file f.len bytes is long in
    record {
      file = refl;
      len = refl;
      there = there.0;
      way_is = ap (λ (v : FileView). v.way) same ∙ of.way_is;
      fits = subst (λ (v : FileView). FileFits way rows v.list) (sym same) of.fits;
      spelled = there.1 ∙ spelled ∙ ap (λ (w : Way). spelling w was.deltas.value.list) of.way_is ∙ ap (λ (v : FileView). spelling way v.list) (sym same);
    }

-- its files hold a disk rowset
pub rowset_holds : (files : Files) (number : ℕ) (b : BaseHeld) (undo redo : List FileHeld) (was : RowSetData) (undos redos : List FileHeld) → b.set.value ≡ was.base.set.value → undos ≡ was.undo → redos ≡ was.redo → IsWhole was → HoldsBase files (base_ref b) (base_in b)
    → ((rows : ℕ) → AreOfWay Undo rows undos → HoldEach files Undo rows (map delta_ref undo) (as_files undo)) → ((rows : ℕ) → AreOfWay Redo rows redos → HoldEach files Redo rows (map delta_ref redo) (as_files redo))
    → HoldsRowset files (record { rowset = number; last_dms = 0; base = base_ref b; undo = map delta_ref undo; redo = map delta_ref redo }) (held_with number b undo redo)
rowset_holds files number b undo redo was undos redos same undo_is redo_is whole base each_undo each_redo =
    let rows : length was.base.set.value.rows ≡ length b.set.value.rows = ap (λ (v : BaseValue). length v.rows) (sym same) in
    record {
      number = refl;
      base = base;
      undos = each_undo (length b.set.value.rows) (subst (λ (n : ℕ). AreOfWay Undo n undos) rows (subst (AreOfWay Undo (length was.base.set.value.rows)) (sym undo_is) whole.undo));
      redos = each_redo (length b.set.value.rows) (subst (λ (n : ℕ). AreOfWay Redo n redos) rows (subst (AreOfWay Redo (length was.base.set.value.rows)) (sym redo_is) whole.redo));
    }

-- and what they tell is what the other's tell, under its number
pub rowset_same : (number : ℕ) (b : BaseHeld) (undo redo : List FileHeld) (was : RowSetData) → b.set.value ≡ was.base.set.value → lists_of undo ≡ lists_of was.undo → lists_of redo ≡ lists_of was.redo → files_with number b undo redo ≡ record (files_in was) { rowset = number }
rowset_same number b undo redo was base undos redos =
    told b.set.value was.base.set.value (lists_of undo) (lists_of was.undo) (lists_of redo) (lists_of was.redo) base undos redos
  where
    files_told : BaseValue → List (List Delta) → List (List Delta) → DiskRowset
    files_told v us rs = record { rowset = number; last_dms = 0; base = rows_of v.rows; undos = us; redos = rs }

    told : (v w : BaseValue) (us vs rs ws : List (List Delta)) → v ≡ w → us ≡ vs → rs ≡ ws → files_told v us rs ≡ files_told w vs ws
    told v w us vs rs ws x y z =
        ap (λ (a : BaseValue). files_told a us rs) x ∙ ap (λ (l : List (List Delta)). files_told w l rs) y ∙ ap (λ (l : List (List Delta)). files_told w vs l) z

-- ---- numbers in turn

count_then : (first mid next : ℕ) (xs ys : List ℕ) → CountUp first mid xs → CountUp mid next ys → CountUp first next (xs ++ ys)
count_then first mid next [] ys front back = subst (λ (n : ℕ). CountUp n next ys) front back
count_then first mid next (x ∷ xs) ys front back = (front.0, count_then (suc first) mid next xs ys front.1 back)

pub counted_files : (first mid next : ℕ) (held more : List FileHeld) (f : FileHeld) → more ≡ held ++ f ∷ [] → CountUp first mid (delta_numbers held) → f.file ≡ mid → next ≡ mid + 1 → CountUp first next (delta_numbers more)
counted_files first mid next held more f added so_far is up =
    let last : next ≡ suc mid = omega arith in
    subst (CountUp first next) (sym (ap delta_numbers added ∙ map_push (λ (g : FileHeld). g.file) held f)) (count_then first mid next (delta_numbers held) (f.file ∷ []) so_far (is, last))

pub counted_rowset : (n0 n1 n2 n3 file : ℕ) (undos redos : List ℕ) → file ≡ n0 → n1 ≡ n0 + 1 → CountUp n1 n2 undos → CountUp n2 n3 redos → CountUp n0 n3 (file ∷ undos ++ redos)
counted_rowset n0 n1 n2 n3 file undos redos is up undo redo =
    let second : n1 ≡ suc n0 = omega arith in
    count_then n0 n2 n3 (file ∷ undos) redos (is, subst (λ (n : ℕ). CountUp n n2 undos) second undo) redo

pub counted_rowsets : (first mid next : ℕ) (done more : List RowSetData) (d : RowSetData) → more ≡ done ++ d ∷ [] → CountUp first mid (all_file_numbers done) → CountUp mid next (file_numbers d) → CountUp first next (all_file_numbers more)
counted_rowsets first mid next done more d added so_far own =
    subst (CountUp first next) (sym (ap all_file_numbers added ∙ flat_map-append file_numbers done (d ∷ [])))
    (count_then first mid next (all_file_numbers done) (file_numbers d ++ []) so_far (subst (CountUp mid next) (sym (append-nil (file_numbers d))) own))

-- ---- one more of each

each_push : (files : Files) (way : Way) (rows : ℕ) (fs : List FileRef) (hs : List (ℕ × ℕ × FileView)) (f : FileRef) (h : ℕ × ℕ × FileView) → HoldEach files way rows fs hs → HoldsDeltas files way rows f h
    → HoldEach files way rows (fs ++ f ∷ []) (hs ++ h ∷ [])
each_push files way rows [] [] f h all one = (one, tt)
each_push files way rows [] (x ∷ hs) f h all one = absurd all
each_push files way rows (y ∷ fs) [] f h all one = absurd all
each_push files way rows (y ∷ fs) (x ∷ hs) f h all one = (all.0, each_push files way rows fs hs f h all.1 one)

pub all_push : {A : Type 0} (P : A → Type 0) (xs : List A) (x : A) → AllByRecursion P (xs ++ x ∷ []) → AllByRecursion P xs × P x
all_push P [] x h = (tt, h.0)
all_push P (y ∷ xs) x h = let more = all_push P xs x h.1 in ((h.0, more.0), more.1)

pub lists_more : (list : List FileHeld) (i : ℕ) (d f : FileHeld) (files more : List FileHeld) → i < length list → lists_of files ≡ lists_of (take i list) → more ≡ files ++ f ∷ [] → f.deltas.value ≡ (get_or list i d).deltas.value → lists_of more ≡ lists_of (take (i + 1) list)
lists_more list i d f files more lt so_far added same =
    ap lists_of added ∙ map_push (λ (g : FileHeld). g.deltas.value.list) files f
    ∙ ap (λ l. l ++ f.deltas.value.list ∷ []) so_far ∙ ap (λ (v : FileView). lists_of (take i list) ++ v.list ∷ []) same
    ∙ sym (ap lists_of (take_more list i d lt) ∙ map_push (λ (g : FileHeld). g.deltas.value.list) (take i list) (get_or list i d))

pub each_written : (files : Files) (way : Way) (rows : ℕ) (held more : List FileHeld) (f : FileHeld) → more ≡ held ++ f ∷ [] → HoldEach files way rows (map delta_ref held) (as_files held) → HoldsDeltas files way rows (delta_ref f) (as_file f)
    → HoldEach files way rows (map delta_ref more) (as_files more)
each_written files way rows held more f added all one =
    subst (λ (l : List FileHeld). HoldEach files way rows (map delta_ref l) (as_files l)) (sym added)
    (subst (λ (l : List FileRef). HoldEach files way rows l (as_files (held ++ f ∷ []))) (sym (map_push delta_ref held f))
    (subst (λ (l : List (ℕ × ℕ × FileView)). HoldEach files way rows (map delta_ref held ++ delta_ref f ∷ []) l) (sym (map_push as_file held f))
    (each_push files way rows (map delta_ref held) (as_files held) (delta_ref f) (as_file f) all one)))

all_hold_push : (files : Files) (rs : List MetaRowset) (hs : List HeldFiles) (r : MetaRowset) (h : HeldFiles) → HoldAll files rs hs → HoldsRowset files r h → HoldAll files (rs ++ r ∷ []) (hs ++ h ∷ [])
all_hold_push files [] [] r h all one = (one, tt)
all_hold_push files [] (x ∷ hs) r h all one = absurd all
all_hold_push files (y ∷ rs) [] r h all one = absurd all
all_hold_push files (y ∷ rs) (x ∷ hs) r h all one = (all.0, all_hold_push files rs hs r h all.1 one)

pub all_written : (files : Files) (held more : List RowSetData) (d : RowSetData) → more ≡ held ++ d ∷ [] → HoldAll files (map (meta_in 0) held) (map held_in held) → HoldsRowset files (meta_in 0 d) (held_in d) → HoldAll files (map (meta_in 0) more) (map held_in more)
all_written files held more d added all one =
    subst (λ (l : List RowSetData). HoldAll files (map (meta_in 0) l) (map held_in l)) (sym added)
    (subst (λ (l : List MetaRowset). HoldAll files l (map held_in (held ++ d ∷ []))) (sym (map_push (meta_in 0) held d))
    (subst (λ (l : List HeldFiles). HoldAll files (map (meta_in 0) held ++ meta_in 0 d ∷ []) l) (sym (map_push held_in held d))
    (all_hold_push files (map (meta_in 0) held) (map held_in held) (meta_in 0 d) (held_in d) all one)))

written_push : (number : ℕ) (rs ds : List RowSetData) (r d : RowSetData) (last : ℕ) → AreWritten number rs ds → last ≡ number + length rs → files_in d ≡ record (files_in r) { rowset = last } → d.fresh ≡ [] → AreWritten number (rs ++ r ∷ []) (ds ++ d ∷ [])
written_push number [] [] r d last all is same fresh = (same ∙ ap (λ (n : ℕ). record (files_in r) { rowset = n }) (let e : last ≡ number = omega arith in e), fresh, tt)
written_push number [] (x ∷ ds) r d last all is same fresh = absurd all
written_push number (y ∷ rs) [] r d last all is same fresh = absurd all
written_push number (y ∷ rs) (x ∷ ds) r d last all is same fresh = (all.0, all.1, written_push (suc number) rs ds r d last all.2 (omega arith) same fresh)

pub written_more : (number last : ℕ) (list ds more : List RowSetData) (i : ℕ) (o d : RowSetData) → i < length list → AreWritten number (take i list) ds → more ≡ ds ++ d ∷ [] → last ≡ number + i → files_in d ≡ record (files_in (get_or list i o)) { rowset = last } → d.fresh ≡ []
    → AreWritten number (take (i + 1) list) more
written_more number last list ds more i o d lt all added is same fresh =
    let long : length (take i list) ≡ i = length-take-le i list (omega arith) in
    subst (λ (l : List RowSetData). AreWritten number l more) (sym (take_more list i o lt))
    (subst (λ (l : List RowSetData). AreWritten number (take i list ++ get_or list i o ∷ []) l) (sym added)
    (written_push number (take i list) ds (get_or list i o) d last all (omega arith) same fresh))

pub of_way_more : (way : Way) (rows : ℕ) (list : List FileHeld) (i : ℕ) (d : FileHeld) → i < length list → AreOfWay way rows (take (i + 1) list) → AreOfWay way rows (take i list) × IsOfWay way rows (get_or list i d)
of_way_more way rows list i d lt of = all_push (λ (f : FileHeld). IsOfWay way rows f) (take i list) (get_or list i d) (subst (AreOfWay way rows) (take_more list i d lt) of)

pub whole_more : (list : List RowSetData) (i : ℕ) (d : RowSetData) → i < length list → AreWhole (take (i + 1) list) → AreWhole (take i list) × IsWhole (get_or list i d)
whole_more list i d lt of = all_push (λ (f : RowSetData). IsWhole f) (take i list) (get_or list i d) (subst AreWhole (take_more list i d lt) of)
