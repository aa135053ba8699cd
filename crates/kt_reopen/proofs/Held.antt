-- What both images hold is what opening finds.
use Rattle.std.proofs.Common.{◌≡◌, ℕ, max, List, [], ◌∷◌, Option, Some, None, Ok, Err, Result, refl, sym, ap, ◌∙◌, subst}
use Rattle.kt_history.specs.Rows.{Row}
use Rattle.kt_history.specs.History.{Past}
use Rattle.kt_records.specs.declared.entry.Entry.{Entry}
use Rattle.kt_histlaws.specs.Histories.{past_hist}
use Rattle.kt_journal.specs.Log.{IsLog, log_of}
use Rattle.kt_loglaws.specs.Replay.{last_of}
use Rattle.kt_disk.specs.Disk.{Files}
use Rattle.kt_schema.specs.declared.column.Column.{Column}
use Rattle.kt_schema.specs.Columns.{fill_of}
use Rattle.kt_super.specs.declared.meta.Meta.{Meta}
use Rattle.kt_super.specs.Slots.{super_of}
use Rattle.kt_diskrowset.specs.Rowset.{HeldFiles}
use Rattle.kt_files.proofs.OneHolding.{all_one}
use Rattle.kt_content.specs.Places.{Super, Held, memory, fresh}
use Rattle.kt_content.specs.KeyOps.{seen, played}
use Rattle.kt_content.specs.Opening.{Placed, held_of}
use Rattle.kt_content.specs.Rules.{Rules}
use Rattle.kt_content.specs.Content.{IsContent, Shown, content_at}
use Rattle.kt_content.proofs.Opening.{opens, stopped}
use Rattle.kt_content.proofs.Options.{two_oks}
use Rattle.kt_content.proofs.Writes.{writes_have_rows}
use Rattle.kt_reopen.specs.declared.why.Why.{Why}
use Rattle.kt_reopen.specs.Both.{Read, Found, Answers, AnswersLater, read_both, nothing, super_in, first_stores, stores_after, found_or_late}
use Rattle.kt_reopen.specs.Both.Answers.{at_once, first, later}
use Rattle.kt_reopen.specs.Both.AnswersLater.{in_file, in_column, too_late, whole}
use Rattle.kt_reopen.specs.Holding.HoldBoth.{first as none_yet, later as both_there}
use Rattle.kt_reopen.specs.Holding.{HoldBoth}
use Rattle.kt_reopen.specs.Opened.{Shows}
use Rattle.kt_reopen.specs.Laws.{a_content_is_opened, what_both_hold_is_found}
use Rattle.kt_reopen.proofs.Firsts.{firsts_are}

module _ (rules : Rules) (fill : Row) (super : Super) (records : List Entry) (c : ℕ) (past : Past) (log : IsLog records) (is : IsContent rules fill super records c past) where
  -- opened stores have of each key what its content has
  pub key_is : (stores : Placed) → stores_after fill super records ≡ Ok stores → (q : List ℕ) → content_at fill super records q ≡ Ok (held_of q stores)
  key_is stores e q =
      ap (λ (l : Held). played fill super l (seen q records records)) (sym (firsts_are rules super q is.files))
      ∙ opens fill super records (first_stores super) stores records (writes_have_rows records log) e q

  pub key_shown : (stores : Placed) → stores_after fill super records ≡ Ok stores → (q : List ℕ) → Shown super.a (held_of q stores) (past_hist q past)
  key_shown stores e q =
      let k = is.keys q in
      let same : k.held ≡ held_of q stores = two_oks (content_at fill super records q) k.held (held_of q stores) k.is (key_is stores e q) in
      subst (λ (l : Held). Shown super.a l (past_hist q past)) same k.shown

  -- and opening does not stop
  never_stops : (ts : ℕ) → stores_after fill super records ≡ Err ts → ⊥
  never_stops ts e =
      let at = stopped fill super records (first_stores super) records ts (writes_have_rows records log) e in
      let none : content_at fill super records at.0 ≡ Err ts = ap (λ (l : Held). played fill super l (seen at.0 records records)) (sym (firsts_are rules super at.0 is.files)) ∙ at.1 in
      let some = (is.keys at.0).is in
      let clash : Ok (is.keys at.0).held ≡ Err ts = sym some ∙ none in cc

  by_result : (r : Result Placed ℕ) → stores_after fill super records ≡ r → (stores : Placed) × (stores_after fill super records ≡ Ok stores) × ((q : List ℕ) → Shown super.a (held_of q stores) (past_hist q past))
  by_result (Ok stores) e = (stores, e, key_shown stores e)
  by_result (Err ts) e = absurd (never_stops ts e)

pub content_opened : a_content_is_opened
content_opened rules fill super records c past log is = by_result rules fill super records c past log is (stores_after fill super records) refl

-- ---- of both images

-- what was read, in parts
abbrev meta_in : Read → Option (Option Meta)
meta_in (Ok read) = Some read.0
meta_in (Err why) = None

abbrev records_in : Read → List Entry
records_in (Ok read) = read.1
records_in (Err why) = []

not_both : {G : Type 0} (read : Read) (m : Meta) (records : List Entry) → read ≡ Ok (None, []) → read ≡ Ok (Some m, records) → G
not_both read m records e f = let clash : Some None ≡ Some (Some m) = sym (ap meta_in e) ∙ ap meta_in f in absurd (cc)

-- what is found is no refusal
not_err : {G : Type 0} (f : Found) (why : Why) (answer : Result Found Why) → answer ≡ Ok f → answer ≡ Err why → G
not_err f why answer e g = let clash : Ok f ≡ Err why = sym e ∙ g in absurd (cc)

shows_of : (rules : Rules) (fill : Row) (super : Super) (records : List Entry) (c : ℕ) (past : Past) (f : Found) → IsLog f.records → IsContent rules fill super records c past
    → (r : Result Placed ℕ) → stores_after fill super records ≡ r → Ok f ≡ found_or_late super records r → Shows f c past
shows_of rules fill super records c past f log is (Err ts) e g = absurd (cc)
shows_of rules fill super records c past f log is (Ok stores) e g =
    let same : f ≡ record { super = super; records = records; last = max super.c (last_of records); stores = stores } = cc in
    let sound : IsLog records = subst IsLog (ap (λ (x : Found). x.records) same) log in
    subst (λ (x : Found). Shows x c past) (sym same) (record { last = is.last; mark = is.mark; keys = key_shown rules fill super records c past sound is stores e })

nothing_shows : (rules : Rules) (fill : Row) (c : ℕ) (past : Past) → IsContent rules fill fresh [] c past → Shows nothing c past
nothing_shows rules fill c past is = record { last = is.last; mark = is.mark; keys = key_shown rules fill fresh [] c past tt is ((memory, []) ∷ []) refl }

pub found_shows : what_both_hold_is_found
found_shows rules columns log store c past f log_is (none_yet e is) (at_once why a b) = not_err f why (Ok f) refl b
found_shows rules columns log store c past f log_is (none_yet e is) (first a b) = let same : f ≡ nothing = cc in subst (λ (x : Found). Shows x c past) (sym same) (nothing_shows rules (fill_of columns) c past is)
found_shows rules columns log store c past f log_is (none_yet e is) (later m records a l) = not_both (read_both (super_of store) (log_of log)) m records e a
found_shows rules columns log store c past f log_is (both_there m records held e hold same is) (at_once why a b) = not_err f why (Ok f) refl b
found_shows rules columns log store c past f log_is (both_there m records held e hold same is) (first a b) = not_both (read_both (super_of store) (log_of log)) m records a e
found_shows rules columns log store c past f log_is (both_there m records held e hold same is) (later n others a l) =
    let metas : Some (Some n) ≡ Some (Some m) = sym (ap meta_in a) ∙ ap meta_in e in
    let one : n ≡ m = cc in
    let lists : others ≡ records = sym (ap records_in a) ∙ ap records_in e in
    by (subst (λ (x : Meta). AnswersLater columns x records store (Ok f)) one (subst (λ (rs : List Entry). AnswersLater columns n rs store (Ok f)) lists l))
  where
    by : AnswersLater columns m records store (Ok f) → Shows f c past
    by (in_file file offset fault b) = not_err f _ (Ok f) refl b
    by (in_column found at h d b) = not_err f _ (Ok f) refl b
    by (too_late found h alike late b) = not_err f _ (Ok f) refl b
    by (whole found h alike low b) =
        let fill = fill_of columns in
        let held_is : found ≡ held = all_one store m.rowsets found held h hold in
        let answer : Ok f ≡ found_or_late (super_in m held) records (stores_after fill (super_in m held) records) = subst (λ (x : List HeldFiles). Ok f ≡ found_or_late (super_in m x) records (stores_after fill (super_in m x) records)) held_is b in
        shows_of rules fill (super_in m held) records c past f log_is is (stores_after fill (super_in m held) records) refl answer

-- the superblock that was read has the columns of the table then
pub same_table : (rules : Rules) (columns : List Column) (log store : Files) (c : ℕ) (past : Past) (m : Meta) (records : List Entry) → HoldBoth rules columns log store c past → read_both (super_of store) (log_of log) ≡ Ok (Some m, records) → m.schema ≡ columns
same_table rules columns log store c past m records (none_yet e is) read = not_both (read_both (super_of store) (log_of log)) m records e read
same_table rules columns log store c past m records (both_there n others held e hold same is) read =
    let metas : Some (Some m) ≡ Some (Some n) = sym (ap meta_in read) ∙ ap meta_in e in
    let one : m ≡ n = cc in
    ap (λ (x : Meta). x.schema) one ∙ same

-- and by the same rules it is the content of what is found
content_of : (rules : Rules) (fill : Row) (super : Super) (records : List Entry) (c : ℕ) (past : Past) (f : Found) → IsContent rules fill super records c past → (r : Result Placed ℕ) → Ok f ≡ found_or_late super records r → IsContent rules fill f.super f.records c past
content_of rules fill super records c past f is (Err ts) g = absurd (cc)
content_of rules fill super records c past f is (Ok stores) g =
    let same : f ≡ record { super = super; records = records; last = max super.c (last_of records); stores = stores } = cc in
    subst (λ (x : Found). IsContent rules fill x.super x.records c past) (sym same) is

pub content_found : (rules : Rules) (columns : List Column) (log store : Files) (c : ℕ) (past : Past) (f : Found) → HoldBoth rules columns log store c past → Answers columns log store (Ok f) → IsContent rules (fill_of columns) f.super f.records c past
content_found rules columns log store c past f (none_yet e is) (at_once why a b) = not_err f why (Ok f) refl b
content_found rules columns log store c past f (none_yet e is) (first a b) = let same : f ≡ nothing = cc in subst (λ (x : Found). IsContent rules (fill_of columns) x.super x.records c past) (sym same) is
content_found rules columns log store c past f (none_yet e is) (later m records a l) = not_both (read_both (super_of store) (log_of log)) m records e a
content_found rules columns log store c past f (both_there m records held e hold same is) (at_once why a b) = not_err f why (Ok f) refl b
content_found rules columns log store c past f (both_there m records held e hold same is) (first a b) = not_both (read_both (super_of store) (log_of log)) m records a e
content_found rules columns log store c past f (both_there m records held e hold same is) (later n others a l) =
    let metas : Some (Some n) ≡ Some (Some m) = sym (ap meta_in a) ∙ ap meta_in e in
    let one : n ≡ m = cc in
    let lists : others ≡ records = sym (ap records_in a) ∙ ap records_in e in
    by (subst (λ (x : Meta). AnswersLater columns x records store (Ok f)) one (subst (λ (rs : List Entry). AnswersLater columns n rs store (Ok f)) lists l))
  where
    by : AnswersLater columns m records store (Ok f) → IsContent rules (fill_of columns) f.super f.records c past
    by (in_file file offset fault b) = not_err f _ (Ok f) refl b
    by (in_column found at h d b) = not_err f _ (Ok f) refl b
    by (too_late found h alike late b) = not_err f _ (Ok f) refl b
    by (whole found h alike low b) =
        let fill = fill_of columns in
        let held_is : found ≡ held = all_one store m.rowsets found held h hold in
        let answer : Ok f ≡ found_or_late (super_in m held) records (stores_after fill (super_in m held) records) = subst (λ (x : List HeldFiles). Ok f ≡ found_or_late (super_in m x) records (stores_after fill (super_in m x) records)) held_is b in
        content_of rules fill (super_in m held) records c past f is (stores_after fill (super_in m held) records) answer
