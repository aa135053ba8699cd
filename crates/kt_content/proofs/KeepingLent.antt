-- A superblock that is lent, and published, can be recovered.
use Rattle.std.proofs.Common.{◌≡◌, ◌≤◌, ◌<◌, ℕ, max, List, [], ◌∷◌, ◌++◌, Bool, Some, None, refl, sym, ap, ◌∙◌, subst, arith, length, length-append, inl, inr}
use Rattle.kt_history.specs.declared.operation.RowOp.{RowOp}
use Rattle.kt_history.specs.declared.target.Target.{Target}
use Rattle.kt_history.specs.Rows.{Row}
use Rattle.kt_history.specs.History.{raise}
use Rattle.kt_records.specs.declared.entry.Entry.{Entry}
use Rattle.kt_histlaws.specs.Histories.{past_hist}
use Rattle.kt_history.specs.Stores.{Hist, Under}
use Rattle.kt_histlaws.specs.Flights.{UpTo}
use Rattle.kt_disk.specs.Disk.{Files}
use Rattle.kt_journal.specs.Log.{IsLog}
use Rattle.kt_loglaws.specs.Replay.{last_of}
use Rattle.kt_loglaws.specs.Fronts.{with_records}
use Rattle.kt_content.specs.Rules.{Rules}
use Rattle.kt_content.specs.Places.{Super, Place, Held, at_first}
use Rattle.kt_content.specs.KeyOps.{KeyOp, seen, played}
use Rattle.kt_content.specs.Content.{SameFrom, AreTold, IsContent, NumbersDiffer}
use Rattle.kt_content.specs.Agreement.{OpsRise}
use Rattle.kt_content.specs.MoreOps.{untold, told, with_op, TellsPlace}
use Rattle.kt_content.specs.InMemory.{Stores}
use Rattle.kt_content.specs.RunEvents.{Named, NamesAreTrue}
use Rattle.kt_content.specs.Lending.{GoesOn, Known, KeyOver, OverTo, KeyLent}
use Rattle.kt_content.specs.Lending.Known.{settled, pending, taken}
use Rattle.kt_content.specs.Recoverable.{Resident, Stage, KeyStands, KeptFiles, HasFiles, FilesStand}
use Rattle.kt_content.specs.Recoverable.Stage.{rests, waits, applied}
use Rattle.kt_content.specs.Keeping.{FliesAbove, IsOver, what_stands_goes_over, NamesRestNot, a_lent_superblock_stands, IsAmong, AllAmong, a_lent_superblock_is_recoverable, KeepsFiles, IsImage, EachKeeps, a_superblock_that_comes_home_is_recoverable, what_keeps_each_superblock_keeps_all}
use Rattle.kt_content.proofs.MoreOps.{stay-played}
use Rattle.kt_content.proofs.Seen.{seen_rise, first_differ}
use Rattle.kt_content.proofs.Recovering.{all_hold, runs_up}
use Rattle.kt_content.proofs.Replacing.{raised_same}
use Rattle.kt_content.proofs.KeyLent.{stays_true, renamed, rows_tell, job_lent}
use Rattle.kt_content.proofs.Stages.{same_back, same_on, same_later, last_same}

-- a key goes over

pub stands_over : what_stands_goes_over
stands_over fill keep old new live records q whole le k j flies = (
  record {
    a = k.mark;
    b = j.b;
    low = j.low;
    rise = j.rise;
    mark = j.mark;
    job = j.job;
    known = k.known;
    held = k.held;
    shows = k.shows;
    is = k.is;
    shown = k.shown;
    mirrors = k.mirrors;
    over = j.over;
    above = j.above;
    stands = from k.stage;
  },
  record { a = refl; known = refl; held = refl; shows = refl },
)
  where
    from : Stage fill old k.mark live q k.held k.shows whole (seen q records records) k.known → Known fill keep old new k.mark j.b (live.stores q) k.held k.shows whole (seen q records records) k.known
    from (rests is told e) = settled is (same_later old.a new.a k.shows whole le e)
    from (waits ts op is told lt up at none under e) = pending ts op is (let f = flies k.known ts op is in let b = j.mark in omega arith) (same_later old.a new.a (with_op fill ts op k.shows) whole le e) under
    from (applied front ts op targets is knows told lt up at some tells e) =
        taken front ts op targets is knows (let f = flies front ts op is in let b = j.mark in omega arith) (same_later old.a new.a k.shows whole le e) tells (j.on front ts op targets knows some)

-- how the names of its applied operation go on

longer : (xs : List KeyOp) (y : KeyOp) → xs ≡ xs ++ y ∷ [] → ⊥
longer xs y e = let n : length xs ≡ length (xs ++ y ∷ []) = ap length e in omega (arith, length-append xs (y ∷ []))

goes_on_of : (fill : Row) (keep : Place → Bool) (old new : Super) (a b : ℕ) (stores : Stores) (held : Held) (shows whole : Hist) (logged known front : List KeyOp) (ts : ℕ) (op : RowOp) (targets : List Target)
    → logged ≡ front ++ untold ts op ∷ [] → known ≡ front ++ told ts op targets ∷ [] → Known fill keep old new a b stores held shows whole logged known → GoesOn keep old new stores shows ts targets
goes_on_of fill keep old new a b stores held shows whole logged known front ts op targets is knows (settled same e) =
    absurd (let l = last_same front front (untold ts op) (told ts op targets) (sym is ∙ same ∙ knows) in let f : None ≡ Some targets = ap (λ (x : KeyOp). x.told) l.1 in cc)
goes_on_of fill keep old new a b stores held shows whole logged known front ts op targets is knows (pending t o same lt e under) =
    absurd (let l = last_same known front (untold t o) (untold ts op) (sym same ∙ is) in longer front (told ts op targets) (sym l.0 ∙ knows))
goes_on_of fill keep old new a b stores held shows whole logged known front ts op targets is knows (taken before t o names same known_is lt e tells on) =
    let l = last_same before front (told t o names) (told ts op targets) (sym known_is ∙ knows) in
    let at : t ≡ ts = ap (λ (x : KeyOp). x.ts) l.1 in
    let named : names ≡ targets = let f : Some names ≡ Some targets = ap (λ (x : KeyOp). x.told) l.1 in cc in
    subst (λ (n : List Target). GoesOn keep old new stores shows ts n) named (subst (λ u. GoesOn keep old new stores shows u names) at on)

module _ (rules : Rules) (fill : Row) (keep : Place → Bool) (old new : Super) (live : Resident) (records : List Entry) (q : List ℕ) (was now : Hist) (log : IsLog records) (numbers : NumbersDiffer old.rowsets)
    (le : old.a ≤ new.a) (same : SameFrom new.a was now) (k : KeyStands fill old live records q was) (o : KeyOver fill keep old new (live.stores q) records q was)
    (i : IsOver fill keep old new live records q was k o) (flies : FliesAbove new.a records q) (l : KeyLent fill keep new o.b (live.stores q) records q was o.known o.held o.shows) where
  from_new : (shows : Hist) → SameFrom old.a shows was → SameFrom new.a shows now
  from_new shows e = same_on new.a shows was now (same_later old.a new.a shows was le e) same

  later_stage : Stage fill old k.mark live q k.held k.shows was (seen q records records) k.known → Stage fill new o.b live q l.over.next o.shows now (seen q records records) o.known
  later_stage (rests is told e) = rests (is ∙ sym i.known) told (from_new o.shows (subst (λ (h : Hist). SameFrom old.a h was) (sym i.shows) e))
  later_stage (waits ts op is told lt up at none under e) =
      waits ts op (is ∙ ap (λ (f : List KeyOp). f ++ untold ts op ∷ []) (sym i.known)) (subst AreTold (sym i.known) told) (let f = flies k.known ts op is in let b = o.mark in omega arith) (flies k.known ts op is) at none
      (subst (λ (h : Hist). Under ts h.steps) (sym i.shows) under) (from_new (with_op fill ts op o.shows) (subst (λ (h : Hist). SameFrom old.a (with_op fill ts op h) was) (sym i.shows) e))
  later_stage (applied front ts op targets is knows told_before lt up at some tells e) =
      let above = flies front ts op is in
      let b_above : o.b < ts = let b = o.mark in omega arith in
      let a_above : o.a < ts = let r = o.rise in omega arith in
      let known_is : o.known ≡ front ++ told ts op targets ∷ [] = i.known ∙ knows in
      let here : OverTo fill keep new o.b (live.stores q) q (front ++ told ts op targets ∷ []) o.held o.shows =
      record { next = l.over.next; is = ap (played fill new (at_first q new)) (sym known_is) ∙ l.over.is; rest = l.over.rest; shown = l.over.shown; mirrors = l.over.mirrors } in
      let rise : OpsRise 0 (front ++ told ts op targets ∷ []) = renamed 0 front ts op targets (subst (OpsRise 0) is (seen_rise q records [] records log)) in
      let on = goes_on_of fill keep old new o.a o.b (live.stores q) o.held o.shows was (seen q records records) o.known front ts op targets is known_is o.stands in
      let now_tells = stays_true fill keep old new o.a o.b (live.stores q) q front [] ts op targets o.held o.shows rise (stay-played fill old (at_first q old) o.held o.known (first_differ q old numbers) refl o.is).0 o.shown here a_above b_above
      (subst (λ (h : Held). TellsPlace fill old h ts op targets) (sym i.held) tells) on in
      applied front ts op targets is known_is told_before b_above above at some now_tells (from_new o.shows (subst (λ (h : Hist). SameFrom old.a h was) (sym i.shows) e))

  later_key : KeyStands fill new live records q now
  later_key = record {
    mark = o.b;
    low = o.mark;
    known = o.known;
    held = l.over.next;
    shows = o.shows;
    is = l.over.is;
    shown = l.over.shown;
    mirrors = l.over.mirrors;
    up = subst (λ (h : Hist). UpTo live.last h.steps) (sym i.shows) k.up;
    stage = later_stage k.stage;
  }

pub lent_stands : a_lent_superblock_stands
lent_stands rules fill keep old new durable run high j past live log s m over l up early rest flies fresh =
    let records = durable ++ run in
    let whole = with_records fill past run in
    let runs = runs_up fill old s.low durable past run s.recovered.told s.recovered.ends in
    let content = all_hold rules fill old durable run s.low past log s.recovered in
    let lent = job_lent rules fill keep old new durable run s.low high j past live.stores log s.recovered m l early in
    let low : whole.mark ≤ old.a = let a = s.recovered.marked in let b = runs.2 in omega arith in
    let same : (q : List ℕ) → SameFrom new.a (past_hist q (raise whole old.a)) (past_hist q (raise whole new.a)) = λ q.
    same_on new.a (past_hist q (raise whole old.a)) (past_hist q whole) (past_hist q (raise whole new.a))
    (same_later old.a new.a (past_hist q (raise whole old.a)) (past_hist q whole) l.mark (same_back old.a (past_hist q whole) (past_hist q (raise whole old.a)) (raised_same whole old.a q runs.0.is low)))
    (raised_same whole new.a q runs.0.is (let a = l.mark in omega arith)) in
    record {
      low = high;
      recovered = lent.0;
      up = up;
      below = s.below;
      keys = λ q. later_key rules fill keep old new live records q (past_hist q (raise whole old.a)) (past_hist q (raise whole new.a)) log s.recovered.content.numbers l.mark (same q) (s.keys q) (m.keys q) (over q) (flies q) (lent.1 q);
      names = names_over live.named rest s.names content;
      numbers = fresh;
    }
  where
    names_over : (named : List Named) → NamesRestNot rules fill keep old new live.stores (durable ++ run) (with_records fill past run) m named → NamesAreTrue fill old (durable ++ run) named
        → IsContent rules fill old (durable ++ run) (max old.c (last_of (durable ++ run))) (raise (with_records fill past run) old.a) → NamesAreTrue fill new (durable ++ run) named
    names_over [] r h content = tt
    names_over (n ∷ named) r h content = (
      rows_tell rules fill keep old new live.stores (durable ++ run) (with_records fill past run) log (max old.c (last_of (durable ++ run))) content m n.ts n.ops n.rows r.0 h.0,
      names_over named r.1 h.1 content,
    )

-- files

among : (image : Files) (f : ℕ × List ℕ) (files : KeptFiles) → HasFiles image files → IsAmong f files → image f.0 ≡ Some f.1
among image f [] h a = absurd a
among image f (x ∷ files) h (inl same) = subst (λ (g : ℕ × List ℕ). image g.0 ≡ Some g.1) (sym same) h.0
among image f (x ∷ files) h (inr more) = among image f files h.1 more

has_all : (image : Files) (xs ys files : KeptFiles) → HasFiles image xs → HasFiles image ys → AllAmong xs ys files → HasFiles image files
has_all image xs ys [] h k a = tt
has_all image xs ys (f ∷ files) h k a = (elim a.0 [ inl x ↦ among image f xs h x | inr y ↦ among image f ys k y ], has_all image xs ys files h k a.1)

all_stand : (images : List Files) (xs ys files : KeptFiles) → FilesStand images xs → FilesStand images ys → AllAmong xs ys files → FilesStand images files
all_stand [] xs ys files h k a = tt
all_stand (image ∷ images) xs ys files h k a = (has_all image xs ys files h.0 k.0 a, all_stand images xs ys files h.1 k.1 a)

pub lent_recoverable : a_lent_superblock_is_recoverable
lent_recoverable rules fill published lent durable run past live images files lent_files job_files r s a = record {
  stands = r.stands;
  lent_stands = s;
  files_stand = r.files_stand;
  lent_files_stand = all_stand images files job_files lent_files r.files_stand r.job_files_stand a;
  job_files_stand = r.job_files_stand;
}

has_still : (was now : Files) (files : KeptFiles) → KeepsFiles was now files → HasFiles was files → HasFiles now files
has_still was now [] k h = tt
has_still was now (f ∷ files) k h = (k.0 ∙ h.0, has_still was now files k.1 h.1)

image_has : (was : Files) (images : List Files) (files : KeptFiles) → IsImage was images → FilesStand images files → HasFiles was files
image_has was [] files i h = absurd i
image_has was (image ∷ images) files (inl same) h = subst (λ (g : Files). HasFiles g files) (sym same) h.0
image_has was (image ∷ images) files (inr more) h = image_has was images files more h.1

still_stand : (images later : List Files) (files : KeptFiles) → EachKeeps images later files → FilesStand images files → FilesStand later files
still_stand images [] files k h = tt
still_stand images (now ∷ later) files k h = (has_still k.0 now files k.2 (image_has k.0 images files k.1 h), still_stand images later files k.3 h)

none_stand : (images : List Files) → FilesStand images []
none_stand [] = tt
none_stand (image ∷ images) = (tt, none_stand images)

pub home_recoverable : a_superblock_that_comes_home_is_recoverable
home_recoverable rules fill published lent durable run past live images later files lent_files job_files r jobs = (
  λ k. record {
    stands = r.lent_stands;
    lent_stands = tt;
    files_stand = still_stand images later lent_files k r.lent_files_stand;
    lent_files_stand = none_stand later;
    job_files_stand = still_stand images later job_files jobs r.job_files_stand;
  },
  λ k. record {
    stands = r.stands;
    lent_stands = tt;
    files_stand = still_stand images later files k r.files_stand;
    lent_files_stand = none_stand later;
    job_files_stand = still_stand images later job_files jobs r.job_files_stand;
  },
)

-- the whole

pub all_kept : what_keeps_each_superblock_keeps_all
all_kept rules fill published None durable run durable_then run_then past past_then live live_then images files lent_files job_files keeps r = record {
  stands = keeps published (inl refl) r.stands;
  lent_stands = tt;
  files_stand = r.files_stand;
  lent_files_stand = r.lent_files_stand;
  job_files_stand = r.job_files_stand;
}
all_kept rules fill published (Some lent) durable run durable_then run_then past past_then live live_then images files lent_files job_files keeps r = record {
  stands = keeps published (inl refl) r.stands;
  lent_stands = keeps lent (inr refl) r.lent_stands;
  files_stand = r.files_stand;
  lent_files_stand = r.lent_files_stand;
  job_files_stand = r.job_files_stand;
}
