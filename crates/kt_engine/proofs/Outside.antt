-- A job that is outside the lock finds its disk rowsets with what it took, and later changes behind, after each event.
use Rattle.std.proofs.Common.{◌≡◌, ◌<◌, ◌≤◌, ◌+◌, ◌≢◌, ℕ, zero, suc, Bool, true, false, cond, List, [], ◌∷◌, ◌++◌, length, map, take, drop, Option, Some, None, refl, sym, ap, ◌∙◌, subst, arith, inl, inr}
use Rattle.std.specs.Prelude.{◌==◌, not, is_some, slice_get}
use Rattle.std.specs.List.{AllByRecursion, remove}
use Rattle.std.specs.FinMap.Entries.{put}
use Rattle.std.specs.Ordering.{eq_by_cmp}
use Rattle.std.proofs.lemmas.Simd.{map-map}
use Rattle.std.proofs.lemmas.Bool.{lt-leb}
use Rattle.std.proofs.lemmas.List.Elements.{All-append}
use Rattle.kt_history.specs.declared.change.Change.{Change}
use Rattle.kt_history.specs.declared.change.Outcome.{Outcome}
use Rattle.kt_history.specs.declared.change.Outcome.TheVariants as outcome
use Rattle.kt_history.specs.declared.event.Event.{Event}
use Rattle.kt_history.specs.declared.operation.RowOp.{RowOp}
use Rattle.kt_history.specs.declared.target.Target.{Target}
use Rattle.kt_history.specs.declared.target.Target.TheVariants.{Mem}
use Rattle.kt_history.specs.History.{Past}
use Rattle.kt_history.specs.Machine.{Turn, Workload}
use Rattle.kt_history.specs.Rows.{Row, key_cmp}
use Rattle.kt_history.specs.Operations.{effect}
use Rattle.kt_history.specs.Stores.{Store, hist_in, last_row, row_of, push}
use Rattle.kt_records.specs.declared.entry.Entry.{Entry}
use Rattle.kt_records.specs.declared.entry.Entry.TheVariants.{Replicate, Commit}
use Rattle.kt_records.specs.declared.entry.CommitRow.{CommitRow}
use Rattle.kt_histlaws.specs.Events.{begun, ended, advance, pushed_if}
use Rattle.kt_histlaws.specs.Flights.{AllUnder}
use Rattle.kt_histlaws.specs.Core.{live}
use Rattle.kt_histlaws.specs.Histories.{hists, on_nth, nth_option, pushed, Alone}
use Rattle.kt_histlaws.specs.Pending.{Aloft}
use Rattle.kt_histlaws.proofs.Pending.{hists-pushed_same, hists-pushed_other, same_key}
use Rattle.kt_content.specs.Flushes.{before}
use Rattle.kt_content.specs.MissedChanges.{is_insert}
use Rattle.kt_content.specs.RunEvents.{Numbers, IsBelow, TargetsBelow, RowsBelow}
use Rattle.kt_pool.specs.Contents.{Contents}
use Rattle.kt_super.specs.declared.meta.Meta.{Meta}
use Rattle.kt_pick.specs.declared.rules.Want.{Want}
use Rattle.kt_pick.specs.declared.rules.Want.TheVariants as want
use Rattle.kt_joblaws.specs.Apart.{AreApart}
use Rattle.kt_joblaws.specs.Late.{AllHaveLater}
use Rattle.kt_joblaws.proofs.Late.{comes_later}
use Rattle.kt_joblaws.proofs.Pushed.{vacant_apart, pushed_apart}
use Rattle.kt_stores.specs.Takes.{Takes, mems, rowsets as disks, takes, of_taken}
use Rattle.kt_tablet.specs.Rows.{commit_row}
use Rattle.kt_tablet.specs.Jobs.{files_of}
use Rattle.kt_tablet.specs.Views.{View, Opens}
use Rattle.kt_engine.specs.Jobs.{JobView, UpkeepsView, takes_by, takes_of}
use Rattle.kt_engine.specs.Near.{first_number}
use Rattle.kt_engine.specs.Outside.{IsOutside, MergesOutside, RewritesOutside, TakesStill, hists_read}
use Rattle.kt_engine.specs.Over.{AreLeft}
use Rattle.kt_engine.proofs.JobBegins.{drop_first}
use Rattle.kt_engine.proofs.LaterRows.{among, taken_changed, taken_has, left_changed}
use Rattle.kt_engine.proofs.Lines.{with_line}
use Rattle.kt_engine.proofs.Lists.{all_none, all_cons, all_passing, some_one}
use Rattle.kt_engine.proofs.Places.{advanced_all}
use Rattle.kt_engine.proofs.Rising.{records_rise, below_more}
use Rattle.kt_engine.proofs.Shelved.{next_is}

-- ---- lists

each_at : {A : Type 0} (P : A → Type 0) (xs : List A) (i : ℕ) (x : A) → AllByRecursion P xs → slice_get xs i ≡ Some x → P x
each_at P [] i x all at = absurd (cc)
each_at P (y ∷ xs) zero x all at = subst P (some_one y x at) all.0
each_at P (y ∷ xs) (suc i) x all at = each_at P xs i x all.1 at

each_take : {A : Type 0} (P : A → Type 0) (n : ℕ) (xs : List A) → AllByRecursion P xs → AllByRecursion P (take n xs)
each_take P zero [] all = tt
each_take P (suc n) [] all = tt
each_take P zero (x ∷ xs) all = tt
each_take P (suc n) (x ∷ xs) all = (all.0, each_take P n xs all.1)

each_drop : {A : Type 0} (P : A → Type 0) (n : ℕ) (xs : List A) → AllByRecursion P xs → AllByRecursion P (drop n xs)
each_drop P zero [] all = tt
each_drop P (suc n) [] all = tt
each_drop P zero (x ∷ xs) all = all
each_drop P (suc n) (x ∷ xs) all = each_drop P n xs all.1

each_join : {A : Type 0} (P : A → Type 0) (xs ys : List A) → AllByRecursion P xs → AllByRecursion P ys → AllByRecursion P (xs ++ ys)
each_join P [] ys front behind = behind
each_join P (x ∷ xs) ys front behind = (front.0, each_join P xs ys front.1 behind)

each_push : {A : Type 0} (P : A → Type 0) (xs : List A) (x : A) → AllByRecursion P xs → P x → AllByRecursion P (xs ++ x ∷ [])
each_push P xs x all own = each_join P xs (x ∷ []) all (own, tt)

each_without : {A : Type 0} (P : A → Type 0) (xs : List A) (i : ℕ) → AllByRecursion P xs → AllByRecursion P (remove xs i)
each_without P xs i all = each_join P (take i xs) (drop (suc i) xs) (each_take P i xs all) (each_drop P (suc i) xs all)

each_weaker : {A : Type 0} (P Q : A → Type 0) → ((x : A) → P x → Q x) → (xs : List A) → AllByRecursion P xs → AllByRecursion Q xs
each_weaker P Q step [] all = tt
each_weaker P Q step (x ∷ xs) all = (step x all.0, each_weaker P Q step xs all.1)

each_changed : {A : Type 0} (P : A → Type 0) (i : ℕ) (f : A → A) (xs : List A) → ((x : A) → P x → P (f x)) → AllByRecursion P xs → AllByRecursion P (on_nth i f xs)
each_changed P i f [] step all = tt
each_changed P zero f (x ∷ xs) step all = (step x all.0, all.1)
each_changed P (suc i) f (x ∷ xs) step all = (all.0, each_changed P i f xs step all.1)

-- a row more is noted, of a store below some numbers
row_more : (numbers : Numbers) (rows : List CommitRow) (row : CommitRow) → RowsBelow numbers rows → TargetsBelow numbers row.targets → RowsBelow numbers (rows ++ row ∷ [])
row_more numbers [] row below own = (own, tt)
row_more numbers (r ∷ rows) row below own = (below.0, row_more numbers rows row below.1 own)

targets_low : (numbers : Numbers) (name : Target) (o : Outcome) → IsBelow numbers name → TargetsBelow numbers (commit_row name o).targets
targets_low numbers name outcome.Done low = (low, tt)
targets_low numbers name outcome.Present low = tt
targets_low numbers name outcome.Absent low = tt
targets_low numbers name outcome.Ignored low = tt

-- the first changes
first_changed : {A : Type 0} (f : A → A) (xs : List A) → drop 1 (on_nth zero f xs) ≡ drop 1 xs
first_changed f [] = refl
first_changed f (x ∷ xs) = refl

-- behind the first
behind_changed : {A : Type 0} (i : ℕ) (f : A → A) (xs : List A) → drop 1 (on_nth (suc i) f xs) ≡ on_nth i f (drop 1 xs)
behind_changed i f [] = refl
behind_changed i f (x ∷ xs) = refl

behind_at : {A : Type 0} (i : ℕ) (xs : List A) → slice_get (drop 1 xs) i ≡ slice_get xs (suc i)
behind_at i [] = refl
behind_at i (x ∷ xs) = refl

behind_option : {A B : Type 0} (g : A → Option B) (i : ℕ) (xs : List A) → nth_option i (map g (drop 1 xs)) ≡ nth_option (suc i) (map g xs)
behind_option g i [] = refl
behind_option g i (x ∷ xs) = refl

under_behind : (ts : ℕ) (q : List ℕ) (stores : List Store) → AllUnder ts (hists q stores) → AllUnder ts (hists q (drop 1 stores))
under_behind ts q [] all = tt
under_behind ts q (s ∷ stores) all = all.1

as_many_hists : (q : List ℕ) (stores : List Store) → length (hists q stores) ≡ length stores
as_many_hists q [] = refl
as_many_hists q (s ∷ stores) = ap (λ (n : ℕ). suc n) (as_many_hists q stores)

-- some of those that lie under a time do
under_taken : (ts : ℕ) (q : List ℕ) (t : Takes) (names : List Target) (stores : List Store) → AllUnder ts (hists q stores) → AllUnder ts (hists q (of_taken t names stores))
under_taken ts q t [] stores all = tt
under_taken ts q t (name ∷ names) [] all = tt
under_taken ts q t (name ∷ names) (s ∷ stores) all = by (takes t name) (under_taken ts q t names stores all.1)
  where
    by : (b : Bool) → AllUnder ts (hists q (of_taken t names stores)) → AllUnder ts (hists q (cond b (s ∷ of_taken t names stores) (of_taken t names stores)))
    by true rest = (all.0, rest)
    by false rest = rest

-- the MemRowSet in front is not taken, nor was the one that it comes before
taken_first : {A : Type 0} (t : Takes) (n : ℕ) (names others : List Target) (xs : List A) → takes t (Mem n) ≡ false → names ≡ Mem n ∷ others → length names ≡ length xs → of_taken t names xs ≡ of_taken t (drop 1 names) (drop 1 xs)
taken_first t n names others [] stays was many = absurd (let no : suc (length others) ≡ 0 = sym (ap length was) ∙ many in cc)
taken_first t n names others (x ∷ xs) stays was many =
    subst (λ (ns : List Target). of_taken t ns (x ∷ xs) ≡ of_taken t (drop 1 ns) xs) (sym was) (ap (λ (b : Bool). cond b (x ∷ of_taken t others xs) (of_taken t others xs)) stays)

-- what a compaction takes, and a flush
pub takes_disks : (taken : List ℕ) (last : ℕ) → taken ≢ [] → takes_by taken last ≡ disks taken
takes_disks [] last some = absurd (some refl)
takes_disks (r ∷ taken) last some = refl

pub takes_mems : (taken : List ℕ) (last : ℕ) → taken ≡ [] → takes_by taken last ≡ mems last
takes_mems taken last none = ap (λ (l : List ℕ). takes_by l last) none

-- the one that takes inserts stays
first_stays : (job : JobView) (n : ℕ) (others names : List Target) → names ≡ Mem n ∷ others → (w : Want) → TakesStill names job w → takes (takes_of job) (Mem n) ≡ false
first_stays job n others names was want.Flush t =
    let low = t.first in
    let at : first_number names ≡ n = ap first_number was in
    let lower : job.last_mem < n = omega (arith, low, at) in
    ap (λ (x : Takes). takes x (Mem n)) (takes_mems job.taken job.last_mem t.none) ∙ lt-leb n job.last_mem lower
first_stays job n others names was (want.Compact taken) t = ap (λ (x : Takes). takes x (Mem n)) (takes_disks job.taken job.last_mem t.1.some)
first_stays job n others names was (want.FlushDeltas r) t = absurd t
first_stays job n others names was (want.Minor r) t = absurd t
first_stays job n others names was (want.Major r) t = absurd t

-- it takes what it took where another comes in front
still_frozen : (job : JobView) (n : ℕ) (others names : List Target) → names ≡ Mem n ∷ others → (w : Want) → TakesStill names job w → TakesStill (Mem (n + 1) ∷ names) job w
still_frozen job n others names was want.Flush t =
    let low = t.first in
    let at : first_number names ≡ n = ap first_number was in
    let stays : takes (mems job.last_mem) (Mem n) ≡ false = lt-leb n job.last_mem (omega (arith, low, at)) in
    record { none = t.none; first = omega (arith, low, at); many = ap length (taken_first (mems job.last_mem) n names others names stays was refl) ∙ t.many }
still_frozen job n others names was (want.Compact taken) t = (t.0, record { some = t.1.some; there = t.1.there })
still_frozen job n others names was (want.FlushDeltas r) t = absurd t
still_frozen job n others names was (want.Minor r) t = absurd t
still_frozen job n others names was (want.Major r) t = absurd t

-- ---- events

-- An operation changes these stores: all that they have of its key lies below it, no other than its store may have the row, and behind the first store it is a change of a row that is there
pub record IsChanged (fill : Row) (old new : List Store) (i ts : ℕ) (op : RowOp) (x : Option Change) : Type 0 where
  pub inside : i < length old
  pub alone : Alone i (map (row_of ts) (hists op.key old))
  pub gives : x ≡ (effect fill op.kind op.cells (live old op.key ts)).0
  pub stores_are : new ≡ pushed_if i op.key ts x old
  pub under : AllUnder ts (hists op.key old)
  pub fit : (k : ℕ) (c : Change) → i ≡ suc k → x ≡ Some c → (is_insert c ≡ false) × (is_some (nth_option i (map last_row (hists op.key old))) ≡ true)

module _ {C : Type 0} (v : View C) (meta : Meta) (lent : Option Meta) (upkeep : UpkeepsView) (records run : List Entry) (job : JobView) (is : MergesOutside v meta lent upkeep (records ++ run) job) where
  abbrev own : Numbers
  own = before job.first_rowset (first_number v.names)

  abbrev Above : Aloft → Type 0
  Above w = job.bound < w.ts

  -- a line
  merges_line : (e : Event) (a c : ℕ) (turns : List Turn) (stopped : Bool) (clock : C) → v.core.a ≤ a → v.core.c ≤ c → MergesOutside (with_line v e a c turns stopped clock) meta lent upkeep (records ++ run) job
  merges_line e a c turns stopped clock rise up = record {
    inputs = is.inputs;
    read = is.read;
    free = is.free;
    begun = is.begun;
    takes = is.takes;
    left = is.left;
    below = is.below;
    as_many = is.as_many;
    named = is.named;
    noted = is.noted;
    since = (let low = is.since in omega arith);
    flies = is.flies;
    mark = (is.mark.0, (let low = is.mark.1 in omega arith));
    low = is.low;
    front = is.front;
    later = is.later;
    apart = is.apart;
    whole = is.whole;
    upto = is.upto;
  }

  -- passes have something else of maintenance, and no job publishes
  merges_upkeep : (now : UpkeepsView) → now.publishing ≡ None → (now.begun ≡ 0 → upkeep.begun ≡ 0) → MergesOutside v meta lent now (records ++ run) job
  merges_upkeep now free counted = record {
    inputs = is.inputs;
    read = is.read;
    free = (free, is.free.1);
    begun = λ none. is.begun (counted none);
    takes = is.takes;
    left = is.left;
    below = is.below;
    as_many = is.as_many;
    named = is.named;
    noted = is.noted;
    since = is.since;
    flies = is.flies;
    mark = is.mark;
    low = is.low;
    front = is.front;
    later = is.later;
    apart = is.apart;
    whole = is.whole;
    upto = is.upto;
  }

  -- a plan is taken
  merges_planned : (work : Workload) (turns : List Turn) → MergesOutside (record v { core = record v.core { work = work; turns = turns } }) meta lent upkeep (records ++ run) job
  merges_planned work turns = record {
    inputs = is.inputs;
    read = is.read;
    free = is.free;
    begun = is.begun;
    takes = is.takes;
    left = is.left;
    below = is.below;
    as_many = is.as_many;
    named = is.named;
    noted = is.noted;
    since = is.since;
    flies = is.flies;
    mark = is.mark;
    low = is.low;
    front = is.front;
    later = is.later;
    apart = is.apart;
    whole = is.whole;
    upto = is.upto;
  }

  -- a write begins: its timestamp is a new one, and its REPLICATE names nothing
  merges_begun : (s i ts m place : ℕ) (ops : List RowOp) (new : View C) → v.core.c < ts
      → MergesOutside (record v { core = begun v.core s i ts m ops; clock = new.clock; notes = v.notes ++ [] ∷ []; places = v.places ++ (s, place) ∷ []; pool = new.pool }) meta lent upkeep (records ++ (run ++ Replicate ts ops ∷ [])) job
  merges_begun s i ts m place ops new above = record {
    inputs = is.inputs;
    read = is.read;
    free = is.free;
    begun = is.begun;
    takes = is.takes;
    left = is.left;
    below = is.below;
    as_many = is.as_many;
    named = below_more own records run (Replicate ts ops) is.named tt;
    noted = each_push (RowsBelow own) v.notes [] is.noted tt;
    since = (let low = is.since in omega arith);
    flies =
        let w : Aloft = record { s = s; i = i; ts = ts; ops = ops; applied = 0 } in
        All-append Above v.core.aloft (w ∷ []) is.flies (all_cons Above w [] (let low = is.since in omega arith) (all_none Above));
    mark = is.mark;
    low = is.low;
    front = is.front;
    later = is.later;
    apart = is.apart;
    whole = is.whole;
    upto = is.upto;
  }

  -- it ends: its COMMIT names what was noted of it
  merges_ended : (s i ts j : ℕ) (rows : List CommitRow) (notes : List (List CommitRow)) (places : List (ℕ × ℕ)) → slice_get v.notes j ≡ Some rows → notes ≡ remove v.notes j
      → MergesOutside (record v { core = ended v.core s i ts; notes = notes; places = places }) meta lent upkeep (records ++ (run ++ Commit ts rows ∷ [])) job
  merges_ended s i ts j rows notes places at same = record {
    inputs = is.inputs;
    read = is.read;
    free = is.free;
    begun = is.begun;
    takes = is.takes;
    left = is.left;
    below = is.below;
    as_many = is.as_many;
    named = below_more own records run (Commit ts rows) is.named (each_at (RowsBelow own) v.notes j rows is.noted at, tt);
    noted = subst (AllByRecursion (RowsBelow own)) (sym same) (each_without (RowsBelow own) v.notes j is.noted);
    since = is.since;
    flies = all_passing Above Above (λ w. not (w.s == s)) v.core.aloft (λ w passes low. low) is.flies;
    mark = is.mark;
    low = is.low;
    front = is.front;
    later = is.later;
    apart = is.apart;
    whole = is.whole;
    upto = is.upto;
  }

  -- the MemRowSet that takes inserts freezes
  merges_frozen : (n : ℕ) (others : List Target) → v.names ≡ Mem n ∷ others → MergesOutside (record v { core = record v.core { stores = [] ∷ v.core.stores }; names = Mem (n + 1) ∷ v.names; frozen = v.frozen + 1 }) meta lent upkeep (records ++ run) job
  merges_frozen n others was =
      let first : first_number v.names ≡ n = ap first_number was in
      let more : Numbers = before job.first_rowset (n + 1) in
      record {
        inputs = is.inputs;
        read = is.read;
        free = is.free;
        begun = is.begun;
        takes = still_frozen job n others v.names was job.want is.takes;
        left = subst (λ (k : ℕ). AreLeft job.first_rowset (drop k v.names)) (next_is v.frozen) (subst (AreLeft job.first_rowset) (sym (drop_first v.frozen v.names)) is.left);
        below = is.below;
        as_many = ap (λ (k : ℕ). suc k) is.as_many;
        named = records_rise own more (records ++ run) (omega arith) (omega (arith, first)) is.named;
        noted = each_weaker (RowsBelow own) (RowsBelow more) (λ rows low. (records_rise own more (Commit 0 rows ∷ []) (omega arith) (omega (arith, first)) (low, tt)).0) v.notes is.noted;
        since = is.since;
        flies = is.flies;
        mark = is.mark;
        low = is.low;
        front = is.front;
        later = λ first opens q. subst (λ (ss : List Store). AllHaveLater job.bound (hists_read job.want is.inputs q) (hists q ss)) (sym (taken_first (takes_of job) n v.names others v.core.stores (first_stays job n others v.names was job.want is.takes) was is.as_many)) (is.later first opens q);
        apart = is.apart;
        whole = λ first opens q. vacant_apart job.mark (hists q v.core.stores) (is.whole first opens q);
        upto = is.upto;
      }

  -- a row changes that is there, in a store behind the first: what is taken has the change behind, if it is one of them
  later_changed : (first : Past) → Opens v.opening v.mark v.core.opened first → (i ts : ℕ) (q : List ℕ) (c : Change) (name : Target) → slice_get v.names (suc i) ≡ Some name → is_insert c ≡ false → job.bound < ts → AllUnder ts (hists q v.core.stores)
      → is_some (nth_option (suc i) (map last_row (hists q v.core.stores))) ≡ true → (k : List ℕ)
      → AllHaveLater job.bound (hists_read job.want is.inputs k) (hists k (of_taken (takes_of job) (drop 1 v.names) (drop 1 (pushed (suc i) q ts c v.core.stores))))
  later_changed first opens i ts q c name at change above under live k =
      subst (λ (ss : List Store). AllHaveLater job.bound (hists_read job.want is.inputs k) (hists k (of_taken (takes_of job) names ss))) (sym (behind_changed i f v.core.stores)) (by (takes (takes_of job) name) refl)
    where
      names : List Target
      names = drop 1 v.names

      stores : List Store
      stores = drop 1 v.core.stores

      f : Store → Store
      f s = put key_cmp q (push ts c (hist_in q s)) s

      there : slice_get names i ≡ Some name
      there = behind_at i v.names ∙ at

      place : ℕ
      place = among (takes_of job) i names

      taken : List Store
      taken = of_taken (takes_of job) names stores

      last : Store → Option Row
      last s = last_row (hist_in q s)

      -- the row is there, in the store as it stands among those that are taken
      has : takes (takes_of job) name ≡ true → is_some (nth_option place (map last_row (hists q taken))) ≡ true
      has e = ap (λ l. is_some (nth_option place l)) (map-map last_row (hist_in q) taken)
          ∙ ap is_some (taken_has (takes_of job) last i name names stores there e ∙ behind_option last i v.core.stores ∙ ap (nth_option (suc i)) (sym (map-map last_row (hist_in q) v.core.stores))) ∙ live

      -- of the key itself, and of another
      changed : takes (takes_of job) name ≡ true → (b : Bool) → eq_by_cmp key_cmp k q ≡ b → AllHaveLater job.bound (hists_read job.want is.inputs k) (hists k (pushed place q ts c taken))
      changed e true same = subst (λ (x : List ℕ). AllHaveLater job.bound (hists_read job.want is.inputs x) (hists x (pushed place q ts c taken))) (sym (same_key k q same))
          (subst (AllHaveLater job.bound (hists_read job.want is.inputs q)) (sym (hists-pushed_same place q ts c taken))
          (comes_later job.bound ts place c (hists_read job.want is.inputs q) (hists q taken) above (under_taken ts q (takes_of job) names stores (under_behind ts q v.core.stores under)) change (has e) (is.later first opens q)))
      changed e false other = subst (AllHaveLater job.bound (hists_read job.want is.inputs k)) (sym (hists-pushed_other place k q ts c taken other)) (is.later first opens k)

      by : (b : Bool) → takes (takes_of job) name ≡ b → AllHaveLater job.bound (hists_read job.want is.inputs k) (hists k (of_taken (takes_of job) names (on_nth i f stores)))
      by true e = subst (λ (ss : List Store). AllHaveLater job.bound (hists_read job.want is.inputs k) (hists k ss)) (sym (taken_changed (takes_of job) f i name names stores there e)) (changed e (eq_by_cmp key_cmp k q) refl)
      by false e = subst (λ (ss : List Store). AllHaveLater job.bound (hists_read job.want is.inputs k) (hists k ss)) (sym (left_changed (takes_of job) f i name names stores there e)) (is.later first opens k)

  -- a row is applied
  merges_applied : (j i ts : ℕ) (op : RowOp) (x : Option Change) (name : Target) (o : Outcome) (stores : List Store) (notes : List (List CommitRow)) (pool : Contents)
      → length stores ≡ length v.core.stores → ((first : Past) → Opens v.opening v.mark v.core.opened first → IsChanged v.core.work.fill v.core.stores stores i ts op x)
      → notes ≡ on_nth j (λ rows. rows ++ commit_row name o ∷ []) v.notes → slice_get v.names i ≡ Some name → IsBelow own name → job.bound < ts
      → MergesOutside (record v { core = record v.core { aloft = on_nth j advance v.core.aloft; stores = stores }; notes = notes; pool = pool }) meta lent upkeep (records ++ run) job
  merges_applied j i ts op x name o stores notes pool as_long told notes_are at low above = record {
    inputs = is.inputs;
    read = is.read;
    free = is.free;
    begun = is.begun;
    takes = is.takes;
    left = is.left;
    below = is.below;
    as_many = is.as_many ∙ sym as_long;
    named = is.named;
    noted = subst (AllByRecursion (RowsBelow own)) (sym notes_are) (each_changed (RowsBelow own) j (λ rows. rows ++ commit_row name o ∷ []) v.notes (λ rows h. row_more own rows (commit_row name o) h (targets_low own name o low)) is.noted);
    since = is.since;
    flies = advanced_all Above j v.core.aloft (λ w h. h) is.flies;
    mark = is.mark;
    low = is.low;
    front = is.front;
    later = λ first opens k. subst (λ (ss : List Store). AllHaveLater job.bound (hists_read job.want is.inputs k) (hists k (of_taken (takes_of job) (drop 1 v.names) (drop 1 ss)))) (sym (told first opens).stores_are) (by first opens i x refl refl k);
    apart = is.apart;
    whole = λ first opens k. subst (λ (ss : List Store). AreApart job.mark (hists k ss)) (sym (told first opens).stores_are) (still_apart first opens x refl k);
    upto = is.upto;
  }
    where
      -- all are apart
      still_apart : (first : Past) → Opens v.opening v.mark v.core.opened first → (y : Option Change) → x ≡ y → (k : List ℕ) → AreApart job.mark (hists k (pushed_if i op.key ts y v.core.stores))
      still_apart first opens None its k = is.whole first opens k
      still_apart first opens (Some c) its k = of_key (eq_by_cmp key_cmp k op.key) refl
        where
          changes : IsChanged v.core.work.fill v.core.stores stores i ts op x
          changes = told first opens

          at_key : AreApart job.mark (hists op.key (pushed i op.key ts c v.core.stores))
          at_key = subst (AreApart job.mark) (sym (hists-pushed_same i op.key ts c v.core.stores))
              (pushed_apart job.mark ts i v.core.work.fill op.cells op.kind c (hists op.key v.core.stores) (is.whole first opens op.key) (let low = is.mark.0 in omega arith)
              (subst (λ (n : ℕ). i < n) (sym (as_many_hists op.key v.core.stores)) changes.inside) changes.under changes.alone (sym changes.gives ∙ its))

          of_key : (b : Bool) → eq_by_cmp key_cmp k op.key ≡ b → AreApart job.mark (hists k (pushed i op.key ts c v.core.stores))
          of_key true same = subst (λ (q : List ℕ). AreApart job.mark (hists q (pushed i op.key ts c v.core.stores))) (sym (same_key k op.key same)) at_key
          of_key false other = subst (AreApart job.mark) (sym (hists-pushed_other i k op.key ts c v.core.stores other)) (is.whole first opens k)

      by : (first : Past) → Opens v.opening v.mark v.core.opened first → (n : ℕ) (y : Option Change) → i ≡ n → x ≡ y → (k : List ℕ) → AllHaveLater job.bound (hists_read job.want is.inputs k) (hists k (of_taken (takes_of job) (drop 1 v.names) (drop 1 (pushed_if n op.key ts y v.core.stores))))
      by first opens n None here is_none k = is.later first opens k
      by first opens zero (Some c) here its k = subst (λ (ss : List Store). AllHaveLater job.bound (hists_read job.want is.inputs k) (hists k (of_taken (takes_of job) (drop 1 v.names) ss))) (sym (first_changed (λ s. put key_cmp op.key (push ts c (hist_in op.key s)) s) v.core.stores)) (is.later first opens k)
      by first opens (suc n) (Some c) here its k =
          let changes = told first opens in
          let own_change = changes.fit n c here its in
          later_changed first opens n ts op.key c name (ap (slice_get v.names) (sym here) ∙ at) own_change.0 above changes.under (ap (λ m. is_some (nth_option m (map last_row (hists op.key v.core.stores)))) (sym here) ∙ own_change.1) k

-- ---- either

-- the rowset of one on its files has those that it had
still_has : {C : Type 0} (v w : View C) (lent now : Option Meta) (upkeep later : UpkeepsView) (job : JobView) → w.files ≡ v.files → (later.publishing ≡ None) × (now ≡ None) → (later.begun ≡ 0 → upkeep.begun ≡ 0) → RewritesOutside v lent upkeep job → RewritesOutside w now later job
still_has v w lent now upkeep later job files free counted is = record {
  on = is.on;
  free = free;
  begun = λ none. is.begun (counted none);
  was = is.was;
  read = is.read;
  held = ap (files_of job.rowset) files ∙ is.held;
}

module _ {C : Type 0} (v : View C) (meta : Meta) (lent : Option Meta) (upkeep : UpkeepsView) (records run : List Entry) (job : JobView) (is : IsOutside v meta lent upkeep (records ++ run) job) where
  -- a line
  pub outside_line : (e : Event) (a c : ℕ) (turns : List Turn) (stopped : Bool) (clock : C) → v.core.a ≤ a → v.core.c ≤ c → IsOutside (with_line v e a c turns stopped clock) meta lent upkeep (records ++ run) job
  outside_line e a c turns stopped clock rise up = elim is [ inl all ↦ inl (merges_line v meta lent upkeep records run job all e a c turns stopped clock rise up) | inr r ↦ inr (still_has v _ lent lent upkeep upkeep job refl r.free (λ none. none) r) ]

  -- passes have something else of maintenance, and no job publishes
  pub outside_upkeep : (now : UpkeepsView) → now.publishing ≡ None → (now.begun ≡ 0 → upkeep.begun ≡ 0) → IsOutside v meta lent now (records ++ run) job
  outside_upkeep now free counted = elim is [ inl all ↦ inl (merges_upkeep v meta lent upkeep records run job all now free counted) | inr r ↦ inr (still_has v _ lent lent upkeep now job refl (free, r.free.1) counted r) ]

  -- a plan is taken
  pub outside_planned : (work : Workload) (turns : List Turn) → IsOutside (record v { core = record v.core { work = work; turns = turns } }) meta lent upkeep (records ++ run) job
  outside_planned work turns = elim is [ inl all ↦ inl (merges_planned v meta lent upkeep records run job all work turns) | inr r ↦ inr (still_has v _ lent lent upkeep upkeep job refl r.free (λ none. none) r) ]

  -- a write begins
  pub outside_begun : (s i ts m place : ℕ) (ops : List RowOp) (new : View C) → v.core.c < ts
      → IsOutside (record v { core = begun v.core s i ts m ops; clock = new.clock; notes = v.notes ++ [] ∷ []; places = v.places ++ (s, place) ∷ []; pool = new.pool }) meta lent upkeep (records ++ (run ++ Replicate ts ops ∷ [])) job
  outside_begun s i ts m place ops new above = elim is [ inl all ↦ inl (merges_begun v meta lent upkeep records run job all s i ts m place ops new above) | inr r ↦ inr (still_has v _ lent lent upkeep upkeep job refl r.free (λ none. none) r) ]

  -- it ends
  pub outside_ended : (s i ts j : ℕ) (rows : List CommitRow) (notes : List (List CommitRow)) (places : List (ℕ × ℕ)) → slice_get v.notes j ≡ Some rows → notes ≡ remove v.notes j
      → IsOutside (record v { core = ended v.core s i ts; notes = notes; places = places }) meta lent upkeep (records ++ (run ++ Commit ts rows ∷ [])) job
  outside_ended s i ts j rows notes places at same = elim is [ inl all ↦ inl (merges_ended v meta lent upkeep records run job all s i ts j rows notes places at same) | inr r ↦ inr (still_has v _ lent lent upkeep upkeep job refl r.free (λ none. none) r) ]

  -- the MemRowSet that takes inserts freezes
  pub outside_frozen : (n : ℕ) (others : List Target) → v.names ≡ Mem n ∷ others → IsOutside (record v { core = record v.core { stores = [] ∷ v.core.stores }; names = Mem (n + 1) ∷ v.names; frozen = v.frozen + 1 }) meta lent upkeep (records ++ run) job
  outside_frozen n others was = elim is [ inl all ↦ inl (merges_frozen v meta lent upkeep records run job all n others was) | inr r ↦ inr (still_has v _ lent lent upkeep upkeep job refl r.free (λ none. none) r) ]

  -- a row is applied
  pub outside_applied : (j i ts : ℕ) (op : RowOp) (x : Option Change) (name : Target) (o : Outcome) (stores : List Store) (notes : List (List CommitRow)) (pool : Contents)
      → length stores ≡ length v.core.stores → ((first : Past) → Opens v.opening v.mark v.core.opened first → IsChanged v.core.work.fill v.core.stores stores i ts op x)
      → notes ≡ on_nth j (λ rows. rows ++ commit_row name o ∷ []) v.notes → slice_get v.names i ≡ Some name → (MergesOutside v meta lent upkeep (records ++ run) job → IsBelow (before job.first_rowset (first_number v.names)) name × (job.bound < ts))
      → IsOutside (record v { core = record v.core { aloft = on_nth j advance v.core.aloft; stores = stores }; notes = notes; pool = pool }) meta lent upkeep (records ++ run) job
  outside_applied j i ts op x name o stores notes pool as_long told notes_are at low = elim is [ inl all ↦ inl (merges_applied v meta lent upkeep records run job all j i ts op x name o stores notes pool as_long told notes_are at (low all).0 (low all).1) | inr r ↦ inr (still_has v _ lent lent upkeep upkeep job refl r.free (λ none. none) r) ]
