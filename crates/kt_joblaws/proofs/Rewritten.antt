-- A rowset that is written again takes the place of the one of its number.
use Rattle.std.proofs.Common.{◌≡◌, ◌<◌, ℕ, Bool, true, false, List, [], ◌∷◌, ◌++◌, Option, Some, None, refl, sym, ap, ◌∙◌, subst, arith, cond}
use Rattle.std.specs.Prelude.{◌==◌, is_some, nat_lt}
use Rattle.std.specs.List.{filter}
use Rattle.std.proofs.lemmas.Bool.Decides.{nat_tests}
use Rattle.kt_history.specs.Stores.{Hist}
use Rattle.kt_histlaws.specs.Fitting.{AllFit, RiseAbove, AreSound}
use Rattle.kt_histlaws.specs.Jobs.{AreAlike}
use Rattle.kt_rowfiles.specs.Files.{DiskRowset, hist_in_files}
use Rattle.kt_content.specs.Rules.{Rules, RowsetPasses, RowsetsPass}
use Rattle.kt_content.specs.Places.{Super, Place, memory, disk, last_dms_of}
use Rattle.kt_content.specs.Content.{NumbersDiffer, LacksNumber}
use Rattle.kt_content.specs.InMemory.{Name, mem_rows, rowset, Stores, if_there, stands_for, is_at, group}
use Rattle.kt_content.specs.RunEvents.{Numbers, RowsetsBelow}
use Rattle.kt_content.specs.DeltaFlushes.{all_but, replaced, with_deltas, FlushesDeltas}
use Rattle.kt_content.specs.Keeping.{with_stores}
use Rattle.kt_content.proofs.DeltaFlushes.{publishes_deltas}
use Rattle.kt_content.proofs.OneVisit.{at_rest_stands}
use Rattle.kt_content.proofs.StoresCome.{others_keep}
use Rattle.kt_content.proofs.Lending.{alike_itself}
use Rattle.kt_joblaws.specs.ChangesOver.{hists_of}
use Rattle.kt_joblaws.specs.DeltaJobs.{IsOther, LacksRowset, IsAlone, without_deltas, a_rewritten_rowset_stands}
use Rattle.kt_joblaws.proofs.Groups.{group-append}

-- ---- the one rowset of its number

none_left : (r n : ℕ) (rowsets : List DiskRowset) → r ≡ n → LacksNumber r rowsets → filter (λ (x : DiskRowset). x.rowset == n) rowsets ≡ []
none_left r n [] e l = refl
none_left r n (x ∷ rowsets) e l =
    let other : (x.rowset == n) ≡ false = (let d = l.0 in grind (arith, nat_tests)) in
    ap (λ (b : Bool). cond b (x ∷ filter (λ (x : DiskRowset). x.rowset == n) rowsets) (filter (λ (x : DiskRowset). x.rowset == n) rowsets)) other ∙ none_left r n rowsets e l.1

pub one_there : (r : ℕ) (rowsets : List DiskRowset) → NumbersDiffer rowsets → is_some (last_dms_of r rowsets) ≡ true → (was : DiskRowset) × (filter (λ (x : DiskRowset). x.rowset == r) rowsets ≡ was ∷ [])
one_there r [] d there = absurd (let e : false ≡ true = there in cc)
one_there r (x ∷ rowsets) d there = by (x.rowset == r) refl (one_there r rowsets d.1) there
  where
    by : (b : Bool) → (x.rowset == r) ≡ b → (is_some (last_dms_of r rowsets) ≡ true → (was : DiskRowset) × (filter (λ (x : DiskRowset). x.rowset == r) rowsets ≡ was ∷ []))
        → is_some (cond b (Some x.last_dms) (last_dms_of r rowsets)) ≡ true
        → (was : DiskRowset) × (cond b (x ∷ filter (λ (x : DiskRowset). x.rowset == r) rowsets) (filter (λ (x : DiskRowset). x.rowset == r) rowsets) ≡ was ∷ [])
    by true e rest h = (x, ap (λ (l : List DiskRowset). x ∷ l) (none_left x.rowset r rowsets (grind (arith, nat_tests)) d.0))
    by false e rest h = rest h

-- ---- what holds of each rowset

pub all_pass : (rules : Rules) (d : DiskRowset) (rowsets : List DiskRowset) → RowsetPasses rules d → RowsetsPass rules rowsets → RowsetsPass rules (replaced d.rowset d rowsets)
all_pass rules d [] own h = tt
all_pass rules d (x ∷ rowsets) own h = (
  elim (x.rowset == d.rowset) as (λ (b : Bool). RowsetPasses rules (cond b d x)) [
    | true ↦ own
    | false ↦ h.0
  ],
  all_pass rules d rowsets own h.1,
)

all_below : (numbers : Numbers) (d : DiskRowset) (rowsets : List DiskRowset) → RowsetsBelow numbers rowsets → RowsetsBelow numbers (replaced d.rowset d rowsets)
all_below numbers d [] h = tt
all_below numbers d (x ∷ rowsets) h = (
  elim (x.rowset == d.rowset) as (λ (b : Bool). (x.rowset == d.rowset) ≡ b → (cond b d x).rowset < numbers.next) [
    | true ↦ λ e. (let low = h.0 in let same : x.rowset ≡ d.rowset = grind (arith, nat_tests) in omega arith)
    | false ↦ λ e. h.0
  ] refl,
  all_below numbers d rowsets h.1,
)

-- ---- the stores in memory stand for the places for which they stood

either_there : (p : Place) (b : Bool) (m n : ℕ) (xs ys : Option ℕ) → if_there p xs ≡ if_there p ys → if_there p (cond b (Some m) xs) ≡ if_there p (cond b (Some n) ys)
either_there p true m n xs ys same = refl
either_there p false m n xs ys same = same

last_still : (p : Place) (s : ℕ) (d : DiskRowset) (rowsets : List DiskRowset) → if_there p (last_dms_of s (replaced d.rowset d rowsets)) ≡ if_there p (last_dms_of s rowsets)
last_still p s d [] = refl
last_still p s d (x ∷ rowsets) = elim (x.rowset == d.rowset) as (λ (b : Bool). (x.rowset == d.rowset) ≡ b
    → if_there p (cond ((cond b d x).rowset == s) (Some (cond b d x).last_dms) (last_dms_of s (replaced d.rowset d rowsets))) ≡ if_there p (cond (x.rowset == s) (Some x.last_dms) (last_dms_of s rowsets))) [
      | true ↦ λ e. (let same : x.rowset ≡ d.rowset = grind (arith, nat_tests) in
          ap (λ (n : ℕ). if_there p (cond (n == s) (Some d.last_dms) (last_dms_of s (replaced d.rowset d rowsets)))) (sym same)
          ∙ either_there p (x.rowset == s) d.last_dms x.last_dms (last_dms_of s (replaced d.rowset d rowsets)) (last_dms_of s rowsets) (last_still p s d rowsets))
      | false ↦ λ e. either_there p (x.rowset == s) x.last_dms x.last_dms (last_dms_of s (replaced d.rowset d rowsets)) (last_dms_of s rowsets) (last_still p s d rowsets)
    ] refl

module _ (old : Super) (a c need : ℕ) (d : DiskRowset) where
  abbrev new : Super
  new = with_deltas old a c need d

  stands_still : (n : Name) → stands_for new n ≡ stands_for old n
  stands_still (mem_rows n) = refl
  stands_still (rowset s) = last_still (disk s) s d old.rowsets

  group_still : (p : Place) (stores : Stores) → group new p stores ≡ group old p stores
  group_still p [] = refl
  group_still p (x ∷ stores) =
      ap (λ (o : Option Place). cond (is_at p o) (x.1 ∷ group new p stores) (group new p stores)) (stands_still x.0)
      ∙ ap (λ (l : List Hist). cond (is_at p (stands_for old x.0)) (x.1 ∷ l) l) (group_still p stores)

-- ---- the rowset is alone in its group

memory_not_at : (r : ℕ) (b : Bool) → is_at (disk r) (cond b (Some memory) None) ≡ false
memory_not_at r true = refl
memory_not_at r false = refl

there_not_at : (r s : ℕ) (o : Option ℕ) → (r == s) ≡ false → is_at (disk r) (if_there (disk s) o) ≡ false
there_not_at r s None e = refl
there_not_at r s (Some n) e = e

not_at : (super : Super) (r : ℕ) (n : Name) → IsOther r n → is_at (disk r) (stands_for super n) ≡ false
not_at super r (mem_rows n) h = memory_not_at r (nat_lt super.last_mem n)
not_at super r (rowset s) h = there_not_at r s (last_dms_of s super.rowsets) h

none_in_group : (super : Super) (r : ℕ) (stores : Stores) → LacksRowset r stores → group super (disk r) stores ≡ []
none_in_group super r [] l = refl
none_in_group super r (x ∷ stores) l = ap (λ (b : Bool). cond b (x.1 ∷ group super (disk r) stores) (group super (disk r) stores)) (not_at super r x.0 l.0) ∙ none_in_group super r stores l.1

named_at : (r : ℕ) (o : Option ℕ) → is_some o ≡ true → is_at (disk r) (if_there (disk r) o) ≡ true
named_at r None e = absurd (cc)
named_at r (Some n) e = grind (arith, nat_tests)

pub alone_in_group : (super : Super) (r : ℕ) (h : Hist) (stores : Stores) → is_some (last_dms_of r super.rowsets) ≡ true → IsAlone r h stores → group super (disk r) stores ≡ h ∷ []
alone_in_group super r h stores there al =
    ap (group super (disk r)) al.are
    ∙ group-append super (disk r) al.front ((rowset r, h) ∷ al.behind)
    ∙ ap (λ (l : List Hist). l ++ group super (disk r) ((rowset r, h) ∷ al.behind)) (none_in_group super r al.front al.before)
    ∙ ap (λ (b : Bool). cond b (h ∷ group super (disk r) al.behind) (group super (disk r) al.behind)) (named_at r (last_dms_of r super.rowsets) there)
    ∙ ap (λ (l : List Hist). h ∷ l) (none_in_group super r al.behind al.after)

-- ---- of sound histories each is

fits_alone : (t : ℕ) (h : Hist) (front behind : List Hist) → AllFit t (front ++ h ∷ behind) → AllFit t (h ∷ [])
fits_alone t h [] behind f = (f.0, tt)
fits_alone t h (x ∷ front) behind f = fits_alone t h front behind f.1

rises_alone : (a : ℕ) (h : Hist) (front behind : List Hist) → RiseAbove a (front ++ h ∷ behind) → RiseAbove a (h ∷ [])
rises_alone a h [] behind r = (r.0, tt)
rises_alone a h (x ∷ front) behind r = rises_alone a h front behind r.1

hists_join : (xs ys : Stores) → hists_of (xs ++ ys) ≡ hists_of xs ++ hists_of ys
hists_join [] ys = refl
hists_join (x ∷ xs) ys = ap (λ (l : List Hist). x.1 ∷ l) (hists_join xs ys)

alone_sound : (a r : ℕ) (h : Hist) (stores : Stores) → IsAlone r h stores → AreSound a (hists_of stores) → AreSound a (h ∷ [])
alone_sound a r h stores al s =
    let whole : AreSound a (hists_of al.front ++ h ∷ hists_of al.behind) = subst (AreSound a) (ap hists_of al.are ∙ hists_join al.front ((rowset r, h) ∷ al.behind)) s in
    record { fit = λ t lt. fits_alone t h (hists_of al.front) (hists_of al.behind) (whole.fit t lt); rise = rises_alone a h (hists_of al.front) (hists_of al.behind) whole.rise }

-- ---- the whole

pub rewritten_stands : a_rewritten_rowset_stands
rewritten_stands rules fill old a c need d durable high past live log s calm f lends up =
    let records = durable ++ [] in
    let content = s.recovered.content in
    let numbers = without_deltas live.numbers in
    let here = with_stores live.stores live.names numbers live in
    let there = one_there d.rowset old.rowsets content.numbers f.there in
    let now = others_keep rules fill old durable [] past live live.stores live.names numbers s (λ q p. refl)
    (record { rowsets = s.numbers.rowsets; records_below = s.numbers.records_below; stores = s.numbers.stores; mem = s.numbers.mem; deltas = tt }) in
    let job : FlushesDeltas rules old a c need there.0 d records live.stores 0 = record {
      there = there.1;
      differ = content.numbers;
      names = f.names;
      told = f.told;
      pass = all_pass rules d old.rowsets f.pass content.files;
      alike = λ q. subst (λ (l : List Hist). AreAlike 0 l (hist_in_files q d ∷ [])) (sym (alone_in_group old d.rowset (hist_in_files q d) (live.stores q) f.there (f.tells q))) (alike_itself 0 (hist_in_files q d));
      sound = λ q. alone_sound a d.rowset (hist_in_files q d) (live.stores q) (f.tells q) (f.sound q);
      later = omega arith;
      same = λ q p. group_still old a c need d p (live.stores q);
    } in
    let stands = at_rest_stands rules fill (all_but d.rowset) old (with_deltas old a c need d) durable high 0 past here log now calm
    (publishes_deltas rules old a c need there.0 d records live.stores 0 job) lends up
    (record { rowsets = all_below numbers d old.rowsets s.numbers.rowsets; records_below = s.numbers.records_below; stores = s.numbers.stores; mem = s.numbers.mem; deltas = tt }) in (
      record { content = stands.recovered.content; told = tt; ends = lends.ends; marked = stands.recovered.marked; low_enough = lends.marked; passes = tt },
      stands,
    )
