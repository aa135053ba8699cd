-- A tablet that is opened without rowsets: what its stores show of a key is what the log alone makes of it.
use Rattle.std.proofs.Common.{◌≡◌, ℕ, List, [], ◌∷◌, ◌++◌, length, map, Some, None, Ok, refl, sym, cond, ap, ◌∙◌, subst, arith, not}
use Rattle.std.specs.List.{All, filter}
use Rattle.std.proofs.lemmas.List.{length-map}
use Rattle.kt_history.specs.declared.change.Change.{Change}
use Rattle.kt_history.specs.declared.event.Event.{Event}
use Rattle.kt_history.specs.declared.target.Target.{Target}
use Rattle.kt_history.specs.declared.target.Target.TheVariants.{Mem, Delta}
use Rattle.kt_history.specs.Rows.{Row}
use Rattle.kt_history.specs.History.{Past}
use Rattle.kt_history.specs.Machine.{State, start, state_after}
use Rattle.kt_history.specs.Stores.{Steps, Hist, never, hist_in}
use Rattle.kt_records.specs.declared.entry.Entry.{Entry}
use Rattle.kt_records.specs.declared.entry.Entry.TheVariants.{Replicate, Commit}
use Rattle.kt_journal.specs.Log.{IsLog}
use Rattle.kt_histlaws.specs.Core.{Core, Stands, now}
use Rattle.kt_histlaws.specs.Histories.{hists, past_hist, ShowsKey, timeline}
use Rattle.kt_histlaws.specs.Jobs.{AreAlike}
use Rattle.kt_histlaws.specs.Pending.{Aloft, is_pending, done}
use Rattle.kt_histlaws.proofs.Pending.{timeline-done, shows_alike}
use Rattle.kt_content.specs.Places.{Super, Place, memory, disk, fresh, Held, held_in}
use Rattle.kt_content.specs.Rules.{Rules, AreRules}
use Rattle.kt_content.specs.Content.{IsContent as HoldsPast}
use Rattle.kt_content.specs.KeyOps.{KeyOp, played, seen}
use Rattle.kt_content.specs.InMemory.{is_at, group, hist_at, Mirrors}
use Rattle.kt_content.proofs.Lending.{alike_to_never}
use Rattle.kt_tablet.specs.Views.{View, Opens}
use Rattle.kt_engine.specs.Logged.{IsMem, AreDue, AreCommits, TakesUp, StoresPass}
use Rattle.kt_engine.specs.Memory.{by_name, IsNamed, FirstIsMem, NamesDiffer, AreNamed}
use Rattle.kt_engine.proofs.Lists.{all_head, all_tail, all_each}
use Rattle.kt_engine.proofs.Records.{lt_test}
use Rattle.kt_engine.proofs.Told.{alone_in, alone_played, due_told}

-- ---- the stores of an engine in which nothing has happened

-- nothing is pending
all_done : (q : List ℕ) (steps : Steps) → filter (λ (c : ℕ × Change). not (is_pending [] q c.0)) steps ≡ steps
all_done q [] = refl
all_done q (c ∷ steps) = ap (λ (l : Steps). c ∷ l) (all_done q steps)

module _ (core : Core) (st : Stands core) (trail : core.trail ≡ []) (aloft : core.aloft ≡ []) where
  state_is : start core.work core.first core.opened ≡ now core st.past
  state_is = ap (λ (es : List Event). state_after core.work (start core.work core.first core.opened) es) (sym trail) ∙ st.run.state

  -- they show what opening found
  pub shows_first : (q : List ℕ) → ShowsKey core.first.mark (hists q core.stores) (past_hist q core.first)
  shows_first q =
      let all = shows_alike core.a core.stores (done [] st.past) st.past refl (λ k. timeline-done k [] st.past.writes ∙ all_done k (timeline k st.past.writes))
      (subst (λ (ws : List Aloft). (k : List ℕ) → ShowsKey core.a (hists k core.stores) (past_hist k (done ws st.past))) aloft st.stores.same) in
      let past_is : core.first ≡ st.past = ap (λ (s : State). s.past) state_is in
      let mark_is : core.first.mark ≡ core.a = ap (λ (s : State). s.a) state_is in
      subst (λ (a : ℕ). ShowsKey a (hists q core.stores) (past_hist q core.first)) (sym mark_is) (subst (λ (p : Past). ShowsKey core.a (hists q core.stores) (past_hist q p)) (sym past_is) (all q))

-- ---- each of them stands for the MemRowSet of the opening

mem_named : (t : Target) → IsMem t → IsNamed fresh t
mem_named (Mem n) is = is
mem_named (Delta r n) is = absurd is

first_mem : (names : List Target) → All IsMem names → FirstIsMem names
first_mem [] mems = tt
first_mem (Mem n ∷ names) mems = tt
first_mem (Delta r n ∷ names) mems = absurd (all_head IsMem (Delta r n) names mems)

mems_named : (names : List Target) → All IsMem names → NamesDiffer names → AreNamed fresh names
mems_named names mems differ = record { each = all_each IsMem (IsNamed fresh) names mem_named mems; first = first_mem names mems; differ = differ }

in_memory : (names : List Target) (hs : List Hist) → All IsMem names → length names ≡ length hs → group fresh memory (by_name names hs) ≡ hs
in_memory [] [] mems many = refl
in_memory [] (h ∷ hs) mems many = absurd (omega arith)
in_memory (t ∷ names) [] mems many = absurd (omega arith)
in_memory (Mem n ∷ names) (h ∷ hs) mems many =
    let rest = group fresh memory (by_name names hs) in
    let up = all_head IsMem (Mem n) names mems in
    ap (λ b. cond (is_at memory (cond b (Some memory) None)) (h ∷ rest) rest) (lt_test 0 n up.0) ∙ ap (λ (l : List Hist). h ∷ l) (in_memory names hs (all_tail IsMem (Mem n) names mems) (omega arith))
in_memory (Delta r n ∷ names) (h ∷ hs) mems many = absurd (all_head IsMem (Delta r n) names mems)

none_on_disk : (r : ℕ) (names : List Target) (hs : List Hist) → All IsMem names → group fresh (disk r) (by_name names hs) ≡ []
none_on_disk r [] hs mems = refl
none_on_disk r (t ∷ names) [] mems = refl
none_on_disk r (Mem n ∷ names) (h ∷ hs) mems =
    let rest = group fresh (disk r) (by_name names hs) in
    let up = all_head IsMem (Mem n) names mems in
    ap (λ b. cond (is_at (disk r) (cond b (Some memory) None)) (h ∷ rest) rest) (lt_test 0 n up.0) ∙ none_on_disk r names hs (all_tail IsMem (Mem n) names mems)
none_on_disk r (Delta s n ∷ names) (h ∷ hs) mems = absurd (all_head IsMem (Delta s n) names mems)

alike_shown : (a : ℕ) (xs ys : List Hist) (whole : Hist) → ShowsKey a xs whole → ShowsKey a ys whole → AreAlike a xs ys
alike_shown a xs ys whole s t = record { rows = λ u le. s.rows u le ∙ sym (t.rows u le); steps = λ u up. s.steps u up ∙ sym (t.steps u up); one_row = t.one_row; one_step = t.one_step }

alone_mirrors : (a : ℕ) (names : List Target) (hs : List Hist) (g whole : Hist) → All IsMem names → length names ≡ length hs → ShowsKey a hs whole → ShowsKey a (g ∷ []) whole
    → (p : Place) → AreAlike a (group fresh p (by_name names hs)) (hist_at p (alone_in g) ∷ [])
alone_mirrors a names hs g whole mems many shows held memory = subst (λ (l : List Hist). AreAlike a l (g ∷ [])) (sym (in_memory names hs mems many)) (alike_shown a hs (g ∷ []) whole shows held)
alone_mirrors a names hs g whole mems many shows held (disk r) = subst (λ (l : List Hist). AreAlike a l (never ∷ [])) (sym (none_on_disk r names hs mems)) (alike_to_never a)

-- so stores that show the same history as the log alone mirror what that has
bare_mirrors : (fill : Row) (a : ℕ) (names : List Target) (hs : List Hist) (xs : List KeyOp) (held : Held) (whole : Hist) → All IsMem names → length names ≡ length hs → ShowsKey a hs whole
    → played fill fresh (alone_in never) xs ≡ Ok held → ShowsKey a (held_in held) whole → Mirrors a fresh (by_name names hs) held
bare_mirrors fill a names hs xs held whole mems many shows plays shown =
    let one = alone_played fill never xs held plays in
    subst (λ (l : Held). Mirrors a fresh (by_name names hs) l) (sym one.1) (alone_mirrors a names hs one.0 whole mems many shows (subst (λ (l : Held). ShowsKey a (held_in l) whole) one.1 shown))

-- ---- so such a tablet can be taken up, whatever the superblock of a fresh tablet is called

pub due_commits : (fill : Row) (names : List Target) (past : Past) (records queued : List Entry) → AreDue fill names past records queued → AreCommits queued
due_commits fill names past records [] h = tt
due_commits fill names past records (Replicate ts ops ∷ queued) h = absurd h
due_commits fill names past records (Commit ts rows ∷ queued) h = due_commits fill names past records queued h.1

takes_up : (rules : Rules) (core : Core) (names : List Target) (records queued : List Entry) → Stands core → core.trail ≡ [] → core.aloft ≡ [] → All IsMem names → length names ≡ length core.stores
    → IsLog (records ++ queued) → AreDue core.work.fill names core.first records queued → HoldsPast rules core.work.fill fresh records core.opened core.first
    → StoresPass rules core.stores → TakesUp rules core.work.fill fresh names core.stores records queued core.opened core.first
takes_up rules core names records queued st trail aloft mems stored log due holds passes =
    let fill = core.work.fill in
    let past = core.first in
    record {
      told = due_told rules fill names core.opened core.opened past records mems records queued (λ ts. refl) log holds due;
      mirrors = λ q h.
          let shows : ShowsKey 0 (hists q core.stores) (past_hist q past) = subst (λ (a : ℕ). ShowsKey a (hists q core.stores) (past_hist q past)) holds.mark (shows_first core st trail aloft q) in
          bare_mirrors fill 0 names (hists q core.stores) (seen q (records ++ queued) (records ++ queued)) h.held (past_hist q past) mems (stored ∙ sym (length-map core.stores (hist_in q))) shows h.is h.shown.shows;
      passes = passes;
    }

pub bare_takes_up : {C : Type 0} (tablet : View C) (super : Super) (records queued : List Entry) → super ≡ fresh → tablet.core.trail ≡ [] → tablet.core.aloft ≡ [] → All IsMem tablet.names → length tablet.names ≡ length tablet.core.stores
    → ((first : Past) → Opens tablet.opening tablet.mark tablet.core.opened first → Stands (record tablet.core { first = first })) → IsLog (records ++ queued)
    → ((first : Past) → Opens tablet.opening tablet.mark tablet.core.opened first → AreDue tablet.core.work.fill tablet.names first records queued) → ((rules : Rules) → StoresPass rules tablet.core.stores)
    → (rules : Rules) (first : Past) → AreRules rules → Opens tablet.opening tablet.mark tablet.core.opened first → HoldsPast rules tablet.core.work.fill super records tablet.core.opened first
    → TakesUp rules tablet.core.work.fill super tablet.names tablet.core.stores records queued tablet.core.opened first
bare_takes_up tablet super records queued is trail aloft mems stored stands log due passes rules first closed opens holds =
    subst (λ (s : Super). TakesUp rules tablet.core.work.fill s tablet.names tablet.core.stores records queued tablet.core.opened first) (sym is)
    (takes_up rules (record tablet.core { first = first }) tablet.names records queued (stands first opens) trail aloft mems stored log (due first opens)
    (subst (λ (s : Super). HoldsPast rules tablet.core.work.fill s records tablet.core.opened first) is holds) (passes rules))

pub bare_named : (super : Super) (names : List Target) → super ≡ fresh → All IsMem names → NamesDiffer names → AreNamed super names
bare_named super names is mems differ = subst (λ (s : Super). AreNamed s names) (sym is) (mems_named names mems differ)
