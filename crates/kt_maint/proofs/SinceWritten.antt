-- What came to the MemRowSets of a flush is put into its outputs and written behind them: all of these may be handed in.
use Rattle.std.proofs.Common.{◌≡◌, ◌≤◌, ◌<◌, ◌+◌, ◌++◌, ◌^◌, ℕ, suc, Bool, inl, Result, Ok, List, [], ◌∷◌, length, map, Some, refl, sym, ap, subst, ◌∙◌, arith, append_assoc}
use Rattle.std.specs.Prelude.{IsTrue}
use Rattle.std.specs.List.{AllByRecursion}
use Rattle.std.proofs.Math.Nat.{min-le_right}
use Rattle.std.proofs.lemmas.List.{map-append}
use Rattle.kt_disk.specs.Disk.{Files}
use Rattle.kt_history.specs.declared.changes.KeyChange.{KeyChange}
use Rattle.kt_history.specs.declared.target.Target.TheVariants.{Mem}
use Rattle.kt_history.specs.History.{Past}
use Rattle.kt_history.specs.Stores.{Hist, never}
use Rattle.kt_histlaws.specs.Fitting.{AreSound}
use Rattle.kt_histlaws.specs.Flights.{AllUnder}
use Rattle.kt_histlaws.specs.Histories.{hists}
use Rattle.kt_histlaws.specs.Jobs.{AreAlike}
use Rattle.kt_rowfiles.specs.Files.{hist_in_files}
use Rattle.kt_content.specs.Content.{NumbersDiffer}
use Rattle.kt_content.specs.Flushes.{AreFrom, before}
use Rattle.kt_content.specs.Rules.{Rules, RowsetsPass}
use Rattle.kt_content.specs.RunEvents.{RowsetsBelow}
use Rattle.kt_super.specs.Rowsets.{AreRowsets}
use Rattle.kt_super.specs.declared.meta.MetaRowset.{MetaRowset}
use Rattle.kt_files.specs.Named.{HasNamed}
use Rattle.kt_files.specs.Reading.{HoldAll}
use Rattle.kt_diskrowset.specs.declared.data.RowSetData.{RowSetData}
use Rattle.kt_diskrowset.specs.declared.inputs.Inputs.{Inputs}
use Rattle.kt_diskrowset.specs.declared.inputs.Outputs.{Outputs}
use Rattle.kt_diskrowset.specs.Data.{files_in, held_in}
use Rattle.kt_joblaws.specs.Apart.{AreApart}
use Rattle.kt_joblaws.specs.Late.{AllHaveLater}
use Rattle.kt_merge.specs.Late.{AllTellChanges, late_of, hist_with}
use Rattle.kt_merge.specs.Heads.{hist_upto}
use Rattle.kt_merge.specs.Merge.{hists_of, hists_upto, hists_written}
use Rattle.kt_outputs.specs.Outputs.{meta_in, all_file_numbers, AreStable, AreWritten, CountUp}
use Rattle.kt_outputs.specs.declared.outputs.WriteNo.{WriteNo}
use Rattle.kt_outputs.proofs.Written.{stable_then}
use Rattle.kt_storeside.specs.declared.side.Lent.{Lent}
use Rattle.kt_storeside.specs.Sides.{StoreView, IsSide}
use Rattle.kt_storeside.proofs.Named.{first_file}
use Rattle.kt_stores.specs.Takes.{Takes, mems}
use Rattle.kt_tablet.specs.Views.{View}
use Rattle.kt_tablet.specs.Jobs.{taken_stores}
use Rattle.kt_pick.specs.declared.rules.Want.{Want}
use Rattle.kt_pick.specs.declared.rules.Want.TheVariants as want
use Rattle.kt_engine.specs.declared.job.JobInput.{JobInput}
use Rattle.kt_engine.specs.declared.upkeep.Stage.TheVariants as stage
use Rattle.kt_engine.specs.Engines.{EngineView, IsFound, IsContent}
use Rattle.kt_engine.specs.JobMeta.{metas_left}
use Rattle.kt_engine.specs.Jobs.{JobView, UpkeepView, UpkeepsView, takes_by, takes_of, taken_by}
use Rattle.kt_engine.specs.JobSteps.{IsMerge, HoldInputs, TakesBy}
use Rattle.kt_engine.specs.Logged.{PlanPasses}
use Rattle.kt_engine.specs.Outside.{hists_read, job_again}
use Rattle.kt_engine.specs.Returning.{HasRefrozen, hists_in}
use Rattle.kt_engine.specs.Visits.{part_in}
use Rattle.kt_engine.proofs.TakenRead.{whole_hists}
use Rattle.kt_maint.specs.Done.{AreMerged, EndsWith, HasPutSince}
use Rattle.kt_maint.specs.JobRuns.{MayHandIn}
use Rattle.kt_maint.specs.Outside.{span_of, AreWithChanges, HaveFiles, HasCome, HasAdded, HasWritten, IsPutSince, MayComeHome}
use Rattle.kt_maint.specs.Runs.{JobIsAt, LentToWrite}
use Rattle.kt_maint.proofs.ChangeLists.{changes_told, changed_pass, all_both, hold_both, from_both, below_both, below_later, without_never}
use Rattle.kt_maint.proofs.EndLaws.{EndLaws}
use Rattle.kt_maint.proofs.LateLists.{again_files, again_fresh, numbers_stay, from_same, below_same, differ_same, once_written, outputs_rise}
use Rattle.kt_maint.proofs.LateWritten.{home_with, store_is, went_out, may_come_home}
use Rattle.kt_maint.proofs.Merged.{merged_same, written_is}
use Rattle.kt_maint.proofs.RowsetsMore.{rowsets_more}
use Rattle.kt_maint.proofs.Stages.{some_is, is_at_then}
use Rattle.kt_maint.proofs.Written.{fresh_written, from_written, differ_written, below_written}

-- the job of a flush takes MemRowSets
none_taken : {L D C : Type 0} (v : EngineView L D C) (job : JobView) (w : Want) → w ≡ want.Flush → TakesBy v job w → job.taken ≡ []
none_taken v job w is takes = (subst (TakesBy v job) is takes).none

module _ {L D C : Type 0} (tells : Bool) (seen : D → Files) (now : D → ℕ) (leaves : D → ℕ → Files → Type 0) (faults : D → ℕ) (n bound most : ℕ) (lent came : Lent D) (outs : Outputs) (done : List RowSetData) (e : EngineView L D C) (number : ℕ) (u : UpkeepsView)
    (come : HasCome tells seen now leaves faults n bound most lent (Ok outs) (part_in e n)) (side : IsSide tells seen now leaves faults e.store) (small : bound < 2 ^ 64) (laws : EndLaws) (flush : come.away.job.want ≡ want.Flush) where
  -- the tablet, whose MemRowSet that took inserts is frozen
  abbrev fz : View C
  fz = record e.tablet { core = record e.tablet.core { stores = [] ∷ e.tablet.core.stores }; names = Mem (number + 1) ∷ e.tablet.names; frozen = e.tablet.frozen + 1 }

  abbrev e1 : EngineView L D C
  e1 = record e { tablet = fz; upkeep = u }

  abbrev e2 : EngineView L D C
  e2 = record e { tablet = fz; store = home_with e.store came; upkeep = u }

  abbrev input : JobInput
  input = come.out.input

  abbrev out : List RowSetData
  out = outs.rowsets

  abbrev job : JobView
  job = come.away.job

  went : LentToWrite n e.store come.out.lent
  went = went_out tells seen now leaves faults n bound most lent (Ok outs) e come

  files : HaveFiles tells seen now leaves input come.out.lent lent out
  files = come.written.files

  abbrev made : List RowSetData
  made = files.made

  home : MayComeHome tells seen now leaves faults e.first_rowset e.first_file e.store lent
  home = may_come_home tells seen now leaves faults n bound most lent (Ok outs) e come

  given : job.first_rowset ≤ e.store.next_rowset
  given = subst (λ (s : StoreView D). job.first_rowset ≤ s.next_rowset) (sym (store_is e.store.holder e.store come.away.store n come.away.has)) come.away.given

  module _ (put : IsPutSince tells seen now leaves faults n bound most lent came job outs.rowsets done e e1) where
    back : HasRefrozen tells n job put.mems e e1
    back = put.back

    abbrev its : JobView
    its = job_again back.many back.frozen.number put.mems job

    abbrev since : JobInput
    since = put.mems.since

    abbrev lists : List (List KeyChange)
    lists = put.mems.now

    abbrev mid : Lent D
    mid = put.with_since.mid

    abbrev firsts : List RowSetData
    firsts = put.with_since.firsts.rowsets

    abbrev more : List RowSetData
    more = put.with_since.more.rowsets

    changed : AreWithChanges tells seen now leaves bound lent mid lists out firsts
    changed = put.with_since.changed

    abbrev late : List RowSetData
    late = changed.late

    added : HasAdded tells seen now leaves faults most lent mid (Ok put.with_since.firsts)
    added = put.with_since.added

    written2 : HasWritten tells seen now leaves faults most since mid came (Ok put.with_since.more)
    written2 = put.with_since.written

    files2 : HaveFiles tells seen now leaves since mid came more
    files2 = written2.files

    abbrev made2 : List RowSetData
    made2 = files2.made

    -- ---- its job is back

    flush_merges : IsMerge job.want
    flush_merges = subst IsMerge (sym flush) tt

    at_back : JobIsAt e1 n stage.Read
    at_back = record {
      job = its;
      has = ap (λ (v : UpkeepView). v.job) back.upkeep.own;
      at = refl;
      want = flush_merges;
      output = come.away.output;
      free = back.counted.1;
      begun = λ none. (let both : suc e.upkeep.begun ≡ 0 = sym back.counted.0 ∙ none in absurd (omega (arith, both)));
      given = given;
      takes = back.takes;
      as_many = back.as_many;
    }

    up_mid : e.store.next_rowset ≤ mid.next_rowset
    up_mid = let a = home.up.0 in let b = added.up.0 in omega arith

    up_came : e.store.next_rowset ≤ came.next_rowset
    up_came = let a = up_mid in let b = written2.up.0 in omega arith

    at_home : JobIsAt e2 n stage.Read
    unfolding at_back
    at_home = is_at_then n e1 e2 at_back refl refl refl refl up_came

    none : job.taken ≡ []
    none = none_taken e1 its job.want flush back.takes.takes

    takes_same : takes_of its ≡ mems back.frozen.number
    takes_same = ap (λ (t : List ℕ). takes_by t back.frozen.number) none

    -- ---- what was read, and what came later

    abbrev was : List ℕ → List Hist
    was q = hists_read want.Flush input.inputs q

    inputs_same : back.inputs ≡ input.inputs
    inputs_same = some_is back.inputs input.inputs (sym back.read ∙ come.away.inputs)

    front : (first : Past) → IsFound e2 first → (q : List ℕ) → hists_of q input.inputs ≡ never ∷ was q
    front first found q = subst (λ (i : Inputs). hists_of q i ≡ never ∷ hists_read want.Flush i q) inputs_same (back.front first found q)

    later : (first : Past) → IsFound e2 first → (q : List ℕ) → AllHaveLater job.bound (was q) (hists_in q lists)
    later first found q = subst (λ (i : Inputs). AllHaveLater job.bound (hists_read want.Flush i q) (hists_in q lists)) inputs_same (back.later first found q)

    apart : (first : Past) → IsFound e2 first → (q : List ℕ) → AreApart job.mark (was q) × AllUnder (suc job.bound) (was q)
    apart first found q = subst (λ (i : Inputs). AreApart job.mark (hists_read want.Flush i q) × AllUnder (suc job.bound) (hists_read want.Flush i q)) inputs_same (back.apart first found q)

    told : AllTellChanges job.bound lists out late
    told = subst (λ (b : ℕ). AllTellChanges b lists out late) (come.bound_is ∙ sym come.away.times.0) changed.told

    -- ---- what was merged

    abbrev merged_then : AreMerged (IsFound e2) (record its { bound = input.bound; mark = input.mark }) made
    merged_then = record {
      inputs = input.inputs;
      read = come.away.inputs;
      outputs = files.merged.outputs;
      keys = files.merged.keys;
      rows = λ first found. files.merged.rows (come.away.well.faultless first found);
      alike = λ first found. files.merged.alike (come.away.well.faultless first found);
    }

    abbrev merged : AreMerged (IsFound e2) its made
    merged = merged_same (IsFound e2) (IsFound e2) (λ past is. is) (record its { bound = input.bound; mark = input.mark }) its refl come.away.times.0 come.away.times.1 made merged_then

    abbrev merged2 : AreMerged (IsFound e2) (record its { inputs = Some since.inputs; bound = since.bound; mark = since.mark }) made2
    merged2 = record {
      inputs = since.inputs;
      read = refl;
      outputs = files2.merged.outputs;
      keys = files2.merged.keys;
      rows = λ first found. files2.merged.rows (back.faultless first found);
      alike = λ first found. files2.merged.alike (back.faultless first found);
    }

    -- ---- the outputs hold what the job takes

    abbrev told_in : List ℕ → List RowSetData → List Hist
    told_in q ds = map (hist_in_files q) (map files_in ds)

    files_same : (q : List ℕ) → hists_written q made ≡ told_in q out
    files_same q = written_is q made ∙ sym (laws.same come.out.lent.next_rowset made out q files.written)

    files_same2 : (q : List ℕ) → hists_written q made2 ≡ told_in q more
    files_same2 q = written_is q made2 ∙ sym (laws.same mid.next_rowset made2 more q files2.written)

    was_upto : (first : Past) → IsFound e2 first → (q : List ℕ) → hists_upto job.bound q input.inputs ≡ never ∷ was q
    was_upto first found q = ap (map (hist_upto job.bound)) (front first found q) ∙ whole_hists job.bound (never ∷ was q) (tt, (apart first found q).1)

    was_alike : (first : Past) → IsFound e2 first → (q : List ℕ) → AreAlike job.mark (was q) (told_in q out)
    was_alike first found q =
        without_never job.mark (was q) (told_in q out)
        (subst (λ (xs : List Hist). AreAlike job.mark xs (told_in q out)) (was_upto first found q)
        (subst (AreAlike job.mark (hists_upto job.bound q input.inputs)) (files_same q) (merged.alike first found q)))

    was_sound : (first : Past) → IsFound e2 first → (q : List ℕ) → AreSound job.mark (told_in q out)
    was_sound first found q =
        subst (AreSound job.mark) (files_same q) (subst (λ (m : ℕ). AreSound m (hists_written q made)) (sym come.away.times.1) (files.merged.sound (come.away.well.faultless first found) q))

    again_told : (q : List ℕ) → map (hist_with q (late_of job.bound (hists_in q lists))) (map files_in out) ≡ told_in q firsts
    again_told q = sym (changes_told job.bound lists q out late told) ∙ ap (map (hist_in_files q)) (sym (again_files late firsts changed.files.again))

    late_are : (first : Past) → IsFound e2 first → (q : List ℕ) → AreAlike job.mark (hists_in q lists) (told_in q firsts) × AreSound job.mark (told_in q firsts)
    late_are first found q =
        let both = laws.changes_alike job.mark job.bound q (was q) (hists_in q lists) (map files_in out) back.mark.0 (apart first found q).0 (apart first found q).1 (later first found q)
        (once_written q come.out.lent.next_rowset made out files.written (laws.once input.inputs.columns made q files.merged.outputs)) (was_alike first found q) (was_sound first found q) in
        (subst (AreAlike job.mark (hists_in q lists)) (again_told q) both.0, subst (AreSound job.mark) (again_told q) both.1)

    low_since : since.mark ≤ e.tablet.core.a
    low_since = subst (λ (m : ℕ). m ≤ e.tablet.core.a) (sym back.since.mark) (min-le_right since.bound e.tablet.core.a)

    abbrev upto_since : List ℕ → List Hist
    upto_since q = hists_upto since.bound q since.inputs

    more_alike : (first : Past) → IsFound e2 first → (q : List ℕ) → AreAlike e.tablet.core.a (upto_since q) (told_in q more)
    more_alike first found q =
        (laws.rise since.mark e.tablet.core.a (upto_since q) (told_in q more) low_since).0
        (subst (AreAlike since.mark (upto_since q)) (files_same2 q) (files2.merged.alike (back.faultless first found) q))

    more_sound : (first : Past) → IsFound e2 first → (q : List ℕ) → AreSound e.tablet.core.a (told_in q more)
    more_sound first found q =
        (laws.rise since.mark e.tablet.core.a (upto_since q) (told_in q more) low_since).1
        (subst (AreSound since.mark) (files_same2 q) (files2.merged.sound (back.faultless first found) q))

    firsts_alike : (first : Past) → IsFound e2 first → (q : List ℕ) → AreAlike e.tablet.core.a (hists_in q lists) (told_in q firsts)
    firsts_alike first found q = (laws.rise job.mark e.tablet.core.a (hists_in q lists) (told_in q firsts) back.mark.1).0 (late_are first found q).0

    firsts_sound : (first : Past) → IsFound e2 first → (q : List ℕ) → AreSound e.tablet.core.a (told_in q firsts)
    firsts_sound first found q = (laws.rise job.mark e.tablet.core.a (hists_in q lists) (told_in q firsts) back.mark.1).1 (late_are first found q).1

    abbrev taken : List ℕ → List Hist
    taken q = hists q (taken_stores (mems back.frozen.number) fz)

    both_alike : (first : Past) → IsFound e2 first → (q : List ℕ) → AreAlike e.tablet.core.a (taken q) (told_in q firsts ++ told_in q more)
    both_alike first found q =
        let parts = back.parts first found q in
        let whole : AreApart e.tablet.core.a (upto_since q ++ hists_in q lists) = subst (AreApart e.tablet.core.a) (sym parts) (back.whole first found q) in
        subst (λ (xs : List Hist). AreAlike e.tablet.core.a xs (told_in q firsts ++ told_in q more)) parts
        (laws.turned e.tablet.core.a (upto_since q ++ hists_in q lists) (told_in q more) (told_in q firsts)
        (laws.alike e.tablet.core.a (upto_since q) (hists_in q lists) (told_in q more) (told_in q firsts) whole (more_alike first found q) (firsts_alike first found q)))

    files_are : map files_in firsts ++ map files_in more ≡ map files_in done
    files_are = sym (ap (map files_in) put.with_since.both ∙ map-append files_in firsts more)

    told_both : (q : List ℕ) → told_in q firsts ++ told_in q more ≡ told_in q done
    told_both q = sym (map-append (hist_in_files q) (map files_in firsts) (map files_in more)) ∙ ap (map (hist_in_files q)) files_are

    hold_both_parts : (first : Past) → IsFound e2 first → HoldInputs fz (takes_of its) (map files_in done)
    hold_both_parts first found = record {
      alike = λ q.
          subst (λ (t : Takes). AreAlike e.tablet.core.a (hists q (taken_stores t fz)) (told_in q done)) (sym takes_same)
          (subst (AreAlike e.tablet.core.a (taken q)) (told_both q) (both_alike first found q));
      sound = λ q. subst (AreSound e.tablet.core.a) (told_both q) (laws.sound e.tablet.core.a (told_in q firsts) (told_in q more) (firsts_sound first found q) (more_sound first found q));
    }

    -- ---- and pass the rules of the table

    low_mark : input.mark < 2 ^ 64
    low_mark = let a = come.away.may.order in let b = come.bound_is in omega (arith, a, b, small)

    module _ (t : IsTrue tells) (rules : Rules) (first : Past) (content : IsContent rules e2 first) (plan : PlanPasses rules e.tablet.core.work) where
      out_pass : RowsetsPass rules (map files_in out)
      out_pass =
          let fit = come.away.well.faultless first content.opens in
          laws.still rules come.out.lent.next_rowset made out files.written
          (laws.pass rules (span_of input) input.inputs made content.closed low_mark fit files.merged.outputs (files.merged.rows fit)
          (come.away.well.passes t rules first (record { closed = content.closed; opens = content.opens; holds = content.holds }) plan))

      its_passes : IsContent rules e1 first
      its_passes = record { closed = content.closed; opens = content.opens; holds = content.holds }

      firsts_pass : RowsetsPass rules (map files_in firsts)
      firsts_pass =
          subst (RowsetsPass rules) (sym (again_files late firsts changed.files.again))
          (changed_pass job.bound lists rules content.closed job.mark back.mark.0 (λ q. (back.passes t rules first its_passes plan q).0) laws.changes_pass laws.passes laws.back
          out late (outputs_rise come.out.lent.next_rowset made out files.merged.outputs.rise files.written) out_pass told changed.adds changed.whole)

      more_pass : RowsetsPass rules (map files_in more)
      more_pass =
          let fit = back.faultless first content.opens in
          laws.still rules mid.next_rowset made2 more files2.written
          (laws.pass rules (span_of since) since.inputs made2 content.closed put.with_since.small fit files2.merged.outputs (files2.merged.rows fit)
          (λ q. (back.passes t rules first its_passes plan q).1))

      both_pass : RowsetsPass rules (map files_in done)
      both_pass = subst (RowsetsPass rules) files_are (laws.both_pass rules (map files_in firsts) (map files_in more) firsts_pass more_pass)

    -- ---- their files

    abbrev metas : List RowSetData → List MetaRowset
    metas ds = map (meta_in 0) ds

    metas_are : metas firsts ++ metas more ≡ metas done
    metas_are = sym (ap (map (meta_in 0)) put.with_since.both ∙ map-append (meta_in 0) firsts more)

    held_are : map held_in firsts ++ map held_in more ≡ map held_in done
    held_are = sym (ap (map held_in) put.with_since.both ∙ map-append held_in firsts more)

    low : 3 ≤ e.store.next_file
    low = let x = first_file e.store.meta side.rules in let y = side.files in omega arith

    abbrev left : List MetaRowset
    left = e.store.meta.rowsets

    rowsets_at : (rowset file : ℕ) → e.store.next_rowset ≤ rowset → e.store.next_file ≤ file → AreRowsets rowset file 0 [] left
    rowsets_at rowset file up_rowset up_file =
        rowsets_more e.store.meta.next_rowset rowset e.store.meta.next_file file 0 [] left (let a = side.rowsets in omega arith) (let a = side.files in omega arith) side.rules.rowsets

    numbered : CountUp e.store.next_file lent.next_file (all_file_numbers out)
    numbered = subst (λ (k : ℕ). CountUp k lent.next_file (all_file_numbers out)) went.numbers.1 files.numbered

    written : AreWritten e.store.next_rowset made out
    written = subst (λ (k : ℕ). AreWritten k made out) went.numbers.0 files.written

    named_out : AreRowsets lent.next_rowset lent.next_file 0 [] (left ++ metas out)
    named_out =
        laws.behind left e.store.meta.next_rowset e.store.meta.next_file e.store.next_rowset e.store.next_file lent.next_rowset lent.next_file made out
        side.rules.rowsets (rowsets_at lent.next_rowset lent.next_file home.up.0 home.up.1)
        side.rowsets side.files low written (files.rowset ∙ ap (λ (k : ℕ). k + length made) went.numbers.0) numbered files.short

    named_firsts : AreRowsets mid.next_rowset mid.next_file 0 [] (left ++ metas firsts)
    named_firsts =
        subst (λ (k : ℕ). AreRowsets k mid.next_file 0 [] (left ++ metas firsts)) (sym changed.files.rowset)
        (laws.late_named left lent.next_rowset lent.next_file mid.next_file out late firsts named_out (let a = home.up.1 in let b = low in omega arith) changed.adds changed.files.numbered)

    joined_are : (left ++ metas firsts) ++ metas more ≡ left ++ metas done
    joined_are = append_assoc left (metas firsts) (metas more) ∙ ap (λ (l : List MetaRowset). left ++ l) metas_are

    same_or_up : (k : ℕ) → k ≤ k
    same_or_up k = omega arith

    named_both : AreRowsets came.next_rowset came.next_file 0 [] (left ++ metas done)
    named_both =
        subst (AreRowsets came.next_rowset came.next_file 0 []) joined_are
        (laws.behind (left ++ metas firsts) mid.next_rowset mid.next_file mid.next_rowset mid.next_file came.next_rowset came.next_file made2 more
        named_firsts (rowsets_more mid.next_rowset came.next_rowset mid.next_file came.next_file 0 [] (left ++ metas firsts) written2.up.0 written2.up.1 named_firsts)
        (same_or_up mid.next_rowset) (same_or_up mid.next_file) (let a = home.up.1 in let b = added.up.1 in let c = low in omega arith)
        files2.written files2.rowset files2.numbered files2.short)

    hold_firsts : IsTrue tells → HoldAll (seen mid.device) (metas firsts) (map held_in firsts)
    hold_firsts t = changed.files.holds t (laws.late_others (seen mid.device) out late changed.adds (files.holds t (seen mid.device) (λ k lo hi. (added.left t).reads k (inl hi))))

    hold_files : IsTrue tells → HoldAll (seen came.device) (metas done) (map held_in done)
    hold_files t =
        subst (λ (rs : List MetaRowset). HoldAll (seen came.device) rs (map held_in done)) metas_are
        (subst (HoldAll (seen came.device) (metas firsts ++ metas more)) held_are
        (hold_both (seen came.device) (metas firsts) (metas more) (map held_in firsts) (map held_in more)
        (laws.others left mid.next_rowset mid.next_file firsts (seen mid.device) (seen came.device) named_firsts (λ k lo hi. (written2.left t).reads k (inl hi)) (hold_firsts t))
        (files2.holds t (seen came.device) (λ k lo hi. refl))))

    stable : IsTrue tells → AreStable seen now leaves e.store.next_file came.next_file came.device
    stable t =
        let to_mid : e.store.next_file ≤ mid.next_file = (let a = home.up.1 in let b = added.up.1 in omega arith) in
        stable_then seen now leaves e.store.next_file mid.next_file came.next_file e.store.known mid.device came.device to_mid written2.up.1
        (stable_then seen now leaves e.store.next_file lent.next_file mid.next_file e.store.known lent.device mid.device home.up.1 added.up.1
        (subst (λ (k : ℕ). AreStable seen now leaves k lent.next_file lent.device) went.numbers.1 (files.stable t)) (added.left t) (changed.files.stable t))
        (written2.left t) (files2.stable t)

    stand : IsTrue tells → (image : Files) → leaves came.device (now came.device) image → HasNamed left (seen came.device) image → HasNamed (left ++ metas done) (seen came.device) image
    stand t image here is =
        let there = stable t image here in
        subst (λ (rs : List MetaRowset). HasNamed rs (seen came.device) image) joined_are
        (laws.stand (left ++ metas firsts) mid.next_file came.next_file more (seen came.device) image files2.numbered (λ k lo hi. there k (let a = home.up.1 in let b = added.up.1 in omega arith) hi)
        (laws.late_stand left lent.next_file mid.next_file out late firsts (seen came.device) image changed.adds changed.files.numbered
        (λ k lo hi. there k (let a = home.up.1 in omega arith) (let b = written2.up.1 in omega arith))
        (laws.stand left e.store.next_file lent.next_file out (seen came.device) image numbered (λ k lo hi. there k lo (let a = added.up.1 in let b = written2.up.1 in omega arith)) is)))

    named_left : AreRowsets came.next_rowset came.next_file 0 [] (metas_left (takes_of its) left ++ metas done)
    named_left = subst (λ (t : Takes). AreRowsets came.next_rowset came.next_file 0 [] (metas_left t left ++ metas done)) (sym takes_same) named_both

    stand_left : IsTrue tells → (image : Files) → leaves came.device (now came.device) image → HasNamed (metas_left (takes_of its) left) (seen came.device) image → HasNamed (metas_left (takes_of its) left ++ metas done) (seen came.device) image
    stand_left t image here is =
        subst (λ (x : Takes). HasNamed (metas_left x left ++ metas done) (seen came.device) image) (sym takes_same)
        (stand t image here (subst (λ (x : Takes). HasNamed (metas_left x left) (seen came.device) image) takes_same is))

    -- ---- so they may be handed in

    since_ends : HasPutSince (IsFound e2) its input.inputs out done
    since_ends = record {
      mems = put.mems;
      is = refl;
      later = later;
      late = late;
      tells = told;
      adds = changed.adds;
      firsts = firsts;
      again = changed.files.again;
      made = made2;
      merged = merged2;
      number = mid.next_rowset;
      more = more;
      written = files2.written;
      both = put.with_since.both;
    }

    ends : EndsWith (IsFound e2) job.want its input.inputs out done
    ends = subst (λ (w : Want). EndsWith (IsFound e2) w its input.inputs out done) (sym flush) since_ends

    fresh_both : AllByRecursion (λ (d : RowSetData). d.fresh ≡ []) done
    fresh_both =
        subst (AllByRecursion (λ (d : RowSetData). d.fresh ≡ [])) (sym put.with_since.both)
        (all_both (λ (d : RowSetData). d.fresh ≡ []) firsts more (again_fresh late firsts changed.files.again) (fresh_written mid.next_rowset made2 more files2.written))

    from_firsts : AreFrom job.first_rowset (map files_in firsts)
    from_firsts = from_same job.first_rowset out firsts (numbers_stay out late firsts changed.adds changed.files.again) (from_written job.first_rowset e.store.next_rowset made out given written)

    below_firsts : RowsetsBelow (before mid.next_rowset its.last_mem) (map files_in firsts)
    below_firsts =
        below_same (before mid.next_rowset its.last_mem) out firsts (numbers_stay out late firsts changed.adds changed.files.again)
        (below_written e.store.next_rowset mid.next_rowset its.last_mem made out (let a = files.rowset in let b = went.numbers.0 in let c = changed.files.rowset in omega arith) written)

    differ_both : NumbersDiffer (map files_in done)
    differ_both =
        subst NumbersDiffer files_are
        (laws.differ mid.next_rowset its.last_mem (map files_in firsts) (map files_in more)
        (differ_same out firsts (numbers_stay out late firsts changed.adds changed.files.again) (differ_written e.store.next_rowset made out written))
        (differ_written mid.next_rowset made2 more files2.written) below_firsts (from_written mid.next_rowset mid.next_rowset made2 more (same_or_up mid.next_rowset) files2.written))

    given_both : RowsetsBelow (before came.next_rowset its.last_mem) (map files_in done)
    given_both =
        subst (RowsetsBelow (before came.next_rowset its.last_mem)) files_are
        (below_both (before came.next_rowset its.last_mem) (map files_in firsts) (map files_in more) (below_later mid.next_rowset came.next_rowset its.last_mem (map files_in firsts) written2.up.0 below_firsts)
        (below_written mid.next_rowset came.next_rowset its.last_mem made2 more (let a = files2.rowset in omega arith) files2.written))

    pub since_may : MayHandIn tells seen now leaves e2 n job.want done
    unfolding at_home at_back
    since_may = record {
      at = at_home;
      want = refl;
      fresh = fresh_both;
      from = subst (AreFrom job.first_rowset) files_are
          (from_both job.first_rowset (map files_in firsts) (map files_in more) from_firsts (from_written job.first_rowset mid.next_rowset made2 more (let a = given in let b = up_mid in omega arith) files2.written));
      differ = differ_both;
      given = given_both;
      small = written2.small;
      hold = hold_files;
      holds = hold_both_parts;
      passes = both_pass;
      named = named_left;
      stand = stand_left;
      taken = come.away.want.2 ∙ ap taken_by (sym come.away.want.0);
      made = made;
      merged = merged;
      first = e.store.next_rowset;
      out = out;
      written = written;
      ends = ends;
    }

-- of the tablet as it is then
module _ {L D C : Type 0} (tells : Bool) (seen : D → Files) (now : D → ℕ) (leaves : D → ℕ → Files → Type 0) (faults : D → ℕ) (n bound most : ℕ) (lent came : Lent D) (outs : Outputs) (done : List RowSetData) (r : Result Outputs WriteNo) (e : EngineView L D C) (tablet : View C) (u : UpkeepsView)
    (come : HasCome tells seen now leaves faults n bound most lent (Ok outs) (part_in e n)) (side : IsSide tells seen now leaves faults e.store) (added : HasAdded tells seen now leaves faults most lent came r) (small : bound < 2 ^ 64) (few : came.next_rowset < 2 ^ 64) (laws : EndLaws)
    (flush : come.away.job.want ≡ want.Flush) (put : IsPutSince tells seen now leaves faults n bound most lent came come.away.job outs.rowsets done e (record e { tablet = tablet; upkeep = u })) where
  pub since_hand_in : MayHandIn tells seen now leaves (record e { tablet = tablet; store = home_with e.store came; upkeep = u }) n come.away.job.want done
  since_hand_in =
      let same = put.back.frozen.is in
      let there = subst (λ (t : View C). IsPutSince tells seen now leaves faults n bound most lent came come.away.job outs.rowsets done e (record e { tablet = t; upkeep = u })) same put in
      subst (λ (t : View C). MayHandIn tells seen now leaves (record e { tablet = t; store = home_with e.store came; upkeep = u }) n come.away.job.want done) (sym same)
      (since_may tells seen now leaves faults n bound most lent came outs done e put.back.frozen.number u come side small laws flush there)
