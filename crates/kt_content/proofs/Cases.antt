-- The premises of the laws on jobs are met by worked cases.
use Rattle.std.proofs.Common.{◌≡◌, ◌≤◌, ℕ, zero, suc, List, [], ◌∷◌, None, Ok, refl, arith, Bool, true, false, inl, inr}
use Rattle.std.specs.Prelude.{◌==◌}
use Rattle.std.proofs.lemmas.Bool.{le-leb, ne_eqb}
use Rattle.std.proofs.lemmas.Bool.Decides.{nat_tests}
use Rattle.kt_history.specs.declared.change.Change.TheVariants.{Ins, Upd, Del}
use Rattle.kt_history.specs.declared.operation.OpKind.TheVariants.{Insert, Update, Delete}
use Rattle.kt_history.specs.Stores.{Hist, row_of, step_of, push, never}
use Rattle.kt_histlaws.specs.Fitting.{AreSound}
use Rattle.kt_histlaws.specs.Jobs.{AreAlike, push_all}
use Rattle.kt_histlaws.proofs.Fitting.{sound_push}
use Rattle.kt_histlaws.proofs.Jobs.{both_alike}
use Rattle.kt_records.specs.declared.entry.Entry.{Entry}
use Rattle.kt_records.specs.declared.entry.Entry.TheVariants.{Replicate}
use Rattle.kt_history.specs.declared.target.Target.TheVariants.{Mem, Delta}
use Rattle.kt_content.specs.Places.{Super, Place, memory, disk, fresh, Moves, at_first}
use Rattle.kt_content.specs.KeyOps.{KeyOp, seen, played}
use Rattle.kt_content.specs.Content.{Shown}
use Rattle.kt_content.specs.InMemory.{mem_rows, rowset, Stores, group, hist_at, HasPlace, Mirrors}
use Rattle.kt_content.specs.StoreChanges.{steps_to}
use Rattle.kt_content.specs.Lending.{Duplicates, GoesOver, OverTo}
use Rattle.kt_content.specs.MissedChanges.{PutIn}
use Rattle.kt_content.specs.MissedChanges.PutIn.{changes as put_changes}
use Rattle.kt_content.specs.DeltaJobs.{IsDeltaJob}
use Rattle.kt_content.specs.Lending.Fate.{apart, covered as is_covered, doubled as is_doubled, stays}
use Rattle.kt_content.proofs.Lending.{goes_over, duplicates, alike_itself, alike_to_never}
use Rattle.kt_content.proofs.MissedChanges.{swap_duplicates}
use Rattle.kt_content.proofs.DeltaJobs.{delta_over}
use Rattle.kt_content.specs.Agreement.{Agree}
use Rattle.kt_content.specs.Publishing.{AllCarried, AllCarry, CarriedOver}
use Rattle.kt_content.specs.Publishing.Carries.{left_alone, covered, doubled}
use Rattle.kt_content.proofs.Publishing.{carries_over, two_phases}
use Rattle.kt_content.proofs.Worked.{k, a, b, c, deltas_log, redo, inserted, with_files, insert, delete, commit, rowset_flushed, super_flushed, held_updated, log_of, output, output_with_missed, published, in_the_output, log_anew, flushed, compacted, held_anew}
use Rattle.kt_content.proofs.Options.{or_none, one_alone}

-- a compaction leaves the MemRowSet alone
abbrev keep : Place → Bool
keep memory = true
keep (disk r) = false

abbrev doubled_line : List KeyOp
doubled_line = seen k (log_of (Delta 1 1 ∷ Delta 2 1 ∷ [])) (log_of (Delta 1 1 ∷ Delta 2 1 ∷ []))

-- the update went to both sides
doubled_carries : AllCarry [] keep super_flushed (published output) in_the_output doubled_line ([] ∷ ((disk 1, Upd b) ∷ []) ∷ []) ([] ∷ ((disk 2, Upd b) ∷ []) ∷ [])
doubled_carries = (left_alone (Mem 1 ∷ []) refl tt refl refl, (doubled (Delta 1 1 ∷ Delta 2 1 ∷ []) (disk 2) (Upd b) refl refl refl refl, tt))

doubled_agrees : Agree [] super_flushed held_updated doubled_line ([] ∷ ((disk 1, Upd b) ∷ []) ∷ [])
doubled_agrees = (refl, (refl, tt))

doubled_is_published : played [] (published output) (at_first k (published output)) doubled_line ≡ Ok in_the_output
doubled_is_published = two_phases [] keep super_flushed (published output) 0 (at_first k super_flushed) held_updated (at_first k (published output)) doubled_line ([] ∷ ((disk 1, Upd b) ∷ []) ∷ []) ([] ∷ ((disk 2, Upd b) ∷ []) ∷ [])
    (omega arith, (omega arith, tt)) doubled_agrees doubled_carries refl

abbrev missed_line : List KeyOp
missed_line = seen k (log_of (Delta 1 1 ∷ [])) (log_of (Delta 1 1 ∷ []))

-- a REDO file of the output has the update
missed_carries : AllCarry [] keep super_flushed (published output_with_missed) in_the_output missed_line ([] ∷ ((disk 1, Upd b) ∷ []) ∷ []) ([] ∷ [] ∷ [])
missed_carries = (left_alone (Mem 1 ∷ []) refl tt refl refl, (covered (Delta 1 1 ∷ []) refl refl refl, tt))

missed_is_published : played [] (published output_with_missed) (at_first k (published output_with_missed)) missed_line ≡ Ok in_the_output
missed_is_published = two_phases [] keep super_flushed (published output_with_missed) 0 (at_first k super_flushed) held_updated (at_first k (published output_with_missed)) missed_line ([] ∷ ((disk 1, Upd b) ∷ []) ∷ []) ([] ∷ [] ∷ [])
    (omega arith, (omega arith, tt)) (refl, (refl, tt)) missed_carries refl

-- a compaction in one step
compaction_carries : AllCarried keep flushed compacted (seen k log_anew log_anew)
compaction_carries = (inl (tt, refl), (inr ((refl, tt), refl), (inl (tt, refl), tt)))

compaction_carries_over : CarriedOver [] keep compacted (at_first k compacted) held_anew (seen k log_anew log_anew)
compaction_carries_over = carries_over [] keep flushed compacted (at_first k flushed) held_anew (at_first k compacted) (seen k log_anew log_anew) compaction_carries refl refl

-- A flush in two phases. The key is in the frozen MemRowSet, and so in the rowset that is written; a delete goes to both, and an insert after it to
-- the MemRowSet that takes writes. The superblock that the flush publishes holds the same.
abbrev keep_none : Place → Bool
keep_none memory = false
keep_none (disk r) = false

abbrev log_flush : List Entry
log_flush = Replicate 4096 (insert a) ∷ commit 4096 (Mem 1 ∷ []) ∷ Replicate 8192 delete ∷ commit 8192 (Mem 1 ∷ Delta 1 1 ∷ []) ∷ Replicate 12288 (insert b) ∷ commit 12288 (Mem 2 ∷ []) ∷ []

abbrev by_flush : Super
by_flush = record { a = 0; c = 12288; need = 6; last_mem = 1; rowsets = rowset_flushed ∷ [] }

abbrev frozen : Hist
frozen = record { first = None; steps = (4096, Ins a) ∷ (8192, Del) ∷ [] }

abbrev taking : Hist
taking = record { first = None; steps = (12288, Ins b) ∷ [] }

abbrev all_three : Hist
all_three = record { first = None; steps = (4096, Ins a) ∷ (8192, Del) ∷ (12288, Ins b) ∷ [] }

abbrev in_memory : Stores
in_memory = (mem_rows 1, frozen) ∷ (mem_rows 2, taking) ∷ (rowset 1, frozen) ∷ []

abbrev line_flush : List KeyOp
line_flush = seen k log_flush log_flush

-- three changes to two lists of histories, of which the frozen one is at one place and the one that takes writes at another
sound_one : AreSound 0 (all_three ∷ [])
sound_one =
    let none : AreSound 0 (never ∷ []) = record { fit = λ t up. (tt, tt); rise = (tt, tt) } in
    let one = sound_push 0 4096 0 [] a Insert (Ins a) (never ∷ []) none (tt, tt) (omega arith) refl refl in
    let two = sound_push 0 8192 0 [] [] Delete Del (push 4096 (Ins a) never ∷ []) one ((omega arith, tt), tt) (omega arith) refl refl in
    sound_push 0 12288 0 [] b Insert (Ins b) (push 8192 Del (push 4096 (Ins a) never) ∷ []) two ((omega arith, (omega arith, tt)), tt) (omega arith) refl refl

sound_both : AreSound 0 (taking ∷ frozen ∷ [])
sound_both =
    let none : AreSound 0 (never ∷ never ∷ []) = record { fit = λ t up. (tt, (tt, tt)); rise = (tt, (tt, tt)) } in
    let one = sound_push 0 4096 1 [] a Insert (Ins a) (never ∷ never ∷ []) none (tt, (tt, tt)) (omega arith) (refl, refl) refl in
    let two = sound_push 0 8192 1 [] [] Delete Del (never ∷ push 4096 (Ins a) never ∷ []) one (tt, ((omega arith, tt), tt)) (omega arith) (refl, refl) refl in
    sound_push 0 12288 0 [] b Insert (Ins b) (never ∷ push 8192 Del (push 4096 (Ins a) never) ∷ []) two (tt, ((omega arith, (omega arith, tt)), tt)) (omega arith) refl refl

gone_from : (t : ℕ) → 12288 ≤ t → row_of t frozen ≡ None
gone_from t le = rw (le-leb 4096 t (omega arith), le-leb 8192 t (omega arith)) refl

alike_sides : AreAlike 0 (frozen ∷ taking ∷ []) (taking ∷ frozen ∷ [])
alike_sides =
    let none : AreAlike 0 (never ∷ never ∷ []) (never ∷ never ∷ []) = record { rows = λ t le. refl; steps = λ t up. refl; one_row = λ t le. tt; one_step = λ t up. tt } in
    let one = both_alike 0 4096 0 1 (Ins a) (never ∷ never ∷ []) (never ∷ never ∷ []) none (omega arith) (omega arith) (omega arith) (λ t le. refl) (λ t le. (refl, refl)) refl in
    let two = both_alike 0 8192 0 1 Del (push 4096 (Ins a) never ∷ never ∷ []) (never ∷ push 4096 (Ins a) never ∷ []) one (omega arith) (omega arith) (omega arith) (λ t le. refl) (λ t le. (refl, refl)) refl in
    both_alike 0 12288 1 0 (Ins b) (frozen ∷ never ∷ []) (never ∷ frozen ∷ []) two (omega arith) (omega arith) (omega arith) (λ t le. (gone_from t le, refl)) (λ t le. rw (gone_from t le) refl) refl

alike_whole : AreAlike 0 (frozen ∷ taking ∷ []) (all_three ∷ [])
alike_whole =
    let none : AreAlike 0 (never ∷ never ∷ []) (never ∷ []) = record { rows = λ t le. refl; steps = λ t up. refl; one_row = λ t le. tt; one_step = λ t up. tt } in
    let one = both_alike 0 4096 0 0 (Ins a) (never ∷ never ∷ []) (never ∷ []) none (omega arith) (omega arith) (omega arith) (λ t le. refl) (λ t le. refl) refl in
    let two = both_alike 0 8192 0 0 Del (push 4096 (Ins a) never ∷ never ∷ []) (push 4096 (Ins a) never ∷ []) one (omega arith) (omega arith) (omega arith) (λ t le. refl) (λ t le. refl) refl in
    both_alike 0 12288 1 0 (Ins b) (frozen ∷ never ∷ []) (frozen ∷ []) two (omega arith) (omega arith) (omega arith) (λ t le. (gone_from t le, refl)) (λ t le. refl) refl

shown_flush : Shown 0 ((memory, all_three) ∷ []) all_three
shown_flush = record {
  shows = record { rows = λ t le. or_none (row_of t all_three); steps = λ t up. or_none (step_of t all_three); one_row = λ t le. one_alone (row_of t all_three); one_step = λ t up. one_alone (step_of t all_three) };
  sound = sound_one;
}

mirrored_flush : Mirrors 0 fresh in_memory ((memory, all_three) ∷ [])
mirrored_flush memory = alike_whole
mirrored_flush (disk r) = alike_to_never 0

abbrev moves_old : List Moves
moves_old = ((memory, Ins a) ∷ []) ∷ ((memory, Del) ∷ []) ∷ ((memory, Ins b) ∷ []) ∷ []

abbrev moves_new : List Moves
moves_new = [] ∷ ((disk 1, Del) ∷ []) ∷ ((memory, Ins b) ∷ []) ∷ []

flush_outs : (p : Place) → keep_none p ≡ false → HasPlace p (at_first k by_flush) → group by_flush p in_memory ≡ push_all (steps_to p line_flush moves_new) (hist_at p (at_first k by_flush)) ∷ []
flush_outs memory e h = refl
flush_outs (disk zero) e (inl s) = absurd (cc)
flush_outs (disk zero) e (inr (inl s)) = absurd (cc)
flush_outs (disk zero) e (inr (inr h)) = absurd h
flush_outs (disk (suc zero)) e h = refl
flush_outs (disk (suc (suc r))) e (inl s) = absurd (cc)
flush_outs (disk (suc (suc r))) e (inr (inl s)) = absurd (let f : suc (suc r) ≡ 1 = grind (arith, nat_tests) in omega (arith, f))
flush_outs (disk (suc (suc r))) e (inr (inr h)) = absurd h

flush_goes_over : (ms : List Moves) → Agree [] fresh ((memory, all_three) ∷ []) line_flush ms → Duplicates [] keep_none fresh by_flush 0 in_memory k line_flush ms
flush_goes_over (m ∷ n ∷ o ∷ []) agree = record {
  moves = moves_new;
  fates = (
    is_covered (Mem 1 ∷ []) refl (refl, tt) refl refl,
    (
      is_doubled (Mem 1 ∷ Delta 1 1 ∷ []) (disk 1) Del a refl (refl, tt) refl refl (omega arith) refl refl,
      (stays (Mem 2 ∷ []) memory (Ins b) refl (refl, tt) refl refl refl refl, tt),
    ),
  );
  outs = flush_outs;
  alike = alike_sides;
  sound = sound_both;
}
flush_goes_over [] agree = absurd agree
flush_goes_over (m ∷ []) agree = absurd agree.1
flush_goes_over (m ∷ n ∷ []) agree = absurd agree.1.1
flush_goes_over (m ∷ n ∷ o ∷ x ∷ ms) agree = absurd agree.1.1.1

flush_is_lent : OverTo [] keep_none by_flush 0 in_memory k line_flush ((memory, all_three) ∷ []) all_three
flush_is_lent = goes_over [] keep_none fresh by_flush 0 0 0 in_memory k line_flush ((memory, all_three) ∷ []) all_three (omega arith, (omega arith, (omega arith, tt))) (tt, tt) ((refl, tt), (tt, tt)) refl refl shown_flush mirrored_flush
    (λ p e. absurd (keeps_none p e)) (λ ms agree. duplicates [] keep_none fresh by_flush 0 in_memory k line_flush ms ((refl, tt), (tt, tt)) (flush_goes_over ms agree)) (omega arith) (omega arith)
  where
    keeps_none : (p : Place) → keep_none p ≡ true → ⊥
    keeps_none memory e = cc
    keeps_none (disk r) e = cc

-- A compaction that missed an update: put into its output, it makes both sides alike, and the job duplicates from then on.
abbrev as_of_the_bound : Hist
as_of_the_bound = record { first = None; steps = (4096, Ins a) ∷ [] }

abbrev with_missed : Hist
with_missed = record { first = None; steps = (4096, Ins a) ∷ (8192, Upd b) ∷ [] }

abbrev after_the_swap : Stores
after_the_swap = (mem_rows 2, never) ∷ (rowset 1, with_missed) ∷ (rowset 2, with_missed) ∷ []

bound_is_sound : AreSound 0 (as_of_the_bound ∷ [])
bound_is_sound = sound_push 0 4096 0 [] a Insert (Ins a) (never ∷ []) (record { fit = λ t up. (tt, tt); rise = (tt, tt) }) (tt, tt) (omega arith) refl refl

missed_is_put_in : PutIn 4096 (as_of_the_bound ∷ []) (as_of_the_bound ∷ []) (with_missed ∷ []) (with_missed ∷ [])
missed_is_put_in =
    put_changes ((8192, Upd b) ∷ []) 0 0 (omega arith, tt) (omega arith) (omega arith) (λ t lt. refl) (λ t lt. refl)
    (λ t lt. let other : (4096 == t) ≡ false = ne_eqb 4096 t (λ e. omega arith) in rw other refl) ((omega arith, tt), tt) (refl, refl, tt) refl refl

swap_outs : (p : Place) → keep p ≡ false → HasPlace p (at_first k (published output_with_missed)) → group (published output_with_missed) p after_the_swap
    ≡ push_all (steps_to p missed_line ([] ∷ [] ∷ [])) (hist_at p (at_first k (published output_with_missed))) ∷ []
swap_outs memory e h = absurd (cc)
swap_outs (disk zero) e (inl s) = absurd (cc)
swap_outs (disk zero) e (inr (inl s)) = absurd (cc)
swap_outs (disk zero) e (inr (inr h)) = absurd h
swap_outs (disk (suc zero)) e (inl s) = absurd (cc)
swap_outs (disk (suc zero)) e (inr (inl s)) = absurd (cc)
swap_outs (disk (suc zero)) e (inr (inr h)) = absurd h
swap_outs (disk (suc (suc zero))) e h = refl
swap_outs (disk (suc (suc (suc r)))) e (inl s) = absurd (cc)
swap_outs (disk (suc (suc (suc r)))) e (inr (inl s)) = absurd (let f : suc (suc (suc r)) ≡ 2 = grind (arith, nat_tests) in omega (arith, f))
swap_outs (disk (suc (suc (suc r)))) e (inr (inr h)) = absurd h

swap_is_a_job : Duplicates [] keep super_flushed (published output_with_missed) 0 after_the_swap k missed_line ([] ∷ ((disk 1, Upd b) ∷ []) ∷ [])
swap_is_a_job = swap_duplicates [] keep super_flushed (published output_with_missed) 0 4096 after_the_swap k missed_line ([] ∷ ((disk 1, Upd b) ∷ []) ∷ []) ([] ∷ [] ∷ []) (as_of_the_bound ∷ []) (as_of_the_bound ∷ [])
    (apart (Mem 1 ∷ []) refl tt refl refl, (is_covered (Delta 1 1 ∷ []) refl (refl, tt) refl refl, tt)) swap_outs (omega arith) (alike_itself 0 as_of_the_bound) bound_is_sound missed_is_put_in

-- A delta flush of the first update, while a second one goes to the next DeltaMemStore: the rowset's one store goes over
abbrev deltas_line : List KeyOp
deltas_line = seen k deltas_log deltas_log

abbrev before_flush : Super
before_flush = with_files 0 a ((inserted ∷ []) ∷ []) []

abbrev after_flush : Super
after_flush = with_files 1 a ((inserted ∷ []) ∷ []) ((redo 8192 b ∷ []) ∷ [])

abbrev both_updates : Hist
both_updates = record { first = None; steps = (4096, Ins a) ∷ (8192, Upd b) ∷ (12288, Upd c) ∷ [] }

both_are_sound : AreSound 0 (both_updates ∷ [])
both_are_sound =
    let two = sound_push 0 8192 0 [] b Update (Upd b) (as_of_the_bound ∷ []) bound_is_sound ((omega arith, tt), tt) (omega arith) refl refl in
    sound_push 0 12288 0 [] c Update (Upd c) (with_missed ∷ []) two ((omega arith, (omega arith, tt)), tt) (omega arith) refl refl

flush_of_deltas : IsDeltaJob [] keep before_flush after_flush 0 ((mem_rows 2, never) ∷ (rowset 1, both_updates) ∷ []) k deltas_line ([] ∷ ((disk 1, Upd b) ∷ []) ∷ ((disk 1, Upd c) ∷ []) ∷ []) (disk 1)
flush_of_deltas = record {
  moves = [] ∷ [] ∷ ((disk 1, Upd c) ∷ []) ∷ [];
  fates = (
    apart (Mem 1 ∷ []) refl tt refl refl,
    (is_covered (Delta 1 1 ∷ []) refl (refl, tt) refl refl, (stays (Delta 1 2 ∷ []) (disk 1) (Upd c) refl (refl, tt) refl refl refl refl, tt)),
  );
  read = with_missed;
  live = both_updates;
  old_place = refl;
  new_place = refl;
  old_store = refl;
  new_store = refl;
  since = refl;
  written = inl refl;
  sound = both_are_sound;
}

flush_of_deltas_goes_over : GoesOver [] keep before_flush after_flush 0 ((mem_rows 2, never) ∷ (rowset 1, both_updates) ∷ []) k deltas_line ([] ∷ ((disk 1, Upd b) ∷ []) ∷ ((disk 1, Upd c) ∷ []) ∷ [])
flush_of_deltas_goes_over = delta_over [] keep before_flush after_flush 0 ((mem_rows 2, never) ∷ (rowset 1, both_updates) ∷ []) k deltas_line ([] ∷ ((disk 1, Upd b) ∷ []) ∷ ((disk 1, Upd c) ∷ []) ∷ []) (disk 1) ((refl, tt), (tt, tt)) flush_of_deltas
