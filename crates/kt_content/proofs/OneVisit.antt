-- A job while nothing flies and every record is durable.
use Rattle.std.proofs.Common.{◌≡◌, ◌≤◌, ℕ, suc, max, List, [], ◌∷◌, ◌++◌, Some, None, Option, Ok, refl, sym, ap, ◌∙◌, subst, arith, cond, true, false, Bool, inl, inr}
use Rattle.std.specs.Prelude.{is_some, ◌||◌, length}
use Rattle.std.specs.List.{filter, list_any}
use Rattle.std.specs.Ordering.{eq_by_cmp}
use Rattle.kt_history.specs.declared.change.Change.{Change}
use Rattle.kt_history.specs.declared.operation.RowOp.{RowOp}
use Rattle.kt_history.specs.declared.target.Target.{Target}
use Rattle.kt_history.specs.History.{Past, raise}
use Rattle.kt_history.specs.Rows.{Row, key_cmp}
use Rattle.kt_history.specs.Operations.{effect}
use Rattle.kt_history.specs.Stores.{Hist, Under}
use Rattle.kt_records.specs.declared.entry.Entry.{Entry}
use Rattle.kt_records.specs.declared.entry.Entry.TheVariants.{Replicate, Commit}
use Rattle.kt_records.specs.declared.entry.CommitRow.{CommitRow}
use Rattle.kt_journal.specs.Log.{IsLog}
use Rattle.kt_loglaws.specs.Replay.{commit_of, last_of}
use Rattle.kt_histlaws.specs.Histories.{past_hist}
use Rattle.kt_histlaws.specs.Fitting.{AreSound}
use Rattle.kt_histlaws.specs.Jobs.{AreAlike}
use Rattle.kt_content.specs.Rules.{Rules}
use Rattle.kt_content.specs.Places.{Super, Place, memory, disk, Held, Moves, same_place, held_in, at_first, needs, and_place, needed_in, standing, row_there, joined_in, moved, redos_in, AboveRedos}
use Rattle.kt_content.specs.KeyOps.{KeyOp, op_on, seen, played, decided, if_fits, to_each, with_move, may_join}
use Rattle.kt_content.specs.Content.{Shown, SameFrom, AreTold, IsContent, changed_in}
use Rattle.kt_content.specs.MoreOps.{untold, told}
use Rattle.kt_content.specs.InMemory.{Mirrors, group, groups, hist_at}
use Rattle.kt_content.specs.StoreChanges.{kept_moves}
use Rattle.kt_content.specs.Publishing.{kept, gone, CarriedOver}
use Rattle.kt_content.specs.Recovering.{Lends}
use Rattle.kt_content.specs.Replacing.{Follows}
use Rattle.kt_content.specs.RunEvents.{Named, NamesAreTrue}
use Rattle.kt_content.specs.Recoverable.{Resident, Stage, KeyStands, SuperStands, names_of}
use Rattle.kt_content.specs.Recoverable.Stage.{rests, waits, applied}
use Rattle.kt_content.specs.Successors.{Succeeds, kept_rowsets}
use Rattle.kt_content.specs.OneVisit.{HandsOver, AllHandOver, operations_that_go_on_carry_over, AllLeftOrDone, RowsAre, IfTold, each_operation_goes_on, what_goes_on_stays_above_the_files, PublishesAtRest, a_superblock_published_at_rest_stands}
use Rattle.kt_content.proofs.MoreOps.{is_same, stay-played}
use Rattle.kt_content.proofs.Seen.{seen_rise, first_differ}
use Rattle.kt_content.proofs.Agreement.{plays_agree}
use Rattle.kt_content.proofs.LiveOnce.{all_told_once}
use Rattle.kt_content.proofs.Publishing.{kept-joined, kept-joined_still, gone-joined_still, same_row, outputs_show}
use Rattle.kt_content.proofs.Successors.{same_rest, same_needs, needs_named}
use Rattle.kt_content.proofs.AboveFiles.{kept_redos}
use Rattle.kt_content.proofs.InMemory.{inputs_alike, alike_through, another_mirrors}
use Rattle.kt_content.proofs.TwoPhases.{hist-gone}
use Rattle.kt_content.proofs.Lending.{groups-all}
use Rattle.kt_content.proofs.Replacing.{each_key_held, raised_same}
use Rattle.kt_content.proofs.Stages.{same_on, same_later, same_back}
use Rattle.kt_content.proofs.LentParts.{same_is_recovered}

-- ---- one operation

-- an operation that fits each of these stores fits the first one
record Fits (p : Place) (o : Option Change) (more : Option Moves) (m : Moves) : Type 0 where
  c : Change
  rest : Moves
  made : o ≡ Some c
  others : more ≡ Some rest
  is : (p, c) ∷ rest ≡ m

fits_first : (p : Place) (o : Option Change) (more : Option Moves) (m : Moves) → with_move p o more ≡ Some m → Fits p o more m
fits_first p None more m e = absurd (cc)
fits_first p (Some c) None m e = absurd (cc)
fits_first p (Some c) (Some rest) m e = record { c = c; rest = rest; made = refl; others = refl; is = (let same : (p, c) ∷ rest ≡ m = cc in same) }

module _ (fill : Row) (keep : Place → Bool) (ts : ℕ) (op : RowOp) (xs ys : Held) (same : kept keep ys ≡ kept keep xs) where
  -- those that the job leaves take the same changes
  moves_left : (places : List Place) (m : Moves) → to_each fill op (standing ts xs) places ≡ Some m → to_each fill op (standing ts ys) (filter keep places) ≡ Some (kept_moves keep m)
  moves_left [] m e = let is : [] ≡ m = cc in subst (λ (l : Moves). Some [] ≡ Some (kept_moves keep l)) is refl
  moves_left (p ∷ places) m e =
      let f = fits_first p (may_join p (effect fill op.kind op.cells (row_there p (standing ts xs))).0) (to_each fill op (standing ts xs) places) m e in
      let rest = moves_left places f.rest f.others in
      subst (λ (l : Moves). to_each fill op (standing ts ys) (filter keep (p ∷ places)) ≡ Some (kept_moves keep l)) f.is
      (elim (keep p) as (λ b. keep p ≡ b → to_each fill op (standing ts ys) (cond b (p ∷ filter keep places) (filter keep places)) ≡ Some (cond b ((p, f.c) ∷ kept_moves keep f.rest) (kept_moves keep f.rest))) [
        | true ↦ λ k.
            ap (λ r. with_move p (may_join p (effect fill op.kind op.cells r).0) (to_each fill op (standing ts ys) (filter keep places))) (same_row keep ts p ys xs k same)
            ∙ ap (λ o. with_move p o (to_each fill op (standing ts ys) (filter keep places))) f.made
            ∙ ap (with_move p (Some f.c)) rest
        | false ↦ λ k. rest
      ] refl)

module _ (keep : Place → Bool) (ts : ℕ) where
  moved_left : (m : Moves) (xs ys : Held) → kept keep ys ≡ kept keep xs
      → (kept keep (moved ts (kept_moves keep m) ys) ≡ kept keep (moved ts m xs)) × (gone keep (moved ts (kept_moves keep m) ys) ≡ gone keep ys)
  moved_left [] xs ys e = (e, refl)
  moved_left (n ∷ m) xs ys e = elim (keep n.0) as (λ b. keep n.0 ≡ b
      → (kept keep (moved ts (cond b (n ∷ kept_moves keep m) (kept_moves keep m)) ys) ≡ kept keep (moved ts m (joined_in n.0 ts n.1 xs))) × (gone keep (moved ts (cond b (n ∷ kept_moves keep m) (kept_moves keep m)) ys) ≡ gone keep ys)) [
        | true ↦ λ k.
            let now : kept keep (joined_in n.0 ts n.1 ys) ≡ kept keep (joined_in n.0 ts n.1 xs) = kept-joined keep n.0 ts n.1 ys k ∙ ap (joined_in n.0 ts n.1) e ∙ sym (kept-joined keep n.0 ts n.1 xs k) in
            let rest = moved_left m (joined_in n.0 ts n.1 xs) (joined_in n.0 ts n.1 ys) now in
            (rest.0, rest.1 ∙ gone-joined_still keep n.0 ts n.1 ys k)
        | false ↦ λ k. moved_left m (joined_in n.0 ts n.1 xs) ys (e ∙ sym (kept-joined_still keep n.0 ts n.1 xs k))
      ] refl

-- ---- all operations on a key

pub goes_over : operations_that_go_on_carry_over
goes_over fill keep old new held final outputs [] hand e h = let same : held ≡ final = cc in record { next = outputs; is = refl; rest = e ∙ ap (kept keep) same; outputs = refl }
goes_over fill keep old new held final outputs (x ∷ xs) hand e h =
    step x.told hand.0
    (elim (decided fill old (standing x.ts held) x.op x.told) as (λ o. decided fill old (standing x.ts held) x.op x.told ≡ o → if_fits x.ts (λ moves. played fill old (moved x.ts moves held) xs) o ≡ Ok final
    → (m : Moves) × (decided fill old (standing x.ts held) x.op x.told ≡ Some m) × (played fill old (moved x.ts m held) xs ≡ Ok final)) [
      | None ↦ λ s h. absurd (cc)
      | Some m ↦ λ s h. (m, s, h)
    ] refl h)
    refl
    (λ m same was. goes_over fill keep old new (moved x.ts m held) final (moved x.ts (kept_moves keep m) outputs) xs hand.1 same was)
  where
    step : (told : Option (List Target)) → HandsOver keep old new told
        → (m : Moves) × (decided fill old (standing x.ts held) x.op x.told ≡ Some m) × (played fill old (moved x.ts m held) xs ≡ Ok final)
        → x.told ≡ told
        → ((m : Moves) → kept keep (moved x.ts (kept_moves keep m) outputs) ≡ kept keep (moved x.ts m held) → played fill old (moved x.ts m held) xs ≡ Ok final → CarriedOver fill keep new (moved x.ts (kept_moves keep m) outputs) final xs)
        → CarriedOver fill keep new outputs final (x ∷ xs)
    step None hand was is on = absurd hand
    step (Some targets) k was is on =
        let m = was.0 in
        let there : to_each fill x.op (standing x.ts held) (needed_in old targets) ≡ Some m = ap (decided fill old (standing x.ts held) x.op) (sym is) ∙ was.1 in
        let here : decided fill new (standing x.ts outputs) x.op x.told ≡ Some (kept_moves keep m) =
        ap (decided fill new (standing x.ts outputs) x.op) is ∙ ap (to_each fill x.op (standing x.ts outputs)) k ∙ moves_left fill keep x.ts x.op held outputs e (needed_in old targets) m there in
        let went = moved_left keep x.ts m held outputs e in
        let rest = on m went.0 was.2 in
        record { next = rest.next; is = ap (if_fits x.ts (λ moves. played fill new (moved x.ts moves outputs) xs)) here ∙ rest.is; rest = rest.rest; outputs = rest.outputs ∙ went.1 }

-- ---- names

any_left : (keep : Place → Bool) (p : Place) (places : List Place) → keep p ≡ true → list_any (same_place p) (filter keep places) ≡ list_any (same_place p) places
any_left keep p [] k = refl
any_left keep p (r ∷ places) k = elim (same_place p r) as (λ b. same_place p r ≡ b → list_any (same_place p) (cond (keep r) (r ∷ filter keep places) (filter keep places)) ≡ b || list_any (same_place p) places) [
  | true ↦ λ e. let here : keep r ≡ true = ap keep (sym (is_same p r e)) ∙ k in rw (here, e) refl
  | false ↦ λ e. elim (keep r) as (λ b. list_any (same_place p) (cond b (r ∷ filter keep places) (filter keep places)) ≡ list_any (same_place p) places) [
    | true ↦ rw e (any_left keep p places k)
    | false ↦ any_left keep p places k
  ]
] refl

and_left : (keep : Place → Bool) (o : Option Place) (places : List Place) → ((p : Place) → o ≡ Some p → keep p ≡ true) → and_place o (filter keep places) ≡ filter keep (and_place o places)
and_left keep None places k = refl
and_left keep (Some p) places k =
    ap (λ b. cond b (filter keep places) (p ∷ filter keep places)) (any_left keep p places (k p refl))
    ∙ elim (list_any (same_place p) places) as (λ b. cond b (filter keep places) (p ∷ filter keep places) ≡ filter keep (cond b places (p ∷ places))) [
      | true ↦ refl
      | false ↦ rw (k p refl) refl
    ]

and_done : (keep : Place → Bool) (o : Option Place) (places : List Place) → ((p : Place) → o ≡ Some p → keep p ≡ false) → filter keep places ≡ filter keep (and_place o places)
and_done keep None places k = refl
and_done keep (Some p) places k = elim (list_any (same_place p) places) as (λ b. filter keep places ≡ filter keep (cond b places (p ∷ places))) [
  | true ↦ refl
  | false ↦ rw (k p refl) refl
]

names_go_on : (keep : Place → Bool) (old new : Super) (targets : List Target) → Succeeds keep old new → AllLeftOrDone keep new targets → needed_in new targets ≡ filter keep (needed_in old targets)
names_go_on keep old new [] s l = refl
names_go_on keep old new (t ∷ targets) s l = elim l.0 [
  | inl k ↦ ap (λ o. and_place o (needed_in new targets)) (same_needs keep old new t s k) ∙ ap (and_place (needs old t)) (names_go_on keep old new targets s l.1)
      ∙ and_left keep (needs old t) (needed_in old targets) (λ p e. ap keep (sym (needs_named old t p e)) ∙ k)
  | inr d ↦ ap (λ o. and_place o (needed_in new targets)) d.1 ∙ names_go_on keep old new targets s l.1
      ∙ and_done keep (needs old t) (needed_in old targets) (λ p e. ap keep (sym (needs_named old t p e)) ∙ d.0)
]

rows_go_on : (keep : Place → Bool) (old new : Super) (q : List ℕ) (ts : ℕ) (ops : List RowOp) (rows : List CommitRow) (rest : List KeyOp) → Succeeds keep old new → RowsAre keep new rows → AllHandOver keep old new rest
    → AllHandOver keep old new (op_on q ts ops (Some rows) ++ rest)
rows_go_on keep old new q ts [] rows rest s r all = all
rows_go_on keep old new q ts (op ∷ ops) [] rest s r all = all
rows_go_on keep old new q ts (op ∷ ops) (row ∷ rows) rest s r all = elim (eq_by_cmp key_cmp q op.key) as (λ b. AllHandOver keep old new (cond b (told ts op row.targets ∷ []) (op_on q ts ops (Some rows)) ++ rest)) [
  | true ↦ (names_go_on keep old new row.targets s r.0, all)
  | false ↦ rows_go_on keep old new q ts ops rows rest s r.1 all
]

write_goes_on : (keep : Place → Bool) (old new : Super) (q : List ℕ) (ts : ℕ) (ops : List RowOp) (told : Option (List CommitRow)) (rest : List KeyOp) → Succeeds keep old new → IfTold keep new told → AllHandOver keep old new rest
    → AllHandOver keep old new (op_on q ts ops told ++ rest)
write_goes_on keep old new q ts ops None rest s c all = absurd c
write_goes_on keep old new q ts ops (Some rows) rest s c all = rows_go_on keep old new q ts ops rows rest s c all

pub all_go_on : each_operation_goes_on
all_go_on keep old new q all [] s c = tt
all_go_on keep old new q all (Replicate ts ops ∷ records) s c = write_goes_on keep old new q ts ops (commit_of ts all) (seen q all records) s c.0 (all_go_on keep old new q all records s c.1)
all_go_on keep old new q all (Commit ts rows ∷ records) s c = all_go_on keep old new q all records s c

all_told : (keep : Place → Bool) (old new : Super) (xs : List KeyOp) → AllHandOver keep old new xs → AreTold xs
all_told keep old new [] h = tt
all_told keep old new (x ∷ xs) h = (one x.told h.0, all_told keep old new xs h.1)
  where
    one : (o : Option (List Target)) → HandsOver keep old new o → is_some o ≡ true
    one None c = absurd c
    one (Some targets) c = refl

-- ---- the REDO files

left_above : (keep : Place → Bool) (old new : Super) (q : List ℕ) (ts : ℕ) (places : List Place) → kept_rowsets keep new.rowsets ≡ kept_rowsets keep old.rowsets → AboveRedos q old ts places → AboveRedos q new ts (filter keep places)
left_above keep old new q ts [] e a = tt
left_above keep old new q ts (memory ∷ places) e a = elim (keep memory) as (λ b. AboveRedos q new ts (cond b (memory ∷ filter keep places) (filter keep places))) [
  | true ↦ left_above keep old new q ts places e a
  | false ↦ left_above keep old new q ts places e a
]
left_above keep old new q ts (disk r ∷ places) e a = elim (keep (disk r)) as (λ b. keep (disk r) ≡ b → AboveRedos q new ts (cond b (disk r ∷ filter keep places) (filter keep places))) [
  | true ↦ λ k. (subst (Under ts) (sym (kept_redos keep q r old.rowsets k) ∙ ap (redos_in q r) (sym e) ∙ kept_redos keep q r new.rowsets k) a.0, left_above keep old new q ts places e a.1)
  | false ↦ λ k. left_above keep old new q ts places e a.1
] refl

pub going_above : what_goes_on_stays_above_the_files
going_above fill keep old new q held next [] s h a = tt
going_above fill keep old new q held next (x ∷ xs) s h a = (one x.told h.0 a.0, going_above fill keep old new q held next xs s h.1 a.1)
  where
    one : (o : Option (List Target)) → HandsOver keep old new o → AboveRedos q old x.ts (changed_in fill old (standing x.ts held) x.op o) → AboveRedos q new x.ts (changed_in fill new (standing x.ts next) x.op o)
    one None h a = absurd h
    one (Some targets) h a = subst (AboveRedos q new x.ts) (sym h) (left_above keep old new q x.ts (needed_in old targets) s.rowsets a)

-- ---- a key, and the whole

length_nil : (xs : List Entry) → length (xs ++ []) ≡ length xs
length_nil [] = refl
length_nil (x ∷ xs) = ap suc (length_nil xs)

-- where nothing flies, what is known of a key is what the log says
module _ (rules : Rules) (fill : Row) (keep : Place → Bool) (old new : Super) (durable : List Entry) (high j : ℕ) (past : Past) (live : Resident) (log : IsLog (durable ++ []))
    (s : SuperStands rules fill old durable [] past live) (calm : live.named ≡ []) (job : PublishesAtRest rules keep old new (durable ++ []) live.stores j) (l : Lends old new durable high j past) where
  abbrev ops : List ℕ → List KeyOp
  ops q = seen q (durable ++ []) (durable ++ [])

  hand : (q : List ℕ) → AllHandOver keep old new (ops q)
  hand q = all_go_on keep old new q (durable ++ []) (durable ++ []) job.succeeds job.names

  same_first : (q : List ℕ) → kept keep (at_first q new) ≡ kept keep (at_first q old)
  same_first q = same_rest keep old new q job.succeeds

  none_flies : (q : List ℕ) (ts : ℕ) → names_of live.named q ts ≡ None
  none_flies q ts = ap (λ (n : List Named). names_of n q ts) calm

  told_last : (xs : List KeyOp) (ts : ℕ) (op : RowOp) → AreTold (xs ++ untold ts op ∷ []) → ⊥
  told_last [] ts op t = let f : false ≡ true = t.0 in cc
  told_last (x ∷ xs) ts op t = told_last xs ts op t.1

  known_is : (q : List ℕ) (k : KeyStands fill old live (durable ++ []) q (past_hist q (raise past old.a)))
      → (ops q ≡ k.known) × SameFrom old.a k.shows (past_hist q (raise past old.a))
  known_is q k = from k.stage
    where
      told_all : AreTold (ops q)
      told_all = all_told keep old new (ops q) (hand q)

      from : Stage fill old k.mark live q k.held k.shows (past_hist q (raise past old.a)) (ops q) k.known → (ops q ≡ k.known) × SameFrom old.a k.shows (past_hist q (raise past old.a))
      from (rests is t e) = (is, e)
      from (waits ts op is t lt up at none under e) = absurd (told_last k.known ts op (subst AreTold is told_all))
      from (applied front ts op targets is knows t lt up at some tells e) = absurd (told_last front ts op (subst AreTold is told_all))

  module _ (q : List ℕ) (final : Held) (was : played fill old (at_first q old) (ops q) ≡ Ok final) where
    over : CarriedOver fill keep new (at_first q new) final (ops q)
    over = goes_over fill keep old new (at_first q old) final (at_first q new) (ops q) (hand q) (same_first q) was

    -- the inputs, in memory and in the content
    ins_are : groups old (live.stores q) (gone keep final) ≡ groups old (live.stores q) (gone keep (at_first q old))
    ins_are =
        let agrees = plays_agree fill old 0 (at_first q old) final (ops q) (seen_rise q (durable ++ []) [] (durable ++ []) log) was in
        ap (λ (h : Held). groups old (live.stores q) (gone keep h)) agrees.1 ∙ groups-all keep old (live.stores q) (ops q) agrees.0 (at_first q old)

    alike : (a : ℕ) (whole : Hist) → a ≤ new.a → Mirrors a old (live.stores q) final → Shown a final whole → AreAlike new.a (held_in (gone keep final)) (held_in (gone keep over.next))
    alike a whole le m shown =
        let differ = (stay-played fill old (at_first q old) final (ops q) (first_differ q old s.recovered.content.numbers) refl was).0 in
        let ins : AreAlike a (groups old (live.stores q) (gone keep (at_first q old))) (held_in (gone keep final)) =
        subst (λ (g : List Hist). AreAlike a g (held_in (gone keep final))) ins_are (inputs_alike a old (live.stores q) final whole keep differ m shown) in
        subst (λ (g : Held). AreAlike new.a (held_in (gone keep final)) (held_in g)) (sym over.outputs)
        (alike_through a j new.a (groups old (live.stores q) (gone keep (at_first q old))) (held_in (gone keep final)) (held_in (gone keep (at_first q new))) ins (job.alike q) le l.job)

    shown_then : (a : ℕ) (whole mirrored : Hist) (m : ℕ) → a ≤ new.a → m ≤ new.a → Mirrors m old (live.stores q) final → Shown m final mirrored → Shown a final whole → Shown new.a over.next whole
    shown_then a whole mirrored m le low mirrors shown is =
        outputs_show keep a new.a new.a final over.next whole is over.rest (alike m mirrored low mirrors shown)
        (subst (λ (g : Held). AreSound new.a (held_in g)) (sym over.outputs) (job.sound q)) le (omega arith)

    mirrors_then : (a : ℕ) → a ≤ new.a → Mirrors a old (live.stores q) final → Mirrors new.a new (live.stores q) over.next
    mirrors_then a le m = another_mirrors keep a new.a old new (live.stores q) (live.stores q) final over.next m le over.rest (job.others q)
        (λ p k. subst (λ (h : Hist). AreAlike new.a (group new p (live.stores q)) (h ∷ []))
        (sym (hist-gone keep p (at_first q new) k) ∙ ap (hist_at p) (sym over.outputs) ∙ hist-gone keep p over.next k) (job.outs q p k))

  -- the key in memory, brought to what the log says
  key_played : (q : List ℕ) (k : KeyStands fill old live (durable ++ []) q (past_hist q (raise past old.a))) → played fill old (at_first q old) (ops q) ≡ Ok k.held
  key_played q k = ap (played fill old (at_first q old)) (known_is q k).0 ∙ k.is

  later_key : (q : List ℕ) → KeyStands fill old live (durable ++ []) q (past_hist q (raise past old.a)) → KeyStands fill new live (durable ++ []) q (past_hist q (raise past new.a))
  later_key q k =
      let was = key_played q k in
      let o = over q k.held was in
      let le : k.mark ≤ new.a = let a = k.low in let b = l.mark in omega arith in
      let ends = s.recovered.ends in
      let low : past.mark ≤ old.a = s.recovered.marked in
      let whole_same : SameFrom new.a (past_hist q (raise past old.a)) (past_hist q (raise past new.a)) =
      same_on new.a (past_hist q (raise past old.a)) (past_hist q past) (past_hist q (raise past new.a))
      (same_later old.a new.a (past_hist q (raise past old.a)) (past_hist q past) l.mark (same_back old.a (past_hist q past) (past_hist q (raise past old.a)) (raised_same past old.a q ends.is low)))
      (raised_same past new.a q ends.is (let a = l.mark in omega arith)) in
      record {
        mark = new.a;
        low = omega arith;
        known = ops q;
        held = o.next;
        shows = k.shows;
        is = o.is;
        shown = shown_then q k.held was k.mark k.shows k.shows k.mark le le k.mirrors k.shown k.shown;
        mirrors = mirrors_then q k.held was k.mark le k.mirrors;
        up = k.up;
        stage = rests refl (all_told keep old new (ops q) (hand q))
            (same_on new.a k.shows (past_hist q (raise past old.a)) (past_hist q (raise past new.a)) (same_later old.a new.a k.shows (past_hist q (raise past old.a)) l.mark (known_is q k).1) whole_same);
      }

  -- and as the content has it
  later_content : IsContent rules fill old (durable ++ []) (max old.c (last_of (durable ++ []))) (raise past old.a) → IsContent rules fill new (durable ++ []) (max new.c (last_of (durable ++ []))) (raise (raise past old.a) new.a)
  later_content is = each_key_held rules fill old new (durable ++ []) (max old.c (last_of (durable ++ []))) (max new.c (last_of (durable ++ []))) j (raise past old.a) is follows job.numbers job.files (λ q.
      let h = is.keys q in
      let k = s.keys q in
      let same : k.held ≡ h.held = (let e : Ok k.held ≡ Ok h.held = sym (key_played q k) ∙ h.is in cc) in
      let mirrors : Mirrors k.mark old (live.stores q) h.held = subst (λ (g : Held). Mirrors k.mark old (live.stores q) g) same k.mirrors in
      let shown : Shown k.mark h.held k.shows = subst (λ (g : Held). Shown k.mark g k.shows) same k.shown in
      let o = over q h.held h.is in
      record {
        held = o.next;
        is = o.is;
        shown = shown_then q h.held h.is old.a (past_hist q (raise past old.a)) k.shows k.mark l.mark (let a = k.low in let b = l.mark in omega arith) mirrors shown h.shown;
        once = all_told_once o.next (ops q) (all_told keep old new (ops q) (hand q));
        above = going_above fill keep old new q h.held o.next (ops q) job.succeeds (hand q) h.above;
      })
    where
      follows : Follows old new (durable ++ []) (max old.c (last_of (durable ++ []))) (max new.c (last_of (durable ++ []))) j
      follows = record {
        enough = (let a = l.enough in let b : length (durable ++ []) ≡ length durable = length_nil durable in omega arith);
        mark = l.mark;
        job = l.job;
        last = refl;
        up = (let a = l.last in omega arith);
        marked = (let a = l.marked in let b = l.up in omega arith);
      }

pub at_rest_stands : a_superblock_published_at_rest_stands
at_rest_stands rules fill keep old new durable high j past live log s calm job l up fresh = record {
  low = high;
  recovered = same_is_recovered rules fill old new durable [] s.low high j past log s.recovered l (later_content rules fill keep old new durable high j past live log s calm job l) tt;
  up = up;
  below = s.below;
  keys = λ q. later_key rules fill keep old new durable high j past live log s calm job l q (s.keys q);
  names = subst (NamesAreTrue fill new (durable ++ [])) (sym calm) tt;
  numbers = fresh;
}
