-- A write begins, as the goals of begin_now say it.
use Rattle.std.proofs.Common.{◌≡◌, ℕ, ◌+◌, ◌≤◌, List, [], ◌∷◌, ◌++◌, Some, None, Option, refl, true, false, Bool, ◌||◌, cond, sym, ap, ◌∙◌, subst, arith, map, length, min, drop}
use Rattle.std.specs.Prelude.{◌==◌}
use Rattle.std.specs.List.{filter, list_any}
use Rattle.std.specs.Ordering.{eq_by_cmp}
use Rattle.std.proofs.lemmas.List.{map-append}
use Rattle.kt_base.specs.Causes.{Grows}
use Rattle.kt_history.specs.declared.command.Command.{Command}
use Rattle.kt_history.specs.declared.command.Command.TheVariants as command
use Rattle.kt_history.specs.declared.event.Event.{Event}
use Rattle.kt_history.specs.declared.event.Event.TheVariants.{Begin}
use Rattle.kt_history.specs.declared.operation.RowOp.{RowOp}
use Rattle.kt_history.specs.declared.target.Target.{Target}
use Rattle.kt_records.specs.declared.entry.CommitRow.{CommitRow}
use Rattle.kt_history.specs.Operations.{need, share_key}
use Rattle.kt_history.specs.Rows.{Row, key_cmp}
use Rattle.kt_history.specs.Machine.{Flying, next_timestamp, IfWrite, ops_of, command_at, least}
use Rattle.kt_mvcc.specs.declared.flier.Flier.{Flier}
use Rattle.kt_mvcc.specs.Keys.{same_key}
use Rattle.kt_mvcc.specs.Flying.{least_of, holds_one, holder, flies}
use Rattle.kt_diskrowset.specs.Rowset.{HeldFiles}
use Rattle.kt_pool.specs.Contents.{Contents, with_reserved}
use Rattle.kt_histlaws.specs.Pending.{Aloft}
use Rattle.kt_history.specs.Stores.{Store}
use Rattle.kt_histlaws.specs.Core.{Core, Stands, flown_by}
use Rattle.kt_histlaws.specs.Events.{begun}
use Rattle.kt_histlaws.proofs.Events.{begin_stands}
use Rattle.kt_tablet.specs.declared.tablet.FlyingWrite.{FlyingWrite}
use Rattle.kt_tablet.specs.Views.{View, IsSound, IsReady, IsProvided, AreProvided, owed, rows_of, placed_of, aloft_of, flier_of}
use Rattle.kt_tablet.specs.Visits.{MayBeginNow, HasBegun}
use Rattle.kt_tablet.proofs.Visits.{told_line}
use Rattle.kt_tablet.proofs.Flights.{apart-append, rests_here}

-- the clock of writes finds the same writes in the way
any_held : (key : List ℕ) (ops : List RowOp) → list_any (λ held. same_key key held) (map (λ op. op.key) ops) ≡ list_any (λ other. eq_by_cmp key_cmp key other.key) ops
any_held key [] = refl
any_held key (op ∷ ops) = ap (λ b. same_key key op.key || b) (any_held key ops)

shares : (ops others : List RowOp) → list_any (λ key. list_any (λ held. same_key key held) (map (λ op. op.key) others)) (map (λ op. op.key) ops) ≡ share_key ops others
shares [] others = refl
shares (op ∷ ops) others = λ k. any_held op.key others k || shares ops others k

pub holder_is : (ops : List RowOp) (flights : List FlyingWrite) → holder (map (λ op. op.key) ops) (map flier_of flights) ≡ least (filter (λ w. share_key ops w.ops) (map flown_by (map aloft_of flights)))
holder_is ops [] = refl
holder_is ops (w ∷ flights) =
    ap (λ b. least_of (cond b (flier_of w ∷ filter (holds_one (map (λ op. op.key) ops)) (map flier_of flights)) (filter (holds_one (map (λ op. op.key) ops)) (map flier_of flights)))) (shares ops w.ops)
    ∙ (elim (share_key ops w.ops) as (λ b. least_of (cond b (flier_of w ∷ filter (holds_one (map (λ op. op.key) ops)) (map flier_of flights)) (filter (holds_one (map (λ op. op.key) ops)) (map flier_of flights)))
    ≡ least (cond b (flown_by (aloft_of w) ∷ filter (λ w. share_key ops w.ops) (map flown_by (map aloft_of flights))) (filter (λ w. share_key ops w.ops) (map flown_by (map aloft_of flights))))) [
      | true ↦ ap (λ o. Some (lesser o w.ts)) (holder_is ops flights)
      | false ↦ holder_is ops flights
    ])
  where
    lesser : Option ℕ → ℕ → ℕ
    lesser None n = n
    lesser (Some m) n = min m n

some_is_none : (n : ℕ) → Some n ≡ None → ⊥
some_is_none n e = cc

none_shares : (p : Flying → Bool) (flying : List Flying) → least (filter p flying) ≡ None → list_any p flying ≡ false
none_shares p [] none = refl
none_shares p (w ∷ flying) none = elim (p w) as (λ b. least (cond b (w ∷ filter p flying) (filter p flying)) ≡ None → (b || list_any p flying) ≡ false) [
  | true ↦ λ h. absurd (some_is_none _ h)
  | false ↦ λ h. none_shares p flying h
] none

-- what the keys of a write meet
pub in_the_way : (ops : List RowOp) (keys : List (List ℕ)) (flights : List FlyingWrite) (flying : List Flier) (found : Option ℕ) → keys ≡ map (λ op. op.key) ops → flying ≡ map flier_of flights → found ≡ holder keys flying
    → least (filter (λ w. share_key ops w.ops) (map flown_by (map aloft_of flights))) ≡ found
in_the_way ops keys flights flying found written held is = sym (is ∙ (λ k. holder (written k) (held k)) ∙ holder_is ops flights)

pub apart : (ops : List RowOp) (flights : List FlyingWrite) → least (filter (λ w. share_key ops w.ops) (map flown_by (map aloft_of flights))) ≡ None → list_any (λ w. share_key ops w.ops) (map flown_by (map aloft_of flights)) ≡ false
apart ops flights none = none_shares (λ w. share_key ops w.ops) (map flown_by (map aloft_of flights)) none

rests_too : (s : ℕ) (flights : List FlyingWrite) → list_any (λ w. w.s == s) (map flown_by (map aloft_of flights)) ≡ list_any (λ f. f.who == s) (map flier_of flights)
rests_too s [] = refl
rests_too s (w ∷ flights) = ap (λ b. (w.who == s) || b) (rests_too s flights)

pub rests : (s : ℕ) (flights : List FlyingWrite) (flying : List Flier) → flying ≡ map flier_of flights → list_any (λ w. w.s == s) (map flown_by (map aloft_of flights)) ≡ false → flies s flying ≡ false
rests s flights flying held none = ap (flies s) held ∙ sym (rests_too s flights) ∙ none

-- a write that stands in the plan
if_write : (o : Option Command) (ops : List RowOp) (P : List RowOp → Type 0) → IfWrite o (λ w. w ≡ ops) → P ops → IfWrite o P
if_write (Some (command.Write w)) ops P h p = subst P (sym h) p
if_write (Some (command.Scan scan)) ops P h p = h
if_write (Some (command.Mark t)) ops P h p = h
if_write (Some (command.Chore chore)) ops P h p = h
if_write None ops P h p = h

the_ops : (o : Option Command) (ops : List RowOp) → IfWrite o (λ w. w ≡ ops) → ops_of o ≡ ops
the_ops (Some (command.Write w)) ops h = h
the_ops (Some (command.Scan scan)) ops h = absurd h
the_ops (Some (command.Mark t)) ops h = absurd h
the_ops (Some (command.Chore chore)) ops h = absurd h
the_ops None ops h = absurd h

pub may_begin : {C : Type 0} (view old : View C) (s i : ℕ) (ops : List RowOp) (needs : ℕ) → view ≡ old → MayBeginNow old.core s i ops needs → MayBeginNow view.core s i ops needs
may_begin view old s i ops needs e h = subst (λ v. MayBeginNow v.core s i ops needs) (sym e) h

pub one_flight : (new mid old : List FlyingWrite) (f : FlyingWrite) → new ≡ mid ++ f ∷ [] → mid ≡ old → map aloft_of new ≡ map aloft_of old ++ aloft_of f ∷ []
one_flight new mid old f h k = ap (map aloft_of) (h ∙ ap (λ l. l ++ f ∷ []) k) ∙ map-append aloft_of old (f ∷ [])

new_begun : (core : Core) (s i ts m : ℕ) (ops : List RowOp) (trail : List Event) (a c : ℕ) (aloft : List Aloft) (stores : List Store) → stores ≡ core.stores → trail ≡ core.trail ++ Begin s i ts m ∷ [] → a ≡ core.a → c ≡ ts → aloft ≡ core.aloft ++ record { s = s; i = i; ts = ts; ops = ops; applied = 0 } ∷ []
    → record core { trail = trail; a = a; c = c; aloft = aloft; stores = stores } ≡ begun core s i ts m ops
new_begun core s i ts m ops trail a c aloft stores kept lines stays last fly = λ k. record core { trail = lines k; a = stays k; c = last k; aloft = fly k; stores = kept k }

pub begin_sound : {C : Type 0} {files : List HeldFiles} (readings : C → Option (List ℕ)) (view : View C) (clock : C) (s i ts m : ℕ) (ops : List RowOp) (needs : ℕ) (trail : List Event) (a c : ℕ) (aloft : List Aloft) (stores : List Store) (names : List Target) (notes : List (List CommitRow)) (places : List (ℕ × ℕ)) (pool : Contents) (frozen : ℕ)
    → IsSound readings view → stores ≡ view.core.stores → MayBeginNow view.core s i ops needs → ts ≡ next_timestamp view.core.c m → list_any (λ w. share_key ops w.ops) (map flown_by view.core.aloft) ≡ false → Grows (readings view.clock) (readings clock) (m ∷ [])
    → trail ≡ view.core.trail ++ Begin s i ts m ∷ [] → a ≡ view.core.a → c ≡ ts → aloft ≡ view.core.aloft ++ record { s = s; i = i; ts = ts; ops = ops; applied = 0 } ∷ []
    → IsSound readings (record view { core = record view.core { trail = trail; a = a; c = c; aloft = aloft; stores = stores }; clock = clock; names = names; notes = notes; places = places; pool = pool; frozen = frozen; files = files })
begin_sound readings view clock s i ts m ops needs trail a c aloft stores names notes places pool frozen sound kept may time free more lines stays last fly = record {
  stands = λ first told. subst Stands (sym (new_begun (record view.core { first = first }) s i ts m ops trail a c aloft stores kept lines stays last fly))
      (subst (λ os. Stands (begun (record view.core { first = first }) s i ts m os)) (the_ops (command_at view.core.work s i) ops may.may.write)
      (begin_stands (record view.core { first = first }) s i ts m (sound.stands first told) (
        may.goes,
        record { next = may.may.at.next; rests = may.may.at.rests },
        if_write (command_at view.core.work s i) ops _ may.may.write (record { room = subst (λ n. n ≤ view.core.work.cells) may.cells may.fits; apart = free; next = time }),
      )));
  clock = told_line readings view.opened view.clock clock view.core.trail trail (Begin s i ts m) sound.clock more lines;
  plan = sound.plan;
}

pub has_begun : {C : Type 0} (view old : View C) (s i ts m : ℕ) (ops : List RowOp) (trail : List Event) (a c : ℕ) (aloft : List Aloft) (stores : List Store) → view ≡ old → stores ≡ view.core.stores → ts ≡ next_timestamp view.core.c m
    → trail ≡ view.core.trail ++ Begin s i ts m ∷ [] → a ≡ view.core.a → c ≡ ts → aloft ≡ view.core.aloft ++ record { s = s; i = i; ts = ts; ops = ops; applied = 0 } ∷ []
    → HasBegun old.core (record view.core { trail = trail; a = a; c = c; aloft = aloft; stores = stores }) s i ops ts
has_begun view old s i ts m ops trail a c aloft stores e kept time lines stays last fly =
    subst (λ v. HasBegun v.core (record view.core { trail = trail; a = a; c = c; aloft = aloft; stores = stores }) s i ops ts) e (record { m = m; time = time; core = new_begun view.core s i ts m ops trail a c aloft stores kept lines stays last fly })

-- nothing is written of it yet
pub one_note : (new mid old : List FlyingWrite) (f : FlyingWrite) → new ≡ mid ++ f ∷ [] → mid ≡ old → f.rows.items ≡ [] → map rows_of new ≡ map rows_of old ++ [] ∷ []
one_note new mid old f h k none = ap (map rows_of) (h ∙ ap (λ l. l ++ f ∷ []) k) ∙ map-append rows_of old (f ∷ []) ∙ ap (λ rows. map rows_of old ++ rows ∷ []) none

-- and it has its place
pub one_place : (new mid old : List FlyingWrite) (f : FlyingWrite) → new ≡ mid ++ f ∷ [] → mid ≡ old → map placed_of new ≡ map placed_of old ++ placed_of f ∷ []
one_place new mid old f h k = ap (map placed_of) (h ∙ ap (λ l. l ++ f ∷ []) k) ∙ map-append placed_of old (f ∷ [])

-- whichever list of these operations is named
pub begins_as : (core : Core) (s i : ℕ) (ops others : List RowOp) → others ≡ ops → MayBeginNow core s i ops (need ops) → MayBeginNow core s i others (need others)
begins_as core s i ops others same h = subst (λ os. MayBeginNow core s i os (need os)) (sym same) h

pub begun_as : (old new : Core) (s i ts : ℕ) (ops others : List RowOp) → others ≡ ops → HasBegun old new s i others ts → HasBegun old new s i ops ts
begun_as old new s i ts ops others same h = subst (λ os. HasBegun old new s i os ts) same h

-- what is promised to the write
owed-append : (flights : List FlyingWrite) (w : FlyingWrite) → owed (map aloft_of (flights ++ w ∷ [])) ≡ owed (map aloft_of flights) + need (drop w.applied w.ops)
owed-append [] w = omega arith
owed-append (v ∷ flights) w = let e = owed-append flights w in omega (arith, e)

provided-append : (fill : Row) (flights : List FlyingWrite) (w : FlyingWrite) → AreProvided fill flights → IsProvided fill w → AreProvided fill (flights ++ w ∷ [])
provided-append fill [] w all one = (one, tt)
provided-append fill (v ∷ flights) w all one = (all.0, provided-append fill flights w all.1 one)

length-more : (flights : List FlyingWrite) (w : FlyingWrite) → length (flights ++ w ∷ []) ≡ length flights + 1
length-more [] w = omega arith
length-more (v ∷ flights) w = let e = length-more flights w in omega (arith, e)

pub ready_begun : (fill : Row) (stopped : Bool) (w : FlyingWrite) (flights new mid : List FlyingWrite) (flying more_flying : List Flier) (lines room more most needs : ℕ) (pool after : Contents)
    → IsReady fill stopped flights flying lines room pool → IsProvided fill w → list_any (λ v. v.s == w.who) (map flown_by (map aloft_of flights)) ≡ false
    → new ≡ mid ++ w ∷ [] → mid ≡ flights
    → more_flying ≡ flying ++ flier_of w ∷ [] → needs ≡ need (drop w.applied w.ops) → after ≡ with_reserved pool (pool.reserved + needs)
    → more + length flights + 2 ≤ most → IsReady fill stopped new more_flying more most after
ready_begun fill stopped w flights new mid flying more_flying lines room more most needs pool after ready provided rests pushed same held needs_are promised fits =
    subst (λ fs. IsReady fill stopped fs more_flying more most after) (sym (pushed ∙ ap (λ l. l ++ w ∷ []) same)) (record {
      held = held ∙ ap (λ l. l ++ flier_of w ∷ []) ready.held ∙ sym (map-append flier_of flights (w ∷ []));
      cells = let more = owed-append flights w in let before = ready.cells in let now = ap (λ p. p.reserved) promised in omega (arith, more, before, now, needs_are);
      provided = provided-append fill flights w ready.provided provided;
      apart = apart-append flights w ready.apart (rests_here w.who flights ∙ rests);
      end = λ goes. let one = length-more flights w in omega (arith, one, fits);
    })

-- a promise changes nothing of the store
pub way_old : {C : Type 0} (view old : View C) (ops : List RowOp) (found : Option ℕ) → view ≡ old → least (filter (λ w. share_key ops w.ops) (map flown_by view.core.aloft)) ≡ found → least (filter (λ w. share_key ops w.ops) (map flown_by old.core.aloft)) ≡ found
way_old view old ops found e h = subst (λ v. least (filter (λ w. share_key ops w.ops) (map flown_by v.core.aloft)) ≡ found) e h

-- nothing else has changed where the names are the same, and as many stores are frozen
pub beside_names : {C : Type 0} (view old : View C) (core : Core) (clock : C) (names : List Target) (notes : List (List CommitRow)) (places : List (ℕ × ℕ)) (pool : Contents) (frozen : ℕ) (files : List HeldFiles) → view ≡ old → names ≡ view.names → frozen ≡ view.frozen → files ≡ view.files
    → record view { core = core; clock = clock; names = names; notes = notes; places = places; pool = pool; frozen = frozen; files = files } ≡ record old { core = core; clock = clock; notes = notes; places = places; pool = pool }
beside_names view old core clock names notes places pool frozen files e same still filed =
    let f = same ∙ ap (λ v. v.names) e in
    let n = still ∙ ap (λ v. v.frozen) e in
    let h = filed ∙ ap (λ v. v.files) e in
    λ k. record (e k) { core = core; clock = clock; names = f k; notes = notes; places = places; pool = pool; frozen = n k; files = h k }
