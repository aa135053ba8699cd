-- An operation on the stores that its COMMIT calls, or on the one that has its key live: what each of them answers makes what is done of it.
use Rattle.std.proofs.Common.{◌≡◌, ◌<◌, ◌≤◌, ◌+◌, ℕ, zero, suc, List, [], ◌∷◌, length, map, get_or, Option, Some, None, is_some, Bool, true, false, refl, sym, ap, ◌∙◌, subst, arith}
use Rattle.std.specs.Prelude.{slice_get, unwrap_or, IfSome, MatchOption}
use Rattle.std.specs.Option.{option_map}
use Rattle.std.specs.List.{cons_option}
use Rattle.std.proofs.lemmas.Bool.{false≢true}
use Rattle.std.proofs.lemmas.List.{length-map}
use Rattle.kt_history.specs.declared.operation.OpKind.{OpKind}
use Rattle.kt_history.specs.declared.operation.OpKind.TheVariants.{Insert, Upsert, Update, Delete, InsertIgnore, UpdateIgnore, DeleteIgnore}
use Rattle.kt_history.specs.declared.change.Outcome.{Outcome}
use Rattle.kt_history.specs.declared.operation.RowOp.{RowOp}
use Rattle.kt_history.specs.declared.target.Kindly.{Kindly}
use Rattle.kt_history.specs.declared.target.Kindly.TheVariants.{Ins}
use Rattle.kt_history.specs.declared.target.Target.{Target}
use Rattle.kt_history.specs.Rows.{Row}
use Rattle.kt_history.specs.Operations.{effect, outcome_of, need}
use Rattle.kt_history.specs.Stores.{Store, kind_made, share}
use Rattle.kt_history.proofs.Effects.{outcomes}
use Rattle.kt_records.specs.declared.entry.CommitRow.{CommitRow}
use Rattle.kt_diskrowset.specs.declared.rowset.DiskRowSet.{DiskRowSet}
use Rattle.kt_diskrowset.specs.Joining.{KeyUnder}
use Rattle.kt_diskrowset.specs.Rowset as rowset
use Rattle.kt_super.specs.declared.meta.Meta.{Meta}
use Rattle.kt_stores.proofs.Beside.{map_at}
use Rattle.kt_content.specs.Places.{Super, Place, memory, disk, same_place, standing, live_in, needed_in}
use Rattle.kt_content.specs.KeyOps.{to_place}
use Rattle.kt_content.specs.Opening.{Placed, held_of}
use Rattle.kt_reopen.specs.declared.stores.Opening.{Opening}
use Rattle.kt_reopen.specs.Bare.{bare, place_at, places_under, PlacesApart}
use Rattle.kt_reopen.specs.Needed.{is_any, is_replayed, need_if, replayed}
use Rattle.kt_reopen.specs.Owed.{row_found, row_told}
use Rattle.kt_reopen.specs.Standing.{placed, places_in, names_in, change_by, KeyUnderIn, KeyUnderAt, JoinsAt}
use Rattle.kt_reopen.specs.Steps.{had_at, MayJoin, Does, DoesNotFit}
use Rattle.kt_reopen.specs.Walks.{FitsAt, IsFirst, MayDo, MayDoAt, NamesEach}
use Rattle.kt_reopen.proofs.Doing.{kind_may, two_shares, does_none, does_one, does_two, late_one, late_two, live_none, live_one, does_live, does_not, told_by, places_placed}
use Rattle.kt_reopen.proofs.Growing.{nth_all}
use Rattle.kt_reopen.proofs.Joined.{places, live_nowhere, live_there}
use Rattle.kt_reopen.proofs.Needing.{two_apart, within_all}
use Rattle.kt_reopen.proofs.NeedLaws.{need_split}

pub some_is : {X : Type 0} (x y : X) → Some x ≡ Some y → x ≡ y
some_is x y e = cc

-- the element at a place
got : {X : Type 0} (xs : List X) (at : ℕ) (d : X) → at < length xs → slice_get xs at ≡ Some (get_or xs at d)
got [] at d lt = absurd (omega arith)
got (x ∷ xs) zero d lt = refl
got (x ∷ xs) (suc at) d lt = got xs at d (omega arith)

-- ---- one place

under_at : (o : Opening) (ts : ℕ) (q : List ℕ) (at : ℕ) → KeyUnderIn ts q o → KeyUnderAt ts q at o
under_at o ts q zero h = h.mem
under_at o ts q (suc i) h = λ d there. nth_all (λ (d : DiskRowSet). KeyUnder ts q d o.pool) o.rowsets.items i d there h.rowsets

may_at : (o : Opening) (ts : ℕ) (q : List ℕ) (at : ℕ) → MayDo o ts q → MayDoAt o ts q at
may_at o ts q at may = record { kept = may.kept; thawed = may.thawed; under = under_at o ts q at may.under }

pub may_some : (o : Opening) (ts : ℕ) (q : List ℕ) (at : Option ℕ) → MayDo o ts q → IfSome at (λ at. MayDoAt o ts q at)
may_some o ts q None may = tt
may_some o ts q (Some at) may = may_at o ts q at may

-- what is answered for a place, if there is one
abbrev pub TakesIf : Opening → Opening → Option ℕ → ℕ → RowOp → Bool → Type 0
TakesIf o n at ts op takes = MatchOption at ((takes ≡ true) × (n ≡ o)) (λ at. FitsAt o n at ts op takes)

-- what an operation needs by itself, where its COMMIT tells the same of it
pub need_alone : (super : Super) (op : RowOp) (row : CommitRow) (told : Option (List Target)) → told ≡ Some row.targets → need_if (is_replayed super told) op ≡ need (replayed super (op ∷ []) (Some (row ∷ [])))
need_alone super op row told names =
    let split : need (replayed super (op ∷ []) (Some (row ∷ []))) ≡ need_if (is_replayed super (Some row.targets)) op + need [] = need_split super op [] (Some (row ∷ [])) in
    let own : need_if (is_replayed super told) op ≡ need_if (is_replayed super (Some row.targets)) op = ap (λ (n : Option (List Target)). need_if (is_replayed super n) op) names in
    omega arith

-- ---- the places that need it, of which there are two at most

module _ (o : Opening) (m : Meta) (ts : ℕ) (op : RowOp) (row : CommitRow) (may : MayDo o ts op.key) (same : places_in o ≡ places_under (bare m)) (enough : need (replayed (bare m) (op ∷ []) (Some (row ∷ []))) ≤ o.pool.reserved) where
  abbrev Are : Option ℕ → Option ℕ → Type 0
  Are a b = map (place_at (bare m)) (cons_option a (cons_option b [])) ≡ needed_in (bare m) row.targets

  abbrev IsIn : Option ℕ → Type 0
  IsIn a = IfSome a (λ at. at < 1 + length m.rowsets)

  abbrev Once : Option ℕ → Option ℕ → Type 0
  Once a b = (at : ℕ) → a ≡ Some at → b ≡ Some at → ⊥

  there : (at : ℕ) → at < 1 + length m.rowsets → slice_get (places_in o) at ≡ Some (place_at (bare m) at)
  there at lt = ap (λ ps. slice_get ps at) same ∙ got (places_under (bare m)) at memory (within_all m (Some at) lt)

  differ : (at next : ℕ) → at < 1 + length m.rowsets → next < 1 + length m.rowsets → Once (Some at) (Some next) → same_place (place_at (bare m) next) (place_at (bare m) at) ≡ false
  differ at next lt low once =
      two_apart (bare m) (subst PlacesApart same may.apart) next at (λ e. once at refl (ap (λ n. Some n) e)) (within_all m (Some next) low) (within_all m (Some at) lt)

  -- where a place needs it, there is room for two
  room_any : (p : Place) (ps : List Place) → needed_in (bare m) row.targets ≡ p ∷ ps → share op + share op ≤ o.pool.reserved
  room_any p ps e =
      let alone = need_alone (bare m) op row (Some row.targets) refl in
      let some : need_if (is_any (needed_in (bare m) row.targets)) op ≡ need (op ∷ []) = ap (λ (l : List Place). need_if (is_any l) op) e in
      let two = two_shares op in
      omega (arith, enough)

  pub first_room : (a b : Option ℕ) → Are a b → IfSome a (λ _. share op ≤ o.pool.reserved)
  first_room None b are = tt
  first_room (Some at) b are = let two = room_any (place_at (bare m) at) (map (place_at (bare m)) (cons_option b [])) (sym are) in omega arith

  -- it does not fit the first
  pub first_late : (t : Opening) (a b : Option ℕ) → Are a b → IsIn a → (takes : Bool) → takes ≡ false → TakesIf o t a ts op takes → DoesNotFit o m ts op (Some row.targets)
  first_late t None b are low takes bad first = absurd (false≢true (sym bad ∙ first.0))
  first_late t (Some at) b are low takes bad first =
      late_one o m ts op row.targets (place_at (bare m) at) at may.apart (there at low) t (map (place_at (bare m)) (cons_option b [])) (subst (λ (x : Bool). FitsAt o t at ts op x) bad first) (sym are)

  -- or it does, and the second may be asked
  pub second_may : (t : Opening) (a b : Option ℕ) → Once a b → TakesIf o t a ts op true → IfSome b (λ at. MayDoAt t ts op.key at)
  second_may t a None once first = tt
  second_may t None (Some next) once first = subst (λ (x : Opening). MayDoAt x ts op.key next) (sym first.1) (may_at o ts op.key next may)
  second_may t (Some at) (Some next) once first =
      let goes = first.1.goes in
      record { kept = goes.ends.kept; thawed = goes.ends.open_ ∙ may.thawed; under = first.1.beside next (λ e. once at refl (ap (λ n. Some n) e)) (under_at o ts op.key next may.under) }

  pub second_room : (t : Opening) (a b : Option ℕ) → Are a b → TakesIf o t a ts op true → IfSome b (λ _. share op ≤ t.pool.reserved)
  second_room t a None are first = tt
  second_room t None (Some next) are first =
      subst (λ (x : Opening). share op ≤ x.pool.reserved) (sym first.1) (let two = room_any (place_at (bare m) next) [] (sym are) in omega arith)
  second_room t (Some at) (Some next) are first = first.1.goes.room (share op) (room_any (place_at (bare m) at) (place_at (bare m) next ∷ []) (sym are))

  pub second_in : (t : Opening) (a b : Option ℕ) → IsIn b → TakesIf o t a ts op true → IfSome b (λ at. at < 1 + length t.rowsets.items)
  second_in t a None low first = tt
  second_in t a (Some next) low first = in_places (places_at a first)
    where
      places_at : (a : Option ℕ) → TakesIf o t a ts op true → places_in t ≡ places_under (bare m)
      places_at None first = ap places_in first.1 ∙ same
      places_at (Some at) first = first.1.goes.ends.places ∙ same

      in_places : places_in t ≡ places_under (bare m) → next < 1 + length t.rowsets.items
      in_places e =
          let lt : next < length (places_under (bare m)) = within_all m (Some next) low in
          let long : length (places_in t) ≡ length (places_under (bare m)) = ap (λ (ps : List Place). length ps) e in
          let all = length-map t.rowsets.items (λ (d : DiskRowSet). disk (rowset.held_of d).number) in
          omega arith

  -- both are done
  pub both_done : (t n : Opening) (a b : Option ℕ) → Are a b → IsIn a → IsIn b → Once a b → TakesIf o t a ts op true → TakesIf t n b ts op true → Does o n m ts op (Some row.targets)
  both_done t n None None are low low' once first second = subst (λ (x : Opening). Does o x m ts op (Some row.targets)) (sym (second.1 ∙ first.1)) (does_none o m ts op row.targets may.kept (sym are))
  both_done t n (Some at) None are low low' once first second =
      subst (λ (x : Opening). Does o x m ts op (Some row.targets)) (sym second.1) (does_one o m ts op row.targets (place_at (bare m) at) at may.apart (there at low) t first (sym are))
  both_done t n None (Some next) are low low' once first second =
      does_one o m ts op row.targets (place_at (bare m) next) next may.apart (there next low') n (subst (λ (x : Opening). FitsAt x n next ts op true) first.1 second) (sym are)
  both_done t n (Some at) (Some next) are low low' once first second =
      does_two o m ts op row.targets (place_at (bare m) at) at may.apart (there at low) t first (place_at (bare m) next) next (there next low') (differ at next low low' once) (sym are) n second

  -- or it does not fit the second
  pub second_late : (t n : Opening) (a b : Option ℕ) → Are a b → IsIn a → IsIn b → Once a b → TakesIf o t a ts op true → (takes : Bool) → takes ≡ false → TakesIf t n b ts op takes → DoesNotFit o m ts op (Some row.targets)
  second_late t n a None are low low' once first takes bad second = absurd (false≢true (sym bad ∙ second.0))
  second_late t n None (Some next) are low low' once first takes bad second =
      late_one o m ts op row.targets (place_at (bare m) next) next may.apart (there next low') n [] (subst (λ (x : Opening). FitsAt x n next ts op false) first.1 (subst (λ (x : Bool). FitsAt t n next ts op x) bad second)) (sym are)
  second_late t n (Some at) (Some next) are low low' once first takes bad second =
      late_two o m ts op row.targets (place_at (bare m) at) at may.apart (there at low) t first (place_at (bare m) next) next (there next low') (differ at next low low' once) (sym are) n (subst (λ (x : Bool). FitsAt t n next ts op x) bad second)

-- ---- the store that has the key live

placed_long : (fill : Row) (o : Opening) → length (placed fill o) ≡ 1 + length o.rowsets.items
placed_long fill o =
    let each : DiskRowSet → Place × Store = λ d. (disk (rowset.held_of d).number, rowset.store_of d o.pool) in
    omega (arith, length-map o.rowsets.items each)

had_within : (ts : ℕ) (q : List ℕ) (at : ℕ) (stores : Placed) → had_at ts q at stores ≡ Some true → at < length stores
had_within ts q at [] e = let bad : None ≡ Some true = e in absurd (cc)
had_within ts q zero (s ∷ stores) e = omega arith
had_within ts q (suc at) (s ∷ stores) e = let more = had_within ts q at stores e in omega arith

pub first_within : (o : Opening) (ts : ℕ) (q : List ℕ) (at : Option ℕ) → IsFirst ts q at (placed [] o) → unwrap_or at 0 < 1 + length o.rowsets.items
first_within o ts q None first = omega arith
first_within o ts q (Some at) first =
    let low = had_within ts q at (placed [] o) first.1 in
    let long = placed_long [] o in
    omega arith

-- the place of a store that is there
place_in : (o : Opening) (at : ℕ) → at < 1 + length o.rowsets.items → slice_get (places_in o) at ≡ Some (get_or (places_in o) at memory)
place_in o at lt = got (places_in o) at memory (let long = length-map o.rowsets.items (λ (d : DiskRowSet). disk (rowset.held_of d).number) in omega arith)

no_insert : (kind : OpKind) → kind_made kind true ≡ Some Ins → ⊥
no_insert Insert e = cc
no_insert Upsert e = cc
no_insert Update e = cc
no_insert Delete e = cc
no_insert InsertIgnore e = cc
no_insert UpdateIgnore e = cc
no_insert DeleteIgnore e = cc

row_of_both : (a b : Outcome) (xs ys : List Target) → a ≡ b → xs ≡ ys → ◌≡◌ {A = CommitRow} (record { outcome = a; targets = xs }) (record { outcome = b; targets = ys })
row_of_both a b xs ys e f = λ i. record { outcome = e i; targets = f i }

module _ (o : Opening) (ts : ℕ) (op : RowOp) where
  pub live_may : (at : Option ℕ) (kind : Kindly) → ((fill : Row) → IsFirst ts op.key at (placed fill o)) → kind_made op.kind (is_some at) ≡ Some kind → (fill : Row) → MayJoin ts op.key (unwrap_or at 0) kind (placed fill o)
  live_may None kind first is fill = kind_may op.kind false kind ts op.key 0 (placed fill o) is (let here = first fill in ap (λ b. Some b) here.0) (λ ins. refl)
  live_may (Some at) kind first is fill = kind_may op.kind true kind ts op.key at (placed fill o) is (let here = first fill in here.1) (λ ins. absurd (no_insert op.kind (is ∙ ap (λ k. Some k) ins)))

  pub live_done : (n : Opening) (m : Meta) (at : Option ℕ) (kind : Kindly) → MayDo o ts op.key → ((fill : Row) → IsFirst ts op.key at (placed fill o)) → kind_made op.kind (is_some at) ≡ Some kind
      → JoinsAt o n (unwrap_or at 0) ts op kind (share op) → Does o n m ts op None
  live_done n m None kind may first is joins = does_live o m ts op memory false (λ fill. live_none fill o ts op (first fill)) n 0 kind may.apart refl is joins
  live_done n m (Some at) kind may first is joins =
      let p = get_or (places_in o) at memory in
      let there : slice_get (places_in o) at ≡ Some p = place_in o at (first_within o ts op.key (Some at) (first [])) in
      does_live o m ts op p true (λ fill. live_one fill o ts op at p (first fill) there) n at kind may.apart there is joins

  pub live_not : (m : Meta) (at : Option ℕ) → MayDo o ts op.key → ((fill : Row) → IsFirst ts op.key at (placed fill o)) → kind_made op.kind (is_some at) ≡ None → Does o o m ts op None
  live_not m None may first is = does_not o m ts op memory false (λ fill. live_none fill o ts op (first fill)) may.kept is
  live_not m (Some at) may first is =
      let p = get_or (places_in o) at memory in
      let there : slice_get (places_in o) at ≡ Some p = place_in o at (first_within o ts op.key (Some at) (first [])) in
      does_not o m ts op p true (λ fill. live_one fill o ts op at p (first fill) there) may.kept is

  module _ (fill : Row) (name : Place → Target) (named : NamesEach name o) where
    -- what is found of it
    live_outcome : (at : Option ℕ) → IsFirst ts op.key at (placed fill o) → outcome_of op.kind (is_some at) ≡ (effect fill op.kind op.cells (row_found (live_in (standing ts (held_of op.key (placed fill o)))))).1
    live_outcome None first = sym (ap (λ (l : Option (Place × Row)). (effect fill op.kind op.cells (row_found l)).1) (live_nowhere ts op.key (placed fill o) first) ∙ outcomes fill op.kind op.cells None)
    live_outcome (Some at) first =
        let p = get_or (places_in o) at memory in
        let within = had_within ts op.key at (placed fill o) first.1 in
        let long = placed_long fill o in
        let there : slice_get (places (placed fill o)) at ≡ Some p = ap (λ ps. slice_get ps at) (places_placed fill o) ∙ place_in o at (omega arith) in
        let found = live_there ts op.key (placed fill o) at p first there in
        sym (ap (λ (l : Option (Place × Row)). (effect fill op.kind op.cells (row_found l)).1) found.1 ∙ outcomes fill op.kind op.cells (Some found.0))

    -- the store that takes it, by its name
    target_is : (at : ℕ) (p : Place) (target : Target) → slice_get (places_in o) at ≡ Some p → slice_get (names_in o) at ≡ Some target → name p ≡ target
    target_is at p target there is = some_is (name p) target (sym (map_at at name p (places_in o) there) ∙ ap (λ (ns : List Target). slice_get ns at) (sym named) ∙ is)

    -- a row that tells of a change, or of none
    pub live_told : (at : Option ℕ) (kind : Kindly) (target : Target) (outcome : Outcome) (targets : List Target) → IsFirst ts op.key at (placed fill o) → kind_made op.kind (is_some at) ≡ Some kind → slice_get (names_in o) (unwrap_or at 0) ≡ Some target
        → outcome ≡ outcome_of op.kind (is_some at) → targets ≡ target ∷ [] → ◌≡◌ {A = CommitRow} (record { outcome = outcome; targets = targets }) (row_told fill name (standing ts (held_of op.key (placed fill o))) op)
    live_told None kind target outcome targets first is named_so out one =
        row_of_both outcome _ targets _ (out ∙ live_outcome None first)
        (one ∙ ap (λ (t : Target). t ∷ []) (sym (target_is 0 memory target refl named_so))
        ∙ sym (told_by fill name o ts op memory (Some kind) (live_none fill o ts op first ∙ ap (λ (made : Option Kindly). to_place memory (option_map (λ k. change_by fill k op) made)) is)))
    live_told (Some at) kind target outcome targets first is named_so out one =
        let p = get_or (places_in o) at memory in
        let within = had_within ts op.key at (placed fill o) first.1 in
        let long = placed_long fill o in
        let there : slice_get (places_in o) at ≡ Some p = place_in o at (omega arith) in
        row_of_both outcome _ targets _ (out ∙ live_outcome (Some at) first)
        (one ∙ ap (λ (t : Target). t ∷ []) (sym (target_is at p target there named_so))
        ∙ sym (told_by fill name o ts op p (Some kind) (live_one fill o ts op at p first there ∙ ap (λ (made : Option Kindly). to_place p (option_map (λ k. change_by fill k op) made)) is)))

    pub live_untold : (at : Option ℕ) (outcome : Outcome) (targets : List Target) → IsFirst ts op.key at (placed fill o) → kind_made op.kind (is_some at) ≡ None → outcome ≡ outcome_of op.kind (is_some at) → targets ≡ []
        → ◌≡◌ {A = CommitRow} (record { outcome = outcome; targets = targets }) (row_told fill name (standing ts (held_of op.key (placed fill o))) op)
    live_untold None outcome targets first is out none =
        row_of_both outcome _ targets _ (out ∙ live_outcome None first)
        (none ∙ sym (told_by fill name o ts op memory None (live_none fill o ts op first ∙ ap (λ (made : Option Kindly). to_place memory (option_map (λ k. change_by fill k op) made)) is)))
    live_untold (Some at) outcome targets first is out none =
        let p = get_or (places_in o) at memory in
        let within = had_within ts op.key at (placed fill o) first.1 in
        let long = placed_long fill o in
        let there : slice_get (places_in o) at ≡ Some p = place_in o at (omega arith) in
        row_of_both outcome _ targets _ (out ∙ live_outcome (Some at) first)
        (none ∙ sym (told_by fill name o ts op p None (live_one fill o ts op at p first there ∙ ap (λ (made : Option Kindly). to_place p (option_map (λ k. change_by fill k op) made)) is)))
