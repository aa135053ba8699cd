-- Opened stores have of each key what its content says.
use Rattle.std.proofs.Common.{◌≡◌, ℕ, List, [], ◌∷◌, ◌++◌, Some, None, Option, Ok, Err, refl, sym, ap, ◌∙◌, subst, cond, true, false, Bool, ◌||◌}
use Rattle.std.specs.Prelude.{unwrap_or}
use Rattle.std.specs.List.{list_any}
use Rattle.std.specs.Ordering.{eq_by_cmp}
use Rattle.std.specs.FinMap.Entries.{find, put, find-put}
use Rattle.std.proofs.lemmas.Cmp.{nat_list_cmp_total}
use Rattle.kt_history.specs.declared.change.Change.{Change}
use Rattle.kt_history.specs.declared.operation.RowOp.{RowOp}
use Rattle.kt_history.specs.declared.target.Target.{Target}
use Rattle.kt_history.specs.Rows.{Row, key_cmp}
use Rattle.kt_history.specs.Operations.{DifferentKeys}
use Rattle.kt_records.specs.declared.entry.Entry.TheVariants.{Replicate, Commit}
use Rattle.kt_records.specs.declared.entry.CommitRow.{CommitRow}
use Rattle.kt_history.specs.Stores.{Hist, Store, hist_in, push, never}
use Rattle.kt_histlaws.proofs.Pending.{same_key, itself}
use Rattle.kt_loglaws.specs.Replay.{commit_of}
use Rattle.kt_content.specs.Places.{Super, Place, same_place, Moves, standing, joined_in, moved}
use Rattle.kt_content.specs.KeyOps.{KeyOp, decided, op_on, seen, played, if_fits}
use Rattle.kt_content.specs.Opening.{Placed, held_of, joined_store, moved_stores, if_it_fits, names_at, rows_behind, write_opened, then_opened, opened, HasRows, opened_stores_are_the_content, an_opening_that_stops_has_no_content}
use Rattle.kt_content.proofs.MoreOps.{played-append, then_played}
use Rattle.std.proofs.lemmas.Bool.{or_parts}

pub hist_in-put : (q k : List ℕ) (h : Hist) (store : Store) → hist_in q (put key_cmp k h store) ≡ cond (eq_by_cmp key_cmp q k) h (hist_in q store)
hist_in-put q k h store = ap (λ o. unwrap_or o never) (find-put key_cmp nat_list_cmp_total q k h store)
    ∙ elim (eq_by_cmp key_cmp q k) as (λ b. unwrap_or (cond b (Some h) (find key_cmp q store)) never ≡ cond b h (hist_in q store)) [ true ↦ refl | false ↦ refl ]

same_joined : (p : Place) (ts : ℕ) (q : List ℕ) (c : Change) (stores : Placed) → held_of q (joined_store p ts q c stores) ≡ joined_in p ts c (held_of q stores)
same_joined p ts q c [] = refl
same_joined p ts q c (s ∷ stores) = elim (same_place p s.0) as (λ b. held_of q (cond b ((s.0, put key_cmp q (push ts c (hist_in q s.1)) s.1) ∷ stores) (s ∷ joined_store p ts q c stores)) ≡ cond b ((s.0, push ts c (hist_in q s.1)) ∷ held_of q stores) ((s.0, hist_in q s.1) ∷ joined_in p ts c (held_of q stores))) [
  | true ↦ ap (λ h. (s.0, h) ∷ held_of q stores) (hist_in-put q q (push ts c (hist_in q s.1)) s.1 ∙ ap (λ b. cond b (push ts c (hist_in q s.1)) (hist_in q s.1)) (itself q))
  | false ↦ ap (λ l. (s.0, hist_in q s.1) ∷ l) (same_joined p ts q c stores)
]

other_joined : (p : Place) (ts : ℕ) (q k : List ℕ) (c : Change) (stores : Placed) → eq_by_cmp key_cmp k q ≡ false → held_of k (joined_store p ts q c stores) ≡ held_of k stores
other_joined p ts q k c [] other = refl
other_joined p ts q k c (s ∷ stores) other = elim (same_place p s.0) as (λ b. held_of k (cond b ((s.0, put key_cmp q (push ts c (hist_in q s.1)) s.1) ∷ stores) (s ∷ joined_store p ts q c stores)) ≡ (s.0, hist_in k s.1) ∷ held_of k stores) [
  | true ↦ ap (λ h. (s.0, h) ∷ held_of k stores) (hist_in-put k q (push ts c (hist_in q s.1)) s.1 ∙ ap (λ b. cond b (push ts c (hist_in q s.1)) (hist_in k s.1)) other)
  | false ↦ ap (λ l. (s.0, hist_in k s.1) ∷ l) (other_joined p ts q k c stores other)
]

pub same_moved : (ts : ℕ) (q : List ℕ) (ms : Moves) (stores : Placed) → held_of q (moved_stores ts q ms stores) ≡ moved ts ms (held_of q stores)
same_moved ts q [] stores = refl
same_moved ts q (m ∷ ms) stores = same_moved ts q ms (joined_store m.0 ts q m.1 stores) ∙ ap (moved ts ms) (same_joined m.0 ts q m.1 stores)

pub other_moved : (ts : ℕ) (q k : List ℕ) (ms : Moves) (stores : Placed) → eq_by_cmp key_cmp k q ≡ false → held_of k (moved_stores ts q ms stores) ≡ held_of k stores
other_moved ts q k [] stores other = refl
other_moved ts q k (m ∷ ms) stores other = other_moved ts q k ms (joined_store m.0 ts q m.1 stores) other ∙ other_joined m.0 ts q k m.1 stores other

-- the moves that an operation made, where a write was opened
made : (fill : Row) (super : Super) (ts : ℕ) (op : RowOp) (ops : List RowOp) (rows : Option (List CommitRow)) (stores final : Placed) → write_opened fill super ts (op ∷ ops) rows stores ≡ Ok final
    → (m : Moves) × (decided fill super (standing ts (held_of op.key stores)) op (names_at rows) ≡ Some m) × (write_opened fill super ts ops (rows_behind rows) (moved_stores ts op.key m stores) ≡ Ok final)
made fill super ts op ops rows stores final h = elim (decided fill super (standing ts (held_of op.key stores)) op (names_at rows)) as (λ o. decided fill super (standing ts (held_of op.key stores)) op (names_at rows) ≡ o
    → if_it_fits ts (λ moves. write_opened fill super ts ops (rows_behind rows) (moved_stores ts op.key moves stores)) o ≡ Ok final
    → (m : Moves) × (decided fill super (standing ts (held_of op.key stores)) op (names_at rows) ≡ Some m) × (write_opened fill super ts ops (rows_behind rows) (moved_stores ts op.key m stores) ≡ Ok final)) [
      | None ↦ λ e h. absurd (cc)
      | Some m ↦ λ e h. (m, e, h)
    ] refl h

-- a write on other keys
write_other : (fill : Row) (super : Super) (ts : ℕ) (k : List ℕ) (ops : List RowOp) (rows : Option (List CommitRow)) (stores final : Placed) → list_any (λ (o : RowOp). eq_by_cmp key_cmp k o.key) ops ≡ false
    → write_opened fill super ts ops rows stores ≡ Ok final → held_of k final ≡ held_of k stores
write_other fill super ts k [] rows stores final other h = let e : stores ≡ final = cc in ap (held_of k) (sym e)
write_other fill super ts k (op ∷ ops) rows stores final other h =
    let m = made fill super ts op ops rows stores final h in
    write_other fill super ts k ops (rows_behind rows) (moved_stores ts op.key m.0 stores) final (or_parts (eq_by_cmp key_cmp k op.key) _ other).1 m.2 ∙ other_moved ts op.key k m.0 stores (or_parts _ _ other).0

-- the first operation, on this key or on another
abbrev pub first_or : List ℕ → ℕ → RowOp → Option (List Target) → List KeyOp → List KeyOp
first_or q ts op names rest = cond (eq_by_cmp key_cmp q op.key) (record { ts = ts; op = op; told = names } ∷ []) rest

write_key : (fill : Row) (super : Super) (ts : ℕ) (q : List ℕ) (op : RowOp) (ops : List RowOp) (rows : Option (List CommitRow)) (stores final : Placed) (rest : List KeyOp) → DifferentKeys (op ∷ ops)
    → write_opened fill super ts (op ∷ ops) rows stores ≡ Ok final
    → ((mid : Placed) → write_opened fill super ts ops (rows_behind rows) mid ≡ Ok final → played fill super (held_of q mid) rest ≡ Ok (held_of q final))
    → played fill super (held_of q stores) (first_or q ts op (names_at rows) rest) ≡ Ok (held_of q final)
write_key fill super ts q op ops rows stores final rest d h more =
    let m = made fill super ts op ops rows stores final h in
    elim (eq_by_cmp key_cmp q op.key) as (λ b. eq_by_cmp key_cmp q op.key ≡ b → played fill super (held_of q stores) (cond b (record { ts = ts; op = op; told = names_at rows } ∷ []) rest) ≡ Ok (held_of q final)) [
      | true ↦ λ e. subst (λ (k : List ℕ). played fill super (held_of k stores) (record { ts = ts; op = op; told = names_at rows } ∷ []) ≡ Ok (held_of k final)) (sym (same_key q op.key e))
          (ap (if_fits ts (λ moves. played fill super (moved ts moves (held_of op.key stores)) [])) m.1
          ∙ ap Ok (sym (write_other fill super ts op.key ops (rows_behind rows) (moved_stores ts op.key m.0 stores) final d.0 m.2 ∙ same_moved ts op.key m.0 stores)))
      | false ↦ λ e. ap (λ l. played fill super l rest) (sym (other_moved ts op.key q m.0 stores e)) ∙ more (moved_stores ts op.key m.0 stores) m.2
    ] refl

write_opens : (fill : Row) (super : Super) (ts : ℕ) (q : List ℕ) (ops : List RowOp) (rows : Option (List CommitRow)) (stores final : Placed) → DifferentKeys ops → HasRows ops rows
    → write_opened fill super ts ops rows stores ≡ Ok final → played fill super (held_of q stores) (op_on q ts ops rows) ≡ Ok (held_of q final)
write_opens fill super ts q [] rows stores final d r h = let e : stores ≡ final = cc in ap (λ (s : Placed). Ok (held_of q s)) e
write_opens fill super ts q (op ∷ ops) None stores final d r h =
    write_key fill super ts q op ops None stores final (op_on q ts ops None) d h (λ mid g. write_opens fill super ts q ops None mid final d.1 tt g)
write_opens fill super ts q (op ∷ ops) (Some []) stores final d r h = absurd r
write_opens fill super ts q (op ∷ ops) (Some (row ∷ rows)) stores final d r h =
    write_key fill super ts q op ops (Some (row ∷ rows)) stores final (op_on q ts ops (Some rows)) d h (λ mid g. write_opens fill super ts q ops (Some rows) mid final d.1 r g)

pub opens : opened_stores_are_the_content
opens fill super all stores final [] w h q = let e : stores ≡ final = cc in ap (λ (s : Placed). Ok (held_of q s)) e
opens fill super all stores final (Commit ts rows ∷ records) w h q = opens fill super all stores final records w h q
opens fill super all stores final (Replicate ts ops ∷ records) w h q =
    elim (write_opened fill super ts ops (commit_of ts all) stores) as (λ r. write_opened fill super ts ops (commit_of ts all) stores ≡ r → then_opened (λ stores. opened fill super all stores records) r ≡ Ok final
    → played fill super (held_of q stores) (op_on q ts ops (commit_of ts all) ++ seen q all records) ≡ Ok (held_of q final)) [
      | Err t ↦ λ e h. absurd (cc)
      | Ok mid ↦ λ e h.
          played-append fill super (held_of q stores) (op_on q ts ops (commit_of ts all)) (seen q all records)
          ∙ ap (then_played fill super (seen q all records)) (write_opens fill super ts q ops (commit_of ts all) stores mid w.0 w.1 e)
          ∙ opens fill super all mid final records w.2 h q
    ] refl h

-- where it stops

-- a key of the write that stops it
abbrev pub Stops : Row → Super → ℕ → ℕ → List RowOp → Option (List CommitRow) → Placed → Type 0
Stops fill super ts t ops rows stores = (t ≡ ts) × ((q : List ℕ) × (list_any (λ (o : RowOp). eq_by_cmp key_cmp q o.key) ops ≡ true) × (played fill super (held_of q stores) (op_on q ts ops rows) ≡ Err ts))

-- the same with one operation before
abbrev pub StopsBehind : Row → Super → ℕ → ℕ → RowOp → List RowOp → Option (List Target) → (List ℕ → List KeyOp) → Placed → Type 0
StopsBehind fill super ts t op ops names rest stores = (t ≡ ts) × ((q : List ℕ) × (list_any (λ (o : RowOp). eq_by_cmp key_cmp q o.key) (op ∷ ops) ≡ true) × (played fill super (held_of q stores) (first_or q ts op names (rest q)) ≡ Err ts))

or_true : (b : Bool) → (b || true) ≡ true
or_true true = refl
or_true false = refl

stop_key : (fill : Row) (super : Super) (ts t : ℕ) (op : RowOp) (ops : List RowOp) (rows : Option (List CommitRow)) (stores : Placed) (rest : List ℕ → List KeyOp) → DifferentKeys (op ∷ ops)
    → write_opened fill super ts (op ∷ ops) rows stores ≡ Err t
    → ((mid : Placed) → write_opened fill super ts ops (rows_behind rows) mid ≡ Err t → (t ≡ ts) × ((q : List ℕ) × (list_any (λ (o : RowOp). eq_by_cmp key_cmp q o.key) ops ≡ true) × (played fill super (held_of q mid) (rest q) ≡ Err ts)))
    → StopsBehind fill super ts t op ops (names_at rows) rest stores
stop_key fill super ts t op ops rows stores rest d h more = elim (decided fill super (standing ts (held_of op.key stores)) op (names_at rows)) as (λ o. decided fill super (standing ts (held_of op.key stores)) op (names_at rows) ≡ o
    → if_it_fits ts (λ moves. write_opened fill super ts ops (rows_behind rows) (moved_stores ts op.key moves stores)) o ≡ Err t → StopsBehind fill super ts t op ops (names_at rows) rest stores) [
      | None ↦ λ e h.
          let same : ts ≡ t = cc in (
            sym same,
            (
              op.key,
              ap (λ b. b || list_any (λ (o : RowOp). eq_by_cmp key_cmp op.key o.key) ops) (itself op.key),
              ap (λ b. played fill super (held_of op.key stores) (cond b (record { ts = ts; op = op; told = names_at rows } ∷ []) (rest op.key))) (itself op.key)
                  ∙ ap (if_fits ts (λ moves. played fill super (moved ts moves (held_of op.key stores)) [])) e,
            ),
          )
      | Some m ↦ λ e h.
          let found = more (moved_stores ts op.key m stores) h in
          let q = found.1.0 in
          let other : eq_by_cmp key_cmp q op.key ≡ false = elim (eq_by_cmp key_cmp q op.key) as (λ b. eq_by_cmp key_cmp q op.key ≡ b → b ≡ false) [
            | true ↦ λ s. absurd (let f : true ≡ false = sym found.1.1 ∙ ap (λ k. list_any (λ (o : RowOp). eq_by_cmp key_cmp k o.key) ops) (same_key q op.key s) ∙ d.0 in cc)
            | false ↦ λ s. refl
          ] refl in (
            found.0,
            (
              q,
              ap (λ b. eq_by_cmp key_cmp q op.key || b) found.1.1 ∙ or_true (eq_by_cmp key_cmp q op.key),
              ap (λ b. played fill super (held_of q stores) (cond b (record { ts = ts; op = op; told = names_at rows } ∷ []) (rest q))) other
                  ∙ ap (λ l. played fill super l (rest q)) (sym (other_moved ts op.key q m stores other)) ∙ found.1.2,
            ),
          )
    ] refl h

stops : (fill : Row) (super : Super) (ts t : ℕ) (ops : List RowOp) (rows : Option (List CommitRow)) (stores : Placed) → DifferentKeys ops → HasRows ops rows → write_opened fill super ts ops rows stores ≡ Err t → Stops fill super ts t ops rows stores
stops fill super ts t [] rows stores d r h = absurd (cc)
stops fill super ts t (op ∷ ops) None stores d r h = stop_key fill super ts t op ops None stores (λ q. op_on q ts ops None) d h (λ mid g. stops fill super ts t ops None mid d.1 tt g)
stops fill super ts t (op ∷ ops) (Some []) stores d r h = absurd r
stops fill super ts t (op ∷ ops) (Some (row ∷ rows)) stores d r h = stop_key fill super ts t op ops (Some (row ∷ rows)) stores (λ q. op_on q ts ops (Some rows)) d h (λ mid g. stops fill super ts t ops (Some rows) mid d.1 r g)

pub stopped : an_opening_that_stops_has_no_content
stopped fill super all stores [] t w h = absurd (cc)
stopped fill super all stores (Commit ts rows ∷ records) t w h = stopped fill super all stores records t w h
stopped fill super all stores (Replicate ts ops ∷ records) t w h =
    elim (write_opened fill super ts ops (commit_of ts all) stores) as (λ r. write_opened fill super ts ops (commit_of ts all) stores ≡ r → then_opened (λ stores. opened fill super all stores records) r ≡ Err t
    → (q : List ℕ) × (played fill super (held_of q stores) (op_on q ts ops (commit_of ts all) ++ seen q all records) ≡ Err t)) [
      | Err u ↦ λ e h.
          let same : u ≡ t = cc in
          let s = stops fill super ts u ops (commit_of ts all) stores w.0 w.1 e in
          (s.1.0, played-append fill super (held_of s.1.0 stores) (op_on s.1.0 ts ops (commit_of ts all)) (seen s.1.0 all records) ∙ ap (then_played fill super (seen s.1.0 all records)) s.1.2 ∙ ap Err (sym s.0 ∙ same))
      | Ok mid ↦ λ e h.
          let rest = stopped fill super all mid records t w.2 h in (
            rest.0,
            played-append fill super (held_of rest.0 stores) (op_on rest.0 ts ops (commit_of ts all)) (seen rest.0 all records)
                ∙ ap (then_played fill super (seen rest.0 all records)) (write_opens fill super ts rest.0 ops (commit_of ts all) stores mid w.0 w.1 e) ∙ rest.1,
          )
    ] refl h
