-- The COMMITs that an opened tablet owes: they name its own stores, and the content of each key with them is that of its stores.
use Rattle.std.proofs.Common.{◌≡◌, ℕ, List, [], ◌∷◌, ◌++◌, map, Option, Some, None, Result, Ok, Err, refl, sym, ap, ◌∙◌, subst, append_assoc}
use Rattle.std.specs.List.{All, AllByRecursion, Contains}
use Rattle.std.proofs.lemmas.List.{append-nil}
use Rattle.std.proofs.lemmas.List.Elements.{Contains-append_left, Contains-append_right, Contains-push}
use Rattle.kt_history.specs.declared.change.Change.{Change}
use Rattle.kt_history.specs.declared.operation.RowOp.{RowOp}
use Rattle.kt_history.specs.declared.target.Target.{Target}
use Rattle.kt_history.specs.Rows.{Row}
use Rattle.kt_history.specs.Operations.{effect}
use Rattle.kt_history.specs.Stores.{Store, hist_in}
use Rattle.kt_histlaws.specs.Pending.{Aloft}
use Rattle.kt_records.specs.declared.entry.CommitRow.{CommitRow}
use Rattle.kt_records.specs.declared.entry.Entry.{Entry}
use Rattle.kt_records.specs.declared.entry.Entry.TheVariants.{Replicate, Commit}
use Rattle.kt_journal.specs.Log.{IsLog}
use Rattle.kt_loglaws.specs.Replay.{commit_of}
use Rattle.kt_content.specs.Places.{Super, Place, memory, Held, Moves, row_before, standing, or_live, live_in, places_of}
use Rattle.kt_content.specs.KeyOps.{decided, to_place, to_live}
use Rattle.kt_content.specs.Opening.{Placed, held_of, joined_store, moved_stores, names_at, rows_behind, if_it_fits, write_opened}
use Rattle.kt_content.specs.Content.{content_at}
use Rattle.kt_content.specs.Records.{AllTold}
use Rattle.kt_content.proofs.Records.{commit_key, order_front}
use Rattle.kt_content.proofs.Recovering.{regroup}
use Rattle.kt_reopen.specs.Owed.{row_told, rows_told, unless_told, then_owed, owed, AllHaveCommits}
use Rattle.kt_reopen.proofs.Joined.{places_joined}
use Rattle.kt_engine.specs.Logged.{AreCommits, NamesOnly, UntoldFly}
use Rattle.kt_engine.proofs.Lists.{all_none, all_cons, all_one}

-- ---- they are COMMITs

unless_alone : (o : Option (List CommitRow)) (ts : ℕ) (rows : List CommitRow) (rest : List Entry) → AreCommits rest → AreCommits (unless_told o (Commit ts rows) rest)
unless_alone None ts rows rest h = h
unless_alone (Some told) ts rows rest h = h

pub owed_alone : (fill : Row) (super : Super) (name : Place → Target) (all : List Entry) (stores : Placed) (records : List Entry) → AreCommits (owed fill super name all stores records)
owed_alone fill super name all stores [] = tt
owed_alone fill super name all stores (Commit ts rows ∷ records) = owed_alone fill super name all stores records
owed_alone fill super name all stores (Replicate ts ops ∷ records) =
    unless_alone (commit_of ts all) ts (rows_told fill name ts ops stores) _
    (elim (write_opened fill super ts ops (commit_of ts all) stores) as (λ w. AreCommits (then_owed (λ s. owed fill super name all s records) w)) [ Ok s ↦ owed_alone fill super name all s records | Err t ↦ tt ])

-- each write has its COMMIT, so none waits
pub none_untold : (records : List Entry) (aloft : List Aloft) → AllHaveCommits records → UntoldFly records aloft
none_untold records aloft all ts ops is none = absurd (all ts ops is none)

-- ---- which name the stores that are opened

abbrev placed_at : Placed → List Place
placed_at stores = map (λ (s : Place × Store). s.0) stores

-- operations leave the places where they are
places_moved : (ts : ℕ) (q : List ℕ) (moves : Moves) (stores : Placed) → placed_at (moved_stores ts q moves stores) ≡ placed_at stores
places_moved ts q [] stores = refl
places_moved ts q (m ∷ moves) stores = places_moved ts q moves (joined_store m.0 ts q m.1 stores) ∙ places_joined m.0 ts q m.1 stores

places_written : (fill : Row) (super : Super) (ts : ℕ) (ops : List RowOp) (told : Option (List CommitRow)) (stores final : Placed) → write_opened fill super ts ops told stores ≡ Ok final → placed_at final ≡ placed_at stores
places_written fill super ts [] told stores final e = let same : stores ≡ final = cc in ap placed_at (sym same)
places_written fill super ts (op ∷ ops) told stores final e = by (decided fill super (standing ts (held_of op.key stores)) op (names_at told)) e
    (λ moves g. places_written fill super ts ops (rows_behind told) (moved_stores ts op.key moves stores) final g ∙ places_moved ts op.key moves stores)
  where
    by : (o : Option Moves) → if_it_fits ts (λ moves. write_opened fill super ts ops (rows_behind told) (moved_stores ts op.key moves stores)) o ≡ Ok final
        → ((moves : Moves) → write_opened fill super ts ops (rows_behind told) (moved_stores ts op.key moves stores) ≡ Ok final → placed_at final ≡ placed_at stores) → placed_at final ≡ placed_at stores
    by None e more = absurd (cc)
    by (Some moves) e more = more moves e

module _ (name : Place → Target) (names : List Target) where
  abbrev AllThere : List Place → Type 0
  AllThere places = AllByRecursion (λ (p : Place). Contains names (name p)) places

  live_there : (ts : ℕ) (q : List ℕ) (stores : Placed) → AllThere (placed_at stores) → (at : Place × Row) → live_in (standing ts (held_of q stores)) ≡ Some at → Contains names (name at.0)
  live_there ts q [] h at e = absurd (cc)
  live_there ts q (s ∷ stores) h at e =
      elim (row_before ts (hist_in q s.1)) as (λ o. or_live s.0 o (live_in (standing ts (held_of q stores))) ≡ Some at → Contains names (name at.0)) [
        | None ↦ λ e. live_there ts q stores h.1 at e
        | Some row ↦ λ e. subst (λ (x : Place × Row). Contains names (name x.0)) (let same : (s.0, row) ≡ at = cc in same) h.0
      ] e

  module _ (fill : Row) (mem : Contains names (name memory)) where
    one_there : (p : Place) (c : Option Change) → Contains names (name p) → All (Contains names) (map name (places_of (to_place p c)))
    one_there p None has = all_none (Contains names)
    one_there p (Some c) has = all_one (Contains names) (name p) has

    row_there : (ts : ℕ) (op : RowOp) (stores : Placed) → AllThere (placed_at stores) → All (Contains names) (row_told fill name (standing ts (held_of op.key stores)) op).targets
    row_there ts op stores h =
        elim (live_in (standing ts (held_of op.key stores))) as (λ o. ((at : Place × Row) → o ≡ Some at → Contains names (name at.0)) → All (Contains names) (map name (places_of (to_live fill op o)))) [
          | None ↦ λ fit. one_there memory (effect fill op.kind op.cells None).0 mem
          | Some at ↦ λ fit. one_there at.0 (effect fill op.kind op.cells (Some at.1)).0 (fit at refl)
        ] (live_there ts op.key stores h)

    rows_there : (ts : ℕ) (ops : List RowOp) (stores : Placed) → AllThere (placed_at stores) → All (λ (row : CommitRow). All (Contains names) row.targets) (rows_told fill name ts ops stores)
    rows_there ts [] stores h = all_none (λ (row : CommitRow). All (Contains names) row.targets)
    rows_there ts (op ∷ ops) stores h =
        let rows = standing ts (held_of op.key stores) in
        let moves = to_live fill op (live_in rows) in
        all_cons (λ (row : CommitRow). All (Contains names) row.targets) (row_told fill name rows op) (rows_told fill name ts ops (moved_stores ts op.key moves stores)) (row_there ts op stores h)
        (rows_there ts ops (moved_stores ts op.key moves stores) (subst AllThere (sym (places_moved ts op.key moves stores)) h))

    unless_there : (o : Option (List CommitRow)) (ts : ℕ) (rows : List CommitRow) (rest : List Entry) → All (λ (row : CommitRow). All (Contains names) row.targets) rows → All (NamesOnly names) rest → All (NamesOnly names) (unless_told o (Commit ts rows) rest)
    unless_there None ts rows rest row h = all_cons (NamesOnly names) (Commit ts rows) rest row h
    unless_there (Some told) ts rows rest row h = h

    then_there : (super : Super) (all : List Entry) (places : List Place) (ts : ℕ) (ops : List RowOp) (stores : Placed) → placed_at stores ≡ places → (records : List Entry)
        → ((s : Placed) → placed_at s ≡ places → All (NamesOnly names) (owed fill super name all s records)) → (w : Result Placed ℕ) → write_opened fill super ts ops (commit_of ts all) stores ≡ w
        → All (NamesOnly names) (then_owed (λ s. owed fill super name all s records) w)
    then_there super all places ts ops stores at records next (Ok s) e = next s (places_written fill super ts ops (commit_of ts all) stores s e ∙ at)
    then_there super all places ts ops stores at records next (Err t) e = all_none (NamesOnly names)

    pub owed_names : (super : Super) (all : List Entry) (places : List Place) → AllThere places → (stores : Placed) → placed_at stores ≡ places → (records : List Entry) → All (NamesOnly names) (owed fill super name all stores records)
    owed_names super all places there stores at [] = all_none (NamesOnly names)
    owed_names super all places there stores at (Commit ts rows ∷ records) = owed_names super all places there stores at records
    owed_names super all places there stores at (Replicate ts ops ∷ records) =
        unless_there (commit_of ts all) ts (rows_told fill name ts ops stores) (then_owed (λ s. owed fill super name all s records) (write_opened fill super ts ops (commit_of ts all) stores))
        (rows_there ts ops stores (subst AllThere (sym at) there)) (then_there super all places ts ops stores at records (λ s same. owed_names super all places there s same records) (write_opened fill super ts ops (commit_of ts all) stores) refl)

-- each of some names is among them
pub all_there : (name : Place → Target) (front : List Target) (places : List Place) → AllByRecursion (λ (p : Place). Contains (front ++ map name places) (name p)) places
all_there name front [] = tt
all_there name front (p ∷ places) = (
  Contains-append_right front (name p ∷ map name places) (name p) (Contains-append_left (name p ∷ []) (map name places) (name p) (Contains-push [] (name p))),
  subst (λ (ns : List Target). AllByRecursion (λ (p : Place). Contains ns (name p)) places) (append_assoc front (name p ∷ []) (map name places)) (all_there name (front ++ name p ∷ []) places),
)

-- ---- with them the content is the same

pub content_told : (fill : Row) (super : Super) (low : ℕ) (log queued : List Entry) (q : List ℕ) (held : Held) → AreCommits queued → IsLog (log ++ queued) → AllTold fill super low log queued → content_at fill super log q ≡ Ok held
    → content_at fill super (log ++ queued) q ≡ Ok held
content_told fill super low log [] q held alone order told is = ap (λ (l : List Entry). content_at fill super l q) (append-nil log) ∙ is
content_told fill super low log (Replicate ts ops ∷ queued) q held alone order told is = absurd alone
content_told fill super low log (Commit ts rows ∷ queued) q held alone order told is =
    let order' : IsLog ((log ++ Commit ts rows ∷ []) ++ queued) = subst (λ (l : List Entry). IsLog l) (regroup log (Commit ts rows) queued) order in
    let front = order_front [] (log ++ Commit ts rows ∷ []) queued order' in
    ap (λ (l : List Entry). content_at fill super l q) (regroup log (Commit ts rows) queued)
    ∙ content_told fill super low (log ++ Commit ts rows ∷ []) queued q held alone order' told.1 (commit_key fill super log ts rows q held front told.0 is)
