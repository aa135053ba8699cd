use Rattle.std.proofs.Common.{◌≡◌, ◌+◌, ◌<◌, ◌++◌, [], ◌∷◌, List, ℕ, Option, Some, None, length, take, drop, replicate, get_or, set, refl, sym, ap, ◌∙◌, arith, rules}
use Rattle.std.specs.Prelude.{slice_get}
use Rattle.std.proofs.lemmas.List.{take_more}
use Rattle.kt_records.specs.declared.entry.Entry.{Entry}
use Rattle.kt_records.specs.Shared.{entry_of}
use Rattle.kt_journal.specs.Waiting.{number_of}
use Rattle.kt_reopen.proofs.Replayed.{first_left, here_is}
use Rattle.kt_reopen.proofs.Placing.{placing_first, placing_last, is_newer, placing_write, waits_for, is_place, placing_commit, no_place}
use Rattle.kt_reopen.proofs.commits.commit_places.Goals as goal
use Rattle.kt_reopen.proofs.commits.commit_places.Goals.{in-Replicate+in_ok-add-in-Replicate, in-Commit+in-Some, in-Commit+in_default}

pub records-init : goal.records-init
records-init c =
    let long = c.in_ok-places.ensures.len in
    let n = c.len.ensures in
    let items : c.in_ok-places.places.items ≡ replicate c.len.result None = c.in_ok-places.ensures.items_if_clones_equal (λ y e. search rules) in
    placing_first c.args.records.now c.new-waiting.result.last (λ (ts : ℕ). number_of ts c.new-waiting.result) c.in_ok-places.places.items c.new-waiting.ensures.last c.new-waiting.ensures.numbers (omega arith)
    (λ i. ap (λ (l : List (Option ℕ)). get_or l i None) items ∙ no_place c.len.result i)

pub add-requires : goal.add-requires
add-requires c =
    let records : List Entry = c.args.records.now in
    let k = c.records.at in
    let r : Entry = entry_of c.at.result in
    let lt : k < length records = omega (arith, c.len-at-end.ensures, c.records-test.true) in
    is_newer records k r c.records.waiting.last (λ (ts : ℕ). number_of ts c.records.waiting) c.records.places.items c.requires lt (here_is records k r lt c.at.ensures refl)
    (take_more records k r lt ∙ ap (λ (x : Entry). take k records ++ x ∷ []) (sym c.at.ensures)) (first_left records k (k + 1) r lt c.at.ensures refl) c.records.invariant c.in-Replicate.ts c.in-Replicate.ops (ap entry_of c.in-Replicate.is)

pub index_mut-requires : goal.index_mut-requires
index_mut-requires c =
    let records : List Entry = c.args.records.now in
    let k = c.records.at in
    let r : Entry = entry_of c.at.result in
    let lt : k < length records = omega (arith, c.len-at-end.ensures, c.records-test.true) in
    let within : c.in-Some.write < length c.records.places.items =
    is_place records k r c.records.waiting.last (λ (ts : ℕ). number_of ts c.records.waiting) c.records.places.items c.requires lt (here_is records k r lt c.at.ensures refl)
    (take_more records k r lt ∙ ap (λ (x : Entry). take k records ++ x ∷ []) (sym c.at.ensures)) (first_left records k (k + 1) r lt c.at.ensures refl) c.records.invariant c.in-Commit.ts c.in-Commit.rows.now (ap entry_of c.in-Commit.is)
    c.in-Some.write (sym c.take.ensures.value ∙ c.in-Some.is) in
    omega arith

pub records-preserved : goal.records-preserved
records-preserved c =
    let records : List Entry = c.args.records.now in
    let k = c.records.at in
    let r : Entry = entry_of c.at.result in
    let lt : k < length records = omega (arith, c.len-at-end.ensures, c.records-test.true) in
    let more : take (k + 1) records ≡ take k records ++ r ∷ [] = take_more records k r lt ∙ ap (λ (x : Entry). take k records ++ x ∷ []) (sym c.at.ensures) in
    let behind : drop k records ≡ r ∷ drop (k + 1) records = first_left records k (k + 1) r lt c.at.ensures refl in
    let here : slice_get records k ≡ Some r = here_is records k r lt c.at.ensures refl in
    let last : Option ℕ = c.records.waiting.last in
    let number : ℕ → Option ℕ = λ ts. number_of ts c.records.waiting in
    let places : List (Option ℕ) = c.records.places.items in
    elim c.match-at.branch [
      | in-Replicate+in_ok-add-in-Replicate w ↦
          rw (w.places-is, w.waiting-is)
          (placing_write records k r last number places c.requires lt here more behind c.records.invariant w.in-Replicate.ts w.in-Replicate.ops (ap entry_of w.in-Replicate.is)
          w.add.new.self.last (λ (ts : ℕ). number_of ts w.add.new.self) w.in_ok-add-in-Replicate.ensures.last w.in_ok-add-in-Replicate.ensures.numbers)
      | in-Commit+in-Some w ↦
          rw (w.places-is, w.waiting-is)
          (placing_commit records k r last number places c.requires lt here more behind c.records.invariant w.in-Commit.ts w.in-Commit.rows.now (ap entry_of w.in-Commit.is)
          w.in-Some.write (sym w.take.ensures.value ∙ w.in-Some.is) w.take.new.self.last (λ (ts : ℕ). number_of ts w.take.new.self) (set places w.in-Some.write (Some k)) w.take.ensures.last refl w.take.ensures.numbers)
      | in-Commit+in_default w ↦
          absurd (waits_for records k r last number places c.requires lt here more behind c.records.invariant w.in-Commit.ts w.in-Commit.rows.now (ap entry_of w.in-Commit.is) (sym w.take.ensures.value ∙ w.in_default.is))
    ]

pub returns : goal.returns
returns c =
    let n = c.len-at-end.ensures in
    let end = c.records-test.false in
    placing_last c.args.records.now c.records.at c.records.waiting.last (λ (ts : ℕ). number_of ts c.records.waiting) c.records.places.items (omega arith) c.records.invariant
