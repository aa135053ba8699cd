use Rattle.std.proofs.Common.{◌+◌, ◌<◌, ◌≤◌, [], ◌∷◌, List, ℕ, length, map, drop, ◌∙◌, ap, subst, sym, arith, length-append}
use Rattle.std.specs.List.{flat_map}
use Rattle.std.proofs.lemmas.List.{take_rest, length-drop, length-map}
use Rattle.std.proofs.lemmas.Bool.Decides.{nat_tests}
use Rattle.kt_disk.proofs.Beside.{beside_none}
use Rattle.kt_records.specs.Spelling.{spelling}
use Rattle.kt_journal.specs.Frames.{Settled, frame}
use Rattle.kt_journal.proofs.Frames.{is_batch, count_le}
use Rattle.kt_journal.proofs.Publish.{settled_leaves}
use Rattle.kt_journal.proofs.Framed.{all_fit}
use Rattle.kt_journal.proofs.append.append_frames.Goals as goal

pub returns-then-is_empty-clause-any_moment : goal.returns-then-is_empty-clause-any_moment
returns-then-is_empty-clause-any_moment g c told = settled_leaves _ _ _ _ _ _ _ (c.requires.settled told)

pub returns-in_err-spell_batch-clause-any_moment : goal.returns-in_err-spell_batch-clause-any_moment
returns-in_err-spell_batch-clause-any_moment g c told = settled_leaves _ _ _ _ _ _ _ (c.requires.settled told)

pub returns-in_default-clause-any_moment : goal.returns-in_default-clause-any_moment
returns-in_default-clause-any_moment g c told = settled_leaves _ _ _ _ _ _ _ (c.requires.settled told)

pub returns-in-Ok-clause-any_moment : goal.returns-in-Ok-clause-any_moment
returns-in-Ok-clause-any_moment g c told =
    let payloads : List (List ℕ) = map spelling c.args.records.now in
    let some : 0 < length payloads = grind (arith, nat_tests, length-map c.args.records.now spelling) in
    c.publish.ensures.any_moment told payloads (is_batch payloads c.spell_batch.new.out _ some (all_fit c.args.records.now c.requires.framed) c.in_ok-spell_batch.ensures (take_rest c.as_slice.result.now 1 ∙ ap (λ (l : List ℕ). drop 1 l) c.as_slice.ensures))

pub returns-in-Err-clause-any_moment : goal.returns-in-Err-clause-any_moment
returns-in-Err-clause-any_moment g c told =
    let payloads : List (List ℕ) = map spelling c.args.records.now in
    let some : 0 < length payloads = grind (arith, nat_tests, length-map c.args.records.now spelling) in
    c.publish.ensures.any_moment told payloads (is_batch payloads c.spell_batch.new.out _ some (all_fit c.args.records.now c.requires.framed) c.in_ok-spell_batch.ensures (take_rest c.as_slice.result.now 1 ∙ ap (λ (l : List ℕ). drop 1 l) c.as_slice.ensures))

pub returns-in-Ok-clause-settled : goal.returns-in-Ok-clause-settled
returns-in-Ok-clause-settled g c told =
    let payloads : List (List ℕ) = map spelling c.args.records.now in
    let some : 0 < length payloads = grind (arith, nat_tests, length-map c.args.records.now spelling) in
    let kept = c.in-Ok.ensures.stable told payloads (is_batch payloads c.spell_batch.new.out _ some (all_fit c.args.records.now c.requires.framed) c.in_ok-spell_batch.ensures (take_rest c.as_slice.result.now 1 ∙ ap (λ (l : List ℕ). drop 1 l) c.as_slice.ensures)) in
    (subst (λ (place : ℕ). Settled g.L.Disk.seen g.L.Disk.now g.L.Disk.leaves c.args.file c.publish.new.disk place) (sym c.in-Some.ensures.0) kept.0, kept.1)

pub returns-in-Ok-clause-end : goal.returns-in-Ok-clause-end
returns-in-Ok-clause-end g c =
    let records : List (List ℕ) = map spelling c.args.records.now in
    let count = length-map c.args.records.now spelling in
    let long : length records + 1 ≤ length c.as_slice.result.now =
    omega (arith, ap length c.as_slice.ensures, ap length c.in_ok-spell_batch.ensures, length-append (flat_map frame records) (0 ∷ []), count_le records) in
    (omega (arith, c.in-Some.ensures.0, take_rest c.as_slice.result.now 1, ap length (take_rest c.as_slice.result.now 1), length-drop 1 c.as_slice.result.now), c.in-Some.ensures.1)

pub returns-then-is_empty-clause-elsewhere : goal.returns-then-is_empty-clause-elsewhere
returns-then-is_empty-clause-elsewhere g c told = beside_none _ _ _ _

pub returns-in_err-spell_batch-clause-elsewhere : goal.returns-in_err-spell_batch-clause-elsewhere
returns-in_err-spell_batch-clause-elsewhere g c told = beside_none _ _ _ _

pub returns-in_default-clause-elsewhere : goal.returns-in_default-clause-elsewhere
returns-in_default-clause-elsewhere g c told = beside_none _ _ _ _
