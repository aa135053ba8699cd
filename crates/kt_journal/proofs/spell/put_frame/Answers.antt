use Rattle.std.proofs.Common.{◌≡◌, List, ℕ, [], ◌∷◌, ◌++◌, length, ap, arith, length-append}
use Rattle.std.specs.Prelude.{◌-◌}
use Rattle.kt_records.specs.Spelling.{spelling}
use Rattle.kt_journal.proofs.Batch.{framed}
use Rattle.kt_journal.proofs.spell.put_frame.Goals as goal

pub returns-clause-ok : goal.returns-clause-ok
returns-clause-ok c =
    let old : List ℕ = c.args.out.now.added in
    let payload : List ℕ = spelling c.args.entry.now in
    let spelled : c.put_entry_behind.new.out.added ≡ old ++ 1 ∷ 0 ∷ 0 ∷ 0 ∷ 0 ∷ payload = c.in_ok-put_entry_behind.ensures.ok in
    let len_is : c.len.result - c.len-gate.result - 5 ≡ length payload = omega (arith, c.len.ensures, c.len-gate.ensures, ap length spelled, length-append old (1 ∷ 0 ∷ 0 ∷ 0 ∷ 0 ∷ payload)) in
    framed old payload c.put_entry_behind.new.out.added c.set_length.new.out.added c.len-gate.result (c.len.result - c.len-gate.result - 5) c.len-gate.ensures spelled len_is c.set_length.ensures.added
