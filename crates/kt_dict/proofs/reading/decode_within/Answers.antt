use Rattle.std.proofs.Common.{◌≡◌, ◌-◌, ◌∙◌, length, subst, arith, Err}
use Rattle.kt_bytes.specs.Places.{IsFault}
use Rattle.kt_bytes.proofs.Numbers.{IsBytes}
use Rattle.kt_dict.specs.Spelling.{SpelledWithin}
use Rattle.kt_dict.specs.Walk.{block_at}
use Rattle.kt_dict.proofs.Fresh.{Limit}
use Rattle.kt_dict.proofs.Blocks.{block_takes, held}
use Rattle.kt_dict.proofs.Faults.{block_fault, no_fault, read_items}
use Rattle.kt_dict.proofs.reading.decode_within.Goals as goal

pub of-requires : goal.of-requires
of-requires c =
    let fits : IsBytes c.args.bytes.now = λ i. omega (arith, c.type_inv.bytes i) in
    let limit : Limit c.args.most = record { two = c.requires; room = omega arith } in
    held c.args.most c.args.n c.args.bytes.now c.in-Ok.parts.entries c.in-Ok.parts.codes.items (omega arith) (omega arith) (block_takes c.args.most c.args.n c.args.bytes.now (c.in-Ok.parts.entries, c.in-Ok.parts.codes.items) limit fits c.in-Ok.ensures)

pub returns-in-Ok-clause-found : goal.returns-in-Ok-clause-found
returns-in-Ok-clause-found c =
    let fits : IsBytes c.args.bytes.now = λ i. omega (arith, c.type_inv.bytes i) in
    let limit : Limit c.args.most = record { two = c.requires; room = omega arith } in
    rw c.of.ensures (block_takes c.args.most c.args.n c.args.bytes.now (c.in-Ok.parts.entries, c.in-Ok.parts.codes.items) limit fits c.in-Ok.ensures).spells

pub returns-in-Ok-clause-only : goal.returns-in-Ok-clause-only
returns-in-Ok-clause-only c = λ items s.
    let fits : IsBytes c.args.bytes.now = λ i. omega (arith, c.type_inv.bytes i) in
    let limit : Limit c.args.most = record { two = c.requires; room = omega arith } in
    c.of.ensures ∙ read_items c.args.most c.args.bytes.now c.args.n items (c.in-Ok.parts.entries, c.in-Ok.parts.codes.items) (omega arith) fits s c.in-Ok.ensures

pub returns-in-Err-Left-clause-only : goal.returns-in-Err-Left-clause-only
returns-in-Err-Left-clause-only c = λ items s.
    let fits : IsBytes c.args.bytes.now = λ i. omega (arith, c.type_inv.bytes i) in
    let limit : Limit c.args.most = record { two = c.requires; room = omega arith } in
    no_fault c.args.most c.args.bytes.now c.args.n items c.in-Err-Left.left (omega arith) fits s (rw c.in-Err-Left.field-0-is at c.in-Err-Left.ensures)

pub returns-in-Err-Left-clause-place : goal.returns-in-Err-Left-clause-place
returns-in-Err-Left-clause-place c =
    let fits : IsBytes c.args.bytes.now = λ i. omega (arith, c.type_inv.bytes i) in
    let limit : Limit c.args.most = record { two = c.requires; room = omega arith } in
    let read : block_at c.args.most c.args.n c.args.bytes.now ≡ Err c.in-Err-Left.left = rw c.in-Err-Left.field-0-is at c.in-Err-Left.ensures in
    let at : length c.args.bytes.now - c.in-Err-Left.left ≡ c.saturating_sub.result = omega arith in
    subst (IsFault (SpelledWithin c.args.most c.args.n) c.args.bytes.now) at (block_fault c.args.most c.args.n c.args.bytes.now c.in-Err-Left.left limit fits read)
