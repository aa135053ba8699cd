use Rattle.std.proofs.Common.{◌≡◌, ◌++◌, ◌∷◌, [], length, refl, ap, ◌∙◌, arith}
use Rattle.kt_disk.specs.declared.calls.Call.{Call}
use Rattle.kt_disk.specs.declared.calls.Deed.TheVariants as deed
use Rattle.kt_disk.proofs.Noted.{all_written, events_written}
use Rattle.kt_disk.proofs.calls.CallList.push_write.Goals as goal

pub invariant_of-self-2 : goal.invariant_of-self-2
invariant_of-self-2 c =
    let from : c.len-from.result ≡ length c.self.inside.bytes.items = omega arith in
    let call : Call = record { file = c.args.file; deed = deed.Write c.args.at c.len-from.result (length c.args.bytes.now) } in
    all_written c.self.inside.bytes.items c.args.bytes.now c.extend_from_slice.new.self.items c.args.file c.args.at c.len-from.result (length c.args.bytes.now) from refl c.in_ok-extend_from_slice.ensures.items c.self.inside.calls.items c.push_reserved.new.self.items
    (c.push_reserved.ensures.items ∙ ap (λ xs. xs ++ call ∷ []) c.reserve.ensures.items) c.self.invariant

pub returns-clause-ok : goal.returns-clause-ok
returns-clause-ok c =
    let from : c.len-from.result ≡ length c.self.inside.bytes.items = omega arith in
    let call : Call = record { file = c.args.file; deed = deed.Write c.args.at c.len-from.result (length c.args.bytes.now) } in
    events_written c.self.inside.bytes.items c.args.bytes.now c.extend_from_slice.new.self.items c.args.file c.args.at c.len-from.result (length c.args.bytes.now) from refl c.in_ok-extend_from_slice.ensures.items c.self.inside.calls.items c.push_reserved.new.self.items c.args.self.now c.self.view_is
    (c.push_reserved.ensures.items ∙ ap (λ xs. xs ++ call ∷ []) c.reserve.ensures.items) c.self.invariant
