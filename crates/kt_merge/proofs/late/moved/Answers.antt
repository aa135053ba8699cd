use Rattle.std.proofs.Common.{◌≡◌, ◌≤◌, ◌<◌, ◌++◌, List, length, get_or, Option, Vec, Global, sym, ap, ◌∙◌, arith}
use Rattle.std.specs.List.{flat_map}
use Rattle.std.specs.Option.{option_to_list}
use Rattle.std.proofs.lemmas.List.{append-nil, take_all}
use Rattle.kt_history.specs.declared.changes.Delta.{Delta}
use Rattle.kt_diskrowset.specs.Rows.{rows_of}
use Rattle.kt_merge.specs.Late.{moved_of}
use Rattle.kt_merge.proofs.LateMoved.{moved_more}
use Rattle.kt_merge.proofs.late.moved.Goals as goal
use Rattle.kt_merge.proofs.late.moved.Goals.{in-Some+in_ok-push, in_default}

pub records-preserved : goal.records-preserved
records-preserved c =
    let fresh : List Delta = c.args.input.now.fresh in
    let k = c.records.record-index in
    let x = c.record-item.result in
    let lt : k < length fresh = omega (arith, c.records-test.true, ap (λ (l : List Delta). length l) c.as_slice-record-items.ensures) in
    let is : x ≡ get_or fresh k x = c.record-item.is ∙ ap (λ (l : List Delta). get_or l k x) c.as_slice-record-items.ensures in
    let behind = λ (o : Option Delta). c.records.list.items ++ option_to_list o in
    let added : c.match-branch-2.list.items ≡ behind c.in_ok-moved.field-0 = elim c.match-branch-2.branch [
      | in-Some+in_ok-push w ↦ ap (λ (v : Vec Delta Global). v.items) w.list-is ∙ w.in_ok-push.ensures.items ∙ sym (ap behind w.in-Some.is)
      | in_default w ↦ ap (λ (v : Vec Delta Global). v.items) w.list-is ∙ sym (ap behind w.in_default.is ∙ append-nil c.records.list.items)
    ] in
    moved_more (moved_of c.args.bound c.args.input.now.base.set.value.rows (rows_of c.args.output.now.set.value.rows)) fresh k x c.records.list.items c.match-branch-2.list.items c.in_ok-moved.field-0 lt is c.in_ok-moved.ensures added c.records.invariant

pub returns : goal.returns
returns c =
    let fresh : List Delta = c.args.input.now.fresh in
    let past : length fresh ≤ c.records.record-index = omega (arith, c.records-test.false, ap (λ (l : List Delta). length l) c.as_slice-record-items.ensures) in
    c.records.invariant ∙ ap (flat_map (moved_of c.args.bound c.args.input.now.base.set.value.rows (rows_of c.args.output.now.set.value.rows))) (take_all c.records.record-index fresh past)
