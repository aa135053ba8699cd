use Rattle.std.proofs.Common.{◌≡◌, ◌≤◌, ◌<◌, ◌++◌, List, length, get_or, Option, Vec, Global, sym, ap, ◌∙◌, arith}
use Rattle.std.specs.List.{flat_map}
use Rattle.std.specs.Option.{option_to_list}
use Rattle.std.proofs.lemmas.List.{append-nil, get_or_default, take_all}
use Rattle.kt_history.specs.declared.changes.Delta.{Delta}
use Rattle.kt_history.specs.declared.changes.KeyChange.{KeyChange}
use Rattle.kt_diskrowset.specs.Rows.{rows_of}
use Rattle.kt_merge.specs.Late.{placed_of}
use Rattle.kt_merge.proofs.KeyChanges.{got, some_change}
use Rattle.kt_merge.proofs.LateMoved.{moved_more}
use Rattle.kt_merge.proofs.placing.all_placed.Goals as goal
use Rattle.kt_merge.proofs.placing.all_placed.Goals.{in-Some+in_ok-push, in_default}

pub changes-preserved : goal.changes-preserved
changes-preserved c =
    let cs : List KeyChange = c.args.changes.now in
    let k = c.changes.at in
    let low : k < length cs = omega (arith, c.changes-test.true, c.len-at-end.ensures) in
    let x : KeyChange = get_or cs k some_change in
    let behind = λ (o : Option Delta). c.changes.list.items ++ option_to_list o in
    let added : c.match-branch-2.list.items ≡ behind c.in_ok-record.field-0 = elim c.match-branch-2.branch [
      | in-Some+in_ok-push w ↦ ap (λ (v : Vec Delta Global). v.items) w.list-is ∙ w.in_ok-push.ensures.items ∙ sym (ap behind w.in-Some.is)
      | in_default w ↦ ap (λ (v : Vec Delta Global). v.items) w.list-is ∙ sym (ap behind w.in_default.is ∙ append-nil c.changes.list.items)
    ] in
    moved_more (placed_of c.args.bound (rows_of c.args.output.now.set.value.rows)) cs k x c.changes.list.items c.match-branch-2.list.items c.in_ok-record.field-0 low (get_or_default cs k some_change x low)
    (c.in_ok-record.ensures x (got cs k some_change low)) added c.changes.invariant

pub returns : goal.returns
returns c =
    let cs : List KeyChange = c.args.changes.now in
    let past : length cs ≤ c.changes.at = omega (arith, c.changes-test.false, c.len-at-end.ensures) in
    c.changes.invariant ∙ ap (flat_map (placed_of c.args.bound (rows_of c.args.output.now.set.value.rows))) (take_all c.changes.at cs past)
