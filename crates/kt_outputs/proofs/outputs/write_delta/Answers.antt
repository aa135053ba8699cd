use Rattle.std.proofs.Common.{◌≡◌, ◌∙◌, ap, arith}
use Rattle.kt_deltafile.specs.declared.file.Way.{Way}
use Rattle.kt_deltafile.specs.File.{FileView}
use Rattle.kt_deltafile.specs.Spelling.{spelling}
use Rattle.kt_diskrowset.specs.declared.files.FileHeld.{FileHeld}
use Rattle.kt_outputs.proofs.Written.{left_none, deltas_hold}
use Rattle.kt_outputs.proofs.outputs.write_delta.Goals as goal

pub returns-in_err-bytes-clause-left : goal.returns-in_err-bytes-clause-left
returns-in_err-bytes-clause-left g c told = left_none g.D.Disk.seen g.D.Disk.now g.D.Disk.leaves c.args.next.now c.args.disk.now

pub returns-in_err-held-clause-left : goal.returns-in_err-held-clause-left
returns-in_err-held-clause-left g c told = left_none g.D.Disk.seen g.D.Disk.now g.D.Disk.leaves c.args.next.now c.args.disk.now

pub returns-clause-holds : goal.returns-clause-holds
returns-clause-holds g c told way rows of files there =
    let given = c.in_ok-len.ensures.given in
    let way_is = c.way.ensures ∙ ap (λ (v : FileView). v.way) c.deref-2.ensures in
    let list_is = c.list.ensures.list ∙ ap (λ (v : FileView). v.list) c.deref.ensures in
    let spelled : c.as_slice.result.now ≡ spelling c.args.delta.now.deltas.value.way c.args.delta.now.deltas.value.list =
    c.as_slice.ensures ∙ c.in_ok-bytes.ensures ∙ ap (λ (w : Way). spelling w c.list.result.now) way_is ∙ ap (spelling c.args.delta.now.deltas.value.way) list_is in
    let held : FileHeld = record { file = c.args.next.now; len = c.in_ok-len.len; deltas = c.in_ok-held.held.deltas } in
    deltas_hold files way rows held c.args.delta.now c.as_slice.result.now c.in_ok-held.ensures.2 of spelled
    (there c.args.next.now (omega arith) (omega arith) ∙ c.in_ok-len.ensures.written told) c.in_ok-len.ensures.len
