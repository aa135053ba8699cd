use Rattle.std.proofs.Common.{◌≡◌, length, get_or, ◌∙◌, arith, ap}
use Rattle.std.proofs.lemmas.List.{get_or_read}
use Rattle.kt_bytes.specs.Cuts.{start_at}
use Rattle.kt_bytes.proofs.Cuts.{count_is, item_is, cut_start, cut_end}
use Rattle.kt_bytes.proofs.texts.Texts.get.Goals as goal

pub start_at-start-requires : goal.start_at-start-requires
start_at-start-requires c = omega (arith, count_is c.self.inside.ends.items c.self.inside.bytes.items c.args.self.now c.self.view_is)

pub index-end-requires : goal.index-end-requires
index-end-requires c = omega (arith, count_is c.self.inside.ends.items c.self.inside.bytes.items c.args.self.now c.self.view_is)

pub part-requires-clause-in_order : goal.part-requires-clause-in_order
part-requires-clause-in_order c =
    let n = count_is c.self.inside.ends.items c.self.inside.bytes.items c.args.self.now c.self.view_is in
    let stop : c.index-end.result.now ≡ get_or c.self.inside.ends.items c.args.i 0 = get_or_read c.self.inside.ends.items c.args.i c.index-end.result.now (omega arith) c.index-end.ensures 0 in
    let start : c.start_at-start.result ≡ start_at 0 c.self.inside.ends.items c.args.i = c.start_at-start.ensures ∙ ap (λ xs. start_at 0 xs c.args.i) c.deref.ensures.value in
    omega (arith, cut_start 0 c.self.inside.ends.items (length c.self.inside.bytes.items) c.args.i c.self.invariant (omega arith))

pub part-requires-clause-inside : goal.part-requires-clause-inside
part-requires-clause-inside c =
    let n = count_is c.self.inside.ends.items c.self.inside.bytes.items c.args.self.now c.self.view_is in
    let stop : c.index-end.result.now ≡ get_or c.self.inside.ends.items c.args.i 0 = get_or_read c.self.inside.ends.items c.args.i c.index-end.result.now (omega arith) c.index-end.ensures 0 in
    omega (arith, cut_end 0 c.self.inside.ends.items (length c.self.inside.bytes.items) c.args.i c.self.invariant (omega arith))

pub returns : goal.returns
returns c =
    let n = count_is c.self.inside.ends.items c.self.inside.bytes.items c.args.self.now c.self.view_is in
    let stop : c.index-end.result.now ≡ get_or c.self.inside.ends.items c.args.i 0 = get_or_read c.self.inside.ends.items c.args.i c.index-end.result.now (omega arith) c.index-end.ensures 0 in
    let start : c.start_at-start.result ≡ start_at 0 c.self.inside.ends.items c.args.i = c.start_at-start.ensures ∙ ap (λ xs. start_at 0 xs c.args.i) c.deref.ensures.value in
    rw (c.part.ensures, stop, start, c.deref-2.ensures.value) (item_is c.self.inside.ends.items c.self.inside.bytes.items c.args.self.now c.args.i c.self.view_is c.requires)
