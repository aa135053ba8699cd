use Rattle.std.proofs.Common.{◌≡◌, Some, None, refl, sym, ◌∙◌}
use Rattle.std.specs.List.{flat_map}
use Rattle.kt_script.specs.Texts.{event_line}
use Rattle.kt_script.specs.Stages.{history}
use Rattle.kt_script.proofs.Moves.{rest_refused}
use Rattle.kt_script.specs.Outputs.{event_in, last_in, EventHolds}
use Rattle.kt_script.proofs.ToldLines.{event_is, last_is}
use Rattle.kt_script.proofs.Rereads.{event_more, last_more, ending_refused, all_more}
use Rattle.kt_script.proofs.reread.read_ending.Goals as goal

pub lines-preserved : goal.lines-preserved
lines-preserved c =
    let l = c.in-Some.line.now in
    let e = c.in-Some-2.event in
    let is : event_in l ≡ Some e = sym c.in_ok-event.ensures ∙ c.in-Some-2.is in
    record {
      moves = event_more c.args.text.now c.args.start c.lines.at c.lines.events.items c.lines.invariant.moves l c.in-Some.ensures e c.push.new.list.items is c.in_ok-push-in-Some-2.ensures;
      events = all_more EventHolds c.lines.events.items e c.push.new.list.items c.in_ok-push-in-Some-2.ensures c.lines.invariant.events (event_is l e is).1;
    }

pub returns-in-Some-last_of : goal.returns-in-Some-last_of
returns-in-Some-last_of c =
    let l = c.in-Some.line.now in
    let none : event_in l ≡ None = sym c.in_ok-event.ensures ∙ c.in-None.is in
    let is : last_in l ≡ Some c.in-Some-last_of.last = sym c.in-Some-last_of.ensures in
    (last_more c.args.text.now c.args.start c.lines.at c.lines.events.items c.lines.invariant.moves l c.in-Some.ensures c.in-Some-last_of.last none is, c.lines.invariant.events, (last_is l c.in-Some-last_of.last is).1)

pub returns-in-None-last_of : goal.returns-in-None-last_of
returns-in-None-last_of c =
    let l = c.in-Some.line.now in
    let none : event_in l ≡ None = sym c.in_ok-event.ensures ∙ c.in-None.is in
    rw c.fault.ensures (ending_refused c.args.text.now c.args.start c.lines.at c.lines.events.items c.lines.invariant.moves l c.in-Some.ensures c.history_front.result none (sym c.in-None-last_of.ensures) c.history_front.ensures)

pub returns : goal.returns
returns c =
    rw c.fault-2.ensures (rest_refused c.args.text.now history history c.args.start c.lines.at (flat_map event_line c.lines.events.items) c.lines.invariant.moves c.split_at.result.1.now c.history_front-2.result c.split_at.ensures.back c.in_default.ensures (λ rest. refl) c.history_front-2.ensures)
