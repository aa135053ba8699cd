use Rattle.std.proofs.Common.{◌≡◌, take, map, sym, ap, ◌∙◌}
use Rattle.std.proofs.lemmas.List.{take-map}
use Rattle.std.proofs.lemmas.Result.{IfOk-weaker}
use Rattle.kt_disk.specs.Noted.{event_in}
use Rattle.kt_disk.proofs.calls.CallList.events.Goals as goal

pub returns : goal.returns
returns c =
    let same : map (event_in c.deref.result.now) (take c.args.n c.deref-2.result.now) ≡ take c.args.n c.args.self.now = rw (c.deref.ensures.value, c.deref-2.ensures.value) (sym (take-map (event_in c.self.inside.bytes.items) c.args.n c.self.inside.calls.items) ∙ ap (take c.args.n) c.self.view_is) in
    IfOk-weaker c.events_of.result _ _ (λ events is. is ∙ same) c.events_of.ensures
