use Rattle.std.proofs.Common.{arith, ◌-◌, take, drop, length}
use Rattle.kt_streams.proofs.StreamLaws.{appends_more, next_bytes}
use Rattle.kt_streams.proofs.streams.write_all.Goals as goal

pub loop-at-preserved : goal.loop-at-preserved
loop-at-preserved g c =
    let i = c.loop-at.invariant in
    let text = c.args.text.now in
    let at = c.loop-at.at in
    let n = c.in_ok-at.field-0 in (
      rw next_bytes (appends_more (g.K.Sink.written c.args.sink.now) (g.K.Sink.written c.loop-at.sink) (g.K.Sink.written c.put.new.self) (take at text) (take n (take (length text - at) (drop at text))) i.0 c.in_ok-at.ensures.bytes),
      omega (arith, c.in_ok-at.ensures.bound),
      omega (arith, i.2, c.in_ok-at.ensures.cause.later),
    )
