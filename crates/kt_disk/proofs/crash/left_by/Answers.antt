use Rattle.std.proofs.Common.{◌<◌, length, arith, ◌∙◌}
use Rattle.std.specs.Ordering.{nat_cmp}
use Rattle.std.specs.BTreeMap as tree
use Rattle.kt_disk.specs.Memory.{listed}
use Rattle.kt_disk.proofs.LeftLoop.{next_flag, next_file}
use Rattle.kt_disk.proofs.crash.left_by.Goals as goal

pub loop-event-preserved : goal.loop-event-preserved
loop-event-preserved c =
    let calls = c.args.calls.now in
    let i = c.loop-event.event-index in
    let event = c.event-item.result in
    let within : i < length calls = omega arith in
    let held = c.loop-event.synced in
    let flag = next_flag calls i event within c.event-item.is held.items c.pop.new.self.items c.pop.result held.len c.loop-event.invariant.synced held.ok.0 (c.pop.ensures.value _) c.pop.ensures.rest in
    record {
      synced = flag.0;
      files = λ n. next_file calls i event within c.event-item.is n (listed c.args.start.now n) (tree.get nat_cmp c.loop-event.files n) (tree.get nat_cmp c.leave_or_make.new.files n) c.unwrap_or-is_synced.result (c.unwrap_or-is_synced.ensures ∙ flag.1) (c.loop-event.invariant.files n) (c.in_ok-leave_or_make.ensures n);
    }
