use Rattle.std.proofs.Common.{subst, map}
use Rattle.std.specs.List.{All}
use Rattle.std.specs.Vec.Iter.{into_iter_items}
use Rattle.std.proofs.lemmas.List.Elements.{All-tail}
use Rattle.kt_script.specs.Drafts.{command_in, IsInside}
use Rattle.kt_script.proofs.Drafts.{moved_over}
use Rattle.kt_script.proofs.draft.commands_of.Goals as goal

pub entries-preserved : goal.entries-preserved
entries-preserved c = record {
  done = moved_over c.args.ops.now c.entries.commands.items c.push.new.self.items (map (command_in c.args.ops.now) c.args.entries.items) c.in-Some.entry (into_iter_items c.entries.left) (into_iter_items c.next.new.self) c.in_ok-command_of.field-0
      c.in-Some.ensures.items c.in_ok-command_of.ensures c.in_ok-push.ensures.items c.entries.invariant.done;
  inside = All-tail (IsInside c.args.ops.now) c.in-Some.entry (into_iter_items c.next.new.self) (subst (All (IsInside c.args.ops.now)) c.in-Some.ensures.items c.entries.invariant.inside);
}
