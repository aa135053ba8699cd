use Rattle.std.proofs.Common.{◌≡◌, ◌++◌, ◌+◌, drop}
use Rattle.std.specs.Prelude.{All}
use Rattle.std.specs.Vec.Iter.{into_iter_items}
use Rattle.kt_script.specs.Laws.{ReplyFits}
use Rattle.kt_app.specs.Session.{on_table}
use Rattle.kt_app.proofs.Texts.{zipped_all, told_all}
use Rattle.kt_app.proofs.text.put_sessions.Given as goal

abbrev pub invariant-loop-at : goal.invariant-loop-at
invariant-loop-at l = record {
  text : l.out ++ told_all (l.at + 1) (on_table l.schema) (drop l.at l.plan) (into_iter_items l.rest) ≡ l.fn.out ++ told_all 1 (on_table l.schema) l.plan l.fn.replies.items;
  fit : All (All ReplyFits) (zipped_all (on_table l.schema) (drop l.at l.plan) (into_iter_items l.rest)) → All (All ReplyFits) (zipped_all (on_table l.schema) l.plan l.fn.replies.items);
}
