use Rattle.std.proofs.Common.{◌≡◌, ◌++◌, drop, map}
use Rattle.std.specs.Prelude.{All}
use Rattle.std.specs.Vec.Iter.{into_iter_items}
use Rattle.kt_script.specs.Laws.{ReplyFits}
use Rattle.kt_script.specs.Texts.{told_session, seen}
use Rattle.kt_app.specs.Session.{on_table}
use Rattle.kt_app.proofs.Texts.{zipped, told}
use Rattle.kt_app.proofs.text.put_session.Given as goal

abbrev pub invariant-loop-command : goal.invariant-loop-command
invariant-loop-command l = record {
  text : l.out ++ told (on_table l.schema) (drop l.command-index l.commands) (into_iter_items l.rest) ≡ l.fn.out ++ told_session l.number (map seen (zipped (on_table l.schema) l.commands l.fn.replies));
  fit : All ReplyFits (zipped (on_table l.schema) (drop l.command-index l.commands) (into_iter_items l.rest)) → All ReplyFits (zipped (on_table l.schema) l.commands l.fn.replies);
}
