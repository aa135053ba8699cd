use Rattle.std.proofs.Common.{List, sym, ap, ◌∙◌}
use Rattle.kt_history.specs.Replies.{shown}
use Rattle.kt_scan.specs.Encoded.{keys_of}
use Rattle.kt_judge.specs.declared.view.Table.{Table}
use Rattle.kt_judge.specs.Replied.{told_rows}
use Rattle.kt_judge.proofs.replies.scan_rows.Goals as goal

pub returns : goal.returns
returns c = λ rows shows.
    c.in_ok-rows.ensures
    ∙ ap (λ (tables : List Table). shown (keys_of c.args.script.now.schema) c.args.scan.now (told_rows tables c.args.t)) c.from_ref.ensures.value
    ∙ ap (shown (keys_of c.args.script.now.schema) c.args.scan.now) (c.table_law.ensures rows (shows.0, λ key. sym (shows.1 key)))
