use Rattle.std.proofs.Common.{◌≡◌, ℕ, List, [], true}
use Rattle.std.specs.Prelude.{if◌then◌else◌}
use Rattle.std.specs.Ordering.{eq_by_cmp}
use Rattle.std.specs.FinMap.Entries.{find}
use Rattle.kt_history.specs.Rows.{Rows, apply, set_row, key_cmp}
use Rattle.kt_opening.specs.Live.{has, IsLive}
use Rattle.kt_opening.proofs.LiveLaws.{live_inserted, live_updated, live_deleted, on_ok}
use Rattle.kt_opening.proofs.live.Live.apply.Goals as goal

pub returns-in-Ins : goal.returns-in-Ins
returns-in-Ins c =
    on_ok c.add.result ((other : List ℕ) → has c.add.new.self other ≡ (if eq_by_cmp key_cmp other c.args.key.now then true else has c.args.self.now other))
    ((rows : Rows) → IsLive c.args.self.now rows → IsLive c.add.new.self (set_row c.args.key.now (apply c.args.change.now (find key_cmp c.args.key.now rows)) rows))
    (λ h rows live. live_inserted c.args.key.now c.in-Ins.field-0 c.args.change.now rows c.args.self.now c.add.new.self c.in-Ins.is h live) c.add.ensures

pub returns-in-Upd : goal.returns-in-Upd
returns-in-Upd c = λ rows live. live_updated c.args.key.now c.in-Upd.field-0 c.args.change.now rows c.args.self.now c.in-Upd.is live

pub returns-in-Del : goal.returns-in-Del
returns-in-Del c = λ rows live. live_deleted c.args.key.now [] c.args.change.now rows c.args.self.now c.remove.new.self c.in-Del.is c.remove.ensures live
