-- Worked histories, computed.
use Rattle.std.proofs.Common.{◌≡◌, ℕ, List, [], ◌∷◌, Some, None, refl, rules}
use Rattle.std.specs.Prelude.{pos}
use Rattle.kt_base.specs.declared.cell.Kind.TheVariants as kind
use Rattle.kt_base.specs.declared.cell.Cell.{Cell}
use Rattle.kt_base.specs.declared.cell.Cell.TheVariants as cell
use Rattle.kt_base.specs.Keys.{number_key}
use Rattle.std.specs.Int.{w64}
use Rattle.kt_history.specs.declared.change.Outcome.TheVariants.{Done, Present, Absent, Ignored}
use Rattle.kt_history.specs.declared.operation.OpKind.TheVariants.{Insert, Update, Delete, InsertIgnore, UpdateIgnore, DeleteIgnore}
use Rattle.kt_history.specs.declared.operation.OpKind.{OpKind}
use Rattle.kt_history.specs.declared.operation.RowOp.{RowOp}
use Rattle.kt_history.specs.declared.scan.At.TheVariants.{Looked, Given}
use Rattle.kt_history.specs.declared.command.Command.{Command}
use Rattle.kt_history.specs.declared.command.Command.TheVariants as command
use Rattle.kt_base.specs.declared.chore.Chore.TheVariants as chore
use Rattle.kt_history.specs.declared.event.Event.{Event}
use Rattle.kt_history.specs.declared.event.Event.TheVariants.{Begin, End, Look, Rows, Busy, Chore}
use Rattle.kt_history.specs.declared.reply.Reply.TheVariants as reply
use Rattle.kt_history.specs.History.{Past}
use Rattle.kt_history.specs.Machine.{Workload, IsRun}
use Rattle.kt_history.specs.Replies.{answer, past_after}

-- the table `id int64 key, v string`
abbrev over : List (List Command) → Workload
over plan = record { plan = plan; cells = 262144; keys = (1, kind.Int64) ∷ []; others = (2, kind.String) ∷ []; fill = (2, cell.Null) ∷ [] }

abbrev empty : Past
empty = record { mark = 0; base = []; writes = [] }

abbrev op : ℕ → List (ℕ × Cell) → RowOp
op id cells = record { kind = Insert; key = number_key w64 (pos id); cells = cells }

abbrev insert_a : Command
insert_a = command.Write (record { ops = op 1 ((2, cell.Bytes (97 ∷ [])) ∷ []) ∷ [] })

abbrev scan_now : Command
scan_now = command.Scan (record { at = Looked; columns = None; preds = [] })

abbrev work : Workload
work = over ((insert_a ∷ scan_now ∷ []) ∷ [])

abbrev lines : List Event
lines = Begin 1 1 4096 1 ∷ End 1 1 4096 ∷ Look 1 2 8192 2 ∷ Rows 1 2 8192 ∷ []

-- one insert, and one scan of the present
first_reply : answer work (past_after work empty 0 lines) lines 1 1 ≡ Some (reply.At 4096 (Done ∷ []))
first_reply = refl

second_reply : answer work (past_after work empty 0 lines) lines 1 2 ≡ Some (reply.Rows 8192 ((cell.Int (pos 1) ∷ cell.Bytes (97 ∷ []) ∷ []) ∷ []))
second_reply = refl

runs : IsRun work empty 0 lines
runs = search rules

-- the timestamp goes on by one where the clock goes back
abbrev insert_of : ℕ → ℕ → Command
insert_of id letter = command.Write (record { ops = op id ((2, cell.Bytes (letter ∷ [])) ∷ []) ∷ [] })

abbrev scan_at : ℕ → Command
scan_at t = command.Scan (record { at = Given t; columns = None; preds = [] })

abbrev op_with : ℕ → List (ℕ × Cell) → OpKind → RowOp
op_with id cells kind = record { kind = kind; key = number_key w64 (pos id); cells = cells }

abbrev work3 : Workload
work3 = over ((insert_of 1 97 ∷ insert_of 2 98 ∷ []) ∷ [])

runs3 : IsRun work3 empty 0 (Begin 1 1 20480 5 ∷ End 1 1 20480 ∷ Begin 1 2 20481 3 ∷ End 1 2 20481 ∷ [])
runs3 = search rules

-- a key that is there
abbrev lines4 : List Event
lines4 = Begin 1 1 4096 1 ∷ End 1 1 4096 ∷ Begin 1 2 8192 2 ∷ End 1 2 8192 ∷ []

abbrev work4 : Workload
work4 = over ((insert_of 1 97 ∷ insert_of 1 97 ∷ []) ∷ [])

runs4 : IsRun work4 empty 0 lines4
runs4 = search rules

reply4 : answer work4 (past_after work4 empty 0 lines4) lines4 1 2 ≡ Some (reply.At 8192 (Present ∷ []))
reply4 = refl

-- two operations in one write
abbrev work5 : Workload
work5 = over ((command.Write (record { ops = op 2 ((2, cell.Bytes (98 ∷ [])) ∷ []) ∷ op_with 9 ((2, cell.Bytes (120 ∷ [])) ∷ []) Update ∷ [] }) ∷ []) ∷ [])

abbrev lines5 : List Event
lines5 = Begin 1 1 4096 1 ∷ End 1 1 4096 ∷ []

runs5 : IsRun work5 empty 0 lines5
runs5 = search rules

reply5 : answer work5 (past_after work5 empty 0 lines5) lines5 1 1 ≡ Some (reply.At 4096 (Done ∷ Absent ∷ []))
reply5 = refl

-- deleted and inserted anew, read at three times
abbrev work8 : Workload
work8 = over ((insert_of 1 97 ∷ command.Chore chore.Flush ∷ command.Write (record { ops = op_with 1 [] Delete ∷ [] }) ∷ insert_of 1 98 ∷ command.Chore chore.Flush ∷ command.Chore chore.Compact ∷ scan_at 4096 ∷ scan_at 8192 ∷ scan_at 12288 ∷ []) ∷ [])

abbrev lines8 : List Event
lines8 = Begin 1 1 4096 1 ∷ End 1 1 4096 ∷ Chore 1 2 ∷ Begin 1 3 8192 2 ∷ End 1 3 8192 ∷ Begin 1 4 12288 3 ∷ End 1 4 12288 ∷ Chore 1 5 ∷ Chore 1 6 ∷ Rows 1 7 4096 ∷ Rows 1 8 8192 ∷ Rows 1 9 12288 ∷ []

runs8 : IsRun work8 empty 0 lines8
runs8 = search rules

at_4096 : answer work8 (past_after work8 empty 0 lines8) lines8 1 7 ≡ Some (reply.Rows 4096 ((cell.Int (pos 1) ∷ cell.Bytes (97 ∷ []) ∷ []) ∷ []))
at_4096 = refl

at_8192 : answer work8 (past_after work8 empty 0 lines8) lines8 1 8 ≡ Some (reply.Rows 8192 [])
at_8192 = refl

at_12288 : answer work8 (past_after work8 empty 0 lines8) lines8 1 9 ≡ Some (reply.Rows 12288 ((cell.Int (pos 1) ∷ cell.Bytes (98 ∷ []) ∷ []) ∷ []))
at_12288 = refl

-- a scan at the timestamp of a write that flies
abbrev work10 : Workload
work10 = over ((insert_of 1 97 ∷ []) ∷ (scan_at 4096 ∷ scan_at 4095 ∷ []) ∷ [])

runs10 : IsRun work10 empty 0 (Begin 1 1 4096 1 ∷ Busy 2 1 4096 4096 ∷ Rows 2 2 4095 ∷ End 1 1 4096 ∷ [])
runs10 = search rules

-- one key from two sessions, one after another
abbrev work26 : Workload
work26 = over ((insert_of 1 97 ∷ []) ∷ (insert_of 1 97 ∷ []) ∷ [])

abbrev lines26 : List Event
lines26 = Begin 2 1 4096 1 ∷ End 2 1 4096 ∷ Begin 1 1 8192 2 ∷ End 1 1 8192 ∷ []

runs26 : IsRun work26 empty 0 lines26
runs26 = search rules

reply26 : answer work26 (past_after work26 empty 0 lines26) lines26 1 1 ≡ Some (reply.At 8192 (Present ∷ []))
reply26 = refl

-- but not at once
at_once : IsRun work26 empty 0 (Begin 2 1 4096 1 ∷ Begin 1 1 8192 2 ∷ End 2 1 4096 ∷ End 1 1 8192 ∷ []) → ⊥
at_once r = let e = r.1.0.2.apart in cc

-- what changes nothing is ignored, and the rest of the write is done
abbrev work_ignoring : Workload
work_ignoring = over ((insert_of 1 97 ∷ command.Write (record { ops = op_with 1 ((2, cell.Bytes (98 ∷ [])) ∷ []) InsertIgnore ∷ op_with 2 ((2, cell.Bytes (99 ∷ [])) ∷ []) InsertIgnore ∷ [] }) ∷ command.Write (record { ops = op_with 9 ((2, cell.Bytes (120 ∷ [])) ∷ []) UpdateIgnore ∷ op_with 2 [] DeleteIgnore ∷ [] }) ∷ scan_now ∷ []) ∷ [])

abbrev lines_ignoring : List Event
lines_ignoring = Begin 1 1 4096 1 ∷ End 1 1 4096 ∷ Begin 1 2 8192 2 ∷ End 1 2 8192 ∷ Begin 1 3 12288 3 ∷ End 1 3 12288 ∷ Look 1 4 16384 4 ∷ Rows 1 4 16384 ∷ []

runs_ignoring : IsRun work_ignoring empty 0 lines_ignoring
runs_ignoring = search rules

present_is_ignored : answer work_ignoring (past_after work_ignoring empty 0 lines_ignoring) lines_ignoring 1 2 ≡ Some (reply.At 8192 (Ignored ∷ Done ∷ []))
present_is_ignored = refl

absent_is_ignored : answer work_ignoring (past_after work_ignoring empty 0 lines_ignoring) lines_ignoring 1 3 ≡ Some (reply.At 12288 (Ignored ∷ Done ∷ []))
absent_is_ignored = refl

first_row_stays : answer work_ignoring (past_after work_ignoring empty 0 lines_ignoring) lines_ignoring 1 4 ≡ Some (reply.Rows 16384 ((cell.Int (pos 1) ∷ cell.Bytes (97 ∷ []) ∷ []) ∷ []))
first_row_stays = refl
