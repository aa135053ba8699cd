use Rattle.std.proofs.Common.{◌++◌, refl, arith}
use Rattle.std.specs.Prelude.{codes}
use Rattle.std.specs.List.{flat_map}
use Rattle.kt_script.specs.declared.reread.CodecNo.TheVariants as no
use Rattle.kt_script.specs.Texts.{line, told_sessions, event_line, last_text}
use Rattle.kt_script.specs.Stages.{sessions, history, ended}
use Rattle.kt_script.proofs.Moves.{then, behind_end}
use Rattle.kt_script.proofs.Rereads.{ending_err, place_told, no_output}
use Rattle.kt_script.proofs.reread.read_output.Goals as goal

pub returns-in-Err-clause-place : goal.returns-in-Err-clause-place
returns-in-Err-clause-place c = place_told c.args.text.now c.in-Err.no c.in-Err.ensures

pub returns-in-Err-clause-none : goal.returns-in-Err-clause-none
returns-in-Err-clause-none c = no_output c.args.text.now c.in-Err.no c.in-Err.ensures

pub returns-in-Err-read_ending-clause-place : goal.returns-in-Err-read_ending-clause-place
returns-in-Err-read_ending-clause-place c =
    place_told c.args.text.now c.in-Err-read_ending.no
    (ending_err c.args.text.now c.in-Ok.read.at (told_sessions 1 c.in-Ok.read.sessions.items ++ line (codes "history")) c.in-Ok.ensures.0 c.in-Err-read_ending.no c.in-Err-read_ending.ensures)

pub returns-in-Err-read_ending-clause-none : goal.returns-in-Err-read_ending-clause-none
returns-in-Err-read_ending-clause-none c =
    no_output c.args.text.now c.in-Err-read_ending.no
    (ending_err c.args.text.now c.in-Ok.read.at (told_sessions 1 c.in-Ok.read.sessions.items ++ line (codes "history")) c.in-Ok.ensures.0 c.in-Err-read_ending.no c.in-Err-read_ending.ensures)

pub returns-then-behind-text-clause-place : goal.returns-then-behind-text-clause-place
returns-then-behind-text-clause-place c =
    let front = told_sessions 1 c.in-Ok.read.sessions.items ++ line (codes "history") in
    let behind = flat_map event_line c.in-Ok-read_ending.read.events.items ++ last_text c.in-Ok-read_ending.read.last in
    let moves = then c.args.text.now (sessions 0 0) history 0 c.in-Ok.read.at front c.in-Ok.ensures.0 ended c.in-Ok-read_ending.read.at behind c.in-Ok-read_ending.ensures.0 in
    rw c.fault.ensures (place_told c.args.text.now (no.Place c.in-Ok-read_ending.read.at) (behind_end c.args.text.now (sessions 0 0) ended 0 c.in-Ok-read_ending.read.at (front ++ behind) moves refl (omega arith)))

pub returns-then-behind-text-clause-none : goal.returns-then-behind-text-clause-none
returns-then-behind-text-clause-none c =
    let front = told_sessions 1 c.in-Ok.read.sessions.items ++ line (codes "history") in
    let behind = flat_map event_line c.in-Ok-read_ending.read.events.items ++ last_text c.in-Ok-read_ending.read.last in
    let moves = then c.args.text.now (sessions 0 0) history 0 c.in-Ok.read.at front c.in-Ok.ensures.0 ended c.in-Ok-read_ending.read.at behind c.in-Ok-read_ending.ensures.0 in
    rw c.fault.ensures (no_output c.args.text.now (no.Place c.in-Ok-read_ending.read.at) (behind_end c.args.text.now (sessions 0 0) ended 0 c.in-Ok-read_ending.read.at (front ++ behind) moves refl (omega arith)))
