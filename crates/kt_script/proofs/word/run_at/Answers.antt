use Rattle.std.proofs.lemmas.Simd.{run_in_chunk_le, run_in_chunk_fails}
use Rattle.memchr.specs.Find.{is_byte2}
use Rattle.kt_script.proofs.Lanes.{mask_is, none_set, lowest_set}
use Rattle.kt_script.proofs.word.run_at.Goals as goal

pub returns-then-marks-eq0-clause-none : goal.returns-then-marks-eq0-clause-none
returns-then-marks-eq0-clause-none c = none_set c.args.first c.args.second c.args.text.now c.args.at _ c.requires (mask_is c.args.first c.args.second c.args.text.now c.args.at c.requires) c.if-marks-eq0.true

pub returns-else-marks-eq0-clause-within : goal.returns-else-marks-eq0-clause-within
returns-else-marks-eq0-clause-within c =
    run_in_chunk_le (is_byte2 c.args.first c.args.second) c.args.text.now c.args.at 16 _ 0 c.requires (lowest_set c.args.first c.args.second c.args.text.now c.args.at _ c.requires (mask_is c.args.first c.args.second c.args.text.now c.args.at c.requires) c.if-marks-eq0.false)

pub returns-else-marks-eq0-clause-none : goal.returns-else-marks-eq0-clause-none
returns-else-marks-eq0-clause-none c =
    run_in_chunk_fails (is_byte2 c.args.first c.args.second) c.args.text.now c.args.at 16 _ 0 c.requires (lowest_set c.args.first c.args.second c.args.text.now c.args.at _ c.requires (mask_is c.args.first c.args.second c.args.text.now c.args.at c.requires) c.if-marks-eq0.false)
