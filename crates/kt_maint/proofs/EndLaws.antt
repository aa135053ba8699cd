-- What the laws of the crates below tell to the last visit of a job that was outside.
use Rattle.kt_joblaws.specs.Beside.{alike_beside, alike_in_turn, sound_beside, numbers_differ_beside, passing_beside, each_part_is_apart, each_part_passes}
use Rattle.kt_joblaws.specs.DeltaJobs.{a_rowset_of_passing_histories_passes, histories_of_passing_rowsets_pass}
use Rattle.kt_joblaws.specs.Late.{a_late_output_passes, late_changes_are_apart, late_changes_make_alike, late_changes_pass, late_outputs_are_alike, outputs_have_a_key_once}
use Rattle.kt_joblaws.specs.Outputs.{marks_may_rise, outputs_pass}
use Rattle.kt_joblaws.specs.Written.{written_rowsets_are_the_same, written_rowsets_pass}
use Rattle.kt_outputs.specs.Again.{late_files_may_be_named, late_files_stand, others_hold_beside_late_files}
use Rattle.kt_outputs.specs.Fewer.{some_may_be_named}
use Rattle.kt_outputs.specs.Named.{others_hold_beside_outputs, outputs_come_behind, outputs_stand}

pub record EndLaws : Type 0 where
  -- the outputs hold what the job takes
  pub late_alike : late_outputs_are_alike
  pub once : outputs_have_a_key_once
  pub changes_alike : late_changes_make_alike
  pub changes_apart : late_changes_are_apart
  pub rise : marks_may_rise
  pub same : written_rowsets_are_the_same
  pub alike : alike_beside
  pub turned : alike_in_turn
  pub sound : sound_beside
  pub differ : numbers_differ_beside
  pub apart : each_part_is_apart
  -- they pass the rules of the table
  pub pass : outputs_pass
  pub still : written_rowsets_pass
  pub late_passes : a_late_output_passes
  pub changes_pass : late_changes_pass
  pub passes : a_rowset_of_passing_histories_passes
  pub back : histories_of_passing_rowsets_pass
  pub both_pass : passing_beside
  pub parts_pass : each_part_passes
  -- and may be named, and their files stand
  pub behind : outputs_come_behind
  pub fewer : some_may_be_named
  pub stand : outputs_stand
  pub others : others_hold_beside_outputs
  pub late_named : late_files_may_be_named
  pub late_stand : late_files_stand
  pub late_others : others_hold_beside_late_files
