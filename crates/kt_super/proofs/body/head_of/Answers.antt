use Rattle.kt_super.proofs.HeadSteps.{no_word, no_number, no_a, no_c, no_need, no_last_mem, no_next_rowset, no_next_file, no_next_column, to_next_column}
use Rattle.kt_super.proofs.body.head_of.Goals as goal

pub returns-in-Err : goal.returns-in-Err
returns-in-Err c = no_word c.args.slot c.args.bytes.now c.in-Err.error c.in-Err.ensures

pub returns-in-Err-meta_number_at : goal.returns-in-Err-meta_number_at
returns-in-Err-meta_number_at c = no_number c.args.slot c.args.bytes.now c.in-Err-meta_number_at.error (c.in-Ok.value.0, c.in-Ok.value.1.now) c.in-Ok.ensures c.in-Err-meta_number_at.ensures

pub returns-in-Err-u64_at : goal.returns-in-Err-u64_at
returns-in-Err-u64_at c = no_a c.args.slot c.args.bytes.now c.in-Err-u64_at.error (c.in-Ok.value.0, c.in-Ok.value.1.now) (c.in-Ok-meta_number_at.value.0, c.in-Ok-meta_number_at.value.1.now) c.in-Ok.ensures c.in-Ok-meta_number_at.ensures c.in-Err-u64_at.ensures

pub returns-in-Err-u64_at-2 : goal.returns-in-Err-u64_at-2
returns-in-Err-u64_at-2 c = no_c c.args.slot c.args.bytes.now c.in-Err-u64_at-2.error (c.in-Ok.value.0, c.in-Ok.value.1.now) (c.in-Ok-meta_number_at.value.0, c.in-Ok-meta_number_at.value.1.now) (c.in-Ok-u64_at.value.0, c.in-Ok-u64_at.value.1.now) c.in-Ok.ensures c.in-Ok-meta_number_at.ensures c.in-Ok-u64_at.ensures c.in-Err-u64_at-2.ensures

pub returns-in-Err-small_at : goal.returns-in-Err-small_at
returns-in-Err-small_at c = no_need c.args.slot c.args.bytes.now c.in-Err-small_at.error (c.in-Ok.value.0, c.in-Ok.value.1.now) (c.in-Ok-meta_number_at.value.0, c.in-Ok-meta_number_at.value.1.now) (c.in-Ok-u64_at.value.0, c.in-Ok-u64_at.value.1.now) (c.in-Ok-u64_at-2.value.0, c.in-Ok-u64_at-2.value.1.now) c.in-Ok.ensures c.in-Ok-meta_number_at.ensures c.in-Ok-u64_at.ensures c.in-Ok-u64_at-2.ensures c.in-Err-small_at.ensures

pub returns-in-Err-small_at-2 : goal.returns-in-Err-small_at-2
returns-in-Err-small_at-2 c = no_last_mem c.args.slot c.args.bytes.now c.in-Err-small_at-2.error (c.in-Ok.value.0, c.in-Ok.value.1.now) (c.in-Ok-meta_number_at.value.0, c.in-Ok-meta_number_at.value.1.now) (c.in-Ok-u64_at.value.0, c.in-Ok-u64_at.value.1.now) (c.in-Ok-u64_at-2.value.0, c.in-Ok-u64_at-2.value.1.now) (c.in-Ok-small_at.value.0, c.in-Ok-small_at.value.1.now) c.in-Ok.ensures c.in-Ok-meta_number_at.ensures c.in-Ok-u64_at.ensures c.in-Ok-u64_at-2.ensures c.in-Ok-small_at.ensures c.in-Err-small_at-2.ensures

pub returns-in-Err-small_at-3 : goal.returns-in-Err-small_at-3
returns-in-Err-small_at-3 c = no_next_rowset c.args.slot c.args.bytes.now c.in-Err-small_at-3.error (c.in-Ok.value.0, c.in-Ok.value.1.now) (c.in-Ok-meta_number_at.value.0, c.in-Ok-meta_number_at.value.1.now) (c.in-Ok-u64_at.value.0, c.in-Ok-u64_at.value.1.now) (c.in-Ok-u64_at-2.value.0, c.in-Ok-u64_at-2.value.1.now) (c.in-Ok-small_at.value.0, c.in-Ok-small_at.value.1.now) (c.in-Ok-small_at-2.value.0, c.in-Ok-small_at-2.value.1.now) c.in-Ok.ensures c.in-Ok-meta_number_at.ensures c.in-Ok-u64_at.ensures c.in-Ok-u64_at-2.ensures c.in-Ok-small_at.ensures c.in-Ok-small_at-2.ensures c.in-Err-small_at-3.ensures

pub returns-in-Err-next_file_at : goal.returns-in-Err-next_file_at
returns-in-Err-next_file_at c = no_next_file c.args.slot c.args.bytes.now c.in-Err-next_file_at.error (c.in-Ok.value.0, c.in-Ok.value.1.now) (c.in-Ok-meta_number_at.value.0, c.in-Ok-meta_number_at.value.1.now) (c.in-Ok-u64_at.value.0, c.in-Ok-u64_at.value.1.now) (c.in-Ok-u64_at-2.value.0, c.in-Ok-u64_at-2.value.1.now) (c.in-Ok-small_at.value.0, c.in-Ok-small_at.value.1.now) (c.in-Ok-small_at-2.value.0, c.in-Ok-small_at-2.value.1.now) (c.in-Ok-small_at-3.value.0, c.in-Ok-small_at-3.value.1.now) c.in-Ok.ensures c.in-Ok-meta_number_at.ensures c.in-Ok-u64_at.ensures c.in-Ok-u64_at-2.ensures c.in-Ok-small_at.ensures c.in-Ok-small_at-2.ensures c.in-Ok-small_at-3.ensures c.in-Err-next_file_at.ensures

pub returns-in-Err-next_column_at : goal.returns-in-Err-next_column_at
returns-in-Err-next_column_at c = no_next_column c.args.slot c.args.bytes.now c.in-Err-next_column_at.error (c.in-Ok.value.0, c.in-Ok.value.1.now) (c.in-Ok-meta_number_at.value.0, c.in-Ok-meta_number_at.value.1.now) (c.in-Ok-u64_at.value.0, c.in-Ok-u64_at.value.1.now) (c.in-Ok-u64_at-2.value.0, c.in-Ok-u64_at-2.value.1.now) (c.in-Ok-small_at.value.0, c.in-Ok-small_at.value.1.now) (c.in-Ok-small_at-2.value.0, c.in-Ok-small_at-2.value.1.now) (c.in-Ok-small_at-3.value.0, c.in-Ok-small_at-3.value.1.now) (c.in-Ok-next_file_at.value.0, c.in-Ok-next_file_at.value.1.now) c.in-Ok.ensures c.in-Ok-meta_number_at.ensures c.in-Ok-u64_at.ensures c.in-Ok-u64_at-2.ensures c.in-Ok-small_at.ensures c.in-Ok-small_at-2.ensures c.in-Ok-small_at-3.ensures c.in-Ok-next_file_at.ensures c.in-Err-next_column_at.ensures

pub returns : goal.returns
returns c = to_next_column c.args.slot c.args.bytes.now (c.in-Ok.value.0, c.in-Ok.value.1.now) (c.in-Ok-meta_number_at.value.0, c.in-Ok-meta_number_at.value.1.now) (c.in-Ok-u64_at.value.0, c.in-Ok-u64_at.value.1.now) (c.in-Ok-u64_at-2.value.0, c.in-Ok-u64_at-2.value.1.now) (c.in-Ok-small_at.value.0, c.in-Ok-small_at.value.1.now) (c.in-Ok-small_at-2.value.0, c.in-Ok-small_at-2.value.1.now) (c.in-Ok-small_at-3.value.0, c.in-Ok-small_at-3.value.1.now) (c.in-Ok-next_file_at.value.0, c.in-Ok-next_file_at.value.1.now) (c.in-Ok-next_column_at.value.0, c.in-Ok-next_column_at.value.1.now) c.in-Ok.ensures c.in-Ok-meta_number_at.ensures c.in-Ok-u64_at.ensures c.in-Ok-u64_at-2.ensures c.in-Ok-small_at.ensures c.in-Ok-small_at-2.ensures c.in-Ok-small_at-3.ensures c.in-Ok-next_file_at.ensures c.in-Ok-next_column_at.ensures
