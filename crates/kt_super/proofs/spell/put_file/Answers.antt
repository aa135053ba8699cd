use Rattle.kt_super.proofs.Appends.{joined_ok}
use Rattle.kt_super.proofs.spell.put_file.Goals as goal

pub returns : goal.returns
returns c = joined_ok c.put_u64-2.result c.args.out.now c.put_u64.new.out c.put_u64-2.new.out _ _ c.in-Ok.ensures c.put_u64-2.ensures
