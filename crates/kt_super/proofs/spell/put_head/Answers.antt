use Rattle.kt_super.proofs.Appends.{joined_ok}
use Rattle.kt_super.proofs.spell.put_head.Goals as goal

pub returns : goal.returns
returns c =
    joined_ok c.put_u16-2.result c.args.out.now c.put_u16.new.out c.put_u16-2.new.out _ _ c.in-Ok.ensures (joined_ok c.put_u16-2.result c.put_u16.new.out c.put_u64.new.out c.put_u16-2.new.out _ _ c.in-Ok-put_u64.ensures (joined_ok c.put_u16-2.result c.put_u64.new.out c.put_u64-2.new.out c.put_u16-2.new.out _ _ c.in-Ok-put_u64-2.ensures (joined_ok c.put_u16-2.result c.put_u64-2.new.out c.put_u64-3.new.out c.put_u16-2.new.out _ _ c.in-Ok-put_u64-3.ensures (joined_ok c.put_u16-2.result c.put_u64-3.new.out c.put_u64-4.new.out c.put_u16-2.new.out _ _ c.in-Ok-put_u64-4.ensures (joined_ok c.put_u16-2.result c.put_u64-4.new.out c.put_u64-5.new.out c.put_u16-2.new.out _ _ c.in-Ok-put_u64-5.ensures (joined_ok c.put_u16-2.result c.put_u64-5.new.out c.put_u64-6.new.out c.put_u16-2.new.out _ _ c.in-Ok-put_u64-6.ensures (joined_ok c.put_u16-2.result c.put_u64-6.new.out c.put_u64-7.new.out c.put_u16-2.new.out _ _ c.in-Ok-put_u64-7.ensures c.put_u16-2.ensures)))))))
