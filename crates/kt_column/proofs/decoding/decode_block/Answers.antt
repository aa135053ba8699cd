use Rattle.kt_column.proofs.decoding.decode_block.Goals as goal

pub returns-in-Err-Fault-clause-only : goal.returns-in-Err-Fault-clause-only
returns-in-Err-Fault-clause-only c cs front rest b len is = let none = c.in-Err-Fault.ensures.only cs front rest b len is in cc
