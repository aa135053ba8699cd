use Rattle.kt_script.proofs.print.print_command.Goals as goal

pub print_write-requires : goal.print_write-requires
print_write-requires c = rw c.in-Write.is at c.requires
