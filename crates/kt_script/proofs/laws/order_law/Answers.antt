use Rattle.kt_script.proofs.TextsAgain.{printed_alike, alike_is_read, one_text, read_again}
use Rattle.kt_script.proofs.laws.order_law.Goals as goal

pub returns : goal.returns
returns c = record { printed = printed_alike; read = alike_is_read; one = one_text; again = read_again }
