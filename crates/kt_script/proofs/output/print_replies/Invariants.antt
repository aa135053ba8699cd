use Rattle.std.proofs.Common.{◌≡◌, ◌++◌, map, take}
use Rattle.std.specs.List.{flat_map}
use Rattle.kt_script.specs.Texts.{lines_text, seen}
use Rattle.kt_script.proofs.output.print_replies.Given as goal

abbrev pub invariant-loop-reply : goal.invariant-loop-reply
invariant-loop-reply l = l.out ≡ l.fn.out ++ flat_map lines_text (map seen (take l.reply-index l.replies))
