-- Output texts worked out: whether one has such a text.
use Rattle.std.proofs.Common.{◌≡◌, List, ℕ, Bool, true, false, refl}
use Rattle.std.specs.Prelude.{codes}
use Rattle.std.specs.Fmt.{digits}
use Rattle.kt_script.specs.Pieces.{cut}
use Rattle.kt_script.specs.Stages.{sessions, goes}

abbrev is_output : List ℕ → Bool
is_output text = goes (sessions 0 0) (cut 10 text)

first_row : is_output (codes "history\ntablet ahm 0 last 0 rowsets 0\n") ≡ true
unfolding digits
first_row = refl

insert_and_scan : is_output (codes "session 1\nat 4096 ok\nrows 8192 1\n1 \"a\"\nhistory\nbegin 1 1 4096 1\nend 1 1 4096\nlook 1 2 8192 2\nrows 1 2 8192\ntablet ahm 0 last 8192 rowsets 0\n") ≡ true
unfolding digits
insert_and_scan = refl

stopped : is_output (codes "session 1\nat 4096 ok\nstopped\nstopped\nhistory\nbegin 1 1 4096 1\nend 1 1 4096\nbegin 1 2 8192 2\nstop\ntablet stopped\n") ≡ true
unfolding digits
stopped = refl

nothing : is_output (codes "") ≡ false
nothing = refl

no_last_line : is_output (codes "history\n") ≡ false
no_last_line = refl

no_newline : is_output (codes "history\ntablet stopped") ≡ false
no_newline = refl

more_behind : is_output (codes "history\ntablet stopped\n\n") ≡ false
unfolding digits
more_behind = refl

second_session_first : is_output (codes "session 2\nhistory\ntablet stopped\n") ≡ false
unfolding digits
second_session_first = refl

reply_without_session : is_output (codes "done\nhistory\ntablet stopped\n") ≡ false
unfolding digits
reply_without_session = refl

leading_zero : is_output (codes "session 1\nat 04096 ok\nhistory\ntablet stopped\n") ≡ false
unfolding digits
leading_zero = refl

row_missing : is_output (codes "session 1\nrows 8192 2\n1 \"a\"\nhistory\ntablet stopped\n") ≡ false
unfolding digits
row_missing = refl

row_not_due : is_output (codes "session 1\nrows 8192 0\n1 \"a\"\nhistory\ntablet stopped\n") ≡ false
unfolding digits
row_not_due = refl

wide_session : is_output (codes "history\nbegin 4294967296 1 1 1\ntablet stopped\n") ≡ false
unfolding digits
wide_session = refl

space_behind : is_output (codes "history\nstop \ntablet stopped\n") ≡ false
unfolding digits
space_behind = refl
