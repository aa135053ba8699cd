-- Times of scans and marks, and scripts of several sessions, worked out: the line that is refused, and the least reason that holds in it.
use Rattle.std.proofs.Common.{◌≡◌, ℕ, zero, suc, List, [], ◌∷◌, ◌++◌, map, refl}
use Rattle.std.specs.Prelude.{None, codes}
use Rattle.kt_script.specs.Scripts.{fault_of, at}
use Rattle.kt_script.proofs.ScriptTests.{Refused}

abbrev reason_11_texts : List (ℕ × List ℕ)
reason_11_texts =
    (4, codes "table\ncolumn id int64 key\ncolumn v string\nmark 1\n")
    ∷ (4, codes "table\ncolumn id int64 key\ncolumn v string\nmark 4611686018427387905\n")
    ∷ (4, codes "table\ncolumn id int64 key\ncolumn v string\nscan at 1\n")
    ∷ (5, codes "table\ncolumn id int64 key\ncolumn v string\nsession\nmarks 1\n")
    ∷ (5, codes "table\ncolumn id int64 key\ncolumn v string\nsession\nMark 1\n")
    ∷ []

reason_11 : Refused 11 reason_11_texts
reason_11 = refl

abbrev reason_12_1_texts : List (ℕ × List ℕ)
reason_12_1_texts =
    (5, codes "table\ncolumn id int64 key\ncolumn v string\nsession\nmark\n")
    ∷ (5, codes "table\ncolumn id int64 key\ncolumn v string\nsession\nmark \n")
    ∷ (5, codes "table\ncolumn id int64 key\ncolumn v string\nsession\nmark 01\n")
    ∷ (5, codes "table\ncolumn id int64 key\ncolumn v string\nsession\nmark -1\n")
    ∷ (5, codes "table\ncolumn id int64 key\ncolumn v string\nsession\nmark now\n")
    ∷ (5, codes "table\ncolumn id int64 key\ncolumn v string\nsession\nmark 1 2\n")
    ∷ (5, codes "table\ncolumn id int64 key\ncolumn v string\nsession\nscan at\n")
    ∷ (5, codes "table\ncolumn id int64 key\ncolumn v string\nsession\nscan at \n")
    ∷ (5, codes "table\ncolumn id int64 key\ncolumn v string\nsession\nscan at 01\n")
    ∷ (5, codes "table\ncolumn id int64 key\ncolumn v string\nsession\nscan at x\n")
    ∷ (5, codes "table\ncolumn id int64 key\ncolumn v string\nsession\nscan at 1 2\n")
    ∷ (5, codes "table\ncolumn id int64 key\ncolumn v string\nsession\nscan at 1 where\n")
    ∷ (5, codes "table\ncolumn id int64 key\ncolumn v string\nsession\nscan now 1\n")
    ∷ []

reason_12_1 : Refused 12 reason_12_1_texts
reason_12_1 = refl

abbrev reason_12_2_texts : List (ℕ × List ℕ)
reason_12_2_texts =
    (5, codes "table\ncolumn id int64 key\ncolumn v string\nsession\nmark 4611686018427387905 1\n")
    ∷ (5, codes "table\ncolumn id int64 key\ncolumn v string\nsession\nscan at 4611686018427387905 where v=null\n")
    ∷ []

reason_12_2 : Refused 12 reason_12_2_texts
reason_12_2 = refl

abbrev reason_13_texts : List (ℕ × List ℕ)
reason_13_texts =
    (5, codes "table\ncolumn id int64 key\ncolumn v string\nsession\nscan at 4611686018427387905 select w\n")
    ∷ []

reason_13 : Refused 13 reason_13_texts
reason_13 = refl

abbrev reason_14_texts : List (ℕ × List ℕ)
reason_14_texts =
    (5, codes "table\ncolumn id int64 key\ncolumn v string\nsession\nscan at 4611686018427387905 where v=1\n")
    ∷ []

reason_14 : Refused 14 reason_14_texts
reason_14 = refl

abbrev reason_20_texts : List (ℕ × List ℕ)
reason_20_texts =
    (5, codes "table\ncolumn id int64 key\ncolumn v string\nsession\nmark 4611686018427387905\n")
    ∷ (5, codes "table\ncolumn id int64 key\ncolumn v string\nsession\nmark 18446744073709551616\n")
    ∷ (5, codes "table\ncolumn id int64 key\ncolumn v string\nsession\nmark 100000000000000000000000000000000\n")
    ∷ (5, codes "table\ncolumn id int64 key\ncolumn v string\nsession\nscan at 4611686018427387905\n")
    ∷ (5, codes "table\ncolumn id int64 key\ncolumn v string\nsession\nscan at 18446744073709551616 select v\n")
    ∷ (5, codes "table\ncolumn id int64 key\ncolumn v string\nsession\nscan at 9223372036854775808 where id>1\n")
    ∷ []

reason_20 : Refused 20 reason_20_texts
reason_20 = refl

abbrev scripts_texts : List (List ℕ)
scripts_texts =
    codes "table\ncolumn id int64 key\ncolumn v string\nsession\nmark 0\nmark 4611686018427387904\n"
    ∷ codes "table\ncolumn id int64 key\ncolumn v string\nsession\nscan at 0\nscan at 4611686018427387904 select v,id where id>0\n"
    ∷ codes "table\ncolumn id int64 key\ncolumn v string\nsession\nsession\nsession\nscan now\n"
    ∷ codes "table\ncolumn id int64 key\ncolumn v string\nsession\ninsert 1 \"a\"\nscan at 4096\nsession\ninsert 2 \"b\"\nmark 8192\nscan at 8191\n"
    ∷ []

scripts : map fault_of scripts_texts ≡ map (λ text. None) scripts_texts
scripts = refl

-- a table and so many sessions
abbrev sessions : ℕ → List ℕ
sessions zero = []
sessions (suc n) = codes "session\n" ++ sessions n

so_many_sessions : fault_of (codes "table\ncolumn id int64 key\n" ++ sessions 64) ≡ None
so_many_sessions = refl

one_session_more : fault_of (codes "table\ncolumn id int64 key\n" ++ sessions 65) ≡ at 67 20
one_session_more = refl
