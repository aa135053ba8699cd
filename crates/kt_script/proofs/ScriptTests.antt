-- Scripts worked out: the line that is refused, and the least reason that holds in it.
use Rattle.std.proofs.Common.{◌≡◌, ℕ, List, [], ◌∷◌, map, refl}
use Rattle.std.specs.Prelude.{None, codes}
use Rattle.kt_script.specs.Scripts.{fault_of, at}

-- each text is refused for this reason, in the line of its number
abbrev pub Refused : ℕ → List (ℕ × List ℕ) → Type 0
Refused reason texts = map (λ (t : ℕ × List ℕ). fault_of t.1) texts ≡ map (λ (t : ℕ × List ℕ). at t.0 reason) texts

abbrev reason_2_texts : List (ℕ × List ℕ)
reason_2_texts =
    (1, codes "table")
    ∷ (4, codes "table\ncolumn id int64 key\ncolumn v string\nx")
    ∷ (5, codes "table\ncolumn id int64 key\ncolumn v string\nsession\nscan now")
    ∷ (5, codes "table\ncolumn id int64 key\ncolumn v string\nsession\ninsert 1 \"a")
    ∷ (2, codes "table\ncolumn id int64 ke")
    ∷ []

reason_2 : Refused 2 reason_2_texts
reason_2 = refl

abbrev reason_3_texts : List (ℕ × List ℕ)
reason_3_texts =
    (1, codes "")
    ∷ (1, codes "\n")
    ∷ (1, codes "Table\n")
    ∷ (1, codes "table \n")
    ∷ (1, codes " table\n")
    ∷ (1, codes "column id int64 key\n")
    ∷ []

reason_3 : Refused 3 reason_3_texts
reason_3 = refl

abbrev reason_4_texts : List (ℕ × List ℕ)
reason_4_texts =
    (2, codes "table\ncolumn id\n")
    ∷ (2, codes "table\ncolumn 1d int64 key\n")
    ∷ (2, codes "table\ncolumn id int65 key\n")
    ∷ (2, codes "table\ncolumn id int64 key key\n")
    ∷ (2, codes "table\ncolumn id int64 key nullable\n")
    ∷ (2, codes "table\ncolumn id int64 key default 1\n")
    ∷ (2, codes "table\ncolumn id int64 nullable nullable\n")
    ∷ (2, codes "table\ncolumn id int64 default\n")
    ∷ (2, codes "table\ncolumn id int64 default -0\n")
    ∷ (2, codes "table\ncolumn id int64 default 1 nullable\n")
    ∷ (2, codes "table\ncolumn id int64 \n")
    ∷ (2, codes "table\ncolumn aaaaaaaaaaaaaaaaaaaaaaaaaaaaaaaaaaaaaaaaaaaaaaaaaaaaaaaaaaaaaaaaa int64 key\n")
    ∷ []

reason_4 : Refused 4 reason_4_texts
reason_4 = refl

abbrev reason_5_texts : List (ℕ × List ℕ)
reason_5_texts =
    (2, codes "table\n")
    ∷ (2, codes "table\nsession\n")
    ∷ (2, codes "table\nscan now\n")
    ∷ (3, codes "table\ncolumn v string\n")
    ∷ (3, codes "table\ncolumn v string\nsession\n")
    ∷ (2, codes "table\ncolumns\n")
    ∷ []

reason_5 : Refused 5 reason_5_texts
reason_5 = refl

abbrev reason_6_texts : List (ℕ × List ℕ)
reason_6_texts =
    (3, codes "table\ncolumn v string\ncolumn id int64 key\n")
    ∷ (4, codes "table\ncolumn id int64 key\ncolumn v string\ncolumn k int8 key\n")
    ∷ (4, codes "table\ncolumn id int64 key\ncolumn v string\ncolumn k bool key\n")
    ∷ (4, codes "table\ncolumn id int64 key\ncolumn v string\ncolumn v int8 key\n")
    ∷ (3, codes "table\ncolumn v int8 nullable default 1\ncolumn id int8 key\n")
    ∷ []

reason_6 : Refused 6 reason_6_texts
reason_6 = refl

abbrev reason_7_texts : List (ℕ × List ℕ)
reason_7_texts =
    (2, codes "table\ncolumn b bool key\n")
    ∷ (3, codes "table\ncolumn a int8 key\ncolumn b bool key\n")
    ∷ (3, codes "table\ncolumn a int8 key\ncolumn a bool key\n")
    ∷ (2, codes "table\ncolumn _ bool key\n")
    ∷ (4, codes "table\ncolumn a string key\ncolumn b string key\ncolumn c bool key\n")
    ∷ []

reason_7 : Refused 7 reason_7_texts
reason_7 = refl

abbrev reason_8_texts : List (ℕ × List ℕ)
reason_8_texts =
    (4, codes "table\ncolumn id int64 key\ncolumn v string\ncolumn v string\n")
    ∷ (4, codes "table\ncolumn id int64 key\ncolumn v string\ncolumn id int8\n")
    ∷ (3, codes "table\ncolumn a int8 key\ncolumn a int8 key\n")
    ∷ (4, codes "table\ncolumn id int64 key\ncolumn v string\ncolumn v int8 default 128\n")
    ∷ (5, codes "table\ncolumn id int64 key\ncolumn v string\ncolumn w int8\ncolumn w int8\n")
    ∷ []

reason_8 : Refused 8 reason_8_texts
reason_8 = refl

abbrev reason_10_texts : List (ℕ × List ℕ)
reason_10_texts =
    (4, codes "table\ncolumn id int64 key\ncolumn v string\ncolumn w int8 default null\n")
    ∷ (4, codes "table\ncolumn id int64 key\ncolumn v string\ncolumn w int8 nullable default null\n")
    ∷ (4, codes "table\ncolumn id int64 key\ncolumn v string\ncolumn w int8 default 128\n")
    ∷ (4, codes "table\ncolumn id int64 key\ncolumn v string\ncolumn w int8 default \"a\"\n")
    ∷ (4, codes "table\ncolumn id int64 key\ncolumn v string\ncolumn w bool default 1\n")
    ∷ (4, codes "table\ncolumn id int64 key\ncolumn v string\ncolumn w string default x\"00\"\n")
    ∷ (4, codes "table\ncolumn id int64 key\ncolumn v string\ncolumn w binary default \"a\"\n")
    ∷ []

reason_10 : Refused 10 reason_10_texts
reason_10 = refl

abbrev reason_11_texts : List (ℕ × List ℕ)
reason_11_texts =
    (4, codes "table\ncolumn id int64 key\ncolumn v string\ninsert 1 \"a\"\n")
    ∷ (4, codes "table\ncolumn id int64 key\ncolumn v string\n\n")
    ∷ (4, codes "table\ncolumn id int64 key\ncolumn v string\nflush\n")
    ∷ (5, codes "table\ncolumn id int64 key\ncolumn v string\nsession\nflush-delta\n")
    ∷ (5, codes "table\ncolumn id int64 key\ncolumn v string\nsession\nminors\n")
    ∷ (5, codes "table\ncolumn id int64 key\ncolumn v string\nsession\ncompacts\n")
    ∷ (5, codes "table\ncolumn id int64 key\ncolumn v string\nsession\ncolumn w int8\n")
    ∷ (5, codes "table\ncolumn id int64 key\ncolumn v string\nsession\ntable\n")
    ∷ (5, codes "table\ncolumn id int64 key\ncolumn v string\nsession\n scan now\n")
    ∷ (5, codes "table\ncolumn id int64 key\ncolumn v string\nsession\nInsert 1 \"a\"\n")
    ∷ (4, codes "table\ncolumn id int64 key\ncolumn v string\nscan soon\n")
    ∷ (5, codes "table\ncolumn id int64 key\ncolumn v string\nsession\nupsert-ignore 1 v=\"x\"\n")
    ∷ []

reason_11 : Refused 11 reason_11_texts
reason_11 = refl

abbrev reason_12_1_texts : List (ℕ × List ℕ)
reason_12_1_texts =
    (5, codes "table\ncolumn id int64 key\ncolumn v string\nsession\ninsert\n")
    ∷ (5, codes "table\ncolumn id int64 key\ncolumn v string\nsession\nflush-deltas 1\n")
    ∷ (5, codes "table\ncolumn id int64 key\ncolumn v string\nsession\nminor 1\n")
    ∷ (5, codes "table\ncolumn id int64 key\ncolumn v string\nsession\nmajor 1\n")
    ∷ (5, codes "table\ncolumn id int64 key\ncolumn v string\nsession\ncompact 1\n")
    ∷ (5, codes "table\ncolumn id int64 key\ncolumn v string\nsession\ninsert 1\n")
    ∷ (5, codes "table\ncolumn id int64 key\ncolumn v string\nsession\ninsert 1 \"a\" \"b\"\n")
    ∷ (5, codes "table\ncolumn id int64 key\ncolumn v string\nsession\ninsert 1  \"a\"\n")
    ∷ (5, codes "table\ncolumn id int64 key\ncolumn v string\nsession\ninsert 01 \"a\"\n")
    ∷ (5, codes "table\ncolumn id int64 key\ncolumn v string\nsession\ninsert 1 a\n")
    ∷ (5, codes "table\ncolumn id int64 key\ncolumn v string\nsession\ninsert 1 \"a\n")
    ∷ (5, codes "table\ncolumn id int64 key\ncolumn v string\nsession\ninsert 1 \"a\" ;\n")
    ∷ (5, codes "table\ncolumn id int64 key\ncolumn v string\nsession\ninsert 1 \"a\" ; ; delete 1\n")
    ∷ (5, codes "table\ncolumn id int64 key\ncolumn v string\nsession\ninsert 1 \"a\" ; scan now\n")
    ∷ (5, codes "table\ncolumn id int64 key\ncolumn v string\nsession\nupdate 1\n")
    ∷ (5, codes "table\ncolumn id int64 key\ncolumn v string\nsession\nupdate 1 v\n")
    ∷ (5, codes "table\ncolumn id int64 key\ncolumn v string\nsession\nupdate 1 v<\"a\"\n")
    ∷ []

reason_12_1 : Refused 12 reason_12_1_texts
reason_12_1 = refl

abbrev reason_12_2_texts : List (ℕ × List ℕ)
reason_12_2_texts =
    (5, codes "table\ncolumn id int64 key\ncolumn v string\nsession\nupdate 1 v=\"a\" \n")
    ∷ (5, codes "table\ncolumn id int64 key\ncolumn v string\nsession\ndelete\n")
    ∷ (5, codes "table\ncolumn id int64 key\ncolumn v string\nsession\ndelete 1 2\n")
    ∷ (5, codes "table\ncolumn id int64 key\ncolumn v string\nsession\nsession 1\n")
    ∷ (5, codes "table\ncolumn id int64 key\ncolumn v string\nsession\nscan\n")
    ∷ (5, codes "table\ncolumn id int64 key\ncolumn v string\nsession\nscan now select v,\n")
    ∷ (5, codes "table\ncolumn id int64 key\ncolumn v string\nsession\nscan now where\n")
    ∷ (5, codes "table\ncolumn id int64 key\ncolumn v string\nsession\nscan now where v=\"a\" or v=\"b\"\n")
    ∷ (5, codes "table\ncolumn id int64 key\ncolumn v string\nsession\nscan now where v is nothing\n")
    ∷ (5, codes "table\ncolumn id int64 key\ncolumn v string\nsession\nscan now where v==\"a\"\n")
    ∷ (5, codes "table\ncolumn id int64 key\ncolumn v string\nsession\nscan now where v=\"a\" select v\n")
    ∷ (5, codes "table\ncolumn id int64 key\ncolumn v string\nsession\nscan now where v<=null\n")
    ∷ (5, codes "table\ncolumn id int64 key\ncolumn v string\nsession\nflush 1\n")
    ∷ (5, codes "table\ncolumn id int64 key\ncolumn v string\nsession\ninsert-ignore 1 ; delete-ignore 2 3\n")
    ∷ []

reason_12_2 : Refused 12 reason_12_2_texts
reason_12_2 = refl

abbrev reason_13_texts : List (ℕ × List ℕ)
reason_13_texts =
    (5, codes "table\ncolumn id int64 key\ncolumn v string\nsession\nupdate 1 w=\"a\"\n")
    ∷ (5, codes "table\ncolumn id int64 key\ncolumn v string\nsession\nupdate 1 id=2\n")
    ∷ (5, codes "table\ncolumn id int64 key\ncolumn v string\nsession\nupsert 1 v=\"a\" v=\"b\"\n")
    ∷ (5, codes "table\ncolumn id int64 key\ncolumn v string\nsession\nupsert 1 v=1 v=2\n")
    ∷ (5, codes "table\ncolumn id int64 key\ncolumn v string\nsession\nscan now select w\n")
    ∷ (5, codes "table\ncolumn id int64 key\ncolumn v string\nsession\nscan now select v,id,v\n")
    ∷ (5, codes "table\ncolumn id int64 key\ncolumn v string\nsession\nscan now where w is null\n")
    ∷ (5, codes "table\ncolumn id int64 key\ncolumn v string\nsession\nscan now where V=\"a\"\n")
    ∷ (5, codes "table\ncolumn id int64 key\ncolumn v string\nsession\ndelete \"x\" ; update 1 w=1\n")
    ∷ []

reason_13 : Refused 13 reason_13_texts
reason_13 = refl

abbrev reason_14_texts : List (ℕ × List ℕ)
reason_14_texts =
    (5, codes "table\ncolumn id int64 key\ncolumn v string\nsession\ninsert 1 2\n")
    ∷ (5, codes "table\ncolumn id int64 key\ncolumn v string\nsession\ninsert \"a\" \"b\"\n")
    ∷ (5, codes "table\ncolumn id int64 key\ncolumn v string\nsession\ninsert 9223372036854775808 \"a\"\n")
    ∷ (5, codes "table\ncolumn id int64 key\ncolumn v string\nsession\ndelete true\n")
    ∷ (5, codes "table\ncolumn id int64 key\ncolumn v string\nsession\nupdate 1 v=x\"61\"\n")
    ∷ (5, codes "table\ncolumn id int64 key\ncolumn v string\nsession\nscan now where id>\"a\"\n")
    ∷ (5, codes "table\ncolumn id int64 key\ncolumn v string\nsession\nscan now where id>99999999999999999999\n")
    ∷ (7, codes "table\ncolumn host string key\ncolumn tick int64 key\ncolumn cpu int32 nullable\ncolumn up bool default true\nsession\ninsert \"a\" 1 2147483648 true\n")
    ∷ []

reason_14 : Refused 14 reason_14_texts
reason_14 = refl

abbrev reason_15_texts : List (ℕ × List ℕ)
reason_15_texts =
    (5, codes "table\ncolumn id int64 key\ncolumn v string\nsession\ninsert null \"a\"\n")
    ∷ (5, codes "table\ncolumn id int64 key\ncolumn v string\nsession\ninsert 1 null\n")
    ∷ (5, codes "table\ncolumn id int64 key\ncolumn v string\nsession\ndelete null\n")
    ∷ (5, codes "table\ncolumn id int64 key\ncolumn v string\nsession\nupsert 1 v=null\n")
    ∷ (5, codes "table\ncolumn id int64 key\ncolumn v string\nsession\nupsert 1\n")
    ∷ (7, codes "table\ncolumn host string key\ncolumn tick int64 key\ncolumn cpu int32 nullable\ncolumn up bool default true\nsession\nupsert \"a\" 1 up=null\n")
    ∷ []

reason_15 : Refused 15 reason_15_texts
reason_15 = refl

abbrev reason_19_texts : List (ℕ × List ℕ)
reason_19_texts =
    (5, codes "table\ncolumn id int64 key\ncolumn v string\nsession\ndelete 1 ; delete 1\n")
    ∷ (5, codes "table\ncolumn id int64 key\ncolumn v string\nsession\ninsert 1 \"a\" ; delete 1\n")
    ∷ (5, codes "table\ncolumn id int64 key\ncolumn v string\nsession\ninsert 1 \"a\" ; insert 2 \"b\" ; insert 1 \"c\"\n")
    ∷ (5, codes "table\ncolumn id int64 key\ncolumn v string\nsession\ndelete -1 ; delete 1 ; delete -1\n")
    ∷ (7, codes "table\ncolumn host string key\ncolumn tick int64 key\ncolumn cpu int32 nullable\ncolumn up bool default true\nsession\ndelete \"a\" 1 ; delete \"b\" 1 ; delete \"a\" 1\n")
    ∷ []

reason_19 : Refused 19 reason_19_texts
reason_19 = refl

abbrev scripts_texts : List (List ℕ)
scripts_texts =
    codes "table\ncolumn id int64 key\ncolumn v string\n"
    ∷ codes "table\ncolumn id int64 key\ncolumn v string\nsession\n"
    ∷ codes "table\ncolumn id int64 key\ncolumn v string\nsession\ninsert -9223372036854775808 \"a b\"\nscan now\n"
    ∷ codes "table\ncolumn id int64 key\ncolumn v string\nsession\ninsert 2 \"b ; c\" ; update 9 v=\"x\"\nscan now select v,id where v>=\"a\" and id is not null and v is null\n"
    ∷ codes "table\ncolumn and int64 key\ncolumn where string nullable\nsession\nscan now select where where and is null and and is not null and where=\"x\"\nupsert 1 where=null\n"
    ∷ codes "table\ncolumn host string key\ncolumn tick int64 key\ncolumn cpu int32 nullable\ncolumn up bool default true\nsession\ninsert \"db1\" 100 57 true ; insert \"db2\" 100 null false\nupsert \"db1\" 100 cpu=58 ; upsert \"web\" 90 cpu=1\nscan now select host,cpu where cpu>0\n"
    ∷ codes "table\ncolumn s string key\ncolumn n int8 key\nsession\ninsert \"a\\x00\" -128 ; insert \"a\" 127\nscan now\n"
    ∷ codes "table\ncolumn id int64 key\ncolumn v string\nsession\nscan now where id<3 and id>=1 and v<\"\\\"\" and v is null\n"
    ∷ codes "table\ncolumn id int64 key\ncolumn v string\nsession\ndelete 1 ; delete 2 ; insert 3 \"\\\\\"\n"
    ∷ codes "table\ncolumn id int64 key\ncolumn v string\nsession\nflush\nflush\n"
    ∷ codes "table\ncolumn id int64 key\ncolumn v string\nsession\ninsert-ignore 1 \"b\" ; update-ignore 9 v=\"x\" ; delete-ignore 2\n"
    ∷ []

scripts : map fault_of scripts_texts ≡ map (λ text. None) scripts_texts
scripts = refl
