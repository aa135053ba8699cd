-- The first fault of bytes that are not the runs of n items.
use Rattle.std.proofs.Common.{◌≡◌, ℕ, ◌+◌, ◌-◌, ◌*◌, ◌^◌, ◌<◌, ◌≤◌, List, [], ◌∷◌, ◌++◌, length, take, drop, map, ℤ, Option, refl, sym, ap, ◌∙◌, subst, arith, inl, inr}
use Rattle.std.specs.List.{concat}
use Rattle.std.proofs.lemmas.Bool.{cases_lt}
use Rattle.std.proofs.lemmas.List.{append_assoc, append-nil, length-append, length-drop, length-take, map-append, take-append-drop}
use Rattle.kt_bytes.specs.Places.{Begins, GoesOn, IsFault, Delimited}
use Rattle.kt_bytes.proofs.Numbers.{IsBytes}
use Rattle.kt_bytes.proofs.Fronts.{concat-map, map_split, IsWhole, refused}
use Rattle.kt_plain.specs.declared.widths.NumberWidth.{NumberWidth as Width}
use Rattle.kt_rle.specs.declared.runs.Run.{Run}
use Rattle.kt_rle.specs.Runs.{run_bytes, run_len, AreRuns, run_at, runs_in}
use Rattle.kt_rle.specs.Reading.{MayFollow}
use Rattle.kt_rle.specs.Spelling.{Spells, Spelled, IsJoined}
use Rattle.kt_rle.proofs.RunLists.{total, length-expanded, total-append, length-run_bytes, run_at-spelled, spelled-runs_in, is_number, LastIs, AreRuns-push, AreRuns-front, run_within, not_the_last, next_number, next-differs, next-fits, one_runs}

-- the fields of runs
abbrev pub fields : Width → List Run → List (List ℕ)
fields w rs = map (run_bytes w) rs

-- ---- what the fields of runs are

pub spelled_fields : (w : Width) (n : ℕ) (rs : List Run) → AreRuns w rs → total rs ≡ n → n < 2 ^ 32 → Spelled w n (fields w rs)
spelled_fields w n rs are sum few = record { runs = rs; are = are; counted = length-expanded rs ∙ sum; few = few; spelled = refl }

pub sum_of : (w : Width) (n : ℕ) (fs : List (List ℕ)) → (s : Spelled w n fs) → total s.runs ≡ n
sum_of w n fs s = sym (length-expanded s.runs) ∙ s.counted

-- runs of the same fields are the same
same_runs : (w : Width) (rs ss : List Run) → AreRuns w rs → AreRuns w ss → total rs < 2 ^ 32 → total ss < 2 ^ 32 → fields w rs ≡ fields w ss → rs ≡ ss
same_runs w rs ss are bre rt st e = one_runs w rs ss are bre rt st (sym (concat-map (run_bytes w) rs) ∙ ap concat e ∙ concat-map (run_bytes w) ss)

-- a run that goes on behind others
pub record OneMore (w : Width) (n : ℕ) (front : List (List ℕ)) (field : List ℕ) : Type 0 where
  pub before : List Run
  pub run : Run
  pub after : List Run
  pub are : AreRuns w (before ++ run ∷ after)
  pub sum : total before + run.len ≤ n
  pub few : n < 2 ^ 32
  pub is_front : fields w before ≡ front
  pub is : run_bytes w run ≡ field

pub one_more : (w : Width) (n : ℕ) (front : List (List ℕ)) (field : List ℕ) → GoesOn (Spelled w n) front field → OneMore w n front field
one_more w n front field (more, s) =
    let m = map_split (run_bytes w) s.runs front field more (sym s.spelled ∙ append_assoc front (field ∷ []) more) in
    let all = ap total m.whole in
    record {
      before = m.before;
      run = m.at;
      after = m.after;
      are = subst (AreRuns w) m.whole s.are;
      sum = omega (arith, all, total-append m.before (m.at ∷ m.after), sum_of w n ((front ++ field ∷ []) ++ more) s);
      few = s.few;
      is_front = m.is_front;
      is = m.is_field;
    }

field_is : (w : Width) (n : ℕ) (front : List (List ℕ)) (field : List ℕ) → GoesOn (Spelled w n) front field → length field ≡ run_len w
field_is w n front field on =
    let m = one_more w n front field on in
    ap (λ (xs : List ℕ). length xs) (sym m.is) ∙ length-run_bytes w m.run

pub runs_delimited : (w : Width) (n : ℕ) → Delimited (Spelled w n)
runs_delimited w n front a b x y = field_is w n front a x ∙ sym (field_is w n front b y)

-- the runs in front of it, where these are known
follows : (w : Width) (n : ℕ) (rs : List Run) (field : List ℕ) → AreRuns w rs → total rs < 2 ^ 32 → (m : OneMore w n (fields w rs) field) → m.before ≡ rs
follows w n rs field are lt m =
    let sum = m.sum in
    let few = m.few in
    same_runs w m.before rs (AreRuns-front w m.before (m.run ∷ m.after) m.are) are (omega arith) lt m.is_front

pub runs_whole : (w : Width) (n : ℕ) → IsWhole (Spelled w n)
runs_whole w n front field s on =
    let m = one_more w n (fields w s.runs) field (subst (λ (l : List (List ℕ)). GoesOn (Spelled w n) l field) s.spelled on) in
    let sum = sum_of w n front s in
    let few = s.few in
    let same = ap total (follows w n s.runs field s.are (omega arith) m) in
    let some = (run_within w m.before m.run m.after m.are).0 in
    let most = m.sum in
    omega (arith, same, some, most, sum)

-- bytes with a fault spell no items
pub joined : IsJoined
joined w n items bytes s =
    let sum : total s.runs ≡ n = sym (length-expanded s.runs) ∙ ap (λ (xs : List ℤ). length xs) (sym s.expanded) ∙ s.counted in
    (fields w s.runs, spelled_fields w n s.runs s.are sum s.few, s.spelled ∙ sym (concat-map (run_bytes w) s.runs))

pub none_spelled : (w : Width) (n : ℕ) (bytes : List ℕ) (place : ℕ) → IsFault (Spelled w n) bytes place → (items : List ℤ) → Spells w n items bytes → ⊥
none_spelled w n bytes place f items s =
    let j = joined w n items bytes s in
    refused (Spelled w n) bytes place (runs_delimited w n) (runs_whole w n) f j.0 j.1 j.2

-- ---- runs that may go on

-- one run more, if it may follow
pub begin_more : (w : Width) (n : ℕ) (rs : List Run) (r : Run) → AreRuns w (rs ++ r ∷ []) → total rs + r.len ≡ n → n < 2 ^ 32 → GoesOn (Spelled w n) (fields w rs) (run_bytes w r)
begin_more w n rs r are sum few =
    let all : total (rs ++ r ∷ []) ≡ n = total-append rs (r ∷ []) ∙ omega arith in
    let e : fields w (rs ++ r ∷ []) ≡ (fields w rs ++ run_bytes w r ∷ []) ++ [] = map-append (run_bytes w) rs (r ∷ []) ∙ sym (append-nil (fields w rs ++ run_bytes w r ∷ [])) in
    ([], subst (Spelled w n) e (spelled_fields w n (rs ++ r ∷ []) are all few))

-- one of another number, as long as is left
abbrev pub last_run : (n : ℕ) (rs : List Run) → Run
last_run n rs = record { len = n - total rs; value = next_number rs }

pub goes_on_last : (w : Width) (n : ℕ) (rs : List Run) → AreRuns w rs → total rs < n → n < 2 ^ 32 → GoesOn (Spelled w n) (fields w rs) (run_bytes w (last_run n rs))
goes_on_last w n rs are lt few =
    begin_more w n rs (last_run n rs) (AreRuns-push w rs (last_run n rs) are (omega arith) (next-fits w rs) (next-differs rs)) (omega arith) few

pub runs_begin : (w : Width) (n : ℕ) (rs : List Run) → AreRuns w rs → total rs ≤ n → n < 2 ^ 32 → Begins (Spelled w n) (fields w rs)
runs_begin w n rs are le few = elim (cases_lt (total rs) n) [
  | inl lt ↦
      let on = goes_on_last w n rs are lt few in
      (run_bytes w (last_run n rs) ∷ on.0, subst (Spelled w n) (append_assoc (fields w rs) (run_bytes w (last_run n rs) ∷ []) on.0) on.1)
  | inr ge ↦ ([], subst (Spelled w n) (sym (append-nil (fields w rs))) (spelled_fields w n rs are (omega arith) few))
]

-- ---- the runs in the first fields, and what is behind them

pub record Front (w : Width) (i : ℕ) (bytes : List ℕ) : Type 0 where
  pub len : length (concat (fields w (runs_in w i bytes))) ≡ run_len w * i
  pub parts : bytes ≡ concat (fields w (runs_in w i bytes)) ++ drop (run_len w * i) bytes
  pub rest_len : length (drop (run_len w * i) bytes) ≡ length bytes - run_len w * i

pub front_of : (w : Width) (i : ℕ) (bytes : List ℕ) → run_len w * i ≤ length bytes → IsBytes bytes → Front w i bytes
front_of w i bytes le fits =
    let j : concat (fields w (runs_in w i bytes)) ≡ take (run_len w * i) bytes = concat-map (run_bytes w) (runs_in w i bytes) ∙ spelled-runs_in w i bytes le fits in
    record {
      len = ap (λ (xs : List ℕ). length xs) j ∙ omega (arith, length-take (run_len w * i) bytes);
      parts = sym (take-append-drop (run_len w * i) bytes) ∙ ap (λ (xs : List ℕ). xs ++ drop (run_len w * i) bytes) (sym j);
      rest_len = length-drop (run_len w * i) bytes;
    }

-- i runs are read and left items are not, and this was the last number
pub record HasRead (w : Width) (n : ℕ) (bytes : List ℕ) (i left : ℕ) (last : Option ℤ) : Type 0 where
  pub are : AreRuns w (runs_in w i bytes)
  pub sum : total (runs_in w i bytes) + left ≡ n
  pub few : n < 2 ^ 32
  pub last_is : LastIs (runs_in w i bytes) last

-- ---- the three faults

-- bytes of a run are missing
pub fault_missing : (w : Width) (n : ℕ) (bytes : List ℕ) (i left : ℕ) (last : Option ℤ) → IsBytes bytes → run_len w * i ≤ length bytes → length bytes < run_len w * i + run_len w → 0 < left
    → HasRead w n bytes i left last → IsFault (Spelled w n) bytes (length bytes)
fault_missing w n bytes i left last fits within short some h =
    let rs : List Run = runs_in w i bytes in
    let f = front_of w i bytes within fits in
    let sum = h.sum in
    record {
      front = fields w rs;
      rest = drop (run_len w * i) bytes;
      parts = f.parts;
      begins = runs_begin w n rs h.are (omega arith) h.few;
      ends = λ field goes (more, e).
          let a = field_is w n (fields w rs) field goes in
          let b = ap (λ (xs : List ℕ). length xs) e ∙ length-append field more in
          omega (arith, a, b, f.rest_len);
      more = λ s. absurd (runs_whole w n (fields w rs) (run_bytes w (last_run n rs)) s (goes_on_last w n rs h.are (omega arith) h.few));
      at = inl (run_bytes w (last_run n rs), goes_on_last w n rs h.are (omega arith) h.few, omega (arith, length-run_bytes w (last_run n rs), f.rest_len), omega (arith, f.len, f.rest_len));
    }

-- a run may not follow
pub fault_wrong : (w : Width) (n : ℕ) (bytes : List ℕ) (i left : ℕ) (last : Option ℤ) → IsBytes bytes → run_len w * i + run_len w ≤ length bytes
    → HasRead w n bytes i left last → ¬ MayFollow w left last (run_at w (drop (run_len w * i) bytes)) → IsFault (Spelled w n) bytes (run_len w * i)
fault_wrong w n bytes i left last fits long h wrong =
    let rs : List Run = runs_in w i bytes in
    let rest : List ℕ = drop (run_len w * i) bytes in
    let f = front_of w i bytes (omega arith) fits in
    let sum = h.sum in
    record {
      front = fields w rs;
      rest = rest;
      parts = f.parts;
      begins = runs_begin w n rs h.are (omega arith) h.few;
      ends = λ field goes (more, e).
          let few = h.few in
          let m = one_more w n (fields w rs) field goes in
          let same : m.before ≡ rs = follows w n rs field h.are (omega arith) m in
          let are : AreRuns w (rs ++ m.run ∷ m.after) = subst (λ (l : List Run). AreRuns w (l ++ m.run ∷ m.after)) same m.are in
          let inside = run_within w rs m.run m.after are in
          let count = ap total same in
          let most = m.sum in
          let is : run_at w rest ≡ m.run = ap (run_at w) (e ∙ ap (λ (xs : List ℕ). xs ++ more) (sym m.is)) ∙ run_at-spelled w m.run more (omega (arith, count, most)) inside.1 in
          wrong (subst (MayFollow w left last) (sym is) (record {
            some = inside.0;
            few = omega (arith, count, most);
            number = is_number w m.run.value inside.1;
            differs = λ same_. not_the_last w rs m.run.value m.run m.after (subst (LastIs rs) same_ h.last_is) are refl;
          }));
      more = λ s. omega (arith, f.rest_len);
      at = inr ((λ field goes. omega (arith, field_is w n (fields w rs) field goes, f.rest_len)), sym f.len);
    }

-- bytes follow the last run
pub fault_follows : (w : Width) (n : ℕ) (bytes : List ℕ) (i : ℕ) (last : Option ℤ) → IsBytes bytes → run_len w * i < length bytes → HasRead w n bytes i 0 last → IsFault (Spelled w n) bytes (run_len w * i)
fault_follows w n bytes i last fits lt h =
    let rs : List Run = runs_in w i bytes in
    let f = front_of w i bytes (omega arith) fits in
    let sum = h.sum in
    let whole : Spelled w n (fields w rs) = spelled_fields w n rs h.are (omega arith) h.few in
    record {
      front = fields w rs;
      rest = drop (run_len w * i) bytes;
      parts = f.parts;
      begins = runs_begin w n rs h.are (omega arith) h.few;
      ends = λ field goes stands. runs_whole w n (fields w rs) field whole goes;
      more = λ s. omega (arith, f.rest_len);
      at = inr ((λ field goes. absurd (runs_whole w n (fields w rs) field whole goes)), sym f.len);
    }
