-- The replies of each session beside its commands.
use Rattle.std.proofs.Common.{◌≡◌, ℕ, suc, ◌+◌, ◌<◌, ◌≤◌, List, [], ◌∷◌, ◌++◌, Option, Some, None, refl, sym, ap, ◌∙◌, arith, add-one, subst, length, map, get_or, drop, take, drop-cons, append_assoc}
use mathlib.Core.List.{append-nil}
use Rattle.std.specs.List.{flat_map}
use Rattle.std.specs.Prelude.{slice_get, unwrap_or, MatchOption, All}
use Rattle.std.proofs.Math.Seq.{take-suc}
use Rattle.std.proofs.lemmas.List.{drop_all}
use Rattle.std.proofs.lemmas.List.Elements.{All-push, All-cons}
use Rattle.kt_base.specs.declared.cell.Kind.{Kind}
use Rattle.kt_history.specs.declared.command.Command.{Command}
use Rattle.kt_history.specs.declared.reply.Reply.{Reply}
use Rattle.kt_history.specs.declared.reply.Reply.TheVariants as reply
use Rattle.kt_history.specs.Machine.{Workload, nth}
use Rattle.kt_script.specs.declared.lists.ShownReply.{ShownReply}
use Rattle.kt_script.specs.Texts.{lines_text, told_session, told_sessions, seen, seen_of}
use Rattle.kt_app.specs.Headline.{kinds_shown, shown_from, all_shown}
use Rattle.kt_app.specs.Played.{reply_in, given}

-- the first of some replies, and stopped where there is none; and those behind it
abbrev pub first_reply : List Reply → Reply
first_reply [] = reply.Stopped
first_reply (r ∷ replies) = r

abbrev pub behind : {A : Type 0} → List A → List A
behind [] = []
behind (x ∷ xs) = xs

abbrev pub zipped : Workload → List Command → List Reply → List ShownReply
zipped work [] replies = []
zipped work (c ∷ commands) replies = record { kinds = kinds_shown work c; reply = first_reply replies } ∷ zipped work commands (behind replies)

abbrev pub first_list : List (List Reply) → List Reply
first_list [] = []
first_list (rs ∷ replies) = rs

abbrev pub zipped_all : Workload → List (List Command) → List (List Reply) → List (List ShownReply)
zipped_all work [] replies = []
zipped_all work (commands ∷ plan) replies = zipped work commands (first_list replies) ∷ zipped_all work plan (behind replies)

behind_get : {A : Type 0} (xs : List A) (k : ℕ) → slice_get (behind xs) k ≡ slice_get xs (suc k)
behind_get [] k = refl
behind_get (x ∷ xs) k = refl

first_get : (replies : List Reply) → unwrap_or (slice_get replies 0) reply.Stopped ≡ first_reply replies
first_get [] = refl
first_get (r ∷ replies) = refl

pub zipped_is : (work : Workload) (f : ℕ → Option Reply) (i : ℕ) (commands : List Command) (replies : List Reply) → ((k : ℕ) → f (i + k) ≡ slice_get replies k) → shown_from work f i commands ≡ zipped work commands replies
zipped_is work f i [] replies h = refl
zipped_is work f i (c ∷ commands) replies h =
    let here : i + 0 ≡ i = omega arith in
    let first : unwrap_or (f i) reply.Stopped ≡ first_reply replies = ap (λ n. unwrap_or (f n) reply.Stopped) (sym here) ∙ ap (λ o. unwrap_or o reply.Stopped) (h 0) ∙ first_get replies in
    let rest = zipped_is work f (i + 1) commands (behind replies) (λ k. (let next : (i + 1) + k ≡ i + suc k = omega arith in ap f next) ∙ h (suc k) ∙ sym (behind_get replies k)) in
    λ t. record { kinds = kinds_shown work c; reply = first t } ∷ rest t

one_list : (replies : List (List Reply)) (k : ℕ) → reply_in (slice_get replies 0) (1 + k) ≡ slice_get (first_list replies) k
one_list [] k = refl
one_list (rs ∷ replies) k = let next : 1 + k ≡ suc k = omega arith in ap (nth rs) next

pub zipped_all_is : (work : Workload) (f : ℕ → ℕ → Option Reply) (s : ℕ) (plan : List (List Command)) (replies : List (List Reply)) → ((j k : ℕ) → f (s + j) k ≡ reply_in (slice_get replies j) k) → all_shown work f s plan ≡ zipped_all work plan replies
zipped_all_is work f s [] replies h = refl
zipped_all_is work f s (commands ∷ plan) replies h =
    let here : s + 0 ≡ s = omega arith in
    let first = zipped_is work (f s) 1 commands (first_list replies) (λ k. ap (λ n. f n (1 + k)) (sym here) ∙ h 0 (1 + k) ∙ one_list replies k) in
    let rest = zipped_all_is work f (s + 1) plan (behind replies) (λ j k. (let next : (s + 1) + j ≡ s + suc j = omega arith in ap (λ n. f n k) next) ∙ h (suc j) k ∙ ap (λ o. reply_in o k) (sym (behind_get replies j))) in
    λ t. first t ∷ rest t

pub session_is : (work : Workload) (commands : List Command) (replies : List Reply) → zipped work commands replies ≡ shown_from work (reply_in (Some replies)) 1 commands
session_is work commands replies = sym (zipped_is work (reply_in (Some replies)) 1 commands replies (λ k. let next : 1 + k ≡ suc k = omega arith in ap (nth replies) next))

pub sessions_are : (work : Workload) (plan : List (List Command)) (replies : List (List Reply)) → zipped_all work plan replies ≡ all_shown work (given replies) 1 plan
sessions_are work plan replies = sym (zipped_all_is work (given replies) 1 plan replies (λ j k. let next : 1 + j ≡ suc j = omega arith in ap (λ n. given replies n k) next))

-- ---- one step of a list that is used up

one_first : (o : Option Reply) (old new : List Reply) (n m : ℕ) → n ≡ length old → m ≡ length new → MatchOption o ((n ≡ 0) × (m ≡ 0)) (λ x. (old ≡ x ∷ new) × (m + 1 ≡ n)) → (unwrap_or o reply.Stopped ≡ first_reply old) × (behind old ≡ new)
one_first (Some x) old new n m is_n is_m h = (ap first_reply (sym h.0), ap behind h.0)
one_first None [] [] n m is_n is_m h = (refl, refl)
one_first None [] (y ∷ new) n m is_n is_m h = absurd (omega (arith, is_m, h.1))
one_first None (x ∷ old) new n m is_n is_m h = absurd (omega (arith, is_n, h.0))

one_first_list : (o : Option (List Reply)) (old new : List (List Reply)) (n m : ℕ) → n ≡ length old → m ≡ length new → MatchOption o ((n ≡ 0) × (m ≡ 0)) (λ x. (old ≡ x ∷ new) × (m + 1 ≡ n)) → (unwrap_or o [] ≡ first_list old) × (behind old ≡ new)
one_first_list (Some x) old new n m is_n is_m h = (ap first_list (sym h.0), ap behind h.0)
one_first_list None [] [] n m is_n is_m h = (refl, refl)
one_first_list None [] (y ∷ new) n m is_n is_m h = absurd (omega (arith, is_m, h.1))
one_first_list None (x ∷ old) new n m is_n is_m h = absurd (omega (arith, is_n, h.0))

dropped : {A : Type 0} (xs : List A) (k : ℕ) (x : A) → k < length xs → x ≡ get_or xs k x → drop k xs ≡ x ∷ drop (k + 1) xs
dropped xs k x below is = drop-cons xs k x below ∙ (λ t. sym is t ∷ drop (sym (add-one k) t) xs)

-- ---- what is printed of them

-- the lines of a session
abbrev pub told : Workload → List Command → List Reply → List ℕ
told work commands replies = flat_map lines_text (map seen (zipped work commands replies))

-- and of all, numbered from this one on
abbrev pub told_all : ℕ → Workload → List (List Command) → List (List Reply) → List ℕ
told_all number work plan replies = told_sessions number (map (map seen) (zipped_all work plan replies))

pub begun : (old head out rest : List ℕ) → out ≡ old ++ head → out ++ rest ≡ old ++ (head ++ rest)
begun old head out rest is = ap (λ l. l ++ rest) is ∙ append_assoc old head rest

module _ (work : Workload) (commands : List Command) (k : ℕ) (c : Command) (old new : List Reply) (o : Option Reply) (n m : ℕ) (kinds : List Kind) (r : Reply) (below : k < length commands) (is : c ≡ get_or commands k c)
    (is_n : n ≡ length old) (is_m : m ≡ length new) (cases : MatchOption o ((n ≡ 0) × (m ≡ 0)) (λ x. (old ≡ x ∷ new) × (m + 1 ≡ n))) (kinds_are : kinds ≡ kinds_shown work c) (its : r ≡ unwrap_or o reply.Stopped) where
  first_shown : zipped work (drop k commands) old ≡ record { kinds = kinds; reply = r } ∷ zipped work (drop (k + 1) commands) new
  first_shown =
      let step = one_first o old new n m is_n is_m cases in
      let reply_is = its ∙ step.0 in
      ap (λ l. zipped work l old) (dropped commands k c below is) ∙ (λ t. record { kinds = sym kinds_are t; reply = sym reply_is t } ∷ zipped work (drop (k + 1) commands) (step.1 t))

  pub told_step : (out after total : List ℕ) → after ≡ out ++ lines_text (seen_of kinds r) → out ++ told work (drop k commands) old ≡ total → after ++ told work (drop (k + 1) commands) new ≡ total
  told_step out after total printed h =
      ap (λ l. l ++ told work (drop (k + 1) commands) new) printed ∙ append_assoc out (lines_text (seen_of kinds r)) (told work (drop (k + 1) commands) new)
      ∙ ap (λ (l : List ShownReply). out ++ flat_map lines_text (map seen l)) (sym first_shown) ∙ h

  pub fits_step : (P : ShownReply → Type 0) → P (record { kinds = kinds; reply = r }) → All P (zipped work (drop (k + 1) commands) new) → All P (zipped work (drop k commands) old)
  fits_step P one rest = subst (All P) (sym first_shown) (All-cons P (record { kinds = kinds; reply = r }) (zipped work (drop (k + 1) commands) new) one rest)

pub fits_end : (P : ShownReply → Type 0) (work : Workload) (commands : List Command) (k : ℕ) (rest : List Reply) → length commands ≤ k → All P (zipped work (drop k commands) rest)
fits_end P work commands k rest end = subst (λ (l : List Command). All P (zipped work l rest)) (sym (drop_all k commands end)) (λ i d lt. absurd (omega arith))

module _ (work : Workload) (plan : List (List Command)) (k : ℕ) (c cs : List Command) (old new : List (List Reply)) (o : Option (List Reply)) (rs : List Reply) (n m : ℕ) (below : k < length plan) (is : c ≡ get_or plan k c)
    (is_n : n ≡ length old) (is_m : m ≡ length new) (cases : MatchOption o ((n ≡ 0) × (m ≡ 0)) (λ x. (old ≡ x ∷ new) × (m + 1 ≡ n))) (same : cs ≡ c) (its : rs ≡ unwrap_or o []) where
  first_session : zipped_all work (drop k plan) old ≡ shown_from work (reply_in (Some rs)) 1 cs ∷ zipped_all work (drop (k + 1) plan) new
  first_session =
      let step = one_first_list o old new n m is_n is_m cases in
      let first_is = sym (session_is work cs rs) ∙ (λ t. zipped work (same t) ((its ∙ step.0) t)) in
      ap (λ l. zipped_all work l old) (dropped plan k c below is) ∙ (λ t. sym first_is t ∷ zipped_all work (drop (k + 1) plan) (step.1 t))

  pub told_all_step : (out after total : List ℕ) → after ≡ out ++ told_session (k + 1) (map seen (shown_from work (reply_in (Some rs)) 1 cs)) → out ++ told_all (k + 1) work (drop k plan) old ≡ total → after ++ told_all (k + 1 + 1) work (drop (k + 1) plan) new ≡ total
  told_all_step out after total printed h =
      let session : List ℕ = told_session (k + 1) (map seen (shown_from work (reply_in (Some rs)) 1 cs)) in
      let next : k + 1 + 1 ≡ suc (k + 1) = omega arith in
      ap (λ l. l ++ told_all (k + 1 + 1) work (drop (k + 1) plan) new) printed ∙ append_assoc out session (told_all (k + 1 + 1) work (drop (k + 1) plan) new)
      ∙ ap (λ (i : ℕ). out ++ (session ++ told_all i work (drop (k + 1) plan) new)) next
      ∙ ap (λ (l : List (List ShownReply)). out ++ told_sessions (k + 1) (map (map seen) l)) (sym first_session) ∙ h

  pub all_fit_step : (P : List ShownReply → Type 0) → P (shown_from work (reply_in (Some rs)) 1 cs) → All P (zipped_all work (drop (k + 1) plan) new) → All P (zipped_all work (drop k plan) old)
  all_fit_step P one rest = subst (All P) (sym first_session) (All-cons P (shown_from work (reply_in (Some rs)) 1 cs) (zipped_all work (drop (k + 1) plan) new) one rest)

pub all_fit_end : (P : List ShownReply → Type 0) (work : Workload) (plan : List (List Command)) (k : ℕ) (rest : List (List Reply)) → length plan ≤ k → All P (zipped_all work (drop k plan) rest)
all_fit_end P work plan k rest end = subst (λ (l : List (List Command)). All P (zipped_all work l rest)) (sym (drop_all k plan end)) (λ i d lt. absurd (omega arith))

-- a list of replies for each session
pub count_shown : (work : Workload) (f : ℕ → ℕ → Option Reply) (s : ℕ) (plan : List (List Command)) → length (all_shown work f s plan) ≡ length plan
count_shown work f s [] = refl
count_shown work f s (commands ∷ plan) = ap (λ n. suc n) (count_shown work f (s + 1) plan)

pub all_shown_now : {A B : Type 0} (f : List A → List B) (none : f [] ≡ []) (xs : List A) (k : ℕ) (shown total : List B) → length xs ≤ k → shown ++ f (drop k xs) ≡ total → shown ≡ total
all_shown_now f none xs k shown total all h = sym (append-nil shown) ∙ ap (λ l. shown ++ l) (sym (ap f (drop_all k xs all) ∙ none)) ∙ h

pub all_more : {A : Type 0} (P : A → Type 0) (xs : List A) (k : ℕ) (d : A) → k < length xs → All P (take k xs) → P (get_or xs k d) → All P (take (k + 1) xs)
all_more P xs k d below all one = subst (All P) (sym (ap (λ n. take n xs) (add-one k) ∙ take-suc xs k d below)) (All-push P (take k xs) (get_or xs k d) all one)
