-- Each line of an output text is of one form: a word, and numbers behind it.
use Rattle.std.proofs.Common.{◌≡◌, ℕ, zero, suc, ◌≤◌, true, List, [], ◌∷◌, ◌++◌, length, map, replicate, Option, Some, None, refl, sym, ap, subst, ◌∙◌, inl, inr, arith}
use Rattle.std.specs.Prelude.{codes, is_some}
use Rattle.std.specs.List.{flat_map, AllByRecursion}
use Rattle.std.specs.Fmt.{decimal}
use Rattle.std.proofs.lemmas.List.{append-nil, length-replicate}
use Rattle.std.proofs.lemmas.List.Elements.{All-from_recursion}
use Rattle.kt_history.specs.declared.change.Outcome.{Outcome}
use Rattle.kt_history.specs.declared.change.Outcome.TheVariants.{Done, Present, Absent, Ignored}
use Rattle.kt_history.specs.declared.event.Event.{Event}
use Rattle.kt_history.specs.declared.event.Event.TheVariants as event
use Rattle.kt_script.specs.declared.output.LastLine.{LastLine}
use Rattle.kt_script.specs.declared.output.LastLine.TheVariants as last
use Rattle.kt_script.specs.declared.replies.ReplyLine.{ReplyLine}
use Rattle.kt_script.specs.declared.replies.ReplyLine.TheVariants as reply
use Rattle.kt_script.specs.Texts.{spaced, words, outcome_word, line_words, line_numbers, event_words, last_words}
use Rattle.kt_script.specs.Laws.{Fits64, Fits32, LastFits, short_of_reply}
use Rattle.kt_script.specs.Outputs.{outcome_in, first_in, event_in, last_in, IsRowLine, LineHolds, EventHolds}
use Rattle.kt_script.specs.Reread.{with_rows}
use Rattle.kt_script.specs.Fronts.{Either, Chain, IsWord}
use Rattle.kt_script.specs.OutForms.{LONG, SHORT, IsWriteLine, IsNumbersLine, IsCounted, AreCounts, IsForm, IsOutcome, IsEventLine, IsLastLine, IsReplyLine}
use Rattle.kt_script.proofs.ToldLines.{first_is, event_is, last_is, outcome_is}
use Rattle.kt_script.proofs.ToldTexts.{first_back, event_back, last_told}

-- ---- a word and numbers

-- numbers up to these, of which something holds
abbrev Told : List ℕ → (List ℕ → Type 0) → Type 0
Told [] P = P []
Told (k ∷ ks) P = (n : ℕ) × (n ≤ k) × Told ks (λ ns. P (n ∷ ns))

count_of : (k : ℕ) (B : List ℕ → Type 0) (x : List ℕ) → Chain (IsCounted (32 ∷ []) k) B x → (n : ℕ) × (n ≤ k) × (rest : List ℕ) × B rest × (x ≡ (32 ∷ decimal n) ++ rest)
count_of k B x p = (p.2.3.0, p.2.3.1, p.1, p.3, p.4 ∙ ap (λ (w : List ℕ). w ++ p.1) (p.2.4 ∙ ap (λ (w : List ℕ). w ++ p.2.1) p.2.2 ∙ ap (λ (w : List ℕ). 32 ∷ w) p.2.3.2))

told : (ks x : List ℕ) (P : List ℕ → Type 0) → AreCounts ks x → ((ns : List ℕ) → x ≡ flat_map spaced (map decimal ns) → P ns) → Told ks P
told [] x P c f = f [] c
told (k ∷ ks) x P c f = let r = count_of k (AreCounts ks) x c in (r.0, r.1, told ks r.2 (λ ns. P (r.0 ∷ ns)) r.3 (λ ns e. f (r.0 ∷ ns) (r.4 ∙ ap (λ (w : List ℕ). (32 ∷ decimal r.0) ++ w) e)))

form_told : (w ks x : List ℕ) → IsForm w ks x → Told ks (λ ns. x ≡ words (w ∷ map decimal ns))
form_told w ks x p = told ks p.1 (λ ns. x ≡ words (w ∷ map decimal ns)) p.3 (λ ns e. p.4 ∙ ap (λ (v : List ℕ). v ++ p.1) p.2 ∙ ap (λ (v : List ℕ). w ++ v) e)

count_on : (n k : ℕ) (ks x : List ℕ) → n ≤ k → AreCounts ks x → AreCounts (k ∷ ks) ((32 ∷ decimal n) ++ x)
count_on n k ks x le c = (32 ∷ decimal n, x, (32 ∷ [], decimal n, refl, (n, le, refl), refl), c, refl)

form_of : (w ks x : List ℕ) → AreCounts ks x → IsForm w ks (w ++ x)
form_of w ks x c = (w, x, refl, c, refl)

short_le : (n : ℕ) → Fits32 n → n ≤ SHORT
short_le n h = omega arith

long_le : (n : ℕ) → Fits64 n → n ≤ LONG
long_le n h = omega arith

short_fits : (n : ℕ) → n ≤ SHORT → Fits32 n
short_fits n h = omega arith

short_64 : (n : ℕ) → n ≤ SHORT → Fits64 n
short_64 n h = omega arith

long_64 : (n : ℕ) → n ≤ LONG → Fits64 n
long_64 n h = omega arith

-- ---- events

abbrev pub AnEvent : List ℕ → Type 0
AnEvent x =
    Either (IsForm (codes "begin") (SHORT ∷ SHORT ∷ LONG ∷ LONG ∷ []))
    (Either (IsForm (codes "end") (SHORT ∷ SHORT ∷ LONG ∷ []))
    (Either (IsForm (codes "look") (SHORT ∷ SHORT ∷ LONG ∷ LONG ∷ []))
    (Either (IsForm (codes "rows") (SHORT ∷ SHORT ∷ LONG ∷ []))
    (Either (IsForm (codes "ancient") (SHORT ∷ SHORT ∷ LONG ∷ LONG ∷ []))
    (Either (IsForm (codes "busy") (SHORT ∷ SHORT ∷ LONG ∷ LONG ∷ []))
    (Either (IsForm (codes "mark") (SHORT ∷ SHORT ∷ LONG ∷ []))
    (Either (IsForm (codes "chore") (SHORT ∷ SHORT ∷ []))
    (Either (IsForm (codes "large") (SHORT ∷ SHORT ∷ SHORT ∷ []))
    (IsWord (codes "stop")))))))))) x

placed : (w : List ℕ) (s i : ℕ) (ks x : List ℕ) → Fits32 s → Fits32 i → AreCounts ks x → IsForm w (SHORT ∷ SHORT ∷ ks) (w ++ ((32 ∷ decimal s) ++ ((32 ∷ decimal i) ++ x)))
placed w s i ks x p q c = form_of w (SHORT ∷ SHORT ∷ ks) ((32 ∷ decimal s) ++ ((32 ∷ decimal i) ++ x)) (count_on s SHORT (SHORT ∷ ks) ((32 ∷ decimal i) ++ x) (short_le s p) (count_on i SHORT ks x (short_le i q) c))

one_count : (a k : ℕ) → a ≤ k → AreCounts (k ∷ []) ((32 ∷ decimal a) ++ [])
one_count a k p = count_on a k [] [] p refl

two_counts : (a b : ℕ) → Fits64 a → Fits64 b → AreCounts (LONG ∷ LONG ∷ []) ((32 ∷ decimal a) ++ ((32 ∷ decimal b) ++ []))
two_counts a b p q = count_on a LONG (LONG ∷ []) ((32 ∷ decimal b) ++ []) (long_le a p) (one_count b LONG (long_le b q))

event_form : (e : Event) → EventHolds e → AnEvent (words (event_words e))
event_form (event.Begin s i ts m) h = inl (placed (codes "begin") s i (LONG ∷ LONG ∷ []) _ h.short.0 h.short.1.0 (two_counts ts m h.numbers.1.1.0 h.numbers.1.1.1.0))
event_form (event.End s i ts) h = inr (inl (placed (codes "end") s i (LONG ∷ []) _ h.short.0 h.short.1.0 (one_count ts LONG (long_le ts h.numbers.1.1.0))))
event_form (event.Look s i t m) h = inr (inr (inl (placed (codes "look") s i (LONG ∷ LONG ∷ []) _ h.short.0 h.short.1.0 (two_counts t m h.numbers.1.1.0 h.numbers.1.1.1.0))))
event_form (event.Rows s i t) h = inr (inr (inr (inl (placed (codes "rows") s i (LONG ∷ []) _ h.short.0 h.short.1.0 (one_count t LONG (long_le t h.numbers.1.1.0))))))
event_form (event.Ancient s i t a) h = inr (inr (inr (inr (inl (placed (codes "ancient") s i (LONG ∷ LONG ∷ []) _ h.short.0 h.short.1.0 (two_counts t a h.numbers.1.1.0 h.numbers.1.1.1.0))))))
event_form (event.Busy s i t f) h = inr (inr (inr (inr (inr (inl (placed (codes "busy") s i (LONG ∷ LONG ∷ []) _ h.short.0 h.short.1.0 (two_counts t f h.numbers.1.1.0 h.numbers.1.1.1.0)))))))
event_form (event.Mark s i a) h = inr (inr (inr (inr (inr (inr (inl (placed (codes "mark") s i (LONG ∷ []) _ h.short.0 h.short.1.0 (one_count a LONG (long_le a h.numbers.1.1.0)))))))))
event_form (event.Chore s i) h = inr (inr (inr (inr (inr (inr (inr (inl (placed (codes "chore") s i [] [] h.short.0 h.short.1.0 refl))))))))
event_form (event.Large s i n) h = inr (inr (inr (inr (inr (inr (inr (inr (inl (placed (codes "large") s i (SHORT ∷ []) _ h.short.0 h.short.1.0 (one_count n SHORT (short_le n h.short.1.1.0)))))))))))
event_form event.Stop h = inr (inr (inr (inr (inr (inr (inr (inr (inr refl))))))))

pub some_of : {A : Type 0} (o : Option A) → is_some o ≡ true → (a : A) × (o ≡ Some a)
some_of None h = absurd cc
some_of (Some a) h = (a, refl)

pub event_forms : (x : List ℕ) → IsEventLine x → AnEvent x
event_forms x h = let e = some_of (event_in x) h in let p = event_is x e.0 e.1 in subst AnEvent (sym p.0) (event_form e.0 p.1)

says : (e : Event) (x : List ℕ) → EventHolds e → x ≡ words (event_words e) → IsEventLine x
says e x h is = ap (λ (t : List ℕ). is_some (event_in t)) is ∙ ap is_some (event_back e h)

pub event_read : (x : List ℕ) → AnEvent x → IsEventLine x
event_read x (inl p) =
    let r = form_told (codes "begin") (SHORT ∷ SHORT ∷ LONG ∷ LONG ∷ []) x p in
    says (event.Begin r.0 r.2.0 r.2.2.0 r.2.2.2.0) x (record { numbers = (short_64 r.0 r.1, (short_64 r.2.0 r.2.1, (long_64 r.2.2.0 r.2.2.1, (long_64 r.2.2.2.0 r.2.2.2.1, tt)))); short = (short_fits r.0 r.1, (short_fits r.2.0 r.2.1, tt)) }) r.2.2.2.2
event_read x (inr (inl p)) =
    let r = form_told (codes "end") (SHORT ∷ SHORT ∷ LONG ∷ []) x p in
    says (event.End r.0 r.2.0 r.2.2.0) x (record { numbers = (short_64 r.0 r.1, (short_64 r.2.0 r.2.1, (long_64 r.2.2.0 r.2.2.1, tt))); short = (short_fits r.0 r.1, (short_fits r.2.0 r.2.1, tt)) }) r.2.2.2
event_read x (inr (inr (inl p))) =
    let r = form_told (codes "look") (SHORT ∷ SHORT ∷ LONG ∷ LONG ∷ []) x p in
    says (event.Look r.0 r.2.0 r.2.2.0 r.2.2.2.0) x (record { numbers = (short_64 r.0 r.1, (short_64 r.2.0 r.2.1, (long_64 r.2.2.0 r.2.2.1, (long_64 r.2.2.2.0 r.2.2.2.1, tt)))); short = (short_fits r.0 r.1, (short_fits r.2.0 r.2.1, tt)) }) r.2.2.2.2
event_read x (inr (inr (inr (inl p)))) =
    let r = form_told (codes "rows") (SHORT ∷ SHORT ∷ LONG ∷ []) x p in
    says (event.Rows r.0 r.2.0 r.2.2.0) x (record { numbers = (short_64 r.0 r.1, (short_64 r.2.0 r.2.1, (long_64 r.2.2.0 r.2.2.1, tt))); short = (short_fits r.0 r.1, (short_fits r.2.0 r.2.1, tt)) }) r.2.2.2
event_read x (inr (inr (inr (inr (inl p))))) =
    let r = form_told (codes "ancient") (SHORT ∷ SHORT ∷ LONG ∷ LONG ∷ []) x p in
    says (event.Ancient r.0 r.2.0 r.2.2.0 r.2.2.2.0) x (record { numbers = (short_64 r.0 r.1, (short_64 r.2.0 r.2.1, (long_64 r.2.2.0 r.2.2.1, (long_64 r.2.2.2.0 r.2.2.2.1, tt)))); short = (short_fits r.0 r.1, (short_fits r.2.0 r.2.1, tt)) }) r.2.2.2.2
event_read x (inr (inr (inr (inr (inr (inl p)))))) =
    let r = form_told (codes "busy") (SHORT ∷ SHORT ∷ LONG ∷ LONG ∷ []) x p in
    says (event.Busy r.0 r.2.0 r.2.2.0 r.2.2.2.0) x (record { numbers = (short_64 r.0 r.1, (short_64 r.2.0 r.2.1, (long_64 r.2.2.0 r.2.2.1, (long_64 r.2.2.2.0 r.2.2.2.1, tt)))); short = (short_fits r.0 r.1, (short_fits r.2.0 r.2.1, tt)) }) r.2.2.2.2
event_read x (inr (inr (inr (inr (inr (inr (inl p))))))) =
    let r = form_told (codes "mark") (SHORT ∷ SHORT ∷ LONG ∷ []) x p in
    says (event.Mark r.0 r.2.0 r.2.2.0) x (record { numbers = (short_64 r.0 r.1, (short_64 r.2.0 r.2.1, (long_64 r.2.2.0 r.2.2.1, tt))); short = (short_fits r.0 r.1, (short_fits r.2.0 r.2.1, tt)) }) r.2.2.2
event_read x (inr (inr (inr (inr (inr (inr (inr (inl p)))))))) =
    let r = form_told (codes "chore") (SHORT ∷ SHORT ∷ []) x p in
    says (event.Chore r.0 r.2.0) x (record { numbers = (short_64 r.0 r.1, (short_64 r.2.0 r.2.1, tt)); short = (short_fits r.0 r.1, (short_fits r.2.0 r.2.1, tt)) }) r.2.2
event_read x (inr (inr (inr (inr (inr (inr (inr (inr (inl p))))))))) =
    let r = form_told (codes "large") (SHORT ∷ SHORT ∷ SHORT ∷ []) x p in
    says (event.Large r.0 r.2.0 r.2.2.0) x (record { numbers = (short_64 r.0 r.1, (short_64 r.2.0 r.2.1, (short_64 r.2.2.0 r.2.2.1, tt))); short = (short_fits r.0 r.1, (short_fits r.2.0 r.2.1, (short_fits r.2.2.0 r.2.2.1, tt))) }) r.2.2.2
event_read x (inr (inr (inr (inr (inr (inr (inr (inr (inr p))))))))) = says event.Stop x (record { numbers = tt; short = tt }) p

-- ---- the last line

abbrev pub ALast : List ℕ → Type 0
ALast x = Either IsNumbersLine (IsWord (codes "tablet stopped")) x

counted : (before : List ℕ) (n : ℕ) → Fits64 n → IsCounted before LONG (before ++ decimal n)
counted before n h = (before, decimal n, refl, (n, long_le n h, refl), refl)

counted_of : (before x : List ℕ) → IsCounted before LONG x → (n : ℕ) × Fits64 n × (x ≡ before ++ decimal n)
counted_of before x p = (p.3.0, long_64 p.3.0 p.3.1, p.4 ∙ ap (λ (w : List ℕ). w ++ p.1) p.2 ∙ ap (λ (w : List ℕ). before ++ w) p.3.2)

last_form : (end : LastLine) → LastFits end → ALast (words (last_words end))
last_form (last.Numbers a c rowsets) h =
    inl (
      codes "tablet ahm " ++ decimal a,
      (codes " last " ++ decimal c) ++ (codes " rowsets " ++ decimal rowsets),
      counted (codes "tablet ahm ") a h.0,
      (codes " last " ++ decimal c, codes " rowsets " ++ decimal rowsets, counted (codes " last ") c h.1, counted (codes " rowsets ") rowsets h.2, refl),
      ap (λ (w : List ℕ). codes "tablet ahm " ++ (decimal a ++ (codes " last " ++ (decimal c ++ (codes " rowsets " ++ w))))) (append-nil (decimal rowsets)),
    )
last_form last.Stopped h = inr refl

pub last_forms : (x : List ℕ) → IsLastLine x → ALast x
last_forms x h = let e = some_of (last_in x) h in let p = last_is x e.0 e.1 in subst ALast (sym p.0) (last_form e.0 p.1)

ends : (end : LastLine) (x : List ℕ) → LastFits end → x ≡ words (last_words end) → IsLastLine x
ends end x h is = ap (λ (t : List ℕ). is_some (last_in t)) is ∙ ap is_some (last_told end h)

pub last_read : (x : List ℕ) → ALast x → IsLastLine x
last_read x (inl p) =
    let a = counted_of (codes "tablet ahm ") p.0 p.2 in
    let c = counted_of (codes " last ") p.3.0 p.3.2 in
    let r = counted_of (codes " rowsets ") p.3.1 p.3.3 in
    ends (last.Numbers a.0 c.0 r.0) x (a.1, c.1, r.1)
    (p.4 ∙ ap (λ (w : List ℕ). w ++ p.1) a.2 ∙ ap (λ (w : List ℕ). (codes "tablet ahm " ++ decimal a.0) ++ w) (p.3.4 ∙ ap (λ (w : List ℕ). w ++ p.3.1) c.2 ∙ ap (λ (w : List ℕ). (codes " last " ++ decimal c.0) ++ w) r.2)
    ∙ ap (λ (w : List ℕ). codes "tablet ahm " ++ (decimal a.0 ++ (codes " last " ++ (decimal c.0 ++ (codes " rowsets " ++ w))))) (sym (append-nil (decimal r.0))))
last_read x (inr p) = ends last.Stopped x tt p

-- ---- the first line of a reply

abbrev pub AReply : List ℕ → Type 0
AReply x =
    Either (IsForm (codes "rows") (LONG ∷ LONG ∷ []))
    (Either (IsForm (codes "ancient") (LONG ∷ LONG ∷ []))
    (Either (IsForm (codes "busy") (LONG ∷ LONG ∷ []))
    (Either (IsForm (codes "ahm") (LONG ∷ []))
    (Either (IsForm (codes "large") (SHORT ∷ []))
    (Either (IsWord (codes "done"))
    (Either (IsWord (codes "stopped"))
    IsWriteLine)))))) x

reply_form : (r : ReplyLine) → LineHolds r → AReply (words (line_words r))
reply_form (reply.At ts os) h = inr (inr (inr (inr (inr (inr (inr (codes "at " ++ decimal ts, flat_map spaced (map outcome_word os), counted (codes "at ") ts h.numbers.0, (os, refl), refl)))))))
reply_form (reply.Rows t lines) h = inl (form_of (codes "rows") (LONG ∷ LONG ∷ []) _ (two_counts t (length lines) h.numbers.0 h.numbers.1.0))
reply_form (reply.Ancient t a) h = inr (inl (form_of (codes "ancient") (LONG ∷ LONG ∷ []) _ (two_counts t a h.numbers.0 h.numbers.1.0)))
reply_form (reply.Busy t f) h = inr (inr (inl (form_of (codes "busy") (LONG ∷ LONG ∷ []) _ (two_counts t f h.numbers.0 h.numbers.1.0))))
reply_form (reply.Ahm a) h = inr (inr (inr (inl (form_of (codes "ahm") (LONG ∷ []) _ (one_count a LONG (long_le a h.numbers.0))))))
reply_form (reply.Large n) h = inr (inr (inr (inr (inl (form_of (codes "large") (SHORT ∷ []) _ (one_count n SHORT (short_le n h.short.0)))))))
reply_form reply.Done h = inr (inr (inr (inr (inr (inl refl)))))
reply_form reply.Stopped h = inr (inr (inr (inr (inr (inr (inl refl))))))

-- so many rows
pub zeros : (n : ℕ) → AllByRecursion IsRowLine (replicate n (codes "0"))
zeros zero = tt
zeros (suc n) = ((All-from_recursion (λ b. ¬ (b ≡ 10)) (codes "0") ((λ e. omega (arith, e)), tt), refl), zeros n)

pub reply_forms : (x : List ℕ) → IsReplyLine x → AReply x
reply_forms x h =
    let f = some_of (first_in x) h in
    let lines : List (List ℕ) = replicate f.0.due (codes "0") in
    let p = first_is x f.0 f.1 lines (length-replicate f.0.due (codes "0")) (zeros f.0.due) in
    subst AReply (sym p.text_is) (reply_form (with_rows f.0.reply lines) p.holds)

begins : (r : ReplyLine) (x : List ℕ) → AllByRecursion Fits64 (line_numbers r) → AllByRecursion Fits32 (short_of_reply r) → x ≡ words (line_words r) → IsReplyLine x
begins r x p q is = ap (λ (t : List ℕ). is_some (first_in t)) is ∙ ap is_some (first_back r p q)

pub reply_read : (x : List ℕ) → AReply x → IsReplyLine x
reply_read x (inl p) =
    let r = form_told (codes "rows") (LONG ∷ LONG ∷ []) x p in
    let size : length (replicate r.2.0 (codes "0")) ≡ r.2.0 = length-replicate r.2.0 (codes "0") in
    begins (reply.Rows r.0 (replicate r.2.0 (codes "0"))) x (long_64 r.0 r.1, (subst Fits64 (sym size) (long_64 r.2.0 r.2.1), tt)) tt (r.2.2 ∙ ap (λ k. words (codes "rows" ∷ decimal r.0 ∷ decimal k ∷ [])) (sym size))
reply_read x (inr (inl p)) = let r = form_told (codes "ancient") (LONG ∷ LONG ∷ []) x p in begins (reply.Ancient r.0 r.2.0) x (long_64 r.0 r.1, (long_64 r.2.0 r.2.1, tt)) tt r.2.2
reply_read x (inr (inr (inl p))) = let r = form_told (codes "busy") (LONG ∷ LONG ∷ []) x p in begins (reply.Busy r.0 r.2.0) x (long_64 r.0 r.1, (long_64 r.2.0 r.2.1, tt)) tt r.2.2
reply_read x (inr (inr (inr (inl p)))) = let r = form_told (codes "ahm") (LONG ∷ []) x p in begins (reply.Ahm r.0) x (long_64 r.0 r.1, tt) tt r.2
reply_read x (inr (inr (inr (inr (inl p))))) = let r = form_told (codes "large") (SHORT ∷ []) x p in begins (reply.Large r.0) x (short_64 r.0 r.1, tt) (short_fits r.0 r.1, tt) r.2
reply_read x (inr (inr (inr (inr (inr (inl p)))))) = begins reply.Done x tt tt p
reply_read x (inr (inr (inr (inr (inr (inr (inl p))))))) = begins reply.Stopped x tt tt p
reply_read x (inr (inr (inr (inr (inr (inr (inr p))))))) =
    let a = counted_of (codes "at ") p.0 p.2 in
    begins (reply.At a.0 p.3.0) x (a.1, tt) tt (p.4 ∙ ap (λ (w : List ℕ). w ++ p.1) a.2 ∙ ap (λ (w : List ℕ). (codes "at " ++ decimal a.0) ++ w) p.3.1)

-- ---- outcomes

abbrev pub AnOutcome : List ℕ → Type 0
AnOutcome x = Either (IsWord (codes "ok")) (Either (IsWord (codes "present")) (Either (IsWord (codes "absent")) (IsWord (codes "ignored")))) x

pub outcome_forms : (x : List ℕ) → IsOutcome x → AnOutcome x
outcome_forms x h = let o = some_of (outcome_in x) h in subst AnOutcome (sym (outcome_is x o.0 o.1)) (form o.0)
  where
    form : (o : Outcome) → AnOutcome (outcome_word o)
    form Done = inl refl
    form Present = inr (inl refl)
    form Absent = inr (inr (inl refl))
    form Ignored = inr (inr (inr refl))

pub outcome_read : (x : List ℕ) → AnOutcome x → IsOutcome x
outcome_read x (inl p) = ap (λ (t : List ℕ). is_some (outcome_in t)) p
outcome_read x (inr (inl p)) = ap (λ (t : List ℕ). is_some (outcome_in t)) p
outcome_read x (inr (inr (inl p))) = ap (λ (t : List ℕ). is_some (outcome_in t)) p
outcome_read x (inr (inr (inr p))) = ap (λ (t : List ℕ). is_some (outcome_in t)) p
