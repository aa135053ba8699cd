-- Calls whose bytes stand in one buffer, as bytes and calls are added.
use Rattle.std.proofs.Common.{◌≡◌, ℕ, ◌+◌, ◌-◌, ◌≤◌, List, [], ◌∷◌, ◌++◌, length, take, drop, map, refl, sym, ap, ◌∙◌, subst, arith, length-append}
use Rattle.std.specs.List.{All}
use Rattle.std.proofs.lemmas.List.{take_all, take_at, drop_at, take-append-le, drop-append-le, length-drop, length-map, map-append, take-map}
use Rattle.std.proofs.lemmas.List.Elements.{All-head, All-tail, All-push, All-weaker}
use Rattle.kt_disk.specs.declared.event.Event.{Event}
use Rattle.kt_disk.specs.declared.event.Change.{Change}
use Rattle.kt_disk.specs.declared.event.Change.TheVariants as change
use Rattle.kt_disk.specs.declared.calls.Plain.{Plain}
use Rattle.kt_disk.specs.declared.calls.Deed.{Deed}
use Rattle.kt_disk.specs.declared.calls.Deed.TheVariants as deed
use Rattle.kt_disk.specs.declared.calls.Call.{Call}
use Rattle.kt_disk.specs.Noted.{change_of, change_in, event_in, IsWithin, LiesIn}

-- what was written stays as it is when bytes are added
change_more : (bytes more : List ℕ) (d : Deed) → IsWithin (length bytes) d → change_in (bytes ++ more) d ≡ change_in bytes d
change_more bytes more (deed.Write at from len) h =
    let front : from ≤ length bytes = omega (arith, h) in
    let room : len ≤ length (drop from bytes) = omega (arith, h, length-drop from bytes) in
    rw (drop-append-le from bytes more front) (rw (take-append-le len (drop from bytes) more room) refl)
change_more bytes more (deed.Plain p) h = refl

pub events_more : (bytes more : List ℕ) (calls : List Call) → All (LiesIn (length bytes)) calls → map (event_in (bytes ++ more)) calls ≡ map (event_in bytes) calls
events_more bytes more [] h = refl
events_more bytes more (c ∷ calls) h =
    ap (λ (x : Change). record { file = c.file; change = x } ∷ map (event_in (bytes ++ more)) calls) (change_more bytes more c.deed (All-head (LiesIn (length bytes)) c calls h))
    ∙ ap (λ (es : List Event). event_in bytes c ∷ es) (events_more bytes more calls (All-tail (LiesIn (length bytes)) c calls h))

within_more : (n m : ℕ) (d : Deed) → n ≤ m → IsWithin n d → IsWithin m d
within_more n m (deed.Write at from len) le h = omega (arith, h)
within_more n m (deed.Plain p) le h = tt

-- ---- one call more

-- a call that wrote no bytes
pub all_plain : (bytes : List ℕ) (file : ℕ) (p : Plain) (calls calls' : List Call) → calls' ≡ calls ++ record { file = file; deed = deed.Plain p } ∷ [] → All (LiesIn (length bytes)) calls → All (LiesIn (length bytes)) calls'
all_plain bytes file p calls calls' is h = subst (All (LiesIn (length bytes))) (sym is) (All-push (LiesIn (length bytes)) calls (record { file = file; deed = deed.Plain p }) h tt)

pub events_plain : (bytes : List ℕ) (file : ℕ) (p : Plain) (calls calls' : List Call) (events : List Event) → map (event_in bytes) calls ≡ events → calls' ≡ calls ++ record { file = file; deed = deed.Plain p } ∷ []
    → map (event_in bytes) calls' ≡ events ++ record { file = file; change = change_of p } ∷ []
events_plain bytes file p calls calls' events view is =
    let call : Call = record { file = file; deed = deed.Plain p } in
    ap (map (event_in bytes)) is ∙ (map-append (event_in bytes) calls (call ∷ []) ∙ ap (λ (es : List Event). es ++ event_in bytes call ∷ []) view)

-- a write
module _ (bytes text bytes' : List ℕ) (file at from len : ℕ) (begins : from ≡ length bytes) (is : len ≡ length text) (more : bytes' ≡ bytes ++ text) where
  abbrev call : Call
  call = record { file = file; deed = deed.Write at from len }

  total : length bytes' ≡ length bytes + length text
  total = ap length more ∙ length-append bytes text

  written : take len (drop from bytes') ≡ text
  written = rw (more, drop_at bytes text from (sym begins)) (take_all len text (omega (arith, is)))

  pub all_written : (calls calls' : List Call) → calls' ≡ calls ++ call ∷ [] → All (LiesIn (length bytes)) calls → All (LiesIn (length bytes')) calls'
  all_written calls calls' with' h =
      subst (All (LiesIn (length bytes'))) (sym with')
      (All-push (LiesIn (length bytes')) calls call
      (All-weaker (LiesIn (length bytes)) (LiesIn (length bytes')) (λ c is_in. within_more (length bytes) (length bytes') c.deed (omega (arith, total)) is_in) calls h)
      (omega (arith, begins, is, total)))

  pub events_written : (calls calls' : List Call) (events : List Event) → map (event_in bytes) calls ≡ events → calls' ≡ calls ++ call ∷ [] → All (LiesIn (length bytes)) calls
      → map (event_in bytes') calls' ≡ events ++ record { file = file; change = change.Write at text } ∷ []
  events_written calls calls' events view with' h =
      let before : map (event_in bytes') calls ≡ events = ap (λ (l : List ℕ). map (event_in l) calls) more ∙ (events_more bytes text calls h ∙ view) in
      ap (map (event_in bytes')) with' ∙ (map-append (event_in bytes') calls (call ∷ [])
      ∙ (ap (λ (es : List Event). es ++ event_in bytes' call ∷ []) before
      ∙ ap (λ (l : List ℕ). events ++ record { file = file; change = change.Write at l } ∷ []) written))

-- ---- one call fewer

pub events_but_last : (bytes : List ℕ) (calls calls' : List Call) (events : List Event) (n : ℕ) → n ≡ length calls → calls' ≡ take (n - 1) calls → map (event_in bytes) calls ≡ events → map (event_in bytes) calls' ≡ take (length events - 1) events
events_but_last bytes calls calls' events n many is view =
    let same : n - 1 ≡ length events - 1 = omega (arith, many, ap length view, length-map calls (event_in bytes)) in
    ap (map (event_in bytes)) is
    ∙ (sym (take-map (event_in bytes) (n - 1) calls)
    ∙ (ap (λ (k : ℕ). take k (map (event_in bytes) calls)) same ∙ ap (λ (es : List Event). take (length events - 1) es) view))

-- all but the one that was added last
pub all_but_last : (calls : List Event) (e : Event) → take (length (calls ++ e ∷ []) - 1) (calls ++ e ∷ []) ≡ calls
all_but_last calls e =
    let n : length (calls ++ e ∷ []) - 1 ≡ length calls = omega (arith, length-append calls (e ∷ [])) in
    rw n (take_at calls (e ∷ []) (length calls) refl)
