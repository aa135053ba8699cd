-- The outcome of a crash, one call on.
use Rattle.std.specs.Prelude.{◌-◌, ◌&&◌, ◌||◌, unwrap_or}
use Rattle.std.proofs.Common.{◌≡◌, ℕ, ◌+◌, ◌<◌, Bool, true, false, cond, eqb, List, [], ◌∷◌, ◌++◌, length, get_or, take, drop, reverse, Option, Some, refl, sym, ◌∙◌, ap, subst, arith, length-append}
use Rattle.std.proofs.lemmas.Bool.{eqb-true}
use Rattle.std.proofs.lemmas.List.{take_more, drop_more, reverse-append}
use Rattle.std.proofs.Math.Seq.{take-append_seam, get_or-append_seam}
use Rattle.kt_disk.specs.Memory.{after, MovesIf, contents, IsLeft}
use Rattle.kt_disk.specs.MemoryLaw.{is_left}
use Rattle.kt_disk.specs.Left.{is_sync, is_synced, followed, LeavesIf}
use Rattle.kt_disk.specs.declared.event.Event.{Event}
use Rattle.kt_disk.specs.declared.event.Change.{Change}
use Rattle.kt_disk.specs.declared.event.Change.TheVariants as change

-- so far: a file of which a sync follows is as it reads, any other as a crash may leave it
abbrev pub SoFar : Bool → ℕ → Option (List ℕ) → List Event → Option (List ℕ) → Type 0
SoFar true n start earlier c = c ≡ contents n start earlier
SoFar false n start earlier c = IsLeft n start earlier c

module _ (n : ℕ) (start : Option (List ℕ)) (earlier : List Event) where
  -- the newest call, where it is on the file or not
  abbrev Next : Bool → Bool → Change → Option (List ℕ) → Type 0
  Next here true c new = new ≡ cond here (after c (contents n start earlier)) (contents n start earlier)
  Next here false c new = (d : Option (List ℕ)) × IsLeft n start earlier d × MovesIf here c (contents n start earlier) d new

  next : (here synced : Bool) (c : Change) (old new : Option (List ℕ)) → SoFar ((here && is_sync c) || synced) n start earlier old → LeavesIf here synced c old new → Next here synced c new
  next true true (change.Write at bytes) old new so_far goes = goes ∙ ap (after (change.Write at bytes)) so_far
  next true true (change.Cut to) old new so_far goes = goes ∙ ap (after (change.Cut to)) so_far
  next true true change.Sync old new so_far goes = goes ∙ so_far
  next true true change.Remove old new so_far goes = goes
  next true true change.Look old new so_far goes = goes ∙ so_far
  next true false (change.Write at bytes) old new so_far goes = (old, so_far, goes)
  next true false (change.Cut to) old new so_far goes = (old, so_far, goes)
  next true false change.Sync old new so_far goes = (contents n start earlier, is_left n start earlier, (goes ∙ so_far, goes ∙ so_far))
  next true false change.Remove old new so_far goes = (old, so_far, goes)
  next true false change.Look old new so_far goes = (old, so_far, goes)
  next false true c old new so_far goes = goes ∙ so_far
  next false false c old new so_far goes = (old, so_far, goes)

  newest : (e : Event) (synced : Bool) (new : Option (List ℕ)) → Next (eqb e.file n) synced e.change new → SoFar synced n start (e ∷ earlier) new
  newest e true new goes = goes
  newest e false new goes = goes

  flag : (here a b : Bool) (c : Change) (old new : Option (List ℕ)) → (here ≡ true → a ≡ b) → LeavesIf here a c old new → LeavesIf here b c old new
  flag true a b c old new same goes = subst (λ (x : Bool). LeavesIf true x c old new) (same refl) goes
  flag false a b c old new same goes = goes

  pub one_more : (e : Event) (later : List Event) (old new : Option (List ℕ)) → SoFar (is_synced n (e ∷ later)) n start earlier old → LeavesIf (eqb e.file n) (is_synced e.file later) e.change old new
      → SoFar (is_synced n later) n start (e ∷ earlier) new
  one_more e later old new so_far goes =
      newest e (is_synced n later) new
      (next (eqb e.file n) (is_synced n later) e.change old new so_far
      (flag (eqb e.file n) (is_synced e.file later) (is_synced n later) e.change old new (λ here. ap (λ (k : ℕ). is_synced k later) (eqb-true e.file n here)) goes))

-- the last flag of those that are left
popped : (items front rest : List Bool) (x : Bool) (r : Option Bool) (len : ℕ) → items ≡ front ++ x ∷ [] → len ≡ length items → (0 < len → r ≡ Some (get_or items (len - 1) false)) → rest ≡ take (len - 1) items
    → (rest ≡ front) × (unwrap_or r false ≡ x)
popped items front rest x r len is count value left =
    let last : len ≡ length front + 1 = omega (arith, count, ap (λ (l : List Bool). length l) is, length-append front (x ∷ [])) in
    let n : len - 1 ≡ length front = omega (arith, last) in (
      left ∙ ap (λ (k : ℕ). take k items) n ∙ ap (λ (l : List Bool). take (length front) l) is ∙ take-append_seam front (x ∷ []),
      ap (λ (o : Option Bool). unwrap_or o false) (value (omega (arith, last))) ∙ ap (λ (k : ℕ). get_or items k false) n ∙ ap (λ (l : List Bool). get_or l (length front) false) is ∙ get_or-append_seam front x [] false,
    )

module _ (calls : List Event) (i : ℕ) (e : Event) (within : i < length calls) (is : e ≡ get_or calls i e) where
  later : drop i calls ≡ e ∷ drop (i + 1) calls
  later = drop_more calls i e within ∙ ap (λ (x : Event). x ∷ drop (i + 1) calls) (sym is)

  before : reverse (take (i + 1) calls) ≡ e ∷ reverse (take i calls)
  before =
      ap (λ (l : List Event). reverse l) (take_more calls i e within ∙ ap (λ (x : Event). take i calls ++ x ∷ []) (sym is))
      ∙ reverse-append (take i calls) (e ∷ [])

  pub next_flag : (items rest : List Bool) (r : Option Bool) (len : ℕ) → items ≡ reverse (followed (drop i calls)) → len ≡ length items → (0 < len → r ≡ Some (get_or items (len - 1) false)) → rest ≡ take (len - 1) items
      → (rest ≡ reverse (followed (drop (i + 1) calls))) × (unwrap_or r false ≡ is_synced e.file (drop (i + 1) calls))
  next_flag items rest r len are count value left =
      let flags = followed (drop (i + 1) calls) in
      let flag = is_synced e.file (drop (i + 1) calls) in
      popped items (reverse flags) rest flag r len (are ∙ ap (λ (l : List Event). reverse (followed l)) later ∙ reverse-append (flag ∷ []) flags) count value left

  pub next_file : (n : ℕ) (start old new : Option (List ℕ)) (flag : Bool) → flag ≡ is_synced e.file (drop (i + 1) calls) → SoFar (is_synced n (drop i calls)) n start (reverse (take i calls)) old
      → LeavesIf (eqb e.file n) flag e.change old new → SoFar (is_synced n (drop (i + 1) calls)) n start (reverse (take (i + 1) calls)) new
  next_file n start old new flag is_flag so_far goes =
      let rest = drop (i + 1) calls in
      subst (λ (l : List Event). SoFar (is_synced n rest) n start l new) (sym before)
      (one_more n start (reverse (take i calls)) e rest old new (subst (λ (l : List Event). SoFar (is_synced n l) n start (reverse (take i calls)) old) later so_far)
      (subst (λ (x : Bool). LeavesIf (eqb e.file n) x e.change old new) is_flag goes))
