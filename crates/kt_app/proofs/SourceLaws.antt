-- What the bytes of a source say, of which so many were read that they decide it.
use Rattle.std.proofs.Common.{◌≡◌, ℕ, ◌<◌, ◌≤◌, List, Option, Some, None, Bool, true, false, refl, sym, ap, subst, ◌∙◌, arith, length, length-append, ◌⊎◌, inl, inr}
use Rattle.std.specs.Prelude.{nat_lt, IfSome}
use Rattle.std.proofs.lemmas.Bool.Decides.{nat_tests}
use Rattle.kt_script.specs.Pieces.{cut}
use Rattle.kt_script.specs.Scripts.{Said, Fault, script_of, load_of, fault_of, said_unless, said, above_end, start, most_bytes}
use Rattle.kt_streams.specs.Outside.{Reads}
use Rattle.kt_words.specs.declared.run.Settings.{Settings}
use Rattle.kt_app.specs.Refusals.{IsSaid, IsLoadSaid, IsFaultOf}
use Rattle.kt_streams.proofs.StreamLaws.{read_whole}

abbrev too_many : Option Fault
too_many = Some (record { number = 0; reason = 1 })

over : (text : List ℕ) → nat_lt most_bytes (length text) ≡ true → fault_of text ≡ too_many
over text h = rw h refl

is_over : (n m : ℕ) → nat_lt most_bytes n ≡ true → n ≤ m → nat_lt most_bytes m ≡ true
is_over n m h le = grind (arith, nat_tests)

few : (n : ℕ) → nat_lt most_bytes n ≡ false → n < 67108865
few n h = grind (arith, nat_tests)

same_fault : (script bytes : List ℕ) (new : Option (List ℕ)) → Reads (Some script) new bytes 67108865 → fault_of script ≡ fault_of bytes
same_fault script bytes None r = absurd r.taken
same_fault script bytes (Some left) r = by (nat_lt most_bytes (length bytes)) refl
  where
    by : (b : Bool) → nat_lt most_bytes (length bytes) ≡ b → fault_of script ≡ fault_of bytes
    by true h = over script (is_over (length bytes) (length script) h (omega (arith, ap length r.taken, length-append bytes left))) ∙ sym (over bytes h)
    by false h = ap fault_of (read_whole (Some script) (Some left) bytes 67108865 r (few (length bytes) h))

same_script : (script bytes : List ℕ) (new : Option (List ℕ)) (s : Said) → Reads (Some script) new bytes 67108865 → script_of bytes ≡ Some s → script_of script ≡ Some s
same_script script bytes None s r h = absurd r.taken
same_script script bytes (Some left) s r h = by (nat_lt most_bytes (length bytes)) refl
  where
    by : (b : Bool) → nat_lt most_bytes (length bytes) ≡ b → script_of script ≡ Some s
    by true far = absurd (let none = ap (λ f. said_unless f (said (above_end start (cut 10 bytes)))) (sym (over bytes far)) ∙ h in cc)
    by false near = ap script_of (read_whole (Some script) (Some left) bytes 67108865 r (few (length bytes) near)) ∙ h

same_load : (script bytes : List ℕ) (new : Option (List ℕ)) (s : Said) (load : Option ℕ) → Reads (Some script) new bytes 67108865 → script_of bytes ≡ Some s → load ≡ load_of bytes → load_of script ≡ load
same_load script bytes None s load r h e = absurd r.taken
same_load script bytes (Some left) s load r h e = by (nat_lt most_bytes (length bytes)) refl
  where
    by : (b : Bool) → nat_lt most_bytes (length bytes) ≡ b → load_of script ≡ load
    by true far = absurd (let none = ap (λ f. said_unless f (said (above_end start (cut 10 bytes)))) (sym (over bytes far)) ∙ h in cc)
    by false near = ap load_of (read_whole (Some script) (Some left) bytes 67108865 r (few (length bytes) near)) ∙ sym e

pub load_by : (old new : Option (List ℕ)) (bytes : List ℕ) (s : Said) (load : Option ℕ) → Reads old new bytes 67108865 → script_of bytes ≡ Some s → load ≡ load_of bytes → IsLoadSaid old load
load_by None new bytes s load r h e = tt
load_by (Some script) new bytes s load r h e = same_load script bytes new s load r h e

pub said_by : (old new : Option (List ℕ)) (bytes : List ℕ) (s : Said) → Reads old new bytes 67108865 → script_of bytes ≡ Some s → IsSaid old s
said_by None new bytes s r h = tt
said_by (Some script) new bytes s r h = same_script script bytes new s r h

pub fault_by : (old new : Option (List ℕ)) (bytes : List ℕ) (f : Fault) → Reads old new bytes 67108865 → fault_of bytes ≡ Some f → IsFaultOf old f
fault_by None new bytes f r h = tt
fault_by (Some script) new bytes f r h = same_fault script bytes new r ∙ h

-- a script that is said is no fault
pub no_fault : (text : List ℕ) (s : Said) (f : Fault) → script_of text ≡ Some s → fault_of text ≡ Some f → ⊥
no_fault text s f is fault = let none = ap (λ x. said_unless x (said (above_end start (cut 10 text)))) (sym fault) ∙ is in cc

-- a script says one thing
pub said_is : (left : Option (List ℕ)) (s said : Said) (script : List ℕ) → IsSaid left s → left ≡ Some script → script_of script ≡ Some said → s ≡ said
said_is None s said script known e is = absurd cc
said_is (Some text) s said script known e is = let same : text ≡ script = cc in cc

-- and one that is said has no fault
pub not_at_fault : (left : Option (List ℕ)) (fault : Fault) (said : Said) (script : List ℕ) → IsFaultOf left fault → left ≡ Some script → script_of script ≡ Some said → ⊥
not_at_fault None fault said script known e is = absurd cc
not_at_fault (Some text) fault said script known e is = let same : text ≡ script = cc in no_fault script said fault is (subst (λ t. fault_of t ≡ Some fault) same known)

-- what holds of a run of what is said holds of the script, with what the words say
pub runs_script : (left : Option (List ℕ)) (s : Said) (load : Option ℕ) (words : Option Settings) (settings : Settings) (P : List ℕ → Settings → Said → Option ℕ → Type 0) (Q : List ℕ → Type 0) → words ≡ Some settings → IsSaid left s → IsLoadSaid left load
    → (text : List ℕ) × P text settings s load × Q text
    → IfSome left (λ script. (its : Settings) × (words ≡ Some its) × (text : List ℕ) × ((said : Said) × (script_of script ≡ Some said) × P text its said (load_of script)) × Q text)
runs_script None s load words settings P Q e is loads run = tt
runs_script (Some script) s load words settings P Q e is loads run = (settings, e, run.0, (s, is, subst (P run.0 settings s) (sym loads) run.1), run.2)

pub stops_script : (left : Option (List ℕ)) (s : Said) (load : Option ℕ) (words : Option Settings) (settings : Settings) (P : Bool → Settings → Said → Option ℕ → Type 0) (Q : Bool → Type 0) → words ≡ Some settings → IsSaid left s → IsLoadSaid left load
    → (stopped : Bool) × P stopped settings s load × Q stopped
    → IfSome left (λ script. (its : Settings) × (words ≡ Some its) × (stopped : Bool) × ((said : Said) × (script_of script ≡ Some said) × P stopped its said (load_of script)) × Q stopped)
stops_script None s load words settings P Q e is loads run = tt
stops_script (Some script) s load words settings P Q e is loads run = (settings, e, run.0, (s, is, subst (P run.0 settings s) (sym loads) run.1), run.2)

pub either : {A B X : Type 0} → (A → X) → (B → X) → A ⊎ B → X
either f g (inl a) = f a
either f g (inr b) = g b
