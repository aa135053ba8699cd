-- The first word of a line tells what the line begins, and is the one word of that.
use Rattle.std.proofs.Common.{◌≡◌, ℕ, List, [], ◌∷◌, Option, Some, None, refl, subst, ap, ◌∙◌}
use Rattle.std.specs.Prelude.{codes}
use Rattle.std.specs.Option.{option_map, option_or}
use Rattle.kt_base.specs.declared.chore.Chore.{Chore}
use Rattle.kt_base.specs.declared.chore.Chore.TheVariants as chore
use Rattle.kt_history.specs.declared.operation.OpKind.{OpKind}
use Rattle.kt_history.specs.declared.operation.OpKind.TheVariants as op
use Rattle.kt_script.specs.declared.leads.Word.{Word}
use Rattle.kt_script.specs.declared.leads.Word.TheVariants as word
use Rattle.kt_script.specs.declared.leads.Lead.{Lead}
use Rattle.kt_script.specs.declared.leads.Lead.TheVariants as lead
use Rattle.kt_script.specs.Kinds.{kind_in}
use Rattle.kt_script.specs.Writes.{op_word, op_kinds, op_kind}
use Rattle.kt_script.specs.Leads.{chore_word, chores, chore_in, command_word, command_in, lead_word, lead_in}
use Rattle.kt_script.proofs.FormLaws.{Plain, plain, kind_word}

-- what one of two tables has
either : {A : Type 0} (P : A → Type 0) (a : A) (first second : Option A) → ((b : A) → first ≡ Some b → P b) → ((b : A) → second ≡ Some b → P b) → option_or first second ≡ Some a → P a
either P a None second f g e = g a e
either P a (Some b) second f g e = f a e

mapped : {A B : Type 0} (P : B → Type 0) (to : A → B) (b : B) (o : Option A) → ((a : A) → o ≡ Some a → P (to a)) → option_map to o ≡ Some b → P b
mapped P to b None f e = absurd cc
mapped P to b (Some a) f e = let is : to a ≡ b = cc in subst P is (f a refl)

command_is : (text : List ℕ) (w : Word) → command_in text ≡ Some w → text ≡ command_word w
command_is text w e =
    either (λ v. text ≡ command_word v) w (kind_in command_word (word.Scan ∷ word.Mark ∷ []) text) _ (λ v. kind_word command_word (word.Scan ∷ word.Mark ∷ []) text v)
    (λ v. either (λ u. text ≡ command_word u) v (option_map word.Chore (chore_in text)) (option_map word.Op (op_kind text)) (λ u. mapped (λ x. text ≡ command_word x) word.Chore u (chore_in text) (kind_word chore_word chores text)) (λ u. mapped (λ x. text ≡ command_word x) word.Op u (op_kind text) (kind_word op_word op_kinds text))) e

-- a first word is that of what it begins
pub lead_is : (text : List ℕ) (l : Lead) → lead_in text ≡ Some l → text ≡ lead_word l
lead_is text l e =
    either (λ x. text ≡ lead_word x) l (kind_in lead_word (lead.Session ∷ lead.Load ∷ []) text) (option_map lead.Command (command_in text)) (kind_word lead_word (lead.Session ∷ lead.Load ∷ []) text) (λ x. mapped (λ y. text ≡ lead_word y) lead.Command x (command_in text) (command_is text)) e

-- the word of an operation begins a write
pub op_leads : (k : OpKind) → lead_in (op_word k) ≡ Some (lead.Command (word.Op k))
op_leads op.Insert = refl
op_leads op.Upsert = refl
op_leads op.Update = refl
op_leads op.Delete = refl
op_leads op.InsertIgnore = refl
op_leads op.UpdateIgnore = refl
op_leads op.DeleteIgnore = refl

-- what is read as the word of an operation begins a write
pub op_lead : (text : List ℕ) (k : OpKind) → op_kind text ≡ Some k → lead_in text ≡ Some (lead.Command (word.Op k))
op_lead text k e = ap lead_in (kind_word op_word op_kinds text k e) ∙ op_leads k

-- the word of a chore begins its line, and is a word
pub chore_leads : (c : Chore) → lead_in (chore_word c) ≡ Some (lead.Command (word.Chore c))
chore_leads chore.Flush = refl
chore_leads chore.FlushDeltas = refl
chore_leads chore.Minor = refl
chore_leads chore.Major = refl
chore_leads chore.Compact = refl

pub chore_plain : (c : Chore) → Plain (chore_word c)
chore_plain chore.Flush = plain (codes "flush") refl refl
chore_plain chore.FlushDeltas = plain (codes "flush-deltas") refl refl
chore_plain chore.Minor = plain (codes "minor") refl refl
chore_plain chore.Major = plain (codes "major") refl refl
chore_plain chore.Compact = plain (codes "compact") refl refl
