-- Without a superblock no record is let through.
use Rattle.std.proofs.Common.{◌≡◌, List, [], ◌∷◌, length, Bool, true, cond, Option, Some, None, refl, sym, ap, ◌∙◌, arith}
use Rattle.std.specs.Prelude.{nat_lt}
use Rattle.std.proofs.lemmas.Bool.Decides.{nat_tests}
use Rattle.kt_records.specs.declared.entry.Entry.{Entry}
use Rattle.kt_super.specs.declared.meta.Meta.{Meta}
use Rattle.kt_reopen.specs.declared.why.Why.TheVariants.{B1}
use Rattle.kt_reopen.specs.Both.{count_why}

pub none_bare : (meta : Option Meta) (records : List Entry) → count_why meta (length records) ≡ None → meta ≡ None → records ≡ []
none_bare meta [] e none = refl
none_bare meta (r ∷ records) e none =
    let here : count_why None (length (r ∷ records)) ≡ None = ap (λ (m : Option Meta). count_why m (length (r ∷ records))) (sym none) ∙ e in
    let test : nat_lt 0 (length (r ∷ records)) ≡ true = grind (arith, nat_tests) in
    let clash : Some (B1 1 0) ≡ None = sym (ap (λ (b : Bool). cond b (Some (B1 1 0)) None) test) ∙ here in
    absurd (cc)
