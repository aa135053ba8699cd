-- Literals worked out.
use Rattle.std.proofs.Common.{◌≡◌, [], ◌∷◌, refl}
use Rattle.std.specs.Prelude.{negsuc, Ok, Err, codes}
use Rattle.kt_base.specs.declared.cell.Kind.TheVariants as kind
use Rattle.kt_base.specs.declared.cell.Cell.TheVariants as cell
use Rattle.kt_base.specs.declared.literal.LiteralNo.TheVariants as no
use Rattle.kt_base.specs.Literals.{cell_in}

least_int8 : cell_in kind.Int8 (codes "-128") ≡ Ok (cell.Int (negsuc 127))
least_int8 = refl

int8_past_its_range : cell_in kind.Int8 (codes "128") ≡ Err no.Kind
int8_past_its_range = refl

minus_zero : cell_in kind.Int64 (codes "-0") ≡ Err no.Form
minus_zero = refl

leading_zero : cell_in kind.Int64 (codes "01") ≡ Err no.Form
leading_zero = refl

escapes : cell_in kind.String (codes "\"a\\x00\\\"b\"") ≡ Ok (cell.Bytes (97 ∷ 0 ∷ 34 ∷ 98 ∷ []))
escapes = refl

bytes_in_hex : cell_in kind.Binary (codes "x\"0af0\"") ≡ Ok (cell.Bytes (10 ∷ 240 ∷ []))
bytes_in_hex = refl

null_is_told_apart : cell_in kind.String (codes "null") ≡ Err no.Null
null_is_told_apart = refl

escape_of_a_letter : cell_in kind.String (codes "\"a\\x41\"") ≡ Err no.Form
escape_of_a_letter = refl

least_int64 : cell_in kind.Int64 (codes "-9223372036854775808") ≡ Ok (cell.Int (negsuc 9223372036854775807))
least_int64 = refl

number_of_many_digits : cell_in kind.Int64 (codes "99999999999999999999999999999999999999") ≡ Err no.Kind
number_of_many_digits = refl

no_text : cell_in kind.Int64 (codes "") ≡ Err no.Form
no_text = refl

no_second_quote : cell_in kind.String (codes "\"aaaaaaaaaaaaaaaaaaaaaaaaaaaaaaaaaaaaaaaaaaaaaaaaaaaaaaaaaaaaaaaaaaaaaaaaaaaaaaaaaaaaaaaaaaaaaaaaa") ≡ Err no.Form
no_second_quote = refl
