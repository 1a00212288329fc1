-- The forms of the flags, the comment and the operation, and the functions that read them, agree.
use Rattle.std.proofs.Common.{◌≡◌, ℕ, ◌≤◌, Bool, true, false, ◌==◌, nat_le, List, [], ◌∷◌, codes, Option, Some, All, refl, ap, sym, ◌∙◌, eqb-true, leb-true, le-leb, arith, rules}
use Rattle.std.specs.List.{list_all}
use Rattle.std.proofs.lemmas.Bool.{cases_Bool, and_parts, and_from}
use Rattle.std.proofs.lemmas.List.Sums.{AllPass-from_list_all, list_all-from_AllPass}
use Rattle.std.proofs.lemmas.Option.{none-some, option_and_then_some, same_Some}
use Rattle.std.proofs.lemmas.Grind.{common_steps}
use Rattle.page_list.specs.declared.fields.Flags.{Flags}
use Rattle.page_list.specs.FieldsReading.{is_dash, flag_in, flags_in, is_mark, units_in, comment_in}
use Rattle.page_list.specs.PrintedLine.{flag_form}
use Rattle.page_list.specs.LineSpelling.{SpellsUnits, SpellsLineComment}

-- ---- flags

abbrev letters_of_flags : Flags → List ℕ
letters_of_flags flags = flag_form 114 flags.rise ∷ flag_form 109 flags.mirror ∷ flag_form 99 flags.colour ∷ flag_form 108 flags.lock ∷ []

flag_is : (letter text : ℕ) (is_set : Bool) → flag_in letter text ≡ Some is_set → text ≡ flag_form letter is_set
flag_is letter text is_set is = search (rules, cases_Bool, same_Some, eqb-true, none-some)

pub flags_spelled : (text : List ℕ) (flags : Flags) → flags_in text ≡ Some flags → text ≡ letters_of_flags flags
unfolding flags_in
flags_spelled text flags is = grind (arith, common_steps, none-some, option_and_then_some, flag_is, same_Some)

flag_read : (letter : ℕ) (is_set : Bool) → (45 == letter) ≡ false → (letter == letter) ≡ true → flag_in letter (flag_form letter is_set) ≡ Some is_set
flag_read letter is_set other same = search rules

pub spelled_flags_read : (flags : Flags) → flags_in (letters_of_flags flags) ≡ Some flags
unfolding flags_in
spelled_flags_read flags = rw (flag_read 114 flags.rise refl refl, flag_read 109 flags.mirror refl refl, flag_read 99 flags.colour refl refl, flag_read 108 flags.lock refl refl) refl

-- ---- comments

pub dash_is : (text : List ℕ) → is_dash text ≡ true → text ≡ codes "-"
unfolding is_dash
dash_is text is = search (rules, eqb-true)

-- a byte that passes the test is a character from `!` to `~`
pub mark_is : (byte : ℕ) → is_mark byte ≡ true → (33 ≤ byte) × (byte ≤ 126)
mark_is byte is = let both = and_parts (nat_le 33 byte) (nat_le byte 126) is in (leb-true 33 byte both.0, leb-true byte 126 both.1)

units_spelled : (text units : List ℕ) → units_in text ≡ Some units → SpellsUnits text units
unfolding units_in
units_spelled text units is =
    search (rules, none-some, cases_Bool, and_parts, AllPass-from_list_all, mark_is, eqb-true, same_Some)

pub comment_spelled : (text : List ℕ) (comment : Option (List ℕ)) → comment_in text ≡ Some comment → SpellsLineComment text comment
unfolding comment_in
comment_spelled text comment is = search (rules, cases_Bool, same_Some, dash_is, option_and_then_some, units_spelled)

hash_no_dash : (escaped : List ℕ) → is_dash (35 ∷ escaped) ≡ false
unfolding is_dash
hash_no_dash escaped = search rules

all_marks : (escaped : List ℕ) → All (λ byte. (33 ≤ byte) × (byte ≤ 126)) escaped → list_all is_mark escaped ≡ true
all_marks escaped marks = search (rules, list_all-from_AllPass, and_from, nat_le, le-leb)

spelled_units_read : (text units : List ℕ) → SpellsUnits text units → units_in text ≡ Some units
unfolding units_in
spelled_units_read text units s = ap units_in s.spelled ∙ rw (all_marks s.escaped s.marks) (ap (λ (l : List ℕ). Some l) (sym s.means))

pub spelled_comment_read : (text : List ℕ) (comment : Option (List ℕ)) → SpellsLineComment text comment → comment_in text ≡ Some comment
unfolding comment_in is_dash
spelled_comment_read text comment s = search (rules, hash_no_dash, spelled_units_read)
