-- The definitions at worked cases, by computing them.
use Rattle.std.proofs.Common.{◌≡◌, [], ◌∷◌, ◌++◌, Ok, Err, refl}
use Rattle.std.specs.Prelude.{codes}
use Rattle.fumen_digits.specs.Digit.{digit, digit_value}
use Rattle.fumen_digits.specs.Number.{digits}
use Rattle.fumen_digits.specs.declared.fault.FumenFault.TheVariants.{Truncated, BadComment}
use Rattle.fumen_digits.specs.Reading.{number_from, value_at}
use Rattle.fumen_comment.specs.Escape.{stays, hex_digit, escaped}
use Rattle.fumen_comment.specs.Unescape.{hex_value, hex_byte_at, hex_unit_at, unit_of, unescaped_behind, unescaped}
use Rattle.fumen_comment.specs.Part.{packed, unpacked, groups_of, comment_digits, is_group}
use Rattle.fumen_comment.specs.Reading.{group_at, text_at, comment_at}

escaped_units : escaped (65 ∷ 43 ∷ 37 ∷ 255 ∷ 256 ∷ 0xD800 ∷ []) ≡ codes "A+%25%FF%u0100%uD800"
unfolding escaped stays hex_digit
escaped_units = refl

unescaped_text : unescaped (codes "%u12%7e%u70aE+%") ≡ codes "%u12~" ++ 0x70AE ∷ codes "+%"
unfolding unescaped_behind unit_of hex_unit_at hex_byte_at hex_value
unescaped_text = refl

written : comment_digits (codes "hello") ≡ codes "FAooMDEPBAAA"
unfolding comment_digits groups_of packed digits digit
written = refl

-- the comment of a fumen that another program wrote, from its action on
read : comment_at (codes "HYaAkeEfEXoC+BlvlzByEEfE03k2AlP5ABwvDfE") 2 ≡ Ok (codes "DT" ++ 0x70AE ∷ 0x7B2C ∷ 0x4E00 ∷ 0x5305 ∷ [], 39)
unfolding comment_at text_at group_at is_group unpacked number_from value_at digit_value unescaped_behind unit_of hex_unit_at hex_byte_at hex_value
read = refl

bad_group : comment_at (codes "BA/////") 0 ≡ Err (BadComment 2)
unfolding comment_at text_at group_at is_group unpacked number_from value_at digit_value
bad_group = refl

-- the first character has the value 95, the second one is past the length
bad_character : comment_at (codes "BAfBAAA") 0 ≡ Err (BadComment 2)
unfolding comment_at text_at group_at is_group unpacked number_from value_at digit_value
bad_character = refl

-- the second character has the value 95, and is past the length
past_length : comment_at (codes "BAgOCAA") 0 ≡ Ok (codes " ", 7)
unfolding comment_at text_at group_at is_group unpacked number_from value_at digit_value unescaped_behind unit_of
past_length = refl

truncated : comment_at (codes "FAooMDEPB") 0 ≡ Err (Truncated 7)
unfolding comment_at text_at group_at is_group unpacked number_from value_at digit_value
truncated = refl
