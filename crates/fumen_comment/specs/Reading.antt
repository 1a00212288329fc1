-- Reading a comment part from a place on, with the first fault that is met.
use Rattle.std.specs.Prelude.{◌≡◌, ℕ, zero, suc, ◌+◌, ◌-◌, ◌<◌, List, [], ◌++◌, length, take, if◌then◌else◌, Result, Ok, Err}
use Rattle.fumen_digits.specs.declared.fault.FumenFault.{FumenFault}
use Rattle.fumen_digits.specs.declared.fault.FumenFault.TheVariants.{BadComment}
use Rattle.fumen_digits.specs.Reading.{◌>>=◌, number_at}
use Rattle.fumen_comment.specs.Unescape.{unescaped}
use Rattle.fumen_comment.specs.Part.{unpacked, group_count, is_group}

-- the group at a place, from which so many characters are still to come
unfoldable pub group_at : List ℕ → ℕ → ℕ → Result ℕ FumenFault
group_at ds place left = do
  group ← number_at ds place 5
  if is_group left group then Ok group else Err (BadComment place)

-- characters are still to come, this many, and the group at the place is read
abbrev pub HasFirst : List ℕ → ℕ → ℕ → Type 0
HasFirst ds place left = (0 < left) × (group : ℕ) × (group_at ds place left ≡ Ok group)

-- the characters still to come, this many, from this number of groups, and the place behind them
unfoldable pub text_at : List ℕ → ℕ → ℕ → ℕ → Result (List ℕ × ℕ) FumenFault
text_at ds place left zero = Ok ([], place)
text_at ds place left (suc count) = do
  group ← group_at ds place left
  rest ← text_at ds (place + 5) (left - 4) count
  Ok (take left (unpacked 4 group) ++ rest.0, rest.1)

-- the units of the comment at a place, and the place behind it
unfoldable pub comment_at : List ℕ → ℕ → Result (List ℕ × ℕ) FumenFault
comment_at ds place = do
  length ← number_at ds place 2
  text ← text_at ds (place + 2) length (group_count length)
  Ok (unescaped text.0, text.1)
