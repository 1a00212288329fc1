-- The fields of a page's line, read one by one.
use Rattle.std.specs.Prelude.{ℕ, nat_le, List, [], ◌∷◌, Bool, true, false, ◌&&◌, ◌==◌, if◌then◌else◌, Option, Some, None, option_and_then}
use Rattle.std.specs.List.{list_all}
use Rattle.srs.specs.declared.placement.Placement.{Placement}
use Rattle.placement_form.specs.Reading.{placement_in}
use Rattle.fumen_comment.specs.Unescape.{unescaped}
use Rattle.page_list.specs.declared.fields.Flags.{Flags}

-- the text `-`
unfoldable pub is_dash : List ℕ → Bool
is_dash (letter ∷ []) = letter == 45
is_dash other = false

-- an operation: `-` where there is none, or a placement
unfoldable pub operation_in : List ℕ → Option (Option Placement)
operation_in text =
    if is_dash text then Some None else option_and_then (λ placement. Some (Some placement)) (placement_in text)

-- a flag is set by its letter, and isn't by `-`
abbrev pub flag_in : ℕ → ℕ → Option Bool
flag_in letter text = if text == letter then Some true else if text == 45 then Some false else None

-- the four flags
unfoldable pub flags_in : List ℕ → Option Flags
flags_in (r ∷ m ∷ c ∷ l ∷ []) =
    option_and_then (λ rise. option_and_then (λ mirror. option_and_then (λ colour. option_and_then (λ lock.
    Some (record { rise = rise; mirror = mirror; colour = colour; lock = lock }))
    (flag_in 108 l)) (flag_in 99 c)) (flag_in 109 m)) (flag_in 114 r)
flags_in other = None

-- a character that a comment may have: from `!` to `~`
abbrev pub is_mark : ℕ → Bool
is_mark letter = nat_le 33 letter && nat_le letter 126

-- the units that are escaped behind a `#`, without blanks
unfoldable pub units_in : List ℕ → Option (List ℕ)
units_in [] = None
units_in (sign ∷ text) = if sign == 35 && list_all is_mark text then Some (unescaped text) else None

-- a comment: `-` where there is none, or its units
unfoldable pub comment_in : List ℕ → Option (Option (List ℕ))
comment_in text = if is_dash text then Some None else option_and_then (λ units. Some (Some units)) (units_in text)
