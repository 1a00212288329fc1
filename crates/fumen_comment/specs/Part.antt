-- The comment part of a page: a length of two digits, and groups of five digits for four characters each.
use Rattle.std.specs.Prelude.{◌≡◌, ℕ, zero, suc, ◌+◌, ◌-◌, ◌*◌, ◌/◌, ◌%◌, ◌^◌, ◌<◌, List, [], ◌∷◌, ◌++◌, length, take, drop, Bool, ◌&&◌, nat_lt, IsTrue}
use Rattle.std.specs.List.{list_all, flat_map}
use Rattle.fumen_digits.specs.Number.{digits}
use Rattle.fumen_comment.specs.Unescape.{unescaped}

-- the number of up to four characters in base 96, the first one least: its value is its code less 32
unfoldable pub packed : List ℕ → ℕ
packed [] = 0
packed (c ∷ text) = (c - 32) + 96 * packed text

-- so many characters of a number in base 96
unfoldable pub unpacked : ℕ → ℕ → List ℕ
unpacked zero group = []
unpacked (suc count) group = (group % 96 + 32) ∷ unpacked count (group / 96)

-- the least number of groups that hold so many characters
abbrev pub group_count : ℕ → ℕ
group_count length = (length + 3) / 4

-- The groups as they are written. The last one is filled up with 0.
unfoldable pub groups_of : ℕ → List ℕ → List ℕ
groups_of zero text = []
groups_of (suc count) text = packed (take 4 text) ∷ groups_of count (drop 4 text)

-- the digits that are written for an escaped text
unfoldable pub comment_digits : List ℕ → List ℕ
comment_digits text = digits 2 (length text) ++ flat_map (digits 5) (groups_of (group_count (length text)) text)

-- whether a number is a group where so many characters are still to come: it is below 96 ^ 4, and none of these has the
-- value 95
unfoldable pub is_group : ℕ → ℕ → Bool
is_group left group = nat_lt group (96 ^ 4) && list_all (λ c. nat_lt c 127) (take left (unpacked 4 group))

-- each is a group where so many characters are to come from its place on
abbrev pub AreGroups : ℕ → List ℕ → Type 0
AreGroups left [] = Unit {0}
AreGroups left (group ∷ groups) = IsTrue (is_group left group) × AreGroups (left - 4) groups

-- ds spells these characters: their number, and the least number of groups that hold them
pub record SpellsText (text ds : List ℕ) : Type 0 where
  pub short : length text < 64 ^ 2
  pub groups : List ℕ
  pub least : length groups ≡ group_count (length text)
  pub each : AreGroups (length text) groups
  pub characters : text ≡ take (length text) (flat_map (unpacked 4) groups)
  pub spelled : ds ≡ digits 2 (length text) ++ flat_map (digits 5) groups

-- ds spells a comment of these units
pub record SpellsComment (units ds : List ℕ) : Type 0 where
  pub text : List ℕ
  pub spells : SpellsText text ds
  pub means : units ≡ unescaped text
