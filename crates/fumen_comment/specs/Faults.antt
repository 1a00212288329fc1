-- The first fault of a comment part, by what stands before it, and where a comment stands.
use Rattle.std.specs.Prelude.{◌≡◌, ℕ, ◌+◌, ◌-◌, ◌*◌, ◌<◌, List, length, false, ◌⊎◌, IsTrue}
use Rattle.std.specs.List.{flat_map}
use Rattle.fumen_digits.specs.Number.{digits, Stands, NumberStands}
use Rattle.fumen_digits.specs.declared.fault.FumenFault.{FumenFault}
use Rattle.fumen_digits.specs.Fault.{IsNumberFault}
use Rattle.fumen_digits.specs.declared.fault.FumenFault.TheVariants.{BadDigit, Truncated, BadComment}
use Rattle.fumen_comment.specs.declared.part.CommentFault.{CommentFault}
use Rattle.fumen_comment.specs.declared.part.CommentFault.TheVariants as fault
use Rattle.fumen_comment.specs.Part.{group_count, is_group, AreGroups, SpellsComment}

-- the length stands at a place, some groups stand behind it up to place k, and one more is due there, with so many
-- characters still to come
pub record IsGroupDue (ds : List ℕ) (place k left : ℕ) : Type 0 where
  pub total : ℕ
  pub total_stands : NumberStands ds place 2 total
  pub groups : List ℕ
  pub each : AreGroups total groups
  pub groups_stand : Stands ds (place + 2) (flat_map (digits 5) groups) k
  pub fewer : length groups < group_count total
  pub rest : left ≡ total - 4 * length groups

-- a number stands where a group is due, and is none
pub record IsBadGroup (ds : List ℕ) (k left : ℕ) : Type 0 where
  pub group : ℕ
  pub stands : NumberStands ds k 5 group
  pub bad : is_group left group ≡ false

-- the fault of the comment at a place: that of its length, or of a due group's number, or that this number is no group
abbrev pub IsCommentFault : List ℕ → ℕ → FumenFault → Type 0
IsCommentFault ds place f =
    IsNumberFault ds place 2 f
    ⊎ ((k left : ℕ) × IsGroupDue ds place k left × (IsNumberFault ds k 5 f
    ⊎ (IsBadGroup ds k left × (f ≡ BadComment k))))

-- a fault of a comment among those of a text
abbrev pub comment_fault : CommentFault → FumenFault
comment_fault (fault.BadDigit place) = BadDigit place
comment_fault (fault.Truncated place) = Truncated place
comment_fault (fault.BadComment place) = BadComment place

-- a comment of these units stands at a place, up to end
pub record CommentStands (ds : List ℕ) (place : ℕ) (units : List ℕ) (end : ℕ) : Type 0 where
  pub text : List ℕ
  pub stands : Stands ds place text end
  pub spells : SpellsComment units text

-- a length above 0 stands at a place, and a group of its characters behind it
pub record HasGroup (ds : List ℕ) (place : ℕ) : Type 0 where
  pub total : ℕ
  pub some : 0 < total
  pub total_stands : NumberStands ds place 2 total
  pub group : ℕ
  pub group_stands : NumberStands ds (place + 2) 5 group
  pub good : IsTrue (is_group total group)
