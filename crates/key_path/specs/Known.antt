-- Key words that were found before: that there are none yet, and that one answers a question.
use Rattle.std.specs.Prelude.{◌≡◌, None, All}
use Rattle.lane_board.specs.Field.{Field}
use Rattle.srs.specs.declared.placement.Placement.{Placement}
use Rattle.well.specs.Well.{filled}
use Rattle.moves.specs.declared.key.DropMode.{DropMode}
use Rattle.key_path.specs.declared.finder.Finder.{Finder}
use Rattle.key_path.specs.declared.known.Found.{Found}
use Rattle.key_path.specs.declared.known.Known.{Known}

-- it was found for this field, drop mode and target
pub record AsksFor (found : Found) (F : Field) (mode : DropMode) (target : Placement) : Type 0 where
  pub field_same : filled found.well ≡ F
  pub mode_same : found.drop_mode ≡ mode
  pub target_same : found.target ≡ target

-- no word is kept
abbrev pub KeepsNone : Known → Type 0
KeepsNone known = All (λ word. word ≡ None) known.words

-- a finder that keeps no word
abbrev pub HasFoundNone : Finder → Type 0
HasFoundNone finder = KeepsNone finder.known
