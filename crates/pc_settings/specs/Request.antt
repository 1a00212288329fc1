-- What the words ask of the commands: texts, not yet looked into, numbers and rules.
use Rattle.std.specs.Prelude.{ℕ, ◌≤◌, Bool, List, Option, Result}
use Rattle.hold_queue.specs.declared.hold.Hold.{Hold}
use Rattle.moves.specs.declared.key.DropMode.{DropMode}
use Rattle.srs.specs.declared.piece.Piece.{Piece}
use Rattle.srs.specs.Kick.{Table}
use Rattle.kick_file.specs.declared.fault.KickFault.{KickFault}
use Rattle.pc_settings.specs.declared.format.Format.{Format}

-- the field that is asked about: rows text, or a fumen text, where `-` stands for that of the source
pub data FieldText : Type 0 where
  rows_text : (text : List ℕ) → FieldText
  fumen_text : (text : List ℕ) → FieldText

-- a field, the page of it where it is a fumen's, the height, the queues, the piece held at the start, the rules, and
-- the table of offsets, or the first fault of its text
pub record FieldRequest : Type 0 where
  pub field : FieldText
  pub page : ℕ
  pub height : ℕ
  pub patterns : List ℕ
  pub hold : Hold
  pub held : Option Piece
  pub drop_mode : DropMode
  pub table : Result Table KickFault

-- 1 to 8 rows are to be removed, and pages are counted from 1
pub record IsInRange (request : FieldRequest) : Type 0 where
  pub some : 1 ≤ request.height
  pub low : request.height ≤ 8
  pub page : 1 ≤ request.page

-- of `path`: a request about a field, the sequence after which the list begins, how many are listed at most, whether
-- with keys, in which form, and whether the number of floods is written
pub record PathRequest : Type 0 where
  pub common : FieldRequest
  pub after : Option (List ℕ)
  pub limit : ℕ
  pub keys : Bool
  pub format : Format
  pub stats : Bool

-- of `percent`: a request about a field, and how many of the queues that have no perfect clear are written at most
pub record PercentRequest : Type 0 where
  pub common : FieldRequest
  pub failed : ℕ

-- of `combo`: a field, the page of it where it is a fumen's, the queue, the rules, the table of offsets or the first
-- fault of its text, and whether keys are written
pub record ComboRequest : Type 0 where
  pub field : FieldText
  pub page : ℕ
  pub patterns : List ℕ
  pub hold : Hold
  pub held : Option Piece
  pub drop_mode : DropMode
  pub table : Result Table KickFault
  pub keys : Bool
