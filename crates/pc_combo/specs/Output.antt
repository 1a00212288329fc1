-- What `combo` writes.
use Rattle.std.specs.Prelude.{◌≡◌, ℕ, List, [], ◌∷◌, ◌++◌, codes, length, Ok}
use Rattle.line_writing.specs.Count.{count_form}
use Rattle.lane_board.specs.Field.{Field}
use Rattle.srs.specs.declared.piece.Piece.{Piece}
use Rattle.srs.specs.declared.placement.Placement.{Placement}
use Rattle.srs.specs.Kick.{Table}
use Rattle.queue_pattern.specs.declared.element.Element.{Element}
use Rattle.queue_pattern.specs.Grammar.{elements as elements_in, limited}
use Rattle.queue_pattern.specs.Queues.{queues}
use Rattle.combo.specs.Longest.{IsLongest}
use Rattle.report.specs.Forms.{KeysOf, key_part, run_form}
use Rattle.pc_settings.specs.Request.{ComboRequest}

-- the line of the run, if it has a placement, and then their number, as `combo 12`
unfoldable pub combo_form : KeysOf → Field → List Placement → List ℕ
combo_form keys F run = run_form keys F run ++ count_form (codes "combo ") (length run)

-- the one queue that the pattern has
pub record IsOneQueue (text : List ℕ) (queue : List Piece) : Type 0 where
  pub elements : List Element
  pub read : limited (elements_in text) ≡ Ok elements
  pub only : queues elements ≡ queue ∷ []

-- the longest run of this field that is asked for, by the table of offsets that is asked for, and each placement with
-- its key word where keys are asked for
pub record IsRunFor (request : ComboRequest) (F : Field) (output : List ℕ) : Type 0 where
  pub table : Table
  pub rules : Ok table ≡ request.table
  pub queue : List Piece
  pub named : IsOneQueue request.patterns queue
  pub run : List Placement
  pub longest : IsLongest table request.drop_mode F request.hold queue request.held run
  pub lines : output ≡ combo_form (key_part request.keys table request.drop_mode) F run
