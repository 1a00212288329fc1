-- A command about a field: the field is had first, and then the rest is asked about it.
use Rattle.std.specs.Prelude.{ℕ, Bool, List, [], ◌∷◌, Option}
use Rattle.lane_board.specs.Field.{Field}
use Rattle.pc_faults.specs.declared.fault.Fault.{Fault}
use Rattle.pc_faults.specs.FirstFault.{first_of_these}
use Rattle.pc_settings.specs.Request.{FieldText}
use Rattle.pc_source.specs.Faults.{cells_asked, field_fault}
use Rattle.pc_source.specs.FieldText.{DashText, IsFieldOf, field_needs, itself, of_source}
use Rattle.pc_source.specs.Task.{Needs, Task, source_bytes}

-- what the source has: the text of the field, where that is `-`, or what is asked about the field
pub data SourceOf : Type 0 where
  its_field : SourceOf
  its_rest : SourceOf

-- what `-` stands for, where the source has these bytes
abbrev pub dash_text : SourceOf → List ℕ → DashText
dash_text its_field bytes = of_source bytes
dash_text its_rest bytes = itself

-- the bytes of the source for the rest
abbrev pub rest_bytes : SourceOf → List ℕ → List ℕ
rest_bytes its_field bytes = []
rest_bytes its_rest bytes = bytes

abbrev pub asked_needs : SourceOf → FieldText → Needs
asked_needs its_field text = field_needs text
asked_needs its_rest text = source_bytes

-- This holds of the field that a text gives, with the number of the page where it is a fumen's.
pub record OfField (text : FieldText) (page : ℕ) (meant : DashText) (Holds : Field → Type 0) : Type 0 where
  pub field : Field
  pub asked : IsFieldOf text page meant field
  pub holds : Holds field

-- The first fault is that of the text of the field, and then that of what is asked about a field with these cells.
unfoldable pub fault_after_field : FieldText → ℕ → DashText → (Field → Option Fault) → Option Fault
fault_after_field text page meant fault = first_of_these (
    field_fault text page meant
    ∷ fault (cells_asked text page meant)
    ∷ [])

-- the same where the source has these bytes
abbrev pub fault_by_field : SourceOf → FieldText → ℕ → (Field → List ℕ → Option Fault) → List ℕ → Option Fault
fault_by_field source text page fault bytes =
    fault_after_field text page (dash_text source bytes) (λ F. fault F (rest_bytes source bytes))

-- what is asked about the field that a text gives
abbrev pub field_task : SourceOf → FieldText → ℕ → Bool → (Field → Task) → Task
field_task source text page memory_first rest = record {
  needs = asked_needs source text;
  memory_first = memory_first;
  fault = fault_by_field source text page (λ F. (rest F).fault);
  IsOutput = λ bytes floods output. OfField text page (dash_text source bytes)
      (λ F. (rest F).IsOutput (rest_bytes source bytes) floods output);
  IsWork = λ bytes sink status floods. OfField text page (dash_text source bytes)
      (λ F. (rest F).IsWork (rest_bytes source bytes) sink status floods);
}
