-- What a call gives, with the fault that does not stand there, and what it is refused by.
use Rattle.std.specs.Prelude.{◌≡◌, ℕ, List, IsTrue, All, Option, Some, None}
use Rattle.std.specs.Option.{ForSome}
use Rattle.lane_board.specs.Field.{Field}
use Rattle.srs.specs.Cells.{is_inside_of}
use Rattle.well.specs.Well.{filled}
use Rattle.problem.specs.declared.problem.Problem.{Problem}
use Rattle.pc_outside.specs.declared.answers.Refused.{Refused}
use Rattle.pc_outside.specs.declared.answers.Refused.TheVariants as refused
use Rattle.fumen_digits.specs.declared.dialect.Dialect.{Dialect}
use Rattle.fumen_pages.specs.declared.page.Page.{Page}
use Rattle.fumen_pages.specs.Cells.{IsColour}
use Rattle.fumen_text.specs.Texts.{ReadsAs}
use Rattle.pc_faults.specs.declared.fault.Fault.{Fault}
use Rattle.pc_faults.specs.declared.fault.Fault.TheVariants.{SourceTooLong}
use Rattle.pc_faults.specs.declared.status.Status.{Status}
use Rattle.pc_faults.specs.declared.status.Status.TheVariants.{Input, SourceFault, NoMemory}
use Rattle.pc_settings.specs.Request.{FieldRequest, FieldText}
use Rattle.pc_source.specs.FieldText.{DashText, IsFumenField, IsFieldOf, itself, of_source}
use Rattle.pc_source.specs.Faults.{field_fault, text_fault}
use Rattle.pc_source.specs.Problem.{IsProblemOf}
use Rattle.pc_source.specs.ProblemFaults.{problem_fault}
use Rattle.pc_source.specs.declared.field_text.Dash.{Dash}
use Rattle.pc_source.specs.declared.field_text.Dash.TheVariants.{Source, Itself}

-- by this fault, or for want of memory
abbrev pub IsRefusedInput : Option Fault → Refused Fault → Type 0
IsRefusedInput fault (refused.Fault found) = fault ≡ Some found
IsRefusedInput fault refused.NoMemory = Unit {0}

-- the source could not be read to its end
abbrev pub IsUnread : Status → Type 0
IsUnread (Input fault) = fault ≡ SourceTooLong
IsUnread SourceFault = Unit {0}
IsUnread NoMemory = Unit {0}
IsUnread other = ⊥

-- a text reads as these pages
pub record HasText (text : List ℕ) (pages : List Page) : Type 0 where
  pub dialect : Dialect
  pub reads : ReadsAs text dialect pages

-- a page whose cells are colours, and whose operation lies in the well
pub record IsShowable (page : Page) : Type 0 where
  pub colours : All IsColour page.cells
  pub inside : ForSome page.operation (λ placement. IsTrue (is_inside_of placement))

-- the field of a page of a fumen text is had: there is no fault
pub record HasFumenField (text : List ℕ) (number : ℕ) (F : Field) : Type 0 where
  pub none : text_fault (Some number) text ≡ None
  pub is : IsFumenField text number F

abbrev pub dash_view : Dash → DashText
dash_view (Source bytes) = of_source bytes.now
dash_view Itself = itself

-- the field is had: the field's text has no fault
pub record HasField (field : FieldText) (number : ℕ) (meant : DashText) (F : Field) : Type 0 where
  pub none : field_fault field number meant ≡ None
  pub is : IsFieldOf field number meant F

-- the problem that is asked for is had: neither the text of its field nor what is asked about this field has a fault
pub record HasProblem (request : FieldRequest) (meant : DashText) (problem : Problem) : Type 0 where
  pub field : HasField request.field request.page meant (filled problem.well)
  pub none : problem_fault request (filled problem.well) ≡ None
  pub named : IsProblemOf request (filled problem.well) problem
