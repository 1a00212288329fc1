-- Reading a line, with the first of its fields that spells nothing.
use Rattle.std.specs.Prelude.{ℕ, nat_lt, List, length, Bool, not, ◌&&◌, ◌==◌, if◌then◌else◌, Option, Some, None, option_and_then, Result, Ok}
use Rattle.std.specs.Option.{ok_or}
use Rattle.std.specs.List.{list_all}
use Rattle.srs.specs.declared.placement.Placement.{Placement}
use Rattle.fumen_pages.specs.declared.page.Page.{Page}
use Rattle.fumen_pages.specs.declared.list_fault.ListKind.{ListKind}
use Rattle.fumen_pages.specs.declared.list_fault.ListKind.TheVariants.{BadLine, BadCells, BadOperation, BadFlags, BadComment}
use Rattle.page_list.specs.declared.fields.Flags.{Flags}
use Rattle.page_list.specs.Divided.{Four}
use Rattle.page_list.specs.CellsReading.{cells_in, cut_at}
use Rattle.page_list.specs.FieldsReading.{operation_in, flags_in, comment_in}
use Rattle.fumen_digits.specs.Reading.{◌>>=◌}

-- a field has some byte, and no blank
abbrev pub is_field : List ℕ → Bool
is_field text = nat_lt 0 (length text) && list_all (λ byte. not (byte == 32)) text

-- no field is empty, and the last one has no blank
abbrev pub are_fields : Four → Bool
are_fields four = is_field four.cells && is_field four.operation && is_field four.flags && is_field four.comment

-- the fields that the first three blanks divide
abbrev pub divided : List ℕ → Option Four
divided line =
    option_and_then (λ a. option_and_then (λ b. option_and_then (λ c.
    Some (record { cells = a.0; operation = b.0; flags = c.0; comment = c.1 }))
    (cut_at 32 b.1)) (cut_at 32 a.1)) (cut_at 32 line)

-- exactly four fields, divided by single blanks
unfoldable pub four_in : List ℕ → Option Four
four_in line = option_and_then (λ four. if are_fields four then Some four else None) (divided line)

abbrev pub page_of_parts : List ℕ → Option Placement → Flags → Option (List ℕ) → Page
page_of_parts cells operation flags comment =
    record {
      cells = cells;
      operation = operation;
      rise = flags.rise;
      mirror = flags.mirror;
      colour = flags.colour;
      lock = flags.lock;
      comment = comment;
    }

-- the page of a line without its newline, or the line's first fault
unfoldable pub line_in : List ℕ → Result Page ListKind
line_in line = do
  four ← ok_or (four_in line) BadLine
  cells ← ok_or (cells_in four.cells) BadCells
  operation ← ok_or (operation_in four.operation) BadOperation
  flags ← ok_or (flags_in four.flags) BadFlags
  comment ← ok_or (comment_in four.comment) BadComment
  Ok (page_of_parts cells operation flags comment)
