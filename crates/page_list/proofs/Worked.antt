-- The line form at worked texts: what they spell, or their fault.
use Rattle.std.proofs.Common.{ℕ, [], ◌∷◌, ◌++◌, true, false, Some, None, refl}
use Rattle.std.specs.Prelude.{codes, replicate}
use Rattle.srs.specs.declared.piece.Piece.TheVariants.{T}
use Rattle.srs.specs.declared.rotation.Rotation.TheVariants.{Spawn}
use Rattle.placement_form.specs.Reading.{placement_in, row_in}
use Rattle.fumen_comment.specs.Unescape.{hex_value, hex_byte_at, hex_unit_at, unit_of, unescaped_behind}
use Rattle.fumen_pages.specs.declared.page.Page.{Page}
use Rattle.fumen_pages.specs.declared.list_fault.ListFault.{ListFault}
use Rattle.fumen_pages.specs.declared.list_fault.ListKind.{ListKind}
use Rattle.fumen_pages.specs.declared.list_fault.ListKind.TheVariants.{BadLine, BadCells, BadOperation, BadFlags, BadComment}
use Rattle.page_list.specs.CellsReading.{cut_at, rows_at, rows_colours, garbage_colours, cells_in}
use Rattle.page_list.specs.FieldsReading.{is_dash, operation_in, flags_in, units_in, comment_in}
use Rattle.page_list.specs.LineReading.{four_in, line_in}
use Rattle.page_list.specs.ListReading.{without_return, whole_lines, numbered_page, pages_from}
use Rattle.page_list.specs.LineSpelling.{SpellsPages, IsListFault}
use Rattle.page_list.proofs.PagesReadAsSpelled.{pages_spelled, fault_spelled}

empty_page : Page
empty_page = record { cells = replicate 240 0; operation = None; rise = false; mirror = false; colour = true; lock = true; comment = None }

-- row 0 has one grey cell, the garbage row one of I
coloured : Page
coloured = record {
  cells = replicate 220 0 ++ 8 ∷ replicate 18 0 ++ 1 ∷ [];
  operation = Some (record { piece = T; rotation = Spawn; x = 4; y = 20 });
  rise = true;
  mirror = false;
  colour = false;
  lock = true;
  comment = Some (65 ∷ 37 ∷ []);
}

abbrev fault : ℕ → ListKind → ListFault
fault line kind = record { line = line; kind = kind }

no_bytes : SpellsPages [] []
unfolding pages_from whole_lines
no_bytes = pages_spelled [] [] refl

-- the last line needs no newline
two_lines : SpellsPages (codes "X_________|_________I T0:4,20 r--l #A%25\n| - --cl -") (coloured ∷ empty_page ∷ [])
unfolding whole_lines without_return pages_from numbered_page line_in four_in cut_at cells_in rows_colours garbage_colours rows_at operation_in is_dash placement_in row_in flags_in comment_in units_in unescaped_behind unit_of hex_unit_at hex_byte_at hex_value coloured empty_page
two_lines = pages_spelled _ _ refl

three_fields : IsListFault (codes "| - --cl\n") (fault 1 BadLine)
unfolding whole_lines without_return pages_from numbered_page line_in four_in cut_at cells_in rows_colours garbage_colours rows_at operation_in is_dash placement_in row_in flags_in comment_in units_in unescaped_behind unit_of hex_unit_at hex_byte_at hex_value
three_fields = fault_spelled _ _ refl

empty_line : IsListFault (codes "| - --cl -\n\n") (fault 2 BadLine)
unfolding whole_lines without_return pages_from numbered_page line_in four_in cut_at cells_in rows_colours garbage_colours rows_at operation_in is_dash placement_in row_in flags_in comment_in units_in unescaped_behind unit_of hex_unit_at hex_byte_at hex_value
empty_line = fault_spelled _ _ refl

eleven_letters : IsListFault (codes "___________| - --cl -") (fault 1 BadCells)
unfolding whole_lines without_return pages_from numbered_page line_in four_in cut_at cells_in rows_colours garbage_colours rows_at operation_in is_dash placement_in row_in flags_in comment_in units_in unescaped_behind unit_of hex_unit_at hex_byte_at hex_value
eleven_letters = fault_spelled _ _ refl

small_letter : IsListFault (codes "x_________| - --cl -") (fault 1 BadCells)
unfolding whole_lines without_return pages_from numbered_page line_in four_in cut_at cells_in rows_colours garbage_colours rows_at operation_in is_dash placement_in row_in flags_in comment_in units_in unescaped_behind unit_of hex_unit_at hex_byte_at hex_value
small_letter = fault_spelled _ _ refl

row_23 : IsListFault (codes "| T0:4,23 --cl -") (fault 1 BadOperation)
unfolding whole_lines without_return pages_from numbered_page line_in four_in cut_at cells_in rows_colours garbage_colours rows_at operation_in is_dash placement_in row_in flags_in comment_in units_in unescaped_behind unit_of hex_unit_at hex_byte_at hex_value
row_23 = fault_spelled _ _ refl

flags_in_another_order : IsListFault (codes "| - --lc -") (fault 1 BadFlags)
unfolding whole_lines without_return pages_from numbered_page line_in four_in cut_at cells_in rows_colours garbage_colours rows_at operation_in is_dash placement_in row_in flags_in comment_in units_in unescaped_behind unit_of hex_unit_at hex_byte_at hex_value
flags_in_another_order = fault_spelled _ _ refl

-- only a `\r` before a newline goes
return_without_newline : IsListFault (codes "| - --cl -\r") (fault 1 BadComment)
unfolding whole_lines without_return pages_from numbered_page line_in four_in cut_at cells_in rows_colours garbage_colours rows_at operation_in is_dash placement_in row_in flags_in comment_in units_in unescaped_behind unit_of hex_unit_at hex_byte_at hex_value
return_without_newline = fault_spelled _ _ refl

-- and only one
two_returns : IsListFault (codes "| - --cl -\r\r\n") (fault 1 BadComment)
unfolding whole_lines without_return pages_from numbered_page line_in four_in cut_at cells_in rows_colours garbage_colours rows_at operation_in is_dash placement_in row_in flags_in comment_in units_in unescaped_behind unit_of hex_unit_at hex_byte_at hex_value
two_returns = fault_spelled _ _ refl
