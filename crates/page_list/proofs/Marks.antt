-- Each byte of a field that spells something is a character from `!` to `~`.
use Rattle.std.proofs.Common.{ℕ, ◌<◌, ◌≤◌, Bool, true, ◌&&◌, List, [], ◌∷◌, ◌++◌, length, length-append, map, Option, All, refl, ne_eqb, arith, rules}
use Rattle.std.specs.Prelude.{decimal}
use Rattle.std.specs.Fmt.{digits}
use Rattle.std.specs.List.{list_all, join_with_byte}
use Rattle.std.proofs.lemmas.Bool.{agree_below_at, and_parts}
use Rattle.std.proofs.lemmas.List.Elements.{All-nil, All-cons, All-append}
use Rattle.std.proofs.lemmas.List.Sums.{AllPass-from_list_all}
use Rattle.srs.specs.declared.placement.Placement.{Placement}
use Rattle.srs.specs.Piece.{piece_letter}
use Rattle.srs.specs.Rotation.{rotation_letter}
use Rattle.srs.proofs.CallerLemmas.{each_state}
use Rattle.placement_form.specs.Form.{placement_form}
use Rattle.fumen_comment.proofs.CallerLemmas.{IsMark}
use Rattle.fumen_pages.specs.declared.page.Page.{Page}
use Rattle.fumen_pages.specs.Letters.{colour_letter, letters_of}
use Rattle.page_list.specs.Divided.{IsField}
use Rattle.page_list.specs.FieldsReading.{is_mark}
use Rattle.page_list.specs.PrintedLine.{flag_form}
use Rattle.page_list.specs.LineSpelling.{SpellsGarbage, left_out, written, SpellsLineCells, SpellsLineOperation, SpellsLineFlags, SpellsLineComment}
use Rattle.page_list.proofs.CellsReadAsSpelled.{letters_all, rows_all}
use Rattle.page_list.proofs.FieldsReadAsSpelled.{mark_is}

-- some bytes, each such a character
pub record HasMarks (text : List ℕ) : Type 0 where
  pub some : 0 < length text
  pub marks : All IsMark text

pub marked_field : (text : List ℕ) → HasMarks text → IsField text
marked_field text has = record { some = has.some; blanks = λ k d within. let mark = has.marks k d within in ne_eqb _ 32 (λ e. omega (arith, e, mark.0)) }

-- ---- cells

letter_mark : (colour : ℕ) → colour ≤ 8 → IsMark (colour_letter colour)
unfolding colour_letter
letter_mark colour small = mark_is (colour_letter colour) (agree_below_at (λ k. is_mark (colour_letter k)) (λ _. true) 9 colour refl (omega arith))

garbage_marks : (text garbage : List ℕ) → SpellsGarbage text garbage → All IsMark text
garbage_marks text garbage left_out = All-nil IsMark
garbage_marks text garbage (written {row = row} is) = letters_all IsMark letter_mark row is.colours

pub cells_marks : (text cells : List ℕ) → SpellsLineCells text cells → HasMarks text
cells_marks text cells s =
    search (rules, (length-append (join_with_byte 47 (map letters_of s.rows)) (124 ∷ s.garbage_text)), (All-append IsMark (join_with_byte 47 (map letters_of s.rows)) (124 ∷ s.garbage_text) (rows_all IsMark letter_mark (mark_is 47 refl) s.rows s.each) (All-cons IsMark 124 s.garbage_text (mark_is 124 refl) (garbage_marks s.garbage_text s.garbage s.garbage_spelled))))

-- ---- operations

dash : HasMarks (45 ∷ [])
dash = record { some = omega arith; marks = All-cons IsMark 45 [] (mark_is 45 refl) (All-nil IsMark) }

number_marks : (n : ℕ) → n ≤ 22 → All IsMark (decimal n)
unfolding digits
number_marks n small =
    let all = AllPass-from_list_all is_mark (decimal n) (agree_below_at (λ k. list_all is_mark (decimal k)) (λ _. true) 23 n refl (omega arith)) in λ k d within. mark_is _ (all k d within)

placement_marks : (placement : Placement) → placement.x ≤ 9 → placement.y ≤ 22 → HasMarks (placement_form placement)
unfolding placement_form
placement_marks placement column row =
    let letters = and_parts (is_mark (piece_letter placement.piece)) (is_mark (rotation_letter placement.rotation)) (each_state (λ p r. is_mark (piece_letter p) && is_mark (rotation_letter r)) refl placement.piece placement.rotation) in
    let x = decimal placement.x in
    let y = decimal placement.y in
    record {
      some = omega arith;
      marks =
          All-cons IsMark (piece_letter placement.piece) (rotation_letter placement.rotation ∷ 58 ∷ (x ++ 44 ∷ [] ++ y)) (mark_is _ letters.0)
          (All-cons IsMark (rotation_letter placement.rotation) (58 ∷ (x ++ 44 ∷ [] ++ y)) (mark_is _ letters.1)
          (All-cons IsMark 58 (x ++ 44 ∷ [] ++ y) (mark_is 58 refl) (All-append IsMark (x ++ 44 ∷ []) y (All-append IsMark x (44 ∷ []) (number_marks placement.x (omega (arith, column))) comma) (number_marks placement.y row))));
    }
  where
    comma : All IsMark (44 ∷ [])
    comma = All-cons IsMark 44 [] (mark_is 44 refl) (All-nil IsMark)

pub operation_marks : (text : List ℕ) (operation : Option Placement) → SpellsLineOperation text operation → HasMarks text
operation_marks text operation s = search (rules, dash, placement_marks)

-- ---- flags

flag_mark : (letter : ℕ) (is_set : Bool) → IsMark letter → IsMark (flag_form letter is_set)
flag_mark letter is_set mark = search (rules, mark_is)

four_marks : (a b c d : ℕ) → IsMark a → IsMark b → IsMark c → IsMark d → All IsMark (a ∷ b ∷ c ∷ d ∷ [])
four_marks a b c d first second third fourth = search (rules, All-cons, All-nil)

pub flags_marks : (text : List ℕ) (page : Page) → SpellsLineFlags text page → HasMarks text
flags_marks text page s = search (rules, four_marks, flag_mark, mark_is)

-- ---- comments

pub comment_marks : (text : List ℕ) (comment : Option (List ℕ)) → SpellsLineComment text comment → HasMarks text
comment_marks text comment s = search (rules, dash, All-cons, mark_is)
