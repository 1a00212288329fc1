-- The lines of a text, one after the other.
use Rattle.std.proofs.Common.{◌≡◌, ℕ, List, [], ◌∷◌, ap, ◌∙◌, arith, rules}
use Rattle.std.proofs.lemmas.Grind.{common_steps}
use Rattle.page_list.specs.LineSpelling.{HasLines, IsFirstLine}
use Rattle.page_list.specs.ListReading.{lines_of}
use Rattle.page_list.proofs.FirstLine.{first_line_read, first_line_some, first_line_is}
use Rattle.page_list.proofs.ListLemmas.{lines-more, none-left}

-- the lines of a text with a first line
pub record HasFirst (text line : List ℕ) (lines : List (List ℕ)) : Type 0 where
  pub behind : List ℕ
  pub first : IsFirstLine text line behind
  pub later : lines_of behind ≡ lines

pub no_lines : (text : List ℕ) → lines_of text ≡ [] → text ≡ []
no_lines text is = grind (arith, common_steps, lines-more)

pub has_first : (text line : List ℕ) (lines : List (List ℕ)) → lines_of text ≡ line ∷ lines → HasFirst text line lines
has_first text line lines is = grind (arith, common_steps, none-left, lines-more, first_line_is)

pub lines_at : (text line behind : List ℕ) → IsFirstLine text line behind → lines_of text ≡ line ∷ lines_of behind
lines_at text line behind first = search (rules, lines-more, first_line_some, first_line_read)

-- the lines that are read are those that follow each other
followed : (lines : List (List ℕ)) (text : List ℕ) → lines_of text ≡ lines → HasLines text lines
followed [] text is = no_lines text is
followed (line ∷ lines) text is =
    let first = has_first text line lines is in
    (first.behind, first.first, followed lines first.behind first.later)

pub lines_followed : (text : List ℕ) (lines : List (List ℕ)) → lines_of text ≡ lines → HasLines text lines
lines_followed text lines is = followed lines text is

read : (lines : List (List ℕ)) (text : List ℕ) → HasLines text lines → lines_of text ≡ lines
read [] text none = ap lines_of none ∙ none-left
read (line ∷ lines) text (behind, first, rest) = search (rules, lines_at, read lines behind rest)

pub followed_lines : (text : List ℕ) (lines : List (List ℕ)) → HasLines text lines → lines_of text ≡ lines
followed_lines text lines has = read lines text has
