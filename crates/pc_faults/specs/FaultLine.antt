-- The line of a fault: `input: `, its name, its numbers, and a newline.
use Rattle.std.specs.Prelude.{ℕ, List, [], ◌∷◌, ◌++◌, codes, decimal}
use Rattle.std.specs.List.{flat_map}
use Rattle.well.specs.declared.rows.RowsFault.{RowsFault}
use Rattle.well.specs.declared.rows.RowsFault.TheVariants.{BadRowChar, BadRowLength, TooManyRows}
use Rattle.queue_pattern.specs.declared.fault.PatternFault.{PatternFault}
use Rattle.queue_pattern.specs.declared.fault.PatternFault.TheVariants.{Unexpected, RepeatedPiece, TooManyChosen, PatternTooLong, TooManyQueues}
use Rattle.kick_file.specs.declared.fault.KickFault.{KickFault}
use Rattle.kick_file.specs.declared.fault.KickFault.TheVariants as kick
use Rattle.fumen_digits.specs.declared.fault.FumenFault.{FumenFault}
use Rattle.fumen_digits.specs.declared.fault.FumenFault.TheVariants as fumen
use Rattle.fumen_pages.specs.declared.encode_fault.EncodeFault.{EncodeFault}
use Rattle.fumen_pages.specs.declared.encode_fault.EncodeFault.TheVariants as unwritten
use Rattle.fumen_pages.specs.declared.list_fault.ListKind.{ListKind}
use Rattle.fumen_pages.specs.declared.list_fault.ListKind.TheVariants as kinds
use Rattle.pc_faults.specs.declared.words_fault.WordsKind.{WordsKind}
use Rattle.pc_faults.specs.declared.words_fault.WordsKind.TheVariants.{NoCommand, UnknownCommand, UnknownOption, RepeatedOption, BothFields, MissingValue, BadValue, MissingOption}
use Rattle.pc_faults.specs.declared.cover_fault.CoverKind.{CoverKind}
use Rattle.pc_faults.specs.declared.cover_fault.CoverKind.TheVariants.{BadSequence, TooManySequences}
use Rattle.pc_faults.specs.declared.fault.Fault.{Fault}
use Rattle.pc_faults.specs.declared.fault.Fault.TheVariants.{Words, Kicks, SourceTooLong, Fumen, NoPage, List as ListOf, Encode, Rows, FieldTooHigh, FullRow, Pattern, NotOneQueue, TooFewPieces, BadAfter, Cover}

abbrev pub words_name : WordsKind → List ℕ
words_name NoCommand = codes "Words.NoCommand"
words_name UnknownCommand = codes "Words.UnknownCommand"
words_name UnknownOption = codes "Words.UnknownOption"
words_name RepeatedOption = codes "Words.RepeatedOption"
words_name BothFields = codes "Words.BothFields"
words_name MissingValue = codes "Words.MissingValue"
words_name BadValue = codes "Words.BadValue"
words_name MissingOption = codes "Words.MissingOption"

abbrev pub kicks_name : KickFault → List ℕ
kicks_name (kick.Unexpected place) = codes "Kicks.Unexpected"
kicks_name (kick.RepeatedEntry place) = codes "Kicks.RepeatedEntry"

abbrev pub rows_name : RowsFault → List ℕ
rows_name (BadRowChar place) = codes "Rows.BadRowChar"
rows_name (BadRowLength row) = codes "Rows.BadRowLength"
rows_name TooManyRows = codes "Rows.TooManyRows"

abbrev pub pattern_name : PatternFault → List ℕ
pattern_name (Unexpected place) = codes "Pattern.Unexpected"
pattern_name (RepeatedPiece place) = codes "Pattern.RepeatedPiece"
pattern_name (TooManyChosen place) = codes "Pattern.TooManyChosen"
pattern_name PatternTooLong = codes "Pattern.PatternTooLong"
pattern_name TooManyQueues = codes "Pattern.TooManyQueues"

abbrev pub cover_name : CoverKind → List ℕ
cover_name BadSequence = codes "Cover.BadSequence"
cover_name TooManySequences = codes "Cover.TooManySequences"

abbrev pub fumen_name : FumenFault → List ℕ
fumen_name fumen.NoFumen = codes "Fumen.NoFumen"
fumen_name (fumen.BadDigit place) = codes "Fumen.BadDigit"
fumen_name (fumen.Truncated place) = codes "Fumen.Truncated"
fumen_name (fumen.RunPastEnd place) = codes "Fumen.RunPastEnd"
fumen_name (fumen.BadCell place) = codes "Fumen.BadCell"
fumen_name (fumen.BadAction place) = codes "Fumen.BadAction"
fumen_name (fumen.PieceOutside page) = codes "Fumen.PieceOutside"
fumen_name (fumen.BadComment place) = codes "Fumen.BadComment"
fumen_name fumen.TooManyPages = codes "Fumen.TooManyPages"

abbrev pub list_name : ListKind → List ℕ
list_name kinds.TooManyPages = codes "List.TooManyPages"
list_name kinds.BadLine = codes "List.BadLine"
list_name kinds.BadCells = codes "List.BadCells"
list_name kinds.BadOperation = codes "List.BadOperation"
list_name kinds.BadFlags = codes "List.BadFlags"
list_name kinds.BadComment = codes "List.BadComment"

abbrev pub encode_name : EncodeFault → List ℕ
encode_name unwritten.TooManyPages = codes "Encode.TooManyPages"
encode_name (unwritten.BadCell page) = codes "Encode.BadCell"
encode_name (unwritten.PieceOutside page) = codes "Encode.PieceOutside"
encode_name (unwritten.CommentTooLong page) = codes "Encode.CommentTooLong"
encode_name (unwritten.RowTooHigh page) = codes "Encode.RowTooHigh"

abbrev pub fault_name : Fault → List ℕ
fault_name (Words fault) = words_name fault.kind
fault_name (Kicks fault) = kicks_name fault
fault_name SourceTooLong = codes "SourceTooLong"
fault_name (Fumen fault) = fumen_name fault
fault_name (NoPage asked there) = codes "NoPage"
fault_name (ListOf fault) = list_name fault.kind
fault_name (Encode fault) = encode_name fault
fault_name (Rows fault) = rows_name fault
fault_name (FieldTooHigh row) = codes "FieldTooHigh"
fault_name (FullRow row) = codes "FullRow"
fault_name (Pattern fault) = pattern_name fault
fault_name (NotOneQueue count) = codes "NotOneQueue"
fault_name (TooFewPieces have need) = codes "TooFewPieces"
fault_name (BadAfter place) = codes "BadAfter"
fault_name (Cover fault) = cover_name fault.kind

abbrev pub kicks_numbers : KickFault → List ℕ
kicks_numbers (kick.Unexpected place) = place ∷ []
kicks_numbers (kick.RepeatedEntry place) = place ∷ []

abbrev pub rows_numbers : RowsFault → List ℕ
rows_numbers (BadRowChar place) = place ∷ []
rows_numbers (BadRowLength row) = row ∷ []
rows_numbers TooManyRows = []

abbrev pub pattern_numbers : PatternFault → List ℕ
pattern_numbers (Unexpected place) = place ∷ []
pattern_numbers (RepeatedPiece place) = place ∷ []
pattern_numbers (TooManyChosen place) = place ∷ []
pattern_numbers PatternTooLong = []
pattern_numbers TooManyQueues = []

abbrev pub fumen_numbers : FumenFault → List ℕ
fumen_numbers fumen.NoFumen = []
fumen_numbers (fumen.BadDigit place) = place ∷ []
fumen_numbers (fumen.Truncated place) = place ∷ []
fumen_numbers (fumen.RunPastEnd place) = place ∷ []
fumen_numbers (fumen.BadCell place) = place ∷ []
fumen_numbers (fumen.BadAction place) = place ∷ []
fumen_numbers (fumen.PieceOutside page) = page ∷ []
fumen_numbers (fumen.BadComment place) = place ∷ []
fumen_numbers fumen.TooManyPages = []

abbrev pub encode_numbers : EncodeFault → List ℕ
encode_numbers unwritten.TooManyPages = []
encode_numbers (unwritten.BadCell page) = page ∷ []
encode_numbers (unwritten.PieceOutside page) = page ∷ []
encode_numbers (unwritten.CommentTooLong page) = page ∷ []
encode_numbers (unwritten.RowTooHigh page) = page ∷ []

abbrev pub fault_numbers : Fault → List ℕ
fault_numbers (Words fault) = fault.index ∷ []
fault_numbers (Kicks fault) = kicks_numbers fault
fault_numbers SourceTooLong = []
fault_numbers (Fumen fault) = fumen_numbers fault
fault_numbers (NoPage asked there) = asked ∷ there ∷ []
fault_numbers (ListOf fault) = fault.line ∷ []
fault_numbers (Encode fault) = encode_numbers fault
fault_numbers (Rows fault) = rows_numbers fault
fault_numbers (FieldTooHigh row) = row ∷ []
fault_numbers (FullRow row) = row ∷ []
fault_numbers (Pattern fault) = pattern_numbers fault
fault_numbers (NotOneQueue count) = count ∷ []
fault_numbers (TooFewPieces have need) = have ∷ need ∷ []
fault_numbers (BadAfter place) = place ∷ []
fault_numbers (Cover fault) = fault.line ∷ []

-- each number with a blank before it
abbrev pub line_with : List ℕ → List ℕ → List ℕ
line_with name numbers = codes "input: " ++ name ++ flat_map (λ number. 32 ∷ decimal number) numbers ++ 10 ∷ []

unfoldable pub fault_line : Fault → List ℕ
fault_line fault = line_with (fault_name fault) (fault_numbers fault)
