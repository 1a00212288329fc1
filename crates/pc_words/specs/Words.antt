-- What the words ask for, or their first fault from the left. Behind the command stand pairs of a name and a value.
use Rattle.std.specs.Prelude.{ℕ, ◌+◌, Bool, false, List, [], ◌∷◌, ◌++◌, length, map, Option, Some, None, is_some, option_map, unwrap_or, Result, Ok, Err, if◌then◌else◌, string_bytes}
use Rattle.std.specs.Option.{option_or}
use Rattle.std.specs.Str.{bytes_eq}
use Rattle.std.specs.declared.string.String.{String}
use Rattle.fumen_digits.specs.declared.dialect.Dialect.TheVariants.{V115}
use Rattle.srs.specs.Kick.{Table}
use Rattle.kick_file.specs.declared.fault.KickFault.{KickFault}
use Rattle.kick_file.specs.Reading.{kick_text}
use Rattle.hold_queue.specs.declared.hold.Hold.TheVariants.{Allowed}
use Rattle.moves.specs.declared.key.DropMode.TheVariants.{Soft}
use Rattle.pc_faults.specs.declared.fault.Fault.{Fault}
use Rattle.pc_faults.specs.declared.fault.Fault.TheVariants as faults
use Rattle.pc_faults.specs.declared.words_fault.WordsFault.{WordsFault}
use Rattle.pc_faults.specs.declared.words_fault.WordsKind.{WordsKind}
use Rattle.pc_faults.specs.declared.words_fault.WordsKind.TheVariants.{NoCommand, UnknownCommand, UnknownOption, RepeatedOption, BothFields, MissingValue, BadValue, MissingOption}
use Rattle.pc_settings.specs.Request.{ComboRequest, FieldRequest, FieldText, PathRequest, PercentRequest, fumen_text, rows_text}
use Rattle.pc_settings.specs.declared.format.Format.TheVariants.{Text}
use Rattle.pc_words.specs.declared.options.Command.{Command}
use Rattle.pc_words.specs.declared.options.Command.TheVariants as commands
use Rattle.pc_words.specs.declared.options.CommandOption.{CommandOption}
use Rattle.pc_words.specs.declared.options.CommandOption.TheVariants.{Rows, Tetfu, Patterns, Kicks, After}
use Rattle.pc_words.specs.declared.options.Values.{Values}
use Rattle.pc_words.specs.Options.{command_in, option_name, option_of}
use Rattle.pc_words.specs.Request.{Request, combo, cover, decode, encode, kicks, path, percent, selfrun, show, table_asked}
use Rattle.pc_words.specs.Values.{is_value_of, values_by}

-- the texts of the words
abbrev pub texts : {Z : Type 0} → List (String Z) → List (List ℕ)
texts words = map (λ word. string_bytes word) words

-- the value behind the name of an option, where pairs have it
unfoldable pub value_of : CommandOption → List (List ℕ) → Option (List ℕ)
value_of option [] = None
value_of option (name ∷ []) = None
value_of option (name ∷ value ∷ rest) = if bytes_eq name (option_name option) then Some value else value_of option rest

abbrev pub is_given : CommandOption → List (List ℕ) → Bool
is_given option pairs = is_some (value_of option pairs)

-- whether the option gives the field, and pairs before it give the field in the other way
abbrev pub is_other_field : CommandOption → List (List ℕ) → Bool
is_other_field Rows before = is_given Tetfu before
is_other_field Tetfu before = is_given Rows before
is_other_field other before = false

abbrev pub fault_at : WordsKind → ℕ → WordsFault
fault_at kind index = record { kind = kind; index = index }

abbrev pub value_fault : ℕ → CommandOption → Option (List ℕ) → Option WordsFault
value_fault index option None = Some (fault_at MissingValue index)
value_fault index option (Some value) = if is_value_of option value then None else Some (fault_at BadValue (index + 1))

abbrev pub option_fault : List (List ℕ) → ℕ → Option CommandOption → Option (List ℕ) → Option WordsFault
option_fault before index None value = Some (fault_at UnknownOption index)
option_fault before index (Some option) value =
    if is_given option before then Some (fault_at RepeatedOption index)
    else (if is_other_field option before then Some (fault_at BothFields index)
    else value_fault index option value)

-- the first fault of a name and the value after it, where there is one, behind these pairs and the command
unfoldable pub pair_fault : Command → List (List ℕ) → List ℕ → Option (List ℕ) → Option WordsFault
pair_fault command before name value = option_fault before (length before + 1) (option_of command name) value

-- the first fault of pairs, behind these pairs and the command
unfoldable pub pairs_fault : Command → List (List ℕ) → List (List ℕ) → Option WordsFault
pairs_fault command before [] = None
pairs_fault command before (name ∷ []) = pair_fault command before name None
pairs_fault command before (name ∷ value ∷ rest) =
    option_or (pair_fault command before name (Some value)) (pairs_fault command (before ++ name ∷ value ∷ []) rest)

-- the values that pairs give
abbrev pub values_in : List (List ℕ) → Values
values_in pairs = values_by (λ option. value_of option pairs)

-- the field of the pairs, of which one at most gives it
abbrev pub field_given : Option (List ℕ) → Option (List ℕ) → Option FieldText
field_given (Some rows) tetfu = Some (rows_text rows)
field_given None (Some tetfu) = Some (fumen_text tetfu)
field_given None None = None

-- The table of offsets that is given, or the first fault of its text. The empty text is the table of the Super Rotation
-- System. A text is read as it spells: the law `texts_are_read_as_they_spell` of `kick_file`.
abbrev pub table_given : List (List ℕ) → Result Table KickFault
table_given pairs = kick_text (unwrap_or (value_of Kicks pairs) [])

abbrev pub request_with : List (List ℕ) → Values → Option FieldText → Option (List ℕ) → Option FieldRequest
request_with pairs values (Some field) (Some patterns) = Some (record {
  field = field;
  page = unwrap_or values.page 1;
  height = unwrap_or values.height 4;
  patterns = patterns;
  hold = unwrap_or values.hold Allowed;
  held = values.held;
  drop_mode = unwrap_or values.drop_mode Soft;
  table = table_given pairs;
})
request_with pairs values _ _ = None

-- what is asked about a field; the field and the pattern are required
unfoldable pub field_request : List (List ℕ) → Values → Option FieldRequest
field_request pairs values = request_with pairs values (field_given (value_of Rows pairs) (value_of Tetfu pairs))
    (value_of Patterns pairs)

abbrev pub path_request : List (List ℕ) → Values → FieldRequest → PathRequest
path_request pairs values common = record {
  common = common;
  after = value_of After pairs;
  limit = unwrap_or values.limit 1000000000;
  keys = unwrap_or values.keys false;
  format = unwrap_or values.format Text;
  stats = unwrap_or values.stats false;
}

abbrev pub percent_request : Values → FieldRequest → PercentRequest
percent_request values common = record {
  common = common;
  failed = unwrap_or values.failed 0;
}

-- a run is asked for as a field is, without its height
abbrev pub combo_request : Values → FieldRequest → ComboRequest
combo_request values common = record {
  field = common.field;
  page = common.page;
  patterns = common.patterns;
  hold = common.hold;
  held = common.held;
  drop_mode = common.drop_mode;
  table = common.table;
  keys = unwrap_or values.keys false;
}

-- how many pages are made, and from which number; both are required
abbrev pub selfrun_with : Option ℕ → Option ℕ → Option Request
selfrun_with (Some number) (Some pages) = Some (selfrun number pages)
selfrun_with _ _ = None

-- a request, or that a required option is absent
abbrev pub or_missing : List (List ℕ) → Option Request → Result Request WordsFault
or_missing pairs None = Err (fault_at MissingOption (length pairs + 1))
or_missing pairs (Some request) = Ok request

-- what a command is asked for by pairs that have no fault, and by their values
abbrev pub request_of : Command → List (List ℕ) → Values → Result Request WordsFault
request_of commands.Path pairs values = or_missing pairs (option_map
    (λ common. path (path_request pairs values common)) (field_request pairs values))
request_of commands.Percent pairs values = or_missing pairs (option_map
    (λ common. percent (percent_request values common)) (field_request pairs values))
request_of commands.Cover pairs values = or_missing pairs (option_map (λ common. cover common)
    (field_request pairs values))
request_of commands.Combo pairs values = or_missing pairs (option_map (λ common. combo (combo_request values common))
    (field_request pairs values))
request_of commands.Decode pairs values = Ok decode
request_of commands.Encode pairs values = Ok (encode (unwrap_or values.dialect V115))
request_of commands.Show pairs values = Ok (show values.page)
request_of commands.Kicks pairs values = Ok (kicks (table_given pairs))
request_of commands.Selfrun pairs values = or_missing pairs (selfrun_with values.number values.pages)

abbrev pub request_where : Option WordsFault → Command → List (List ℕ) → Result Request WordsFault
request_where None command pairs = request_of command pairs (values_in pairs)
request_where (Some fault) command pairs = Err fault

-- the pairs behind a command
abbrev pub command_read : Option Command → List (List ℕ) → Result Request WordsFault
command_read None pairs = Err (fault_at UnknownCommand 0)
command_read (Some command) pairs = request_where (pairs_fault command [] pairs) command pairs

-- what the words ask for, or their first fault
unfoldable pub request_in : List (List ℕ) → Result Request WordsFault
request_in [] = Err (fault_at NoCommand 0)
request_in (word ∷ pairs) = command_read (command_in word) pairs

-- a request, unless the table of offsets that it gives has a fault
abbrev pub with_table : Request → Result Table KickFault → Result Request Fault
with_table request (Ok table) = Ok request
with_table request (Err fault) = Err (faults.Kicks fault)

-- what is asked for, or the first fault of the words, or of the table
abbrev pub asked_in : Result Request WordsFault → Result Request Fault
asked_in (Ok request) = with_table request (table_asked request)
asked_in (Err fault) = Err (faults.Words fault)
