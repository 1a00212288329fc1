-- What the words ask for lies in its ranges, and its table of offsets is read of a text.
use Rattle.std.proofs.Common.{◌≡◌, ◌∙◌, ℕ, ◌≤◌, List, [], Option, Some, None, Result, Ok, Err, refl, ap, subst, rules}
use Rattle.std.specs.Prelude.{IfOk, option_map, unwrap_or}
use Rattle.std.specs.Option.{ForSome, option_and_then}
use Rattle.srs.specs.Kick.{Table, srs_table}
use Rattle.kick_file.specs.declared.fault.KickFault.{KickFault}
use Rattle.kick_file.specs.Reading.{kick_text, read_on}
use Rattle.pc_faults.specs.declared.fault.Fault.{Fault}
use Rattle.pc_faults.specs.declared.words_fault.WordsFault.{WordsFault}
use Rattle.pc_settings.specs.Request.{FieldRequest, FieldText, IsInRange}
use Rattle.pc_words.specs.declared.options.Command.{Command}
use Rattle.pc_words.specs.declared.options.Command.TheVariants as commands
use Rattle.pc_words.specs.declared.options.CommandOption.TheVariants.{Kicks, Page, Patterns, Rows, Tetfu}
use Rattle.pc_words.specs.Request.{Request, combo, cover, path, percent, selfrun, table_asked}
use Rattle.pc_words.specs.Values.{page_count_in, page_in}
use Rattle.pc_words.specs.declared.options.Values.{Values}
use Rattle.pc_words.specs.declared.settings.Settings.{Settings}
use Rattle.pc_words.specs.Views.{AsksInRange, settings_reading, settings_view}
use Rattle.pc_words.specs.Words.{command_read, field_given, field_request, or_missing, request_in, request_of, request_where, request_with, selfrun_with, table_given, value_of, values_in, with_table, asked_in}

abbrev IsBetween : ℕ → ℕ → ℕ → Type 0
IsBetween least most n = (least ≤ n) × (n ≤ most)

-- the text of the table of offsets
abbrev text_given : List (List ℕ) → List ℕ
text_given pairs = unwrap_or (value_of Kicks pairs) []

abbrev pub Fits : Request → Type 0
Fits request = AsksInRange request × (text : List ℕ) × (table_asked request ≡ kick_text text)

abbrev FieldFits : List (List ℕ) → FieldRequest → Type 0
FieldFits pairs request = IsInRange request × (request.table ≡ table_given pairs)

no_table : Ok srs_table ≡ kick_text []
unfolding read_on
no_table = refl

field_within : (pairs : List (List ℕ)) (field : Option FieldText) (patterns : Option (List ℕ)) (request : FieldRequest) → request_with pairs (values_in pairs) field patterns ≡ Some request → FieldFits pairs request
field_within pairs field patterns request is = search rules

field_asked : (pairs : List (List ℕ)) (request : FieldRequest) → field_request pairs (values_in pairs) ≡ Some request → FieldFits pairs request
unfolding field_request
field_asked pairs request is = field_within pairs (field_given (value_of Rows pairs) (value_of Tetfu pairs)) (value_of Patterns pairs) request is

same_ok : (x y : Request) → ◌≡◌ {A = Result Request WordsFault} (Ok x) (Ok y) → x ≡ y
same_ok x y e = cc

no_err : (f : WordsFault) (y : Request) → ◌≡◌ {A = Result Request WordsFault} (Err f) (Ok y) → ⊥
no_err f y e = cc

-- a request that is asked for by something that fits, fits
asked_by : {A : Type 0} (pairs : List (List ℕ)) (make : A → Request) (found : Option A) → ((x : A) → found ≡ Some x → Fits (make x)) → (request : Request)
    → or_missing pairs (option_map make found) ≡ Ok request → Fits request
asked_by pairs make found each request is = search rules

number_given : (value : Option (List ℕ)) → ForSome (option_and_then page_in value) (λ number. 1 ≤ number)
number_given value number is = search rules

count_given : (value : Option (List ℕ)) (n : ℕ) → option_and_then page_count_in value ≡ Some n → IsBetween 1 10000 n
count_given value n is = search rules

sample_within : (pairs : List (List ℕ)) (number count : Option ℕ) → ((n : ℕ) → count ≡ Some n → IsBetween 1 10000 n) → (request : Request)
    → or_missing pairs (selfrun_with number count) ≡ Ok request → Fits request
sample_within pairs number count each request is = search (rules, same_ok, selfrun, no_table, no_err)

sample_asked : (pairs : List (List ℕ)) (request : Request) → or_missing pairs (selfrun_with (values_in pairs).number (values_in pairs).pages) ≡ Ok request → Fits request
sample_asked pairs request is = search (rules, sample_within, count_given)

of_command : (command : Command) (pairs : List (List ℕ)) (request : Request) → request_of command pairs (values_in pairs) ≡ Ok request → Fits request
of_command commands.Path pairs request is = search (rules, asked_by, path, field_asked)
of_command commands.Percent pairs request is = search (rules, asked_by, percent, field_asked)
of_command commands.Cover pairs request is = search (rules, asked_by, cover, field_asked)
of_command commands.Combo pairs request is = search (rules, asked_by, combo, field_asked)
of_command commands.Decode pairs request is = subst Fits (same_ok _ request is) (tt, [], no_table)
of_command commands.Encode pairs request is = subst Fits (same_ok _ request is) (tt, [], no_table)
of_command commands.Show pairs request is = subst Fits (same_ok _ request is) (number_given (value_of Page pairs), [], no_table)
of_command commands.Kicks pairs request is = subst Fits (same_ok _ request is) (tt, text_given pairs, refl)
of_command commands.Selfrun pairs request is = sample_asked pairs request is

of_pairs : (found : Option WordsFault) (command : Command) (pairs : List (List ℕ)) (request : Request) → request_where found command pairs ≡ Ok request → Fits request
of_pairs None command pairs request is = of_command command pairs request is
of_pairs (Some fault) command pairs request is = absurd (no_err fault request is)

of_word : (command : Option Command) (pairs : List (List ℕ)) (request : Request) → command_read command pairs ≡ Ok request → Fits request
of_word command pairs request is = search (rules, no_err, of_pairs)

pub asked_in_range : (words : List (List ℕ)) (request : Request) → request_in words ≡ Ok request → Fits request
unfolding request_in
asked_in_range words request is = search (rules, no_err, of_word)

-- and the settings of a command show what the words ask for
asked_of : (request settings : Request) (read : Result Table KickFault) → Ok settings ≡ with_table request read → request ≡ settings
asked_of request settings read is = search rules

request_read : (read : Result Request WordsFault) (settings : Request) → Ok settings ≡ asked_in read → read ≡ Ok settings
request_read read settings is = search rules

pub ranged : (command : Command) (pairs : List (List ℕ)) (values : Values) (result : Result Settings Fault) → values ≡ values_in pairs
    → settings_reading result ≡ asked_in (request_of command pairs values) → IfOk result (λ settings. AsksInRange (settings_view settings))
ranged command pairs values (Ok settings) given is =
    let read = request_read (request_of command pairs (values_in pairs)) (settings_view settings) (is ∙ ap (λ v. asked_in (request_of command pairs v)) given) in
    (of_command command pairs (settings_view settings) read).0
ranged command pairs values (Err fault) given is = tt
