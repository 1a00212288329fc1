-- The commands and their options.
use Rattle.std.specs.Prelude.{ℕ, List, [], ◌∷◌, codes, Option, Some, None, if◌then◌else◌}
use Rattle.std.specs.Str.{bytes_eq}
use Rattle.pc_words.specs.declared.options.Command.{Command}
use Rattle.pc_words.specs.declared.options.Command.TheVariants as commands
use Rattle.pc_words.specs.declared.options.CommandOption.{CommandOption}
use Rattle.pc_words.specs.declared.options.CommandOption.TheVariants.{Rows, Tetfu, Page, ClearLine, Patterns, Hold, Held, Drop, Kicks, After, Limit, Keys, Format, Dialect, Failed, Stats, Number, Pages}

unfoldable pub command_in : List ℕ → Option Command
command_in word =
    if bytes_eq word (codes "path") then Some commands.Path
    else (if bytes_eq word (codes "percent") then Some commands.Percent
    else (if bytes_eq word (codes "cover") then Some commands.Cover
    else (if bytes_eq word (codes "combo") then Some commands.Combo
    else (if bytes_eq word (codes "decode") then Some commands.Decode
    else (if bytes_eq word (codes "encode") then Some commands.Encode
    else (if bytes_eq word (codes "show") then Some commands.Show
    else (if bytes_eq word (codes "kicks") then Some commands.Kicks
    else (if bytes_eq word (codes "selfrun") then Some commands.Selfrun
    else None))))))))

-- the word that names an option
abbrev pub option_name : CommandOption → List ℕ
option_name Rows = codes "--rows"
option_name Tetfu = codes "--tetfu"
option_name Page = codes "--page"
option_name ClearLine = codes "--clear-line"
option_name Patterns = codes "--patterns"
option_name Hold = codes "--hold"
option_name Held = codes "--held"
option_name Drop = codes "--drop"
option_name Kicks = codes "--kicks"
option_name After = codes "--after"
option_name Limit = codes "--limit"
option_name Keys = codes "--keys"
option_name Format = codes "--format"
option_name Dialect = codes "--dialect"
option_name Failed = codes "--failed"
option_name Stats = codes "--stats"
option_name Number = codes "--number"
option_name Pages = codes "--pages"

abbrev pub options_of : Command → List CommandOption
options_of commands.Path =
    Rows ∷ Tetfu ∷ Page ∷ ClearLine ∷ Patterns ∷ Hold ∷ Held ∷ Drop ∷ Kicks ∷ After ∷ Limit ∷ Keys ∷ Format
    ∷ Stats ∷ []
options_of commands.Percent = Rows ∷ Tetfu ∷ Page ∷ ClearLine ∷ Patterns ∷ Hold ∷ Held ∷ Drop ∷ Kicks ∷ Failed ∷ []
options_of commands.Cover = Rows ∷ Tetfu ∷ Page ∷ ClearLine ∷ Patterns ∷ Hold ∷ Held ∷ Drop ∷ Kicks ∷ []
options_of commands.Combo = Rows ∷ Tetfu ∷ Page ∷ Patterns ∷ Hold ∷ Held ∷ Drop ∷ Kicks ∷ Keys ∷ []
options_of commands.Decode = []
options_of commands.Encode = Dialect ∷ []
options_of commands.Show = Page ∷ []
options_of commands.Kicks = Kicks ∷ []
options_of commands.Selfrun = Number ∷ Pages ∷ []

-- the one of these options that has this name
unfoldable pub named_in : List ℕ → List CommandOption → Option CommandOption
named_in name [] = None
named_in name (option ∷ rest) = if bytes_eq (option_name option) name then Some option else named_in name rest

-- the option of a command with this name
abbrev pub option_of : Command → List ℕ → Option CommandOption
option_of command name = named_in name (options_of command)
