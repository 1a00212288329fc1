-- The values that options take, each in its option's list or range, and how they are kept.
use Rattle.std.specs.Prelude.{ℕ, Bool, true, false, List, [], ◌∷◌, codes, Option, Some, None, is_some, if◌then◌else◌}
use Rattle.std.specs.Option.{option_and_then}
use Rattle.std.specs.Str.{bytes_eq}
use Rattle.srs.specs.declared.piece.Piece.{Piece}
use Rattle.srs.specs.Piece.{piece_with_letter}
use Rattle.hold_queue.specs.declared.hold.Hold.{Hold}
use Rattle.hold_queue.specs.declared.hold.Hold.TheVariants as holds
use Rattle.moves.specs.declared.key.DropMode.{DropMode}
use Rattle.moves.specs.declared.key.DropMode.TheVariants as drops
use Rattle.fumen_digits.specs.declared.dialect.Dialect.{Dialect}
use Rattle.fumen_digits.specs.declared.dialect.Dialect.TheVariants as dialects
use Rattle.pc_settings.specs.declared.format.Format.{Format}
use Rattle.pc_settings.specs.declared.format.Format.TheVariants as formats
use Rattle.pc_words.specs.declared.options.CommandOption.{CommandOption}
use Rattle.pc_words.specs.declared.options.CommandOption.TheVariants as options
use Rattle.pc_words.specs.declared.options.Values.{Values}
use Rattle.pc_words.specs.Numbers.{number_in}

-- how many rows are to be removed
abbrev pub height_in : List ℕ → Option ℕ
height_in text = number_in 1 8 text

-- the number of a page
abbrev pub page_in : List ℕ → Option ℕ
page_in text = number_in 1 10000 text

-- how many sequences are written at most
abbrev pub limit_in : List ℕ → Option ℕ
limit_in text = number_in 1 1000000000 text

-- how many failed queues are written at most
abbrev pub failed_in : List ℕ → Option ℕ
failed_in text = number_in 0 10000000 text

-- the number that pages are made from
abbrev pub seed_in : List ℕ → Option ℕ
seed_in text = number_in 0 4294967295 text

-- how many pages are made
abbrev pub page_count_in : List ℕ → Option ℕ
page_count_in text = number_in 1 10000 text

unfoldable pub hold_in : List ℕ → Option Hold
hold_in text =
    if bytes_eq text (codes "use") then Some holds.Allowed
    else (if bytes_eq text (codes "avoid") then Some holds.Avoided else None)

-- a piece that is held at the start: one letter, capital or small
abbrev pub held_in : List ℕ → Option Piece
held_in (letter ∷ []) = piece_with_letter letter
held_in _ = None

unfoldable pub drop_in : List ℕ → Option DropMode
drop_in text =
    if bytes_eq text (codes "soft") then Some drops.Soft
    else (if bytes_eq text (codes "hard") then Some drops.Hard else None)

-- whether something is asked for
unfoldable pub yes_in : List ℕ → Option Bool
yes_in text =
    if bytes_eq text (codes "yes") then Some true
    else (if bytes_eq text (codes "no") then Some false else None)

-- in which form sequences are written
unfoldable pub format_in : List ℕ → Option Format
format_in text =
    if bytes_eq text (codes "text") then Some formats.Text
    else (if bytes_eq text (codes "fumen") then Some formats.Fumen
    else (if bytes_eq text (codes "grid") then Some formats.Grid else None))

unfoldable pub dialect_in : List ℕ → Option Dialect
dialect_in text =
    if bytes_eq text (codes "110") then Some dialects.V110
    else (if bytes_eq text (codes "115") then Some dialects.V115 else None)

-- the values of options that have these texts, each as it is read
abbrev pub values_by : (CommandOption → Option (List ℕ)) → Values
values_by text_of = record {
  page = option_and_then page_in (text_of options.Page);
  height = option_and_then height_in (text_of options.ClearLine);
  hold = option_and_then hold_in (text_of options.Hold);
  held = option_and_then held_in (text_of options.Held);
  drop_mode = option_and_then drop_in (text_of options.Drop);
  limit = option_and_then limit_in (text_of options.Limit);
  keys = option_and_then yes_in (text_of options.Keys);
  format = option_and_then format_in (text_of options.Format);
  dialect = option_and_then dialect_in (text_of options.Dialect);
  failed = option_and_then failed_in (text_of options.Failed);
  stats = option_and_then yes_in (text_of options.Stats);
  number = option_and_then seed_in (text_of options.Number);
  pages = option_and_then page_count_in (text_of options.Pages);
}

-- no values
abbrev pub no_values : Values
no_values = record {
  page = None;
  height = None;
  hold = None;
  held = None;
  drop_mode = None;
  limit = None;
  keys = None;
  format = None;
  dialect = None;
  failed = None;
  stats = None;
  number = None;
  pages = None;
}

-- values with one that is read, where it is
abbrev pub read_into : {X : Type 0} → (Option X → Values) → Option X → Option Values
read_into put None = None
read_into put (Some value) = Some (put (Some value))

-- values with that of an option, where the text is in its list or its range
abbrev pub with_value : Values → CommandOption → List ℕ → Option Values
with_value values options.Rows text = Some values
with_value values options.Tetfu text = Some values
with_value values options.Page text = read_into (λ page. record values { page = page }) (page_in text)
with_value values options.ClearLine text = read_into (λ height. record values { height = height }) (height_in text)
with_value values options.Patterns text = Some values
with_value values options.Hold text = read_into (λ hold. record values { hold = hold }) (hold_in text)
with_value values options.Held text = read_into (λ held. record values { held = held }) (held_in text)
with_value values options.Drop text = read_into (λ mode. record values { drop_mode = mode }) (drop_in text)
with_value values options.Kicks text = Some values
with_value values options.After text = Some values
with_value values options.Limit text = read_into (λ limit. record values { limit = limit }) (limit_in text)
with_value values options.Keys text = read_into (λ keys. record values { keys = keys }) (yes_in text)
with_value values options.Format text = read_into (λ format. record values { format = format }) (format_in text)
with_value values options.Dialect text = read_into (λ dialect. record values { dialect = dialect }) (dialect_in text)
with_value values options.Failed text = read_into (λ failed. record values { failed = failed }) (failed_in text)
with_value values options.Stats text = read_into (λ stats. record values { stats = stats }) (yes_in text)
with_value values options.Number text = read_into (λ number. record values { number = number }) (seed_in text)
with_value values options.Pages text = read_into (λ pages. record values { pages = pages }) (page_count_in text)

-- whether a text is in the list or the range of an option; texts of fields, patterns, sequences and tables have faults
-- of their own
abbrev pub is_value_of : CommandOption → List ℕ → Bool
is_value_of option text = is_some (with_value no_values option text)
