-- How the settings, which lend texts of the words, are seen, and in which ranges they lie.
use Rattle.std.specs.Prelude.{◌≡◌, ℕ, ◌+◌, ◌≤◌, List, length, Option, Some, None, Result, Ok, Err}
use Rattle.std.specs.Option.{ForSome}
use Rattle.srs.specs.Kick.{Table}
use Rattle.srs.specs.Rules.{table_of}
use Rattle.kick_file.specs.declared.fault.KickFault.{KickFault}
use Rattle.pc_faults.specs.declared.fault.Fault.{Fault}
use Rattle.pc_faults.specs.declared.fault.Fault.TheVariants as faults
use Rattle.pc_faults.specs.declared.words_fault.WordsKind.TheVariants.{MissingOption}
use Rattle.pc_settings.specs.Views.{combo_view, field_view, path_view, percent_view}
use Rattle.pc_settings.specs.Request.{IsInRange}
use Rattle.pc_words.specs.declared.settings.Settings.{Settings}
use Rattle.pc_words.specs.declared.settings.Settings.TheVariants.{Path, Percent, Combo, Cover, Decode, Encode, Show, Kicks, Selfrun}
use Rattle.pc_words.specs.Request.{Request, combo, cover, decode, encode, kicks, path, percent, selfrun, show}
use Rattle.pc_words.specs.Words.{fault_at}

abbrev pub settings_view : Settings → Request
settings_view (Path settings) = path (path_view settings)
settings_view (Percent settings) = percent (percent_view settings)
settings_view (Cover settings) = cover (field_view settings)
settings_view (Combo settings) = combo (combo_view settings)
settings_view Decode = decode
settings_view (Encode dialect) = encode dialect
settings_view (Show page) = show page
settings_view (Kicks rules) = kicks (Ok (table_of rules))
settings_view (Selfrun number pages) = selfrun number pages

abbrev pub settings_reading : Result Settings Fault → Result Request Fault
settings_reading (Ok settings) = Ok (settings_view settings)
settings_reading (Err fault) = Err fault

-- what is asked for lies in its ranges; pages are counted from 1
abbrev pub AsksInRange : Request → Type 0
AsksInRange (path request) = IsInRange request.common
AsksInRange (percent request) = IsInRange request.common
AsksInRange (cover request) = IsInRange request
AsksInRange (combo request) = 1 ≤ request.page
AsksInRange decode = Unit {0}
AsksInRange (encode dialect) = Unit {0}
AsksInRange (show page) = ForSome page (λ number. 1 ≤ number)
AsksInRange (kicks read) = Unit {0}
AsksInRange (selfrun number pages) = (1 ≤ pages) × (pages ≤ 10000)

-- the fault of what is asked for by pairs without a fault: a required option is absent, or the table of offsets has
-- this one
abbrev pub Refuses : List (List ℕ) → Option (Result Table KickFault) → Fault → Type 0
Refuses pairs None fault = fault ≡ faults.Words (fault_at MissingOption (length pairs + 1))
Refuses pairs (Some read) fault = (found : KickFault) × (read ≡ Err found) × (fault ≡ faults.Kicks found)
