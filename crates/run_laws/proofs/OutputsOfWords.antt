-- Where the words and the bytes have no fault, what the words ask for has an output.
use Rattle.std.proofs.Common.{◌≡◌, ◌∙◌, ℕ, List, Some, None, Result, Ok, Err, refl, sym}
use Rattle.srs.specs.Kick.{IsSmallTable, Table}
use Rattle.kick_file.specs.declared.fault.KickFault.{KickFault}
use Rattle.pc_faults.specs.declared.fault.Fault.{Fault}
use Rattle.pc_faults.specs.declared.fault.Fault.TheVariants.{Kicks, Words}
use Rattle.pc_faults.specs.declared.words_fault.WordsFault.{WordsFault}
use Rattle.pc_source.specs.Task.{Task, first_fault, source_fault}
use Rattle.pc_words.specs.Request.{Request, combo, cover, decode, encode, kicks, path, percent, selfrun, show, table_asked}
use Rattle.pc_words.specs.Views.{AsksInRange}
use Rattle.pc_words.specs.Words.{asked_in, request_in, with_table}
use Rattle.pc_words.proofs.CallerLemmas.{asked_in_range}
use Rattle.pc_kicks.specs.Lines.{kicks_form}
use Rattle.pc_app.specs.Tasks.{refused_task, task_for, task_in, task_of}
use Rattle.run_laws.proofs.Outputs.{Has, LawsBelow, combo_has, cover_has, decode_has, encode_has, path_has, percent_has, selfrun_has, show_has}
use Rattle.run_laws.proofs.Problems.{both_none}
use Rattle.run_laws.proofs.Tables.{read_small}

no_fault : (task : Task) (bytes : List ℕ) → first_fault task bytes ≡ None → task.fault bytes ≡ None
unfolding first_fault
no_fault task bytes none = (both_none (source_fault task.needs bytes) (task.fault bytes) none).1

refused : (fault : Fault) (bytes : List ℕ) → first_fault (refused_task fault) bytes ≡ None → ⊥
unfolding first_fault
refused fault bytes none = let bad : Some fault ≡ None = none in cc

module _ (known : LawsBelow) (bytes : List ℕ) (floods : ℕ) where
  of_request : (request : Request) → AsksInRange request → (table : Table) → table_asked request ≡ Ok table → IsSmallTable table → (task_for request).fault bytes ≡ None
      → Has ((task_for request).IsOutput bytes floods)
  of_request (path request) range table read small none = path_has known request table bytes floods range read small none
  of_request (percent request) range table read small none = percent_has known request table bytes floods range read small none
  of_request (cover request) range table read small none = cover_has known request table bytes floods range read small none
  of_request (combo request) range table read small none = combo_has known request table bytes floods range read none
  of_request decode range table read small none = decode_has bytes none
  of_request (encode dialect) range table read small none = encode_has dialect bytes none
  of_request (show asked) range table read small none = show_has asked bytes range none
  of_request (kicks asked) range table read small none = record { output = kicks_form table; is = record { table = table; is_read = read; lines = refl } }
  of_request (selfrun number pages) range table read small none = selfrun_has known number pages

  of_table : (request : Request) → AsksInRange request → (read : Result Table KickFault) → table_asked request ≡ read → ((table : Table) → read ≡ Ok table → IsSmallTable table) → first_fault (task_in (with_table request read)) bytes ≡ None
      → Has ((task_in (with_table request read)).IsOutput bytes floods)
  of_table request range (Ok table) is small none = of_request request range table is (small table refl) (no_fault (task_for request) bytes none)
  of_table request range (Err fault) is small none = absurd (refused (Kicks fault) bytes none)

  of_words : (words : List (List ℕ)) (read : Result Request WordsFault) → request_in words ≡ read → first_fault (task_in (asked_in read)) bytes ≡ None
      → Has ((task_in (asked_in read)).IsOutput bytes floods)
  of_words words (Ok request) is none =
      let fits = asked_in_range words request is in
      of_table request fits.0 (table_asked request) refl (λ table read. read_small known.tables fits.1 table (sym fits.2 ∙ read)) none
  of_words words (Err fault) is none = absurd (refused (Words fault) bytes none)

pub has_output : LawsBelow → (words : List (List ℕ)) (bytes : List ℕ) (floods : ℕ) → first_fault (task_of words) bytes ≡ None → Has ((task_of words).IsOutput bytes floods)
has_output known words bytes floods none = of_words known bytes floods words (request_in words) refl none
