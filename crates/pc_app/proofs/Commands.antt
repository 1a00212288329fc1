-- What holds of each command: one output, and no fault of the words or that the source is too long.
use Rattle.std.proofs.Common.{◌≡◌, ℕ, true, List, None, Result, rules}
use Rattle.pc_faults.specs.declared.fault.Fault.{Fault}
use Rattle.pc_faults.specs.Inner.{IsInner}
use Rattle.pc_source.proofs.CallerLemmas.{inner_text}
use Rattle.pc_path.proofs.CallerLemmas.{inner_path, one_path_output}
use Rattle.pc_percent.proofs.CallerLemmas.{inner_percent, one_percent_output}
use Rattle.pc_cover.proofs.CallerLemmas.{inner_cover, one_cover_output}
use Rattle.pc_pages.proofs.CallerLemmas.{inner_encode, one_decode_output, one_encode_output, one_show_output}
use Rattle.pc_kicks.proofs.CallerLemmas.{one_kicks_output}
use Rattle.pc_selfrun.proofs.CallerLemmas.{one_selfrun_output}
use Rattle.pc_words.specs.Request.{Request, combo, cover, decode, encode, kicks, path, percent, selfrun, show}
use Rattle.pc_combo.proofs.CallerLemmas.{inner_combo, one_combo_output}
use Rattle.pc_words.specs.Words.{asked_in, request_in}
use Rattle.pc_app.specs.Tasks.{task_for, task_in, task_of, tells_floods, tells_floods_in}

one_for : (request : Request) (bytes : List ℕ) (floods others : ℕ) → (tells_floods request ≡ true → floods ≡ others) → (a b : List ℕ)
    → (task_for request).IsOutput bytes floods a → (task_for request).IsOutput bytes others b → a ≡ b
one_for (path request) bytes floods others same = one_path_output request bytes floods others same
one_for (percent request) bytes floods others same = one_percent_output request bytes floods others
one_for (cover request) bytes floods others same = one_cover_output request bytes floods others
one_for (combo request) bytes floods others same = one_combo_output request bytes floods others
one_for decode bytes floods others same = one_decode_output bytes
one_for (encode dialect) bytes floods others same = one_encode_output dialect bytes
one_for (show asked) bytes floods others same = one_show_output asked bytes
one_for (kicks read) bytes floods others same = one_kicks_output read
one_for (selfrun number pages) bytes floods others same = one_selfrun_output number pages

one_in : (asked : Result Request Fault) (bytes : List ℕ) (floods others : ℕ) → (tells_floods_in asked ≡ true → floods ≡ others) → (a b : List ℕ)
    → (task_in asked).IsOutput bytes floods a → (task_in asked).IsOutput bytes others b → a ≡ b
one_in asked bytes floods others same a b first second = search (rules, one_for)

-- the words and the source's bytes determine what is written, and the number of floods where it is written
pub one_output : (words : List (List ℕ)) (bytes : List ℕ) (floods others : ℕ) → (tells_floods_in (asked_in (request_in words)) ≡ true → floods ≡ others) → (a b : List ℕ)
    → (task_of words).IsOutput bytes floods a → (task_of words).IsOutput bytes others b → a ≡ b
one_output words = one_in (asked_in (request_in words))

pub inner_for : (request : Request) (bytes : List ℕ) → IsInner ((task_for request).fault bytes)
inner_for (path request) bytes = inner_path request bytes
inner_for (percent request) bytes = inner_percent request bytes
inner_for (cover request) bytes = inner_cover request bytes
inner_for (combo request) bytes = inner_combo request bytes
inner_for decode bytes = inner_text None bytes
inner_for (encode dialect) bytes = inner_encode dialect bytes
inner_for (show asked) bytes = inner_text asked bytes
inner_for (kicks read) bytes = tt
inner_for (selfrun number pages) bytes = tt
