-- What each command writes is the same but for the number of floods.
use Rattle.std.proofs.Common.{ℕ, List, Result, rules}
use Rattle.pc_faults.specs.declared.fault.Fault.{Fault}
use Rattle.pc_path.proofs.CallerLemmas.{shared_path_output}
use Rattle.pc_percent.proofs.CallerLemmas.{one_percent_output}
use Rattle.pc_cover.proofs.CallerLemmas.{one_cover_output}
use Rattle.pc_pages.proofs.CallerLemmas.{one_decode_output, one_encode_output, one_show_output}
use Rattle.pc_kicks.proofs.CallerLemmas.{one_kicks_output}
use Rattle.pc_selfrun.proofs.CallerLemmas.{one_selfrun_output}
use Rattle.pc_combo.proofs.CallerLemmas.{one_combo_output}
use Rattle.pc_words.specs.Request.{Request, combo, cover, decode, encode, kicks, path, percent, selfrun, show}
use Rattle.pc_words.specs.Words.{asked_in, request_in}
use Rattle.pc_app.specs.Tasks.{task_for, task_in, task_of, tells_floods, tells_floods_in}
use Rattle.run_laws.proofs.Alike.{IsShared, same_shared}

shared_for : (request : Request) (bytes : List ℕ) (floods others : ℕ) (a b : List ℕ)
    → (task_for request).IsOutput bytes floods a → (task_for request).IsOutput bytes others b → IsShared (tells_floods request) floods others a b
shared_for (path request) bytes floods others a b first second =
    let shared = shared_path_output request bytes floods others a b first second in
    record { output = shared.0; one = shared.1; other = shared.2 }
shared_for (percent request) bytes floods others a b first second = same_shared floods others a b (one_percent_output request bytes floods others a b first second)
shared_for (cover request) bytes floods others a b first second = same_shared floods others a b (one_cover_output request bytes floods others a b first second)
shared_for (combo request) bytes floods others a b first second = same_shared floods others a b (one_combo_output request bytes floods others a b first second)
shared_for decode bytes floods others a b first second = same_shared floods others a b (one_decode_output bytes a b first second)
shared_for (encode dialect) bytes floods others a b first second = same_shared floods others a b (one_encode_output dialect bytes a b first second)
shared_for (show asked) bytes floods others a b first second = same_shared floods others a b (one_show_output asked bytes a b first second)
shared_for (kicks text) bytes floods others a b first second = same_shared floods others a b (one_kicks_output text a b first second)
shared_for (selfrun number pages) bytes floods others a b first second = same_shared floods others a b (one_selfrun_output number pages a b first second)

shared_in : (asked : Result Request Fault) (bytes : List ℕ) (floods others : ℕ) (a b : List ℕ)
    → (task_in asked).IsOutput bytes floods a → (task_in asked).IsOutput bytes others b → IsShared (tells_floods_in asked) floods others a b
shared_in asked bytes floods others a b first second = search (rules, shared_for)

-- what is written is the same but for the number of floods
pub shared_output : (words : List (List ℕ)) (bytes : List ℕ) (floods others : ℕ) (a b : List ℕ)
    → (task_of words).IsOutput bytes floods a → (task_of words).IsOutput bytes others b → IsShared (tells_floods_in (asked_in (request_in words))) floods others a b
shared_output words = shared_in (asked_in (request_in words))
