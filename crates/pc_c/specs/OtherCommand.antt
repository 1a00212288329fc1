-- Whether another command is asked for than the one that a call answers.
use Rattle.std.specs.Prelude.{ℕ, List, Bool, true, false, not, Result, Ok, Err}
use Rattle.pc_faults.specs.declared.fault.Fault.{Fault}
use Rattle.pc_words.specs.Request.{Request, path, percent}
use Rattle.pc_words.specs.Words.{asked_in, request_in}

abbrev pub is_path : Request → Bool
is_path (path request) = true
is_path other = false

abbrev pub is_percent : Request → Bool
is_percent (percent request) = true
is_percent other = false

-- what is asked for is none of these requests, and the words have no fault
abbrev pub is_other : (Request → Bool) → Result Request Fault → Bool
is_other is_answered (Ok request) = not (is_answered request)
is_other is_answered (Err fault) = false

-- whether the words have no fault, and ask for none of these requests
abbrev pub asks_other : (Request → Bool) → (words : List (List ℕ)) → Bool
asks_other is_answered words = is_other is_answered (asked_in (request_in words))
