-- The first fault of a problem, told as the program's, is the first fault of what is asked.
use Rattle.std.proofs.Common.{◌≡◌, ℕ, ◌+◌, ◌/◌, ◌%◌, ◌<◌, ◌&&◌, ◌==◌, nat_lt, [], ◌∷◌, Option, Some, None, option_map, Ok, sym, ap, subst, ◌∙◌, eq-eqb, lt-ltb}
use Rattle.std.proofs.lemmas.Bool.{cond-true, and_from}
use Rattle.lane_board.specs.Field.{Field}
use Rattle.well.specs.Well.{filled}
use Rattle.well.specs.Counts.{empties_below, lowest_full, lowest_filled_from}
use Rattle.queue_pattern.specs.Pattern.{elements_of}
use Rattle.queue_pattern.specs.Queues.{queue_len}
use Rattle.hold_queue.specs.AtHand.{count_held, playable}
use Rattle.problem.specs.declared.problem.Problem.{Problem}
use Rattle.problem.specs.declared.fault.ProblemFault.{ProblemFault}
use Rattle.problem.specs.declared.fault.ProblemFault.TheVariants.{BadHeight, FieldTooHigh, FullRow, TooFewPieces}
use Rattle.problem.specs.Faults.{IsFirstFault}
use Rattle.problem.specs.Problem.{empties_of}
use Rattle.pc_faults.specs.declared.fault.Fault.{Fault}
use Rattle.pc_faults.specs.declared.fault.Fault.TheVariants as faults
use Rattle.pc_faults.specs.FirstFault.{first_of_these}
use Rattle.pc_settings.specs.Request.{FieldRequest}
use Rattle.pc_source.specs.ProblemFaults.{elements_asked, pattern_fault, pieces_fault, problem_fault, filled_rows_fault, too_few}
use Rattle.pc_source.specs.Told.{told}

third : (a b c : Option Fault) (fault : Fault) → a ≡ None → b ≡ None → c ≡ Some fault → first_of_these (a ∷ b ∷ c ∷ []) ≡ Some fault
third None None (Some one) fault x y e = e
third None None None fault x y e = cc
third None (Some two) c fault x y e = cc
third (Some one) b c fault x y e = cc

few : (empties have need : ℕ) → empties % 4 ≡ 0 → need ≡ empties / 4 → have < need → too_few empties have ≡ Some (faults.TooFewPieces have need)
few empties have need even quarter less =
    cond-true (empties % 4 == 0 && nat_lt have (empties / 4)) _ _
    (and_from (empties % 4 == 0) (nat_lt have (empties / 4)) (eq-eqb (empties % 4) 0 even) (lt-ltb have (empties / 4) (subst (λ n. have < n) quarter less)))
    ∙ ap (λ n. Some (faults.TooFewPieces have n)) (sym quarter)

no_row : (F : Field) (height row : ℕ) → filled_rows_fault F height ≡ None → lowest_filled_from F height ≡ Some row → ⊥
unfolding filled_rows_fault
no_row F height row none some =
    let first : first_of_these (option_map (λ row. faults.FieldTooHigh row) (Some row) ∷ option_map (λ row. faults.FullRow row) (lowest_full F) ∷ []) ≡ None =
    subst (λ o. first_of_these (option_map (λ row. faults.FieldTooHigh row) o ∷ option_map (λ row. faults.FullRow row) (lowest_full F) ∷ []) ≡ None) some none in
    cc

no_full : (F : Field) (height row : ℕ) → filled_rows_fault F height ≡ None → lowest_filled_from F height ≡ None → lowest_full F ≡ Some row → ⊥
unfolding filled_rows_fault
no_full F height row none below some =
    let rest : first_of_these (option_map (λ row. faults.FullRow row) (lowest_full F) ∷ []) ≡ None =
    subst (λ o. first_of_these (option_map (λ row. faults.FieldTooHigh row) o ∷ option_map (λ row. faults.FullRow row) (lowest_full F) ∷ []) ≡ None) below none in
    let first : first_of_these (option_map (λ row. faults.FullRow row) (Some row) ∷ []) ≡ None =
    subst (λ o. first_of_these (option_map (λ row. faults.FullRow row) o ∷ []) ≡ None) some rest in
    cc

-- where the field has none and the pattern is read
pub told-first : (request : FieldRequest) (problem : Problem) → request.height ≡ problem.height → request.hold ≡ problem.hold → request.held ≡ problem.held →
    elements_asked request ≡ Ok (elements_of problem.pattern) → filled_rows_fault (filled problem.well) problem.height ≡ None →
    (fault : ProblemFault) (named : Fault) → IsFirstFault problem fault → told fault ≡ Some named → problem_fault request (filled problem.well) ≡ Some named
unfolding problem_fault
told-first request problem height hold held read rows (BadHeight bad) named first is = cc
told-first request problem height hold held read rows (FieldTooHigh row) named first is = absurd (no_row (filled problem.well) problem.height row rows first.1)
told-first request problem height hold held read rows (FullRow row) named first is = absurd (no_full (filled problem.well) problem.height row rows first.1 first.2)
told-first request problem height hold held read rows (TooFewPieces have need) named first is =
    third (filled_rows_fault (filled problem.well) request.height) (pattern_fault (elements_asked request))
    (pieces_fault (empties_below (filled problem.well) request.height) (count_held (playable request.hold request.held)) (elements_asked request)) named
    (ap (filled_rows_fault (filled problem.well)) height ∙ rows) (ap pattern_fault read) (pieces ∙ is)
  where
    at_hand : queue_len (elements_of problem.pattern) + count_held (playable request.hold request.held) ≡ have
    at_hand = (λ i. queue_len (elements_of problem.pattern) + count_held (playable (hold i) (held i))) ∙ sym first.1

    pieces : pieces_fault (empties_below (filled problem.well) request.height) (count_held (playable request.hold request.held)) (elements_asked request) ≡ Some (faults.TooFewPieces have need)
    pieces =
        ap (pieces_fault (empties_below (filled problem.well) request.height) (count_held (playable request.hold request.held))) read
        ∙ (λ i. too_few (empties_below (filled problem.well) (height i)) (at_hand i))
        ∙ few (empties_of problem) have need first.3 first.2 first.4
