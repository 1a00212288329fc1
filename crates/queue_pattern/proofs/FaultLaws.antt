-- A text is refused exactly by the fault that stands first in it, or by a limit.
use Rattle.std.proofs.Common.{◌≡◌, ◌≤◌, false, nat_lt, ltb-true, lt-ltb, List, ℕ, refl, Err, arith, rules}
use Rattle.std.proofs.lemmas.Bool.Decides.{nat_tests}
use Rattle.queue_pattern.specs.declared.fault.PatternFault.{PatternFault}
use Rattle.queue_pattern.specs.Faults.{IsPatternFault}
use Rattle.queue_pattern.specs.Grammar.{Elements, elements, limited}
use Rattle.queue_pattern.proofs.FaultExplained.{no_fault, same_fault}
use Rattle.queue_pattern.proofs.FaultsFound.{never_long, never_many, repeated_found, too_many_found, unexpected_found}
use Rattle.queue_pattern.proofs.FaultsRead.{repeated_read, too_many_read, unexpected_read}
use Rattle.queue_pattern.proofs.ReadIsSpelled.{on_if, spelled-from_read}
use Rattle.queue_pattern.proofs.SpelledIsRead.{read-from_spelled}

of_grammar : (text : List ℕ) (f : PatternFault) → elements text ≡ Err f → IsPatternFault text f
of_grammar text f read = search (rules, unexpected_found, repeated_found, too_many_found, never_long, never_many)

pub at_most : (a b : ℕ) → nat_lt a b ≡ false → b ≤ a
at_most a b over = grind (arith, nat_tests, over)

by_reading : (text : List ℕ) (read : Elements) → elements text ≡ read → (f : PatternFault) → limited read ≡ Err f → IsPatternFault text f
by_reading text read is f refused =
    search (rules, same_fault, of_grammar, spelled-from_read, on_if, nat_lt, ltb-true, at_most, no_fault)

pub fault-from_refused : (text : List ℕ) (f : PatternFault) → limited (elements text) ≡ Err f → IsPatternFault text f
fault-from_refused text f refused = by_reading text (elements text) refl f refused

pub refused-from_fault : (text : List ℕ) (f : PatternFault) → IsPatternFault text f → limited (elements text) ≡ Err f
refused-from_fault text f is =
    search (rules, unexpected_read, repeated_read, too_many_read, read-from_spelled, lt-ltb, nat_tests)
