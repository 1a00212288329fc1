-- The number that stands there and the first fault there, from what reading gives.
use Rattle.std.proofs.Common.{ℕ, ◌≤◌, List, length, Result, Ok, ap, ◌∙◌, rules}
use Rattle.std.specs.Prelude.{IfOk}
use Rattle.std.proofs.lemmas.Result.{IfOk-weaker}
use Rattle.fumen_digits.specs.Number.{NumberStands}
use Rattle.fumen_digits.specs.declared.number.DigitFault.{DigitFault}
use Rattle.fumen_digits.specs.Reading.{number_at}
use Rattle.fumen_digits.specs.Fault.{digit_fault}
use Rattle.fumen_digits.specs.ReadResults.{Reads}
use Rattle.fumen_digits.proofs.Answered.{reads_ok, reads_err, ok_from_read, err_from_read, same_digit_fault}
use Rattle.fumen_digits.proofs.NumberReadAsSpelled.{stands_from_read, read_from_stands, number_fault_from_read, read_from_number_fault}
use Rattle.fumen_digits.proofs.number.read_number.Goals as goal

stands : (ds : List ℕ) (place count : ℕ) (r : Result ℕ DigitFault) → place ≤ length ds → Reads (λ (k : ℕ). k) digit_fault r (number_at ds place count) → IfOk r (λ n. NumberStands ds place count n)
stands ds place count r le reads = search (rules, stands_from_read)

pub returns-clause-within : goal.returns-clause-within
returns-clause-within c = search (rules, IfOk-weaker, stands)

pub returns-clause-below : goal.returns-clause-below
returns-clause-below c = search (rules, IfOk-weaker, stands)

pub returns-clause-found : goal.returns-clause-found
returns-clause-found c = λ n.
    let ds = c.args.digits.now in
    let place = c.args.place in
    let count = c.args.count in (
      λ e. stands_from_read ds place place count n c.requires.place (reads_ok (λ (k : ℕ). k) digit_fault c.read_digits.result (number_at ds place count) n c.read_digits.ensures e),
      λ s.
          let x = ok_from_read (λ (k : ℕ). k) digit_fault c.read_digits.result (number_at ds place count) n c.read_digits.ensures (read_from_stands ds place place count n s) in
          x.1 ∙ ap (λ (k : ℕ). Ok k) x.2,
    )

pub returns-clause-fault : goal.returns-clause-fault
returns-clause-fault c =
    search (rules, number_fault_from_read, reads_err, err_from_read, read_from_number_fault, same_digit_fault)
