-- What the text spells, and its fault, from what reading gives.
use Rattle.std.proofs.Common.{◌≡◌, ◌<◌, ℕ, arith, length, [], ◌∷◌, List, Result, Ok, Err, Vec, Global, subst, rules}
use Rattle.std.specs.Prelude.{IfOk}
use Rattle.pc_outside.specs.declared.answers.Refused.{Refused}
use Rattle.pc_outside.specs.declared.answers.Refused.TheVariants as refused
use Rattle.fumen_pages.specs.declared.page.Page.{Page}
use Rattle.fumen_pages.specs.declared.list_fault.ListFault.{ListFault}
use Rattle.fumen_digits.specs.ReadResults.{Gives}
use Rattle.page_list.specs.ListReading.{pages_in}
use Rattle.page_list.proofs.PagesReadAsSpelled.{pages_spelled, spelled_pages_read, fault_spelled, later_fault, spelled_fault_read}
use Rattle.page_list.proofs.list.parse.Goals as goal

abbrev Answer : Type 0
Answer = Result (Vec Page Global) (Refused ListFault)

abbrev Given : Answer → Result (List Page) ListFault → Type 0
Given answer read = Gives (λ (pages : Vec Page Global). pages.items) (λ fault. fault) answer read

found : (answer : Answer) (read : Result (List Page) ListFault) (P : List Page → Type 0) → ((pages : List Page) → read ≡ Ok pages → P pages) → Given answer read → IfOk answer (λ pages. P pages.items)
found (Ok pages) read P spells given = spells pages.items given
found (Err e) read P spells given = tt

fault : (answer : Answer) (read : Result (List Page) ListFault) (f : ListFault) → answer ≡ Err (refused.Fault f) → Given answer read → read ≡ Err f
fault answer read f is given = subst (λ a. Given a read) is given

some_byte : (text : List ℕ) → 0 < length text → text ≡ [] → ⊥
some_byte [] some empty = absurd (omega (arith, some))
some_byte (byte ∷ text) some empty = cc

pub returns-clause-found : goal.returns-clause-found
returns-clause-found c = search (rules, found, pages_spelled)

pub returns-clause-only : goal.returns-clause-only
returns-clause-only c = λ pages s. subst (Given c.read_pages.result) (spelled_pages_read c.args.text.now pages s) c.read_pages.ensures.exact

pub returns-clause-fault : goal.returns-clause-fault
returns-clause-fault c = λ f is. fault_spelled c.args.text.now f (fault c.read_pages.result (pages_in c.args.text.now) f is c.read_pages.ensures.exact)

pub returns-clause-fault_only : goal.returns-clause-fault_only
returns-clause-fault_only c = λ f s. subst (Given c.read_pages.result) (spelled_fault_read c.args.text.now f s) c.read_pages.ensures.exact

pub returns-clause-memory : goal.returns-clause-memory
returns-clause-memory c = λ none.
    let first = c.read_pages.ensures.memory none in (
      λ empty. some_byte c.args.text.now first.0 empty,
      λ f is. later_fault c.args.text.now f is first.1,
    )
