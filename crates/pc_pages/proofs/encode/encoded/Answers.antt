-- The lines are read as pages, and these are written.
use Rattle.std.proofs.Common.{◌≡◌, ℕ, List, Some, None, Option, Result, Ok, Err, Vec, Global, subst, rules}
use Rattle.std.specs.Prelude.{option_map}
use Rattle.std.proofs.lemmas.Result.{err_from_is_err_and}
use Rattle.pc_outside.specs.declared.answers.Refused.{Refused}
use Rattle.pc_outside.specs.declared.answers.Refused.TheVariants as refused
use Rattle.fumen_digits.specs.declared.dialect.Dialect.{Dialect}
use Rattle.fumen_pages.specs.declared.page.Page.{Page}
use Rattle.fumen_pages.specs.declared.encode_fault.EncodeFault.{EncodeFault}
use Rattle.fumen_pages.specs.declared.list_fault.ListFault.{ListFault}
use Rattle.fumen_text.specs.Written.{IsRefusedBy, list_encode_fault}
use Rattle.page_list.specs.LineSpelling.{SpellsPages}
use Rattle.page_list.proofs.CallerLemmas.{spelled_fault_read, spelled_pages_read}
use Rattle.pc_faults.specs.declared.fault.Fault.TheVariants.{Encode}
use Rattle.pc_pages.specs.Faults.{encode_fault}
use Rattle.pc_pages.proofs.EncodeFaults.{lines_refused, lines_spelled}
use Rattle.pc_pages.proofs.encode.encoded.Goals as goal

-- the fault of the bytes, by that of the pages
fault_of : (dialect : Dialect) (bytes : List ℕ) (pages given : List Page) (found : Option EncodeFault) → SpellsPages bytes pages → given ≡ pages → list_encode_fault dialect given ≡ found
    → encode_fault dialect bytes ≡ option_map (λ fault. Encode fault) found
fault_of dialect bytes pages given found spelled same is = search (rules, lines_spelled)

finds_fault : (X : Type 0) (refusal : Refused EncodeFault) (f : EncodeFault) (found : Option EncodeFault) → IsRefusedBy {X = X} (Err refusal) found → refusal ≡ refused.Fault f → found ≡ Some f
finds_fault X refusal f found finds is = subst (λ r. IsRefusedBy {X = X} (Err r) found) is finds

pub returns-in_err-pages-clause-refused : goal.returns-in_err-pages-clause-refused
returns-in_err-pages-clause-refused c =
    let p = err_from_is_err_and c.from_residual.result c.from_residual.ensures.1 in
    rw (p.1, p.2) (lines_refused c.args.dialect c.args.bytes.now c.in_err-pages.field-0.0 c.in_err-pages.ensures.refused)

pub returns-in_err-pages-clause-memory : goal.returns-in_err-pages-clause-memory
returns-in_err-pages-clause-memory c = λ none.
    let p = err_from_is_err_and c.from_residual.result c.from_residual.ensures.1 in
    let here = p.1 in
    let same = p.2 in
    c.in_err-pages.ensures.memory cc

pub returns-in-Ok-clause-none : goal.returns-in-Ok-clause-none
returns-in-Ok-clause-none c =
    fault_of c.args.dialect c.args.bytes.now c.in_ok-pages.pages.items c.deref.result.now None c.in_ok-pages.ensures.pages c.deref.ensures.value c.in-Ok.ensures.fault

pub returns-in-Err-Fault-clause-refused : goal.returns-in-Err-Fault-clause-refused
returns-in-Err-Fault-clause-refused c =
    let found = finds_fault (Vec ℕ Global) c.in-Err-Fault.field-0 c.in-Err-Fault.fault (list_encode_fault c.args.dialect c.deref.result.now) c.in-Err-Fault.ensures.fault c.in-Err-Fault.field-0-is in
    fault_of c.args.dialect c.args.bytes.now c.in_ok-pages.pages.items c.deref.result.now (Some c.in-Err-Fault.fault) c.in_ok-pages.ensures.pages c.deref.ensures.value found

never_both : {pages : List Page} {fault : ListFault} {read : Result (List Page) ListFault} → read ≡ Ok pages → read ≡ Err fault → ⊥
never_both ok err = cc

pub returns-clause-memory : goal.returns-clause-memory
returns-clause-memory c = λ _ f is.
    absurd (never_both (spelled_pages_read c.args.bytes.now c.in_ok-pages.pages.items c.in_ok-pages.ensures.pages) (spelled_fault_read c.args.bytes.now f is))
