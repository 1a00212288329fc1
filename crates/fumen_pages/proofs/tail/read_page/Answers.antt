-- The page that stands there and the first fault there, from what reading gives.
use Rattle.std.proofs.Common.{◌≡◌, ℕ, ◌≤◌, length, rules}
use Rattle.std.specs.Prelude.{IsTrue}
use Rattle.std.specs.Option.{ForSome}
use Rattle.fumen_digits.specs.declared.fault.FumenFault.{FumenFault}
use Rattle.fumen_digits.proofs.CallerLemmas.{gives_found, gives_fault, gives_same}
use Rattle.fumen_pages.specs.declared.page.Page.{Page}
use Rattle.fumen_pages.specs.Action.{is_inside_in}
use Rattle.fumen_pages.specs.Reading.{page_at}
use Rattle.fumen_pages.proofs.PageReadAsSpelled.{page_from_read, read_from_page, tail_fault_from_read, read_from_tail_fault}
use Rattle.fumen_pages.proofs.tail.read_page.Goals as goal

abbrev pair : Page × ℕ → Page × ℕ
pair x = x

pub returns-clause-within : goal.returns-clause-within
returns-clause-within c =
    let ds = c.args.digits.now in
    let read = page_at c.args.dialect c.args.cells.now c.args.number ds c.args.place in
    gives_found pair (λ (f : FumenFault). f) (λ x. x.1 ≤ length ds) c.read_tail.result read (λ x e. (page_from_read c.args.dialect c.args.cells.now c.args.number ds c.args.place x.0 x.1 c.requires e).stands.stands.within) c.read_tail.ensures.exact

pub returns-clause-inside : goal.returns-clause-inside
returns-clause-inside c =
    let ds = c.args.digits.now in
    let dialect = c.args.dialect in
    let read = page_at dialect c.args.cells.now c.args.number ds c.args.place in
    gives_found pair (λ (f : FumenFault). f) (λ x. ForSome x.0.operation (λ placement. IsTrue (is_inside_in dialect placement))) c.read_tail.result read (λ x e. (page_from_read dialect c.args.cells.now c.args.number ds c.args.place x.0 x.1 c.requires e).inside) c.read_tail.ensures.exact

pub returns-clause-cells : goal.returns-clause-cells
returns-clause-cells c =
    let ds = c.args.digits.now in
    let cells = c.args.cells.now in
    let read = page_at c.args.dialect cells c.args.number ds c.args.place in
    gives_found pair (λ (f : FumenFault). f) (λ x. x.0.cells ≡ cells) c.read_tail.result read (λ x e. (page_from_read c.args.dialect cells c.args.number ds c.args.place x.0 x.1 c.requires e).same_cells) c.read_tail.ensures.exact

pub returns-clause-found : goal.returns-clause-found
returns-clause-found c = search (rules, gives_found, page_from_read)

pub returns-clause-only : goal.returns-clause-only
returns-clause-only c = search (rules, gives_same, read_from_page)

pub returns-clause-fault : goal.returns-clause-fault
returns-clause-fault c = search (rules, tail_fault_from_read, gives_fault)

pub returns-clause-fault_only : goal.returns-clause-fault_only
returns-clause-fault_only c = search (rules, gives_same, read_from_tail_fault)
