-- The form of a line and the function that reads it agree, in the pages that are read and in the faults.
use Rattle.std.proofs.Common.{◌≡◌, ℕ, List, [], Option, Some, None, Result, Ok, Err, refl, ap, sym, subst, ◌∙◌, ◌⊎◌, inl, inr, rules}
use Rattle.std.specs.Option.{ok_or}
use Rattle.std.proofs.lemmas.Bool.{cases_Bool}
use Rattle.std.proofs.lemmas.Option.{none-some, option_and_then_some, same_Some}
use Rattle.srs.specs.declared.placement.Placement.{Placement}
use Rattle.placement_form.specs.Form.{placement_form}
use Rattle.placement_form.proofs.CallerLemmas.{read-from_written, written-from_read}
use Rattle.fumen_pages.specs.declared.page.Page.{Page}
use Rattle.fumen_pages.specs.declared.list_fault.ListKind.{ListKind}
use Rattle.fumen_pages.specs.declared.list_fault.ListKind.TheVariants.{TooManyPages, BadLine, BadCells, BadOperation, BadFlags, BadComment}
use Rattle.page_list.specs.declared.fields.Flags.{Flags}
use Rattle.page_list.specs.CellsReading.{cells_in}
use Rattle.page_list.specs.FieldsReading.{is_dash, operation_in, flags_in, comment_in}
use Rattle.page_list.specs.LineReading.{four_in, line_in, page_of_parts}
use Rattle.fumen_digits.specs.Reading.{◌>>=◌}
use Rattle.page_list.specs.Divided.{IsDivided}
use Rattle.page_list.specs.LineSpelling.{SpellsLineCells, SpellsLineOperation, SpellsLineFlags, SpellsLineComment, SpellsPage, Unspelled, IsLineFault}
use Rattle.page_list.proofs.CutLaws.{divided_is, divided_read}
use Rattle.page_list.proofs.CellsReadAsSpelled.{cells_spelled, spelled_cells_read}
use Rattle.page_list.proofs.FieldsReadAsSpelled.{dash_is, flags_spelled, spelled_flags_read, comment_spelled, spelled_comment_read}

-- ---- operations

operation_spelled : (text : List ℕ) (operation : Option Placement) → operation_in text ≡ Some operation → SpellsLineOperation text operation
unfolding operation_in
operation_spelled text operation is =
    search (rules, cases_Bool, same_Some, dash_is, option_and_then_some, written-from_read)

spelled_operation_read : (text : List ℕ) (operation : Option Placement) → SpellsLineOperation text operation → operation_in text ≡ Some operation
unfolding operation_in is_dash placement_form
spelled_operation_read text operation s = search (rules, read-from_written)

-- ---- steps

-- a step that was taken, and what follows it
record Taken {A B : Type 0} (read : Option A) (next : A → Result B ListKind) (answer : Result B ListKind) : Type 0 where
  value : A
  is : read ≡ Some value
  gives : next value ≡ answer

taken : {A B : Type 0} (read : Option A) (kind : ListKind) (next : A → Result B ListKind) (answer : B) → (ok_or read kind >>= next) ≡ Ok answer → Taken read next (Ok answer)
taken A kind next answer is = search rules

-- a step that failed with its kind, or one that was taken before a fault
abbrev Stops : {A B : Type 0} → Option A → ListKind → (A → Result B ListKind) → ListKind → Type 0
Stops read kind next fault = ((read ≡ None) × (kind ≡ fault)) ⊎ Taken read next (Err fault)

stops : {A B : Type 0} (read : Option A) (kind : ListKind) (next : A → Result B ListKind) (fault : ListKind) → (ok_or read kind >>= next) ≡ Err fault → Stops read kind next fault
stops A kind next fault is = search rules

-- what isn't read, the text doesn't spell; and the other way round
unspelled_from : {A : Type 0} (Spells : A → Type 0) (read : Option A) → read ≡ None → ((value : A) → Spells value → read ≡ Some value) → (value : A) → Spells value → ⊥
unspelled_from Spells read is reads value spelled = none-some value (sym is ∙ reads value spelled)

none_from : {A : Type 0} (Spells : A → Type 0) (read : Option A) → ((value : A) → read ≡ Some value → Spells value) → ((value : A) → Spells value → ⊥) → read ≡ None
none_from Spells None spells un = refl
none_from Spells (Some value) spells un = absurd (un value (spells value refl))

-- ---- the flags of a page

abbrev flagged : Flags → Page
flagged flags = page_of_parts [] None flags None

abbrev flags_of : Page → Flags
flags_of page = record { rise = page.rise; mirror = page.mirror; colour = page.colour; lock = page.lock }

spelled_page_flags_read : (text : List ℕ) (page : Page) → SpellsLineFlags text page → flags_in text ≡ Some (flags_of page)
spelled_page_flags_read text page s = ap flags_in s ∙ spelled_flags_read (flags_of page)

-- ---- pages

pub line_spelled : (line : List ℕ) (page : Page) → line_in line ≡ Ok page → SpellsPage line page
unfolding line_in
line_spelled line page is =
    let four = taken (four_in line) BadLine _ page is in
    let cells = taken (cells_in four.value.cells) BadCells _ page four.gives in
    let operation = taken (operation_in four.value.operation) BadOperation _ page cells.gives in
    let flags = taken (flags_in four.value.flags) BadFlags _ page operation.gives in
    let comment = taken (comment_in four.value.comment) BadComment _ page flags.gives in
    subst (SpellsPage line) (same_Ok _ page comment.gives) (record {
      four = four.value;
      divided = divided_is line four.value four.is;
      cells = cells_spelled four.value.cells cells.value cells.is;
      operation = operation_spelled four.value.operation operation.value operation.is;
      flags = flags_spelled four.value.flags flags.value flags.is;
      comment = comment_spelled four.value.comment comment.value comment.is;
    })
  where
    same_Ok : (one other : Page) → ◌≡◌ {A = Result Page ListKind} (Ok one) (Ok other) → one ≡ other
    same_Ok one other e = cc

pub spelled_line_read : (line : List ℕ) (page : Page) → SpellsPage line page → line_in line ≡ Ok page
unfolding line_in
spelled_line_read line page s =
    search (rules, (divided_read line s.four s.divided), (spelled_cells_read s.four.cells page.cells s.cells), (spelled_operation_read s.four.operation page.operation s.operation), (spelled_page_flags_read s.four.flags page s.flags), (spelled_comment_read s.four.comment page.comment s.comment))

-- ---- faults

no_flags : (text : List ℕ) → flags_in text ≡ None → Unspelled SpellsLineFlags text
no_flags text is page s = none-some (flags_of page) (sym is ∙ spelled_page_flags_read text page s)

pub line_fault : (line : List ℕ) (kind : ListKind) → line_in line ≡ Err kind → IsLineFault line kind
unfolding line_in
line_fault line kind is = elim (stops (four_in line) BadLine _ kind is) [
  | inl none ↦ subst (IsLineFault line) none.1 (unspelled_from (IsDivided line) (four_in line) none.0 (divided_read line))
  | inr four ↦ elim (stops (cells_in four.value.cells) BadCells _ kind four.gives) [
    | inl none ↦ subst (IsLineFault line) none.1 (four.value, divided_is line four.value four.is, unspelled_from (SpellsLineCells four.value.cells) (cells_in four.value.cells) none.0 (spelled_cells_read four.value.cells))
    | inr cells ↦ elim (stops (operation_in four.value.operation) BadOperation _ kind cells.gives) [
      | inl none ↦
          subst (IsLineFault line) none.1 (
            four.value,
            divided_is line four.value four.is,
            (cells.value, cells_spelled four.value.cells cells.value cells.is),
            unspelled_from (SpellsLineOperation four.value.operation) (operation_in four.value.operation) none.0 (spelled_operation_read four.value.operation),
          )
      | inr operation ↦ elim (stops (flags_in four.value.flags) BadFlags _ kind operation.gives) [
        | inl none ↦
            subst (IsLineFault line) none.1 (
              four.value,
              divided_is line four.value four.is,
              (cells.value, cells_spelled four.value.cells cells.value cells.is),
              (operation.value, operation_spelled four.value.operation operation.value operation.is),
              no_flags four.value.flags none.0,
            )
        | inr flags ↦ elim (stops (comment_in four.value.comment) BadComment _ kind flags.gives) [
          | inl none ↦
              subst (IsLineFault line) none.1 (
                four.value,
                divided_is line four.value four.is,
                (cells.value, cells_spelled four.value.cells cells.value cells.is),
                (operation.value, operation_spelled four.value.operation operation.value operation.is),
                (flagged flags.value, flags_spelled four.value.flags flags.value flags.is),
                unspelled_from (SpellsLineComment four.value.comment) (comment_in four.value.comment) none.0 (spelled_comment_read four.value.comment),
              )
          | inr comment ↦ no_page (comment.gives)
        ]
      ]
    ]
  ]
] where
  no_page : {page : Page} → ◌≡◌ {A = Result Page ListKind} (Ok page) (Err kind) → IsLineFault line kind
  no_page e = cc

pub faulty_line_read : (line : List ℕ) (kind : ListKind) → IsLineFault line kind → line_in line ≡ Err kind
unfolding line_in
faulty_line_read line TooManyPages f = absurd f
faulty_line_read line BadLine f = rw (none_from (IsDivided line) (four_in line) (divided_is line) f) refl
faulty_line_read line BadCells f =
    rw (divided_read line f.0 f.1, none_from (SpellsLineCells f.0.cells) (cells_in f.0.cells) (cells_spelled f.0.cells) f.2) refl
faulty_line_read line BadOperation f =
    search (rules, (divided_read line f.0 f.1), (spelled_cells_read f.0.cells f.2.0 f.2.1), (none_from (SpellsLineOperation f.0.operation) (operation_in f.0.operation) (operation_spelled f.0.operation) f.3))
faulty_line_read line BadFlags f =
    search (rules, (divided_read line f.0 f.1), (spelled_cells_read f.0.cells f.2.0 f.2.1), (spelled_operation_read f.0.operation f.3.0 f.3.1), (none_from (λ flags. SpellsLineFlags f.0.flags (flagged flags)) (flags_in f.0.flags) (flags_spelled f.0.flags) (λ flags. f.4 (flagged flags))))
faulty_line_read line BadComment f =
    search (rules, (divided_read line f.0 f.1), (spelled_cells_read f.0.cells f.2.0 f.2.1), (spelled_operation_read f.0.operation f.3.0 f.3.1), (spelled_page_flags_read f.0.flags f.4.0 f.4.1), (none_from (SpellsLineComment f.0.comment) (comment_in f.0.comment) (comment_spelled f.0.comment) f.5))
