-- A problem for what is asked about a field, where nothing is wrong with it.
use Rattle.std.proofs.Common.{◌≡◌, ◌∙◌, ◌↔◌, ℕ, zero, suc, ◌+◌, ◌-◌, ◌/◌, ◌%◌, ◌<◌, ◌≤◌, true, length, get_or, List, [], ◌∷◌, All, Option, None, Ok, refl, ap, sym, subst, arith, inl, inr, rules}
use Rattle.std.specs.Prelude.{option_map, reverse, slice_index, slice_index_or}
use Rattle.std.specs.List.{slice_split}
use Rattle.std.proofs.lemmas.Bool.{cases_lt}
use Rattle.std.proofs.lemmas.List.{get_or-reverse, length-reverse}
use Rattle.lane_board.specs.Field.{Field, rows_below}
use Rattle.srs.specs.Kick.{IsSmallTable, Table}
use Rattle.well.specs.Counts.{empties_below, lowest_filled_from, lowest_full}
use Rattle.well.specs.Rows.{IsRowsText, is_filled_char, is_slash, rows_fault, written_cells}
use Rattle.well.specs.Well.{filled}
use Rattle.fumen_pages.specs.declared.page.Page.{Page}
use Rattle.queue_pattern.specs.declared.element.Element.{Element}
use Rattle.queue_pattern.specs.declared.pattern.Pattern.{Pattern}
use Rattle.queue_pattern.specs.Grammar.{elements, limited}
use Rattle.queue_pattern.specs.Pattern.{elements_of}
use Rattle.queue_pattern.specs.Queues.{queue_len}
use Rattle.hold_queue.specs.AtHand.{count_held, playable}
use Rattle.problem.specs.declared.problem.Problem.{Problem}
use Rattle.problem.specs.Problem.{IsFit}
use Rattle.pc_faults.specs.declared.fault.Fault.{Fault}
use Rattle.pc_faults.specs.declared.fault.Fault.TheVariants as faults
use Rattle.pc_faults.specs.FirstFault.{first_of_these}
use Rattle.pc_settings.specs.Request.{FieldRequest, FieldText, IsInRange, fumen_text, rows_text}
use Rattle.pc_source.specs.Faults.{field_fault}
use Rattle.pc_source.specs.FieldText.{DashText, IsFieldOf, page_cells}
use Rattle.pc_source.specs.ProblemFaults as asked
use Rattle.pc_source.specs.Problem.{IsProblemOf}
use Rattle.run_laws.proofs.Tables.{rules-made}
use Rattle.run_laws.proofs.Wells.{LiesInWell, well-made}

no_some : {A B : Type 0} (f : A → B) (o : Option A) → option_map f o ≡ None → o ≡ None
no_some f o none = search rules

-- of faults none of which stands
pub both_none : (one two : Option Fault) → first_of_these (one ∷ two ∷ []) ≡ None → (one ≡ None) × (two ≡ None)
both_none one two none = search rules

pub three_none : (one two three : Option Fault) → first_of_these (one ∷ two ∷ three ∷ []) ≡ None → (one ≡ None) × (two ≡ None) × (three ≡ None)
three_none one two three none = search rules

-- ---- the cells of a field that is asked about lie in the well

filled_byte : (byte : ℕ) → byte ≡ 0 → is_filled_char byte ≡ true → ⊥
filled_byte byte none is = let bad : is_filled_char 0 ≡ true = subst (λ b. is_filled_char b ≡ true) none is in cc

beyond : (row : List ℕ) (k : ℕ) → length row ≤ k → slice_index row k ≡ 0
beyond [] k past = refl
beyond (x ∷ row) zero past = absurd (omega (arith, past))
beyond (x ∷ row) (suc k) past = beyond row k (omega (arith, past))

no_row : (rows : List (List ℕ)) (k : ℕ) → length rows ≤ k → slice_index_or rows k [] ≡ []
no_row [] k past = refl
no_row (row ∷ rows) zero past = absurd (omega (arith, past))
no_row (row ∷ rows) (suc k) past = no_row rows k (omega (arith, past))

module _ (text : List ℕ) (few : length (slice_split is_slash text) ≤ 23) (each : All (λ row. length row ≤ 10) (slice_split is_slash text)) where
  rows : List (List ℕ)
  rows = slice_split is_slash text

  in_row : (y : ℕ) → length (slice_index_or (reverse rows) y []) ≤ 10
  unfolding rows
  in_row y = elim (cases_lt y (length rows)) [
    | inl there ↦ subst (λ row. length row ≤ 10) (sym (get_or-reverse rows y [] there)) (each (length rows - 1 - y) [] (omega (arith, there)))
    | inr past ↦ subst (λ row. length row ≤ 10) (sym (no_row (reverse rows) y (omega (arith, past, length-reverse rows)))) (omega arith)
  ]

  rows_lie : LiesInWell (written_cells text)
  unfolding written_cells rows
  rows_lie = record {
    column = λ x y is. elim (cases_lt x 10) [
      | inl below ↦ below
      | inr past ↦ absurd (filled_byte _ (beyond (slice_index_or (reverse rows) y []) x (omega (arith, past, in_row y))) is)
    ];
    row = λ x y is. elim (cases_lt y 23) [
      | inl below ↦ below
      | inr past ↦ absurd (filled_byte _ (ap (λ row. slice_index row x) (no_row (reverse rows) y (omega (arith, past, few, length-reverse rows)))) is)
    ];
  }

text_lies : (text : List ℕ) → IsRowsText text → LiesInWell (written_cells text)
text_lies [] is = rows_lie [] one_row none_long
  where
    one_row : 1 ≤ 23
    one_row = omega arith

    no_bytes : 0 ≤ 10
    no_bytes = omega arith

    none_long : (k : ℕ) (d : List ℕ) → k < 1 → length (get_or ([] ∷ []) k d) ≤ 10
    none_long zero d below = no_bytes
    none_long (suc k) d below = absurd (omega (arith, below))
text_lies (byte ∷ bytes) is = rows_lie (byte ∷ bytes) is.0 (λ k d below. let ten = (is.1 k d below).ten in omega (arith, ten))

page_lies : (page : Page) → LiesInWell (page_cells page)
unfolding page_cells rows_below
page_lies page = search rules

pub field_lies : ((text : List ℕ) → (rows_fault text ≡ None) ↔ IsRowsText text) → (field : FieldText) (number : ℕ) (meant : DashText) (F : Field)
    → field_fault field number meant ≡ None → IsFieldOf field number meant F → LiesInWell F
field_lies known field number meant F none is = search (rules, rows_text, text_lies, no_some, fumen_text, page_lies)

-- ---- a problem

record IsRight (request : FieldRequest) (F : Field) (es : List Element) : Type 0 where
  read : asked.elements_asked request ≡ Ok es
  below : lowest_filled_from F request.height ≡ None
  open_rows : lowest_full F ≡ None
  enough : empties_below F request.height % 4 ≡ 0 → empties_below F request.height / 4 ≤ queue_len es + count_held (playable request.hold request.held)

asked_of : (request : FieldRequest) (F : Field) → asked.problem_fault request F ≡ None → (es : List Element) × IsRight request F es
unfolding asked.problem_fault asked.filled_rows_fault
asked_of request F none = search rules

pub record Made (request : FieldRequest) (F : Field) : Type 0 where
  pub problem : Problem
  pub named : IsProblemOf request F problem
  pub fit : IsFit problem

pub problem-made : ((text : List ℕ) (es : List Element) → limited (elements text) ≡ Ok es → (pattern : Pattern) × (elements_of pattern ≡ es))
    → (request : FieldRequest) (F : Field) (table : Table) → IsInRange request → LiesInWell F → request.table ≡ Ok table → IsSmallTable table → asked.problem_fault request F ≡ None → Made request F
problem-made patterns request F table range lies read small none =
    let found = asked_of request F none in
    let well = well-made F lies in
    let pattern = patterns request.patterns found.0 found.1.read in
    let rules = rules-made table small in
    let problem : Problem = record {
      well = well.0;
      height = request.height;
      pattern = pattern.0;
      hold = request.hold;
      held = request.held;
      drop_mode = request.drop_mode;
      rules = rules.0;
    } in
    record {
      problem = problem;
      named = record {
        field = well.1;
        height = refl;
        queues = ap Ok pattern.1 ∙ sym found.1.read;
        hold = refl;
        held = refl;
        drop = refl;
        rules = ap Ok rules.1 ∙ sym read;
      };
      fit = record {
        field = record {
          fit = record { some = range.some; low = range.low };
          below = ap (λ G. lowest_filled_from G request.height) well.1 ∙ found.1.below;
          open_rows = ap lowest_full well.1 ∙ found.1.open_rows;
        };
        enough = λ four. subst (λ es. empties_below (filled well.0) request.height / 4 ≤ queue_len es + count_held (playable request.hold request.held)) (sym pattern.1)
            (subst (λ G. empties_below G request.height / 4 ≤ queue_len found.0 + count_held (playable request.hold request.held)) (sym well.1)
            (found.1.enough (subst (λ G. empties_below G request.height % 4 ≡ 0) well.1 four)));
      };
    }
