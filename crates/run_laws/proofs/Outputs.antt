-- Where no fault stands, there is an output.
use Rattle.std.proofs.Common.{◌≡◌, ◌∙◌, ◌↔◌, ℕ, zero, suc, ◌-◌, ◌/◌, ◌<◌, ◌≤◌, Bool, true, false, not, ◌&&◌, ◌==◌, if◌then◌else◌, IsTrue, nat_lt, length, List, [], ◌∷◌, ◌++◌, Option, Some, None, Result, Ok, Err, refl, ap, sym, subst, arith, inl, inr, rules}
use Rattle.std.specs.Prelude.{codes, slice_get}
use Rattle.std.specs.List.{flat_map}
use Rattle.std.specs.Option.{ForSome}
use Rattle.std.proofs.lemmas.Bool.{and_parts, cases_Bool, ltb-true, ne_eqb}
use Rattle.std.proofs.lemmas.Bool.Decides.{nat_tests}
use Rattle.lane_board.specs.Field.{Field, rows_below}
use Rattle.srs.specs.declared.piece.Piece.{Piece}
use Rattle.srs.specs.declared.placement.Placement.{Placement}
use Rattle.srs.specs.Kick.{IsSmallTable, Table, srs_table}
use Rattle.well.specs.Counts.{empties_below}
use Rattle.well.specs.Rows.{IsRowsText, rows_fault}
use Rattle.well.specs.Well.{filled}
use Rattle.fumen_digits.specs.declared.dialect.Dialect.{Dialect}
use Rattle.fumen_digits.specs.declared.dialect.Dialect.TheVariants.{V115}
use Rattle.fumen_pages.specs.declared.page.Page.{Page}
use Rattle.fumen_pages.specs.declared.list_fault.ListFault.{ListFault}
use Rattle.fumen_text.specs.Reading.{text_pages}
use Rattle.fumen_text.specs.Written.{written}
use Rattle.fumen_text.proofs.CallerLemmas.{text_from_read}
use Rattle.kick_file.specs.Faults.{IsReadAs}
use Rattle.kick_file.specs.Reading.{kick_text}
use Rattle.kick_file.specs.declared.fault.KickFault.{KickFault}
use Rattle.queue_pattern.specs.declared.element.Element.{Element}
use Rattle.queue_pattern.specs.declared.fault.PatternFault.{PatternFault}
use Rattle.queue_pattern.specs.declared.pattern.Pattern.{Pattern}
use Rattle.queue_pattern.specs.Grammar.{choice, elements, elements_from, limited}
use Rattle.queue_pattern.specs.Pattern.{elements_of}
use Rattle.queue_pattern.specs.Queues.{falling_factor, pieces_in, queue_count, queues}
use Rattle.problem.specs.declared.problem.Problem.{Problem}
use Rattle.problem.specs.Problem.{IsFit, needed_of}
use Rattle.problem.specs.SolutionList.{IsList}
use Rattle.moves.specs.declared.key.DropMode.{DropMode}
use Rattle.moves.specs.declared.key.DropMode.TheVariants.{Soft}
use Rattle.hold_queue.specs.declared.hold.Hold.{Hold}
use Rattle.hold_queue.specs.declared.hold.Hold.TheVariants.{Allowed}
use Rattle.sample_pages.specs.Pages.{column_drawn, sample_pages}
use Rattle.cover.specs.Covered.{IsCoveredList}
use Rattle.combo.specs.Longest.{IsLongest}
use Rattle.page_list.specs.ListReading.{pages_in}
use Rattle.page_list.specs.PrintedLine.{page_form}
use Rattle.page_list.proofs.CallerLemmas.{pages_spelled}
use Rattle.page_show.specs.Page.{shown_page}
use Rattle.percent.specs.Good.{Good}
use Rattle.percent.specs.GoodHands.{is_good_queue}
use Rattle.report.specs.Forms.{key_part, report_form}
use Rattle.sequence_text.specs.Form.{Spells}
use Rattle.pc_faults.specs.declared.fault.Fault.TheVariants as faults
use Rattle.pc_settings.specs.Request.{ComboRequest, FieldRequest, FieldText, IsInRange, PathRequest, PercentRequest}
use Rattle.pc_source.specs.Faults.{cells_asked, field_fault, page_fault, text_fault}
use Rattle.pc_source.specs.FieldText.{DashText, IsFieldOf}
use Rattle.pc_source.specs.ProblemFaults.{full_row_fault, pattern_fault, problem_fault}
use Rattle.pc_path.specs.Faults.{after_fault, listing_fault}
use Rattle.pc_source.specs.FieldTask.{SourceOf, fault_after_field, field_task, its_field, its_rest, rest_bytes, dash_text}
use Rattle.pc_source.specs.Task.{Task}
use Rattle.pc_path.specs.Formats.{solution_form, takes_memory_first}
use Rattle.pc_path.specs.Output.{IsGiven, IsReportOf, stats_form}
use Rattle.pc_path.specs.PathTask.{listing_task, path_fault, path_task}
use Rattle.pc_percent.specs.Lines.{percent_form}
use Rattle.pc_percent.specs.Output.{IsAnsweredFor}
use Rattle.pc_percent.specs.PercentTask.{asked_task, percent_fault, percent_task}
use Rattle.pc_cover.specs.Faults.{covering_fault, given_fault}
use Rattle.pc_cover.specs.Given.{Given, given_in}
use Rattle.pc_cover.specs.Lines.{cover_form}
use Rattle.pc_cover.specs.Output.{IsCoveringOf}
use Rattle.pc_cover.specs.CoverTask.{cover_task, covering_task}
use Rattle.pc_combo.specs.Faults.{count_fault, one_queue, run_fault}
use Rattle.pc_combo.specs.Output.{IsOneQueue, IsRunFor, combo_form}
use Rattle.pc_combo.specs.ComboTask.{combo_task, run_task}
use Rattle.pc_pages.specs.Faults.{encode_fault, lines_fault, unwritten_fault}
use Rattle.pc_pages.specs.Output.{IsDecodeOutput, IsEncodeOutput, IsShowOutput, IsShown, shown_from}
use Rattle.pc_selfrun.specs.Lines.{selfrun_form}
use Rattle.pc_selfrun.specs.Output.{IsSelfrunOutput}
use Rattle.pc_selfrun.specs.Problem.{IsColumnProblem, column_field}
use Rattle.run_laws.proofs.Problems.{Made, both_none, field_lies, problem-made, three_none}
use Rattle.run_laws.proofs.Tables.{rules-made, srs_small}
use Rattle.run_laws.proofs.Wells.{LiesInWell, well-made}

-- what the laws of the crates below say
pub record LawsBelow : Type 0 where
  pub tables : (text : List ℕ) (read : Result Table KickFault) → (kick_text text ≡ read) ↔ IsReadAs text read
  pub rows : (text : List ℕ) → (rows_fault text ≡ None) ↔ IsRowsText text
  pub fields : (field : FieldText) (number : ℕ) (meant : DashText) → 1 ≤ number → field_fault field number meant ≡ None → IsFieldOf field number meant (cells_asked field number meant)
  pub patterns : (text : List ℕ) (es : List Element) → limited (elements text) ≡ Ok es → (pattern : Pattern) × (elements_of pattern ≡ es)
  pub lists : (problem : Problem) (queue : Option (List Piece)) (bound : Option (List Placement)) → IsFit problem
      → (sequences : List (List Placement)) × IsList (record { problem = problem; queue = queue; bound = bound }) sequences
  pub given : (needed : ℕ) (text : List ℕ) → (after_fault needed (Some text) ≡ None) ↔ ((sequence : List Placement) × Spells needed text sequence)
  pub covered : (problem : Problem) (sequences : List (List Placement)) → IsFit problem → (numbers : List ℕ) × IsCoveredList problem sequences numbers
  pub longest : (table : Table) (mode : DropMode) (F : Field) (hold : Hold) (queue : List Piece) (held : Option Piece) → (run : List Placement) × IsLongest table mode F hold queue held run
  pub drawn : (number pages : ℕ) → column_drawn number pages < 7
  pub column : (column : ℕ) (problem : Problem) → column < 7 → IsColumnProblem column problem → IsFit problem
  pub good : (problem : Problem) (queue : List Piece) → IsFit problem → IsTrue (is_good_queue problem queue) ↔ Good problem queue

-- something has an output
pub record Has (Outputs : List ℕ → Type 0) : Type 0 where
  pub output : List ℕ
  pub is : Outputs output

module _ (known : LawsBelow) where
  -- the field and the problem that are asked about
  pub asked_field : (field : FieldText) (number : ℕ) (meant : DashText) → 1 ≤ number → field_fault field number meant ≡ None
      → IsFieldOf field number meant (cells_asked field number meant) × LiesInWell (cells_asked field number meant)
  asked_field field number meant page none =
      let is = known.fields field number meant page none in
      (is, field_lies known.rows field number meant (cells_asked field number meant) none is)

  pub asked_problem : (request : FieldRequest) (F : Field) (table : Table) → IsInRange request → LiesInWell F → request.table ≡ Ok table → IsSmallTable table → problem_fault request F ≡ None → Made request F
  asked_problem = problem-made known.patterns

  given_sequence : (needed : ℕ) (text : Option (List ℕ)) → after_fault needed text ≡ None → (after : Option (List Placement)) × IsGiven needed text after
  given_sequence needed None none = (None, refl)
  given_sequence needed (Some text) none = let found = (known.given needed text).0 none in (Some found.0, found.1)

  -- what is asked about the field has an output
  of_field : (source : SourceOf) (text : FieldText) (page : ℕ) (memory_first : Bool) (rest : Field → Task) (bytes : List ℕ) (floods : ℕ) → 1 ≤ page → (field_task source text page memory_first rest).fault bytes ≡ None
      → ((F : Field) → LiesInWell F → (rest F).fault (rest_bytes source bytes) ≡ None → Has ((rest F).IsOutput (rest_bytes source bytes) floods)) → Has ((field_task source text page memory_first rest).IsOutput bytes floods)
  unfolding fault_after_field
  of_field source text page memory_first rest bytes floods first none has =
      let F = cells_asked text page (dash_text source bytes) in
      let parts = both_none (field_fault text page (dash_text source bytes)) ((rest F).fault (rest_bytes source bytes)) none in
      let there = asked_field text page (dash_text source bytes) first parts.0 in
      let outputs = has F there.1 parts.1 in
      record { output = outputs.output; is = record { field = F; asked = there.0; holds = outputs.is } }

  listing_has : (request : PathRequest) (table : Table) (floods : ℕ) → IsInRange request.common → request.common.table ≡ Ok table → IsSmallTable table → (F : Field) → LiesInWell F → listing_fault request F ≡ None
      → Has (IsReportOf request F floods)
  unfolding listing_fault
  listing_has request table floods range read small F lies none =
      let common = request.common in
      let listing = both_none (problem_fault common F) (after_fault (empties_below F common.height / 4) request.after) none in
      let made = asked_problem common F table range lies read small listing.0 in
      let problem = made.problem in
      let needed : empties_below F common.height / 4 ≡ needed_of problem =
      ap (λ G. empties_below G common.height / 4) (sym made.named.field) ∙ ap (λ h. empties_below (filled problem.well) h / 4) (sym made.named.height) in
      let given = given_sequence (needed_of problem) request.after (subst (λ n. after_fault n request.after ≡ None) needed listing.1) in
      let list = known.lists problem None given.0 made.fit in
      record {
        output = report_form (solution_form request.format request.keys problem) request.limit list.0 ++ stats_form request.stats floods;
        is = record {
          listed = record { problem = problem; named = made.named; after = given.0; given = given.1; sequences = list.0; list = list.1 };
          report = refl;
        };
      }

  pub path_has : (request : PathRequest) (table : Table) (bytes : List ℕ) (floods : ℕ) → IsInRange request.common → request.common.table ≡ Ok table → IsSmallTable table → path_fault request bytes ≡ None
      → Has ((path_task request).IsOutput bytes floods)
  path_has request table bytes floods range read small none =
      of_field its_field request.common.field request.common.page (takes_memory_first request.format) (listing_task request) bytes floods range.page none (listing_has request table floods range read small)

  answers_have : (request : PercentRequest) (table : Table) → IsInRange request.common → request.common.table ≡ Ok table → IsSmallTable table → (F : Field) → LiesInWell F → problem_fault request.common F ≡ None
      → Has (IsAnsweredFor request F)
  answers_have request table range read small F lies none =
      let made = asked_problem request.common F table range lies read small none in
      record {
        output = percent_form (is_good_queue made.problem) request.failed (queues (elements_of made.problem.pattern));
        is = record { problem = made.problem; named = made.named; is_good = is_good_queue made.problem; decides = λ queue. known.good made.problem queue made.fit; lines = refl };
      }

  pub percent_has : (request : PercentRequest) (table : Table) (bytes : List ℕ) (floods : ℕ) → IsInRange request.common → request.common.table ≡ Ok table → IsSmallTable table → percent_fault request bytes ≡ None
      → Has ((percent_task request).IsOutput bytes floods)
  percent_has request table bytes floods range read small none =
      of_field its_field request.common.field request.common.page true (asked_task request) bytes floods range.page none (answers_have request table range read small)

  covering_has : (request : FieldRequest) (table : Table) (bytes : List ℕ) → IsInRange request → request.table ≡ Ok table → IsSmallTable table → (F : Field) → LiesInWell F → covering_fault request F bytes ≡ None
      → Has (IsCoveringOf request F bytes)
  unfolding covering_fault
  covering_has request table bytes range read small F lies none =
      let covering = both_none (problem_fault request F) (given_fault (given_in (empties_below F request.height / 4) bytes)) none in
      let made = asked_problem request F table range lies read small covering.0 in
      let given = given_lines (given_in (empties_below F request.height / 4) bytes) covering.1 in
      let covered = known.covered made.problem given.0 made.fit in
      record {
        output = cover_form (queues (elements_of made.problem.pattern)) covered.0;
        is = record {
          sequences = given.0;
          given = given.1;
          covered = record { problem = made.problem; named = made.named; numbers = covered.0; covered = covered.1; lines = refl };
        };
      }
    where
      given_lines : (given : Given) → given_fault given ≡ None → (sequences : List (List Placement)) × (given ≡ Ok sequences)
      given_lines (Ok sequences) none = (sequences, refl)
      given_lines (Err fault) none = let bad : Some (faults.Cover fault) ≡ None = none in cc

  pub cover_has : (request : FieldRequest) (table : Table) (bytes : List ℕ) (floods : ℕ) → IsInRange request → request.table ≡ Ok table → IsSmallTable table → (cover_task request).fault bytes ≡ None → Has ((cover_task request).IsOutput bytes floods)
  cover_has request table bytes floods range read small none =
      of_field its_rest request.field request.page true (covering_task request) bytes floods range.page none (covering_has request table bytes range read small)

  run_has : (request : ComboRequest) (table : Table) → request.table ≡ Ok table → (F : Field) → LiesInWell F → run_fault request F ≡ None → Has (IsRunFor request F)
  unfolding run_fault
  run_has request table is_read F lies none =
      let read = limited (elements request.patterns) in
      let run = three_none (full_row_fault F) (pattern_fault read) (count_fault read) none in
      let named = one_queue_of read refl run.1 run.2 in
      let longest = known.longest table request.drop_mode F request.hold named.0 request.held in
      record {
        output = combo_form (key_part request.keys table request.drop_mode) F longest.0;
        is = record { table = table; rules = sym is_read; queue = named.0; named = named.1; run = longest.0; longest = longest.1; lines = refl };
      }
    where
      only_one : (list : List (List Piece)) → one_queue (length list) ≡ None → (queue : List Piece) × (list ≡ queue ∷ [])
      only_one [] none = let bad : Some (faults.NotOneQueue 0) ≡ None = none in cc
      only_one (queue ∷ []) none = (queue, refl)
      only_one (queue ∷ other ∷ more) none =
          let many : (length (queue ∷ other ∷ more) == 1) ≡ false = ne_eqb (length (queue ∷ other ∷ more)) 1 (λ e. omega (arith, e)) in
          let bad : Some (faults.NotOneQueue (length (queue ∷ other ∷ more))) ≡ None = sym (ap (λ b. if not b then Some (faults.NotOneQueue (length (queue ∷ other ∷ more))) else None) many) ∙ none in cc

      one_queue_of : (read : Result (List Element) PatternFault) → limited (elements request.patterns) ≡ read → pattern_fault read ≡ None → count_fault read ≡ None → (queue : List Piece) × IsOneQueue request.patterns queue
      one_queue_of (Ok es) is pattern count = let only = only_one (queues es) count in (only.0, record { elements = es; read = is; only = only.1 })
      one_queue_of (Err fault) is pattern count = let bad : Some (faults.Pattern fault) ≡ None = pattern in cc

  pub combo_has : (request : ComboRequest) (table : Table) (bytes : List ℕ) (floods : ℕ) → 1 ≤ request.page → request.table ≡ Ok table → (combo_task request).fault bytes ≡ None → Has ((combo_task request).IsOutput bytes floods)
  combo_has request table bytes floods page read none =
      of_field its_field request.field request.page true (run_task request) bytes floods page none (run_has request table read)

  -- ---- the problem of a column

  column_lies : (column : ℕ) → LiesInWell (column_field column)
  unfolding column_field rows_below
  column_lies column = record {
    column = λ x y is. ltb-true x 10 (and_parts (nat_lt x 10) (nat_lt y 4) (and_parts (nat_lt x 10 && nat_lt y 4) _ is).0).0;
    row = λ x y is. let low = ltb-true y 4 (and_parts (nat_lt x 10) (nat_lt y 4) (and_parts (nat_lt x 10 && nat_lt y 4) _ is).0).1 in omega (arith, low);
  }

  five_read : (es : List Element) × (limited (elements (codes "*p5")) ≡ Ok es)
  unfolding elements_from choice pieces_in queue_count falling_factor
  five_read = ((record { set = 127; chosen = 5 }) ∷ [], refl)

  pub selfrun_has : (number pages : ℕ) → Has (IsSelfrunOutput number pages)
  selfrun_has number pages =
      let column = column_drawn number pages in
      let well = well-made (column_field column) (column_lies column) in
      let pattern = known.patterns (codes "*p5") five_read.0 five_read.1 in
      let rules = rules-made srs_table srs_small in
      let problem : Problem = record { well = well.0; height = 4; pattern = pattern.0; hold = Allowed; held = None; drop_mode = Soft; rules = rules.0 } in
      let named : IsColumnProblem column problem = record { field = well.1; height = refl; queues = ap Ok pattern.1 ∙ sym five_read.1; hold = refl; held = refl; drop = refl; rules = rules.1 } in
      let list = known.lists problem None None (known.column column problem (known.drawn number pages) named) in
      record {
        output = selfrun_form (length (sample_pages number pages)) (length (written V115 (sample_pages number pages))) true column (length list.0);
        is = record { problem = problem; named = named; sequences = list.0; list = list.1; lines = refl };
      }

-- ---- pages

record HasPages (asked : Option ℕ) (text : List ℕ) : Type 0 where
  dialect : Dialect
  pages : List Page
  read : text_pages text ≡ Ok (dialect, pages)
  shown : page_fault asked pages ≡ None

has_pages : (asked : Option ℕ) (text : List ℕ) → text_fault asked text ≡ None → HasPages asked text
unfolding text_fault
has_pages asked text none = search rules

pub decode_has : (bytes : List ℕ) → text_fault None bytes ≡ None → Has (IsDecodeOutput bytes)
decode_has bytes none =
    let has = has_pages None bytes none in
    record { output = flat_map page_form has.pages; is = record { dialect = has.dialect; pages = has.pages; reads = text_from_read bytes (has.dialect, has.pages) has.read; lines = refl } }

there : (pages : List Page) (k : ℕ) → k < length pages → (page : Page) × (slice_get pages k ≡ Some page)
there [] k below = absurd (omega (arith, below))
there (page ∷ pages) zero below = (page, refl)
there (page ∷ pages) (suc k) below = there pages k (omega (arith, below))

shown_of : (asked : Option ℕ) (pages : List Page) → ForSome asked (λ number. 1 ≤ number) → page_fault asked pages ≡ None → Has (IsShown asked pages)
shown_of None pages number none = record { output = shown_from 1 pages; is = refl }
shown_of (Some asked) pages number none = elim (cases_Bool (nat_lt (length pages) asked)) [
  | inl past ↦
      let made : page_fault (Some asked) pages ≡ Some (faults.NoPage asked (length pages)) = rw past refl in
      let bad : Some (faults.NoPage asked (length pages)) ≡ None = sym made ∙ none in cc
  | inr within ↦
      let below : asked - 1 < length pages = at_most (length pages) asked within (number asked refl) in
      let page = there pages (asked - 1) below in
      record { output = shown_page asked page.0; is = (page.0, page.1, refl) }
]
  where
    at_most : (count asked : ℕ) → nat_lt count asked ≡ false → 1 ≤ asked → asked - 1 < count
    at_most count asked within some = grind (arith, nat_tests, within, some)

pub show_has : (asked : Option ℕ) (bytes : List ℕ) → ForSome asked (λ number. 1 ≤ number) → text_fault asked bytes ≡ None → Has (IsShowOutput asked bytes)
show_has asked bytes number none =
    let has = has_pages asked bytes none in
    let shown = shown_of asked has.pages number has.shown in
    record { output = shown.output; is = record { dialect = has.dialect; pages = has.pages; reads = text_from_read bytes (has.dialect, has.pages) has.read; shown = shown.is } }

no_lines : (f : ListFault) → lines_fault (Err f) ≡ None → ⊥
no_lines f none = let bad : Some (faults.List f) ≡ None = none in cc

pub encode_has : (dialect : Dialect) (bytes : List ℕ) → encode_fault dialect bytes ≡ None → Has (IsEncodeOutput dialect bytes)
unfolding encode_fault
encode_has dialect bytes none = by (pages_in bytes) refl (both_none (lines_fault (pages_in bytes)) (unwritten_fault dialect (pages_in bytes)) none).0
  where
    by : (read : Result (List Page) ListFault) → pages_in bytes ≡ read → lines_fault read ≡ None → Has (IsEncodeOutput dialect bytes)
    by (Ok pages) is lines = record { output = written dialect pages ++ 10 ∷ []; is = record { pages = pages; spelled = pages_spelled bytes pages is; text = refl } }
    by (Err f) is lines = absurd (no_lines f lines)
