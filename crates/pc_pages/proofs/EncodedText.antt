-- A newline behind a fumen text changes nothing, and what `encode` writes reads as its pages.
use Rattle.std.proofs.Common.{◌≡◌, ◌∙◌, ℕ, ◌+◌, ◌==◌, cond, List, [], ◌∷◌, ◌++◌, All, Option, Some, None, append_assoc, refl, ap, sym, rules}
use Rattle.std.specs.Prelude.{option_map}
use Rattle.std.specs.List.{AllByRecursion}
use Rattle.std.proofs.lemmas.List.Elements.{All-head, All-tail}
use Rattle.fumen_digits.specs.declared.dialect.Dialect.{Dialect}
use Rattle.fumen_digits.specs.declared.dialect.Dialect.TheVariants.{V115}
use Rattle.fumen_digits.specs.Framing.{broken, digits_in, is_dropped, digits_behind, version}
use Rattle.fumen_comment.specs.Escape.{HasUnits}
use Rattle.fumen_pages.specs.declared.page.Page.{Page}
use Rattle.fumen_pages.specs.Cells.{AreCells}
use Rattle.fumen_pages.specs.declared.encode_fault.EncodeFault.{EncodeFault}
use Rattle.fumen_text.specs.Texts.{ReadsAs}
use Rattle.fumen_text.specs.Written.{HasTypes, list_encode_fault}
use Rattle.fumen_text.proofs.CallerLemmas.{written_reads}
use Rattle.page_list.proofs.CallerLemmas.{cells_of_pages, units_of_pages}
use Rattle.pc_faults.specs.declared.fault.Fault.TheVariants as faults
use Rattle.pc_pages.specs.Faults.{encode_fault}
use Rattle.pc_pages.specs.Output.{IsEncodeOutput}
use Rattle.pc_pages.proofs.EncodeFaults.{lines_spelled}

-- ---- the newline

-- the digits behind a prefix, by the first byte
digits_behind_step : (byte : ℕ) (rest : List ℕ) → digits_behind (byte ∷ rest) ≡ cond (byte == 38) [] (cond (is_dropped byte) (digits_behind rest) (byte ∷ digits_behind rest))
unfolding digits_behind
digits_behind_step byte rest = search rules

digits_behind_newline : (text : List ℕ) → digits_behind (text ++ 10 ∷ []) ≡ digits_behind text
unfolding digits_behind
digits_behind_newline [] = refl
digits_behind_newline (byte ∷ rest) = search (rules, digits_behind_step, digits_behind_newline rest)

-- behind a prefix stand the digits
framed : (dialect : Dialect) (rest : List ℕ) → digits_in ((118 ∷ version dialect) ++ rest) ≡ Some (dialect, digits_behind rest)
unfolding digits_in
framed dialect rest = search rules

ended_text : (dialect : Dialect) (ds : List ℕ) → digits_in (broken dialect ds ++ 10 ∷ []) ≡ digits_in (broken dialect ds)
unfolding broken
ended_text dialect ds = search (rules, append_assoc, framed, digits_behind_newline)

-- ---- the pages

types_of : (pages : List Page) → All (λ page. AreCells V115 page.cells) pages → All (λ page. HasUnits page.comment) pages → AllByRecursion HasTypes pages
types_of [] cells units = tt
types_of (page ∷ pages) cells units = (
  record {
    size = (All-head (λ (p : Page). AreCells V115 p.cells) page pages cells).size;
    units = All-head (λ (p : Page). HasUnits p.comment) page pages units;
  },
  types_of pages (All-tail (λ (p : Page). AreCells V115 p.cells) page pages cells) (All-tail (λ (p : Page). HasUnits p.comment) page pages units),
)

no_fault : (found : Option EncodeFault) → option_map (λ f. faults.Encode f) found ≡ None → found ≡ None
no_fault found none = search rules

pub encoded_reads : (dialect : Dialect) (bytes output : List ℕ) (encoded : IsEncodeOutput dialect bytes output) → encode_fault dialect bytes ≡ None → ReadsAs output dialect encoded.pages
encoded_reads dialect bytes output encoded none =
    let pages = encoded.pages in
    let types = types_of pages (cells_of_pages bytes pages encoded.spelled) (units_of_pages bytes pages encoded.spelled) in
    let reads = written_reads dialect pages types (no_fault (list_encode_fault dialect pages) (sym (lines_spelled dialect bytes pages encoded.spelled) ∙ none)) in
    record {
      ds = reads.ds;
      framed = ap digits_in encoded.text ∙ ended_text dialect _ ∙ reads.framed;
      spelled = reads.spelled;
      few = reads.few;
    }
