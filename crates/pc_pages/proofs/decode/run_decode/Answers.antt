-- The lines of the pages of the text.
use Rattle.std.proofs.Common.{ℕ, List, All, None, Err, ap, refl, sym, subst}
use Rattle.std.specs.List.{flat_map}
use Rattle.fumen_pages.specs.declared.page.Page.{Page}
use Rattle.page_list.specs.PrintedLine.{page_form}
use Rattle.pc_source.specs.Had.{HasText, IsShowable}
use Rattle.pc_source.proofs.CallerLemmas.{has_prefix, last_line_answers, refused_answers, text_reads, text_refused, wants_memory}
use Rattle.pc_pages.specs.Output.{IsDecodeOutput}
use Rattle.pc_pages.specs.Tasks.{decode_task}
use Rattle.pc_pages.proofs.decode.run_decode.Goals as goal

lines_of : (bytes : List ℕ) (pages : List Page) → HasText bytes pages → IsDecodeOutput bytes (flat_map page_form pages)
lines_of bytes pages has = record { dialect = has.dialect; pages = pages; reads = has.reads; lines = refl }

pub returns-in-Err-clause-answers : goal.returns-in-Err-clause-answers
returns-in-Err-clause-answers g c =
    refused_answers decode_task c.args.bytes.now _ _ 0 c.in-Err.refused c.from.result c.from.ensures refl (λ _ reads. cc) (text_refused None c.args.bytes.now c.in-Err.refused c.in-Err.ensures.refused)

pub write_lines-requires : goal.write_lines-requires
write_lines-requires g c = subst (All IsShowable) (sym c.deref.ensures.value) c.in-Ok.ensures.showable

pub returns-clause-answers : goal.returns-clause-answers
returns-clause-answers g c =
    let has = subst (HasText c.args.bytes.now) (sym c.deref.ensures.value) c.in-Ok.ensures.pages in
    last_line_answers decode_task c.args.bytes.now _ _ _ 0 c.write_lines.result c.after_line.result c.after_line.ensures (text_reads None c.args.bytes.now c.deref.result.now has) (lines_of c.args.bytes.now c.deref.result.now has)
    c.write_lines.ensures.written c.write_lines.ensures.cause (λ _. refl)

pub returns-in-Err-clause-memory : goal.returns-in-Err-clause-memory
returns-in-Err-clause-memory g c = λ none. c.in-Err.ensures.memory (ap (λ r. Err r) (wants_memory c.in-Err.refused c.from.result c.from.ensures none))

pub returns-clause-memory : goal.returns-clause-memory
returns-clause-memory g c = λ _. has_prefix c.args.bytes.now c.in-Ok.pages.items c.in-Ok.ensures.pages
