-- Pages that a text reads as are sound, and lines of sound pages spell them.
use Rattle.std.proofs.Common.{List, ℕ, subst, sym}
use Rattle.fumen_text.specs.Texts.{empty_page}
use Rattle.fumen_text.proofs.CallerLemmas.{spelled_sound, spelled_units}
use Rattle.page_list.specs.LineSpelling.{SpellsPages}
use Rattle.page_list.proofs.CallerLemmas.{printed_pages}
use Rattle.pc_pages.specs.Output.{IsDecodeOutput}
use Rattle.pc_pages.proofs.laws.decoded_lines_spell_their_pages.Goals as goal

decoded : (bytes output : List ℕ) (d : IsDecodeOutput bytes output) → SpellsPages output d.pages
decoded bytes output d =
    let s = d.reads.spelled in
    subst (λ t. SpellsPages t d.pages) (sym d.lines)
    (printed_pages d.dialect d.pages d.reads.few (spelled_sound d.dialect empty_page 0 d.pages d.reads.ds s) (spelled_units d.dialect empty_page 0 d.pages d.reads.ds s))

pub returns : goal.returns
returns c = decoded
