-- The newline is no part of the digits, and these read as the pages.
use Rattle.std.proofs.Common.{◌∙◌, None, refl}
use Rattle.pc_source.proofs.CallerLemmas.{not_too_long, text_page, too_long}
use Rattle.pc_pages.specs.Tasks.{decode_task}
use Rattle.pc_pages.proofs.EncodedText.{encoded_reads}
use Rattle.pc_pages.proofs.laws.encoded_texts_are_decoded.Goals as goal

pub returns-clause-reads : goal.returns-clause-reads
returns-clause-reads c = encoded_reads

pub returns-clause-decoded : goal.returns-clause-decoded
returns-clause-decoded c = λ dialect bytes output encoded none within.
    let reads = encoded_reads dialect bytes output encoded none in (
      not_too_long decode_task output within ∙ text_page None output dialect encoded.pages reads,
      record { dialect = dialect; pages = encoded.pages; reads = reads; lines = refl },
    )

pub returns-clause-too_long : goal.returns-clause-too_long
returns-clause-too_long c = λ dialect bytes output encoded more. too_long decode_task output refl more
