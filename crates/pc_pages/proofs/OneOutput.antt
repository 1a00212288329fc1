-- What is written is determined by the bytes of the source.
use Rattle.std.proofs.Common.{◌≡◌, ◌∙◌, ℕ, List, Option, ap, sym, subst, rules}
use Rattle.std.specs.List.{flat_map}
use Rattle.fumen_digits.specs.declared.dialect.Dialect.{Dialect}
use Rattle.fumen_pages.specs.declared.page.Page.{Page}
use Rattle.fumen_text.proofs.CallerLemmas.{one_list}
use Rattle.page_list.specs.PrintedLine.{page_form}
use Rattle.page_list.proofs.CallerLemmas.{one_page_list}
use Rattle.pc_pages.specs.Output.{IsDecodeOutput, IsEncodeOutput, IsShown, IsShowOutput}

pub one_decode_output : (bytes a b : List ℕ) → IsDecodeOutput bytes a → IsDecodeOutput bytes b → a ≡ b
one_decode_output bytes a b first second =
    first.lines ∙ ap (flat_map page_form) (one_list bytes first.dialect first.pages second.dialect second.pages first.reads second.reads).1 ∙ sym second.lines

pub one_encode_output : (dialect : Dialect) (bytes a b : List ℕ) → IsEncodeOutput dialect bytes a → IsEncodeOutput dialect bytes b → a ≡ b
one_encode_output dialect bytes a b first second = search (rules, one_page_list)

same_shown : (asked : Option ℕ) (pages : List Page) (a b : List ℕ) → IsShown asked pages a → IsShown asked pages b → a ≡ b
same_shown asked pages a b first second = search rules

pub one_show_output : (asked : Option ℕ) (bytes a b : List ℕ) → IsShowOutput asked bytes a → IsShowOutput asked bytes b → a ≡ b
one_show_output asked bytes a b first second =
    let same = (one_list bytes first.dialect first.pages second.dialect second.pages first.reads second.reads).1 in
    same_shown asked second.pages a b (subst (λ pages. IsShown asked pages a) same first.shown) second.shown
