-- The pages that a text reads as can be shown.
use Rattle.std.proofs.Common.{ℕ, List, [], ◌∷◌, All}
use Rattle.std.proofs.lemmas.List.Elements.{All-nil, All-cons}
use Rattle.fumen_digits.specs.declared.dialect.Dialect.{Dialect}
use Rattle.fumen_pages.specs.declared.page.Page.{Page}
use Rattle.fumen_pages.specs.Next.{next}
use Rattle.fumen_pages.specs.Sound.{IsSound}
use Rattle.fumen_pages.proofs.CallerLemmas.{inside_well}
use Rattle.fumen_text.specs.Spells.{SpellsFumen}
use Rattle.fumen_text.specs.Texts.{ReadsAs}
use Rattle.pc_source.specs.Had.{IsShowable}

showable : (dialect : Dialect) (page : Page) → IsSound dialect page → IsShowable page
showable dialect page sound = record { colours = sound.cells.colours; inside = λ placement is. inside_well dialect placement (sound.inside placement is) }

spelled_showable : (dialect : Dialect) (before : List ℕ) (promised : ℕ) (pages : List Page) (ds : List ℕ) → SpellsFumen dialect before promised pages ds → All IsShowable pages
unfolding SpellsFumen
spelled_showable dialect before promised [] ds spelled = All-nil IsShowable
spelled_showable dialect before promised (page ∷ pages) ds (after, sound, parts) =
    All-cons IsShowable page pages (showable dialect page sound) (spelled_showable dialect (next dialect page) after pages parts.other.back parts.other.other)

pub read_showable : (text : List ℕ) (dialect : Dialect) (pages : List Page) → ReadsAs text dialect pages → All IsShowable pages
read_showable text dialect pages reads = spelled_showable dialect _ 0 pages reads.ds reads.spelled
