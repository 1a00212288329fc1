-- Pages that a text reads as are sound, and their comments have units of 16 bits.
use Rattle.std.proofs.Common.{ℕ, List, [], ◌∷◌, All, Option, rules}
use Rattle.std.proofs.lemmas.List.Elements.{All-nil, All-cons}
use Rattle.std.proofs.lemmas.Option.{none-some, same_Some}
use Rattle.fumen_digits.specs.declared.dialect.Dialect.{Dialect}
use Rattle.fumen_comment.specs.Escape.{HasUnits}
use Rattle.fumen_comment.proofs.CallerLemmas.{comment_fits}
use Rattle.fumen_pages.specs.declared.page.Page.{Page}
use Rattle.fumen_pages.specs.Next.{next}
use Rattle.fumen_pages.specs.Sound.{IsSound}
use Rattle.fumen_pages.specs.Tail.{SpellsPart}
use Rattle.fumen_text.specs.Spells.{SpellsFumen}

part_fits : (comment : Option (List ℕ)) (ds : List ℕ) → SpellsPart comment ds → HasUnits comment
part_fits comment ds s = search (rules, none-some, same_Some, comment_fits)

pub spelled_sound : (d : Dialect) (before : List ℕ) (promised : ℕ) (pages : List Page) (ds : List ℕ) → SpellsFumen d before promised pages ds → All (IsSound d) pages
unfolding SpellsFumen
spelled_sound d before promised [] ds s = All-nil (IsSound d)
spelled_sound d before promised (page ∷ pages) ds s = All-cons (IsSound d) page pages s.1 (spelled_sound d (next d page) s.0 pages _ s.2.other.other)

pub spelled_units : (d : Dialect) (before : List ℕ) (promised : ℕ) (pages : List Page) (ds : List ℕ) → SpellsFumen d before promised pages ds → All (λ page. HasUnits page.comment) pages
unfolding SpellsFumen
spelled_units d before promised [] ds s = All-nil (λ (page : Page). HasUnits page.comment)
spelled_units d before promised (page ∷ pages) ds s = All-cons (λ (page : Page). HasUnits page.comment) page pages (part_fits page.comment _ s.2.other.one.comment) (spelled_units d (next d page) s.0 pages _ s.2.other.other)
