-- The pages of a line, one after the other, and that they can be written.
use Rattle.std.proofs.Common.{◌≡◌, ℕ, ◌+◌, ◌-◌, ◌<◌, ◌≤◌, Bool, false, List, [], ◌∷◌, ◌++◌, length, drop, get_or, Option, None, append_assoc, append-nil, rules}
use Rattle.std.proofs.lemmas.List.{drop_more, drop_all}
use Rattle.lane_board.specs.Field.{Field}
use Rattle.srs.specs.declared.placement.Placement.{Placement}
use Rattle.srs.specs.Kick.{Table}
use Rattle.well.specs.Lock.{locked, rows_removed}
use Rattle.moves.specs.declared.key.Key.{Key}
use Rattle.moves.specs.declared.key.DropMode.{DropMode}
use Rattle.key_path.proofs.CallerLemmas.{named_is_short}
use Rattle.problem.specs.Plays.{Plays}
use Rattle.well.proofs.CallerLemmas.{free_inside}
use Rattle.moves.proofs.CallerLemmas.{place-free}
use Rattle.fumen_digits.specs.declared.dialect.Dialect.TheVariants.{V115}
use Rattle.fumen_pages.specs.declared.page.Page.{Page}
use Rattle.fumen_pages.specs.Next.{next}
use Rattle.fumen_pages.specs.Lists.{most_pages}
use Rattle.fumen_text.specs.Written.{list_encode_fault}
use Rattle.report.specs.Forms.{KeysOf, key_part}
use Rattle.report.specs.FumenLine.{placement_pages, placing_page, sequence_pages}
use Rattle.report.proofs.LineFields.{AreShort, EndsEmpty, line_fault}

-- a key word has few keys
pub keys_are_short : (with : Bool) (table : Table) (mode : DropMode) → AreShort (key_part with table mode)
keys_are_short with table mode = search (rules, named_is_short)

-- placements that play lie in the well, and leave no cell
pub plays_end : (table : Table) (mode : DropMode) (s : List Placement) (F : Field) (rows : ℕ) → Plays table mode F rows s → EndsEmpty F s
unfolding EndsEmpty
plays_end table mode [] F rows plays = plays.1
plays_end table mode (q ∷ s) F rows plays =
    (free_inside F q (place-free table F mode q plays.0), plays_end table mode s (locked F q) (rows - rows_removed F q) plays.2)

-- the pages of a sequence that plays can be written
pub pages_are_written : (with : Bool) (table : Table) (mode : DropMode) (F : Field) (rows : ℕ) (s : List Placement) → Plays table mode F rows s → length s ≤ most_pages
    → list_encode_fault V115 (sequence_pages (key_part with table mode) F s) ≡ None
pages_are_written with table mode F rows s plays few = search (rules, line_fault, keys_are_short, plays_end)

-- one more page is made
pub page_more : (keys : KeysOf) (whole made : List Page) (page : Page) (cells : List ℕ) (colour : Bool) (F after : Field) (s : List Placement) (i : ℕ) (d : Placement) (word : Option (List Key)) → i < length s
    → page ≡ placing_page cells colour (get_or s i d) word → word ≡ keys F (get_or s i d) → after ≡ locked F (get_or s i d)
    → whole ≡ made ++ placement_pages keys cells colour F (drop i s)
    → whole ≡ (made ++ page ∷ []) ++ placement_pages keys (next V115 page) false after (drop (i + 1) s)
unfolding placement_pages
page_more keys whole made page cells colour F after s i d word within is named left so_far =
    search (rules, drop_more, next, append_assoc)

-- all pages are made
pub pages_end : (keys : KeysOf) (whole made : List Page) (cells : List ℕ) (colour : Bool) (F : Field) (s : List Placement) (i : ℕ) → length s ≤ i
    → whole ≡ made ++ placement_pages keys cells colour F (drop i s) → made ≡ whole
unfolding placement_pages
pages_end keys whole made cells colour F s i past so_far = search (rules, drop_all, append-nil)
