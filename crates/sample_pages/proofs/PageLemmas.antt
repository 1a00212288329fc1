-- Drawn pages are sound, and one more page at a time makes so many.
use Rattle.std.proofs.Common.{◌≡◌, ◌∙◌, ℕ, suc, ◌+◌, ◌-◌, ◌<◌, ◌≤◌, ◌==◌, Bool, true, false, List, [], ◌∷◌, ◌++◌, replicate, refl, sym, ap, subst, arith, append_assoc, add-one}
use Rattle.std.proofs.Math.Dec.{eqb-suc-zero}
use Rattle.std.proofs.lemmas.Bool.{agree_below, agree_below_at}
use Rattle.std.proofs.lemmas.List.{append-nil}
use Rattle.std.proofs.lemmas.List.Elements.{All-replicate}
use Rattle.fumen_digits.specs.declared.dialect.Dialect.TheVariants.{V115}
use Rattle.srs.specs.declared.piece.Piece.{Piece}
use Rattle.srs.specs.declared.rotation.Rotation.{Rotation}
use Rattle.srs.specs.declared.placement.Placement.{Placement}
use Rattle.srs.specs.Cells.{moved}
use Rattle.srs.proofs.CallerLemmas.{each_state}
use Rattle.fumen_pages.specs.declared.page.Page.{Page}
use Rattle.fumen_pages.specs.Action.{is_inside_in}
use Rattle.fumen_pages.specs.Cells.{AreCells, IsColour}
use Rattle.fumen_pages.specs.Next.{next}
use Rattle.sample_pages.specs.Draws.{next_state, state_after_draws}
use Rattle.sample_pages.specs.Pages.{page_drawn, pages_drawn, sample_pages, state_behind, state_behind_pages}

-- every piece that may be drawn lies inside
abbrev placed : Piece → Rotation → ℕ → ℕ → Placement
placed piece rotation x y = record { piece = piece; rotation = rotation; x = x + 3; y = y + 2 }

abbrev yes : ℕ → Bool
yes n = true

abbrev all_inside : Piece → Rotation → ℕ → Bool
all_inside piece rotation x = agree_below (λ y. is_inside_in V115 (placed piece rotation x y)) yes 10

pub drawn_inside : (piece : Piece) (rotation : Rotation) (x y : ℕ) → x < 4 → y < 10 → is_inside_in V115 (placed piece rotation x y) ≡ true
unfolding moved
drawn_inside piece rotation x y column row =
    let rows : all_inside piece rotation x ≡ true =
    agree_below_at (all_inside piece rotation) yes 4 x (each_state (λ piece rotation. agree_below (all_inside piece rotation) yes 4) refl piece rotation) column in
    agree_below_at (λ y. is_inside_in V115 (placed piece rotation x y)) yes 10 y rows row

-- one more draw
pub draw_more : (after count state : ℕ) → after ≡ state_after_draws count state → next_state after ≡ state_after_draws (count + 1) state
unfolding state_after_draws
draw_more after count state is = ap next_state is ∙ ap (λ n. state_after_draws n state) (sym (add-one count))

-- before the first page
pub pages_start : (made : List Page) (cells : List ℕ) (count state number : ℕ) → made ≡ [] → state ≡ number → cells ≡ replicate 240 0
    → made ++ pages_drawn (count - 0) state true cells ≡ sample_pages number count
pages_start made cells count state number none same empty =
    let e : count - 0 ≡ count = omega arith in
    λ i. none i ++ pages_drawn (e i) (same i) true (empty i)

pub state_start : (count state number : ℕ) → state ≡ number → state_behind_pages (count - 0) state ≡ state_behind_pages count number
state_start count state number same =
    let e : count - 0 ≡ count = omega arith in
    λ i. state_behind_pages (e i) (same i)

pub empty_sound : AreCells V115 (replicate 240 0)
empty_sound = record { size = refl; colours = All-replicate IsColour 240 0 (omega arith); missing = refl }

pub page_more : (whole made now : List Page) (count index state : ℕ) (cells : List ℕ) (page : Page) → index < count
    → made ++ pages_drawn (count - index) state (index == 0) cells ≡ whole
    → page ≡ page_drawn state (index == 0) cells → now ≡ made ++ page ∷ []
    → now ++ pages_drawn (count - (index + 1)) (state_behind state) ((index + 1) == 0) (next V115 page) ≡ whole
unfolding pages_drawn
page_more whole made now count index state cells page within stands is more =
    let left = count - (index + 1) in
    let e : count - index ≡ suc left = omega (arith, within) in
    let later : ((index + 1) == 0) ≡ false = subst (λ n. (n == 0) ≡ false) (sym (add-one index)) (eqb-suc-zero index) in
    ap (λ xs. xs ++ pages_drawn left (state_behind state) ((index + 1) == 0) (next V115 page)) more
    ∙ append_assoc made (page ∷ []) (pages_drawn left (state_behind state) ((index + 1) == 0) (next V115 page))
    ∙ (λ i. made ++ is i ∷ pages_drawn left (state_behind state) (later i) (next V115 (is i)))
    ∙ ap (λ n. made ++ pages_drawn n state (index == 0) cells) (sym e)
    ∙ stands

-- and the state behind them
pub state_more : (whole count index state : ℕ) → index < count → state_behind_pages (count - index) state ≡ whole
    → state_behind_pages (count - (index + 1)) (state_behind state) ≡ whole
unfolding state_behind_pages
state_more whole count index state within stands =
    let e : count - index ≡ suc (count - (index + 1)) = omega (arith, within) in
    ap (λ n. state_behind_pages n state) (sym e) ∙ stands

pub pages_end : (whole made : List Page) (count index state : ℕ) (colour : Bool) (cells : List ℕ) → count ≤ index
    → made ++ pages_drawn (count - index) state colour cells ≡ whole → made ≡ whole
unfolding pages_drawn
pages_end whole made count index state colour cells over stands =
    let e : count - index ≡ 0 = omega (arith, over) in
    sym (append-nil made) ∙ ap (λ n. made ++ pages_drawn n state colour cells) (sym e) ∙ stands

pub state_end : (whole count index state : ℕ) → count ≤ index → state_behind_pages (count - index) state ≡ whole → state ≡ whole
unfolding state_behind_pages
state_end whole count index state over stands =
    let e : count - index ≡ 0 = omega (arith, over) in
    ap (λ n. state_behind_pages n state) (sym e) ∙ stands
