-- Drawn pages are sound, there are so many, and a drawn comment has three units.
use Rattle.std.proofs.Common.{◌≡◌, ◌∙◌, ℕ, zero, suc, ◌<◌, ◌/◌, ◌^◌, Bool, true, false, List, [], ◌∷◌, length, get_or, All, Option, None, refl, sym, ap, subst, arith}
use Rattle.std.specs.Option.{ForSome}
use Rattle.std.proofs.Math.Nat.{mod-lt}
use Rattle.std.proofs.lemmas.List.{length-set}
use Rattle.std.proofs.lemmas.List.Elements.{All-set, All-from_recursion}
use Rattle.std.proofs.lemmas.Option.{same_Some}
use Rattle.fumen_digits.specs.declared.dialect.Dialect.TheVariants.{V115}
use Rattle.srs.specs.declared.piece.Piece.TheVariants.{I}
use Rattle.srs.specs.declared.rotation.Rotation.TheVariants.{Spawn}
use Rattle.srs.specs.Piece.{all_pieces}
use Rattle.srs.specs.Rotation.{all_rotations}
use Rattle.fumen_pages.specs.Action.{is_inside_in}
use Rattle.fumen_pages.specs.Cells.{AreCells, IsColour}
use Rattle.fumen_pages.specs.Next.{next}
use Rattle.fumen_pages.specs.Sound.{IsSound}
use Rattle.sample_pages.specs.Draws.{draw, state_after_draws}
use Rattle.sample_pages.specs.Pages.{cells_drawn, comment_drawn, has_comment, operation_drawn, page_drawn, pages_drawn, state_behind}
use Rattle.sample_pages.proofs.PageLemmas.{drawn_inside}

pub draw_below : (state number below : ℕ) → 0 < below → draw state number below < below
draw_below state number below some = mod-lt (state_after_draws number state / 2 ^ 33) some

pub cells_drawn-sound : (state : ℕ) (cells : List ℕ) → AreCells V115 cells → AreCells V115 (cells_drawn state cells)
unfolding cells_drawn
cells_drawn-sound state cells sound =
    let colour = draw_below state 9 9 (omega arith) in
    record {
      size = length-set cells (draw state 8 240) (draw state 9 9) ∙ sound.size;
      colours = All-set IsColour cells (draw state 8 240) (draw state 9 9) (omega (arith, colour)) sound.colours;
      missing = refl;
    }

operation_drawn-inside : (state : ℕ) → is_inside_in V115 (operation_drawn state) ≡ true
unfolding operation_drawn
operation_drawn-inside state =
    drawn_inside (get_or all_pieces (draw state 1 7) I) (get_or all_rotations (draw state 2 4) Spawn) (draw state 3 4) (draw state 4 10)
    (draw_below state 3 4 (omega arith)) (draw_below state 4 10 (omega arith))

pub page_drawn-sound : (state : ℕ) (colour : Bool) (cells : List ℕ) → AreCells V115 cells → IsSound V115 (page_drawn state colour cells)
unfolding page_drawn
page_drawn-sound state colour cells sound = record {
  cells = cells_drawn-sound state cells sound;
  inside = λ operation is. subst (λ p. is_inside_in V115 p ≡ true) (same_Some (operation_drawn state) operation is) (operation_drawn-inside state);
}

-- three units of 16 bits
pub record IsShortComment (units : List ℕ) : Type 0 where
  pub three : length units ≡ 3
  pub units_fit : All (λ unit. unit < 2 ^ 16) units

three_units : (state : ℕ) → IsShortComment (draw state 11 65536 ∷ draw state 12 65536 ∷ draw state 13 65536 ∷ [])
three_units state = record {
  three = refl;
  units_fit = All-from_recursion (λ unit. unit < 2 ^ 16) (draw state 11 65536 ∷ draw state 12 65536 ∷ draw state 13 65536 ∷ [])
      (draw_below state 11 65536 (omega arith), (draw_below state 12 65536 (omega arith), (draw_below state 13 65536 (omega arith), tt)));
}

pub comment_drawn-short : (state : ℕ) → ForSome (comment_drawn state) IsShortComment
unfolding comment_drawn
comment_drawn-short state = by (has_comment state) refl where
  by : (b : Bool) → has_comment state ≡ b → ForSome (comment_drawn state) IsShortComment
  by true is = λ units drawn. subst IsShortComment (same_Some _ units (sym (rw (is) refl) ∙ drawn)) (three_units state)
  by false is = λ units drawn. let none : ◌≡◌ {A = Option (List ℕ)} (comment_drawn state) None = rw (is) refl in cc

pub length-pages_drawn : (count state : ℕ) (colour : Bool) (cells : List ℕ) → length (pages_drawn count state colour cells) ≡ count
unfolding pages_drawn
length-pages_drawn zero state colour cells = refl
length-pages_drawn (suc count) state colour cells = ap (λ n. suc n) (length-pages_drawn count (state_behind state) false (next V115 (page_drawn state colour cells)))
