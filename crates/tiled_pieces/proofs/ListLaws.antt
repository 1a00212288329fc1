-- What a list of all tilings says of one piece: it is in some of them where the others fill the rest.
use Rattle.srs.specs.Cells.{Cell}
use Rattle.std.proofs.Common.{◌≡◌, ◌<◌, true, List, ◌∷◌, pos, sym, subst, cond}
use Rattle.std.proofs.Math.Path.{fun_ext}
use Rattle.std.specs.List.{list_all}
use Rattle.std.proofs.lemmas.List.Elements.{All-head}
use Rattle.lane_board.specs.Field.{Field, difference}
use Rattle.srs.specs.SameCells.{is_among}
use Rattle.well.specs.Lock.{with_cells}
use Rattle.prune.specs.Tiling.{IsGeneralized, Part, Supply, Tiling, covers, is_empty_below}
use Rattle.prune.specs.OnePart.{less_one}
use Rattle.prune.proofs.CallerLemmas.{TilingOf, one_part_more}
use Rattle.empty_cells.specs.Empties.{all_but, has_cell_at}
use Rattle.empty_cells.proofs.CallerLemmas.{IsSmall, empty_within, not_without, one_back}
use Rattle.tiled_pieces.specs.declared.listed.ListedTiling.{ListedTiling}
use Rattle.tiled_pieces.specs.TilingLists.{HasParts, HasPiece, ListsAll, SomeHas, laid_part}

-- a piece of the supply that lies within a set of cells
pub record LiesIn (E : Field) (supply : Supply) (part : Part) : Type 0 where
  pub small : IsSmall 8 E
  pub generalized : IsGeneralized part
  pub some : 0 < supply part.piece
  pub inside : list_all (has_cell_at E) part.cells ≡ true

-- the cells that it leaves
abbrev pub left_by_part : Field → Part → Field
left_by_part E part = difference E (laid_part part).cells

pub left_is : (E : Field) (part : Part) → all_but (left_by_part E part) ≡ with_cells (all_but E) part.cells
unfolding all_but difference with_cells
left_is E part = sym (fun_ext (λ a. fun_ext (λ b. not_without (E a b) (is_among part.cells (pos a, pos b)))))

-- a tiling with the piece and the parts of a tiling of the rest
pub tiling_with : (E : Field) (supply : Supply) (part : Part) → LiesIn E supply part → (t : Tiling (all_but (left_by_part E part)) 8 (less_one supply part.piece)) → TilingOf (all_but E) 8 supply (part ∷ t.parts)
tiling_with E supply part lies t =
    subst (λ (s : Supply). TilingOf (all_but E) 8 s (part ∷ t.parts)) (one_back supply part.piece lies.some)
    (one_part_more (all_but E) 8 part (less_one supply part.piece) lies.generalized (empty_within 8 E part.cells lies.small lies.inside) rest)
  where
    rest : Tiling (with_cells (all_but E) part.cells) 8 (less_one supply part.piece)
    rest = record {
      parts = t.parts;
      generalized = t.generalized;
      covered = subst (λ (F : Field). (cell : Cell) → covers t.parts cell ≡ cond (is_empty_below F 8 cell) 1 0) (left_is E part) t.covered;
      supplied = t.supplied;
    }

-- a listed tiling has the piece and all parts of a tiling of the rest
have_both : (E : Field) (supply : Supply) (list : List ListedTiling) (part : Part) → LiesIn E supply part → ListsAll E supply list → (t : Tiling (all_but (left_by_part E part)) 8 (less_one supply part.piece)) → HasParts list (part ∷ t.parts)
have_both E supply list part lies lists t =
    let with = tiling_with E supply part lies t in
    subst (HasParts list) with.parts_are (lists.all with.tiling)

-- where the others of the supply fill the rest, the piece is in some listed tiling
pub part_listed : (E : Field) (supply : Supply) (list : List ListedTiling) (part : Part) → LiesIn E supply part → ListsAll E supply list → Tiling (all_but (left_by_part E part)) 8 (less_one supply part.piece) → SomeHas list (laid_part part)
part_listed E supply list part lies lists t =
    let both = have_both E supply list part lies lists t in
    record { tiling = both.tiling; listed = both.listed; has = All-head (λ p. HasPiece both.tiling (laid_part p)) part t.parts both.all }
