-- Each exit and each try.
use Rattle.std.proofs.Common.{true, false, ◌∷◌, ◌≡◌, ◌↔◌, ◌+◌, ◌∙◌, [], refl, sym, subst, arith}
use Rattle.std.proofs.lemmas.Bool.{both_ways, false≢true}
use Rattle.lane_board.specs.Field.{Field}
use Rattle.srs.specs.declared.piece.Piece.{Piece}
use Rattle.srs.specs.declared.piece.Piece.TheVariants.{L, T, J}
use Rattle.prune.specs.Tiling.{Supply, Tiling}
use Rattle.empty_cells.specs.Empties.{all_but, empty_cells}
use Rattle.empty_cells.specs.Spans.{IsFirst}
use Rattle.empty_cells.specs.Stacks.{StacksOver, StacksPiece}
use Rattle.empty_cells.specs.SupplyWords.{supply_of}
use Rattle.empty_cells.proofs.CallerLemmas.{cells_small, fills_nothing, both_moved, first_moved, fewer}
use Rattle.packing.proofs.SearchLemmas.{fills_taken, first_exact, first_only, some_takes, stacks_none, stacks_more, all_tried, third_form, tried-start, tried-next}
use Rattle.packing.proofs.search.+search.Goals as goal

pub decide-returns-in_default : goal.decide-returns-in_default
decide-returns-in_default t c = (λ _. fills_nothing 8 _ _ c.in_default.ensures, λ _. refl)

pub decide-recall-requires : goal.decide-recall-requires
decide-recall-requires t c = (
  omega (arith, c.decreases),
  subst (λ (E : Field). IsFirst E 0 c.in-Some.y) (sym c.from_column.ensures) (first_moved _ _ _ c.in-Some.ensures),
)

pub decide-returns : goal.decide-returns
decide-returns t c =
    let E = empty_cells c.args.cells.now in
    let both = both_moved E c.in-Some.x (cells_small c.args.cells.now) c.in-Some.ensures.leftmost (supply_of c.args.supply) in
    let exact = subst (λ (G : Field). (c.recall.result ≡ true) ↔ Tiling (all_but G) 8 (supply_of c.args.supply)) c.from_column.ensures c.recall.ensures in
    (λ e. both.0 (exact.0 e), λ t. exact.1 (both.1 t))

pub takes-stacks_piece-requires : goal.takes-stacks_piece-requires
takes-stacks_piece-requires t c =
    (omega (arith, fewer _ _ _ c.without_one-left.ensures (omega (arith, c.count_of.ensures)), c.decreases), c.requires)

pub takes-returns : goal.takes-returns
takes-returns t c = (
  λ e. record {
    has = omega (arith, c.count_of.ensures);
    stacks = subst (λ (s : Supply). StacksPiece s (empty_cells c.args.cells.now) 0 c.args.y c.args.piece) c.without_one-left.ensures (c.stacks_piece.ensures.0 e);
  },
  λ takes. c.stacks_piece.ensures.1 (subst (λ (s : Supply). StacksPiece s (empty_cells c.args.cells.now) 0 c.args.y c.args.piece) (sym c.without_one-left.ensures) takes.stacks),
)

pub takes-returns-then-count_of-eq0 : goal.takes-returns-then-count_of-eq0
takes-returns-then-count_of-eq0 t c = (λ e. absurd (false≢true e), λ takes. absurd (omega (arith, takes.has, c.count_of.ensures, c.if-count_of-eq0.true)))

pub recall-returns-then-has_uneven_start : goal.recall-returns-then-has_uneven_start
recall-returns-then-has_uneven_start t c = (λ e. absurd (false≢true e), λ tiling. absurd (c.has_uneven_start.ensures.none c.if-has_uneven_start.true (supply_of c.args.supply) tiling))

pub recall-returns-then-has_wrong_parity : goal.recall-returns-then-has_wrong_parity
recall-returns-then-has_wrong_parity t c = (λ e. absurd (false≢true e), λ tiling. absurd (c.has_wrong_parity.ensures.none c.if-has_wrong_parity.true tiling))

pub covers-returns-then-takes : goal.covers-returns-then-takes
covers-returns-then-takes t c = (λ _. fills_taken _ _ _ 0 c.args.y (cells_small c.args.cells.now) (c.if-takes.ensures.0 refl), λ _. refl)

pub covers-returns-then-takes-2 : goal.covers-returns-then-takes-2
covers-returns-then-takes-2 t c = (λ _. fills_taken _ _ _ 0 c.args.y (cells_small c.args.cells.now) (c.if-takes-2.ensures.0 refl), λ _. refl)

pub covers-returns-then-takes-3 : goal.covers-returns-then-takes-3
covers-returns-then-takes-3 t c = (λ _. fills_taken _ _ _ 0 c.args.y (cells_small c.args.cells.now) (c.if-takes-3.ensures.0 refl), λ _. refl)

pub covers-returns-then-takes-4 : goal.covers-returns-then-takes-4
covers-returns-then-takes-4 t c = (λ _. fills_taken _ _ _ 0 c.args.y (cells_small c.args.cells.now) (c.if-takes-4.ensures.0 refl), λ _. refl)

pub covers-returns-then-takes-5 : goal.covers-returns-then-takes-5
covers-returns-then-takes-5 t c = (λ _. fills_taken _ _ _ 0 c.args.y (cells_small c.args.cells.now) (c.if-takes-5.ensures.0 refl), λ _. refl)

pub covers-returns-then-takes-6 : goal.covers-returns-then-takes-6
covers-returns-then-takes-6 t c = (λ _. fills_taken _ _ _ 0 c.args.y (cells_small c.args.cells.now) (c.if-takes-6.ensures.0 refl), λ _. refl)

pub covers-returns : goal.covers-returns
covers-returns t c = (
  λ e. fills_taken _ _ _ 0 c.args.y (cells_small c.args.cells.now) (c.takes-7.ensures.0 e),
  λ filling. c.takes-7.ensures.1 (some_takes _ _ 0 c.args.y (cells_small c.args.cells.now) c.requires
      (λ takes. false≢true (c.if-takes.ensures.1 takes))
      (λ takes. false≢true (c.if-takes-2.ensures.1 takes))
      (λ takes. false≢true (c.if-takes-3.ensures.1 takes))
      (λ takes. false≢true (c.if-takes-4.ensures.1 takes))
      (λ takes. false≢true (c.if-takes-5.ensures.1 takes))
      (λ takes. false≢true (c.if-takes-6.ensures.1 takes))
      filling),
)

pub stacks_one-loop-rows-init : goal.stacks_one-loop-rows-init
stacks_one-loop-rows-init t c = tried-start _ _ _ _ _ c.args.a [] _ _ c.rows_with.ensures c.allowed.ensures

pub stacks_one-returns-then-decide : goal.stacks_one-returns-then-decide
stacks_one-returns-then-decide t c = (
  λ _. stacks_more _ _ _ _ _ _ _ c.args.a [] _ refl c.without_span-rest.ensures
      (c.loop-rows.invariant.may c.lowest_row-row.result c.lowest_row-row.ensures.below c.lowest_row-row.ensures.has)
      ((stacks_none _ _ 0 c.args.y (c.lowest_row-row.result + 1) [] true refl c.if-decide.ensures).0 refl),
  λ _. refl,
)

pub stacks_one-loop-rows-preserved : goal.stacks_one-loop-rows-preserved
stacks_one-loop-rows-preserved t c = tried-next _ _ _ _ _ c.args.a [] _ _ c.lowest_row-row.result c.loop-rows.invariant
    (record { fails = λ may stacks. false≢true ((stacks_none _ _ 0 c.args.y (c.lowest_row-row.result + 1) [] false refl c.if-decide.ensures).1 (subst (λ (E : Field). StacksOver (supply_of c.args.supply) E 0 c.args.y (c.lowest_row-row.result + 1) []) (sym c.without_span-rest.ensures) stacks)) })
    c.without_row-rows.ensures.others

pub stacks_one-loop-rows-smaller : goal.stacks_one-loop-rows-smaller
stacks_one-loop-rows-smaller t c = c.without_row-rows.ensures.fewer c.lowest_row-row.ensures.has

pub stacks_one-returns : goal.stacks_one-returns
stacks_one-returns t c = (
  λ e. absurd (false≢true e),
  λ stacks. absurd (all_tried _ _ _ _ _ c.args.a [] _ (cells_small c.args.cells.now) (omega arith) c.loop-rows.invariant stacks),
)

pub stacks_two-loop-rows-init : goal.stacks_two-loop-rows-init
stacks_two-loop-rows-init t c = tried-start _ _ _ _ _ c.args.a (c.args.b ∷ []) _ _ c.rows_with.ensures c.allowed.ensures

pub stacks_two-returns-then-stacks_one : goal.stacks_two-returns-then-stacks_one
stacks_two-returns-then-stacks_one t c = (
  λ _. stacks_more _ _ _ _ _ _ _ c.args.a (c.args.b ∷ []) _ refl c.without_span-rest.ensures
      (c.loop-rows.invariant.may c.lowest_row-row.result c.lowest_row-row.ensures.below c.lowest_row-row.ensures.has)
      (c.if-stacks_one.ensures.0 refl),
  λ _. refl,
)

pub stacks_two-loop-rows-preserved : goal.stacks_two-loop-rows-preserved
stacks_two-loop-rows-preserved t c = tried-next _ _ _ _ _ c.args.a (c.args.b ∷ []) _ _ c.lowest_row-row.result c.loop-rows.invariant
    (record { fails = λ may stacks. false≢true (c.if-stacks_one.ensures.1 (subst (λ (E : Field). StacksOver (supply_of c.args.supply) E 0 c.args.y (c.lowest_row-row.result + 1) (c.args.b ∷ [])) (sym c.without_span-rest.ensures) stacks)) })
    c.without_row-rows.ensures.others

pub stacks_two-loop-rows-smaller : goal.stacks_two-loop-rows-smaller
stacks_two-loop-rows-smaller t c = c.without_row-rows.ensures.fewer c.lowest_row-row.ensures.has

pub stacks_two-returns : goal.stacks_two-returns
stacks_two-returns t c = (
  λ e. absurd (false≢true e),
  λ stacks. absurd (all_tried _ _ _ _ _ c.args.a (c.args.b ∷ []) _ (cells_small c.args.cells.now) (omega arith) c.loop-rows.invariant stacks),
)

pub stacks_three-loop-rows-init : goal.stacks_three-loop-rows-init
stacks_three-loop-rows-init t c = tried-start _ _ _ _ _ c.args.a (c.args.b ∷ c.args.c ∷ []) _ _ c.rows_with.ensures c.allowed.ensures

pub stacks_three-returns-then-stacks_two : goal.stacks_three-returns-then-stacks_two
stacks_three-returns-then-stacks_two t c = (
  λ _. stacks_more _ _ _ _ _ _ _ c.args.a (c.args.b ∷ c.args.c ∷ []) _ refl c.without_span-rest.ensures
      (c.loop-rows.invariant.may c.lowest_row-row.result c.lowest_row-row.ensures.below c.lowest_row-row.ensures.has)
      (c.if-stacks_two.ensures.0 refl),
  λ _. refl,
)

pub stacks_three-loop-rows-preserved : goal.stacks_three-loop-rows-preserved
stacks_three-loop-rows-preserved t c = tried-next _ _ _ _ _ c.args.a (c.args.b ∷ c.args.c ∷ []) _ _ c.lowest_row-row.result c.loop-rows.invariant
    (record { fails = λ may stacks. false≢true (c.if-stacks_two.ensures.1 (subst (λ (E : Field). StacksOver (supply_of c.args.supply) E 0 c.args.y (c.lowest_row-row.result + 1) (c.args.b ∷ c.args.c ∷ [])) (sym c.without_span-rest.ensures) stacks)) })
    c.without_row-rows.ensures.others

pub stacks_three-loop-rows-smaller : goal.stacks_three-loop-rows-smaller
stacks_three-loop-rows-smaller t c = c.without_row-rows.ensures.fewer c.lowest_row-row.ensures.has

pub stacks_three-returns : goal.stacks_three-returns
stacks_three-returns t c = (
  λ e. absurd (false≢true e),
  λ stacks. absurd (all_tried _ _ _ _ _ c.args.a (c.args.b ∷ c.args.c ∷ []) _ (cells_small c.args.cells.now) (omega arith) c.loop-rows.invariant stacks),
)

pub first_one-returns-then-not-has_row : goal.first_one-returns-then-not-has_row
first_one-returns-then-not-has_row t c = (
  λ e. absurd (false≢true e),
  λ stacks. absurd (both_ways _ c.if-not-has_row.true (c.has_row.ensures ∙ c.rows_with.ensures c.args.y (omega arith) ∙ (first_only _ _ 0 c.args.y c.args.a [] c.requires.first stacks).0)),
)

pub first_one-returns : goal.first_one-returns
first_one-returns t c = first_exact _ _ _ 0 c.args.y c.args.a [] _ c.requires.first
    (sym (c.rows_with.ensures c.args.y (omega arith)) ∙ sym c.has_row.ensures ∙ c.if-not-has_row.false) c.without_span-rest.ensures (stacks_none _ _ 0 c.args.y (c.args.y + 1) [] c.decide.result refl c.decide.ensures)

pub first_two-returns-then-not-has_row : goal.first_two-returns-then-not-has_row
first_two-returns-then-not-has_row t c = (
  λ e. absurd (false≢true e),
  λ stacks. absurd (both_ways _ c.if-not-has_row.true (c.has_row.ensures ∙ c.rows_with.ensures c.args.y (omega arith) ∙ (first_only _ _ 0 c.args.y c.args.a (c.args.b ∷ []) c.requires.first stacks).0)),
)

pub first_two-returns : goal.first_two-returns
first_two-returns t c = first_exact _ _ _ 0 c.args.y c.args.a (c.args.b ∷ []) _ c.requires.first
    (sym (c.rows_with.ensures c.args.y (omega arith)) ∙ sym c.has_row.ensures ∙ c.if-not-has_row.false) c.without_span-rest.ensures c.stacks_one.ensures

pub first_three-returns-then-not-has_row : goal.first_three-returns-then-not-has_row
first_three-returns-then-not-has_row t c = (
  λ e. absurd (false≢true e),
  λ stacks. absurd (both_ways _ c.if-not-has_row.true (c.has_row.ensures ∙ c.rows_with.ensures c.args.y (omega arith) ∙ (first_only _ _ 0 c.args.y c.args.a (c.args.b ∷ c.args.c ∷ []) c.requires.first stacks).0)),
)

pub first_three-returns : goal.first_three-returns
first_three-returns t c = first_exact _ _ _ 0 c.args.y c.args.a (c.args.b ∷ c.args.c ∷ []) _ c.requires.first
    (sym (c.rows_with.ensures c.args.y (omega arith)) ∙ sym c.has_row.ensures ∙ c.if-not-has_row.false) c.without_span-rest.ensures c.stacks_two.ensures

pub first_four-returns-then-not-has_row : goal.first_four-returns-then-not-has_row
first_four-returns-then-not-has_row t c = (
  λ e. absurd (false≢true e),
  λ stacks. absurd (both_ways _ c.if-not-has_row.true (c.has_row.ensures ∙ c.rows_with.ensures c.args.y (omega arith) ∙ (first_only _ _ 0 c.args.y c.args.a (c.args.b ∷ c.args.c ∷ c.args.d ∷ []) c.requires.first stacks).0)),
)

pub first_four-returns : goal.first_four-returns
first_four-returns t c = first_exact _ _ _ 0 c.args.y c.args.a (c.args.b ∷ c.args.c ∷ c.args.d ∷ []) _ c.requires.first
    (sym (c.rows_with.ensures c.args.y (omega arith)) ∙ sym c.has_row.ensures ∙ c.if-not-has_row.false) c.without_span-rest.ensures c.stacks_three.ensures

pub stacks_piece-returns-in-I : goal.stacks_piece-returns-in-I
stacks_piece-returns-in-I t c = subst (λ (p : Piece). (c.stacks_i.result ≡ true) ↔ StacksPiece (supply_of c.args.supply) (empty_cells c.args.cells.now) 0 c.args.y p) (sym c.in-I.is) c.stacks_i.ensures

pub stacks_piece-returns-in-L : goal.stacks_piece-returns-in-L
stacks_piece-returns-in-L t c = subst (λ (p : Piece). (c.stacks_l.result ≡ true) ↔ StacksPiece (supply_of c.args.supply) (empty_cells c.args.cells.now) 0 c.args.y p) (sym c.in-L.is) c.stacks_l.ensures

pub stacks_piece-returns-in-O : goal.stacks_piece-returns-in-O
stacks_piece-returns-in-O t c = subst (λ (p : Piece). (c.stacks_o.result ≡ true) ↔ StacksPiece (supply_of c.args.supply) (empty_cells c.args.cells.now) 0 c.args.y p) (sym c.in-O.is) c.stacks_o.ensures

pub stacks_piece-returns-in-Z : goal.stacks_piece-returns-in-Z
stacks_piece-returns-in-Z t c = subst (λ (p : Piece). (c.stacks_z.result ≡ true) ↔ StacksPiece (supply_of c.args.supply) (empty_cells c.args.cells.now) 0 c.args.y p) (sym c.in-Z.is) c.stacks_z.ensures

pub stacks_piece-returns-in-T : goal.stacks_piece-returns-in-T
stacks_piece-returns-in-T t c = subst (λ (p : Piece). (c.stacks_t.result ≡ true) ↔ StacksPiece (supply_of c.args.supply) (empty_cells c.args.cells.now) 0 c.args.y p) (sym c.in-T.is) c.stacks_t.ensures

pub stacks_piece-returns-in-J : goal.stacks_piece-returns-in-J
stacks_piece-returns-in-J t c = subst (λ (p : Piece). (c.stacks_j.result ≡ true) ↔ StacksPiece (supply_of c.args.supply) (empty_cells c.args.cells.now) 0 c.args.y p) (sym c.in-J.is) c.stacks_j.ensures

pub stacks_piece-returns-in-S : goal.stacks_piece-returns-in-S
stacks_piece-returns-in-S t c = subst (λ (p : Piece). (c.stacks_s.result ≡ true) ↔ StacksPiece (supply_of c.args.supply) (empty_cells c.args.cells.now) 0 c.args.y p) (sym c.in-S.is) c.stacks_s.ensures

pub stacks_l-returns-then-first_two-2 : goal.stacks_l-returns-then-first_two-2
stacks_l-returns-then-first_two-2 t c = (λ _. third_form _ _ _ _ L L refl (omega arith) (c.if-first_two-2.ensures.0 refl), λ _. refl)

pub stacks_t-returns-then-stacks_two : goal.stacks_t-returns-then-stacks_two
stacks_t-returns-then-stacks_two t c = (λ _. third_form _ _ _ _ T T refl (omega arith) (c.if-stacks_two.ensures.0 refl), λ _. refl)

pub stacks_j-returns-then-stacks_two : goal.stacks_j-returns-then-stacks_two
stacks_j-returns-then-stacks_two t c = (λ _. third_form _ _ _ _ J J refl (omega arith) (c.if-stacks_two.ensures.0 refl), λ _. refl)
