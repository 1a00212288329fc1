-- A good hand has a tiling whose pieces are put in place in an order that the hand permits, each fitting when its turn comes.
use Rattle.std.proofs.Common.{◌≡◌, ℕ, zero, suc, ◌+◌, ◌-◌, ◌<◌, ◌≤◌, Bool, true, false, cond, not, ◌&&◌, nat_lt, List, [], ◌∷◌, length, get_or, map, pos, negsuc, nat_abs, refl, sym, ap, subst, ◌∙◌, inl, inr, arith}
use Rattle.std.proofs.Common.{set as list_set}
use Rattle.std.specs.List.{list_any}
use Rattle.std.specs.Prelude.{Contains, None, Some, find}
use Rattle.std.proofs.lemmas.Bool.{and_from, and_parts, and_right, both_ways, cases_Bool, cases_eq, cases_order, cond-false, eqb-true, false≢true, false_from_ne_true, ltb-true, not-true, not_from_false, not_from_true, true_from_ne_false}
use Rattle.std.proofs.lemmas.List.Elements.{All-nil}
use Rattle.lane_board.specs.Field.{Field, difference, rows_below}
use Rattle.lane_board.specs.FullRows.{is_full}
use Rattle.srs.specs.declared.placement.Placement.{Placement}
use Rattle.srs.specs.Cells.{Cell, cells_of}
use Rattle.srs.specs.Kick.{Table, srs_table}
use Rattle.srs.specs.Piece.{all_pieces, piece_code}
use Rattle.srs.specs.Placements.{placements_of}
use Rattle.srs.specs.Rules.{table_of}
use Rattle.srs.specs.SameCells.{is_among}
use Rattle.srs.proofs.CallerLemmas.{Contains-cases, Contains-from_filter, Contains-none, Contains-range, find-false, find-true, placements_of-list, some_passes}
use Rattle.well.specs.Free.{is_free}
use Rattle.well.specs.Counts.{lowest_full, rows}
use Rattle.well.specs.Lock.{locked, rows_removed, together, with_cells}
use Rattle.well.specs.LockLaws.{LiesBelow, is_below}
use Rattle.moves.specs.declared.key.DropMode.{DropMode}
use Rattle.moves.specs.Place.{IsPlace}
use Rattle.moves.specs.PlaceTest.{is_place, places_in}
use Rattle.moves.proofs.CallerLemmas.{is_place-decides as place-decides, place-free}
use Rattle.hold_queue.specs.declared.hold.Hold.{Hold}
use Rattle.problem.proofs.CallerLemmas.{IsLow, locked-low}
use Rattle.prune.specs.Laws.{with_one}
use Rattle.prune.specs.Tiling.{IsGeneralized, Part, covers, is_empty_below}
use Rattle.prune.proofs.CallerLemmas.{TilingOf, one_part_more}
use Rattle.empty_cells.specs.Empties.{all_but}
use Rattle.empty_cells.specs.Spans.{HasNoCell}
use Rattle.empty_cells.specs.SentCells.{sent_cells, sent_up}
use Rattle.empty_cells.proofs.CallerLemmas.{IsSmall, empty_within, sent_from}
use Rattle.tiled_pieces.specs.TilingLists.{LaidPiece, laid_part}
use Rattle.tiled_pieces.proofs.CallerLemmas.{LiesIn, left_is}
use Rattle.percent.specs.declared.game.Game.{Game}
use Rattle.tiled_pieces.specs.Built.{AreBuilt, Fits, IsGone, Rests}
use Rattle.tiled_pieces.specs.Served.{left_by}
use Rattle.percent.specs.BuiltHands.{IsBuiltBy, IsHardSrs}
use Rattle.hands.specs.Hands.{takes_all}
use Rattle.percent.specs.Fitting.{supply_at}
use Rattle.percent.specs.GoodHands.{is_good, reached_places}
use Rattle.hands.specs.Hands.{takes}
use Rattle.percent.specs.OpenRows.{HasOpenRows}
use Rattle.percent.specs.Spread.{IsSpread, is_row_of}
use Rattle.percent.proofs.SentLemmas.{laid, laid-sent, left-sent, lies, sent_part}
use Rattle.percent.proofs.RestingLemmas.{InRow, StandsOn, place-stands, row_between, sky-clear}
use Rattle.percent.proofs.SpreadLemmas.{IsRowOf, Keeping, NearCell, keeping-ends, keeping-more, keeping-pass, keeping-starts, near, opens-after, row_of, sent_here, small_set, spread-after, spread-own, zero_at}
use Rattle.percent.proofs.TiledLemmas.{IsRest, rest-supplied, taken-rest}

-- a row that has all its cells is full
all_filled : (F : Field) (y : ℕ) → ((x : ℕ) → x ≤ 9 → F x y ≡ true) → is_full F y ≡ true
unfolding is_full
all_filled F y each =
    and_from _ _ (each 0 (omega arith)) (and_from _ _ (each 1 (omega arith)) (and_from _ _ (each 2 (omega arith)) (and_from _ _ (each 3 (omega arith)) (and_from _ _ (each 4 (omega arith))
    (and_from _ _ (each 5 (omega arith)) (and_from _ _ (each 6 (omega arith)) (and_from _ _ (each 7 (omega arith)) (and_from _ _ (each 8 (omega arith)) (and_from _ _ (each 9 (omega arith)) refl)))))))))

-- ---- a placement fits where it stands in the earlier field

module _ (F : Field) (height : ℕ) (rows : List ℕ) (E : Field) (spread : IsSpread F height rows E) (q : Placement) (free : is_free F q ≡ true) (below : is_below height q ≡ true) where
  -- where a cell of the earlier field comes from
  record LaidAt (x z : ℕ) : Type 0 where
    pub row : ℕ
    pub column : x < 10
    pub low : row < height
    pub sent : get_or rows row 0 ≡ z
    pub empty : F x row ≡ false
    pub has : is_among (cells_of q) (pos x, pos row) ≡ true

  laid_at : (x z : ℕ) → sent_cells rows q x z ≡ true → LaidAt x z
  unfolding sent_cells sent_up
  laid_at x z has =
      let from = sent_from (sent_up rows) (cells_of q) (pos x, pos z) has in
      at from.0 (near F height rows E spread q free below from.0 from.1) from.1 from.2
    where
      at : (c : Cell) → NearCell F height rows E spread q free below c → is_among (cells_of q) c ≡ true → sent_up rows c ≡ (pos x, pos z) → LaidAt x z
      at c n listed sent =
          let there : ◌≡◌ {A = Cell} (pos n.x, pos (get_or rows n.y 0)) (pos x, pos z) = sym (ap (sent_up rows) n.is) ∙ sent in
          let column : n.x ≡ x = ap (λ (c : Cell). nat_abs c.0) there in
          record {
            row = n.y;
            column = subst (λ x. x < 10) column n.column;
            low = n.row;
            sent = ap (λ (c : Cell). nat_abs c.1) there;
            empty = subst (λ x. F x n.y ≡ false) column n.empty;
            has = subst (λ c. is_among (cells_of q) c ≡ true) (n.is ∙ (λ i. (pos (column i), pos n.y))) listed;
          }

  -- rows that are sent higher lie higher
  lies_lower : (y z : ℕ) → y < height → z < height → get_or rows y 0 < get_or rows z 0 → y < z
  lies_lower y z low_y low_z lower = elim (cases_order y z) [
    | inl same ↦ absurd (omega (arith, ap (λ n. get_or rows n 0) same, lower))
    | inr apart ↦ elim apart [
      | inl under ↦ under
      | inr over ↦ absurd (omega (arith, spread.rises z y over low_y, lower))
    ]
  ]

  inside : (x z : ℕ) → sent_cells rows q x z ≡ true → E x z ≡ true
  inside x z has =
      let at = laid_at x z has in
      let column = at.column in
      ap (E x) (sym at.sent) ∙ spread.same x at.row (omega arith) at.low ∙ ap not at.empty

  unbroken : (x y u v z : ℕ) → sent_cells rows q x y ≡ true → sent_cells rows q u v ≡ true → y < z → z < v → IsGone (sent_cells rows q) z → IsGone E z
  unbroken x y u v z has_low has_high above under none t = false_from_ne_true (E t z) (λ here.
      let low = laid_at x y has_low in
      let high = laid_at u v has_high in
      let at = row_of height rows z (spread.only t z here) in
      let sent = at.sent in
      let between : InRow q at.row = row_between q F low.row at.row high.row free (x, low.has) (u, high.has)
      (lies_lower low.row at.row low.low at.below (omega (arith, low.sent, sent, above))) (lies_lower at.row high.row at.below high.low (omega (arith, high.sent, sent, under))) in
      both_ways _ (none between.0) (ap (sent_cells rows q between.0) (sym sent) ∙ sent_here F height rows E spread q free below between.0 at.row at.below ∙ between.1))

  -- an empty cell comes from a row in which the field is empty
  was_empty : (x y : ℕ) → x ≤ 9 → y < height → E x (get_or rows y 0) ≡ true → F x y ≡ false
  was_empty x y column low here = not-true (F x y) (sym (spread.same x y column low) ∙ here)

  was_filled : (x y : ℕ) → x ≤ 9 → y < height → E x (get_or rows y 0) ≡ false → F x y ≡ true
  was_filled x y column low gone = true_from_ne_false (F x y) (λ empty. both_ways _ gone (spread.same x y column low ∙ ap not empty))

  rests : HasOpenRows F height → StandsOn F q → Rests E (laid rows q)
  rests opens stands = record {
    x = stands.x;
    y = get_or rows stands.y 0;
    there = there;
    floor = λ z lower gone. false_from_ne_true (E stands.x z) (λ here. on_filled z lower gone here (row_of height rows z (spread.only stands.x z here)));
  }
    where
      from : NearCell F height rows E spread q free below (pos stands.x, pos stands.y)
      from = near F height rows E spread q free below (pos stands.x, pos stands.y) stands.has

      column : stands.x ≤ 9
      column = let x : stands.x ≡ from.x = ap (λ (c : Cell). nat_abs c.0) from.is in let near = from.column in omega arith

      low : stands.y < height
      low = let y : stands.y ≡ from.y = ap (λ (c : Cell). nat_abs c.1) from.is in let under = from.row in omega arith

      there : sent_cells rows q stands.x (get_or rows stands.y 0) ≡ true
      there = sent_here F height rows E spread q free below stands.x stands.y low ∙ stands.has

      on_filled : (z : ℕ) → z < get_or rows stands.y 0 → ((w : ℕ) → z < w → w < get_or rows stands.y 0 → IsGone E w) → E stands.x z ≡ true → IsRowOf height rows z → ⊥
      on_filled z lower gone here at =
          let sent = at.sent in
          let lies = lies_lower at.row stands.y at.below low (omega (arith, sent, lower)) in
          let under = stands.y - 1 in
          let inside : under < height = omega (arith, low) in
          let up : stands.y ≡ suc under = omega arith in
          elim (cases_eq at.row under) [
            | inl same ↦ both_ways _ (was_empty stands.x at.row column at.below (ap (E stands.x) sent ∙ here)) (ap (F stands.x) same ∙ stands.filled under up)
            | inr apart ↦
                let from_z = spread.rises at.row under (omega (arith, apart, lies)) inside in
                let to_y = spread.rises under stands.y (omega (arith, up)) low in
                let none = gone (get_or rows under 0) (omega (arith, from_z, sent)) to_y in
                both_ways _ (opens.each under inside) (all_filled F under (λ x near. was_filled x under near inside (none x)))
          ]

  clear : ((x y k : ℕ) → is_among (cells_of q) (pos x, pos y) ≡ true → y ≤ k → F x k ≡ false)
      → (x y z : ℕ) → sent_cells rows q x y ≡ true → y < z → z < 8 → E x z ≡ false → IsGone E z
  clear sky x y z has above low filled t = false_from_ne_true (E t z) (λ here.
      let from = laid_at x y has in
      let column = from.column in
      let at = row_of height rows z (spread.only t z here) in
      let sent = at.sent in
      let higher = lies_lower from.row at.row from.low at.below (omega (arith, from.sent, sent, above)) in
      both_ways _ (sky x from.row at.row from.has (omega arith)) (was_filled x at.row (omega arith) at.below (ap (E x) sent ∙ filled)))

  fits : (drops : Bool) → HasOpenRows F height → StandsOn F q → (drops ≡ true → (x y k : ℕ) → is_among (cells_of q) (pos x, pos y) ≡ true → y ≤ k → F x k ≡ false) → Fits E drops (laid rows q)
  fits drops opens stands sky = record {
    inside = inside;
    unbroken = unbroken;
    rests = rests opens stands;
    clear = λ must. clear (sky must);
  }

-- ---- the rows that stay

-- those of the first y rows that stay
record KeptBelow (G : Field) (rows : List ℕ) (y : ℕ) : Type 0 where
  pub kept : List ℕ
  pub count : ℕ
  pub keeping : Keeping G rows kept count y
  pub within : (k : ℕ) → k < 8 → get_or kept k 0 < 8

kept_below : (G : Field) (rows : List ℕ) → ((y : ℕ) → y < 8 → get_or rows y 0 < 8) → (y : ℕ) → y ≤ 8 → KeptBelow G rows y
kept_below G rows small zero few = record { kept = 0 ∷ 0 ∷ 0 ∷ 0 ∷ 0 ∷ 0 ∷ 0 ∷ 0 ∷ []; count = 0; keeping = keeping-starts G rows _ refl; within = zero_at }
kept_below G rows small (suc y) few =
    let old = kept_below G rows small y (omega arith) in
    let next : y + 1 ≡ suc y = omega arith in
    elim (cases_Bool (is_full G y)) [
      | inl full ↦ record { kept = old.kept; count = old.count; keeping = subst (Keeping G rows old.kept old.count) next (keeping-pass G rows old.kept old.count y full old.keeping); within = old.within }
      | inr stays ↦ record {
        kept = list_set old.kept old.count (get_or rows y 0);
        count = old.count + 1;
        keeping = subst (Keeping G rows (list_set old.kept old.count (get_or rows y 0)) (old.count + 1)) next (keeping-more G rows old.kept old.count y (omega arith) stays old.keeping);
        within = small_set old.kept old.count (get_or rows y 0) (let size = old.keeping.size in let counted = old.keeping.counted in omega arith) (small y (omega arith)) old.within;
      }
    ]

-- a position after a placement, in the rows of the earlier field
pub record After (F : Field) (height : ℕ) (E : Field) (rows : List ℕ) (q : Placement) : Type 0 where
  pub kept : List ℕ
  pub spread : IsSpread (locked F q) (height - rows_removed F q) kept (difference E (sent_cells rows q))
  pub opens : HasOpenRows (locked F q) (height - rows_removed F q)

pub after : (F : Field) (height : ℕ) (E : Field) (rows : List ℕ) (q : Placement) → height ≤ 8 → IsLow F height → IsSmall 8 E → IsSpread F height rows E → is_free F q ≡ true → is_below height q ≡ true → After F height E rows q
unfolding locked rows_removed
after F height E rows q few low small spread free below =
    let old = kept_below (together F q) rows spread.within height few in
    let keeps = keeping-ends (together F q) rows old.kept old.count height height refl old.keeping in
    let lies : LiesBelow F height = record { none = low.none } in
    record {
      kept = old.kept;
      spread = spread-after F height rows old.kept E q few lies spread free below keeps old.within small.column;
      opens = record { each = opens-after F height rows old.kept E q few lies spread free below keeps old.within small.column };
    }

-- a field as it is, in its own rows
own-small : (F : Field) (height : ℕ) → height ≤ 8 → IsSmall 8 (difference (rows_below height) F)
unfolding difference rows_below
own-small F height few = record {
  column = λ a b here. ltb-true a 10 (and_parts (nat_lt a 10) (nat_lt b height) (and_parts (nat_lt a 10 && nat_lt b height) (not (F a b)) here).0).0;
  row = λ a b here. let low = ltb-true b height (and_parts (nat_lt a 10) (nat_lt b height) (and_parts (nat_lt a 10 && nat_lt b height) (not (F a b)) here).0).1 in omega arith;
}

-- no row is full after a placement
pub locked-open : (F : Field) (height : ℕ) (q : Placement) → height ≤ 8 → LiesBelow F height → is_free F q ≡ true → is_below height q ≡ true → HasOpenRows (locked F q) (height - rows_removed F q)
locked-open F height q few lies free below =
    (after F height (difference (rows_below height) F) _ q few (record { none = lies.none; within = omega arith }) (own-small F height few) (spread-own F (difference (rows_below height) F) height few refl) free below).opens

-- nor is one where none of the well is
unfull : (F : Field) (ys : List ℕ) → find (λ y. is_full F y) ys ≡ None → (y : ℕ) → Contains ys y → is_full F y ≡ false
unfull F [] none y among = absurd (Contains-none y among)
unfull F (z ∷ ys) none y among = elim (cases_Bool (is_full F z)) [
  | inl full ↦ let found : Some z ≡ None = sym (find-true (λ y. is_full F y) z ys full) ∙ none in cc
  | inr stays ↦ elim (Contains-cases z ys y among) [
    | inl here ↦ subst (λ y. is_full F y ≡ false) here stays
    | inr there ↦ unfull F ys (sym (find-false (λ y. is_full F y) z ys stays) ∙ none) y there
  ]
]

pub none-full : (F : Field) (height : ℕ) → height ≤ 8 → lowest_full F ≡ None → HasOpenRows F height
unfolding lowest_full
none-full F height few none = record { each = λ y low. unfull F rows none y (Contains-range 0 23 y (omega arith) (omega arith)) }

-- ---- the law

pub less-small : (E cells : Field) → IsSmall 8 E → IsSmall 8 (difference E cells)
unfolding difference
less-small E cells small = record {
  column = λ a b here. small.column a b (and_parts (E a b) (not (cells a b)) here).0;
  row = λ a b here. small.row a b (and_parts (E a b) (not (cells a b)) here).0;
}

-- nothing is left to build where no row is left
nothing-built : (F E : Field) (rows : List ℕ) (drops : Bool) (hold : Hold) (height hand : ℕ) → height ≡ 0 → IsSpread F height rows E → IsBuiltBy E drops hold 0 hand
unfolding is_row_of is_empty_below all_but rows_below covers AreBuilt left_by takes_all
nothing-built F E rows drops hold height hand none spread = record {
  tiling = record {
    parts = [];
    generalized = All-nil IsGeneralized;
    covered = λ c. sym (cond-false {A = ℕ} _ 1 0 (not_empty c));
    supplied = λ piece. omega arith;
  };
  size = refl;
  built = tt;
  uses_up = record { none = no_cell };
  taken = refl;
}
  where
    no_cell : (x y : ℕ) → E x y ≡ false
    no_cell x y = false_from_ne_true (E x y) (λ here. false≢true (ap (λ n. is_row_of n rows y) (sym none) ∙ spread.only x y here))

    not_empty : (c : Cell) → is_empty_below (all_but E) 8 c ≡ false
    not_empty (pos x, pos y) = and_right (nat_lt x 10 && nat_lt y 8) _ (not_from_true _ (not_from_false (E x y) (no_cell x y)))
    not_empty (pos x, negsuc y) = refl
    not_empty (negsuc x, pos y) = refl
    not_empty (negsuc x, negsuc y) = refl

-- a hand builds a set by a tiling that begins with a part
pub record BuiltFirst (E : Field) (drops : Bool) (hold : Hold) (left hand : ℕ) (part : Part) (parts : List Part) : Type 0 where
  pub built : IsBuiltBy E drops hold left hand
  pub parts_are : built.tiling.parts ≡ part ∷ parts

-- one piece more is built first
first-built : (E : Field) (rows : List ℕ) (q : Placement) (drops : Bool) (hold : Hold) (left hand rest : ℕ) → LiesIn E (λ piece. 1) (sent_part rows q) → IsRest (suc left) hand (piece_code q.piece) rest
    → Fits E drops (laid rows q) → ((goes_on : ℕ → Bool) → goes_on rest ≡ true → takes hold (piece_code q.piece) goes_on hand ≡ true)
    → (later : IsBuiltBy (difference E (sent_cells rows q)) drops hold left rest) → BuiltFirst E drops hold (suc left) hand (sent_part rows q) later.tiling.parts
unfolding AreBuilt left_by takes_all
first-built E rows q drops hold left hand rest lies is fits taken later = record {
  built = record {
    tiling = record {
      parts = with.tiling.parts;
      generalized = with.tiling.generalized;
      covered = with.tiling.covered;
      supplied = λ other. omega (arith, with.tiling.supplied other, rest-supplied (suc left) hand rest q.piece is other);
    };
    size = ap length with.parts_are ∙ ap suc later.size;
    built = subst (λ (parts : List Part). AreBuilt E drops (map laid_part parts)) (sym with.parts_are)
        (subst (λ (laid : LaidPiece). Fits E drops laid × AreBuilt (difference E laid.cells) drops more) (sym (laid-sent rows q)) (fits, later.built));
    uses_up = subst (λ (parts : List Part). HasNoCell (left_by E (map laid_part parts))) (sym with.parts_are)
        (subst (λ (laid : LaidPiece). HasNoCell (left_by (difference E laid.cells) more)) (sym (laid-sent rows q)) later.uses_up);
    taken = subst (λ (parts : List Part). takes_all hold hand (map (λ (part : Part). part.piece) parts) ≡ true) (sym with.parts_are)
        (taken (λ rest. takes_all hold rest (map (λ (part : Part). part.piece) later.tiling.parts)) later.taken);
  };
  parts_are = with.parts_are;
}
  where
    part : Part
    part = sent_part rows q

    more : List LaidPiece
    more = map laid_part later.tiling.parts

    covered_part : all_but (difference E (sent_cells rows q)) ≡ with_cells (all_but E) part.cells
    covered_part = ap all_but (sym (left-sent rows E q)) ∙ left_is E part

    with : TilingOf (all_but E) 8 (with_one (supply_at (suc left) rest) q.piece) (part ∷ later.tiling.parts)
    with = one_part_more (all_but E) 8 part (supply_at (suc left) rest) lies.generalized (empty_within 8 E part.cells lies.small lies.inside) (record {
      parts = later.tiling.parts;
      generalized = later.tiling.generalized;
      covered = subst (λ (F : Field). (cell : Cell) → covers later.tiling.parts cell ≡ cond (is_empty_below F 8 cell) 1 0) covered_part later.tiling.covered;
      supplied = later.tiling.supplied;
    })

-- so is a place after which a rest of the hand builds what is left
pub place-built : (game : Game) (drops : Bool) (F : Field) (height left hand rest : ℕ) (rows : List ℕ) (E : Field) (q : Placement) → (drops ≡ true → IsHardSrs game)
    → height ≤ 8 → IsLow F height → HasOpenRows F height → IsSmall 8 E → IsSpread F height rows E
    → IsPlace (table_of game.rules) F game.drop_mode q → is_below height q ≡ true → IsRest (suc left) hand (piece_code q.piece) rest
    → ((goes_on : ℕ → Bool) → goes_on rest ≡ true → takes game.hold (piece_code q.piece) goes_on hand ≡ true)
    → (later : IsBuiltBy (difference E (sent_cells rows q)) drops game.hold left rest) → BuiltFirst E drops game.hold (suc left) hand (sent_part rows q) later.tiling.parts
place-built game drops F height left hand rest rows E q hard few low opens small spread place below is taken later =
    let free = place-free (table_of game.rules) F game.drop_mode q place in
    first-built E rows q drops game.hold left hand rest (lies F q height rows E (λ piece. 1) few small spread free below (omega arith)) is
    (fits F height rows E spread q free below drops opens (place-stands (table_of game.rules) F game.drop_mode q place)
    (λ must. let hard = hard must in sky-clear F height q (omega arith) low.none (subst (λ (m : DropMode). IsPlace srs_table F m q) hard.mode (subst (λ (T : Table). IsPlace T F game.drop_mode q) hard.table place))))
    taken later

-- a good hand builds what is empty
pub good-built : (game : Game) (drops : Bool) (F : Field) (height left hand : ℕ) (rows : List ℕ) (E : Field) → (drops ≡ true → IsHardSrs game)
    → height ≤ 8 → IsLow F height → HasOpenRows F height → IsSmall 8 E → IsSpread F height rows E
    → is_good game F height left hand ≡ true → IsBuiltBy E drops game.hold left hand
unfolding is_good places_in
good-built game drops F height zero hand rows E hard few low opens small spread good =
    nothing-built F E rows drops game.hold height hand (eqb-true height 0 good) spread
good-built game drops F height (suc left) hand rows E hard few low opens small spread good =
    let kind = some_passes (λ piece. takes game.hold (piece_code piece)
    (λ rest. list_any (λ q. is_below height q && is_good game (locked F q) (height - rows_removed F q) left rest) (reached_places game F piece)) hand) all_pieces good in
    let way = taken-rest game.hold left (piece_code kind.0) hand (λ rest. list_any (λ q. is_below height q && is_good game (locked F q) (height - rows_removed F q) left rest) (reached_places game F kind.0)) kind.2 in
    let found = some_passes (λ q. is_below height q && is_good game (locked F q) (height - rows_removed F q) left way.0) (reached_places game F kind.0) way.1 in
    let q : Placement = found.0 in
    let parts = and_parts (is_below height q) (is_good game (locked F q) (height - rows_removed F q) left way.0) found.2 in
    let kept = Contains-from_filter (is_place (table_of game.rules) F game.drop_mode) (placements_of kind.0) q found.1 in
    let of_kind : kind.0 ≡ q.piece = sym (((placements_of-list kind.0).members q).0 kept.0).kind in
    let place = (place-decides (table_of game.rules) F game.drop_mode q).0 kept.1 in
    let free = place-free (table_of game.rules) F game.drop_mode q place in
    let next = after F height E rows q few low small spread free parts.0 in
    let later = good-built game drops (locked F q) (height - rows_removed F q) left way.0 next.kept (difference E (sent_cells rows q)) hard
    (omega arith) (locked-low F height q low parts.0 free) next.opens (less-small E (sent_cells rows q) small) next.spread parts.1 in
    (place-built game drops F height left hand way.0 rows E q hard few low opens small spread place parts.0
    (subst (λ p. IsRest (suc left) hand (piece_code p) way.0) of_kind way.2)
    (subst (λ p. (goes_on : ℕ → Bool) → goes_on way.0 ≡ true → takes game.hold (piece_code p) goes_on hand ≡ true) of_kind way.3) later).built

-- so it does in the rows of its own field
pub good-own : (game : Game) (drops : Bool) (F : Field) (height left hand : ℕ) → (drops ≡ true → IsHardSrs game) → height ≤ 8 → LiesBelow F height → HasOpenRows F height
    → is_good game F height left hand ≡ true → IsBuiltBy (difference (rows_below height) F) drops game.hold left hand
good-own game drops F height left hand hard few lies opens good =
    good-built game drops F height left hand _ (difference (rows_below height) F) hard few (record { none = lies.none; within = omega arith }) opens (own-small F height few)
    (spread-own F (difference (rows_below height) F) height few refl) good
