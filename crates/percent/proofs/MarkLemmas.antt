-- A placement after which a rest is good stands in a listed tiling by the pieces of the rest and its own.
use Rattle.std.proofs.Common.{ℕ, suc, cond, ◌≡◌, ◌↔◌, ◌∙◌, ◌+◌, ◌-◌, ◌*◌, ◌^◌, ◌%◌, ◌<◌, ◌≤◌, ◌⊎◌, Bool, true, false, not, ◌&&◌, ◌||◌, ◌==◌, bit_and, bit_or, List, [], ◌∷◌, length, get_or, map, ap, refl, sym, subst, inl, inr, arith, rules}
use Rattle.std.proofs.Math.Bool.{and-true, or-true, true-or}
use Rattle.std.proofs.lemmas.Bool.{agree_below_at, cases_lt, both_ways, eq-eqb, eqb-true, false_from_ne_true, not-false, or_parts}
use Rattle.std.specs.Prelude.{All, Contains, Option, Some, None, IfSome, IsSomeAnd, slice_get}
use Rattle.std.proofs.lemmas.Option.{slice_get_within, get_or_from_slice_get}
use Rattle.std.proofs.lemmas.List.Elements.{All-head, All-tail}
use Rattle.hands.specs.Numbers.{has_number}
use Rattle.problem.proofs.CallerLemmas.{locked-low}
use Rattle.srs.proofs.CallerLemmas.{some_same, piece_code-small}
use Rattle.lane_board.specs.Lanes.{has_bit}
use Rattle.lane_board.proofs.CallerLemmas.{has_bit-and, has_bit-or, has_bit-zero}
use Rattle.lane_board.specs.Field.{Field, difference}
use Rattle.srs.specs.declared.piece.Piece.{Piece}
use Rattle.srs.specs.declared.placement.Placement.{Placement}
use Rattle.srs.specs.Piece.{piece_code}
use Rattle.srs.specs.Rules.{table_of}
use Rattle.moves.specs.Place.{IsPlace}
use Rattle.moves.proofs.CallerLemmas.{place-free}
use Rattle.hold_queue.specs.declared.hold.Hold.{Hold}
use Rattle.hands.specs.Hands.{takes}
use Rattle.well.specs.Well.{filled}
use Rattle.well.specs.Free.{is_free}
use Rattle.well.specs.Lock.{locked, rows_removed}
use Rattle.well.specs.LockLaws.{is_below}
use Rattle.prune.specs.Tiling.{Supply, Tiling}
use Rattle.prune.proofs.CallerLemmas.{full_rows_may_stand}
use Rattle.empty_cells.specs.Empties.{all_but, empty_cells}
use Rattle.empty_cells.specs.SentCells.{sent_cells}
use Rattle.empty_cells.proofs.CallerLemmas.{IsSmall, cells_small}
use Rattle.tiled_pieces.specs.declared.listed.ListedTiling.{ListedTiling}
use Rattle.tiled_pieces.specs.TilingLists.{HasParts, HasPiece, SomeHas, laid_part}
use Rattle.tiled_pieces.specs.RowOrders.{ListsOrdered}
use Rattle.tiled_pieces.proofs.CallerLemmas.{built-can-go}
use Rattle.percent.specs.declared.game.Game.{Game}
use Rattle.percent.specs.declared.marks.Mark.{Mark}
use Rattle.percent.specs.declared.marks.Marks.{Marks}
use Rattle.percent.specs.declared.position.Child.{Child}
use Rattle.percent.specs.declared.position.Position.{Position}
use Rattle.percent.specs.Children.{IsChild}
use Rattle.percent.specs.Counts.{codes_with, supply_by}
use Rattle.percent.specs.Fitting.{codes_in, supply_at}
use Rattle.percent.specs.GoodHands.{is_good}
use Rattle.percent.specs.BuiltHands.{IsBuiltBy}
use Rattle.percent.specs.ListedHands.{IsRestAt, ListsHand}
use Rattle.percent.proofs.BuiltLemmas.{BuiltFirst, after, good-built, less-small, place-built}
use Rattle.percent.proofs.SentLemmas.{laid-sent, sent_part, tiled-left}
use Rattle.percent.specs.Marks.{AreCountsWith, AreIndexes, HasCounts, HasMarkAt, IsMarkOf, IsStanding, IsTrueMark}
use Rattle.percent.specs.declared.children.WantedPieces.{WantedPieces}
use Rattle.percent.specs.Standing.{AreStanding}
use Rattle.tiled_pieces.specs.declared.standing.StandingPieces.{StandingPieces}
use Rattle.tiled_pieces.specs.Standing.{GrowsBy, Stands}
use Rattle.percent.specs.Spread.{IsSpread}
use Rattle.percent.specs.Wanted.{IsWanted}
use Rattle.percent.proofs.FittingLemmas.{low-position}
use Rattle.percent.proofs.TiledLemmas.{IsRest, good-tiled, taken-rest}
use Rattle.hands.proofs.CallerLemmas.{has_bit-one, number-at}

-- ---- the pieces of rests and of hands

-- the counts of a rest and of the piece that was taken are those of the hand
pub rest-counts : (left hand rest : ℕ) (piece : Piece) (counts : List ℕ) → IsRest (suc left) hand (piece_code piece) rest → AreCountsWith piece left rest counts → HasCounts counts (suc left) hand
unfolding codes_with
rest-counts left hand rest piece counts is are = record {
  size = are.size;
  each = λ code few. are.each code few ∙ ap (λ n. cond (piece_code piece == code) 1 0 + codes_in n rest code) {x = left + 1} {y = suc left} (omega arith)
      ∙ is.fewer code ∙ ap (λ n. codes_in n hand code) {x = suc (suc left)} {y = suc left + 1} (omega arith);
}

-- so are those of another rest with the same pieces
pub counts-alike : (left rest other : ℕ) (piece : Piece) (old new : List ℕ) → HasCounts new left rest → ((code : ℕ) → code < 8 → get_or new code 0 ≡ codes_in (left + 1) other code)
    → AreCountsWith piece left other old → AreCountsWith piece left rest old
unfolding codes_with
counts-alike left rest other piece old new has same are = record {
  size = are.size;
  each = λ code few. are.each code few ∙ ap (λ n. cond (piece_code piece == code) 1 0 + n) (sym (same code few) ∙ has.each code few);
}

-- ---- good rests

-- where a rest is good after a placement, what it leaves is tiled by the pieces of the rest
good-left : (game : Game) (p : Position) (q : Placement) (left rest : ℕ) (rows : List ℕ) (E : Field) → IsSpread (filled p.well) p.rows rows E → is_free (filled p.well) q ≡ true → is_below p.rows q ≡ true
    → is_good game (locked (filled p.well) q) (p.rows - rows_removed (filled p.well) q) left rest ≡ true
    → Tiling (all_but (difference E (sent_cells rows q))) 8 (supply_at (left + 1) rest)
good-left game p q left rest rows E spread free below good =
    search (rules, good-tiled, locked-low, low-position, tiled-left, full_rows_may_stand)

-- so no walls stand in what it leaves
pub walled-bad : (game : Game) (p : Position) (q : Placement) (left rest : ℕ) (rows : List ℕ) (E : Field) → IsSpread (filled p.well) p.rows rows E → is_free (filled p.well) q ≡ true → is_below p.rows q ≡ true
    → ((supply : Supply) → Tiling (all_but (difference E (sent_cells rows q))) 8 supply → ⊥)
    → is_good game (locked (filled p.well) q) (p.rows - rows_removed (filled p.well) q) left rest ≡ false
walled-bad game p q left rest rows E spread free below none =
    false_from_ne_true _ (λ good. none (supply_at (left + 1) rest) (good-left game p q left rest rows E spread free below good))

-- the same tilings by fewer pieces
pub fewer-listed : (E : Field) (supply more : Supply) (list : List ListedTiling) → ((piece : Piece) → supply piece ≤ more piece) → ListsOrdered E more list → ListsOrdered E supply list
fewer-listed E supply more list enough all = record {
  all = λ t can. all.all (record { parts = t.parts; generalized = t.generalized; covered = t.covered; supplied = λ piece. omega (arith, t.supplied piece, enough piece) }) can;
}

-- what holds of all marks holds of the one at an index
pub marked_at : (P : Mark → Type 0) (known : List Mark) (index : ℕ) (counts : List ℕ) → All P known → (k : HasMarkAt known index counts) → P k.mark
marked_at P known index counts all k = search (rules, slice_get_within, get_or_from_slice_get)

-- ---- listed tilings

-- a mark of all tilings lists those by which any hand is built
pub true-lists : (E : Field) (drops : Bool) (hold : Hold) (left hand : ℕ) (mark : Mark) → IsSmall 8 E → IsTrueMark E mark → ListsHand E drops hold left hand mark
unfolding supply_at supply_by
true-lists E drops hold left hand mark small is = record {
  each = λ counts built none. is.each (λ lists.
      none ((fewer-listed E (supply_at (suc left) hand) (supply_by mark.counts) mark.tilings.tilings.items
      (λ piece. let same = counts.each (piece_code piece) (let code = piece_code-small piece in omega arith) in
      let one : left + 1 ≡ suc left = omega arith in omega (arith, same, ap (λ n. codes_in n hand (piece_code piece)) one)) lists).all built.tiling
      (built-can-go E drops (map laid_part built.tiling.parts) small built.built)));
}

-- a place of a rest is the first of the parts of a tiling by which a hand is built
pub rest-built : (marks : Marks) (q : Placement) (left rest : ℕ) → IsPlace (table_of marks.game.rules) (filled marks.position.well) marks.game.drop_mode q → is_below marks.position.rows q ≡ true
    → (at : IsRestAt marks q.piece left rest) → (later : IsBuiltBy (difference (empty_cells marks.cells) (sent_cells marks.rows q)) marks.drops marks.game.hold left rest)
    → IsRest (suc left) at.hand (piece_code q.piece) rest
    × BuiltFirst (empty_cells marks.cells) marks.drops marks.game.hold (suc left) at.hand (sent_part marks.rows q) later.tiling.parts
rest-built marks q left rest place below at later =
    let p = marks.position in
    let way = taken-rest marks.game.hold left (piece_code q.piece) at.hand (λ other. other == rest) at.taken in
    let same : way.0 ≡ rest = eqb-true way.0 rest way.1 in
    let is : IsRest (suc left) at.hand (piece_code q.piece) rest = subst (λ r. IsRest (suc left) at.hand (piece_code q.piece) r) same way.2 in (
      is,
      place-built marks.game marks.drops (filled p.well) p.rows left at.hand rest marks.rows (empty_cells marks.cells) q marks.hard p.few (low-position p) p.open_rows (cells_small marks.cells) marks.spread place below is
          (subst (λ r. (goes_on : ℕ → Bool) → goes_on r ≡ true → takes marks.game.hold (piece_code q.piece) goes_on at.hand ≡ true) same way.3) later,
    )

-- so the listed tilings of the hand's mark have the place and what builds the rest
pub rest-listed : (marks : Marks) (q : Placement) (left rest : ℕ) (mark : Mark) → IsPlace (table_of marks.game.rules) (filled marks.position.well) marks.game.drop_mode q → is_below marks.position.rows q ≡ true
    → (at : IsRestAt marks q.piece left rest) → AreCountsWith q.piece left rest mark.counts → ListsHand (empty_cells marks.cells) marks.drops marks.game.hold (suc left) at.hand mark
    → (later : IsBuiltBy (difference (empty_cells marks.cells) (sent_cells marks.rows q)) marks.drops marks.game.hold left rest)
    → (HasParts mark.tilings.tilings.items (sent_part marks.rows q ∷ later.tiling.parts) → ⊥) → ⊥
rest-listed marks q left rest mark place below at are lists later none =
    let first = rest-built marks q left rest place below at later in
    lists.each (rest-counts left at.hand rest q.piece mark.counts first.0 are) first.1.built (λ has. none (subst (HasParts mark.tilings.tilings.items) first.1.parts_are has))

-- what a place leaves is built by a rest that is good after it
good-after-built : (marks : Marks) (q : Placement) (left rest : ℕ) → is_free (filled marks.position.well) q ≡ true → is_below marks.position.rows q ≡ true
    → is_good marks.game (locked (filled marks.position.well) q) (marks.position.rows - rows_removed (filled marks.position.well) q) left rest ≡ true
    → IsBuiltBy (difference (empty_cells marks.cells) (sent_cells marks.rows q)) marks.drops marks.game.hold left rest
good-after-built marks q left rest free below good =
    let p = marks.position in
    let E : Field = empty_cells marks.cells in
    let next = after (filled p.well) p.rows E marks.rows q p.few (low-position p) (cells_small marks.cells) marks.spread free below in
    good-built marks.game marks.drops (locked (filled p.well) q) (p.rows - rows_removed (filled p.well) q) left rest next.kept (difference E (sent_cells marks.rows q)) marks.hard
    (omega (arith, p.few)) (locked-low (filled p.well) p.rows q (low-position p) below free) next.opens (less-small E (sent_cells marks.rows q) (cells_small marks.cells)) next.spread good

mark-counts : (known : List Mark) (piece : Piece) (left rest index : ℕ) (k : IsMarkOf known piece left rest index) → AreCountsWith piece left rest k.there.mark.counts
mark-counts known piece left rest index k = subst (AreCountsWith piece left rest) (sym k.there.same) k.are

-- where the mark of a rest doesn't have it, the rest isn't good
pub bad-placed : (marks : Marks) (q : Placement) (left rest index standing : ℕ) → IsPlace (table_of marks.game.rules) (filled marks.position.well) marks.game.drop_mode q → is_below marks.position.rows q ≡ true
    → IsRestAt marks q.piece left rest → IsMarkOf marks.known.items q.piece left rest index → IsStanding marks.known.items marks.rows q standing → has_bit standing index ≡ false
    → is_good marks.game (locked (filled marks.position.well) q) (marks.position.rows - rows_removed (filled marks.position.well) q) left rest ≡ false
bad-placed marks q left rest index standing place below at k stands unset =
    let mark = k.there.mark in
    let free = place-free (table_of marks.game.rules) (filled marks.position.well) marks.game.drop_mode q place in
    false_from_ne_true _ (λ good.
    let later = good-after-built marks q left rest free below good in
    rest-listed marks q left rest mark place below at (mark-counts marks.known.items q.piece left rest index k)
    (marked_at (ListsHand (empty_cells marks.cells) marks.drops marks.game.hold (suc left) at.hand) marks.known.items index k.counts at.lists k.there) later
    (λ has. stands.none index k.there.few unset mark k.there.there
    (subst (SomeHas mark.tilings.tilings.items) (laid-sent marks.rows q)
    (record { tiling = has.tiling; listed = has.listed; has = All-head (λ part. HasPiece has.tiling (laid_part part)) (sent_part marks.rows q) later.tiling.parts has.all }))))

pub bad-stand : (marks : Marks) (child : Child) (piece : Piece) (left rest index : ℕ) → IsChild marks.game marks.position piece child → IsRestAt marks piece left rest
    → IsMarkOf marks.known.items piece left rest index → IsStanding marks.known.items marks.rows child.placement child.standing → has_bit child.standing index ≡ false
    → is_good marks.game (filled child.position.well) child.position.rows left rest ≡ false
bad-stand marks child piece left rest index is at k stands unset =
    (λ i. is_good marks.game (is.field i) (is.left i) left rest)
    ∙ bad-placed marks child.placement left rest index child.standing is.place is.below (subst (λ piece. IsRestAt marks piece left rest) (sym is.kind) at)
    (subst (λ piece. IsMarkOf marks.known.items piece left rest index) (sym is.kind) k) stands unset

-- the tilings of a mark that have the placed piece list those by which a rest with its pieces is built
pub mark-listed : (marks : Marks) (child : Child) (left rest other index : ℕ) (taken : Field) (old new : Mark) → IsChild marks.game marks.position child.placement.piece child
    → IsMarkOf marks.known.items child.placement.piece left other index → slice_get marks.known.items index ≡ Some old
    → taken ≡ sent_cells marks.rows child.placement
    → ((code : ℕ) → code < 8 → get_or new.counts code 0 ≡ codes_in (left + 1) other code)
    → ((tiling : ListedTiling) → Contains new.tilings.tilings.items tiling ↔ (Contains old.tilings.tilings.items tiling × HasPiece tiling (record { piece = child.placement.piece; cells = taken })))
    → IsRestAt marks child.placement.piece left rest
    → ListsHand (difference (empty_cells marks.cells) (sent_cells marks.rows child.placement)) marks.drops marks.game.hold left rest new
mark-listed marks child left rest other index taken old new is k there same counts both at =
    let mark = k.there.mark in
    let q = child.placement in
    let part = sent_part marks.rows q in
    let one : mark ≡ old = some_same (sym k.there.there ∙ there) in
    record {
      each = λ has later none.
          rest-listed marks q left rest mark is.place is.below at
          (counts-alike left rest other q.piece mark.counts new.counts has counts (mark-counts marks.known.items q.piece left other index k))
          (marked_at (ListsHand (empty_cells marks.cells) marks.drops marks.game.hold (suc left) at.hand) marks.known.items index k.counts at.lists k.there) later
          (λ lists. none (record {
            tiling = lists.tiling;
            listed = (both lists.tiling).1 (
              subst (λ (mark : Mark). Contains mark.tilings.tilings.items lists.tiling) one lists.listed,
              subst (HasPiece lists.tiling) (laid-sent marks.rows q ∙ (λ i. record { piece = q.piece; cells = sym same i }))
                  (All-head (λ part. HasPiece lists.tiling (laid_part part)) part later.tiling.parts lists.all),
            );
            all = All-tail (λ part. HasPiece lists.tiling (laid_part part)) part later.tiling.parts lists.all;
          }));
    }

-- ---- in which marks a placement stands

-- all 64 bits are set
pub all_set : (k : ℕ) → k < 64 → has_bit 18446744073709551615 k ≡ true
unfolding has_bit
all_set k below = agree_below_at (λ k. has_bit 18446744073709551615 k) (λ k. true) 64 k refl below

-- each piece of the kind in a tiling of one of the first i marks that are wanted stands under the mark's index
pub record AreListed (known : List Mark) (wanted : ℕ) (listed : StandingPieces) (i : ℕ) : Type 0 where
  pub each : (k : ℕ) → k < i → has_bit wanted k ≡ true → (mark : Mark) → slice_get known k ≡ Some mark → (cells : Field)
      → SomeHas mark.tilings.tilings.items (record { piece = listed.piece; cells = cells }) → Stands listed.pieces.items cells k

-- the pieces of one mark more are added
pub listed-more : (known : List Mark) (wanted : ℕ) (before after : StandingPieces) (i : ℕ) (mark : Mark) → slice_get known i ≡ Some mark → after.piece ≡ before.piece
    → GrowsBy before.pieces.items after.pieces.items i (λ cells. SomeHas mark.tilings.tilings.items (record { piece = before.piece; cells = cells }))
    → AreListed known wanted before i → AreListed known wanted after (i + 1)
listed-more known wanted before after i mark at same grows state = record {
  each = λ k below set other there cells some.
      let has = subst (λ p. SomeHas other.tilings.tilings.items (record { piece = p; cells = cells })) same some in
      (grows.both cells k).1 (elim (cases_lt k i) as (λ _. Stands before.pieces.items cells k ⊎ ((k ≡ i) × SomeHas mark.tilings.tilings.items (record { piece = before.piece; cells = cells }))) [
        | inl earlier ↦ inl (state.each k earlier set other there cells has)
        | inr past ↦
            let here : k ≡ i = omega arith in
            let one : other ≡ mark = some_same (sym there ∙ ap (slice_get known) here ∙ at) in
            inr (here, subst (λ (m : Mark). SomeHas m.tilings.tilings.items (record { piece = before.piece; cells = cells })) one has)
      ]);
}

-- a mark that isn't wanted
pub listed-pass : (known : List Mark) (wanted : ℕ) (listed : StandingPieces) (i : ℕ) → has_bit wanted i ≡ false → AreListed known wanted listed i → AreListed known wanted listed (i + 1)
listed-pass known wanted listed i unset state = record {
  each = λ k below set mark there cells some. elim (cases_lt k i) [
    | inl before ↦ state.each k before set mark there cells some
    | inr past ↦
        let same : k ≡ i = omega arith in
        absurd (both_ways _ (ap (has_bit wanted) same ∙ unset) set)
  ];
}

-- the marks that aren't wanted are the others
pub listed-ends : (known : List Mark) (wanted : ℕ) (listed : StandingPieces) (others i : ℕ) → (length known ≤ i) ⊎ (64 ≤ i)
    → ((k : ℕ) → has_bit others k ≡ (has_bit 18446744073709551615 k && not (has_bit wanted k))) → AreListed known wanted listed i → AreStanding known (record { listed = listed; others = others })
listed-ends known wanted listed others i all less state = record {
  each = λ k low unset mark there cells some. state.each k (before k low (slice_get_within known k mark there) all) (set k low unset) mark there cells some;
}
  where
    before : (k : ℕ) → k < 64 → k < length known → (length known ≤ i) ⊎ (64 ≤ i) → k < i
    before k low within (inl all) = omega arith
    before k low within (inr all) = omega arith

    set : (k : ℕ) → k < 64 → has_bit others k ≡ false → has_bit wanted k ≡ true
    set k low unset = not-false (has_bit wanted k) (ap (λ b. b && not (has_bit wanted k)) (sym (all_set k low)) ∙ sym (less k) ∙ unset)

-- a placement stands in no tiling of the marks under whose indexes it isn't found
pub standing-found : (known : List Mark) (rows : List ℕ) (q : Placement) (pieces : WantedPieces) (lists : ℕ) (taken : Field) → taken ≡ sent_cells rows q → pieces.listed.piece ≡ q.piece
    → AreStanding known pieces → ((k : ℕ) → k < 64 → (has_bit lists k ≡ true) ↔ Stands pieces.listed.pieces.items taken k) → IsStanding known rows q (bit_or lists pieces.others)
standing-found known rows q pieces lists taken same kind all found = search (rules, or_parts, has_bit-or, both_ways)

-- ---- indexes of marks

-- an index for each of the first i rests
pub record AreIndexesBefore (known : List Mark) (piece : Piece) (left : ℕ) (rests : List ℕ) (indexes : List (Option ℕ)) (i : ℕ) : Type 0 where
  pub size : length indexes ≡ i
  pub each : (k : ℕ) → k < i → IfSome (get_or indexes k None) (IsMarkOf known piece left (get_or rests k 0))

pub indexes-start : (known : List Mark) (piece : Piece) (left : ℕ) (rests : List ℕ) (indexes : List (Option ℕ)) → indexes ≡ [] → AreIndexesBefore known piece left rests indexes 0
indexes-start known piece left rests indexes nil = record { size = ap length nil; each = λ k low. absurd (omega arith) }

-- a mark of the counts of a rest and a piece more
pub mark-with : (known : List Mark) (piece : Piece) (left rest : ℕ) (counts : List ℕ) (index : Option ℕ) → IfSome index (λ p. HasMarkAt known p counts)
    → AreCountsWith piece left rest counts → IfSome index (IsMarkOf known piece left rest)
mark-with known piece left rest counts None there are = there
mark-with known piece left rest counts (Some index) there are = record { counts = counts; there = there; are = are }

-- the mark at an index of which something is known
pub mark-there : (P Q : ℕ → Type 0) (index : Option ℕ) → IfSome index P → IsSomeAnd index Q → (known_index : ℕ) × P known_index × Q known_index
mark-there P Q index holds is = search rules

-- ---- marks that are wanted

-- a known index whose bit is set
abbrev pub IsSet : ℕ → Option ℕ → Type 0
IsSet wanted index = IsSomeAnd index (λ known_index. (known_index < 64) × (has_bit wanted known_index ≡ true))

-- so is each of the first i indexes
pub record AreSet (indexes : List (Option ℕ)) (wanted i : ℕ) : Type 0 where
  pub each : (k : ℕ) → k < i → IsSet wanted (get_or indexes k None)

pub set-starts : (indexes : List (Option ℕ)) (wanted : ℕ) → AreSet indexes wanted 0
set-starts indexes wanted = record { each = λ k low. absurd (omega arith) }

-- one bit more
pub set-more : (indexes : List (Option ℕ)) (wanted i index : ℕ) → AreSet indexes wanted i → get_or indexes i None ≡ Some index → index < 64 → AreSet indexes (bit_or wanted (1 * 2 ^ index % 2 ^ 64)) (i + 1)
set-more indexes wanted i index state here low = record { each = each }
  where
    kept : (o : Option ℕ) → IsSet wanted o → IsSet (bit_or wanted (1 * 2 ^ index % 2 ^ 64)) o
    kept None is = absurd is
    kept (Some j) is = (is.0, has_bit-or wanted (1 * 2 ^ index % 2 ^ 64) j ∙ ap (λ b. b || has_bit (1 * 2 ^ index % 2 ^ 64) j) is.1 ∙ true-or (has_bit (1 * 2 ^ index % 2 ^ 64) j))

    own : IsSet (bit_or wanted (1 * 2 ^ index % 2 ^ 64)) (Some index)
    own = (low, has_bit-or wanted (1 * 2 ^ index % 2 ^ 64) index ∙ ap (λ b. has_bit wanted index || b) (has_bit-one index index low ∙ eq-eqb index index refl) ∙ or-true (has_bit wanted index))

    each : (k : ℕ) → k < i + 1 → IsSet (bit_or wanted (1 * 2 ^ index % 2 ^ 64)) (get_or indexes k None)
    each k below = elim (cases_lt k i) [
      | inl before ↦ kept (get_or indexes k None) (state.each k before)
      | inr past ↦
          let same : k ≡ i = omega arith in
          subst (IsSet (bit_or wanted (1 * 2 ^ index % 2 ^ 64))) (sym here ∙ ap (λ n. get_or indexes n None) (sym same)) own
    ]

-- where the bits of all indexes are set, the mark of each rest is wanted
pub all-wanted : (known : List Mark) (piece : Piece) (left : ℕ) (rests : List ℕ) (indexes items : List (Option ℕ)) (wanted i : ℕ) → AreIndexes known piece left rests indexes → items ≡ indexes
    → AreSet items wanted i → length items ≤ i → (rest : ℕ) → has_number rests rest ≡ true → IsWanted known piece left rest wanted
all-wanted known piece left rests indexes items wanted i are same set all rest here =
    let at = number-at rests rest here in
    let bit : IsSet wanted (get_or indexes at.0 None) = subst (λ l. IsSet wanted (get_or l at.0 None)) same
    (set.each at.0 (let size = are.size in let long = ap length same in omega (arith, at.1, size, long, all))) in
    let mark = mark-there (IsMarkOf known piece left (get_or rests at.0 0)) (λ index. (index < 64) × (has_bit wanted index ≡ true)) (get_or indexes at.0 None) (are.each at.0 at.1) bit in
    subst (λ r. IsWanted known piece left r wanted) at.2 (record { index = mark.0; mark = mark.1; set = mark.2.1 })

-- a placement that stands in none of the marks that are wanted leaves no rest good
pub bad-wanted : (marks : Marks) (q : Placement) (left rest wanted standing : ℕ) → IsPlace (table_of marks.game.rules) (filled marks.position.well) marks.game.drop_mode q → is_below marks.position.rows q ≡ true
    → IsRestAt marks q.piece left rest → IsWanted marks.known.items q.piece left rest wanted
    → IsStanding marks.known.items marks.rows q standing → bit_and standing wanted ≡ 0
    → is_good marks.game (locked (filled marks.position.well) q) (marks.position.rows - rows_removed (filled marks.position.well) q) left rest ≡ false
bad-wanted marks q left rest wanted standing place below at is stands none =
    bad-placed marks q left rest is.index standing place below at is.mark stands
    (sym (and-true (has_bit standing is.index)) ∙ ap (λ b. has_bit standing is.index && b) (sym is.set) ∙ sym (has_bit-and standing wanted is.index) ∙ ap (λ n. has_bit n is.index) none ∙ has_bit-zero is.index)
