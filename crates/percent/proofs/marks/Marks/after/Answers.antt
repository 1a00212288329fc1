-- The rows that are kept are those of the position after the placement.
use Rattle.std.proofs.Common.{All, Bool, true, false, List, [], ◌∷◌, ◌++◌, ◌≡◌, ◌<◌, ◌-◌, ◌∙◌, ℕ, sym, ap, subst, arith}
use Rattle.std.specs.Prelude.{if◌then◌else◌}
use Rattle.std.proofs.lemmas.List.Elements.{All-nil, All-push}
use Rattle.lane_board.specs.Field.{Field, difference}
use Rattle.lane_board.specs.Lanes.{has_bit}
use Rattle.well.specs.Counts.{is_filled_row}
use Rattle.well.specs.Well.{filled}
use Rattle.well.specs.Lock.{rows_removed, together}
use Rattle.empty_cells.specs.Empties.{empty_cells}
use Rattle.empty_cells.specs.SentCells.{sent_cells}
use Rattle.empty_cells.proofs.CallerLemmas.{cells_small}
use Rattle.percent.specs.declared.marks.Mark.{Mark}
use Rattle.srs.specs.Rules.{table_of}
use Rattle.moves.proofs.CallerLemmas.{place-free}
use Rattle.percent.specs.ListedHands.{ListsHand}
use Rattle.percent.specs.Spread.{IsSpread}
use Rattle.percent.proofs.SpreadLemmas.{spread-after, spread-placed, stays-with}
use Rattle.percent.proofs.marks.Marks.after.Goals as goal
use Rattle.percent.proofs.marks.Marks.after.Goals.{in-Some+in-Err-1, in-Some+in-Ok-1, in_default}

-- a mark is added, or not
pushed : (Holds : Mark → Type 0) (known : List Mark) (mark : Mark) (is_added : Bool) → All Holds known → Holds mark → All Holds (if is_added then known ++ mark ∷ [] else known)
pushed Holds known mark true facts holds = All-push Holds known mark facts holds
pushed Holds known mark false facts holds = facts

pub taken-taken-requires-clause-free : goal.taken-taken-requires-clause-free
taken-taken-requires-clause-free c =
    let marks = c.args.self.now in
    place-free (table_of marks.game.rules) (filled marks.position.well) marks.game.drop_mode c.args.child.now.placement c.requires.child.place

pub loop-hand-init : goal.loop-hand-init
loop-hand-init c = λ rest there.
    let Holds : Mark → Type 0 = ListsHand (empty_cells c.without_cells-cells.result) c.args.self.now.drops c.args.self.now.game.hold c.args.left rest in
    subst (All Holds) (sym c.new-known.ensures.items) (All-nil Holds)

pub loop-hand-preserved : goal.loop-hand-preserved
loop-hand-preserved c = λ rest there.
    let marks = c.args.self.now in
    let E : Field = empty_cells c.without_cells-cells.result in
    let Holds : Field → Mark → Type 0 = λ E. ListsHand E marks.drops marks.game.hold c.args.left rest in
    let cells_are : E ≡ difference (empty_cells marks.cells) (sent_cells marks.rows c.args.child.now.placement) =
    c.without_cells-cells.ensures ∙ ap (difference (empty_cells marks.cells)) c.taken-taken.ensures in
    let at = c.requires.rests.each rest there in
    elim c.match-mark_after.branch [
      | in-Some+in-Err-1 w ↦ rw w.known-is
          (subst (All (Holds E)) (sym w.push.ensures.items)
          (pushed (Holds E) c.loop-hand.known.items w.in-Some.mark _ (c.loop-hand.invariant rest there) (subst (λ (D : Field). Holds D w.in-Some.mark) (sym cells_are) (w.in-Some.ensures rest at))))
      | in-Some+in-Ok-1 w ↦ rw w.known-is
          (subst (All (Holds E)) (sym w.push.ensures.items)
          (pushed (Holds E) c.loop-hand.known.items w.in-Some.mark _ (c.loop-hand.invariant rest there) (subst (λ (D : Field). Holds D w.in-Some.mark) (sym cells_are) (w.in-Some.ensures rest at))))
      | in_default w ↦ rw w.known-is (c.loop-hand.invariant rest there)
    ]

pub returns-clause-lists : goal.returns-clause-lists
returns-clause-lists c = record { each = c.loop-hand.invariant }

pub invariant_of-result : goal.invariant_of-result
invariant_of-result c =
    let marks = c.args.self.now in
    let p = marks.position in
    let F : Field = filled p.well in
    let E : Field = empty_cells marks.cells in
    let child = c.args.child.now in
    let q = child.placement in
    let is = c.requires.child in
    let free = place-free (table_of marks.game.rules) F marks.game.drop_mode q is.place in
    let kept = c.rows_among.result in
    let D : Field = difference E (sent_cells marks.rows q) in
    let cells_are : empty_cells c.without_cells-cells.result ≡ D = c.without_cells-cells.ensures ∙ ap (difference E) c.taken-taken.ensures in
    let has_row : (y : ℕ) → y < 8 → has_bit c.rows.result y ≡ is_filled_row D y =
    subst (λ (D : Field). (y : ℕ) → y < 8 → has_bit c.rows.result y ≡ is_filled_row D y) cells_are c.rows.ensures in
    let few = p.few in
    let keeps = c.rows_among.ensures.kept (together F q) (λ y low. stays-with (together F q) D p.rows c.rows.result marks.rows (spread-placed F p.rows marks.rows E marks.spread q free is.below) has_row y low (omega arith)) in
    let after = spread-after F p.rows marks.rows kept E q few p.below marks.spread free is.below keeps c.rows_among.ensures.within (cells_small marks.cells).column in
    record {
      spread = subst (λ (D : Field). IsSpread (filled child.position.well) child.position.rows kept D) (sym cells_are)
          (subst (λ n. IsSpread (filled child.position.well) n kept D) (sym is.left)
          (subst (λ (G : Field). IsSpread G (p.rows - rows_removed F q) kept D) (sym is.field) after));
      hard = marks.hard;
    }
