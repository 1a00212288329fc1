-- It stands in no tiling of the marks that are wanted, or walls show that what it leaves has none.
use Rattle.std.proofs.Common.{◌≡◌, ℕ, ◌==◌, true, bit_and, subst}
use Rattle.std.specs.Prelude.{Option, IfSome}
use Rattle.std.proofs.lemmas.Bool.{eqb-true, not-false}
use Rattle.lane_board.specs.Field.{Field, difference}
use Rattle.srs.specs.Rules.{table_of}
use Rattle.well.specs.Well.{filled}
use Rattle.moves.proofs.CallerLemmas.{place-free}
use Rattle.hands.specs.Numbers.{has_number}
use Rattle.prune.specs.Tiling.{Supply, Tiling}
use Rattle.empty_cells.specs.Empties.{all_but, empty_cells}
use Rattle.percent.specs.Wanted.{IsWanted}
use Rattle.percent.proofs.MarkLemmas.{bad-wanted, walled-bad}
use Rattle.percent.proofs.marks.Marks.is_worth.Goals as goal

pub returns : goal.returns
returns c = λ no rest here.
    let marks = c.args.self.now in
    let q = c.args.placement.now in
    let wanted = subst (λ (o : Option ℕ). IfSome o (λ wanted. (rest : ℕ) → has_number c.args.asked.now.hands.items rest ≡ true → IsWanted marks.known.items q.piece c.args.asked.now.left rest wanted)) c.in-Some.is c.requires.wanted in
    bad-wanted marks q c.args.asked.now.left rest c.in-Some.wanted c.args.standing c.requires.place c.requires.below (c.requires.rests.each rest here) (wanted rest here) c.requires.standing
    (eqb-true (bit_and c.args.standing c.in-Some.wanted) 0 (not-false (bit_and c.args.standing c.in-Some.wanted == 0) no))

pub returns-in_default : goal.returns-in_default
returns-in_default c = λ no rest here.
    let marks = c.args.self.now in
    let q = c.args.placement.now in
    walled-bad marks.game marks.position q c.args.asked.now.left rest marks.rows (empty_cells marks.cells) marks.spread
    (place-free (table_of marks.game.rules) (filled marks.position.well) marks.game.drop_mode q c.requires.place) c.requires.below
    (subst (λ (E : Field). (supply : Supply) → Tiling (all_but (difference (empty_cells marks.cells) E)) 8 supply → ⊥) c.requires.taken (c.leaves_uneven_part.ensures (not-false c.leaves_uneven_part.result no)))
