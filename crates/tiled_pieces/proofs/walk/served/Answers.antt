-- One more set, or eight at which no hand waits.
use Rattle.std.proofs.Common.{◌≡◌, ℕ, ◌*◌, ◌%◌, ◌^◌, ◌<◌, ◌≤◌, length, subst, arith}
use Rattle.std.proofs.Math.Pow.{pow_mono}
use Rattle.std.proofs.lemmas.Nat.{one_shl}
use Rattle.empty_cells.specs.Empties.{cells_by_column}
use Rattle.tiled_pieces.proofs.WalkSteps.{walk_end, walk_on, walk_past, walk_start}
use Rattle.tiled_pieces.proofs.walk.served.Goals as goal

-- each set of at most nine pieces is one of the table
set_known : (count set : ℕ) → count ≤ 9 → set < 1 * 2 ^ count % 2 ^ 64 → set < 512
set_known count set few below = omega (arith, below, one_shl count 64 (omega (arith, few)), pow_mono few)

pub waiting_from-next-requires : goal.waiting_from-next-requires
waiting_from-next-requires c = set_known (length c.args.pieces.now) c.loop-set.set c.requires.few c.loop-set-test.true

pub visit-found-requires-clause-set : goal.visit-found-requires-clause-set
visit-found-requires-clause-set c = set_known (length c.args.pieces.now) c.loop-set.set c.requires.few c.loop-set-test.true

pub loop-set-init : goal.loop-set-init
loop-set-init c = walk_start c.args.pieces.now c.args.drops c.args.allowed.now c.args.pending (cells_by_column c.args.cells)

pub loop-set-preserved-then-next-set : goal.loop-set-preserved-then-next-set
loop-set-preserved-then-next-set c =
    let sets : 1 * 2 ^ length c.args.pieces.now % 2 ^ 64 ≡ 2 ^ length c.args.pieces.now = one_shl (length c.args.pieces.now) 64 (omega (arith, c.requires.few)) in
    walk_on c.args.pieces.now c.args.drops c.args.allowed.now c.args.pending (cells_by_column c.args.cells) c.loop-set.table c.visit-found.new.table c.loop-set.found c.visit-found.result c.loop-set.set
    (subst (λ n. c.loop-set.set < n) sets c.loop-set-test.true) c.visit-found.ensures c.loop-set.invariant

pub loop-set-preserved : goal.loop-set-preserved
loop-set-preserved c = walk_past c.args.pieces.now c.args.drops c.args.allowed.now c.args.pending (cells_by_column c.args.cells) c.loop-set.table c.loop-set.found c.loop-set.set c.waiting_from-next.result
    c.waiting_from-next.ensures.none c.loop-set.invariant

pub returns : goal.returns
returns c = λ bit.
    let sets : 1 * 2 ^ length c.args.pieces.now % 2 ^ 64 ≡ 2 ^ length c.args.pieces.now = one_shl (length c.args.pieces.now) 64 (omega (arith, c.requires.few)) in
    walk_end c.args.pieces.now c.args.drops c.args.allowed.now c.args.pending (cells_by_column c.args.cells) c.loop-set.table c.loop-set.found c.loop-set.set bit
    (subst (λ n. n ≤ c.loop-set.set) sets c.loop-set-test.false) c.loop-set.invariant
