-- One more piece.
use Rattle.std.proofs.Common.{◌≡◌, ℕ, ◌*◌, ◌%◌, ◌^◌, ◌<◌, bit_or, length, slice_index, sym, ap, subst, ◌∙◌, arith}
use Rattle.std.proofs.lemmas.Nat.{one_shl}
use Rattle.std.proofs.lemmas.List.{length-set}
use Rattle.empty_cells.specs.Empties.{cells_by_column}
use Rattle.tiled_pieces.specs.Orders.{Carries}
use Rattle.tiled_pieces.proofs.SetLemmas.{joined_below}
use Rattle.tiled_pieces.proofs.WalkLemmas.{carries_more, carries_none}
use Rattle.tiled_pieces.proofs.walk.carry.Goals as goal

joined : (set i : ℕ) → i < 9 → bit_or set (1 * 2 ^ i % 2 ^ 64) ≡ bit_or set (2 ^ i)
joined set i low = ap (bit_or set) (one_shl i 64 (omega (arith, low)))

within : (set i : ℕ) → set < 512 → i < 9 → bit_or set (1 * 2 ^ i % 2 ^ 64) < 512
within set i small low = subst (λ n. n < 512) (sym (joined set i low)) (joined_below set i 9 small low)

pub loop-index-init : goal.loop-index-init
loop-index-init c = (c.told-table, carries_none c.args.pieces.now c.args.left.now.drops c.args.allowed.now _ c.args.set (cells_by_column c.args.left.now.cells) c.args.number c.args.table.now 0 (λ i bit below carried. omega (arith, below)))

pub offset_bounds-table-set-in-loop-index : goal.offset_bounds-table-set-in-loop-index
offset_bounds-table-set-in-loop-index c = omega (arith, within c.args.set c.loop-index.index c.requires.set (omega (arith, c.requires.few, c.loop-index-test.true)))

pub bounds-table-set-in-loop-index : goal.bounds-table-set-in-loop-index
bounds-table-set-in-loop-index c = within c.args.set c.loop-index.index c.requires.set (omega (arith, c.requires.few, c.loop-index-test.true))

pub bounds-table-set-in-loop-index-2 : goal.bounds-table-set-in-loop-index-2
bounds-table-set-in-loop-index-2 c = within c.args.set c.loop-index.index c.requires.set (omega (arith, c.requires.few, c.loop-index-test.true))

pub loop-index-preserved : goal.loop-index-preserved
loop-index-preserved c =
    let low : c.loop-index.index < 9 = omega (arith, c.requires.few, c.loop-index-test.true) in
    let here : bit_or c.args.set (1 * 2 ^ c.loop-index.index % 2 ^ 64) < length c.loop-index.table =
    omega (arith, c.loop-index.invariant.0, within c.args.set c.loop-index.index c.requires.set low) in (
      length-set c.loop-index.table _ _ ∙ c.loop-index.invariant.0,
      carries_more c.args.pieces.now c.args.left.now.drops c.args.allowed.now (slice_index c.args.table.now c.args.set) c.args.set (cells_by_column c.args.left.now.cells) c.args.number c.args.table.now
          c.loop-index.table _ c.carried-bits.result c.loop-index.index (joined c.args.set c.loop-index.index low) here c.carried-bits.ensures c.loop-index.invariant.1,
    )

pub returns : goal.returns
returns c = subst (λ n. Carries c.args.pieces.now c.args.left.now.drops c.args.allowed.now (slice_index c.args.table.now c.args.set) c.args.set (cells_by_column c.args.left.now.cells) c.args.number c.args.table.now c.loop-index.table n)
    {x = c.loop-index.index} {y = length c.args.pieces.now} (omega (arith, c.loop-index.auto.index-end, c.loop-index-test.false)) c.loop-index.invariant.1
