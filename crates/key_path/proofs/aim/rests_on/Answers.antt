-- The canonical placements of a state and of its rest are turned alike and stand in one column.
use Rattle.std.proofs.Common.{ap, arith, rules}
use Rattle.srs.specs.Rotation.{rotation_index}
use Rattle.srs.proofs.CallerLemmas.{rotation_index-injective}
use Rattle.well.specs.Well.{filled}
use Rattle.well.proofs.CallerLemmas.{free_inside}
use Rattle.moves.specs.Rest.{rest_of}
use Rattle.moves.proofs.CallerLemmas.{rest_of-only, rest_of-is}
use Rattle.key_path.proofs.AimLemmas.{rest_below, elsewhere, by_rows}
use Rattle.key_path.proofs.aim.rests_on.Goals as goal
use Rattle.key_path.proofs.aim.rests_on.Goals.{then-index-via-then-index, then-index-via-else-index+then-above-aim}

pub canonical-above-requires : goal.canonical-above-requires
canonical-above-requires c = free_inside (filled c.args.well.now) c.args.state.now c.requires.free

pub returns-then-index : goal.returns-then-index
returns-then-index c =
    let F = filled c.args.well.now in
    let state = c.args.state.now in
    let above = c.canonical-above.ensures in
    elsewhere F c.args.aim.now c.canonical-above.result state c.requires.canonical (record { kind = above.piece; turn = above.rotation; pivot = above.pivot })
    (rest_below F state (rest_of F state) (rest_of-is F state c.requires.free))
    (λ turn column. elim c.then-index.branch [
      | then-index-via-then-index w ↦ let one = ap rotation_index turn in omega (arith, w.if-index.true, c.index.ensures, c.index-2.ensures, one)
      | then-index-via-else-index+then-above-aim w ↦ omega (arith, w.if-above-aim.true, column)
    ])

pub canonical-requires : goal.canonical-requires
canonical-requires c = free_inside (filled c.args.well.now) c.fall.result (rest_below (filled c.args.well.now) c.args.state.now c.fall.result c.fall.ensures).free

pub returns : goal.returns
returns c =
    search (rules, (by_rows (filled c.args.well.now) c.args.aim.now c.canonical-above.result c.args.state.now c.canonical.result c.fall.result c.requires.canonical c.requires.kind), (rest_of-only (filled c.args.well.now) c.args.state.now c.fall.result c.requires.free c.fall.ensures), (rest_below (filled c.args.well.now) c.args.state.now c.fall.result c.fall.ensures), (rotation_index-injective c.canonical-above.result.rotation c.args.aim.now.rotation))
