-- One test more; after the last no test is left.
use Rattle.std.proofs.Common.{◌≡◌, ◌+◌, ◌-◌, ◌∷◌, ℕ, drop, sym, ap, ◌∙◌, arith}
use Rattle.lane_board.specs.Board.{field_of}
use Rattle.srs.specs.Cells.{Cell}
use Rattle.srs.specs.Rules.{table_of}
use Rattle.srs.specs.Kick.{pair_of, kicks_of}
use Rattle.lane_board.proofs.CallerLemmas.{few_rows}
use Rattle.srs.proofs.CallerLemmas.{table_of-small}
use Rattle.moves.proofs.CallerLemmas.{kick_is_short}
use Rattle.whole_flood.specs.Kicks.{turned_from}
use Rattle.whole_flood.proofs.KickLemmas.{kicks_from, turned_step}
use Rattle.whole_flood.proofs.turn.turned.Goals as goal

pub loop-test-init : goal.loop-test-init
loop-test-init g c = ap (turned_from (field_of c.args.free.now) g.row.N (kicks_of (table_of c.args.rules.now) c.args.piece c.args.from c.args.to) (field_of c.args.pivots.now)) c.empty-reached.ensures

pub loop-test-preserved : goal.loop-test-preserved
loop-test-preserved g c =
    let table = table_of c.args.rules.now in
    let kicks = kicks_of table c.args.piece c.args.from c.args.to in
    let test = c.loop-test.test in
    let due = kicks_from table c.args.piece c.args.from c.args.to test c.loop-test.auto.test (omega arith) ∙ ap (λ (move : Cell). move ∷ drop test kicks) (sym c.kick-offset.ensures) in
    let same : test + 1 - 1 ≡ test = omega arith in
    ap (λ (n : ℕ). turned_from (field_of c.args.free.now) g.row.N (drop n kicks) (field_of c.left_by-left.result) (field_of c.or-reached.result)) same
    ∙ turned_step (field_of c.args.free.now) g.row.N (drop (test - 1) kicks) (drop test kicks) (pair_of c.kick-offset.result)
    (field_of c.loop-test.left) (field_of c.loop-test.reached) (field_of c.kicked_to-hits.result) (field_of c.left_by-left.result) (field_of c.or-reached.result) _
    due c.kicked_to-hits.ensures c.or-reached.ensures c.left_by-left.ensures c.loop-test.invariant

pub returns : goal.returns
unfolding turned_from
returns g c =
    let kicks = kicks_of (table_of c.args.rules.now) c.args.piece c.args.from c.args.to in
    let last : c.loop-test.test - 1 ≡ 5 = omega arith in
    ap (λ (n : ℕ). turned_from (field_of c.args.free.now) g.row.N (drop n kicks) (field_of c.loop-test.left) (field_of c.loop-test.reached)) (sym last) ∙ c.loop-test.invariant

pub kicked_to-hits-requires : goal.kicked_to-hits-requires
kicked_to-hits-requires g c =
    let few = few_rows g.row.N c.args.free.now.lane_count in
    (omega (arith, few), kick_is_short (table_of c.args.rules.now) _ _ _ _ _ (table_of-small c.args.rules.now) (omega arith) (omega arith) c.kick-offset.ensures)

pub left_by-left-requires : goal.left_by-left-requires
left_by-left-requires g c =
    let few = few_rows g.row.N c.args.free.now.lane_count in
    (omega (arith, few), kick_is_short (table_of c.args.rules.now) _ _ _ _ _ (table_of-small c.args.rules.now) (omega arith) (omega arith) c.kick-offset.ensures)
