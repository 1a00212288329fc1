-- The goals of `nth` that need lemmas.
use Rattle.std.proofs.Common.{◌+◌, ◌∙◌, sym, ap, drop, rules}
use Rattle.std.specs.List.{slice_get}
use Rattle.srs.specs.declared.piece.Piece.TheVariants.{I}
use Rattle.srs.specs.Piece.{all_pieces}
use Rattle.queue_pattern.proofs.SetLemmas.{members, pieces_in-members, first_member, later_member, members-out, none_left}
use Rattle.queue_pattern.proofs.sets.nth.Goals as goal
use Rattle.queue_pattern.proofs.sets.nth.Goals.{then-is_in+else-left-eq0, else-is_in}

pub loop-piece-init : goal.loop-piece-init
loop-piece-init c = ap (λ pieces. slice_get pieces c.args.number) (pieces_in-members c.args.set)

pub returns-then-left-eq0 : goal.returns-then-left-eq0
returns-then-left-eq0 c =
    c.loop-piece.invariant ∙ ap (slice_get (members c.args.set (drop c.loop-piece.piece-index all_pieces))) c.if-left-eq0.true
    ∙ first_member c.args.set all_pieces c.loop-piece.piece-index _ c.loop-piece-test.true (sym c.if-is_in.ensures)

pub loop-piece-preserved : goal.loop-piece-preserved
loop-piece-preserved c = elim c.if-is_in.branch [
  | then-is_in+else-left-eq0 w ↦ c.loop-piece.invariant
      ∙ later_member c.args.set all_pieces c.loop-piece.piece-index c.loop-piece.left I c.loop-piece-test.true (sym w.if-is_in.ensures) w.if-left-eq0.false
      ∙ ap (slice_get (members c.args.set (drop (c.loop-piece.piece-index + 1) all_pieces))) (sym w.left-is)
  | else-is_in w ↦ c.loop-piece.invariant
      ∙ ap (λ pieces. slice_get pieces c.loop-piece.left) (members-out c.args.set all_pieces c.loop-piece.piece-index I c.loop-piece-test.true (sym w.if-is_in.ensures))
      ∙ ap (slice_get (members c.args.set (drop (c.loop-piece.piece-index + 1) all_pieces))) (sym w.left-is)
]

pub unreachable-requires : goal.unreachable-requires
unreachable-requires c = search (rules, none_left)
