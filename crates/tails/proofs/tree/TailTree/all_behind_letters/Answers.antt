-- The tails behind one letter after the other are a run.
use Rattle.std.proofs.Common.{◌≡◌, ◌+◌, ◌∙◌, ap, get_or, slice_index, subst, sym, arith}
use Rattle.srs.specs.declared.piece.Piece.TheVariants.{I}
use Rattle.srs.specs.Piece.{all_pieces}
use Rattle.srs.proofs.CallerLemmas.{piece_code-small}
use Rattle.tails.specs.declared.tail_set.TailSet.{TailSet}
use Rattle.tails.specs.TailSets.{has}
use Rattle.tails.proofs.AllSteps.{AreBehind, behind-all, behind-more, behind-passed, first-is, next-small, run-begins, run-fits, run-is}
use Rattle.tails.proofs.LetterLemmas.{next_of}
use Rattle.tails.proofs.tree.TailTree.all_behind_letters.Goals as goal
use Rattle.tails.proofs.tree.TailTree.all_behind_letters.Goals.{then-is_in+in_ok-run+in_ok-all, else-is_in}

pub run-requires-clause-begins : goal.run-requires-clause-begins
run-requires-clause-begins c = run-begins c.tail_number.result _ _ c.tail_number.ensures

pub run-requires-clause-fits : goal.run-requires-clause-fits
run-requires-clause-fits c =
    let first = first-is c.args.self.now c.args.state c.requires.hold c.requires.state c.requires.draws in
    let letter = get_or all_pieces c.loop-letter.letter-index I in
    let number : slice_index c.args.state.next c.from.result ≡ next_of c.args.state letter = ap (λ n. slice_index c.args.state.next n) (c.from.ensures ∙ c.code.ensures) in
    let small = next-small c.args.self.now c.args.state letter first (sym c.is_in.ensures ∙ c.if-is_in.true) in
    run-fits c.tail_number.result (slice_index c.args.state.next c.from.result) c.code-then-is_in.result c.tail_number.ensures (omega (arith, number, small))
    (omega (arith, c.code-then-is_in.ensures, piece_code-small letter))

pub loop-letter-preserved : goal.loop-letter-preserved
loop-letter-preserved c =
    let first = first-is c.args.self.now c.args.state c.requires.hold c.requires.state c.requires.draws in
    elim c.if-is_in.branch [
      | then-is_in+in_ok-run+in_ok-all w ↦
          subst (λ (found : TailSet). AreBehind c.args.self.now c.args.state (has found) (c.loop-letter.letter-index + 1)) (sym w.all-is)
          (behind-more c.args.self.now c.args.state (has c.loop-letter.all) (has w.in_ok-run.run') (has w.in_ok-all.all) c.loop-letter.letter-index
          (slice_index c.args.state.next w.from.result) w.code-then-is_in.result c.loop-letter-test.true first (sym c.is_in.ensures ∙ w.if-is_in.true)
          (ap (λ n. slice_index c.args.state.next n) (w.from.ensures ∙ w.code.ensures)) w.code-then-is_in.ensures
          (run-is (has w.in_ok-run.run') w.tail_number.result c.args.state.each (slice_index c.args.state.next w.from.result) w.code-then-is_in.result w.tail_number.ensures w.in_ok-run.ensures)
          w.in_ok-all.ensures c.loop-letter.invariant)
      | else-is_in w ↦
          subst (λ (found : TailSet). AreBehind c.args.self.now c.args.state (has found) (c.loop-letter.letter-index + 1)) (sym w.all-is)
          (behind-passed c.args.self.now c.args.state (has c.loop-letter.all) c.loop-letter.letter-index c.loop-letter-test.true (sym c.is_in.ensures ∙ w.if-is_in.false) c.loop-letter.invariant)
    ]

pub returns-clause-all : goal.returns-clause-all
returns-clause-all c =
    (behind-all c.args.self.now c.args.state (has c.loop-letter.all) c.loop-letter.letter-index (omega arith)
    (first-is c.args.self.now c.args.state c.requires.hold c.requires.state c.requires.draws) c.loop-letter.invariant).all

pub returns-clause-only : goal.returns-clause-only
returns-clause-only c =
    (behind-all c.args.self.now c.args.state (has c.loop-letter.all) c.loop-letter.letter-index (omega arith)
    (first-is c.args.self.now c.args.state c.requires.hold c.requires.state c.requires.draws) c.loop-letter.invariant).only
