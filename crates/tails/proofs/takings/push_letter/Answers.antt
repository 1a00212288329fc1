use Rattle.std.proofs.Common.{◌≡◌, ◌≢◌, length, slice_index, sym, ap, ◌∙◌, arith}
use Rattle.srs.specs.Piece.{piece_code}
use Rattle.tails.specs.Numbers.{tail_number}
use Rattle.tails.proofs.TakingSteps.{both-counted, held-counted, letter-counted, pushed-both, pushed-held, pushed-letter, pushed-none}
use Rattle.tails.proofs.takings.push_letter.Goals as goal
use Rattle.tails.proofs.takings.push_letter.Goals.{then-held-code, else-held-code}

pub push-requires : goal.push-requires
push-requires c =
    (omega arith, omega (arith, c.requires.room, held-counted c.args.state.now c.args.first c.args.held c.args.code c.args.letter c.if-held-code.true))

pub push-requires-then-code : goal.push-requires-then-code
push-requires-then-code c =
    let letter_same : piece_code c.args.letter ≡ c.args.code = sym c.code-2.ensures ∙ c.if-code.true in (
      omega arith,
      elim c.if-held-code.branch [
        | then-held-code w ↦
            omega (
              arith,
              c.requires.room,
              ap (λ v. length v.items) w.takings-is,
              w.push.ensures.len,
              both-counted c.args.state.now c.args.first c.args.held c.args.code c.args.letter w.if-held-code.true letter_same,
            )
        | else-held-code w ↦
            omega (
              arith,
              c.requires.room,
              ap (λ v. length v.items) w.takings-is,
              letter-counted c.args.state.now c.args.first c.args.held c.args.code c.args.letter letter_same,
            )
      ],
    )

pub returns-then-code : goal.returns-then-code
returns-then-code c =
    let letter_same : piece_code c.args.letter ≡ c.args.code = sym c.code-2.ensures ∙ c.if-code.true in
    let other_is : c.tail_number-then-code.result ≡ tail_number (slice_index c.args.state.now.next (piece_code c.args.letter)) c.args.held 0 = cc in
    elim c.if-held-code.branch [
      | then-held-code w ↦
          let base_is : w.tail_number.result ≡ tail_number (slice_index c.args.state.now.next (piece_code c.args.letter)) (piece_code c.args.letter) 0 = cc in
          pushed-both c.args.state.now c.args.first c.args.held c.args.code c.args.letter c.args.takings.now.items c.if-held-code.takings.items c.push-then-code.new.self.items
          w.tail_number.result c.tail_number-then-code.result w.if-held-code.true letter_same base_is other_is
          (ap (λ v. v.items) w.takings-is ∙ w.push.ensures.items) c.push-then-code.ensures.items
      | else-held-code w ↦
          pushed-letter c.args.state.now c.args.first c.args.held c.args.code c.args.letter c.args.takings.now.items c.if-held-code.takings.items c.push-then-code.new.self.items
          c.tail_number-then-code.result w.if-held-code.false letter_same other_is (ap (λ v. v.items) w.takings-is) c.push-then-code.ensures.items
    ]

pub returns-else-code : goal.returns-else-code
returns-else-code c =
    let other : piece_code c.args.letter ≢ c.args.code = λ same. c.if-code.false (c.code-2.ensures ∙ same) in
    elim c.if-held-code.branch [
      | then-held-code w ↦
          let base_is : w.tail_number.result ≡ tail_number (slice_index c.args.state.now.next (piece_code c.args.letter)) (piece_code c.args.letter) 0 = cc in
          pushed-held c.args.state.now c.args.first c.args.held c.args.code c.args.letter c.args.takings.now.items c.args.takings.now.items c.if-held-code.takings.items
          w.tail_number.result w.if-held-code.true other base_is (ap (λ v. v.items) w.takings-is ∙ w.push.ensures.items)
      | else-held-code w ↦
          pushed-none c.args.state.now c.args.first c.args.held c.args.code c.args.letter c.args.takings.now.items c.args.takings.now.items c.if-held-code.takings.items
          w.if-held-code.false other (ap (λ v. v.items) w.takings-is)
    ]
