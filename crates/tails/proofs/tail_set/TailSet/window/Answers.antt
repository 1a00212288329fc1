use Rattle.std.proofs.Common.{◌+◌, ◌-◌, ◌/◌, bit_and, ◌∙◌, ap, arith}
use Rattle.lane_board.specs.Lanes.{has_bit}
use Rattle.tails.specs.Blocks.{have_parts}
use Rattle.tails.specs.Takings.{runs_to}
use Rattle.tails.proofs.SentSteps.{word-fits}
use Rattle.tails.proofs.WindowSteps.{AreAt, IsRun, window-before, window-far, window-one, window-past, window-two}
use Rattle.tails.proofs.tail_set.TailSet.window.Goals as goal
use Rattle.tails.proofs.tail_set.TailSet.window.Goals.{After-from-count, then-shift-gt0, else-shift-gt0}

run : (c : After-from-count) → IsRun c.args.taking.now c.from-first.result c.from-count.result
run c = record { taken = c.requires; first_is = c.from-first.ensures; count_is = c.from-count.ensures }

pub returns-then-before-gt63 : goal.returns-then-before-gt63
unfolding runs_to
returns-then-before-gt63 c = λ k.
    window-far c.args.self.now c.args.taking.now c.args.place c.from-first.result c.from-count.result (run (goal.at.returns-then-before-gt63 c).After-from-count) k
    c.if-place-first.true c.if-before-gt63.true

pub returns-then-place-first : goal.returns-then-place-first
unfolding runs_to
returns-then-place-first c = λ k.
    let key = c.args.taking.now.base / 64 in
    let at : AreAt c.args.self.now key c.bits_at.result = record {
      word = word-fits c.bits_at.result c.bits_at.type_inv;
      bits_are = λ bit. c.bits_at.ensures bit ∙ ap (λ l. have_parts l key bit) c.as_slice-blocks.ensures.value;
    } in
    window-before c.args.self.now c.args.taking.now c.args.place c.from-first.result c.from-count.result (run (goal.at.returns-then-place-first c).After-from-count)
    c.bits_at.result c.bits_below.result c.bits_up.result at c.if-place-first.true c.bits_below.ensures c.bits_up.ensures k

pub returns-then-count-behind : goal.returns-then-count-behind
unfolding runs_to
returns-then-count-behind c = λ k.
    window-past c.args.self.now c.args.taking.now c.args.place c.from-first.result c.from-count.result (run (goal.at.returns-then-count-behind c).After-from-count) k
    c.if-place-first.false c.if-count-behind.true

pub returns : goal.returns
unfolding runs_to
returns c = λ k.
    let behind = c.args.place - c.from-first.result in
    let key = c.args.taking.now.base / 64 + behind / 64 in
    let at : AreAt c.args.self.now key c.bits_at-2.result = record {
      word = word-fits c.bits_at-2.result c.bits_at-2.type_inv;
      bits_are = λ bit. c.bits_at-2.ensures bit ∙ ap (λ l. have_parts l key bit) c.as_slice-blocks.ensures.value;
    } in
    elim c.if-shift-gt0.branch [
      | then-shift-gt0 w ↦
          let next : AreAt c.args.self.now (key + 1) w.bits_at-then-shift-gt0.result = record {
            word = word-fits w.bits_at-then-shift-gt0.result w.bits_at-then-shift-gt0.type_inv;
            bits_are = λ bit. w.bits_at-then-shift-gt0.ensures bit ∙ ap (λ l. have_parts l (key + 1) bit) c.as_slice-blocks.ensures.value;
          } in
          ap (λ n. has_bit (bit_and n c.bits_below-2.result) k) w.found-is
          ∙ window-two c.args.self.now c.args.taking.now c.args.place c.from-first.result c.from-count.result (run (goal.at.returns c).After-from-count)
          c.bits_at-2.result c.bits_down-low.result w.bits_at-then-shift-gt0.result w.bits_up-then-shift-gt0.result w.bits_of_either-found.result c.bits_below-2.result at next
          c.if-place-first.false w.if-shift-gt0.true c.bits_down-low.ensures w.bits_up-then-shift-gt0.ensures w.bits_of_either-found.ensures c.bits_below-2.ensures k
      | else-shift-gt0 w ↦
          ap (λ n. has_bit (bit_and n c.bits_below-2.result) k) w.found-is
          ∙ window-one c.args.self.now c.args.taking.now c.args.place c.from-first.result c.from-count.result (run (goal.at.returns c).After-from-count)
          c.bits_at-2.result c.bits_down-low.result c.bits_below-2.result at
          c.if-place-first.false (omega (arith, w.if-shift-gt0.false)) c.bits_down-low.ensures c.bits_below-2.ensures k
    ]
