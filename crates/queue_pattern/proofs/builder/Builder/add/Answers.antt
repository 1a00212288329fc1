-- The goals of `Builder::add` that need lemmas.
use Rattle.std.proofs.Common.{◌+◌, ◌*◌, min, ◌∙◌, ap, arith}
use Rattle.queue_pattern.proofs.BuilderLemmas.{pieces_more, kept_more, kept_full, sound_more, count_more, number_more, number_full}
use Rattle.queue_pattern.proofs.builder.Builder.add.Goals as goal

pub returns-then-self-lt-MOST_PIECES : goal.returns-then-self-lt-MOST_PIECES
returns-then-self-lt-MOST_PIECES c = λ elements held. record {
  pieces = c.min-self.ensures ∙ ap (λ n. min n 23) c.saturating_add.ensures ∙ pieces_more c.args.self.now.pieces elements c.args.element held.pieces;
  count = c.min.ensures ∙ ap (λ n. min (n * c.choice_count.result) (c.from-2.result + 1)) c.from.ensures
      ∙ ap (λ n. min (c.args.self.now.count * c.choice_count.result) (n + 1)) c.from-2.ensures
      ∙ count_more c.args.self.now.count c.choice_count.result elements c.args.element held.count c.choice_count.ensures.some c.choice_count.ensures.value;
  number = number_more c.args.self.now.number elements c.args.element c.if-self-lt-MOST_PIECES.true held.number;
  kept = kept_more c.args.self.now.number c.args.self.now.elements elements c.args.element c.if-self-lt-MOST_PIECES.true (omega arith) held.number held.kept;
  sound = sound_more elements c.args.element held.sound c.requires;
}

pub returns-else-self-lt-MOST_PIECES : goal.returns-else-self-lt-MOST_PIECES
returns-else-self-lt-MOST_PIECES c = λ elements held. record {
  pieces = c.min-self.ensures ∙ ap (λ n. min n 23) c.saturating_add.ensures ∙ pieces_more c.args.self.now.pieces elements c.args.element held.pieces;
  count = c.min.ensures ∙ ap (λ n. min (n * c.choice_count.result) (c.from-2.result + 1)) c.from.ensures
      ∙ ap (λ n. min (c.args.self.now.count * c.choice_count.result) (n + 1)) c.from-2.ensures
      ∙ count_more c.args.self.now.count c.choice_count.result elements c.args.element held.count c.choice_count.ensures.some c.choice_count.ensures.value;
  number = number_full c.args.self.now.number elements c.args.element c.if-self-lt-MOST_PIECES.false held.number;
  kept = kept_full c.args.self.now.number c.args.self.now.elements elements c.args.element c.if-self-lt-MOST_PIECES.false held.number held.kept;
  sound = sound_more elements c.args.element held.sound c.requires;
}
