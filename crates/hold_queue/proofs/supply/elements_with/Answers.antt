-- The goals of `elements_with` that need lemmas.
use Rattle.std.proofs.Common.{◌≡◌, ◌∙◌, ◌+◌, ◌-◌, ◌==◌, Bool, ap, cond, rules}
use mir.Val.{bool_byte}
use Rattle.std.specs.Int.{bit_at}
use Rattle.srs.specs.Piece.{piece_code}
use Rattle.queue_pattern.specs.declared.element.Element.{Element}
use Rattle.queue_pattern.specs.Pattern.{elements_of}
use Rattle.hold_queue.proofs.SupplyLemmas.{count-more}
use Rattle.hold_queue.proofs.supply.elements_with.Goals as goal

byte_is : (b : Bool) → bool_byte b ≡ cond b 1 0
byte_is b = search rules

pub loop-index-preserved : goal.loop-index-preserved
loop-index-preserved c =
    ap (λ n. c.loop-index.count + n) (c.from-count.ensures ∙ byte_is c.has.result ∙ ap (λ b. cond b 1 0) c.has.ensures)
    ∙ count-more (λ (element : Element). bit_at element.set (piece_code c.args.piece - 1) == 1) (elements_of c.args.pattern.now) c.loop-index.index c.element.result
    c.loop-index.count c.element.ensures c.loop-index.invariant
