-- The goals of `Pattern::queue` that need lemmas.
use Rattle.std.proofs.Common.{◌≡◌, ◌+◌, ◌-◌, ◌/◌, ◌%◌, ◌∙◌, ◌∷◌, sym, subst, arith, take, drop, get_or, drop-cons, add-one, refl, rules}
use Rattle.std.proofs.lemmas.List.{drop_all}
use Rattle.queue_pattern.specs.declared.element.Element.{Element}
use Rattle.queue_pattern.specs.Pattern.{elements_of}
use Rattle.queue_pattern.proofs.QueueLemmas.{length-queues}
use Rattle.queue_pattern.proofs.Standing.{Between, Within, between_first, into_element, out_of_element, next_block, piece_taken, found}
use Rattle.queue_pattern.proofs.pattern.Pattern.queue.Goals as goal

pub elements-init : goal.elements-init
unfolding elements_of
elements-init c = search (rules, between_first, length-queues)

abbrev no_element : Element
no_element = record { set = 0; chosen = 0 }

pub pieces-init : goal.pieces-init
pieces-init c =
    let items = take c.args.self.now.number c.args.self.now.elements in
    let element = get_or items c.elements.element-index no_element in
    let rest = drop (c.elements.element-index + 1) items in
    let all = elements_of c.args.self.now in
    let split : drop c.elements.element-index items ≡ element ∷ rest = let within = c.elements-test.true in rw (add-one, drop-cons items c.elements.element-index no_element) refl in
    let so_far = subst (Between all c.args.index c.args.self.now.pieces c.elements.queue.items c.elements.left c.elements.block) split c.elements.invariant in
    subst (λ n. Within all c.args.index c.args.self.now.pieces c.elements.queue.items c.elements.left c.elements.block element.set n rest) (omega arith)
    (into_element all c.args.index c.args.self.now.pieces c.elements.queue.items c.elements.left c.elements.block element rest so_far)

pub nonzero_div-left : goal.nonzero_div-left
nonzero_div-left c =
    (next_block _ _ _ _ _ _ _ _ ((get_or (take c.args.self.now.number c.args.self.now.elements) c.elements.element-index no_element).chosen - (c.pieces.counter + 1)) c.from-block.result _ c.pieces.invariant (omega arith) (c.from-block.ensures ∙ c.size.ensures.number)).some

pub nth-piece-requires : goal.nth-piece-requires
nth-piece-requires c =
    (next_block _ _ _ _ _ _ _ _ ((get_or (take c.args.self.now.number c.args.self.now.elements) c.elements.element-index no_element).chosen - (c.pieces.counter + 1)) c.from-block.result _ c.pieces.invariant (omega arith) (c.from-block.ensures ∙ c.size.ensures.number)).within

pub nonzero_rem-left : goal.nonzero_rem-left
nonzero_rem-left c =
    (next_block _ _ _ _ _ _ _ _ ((get_or (take c.args.self.now.number c.args.self.now.elements) c.elements.element-index no_element).chosen - (c.pieces.counter + 1)) c.from-block.result _ c.pieces.invariant (omega arith) (c.from-block.ensures ∙ c.size.ensures.number)).some

pub pieces-preserved : goal.pieces-preserved
pieces-preserved c =
    let items = take c.args.self.now.number c.args.self.now.elements in
    let left_to_choose = (get_or items c.elements.element-index no_element).chosen - (c.pieces.counter + 1) in
    let rest = drop (c.elements.element-index + 1) items in
    let all = elements_of c.args.self.now in
    let block = c.pieces.block / c.from-block.result in
    subst (λ front. Within all c.args.index c.args.self.now.pieces front (c.pieces.left % block) block c.without-set.result left_to_choose rest) (sym c.push.ensures.items)
    (piece_taken all c.args.index c.args.self.now.pieces c.pieces.queue.items c.pieces.left c.pieces.block c.pieces.set _ left_to_choose c.from-block.result c.without-set.result rest c.nth-piece.result
    c.pieces.invariant (omega arith) (c.from-block.ensures ∙ c.size.ensures.number) c.nth-piece.ensures c.without-set.ensures.rest c.without-set.ensures.within)

pub elements-preserved : goal.elements-preserved
elements-preserved c = out_of_element _ _ _ _ _ _ _ _ _ (omega arith) c.pieces.invariant

pub returns : goal.returns
returns c = search (rules, drop_all, found)
