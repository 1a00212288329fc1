-- The goals of `Pattern::cut` that need lemmas.
use Rattle.std.proofs.Common.{◌≡◌, ◌+◌, ◌-◌, ◌∷◌, ◌∙◌, refl, sym, subst, arith, take, drop, get_or, drop-cons, add-one}
use Rattle.std.proofs.lemmas.List.{drop_all}
use Rattle.srs.proofs.CallerLemmas.{list_all_each}
use Rattle.queue_pattern.specs.declared.builder.Builder.{Builder}
use Rattle.queue_pattern.specs.declared.element.Element.{Element}
use Rattle.queue_pattern.specs.Cut.{cut}
use Rattle.queue_pattern.specs.Pattern.{elements_of}
use Rattle.queue_pattern.specs.Sound.{is_sound}
use Rattle.queue_pattern.proofs.CutLemmas.{IsCutSoFar, cut_added, cut_done, cut_first, cut_left, limited-cut, sound-cut}
use Rattle.queue_pattern.proofs.pattern.Pattern.cut.Goals as goal
use Rattle.queue_pattern.proofs.pattern.Pattern.cut.Goals.{then-chosen-gt0, else-chosen-gt0}

abbrev no_element : Element
no_element = record { set = 0; chosen = 0 }

pub elements-init : goal.elements-init
unfolding elements_of
elements-init c = cut_first (elements_of c.args.self.now) c.args.pieces c.new-builder.result c.new-builder.ensures

pub add-requires : goal.add-requires
add-requires c =
    let items = take c.args.self.now.number c.args.self.now.elements in
    let element = get_or items c.elements.element-index no_element in
    sound-cut element c.min-chosen.result (list_all_each is_sound items c.elements.element-index no_element c.args.self.now.sound c.elements-test.true)
    c.if-chosen-gt0.true (omega (arith, c.min-chosen.ensures))

pub elements-preserved : goal.elements-preserved
elements-preserved c =
    let items = take c.args.self.now.number c.args.self.now.elements in
    let element = get_or items c.elements.element-index no_element in
    let rest = drop (c.elements.element-index + 1) items in
    let whole = elements_of c.args.self.now in
    let split : drop c.elements.element-index items ≡ element ∷ rest = let within = c.elements-test.true in rw (add-one, drop-cons items c.elements.element-index no_element) refl in
    let so_far = subst (IsCutSoFar whole c.args.pieces c.elements.builder c.elements.left) split c.elements.invariant in
    let next = λ (builder : Builder). IsCutSoFar whole c.args.pieces builder (c.elements.left - c.min-chosen.result) rest in
    elim c.if-chosen-gt0.branch [
      | then-chosen-gt0 w ↦ subst next (sym w.builder-is)
          (cut_added whole c.args.pieces c.elements.builder _ c.elements.left c.min-chosen.result element rest so_far c.min-chosen.ensures w.if-chosen-gt0.true w.add.ensures)
      | else-chosen-gt0 w ↦ subst next (sym w.builder-is)
          (cut_left whole c.args.pieces c.elements.builder c.elements.left c.min-chosen.result element rest so_far
          (list_all_each is_sound items c.elements.element-index no_element c.args.self.now.sound c.elements-test.true) c.min-chosen.ensures (omega (arith, w.if-chosen-gt0.false)))
    ]

pub unreachable-requires : goal.unreachable-requires
unreachable-requires c =
    let pattern = c.args.self.now in
    let all = cut_done (elements_of pattern) c.args.pieces c.elements.builder c.elements.left _ c.elements.invariant (drop_all _ _ c.elements-test.false) in
    cc (sym (limited-cut pattern c.args.pieces) ∙ c.in-Err.ensures.fault (cut c.args.pieces (elements_of pattern)) all)

pub returns : goal.returns
returns c =
    let pattern = c.args.self.now in
    let all = cut_done (elements_of pattern) c.args.pieces c.elements.builder c.elements.left _ c.elements.invariant (drop_all _ _ c.elements-test.false) in
    cc (sym (c.in-Ok.ensures.pattern (cut c.args.pieces (elements_of pattern)) all) ∙ limited-cut pattern c.args.pieces)
