-- The tails of a problem's queues have the hands of the queues.
use Rattle.std.proofs.Common.{◌≡◌, ℕ, suc, ◌+◌, ◌-◌, ◌*◌, ◌/◌, ◌<◌, ◌≤◌, Option, Some, None, List, [], ◌∷◌, get_or, length, take, ap, sym, subst, ◌∙◌, arith}
use Rattle.std.specs.Prelude.{IfOk, Result, Ok, Err}
use Rattle.std.proofs.lemmas.Nat.{div_below}
use Rattle.std.proofs.Math.Nat.{mul_comm, zero-div}
use Rattle.srs.specs.declared.piece.Piece.{Piece}
use Rattle.queue_pattern.specs.declared.element.Element.{Element}
use Rattle.queue_pattern.specs.declared.pattern.Pattern.{Pattern}
use Rattle.queue_pattern.specs.Cut.{cut}
use Rattle.queue_pattern.specs.Grammar.{singles}
use Rattle.queue_pattern.specs.Pattern.{elements_of}
use Rattle.queue_pattern.specs.Queues.{queue_len, queues}
use Rattle.queue_pattern.proofs.CallerLemmas.{pattern-some, queue_len-cut, queues-fronts, queues-singles, shared-quotient}
use Rattle.hold_queue.specs.AtHand.{at_hand, count_held, playable, taken_from}
use Rattle.hold_queue.specs.declared.hold.Hold.{Hold}
use Rattle.hold_queue.specs.declared.hold.Hold.TheVariants.{Allowed, Avoided}
use Rattle.hands.specs.Hands.{hand_of, number_of}
use Rattle.tails.specs.declared.tree.TailTree.{TailTree}
use Rattle.tails.specs.Tails.{hand_at, start_tail}
use Rattle.tails.proofs.CallerLemmas.{start-hand}
use Rattle.problem.specs.declared.problem.Problem.{Problem}
use Rattle.problem.specs.Problem.{IsFit, needed_of}
use Rattle.problem.proofs.CallerLemmas.{needed-few}
use Rattle.percent.specs.QueueAnswers.{BeginAlike, IsTreeOf, pieces_drawn}

-- how many pieces are drawn, by the hold and the held piece
abbrev drawn : Hold → Option Piece → ℕ → ℕ
drawn hold held count = taken_from hold count - count_held (playable hold held)

pub drawn-free : (problem : Problem) (count : ℕ) → problem.hold ≡ Allowed → problem.held ≡ None → count ≡ needed_of problem → count + 1 ≡ pieces_drawn problem
unfolding pieces_drawn
drawn-free problem count hold_is held_is is =
    let none : needed_of problem + 1 ≡ drawn Allowed None (needed_of problem) = omega arith in
    omega (arith, is) ∙ none ∙ (λ i. drawn (sym hold_is i) (sym held_is i) (needed_of problem))

pub drawn-held : (problem : Problem) (count : ℕ) (piece : Piece) → problem.hold ≡ Allowed → problem.held ≡ Some piece → count ≡ needed_of problem → count ≡ pieces_drawn problem
unfolding pieces_drawn
drawn-held problem count piece hold_is held_is is =
    let one : needed_of problem ≡ drawn Allowed (Some piece) (needed_of problem) = omega arith in
    is ∙ one ∙ (λ i. drawn (sym hold_is i) (sym held_is i) (needed_of problem))

pub drawn-avoided : (problem : Problem) (count : ℕ) → problem.hold ≡ Avoided → count ≡ needed_of problem → count ≡ pieces_drawn problem
unfolding pieces_drawn
drawn-avoided problem count hold_is is =
    let none : needed_of problem ≡ drawn Avoided problem.held (needed_of problem) = omega arith in
    is ∙ none ∙ ap (λ hold. drawn hold problem.held (needed_of problem)) (sym hold_is)

-- with the pieces that are drawn there are as many at hand as are taken from
drawn_with : (hold : Hold) (held : Option Piece) (count : ℕ) → count_held (playable hold held) + (taken_from hold count - count_held (playable hold held)) ≤ count + 1
drawn_with Avoided held count = omega arith
drawn_with Allowed None count = omega arith
drawn_with Allowed (Some piece) count = omega arith

-- the pieces at hand of a queue's front are those from which so many are taken
pub front-hand : (hold : Hold) (held : Option Piece) (count : ℕ) (queue : List Piece)
    → number_of (at_hand hold held (take (taken_from hold count - count_held (playable hold held)) queue)) ≡ hand_of hold held count queue
unfolding hand_of
front-hand Avoided held count queue = let same : count - 0 ≡ count = omega arith in ap (λ n. number_of (take n queue)) same
front-hand Allowed None count queue = let same : count + 1 - 0 ≡ count + 1 = omega arith in ap (λ n. number_of (take n queue)) same
front-hand Allowed (Some piece) count queue =
    let same : count + 1 - 1 ≡ count = omega arith in
    let more : suc count ≡ count + 1 = omega arith in
    ap (λ n. number_of (piece ∷ take n queue)) same ∙ ap (λ n. number_of (take n (piece ∷ queue))) more

-- the tree has room for a held piece
pub tree-room : (problem : Problem) (elements : List Element) (tree : TailTree) → IsFit problem → IsTreeOf problem elements tree
    → count_held (playable tree.hold problem.held) + queue_len (elements_of tree.pattern) ≤ 21
unfolding pieces_drawn
tree-room problem elements tree fit of =
    let few = needed-few problem fit in
    let long = ap queue_len of.pattern ∙ queue_len-cut (pieces_drawn problem) elements in
    let most = drawn_with problem.hold problem.held (needed_of problem) in
    let held = ap (λ hold. count_held (playable hold problem.held)) of.hold in
    omega (arith, few, long, most, held)

-- the tree of a pattern that is cut
pub cut-short : (problem : Problem) (pattern cut_one : Pattern) (count : ℕ) → IsFit problem → count ≡ pieces_drawn problem
    → elements_of cut_one ≡ cut count (elements_of pattern) → queue_len (elements_of cut_one) ≤ 21
unfolding pieces_drawn
cut-short problem pattern cut_one count fit is cut_is =
    let few = needed-few problem fit in
    let long = ap queue_len cut_is ∙ queue_len-cut count (elements_of pattern) in
    let most = drawn_with problem.hold problem.held (needed_of problem) in
    omega (arith, few, long, most, is)

pub cut-tree : {E : Type 0} (problem : Problem) (pattern cut_one : Pattern) (count : ℕ) (result : Result TailTree E) → count ≡ pieces_drawn problem
    → elements_of cut_one ≡ cut count (elements_of pattern) → IfOk result (λ tree. tree.pattern ≡ cut_one) → IfOk result (λ tree. tree.hold ≡ problem.hold)
    → IfOk result (IsTreeOf problem (elements_of pattern))
cut-tree problem pattern cut_one count (Ok tree) is cut_is pattern_is hold_is = record {
  pattern = ap elements_of pattern_is ∙ cut_is ∙ ap (λ n. cut n (elements_of pattern)) is;
  hold = hold_is;
}
cut-tree problem pattern cut_one count (Err error) is cut_is pattern_is hold_is = pattern_is

-- a number of a whole is one of its parts
pub part-within : (whole parts alike number : ℕ) → 0 < alike → whole ≡ alike * parts → number < whole → number / alike < parts
part-within whole parts alike number some all within = div_below number alike parts some (omega (arith, within, all, mul_comm alike parts))

-- the tail of the front of a queue has the queue's hand
pub start-is-hand : (problem : Problem) (elements : List Element) (tree : TailTree) (alike number : ℕ) → IsFit problem → IsTreeOf problem elements tree
    → 0 < alike → length (queues elements) ≡ alike * length (queues (elements_of tree.pattern)) → number < length (queues elements)
    → hand_at tree (start_tail tree problem.held (number / alike)) ≡ hand_of problem.hold problem.held (needed_of problem) (get_or (queues elements) number [])
unfolding pieces_drawn
start-is-hand problem elements tree alike number fit of some all within =
    let drawn = taken_from problem.hold (needed_of problem) - count_held (playable problem.hold problem.held) in
    let queue = get_or (queues elements) number [] in
    let cut_all : length (queues elements) ≡ alike * length (queues (cut drawn elements)) = all ∙ ap (λ es. alike * length (queues es)) of.pattern in
    let front : get_or (queues (elements_of tree.pattern)) (number / alike) [] ≡ take drawn queue =
    ap (λ es. get_or (queues es) (number / alike) []) of.pattern ∙ queues-fronts elements drawn alike number cut_all within in
    start-hand tree problem.held (number / alike) (part-within (length (queues elements)) (length (queues (elements_of tree.pattern))) alike number some all within) (tree-room problem elements tree fit of)
    ∙ (λ i. number_of (at_hand (of.hold i) problem.held (front i))) ∙ front-hand problem.hold problem.held (needed_of problem) queue

-- so it is for the tree of one queue
pub one-hand : (problem : Problem) (queue : List Piece) (elements : List Element) (tree : TailTree) → IsFit problem → elements ≡ singles queue → IsTreeOf problem elements tree
    → hand_at tree (start_tail tree problem.held 0) ≡ hand_of problem.hold problem.held (needed_of problem) queue
one-hand problem queue elements tree fit same of =
    let alone : queues elements ≡ queue ∷ [] = ap queues same ∙ queues-singles queue in
    let one : length (queues elements) ≡ 1 = ap length alone in
    let shared = shared-quotient elements (pieces_drawn problem) (omega (arith, one)) in
    let alike = length (queues elements) / length (queues (cut (pieces_drawn problem) elements)) in
    let all : length (queues elements) ≡ alike * length (queues (elements_of tree.pattern)) = shared.divided ∙ ap (λ es. alike * length (queues es)) (sym of.pattern) in
    ap (λ n. hand_at tree (start_tail tree problem.held n)) (sym (zero-div alike))
    ∙ start-is-hand problem elements tree alike 0 fit of shared.some all (omega (arith, one))
    ∙ ap (λ qs. hand_of problem.hold problem.held (needed_of problem) (get_or qs 0 [])) alone

-- so many queues begin alike as the numbers of queues say
pub begin-alike : (problem : Problem) (tree : TailTree) (all fronts : ℕ) → IsTreeOf problem (elements_of problem.pattern) tree
    → all ≡ length (queues (elements_of problem.pattern)) → fronts ≡ length (queues (elements_of tree.pattern)) → BeginAlike problem tree (all / fronts)
begin-alike problem tree all fronts of all_is fronts_is =
    let elements = elements_of problem.pattern in
    let n = pieces_drawn problem in
    let shared = shared-quotient elements n (pattern-some problem.pattern) in
    let cut_is : length (queues (cut n elements)) ≡ length (queues (elements_of tree.pattern)) = ap (λ es. length (queues es)) (sym of.pattern) in
    let quotient : length (queues elements) / length (queues (cut n elements)) ≡ all / fronts = λ i. sym all_is i / (cut_is ∙ sym fronts_is) i in
    subst (BeginAlike problem tree) quotient (record {
      some = shared.some;
      all = shared.divided ∙ ap (λ k. length (queues elements) / length (queues (cut n elements)) * k) cut_is;
    })
