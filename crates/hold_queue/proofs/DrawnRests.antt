-- A draw takes the first piece from the queues that may follow.
use Rattle.std.proofs.Common.{◌≡◌, ℕ, suc, ◌+◌, ◌-◌, ◌*◌, ◌<◌, Bool, true, false, not, cond, ◌&&◌, ◌==◌, nat_lt, Option, Some, None, List, [], ◌∷◌, length, map, Contains, get_or, refl, ap, ◌∙◌, sym, subst, arith, ltb-true, rules}
use Rattle.std.specs.Int.{bit_at}
use Rattle.std.proofs.Math.Nat.{mul_assoc, mul-zero}
use Rattle.std.proofs.lemmas.Bool.{agree_below_at, eqb-true, and_parts, and_from, not-true}
use Rattle.srs.specs.declared.piece.Piece.{Piece}
use Rattle.srs.specs.Piece.{all_pieces, piece_code}
use Rattle.srs.proofs.CallerLemmas.{each_piece, Contains-cases, Contains-none, Contains-filter, Contains-from_filter, Contains-flat_map, Contains-from_flat_map, Contains-map, Contains-from_map, implied, or_second}
use Rattle.queue_pattern.specs.declared.element.Element.{Element}
use Rattle.queue_pattern.specs.Grammar.{set_of}
use Rattle.queue_pattern.specs.Queues.{is_in, pieces_in, others, tails, falling_factor, queue_count}
use Rattle.queue_pattern.proofs.CallerLemmas.{IsSet, pieces_in-set, filter-set, others-set, length-others, falling_factor-more, tails-more, length-tails}
use Rattle.hold_queue.specs.declared.family.Draw.{Draw}
use Rattle.hold_queue.specs.declared.family.Family.{Family}
use Rattle.hold_queue.specs.Family.{has_set, with_piece, any_below, after_draw, IsDrawn}
use Rattle.hold_queue.specs.States.{in_progress, undrawn, rests, IsRemainder, IsRoomy}
use Rattle.hold_queue.proofs.DrawLemmas.{any_below-from, any_below-to}
use Rattle.hold_queue.proofs.RestLemmas.{in_element, rests-done, set_after}

-- a set before a draw, and the set after it
pub record Moves (draw : Option Draw) (piece : Piece) (before : Family) (set : ℕ) : Type 0 where
  pub from : Draw
  pub is : draw ≡ Some from
  pub drawn_set : ℕ
  pub within : drawn_set < 128
  pub has : has_set before drawn_set ≡ true
  pub inside : is_in piece from.element.set ≡ true
  pub lacks : is_in piece drawn_set ≡ false
  pub next : set_after from drawn_set piece ≡ set

record Out (piece : Piece) (set : ℕ) : Type 0 where
  lacks : is_in piece (set - set_of piece) ≡ false
  whole : (set - set_of piece) + set_of piece ≡ set

out : (piece : Piece) (set : ℕ) → set < 128 → is_in piece set ≡ true → Out piece set
out piece set within has = search (rules, and_parts, implied, each_piece, agree_below_at, not-true, eqb-true)

record In (piece : Piece) (set : ℕ) : Type 0 where
  has : is_in piece (set + set_of piece) ≡ true
  within : set + set_of piece < 128
  back : (set + set_of piece) - set_of piece ≡ set

put : (piece : Piece) (set : ℕ) → set < 128 → is_in piece set ≡ false → In piece set
put piece set within lacks = search (rules, and_parts, or_second, each_piece, agree_below_at, ltb-true, eqb-true)

-- the set of which a set is made by one more piece
with_piece-from : (piece : Piece) (before : Family) (set : ℕ) → set < 128 → with_piece piece (has_set before) set ≡ true
    → (is_in piece set ≡ true) × (has_set before (set - set_of piece) ≡ true)
unfolding with_piece
with_piece-from piece before set within h = and_parts _ _ h

with_piece-to : (piece : Piece) (before : Family) (set : ℕ) → set < 128 → is_in piece set ≡ false → has_set before set ≡ true
    → with_piece piece (has_set before) (set + set_of piece) ≡ true
unfolding with_piece
with_piece-to piece before set within lacks has = search (rules, put, and_from)

-- each set after a draw comes from one before it
pub moves-back : (draw : Option Draw) (piece : Piece) (before after : Family) → IsDrawn draw piece before after
    → (set : ℕ) → set < 128 → has_set after set ≡ true → Moves draw piece before set
unfolding after_draw
moves-back draw piece before after drawn set within has = go draw refl (sym (drawn.each set within) ∙ has)
  where
    made : (d : Draw) → draw ≡ Some d → is_in piece d.element.set ≡ true → (whole : ℕ) → whole < 128 → with_piece piece (has_set before) whole ≡ true
        → set_after d (whole - set_of piece) piece ≡ set → Moves draw piece before set
    made d is inside whole small passes next =
        let parts = with_piece-from piece before whole small passes in
        search (rules, out)

    ends : (d : Draw) → draw ≡ Some d → (b : Bool) → d.is_last ≡ b → is_in piece d.element.set ≡ true
        → cond b (set == 0 && any_below (with_piece piece (has_set before)) 128) (with_piece piece (has_set before) set) ≡ true → Moves draw piece before set
    ends d is true last inside h =
        let parts = and_parts (set == 0) _ h in
        let found = any_below-from (with_piece piece (has_set before)) 128 parts.1 in
        made d is inside found.0 found.1 found.2 (ap (λ b. cond b 0 (found.0 - set_of piece + set_of piece)) last ∙ sym (eqb-true set 0 parts.0))
    ends d is false last inside h =
        let parts = with_piece-from piece before set within h in
        made d is inside set within h (ap (λ b. cond b 0 (set - set_of piece + set_of piece)) last ∙ (out piece set within parts.0).whole)

    enters : (d : Draw) → draw ≡ Some d → (b : Bool) → is_in piece d.element.set ≡ b
        → cond b (cond d.is_last (set == 0 && any_below (with_piece piece (has_set before)) 128) (with_piece piece (has_set before) set)) false ≡ true → Moves draw piece before set
    enters d is true inside h = ends d is d.is_last refl inside h
    enters d is false inside h = cc

    go : (o : Option Draw) → draw ≡ o → after_draw o piece (has_set before) set ≡ true → Moves draw piece before set
    go o is h = search (rules, enters)

pub record Moved (after : Family) (set : ℕ) : Type 0 where
  pub within : set < 128
  pub has : has_set after set ≡ true

-- and each set before it that lacks the piece has one after it
pub moves-on : (draw : Option Draw) (piece : Piece) (before after : Family) → IsDrawn draw piece before after
    → (d : Draw) → draw ≡ Some d → is_in piece d.element.set ≡ true → (set : ℕ) → set < 128 → has_set before set ≡ true → is_in piece set ≡ false
    → Moved after (set_after d set piece)
unfolding after_draw
moves-on draw piece before after drawn d is inside set within has lacks = ends d.is_last refl
  where
    passes : with_piece piece (has_set before) (set + set_of piece) ≡ true
    passes = with_piece-to piece before set within lacks has

    value : (b : Bool) → d.is_last ≡ b → (s : ℕ) → after_draw draw piece (has_set before) s ≡ cond b (s == 0 && any_below (with_piece piece (has_set before)) 128) (with_piece piece (has_set before) s)
    value b last s = ap (λ o. after_draw o piece (has_set before) s) is ∙ rw (inside, last) refl

    ends : (b : Bool) → d.is_last ≡ b → Moved after (set_after d set piece)
    ends true last = subst (Moved after) (sym (ap (λ b. cond b 0 (set + set_of piece)) last)) (record {
      within = omega arith;
      has = drawn.each 0 (omega arith) ∙ value true last 0 ∙ any_below-to (with_piece piece (has_set before)) 128 (set + set_of piece) (put piece set within lacks).within passes;
    })
    ends false last = search (rules, put, value, passes)

pub code_within : (piece : Piece) → piece_code piece - 1 < 7
code_within piece = ltb-true _ _ (each_piece (λ p. nat_lt (piece_code p - 1) 7) refl piece)

-- a piece stands in the list of all where its code says, whatever is given past the end
pub piece_at : (other piece : Piece) → get_or all_pieces (piece_code piece - 1) other ≡ piece
piece_at other piece = search rules

pub Contains-piece : (piece : Piece) → Contains all_pieces piece
Contains-piece piece = (piece_code piece - 1, code_within piece, piece_at piece piece)

-- the pieces that are not drawn
pub undrawn-to : (set drawn_set : ℕ) (piece : Piece) → is_in piece set ≡ true → is_in piece drawn_set ≡ false → Contains (undrawn set drawn_set) piece
unfolding undrawn pieces_in
undrawn-to set drawn_set piece inside lacks =
    Contains-filter (λ p. not (is_in p drawn_set)) (pieces_in set) piece
    (Contains-filter (λ p. bit_at set (piece_code p - 1) == 1) all_pieces piece (Contains-piece piece) inside) (ap not lacks)

pub undrawn-from : (set drawn_set : ℕ) (piece : Piece) → Contains (undrawn set drawn_set) piece → (is_in piece set ≡ true) × (is_in piece drawn_set ≡ false)
unfolding undrawn pieces_in
undrawn-from set drawn_set piece among =
    let one = Contains-from_filter (λ p. not (is_in p drawn_set)) (pieces_in set) piece among in
    let two = Contains-from_filter (λ p. bit_at set (piece_code p - 1) == 1) all_pieces piece one.0 in
    (two.1, not-true _ one.1)

count_undrawn : (set drawn_set : ℕ) → IsSet (undrawn set drawn_set)
unfolding undrawn
count_undrawn set drawn_set = filter-set (λ p. not (is_in p drawn_set)) (pieces_in set) (pieces_in-set set)

-- the queues that begin with a piece
pub begins-from : (pieces : List Piece) (n : ℕ) (later : List Element) (piece : Piece) (queue : List Piece)
    → Contains (tails pieces (suc n) later) (piece ∷ queue) → Contains pieces piece × Contains (tails (others piece pieces) n later) queue
begins-from pieces n later piece queue among =
    let found = Contains-from_flat_map (λ p. map (λ rest. p ∷ rest) (tails (others p pieces) n later)) pieces (piece ∷ queue)
    (subst (λ qs. Contains qs (piece ∷ queue)) (tails-more pieces n later) among) in
    let tail = Contains-from_map (λ rest. found.0 ∷ rest) (tails (others found.0 pieces) n later) (piece ∷ queue) found.2 in
    search (rules, same_head, same_tail)
  where
    same_head : {p q : Piece} {ps qs : List Piece} → p ∷ ps ≡ q ∷ qs → p ≡ q
    same_head e = cc

    same_tail : {p q : Piece} {ps qs : List Piece} → p ∷ ps ≡ q ∷ qs → ps ≡ qs
    same_tail e = cc

pub begins-to : (pieces : List Piece) (n : ℕ) (later : List Element) (piece : Piece) (queue : List Piece)
    → Contains pieces piece → Contains (tails (others piece pieces) n later) queue → Contains (tails pieces (suc n) later) (piece ∷ queue)
begins-to pieces n later piece queue at among =
    subst (λ qs. Contains qs (piece ∷ queue)) (sym (tails-more pieces n later))
    (Contains-flat_map (λ p. map (λ rest. p ∷ rest) (tails (others p pieces) n later)) pieces piece (piece ∷ queue) at
    (Contains-map (λ rest. piece ∷ rest) (tails (others piece pieces) n later) queue among))

-- a queue that is not used up does not end
pub begins-none : (pieces : List Piece) (n : ℕ) (later : List Element) → Contains (tails pieces (suc n) later) [] → ⊥
begins-none pieces n later among =
    let found = Contains-from_flat_map (λ p. map (λ rest. p ∷ rest) (tails (others p pieces) n later)) pieces []
    (subst (λ qs. Contains qs []) (tails-more pieces n later) among) in
    let tail = Contains-from_map (λ rest. found.0 ∷ rest) (tails (others found.0 pieces) n later) [] found.2 in
    no_list tail.2
  where
    no_list : {p : Piece} {ps : List Piece} → p ∷ ps ≡ [] → ⊥
    no_list e = cc

-- where a draw may be made, the rest has queues where the whole has
tails-some : (pieces : List Piece) (n : ℕ) (later : List Element) (piece : Piece) → IsSet pieces → Contains pieces piece
    → 0 < length (tails pieces (suc n) later) → 0 < length (tails (others piece pieces) n later)
tails-some pieces n later piece set among some =
    let whole = length-tails pieces (suc n) later set in
    let rest = length-tails (others piece pieces) n later (others-set piece pieces set) in
    let fewer : length (others piece pieces) ≡ length pieces - 1 = omega (arith, length-others piece pieces set among) in
    let product : length pieces * falling_factor (length pieces - 1) n * queue_count later ≡ length (tails pieces (suc n) later) =
    sym (whole ∙ ap (λ f. f * queue_count later) (falling_factor-more (length pieces) (suc n) n refl)) in
    search (rules, positive)
  where
    factor : (a b : ℕ) → 0 < a * b → 0 < b
    factor a b h = search (rules, mul-zero)

    positive : (a b c : ℕ) → 0 < a * b * c → 0 < b * c
    positive a b c h = factor a (b * c) (subst (λ k. 0 < k) (mul_assoc a b c) h)

-- the queues after a draw are those before it that begin with the piece, without it
pub rest-on : (elements : List Element) (drawn next : ℕ) (piece : Piece) (before after : Family) → IsDrawn (in_progress elements drawn) piece before after
    → ((set : ℕ) → set < 128 → has_set before set ≡ true → next ≡ drawn + 1)
    → (queue : List Piece) → IsRemainder elements drawn before (piece ∷ queue) → IsRemainder elements next after queue
rest-on elements drawn next piece before after is_drawn counts queue rest = go (in_progress elements drawn) refl
  where
    go : (o : Option Draw) → in_progress elements drawn ≡ o → IsRemainder elements next after queue
    go None is = search (rules, Contains-cases, rests-done, Contains-none)
    go (Some d) is =
        let at = in_element elements drawn d is in
        let parts = begins-from (undrawn d.element.set rest.drawn_set) at.more at.later piece queue (subst (λ qs. Contains qs (piece ∷ queue)) (at.now rest.drawn_set) rest.there) in
        let free = undrawn-from d.element.set rest.drawn_set piece parts.0 in
        search (rules, moves-on)

pub rest-back : (elements : List Element) (drawn next : ℕ) (piece : Piece) (before after : Family) → IsDrawn (in_progress elements drawn) piece before after
    → ((set : ℕ) → set < 128 → has_set before set ≡ true → next ≡ drawn + 1)
    → (queue : List Piece) → IsRemainder elements next after queue → IsRemainder elements drawn before (piece ∷ queue)
rest-back elements drawn next piece before after is_drawn counts queue rest =
    let m = moves-back (in_progress elements drawn) piece before after is_drawn rest.drawn_set rest.within rest.has in
    let at = in_element elements drawn m.from m.is in
    let here = subst (λ n. Contains (rests elements n rest.drawn_set) queue) (counts m.drawn_set m.within m.has) rest.there in
    let own = subst (λ s. Contains (rests elements (drawn + 1) s) queue) (sym m.next) here in
    let tail = subst (λ qs. Contains qs queue) (at.next m.drawn_set piece m.within m.lacks) own in
    record {
      drawn_set = m.drawn_set;
      within = m.within;
      has = m.has;
      there = subst (λ qs. Contains qs (piece ∷ queue)) (sym (at.now m.drawn_set))
          (begins-to (undrawn m.from.element.set m.drawn_set) at.more at.later piece queue (undrawn-to m.from.element.set m.drawn_set piece m.inside m.lacks) tail);
    }

pub roomy-on : (elements : List Element) (drawn next : ℕ) (piece : Piece) (before after : Family) → IsDrawn (in_progress elements drawn) piece before after
    → ((set : ℕ) → set < 128 → has_set before set ≡ true → next ≡ drawn + 1) → IsRoomy elements drawn before → IsRoomy elements next after
roomy-on elements drawn next piece before after is_drawn counts room = record {
  each = λ set within has.
      let m = moves-back (in_progress elements drawn) piece before after is_drawn set within has in
      let at = in_element elements drawn m.from m.is in
      let whole = subst (λ qs. 0 < length qs) (at.now m.drawn_set) (room.each m.drawn_set m.within m.has) in
      let some = tails-some (undrawn m.from.element.set m.drawn_set) at.more at.later piece (count_undrawn m.from.element.set m.drawn_set)
      (undrawn-to m.from.element.set m.drawn_set piece m.inside m.lacks) whole in
      search rules;
}
