-- Where the search for the queue with a number stands.
use Rattle.std.proofs.Common.{◌≡◌, ℕ, suc, ◌+◌, ◌-◌, ◌*◌, ◌/◌, ◌%◌, ◌<◌, ◌≤◌, List, [], ◌∷◌, ◌++◌, length, append_assoc, refl, ap, sym, ◌∙◌, arith, Option, Some, true, subst, append-nil, length-append, Contains, rules}
use Rattle.std.specs.List.{slice_get}
use Rattle.std.specs.Option.{option_map}
use Rattle.std.specs.List.{list_all}
use Rattle.std.proofs.lemmas.Nat.{div-add-mod', mod_below, div_below}
use Rattle.std.proofs.lemmas.Bool.{and_parts}
use Rattle.std.proofs.lemmas.List.Sums.{sum_by-cons}
use Rattle.std.proofs.Math.Nat.{mul_assoc, mul-le-mul, one-mul, mul-div_cancel_left}
use Rattle.std.proofs.lemmas.Option.{get_or_from_slice_get}
use Rattle.std.proofs.lemmas.Iterator.Adapters.{option_map_id}
use Rattle.srs.specs.declared.piece.Piece.{Piece}
use Rattle.queue_pattern.specs.declared.element.Element.{Element}
use Rattle.queue_pattern.specs.Queues.{tails, pieces_in, others, queues, falling_factor, queue_count, queue_len}
use Rattle.queue_pattern.specs.Sound.{is_sound}
use Rattle.queue_pattern.proofs.BuilderLemmas.{sound-within, sound-set}
use Rattle.queue_pattern.proofs.LimitLemmas.{queue_count-some}
use Rattle.queue_pattern.proofs.ChoiceLemmas.{IsSet, pieces_in-set, length-others}
use Rattle.queue_pattern.proofs.FallingLemmas.{falling_factor-more, falling_factor-some}
use Rattle.queue_pattern.proofs.QueueLemmas.{tails-none, queues-none, tails-get, queues-tails}

-- The member with this index begins with these pieces, and goes on as the member with the number left of those that may
-- follow, which are as many as a block.
pub record Stands (whole : List (List Piece)) (index : ℕ) (front : List Piece) (left block : ℕ) (rest : List (List Piece)) : Type 0 where
  pub here : slice_get whole index ≡ option_map (λ tail. front ++ tail) (slice_get rest left)
  pub within : left < block

map-append : (front : List Piece) (piece : Piece) (o : Option (List Piece)) →
    option_map (λ tail. front ++ tail) (option_map (λ tail. piece ∷ tail) o) ≡ option_map (λ tail. (front ++ piece ∷ []) ++ tail) o
map-append front piece o = search (rules, append_assoc)

-- one more piece
pub stands_more : (whole : List (List Piece)) (index : ℕ) (front : List Piece) (left block rest_block : ℕ) (pieces : List Piece) (n : ℕ) (elements : List Element) (piece : Piece)
    → Stands whole index front left block (tails pieces (suc n) elements) → IsSet pieces
    → rest_block ≡ falling_factor (length pieces - 1) n * queue_count elements → 0 < rest_block
    → slice_get pieces (left / rest_block) ≡ Some piece
    → Stands whole index (front ++ piece ∷ []) (left % rest_block) rest_block (tails (others piece pieces) n elements)
stands_more whole index front left block rest_block pieces n elements piece so_far set is some there =
    let split : left ≡ (left / rest_block) * rest_block + left % rest_block = sym (div-add-mod' left rest_block) in
    let less : left % rest_block < rest_block = mod_below left rest_block some in
    record {
      here = so_far.here ∙ ap (λ k. option_map (λ tail. front ++ tail) (slice_get (tails pieces (suc n) elements) k)) split
          ∙ ap (option_map (λ tail. front ++ tail)) (tails-get pieces n elements (left / rest_block) (left % rest_block) rest_block piece set is less there)
          ∙ map-append front piece (slice_get (tails (others piece pieces) n elements) (left % rest_block));
      within = less;
    }

-- between two elements: so many pieces are found, and the queue goes on with these elements
pub record Between (whole : List Element) (index room : ℕ) (front : List Piece) (left block : ℕ) (rest : List Element) : Type 0 where
  pub stands : Stands (queues whole) index front left block (queues rest)
  pub blocks : block ≡ queue_count rest
  pub pieces : length front + queue_len rest ≡ room
  pub sound : list_all is_sound rest ≡ true

-- within an element: n pieces of a set are still to be chosen
pub record Within (whole : List Element) (index room : ℕ) (front : List Piece) (left block set n : ℕ) (rest : List Element) : Type 0 where
  pub stands : Stands (queues whole) index front left block (tails (pieces_in set) n rest)
  pub blocks : block ≡ falling_factor (length (pieces_in set)) n * queue_count rest
  pub pieces : length front + (n + queue_len rest) ≡ room
  pub few : set < 128
  pub enough : n ≤ length (pieces_in set)
  pub sound : list_all is_sound rest ≡ true

pub between_first : (whole : List Element) (index block room : ℕ) → index < block → block ≡ queue_count whole → room ≡ queue_len whole → list_all is_sound whole ≡ true
    → Between whole index room [] index block whole
between_first whole index block room within is pieces sound = search (rules, option_map_id)

pub into_element : (whole : List Element) (index room : ℕ) (front : List Piece) (left block : ℕ) (element : Element) (rest : List Element)
    → Between whole index room front left block (element ∷ rest) → Within whole index room front left block element.set element.chosen rest
unfolding queue_count
into_element whole index room front left block element rest so_far =
    let parts = and_parts (is_sound element) (list_all is_sound rest) so_far.sound in
    record {
      stands = subst (Stands (queues whole) index front left block) (queues-tails element rest) so_far.stands;
      blocks = so_far.blocks;
      pieces = omega (arith, so_far.pieces, sum_by-cons (λ (e : Element). e.chosen) element rest);
      few = sound-set element parts.0;
      enough = sound-within element parts.0;
      sound = parts.1;
    }

pub out_of_element : (whole : List Element) (index room : ℕ) (front : List Piece) (left block set n : ℕ) (rest : List Element) → n ≡ 0
    → Within whole index room front left block set n rest → Between whole index room front left block rest
unfolding falling_factor
out_of_element whole index room front left block set n rest none so_far = search (rules, tails-none, one-mul)

-- the block of the next piece
pub block_of : (whole : List Element) (index room : ℕ) (front : List Piece) (left block set n : ℕ) (rest : List Element)
    → Within whole index room front left block set (suc n) rest
    → (block ≡ length (pieces_in set) * (falling_factor (length (pieces_in set) - 1) n * queue_count rest))
    × (0 < falling_factor (length (pieces_in set) - 1) n * queue_count rest) × (0 < length (pieces_in set))
block_of whole index room front left block set n rest so_far = (
  so_far.blocks ∙ ap (λ f. f * queue_count rest) (falling_factor-more (length (pieces_in set)) (suc n) n refl)
      ∙ mul_assoc (length (pieces_in set)) (falling_factor (length (pieces_in set) - 1) n) (queue_count rest),
  mul-le-mul (falling_factor-some n (length (pieces_in set) - 1) (omega (arith, so_far.enough))) (queue_count-some rest so_far.sound),
  omega (arith, so_far.enough),
)

pub next_piece : (whole : List Element) (index room : ℕ) (front : List Piece) (left block set n rest_block next_set : ℕ) (rest : List Element) (piece : Piece)
    → Within whole index room front left block set (suc n) rest
    → rest_block ≡ falling_factor (length (pieces_in set) - 1) n * queue_count rest
    → slice_get (pieces_in set) (left / rest_block) ≡ Some piece → Contains (pieces_in set) piece
    → pieces_in next_set ≡ others piece (pieces_in set) → next_set < 128
    → Within whole index room (front ++ piece ∷ []) (left % rest_block) rest_block next_set n rest
next_piece whole index room front left block set n rest_block next_set rest piece so_far is there has next few =
    let some = block_of whole index room front left block set n rest so_far in
    let shorter : length (pieces_in next_set) + 1 ≡ length (pieces_in set) = ap (λ (ps : List Piece). length ps + 1) next ∙ length-others piece (pieces_in set) (pieces_in-set set) has in
    record {
      stands = subst (λ ps. Stands (queues whole) index (front ++ piece ∷ []) (left % rest_block) rest_block (tails ps n rest)) (sym next)
          (stands_more (queues whole) index front left block rest_block (pieces_in set) n rest piece so_far.stands (pieces_in-set set) is (omega (arith, is, some.1)) there);
      blocks = is ∙ ap (λ m. falling_factor m n * queue_count rest) (omega (arith, shorter));
      pieces = omega (arith, so_far.pieces, length-append front (piece ∷ []));
      few = few;
      enough = omega (arith, so_far.enough, shorter);
      sound = so_far.sound;
    }

-- no element is left: the queue is found
pub found : (whole : List Element) (index room : ℕ) (front : List Piece) (left block : ℕ) → Between whole index room front left block [] → slice_get (queues whole) index ≡ Some front
unfolding queue_count
found whole index room front left block so_far = search (rules, queues-none, append-nil)

-- the block of the next piece, as it is computed
pub record IsNextBlock (left block size set n : ℕ) (rest : List Element) : Type 0 where
  pub is : block / size ≡ falling_factor (length (pieces_in set) - 1) n * queue_count rest
  pub some : 0 < block / size
  pub within : left / (block / size) < length (pieces_in set)

pub next_block : (whole : List Element) (index room : ℕ) (front : List Piece) (left block set m n size : ℕ) (rest : List Element)
    → Within whole index room front left block set m rest → m ≡ suc n → size ≡ length (pieces_in set) → IsNextBlock left block size set n rest
next_block whole index room front left block set m n size rest so_far one_more number =
    let now = subst (λ k. Within whole index room front left block set k rest) one_more so_far in
    let parts = block_of whole index room front left block set n rest now in
    search (rules, mul-div_cancel_left, div_below)

pub piece_taken : (whole : List Element) (index room : ℕ) (front : List Piece) (left block set m n size next_set : ℕ) (rest : List Element) (piece : Piece)
    → Within whole index room front left block set m rest → m ≡ suc n → size ≡ length (pieces_in set)
    → slice_get (pieces_in set) (left / (block / size)) ≡ Some piece
    → pieces_in next_set ≡ others piece (pieces_in set) → next_set < 128
    → Within whole index room (front ++ piece ∷ []) (left % (block / size)) (block / size) next_set n rest
piece_taken whole index room front left block set m n size next_set rest piece so_far one_more number there next few =
    let now = subst (λ k. Within whole index room front left block set k rest) one_more so_far in
    let q = next_block whole index room front left block set m n size rest so_far one_more number in
    search (rules, next_piece, get_or_from_slice_get)
