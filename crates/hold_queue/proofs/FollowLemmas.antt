-- The states stand for the played pieces: at the start, and after one more.
use Rattle.std.proofs.Common.{◌≡◌, ℕ, ◌+◌, ◌*◌, ◌<◌, Bool, true, not, ◌&&◌, ◌||◌, ◌==◌, Option, Some, None, List, [], ◌∷◌, ◌++◌, length, length-append, append_assoc, set, refl, ap, ◌∙◌, inl, inr, arith, rules}
use Rattle.std.specs.Cmp.Derive.{one_truth}
use Rattle.std.specs.List.{list_any, list_all}
use Rattle.std.proofs.lemmas.Bool.{agree_below_at, and_parts, and_from, eqb-true, or_cases, or_left, or_right}
use Rattle.std.proofs.lemmas.List.Folds.{list_any_at}
use Rattle.srs.specs.declared.piece.Piece.{Piece}
use Rattle.srs.specs.Piece.{all_pieces, piece_code}
use Rattle.srs.proofs.CallerLemmas.{piece_code-injective, each_piece, implied, piece_code-some}
use Rattle.queue_pattern.specs.declared.element.Element.{Element}
use Rattle.queue_pattern.specs.Queues.{queues}
use Rattle.hold_queue.specs.declared.hold.Hold.{Hold}
use Rattle.hold_queue.specs.Family.{has_set, any_below}
use Rattle.hold_queue.specs.Permits.{Permits, some_permits}
use Rattle.hold_queue.specs.States.{rests, held_code, drawn_by, family_at, any_held, states_permit, IsRemainder, IsNextFamily, LeadsTo, AreStatesAfter}
use Rattle.hold_queue.proofs.DrawLemmas.{any_below-from, any_below-to}
use Rattle.hold_queue.proofs.DrawnRests.{Contains-piece}
use Rattle.hold_queue.proofs.PermitsTest.{some_permits-decides}
use Rattle.hold_queue.proofs.RestLemmas.{rests-start}

list_any-from : {X : Type 0} (test : X → Bool) (xs : List X) → list_any test xs ≡ true → (x : X) × (test x ≡ true)
list_any-from test [] h = cc
list_any-from test (x ∷ xs) h = elim (or_cases (test x) (list_any test xs) h) [ inl here ↦ (x, here) | inr later ↦ list_any-from test xs later ]

any_held-from : (test : Option Piece → Bool) → any_held test ≡ true → (held : Option Piece) × (test held ≡ true)
any_held-from test h = search (rules, or_cases, list_any-from)

any_held-to : (test : Option Piece → Bool) (held : Option Piece) → test held ≡ true → any_held test ≡ true
any_held-to test held passes = search (rules, or_left, Contains-piece, or_right, list_any_at)

-- some state leaves a queue that permits the pieces
pub record StatePermits (elements : List Element) (hold : Hold) (start : Option Piece) (states : List ℕ) (played : ℕ) (pieces : List Piece) : Type 0 where
  pub held : Option Piece
  pub queue : List Piece
  pub rest : IsRemainder elements (drawn_by start played held) (family_at states held) queue
  pub permitted : Permits hold queue held pieces

pub states_permit-from : (elements : List Element) (hold : Hold) (start : Option Piece) (states : List ℕ) (played : ℕ) (pieces : List Piece)
    → states_permit elements hold start states played pieces ≡ true → StatePermits elements hold start states played pieces
unfolding states_permit
states_permit-from elements hold start states played pieces h =
    search (rules, any_held-from, any_below-from, and_parts, some_permits-decides)

pub states_permit-to : (elements : List Element) (hold : Hold) (start : Option Piece) (states : List ℕ) (played : ℕ) (pieces : List Piece)
    → StatePermits elements hold start states played pieces → states_permit elements hold start states played pieces ≡ true
unfolding states_permit
states_permit-to elements hold start states played pieces is =
    let state : Option Piece → ℕ → Bool = λ held set. has_set (family_at states held) set && some_permits hold (rests elements (drawn_by start played held) set) held pieces in
    any_held-to (λ held. any_below (state held) 128) is.held
    (any_below-to (state is.held) 128 is.rest.drawn_set is.rest.within
    (and_from _ _ is.rest.has ((some_permits-decides hold (rests elements (drawn_by start played is.held) is.rest.drawn_set) is.held pieces).1
    (is.queue, is.rest.there, is.permitted))))

-- the states after a piece permit what those before it permit with the piece first
pub states_permit-next : (elements : List Element) (hold : Hold) (start : Option Piece) (states next : List ℕ) (played : ℕ) (piece : Piece)
    → ((held : Option Piece) → IsNextFamily elements hold start states played piece held (family_at next held))
    → (pieces : List Piece) → states_permit elements hold start states played (piece ∷ pieces) ≡ states_permit elements hold start next (played + 1) pieces
states_permit-next elements hold start states next played piece families pieces =
    one_truth _ _
    (λ before. let is = states_permit-from elements hold start states played (piece ∷ pieces) before in
    states_permit-to elements hold start next (played + 1) pieces (record {
      held = is.permitted.1;
      queue = is.permitted.0;
      rest = (families is.permitted.1).goes is.permitted.0 (record { held_before = is.held; queue_before = is.queue; way = is.permitted.2; rest = is.rest });
      permitted = is.permitted.3;
    }))
    (λ after. let is = states_permit-from elements hold start next (played + 1) pieces after in
    let came = (families is.held).came is.queue is.rest in
    search (rules, states_permit-to))

pub leads-next : (elements : List Element) (hold : Hold) (start : Option Piece) (states next : List ℕ) (played : ℕ) (piece : Piece)
    → ((held : Option Piece) → IsNextFamily elements hold start states played piece held (family_at next held))
    → LeadsTo elements hold start states played piece next
leads-next elements hold start states next played piece families = search (rules, states_permit-next)

pub follows-next : (elements : List Element) (hold : Hold) (start : Option Piece) (states next : List ℕ) (played : List Piece) (piece : Piece)
    → AreStatesAfter elements hold start states played → LeadsTo elements hold start states (length played) piece next
    → AreStatesAfter elements hold start next (played ++ piece ∷ [])
follows-next elements hold start states next played piece so_far leads =
    search (rules, append_assoc, set, length-append)

-- the one state at the start: what is held then, and no piece drawn
abbrev pub first_states : Option Piece → List ℕ
first_states start = set (0 ∷ 0 ∷ 0 ∷ 0 ∷ 0 ∷ 0 ∷ 0 ∷ 0 ∷ 0 ∷ 0 ∷ 0 ∷ 0 ∷ 0 ∷ 0 ∷ 0 ∷ 0 ∷ []) (2 * held_code start) 1

abbrev is_first : Option Piece → Option Piece → ℕ → Bool
is_first start held set = not (has_set (family_at (first_states start) held) set) || (held_code start == held_code held && set == 0)

abbrev each_first : ℕ → Bool
each_first set =
    is_first None None set && (list_all (λ p. is_first None (Some p) set) all_pieces
    && (list_all (λ p. is_first (Some p) None set) all_pieces && list_all (λ p. list_all (λ q. is_first (Some p) (Some q) set) all_pieces) all_pieces))

first_set : (start held : Option Piece) (set : ℕ) → set < 128 → is_first start held set ≡ true
unfolding has_set family_at
first_set start held set within = go start held
  where
    one : (is_first None None set ≡ true) × ((list_all (λ p. is_first None (Some p) set) all_pieces
        && (list_all (λ p. is_first (Some p) None set) all_pieces && list_all (λ p. list_all (λ q. is_first (Some p) (Some q) set) all_pieces) all_pieces)) ≡ true)
    one = and_parts _ _ (agree_below_at each_first (λ _. true) 128 set refl within)

    two : (list_all (λ p. is_first None (Some p) set) all_pieces ≡ true) × ((list_all (λ p. is_first (Some p) None set) all_pieces
        && list_all (λ p. list_all (λ q. is_first (Some p) (Some q) set) all_pieces) all_pieces) ≡ true)
    two = and_parts _ _ one.1

    three : (list_all (λ p. is_first (Some p) None set) all_pieces ≡ true) × (list_all (λ p. list_all (λ q. is_first (Some p) (Some q) set) all_pieces) all_pieces ≡ true)
    three = and_parts _ _ two.1

    go : (start held : Option Piece) → is_first start held set ≡ true
    go None None = one.0
    go None (Some p) = each_piece (λ p. is_first None (Some p) set) two.0 p
    go (Some p) None = each_piece (λ p. is_first (Some p) None set) three.0 p
    go (Some p) (Some q) = each_piece (λ q. is_first (Some p) (Some q) set) (each_piece (λ p. list_all (λ q. is_first (Some p) (Some q) set) all_pieces) three.1 p) q

held_code-none : (piece : Piece) → 0 ≡ piece_code piece → ⊥
held_code-none piece e = absurd (omega (arith, piece_code-some piece))

held_code-injective : (start held : Option Piece) → held_code start ≡ held_code held → start ≡ held
held_code-injective start held e = search (rules, held_code-none, piece_code-injective)

-- a state at the start
record First (start held : Option Piece) (set : ℕ) : Type 0 where
  held_is : start ≡ held
  set_is : set ≡ 0

first : (start held : Option Piece) (set : ℕ) → set < 128 → has_set (family_at (first_states start) held) set ≡ true → First start held set
first start held set within has =
    let parts = and_parts _ _ (implied _ _ has (first_set start held set within)) in
    record { held_is = held_code-injective start held (eqb-true _ _ parts.0); set_is = eqb-true set 0 parts.1 }

first-there : (start : Option Piece) → has_set (family_at (first_states start) start) 0 ≡ true
unfolding has_set family_at
first-there start = search (rules, each_piece)

pub follows-start : (elements : List Element) (hold : Hold) (start : Option Piece) → 0 < length (queues elements) → AreStatesAfter elements hold start (first_states start) []
follows-start elements hold start some = record {
  permits_same =
      search (rules, one_truth, some_permits-decides, states_permit-to, first-there, start_rests, states_permit-from, first, set);
  stands = record {
    roomy = λ held. record { each = search (rules, set, first, start_rests) };
    drawn_fits = search (rules, set, first);
  };
}
  where
    start_rests : rests elements (drawn_by start 0 start) 0 ≡ queues elements
    start_rests = ap (λ n. rests elements n 0) (omega arith) ∙ rests-start elements
