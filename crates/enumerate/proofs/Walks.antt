-- What a walk finds is the list of solutions from its state on, each after the prefix.
use Rattle.std.proofs.Common.{◌≡◌, ℕ, zero, suc, ◌+◌, Bool, List, [], ◌∷◌, ◌++◌, map, refl, sym, ap, ◌∙◌, arith, append_assoc, rules}
use Rattle.std.specs.Prelude.{◌==◌, if◌then◌else◌}
use Rattle.std.specs.List.{flat_map}
use Rattle.std.proofs.lemmas.List.{append-nil, map-append}
use Rattle.srs.specs.declared.piece.Piece.{Piece}
use Rattle.srs.specs.declared.placement.Placement.{Placement}
use Rattle.enumerate.specs.SearchState.{SearchState, places_at}
use Rattle.enumerate.specs.Events.{Event, Tick, Flood, Found, found, floods, Walk, entered, tried, tried_in_turn, enter}
use Rattle.enumerate.proofs.Solutions.{Sequences, of_place, of_kind, sols}

pub found-append : (xs ys : List Event) → found (xs ++ ys) ≡ found xs ++ found ys
unfolding found
found-append [] ys = refl
found-append (Tick ∷ xs) ys = found-append xs ys
found-append (Flood ∷ xs) ys = found-append xs ys
found-append (Found s ∷ xs) ys = ap (λ l. s ∷ l) (found-append xs ys)

pub floods-append : (xs ys : List Event) → floods (xs ++ ys) ≡ floods xs + floods ys
unfolding floods
floods-append [] ys = omega arith
floods-append (Tick ∷ xs) ys = floods-append xs ys
floods-append (Flood ∷ xs) ys = omega (arith, floods-append xs ys)
floods-append (Found s ∷ xs) ys = floods-append xs ys

-- to pass by first finds nothing and makes no flood
pub found-tick : (b : Bool) (events : List Event) → found (if b then Tick ∷ events else []) ≡ found (if b then events else [])
unfolding found
found-tick b events = search rules

pub floods-tick : (b : Bool) (events : List Event) → floods (if b then Tick ∷ events else []) ≡ floods (if b then events else [])
unfolding floods
floods-tick b events = search rules

-- each of these sequences after a prefix
unfoldable pub prefixed : List Placement → List (List Placement) → List (List Placement)
prefixed prefix l = map (λ s. prefix ++ s) l

pub prefixed-append : (prefix : List Placement) (k l : List (List Placement)) → prefixed prefix (k ++ l) ≡ prefixed prefix k ++ prefixed prefix l
unfolding prefixed
prefixed-append prefix k l = map-append (λ s. prefix ++ s) k l

pub prefixed-cons : (prefix : List Placement) (q : Placement) (l : List (List Placement)) → prefixed (prefix ++ q ∷ []) l ≡ prefixed prefix (map (λ s. q ∷ s) l)
unfolding prefixed
prefixed-cons prefix q [] = refl
prefixed-cons prefix q (s ∷ l) = (λ i. append_assoc prefix (q ∷ []) s i ∷ prefixed-cons prefix q l i)

pub prefixed-nil : (l : List (List Placement)) → prefixed [] l ≡ l
unfolding prefixed
prefixed-nil [] = refl
prefixed-nil (s ∷ l) = ap (λ l. s ∷ l) (prefixed-nil l)

-- a walk finds these sequences
pub record Finds (walk : Walk) (S : Sequences) : Type 0 where
  pub same : (prefix : List Placement) (n : SearchState) → found (walk prefix n) ≡ prefixed prefix (S n)

module _ (walk : Walk) (S : Sequences) (finds : Finds walk S) (prefix : List Placement) (n : SearchState) where
  found-entered : (q : Placement) → found (entered walk prefix n q) ≡ prefixed prefix (of_place S n q)
  unfolding entered of_place found prefixed
  found-entered q = search (rules, prefixed-cons)

  pub found-places : (qs : List Placement) → found (flat_map (entered walk prefix n) qs) ≡ prefixed prefix (flat_map (of_place S n) qs)
  unfolding found prefixed
  found-places [] = refl
  found-places (q ∷ qs) =
      found-append (entered walk prefix n q) (flat_map (entered walk prefix n) qs)
      ∙ (λ i. found-entered q i ++ found-places qs i)
      ∙ sym (prefixed-append prefix (of_place S n q) (flat_map (of_place S n) qs))

  found-tried : (piece : Piece) → found (tried walk prefix n piece) ≡ prefixed prefix (of_kind S n piece)
  unfolding tried of_kind found prefixed
  found-tried piece = search (rules, (found-places (places_at n piece)))

  found-kinds : (pieces : List Piece) → found (flat_map (tried walk prefix n) pieces) ≡ prefixed prefix (flat_map (of_kind S n) pieces)
  unfolding found prefixed
  found-kinds [] = refl
  found-kinds (piece ∷ pieces) =
      found-append (tried walk prefix n piece) (flat_map (tried walk prefix n) pieces)
      ∙ (λ i. found-tried piece i ++ found-kinds pieces i)
      ∙ sym (prefixed-append prefix (of_kind S n piece) (flat_map (of_kind S n) pieces))

  pub found-tried_in_turn : (pieces : List Piece) → found (tried_in_turn walk prefix n pieces) ≡ prefixed prefix (flat_map (of_kind S n) pieces)
  unfolding tried_in_turn found
  found-tried_in_turn pieces =
      found-append (flat_map (tried walk prefix n) pieces) (Tick ∷ [])
      ∙ append-nil (found (flat_map (tried walk prefix n) pieces))
      ∙ found-kinds pieces

found-leaf : (b : Bool) (prefix : List Placement) → found ((if b then Found prefix else Tick) ∷ []) ≡ prefixed prefix (if b then [] ∷ [] else [])
unfolding found prefixed
found-leaf b prefix = search (rules, append-nil)

pub found-if_live : (b : Bool) (prefix : List Placement) (events : List Event) (l : List (List Placement)) → found events ≡ prefixed prefix l → found (if b then events else []) ≡ prefixed prefix (if b then l else [])
unfolding found prefixed
found-if_live b prefix events l e = search rules

pub finds-enter : (left : ℕ) → Finds (enter left) (sols left)
unfolding enter sols found
finds-enter zero = record { same = λ prefix n. found-leaf (n.rows == 0) prefix }
finds-enter (suc left) = search (rules, found-if_live, (found-tried_in_turn (enter left) (sols left) (finds-enter left)))
