-- What a number says is what its parts give, both ways.
use Rattle.std.proofs.Common.{◌≡◌, ℕ, ◌*◌, ◌/◌, ◌%◌, ◌<◌, ◌≤◌, Bool, true, false, cond, eqb, ℤ, pos, negsuc, ◌+ℤ◌, ◌-ℤ◌, ◌≤ℤ◌, to_z, of_z, w8, Option, Some, None, Result, Ok, Err, refl, sym, ap, subst, ◌∙◌, ◌⊎◌, inl, inr, arith, rules}
use Rattle.std.specs.Option.{ForSome}
use Rattle.std.specs.List.{list_all}
use Rattle.std.proofs.lemmas.Bool.{agree_below_at, eqb-true, lt-ltb, le-ltb, false_from_ne_true, cases_lt}
use Rattle.std.proofs.lemmas.Int.{ints}
use Rattle.std.proofs.lemmas.Grind.{common_steps}
use Rattle.fumen_digits.specs.declared.dialect.Dialect.{Dialect}
use Rattle.fumen_digits.specs.Dialect.{page_cell_count}
use Rattle.srs.specs.declared.piece.Piece.{Piece}
use Rattle.srs.specs.declared.rotation.Rotation.{Rotation}
use Rattle.srs.specs.declared.placement.Placement.{Placement}
use Rattle.srs.specs.Piece.{piece_code, piece_with_code}
use Rattle.srs.specs.Cells.{Cell, minus, moved, cells_at, is_near, pivot_of}
use Rattle.srs.proofs.CallerLemmas.{each_state, near_within, piece_with_code-code}
use Rattle.fumen_pages.specs.declared.action.Action.{Action}
use Rattle.fumen_pages.specs.declared.action.ActionFault.{ActionFault}
use Rattle.fumen_pages.specs.declared.action.ActionFault.TheVariants as fault
use Rattle.fumen_pages.specs.Action.{rotation_code, written_by, moved_back, numbered_cell, in_rows, is_inside_in, flags_of, number_of_parts, Names, SaysOperation, SaysAction, SaysOutside, action_end}
use Rattle.fumen_pages.specs.Reading.{rotation_with_code, placed, operation_of, action_with, with_flags, action_in}
use Rattle.fumen_pages.proofs.InsideLaws.{pivot_inside_in}
use Rattle.fumen_pages.proofs.FlagLaws.{flags_are, flags_of-action_with}

-- ---- the parts of a number

record PartsAre (dialect : Dialect) (number piece rotation place flags : ℕ) : Type 0 where
  piece_is : number % 8 ≡ piece
  rotation_is : number / 8 % 4 ≡ rotation
  place_is : number / 32 % page_cell_count dialect ≡ place
  flags_is : number / (32 * page_cell_count dialect) ≡ flags

parts_are : (dialect : Dialect) (number piece rotation place flags : ℕ) → piece < 8 → rotation < 4 → place < page_cell_count dialect → number ≡ number_of_parts dialect piece rotation place flags → PartsAre dialect number piece rotation place flags
parts_are dialect number piece rotation place flags p r w is = search rules

number_of_its_parts : (dialect : Dialect) (number : ℕ) → number ≡ number_of_parts dialect (number % 8) (number / 8 % 4) (number / 32 % page_cell_count dialect) (number / (32 * page_cell_count dialect))
number_of_its_parts dialect number = search rules

place_below : (dialect : Dialect) (number : ℕ) → number / 32 % page_cell_count dialect < page_cell_count dialect
place_below dialect number = search rules

flags_below : (dialect : Dialect) (number : ℕ) → number < action_end dialect → number / (32 * page_cell_count dialect) < 32
flags_below dialect number below = search rules

below_end : (dialect : Dialect) (number piece rotation place flags : ℕ) → piece < 8 → rotation < 4 → place < page_cell_count dialect → flags < 32 → number ≡ number_of_parts dialect piece rotation place flags → number < action_end dialect
below_end dialect number piece rotation place flags p r w f is = search rules

piece_code-below : (piece : Piece) → piece_code piece < 8
piece_code-below piece = search rules

rotation_code-below : (rotation : Rotation) → rotation_code rotation < 4
rotation_code-below rotation = search rules

-- ---- codes

rotation_with_code-code : (rotation : Rotation) → rotation_with_code (rotation_code rotation) ≡ rotation
rotation_with_code-code rotation = search rules

rotation_code-with_code : (code : ℕ) → code < 4 → rotation_code (rotation_with_code code) ≡ code
rotation_code-with_code code below = search (rules, eqb-true, agree_below_at)

-- a piece has this code, or none is named by 0
abbrev has_code : Option Piece → ℕ → Bool
has_code None code = eqb code 0
has_code (Some piece) code = eqb (piece_code piece) code

named_code : (code : ℕ) → code < 8 → has_code (piece_with_code code) code ≡ true
named_code code below = agree_below_at (λ k. has_code (piece_with_code k) k) (λ _. true) 8 code refl below

-- ---- where a pivot is written

pub forth_in_byte : (a b : ℤ) → minus 31 ≤ℤ a → a ≤ℤ pos 31 → minus 2 ≤ℤ b → b ≤ℤ pos 2 → to_z w8 (of_z w8 (to_z w8 (of_z w8 a) +ℤ to_z w8 (of_z w8 b))) ≡ a +ℤ b
forth_in_byte a b g h k l = omega (arith, ints)

-- a small number with its sign turned
abbrev pub turned_in_byte : ℤ → ℤ
turned_in_byte b = to_z w8 (of_z w8 (pos 0 -ℤ to_z w8 (of_z w8 b)))

back_in_byte : (a b : ℤ) → minus 2 ≤ℤ b → b ≤ℤ pos 2 → a +ℤ turned_in_byte b ≡ a -ℤ b
back_in_byte a b k l = omega (arith, ints)

-- to move by the pair with both signs turned is to move back
pub moved-turned : (cell by : Cell) → is_near by ≡ true → moved cell (turned_in_byte by.0, turned_in_byte by.1) ≡ moved_back cell by
unfolding moved moved_back
moved-turned cell by small = search (rules, near_within, back_in_byte)

-- the pair with both signs turned is small too
pub written_by-turned : (piece : Piece) (rotation : Rotation) → is_near (turned_in_byte (written_by piece rotation).0, turned_in_byte (written_by piece rotation).1) ≡ true
written_by-turned = each_state (λ p r. is_near (turned_in_byte (written_by p r).0, turned_in_byte (written_by p r).1)) refl

moved_back-moved : (cell move : Cell) → moved_back (moved cell move) move ≡ cell
unfolding moved moved_back
moved_back-moved cell move = search (rules, common_steps)

moved-moved_back : (cell move : Cell) → moved (moved_back cell move) move ≡ cell
unfolding moved moved_back
moved-moved_back cell move = search (rules, common_steps)

-- ---- a placement at a cell

-- a piece with its pivot at a cell is placed
record IsPlacedAt (dialect : Dialect) (piece : Piece) (rotation : Rotation) (pivot : Cell) (operation : Option Placement) : Type 0 where
  placement : Placement
  is : operation ≡ Some placement
  kind : placement.piece ≡ piece
  turn : placement.rotation ≡ rotation
  there : pivot_of placement ≡ pivot
  inside : is_inside_in dialect placement ≡ true

chosen : (b : Bool) (p : Placement) (o : Option Placement) → ◌≡◌ {A = Result (Option Placement) ActionFault} (cond b (Ok (Some p)) (Err fault.Outside)) (Ok o) → (b ≡ true) × (o ≡ Some p)
chosen b p o e = search rules

refused : (b : Bool) (p : Placement) (f : ActionFault) → ◌≡◌ {A = Result (Option Placement) ActionFault} (cond b (Ok (Some p)) (Err fault.Outside)) (Err f) → (b ≡ false) × (f ≡ fault.Outside)
refused b p f e = search rules

placed_ok : (dialect : Dialect) (piece : Piece) (rotation : Rotation) (pivot : Cell) (operation : Option Placement) → placed dialect piece rotation pivot ≡ Ok operation → IsPlacedAt dialect piece rotation pivot operation
placed_ok dialect piece rotation (pos x, pos y) operation e =
    let p : Placement = record { piece = piece; rotation = rotation; x = x; y = y } in
    let c = chosen (list_all (in_rows dialect) (cells_at piece rotation (pos x, pos y))) p operation e in
    record { placement = p; is = c.1; kind = refl; turn = refl; there = refl; inside = c.0 }
placed_ok dialect piece rotation (pos x, negsuc y) operation e = absurd cc
placed_ok dialect piece rotation (negsuc x, pos y) operation e = absurd cc
placed_ok dialect piece rotation (negsuc x, negsuc y) operation e = absurd cc

-- the pivot is among the cells
left_of : (dialect : Dialect) (piece : Piece) (rotation : Rotation) (x : ℕ) (y : ℤ) → list_all (in_rows dialect) (cells_at piece rotation (negsuc x, y)) ≡ false
left_of dialect piece rotation x y = search (rules, false_from_ne_true, pivot_inside_in)

under : (dialect : Dialect) (piece : Piece) (rotation : Rotation) (x : ℤ) (y : ℕ) → list_all (in_rows dialect) (cells_at piece rotation (x, negsuc y)) ≡ false
under dialect piece rotation x y = search (rules, false_from_ne_true, pivot_inside_in)

other_fault : (f : ActionFault) → ◌≡◌ {A = Result (Option Placement) ActionFault} (Err fault.Outside) (Err f) → f ≡ fault.Outside
other_fault f e = cc

placed_err : (dialect : Dialect) (piece : Piece) (rotation : Rotation) (pivot : Cell) (f : ActionFault) → placed dialect piece rotation pivot ≡ Err f → (list_all (in_rows dialect) (cells_at piece rotation pivot) ≡ false) × (f ≡ fault.Outside)
placed_err dialect piece rotation (pos x, pos y) f e = search (rules, refused)
placed_err dialect piece rotation (pos x, negsuc y) f e = (under dialect piece rotation (pos x) y, other_fault f e)
placed_err dialect piece rotation (negsuc x, pos y) f e = (left_of dialect piece rotation x (pos y), other_fault f e)
placed_err dialect piece rotation (negsuc x, negsuc y) f e = (left_of dialect piece rotation x (negsuc y), other_fault f e)

placed_inside : (dialect : Dialect) (p : Placement) → is_inside_in dialect p ≡ true → placed dialect p.piece p.rotation (pivot_of p) ≡ Ok (Some p)
placed_inside dialect p inside = ap (λ (b : Bool). cond b (Ok (Some p)) (Err fault.Outside)) inside

placed_outside : (dialect : Dialect) (piece : Piece) (rotation : Rotation) (pivot : Cell) → list_all (in_rows dialect) (cells_at piece rotation pivot) ≡ false → placed dialect piece rotation pivot ≡ Err fault.Outside
placed_outside dialect piece rotation pivot outside = search rules

-- ---- the operation of a number

abbrev operation_in : Dialect → ℕ → Result (Option Placement) ActionFault
operation_in dialect number =
    operation_of dialect (piece_with_code (number % 8)) (rotation_with_code (number / 8 % 4)) (number / 32 % page_cell_count dialect)

abbrev flags_in : Dialect → ℕ → ℕ
flags_in dialect number = number / (32 * page_cell_count dialect)

-- a number that names a piece
names_from_parts : (dialect : Dialect) (number : ℕ) (piece : Piece) (pivot : Cell) → piece_with_code (number % 8) ≡ Some piece → moved_back (numbered_cell dialect (number / 32 % page_cell_count dialect)) (written_by piece (rotation_with_code (number / 8 % 4))) ≡ pivot
    → Names dialect number piece (rotation_with_code (number / 8 % 4)) pivot (flags_in dialect number)
names_from_parts dialect number piece pivot named there =
    search (rules, eqb-true, named_code, rotation_code-with_code, place_below, moved-moved_back, number_of_its_parts)

record IsReadAs (dialect : Dialect) (number flags : ℕ) (operation : Result (Option Placement) ActionFault) : Type 0 where
  gives : operation_in dialect number ≡ operation
  flags_are : flags_in dialect number ≡ flags

read_parts : (dialect : Dialect) (number piece rotation place flags : ℕ) → PartsAre dialect number piece rotation place flags → operation_in dialect number ≡ operation_of dialect (piece_with_code piece) (rotation_with_code rotation) place
read_parts dialect number piece rotation place flags parts = search rules

parts_of_names : (dialect : Dialect) (number : ℕ) (piece : Piece) (rotation : Rotation) (pivot : Cell) (flags : ℕ) (n : Names dialect number piece rotation pivot flags) → PartsAre dialect number (piece_code piece) (rotation_code rotation) n.place flags
parts_of_names dialect number piece rotation pivot flags n =
    parts_are dialect number (piece_code piece) (rotation_code rotation) n.place flags (piece_code-below piece) (rotation_code-below rotation) n.within n.number_is

read_from_names : (dialect : Dialect) (number : ℕ) (piece : Piece) (rotation : Rotation) (pivot : Cell) (flags : ℕ) → Names dialect number piece rotation pivot flags → IsReadAs dialect number flags (placed dialect piece rotation pivot)
read_from_names dialect number piece rotation pivot flags n =
    let parts = parts_of_names dialect number piece rotation pivot flags n in
    let by = written_by piece rotation in
    let there : moved_back (numbered_cell dialect n.place) by ≡ pivot = ap (λ (c : Cell). moved_back c by) n.written ∙ moved_back-moved pivot by in
    record {
      gives = read_parts dialect number (piece_code piece) (rotation_code rotation) n.place flags parts
          ∙ (ap (λ (o : Option Piece). operation_of dialect o (rotation_with_code (rotation_code rotation)) n.place) (piece_with_code-code piece)
          ∙ (ap (λ (r : Rotation). operation_of dialect (Some piece) r n.place) (rotation_with_code-code rotation) ∙ ap (λ (c : Cell). placed dialect piece rotation c) there));
      flags_are = parts.flags_is;
    }

says_from_operation : (dialect : Dialect) (number : ℕ) (operation : Option Placement) → operation_in dialect number ≡ Ok operation → SaysOperation dialect number operation (flags_in dialect number)
says_from_operation dialect number operation e = go (piece_with_code (number % 8)) refl
  where
    rotation : Rotation
    rotation = rotation_with_code (number / 8 % 4)

    place : ℕ
    place = number / 32 % page_cell_count dialect

    go : (o : Option Piece) → piece_with_code (number % 8) ≡ o → SaysOperation dialect number operation (flags_in dialect number)
    go None named = search (rules, rotation, eqb-true, named_code, place_below, number_of_its_parts)
    go (Some piece) named =
        let pivot = moved_back (numbered_cell dialect place) (written_by piece rotation) in
        let p = placed_ok dialect piece rotation pivot operation (ap (λ (o : Option Piece). operation_of dialect o rotation place) (sym named) ∙ e) in
        let q = p.placement in
        let names = names_from_parts dialect number piece pivot named refl in
        let there = subst (λ (c : Cell). Names dialect number piece rotation c (flags_in dialect number)) (sym p.there) names in
        let turned = subst (λ (r : Rotation). Names dialect number piece r (pivot_of q) (flags_in dialect number)) (sym p.turn) there in
        let kind = subst (λ (k : Piece). Names dialect number k q.rotation (pivot_of q) (flags_in dialect number)) (sym p.kind) turned in
        subst (λ (o : Option Placement). SaysOperation dialect number o (flags_in dialect number)) (sym p.is) (kind, p.inside)

operation_from_says : (dialect : Dialect) (number : ℕ) (operation : Option Placement) (flags : ℕ) → SaysOperation dialect number operation flags → IsReadAs dialect number flags (Ok operation)
operation_from_says dialect number None flags n = search (rules, parts_are, read_parts, flags_are)
operation_from_says dialect number (Some p) flags says =
    let read = read_from_names dialect number p.piece p.rotation (pivot_of p) flags says.0 in
    record { gives = read.gives ∙ placed_inside dialect p says.1; flags_are = read.flags_are }

number_below : (dialect : Dialect) (number : ℕ) (operation : Option Placement) (flags : ℕ) → flags < 32 → SaysOperation dialect number operation flags → number < action_end dialect
number_below dialect number operation flags below n = search (rules, below_end, piece_code-below, rotation_code-below)

-- ---- the action of a number

action_below : (dialect : Dialect) (number : ℕ) → number < action_end dialect → action_in dialect number ≡ with_flags (flags_in dialect number) (operation_in dialect number)
unfolding action_in
action_below dialect number below = search (rules, lt-ltb)

pub read_from_large : (dialect : Dialect) (number : ℕ) → action_end dialect ≤ number → action_in dialect number ≡ Err fault.TooLarge
unfolding action_in
read_from_large dialect number large = search (rules, le-ltb)

-- a number of the dialect, or a larger one
below_from_ok : (dialect : Dialect) (number : ℕ) (action : Action) → action_in dialect number ≡ Ok action → number < action_end dialect
below_from_ok dialect number action e = elim (cases_lt number (action_end dialect)) [ inl below ↦ below | inr large ↦ absurd (let bad = sym (read_from_large dialect number large) ∙ e in cc) ]

with_flags_ok : (flags : ℕ) (operation : Result (Option Placement) ActionFault) (action : Action) → with_flags flags operation ≡ Ok action → (o : Option Placement) × (operation ≡ Ok o) × (action_with flags o ≡ action)
with_flags_ok flags operation action e = search rules

with_flags_err : (flags : ℕ) (operation : Result (Option Placement) ActionFault) (f : ActionFault) → with_flags flags operation ≡ Err f → operation ≡ Err f
with_flags_err flags operation f e = search rules

pub says_from_read : (dialect : Dialect) (number : ℕ) (action : Action) → action_in dialect number ≡ Ok action → SaysAction dialect number action
says_from_read dialect number action e =
    let below = below_from_ok dialect number action e in
    let flags = flags_in dialect number in
    let o = with_flags_ok flags (operation_in dialect number) action (sym (action_below dialect number below) ∙ e) in
    let says = says_from_operation dialect number o.0 o.1 in
    let same_flags : flags_of (action_with flags o.0) ≡ flags = flags_of-action_with flags o.0 (flags_below dialect number below) in
    subst (λ (a : Action). SaysAction dialect number a) o.2 (subst (λ (k : ℕ). SaysOperation dialect number o.0 k) (sym same_flags) says)

pub read_from_says : (dialect : Dialect) (number : ℕ) (action : Action) → SaysAction dialect number action → action_in dialect number ≡ Ok action
read_from_says dialect number action says = search (rules, flags_are, number_below, operation_from_says, action_below)

-- ---- why a number says no action

outside_from_operation : (dialect : Dialect) (number : ℕ) (f : ActionFault) → number < action_end dialect → operation_in dialect number ≡ Err f → SaysOutside dialect number × (f ≡ fault.Outside)
outside_from_operation dialect number f below e = go (piece_with_code (number % 8)) refl
  where
    rotation : Rotation
    rotation = rotation_with_code (number / 8 % 4)

    place : ℕ
    place = number / 32 % page_cell_count dialect

    go : (o : Option Piece) → piece_with_code (number % 8) ≡ o → SaysOutside dialect number × (f ≡ fault.Outside)
    go None named = absurd (let bad : ◌≡◌ {A = Result (Option Placement) ActionFault} (Ok None) (Err f) = ap (λ (o : Option Piece). operation_of dialect o rotation place) (sym named) ∙ e in cc)
    go (Some piece) named =
        let pivot = moved_back (numbered_cell dialect place) (written_by piece rotation) in
        let p = placed_err dialect piece rotation pivot f (ap (λ (o : Option Piece). operation_of dialect o rotation place) (sym named) ∙ e) in (
          record {
            piece = piece;
            rotation = rotation;
            pivot = pivot;
            flags = flags_in dialect number;
            names = names_from_parts dialect number piece pivot named refl;
            flagged = flags_below dialect number below;
            outside = p.0;
          },
          p.1,
        )

-- a number says no action since it is too large, or names a piece outside
pub why_not : (dialect : Dialect) (number : ℕ) (f : ActionFault) → action_in dialect number ≡ Err f → ((action_end dialect ≤ number) × (f ≡ fault.TooLarge)) ⊎ (SaysOutside dialect number × (f ≡ fault.Outside))
why_not dialect number f e =
    elim (cases_lt number (action_end dialect)) [
      | inl below ↦ inr (outside_from_operation dialect number f below (with_flags_err (flags_in dialect number) (operation_in dialect number) f (sym (action_below dialect number below) ∙ e)))
      | inr large ↦ inl (large, let is = sym (read_from_large dialect number large) ∙ e in cc)
    ]

pub read_from_outside : (dialect : Dialect) (number : ℕ) → SaysOutside dialect number → action_in dialect number ≡ Err fault.Outside
read_from_outside dialect number s =
    let n = s.names in
    let below = below_end dialect number (piece_code s.piece) (rotation_code s.rotation) n.place s.flags (piece_code-below s.piece) (rotation_code-below s.rotation) n.within s.flagged n.number_is in
    let read = read_from_names dialect number s.piece s.rotation s.pivot s.flags n in
    action_below dialect number below
    ∙ ap (λ (o : Result (Option Placement) ActionFault). with_flags (flags_in dialect number) o) (read.gives ∙ placed_outside dialect s.piece s.rotation s.pivot s.outside)

pub large_from_read : (dialect : Dialect) (number : ℕ) → action_in dialect number ≡ Err fault.TooLarge → action_end dialect ≤ number
large_from_read dialect number e = search (rules, why_not)

pub outside_from_read : (dialect : Dialect) (number : ℕ) → action_in dialect number ≡ Err fault.Outside → SaysOutside dialect number
outside_from_read dialect number e = search (rules, why_not)

-- ---- what follows from what a number says

pub says_below : (dialect : Dialect) (number : ℕ) (action : Action) → SaysAction dialect number action → number < 245760
says_below dialect number action says = search (rules, number_below, flags_are)

operation_inside : (dialect : Dialect) (number : ℕ) (operation : Option Placement) (flags : ℕ) → SaysOperation dialect number operation flags → ForSome operation (λ p. is_inside_in dialect p ≡ true)
operation_inside dialect number operation flags says = search rules

pub says_inside : (dialect : Dialect) (number : ℕ) (action : Action) → SaysAction dialect number action → ForSome action.operation (λ p. is_inside_in dialect p ≡ true)
says_inside dialect number action says = operation_inside dialect number action.operation (flags_of action) says
