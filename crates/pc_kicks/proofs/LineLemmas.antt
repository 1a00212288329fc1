-- The lines of all rotations, and of all pieces.
use Rattle.std.proofs.Common.{◌≡◌, ◌∙◌, ℕ, ◌+◌, ◌<◌, ◌≤◌, true, List, [], ◌∷◌, ◌++◌, get_or, take, refl, ap, sym, append_assoc, arith}
use Rattle.std.specs.List.{flat_map, list_all}
use Rattle.std.proofs.lemmas.List.{flat_map_more, take_more}
use Rattle.std.proofs.lemmas.Bool.{and_from}
use Rattle.srs.specs.declared.piece.Piece.{Piece}
use Rattle.srs.specs.declared.piece.Piece.TheVariants.{I}
use Rattle.srs.specs.declared.rotation.Rotation.{Rotation}
use Rattle.srs.specs.declared.rotation.Rotation.TheVariants.{Spawn}
use Rattle.srs.specs.Kick.{Table, IsSmallTable, kick_in, kicks_of}
use Rattle.srs.specs.Piece.{all_pieces}
use Rattle.srs.specs.Rotation.{all_rotations, anticlockwise_of, clockwise_of}
use Rattle.kick_file.specs.Printing.{is_short_move}
use Rattle.kick_file.proofs.CallerLemmas.{kick_short}
use Rattle.pc_kicks.specs.Lines.{both_turns, entry_line, entry_lines, kicks_form, turn_line, turn_lines}

pub kicks_short : (table : Table) (piece : Piece) (from to : Rotation) → IsSmallTable table → list_all is_short_move (kicks_of table piece from to) ≡ true
kicks_short table piece from to small =
    let at : (test : ℕ) → 1 ≤ test → test ≤ 5 → is_short_move (kick_in table piece from to test) ≡ true = λ test. kick_short table piece from to test small in
    let a = kick_in table piece from to 1 in
    let b = kick_in table piece from to 2 in
    let c = kick_in table piece from to 3 in
    let d = kick_in table piece from to 4 in
    let e = kick_in table piece from to 5 in
    and_from (is_short_move a) (list_all is_short_move (b ∷ c ∷ d ∷ e ∷ [])) (at 1 (omega arith) (omega arith))
    (and_from (is_short_move b) (list_all is_short_move (c ∷ d ∷ e ∷ [])) (at 2 (omega arith) (omega arith))
    (and_from (is_short_move c) (list_all is_short_move (d ∷ e ∷ [])) (at 3 (omega arith) (omega arith))
    (and_from (is_short_move d) (list_all is_short_move (e ∷ [])) (at 4 (omega arith) (omega arith))
    (and_from (is_short_move e) true (at 5 (omega arith) (omega arith)) refl))))

pub entries_end : (now base : List ℕ) (table : Table) (piece : Piece) (index : ℕ) → 4 ≤ index → index ≤ 4
    → now ≡ base ++ flat_map (entry_line table piece) (take index all_rotations) → now ≡ base ++ entry_lines table piece
unfolding entry_lines
entries_end now base table piece index low high is =
    let all : index ≡ 4 = omega (arith, low, high) in
    is ∙ ap (λ n. base ++ flat_map (entry_line table piece) (take n all_rotations)) all

pub turns_end : (now base : List ℕ) (table : Table) (piece : Piece) (index : ℕ) → 4 ≤ index → index ≤ 4
    → now ≡ base ++ flat_map (both_turns table piece) (take index all_rotations) → now ≡ base ++ turn_lines table piece
unfolding turn_lines
turns_end now base table piece index low high is =
    let all : index ≡ 4 = omega (arith, low, high) in
    is ∙ ap (λ n. base ++ flat_map (both_turns table piece) (take n all_rotations)) all

-- both turns of one more rotation
pub both_more : (now mid before base : List ℕ) (table : Table) (piece : Piece) (index : ℕ) (right left : Rotation) → index < 4
    → before ≡ base ++ flat_map (both_turns table piece) (take index all_rotations)
    → right ≡ clockwise_of (get_or all_rotations index Spawn) → left ≡ anticlockwise_of (get_or all_rotations index Spawn)
    → mid ≡ before ++ turn_line table piece (get_or all_rotations index Spawn) right
    → now ≡ mid ++ turn_line table piece (get_or all_rotations index Spawn) left
    → now ≡ base ++ flat_map (both_turns table piece) (take (index + 1) all_rotations)
both_more now mid before base table piece index right left within stands clockwise anticlockwise first second =
    let f = both_turns table piece in
    let from = get_or all_rotations index Spawn in
    let line = turn_line table piece from in
    second ∙ ap (λ m. m ++ line left) first ∙ append_assoc before (line right) (line left)
    ∙ (λ i. before ++ (line (clockwise i) ++ line (anticlockwise i))) ∙ ap (λ b. b ++ f from) stands
    ∙ flat_map_more f base (take index all_rotations) from
    ∙ ap (λ xs. base ++ flat_map f xs) (sym (take_more all_rotations index Spawn within))

pub lines_end : (now before : List ℕ) (table : Table) (entries turns : ℕ) → 7 ≤ entries → entries ≤ 7 → 7 ≤ turns → turns ≤ 7
    → before ≡ flat_map (entry_lines table) (take entries all_pieces) → now ≡ before ++ flat_map (turn_lines table) (take turns all_pieces) → now ≡ kicks_form table
unfolding kicks_form
lines_end now before table entries turns low high few many first second =
    let one : entries ≡ 7 = omega (arith, low, high) in
    let other : turns ≡ 7 = omega (arith, few, many) in
    second ∙ ap (λ b. b ++ flat_map (turn_lines table) (take turns all_pieces)) first
    ∙ (λ i. flat_map (entry_lines table) (take (one i) all_pieces) ++ flat_map (turn_lines table) (take (other i) all_pieces))

-- the turns of one more piece
pub piece_more : (now before base : List ℕ) (table : Table) (index : ℕ) → index < 7 → before ≡ base ++ flat_map (turn_lines table) (take index all_pieces)
    → now ≡ before ++ turn_lines table (get_or all_pieces index I) → now ≡ base ++ flat_map (turn_lines table) (take (index + 1) all_pieces)
piece_more now before base table index within stands more =
    more ∙ ap (λ b. b ++ turn_lines table (get_or all_pieces index I)) stands
    ∙ flat_map_more (turn_lines table) base (take index all_pieces) (get_or all_pieces index I)
    ∙ ap (λ xs. base ++ flat_map (turn_lines table) xs) (sym (take_more all_pieces index I within))
