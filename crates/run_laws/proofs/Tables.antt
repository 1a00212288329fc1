-- Rules for each table that a text of offsets spells.
use Rattle.std.proofs.lemmas.Grind.{common_steps}
use Rattle.std.proofs.Common.{◌≡◌, ◌↔◌, ℕ, suc, true, List, [], ◌∷◌, length, map, refl, ap, sym, subst, ◌∙◌, rules, arith}
use Rattle.std.specs.Prelude.{Ok, Result, fold}
use Rattle.std.specs.List.{list_all}
use Rattle.std.proofs.Math.Path.{fun_ext}
use Rattle.std.proofs.lemmas.Bool.{and_from, and_parts}
use Rattle.srs.specs.declared.offset.Offset.{Offset}
use Rattle.srs.specs.declared.piece.Piece.{Piece}
use Rattle.srs.specs.declared.piece.Piece.TheVariants.{I, L, O, Z, T, J, S}
use Rattle.srs.specs.declared.rotation.Rotation.{Rotation}
use Rattle.srs.specs.declared.rotation.Rotation.TheVariants.{Spawn, Right, Reverse, Left}
use Rattle.srs.specs.declared.rules.Rules.{Rules}
use Rattle.srs.specs.declared.rules.Tests.{Tests}
use Rattle.srs.specs.declared.rules.PieceOffsets.{PieceOffsets}
use Rattle.srs.specs.Cells.{Cell}
use Rattle.srs.specs.Kick.{IsSmallTable, Table, is_small, is_small_move, pair_of, srs_table}
use Rattle.srs.specs.Rules.{table_of, piece_table}
use Rattle.kick_file.specs.declared.fault.KickFault.{KickFault}
use Rattle.kick_file.specs.Faults.{IsReadAs, SpellsTable}
use Rattle.kick_file.specs.Reading.{kick_text}
use Rattle.kick_file.specs.Form.{Entry, SpellsEntries, SpellsEntry, table_with_entry}

-- ---- a table that a text spells has five small offsets for each piece and rotation

pub srs_small : IsSmallTable srs_table
srs_small = search rules

with_small : (table : Table) (entry : Entry) (text : List ℕ) → SpellsEntry text entry → IsSmallTable table → IsSmallTable (table_with_entry table entry)
with_small table entry text spelled small = grind (arith, common_steps)

entries_small : (table : Table) (entries : List Entry) (text : List ℕ) → SpellsEntries text entries → IsSmallTable table → IsSmallTable (fold table_with_entry table entries)
entries_small table [] text spelled small = small
entries_small table (entry ∷ []) text spelled small = with_small table entry text spelled small
entries_small table (entry ∷ next ∷ entries) text spelled small =
    entries_small (table_with_entry table entry) (next ∷ entries) spelled.1 spelled.4 (with_small table entry spelled.0 spelled.3 small)

spelled_small : (text : List ℕ) (table : Table) → SpellsTable text table → IsSmallTable table
spelled_small text table spelled = subst IsSmallTable (sym spelled.is) (entries_small srs_table spelled.entries text spelled.spelled srs_small)

pub read_small : ((text : List ℕ) (read : Result Table KickFault) → (kick_text text ≡ read) ↔ IsReadAs text read) → (text : List ℕ) (table : Table) → kick_text text ≡ Ok table → IsSmallTable table
read_small tables text table read = spelled_small text table ((tables text (Ok table)).0 read)

-- ---- so there are rules that keep it

offset_of : Cell → Offset
offset_of (dx, dy) = record { dx = dx; dy = dy }

pairs_same : (cells : List Cell) → map pair_of (map offset_of cells) ≡ cells
unfolding offset_of
pairs_same [] = refl
pairs_same ((dx, dy) ∷ cells) = ap (λ l. (dx, dy) ∷ l) (pairs_same cells)

offsets_count : (cells : List Cell) → length (map offset_of cells) ≡ length cells
offsets_count [] = refl
offsets_count (cell ∷ cells) = ap (λ n. suc n) (offsets_count cells)

offsets_small : (cells : List Cell) → list_all is_small_move cells ≡ true → list_all is_small (map offset_of cells) ≡ true
unfolding offset_of
offsets_small [] small = refl
offsets_small ((dx, dy) ∷ cells) small =
    let parts = and_parts (is_small_move (dx, dy)) (list_all is_small_move cells) small in
    and_from (is_small_move (dx, dy)) (list_all is_small (map offset_of cells)) parts.0 (offsets_small cells parts.1)

module _ (table : Table) (small : IsSmallTable table) where
  tests_at : Piece → Rotation → Tests
  tests_at p r = record {
    offsets = map offset_of (table p r);
    five = offsets_count (table p r) ∙ small.five p r;
    small = offsets_small (table p r) (small.small p r);
  }

  piece_offsets_at : Piece → PieceOffsets
  piece_offsets_at p = record { spawn = tests_at p Spawn; right = tests_at p Right; reverse = tests_at p Reverse; left = tests_at p Left }

  made : Rules
  made = record { i = piece_offsets_at I; l = piece_offsets_at L; o = piece_offsets_at O; z = piece_offsets_at Z; t = piece_offsets_at T; j = piece_offsets_at J; s = piece_offsets_at S }

  piece_tables_same : (p : Piece) (r : Rotation) → piece_table (piece_offsets_at p) r ≡ table p r
  unfolding piece_offsets_at tests_at
  piece_tables_same p Spawn = pairs_same (table p Spawn)
  piece_tables_same p Right = pairs_same (table p Right)
  piece_tables_same p Reverse = pairs_same (table p Reverse)
  piece_tables_same p Left = pairs_same (table p Left)

  at_piece : (p : Piece) (r : Rotation) → table_of made p r ≡ table p r
  unfolding table_of made
  at_piece I r = piece_tables_same I r
  at_piece L r = piece_tables_same L r
  at_piece O r = piece_tables_same O r
  at_piece Z r = piece_tables_same Z r
  at_piece T r = piece_tables_same T r
  at_piece J r = piece_tables_same J r
  at_piece S r = piece_tables_same S r

  pub rules-made : (rules : Rules) × (table_of rules ≡ table)
  rules-made = (made, fun_ext (λ p. fun_ext (λ r. at_piece p r)))
