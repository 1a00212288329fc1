-- No cell lies past column 9.
use Rattle.std.proofs.Common.{◌≡◌, Bool, true, ◌&&◌, rules}
use Rattle.std.proofs.Math.Path.{fun_ext}
use Rattle.std.proofs.lemmas.Bool.{le-leb}
use Rattle.empty_cells.proofs.ShiftedLemmas.{shifted_small}
use Rattle.empty_cells.proofs.shifted.Shifted.cells.Goals as goal

within : (p q : Bool) → (q ≡ true → p ≡ true) → (p && q) ≡ q
within p q all = search rules

pub returns : goal.returns
returns c = search (rules, fun_ext, c.to_column.ensures, within, le-leb, (shifted_small c.args.self.now))
