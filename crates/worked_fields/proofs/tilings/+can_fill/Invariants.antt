-- There is one piece fewer to come.
use Rattle.worked_fields.proofs.tilings.+can_fill.Given as goal

abbrev pub decreases-can_fill : goal.decreases-can_fill
decreases-can_fill l = l.pieces
