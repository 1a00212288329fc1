-- The letters of the first cells are written.
use Rattle.std.proofs.Common.{◌≡◌, length, take}
use Rattle.fumen_pages.specs.Letters.{letters_of}
use Rattle.fumen_pages.proofs.letters.letters_of.Given as goal

abbrev pub invariant-loop-index : goal.invariant-loop-index
invariant-loop-index l =
    (length l.letters ≡ 240) × (take l.index l.letters ≡ letters_of (take l.index l.cells))
