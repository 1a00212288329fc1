-- The table changes at the piece alone.
use Rattle.std.proofs.Common.{refl}
use Rattle.srs.specs.Rules.{table_of}
use Rattle.srs.proofs.TableLemmas.{same_tables}
use Rattle.srs.proofs.rules.Rules.with_offset.Goals as goal

pub returns-in-I : goal.returns-in-I
unfolding table_of
returns-in-I c = rw c.in-I.is (same_tables _ _ c.with_offset-rules.ensures refl refl refl refl refl refl)

pub returns-in-L : goal.returns-in-L
unfolding table_of
returns-in-L c = rw c.in-L.is (same_tables _ _ refl c.with_offset-rules-in-L.ensures refl refl refl refl refl)

pub returns-in-O : goal.returns-in-O
unfolding table_of
returns-in-O c = rw c.in-O.is (same_tables _ _ refl refl c.with_offset-rules-in-O.ensures refl refl refl refl)

pub returns-in-Z : goal.returns-in-Z
unfolding table_of
returns-in-Z c = rw c.in-Z.is (same_tables _ _ refl refl refl c.with_offset-rules-in-Z.ensures refl refl refl)

pub returns-in-T : goal.returns-in-T
unfolding table_of
returns-in-T c = rw c.in-T.is (same_tables _ _ refl refl refl refl c.with_offset-rules-in-T.ensures refl refl)

pub returns-in-J : goal.returns-in-J
unfolding table_of
returns-in-J c = rw c.in-J.is (same_tables _ _ refl refl refl refl refl c.with_offset-rules-in-J.ensures refl)

pub returns-in-S : goal.returns-in-S
unfolding table_of
returns-in-S c = rw c.in-S.is (same_tables _ _ refl refl refl refl refl refl c.with_offset-rules-in-S.ensures)
