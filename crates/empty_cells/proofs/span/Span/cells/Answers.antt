-- Each of the lowest 32 bits is computed.
use Rattle.std.proofs.Common.{refl, lit<}
use Rattle.std.proofs.lemmas.Bool.{agree_below_at}
use Rattle.lane_board.specs.Lanes.{has_bit}
use Rattle.empty_cells.specs.declared.span.Span.TheVariants.{First, Second, Third, FirstTwo, SecondTwo, FirstThree, AllFour}
use Rattle.empty_cells.proofs.SpanBits.{is_column_bit, each_column_bit}
use Rattle.empty_cells.proofs.span.Span.cells.Goals as goal

pub returns-in-First-clause-bits : goal.returns-in-First-clause-bits
unfolding has_bit
returns-in-First-clause-bits c = rw c.in-First.is (λ k. each_column_bit First 1 k (lit< tt) (λ j. agree_below_at (has_bit 1) (is_column_bit First) 32 j refl))

pub returns-in-Second-clause-bits : goal.returns-in-Second-clause-bits
unfolding has_bit
returns-in-Second-clause-bits c = rw c.in-Second.is (λ k. each_column_bit Second 256 k (lit< tt) (λ j. agree_below_at (has_bit 256) (is_column_bit Second) 32 j refl))

pub returns-in-Third-clause-bits : goal.returns-in-Third-clause-bits
unfolding has_bit
returns-in-Third-clause-bits c = rw c.in-Third.is (λ k. each_column_bit Third 65536 k (lit< tt) (λ j. agree_below_at (has_bit 65536) (is_column_bit Third) 32 j refl))

pub returns-in-FirstTwo-clause-bits : goal.returns-in-FirstTwo-clause-bits
unfolding has_bit
returns-in-FirstTwo-clause-bits c = rw c.in-FirstTwo.is (λ k. each_column_bit FirstTwo 257 k (lit< tt) (λ j. agree_below_at (has_bit 257) (is_column_bit FirstTwo) 32 j refl))

pub returns-in-SecondTwo-clause-bits : goal.returns-in-SecondTwo-clause-bits
unfolding has_bit
returns-in-SecondTwo-clause-bits c = rw c.in-SecondTwo.is (λ k. each_column_bit SecondTwo 65792 k (lit< tt) (λ j. agree_below_at (has_bit 65792) (is_column_bit SecondTwo) 32 j refl))

pub returns-in-FirstThree-clause-bits : goal.returns-in-FirstThree-clause-bits
unfolding has_bit
returns-in-FirstThree-clause-bits c = rw c.in-FirstThree.is (λ k. each_column_bit FirstThree 65793 k (lit< tt) (λ j. agree_below_at (has_bit 65793) (is_column_bit FirstThree) 32 j refl))

pub returns-in-AllFour-clause-bits : goal.returns-in-AllFour-clause-bits
unfolding has_bit
returns-in-AllFour-clause-bits c = rw c.in-AllFour.is (λ k. each_column_bit AllFour 16843009 k (lit< tt) (λ j. agree_below_at (has_bit 16843009) (is_column_bit AllFour) 32 j refl))
