-- A sequence clears a field where its first placement is a place there and the others clear what is left.
use Rattle.std.proofs.Common.{◌≡◌, ℕ, ◌+◌, ◌-◌, ◌≤◌, true, List, ◌∷◌, sym, subst, arith}
use Rattle.srs.specs.declared.placement.Placement.{Placement}
use Rattle.srs.specs.Kick.{Table}
use Rattle.lane_board.specs.Field.{Field}
use Rattle.well.specs.Lock.{locked, rows_removed}
use Rattle.well.specs.LockLaws.{is_below}
use Rattle.moves.specs.declared.key.DropMode.{DropMode}
use Rattle.moves.specs.Place.{IsPlace}
use Rattle.problem.specs.Plays.{Plays}
use Rattle.problem.proofs.CallerLemmas.{IsLow, locked-low}
use Rattle.moves.proofs.CallerLemmas.{place-free}

-- the whole clears the first field exactly where the rest clears the field that is left
pub record IsPlayed (table : Table) (mode : DropMode) (start : Field) (height : ℕ) (whole : List Placement) (F : Field) (rows : ℕ) (rest : List Placement) (before now done : ℕ) : Type 0 where
  pub goes : Plays table mode start height whole → Plays table mode F rows rest
  pub comes : Plays table mode F rows rest → Plays table mode start height whole
  pub low : IsLow F rows
  pub rose : before ≤ now
  pub few : now ≤ before + done

pub played-starts : (table : Table) (mode : DropMode) (F : Field) (height : ℕ) (whole : List Placement) (before : ℕ) → IsLow F height → IsPlayed table mode F height whole F height whole before before 0
played-starts table mode F height whole before low = record { goes = λ plays. plays; comes = λ plays. plays; low = low; rose = omega arith; few = omega arith }

module _ (table : Table) (mode : DropMode) (start F : Field) (height rows : ℕ) (whole more rest : List Placement) (q : Placement) (before now next done : ℕ)
    (so_far : IsPlayed table mode start height whole F rows rest before now done) (split : rest ≡ q ∷ more) where
  plays-split : Plays table mode start height whole → Plays table mode F rows (q ∷ more)
  plays-split plays = subst (Plays table mode F rows) split (so_far.goes plays)

  pub played-goes_on : (G : Field) (left : ℕ) → IsPlace table F mode q → is_below rows q ≡ true → G ≡ locked F q → left ≡ rows - rows_removed F q → next ≡ now + 1
      → IsPlayed table mode start height whole G left more before next (done + 1)
  played-goes_on G left place below is fewer counted = record {
    goes = λ plays. subst (λ n. Plays table mode G n more) (sym fewer) (subst (λ H. Plays table mode H (rows - rows_removed F q) more) (sym is) (plays-split plays).2);
    comes = λ plays.
        so_far.comes (subst (Plays table mode F rows) (sym split)
        (place, below, subst (λ H. Plays table mode H (rows - rows_removed F q) more) is (subst (λ n. Plays table mode G n more) fewer plays)));
    low = subst (λ n. IsLow G n) (sym fewer) (subst (λ H. IsLow H (rows - rows_removed F q)) (sym is) (locked-low F rows q so_far.low below (place-free table F mode q place)));
    rose = omega (arith, so_far.rose, counted);
    few = omega (arith, so_far.few, counted);
  }
