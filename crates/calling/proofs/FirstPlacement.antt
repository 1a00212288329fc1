-- A solution has a first placement, and this is a place in the field.
use Rattle.std.proofs.lemmas.Grind.{common_steps}
use Rattle.std.proofs.Common.{◌≡◌, ◌<◌, List, [], ◌∷◌, length, get_or, arith, sym, subst, ℕ, rules}
use Rattle.std.specs.Prelude.{None, Some}
use Rattle.srs.specs.declared.placement.Placement.{Placement}
use Rattle.srs.specs.Order.{sequence_cmp}
use Rattle.srs.specs.Rules.{table_of}
use Rattle.srs.specs.Rising.{IsLeastAbove}
use Rattle.well.specs.Well.{filled}
use Rattle.moves.specs.Place.{IsPlace}
use Rattle.moves.specs.declared.key.Key.{Key}
use Rattle.key_path.specs.LeastKeyWord.{IsLeastKeyWord}
use Rattle.problem.specs.declared.problem.Problem.{Problem}
use Rattle.problem.specs.Problem.{IsFit}
use Rattle.problem.specs.Solution.{IsSolution}
use Rattle.srs.specs.declared.piece.Piece.{Piece}
use Rattle.srs.specs.declared.rules.Rules.{Rules}
use Rattle.srs.specs.Kick.{srs_table}
use Rattle.well.specs.declared.well.Well.{Well}
use Rattle.moves.specs.declared.key.DropMode.TheVariants.{Soft}
use Rattle.queue_pattern.specs.declared.pattern.Pattern.{Pattern}
use Rattle.queue_pattern.specs.Pattern.{elements_of}
use Rattle.hold_queue.specs.declared.hold.Hold.TheVariants.{Allowed}
use Rattle.queue_pattern.specs.Grammar.{singles}
use Rattle.queue_pattern.proofs.CallerLemmas.{queues-singles}
use Rattle.calling.specs.FirstMove.{BeginsLeast, IsBotProblem}

module _ (problem : Problem) (fit : IsFit problem) where
  pub some_placement : (s : List Placement) → IsSolution problem None s → 0 < length s
  some_placement [] is = let some = fit.field.fit.some in absurd (omega (arith, is.plays.0, some))
  some_placement (q ∷ s) is = omega arith

  pub first_place : (s : List Placement) (d : Placement) → IsSolution problem None s → IsPlace (table_of problem.rules) (filled problem.well) problem.drop_mode (get_or s 0 d)
  first_place [] d is = let some = fit.field.fit.some in absurd (omega (arith, is.plays.0, some))
  first_place (q ∷ s) d is = is.plays.0

  pub first_begins : (s : List Placement) (d q : Placement) (keys : List Key) → q ≡ get_or s 0 d → IsLeastAbove sequence_cmp (IsSolution problem None) None s
      → IsLeastKeyWord (table_of problem.rules) (filled problem.well) problem.drop_mode (get_or s 0 d) (Some keys) → BeginsLeast problem q keys
  first_begins [] d q keys same least word = let some = fit.field.fit.some in absurd (omega (arith, least.member.plays.0, some))
  first_begins (p ∷ s) d q keys same least word = subst (λ q. BeginsLeast problem q keys) (sym same) (record { rest = s; least = least; least_keys = word })

-- the problem that a bot asks about
abbrev pub bot_problem : Well → ℕ → Pattern → Rules → Problem
bot_problem well height pattern rules = record {
  well = well;
  height = height;
  pattern = pattern;
  hold = Allowed;
  held = None;
  drop_mode = Soft;
  rules = rules;
}

pub is_bot_problem : (well : Well) (height : ℕ) (queue : List Piece) (pattern : Pattern) (rules : Rules) → elements_of pattern ≡ singles queue → table_of rules ≡ srs_table → IsBotProblem well height queue (bot_problem well height pattern rules)
is_bot_problem well height queue pattern rules one srs = grind (arith, common_steps, queues-singles)
