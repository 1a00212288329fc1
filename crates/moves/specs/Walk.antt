-- Where lists of keys lead by any table of moves, and whether some list leads to a state that passes a test.
use Rattle.std.specs.Prelude.{◌≡◌, ℕ, zero, suc, Bool, true, false, ◌&&◌, ◌||◌, Option, Some, List, fold, option_and_then}
use Rattle.std.specs.Option.{option_map_or}
use Rattle.std.specs.List.{list_all, list_any}
use Rattle.srs.specs.declared.placement.Placement.{Placement}
use Rattle.moves.specs.declared.key.Key.{Key}
use Rattle.moves.specs.Keys.{all_keys}

-- the state to which keys lead from a start, or nothing
abbrev pub led : (Placement → Key → Option Placement) → Option Placement → List Key → Option Placement
led next start keys = fold (λ reached key. option_and_then (λ state. next state key) reached) start keys

-- these keys, each allowed, lead from the start to a state
pub record Leads (next : Placement → Key → Option Placement) (allowed : Key → Bool) (start : Option Placement)
    (target : Placement) (keys : List Key) : Type 0 where
  pub each : list_all allowed keys ≡ true
  pub reached : led next start keys ≡ Some target

-- some list of at most so many allowed keys leads from the state to one that passes the test
unfoldable pub some_keys_lead : (Placement → Key → Option Placement) → (Key → Bool) → (Placement → Bool) → ℕ
    → Placement → Bool
some_keys_lead next allowed passes zero state = passes state
some_keys_lead next allowed passes (suc n) state =
    passes state || list_any (λ key. allowed key && option_map_or (some_keys_lead next allowed passes n)
    (next state key) false) all_keys
