-- The five flags of an action and their one number, tried at all 32.
use Rattle.std.proofs.Common.{◌≡◌, ℕ, ◌+◌, ◌*◌, ◌/◌, ◌%◌, ◌<◌, Bool, true, false, not, ◌&&◌, eqb, ltb, Option, arith, rules}
use Rattle.std.proofs.lemmas.Bool.{agree_below_at, eqb-true, ltb-true, and_parts}
use Rattle.std.proofs.lemmas.Grind.{common_steps}
use Rattle.srs.specs.declared.placement.Placement.{Placement}
use Rattle.fumen_pages.specs.declared.action.Action.{Action}
use Rattle.fumen_pages.specs.Action.{bit, flags_of}
use Rattle.fumen_pages.specs.Reading.{action_with}

both : (Bool → Bool) → Bool
both test = test true && test false

each_flag : (test : Bool → Bool) → both test ≡ true → (flag : Bool) → test flag ≡ true
unfolding both
each_flag test all flag = search (rules, and_parts)

same : Bool → Bool → Bool
same true flag = flag
same false flag = not flag

same-is : (a b : Bool) → same a b ≡ true → a ≡ b
unfolding same
same-is a b e = search rules

abbrev flags_number : Bool → Bool → Bool → Bool → Bool → ℕ
flags_number rise mirror colour comment lock = bit rise + 2 * bit mirror + 4 * bit colour + 8 * bit comment + 16 * bit (not lock)

-- each flag is read from the number of all
are_read : Bool → Bool → Bool → Bool → Bool → Bool
are_read rise mirror colour comment lock =
    let flags = flags_number rise mirror colour comment lock in
    same (eqb (flags % 2) 1) rise && (same (eqb (flags / 2 % 2) 1) mirror && (same (eqb (flags / 4 % 2) 1) colour && (same (eqb (flags / 8 % 2) 1) comment && (same (eqb (flags / 16 % 2) 0) lock && ltb flags 32))))

all_read : (rise mirror colour comment lock : Bool) → are_read rise mirror colour comment lock ≡ true
unfolding both same are_read
all_read rise mirror colour comment lock = grind (arith, common_steps, each_flag)

-- an action is that of its flags, of which there are five
pub record FlagsAre (action : Action) : Type 0 where
  pub whole : action_with (flags_of action) action.operation ≡ action
  pub below : flags_of action < 32

pub flags_are : (action : Action) → FlagsAre action
unfolding are_read
flags_are action = grind (arith, common_steps, and_parts, all_read, same-is, ltb-true)

pub flags_of-action_with : (flags : ℕ) (operation : Option Placement) → flags < 32 → flags_of (action_with flags operation) ≡ flags
flags_of-action_with flags operation below = search (rules, eqb-true, agree_below_at)
