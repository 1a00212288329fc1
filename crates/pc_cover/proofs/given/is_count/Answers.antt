-- Too short, too long, or by its digits.
use Rattle.std.proofs.Common.{◌≡◌, ◌&&◌, Bool, true, false, nat_lt, nat_le, length, le-ltb, lt-ltb, rules}
use Rattle.std.proofs.lemmas.Bool.{le-leb, lt-leb}
use Rattle.pc_cover.specs.Given.{is_count}
use Rattle.pc_cover.proofs.given.is_count.Goals as goal

second_off : (a b c : Bool) → b ≡ false → false ≡ (a && (b && c))
second_off a b c e = search rules

both_on : (a b c : Bool) → a ≡ true → b ≡ true → c ≡ (a && (b && c))
both_on a b c e f = search rules

pub returns-then-is_empty : goal.returns-then-is_empty
unfolding is_count
returns-then-is_empty c = search (rules, (le-ltb 0 (length c.args.text.now)))

pub returns-then-text-gt20 : goal.returns-then-text-gt20
unfolding is_count
returns-then-text-gt20 c = search (rules, (second_off (nat_lt 0 (length c.args.text.now))), (lt-leb (length c.args.text.now) 20))

pub returns : goal.returns
unfolding is_count
returns c =
    search (rules, (both_on (nat_lt 0 (length c.args.text.now)) (nat_le (length c.args.text.now) 20)), (lt-ltb 0 (length c.args.text.now)), (le-leb (length c.args.text.now) 20))
