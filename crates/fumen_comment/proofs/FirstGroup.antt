-- The first group of a comment, behind which memory is taken.
use Rattle.std.proofs.Common.{◌≡◌, ◌≢◌, ℕ, ◌+◌, ◌<◌, ◌≤◌, List, [], length, Ok, arith, rules}
use Rattle.fumen_digits.specs.Reading.{number_at}
use Rattle.fumen_digits.proofs.CallerLemmas.{bind_ok, stands_from_read}
use Rattle.fumen_comment.specs.Part.{group_count}
use Rattle.fumen_comment.specs.Reading.{HasFirst, text_at}
use Rattle.fumen_comment.specs.Faults.{HasGroup}
use Rattle.fumen_comment.proofs.Groups.{group_from_read, done_text}

-- a length and its first group were read
pub group_from_first : (ds : List ℕ) (place total : ℕ) → place ≤ length ds → number_at ds place 2 ≡ Ok total → HasFirst ds (place + 2) total → HasGroup ds place
group_from_first ds place total le read first =
    search (rules, (group_from_read ds (place + 2) total first.1 (stands_from_read ds place place 2 total le read).stands.within first.2), (stands_from_read ds place place 2 total le read))

fewest : (count : ℕ) → 0 < group_count count → 0 < count
fewest count some = omega (arith, some)

-- of a text that has any character the first group was read
pub first_from_text : (ds : List ℕ) (place count : ℕ) (text : List ℕ × ℕ) → text_at ds place count (group_count count) ≡ Ok text → text.0 ≢ [] → HasFirst ds place count
unfolding text_at
first_from_text ds place count text read some = search (rules, done_text, bind_ok, fewest)
