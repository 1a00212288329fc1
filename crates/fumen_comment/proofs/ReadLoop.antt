-- Reading the groups of a text one after the other, as a loop does.
use Rattle.std.proofs.Common.{◌≡◌, ℕ, suc, ◌+◌, ◌-◌, ◌<◌, ◌≤◌, ◌⊎◌, inl, inr, List, [], ◌++◌, length, take, Result, Ok, refl, sym, append_assoc, arith, rules}
use Rattle.std.proofs.lemmas.List.{append-nil}
use Rattle.pc_outside.specs.declared.answers.Refused.{Refused}
use Rattle.pc_outside.specs.declared.answers.Refused.TheVariants as refused
use Rattle.fumen_digits.specs.declared.fault.FumenFault.{FumenFault}
use Rattle.fumen_digits.specs.Reading.{◌>>=◌}
use Rattle.fumen_digits.specs.ReadResults.{IsRefusal}
use Rattle.fumen_digits.proofs.CallerLemmas.{ok_bind, err_bind}
use Rattle.fumen_comment.specs.declared.part.CommentFault.{CommentFault}
use Rattle.fumen_comment.specs.Part.{unpacked, group_count}
use Rattle.fumen_comment.specs.Reading.{HasFirst, group_at, text_at}
use Rattle.fumen_comment.specs.Faults.{comment_fault}

-- what is read so far, before what is still to come
unfoldable pub with_front : List ℕ → Result (List ℕ × ℕ) FumenFault → Result (List ℕ × ℕ) FumenFault
with_front front read = read >>= λ x. Ok (front ++ x.0, x.1)

abbrev pub rest_at : List ℕ → ℕ → ℕ → Result (List ℕ × ℕ) FumenFault
rest_at ds place left = text_at ds place left (group_count left)

-- what is read so far, and what is left completes the text
pub record IsReadSoFar (ds : List ℕ) (start count : ℕ) (text : List ℕ) (place left : ℕ) : Type 0 where
  pub within : place ≤ length ds
  pub completes : with_front text (rest_at ds place left) ≡ rest_at ds start count
  pub begun : ((place ≡ start) × (left ≡ count)) ⊎ HasFirst ds start count

pub from_nothing : (read : Result (List ℕ × ℕ) FumenFault) → with_front [] read ≡ read
unfolding with_front
from_nothing read = search rules

pub text_starts : (ds : List ℕ) (start count : ℕ) → start ≤ length ds → IsReadSoFar ds start count [] start count
text_starts ds start count le = record { within = le; completes = from_nothing (rest_at ds start count); begun = inl (refl, refl) }

-- where a group was read, the first one was
pub first_read : (ds : List ℕ) (start count : ℕ) (text : List ℕ) (place left group : ℕ) → 0 < left → group_at ds place left ≡ Ok group → IsReadSoFar ds start count text place left → HasFirst ds start count
first_read ds start count text place left group some read s = elim s.begun [
  | inl same ↦ rw (sym same.0, sym same.1) (some, group, read)
  | inr has ↦ has
]

pub regroup : (front more : List ℕ) (read : Result (List ℕ × ℕ) FumenFault) → with_front front (read >>= λ x. Ok (more ++ x.0, x.1)) ≡ with_front (front ++ more) read
unfolding with_front
regroup front more read = search (rules, append_assoc)

one_group : (left : ℕ) → 0 < left → group_count left ≡ suc (group_count (left - 4))
one_group left some = omega arith

abbrev behind_group : List ℕ → ℕ → ℕ → ℕ → ℕ → Result (List ℕ × ℕ) FumenFault
behind_group ds place left count group = text_at ds (place + 5) (left - 4) count >>= λ rest. Ok (take left (unpacked 4 group) ++ rest.0, rest.1)

read_group : (ds : List ℕ) (place left group : ℕ) → 0 < left → group_at ds place left ≡ Ok group → rest_at ds place left ≡ behind_group ds place left (group_count (left - 4)) group
unfolding text_at
read_group ds place left group some read = search (rules, one_group, ok_bind)

pub text_more : (ds : List ℕ) (start count : ℕ) (text : List ℕ) (place left group : ℕ) (more : List ℕ) → 0 < left → place + 5 ≤ length ds → group_at ds place left ≡ Ok group → more ≡ take left (unpacked 4 group)
    → IsReadSoFar ds start count text place left → IsReadSoFar ds start count (text ++ more) (place + 5) (left - 4)
text_more ds start count text place left group more some room read more_is s =
    search (rules, (regroup text (take left (unpacked 4 group)) (rest_at ds (place + 5) (left - 4))), (read_group ds place left group some read), (first_read ds start count text place left group some read s))

pub text_stops : (e : Refused CommentFault) (ds : List ℕ) (start count : ℕ) (text : List ℕ) (place left : ℕ) → 0 < left → IsRefusal comment_fault e (group_at ds place left)
    → IsReadSoFar ds start count text place left → IsRefusal comment_fault e (rest_at ds start count)
unfolding text_at with_front
text_stops (refused.Fault d) ds start count text place left some read s = search (rules, one_group, err_bind)
text_stops refused.NoMemory ds start count text place left some read s = tt

pub text_ends : (ds : List ℕ) (start count : ℕ) (text : List ℕ) (place left : ℕ) → left ≡ 0 → IsReadSoFar ds start count text place left → rest_at ds start count ≡ Ok (text, place)
unfolding text_at with_front
text_ends ds start count text place left none s = search (rules, append-nil)
