-- Groups one after the other: their characters, and what stands where they are read.
use Rattle.std.proofs.Common.{◌≡◌, ℕ, zero, suc, ◌+◌, ◌-◌, ◌*◌, ◌^◌, ◌<◌, ◌≤◌, Bool, true, false, cond, List, [], ◌∷◌, ◌++◌, length, take, Result, Ok, Err, refl, sym, ap, subst, ◌∙◌, ◌⊎◌, inl, inr, arith, rules}
use Rattle.std.specs.Prelude.{IsTrue}
use Rattle.std.specs.List.{flat_map}
use Rattle.std.proofs.Math.Seq.{take-append-add}
use Rattle.std.proofs.lemmas.Bool.{cases_lt, ltb-true, and_parts}
use Rattle.std.proofs.lemmas.List.{append-nil, take_all, take-append-le, length-append}
use Rattle.fumen_digits.specs.Number.{digits, Stands, NumberStands}
use Rattle.fumen_digits.specs.declared.fault.FumenFault.{FumenFault}
use Rattle.fumen_digits.specs.Fault.{IsNumberFault}
use Rattle.fumen_digits.specs.declared.fault.FumenFault.TheVariants.{BadComment}
use Rattle.fumen_digits.specs.Reading.{◌>>=◌, number_at}
use Rattle.fumen_digits.proofs.CallerLemmas.{bind_ok, bind_err, ok_bind, err_bind, length-digits, Stands-nil, Stands-then, Stands-parts, stands_from_read, read_from_stands, number_fault_from_read, read_from_number_fault}
use Rattle.fumen_comment.specs.Part.{unpacked, is_group, AreGroups}
use Rattle.fumen_comment.specs.Reading.{group_at, text_at}
use Rattle.fumen_comment.specs.Faults.{IsBadGroup}
use Rattle.fumen_comment.proofs.Packing.{length-unpacked}

-- ---- the characters of groups

-- the characters of some groups, from which so many are still to come
abbrev pub characters_of : ℕ → List ℕ → List ℕ
characters_of left [] = []
characters_of left (group ∷ groups) = take left (unpacked 4 group) ++ characters_of (left - 4) groups

take-append : (n : ℕ) (xs ys : List ℕ) → take n (xs ++ ys) ≡ take n xs ++ take (n - length xs) ys
take-append n xs ys = search (rules, (cases_lt n (length xs)), (take-append-le n xs ys), (append-nil (take n xs)), (take-append-add xs ys (n - length xs)), (take_all n xs))

take-nil : (n : ℕ) → ◌≡◌ {A = List ℕ} (take n []) []
take-nil n = search rules

pub characters_of-is : (left : ℕ) (groups : List ℕ) → characters_of left groups ≡ take left (flat_map (unpacked 4) groups)
characters_of-is left [] = sym (take-nil left)
characters_of-is left (group ∷ groups) =
    search (rules, length-unpacked, take-append, characters_of-is (left - 4) groups)

pub length-unpacked_all : (groups : List ℕ) → length (flat_map (unpacked 4) groups) ≡ 4 * length groups
length-unpacked_all [] = refl
length-unpacked_all (group ∷ groups) = search (rules, length-append, length-unpacked, length-unpacked_all groups)

-- ---- one group

chosen_ok : (b : Bool) (g : ℕ) (f : FumenFault) (h : ℕ) → ◌≡◌ {A = Result ℕ FumenFault} (cond b (Ok g) (Err f)) (Ok h) → (b ≡ true) × (g ≡ h)
chosen_ok b g f h e = search rules

chosen_err : (b : Bool) (g : ℕ) (f d : FumenFault) → ◌≡◌ {A = Result ℕ FumenFault} (cond b (Ok g) (Err f)) (Err d) → (b ≡ false) × (d ≡ f)
chosen_err b g f d e = search rules

group_below : (left group : ℕ) → is_group left group ≡ true → group < 64 ^ 5
unfolding is_group
group_below left group good = search (rules, ltb-true, and_parts)

pair_is : (a b c d : ℕ) → a ≡ b → c ≡ d → ◌≡◌ {A = ℕ × ℕ} (a, c) (b, d)
pair_is a b c d e f = cc

-- a group stands at a place, from which so many characters are still to come
pub record GroupStands (ds : List ℕ) (place left group : ℕ) : Type 0 where
  pub number : NumberStands ds place 5 group
  pub good : IsTrue (is_group left group)

pub group_from_read : (ds : List ℕ) (place left group : ℕ) → place ≤ length ds → group_at ds place left ≡ Ok group → GroupStands ds place left group
unfolding group_at
group_from_read ds place left group le e =
    search (rules, (bind_ok (number_at ds place 5) (λ g. cond (is_group left g) (Ok g) (Err (BadComment place))) group e), (stands_from_read ds place place 5 group le), chosen_ok)

-- the fault of a group that is due at a place
abbrev pub GroupFault : List ℕ → ℕ → ℕ → FumenFault → Type 0
GroupFault ds place left f = IsNumberFault ds place 5 f ⊎ (IsBadGroup ds place left × (f ≡ BadComment place))

pub group_fault_from_read : (ds : List ℕ) (place left : ℕ) (f : FumenFault) → place ≤ length ds → group_at ds place left ≡ Err f → GroupFault ds place left f
unfolding group_at
group_fault_from_read ds place left f le e =
    elim (bind_err (number_at ds place 5) (λ g. cond (is_group left g) (Ok g) (Err (BadComment place))) f e) [
      | inl bad ↦ inl (number_fault_from_read ds place 5 f le bad)
      | inr n ↦
          let c = chosen_err (is_group left n.0) n.0 (BadComment place) f n.2 in
          inr (record { group = n.0; stands = stands_from_read ds place place 5 n.0 le n.1; bad = c.0 }, c.1)
    ]

pub read_from_group_fault : (ds : List ℕ) (place left : ℕ) (f : FumenFault) → GroupFault ds place left f → group_at ds place left ≡ Err f
unfolding group_at
read_from_group_fault ds place left f bad = search (rules, err_bind, read_from_number_fault, ok_bind, read_from_stands)

-- ---- some groups

-- some groups stand from a place on, up to end, with the characters of this text
pub record TextStands (ds : List ℕ) (place left count : ℕ) (text : List ℕ) (end : ℕ) : Type 0 where
  pub groups : List ℕ
  pub count_is : length groups ≡ count
  pub each : AreGroups left groups
  pub characters : text ≡ characters_of left groups
  pub stands : Stands ds place (flat_map (digits 5) groups) end

abbrev behind : List ℕ → ℕ → ℕ → ℕ → ℕ → Result (List ℕ × ℕ) FumenFault
behind ds place left count group = text_at ds (place + 5) (left - 4) count >>= λ rest. Ok (take left (unpacked 4 group) ++ rest.0, rest.1)

pub done_text : (x y : List ℕ × ℕ) → ◌≡◌ {A = Result (List ℕ × ℕ) FumenFault} (Ok x) (Ok y) → x ≡ y
done_text x y e = cc

pub text_from_read : (ds : List ℕ) (place left count : ℕ) (text : List ℕ) (end : ℕ) → place ≤ length ds → text_at ds place left count ≡ Ok (text, end) → TextStands ds place left count text end
unfolding text_at
text_from_read ds place left zero text end le e = search (rules, done_text, Stands-nil)
text_from_read ds place left (suc count) text end le e =
    let g = bind_ok (group_at ds place left) (λ group. behind ds place left count group) (text, end) e in
    let r = bind_ok (text_at ds (place + 5) (left - 4) count) (λ rest. Ok (take left (unpacked 4 g.0) ++ rest.0, rest.1)) (text, end) g.2 in
    let one = group_from_read ds place left g.0 le g.1 in
    let others = text_from_read ds (place + 5) (left - 4) count r.0.0 r.0.1 one.number.stands.within r.1 in
    let same = done_text (take left (unpacked 4 g.0) ++ r.0.0, r.0.1) (text, end) r.2 in
    subst (λ (x : List ℕ × ℕ). TextStands ds place left (suc count) x.0 x.1) same (record {
      groups = g.0 ∷ others.groups;
      count_is = ap suc others.count_is;
      each = (one.good, others.each);
      characters = ap (λ (x : List ℕ). take left (unpacked 4 g.0) ++ x) others.characters;
      stands = Stands-then ds place (digits 5 g.0) (place + 5) (flat_map (digits 5) others.groups) r.0.1 one.number.stands others.stands;
    })

-- where some groups stand, the first one does, and the others behind it
record FirstGroup (ds : List ℕ) (place left group : ℕ) (groups : List ℕ) (end : ℕ) : Type 0 where
  one : GroupStands ds place left group
  others : Stands ds (place + 5) (flat_map (digits 5) groups) end

first_group : (ds : List ℕ) (place left group : ℕ) (groups : List ℕ) (end : ℕ) → is_group left group ≡ true → Stands ds place (digits 5 group ++ flat_map (digits 5) groups) end → FirstGroup ds place left group groups end
first_group ds place left group groups end good s =
    search (rules, (length-digits 5 group), (group_below left group good), (Stands-parts ds place (digits 5 group) (flat_map (digits 5) groups) end s))

read_more : (ds : List ℕ) (place left count group : ℕ) → GroupStands ds place left group → text_at ds place left (suc count) ≡ behind ds place left count group
unfolding text_at group_at
read_more ds place left count group one = search (rules, ok_bind, read_from_stands)

read_from_groups : (ds : List ℕ) (place left : ℕ) (groups : List ℕ) (end : ℕ) → AreGroups left groups → Stands ds place (flat_map (digits 5) groups) end
    → text_at ds place left (length groups) ≡ Ok (characters_of left groups, end)
unfolding text_at
read_from_groups ds place left [] end each s = search rules
read_from_groups ds place left (group ∷ groups) end each s =
    let first = first_group ds place left group groups end each.0 s in
    read_more ds place left (length groups) group first.one
    ∙ ok_bind (text_at ds (place + 5) (left - 4) (length groups)) (λ rest. Ok (take left (unpacked 4 group) ++ rest.0, rest.1)) (characters_of (left - 4) groups, end) (read_from_groups ds (place + 5) (left - 4) groups end each.1 first.others)

pub read_from_text : (ds : List ℕ) (place left count : ℕ) (text : List ℕ) (end : ℕ) → TextStands ds place left count text end → text_at ds place left count ≡ Ok (text, end)
read_from_text ds place left count text end s = search (rules, read_from_groups)

-- ---- the fault among some groups

-- some groups stand from a place on, up to k, and one more is due there
pub record GroupsDue (ds : List ℕ) (place left count k rest : ℕ) : Type 0 where
  pub groups : List ℕ
  pub each : AreGroups left groups
  pub stand : Stands ds place (flat_map (digits 5) groups) k
  pub fewer : length groups < count
  pub rest_is : rest ≡ left - 4 * length groups

abbrev pub TextFault : List ℕ → ℕ → ℕ → ℕ → FumenFault → Type 0
TextFault ds place left count f = (k rest : ℕ) × GroupsDue ds place left count k rest × GroupFault ds k rest f

pub text_fault_from_read : (ds : List ℕ) (place left count : ℕ) (f : FumenFault) → place ≤ length ds → text_at ds place left count ≡ Err f → TextFault ds place left count f
unfolding text_at
text_fault_from_read ds place left zero f le e = absurd cc
text_fault_from_read ds place left (suc count) f le e =
    elim (bind_err (group_at ds place left) (λ group. behind ds place left count group) f e) [
      | inl here ↦ (place, left, record { groups = []; each = tt; stand = Stands-nil ds place le; fewer = omega arith; rest_is = omega arith }, group_fault_from_read ds place left f le here)
      | inr g ↦
          let one = group_from_read ds place left g.0 le g.1 in
          elim (bind_err (text_at ds (place + 5) (left - 4) count) (λ rest. Ok (take left (unpacked 4 g.0) ++ rest.0, rest.1)) f g.2) [
            | inl later ↦
                let t = text_fault_from_read ds (place + 5) (left - 4) count f one.number.stands.within later in
                let due = t.2 in
                (t.0, t.1, record { groups = g.0 ∷ due.groups; each = (one.good, due.each); stand = Stands-then ds place (digits 5 g.0) (place + 5) (flat_map (digits 5) due.groups) t.0 one.number.stands due.stand; fewer = omega (arith, due.fewer); rest_is = omega (arith, due.rest_is) }, t.3)
            | inr r ↦ absurd (let bad = r.2 in cc)
          ]
    ]

read_due : (ds : List ℕ) (place left count k rest : ℕ) (f : FumenFault) (groups : List ℕ) → AreGroups left groups → Stands ds place (flat_map (digits 5) groups) k → length groups < count → rest ≡ left - 4 * length groups → GroupFault ds k rest f
    → text_at ds place left count ≡ Err f
unfolding text_at
read_due ds place left zero k rest f groups each s fewer rest_is fault = absurd (omega arith)
read_due ds place left (suc count) k rest f [] each s fewer rest_is fault =
    search (rules, (pair_is k place rest left), (err_bind (group_at ds place left) (λ group. behind ds place left count group) f), (read_from_group_fault ds place left f))
read_due ds place left (suc count) k rest f (group ∷ groups) each s fewer rest_is fault =
    let first = first_group ds place left group groups k each.0 s in
    read_more ds place left count group first.one
    ∙ err_bind (text_at ds (place + 5) (left - 4) count) (λ r. Ok (take left (unpacked 4 group) ++ r.0, r.1)) f (read_due ds (place + 5) (left - 4) count k rest f groups each.1 first.others (omega arith) (omega arith) fault)

pub read_from_text_fault : (ds : List ℕ) (place left count : ℕ) (f : FumenFault) → TextFault ds place left count f → text_at ds place left count ≡ Err f
read_from_text_fault ds place left count f t = search (rules, read_due)
