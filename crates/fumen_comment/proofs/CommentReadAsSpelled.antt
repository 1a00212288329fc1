-- A comment that is read stands there, and what stands there is read; a fault is the first one there.
use Rattle.std.proofs.Common.{◌≡◌, ℕ, ◌+◌, ◌≤◌, List, length, Result, Ok, Err, sym, ap, subst, ◌∙◌, inl, inr, rules}
use Rattle.std.specs.List.{flat_map}
use Rattle.std.proofs.lemmas.List.{length-take}
use Rattle.fumen_digits.specs.Number.{digits, Stands, NumberStands}
use Rattle.fumen_digits.specs.declared.fault.FumenFault.{FumenFault}
use Rattle.fumen_digits.specs.Reading.{◌>>=◌, number_at}
use Rattle.fumen_digits.proofs.CallerLemmas.{bind_ok, bind_err, ok_bind, err_bind, length-digits, Stands-then, Stands-parts, stands_from_read, read_from_stands, number_fault_from_read, read_from_number_fault}
use Rattle.fumen_comment.specs.Unescape.{unescaped}
use Rattle.fumen_comment.specs.Part.{group_count, SpellsText}
use Rattle.fumen_comment.specs.Reading.{text_at, comment_at}
use Rattle.fumen_comment.specs.Faults.{IsGroupDue, IsCommentFault, CommentStands}
use Rattle.fumen_comment.proofs.Groups.{characters_of, characters_of-is, length-unpacked_all, TextStands, text_from_read, read_from_text, GroupsDue, TextFault, text_fault_from_read, read_from_text_fault, done_text}

abbrev then_text : List ℕ → ℕ → ℕ → Result (List ℕ × ℕ) FumenFault
then_text ds place total = text_at ds (place + 2) total (group_count total) >>= λ text. Ok (unescaped text.0, text.1)

-- so many groups hold so many characters
length_of_text : (total : ℕ) (text groups : List ℕ) → length groups ≡ group_count total → text ≡ characters_of total groups → length text ≡ total
length_of_text total text groups least is = search (rules, characters_of-is, length-take, length-unpacked_all)

spells : (ds : List ℕ) (place total end : ℕ) (text : List ℕ) → NumberStands ds place 2 total → TextStands ds (place + 2) total (group_count total) text end → CommentStands ds place (unescaped text) end
spells ds place total end text number t =
    search (rules, (length_of_text total text t.groups t.count_is t.characters), (Stands-then ds place (digits 2 (length text)) (place + 2) (flat_map (digits 5) t.groups) end), (characters_of-is total t.groups))

pub comment_from_read : (ds : List ℕ) (place : ℕ) (units : List ℕ) (end : ℕ) → place ≤ length ds → comment_at ds place ≡ Ok (units, end) → CommentStands ds place units end
unfolding comment_at
comment_from_read ds place units end le e =
    let n = bind_ok (number_at ds place 2) (λ total. then_text ds place total) (units, end) e in
    let t = bind_ok (text_at ds (place + 2) n.0 (group_count n.0)) (λ text. Ok (unescaped text.0, text.1)) (units, end) n.2 in
    let number = stands_from_read ds place place 2 n.0 le n.1 in
    let text = text_from_read ds (place + 2) n.0 (group_count n.0) t.0.0 t.0.1 number.stands.within t.1 in
    subst (λ (x : List ℕ × ℕ). CommentStands ds place x.0 x.1) (done_text (unescaped t.0.0, t.0.1) (units, end) t.2) (spells ds place n.0 t.0.1 t.0.0 number text)

-- the length of a text that stands there, and its groups
length_stands : (ds : List ℕ) (place end : ℕ) (text part : List ℕ) → SpellsText text part → Stands ds place part end → NumberStands ds place 2 (length text)
length_stands ds place end text part s stands =
    search (rules, (length-digits 2 (length text)), (Stands-parts ds place (digits 2 (length text)) (flat_map (digits 5) s.groups) end))

groups_stand : (ds : List ℕ) (place end : ℕ) (text part : List ℕ) → SpellsText text part → Stands ds place part end → TextStands ds (place + 2) (length text) (group_count (length text)) text end
groups_stand ds place end text part s stands =
    search (rules, (characters_of-is (length text) s.groups), (length-digits 2 (length text)), (Stands-parts ds place (digits 2 (length text)) (flat_map (digits 5) s.groups) end))

pub read_from_comment : (ds : List ℕ) (place : ℕ) (units : List ℕ) (end : ℕ) → CommentStands ds place units end → comment_at ds place ≡ Ok (units, end)
unfolding comment_at
read_from_comment ds place units end c =
    let text = c.spells.text in
    let total = length text in
    let number = length_stands ds place end text c.text c.spells.spells c.stands in
    let groups = groups_stand ds place end text c.text c.spells.spells c.stands in
    ok_bind (number_at ds place 2) (λ n. then_text ds place n) total (read_from_stands ds place place 2 total number)
    ∙ (ok_bind (text_at ds (place + 2) total (group_count total)) (λ t. Ok (unescaped t.0, t.1)) (text, end) (read_from_text ds (place + 2) total (group_count total) text end groups)
    ∙ ap (λ (u : List ℕ). Ok (u, end)) (sym c.spells.means))

-- ---- faults

due_in_comment : (ds : List ℕ) (place total k rest : ℕ) → NumberStands ds place 2 total → GroupsDue ds (place + 2) total (group_count total) k rest → IsGroupDue ds place k rest
due_in_comment ds place total k rest number due = search (rules, groups_stand)

pub comment_fault_from_read : (ds : List ℕ) (place : ℕ) (f : FumenFault) → place ≤ length ds → comment_at ds place ≡ Err f → IsCommentFault ds place f
unfolding comment_at
comment_fault_from_read ds place f le e =
    elim (bind_err (number_at ds place 2) (λ total. then_text ds place total) f e) [
      | inl bad ↦ inl (number_fault_from_read ds place 2 f le bad)
      | inr n ↦
          let number = stands_from_read ds place place 2 n.0 le n.1 in
          elim (bind_err (text_at ds (place + 2) n.0 (group_count n.0)) (λ text. Ok (unescaped text.0, text.1)) f n.2) [
            | inl bad ↦
                let t = text_fault_from_read ds (place + 2) n.0 (group_count n.0) f number.stands.within bad in
                inr (t.0, t.1, due_in_comment ds place n.0 t.0 t.1 number t.2, t.3)
            | inr t ↦ absurd (let never = t.2 in cc)
          ]
    ]

pub read_from_comment_fault : (ds : List ℕ) (place : ℕ) (f : FumenFault) → IsCommentFault ds place f → comment_at ds place ≡ Err f
unfolding comment_at
read_from_comment_fault ds place f (inl bad) = search (rules, err_bind, read_from_number_fault)
read_from_comment_fault ds place f (inr t) =
    let due = t.2 in
    let text : TextFault ds (place + 2) due.total (group_count due.total) f = (t.0, t.1, record { groups = due.groups; each = due.each; stand = due.groups_stand; fewer = due.fewer; rest_is = due.rest }, t.3) in
    ok_bind (number_at ds place 2) (λ n. then_text ds place n) due.total (read_from_stands ds place place 2 due.total due.total_stands)
    ∙ err_bind (text_at ds (place + 2) due.total (group_count due.total)) (λ x. Ok (unescaped x.0, x.1)) f (read_from_text_fault ds (place + 2) due.total (group_count due.total) f text)
