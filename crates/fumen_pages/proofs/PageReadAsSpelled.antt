-- A page whose tail is read stands there, and what stands there is read; a fault is the first one there.
use Rattle.std.proofs.Common.{◌≡◌, ℕ, ◌+◌, ◌≤◌, Bool, true, false, List, length, Option, Some, None, Result, Ok, Err, refl, sym, ap, subst, ◌∙◌, inl, inr, rules}
use Rattle.std.specs.Prelude.{IsTrue, is_some}
use Rattle.std.specs.Option.{ForSome}
use Rattle.fumen_digits.specs.declared.dialect.Dialect.{Dialect}
use Rattle.fumen_digits.specs.Number.{digits, Stands, NumberStands}
use Rattle.fumen_digits.specs.declared.fault.FumenFault.{FumenFault}
use Rattle.fumen_digits.specs.Reading.{◌>>=◌, number_at}
use Rattle.fumen_digits.proofs.CallerLemmas.{bind_ok, bind_err, ok_bind, err_bind, length-digits, Stands-nil, Stands-then, Stands-parts, stands_from_read, read_from_stands, number_fault_from_read, read_from_number_fault}
use Rattle.fumen_comment.specs.Reading.{comment_at}
use Rattle.fumen_comment.specs.Faults.{IsCommentFault}
use Rattle.fumen_comment.proofs.CallerLemmas.{comment_from_read, read_from_comment, comment_fault_from_read, read_from_comment_fault}
use Rattle.fumen_pages.specs.declared.page.Page.{Page}
use Rattle.fumen_pages.specs.declared.action.Action.{Action}
use Rattle.fumen_pages.specs.declared.action.ActionFault.{ActionFault}
use Rattle.fumen_pages.specs.declared.action.ActionFault.TheVariants as fault
use Rattle.fumen_pages.specs.Action.{is_inside_in, SaysAction}
use Rattle.fumen_pages.specs.Sound.{action_of}
use Rattle.fumen_pages.specs.Tail.{SpellsPart}
use Rattle.fumen_pages.specs.Reading.{action_in, action_fault, seen_action, action_at, part_at, page_of, page_at}
use Rattle.fumen_pages.specs.Faults.{TailStands, IsCommentDue, IsTailFault}
use Rattle.fumen_pages.proofs.ActionReadAsSpelled.{says_from_read, read_from_says, says_below, says_inside, why_not, read_from_large, read_from_outside}

-- ---- the action

-- the number of an action stands at a place
record ActionStands (dialect : Dialect) (ds : List ℕ) (place : ℕ) (action : Action) : Type 0 where
  number : ℕ
  stands : NumberStands ds place 3 number
  says : SaysAction dialect number action

seen_ok : (place number : ℕ) (read : Result Action ActionFault) (action : Action) → seen_action place number read ≡ Ok action → read ≡ Ok action
seen_ok place number read action e = search rules

seen_err : (place number : ℕ) (read : Result Action ActionFault) (f : FumenFault) → seen_action place number read ≡ Err f → (g : ActionFault) × (read ≡ Err g) × (f ≡ action_fault place number g)
seen_err place number read f e = search rules

abbrev seen_at : Dialect → ℕ → ℕ → ℕ → Result Action FumenFault
seen_at dialect number place n = seen_action place number (action_in dialect n)

action_from_read : (dialect : Dialect) (number : ℕ) (ds : List ℕ) (place : ℕ) (action : Action) → place ≤ length ds → action_at dialect number ds place ≡ Ok action → ActionStands dialect ds place action
unfolding action_at
action_from_read dialect number ds place action le e =
    let n = bind_ok (number_at ds place 3) (λ n. seen_at dialect number place n) action e in
    record { number = n.0; stands = stands_from_read ds place place 3 n.0 le n.1; says = says_from_read dialect n.0 action (seen_ok place number (action_in dialect n.0) action n.2) }

-- an action with a comment was read
pub comment_due : (dialect : Dialect) (number : ℕ) (ds : List ℕ) (place : ℕ) (action : Action) → place ≤ length ds → action_at dialect number ds place ≡ Ok action → action.comment ≡ true → IsCommentDue dialect ds place
comment_due dialect number ds place action le read flagged =
    let s = action_from_read dialect number ds place action le read in
    record { number = s.number; stands = s.stands; action = action; says = s.says; flagged = flagged }

read_from_action : (dialect : Dialect) (number : ℕ) (ds : List ℕ) (place : ℕ) (action : Action) → ActionStands dialect ds place action → action_at dialect number ds place ≡ Ok action
unfolding action_at
read_from_action dialect number ds place action s = search (rules, ok_bind, read_from_stands, read_from_says)

-- ---- the comment

-- the comment part of a page stands at a place, up to end
record PartStands (has : Bool) (ds : List ℕ) (place : ℕ) (comment : Option (List ℕ)) (end : ℕ) : Type 0 where
  text : List ℕ
  stands : Stands ds place text end
  spells : SpellsPart comment text
  flagged : is_some comment ≡ has

done_part : (x y : Option (List ℕ) × ℕ) → ◌≡◌ {A = Result (Option (List ℕ) × ℕ) FumenFault} (Ok x) (Ok y) → x ≡ y
done_part x y e = cc

part_from_read : (has : Bool) (ds : List ℕ) (place : ℕ) (part : Option (List ℕ) × ℕ) → place ≤ length ds → part_at has ds place ≡ Ok part → PartStands has ds place part.0 part.1
unfolding part_at
part_from_read false ds place part le e = search (rules, done_part, Stands-nil)
part_from_read true ds place part le e =
    let x = bind_ok (comment_at ds place) (λ comment. Ok (Some comment.0, comment.1)) part e in
    let c = comment_from_read ds place x.0.0 x.0.1 le x.1 in
    subst (λ (y : Option (List ℕ) × ℕ). PartStands true ds place y.0 y.1) (done_part (Some x.0.0, x.0.1) part x.2) (record { text = c.text; stands = c.stands; spells = c.spells; flagged = refl })

read_from_part : (comment : Option (List ℕ)) (ds : List ℕ) (place end : ℕ) (text : List ℕ) → Stands ds place text end → SpellsPart comment text → part_at (is_some comment) ds place ≡ Ok (comment, end)
unfolding part_at
read_from_part None ds place end text stands spells = search rules
read_from_part (Some units) ds place end text stands spells =
    ok_bind (comment_at ds place) (λ comment. Ok (Some comment.0, comment.1)) (units, end) (read_from_comment ds place units end (record { text = text; stands = stands; spells = spells }))

part_fault_from_read : (has : Bool) (ds : List ℕ) (place : ℕ) (f : FumenFault) → place ≤ length ds → part_at has ds place ≡ Err f → (has ≡ true) × IsCommentFault ds place f
unfolding part_at
part_fault_from_read has ds place f le e = search (rules, bind_err, comment_fault_from_read)

read_from_part_fault : (has : Bool) (ds : List ℕ) (place : ℕ) (f : FumenFault) → has ≡ true → IsCommentFault ds place f → part_at has ds place ≡ Err f
unfolding part_at
read_from_part_fault has ds place f flagged bad =
    ap (λ (b : Bool). part_at b ds place) flagged ∙ err_bind (comment_at ds place) (λ comment. Ok (Some comment.0, comment.1)) f (read_from_comment_fault ds place f bad)

-- ---- the page

done_page : (x y : Page × ℕ) → ◌≡◌ {A = Result (Page × ℕ) FumenFault} (Ok x) (Ok y) → x ≡ y
done_page x y e = cc

abbrev then_page : List ℕ → Action → Option (List ℕ) × ℕ → Result (Page × ℕ) FumenFault
then_page cells action part = Ok (page_of cells action part.0, part.1)

abbrev then_part : List ℕ → List ℕ → ℕ → Action → Result (Page × ℕ) FumenFault
then_part cells ds place action = part_at action.comment ds (place + 3) >>= λ part. then_page cells action part

same_action : (cells : List ℕ) (action : Action) (comment : Option (List ℕ)) → is_some comment ≡ action.comment → action_of (page_of cells action comment) ≡ action
same_action cells action comment e = search rules

tail_stands : (dialect : Dialect) (cells ds : List ℕ) (place : ℕ) (action : Action) (comment : Option (List ℕ)) (end : ℕ) → ActionStands dialect ds place action → PartStands action.comment ds (place + 3) comment end → TailStands dialect ds place (page_of cells action comment) end
tail_stands dialect cells ds place action comment end a p =
    search (rules, (Stands-then ds place (digits 3 a.number) (place + 3) p.text end a.stands.stands p.stands), (same_action cells action comment p.flagged))

-- what is read has the cells, stands there, and lies inside
pub record PageStands (dialect : Dialect) (cells ds : List ℕ) (place : ℕ) (page : Page) (end : ℕ) : Type 0 where
  pub same_cells : page.cells ≡ cells
  pub stands : TailStands dialect ds place page end
  pub inside : ForSome page.operation (λ placement. IsTrue (is_inside_in dialect placement))

pub page_from_read : (dialect : Dialect) (cells : List ℕ) (number : ℕ) (ds : List ℕ) (place : ℕ) (page : Page) (end : ℕ) → place ≤ length ds → page_at dialect cells number ds place ≡ Ok (page, end) → PageStands dialect cells ds place page end
unfolding page_at
page_from_read dialect cells number ds place page end le e =
    let a = bind_ok (action_at dialect number ds place) (λ action. then_part cells ds place action) (page, end) e in
    let p = bind_ok (part_at a.0.comment ds (place + 3)) (λ part. then_page cells a.0 part) (page, end) a.2 in
    let action = action_from_read dialect number ds place a.0 le a.1 in
    let part = part_from_read a.0.comment ds (place + 3) p.0 action.stands.stands.within p.1 in
    subst (λ (x : Page × ℕ). PageStands dialect cells ds place x.0 x.1) (done_page (page_of cells a.0 p.0.0, p.0.1) (page, end) p.2)
    (record { same_cells = refl; stands = tail_stands dialect cells ds place a.0 p.0.0 p.0.1 action part; inside = says_inside dialect action.number a.0 action.says })

number_stands : (dialect : Dialect) (ds : List ℕ) (place : ℕ) (page : Page) (end : ℕ) → TailStands dialect ds place page end → ActionStands dialect ds place (action_of page)
number_stands dialect ds place page end t =
    search (rules, (Stands-parts ds place), (says_below dialect), (length-digits 3))

part_stands : (dialect : Dialect) (ds : List ℕ) (place : ℕ) (page : Page) (end : ℕ) (t : TailStands dialect ds place page end) → Stands ds (place + 3) t.spells.part end
part_stands dialect ds place page end t = search (rules, (Stands-parts ds place), (length-digits 3))

pub read_from_page : (dialect : Dialect) (cells : List ℕ) (number : ℕ) (ds : List ℕ) (place : ℕ) (page : Page) (end : ℕ) → page.cells ≡ cells → TailStands dialect ds place page end → page_at dialect cells number ds place ≡ Ok (page, end)
unfolding page_at
read_from_page dialect cells number ds place page end same t =
    let action = action_of page in
    ok_bind (action_at dialect number ds place) (λ a. then_part cells ds place a) action (read_from_action dialect number ds place action (number_stands dialect ds place page end t))
    ∙ (ok_bind (part_at action.comment ds (place + 3)) (λ part. then_page cells action part) (page.comment, end) (read_from_part page.comment ds (place + 3) end t.spells.part (part_stands dialect ds place page end t) t.spells.comment)
    ∙ ap (λ (c : List ℕ). Ok (page_of c action page.comment, end)) (sym same))

-- ---- faults

fault_of_action : (dialect : Dialect) (number : ℕ) (ds : List ℕ) (place n : ℕ) (f : FumenFault) (g : ActionFault) → NumberStands ds place 3 n → action_in dialect n ≡ Err g → f ≡ action_fault place number g → IsTailFault dialect number ds place f
fault_of_action dialect number ds place n f g stands e is = search (rules, why_not)

action_fault_from_read : (dialect : Dialect) (number : ℕ) (ds : List ℕ) (place : ℕ) (f : FumenFault) → place ≤ length ds → action_at dialect number ds place ≡ Err f → IsTailFault dialect number ds place f
unfolding action_at
action_fault_from_read dialect number ds place f le e =
    elim (bind_err (number_at ds place 3) (λ n. seen_at dialect number place n) f e) [
      | inl bad ↦ inl (number_fault_from_read ds place 3 f le bad)
      | inr n ↦
          let g = seen_err place number (action_in dialect n.0) f n.2 in
          fault_of_action dialect number ds place n.0 f g.0 (stands_from_read ds place place 3 n.0 le n.1) g.1 g.2
    ]

pub tail_fault_from_read : (dialect : Dialect) (cells : List ℕ) (number : ℕ) (ds : List ℕ) (place : ℕ) (f : FumenFault) → place ≤ length ds → page_at dialect cells number ds place ≡ Err f → IsTailFault dialect number ds place f
unfolding page_at
tail_fault_from_read dialect cells number ds place f le e =
    elim (bind_err (action_at dialect number ds place) (λ action. then_part cells ds place action) f e) [
      | inl bad ↦ action_fault_from_read dialect number ds place f le bad
      | inr a ↦
          let action = action_from_read dialect number ds place a.0 le a.1 in
          elim (bind_err (part_at a.0.comment ds (place + 3)) (λ part. then_page cells a.0 part) f a.2) [
            | inl bad ↦
                let part = part_fault_from_read a.0.comment ds (place + 3) f action.stands.stands.within bad in
                inr (inr (inr (record { number = action.number; stands = action.stands; action = a.0; says = action.says; flagged = part.0 }, part.1)))
            | inr p ↦ absurd (let never = p.2 in cc)
          ]
    ]

number_fault_read : (dialect : Dialect) (cells : List ℕ) (number : ℕ) (ds : List ℕ) (place n : ℕ) (g : ActionFault) → NumberStands ds place 3 n → action_in dialect n ≡ Err g → page_at dialect cells number ds place ≡ Err (action_fault place number g)
unfolding page_at action_at
number_fault_read dialect cells number ds place n g stands e = search (rules, err_bind, ok_bind, read_from_stands)

pub read_from_tail_fault : (dialect : Dialect) (cells : List ℕ) (number : ℕ) (ds : List ℕ) (place : ℕ) (f : FumenFault) → IsTailFault dialect number ds place f → page_at dialect cells number ds place ≡ Err f
unfolding page_at action_at
read_from_tail_fault dialect cells number ds place f (inl bad) = search (rules, err_bind, read_from_number_fault)
read_from_tail_fault dialect cells number ds place f (inr (inl large)) =
    number_fault_read dialect cells number ds place large.0.number fault.TooLarge large.0.stands (read_from_large dialect large.0.number large.0.large) ∙ ap (λ (g : FumenFault). Err g) (sym large.1)
read_from_tail_fault dialect cells number ds place f (inr (inr (inl outside))) =
    number_fault_read dialect cells number ds place outside.0.number fault.Outside outside.0.stands (read_from_outside dialect outside.0.number outside.0.outside) ∙ ap (λ (g : FumenFault). Err g) (sym outside.1)
read_from_tail_fault dialect cells number ds place f (inr (inr (inr due))) =
    let c = due.0 in
    ok_bind (action_at dialect number ds place) (λ action. then_part cells ds place action) c.action (read_from_action dialect number ds place c.action (record { number = c.number; stands = c.stands; says = c.says }))
    ∙ err_bind (part_at c.action.comment ds (place + 3)) (λ part. then_page cells c.action part) f (read_from_part_fault c.action.comment ds (place + 3) f c.flagged due.1)
