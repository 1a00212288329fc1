-- A text that is read as having an unexpected byte leaves the form there.
use Rattle.std.proofs.Common.{◌≡◌, ℕ, ◌+◌, Bool, true, false, if◌then◌else◌, Option, Some, None, List, [], ◌∷◌, ◌++◌, length, append_assoc, refl, sym, ap, subst, ◌∙◌, arith, Err, rules}
use Rattle.queue_pattern.specs.declared.fault.PatternFault.TheVariants.{Unexpected}
use Rattle.queue_pattern.specs.Grammar.{outside, elements}
use Rattle.srs.specs.Forms.{LeavesForm}
use Rattle.queue_pattern.specs.Form.{HasForm}
use Rattle.queue_pattern.proofs.Phases.{Phase, between, next, is_end, stop, stop_after, Agrees, agrees}
use Rattle.queue_pattern.proofs.FormPhases.{Follows, follows_before, ending, ending_follows, end_follows}
use Rattle.queue_pattern.proofs.FormFollowed.{leads_on, ends}

-- nothing that may follow goes on so
abbrev StopsAt : Phase → List ℕ → List ℕ → Type 0
StopsAt phase front [] = Follows phase front → ⊥
StopsAt phase front (byte ∷ rest) = (more : List ℕ) → Follows phase (front ++ byte ∷ more) → ⊥

-- a text in two, at the byte at which the form is left from a phase
record IsLeft (phase : Phase) (text : List ℕ) (k : ℕ) : Type 0 where
  front : List ℕ
  rest : List ℕ
  whole : text ≡ front ++ rest
  size : k ≡ length front
  more : List ℕ
  begins : Follows phase (front ++ more)
  stops : StopsAt phase front rest

followed : (phase after : Phase) (byte : ℕ) (text : List ℕ) → next phase byte ≡ Some after → Follows phase (byte ∷ text)
    → Follows after text
followed phase after byte text leads follows = search (rules, leads_on)

stops_before : (phase after : Phase) (byte : ℕ) (front rest : List ℕ) → next phase byte ≡ Some after → StopsAt after front rest
    → StopsAt phase (byte ∷ front) rest
stops_before phase after byte front rest leads stops = search (rules, followed)

left_later : (phase after : Phase) (byte : ℕ) (bytes : List ℕ) (k : ℕ) → next phase byte ≡ Some after → IsLeft after bytes k
    → IsLeft phase (byte ∷ bytes) (k + 1)
left_later phase after byte bytes k leads left = record {
  front = byte ∷ left.front;
  rest = left.rest;
  whole = ap (λ text. byte ∷ text) left.whole;
  size = omega (arith, left.size);
  more = left.more;
  begins = follows_before phase after byte (left.front ++ left.more) leads left.begins;
  stops = stops_before phase after byte left.front left.rest leads left.stops;
}

left_here : (phase : Phase) (byte : ℕ) (bytes : List ℕ) → next phase byte ≡ None → IsLeft phase (byte ∷ bytes) 0
left_here phase byte bytes leads = record {
  front = [];
  rest = byte ∷ bytes;
  whole = refl;
  size = refl;
  more = ending phase;
  begins = ending_follows phase;
  stops = λ more follows. let on = leads_on phase byte more follows in let bad : None ≡ Some on.after = sym leads ∙ on.leads in cc;
}

-- the form is left, or the text may follow
abbrev IsEnding : Phase → List ℕ → Option ℕ → Type 0
IsEnding phase text None = Follows phase text
IsEnding phase text (Some k) = IsLeft phase text k

at_the_end : (phase : Phase) (b : Bool) → is_end phase ≡ b → IsEnding phase [] (if b then None else Some 0)
at_the_end phase true is = end_follows phase is
at_the_end phase false other = record {
  front = [];
  rest = [];
  whole = refl;
  size = refl;
  more = ending phase;
  begins = ending_follows phase;
  stops = λ follows. let bad : true ≡ false = sym (ends phase follows) ∙ other in cc;
}

at_byte : (phase : Phase) (byte : ℕ) (bytes : List ℕ) (o : Option Phase) → next phase byte ≡ o
    → ((after : Phase) → IsEnding after bytes (stop after bytes))
    → IsEnding phase (byte ∷ bytes) (stop_after o (λ after. stop after bytes))
at_byte phase byte bytes o leads later = search (rules, left_here, follows_before, left_later)

is_ending : (bytes : List ℕ) (phase : Phase) → IsEnding phase bytes (stop phase bytes)
unfolding stop
is_ending [] phase = at_the_end phase (is_end phase) refl
is_ending (byte ∷ bytes) phase = at_byte phase byte bytes (next phase byte) refl (is_ending bytes)

leaves_form : (text : List ℕ) (k : ℕ) → IsLeft between text k → LeavesForm HasForm text k
leaves_form text k left = search (rules, append_assoc)

-- so it leaves it there
pub left-from_unexpected : (text : List ℕ) (place : ℕ) → elements text ≡ Err (Unexpected place) → LeavesForm HasForm text place
left-from_unexpected text place read =
    let agreed : Agrees (Err (Unexpected place)) 0 (stop between text) =
    subst (λ found. Agrees found 0 (stop between text)) read (agrees text outside 0 tt) in
    search (rules, between, leaves_form, is_ending)
