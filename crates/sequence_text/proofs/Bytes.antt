-- A turn of the loop over the bytes of a sequence.
use Rattle.std.proofs.Common.{◌≡◌, ℕ, suc, ◌+◌, ◌-◌, ◌<◌, ◌≤◌, ◌==◌, ◌&&◌, ◌≢◌, Bool, true, false, nat_lt, List, [], ◌∷◌, ◌++◌, length, drop, get_or, Option, Some, None, Ok, Err, refl, sym, ap, ◌∙◌, arith, length-append, drop-cons, rules}
use Rattle.std.proofs.lemmas.List.{drop_all}
use Rattle.srs.specs.declared.placement.Placement.{Placement}
use Rattle.sequence_text.specs.declared.reading.Reading.{Reading}
use Rattle.sequence_text.specs.Reading.{read_from, continue_with, step, may_end, unread, sequence_in}

-- the bytes from a place on
here : (text : List ℕ) (i : ℕ) → i < length text → drop i text ≡ get_or text i 0 ∷ drop (i + 1) text
here text i within = let e : suc i ≡ i + 1 = omega arith in drop-cons text i 0 within ∙ ap (λ k. get_or text i 0 ∷ drop k text) e

blank : (read : List Placement) (left : ℕ) (now : Reading) (place byte : ℕ) (rest : List ℕ) → (byte == 32) ≡ true → (may_end now.due && nat_lt 0 left) ≡ true
    → read_from read left now place (byte ∷ rest) ≡ read_from (read ++ now.placement ∷ []) (left - 1) unread (place + 1) rest
unfolding read_from
blank read left now place byte rest is_blank on = rw (is_blank, on) refl

no_blank : (read : List Placement) (left : ℕ) (now : Reading) (place byte : ℕ) (rest : List ℕ) → (byte == 32) ≡ true → (may_end now.due && nat_lt 0 left) ≡ false
    → read_from read left now place (byte ∷ rest) ≡ Err place
unfolding read_from
no_blank read left now place byte rest is_blank on = rw (is_blank, on) refl

other : (read : List Placement) (left : ℕ) (now : Reading) (place byte : ℕ) (rest : List ℕ) (next : Option Reading) → (byte == 32) ≡ false → next ≡ step now byte
    → read_from read left now place (byte ∷ rest) ≡ continue_with next place (λ next. read_from read left next (place + 1) rest)
unfolding read_from
other read left now place byte rest next no_blank stepped = rw (no_blank, stepped) refl

-- the whole text, where some placement is needed
pub starts : (needed : ℕ) (text : List ℕ) → needed ≢ 0 → sequence_in needed text ≡ read_from [] (needed - 1) unread 0 text
starts needed text some = search rules

-- the turns of the loop, from the reading before them
pub turn_blank : (read : List Placement) (left : ℕ) (now : Reading) (text : List ℕ) (i : ℕ) → i < length text → (get_or text i 0 == 32) ≡ true
    → (test : Bool) → test ≡ (may_end now.due && nat_lt 0 left) → test ≡ true
    → read_from (read ++ now.placement ∷ []) (left - 1) unread (i + 1) (drop (i + 1) text) ≡ read_from read left now i (drop i text)
turn_blank read left now text i within is_blank test told on = rw (here text i within) (sym (blank read left now i (get_or text i 0) (drop (i + 1) text) is_blank (sym told ∙ on)))

pub stops_blank : (read : List Placement) (left : ℕ) (now : Reading) (text : List ℕ) (i : ℕ) → i < length text → (get_or text i 0 == 32) ≡ true
    → (test : Bool) → test ≡ (may_end now.due && nat_lt 0 left) → test ≡ false
    → Err i ≡ read_from read left now i (drop i text)
stops_blank read left now text i within is_blank test told on = rw (here text i within) (sym (no_blank read left now i (get_or text i 0) (drop (i + 1) text) is_blank (sym told ∙ on)))

pub turn_other : (read : List Placement) (left : ℕ) (now : Reading) (text : List ℕ) (i : ℕ) (next : Reading) → i < length text → (get_or text i 0 == 32) ≡ false
    → Some next ≡ step now (get_or text i 0) → read_from read left next (i + 1) (drop (i + 1) text) ≡ read_from read left now i (drop i text)
turn_other read left now text i next within no_blank stepped = search (rules, no_blank, here, other)

pub stops_other : (read : List Placement) (left : ℕ) (now : Reading) (text : List ℕ) (i : ℕ) → i < length text → (get_or text i 0 == 32) ≡ false
    → None ≡ step now (get_or text i 0) → Err i ≡ read_from read left now i (drop i text)
stops_other read left now text i within no_blank stepped = search (rules, no_blank, here, other)

-- after all bytes
pub ends_whole : (read : List Placement) (left : ℕ) (now : Reading) (text : List ℕ) (i : ℕ) → length text ≤ i → (test : Bool) → test ≡ (may_end now.due && left == 0) → test ≡ true
    → Ok (read ++ now.placement ∷ []) ≡ read_from read left now i (drop i text)
unfolding read_from
ends_whole read left now text i past test told whole = let h = sym told ∙ whole in rw (drop_all i text past, h) refl

pub ends_short : (read : List Placement) (left : ℕ) (now : Reading) (text : List ℕ) (i n : ℕ) → length text ≤ i → i ≡ n → (test : Bool) → test ≡ (may_end now.due && left == 0) → test ≡ false
    → Err n ≡ read_from read left now i (drop i text)
unfolding read_from
ends_short read left now text i n past same test told whole = let h = sym told ∙ whole in rw (drop_all i text past, h, same) refl

-- the same, where the reading after the turn goes by other names
pub next_blank : (read : List Placement) (left : ℕ) (now : Reading) (text : List ℕ) (i : ℕ) (more : List Placement) (fewer : ℕ) (next : Reading)
    → i < length text → (get_or text i 0 == 32) ≡ true → (test : Bool) → test ≡ (may_end now.due && nat_lt 0 left) → test ≡ true
    → more ≡ read ++ now.placement ∷ [] → fewer ≡ left - 1 → next ≡ unread
    → read_from more fewer next (i + 1) (drop (i + 1) text) ≡ read_from read left now i (drop i text)
next_blank read left now text i more fewer next within is_blank test told on kept less fresh =
    rw (kept, less, fresh) (turn_blank read left now text i within is_blank test told on)

pub next_other : (read : List Placement) (left : ℕ) (now : Reading) (text : List ℕ) (i : ℕ) (same_read : List Placement) (same_left : ℕ) (next taken : Reading)
    → i < length text → (get_or text i 0 == 32) ≡ false → Some taken ≡ step now (get_or text i 0) → same_read ≡ read → same_left ≡ left → next ≡ taken
    → read_from same_read same_left next (i + 1) (drop (i + 1) text) ≡ read_from read left now i (drop i text)
next_other read left now text i same_read same_left next taken within no_blank stepped kept less is =
    rw (kept, less, is) (turn_other read left now text i taken within no_blank stepped)

some_left : (ends : Bool) (left : ℕ) → (ends && nat_lt 0 left) ≡ true → 0 < left
some_left ends left on = search rules

-- there is room for all placements
pub room_blank : (read more : List Placement) (placement : Placement) (left fewer total : ℕ) (now : Reading) (test : Bool) → test ≡ (may_end now.due && nat_lt 0 left) → test ≡ true
    → more ≡ read ++ placement ∷ [] → fewer ≡ left - 1 → length read + left ≡ total → length more + fewer ≡ total
room_blank read more placement left fewer total now test told on kept less all =
    search (rules, some_left, length-append)

pub room_other : (read more : List Placement) (left same total : ℕ) → more ≡ read → same ≡ left → length read + left ≡ total → length more + same ≡ total
room_other read more left same total kept less all = omega (arith, ap length kept)
