-- What is read and written in a slot.
use Rattle.std.proofs.Common.{◌≡◌, ℕ, ◌-◌, ◌<◌, Option, None, Some, Vec, Global, List, Contains, length, get_or, set, sym, subst, ap, ◌∙◌, refl, inl, inr, arith}
use Rattle.std.specs.Prelude.{IfSome, bit_and, slice_get, vec_len}
use Rattle.std.proofs.lemmas.List.{length-set, get_or-set_same, set_past}
use Rattle.std.proofs.lemmas.Nat.{and_le_r}
use Rattle.std.proofs.lemmas.Option.{none-some, slice_get_cases, slice_get_read}
use Rattle.fact_table.specs.Entries.{entries_of, slot_in, with_entry}

-- the index lies within
pub slot-within : (room hash : ℕ) → 0 < room → slot_in room hash < room
unfolding slot_in
slot-within room hash some = let le = and_le_r hash (room - 1) in omega (arith, le, some)

-- what is read there
pub slot-read : {E : Type 0} (inside : Option (Vec E Global)) (kept : Vec E Global) (len hash : ℕ) (read : E) → Some kept ≡ inside
    → IfSome inside (λ entries. 0 < length entries.items) → len ≡ vec_len kept → read ≡ get_or kept.items (bit_and hash (len - 1)) read
    → Some read ≡ slice_get (entries_of inside) (slot_in (length (entries_of inside)) hash)
unfolding slot_in
slot-read inside kept len hash read is some long there =
    let within : 0 < length kept.items = subst (λ o. IfSome o (λ entries. 0 < length entries.items)) (sym is) some in
    let at = there ∙ ap (λ n. get_or kept.items (bit_and hash (n - 1)) read) (omega (arith, long, kept.ok)) in
    subst (λ o. Some read ≡ slice_get (entries_of o) (slot_in (length (entries_of o)) hash)) is
    (sym (slice_get_read kept.items (length kept.items) (bit_and hash (length kept.items - 1)) read refl (slot-within (length kept.items) hash within) at))

-- what is written there
pub slot-written : {E : Type 0} (inside : Option (Vec E Global)) (kept : Vec E Global) (len hash : ℕ) (entry : E) → inside ≡ Some kept → len ≡ vec_len kept
    → set kept.items (bit_and hash (len - 1)) entry ≡ with_entry (entries_of inside) hash entry
unfolding slot_in
slot-written inside kept len hash entry is long =
    subst (λ o. set kept.items (bit_and hash (len - 1)) entry ≡ with_entry (entries_of o) hash entry) (sym is) (ap (λ n. set kept.items (bit_and hash (n - 1)) entry) (omega (arith, long, kept.ok)))

-- without room nothing is written
pub slot-lost : {E : Type 0} (inside : Option (Vec E Global)) (hash : ℕ) (entry : E) → inside ≡ None → entries_of inside ≡ with_entry (entries_of inside) hash entry
slot-lost inside hash entry is = subst (λ o. entries_of o ≡ with_entry (entries_of o) hash entry) (sym is) refl

-- an entry that is put is there
pub slot-among : {E : Type 0} (entries : List E) (hash : ℕ) (entry : E) → 0 < length entries → Contains (with_entry entries hash entry) entry
slot-among entries hash entry some =
    let index : ℕ = slot_in (length entries) hash in
    let within : index < length entries = slot-within (length entries) hash some in
    let long = length-set entries index entry in
    (index, omega (arith, long, within), get_or-set_same entries index entry entry within)

-- where no slot is read, none is written
pub none-put : {E : Type 0} (entries : List E) (hash : ℕ) (entry : E) → None ≡ slice_get entries (slot_in (length entries) hash) → entries ≡ with_entry entries hash entry
none-put entries hash entry none = elim (slice_get_cases entries (slot_in (length entries) hash)).1 [
  | inl there ↦ absurd (none-some there.0 (none ∙ there.2))
  | inr past ↦ sym (set_past entries (slot_in (length entries) hash) entry past.0)
]
