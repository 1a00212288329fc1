-- What holds of all entries.
use Rattle.std.proofs.Common.{ℕ, List, length, sym, subst, inl, inr}
use Rattle.std.specs.Prelude.{All, IfSome, slice_get}
use Rattle.std.proofs.lemmas.List.Elements.{All-get_or, All-set}
use Rattle.std.proofs.lemmas.Option.{slice_get_cases}
use Rattle.fact_table.specs.Entries.{slot_in, with_entry}

-- where each entry says nothing, it holds of all if it holds of those that say nothing
pub facts-none : {E : Type 0} (Blank Holds : E → Type 0) (entries : List E) → ((entry : E) → Blank entry → Holds entry) → All Blank entries → All Holds entries
facts-none Blank Holds entries none blanks = λ k d within. none _ (blanks k d within)

-- it holds of all after one of which it holds is put
pub facts-put : {E : Type 0} (Holds : E → Type 0) (entries : List E) (hash : ℕ) (entry : E) → Holds entry → All Holds entries → All Holds (with_entry entries hash entry)
facts-put Holds entries hash entry holds facts = All-set Holds entries (slot_in (length entries) hash) entry holds facts

-- it holds of the entry in a slot
pub facts-entry : {E : Type 0} (Holds : E → Type 0) (entries : List E) (hash : ℕ) → All Holds entries → IfSome (slice_get entries (slot_in (length entries) hash)) Holds
facts-entry Holds entries hash facts = elim (slice_get_cases entries (slot_in (length entries) hash)).1 [
  | inl there ↦ subst (λ o. IfSome o Holds) (sym there.2) (subst Holds there.3 (All-get_or Holds entries (slot_in (length entries) hash) there.0 there.1 facts))
  | inr past ↦ subst (λ o. IfSome o Holds) (sym past.1) tt
]
