-- A tree with one node more below another one.
use Rattle.std.proofs.Common.{◌≡◌, ℕ, ◌+◌, ◌<◌, ◌≤◌, true, false, nat_lt, get_or, List, [], ◌∷◌, ◌++◌, length, Some, slice_get, set, refl, sym, ap, subst, ◌∙◌, inl, inr, arith, length-append, rules}
use Rattle.std.proofs.lemmas.Bool.{cases_eq, cases_lt, eq-eqb, ne_eqb, and_right, or_right}
use Rattle.std.proofs.lemmas.List.{length-set}
use Rattle.std.proofs.lemmas.Option.{slice_get_read, slice_get_past}
use Rattle.srs.specs.declared.piece.Piece.{Piece}
use Rattle.srs.specs.Piece.{piece_code}
use Rattle.srs.proofs.CallerLemmas.{piece_code-injective}
use Rattle.cover.specs.declared.node.Node.{Node}
use Rattle.cover.specs.Nodes.{child, child_of, ends_of, has_end, node_child, spells, Ends, HasGrown, IsBlank, IsTree, IsWith}
use Rattle.cover.proofs.ReadLemmas.{get-written, get-others, get-before, get-pushed}
use Rattle.lane_board.proofs.CallerLemmas.{or_none}

pub child-at : (nodes : List Node) (at : ℕ) (node : Node) (kind : Piece) → slice_get nodes at ≡ Some node → child nodes at kind ≡ node_child node kind
unfolding child
child-at nodes at node kind there = ap (λ o. child_of o kind) there

pub end-at : (nodes : List Node) (at : ℕ) (node : Node) → slice_get nodes at ≡ Some node → has_end nodes at ≡ node.ends
unfolding has_end
end-at nodes at node there = ap ends_of there

child-past : (nodes : List Node) (at : ℕ) (kind : Piece) → length nodes ≤ at → child nodes at kind ≡ 0
unfolding child
child-past nodes at kind past = ap (λ o. child_of o kind) (slice_get_past nodes at past)

end-past : (nodes : List Node) (at : ℕ) → length nodes ≤ at → has_end nodes at ≡ false
unfolding has_end
end-past nodes at past = ap ends_of (slice_get_past nodes at past)

same-child : (old new : List Node) (at : ℕ) (kind : Piece) → slice_get new at ≡ slice_get old at → child new at kind ≡ child old at kind
unfolding child
same-child old new at kind same = ap (λ o. child_of o kind) same

same-end : (old new : List Node) (at : ℕ) → slice_get new at ≡ slice_get old at → has_end new at ≡ has_end old at
unfolding has_end
same-end old new at same = ap ends_of same

-- the tree of no list
pub first-tree : (blank : Node) → IsBlank blank → IsTree (blank ∷ [])
unfolding child
first-tree blank is = search rules

pub first-spells : (blank : Node) (kinds : List Piece) → IsBlank blank → spells (blank ∷ []) 0 kinds ≡ false
unfolding spells
first-spells blank [] is = end-at (blank ∷ []) 0 blank refl ∙ is.open_end
first-spells blank (kind ∷ kinds) is = search (rules, (nat_lt 0), (child-at (blank ∷ []) 0 blank kind refl), (is.none kind))

-- one node more, below another one for one kind
pub record IsGrown (old : List Node) (at : ℕ) (kind : Piece) (new : List Node) : Type 0 where
  pub there : child new at kind ≡ length old
  pub others : (other : ℕ) (second : Piece) → (other ≡ at → piece_code second ≡ piece_code kind → ⊥) → child new other second ≡ child old other second
  pub ends : (other : ℕ) → has_end new other ≡ has_end old other
  pub long : length new ≡ length old + 1

module _ (old : List Node) (at : ℕ) (kind : Piece) (blank first linked : Node) (within : at < length old) (is_blank : IsBlank blank) (there : slice_get old at ≡ Some first) (link : IsWith first kind (length old) linked) where
  abbrev new : List Node
  new = set (old ++ blank ∷ []) at linked

  long : length new ≡ length old + 1
  long = length-set (old ++ blank ∷ []) at linked ∙ length-append old (blank ∷ [])

  at-linked : slice_get new at ≡ Some linked
  at-linked = get-written (old ++ blank ∷ []) at linked (omega (arith, length-append old (blank ∷ []), within))

  at-other : (other : ℕ) → (other ≡ at → ⊥) → slice_get new other ≡ slice_get (old ++ blank ∷ []) other
  at-other other apart = get-others (old ++ blank ∷ []) at other linked apart

  child-elsewhere : (other : ℕ) (second : Piece) → (other ≡ at → ⊥) → child new other second ≡ child old other second
  child-elsewhere other second apart =
      search (rules, (cases_lt other (length old)), (same-child old new other second), (at-other other apart), (get-before old other blank), (cases_eq other (length old)), (child-at new other blank second), (get-pushed old other blank), (child-past old other second), (child-past new other second), long)

  end-elsewhere : (other : ℕ) → (other ≡ at → ⊥) → has_end new other ≡ has_end old other
  end-elsewhere other apart =
      search (rules, (cases_lt other (length old)), (same-end old new other), (at-other other apart), (get-before old other blank), (cases_eq other (length old)), (end-at new other blank), (get-pushed old other blank), (end-past old other), (end-past new other), long)

  child-others : (other : ℕ) (second : Piece) → (other ≡ at → piece_code second ≡ piece_code kind → ⊥) → child new other second ≡ child old other second
  child-others other second apart = elim (cases_eq other at) [
    | inl same ↦
        subst (λ n. child new n second ≡ child old n second) (sym same)
        (child-at new at linked second at-linked ∙ link.others second (ne_eqb (piece_code second) (piece_code kind) (apart same)) ∙ sym (child-at old at first second there))
    | inr elsewhere ↦ child-elsewhere other second elsewhere
  ]

  end-others : (other : ℕ) → has_end new other ≡ has_end old other
  end-others other = search (rules, (cases_eq other), (end-at new), at-linked, (end-at old), (end-elsewhere other))

  pub grown : IsGrown old at kind new
  grown = record {
    there = child-at new at linked kind at-linked ∙ link.there;
    others = child-others;
    ends = end-others;
    long = long;
  }

-- the same of a list to which the blank node was pushed
pub grown-pushed : (old pushed : List Node) (at : ℕ) (kind : Piece) (number : ℕ) (blank first linked : Node) → pushed ≡ old ++ blank ∷ [] → at < length old → IsBlank blank
    → first ≡ get_or pushed at first → number ≡ length old → IsWith first kind number linked → IsGrown old at kind (set pushed at linked)
grown-pushed old pushed at kind number blank first linked push within is_blank read count link =
    let long : length pushed ≡ length old + 1 = ap length push ∙ length-append old (blank ∷ []) in
    let there : slice_get old at ≡ Some first =
    sym (get-before old at blank within) ∙ ap (λ l. slice_get l at) (sym push) ∙ slice_get_read pushed (length pushed) at first refl (omega (arith, long, within)) read in
    subst (λ l. IsGrown old at kind (set l at linked)) (sym push)
    (grown old at kind blank first linked within is_blank there (subst (λ n. IsWith first kind n linked) count link))

module _ (old new : List Node) (at : ℕ) (kind : Piece) (tree : IsTree old) (within : at < length old) (none : child old at kind ≡ 0) (grown : IsGrown old at kind new) where
  -- a child is the new node, or was there
  data Child (other : ℕ) (second : Piece) : Type 0 where
    fresh : other ≡ at → second ≡ kind → child new other second ≡ length old → Child other second
    known : child new other second ≡ child old other second → Child other second

  child_is : (other : ℕ) (second : Piece) → Child other second
  child_is other second = search (rules, (cases_eq other), (cases_eq (piece_code second) (piece_code kind)), (piece_code-injective second kind))

  later : (other : ℕ) (second : Piece) → 0 < child new other second → other < child new other second
  later other second some = search (rules, (child_is other second))

  below : (other : ℕ) (second : Piece) → child new other second < length new
  below other second = search (rules, (child_is other second))

  one_above : (other third : ℕ) (second fourth : Piece) → 0 < child new other second → child new other second ≡ child new third fourth → other ≡ third
  one_above other third second fourth some same = search (rules, (child_is other second), (child_is third fourth))

  one_kind : (other third : ℕ) (second fourth : Piece) → 0 < child new other second → child new other second ≡ child new third fourth → piece_code second ≡ piece_code fourth
  one_kind other third second fourth some same = search (rules, (child_is other second), (child_is third fourth))

  pub grown-tree : IsTree new
  grown-tree = search (rules, later, below, one_above, one_kind)

  -- nothing is spelled from the new node
  fresh-spells : (kinds : List Piece) → spells new (length old) kinds ≡ false
  unfolding spells
  fresh-spells [] = grown.ends (length old) ∙ end-past old (length old) (omega arith)
  fresh-spells (k ∷ ks) = search (rules, (child-past old (length old) k), (nat_lt 0))

  same-spells : (other : ℕ) (kinds : List Piece) → other < length old → spells new other kinds ≡ spells old other kinds
  unfolding spells
  same-spells other [] inside = grown.ends other
  same-spells other (k ∷ ks) inside =
      search (rules, (child_is other k), (nat_lt 0), (and_right (nat_lt 0 (length old))), (fresh-spells ks), (nat_lt 0 (child old other k)), (same-spells (child old other k) ks (tree.within other k)))

  same-children : (other : ℕ) (second : Piece) → 0 < child old other second → child new other second ≡ child old other second
  same-children other second some = search (rules, (child_is other second))

  pub grown-grows : HasGrown old new
  grown-grows = search (rules, same-children, same-spells)

pub grows-same : (old new : List Node) → new ≡ old → HasGrown old new
grows-same old new same = subst (HasGrown old) (sym same) (record { longer = omega arith; kept = λ at kind some. refl; spelled = λ at kinds within. refl })

-- a list ends at a node
pub ended : (nodes : List Node) (at : ℕ) (first last : Node) → at < length nodes → slice_get nodes at ≡ Some first → last.below ≡ first.below → last.ends ≡ true → Ends nodes (set nodes at last) at
unfolding node_child child
ended nodes at first last within there below ends =
    search (rules, cases_eq, child-at, get-written, same-child, get-others, end-at, or_right, eq-eqb, same-end, or_none)
