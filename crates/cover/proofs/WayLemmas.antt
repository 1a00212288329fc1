-- Lists that lead to nodes, and a list that ends at one node more.
use Rattle.std.proofs.lemmas.Grind.{common_steps}
use Rattle.std.proofs.Common.{◌≡◌, ◌⊎◌, ℕ, ◌<◌, true, ◌==◌, nat_lt, List, [], ◌∷◌, ◌++◌, length, reverse, refl, sym, subst, ◌∙◌, arith, append_assoc, append-nil, rules}
use Rattle.std.proofs.lemmas.Bool.{ltb-true, lt-ltb, eqb-true, and_parts, and_from, eq-eqb, or_cases, or_left, or_right}
use Rattle.std.proofs.lemmas.List.{reverse-append, reverse-reverse}
use Rattle.srs.specs.declared.piece.Piece.{Piece}
use Rattle.srs.proofs.CallerLemmas.{piece_code-injective}
use Rattle.cover.specs.declared.node.Node.{Node}
use Rattle.cover.specs.Nodes.{child, has_end, spells, Ends, HasGrown, IsTree, LeadsTo}

-- what leads to a node still does after the tree has grown
pub leads-grown : (old new : List Node) (kinds : List Piece) (node : ℕ) → HasGrown old new → LeadsTo old kinds node → LeadsTo new kinds node
leads-grown old new [] node grows leads = leads
leads-grown old new (kind ∷ kinds) node grows leads =
    search (rules, leads-grown old new kinds leads.0 grows leads.1)

pub grows-twice : (first second third : List Node) → HasGrown first second → HasGrown second third → HasGrown first third
grows-twice first second third one two = search rules

pub leads-within : (nodes : List Node) (kinds : List Piece) (node : ℕ) → IsTree nodes → LeadsTo nodes kinds node → node < length nodes
leads-within nodes [] node tree leads = omega (arith, leads, tree.rooted)
leads-within nodes (kind ∷ kinds) node tree leads = omega (arith, leads.2, tree.within leads.0 kind)

-- one list alone leads to a node
pub leads-one : (nodes : List Node) (kinds others : List Piece) (node : ℕ) → IsTree nodes → LeadsTo nodes kinds node → LeadsTo nodes others node → kinds ≡ others
leads-one nodes [] [] node tree leads also = refl
leads-one nodes [] (other ∷ others) node tree leads also = absurd (omega (arith, leads, also.3))
leads-one nodes (kind ∷ kinds) [] node tree leads also = absurd (omega (arith, leads.3, also))
leads-one nodes (kind ∷ kinds) (other ∷ others) node tree leads also =
    search (rules, (leads-one nodes kinds others also.0 tree), (tree.one_above leads.0 also.0 kind other), (piece_code-injective kind other), (tree.one_kind leads.0 also.0 kind other))

-- the kinds on the way to a node, the last one first, before those that follow
onto : List Piece → List Piece → List Piece
onto [] kinds = kinds
onto (kind ∷ way) kinds = onto way (kind ∷ kinds)

onto-reverse : (way kinds : List Piece) → onto way kinds ≡ reverse way ++ kinds
unfolding onto
onto-reverse [] kinds = refl
onto-reverse (kind ∷ way) kinds =
    grind (arith, common_steps, append_assoc, reverse-append, onto-reverse way (kind ∷ kinds))

onto-none : (kinds : List Piece) → onto (reverse kinds) [] ≡ kinds
onto-none kinds = onto-reverse (reverse kinds) [] ∙ append-nil (reverse (reverse kinds)) ∙ reverse-reverse kinds

pub ends-tree : (old new : List Node) (node : ℕ) → IsTree old → Ends old new node → IsTree new
ends-tree old new node tree ends = search rules

module _ (old new : List Node) (kinds : List Piece) (node : ℕ) (tree : IsTree old) (leads : LeadsTo old (reverse kinds) node) (ends : Ends old new node) where
  -- what was spelled is
  pub spells-still : (at : ℕ) (ks : List Piece) → spells old at ks ≡ true → spells new at ks ≡ true
  unfolding spells
  spells-still at [] spelled = ends.ends at ∙ or_left (has_end old at) (at == node) spelled
  spells-still at (k ∷ ks) spelled = search (rules, (nat_lt 0), and_from, (and_parts (nat_lt 0 (child old at k))), (spells-still (child old at k) ks))

  -- what is spelled from a node is spelled from the first one, after the way to it
  spells-onto : (way : List Piece) (at : ℕ) (ks : List Piece) → LeadsTo old way at → spells new at ks ≡ true → spells new 0 (onto way ks) ≡ true
  unfolding spells onto
  spells-onto [] at ks way_to spelled = subst (λ n. spells new n ks ≡ true) way_to spelled
  spells-onto (k ∷ way) at ks way_to spelled = search (rules, (spells-onto way way_to.0 (k ∷ ks) way_to.1), (nat_lt 0), and_from, (lt-ltb 0))

  pub spells-new : spells new 0 kinds ≡ true
  unfolding spells
  spells-new =
      subst (λ ks. spells new 0 ks ≡ true) (onto-none kinds)
      (spells-onto (reverse kinds) node [] leads (ends.ends node ∙ or_right (has_end old node) (node == node) (eq-eqb node node refl)))

  -- and nothing else
  spells-more : (way : List Piece) (at : ℕ) (ks : List Piece) → LeadsTo old way at → spells new at ks ≡ true → (spells old at ks ≡ true) ⊎ (onto way ks ≡ kinds)
  unfolding spells onto
  spells-more way at [] way_to spelled =
      search (rules, (or_cases (has_end old at) (at == node) (sym (ends.ends at) ∙ spelled)), eqb-true, (leads-one old way (reverse kinds) node tree), (onto-none kinds))
  spells-more way at (k ∷ ks) way_to spelled =
      search (rules, (ltb-true 0 (child new at k)), (and_parts (nat_lt 0 (child new at k))), (spells-more (k ∷ way) (child old at k) ks), and_from, (lt-ltb 0 (child old at k)))

  pub spells-only : (ks : List Piece) → spells new 0 ks ≡ true → (spells old 0 ks ≡ true) ⊎ (ks ≡ kinds)
  unfolding onto
  spells-only ks spelled = spells-more [] 0 ks refl spelled
