-- Unescaping a text unit by unit, as a loop does.
use Rattle.std.proofs.Common.{◌≡◌, ℕ, zero, suc, ◌<◌, ◌≤◌, List, [], ◌∷◌, ◌++◌, length, get_or, drop, refl, append_assoc, arith, rules}
use Rattle.std.proofs.lemmas.List.{append-nil, drop_more, nil_from_length}
use Rattle.fumen_comment.specs.Unescape.{unit_of, unescaped_behind, unescaped}

-- characters that belong to the unit before are passed over
pub unescaped-passed : (passed : ℕ) (text : List ℕ) → unescaped_behind passed text ≡ unescaped (drop passed text)
unfolding unescaped_behind
unescaped-passed zero text = refl
unescaped-passed (suc passed) [] = refl
unescaped-passed (suc passed) (c ∷ rest) = unescaped-passed passed rest

-- the next unit is written behind those so far
pub units_more : (units rest behind next : List ℕ) (c unit passed : ℕ) (total : List ℕ) → 0 < length rest → c ≡ get_or rest 0 0 → behind ≡ drop 1 rest
    → unit ≡ (unit_of c behind).0 → passed ≡ (unit_of c behind).1 → next ≡ drop passed behind
    → units ++ unescaped rest ≡ total → (units ++ unit ∷ []) ++ unescaped next ≡ total
unfolding unescaped_behind
units_more units rest behind next c unit passed total lt head tail unit_is passed_is next_is so_far =
    search (rules, drop_more, unescaped-passed, append_assoc)

pub units_all : (units rest : List ℕ) (total : List ℕ) → length rest < 1 → units ++ unescaped rest ≡ total → units ≡ total
unfolding unescaped_behind
units_all units rest total none so_far = search (rules, nil_from_length, append-nil)

-- a text that has a character is no empty one
pub units_none : (units rest : List ℕ) → 1 ≤ length rest → units ++ unescaped rest ≡ [] → ⊥
unfolding unescaped_behind
units_none [] [] some none = absurd (omega (arith, some))
units_none [] (c ∷ rest) some none = cc
units_none (unit ∷ units) rest some none = cc
