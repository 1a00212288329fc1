-- The five lines as one text.
use Rattle.std.proofs.Common.{◌≡◌, ◌∙◌, ℕ, List, [], ◌∷◌, ◌++◌, append_assoc, rules}
use Rattle.std.specs.Prelude.{codes}
use Rattle.pc_selfrun.specs.Lines.{named_line}

line_before : (name text rest : List ℕ) → named_line name text ++ rest ≡ name ++ 32 ∷ (text ++ 10 ∷ rest)
unfolding named_line
line_before name text rest = append_assoc (name ++ 32 ∷ text) (10 ∷ []) rest ∙ append_assoc name (32 ∷ text) (10 ∷ rest)

last_line : (name text : List ℕ) → named_line name text ≡ name ++ 32 ∷ (text ++ 10 ∷ [])
unfolding named_line
last_line name text = append_assoc name (32 ∷ text) (10 ∷ [])

pub five_lines : (a b c d e : List ℕ)
    → codes "pages " ++ (a ++ 10 ∷ (codes "bytes " ++ (b ++ 10 ∷ (codes "same " ++ (c ++ 10 ∷ (codes "column " ++ (d ++ 10 ∷ (codes "solutions " ++ (e ++ 10 ∷ [])))))))))
    ≡ named_line (codes "pages") a ++ (named_line (codes "bytes") b ++ (named_line (codes "same") c ++ (named_line (codes "column") d ++ named_line (codes "solutions") e)))
five_lines a b c d e = search (rules, line_before, last_line)
