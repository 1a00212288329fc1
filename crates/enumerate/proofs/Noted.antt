-- What is used or noted is kept.
use Rattle.std.proofs.Common.{ℕ, List, sym, subst, rules}
use Rattle.std.specs.Prelude.{Contains}
use Rattle.srs.proofs.CallerLemmas.{Contains-here}
use Rattle.dead_memo.specs.Use.{IsUsed, IsNoted, again}

pub kept-used : {A : Type 0} (before : List A) (x : A) (after : List A) → IsUsed before x after → Contains after x
kept-used before x after used = subst (λ xs. Contains xs x) (sym used.is) (Contains-here x _)

pub kept-noted : {A : Type 0} (capacity : ℕ) (before : List A) (x : A) (after : List A) → IsNoted capacity before x after → Contains after x
kept-noted capacity before x after h4 = search (rules, again, kept-used, Contains-here)
