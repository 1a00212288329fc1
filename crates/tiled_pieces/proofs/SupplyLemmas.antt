-- Supplies with one piece more or fewer.
use Rattle.std.proofs.Common.{◌≡◌, ℕ, suc, ◌-◌, ◌<◌, ◌≤◌, Bool, cond, ◌==◌, refl, arith, rules}
use Rattle.std.proofs.Math.Path.{fun_ext}
use Rattle.std.proofs.lemmas.Bool.{cases_Bool, eq-eqb, cond-true, cond-false, eqb-true}
use Rattle.srs.specs.declared.piece.Piece.{Piece}
use Rattle.srs.specs.Piece.{piece_code}
use Rattle.srs.proofs.CallerLemmas.{piece_code-injective}
use Rattle.prune.specs.Tiling.{Supply}
use Rattle.prune.specs.Laws.{with_one}
use Rattle.prune.specs.OnePart.{less_one}

pub less-le : (s : Supply) (p other : Piece) → less_one s p other ≤ s other
unfolding less_one
less-le s p other = search (rules, cases_Bool, cond-true, cond-false)

twice : (a b : Bool) (n : ℕ) → cond b (cond a (n - 1) n - 1) (cond a (n - 1) n) ≡ cond a (cond b (n - 1) n - 1) (cond b (n - 1) n)
twice a b n = search rules

pub less_swap : (s : Supply) (p q : Piece) → less_one (less_one s p) q ≡ less_one (less_one s q) p
unfolding less_one
less_swap s p q = fun_ext (λ other. twice (piece_code p == piece_code other) (piece_code q == piece_code other) (s other))

pub some_swap : (s : Supply) (p q : Piece) → 0 < s p → 0 < less_one s p q → 0 < less_one s q p
unfolding less_one
some_swap s p q some more = search (rules, cases_Bool, piece_code-injective, eqb-true, cond-false)

back_again : (a : Bool) (n : ℕ) → cond a (cond a (suc n) n - 1) (cond a (suc n) n) ≡ n
back_again a n = search rules

pub less_with : (s : Supply) (p : Piece) → less_one (with_one s p) p ≡ s
unfolding with_one less_one
less_with s p = fun_ext (λ other. back_again (piece_code p == piece_code other) (s other))

pub some_with : (s : Supply) (p : Piece) → 0 < with_one s p p
unfolding with_one
some_with s p = omega (arith, cond-true {A = ℕ} (piece_code p == piece_code p) (suc (s p)) (s p) (eq-eqb (piece_code p) (piece_code p) refl))
