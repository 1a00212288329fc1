-- One more piece of its kind.
use Rattle.std.proofs.Common.{◌≡◌, ◌==◌, ℕ, get_or, sym, ap, ◌∙◌, inl, inr, arith}
use Rattle.std.proofs.lemmas.Bool.{cases_eq, cond-true, cond-false, eq-eqb, ne_eqb}
use Rattle.std.proofs.lemmas.List.{get_or-set_other}
use Rattle.std.proofs.lemmas.Grind.{get_or-set_at}
use Rattle.srs.specs.Piece.{piece_code}
use Rattle.srs.proofs.CallerLemmas.{piece_code-small}
use Rattle.percent.specs.Counts.{codes_with}
use Rattle.percent.proofs.TiledLemmas.{codes-few}
use Rattle.percent.proofs.marks.counts_with.Goals as goal

pub returns-clause-each : goal.returns-clause-each
unfolding codes_with
returns-clause-each c = λ code few.
    let counts = c.counts_of-counts.result in
    let place = c.from-code.result in
    let size = c.counts_of-counts.ensures.size in
    let at : place ≡ piece_code c.args.piece = c.from-code.ensures ∙ c.code.ensures in
    let low = piece_code-small c.args.piece in
    let most = codes-few c.args.pieces c.args.hand code in
    let was = c.counts_of-counts.ensures.each code few in
    elim (cases_eq code (piece_code c.args.piece)) [
      | inl same ↦
          let put = get_or-set_at counts place code c.saturating_add.result 0 (same ∙ sym at) (omega (arith, at, low, size)) in
          let one = cond-true {A = ℕ} (piece_code c.args.piece == code) 1 0 (eq-eqb _ _ (sym same)) in
          let equal = ap (λ n. get_or counts n 0) (same ∙ sym at) in
          omega (arith, put, one, was, equal, most, c.saturating_add.ensures, c.requires)
      | inr apart ↦
          let put = get_or-set_other counts place code c.saturating_add.result 0 (λ is. apart (is ∙ at)) in
          let none = cond-false {A = ℕ} (piece_code c.args.piece == code) 1 0 (ne_eqb _ _ (λ is. apart (sym is))) in
          omega (arith, put, none, was)
    ]
