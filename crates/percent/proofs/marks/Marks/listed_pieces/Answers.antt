-- One mark after the other.
use Rattle.std.proofs.Common.{◌≤◌, ◌⊎◌, length, refl, sym, ◌∙◌, inl, inr, arith}
use Rattle.std.proofs.lemmas.Bool.{cases_lt}
use Rattle.std.proofs.lemmas.Option.{slice_get_read}
use Rattle.percent.proofs.MarkLemmas.{listed-ends, listed-more, listed-pass}
use Rattle.percent.proofs.marks.Marks.listed_pieces.Goals as goal
use Rattle.percent.proofs.marks.Marks.listed_pieces.Goals.{then-has_bit+in_ok-add, else-has_bit}

pub loop-index-preserved : goal.loop-index-preserved
loop-index-preserved c =
    let known = c.args.self.now.known.items in
    let index = c.loop-index.index in
    let state = c.loop-index.invariant.1 in
    elim c.if-has_bit.branch [
      | then-has_bit+in_ok-add w ↦ rw w.listed-is (
        w.in_ok-add.ensures.kind ∙ c.loop-index.invariant.0,
        listed-more known c.args.wanted c.loop-index.listed w.add.new.self index w.index.result.now
            (slice_get_read known _ index w.index.result.now refl (omega (arith, c.loop-index-test.true, c.min-index-end.ensures, c.len.ensures)) w.index.ensures)
            w.in_ok-add.ensures.kind w.in_ok-add.ensures.added state,
      )
      | else-has_bit w ↦ rw w.listed-is (
        c.loop-index.invariant.0,
        listed-pass known c.args.wanted c.loop-index.listed index (sym c.has_bit.ensures ∙ w.if-has_bit.false) state,
      )
    ]

pub returns-clause-each : goal.returns-clause-each
returns-clause-each c =
    let known = c.args.self.now.known.items in
    let all : (length known ≤ c.loop-index.index) ⊎ (64 ≤ c.loop-index.index) = elim (cases_lt (length known) 64) [
      | inl few ↦ inl (omega (arith, c.loop-index-test.false, c.min-index-end.ensures, c.len.ensures))
      | inr many ↦ inr (omega (arith, c.loop-index-test.false, c.min-index-end.ensures, c.len.ensures))
    ] in
    listed-ends known c.args.wanted c.loop-index.listed c.bits_without.result c.loop-index.index all c.bits_without.ensures.bits c.loop-index.invariant.1
