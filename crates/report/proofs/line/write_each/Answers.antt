-- One placement after another.
use Rattle.std.proofs.Common.{◌+◌, [], ◌∷◌, drop, get_or, refl, sym, ap, subst, ◌∙◌, append-nil, arith, rules}
use Rattle.std.specs.Prelude.{option_map}
use Rattle.srs.specs.declared.placement.Placement.{Placement}
use Rattle.srs.specs.declared.piece.Piece.TheVariants.{I}
use Rattle.srs.specs.declared.rotation.Rotation.TheVariants.{Spawn}
use Rattle.srs.specs.Rules.{table_of}
use Rattle.well.specs.Well.{filled}
use Rattle.pc_outside.specs.CountLaws.{none_more, none_yet}
use Rattle.pc_outside.specs.Writes.{GrowsUpTo}
use Rattle.pc_outside.specs.WriteLaws.{begins, stops, last_call, at_err}
use Rattle.report.specs.Forms.{key_part, line_form}
use Rattle.report.specs.Keys.{has_keys}
use Rattle.report.specs.Played.{AreFree}
use Rattle.report.proofs.HeldLemmas.{goes_held}
use Rattle.report.proofs.LineLemmas.{line_from, whole_line, next_piece, no_placement, first_free, first_inside, next_free}
use Rattle.report.proofs.line.write_each.Goals as goal

-- what an index past the end would read
abbrev default : Placement
default = record { piece = I; rotation = Spawn; x = 0; y = 0 }

pub loop-placement-init : goal.loop-placement-init
loop-placement-init g c = search (rules, whole_line, begins, none_yet)

pub word_of-word-requires-clause-inside : goal.word_of-word-requires-clause-inside
word_of-word-requires-clause-inside g c = search (rules, first_inside)

pub returns-in_err-append-clause-written : goal.returns-in_err-append-clause-written
returns-in_err-append-clause-written g c = at_err c.from_residual.ensures.0 (stops _ c.loop-placement.invariant.0 refl c.in_err-append.ensures.failed)

pub lock-requires : goal.lock-requires
lock-requires g c = search (rules, first_free)

pub loop-placement-preserved : goal.loop-placement-preserved
loop-placement-preserved g c =
    let table = table_of c.args.rules.now in
    let mode = c.args.drop_mode in
    let keys = key_part (has_keys c.args.keys.now) table mode in
    let i = c.loop-placement.placement-index in
    let F = filled c.loop-placement.before in
    let q = get_or c.args.placements.now i default in
    let named = c.word_of-word.ensures.word ∙ ap (λ with. key_part with table mode F q) c.loop-placement.invariant.4 in
    let next = next_piece keys c.loop-placement.divider.now F (filled c.lock.result.0) c.args.placements.now i default
    c.as_slice.result.now (option_map (λ word. word.items) c.word_of-word.result) c.loop-placement-test.true (c.as_slice.ensures.value ∙ c.placement_text.ensures) named c.lock.ensures.field in (
      goes_held (line_from keys (32 ∷ []) (filled c.lock.result.0) (drop (i + 1) c.args.placements.now)) c.loop-placement.invariant.0 next c.in_ok-append.ensures.done,
      subst (λ F. AreFree F (drop (i + 1) c.args.placements.now)) (sym c.lock.ensures.field) (next_free F c.args.placements.now i default c.loop-placement-test.true c.loop-placement.invariant.1),
      omega arith,
      none_more c.loop-placement.invariant.3 c.in_ok-append.ensures.cause,
      c.word_of-word.ensures.keys ∙ c.loop-placement.invariant.4,
    )

pub returns-in_err-append-2-clause-written : goal.returns-in_err-append-2-clause-written
returns-in_err-append-2-clause-written g c = at_err c.from_residual-in_err-append-2.ensures.0 (stops _ c.loop-placement.invariant.0 refl c.in_err-append-2.ensures.failed)

pub returns-clause-written : goal.returns-clause-written
returns-clause-written g c =
    let keys = key_part (has_keys c.args.keys.now) (table_of c.args.rules.now) c.args.drop_mode in
    let end = no_placement keys c.loop-placement.divider.now (filled c.loop-placement.before) c.args.placements.now c.loop-placement.placement-index c.loop-placement-test.false in
    last_call (subst (GrowsUpTo (g.O.Sink.written c.args.out.now) _ (line_form keys (filled c.args.well.now) c.args.placements.now)) (append-nil _ ∙ sym c.as_slice-2.ensures.value)
    (goes_held [] c.loop-placement.invariant.0 (end ∙ sym (append-nil (10 ∷ []))) c.in_ok-append-2.ensures.done)) c.write.ensures.written
