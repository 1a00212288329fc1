-- One page after another.
use Rattle.std.proofs.Common.{◌+◌, ◌++◌, drop, get_or, true, false, refl, sym, ap, subst, ◌∙◌, arith, rules}
use Rattle.std.specs.Prelude.{option_map}
use Rattle.srs.specs.declared.placement.Placement.{Placement}
use Rattle.srs.specs.declared.piece.Piece.TheVariants.{I}
use Rattle.srs.specs.declared.rotation.Rotation.TheVariants.{Spawn}
use Rattle.srs.specs.Rules.{table_of}
use Rattle.well.specs.Well.{filled}
use Rattle.fumen_digits.specs.declared.dialect.Dialect.TheVariants.{V115}
use Rattle.report.specs.Forms.{key_part}
use Rattle.fumen_text.specs.Written.{list_encode_fault}
use Rattle.report.specs.Keys.{has_keys}
use Rattle.report.specs.FumenLine.{placement_pages, placing_page}
use Rattle.report.proofs.FumenLemmas.{page_more, pages_are_written, pages_end}
use Rattle.report.proofs.LineFields.{first_cells}
use Rattle.report.proofs.LineLemmas.{PlaysOn, plays_free, plays_inside, plays_next}
use Rattle.report.proofs.fumen_line.FumenWriter.set_pages.Goals as goal

-- what an index past the end would read
abbrev default : Placement
default = record { piece = I; rotation = Spawn; x = 0; y = 0 }

pub loop-placement-init : goal.loop-placement-init
loop-placement-init c = search (rules, first_cells)

pub word_of-word-requires-clause-inside : goal.word_of-word-requires-clause-inside
word_of-word-requires-clause-inside c = search (rules, plays_inside)

pub push_page-requires-clause-inside : goal.push_page-requires-clause-inside
push_page-requires-clause-inside c = search (rules, plays_inside)

pub lock-requires : goal.lock-requires
lock-requires c = search (rules, plays_free)

pub loop-placement-preserved : goal.loop-placement-preserved
loop-placement-preserved c =
    let table = table_of c.args.problem.now.rules in
    let mode = c.args.problem.now.drop_mode in
    let i = c.loop-placement.placement-index in
    let F = filled c.loop-placement.well in
    let s = c.args.placements.now in
    let keys = key_part (has_keys c.args.keys.now) table mode in
    let word = option_map (λ word. word.items) c.word_of-word.result in
    let named = c.word_of-word.ensures.word ∙ ap (λ with. key_part with table mode F (get_or s i default)) c.loop-placement.invariant.3 in
    let page = placing_page c.loop-placement.cells c.loop-placement.colour (get_or s i default) word in (
      page_more keys _ c.loop-placement.self.pages.items page c.loop-placement.cells c.loop-placement.colour F (filled c.lock.result.0) s i default word c.loop-placement-test.true refl named c.lock.ensures.field c.loop-placement.invariant.0
          ∙ (λ k. sym c.in_ok-cells.ensures.pushed k ++ placement_pages keys (sym c.in_ok-cells.ensures.left k) false (filled c.lock.result.0) (drop (i + 1) s)),
      subst (λ F. PlaysOn table mode F s (i + 1)) (sym c.lock.ensures.field) (plays_next table mode F s i default c.loop-placement-test.true c.loop-placement.invariant.1),
      c.in_ok-cells.ensures.sound,
      c.word_of-word.ensures.keys ∙ c.loop-placement.invariant.3,
    )

pub returns-clause-pages : goal.returns-clause-pages
returns-clause-pages c = search (rules, pages_end)

pub returns-clause-fit : goal.returns-clause-fit
returns-clause-fit c =
    ap (list_encode_fault V115) (returns-clause-pages c)
    ∙ pages_are_written (has_keys c.args.keys.now) (table_of c.args.problem.now.rules) c.args.problem.now.drop_mode (filled c.args.problem.now.well) c.args.problem.now.height c.args.placements.now c.requires.plays (omega (arith, c.requires.few))
