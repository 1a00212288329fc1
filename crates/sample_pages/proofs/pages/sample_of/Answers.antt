-- One page more.
use Rattle.std.proofs.Common.{◌≡◌, ◌∙◌, ◌+◌, ◌-◌, ◌==◌, [], ◌∷◌, ◌++◌, All, ap, arith, length, refl, subst, sym}
use Rattle.std.proofs.lemmas.List.Elements.{All-push}
use Rattle.fumen_digits.specs.declared.dialect.Dialect.TheVariants.{V115}
use Rattle.fumen_pages.specs.Sound.{IsSound}
use Rattle.sample_pages.specs.Draws.{draw}
use Rattle.sample_pages.specs.Pages.{pages_drawn, sample_pages, state_behind_pages}
use Rattle.sample_pages.proofs.PageLemmas.{empty_sound, page_more, pages_end, pages_start, state_end, state_more, state_start}
use Rattle.sample_pages.proofs.pages.sample_of.Goals as goal

pub loop-index-init : goal.loop-index-init
loop-index-init c = record {
  pages = pages_start c.new-made.result.items _ c.args.pages c.from-state.result c.args.number c.new-made.ensures.items c.from-state.ensures refl;
  behind = state_start c.args.pages c.from-state.result c.args.number c.from-state.ensures;
  cells = empty_sound;
  sound = λ k d within. absurd (omega (arith, within, ap length c.new-made.ensures.items));
}

pub loop-index-preserved : goal.loop-index-preserved
loop-index-preserved c =
    let index = c.loop-index.index in
    let made = c.loop-index.made.items in
    let grown : c.push.new.self.items ≡ made ++ c.in_ok-page.page ∷ [] = (c.in_ok-push.ensures {u = tt}).items in
    let page = c.in_ok-page.ensures {u = tt} in
    record {
      pages =
          (λ i. c.push.new.self.items ++ pages_drawn (c.args.pages - (index + 1)) (c.state_behind-state.ensures i) ((index + 1) == 0) (c.next_cells-cells.ensures.cells i))
          ∙ page_more (sample_pages c.args.number c.args.pages) made c.push.new.self.items c.args.pages index c.loop-index.state c.loop-index.cells c.in_ok-page.page
          c.loop-index-test.true c.loop-index.invariant.pages page.page grown;
      behind =
          ap (λ state. state_behind_pages (c.args.pages - (index + 1)) state) c.state_behind-state.ensures
          ∙ state_more (state_behind_pages c.args.pages c.args.number) c.args.pages index c.loop-index.state c.loop-index-test.true c.loop-index.invariant.behind;
      cells = c.next_cells-cells.ensures.sound;
      sound = subst (All (IsSound V115)) (sym grown) (All-push (IsSound V115) made c.in_ok-page.page c.loop-index.invariant.sound page.sound);
    }

pub returns-clause-pages : goal.returns-clause-pages
returns-clause-pages c =
    pages_end (sample_pages c.args.number c.args.pages) c.loop-index.made.items c.args.pages c.loop-index.index c.loop-index.state _ c.loop-index.cells
    c.loop-index-test.false c.loop-index.invariant.pages

pub returns-clause-column : goal.returns-clause-column
returns-clause-column c =
    c.draw.ensures.value
    ∙ ap (λ state. draw state 1 7) (state_end (state_behind_pages c.args.pages c.args.number) c.args.pages c.loop-index.index c.loop-index.state
    c.loop-index-test.false c.loop-index.invariant.behind)
