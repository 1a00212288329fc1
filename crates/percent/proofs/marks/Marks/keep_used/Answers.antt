-- The list of the mark has fewer tilings.
use Rattle.std.proofs.Common.{◌≡◌, ◌<◌, ◌∙◌, length, refl, sym, ap, length-set, arith}
use Rattle.std.proofs.lemmas.List.{get_or_default}
use Rattle.percent.specs.declared.marks.Mark.{Mark}
use Rattle.percent.proofs.BuildingLemmas.{keeps-set, mark-read, narrowed}
use Rattle.percent.proofs.marks.Marks.keep_used.Goals as goal

pub returns-in-Ok-clause-narrowed : goal.returns-in-Ok-clause-narrowed
returns-in-Ok-clause-narrowed c = λ left hands lists is_used.
    let marks = c.args.self.now in
    let known = marks.known.items in
    let size = marks.known.ok in
    let within : c.args.index < length known = omega (arith, c.requires.index, size) in
    let old = c.index-mark.result.now in
    let same : c.index_mut.result.now ≡ old = c.index_mut.ensures.value ∙ get_or_default known c.args.index c.index_mut.result.now old within ∙ sym c.index-mark.ensures in
    let new : Mark = record { counts = c.index_mut.result.now.counts; tilings = c.in-Ok.tilings } in
    let uses = is_used old (mark-read known c.args.index old within c.index-mark.ensures) in
    record {
      position = refl;
      game = refl;
      size = length-set known c.args.index new;
      lists = record {
        each = narrowed marks left hands c.args.index c.args.used.now old new within c.index-mark.ensures (ap (λ (m : Mark). m.counts) same) c.in-Ok.ensures uses.each lists;
      };
    }

pub returns-in-Ok-clause-counts : goal.returns-in-Ok-clause-counts
returns-in-Ok-clause-counts c =
    let marks = c.args.self.now in
    let known = marks.known.items in
    let size = marks.known.ok in
    let within : c.args.index < length known = omega (arith, c.requires.index, size) in
    let old = c.index-mark.result.now in
    let same : c.index_mut.result.now ≡ old = c.index_mut.ensures.value ∙ get_or_default known c.args.index c.index_mut.result.now old within ∙ sym c.index-mark.ensures in
    let new : Mark = record { counts = c.index_mut.result.now.counts; tilings = c.in-Ok.tilings } in
    record { same = keeps-set known c.args.index old new within c.index-mark.ensures (ap (λ (m : Mark). m.counts) same) }
