-- The entry is put in its slot.
use Rattle.std.proofs.Common.{◌<◌, ◌≡◌, ◌==◌, ◌∙◌, false, Contains, length, sym, subst, ap, arith}
use Rattle.std.proofs.lemmas.Bool.Decides.{nat_tests}
use Rattle.fact_table.proofs.CallerLemmas.{slot-among}
use Rattle.percent.specs.declared.kept.Kept.{Kept}
use Rattle.percent.proofs.KeptLemmas.{blank-counted, blank-true}
use Rattle.percent.proofs.kept.Kept.note.Goals as goal
use Rattle.percent.proofs.kept.Kept.note.Goals.{then-self-count, else-self-count}

pub invariant_of-self : goal.invariant_of-self
invariant_of-self c =
    let kept = c.args.self.now in
    let slots = c.forget.new.self in
    record {
      same_hold = kept.same_hold;
      floods = kept.floods;
      are_true = blank-true kept.tree kept.game slots c.forget.ensures.nothing;
      counted = sym (blank-counted slots c.forget.ensures.nothing);
      bounded = omega arith;
    }

pub returns-clause-kept : goal.returns-clause-kept
returns-clause-kept c = λ _.
    let kept = c.if-self-count.self in
    let same : length kept.slots ≡ length c.args.self.now.slots = elim c.if-self-count.branch [
      | then-self-count w ↦ ap (λ (k : Kept). length k.slots) w.self-is ∙ w.forget.ensures.room
      | else-self-count w ↦ ap (λ (k : Kept). length k.slots) w.self-is
    ] in
    let test : (length c.args.self.now.slots == 0) ≡ false = sym c.is_without_room.ensures ∙ c.if-is_without_room.false in
    let some : 0 < length kept.slots = grind (arith, nat_tests) in
    subst (λ slots. Contains slots c.args.slot) (sym c.replace.ensures.slots) (slot-among kept.slots c.hash_of.result c.args.slot some)
