-- What is asked, the sequence after which the list begins, the room, and then what one search lists.
use Rattle.std.proofs.Common.{◌≡◌, ◌∙◌, ◌*◌, ◌-◌, ◌<◌, nat_lt, min, length, Err, sym, ap, subst, inl, inr, arith}
use Rattle.std.proofs.lemmas.List.{length-take-le}
use Rattle.placement_numbers.specs.Numbers.{AreNumbersOf}
use Rattle.problem.specs.Problem.{needed_of}
use Rattle.problem.specs.SolutionList.{IsList}
use Rattle.enumerate.specs.Items.{items_of}
use Rattle.enumerate.specs.ViewOf.{solutions}
use Rattle.pc_settings.specs.Views.{path_view}
use Rattle.pc_path.specs.PathTask.{path_fault}
use Rattle.pc_path.specs.Work.{IsSearchOf}
use Rattle.pc_solutions.specs.Written.{most_written}
use Rattle.pc_solutions.proofs.Given.{asks_after, is_asked}
use Rattle.pc_solutions.proofs.Refused.{fault_told, memory_told, no_room_told, no_sequence_told}
use Rattle.pc_solutions.proofs.Room.{all_fit, most_fit}
use Rattle.pc_solutions.proofs.solutions.write_solutions.Goals as goal

pub returns-in_err-listing-clause-fault : goal.returns-in_err-listing-clause-fault
returns-in_err-listing-clause-fault g c =
    fault_told (path_fault (path_view c.args.settings.now) c.args.bytes.now) c.in_err-listing.field-0.0 c.from_residual.result c.from_residual.ensures.1 c.in_err-listing.ensures.refused

pub returns-in_err-listing-clause-no_sequence : goal.returns-in_err-listing-clause-no_sequence
returns-in_err-listing-clause-no_sequence g c = λ is. absurd (no_sequence_told c.in_err-listing.field-0.0 c.from_residual.result c.from_residual.ensures.1 is)

pub returns-in_err-listing-clause-no_room : goal.returns-in_err-listing-clause-no_room
returns-in_err-listing-clause-no_room g c = λ is. absurd (no_room_told c.in_err-listing.field-0.0 c.from_residual.result c.from_residual.ensures.1 is)

pub returns-in_err-listing-clause-memory : goal.returns-in_err-listing-clause-memory
returns-in_err-listing-clause-memory g c = λ is.
    inl (c.in_err-listing.ensures.memory (ap (λ r. Err r) (memory_told c.in_err-listing.field-0.0 c.from_residual.result c.from_residual.ensures.1 is)))

pub returns-in_err-after-clause-no_sequence : goal.returns-in_err-after-clause-no_sequence
returns-in_err-after-clause-no_sequence g c = λ is. record {
  problem = c.in_ok-listing.listing.problem;
  asked = is_asked (path_view c.args.settings.now) c.args.bytes.now c.in_ok-listing.listing.problem c.in_ok-listing.ensures.problem c.in_ok-listing.ensures.none;
  some = c.in_err-after.ensures.refused.1;
  none = λ sequence of. c.in_err-after.ensures.refused.2 sequence (subst (λ needed. AreNumbersOf needed c.args.after.now sequence) (sym c.needed-needed.ensures) of);
}

pub returns-then-placements-from-clause-no_room : goal.returns-then-placements-from-clause-no_room
returns-then-placements-from-clause-no_room g c = λ is.
    let problem = c.in_ok-listing.listing.problem in
    let needed = c.needed-needed.ensures in
    record {
      problem = problem;
      after = items_of c.in_ok-after.after;
      asks = asks_after c.needed-needed.result (path_view c.args.settings.now) c.args.bytes.now c.args.after.now problem (items_of c.in_ok-listing.listing.after) (items_of c.in_ok-after.after) needed c.in_ok-listing.ensures.problem c.in_ok-listing.ensures.none c.in_ok-listing.ensures.after c.in_ok-after.ensures.after;
      short = omega (arith, c.if-placements-from.true, needed, c.from.ensures);
    }

pub returns-in_err-search-clause-memory : goal.returns-in_err-search-clause-memory
returns-in_err-search-clause-memory g c = λ is.
    let problem = c.in_ok-listing.listing.problem in
    let needed = c.needed-needed.ensures in
    inr (record {
      problem = problem;
      after = items_of c.in_ok-after.after;
      asks = asks_after c.needed-needed.result (path_view c.args.settings.now) c.args.bytes.now c.args.after.now problem (items_of c.in_ok-listing.listing.after) (items_of c.in_ok-after.after) needed c.in_ok-listing.ensures.problem c.in_ok-listing.ensures.none c.in_ok-listing.ensures.after c.in_ok-after.ensures.after;
      enough = omega (arith, c.if-placements-from.false, needed, c.from.ensures);
    })

pub write_list-requires-clause-room : goal.write_list-requires-clause-room
write_list-requires-clause-room g c =
    most_fit c.args.settings.now.limit (length c.args.placements.now) c.needed-needed.result _ c.most_written-most.result c.most_written-most.ensures c.needed-needed.ensures

pub returns-clause-within : goal.returns-clause-within
returns-clause-within g c =
    let list = c.write_list.ensures in
    let fits = all_fit c.write_list.result.count c.most_written-most.result (4 * needed_of c.in_ok-listing.listing.problem) (length c.args.placements.now) _ list.count
    (most_fit c.args.settings.now.limit (length c.args.placements.now) c.needed-needed.result _ c.most_written-most.result c.most_written-most.ensures c.needed-needed.ensures) in
    omega (arith, fits, list.size, c.write_list.auto.placements)

pub returns-clause-written : goal.returns-clause-written
returns-clause-written g c =
    let problem = c.in_ok-listing.listing.problem in
    let needed = c.needed-needed.ensures in
    let search = c.in_ok-search.search in
    let list = c.write_list.ensures in
    let after = items_of c.in_ok-after.after in
    let given = c.in_ok-search.ensures.after in
    let room = length c.args.placements.now in
    let limit = c.args.settings.now.limit in
    let most = c.most_written-most.ensures ∙ ap (most_written limit room) needed in
    record {
      problem = problem;
      after = after;
      asks = asks_after c.needed-needed.result (path_view c.args.settings.now) c.args.bytes.now c.args.after.now problem (items_of c.in_ok-listing.listing.after) after needed c.in_ok-listing.ensures.problem c.in_ok-listing.ensures.none c.in_ok-listing.ensures.after c.in_ok-after.ensures.after;
      fits = omega (arith, c.if-placements-from.false, needed, c.from.ensures);
      sequences = solutions search;
      list = subst (λ v. IsList v (solutions search)) c.in_ok-search.ensures.view c.in_ok-search.ensures.list;
      counted = subst (λ n. c.write_list.result.count ≡ n) (ap (λ m. min m (length (solutions search))) most) list.count;
      are = list.written;
      size = length-take-le c.write_list.result.size c.write_list.new.placements (returns-clause-within g c) ∙ list.size;
      end = list.ended ∙ ap (λ m. nat_lt (length (solutions search)) m) most;
      work = record {
        search = c.write_list.new.search;
        searched = subst (λ a. IsSearchOf problem a c.write_list.new.search (c.write_list.new.steps - c.args.steps.now)) given list.searched;
        left = list.left;
        ended = λ none short. list.whole (given ∙ none) (subst (λ m. length (solutions search) < m) (sym most) short);
      };
    }
