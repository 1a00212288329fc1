-- Each turn takes out the first of the places that are left.
use Rattle.std.proofs.Common.{arith}
use Rattle.srs.specs.Rules.{table_of}
use Rattle.well.specs.Well.{filled}
use Rattle.calling.proofs.TakenPlaces.{begins, counts_all, fewer_left, goes_on, has_room}
use Rattle.calling.proofs.reached.count_places.Goals as goal

pub places-init : goal.places-init
places-init c =
    begins c.places_uncounted-held.result (table_of c.args.rules.now) (filled c.args.well.now) c.args.drop_mode c.args.piece c.places_uncounted-held.ensures.piece c.places_uncounted-held.ensures.held

pub overflow_add-count : goal.overflow_add-count
overflow_add-count c =
    let room = has_room c.places_uncounted-held.result c.places.held c.take_least.new.self c.places.count c.places.invariant c.in-Some.ensures.piece c.in-Some.field-0 c.in-Some.ensures.least c.in-Some.ensures.rest in
    omega arith

pub places-preserved : goal.places-preserved
places-preserved c =
    goes_on c.places_uncounted-held.result c.places.held c.take_least.new.self c.places.count c.places.invariant c.in-Some.ensures.piece c.in-Some.field-0 c.in-Some.ensures.least c.in-Some.ensures.rest

pub places-smaller : goal.places-smaller
places-smaller c =
    fewer_left c.places_uncounted-held.result c.places.held c.take_least.new.self c.places.count c.places.invariant c.in-Some.ensures.piece c.in-Some.field-0 c.in-Some.ensures.least c.in-Some.ensures.rest

pub returns : goal.returns
returns c =
    counts_all c.places_uncounted-held.result (table_of c.args.rules.now) (filled c.args.well.now) c.args.drop_mode c.args.piece c.places_uncounted-held.ensures.piece c.places_uncounted-held.ensures.held
    c.places.held c.places.count c.places.invariant c.in_default.ensures.least
