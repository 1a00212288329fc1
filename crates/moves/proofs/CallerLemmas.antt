-- Lemmas that the crates above cite.
pub use Rattle.moves.proofs.HardPlaces.{hard_places}
pub use Rattle.moves.proofs.LaneFacts.{lane_near, lowest_near, near, rest_lane, sky_from}
pub use Rattle.moves.proofs.LaneLemmas.{Lifts, keyed_in, lifts_by, shift_lifts}
pub use Rattle.moves.proofs.OpenLemmas.{IsNatural, IsOpenHeight, column, free_fits, natural, open_free, open_height}
pub use Rattle.moves.proofs.PlaceFree.{place-free}
pub use Rattle.moves.proofs.PlaceTest.{is_place-decides}
pub use Rattle.moves.proofs.RestLemmas.{rest_of-is, rest_of-only}
pub use Rattle.moves.proofs.RestTest.{from_tests, leads-free, leads_to_rest-decides, to_tests}
pub use Rattle.moves.proofs.SkyLemmas.{sky_free, sky_is_reached, soft_allows}
pub use Rattle.moves.proofs.SoftPlaces.{leads-append, soft_places}
pub use Rattle.moves.proofs.StateLemmas.{code_below, one_state}
pub use Rattle.moves.proofs.StepLemmas.{IsFreeState, spawned-free, step_is_finite, step_of-free}
pub use Rattle.moves.proofs.TurnLemmas.{kick_is_short}
pub use Rattle.moves.proofs.WalkLemmas.{led_good, led_none, not_some, short_keys}
pub use Rattle.moves.proofs.WindowLemmas.{window}
