-- The definitions, tried: the order of key words, and key words that lead to a straight piece's place in a gap of four columns.
use Rattle.std.proofs.Common.{◌≡◌, ◌&&◌, nat_lt, true, false, [], ◌∷◌, length, refl}
use Rattle.std.specs.declared.cmp.Ordering.TheVariants.{Less}
use Rattle.lane_board.specs.Field.{Field}
use Rattle.srs.specs.declared.piece.Piece.TheVariants.{I}
use Rattle.srs.specs.declared.rotation.Rotation.TheVariants as rotation
use Rattle.srs.specs.declared.placement.Placement.{Placement}
use Rattle.srs.specs.Cells.{moved}
use Rattle.srs.specs.Kick.{srs_table}
use Rattle.srs.specs.SameCells.{is_among}
use Rattle.well.specs.Free.{is_open, is_free_at}
use Rattle.moves.specs.declared.key.Key.TheVariants.{Left, Right, Down, Clockwise, Anti}
use Rattle.moves.specs.declared.key.DropMode.TheVariants.{Soft, Hard}
use Rattle.moves.specs.Leads.{spawned, state_after}
use Rattle.moves.specs.Rest.{rest_from}
use Rattle.moves.specs.Step.{first_free, shifted}
use Rattle.moves.specs.PlaceTest.{comes_to_rest, leads_to_rest}
use Rattle.key_path.specs.KeyWords.{key_word_cmp, key_words_of}

fewer_keys_first : key_word_cmp (Anti ∷ []) (Left ∷ Left ∷ []) ≡ Less
fewer_keys_first = refl

then_the_first_difference : key_word_cmp (Right ∷ Left ∷ Anti ∷ []) (Right ∷ Down ∷ Left ∷ []) ≡ Less
then_the_first_difference = refl

words_of_one_key : key_words_of 1 ≡ (Left ∷ []) ∷ (Right ∷ []) ∷ (Down ∷ []) ∷ (Clockwise ∷ []) ∷ (Anti ∷ []) ∷ []
unfolding key_words_of
words_of_one_key = refl

how_many_words_of_three_keys : length (key_words_of 3) ≡ 125
unfolding key_words_of
how_many_words_of_three_keys = refl

abbrev row : Field
row x y = nat_lt x 6 && nat_lt y 1

abbrev straight : Placement
straight = record { piece = I; rotation = rotation.Spawn; x = 7; y = 0 }

three_to_the_right : leads_to_rest srs_table row Soft straight (Right ∷ Right ∷ Right ∷ []) ≡ true
unfolding leads_to_rest state_after spawned comes_to_rest rest_from first_free shifted is_free_at is_open moved is_among
three_to_the_right = refl

two_are_too_few : leads_to_rest srs_table row Soft straight (Right ∷ Right ∷ []) ≡ false
unfolding leads_to_rest state_after spawned comes_to_rest rest_from first_free shifted is_free_at is_open moved is_among
two_are_too_few = refl

no_down_with_hard_drop : leads_to_rest srs_table row Hard straight (Right ∷ Right ∷ Right ∷ Down ∷ []) ≡ false
unfolding leads_to_rest
no_down_with_hard_drop = refl
