-- What `combo` writes is determined by its request and the bytes of the source.
use Rattle.std.proofs.Common.{true, ◌≡◌, ◌∙◌, ℕ, List, [], ◌∷◌, Result, Ok, sym, ap, subst}
use Rattle.srs.specs.declared.piece.Piece.{Piece}
use Rattle.srs.specs.Kick.{Table}
use Rattle.kick_file.specs.declared.fault.KickFault.{KickFault}
use Rattle.lane_board.specs.Field.{Field}
use Rattle.queue_pattern.specs.declared.element.Element.{Element}
use Rattle.queue_pattern.specs.declared.fault.PatternFault.{PatternFault}
use Rattle.queue_pattern.specs.Queues.{queues}
use Rattle.combo.specs.Longest.{IsLongest}
use Rattle.combo.proofs.CallerLemmas.{one_longest}
use Rattle.report.specs.Forms.{key_part}
use Rattle.pc_settings.specs.Request.{ComboRequest}
use Rattle.pc_source.specs.FieldTask.{its_field}
use Rattle.pc_source.proofs.FieldTasks.{one_of_field}
use Rattle.pc_combo.specs.Output.{IsOneQueue, IsRunFor, combo_form}
use Rattle.pc_combo.specs.ComboTask.{run_task, combo_task}

same_ok : (xs ys : List Element) → ◌≡◌ {A = Result (List Element) PatternFault} (Ok xs) (Ok ys) → xs ≡ ys
same_ok xs ys e = cc

same_table : (one other : Table) → ◌≡◌ {A = Result Table KickFault} (Ok one) (Ok other) → one ≡ other
same_table one other e = cc

same_only : (one other : List Piece) → ◌≡◌ {A = List (List Piece)} (one ∷ []) (other ∷ []) → one ≡ other
same_only one other e = cc

one_queue : (text : List ℕ) (one other : List Piece) → IsOneQueue text one → IsOneQueue text other → one ≡ other
one_queue text one other first second =
    same_only one other (sym first.only ∙ ap queues (same_ok first.elements second.elements (sym first.read ∙ second.read)) ∙ second.only)

one_answer : (request : ComboRequest) (F : Field) (a b : List ℕ) → IsRunFor request F a → IsRunFor request F b → a ≡ b
one_answer request F a b first second =
    let same = one_queue request.patterns first.queue second.queue first.named second.named in
    let table = same_table first.table second.table (first.rules ∙ sym second.rules) in
    let queue = subst (λ queue. IsLongest first.table request.drop_mode F request.hold queue request.held first.run) same first.longest in
    let longest = subst (λ t. IsLongest t request.drop_mode F request.hold second.queue request.held first.run) table queue in
    first.lines ∙ ap (λ t. combo_form (key_part request.keys t request.drop_mode) F first.run) table ∙ ap (combo_form (key_part request.keys second.table request.drop_mode) F)
    (one_longest second.table request.drop_mode F request.hold second.queue request.held first.run second.run longest second.longest) ∙ sym second.lines

pub one_combo_output : (request : ComboRequest) (bytes : List ℕ) (floods others : ℕ) (a b : List ℕ) → (combo_task request).IsOutput bytes floods a → (combo_task request).IsOutput bytes others b → a ≡ b
one_combo_output request bytes floods others = one_of_field its_field request.field request.page true (run_task request) bytes floods others (λ F. one_answer request F)
