-- A command about a field: it ends by what refuses the field, or as the rest.
use Rattle.std.proofs.Common.{◌≡◌, ◌≢◌, ◌∙◌, ℕ, ◌-◌, List, [], Bool, true, subst, inl, inr}
use Rattle.lane_board.specs.Field.{Field}
use Rattle.pc_outside.specs.declared.answers.Refused.{Refused}
use Rattle.pc_outside.specs.declared.answers.Refused.TheVariants as refused
use Rattle.pc_faults.specs.declared.fault.Fault.{Fault}
use Rattle.pc_faults.specs.declared.status.Status.{Status}
use Rattle.pc_faults.specs.declared.status.Status.TheVariants.{Done, Input, SourceFault, SinkFault, NoMemory}
use Rattle.pc_faults.specs.Codes.{refused_status}
use Rattle.pc_faults.specs.Inner.{IsInner}
use Rattle.pc_faults.proofs.CallerLemmas.{inner_first}
use Rattle.pc_settings.specs.Request.{FieldText}
use Rattle.pc_source.specs.Statuses.{IsAnswered}
use Rattle.pc_source.specs.Ends.{CommandEnds}
use Rattle.pc_source.specs.Faults.{cells_asked, field_fault}
use Rattle.pc_source.specs.FieldTask.{SourceOf, asked_needs, field_task, fault_after_field, rest_bytes, dash_text}
use Rattle.pc_source.specs.Had.{HasField, IsRefusedInput}
use Rattle.pc_source.specs.Sink.{SinkChange}
use Rattle.pc_source.specs.Task.{Task, nothing}
use Rattle.pc_source.specs.Work.{Works}
use Rattle.pc_source.proofs.CallerLemmas.{refusal_before}
use Rattle.pc_source.proofs.CommandEnds.{ends_refused}
use Rattle.pc_source.proofs.FieldFaults.{field_first, had_fault}
use Rattle.pc_source.proofs.FieldLaws.{one_field}
use Rattle.pc_source.proofs.InnerFaults.{inner_field}

module _ (source : SourceOf) (text : FieldText) (page : ℕ) (memory_first : Bool) (rest : Field → Task) (bytes : List ℕ) where
  abbrev whole : Task
  whole = field_task source text page memory_first rest

  module _ (sink : SinkChange) (Kept : Type 0) (before now : ℕ) where
    -- the field is not had
    pub field_refused : (r : Refused Fault) (status : Status) → status ≡ refused_status r → Kept → now ≡ before → (r ≡ refused.NoMemory → asked_needs source text ≢ nothing)
        → IsRefusedInput (field_fault text page (dash_text source bytes)) r → CommandEnds whole bytes sink Kept before now status
    field_refused r status same kept idle needed is = ends_refused whole bytes sink Kept before now r status same kept idle needed
        (refusal_before (field_fault text page (dash_text source bytes)) (whole.fault bytes) r (field_first source text page (λ F. (rest F).fault) bytes) is)

    module _ (F : Field) (has : HasField text page (dash_text source bytes) F) (needs : asked_needs source text ≡ nothing → (rest F).needs ≡ nothing) (first : memory_first ≡ true → (rest F).memory_first ≡ true)
        (floods : ℕ) where
      same : whole.fault bytes ≡ (rest F).fault (rest_bytes source bytes)
      same = had_fault source text page (λ F. (rest F).fault) bytes F has

      of_field : (output : List ℕ) → (rest F).IsOutput (rest_bytes source bytes) floods output → whole.IsOutput bytes floods output
      of_field output is = record { field = F; asked = has.is; holds = is }

      had_answers : (status : Status) → IsAnswered (rest F) (rest_bytes source bytes) sink Kept floods status → IsAnswered whole bytes sink Kept floods status
      had_answers Done a =
          record { none = same ∙ a.none; wrote = record { output = a.wrote.output; is_output = of_field a.wrote.output a.wrote.is_output; grown = a.wrote.grown }; kept = a.kept }
      had_answers (Input f) a = (same ∙ a.0, a.1)
      had_answers SourceFault a = absurd a
      had_answers SinkFault a =
          record { none = same ∙ a.none; front = record { output = a.front.output; is_output = of_field a.front.output a.front.is_output; grown = a.front.grown }; rose = a.rose }
      had_answers NoMemory a = record {
        known = λ none. same ∙ a.known (needs none);
        first = λ is. a.first (first is);
        ended = elim a.ended [
          | inl kept ↦ inl kept
          | inr ended ↦ inr (record {
            none = same ∙ ended.none;
            front = record { output = ended.front.output; is_output = of_field ended.front.output ended.front.is_output; grown = ended.front.grown };
            kept = ended.kept;
          })
        ];
      }

      had_works : (status : Status) → Works (rest F) ((rest F).fault (rest_bytes source bytes)) (rest_bytes source bytes) sink floods status → Works whole (whole.fault bytes) bytes sink floods status
      had_works Done w = record { field = F; asked = has.is; holds = w }
      had_works (Input f) w = w
      had_works SourceFault w = w
      had_works SinkFault w = record { field = F; asked = has.is; holds = w }
      had_works NoMemory w = elim w [
        | inl none ↦ inl none
        | inr made ↦ inr (same ∙ made.0, record { field = F; asked = has.is; holds = made.1 })
      ]

    -- the field is had, and the rest ended so
    pub field_had : (F : Field) → HasField text page (dash_text source bytes) F → (asked_needs source text ≡ nothing → (rest F).needs ≡ nothing) → (memory_first ≡ true → (rest F).memory_first ≡ true)
        → (status : Status) → CommandEnds (rest F) (rest_bytes source bytes) sink Kept before now status → CommandEnds whole bytes sink Kept before now status
    field_had F has needs first status ends = record {
      answers = had_answers F has needs first (now - before) status ends.answers;
      works = had_works F has needs first (now - before) status ends.works;
      counted = ends.counted;
    }

  -- where the rest has one output, so has the whole
  pub one_of_field : (floods others : ℕ) → ((F : Field) (a b : List ℕ) → (rest F).IsOutput (rest_bytes source bytes) floods a → (rest F).IsOutput (rest_bytes source bytes) others b → a ≡ b)
      → (a b : List ℕ) → whole.IsOutput bytes floods a → whole.IsOutput bytes others b → a ≡ b
  one_of_field floods others one a b first second =
      let same = one_field text page (dash_text source bytes) first.field second.field first.asked second.asked in
      one second.field a b (subst (λ F. (rest F).IsOutput (rest_bytes source bytes) floods a) same first.holds) second.holds

  -- no fault of the words, and none that the source is too long
  pub inner_of_field : ((F : Field) → IsInner ((rest F).fault (rest_bytes source bytes))) → IsInner (whole.fault bytes)
  unfolding fault_after_field
  inner_of_field inner = inner_first _ _ (inner_field text page (dash_text source bytes)) (inner_first _ [] (inner (cells_asked text page (dash_text source bytes))) tt)
