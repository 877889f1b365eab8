-- Masking and naming over bytes in memory: the guarantees for a reader and a writer hold for the
-- bytes.
use Rattle.std.proofs.Common.{◌≡◌, ℕ, List, [], ◌++◌, Some, Result, Ok, Err, ◌∙◌, sym, ap, subst}
use Rattle.dap_device.specs.declared.device.Sink.{Ghosts as Sink}
use Rattle.dap_device.specs.Memory.{GivenBytes}
use Rattle.dap_device.specs.Written.{AllSent}
use Rattle.dap_recording.proofs.Records.{readable}
use Rattle.dap_mask.specs.{Declarations.Declaration, Mask.Mask}
use Rattle.dap_input.specs.declared.limits.Limits.{Limits}
use Rattle.dap_input.specs.declared.refused.Refused.{Refused}
use Rattle.dap_input.specs.declared.refused.Refused.TheVariants.{Memory, WriteFault}
use Rattle.dap_input.specs.{Streaming.Streams, Validation.Validation}
use Rattle.dap_rules.specs.MaskedRecordings.{IsMaskedTo, Masks}
use Rattle.dap_rules.specs.Masking.{masking}
use Rattle.dap_rules.proofs.MaskingFacts.{accepted_facts, value_laws}
use Rattle.dap_input.proofs.MemoryInputs.{all_came, memory, refused_whole}
use Rattle.dap_rules.specs.Applying.{RefusesToMask, RefusesToName}
use Rattle.dap_rules.specs.{NamedRecordings.IsNamedTo, Naming.{Names, naming}}
use Rattle.dap_rules.proofs.NamingFacts as named
use Rattle.dap_rules.specs.Memory.{IsOutOfMemory, WrittenBytes}

-- A growing buffer in memory, as a sink.
abbrev pub text_sink : Sink WrittenBytes
text_sink = record {
  out = λ sink. Some sink.out;
  unflushed = λ sink. sink.unflushed;
  failures = λ sink. sink.failures;
}

-- The bytes that were sent are all bytes of the sink.
pub all_sent : (before after : WrittenBytes) (text : List ℕ) → before.out ≡ []
    → AllSent text_sink before after text → after.out ≡ text
all_sent before after text none sent = sent.appended ∙ ap (λ bytes. bytes ++ text) none

module _ (old new : GivenBytes) (before after : WrittenBytes) where
  module _ (j : Validation) (Gives Promises : List ℕ → List ℕ → Type 0) where
    abbrev StreamsAs : Result (Unit {0}) Refused → Type 0
    StreamsAs result = Streams j Gives Promises memory text_sink old new before after result

    whole : before.out ≡ [] → StreamsAs (Ok tt) → Promises old.left after.out
    whole none has =
        subst (λ bytes. Promises bytes after.out)
        (all_came old new j.input has.accepts.whole has.accepts.came)
        (subst (Promises has.accepts.whole)
        (sym (all_sent before after has.text none has.written)) has.accepts.gives)

  module _ (limits : Limits) (mask : Mask) where
    abbrev pub MasksAs : Result (Unit {0}) Refused → Type 0
    MasksAs = StreamsAs (masking limits mask) (Masks limits mask) (IsMaskedTo limits mask)

    pub masked_whole : before.out ≡ [] → MasksAs (Ok tt) → IsMaskedTo limits mask old.left
        after.out
    masked_whole = whole (masking limits mask) (Masks limits mask) (IsMaskedTo limits mask)

    pub mask_refused : (because : Refused) → (IsOutOfMemory because → ⊥) → MasksAs (Err because)
        → RefusesToMask limits mask old.left because
    mask_refused Memory not_memory has = tt
    mask_refused WriteFault not_memory has = absurd (not_memory tt)
    mask_refused because not_memory has =
        refused_whole old new (masking limits mask) (readable limits.frame)
        (value_laws limits mask) (accepted_facts limits mask) (Masks limits mask) because has.text
        has.refuses

  module _ (limits : Limits) (declared : List Declaration) where
    abbrev pub NamesAs : Result (Unit {0}) Refused → Type 0
    NamesAs = StreamsAs (naming limits declared) (Names limits declared)
        (IsNamedTo limits declared)

    pub named_whole : before.out ≡ [] → NamesAs (Ok tt) → IsNamedTo limits declared old.left
        after.out
    named_whole =
        whole (naming limits declared) (Names limits declared) (IsNamedTo limits declared)

    pub name_refused : (because : Refused) → (IsOutOfMemory because → ⊥) → NamesAs (Err because)
        → RefusesToName limits declared old.left because
    name_refused Memory not_memory has = tt
    name_refused WriteFault not_memory has = absurd (not_memory tt)
    name_refused because not_memory has =
        refused_whole old new (naming limits declared) (readable limits.frame)
        (named.value_laws limits declared) (named.accepted_facts limits declared)
        (Names limits declared) because has.text has.refuses
