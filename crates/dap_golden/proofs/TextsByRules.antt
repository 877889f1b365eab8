-- Golden texts by the same rules are normal texts by these rules.
use Rattle.std.proofs.Common.{ℕ, Bool, List, Some, length, refl, subst}
use Rattle.dap_message.specs.Message.{Sent}
use Rattle.dap_tree.specs.declared.side.Side.TheVariants.{Client, Adapter}
use Rattle.dap_session.specs.Rules.{open_requests}
use Rattle.dap_mask.specs.Mask.{Mask}
use Rattle.dap_input.specs.declared.limits.Limits.{Limits}
use Rattle.dap_input.specs.Limits.{AreSound}
use Rattle.dap_rename.specs.declared.mode.Mode.{Mode}
use Rattle.dap_rename.specs.declared.mode.Mode.TheVariants.{Whole}
use Rattle.dap_normalise.specs.declared.normal_session.NormalSession.{NormalSession}
use Rattle.dap_rules.specs.Applying.{NormalisesByRules}
use Rattle.dap_rules.specs.MaskedMessages.{AreMaskedMessages}
use Rattle.dap_rules.specs.MaskedMessages.{ordered_by}
use Rattle.dap_rules.proofs.NamedOrdered.{equal_named_orders}
use Rattle.dap_rules.proofs.NamedSameness.{equal_names_and_ids}
use Rattle.dap_rules.proofs.TextsByRules as by_rules
use Rattle.dap_golden.specs.Golden.{AreMaskedMessagesOf, IsGolden, IsRecordingOf}
use Rattle.dap_golden.specs.Golden.{messages_of}
use Rattle.dap_golden.specs.Laws.{EqualGoldenTextsByRules, EqualGoldenTextsInEachMode}
use Rattle.dap_golden.specs.Laws.{EqualGoldenTextsByExchanges, EqualGoldenTextsByNames}
use Rattle.dap_golden.specs.Laws.{GoldenIsOrdered, OneMaskedListOfInput}
use Rattle.dap_golden.specs.declared.golden.GoldenText.{GoldenText}
use Rattle.dap_golden.proofs.OneGoldenText.{one_recording}

module _ (limits : Limits) (mode : Mode) (mask : Mask) (allow_open : Bool) (input : List ℕ)
    (text : GoldenText) (is : IsGolden limits mode (Some mask) allow_open input text) where
  -- The golden text with all counts of its session.
  abbrev session : NormalSession
  session = record {
    bytes = text.bytes;
    counts = record {
      records = length (messages_of is);
      client_open = open_requests Client (messages_of is);
      adapter_open = open_requests Adapter (messages_of is);
    };
  }

  normalises : NormalisesByRules limits mode mask is.of_input.recording session
  normalises = (
    is.session,
    is.of_input.applies,
    record {
      canonical = is.of_session.canonical;
      counted = record { records = refl; client = refl; adapter = refl };
    },
  )

module _ (limits : Limits) (sound : AreSound limits) (mask : Mask) (input : List ℕ) where
  -- The masked messages of an input are those of its recording.
  masked_of : (recording : List ℕ) (messages : List Sent) → IsRecordingOf limits input recording
      → AreMaskedMessagesOf limits mask input messages
      → AreMaskedMessages limits mask recording messages
  masked_of recording messages of_input are =
      subst (λ bytes. AreMaskedMessages limits mask bytes messages)
      (one_recording limits sound input are.recording recording are.of_input of_input)
      are.are_masked

pub one_masked_list : OneMaskedListOfInput
one_masked_list limits sound mask input messages others one two =
    by_rules.one_masked_list limits mask two.recording messages others
    (masked_of limits sound mask input two.recording messages two.of_input one) two.are_masked

pub golden_is_ordered : GoldenIsOrdered
golden_is_ordered limits mode mask allow_open input text is =
    let recording = is.of_input.recording in
    let made = by_rules.session_is_ordered limits mode mask recording (messages_of is) record {
      written = is.session;
      applies = is.of_input.applies;
      accepted = is.of_session.canonical.normalises.accepts;
    } in (
      made.0,
      record { recording = recording; of_input = is.of_input.of_input; are_masked = made.1 },
      made.2,
    )

pub equal_in_each_mode : EqualGoldenTextsInEachMode
equal_in_each_mode limits mode sound mask allow_open either input other a b ms ns one two are_ms
    are_ns =
    by_rules.equal_texts_in_each_mode limits mode mask one.of_input.recording two.of_input.recording
    (session limits mode mask allow_open input a one)
    (session limits mode mask either other b two) ms ns
    (normalises limits mode mask allow_open input a one)
    (normalises limits mode mask either other b two)
    (masked_of limits sound mask input one.of_input.recording ms one.of_input.of_input are_ms)
    (masked_of limits sound mask other two.of_input.recording ns two.of_input.of_input are_ns)

pub equal_by_names : EqualGoldenTextsByNames
equal_by_names limits mode sound mask are allow_open either input other a b ms ns one two are_ms
    are_ns few less =
    let texts = equal_in_each_mode limits mode sound mask allow_open either input other a b ms ns
    one two are_ms are_ns in
    let names = equal_names_and_ids mode mask.declared (ordered_by mask ms) (ordered_by mask ns) are
    few less in
    (λ e. names.0 (texts.0 e), λ same. texts.1 (names.1 same))

pub equal_by_exchanges : EqualGoldenTextsByExchanges
equal_by_exchanges limits sound mask are allow_open either input other a b ms ns one two are_ms
    are_ns numbered keeps few less =
    let texts = equal_in_each_mode limits Whole sound mask allow_open either input other a b ms ns
    one two are_ms are_ns in
    let names = equal_named_orders mask.swaps mask.declared ms ns are numbered keeps few less in
    (λ e. names.0 (texts.0 e), λ same. texts.1 (names.1 same))

pub equal_by_rules : EqualGoldenTextsByRules
equal_by_rules limits sound mask none allow_open either input other a b ms ns one two are_ms
    are_ns =
    by_rules.equal_texts_by_rules limits mask none one.of_input.recording two.of_input.recording
    (session limits Whole mask allow_open input a one)
    (session limits Whole mask either other b two) ms ns
    (normalises limits Whole mask allow_open input a one)
    (normalises limits Whole mask either other b two)
    (masked_of limits sound mask input one.of_input.recording ms one.of_input.of_input are_ms)
    (masked_of limits sound mask other two.of_input.recording ns two.of_input.of_input are_ns)
