-- An output in the mode `Whole` is accepted in each mode in which its recording is, and has the
-- same normal form in that mode.
use Rattle.std.proofs.Common.{◌≡◌, ℕ, List, [], ◌∷◌, sym, subst, arith, refl}
use Rattle.dap_frame.proofs.Ends.{not_empty}
use Rattle.dap_frame.proofs.ItemStreams as items
use Rattle.dap_message.specs.Message.{Sent}
use Rattle.dap_recording.proofs.Records.{record_grammar, readable}
use Rattle.dap_rename.specs.Messages.{AreSame, IsNormal, no_stop}
use Rattle.dap_rename.specs.Modes.{stop_in}
use Rattle.dap_rename.specs.declared.mode.Mode.{Mode}
use Rattle.dap_rename.specs.declared.mode.Mode.TheVariants.{Whole}
use Rattle.dap_rename.proofs.FinerSameness.{same_in_each_mode}
use Rattle.dap_rename.proofs.NormalForms.{same_counts}
use Rattle.dap_rename.proofs.Sameness.{same_along, same_both_ways, same_is_proper}
use Rattle.dap_input.specs.declared.limits.Limits.{Limits}
use Rattle.dap_input.specs.Limits.{AreSound}
use Rattle.dap_normalise.specs.Accepting.{Payload, AreMessages, IsAccepted, text}
use Rattle.dap_normalise.specs.Normalising.{Normalises, WholeTextIsNormalised}
use Rattle.dap_normalise.proofs.AcceptingFacts.{message_once}
use Rattle.dap_normalise.proofs.NormalFormLaws.{normal_is_accepted}
use Rattle.dap_normalise.proofs.NormalTexts.{normal_fits}

one_messages : (records : List Payload) (ms ns : List Sent) → AreMessages records ms
    → AreMessages records ns → ms ≡ ns
one_messages [] [] [] typed also = refl
one_messages [] (m ∷ ms) ns typed also = absurd typed
one_messages [] [] (n ∷ ns) typed also = absurd also
one_messages (held ∷ records) [] ns typed also = absurd typed
one_messages (held ∷ records) (m ∷ ms) [] typed also = absurd also
one_messages (held ∷ records) (m ∷ ms) (n ∷ ns) typed also =
    rw (message_once held m n typed.0 also.0, one_messages records ms ns typed.1 also.1) refl

module _ (limits : Limits) (mode : Mode) (sound : AreSound limits) (bytes whole written : List ℕ)
    (a : Normalises limits Whole bytes whole) (b : Normalises limits mode bytes written) where
  -- both modes accept the same list of messages
  one : a.messages ≡ b.messages
  one =
      one_messages b.accepts.records a.messages b.messages
      (subst (λ records. AreMessages records a.messages)
      (items.one_list (record_grammar limits.frame) (not_empty (readable limits.frame)) bytes
      a.accepts.records b.accepts.records a.accepts.recording b.accepts.recording)
      a.accepts.typed)
      b.accepts.typed

  same : AreSame (stop_in mode) b.messages a.normal
  unfolding IsNormal
  same =
      same_in_each_mode mode b.messages a.normal
      (subst (λ ms. AreSame no_stop ms a.normal) one a.is_normal.0)

  still_normal : IsNormal (stop_in mode) a.normal b.normal
  unfolding IsNormal
  still_normal = (
    same_along (stop_in mode) a.normal b.messages b.normal
        (same_both_ways (stop_in mode) b.messages a.normal same) b.is_normal.0,
    b.is_normal.1,
  )

  whole_accepted : IsAccepted limits mode (text a.normal) a.normal
  whole_accepted =
      let accepted = normal_is_accepted limits Whole sound bytes a.messages a.normal a.accepts
      a.is_normal in
      let few = b.accepts.few in
      record {
        short = accepted.short;
        records = accepted.records;
        recording = accepted.recording;
        typed = accepted.typed;
        rules = accepted.rules;
        few = λ c. let count = same_counts (stop_in mode) b.messages a.normal same c in let most =
            few c in omega (arith, count, most);
        fits = normal_fits limits mode a.normal b.normal
            (same_is_proper (stop_in mode) b.messages a.normal same).1 still_normal
            (b.accepts.fits b.normal b.is_normal);
      }

  normalised_in_mode : Normalises limits mode whole written
  normalised_in_mode = record {
    messages = a.normal;
    accepts = subst (λ t. IsAccepted limits mode t a.normal) (sym a.text_is) whole_accepted;
    normal = b.normal;
    is_normal = still_normal;
    text_is = b.text_is;
  }

pub whole_text_is_normalised : WholeTextIsNormalised
whole_text_is_normalised = normalised_in_mode
