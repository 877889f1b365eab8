-- An old golden file is accepted, and its messages are those of its recording with other numbers at
-- the ids of the first rows.
use Rattle.std.proofs.Common.{◌≡◌, ℕ, true, List, [], ◌∷◌, map, refl, sym, ◌∙◌, ap, ap₂, subst}
use Rattle.std.proofs.Common.{arith}
use Rattle.std.specs.List.{AllByRecursion}
use Rattle.dap_frame.proofs.Ends.{not_empty}
use Rattle.dap_frame.proofs.ItemStreams as items
use Rattle.dap_tree.specs.Doc.{Doc}
use Rattle.dap_tree.specs.Ids.{ids}
use Rattle.dap_tree.specs.declared.side.Side.{Side}
use Rattle.dap_tree.proofs.Outcomes.{read_once, read_is_plain}
use Rattle.dap_profile.specs.Profile.{first_rows}
use Rattle.dap_message.specs.LaterIds.{first_ids, is_later_sort, with_later_ids}
use Rattle.dap_message.specs.Message.{Sent, IsTyped, IsTypedContent, IsTypedContentByRows}
use Rattle.dap_message.specs.Numbers.{has_small_ids}
use Rattle.dap_message.proofs.LaterRows.{content_later, marked_in_two}
use Rattle.dap_message.proofs.MarkedPlaces.{small_ids}
use Rattle.dap_recording.proofs.Records.{record_grammar, readable}
use Rattle.dap_rename.specs.Laws.{AreMixed}
use Rattle.dap_rename.specs.Messages.{AreSame, IsNormal, no_stop, message_skeleton}
use Rattle.dap_rename.proofs.Lists.{head_of, tail_of}
use Rattle.dap_rename.proofs.MixedSameness.{same_by_parts}
use Rattle.dap_rename.proofs.NormalForms.{names_are_small, same_counts}
use Rattle.dap_rename.proofs.Occurrences.{docs_alike}
use Rattle.dap_rename.proofs.Sameness.{same_along, same_both_ways}
use Rattle.dap_rename.specs.declared.mode.Mode.TheVariants.{Whole}
use Rattle.dap_input.specs.declared.limits.Limits.{Limits}
use Rattle.dap_input.specs.Limits.{AreSound}
use Rattle.dap_normalise.specs.Accepting.{Payload, AreMessages, AreMessagesByRows, IsAccepted}
use Rattle.dap_normalise.specs.Accepting.{id_limit}
use Rattle.dap_normalise.specs.Accepting.{text}
use Rattle.dap_normalise.specs.Normalising.{Normalises}
use Rattle.dap_normalise.specs.OldGoldenFiles.{IsOldGolden, OldGoldenFiles}
use Rattle.dap_normalise.proofs.AcceptingFacts.{messages_proper}
use Rattle.dap_normalise.specs.RecordTexts.{contents_of}
use Rattle.dap_normalise.proofs.NormalFormLaws.{recording_of, rules_kept}
use Rattle.dap_normalise.proofs.NormalTexts.{normal_fits}

-- ---- the messages of an old text

-- the messages with the ids that the later rows define
later : List Sent → List Sent
later [] = []
later (n ∷ ns) = record { side = n.side; doc = with_later_ids n.side n.doc } ∷ later ns

first_ids_of : (side : Side) (bytes : List ℕ) (first m : Doc)
    → IsTypedContentByRows first_rows side bytes first → IsTypedContent side bytes m
    → first_ids m ≡ ids first
first_ids_of side bytes first m (d, reads, h) (e, reads_too, g) =
    let one : e ≡ d = read_once bytes e d reads_too reads in
    let typed : IsTyped side d m = subst (λ x. IsTyped side x m) one g in
    (marked_in_two side d first m (read_is_plain bytes d reads) h typed).1

sent_alike : (m n : Sent) → m.side ≡ n.side → m.doc ≡ n.doc → m ≡ n
sent_alike m n side doc = ap₂ (λ s d. record { side = s; doc = d }) side doc

-- Each message is typed from its own text, and its ids are mixed with those of the recording's
-- messages (`IsMixed`).
typed_later : (records : List Payload) (first ns ms : List Sent)
    → AreMessagesByRows first_rows records first → AreMessages records ms
    → map message_skeleton first ≡ map message_skeleton ns
    → AllByRecursion (λ n. has_small_ids n.doc ≡ true) ns
    → AreMessages (contents_of ns) (later ns) × AreMixed is_later_sort first ns ms (later ns)
unfolding later
typed_later [] [] [] [] h g same small = (tt, tt)
typed_later (held ∷ records) (f ∷ first) (n ∷ ns) (m ∷ ms) h g same small =
    let alike = head_of same in
    let of_n : held.0 ≡ n.side = sym h.0.0 ∙ ap (λ (w : Sent). w.side) alike in
    let of_m : m.side ≡ n.side = g.0.0 ∙ of_n in
    let one = subst (λ s. IsTypedContentByRows first_rows s held.1 f.doc) of_n h.0.1 in
    let two = subst (λ s. IsTypedContent s held.1 m.doc) of_n g.0.1 in
    let again = content_later n.side held.1 f.doc m.doc n.doc one two
    (sym (docs_alike f n alike)) (small_ids (ids n.doc) small.0) in
    let rest = typed_later records first ns ms h.1 g.1 (tail_of same) small.1 in (
      ((refl, again.0), rest.0),
      (
        record {
          skeleton = sent_alike _ _ of_m (sym again.1.skeleton);
          equal = sym again.1.later;
          of_first = first_ids_of n.side held.1 f.doc m.doc one two;
          of_second = again.1.first;
        },
        rest.1,
      ),
    )
typed_later [] [] (n ∷ ns) ms h g same small = absurd cc
typed_later [] (f ∷ first) ns ms h g same small = absurd h
typed_later [] [] [] (m ∷ ms) h g same small = absurd g
typed_later (held ∷ records) [] ns ms h g same small = absurd h
typed_later (held ∷ records) (f ∷ first) [] ms h g same small = absurd cc
typed_later (held ∷ records) (f ∷ first) (n ∷ ns) [] h g same small = absurd g

-- ---- normalising an old output

module _ (limits : Limits) (sound : AreSound limits) (old new : List ℕ)
    (golden : IsOldGolden limits old new) where
  accepts : IsAccepted limits Whole golden.recording golden.normalises.messages
  accepts = golden.normalises.accepts

  one_records : golden.accepted.records ≡ accepts.records
  one_records =
      items.one_list (record_grammar limits.frame) (not_empty (readable limits.frame))
      golden.recording golden.accepted.records accepts.records golden.accepted.recording
      accepts.recording

  typed_and_mixed : AreMessages (contents_of golden.normal) (later golden.normal)
      × AreMixed is_later_sort golden.first golden.normal golden.normalises.messages
      (later golden.normal)
  unfolding IsNormal AreSame
  typed_and_mixed =
      typed_later golden.accepted.records golden.first golden.normal golden.normalises.messages
      golden.accepted.typed
      (subst (λ rs. AreMessages rs golden.normalises.messages) (sym one_records) accepts.typed)
      golden.is_normal.0.2.0
      (names_are_small no_stop (id_limit limits) golden.first golden.normal
      (λ s. let most = sound.ids in omega (arith, most)) golden.accepted.few golden.is_normal)

  same : AreSame no_stop golden.normalises.messages (later golden.normal)
  unfolding IsNormal
  same =
      same_by_parts is_later_sort golden.first golden.normal golden.normalises.messages
      (later golden.normal) golden.is_normal.0 typed_and_mixed.1
      (messages_proper accepts.records golden.normalises.messages accepts.typed)
      (messages_proper (contents_of golden.normal) (later golden.normal) typed_and_mixed.0)

  still_normal : IsNormal no_stop (later golden.normal) golden.normalises.normal
  unfolding IsNormal
  still_normal = (
    same_along no_stop (later golden.normal) golden.normalises.messages golden.normalises.normal
        (same_both_ways no_stop golden.normalises.messages (later golden.normal) same)
        golden.normalises.is_normal.0,
    golden.normalises.is_normal.1,
  )

  old_accepted : IsAccepted limits Whole (text golden.normal) (later golden.normal)
  old_accepted =
      let fits = golden.accepted.fits golden.normal golden.is_normal in
      let few = accepts.few in
      record {
        short = fits.whole;
        records = contents_of golden.normal;
        recording = recording_of limits sound golden.normal fits.each;
        typed = typed_and_mixed.0;
        rules = rules_kept Whole accepts.records golden.normalises.messages (later golden.normal)
            accepts.typed same accepts.rules;
        few = λ c. let count = same_counts no_stop golden.normalises.messages
            (later golden.normal) same c in let most = few c in omega (arith, count, most);
        fits = normal_fits limits Whole (later golden.normal) golden.normalises.normal
            (messages_proper (contents_of golden.normal) (later golden.normal) typed_and_mixed.0)
            still_normal (accepts.fits golden.normalises.normal golden.normalises.is_normal);
      }

  normalised_anew : Normalises limits Whole old new
  normalised_anew = record {
    messages = later golden.normal;
    accepts = subst (λ t. IsAccepted limits Whole t (later golden.normal)) (sym golden.old_is)
        old_accepted;
    normal = golden.normalises.normal;
    is_normal = still_normal;
    text_is = golden.normalises.text_is;
  }

pub old_golden_files : OldGoldenFiles
old_golden_files = normalised_anew
