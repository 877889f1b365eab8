-- The messages in the texts that `compare` stores, and that each text has at most one.
use Rattle.std.proofs.Common.{◌≡◌, inl, inr, ℕ, ◌≤◌, List, [], ◌∷◌, ◌++◌, length, Option}
use Rattle.std.proofs.Common.{Some, None, Ok, Err, refl, sym, ap, subst, append-nil}
use Rattle.dap_device.specs.declared.device.Source.{Ghosts as Source}
use Rattle.dap_device.specs.declared.reading.Stop.{Stop}
use Rattle.dap_device.specs.declared.reading.Stop.TheVariants.{End, Full, Failed}
use Rattle.dap_tree.specs.Json.{text_of}
use Rattle.dap_message.specs.Message.{Sent}
use Rattle.dap_recording.specs.Recording.{IsRecord}
use Rattle.dap_recording.proofs.Records.{record_grammar, readable}
use Rattle.dap_recording.proofs.RecordsWritten.{written_is_record}
use Rattle.dap_frame.proofs.Ends.{not_empty, one_item}
use Rattle.dap_frame.proofs.ItemStreams.{one_list}
use Rattle.dap_rename.specs.Messages.{IsNormal}
use Rattle.dap_rename.specs.Modes.{stop_in}
use Rattle.dap_rename.specs.declared.mode.Mode.{Mode}
use Rattle.dap_rename.proofs.Lists.{each_right}
use Rattle.dap_input.specs.declared.limits.Limits.{Limits}
use Rattle.dap_input.specs.Inputs.{Input}
use Rattle.dap_input.specs.Limits.{AreSound}
use Rattle.dap_input.specs.ReadTo.{IsOf, so_far}
use Rattle.dap_normalise.specs.Accepting.{AreMessages, IsAccepted, IsMessage, text}
use Rattle.dap_normalise.specs.{JudgingSteps.record_of, RecordTexts.contents_of}
use Rattle.dap_normalise.proofs.AcceptingFacts.{message_once}
use Rattle.dap_normalise.proofs.NormalFormLaws.{normal_accepted, recording_of}
use Rattle.dap_compare.specs.LeftTexts.{IsRecordAt, LeavesRecord}
use Rattle.dap_compare.specs.Verdicts.{Compares}
use Rattle.dap_compare.specs.declared.verdict.CompareRefused.TheVariants.{Memory}
use Rattle.dap_compare.specs.declared.verdict.Verdict.TheVariants.{Differ}
use Rattle.dap_compare.proofs.StreamComparing.{not_empty_record}
use Rattle.dap_diff.specs.Diffs.{HasAt, HasRead, DescribesRecord}
use Rattle.dap_diff.specs.Texts.{IsRecordOf, IsRecordText, Holds, IsLeftText, DescribesTexts}

-- ---- a message of a normal form is that of its own text

last_message : (ms : List Sent) (m : Sent)
    → AreMessages (contents_of (ms ++ m ∷ [])) (ms ++ m ∷ []) → IsMessage (m.side, text_of m.doc) m
last_message [] m typed = typed.0
last_message (n ∷ ms) m typed = last_message ms m typed.1

module _ (limits : Limits) (mode : Mode) (sound : AreSound limits) where
  own_contents : (bytes : List ℕ) (values all : List Sent) → IsAccepted limits mode bytes values
      → IsNormal (stop_in mode) values all → AreMessages (contents_of all) all
  own_contents bytes values all accepted is_normal =
      let again = (normal_accepted limits mode sound bytes values all accepted is_normal).0 in
      subst (λ r. AreMessages r all)
      (one_list (record_grammar limits.frame) (not_empty (readable limits.frame)) (text all)
      again.records (contents_of all) again.recording
      (recording_of limits sound all (accepted.fits all is_normal).each))
      again.typed

  pub record_is : (text bytes : List ℕ) (values normal : List Sent) (named : Sent)
      → IsAccepted limits mode bytes values → IsNormal (stop_in mode) values (normal ++ named ∷ [])
      → text ≡ record_of named → IsRecordOf limits text named
  record_is text bytes values normal named accepted is_normal is = record {
    is_record = is;
    short =
        (each_right (λ (m : Sent). length (text_of m.doc) ≤ limits.frame.content) normal
        (named ∷ []) (accepted.fits (normal ++ named ∷ []) is_normal).each).0;
    typed =
        (last_message normal named
        (own_contents bytes values (normal ++ named ∷ []) accepted is_normal)).1;
  }

  -- ---- the message in the text of a record

  found_at : (input : Input) (number : ℕ) (text : List ℕ) → IsRecordAt limits mode input number text
      → (found : Option Sent) × Holds limits text found × HasAt limits mode input number found
  found_at input number text (inl (before, ended, none)) = (None, none, (before, ended))
  found_at input number text (inr (next, normal, named, is_normal, is)) = (
    Some named,
    record_is text next.front next.values normal named next.accepted is_normal is,
    (next, normal, is_normal),
  )

pub left_record : (limits : Limits) (text : List ℕ) → (text ≡ [] → ⊥) → IsLeftText limits text
    → IsRecordText limits text
left_record limits text some (None, none) = absurd (some none)
left_record limits text some (Some m, holds) = (m, holds)

module _ (limits : Limits) (sound : AreSound limits) where
  pub record_here : (text : List ℕ) (m : Sent) → IsRecordOf limits text m
      → IsRecord limits.frame text m.side (text_of m.doc)
  record_here text m is =
      subst (λ t. IsRecord limits.frame t m.side (text_of m.doc)) (sym is.is_record)
      (written_is_record limits.frame m.side (text_of m.doc) sound.frame is.short)

  pub one_message : (text : List ℕ) (m n : Sent) → IsRecordOf limits text m
      → IsRecordOf limits text n → m ≡ n
  one_message text m n is other =
      let one = one_item (record_grammar limits.frame) text text [] [] (m.side, text_of m.doc)
      (n.side, text_of n.doc) refl (record_here text m is) (record_here text n other) in
      message_once (m.side, text_of m.doc) m n (refl, is.typed)
      (subst (λ h. IsMessage h n) (sym one.1) (refl, other.typed))

  pub one_holds : (text : List ℕ) (a b : Option Sent) → Holds limits text a → Holds limits text b
      → a ≡ b
  one_holds text None None is other = refl
  one_holds text None (Some m) is other = absurd (not_empty_record m text other.is_record is)
  one_holds text (Some m) None is other = absurd (not_empty_record m text is.is_record other)
  one_holds text (Some m) (Some n) is other = ap Some (one_message text m n is other)

  -- ---- the stored record of one reader

  is_so_far : (bytes : List ℕ) (stop : Option Stop) → IsOf bytes stop (so_far bytes stop)
  is_so_far bytes None = ([], sym (append-nil bytes))
  is_so_far bytes (Some End) = (refl, refl)
  is_so_far bytes (Some Full) = ([], sym (append-nil bytes))
  is_so_far bytes (Some Failed) = (refl, refl)

module _ (limits : Limits) (mode : Mode) (sound : AreSound limits) where
  module _ {R : Type 0} (source : Source R) (old new : R) (number : ℕ) (text : List ℕ)
      (left : LeavesRecord source limits mode old new number text) where
    has_read : (found : Option Sent) → Holds limits text found
        → HasRead source limits mode old new number found
    has_read found holds = record {
      bytes = left.bytes;
      stop = left.stop;
      came = left.came;
      has = λ input is.
          let here = found_at limits mode sound input number text (left.is_record input is) in
          subst (HasAt limits mode input number) (one_holds limits sound text here.0 found here.1
          holds) here.2;
    }

    pub is_left : IsLeftText limits text
    is_left =
        let here = found_at limits mode sound (so_far left.bytes left.stop) number text
        (left.is_record (so_far left.bytes left.stop) (is_so_far limits sound left.bytes left.stop))
        in
        (here.0, here.1)

  -- ---- the stored records of two readers

  module _ {R S : Type 0} (source_a : Source R) (source_b : Source S) (old_a new_a : R)
      (old_b new_b : S) (number : ℕ) (text_a text_b lines : List ℕ)
      (left_a : LeavesRecord source_a limits mode old_a new_a number text_a)
      (left_b : LeavesRecord source_b limits mode old_b new_b number text_b) where
    pub tells_record : DescribesTexts limits text_a text_b lines
        → DescribesRecord source_a source_b limits mode old_a new_a old_b new_b number lines
    tells_record tells = record {
      of_a = tells.of_a;
      of_b = tells.of_b;
      read_a = has_read source_a old_a new_a number text_a left_a tells.of_a tells.holds_a;
      read_b = has_read source_b old_b new_b number text_b left_b tells.of_b tells.holds_b;
      lines_are = tells.lines_are;
    }

-- An allocation failed after the first record that differs was found.
pub gave_up_after : {R S : Type 0} (source_a : Source R) (source_b : Source S) (limits : Limits)
    (mode : Mode) (old_a new_a : R) (old_b new_b : S) (number : ℕ)
    → Compares source_a source_b limits mode old_a new_a old_b new_b (Ok (Differ number))
    → Compares source_a source_b limits mode old_a new_a old_b new_b (Err Memory)
gave_up_after source_a source_b limits mode old_a new_a old_b new_b number compared = record {
  number = compared.number;
  bytes_a = compared.bytes_a;
  stop_a = compared.stop_a;
  came_a = compared.came_a;
  read_a = compared.read_a;
  bytes_b = compared.bytes_b;
  stop_b = compared.stop_b;
  came_b = compared.came_b;
  read_b = compared.read_b;
  tells = λ x y is_x is_y. (compared.tells x y is_x is_y).1.0;
  none_fails = compared.none_fails;
}
