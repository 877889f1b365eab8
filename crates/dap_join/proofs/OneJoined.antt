-- The items of a recording are unique, so it is joined in one way, and is not rejected then.
use Rattle.std.proofs.Common.{◌≡◌, inl, inr, ℕ, ◌+◌, List, [], ◌∷◌, ◌++◌, refl, sym, ◌∙◌, ap, subst}
use Rattle.std.proofs.Common.{append_assoc}
use Rattle.dap_frame.proofs.Ends.{not_empty}
use Rattle.dap_frame.proofs.ItemStreams.{one_list}
use Rattle.dap_tree.proofs.Outcomes.{read_once}
use Rattle.dap_recording.specs.Recording.{IsRecording, recording_text}
use Rattle.dap_recording.proofs.Records.{readable, record_grammar}
use Rattle.dap_recording.proofs.RecordsWritten.{written_is_recording}
use Rattle.dap_input.specs.Limits.{AreSound}
use Rattle.dap_input.specs.declared.limits.Limits.{Limits}
use Rattle.dap_input.specs.declared.refused.Refused.{Refused}
use Rattle.dap_input.specs.declared.refused.Refused.TheVariants.{Grew}
use Rattle.dap_input.proofs.ItemReaders.{shown_cause}
use Rattle.dap_input.proofs.OneOutcome.{has_one_outcome}
use Rattle.dap_normalise.specs.Accepting.{Payload}
use Rattle.dap_normalise.specs.RecordTexts.{FitRecords}
use Rattle.dap_normalise.proofs.RecordTexts.{fit_front}
use Rattle.dap_join.specs.Outputs.{AreItems, IsPart, Item, Part, part_of}
use Rattle.dap_join.specs.Joined.{joined}
use Rattle.dap_join.specs.Joining.{GrowsAt, IsNotJoined, IsSplit, Joins, numbers_of}
use Rattle.dap_join.specs.Joining.{payloads, splitting}
use Rattle.dap_mask.specs.declared.joining.Joining.{Joining}
use Rattle.dap_join.proofs.SplittingFacts.{accepted_facts, value_facts}
use Rattle.dap_join.proofs.Written.{payloads-append}

part_once : (held : Payload) (p q : Part) → IsPart held p → IsPart held q → p ≡ q
part_once held p q (inl one) (inl two) =
    one.2 ∙ ap (part_of held.0) (read_once held.1 one.0 two.0 one.1 two.1) ∙ sym two.2
part_once held p q (inl one) (inr two) = absurd (two.0 one.0 one.1)
part_once held p q (inr one) (inl two) = absurd (one.0 two.0 two.1)
part_once held p q (inr one) (inr two) = one.1 ∙ sym two.1

item_once : (i j : Item) → i.number ≡ j.number → i.held ≡ j.held → i.part ≡ j.part → i ≡ j
item_once i j number held part =
    ap (λ n. let one : Item = record { number = n; held = i.held; part = i.part } in one) number
    ∙ ap (λ h. let one : Item = record { number = j.number; held = h; part = i.part } in one) held
    ∙ ap (λ p. let one : Item = record { number = j.number; held = j.held; part = p } in one) part

items_once : (n : ℕ) (records : List Payload) (is js : List Item) → AreItems n records is
    → AreItems n records js → is ≡ js
items_once n [] [] [] one two = refl
items_once n [] [] (j ∷ js) one two = absurd two
items_once n [] (i ∷ is) js one two = absurd one
items_once n (held ∷ records) [] js one two = absurd one
items_once n (held ∷ records) (i ∷ is) [] one two = absurd two
items_once n (held ∷ records) (i ∷ is) (j ∷ js) one two =
    let first : i ≡ j = item_once i j (one.0 ∙ sym two.0) (one.1 ∙ sym two.1)
    (part_once held i.part j.part one.2 two.2) in
    ap (λ k. k ∷ is) first ∙ ap (λ ks. j ∷ ks) (items_once (n + 1) records is js one.3 two.3)

-- A recording has one list of items.
pub split_once : (limits : Limits) (bytes : List ℕ) (is js : List Item) → IsSplit limits bytes is
    → IsSplit limits bytes js → is ≡ js
split_once limits bytes is js one two =
    let same : one.records ≡ two.records =
    one_list (record_grammar limits.frame) (not_empty (readable limits.frame)) bytes one.records
    two.records one.recording two.recording in
    items_once 1 two.records is js (subst (λ rs. AreItems 1 rs is) same one.are_items)
    two.are_items

pub one_joined : (limits : Limits) (joining : Joining) (bytes written other numbers others : List ℕ)
    → Joins limits joining bytes written numbers → Joins limits joining bytes other others
    → (written ≡ other) × (numbers ≡ others)
one_joined limits joining bytes written other numbers others one two =
    let same = split_once limits bytes one.items two.items one.split two.split in (
      one.text_is ∙ ap (λ is. recording_text (payloads (joined joining is))) same
          ∙ sym two.text_is,
      one.numbers_are ∙ ap (λ is. numbers_of (joined joining is)) same ∙ sym two.numbers_are,
    )

pub joined_is_recording : (limits : Limits) → AreSound limits → (joining : Joining)
    (bytes written numbers : List ℕ) (joins : Joins limits joining bytes written numbers)
    → IsRecording limits.frame written (payloads (joined joining joins.items))
joined_is_recording limits sound joining bytes written numbers joins =
    let fits = joins.fits in
    subst (λ t. IsRecording limits.frame t (payloads (joined joining joins.items)))
    (sym joins.text_is)
    (written_is_recording limits.frame (payloads (joined joining joins.items)) sound.frame
    fits.each)

module _ (limits : Limits) (sound : AreSound limits) (joining : Joining)
    (bytes written numbers : List ℕ) (joins : Joins limits joining bytes written numbers) where
  fits_no_growth : (n : ℕ) (items : List Item) → IsSplit limits bytes items
      → GrowsAt limits (joined joining items) n → ⊥
  fits_no_growth n items split grows =
      let same : joins.items ≡ items =
      split_once limits bytes joins.items items joins.split split in
      let all : payloads (joined joining joins.items)
      ≡ payloads (grows.before ++ grows.one ∷ []) ++ payloads grows.after =
      ap (λ is. payloads (joined joining is)) same ∙ ap payloads grows.is
      ∙ ap payloads (sym (append_assoc grows.before (grows.one ∷ []) grows.after))
      ∙ payloads-append (grows.before ++ grows.one ∷ []) grows.after in
      grows.grows
      (fit_front limits (payloads (grows.before ++ grows.one ∷ [])) (payloads grows.after)
      (subst (FitRecords limits) all joins.fits))

  pub not_both : (because : Refused) → IsNotJoined limits joining bytes because → ⊥
  not_both (Grew n) grown = fits_no_growth n grown.0 grown.1 grown.2
  not_both because refused =
      let split = joins.split in
      (has_one_outcome (splitting limits) (shown_cause limits.frame)
      (readable limits.frame) (value_facts limits) (accepted_facts limits)).not_both bytes
      split.records because
      (record { short = split.short; recording = split.recording }) refused
