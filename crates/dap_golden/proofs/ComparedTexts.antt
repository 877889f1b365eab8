-- What the verdict on a golden file and a normal text states about the golden file.
use Rattle.std.proofs.Common.{◌≡◌, ℕ, ℤ, List, Option, Result, Ok, Err, Vec, Global, refl, sym}
use Rattle.std.proofs.Common.{subst, true≢false}
use Rattle.dap_device.specs.Memory.{GivenBytes}
use Rattle.dap_device.specs.Pieces.{HasReadSoFar}
use Rattle.dap_device.specs.declared.reading.Stop.{Stop}
use Rattle.dap_rename.specs.Messages.{AreSame, Class}
use Rattle.dap_rename.specs.Modes.{stop_in}
use Rattle.dap_rename.specs.declared.mode.Mode.{Mode}
use Rattle.dap_input.specs.declared.limits.Limits.{Limits}
use Rattle.dap_input.specs.declared.refused.Refused.{Refused}
use Rattle.dap_input.specs.Inputs.{Fault, IsRefusedAt, refused, read_fault}
use Rattle.dap_input.specs.Limits.{AreSound}
use Rattle.dap_input.specs.ReadTo.{IsOf}
use Rattle.dap_normalise.specs.Accepting.{accepting, text}
use Rattle.dap_normalise.specs.Normalising.{Normalises}
use Rattle.dap_normalise.proofs.NormalFormLaws.{equal_texts_tell, has_one_normal_form}
use Rattle.dap_input.proofs.MemoryInputs.{came_of, memory, reported}
use Rattle.dap_rules.proofs.OrderedTexts.{one_accepted}
use Rattle.dap_compare.specs.Comparing.{are_same, differ}
use Rattle.dap_compare.specs.Verdicts.{HasCompared, IsRecordingVerdict, TellsVerdict}
use Rattle.dap_compare.specs.declared.verdict.CompareRefused.{CompareRefused}
use Rattle.dap_compare.specs.declared.verdict.CompareRefused.TheVariants as because
use Rattle.dap_compare.specs.declared.verdict.Verdict.{Verdict}
use Rattle.dap_compare.specs.declared.verdict.Verdict.TheVariants as code
use Rattle.dap_compare.specs.declared.verdict.Which.TheVariants.{A, B}
use Rattle.dap_compare.proofs.Verdicts.{recordings_have_one_verdict, same_is_told_exactly}
use Rattle.dap_diff.specs.Diffs.{DescribesDifference}
use Rattle.dap_diff.specs.declared.outcome.Diff.{Diff}
use Rattle.dap_diff.specs.declared.outcome.Diff.TheVariants.{Same, Differ}
use Rattle.dap_golden.specs.GoldenFiles.{DiffersAt, IsNormalText, IsRefusedFile, all_of}

module _ (limits : Limits) (mode : Mode) (sound : AreSound limits) (golden later : List ℕ)
    (normal : IsNormalText limits mode later) where
  -- If the two are the same, the text is the normal text of the golden file.
  same_normalises : (how : List (Class × ℤ × ℤ))
      → IsRecordingVerdict limits mode (all_of golden) (all_of later) (are_same how)
      → Normalises limits mode golden later
  same_normalises how is =
      let inputs = is.0 in
      let accepted = inputs.taken_a.0 in
      let form = has_one_normal_form limits mode sound golden inputs.of_a accepted in
      let made : Normalises limits mode golden (text form.0) = record {
        messages = inputs.of_a;
        accepts = accepted;
        normal = form.0;
        is_normal = form.1;
        text_is = refl;
      } in
      let other = one_accepted limits mode later inputs.of_b normal.messages inputs.taken_b.0
      normal.accepts in
      let same = subst (AreSame (stop_in mode) inputs.of_a) other inputs.same in
      subst (Normalises limits mode golden)
      ((equal_texts_tell limits mode sound golden later (text form.0) later made normal).1 same)
      made

  -- If the two differ, it is not.
  pub differs_not_normal : (number : ℕ)
      → IsRecordingVerdict limits mode (all_of golden) (all_of later) (differ number)
      → Normalises limits mode golden later → ⊥
  differs_not_normal number differs made =
      let same = (equal_texts_tell limits mode sound golden later later later made normal).0 refl in
      let exactly = same_is_told_exactly limits mode sound (all_of golden) (all_of later)
      made.messages normal.messages (made.accepts, refl) (normal.accepts, refl) in
      let one = (recordings_have_one_verdict limits mode sound).one (all_of golden) (all_of later)
      (differ number) (are_same _) differs (exactly.if_same same) in
      cc

  -- The text is not rejected.
  not_refused : (number : ℕ) (fault : Fault)
      → IsRefusedAt (accepting limits mode) (all_of later) number fault → ⊥
  not_refused number (refused why) is = is.0.not_accepted normal.messages normal.accepts
  not_refused number read_fault is = true≢false (sym is.0)

-- The verdict of `diff` over two inputs in memory.
module _ (limits : Limits) (mode : Mode) (sound : AreSound limits) (golden later : List ℕ)
    (normal : IsNormalText limits mode later) (old_a new_a old_b new_b : GivenBytes)
    (all_a : old_a.left ≡ golden) (all_b : old_b.left ≡ later)
    (result : Result Diff CompareRefused)
    (tells : DescribesDifference memory memory limits mode old_a new_a old_b new_b result) where
  abbrev Told : Result Diff CompareRefused → Type 0
  Told = DescribesDifference memory memory limits mode old_a new_a old_b new_b

  of_a : (bytes : List ℕ) (stop : Option Stop) → HasReadSoFar memory old_a new_a bytes stop
      → IsOf bytes stop (all_of golden)
  of_a bytes stop came =
      subst (λ all. IsOf bytes stop (all_of all)) all_a (came_of old_a new_a bytes stop came)

  of_b : (bytes : List ℕ) (stop : Option Stop) → HasReadSoFar memory old_b new_b bytes stop
      → IsOf bytes stop (all_of later)
  of_b bytes stop came =
      subst (λ all. IsOf bytes stop (all_of all)) all_b (came_of old_b new_b bytes stop came)

  module _ (outcome : Result Verdict CompareRefused)
      (has : HasCompared memory memory limits mode old_a new_a old_b new_b outcome) where
    verdict : TellsVerdict limits mode (all_of golden) (all_of later) has.number outcome
    verdict = has.tells (all_of golden) (all_of later) (of_a has.bytes_a has.stop_a has.came_a)
        (of_b has.bytes_b has.stop_b has.came_b)

  pub normalises : result ≡ Ok Same → Normalises limits mode golden later
  normalises is =
      let same : Told (Ok Same) = subst Told is tells in
      same_normalises limits mode sound golden later normal _
      (verdict (Ok (code.Same same.0)) same.1)

  module _ (number : ℕ) (lines : Vec ℕ Global) (is : result ≡ Ok (Differ number lines)) where
    apart : Told (Ok (Differ number lines))
    apart = subst Told is tells

    pub differs : IsRecordingVerdict limits mode (all_of golden) (all_of later) (differ number)
    differs =
        let at = verdict (Ok (code.Differ number)) apart.0 in
        subst (λ n. IsRecordingVerdict limits mode (all_of golden) (all_of later) (differ n))
        (sym at.0) at.1

    pub differs_at : DiffersAt limits mode golden later number lines.items
    differs_at =
        let at = apart.1 in
        record {
          differs = differs;
          of_golden = at.of_a;
          of_text = at.of_b;
          golden_has = at.read_a.has (all_of golden)
              (of_a at.read_a.bytes at.read_a.stop at.read_a.came);
          text_has = at.read_b.has (all_of later)
              (of_b at.read_b.bytes at.read_b.stop at.read_b.came);
          lines_are = at.lines_are;
        }

  pub refused_file : (why : Refused) → result ≡ Err (because.Input A why)
      → IsRefusedFile limits mode golden later why
  refused_file why is =
      let compared : Told (Err (because.Input A why)) = subst Told is tells in
      let first = verdict (Err (because.Input A why)) compared in
      record {
        is_refused = reported (accepting limits mode) golden why compared.number first.fault
            first.tells first.is_verdict.1;
        number = compared.number;
        first = first;
      }

  pub not_refused_text : (why : Refused) → result ≡ Err (because.Input B why) → ⊥
  not_refused_text why is =
      let compared : Told (Err (because.Input B why)) = subst Told is tells in
      let first = verdict (Err (because.Input B why)) compared in
      not_refused limits mode sound golden later normal compared.number first.fault
      first.is_verdict.2
