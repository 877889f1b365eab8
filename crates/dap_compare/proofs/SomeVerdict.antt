-- Two inputs have a verdict: they are checked record by record until one is rejected, they differ,
-- or both have ended.
use Rattle.std.proofs.Common.{◌≡◌, inl, inr, ⊎_elim, ℕ, zero, suc, ◌+◌, ◌<◌, Bool, true, false}
use Rattle.std.proofs.Common.{List, [], ◌∷◌, length}
use Rattle.std.proofs.Common.{refl, sym, ◌∙◌, ap, arith, length-append}
use Rattle.dap_frame.proofs.Ends.{IsReadable}
use Rattle.dap_input.specs.Validation.{Validation}
use Rattle.dap_input.specs.Inputs.{Input, Fault, read_fault, IsRefusedAt, IsNotRefusedAt, IsTaken}
use Rattle.dap_input.specs.Inputs.{AcceptedBefore}
use Rattle.dap_compare.specs.Comparing.{AreSameBefore, Verdict, are_same, differ, refused_a}
use Rattle.dap_compare.specs.Comparing.{refused_b, IsVerdict, HasOneVerdict}
use Rattle.dap_input.proofs.Runs.{ValueFacts, AcceptedFacts, run_none, some_bytes}
use Rattle.dap_input.proofs.NextRecord.{judge_next}
use Rattle.dap_input.proofs.InputRefusals.{SameFacts, taken_not_refused, next_not_refused}
use Rattle.dap_input.proofs.InputRefusals.{ended_taken, ended_failed, next_accepted, refused_there}
use Rattle.dap_compare.proofs.OneVerdict.{one_verdict, no_earlier}

module _ (j : Validation) (records : IsReadable j.records) (judged : ValueFacts j)
    (accepted : AcceptedFacts j) where
  -- the possibilities after the records before this one: no more records, one more that is
  -- accepted, or one that is rejected
  pub data Next (input : Input) (number : ℕ) (before : AcceptedBefore j input number) : Type 0 where
    has_ended : before.rest ≡ [] → IsTaken j input before.values → Next input number before
    goes_on : (after : AcceptedBefore j input (number + 1)) → length after.rest < length before.rest
        → Next input number before
    is_refused : (fault : Fault) → IsRefusedAt j input number fault → Next input number before

  some_next : (input : Input) (number : ℕ) (before : AcceptedBefore j input number)
      → Next input number before
  some_next input number before = by_rest before.rest refl
    where
      at_end : before.rest ≡ [] → (failed : Bool) → input.failed ≡ failed → Next input number before
      at_end none true is =
          is_refused read_fault
          (ended_failed j records judged.laws accepted input number before none is)
      at_end none false is =
          has_ended none (ended_taken j records judged.laws accepted input number before none is)

      by_rest : (rest : List ℕ) → before.rest ≡ rest → Next input number before
      by_rest [] none = at_end none input.failed refl
      by_rest (byte ∷ rest) some =
          ⊎_elim
          (λ next.
          let full = some_bytes j records next.front next.passes.held next.passes.is_record in
          goes_on (next_accepted j records judged.laws accepted input number before next.front
          next.more next.value next.whole next.passes)
          (omega (arith, full, ap length next.whole, length-append next.front next.more)))
          (λ stop. let fault = refused_there j records judged.laws accepted input number before
          stop.0 stop.1 in is_refused fault.0 fault.1)
          (judge_next j records judged before.front before.values before.rest
          (accepted.run_of_accepted before.front before.values before.accepted)
          (λ none. absurd (let e = sym some ∙ none in cc)))

  module _ (AreSame : List j.Value → List j.Value
      → Type 0) (same : SameFacts j AreSame) {P : Type 0} (pairs : List j.Value → List j.Value
      → P) (a b : Input) where
    abbrev pub HasVerdict : Type 0
    HasVerdict = (verdict : Verdict j AreSame pairs) × IsVerdict j AreSame pairs a b verdict

    abbrev Before : ℕ → Type 0
    Before number = AreSameBefore j AreSame a b number

    module _ (number : ℕ) (before : Before number) where
      goes_on_not_refused : (input : Input) → AcceptedBefore j input (number + 1)
          → IsNotRefusedAt j input number
      goes_on_not_refused input after =
          next_not_refused j records judged.laws accepted input number after

      ended_not_refused : (input : Input) (values : List j.Value) → IsTaken j input values
          → IsNotRefusedAt j input number
      ended_not_refused input values taken =
          taken_not_refused j records judged.laws accepted input values number taken

      both_go_on : (next_a : AcceptedBefore j a (number + 1))
          (next_b : AcceptedBefore j b (number + 1)) → length next_a.rest < length before.of_a.rest
          → ((after : Before (number + 1)) → length after.of_a.rest < length before.of_a.rest
          → HasVerdict) → HasVerdict
      both_go_on next_a next_b less again =
          ⊎_elim
          (λ are. again (record { of_a = next_a; of_b = next_b; same = are }) less)
          (λ apart. (
            differ number,
            (
              before,
              goes_on_not_refused a next_a,
              goes_on_not_refused b next_b,
              inr (inr (next_a, next_b, apart)),
            ),
          ))
          (same.reported next_a.front next_b.front next_a.values next_b.values next_a.accepted
          next_b.accepted)

      one_round : ((after : Before (number + 1)) → length after.of_a.rest < length before.of_a.rest
          → HasVerdict)
          → Next a number before.of_a → Next b number before.of_b → HasVerdict
      one_round again (is_refused fault is) next = (refused_a number fault, (before, is))
      one_round again (has_ended none taken) (is_refused fault is) =
          (refused_b number fault, (before, ended_not_refused a before.of_a.values taken, is))
      one_round again (goes_on after less) (is_refused fault is) =
          (refused_b number fault, (before, goes_on_not_refused a after, is))
      one_round again (has_ended none taken) (has_ended no_more taken_too) = (
        are_same (pairs before.of_a.values before.of_b.values),
        (
          record {
            of_a = before.of_a.values;
            of_b = before.of_b.values;
            taken_a = taken;
            taken_b = taken_too;
            same = before.same;
          },
          refl,
        ),
      )
      one_round again (has_ended none taken) (goes_on after less) = (
        differ number,
        (
          before,
          ended_not_refused a before.of_a.values taken,
          goes_on_not_refused b after,
          inl (none, λ no_more. absurd (omega (arith, less, ap length no_more))),
        ),
      )
      one_round again (goes_on after less) (has_ended none taken) = (
        differ number,
        (
          before,
          goes_on_not_refused a after,
          ended_not_refused b before.of_b.values taken,
          inr (inl ((λ no_more. absurd (omega (arith, less, ap length no_more))), none)),
        ),
      )
      one_round again (goes_on next_a less) (goes_on next_b shorter) =
          both_go_on next_a next_b less again

    verdict_behind : (fuel : ℕ) (number : ℕ) (before : Before number)
        → length before.of_a.rest < fuel → HasVerdict
    verdict_behind zero number before enough = absurd (omega (arith, enough))
    verdict_behind (suc fuel) number before enough =
        one_round number before
        (λ after less. verdict_behind fuel (number + 1) after (omega (arith, less, enough)))
        (some_next a number before.of_a) (some_next b number before.of_b)

    abbrev pub nothing_before : (input : Input) → AcceptedBefore j input 1
    nothing_before input =
        record {
          values = [];
          front = [];
          rest = input.bytes;
          split = refl;
          accepted = accepted.accepted_of_run [] [] (run_none j [] 0);
          is_number = refl;
        }

    pub some_verdict : HasVerdict
    some_verdict =
        verdict_behind (suc (length a.bytes)) 1
        (record { of_a = nothing_before a; of_b = nothing_before b; same = same.none })
        (omega arith)

  pub has_one_verdict : (AreSame : List j.Value → List j.Value → Type 0) → SameFacts j AreSame
      → {P : Type 0} (pairs : List j.Value → List j.Value → P) → HasOneVerdict j AreSame pairs
  has_one_verdict AreSame same pairs = record {
    some = some_verdict AreSame same pairs;
    one = one_verdict j records judged.laws accepted AreSame same pairs;
    least = λ a b number earlier is less before. no_earlier j records judged.laws accepted AreSame
        same pairs a b number earlier is less before;
  }
