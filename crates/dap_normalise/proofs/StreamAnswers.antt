-- The results of the command functions that check a recording record by record.
use Rattle.std.proofs.Common.{◌≡◌, ℕ, ℤ, ◌+◌, ◌<◌, Bool, true, false, List, [], ◌++◌}
use Rattle.std.proofs.Common.{Ok, Err, refl, sym, ◌∙◌, subst, arith}
use Rattle.std.proofs.lemmas.Bool.{true≢false}
use Rattle.dap_device.specs.declared.device.Source.{Ghosts as Source}
use Rattle.dap_message.specs.Message.{Sent}
use Rattle.dap_session.specs.Rules.{open_requests}
use Rattle.dap_tree.specs.declared.side.Side.TheVariants.{Client, Adapter}
use Rattle.dap_normalise.specs.declared.checked.Checked.{Checked}
use Rattle.dap_rename.specs.declared.mode.Mode.{Mode}
use Rattle.dap_input.specs.declared.limits.Limits.{Limits}
use Rattle.dap_normalise.specs.declared.normal_records.NormalRecords.{NormalRecords}
use Rattle.dap_input.specs.declared.refused.Refused.{Refused}
use Rattle.dap_input.specs.declared.refused.Refused.TheVariants.{Incomplete, WriteFault, Memory}
use Rattle.dap_input.proofs.Refusals.{untold}
use Rattle.dap_input.proofs.StreamEnds.{none_come}
use Rattle.dap_normalise.specs.Accepting.{IsAccepted, accepting, text}
use Rattle.dap_normalise.specs.Checking.{AreCounted, Checks}
use Rattle.dap_input.specs.Engine.{Accepts}
use Rattle.dap_normalise.specs.JudgingSteps.{RepresentsMessages}
use Rattle.dap_normalise.specs.Normalising.{Normalises}
use Rattle.dap_normalise.specs.NormalSteps.{HasEnded, HasAdvanced, HasNext, HasStoppedAt}
use Rattle.dap_normalise.specs.Streaming.{HasComeTo}
use Rattle.dap_normalise.proofs.AcceptingFacts.{none_normalised}
use Rattle.dap_normalise.proofs.StreamLoop.{Going, all_came, refused_to, refuses_next}

module _ {T R : Type 0} {numbers : T → List ℤ} {table_limit : T → ℕ} {source : Source R}
    {limits : Limits} {mode : Mode} {start reader : R} {records : NormalRecords T}
    (was : Going numbers table_limit source limits mode start reader records)
    {new : NormalRecords T} {after : R} where
  -- whether a record was read
  pub gone : {some : Bool} {before longer : List ℕ}
      → HasNext numbers table_limit source limits mode was.bytes was.messages was.normal
      records new reader after before longer (Ok some) → some ≡ true
      → HasAdvanced numbers table_limit source limits mode was.bytes was.messages was.normal
      records new reader after before longer
  gone {some = true} next is = next
  gone {some = false} next is = absurd (true≢false (sym is))

  pub ended : {some : Bool} {before longer : List ℕ}
      → HasNext numbers table_limit source limits mode was.bytes was.messages was.normal
      records new reader after before longer (Ok some) → some ≡ false
      → HasEnded numbers table_limit source limits mode was.bytes was.messages was.normal
      records new reader after before longer
  ended {some = true} next is = absurd (true≢false is)
  ended {some = false} next is = next

  -- ---- `check`

  pub check_refuses : (complete : Bool) (because : Refused)
      → HasStoppedAt numbers table_limit source limits mode was.bytes was.messages
      was.normal records new reader after because
      → Checks source limits mode complete start after (Err because)
  check_refuses complete (Incomplete client adapter) stopped =
      absurd (untold (Incomplete client adapter) records.records.number stopped.says.fault refl
      (λ e. absurd (let same = e in cc)) stopped.says.tells)
  check_refuses complete WriteFault stopped =
      absurd (untold WriteFault records.records.number stopped.says.fault refl
      (λ e. absurd (let same = e in cc)) stopped.says.tells)
  check_refuses complete Memory stopped = (
    records.records.number,
    text was.normal,
    subst (λ stop. HasComeTo source limits mode start after stop records.records.number
        (text was.normal)) (stopped.goes_on refl) (refused_to was stopped),
  )
  check_refuses complete because stopped = (text was.normal, refuses_next was stopped stopped.says)

  module _ {before longer : List ℕ}
      (end : HasEnded numbers table_limit source limits mode was.bytes was.messages
      was.normal records new reader after before longer) where
    judge_stands : RepresentsMessages numbers table_limit new.judge was.messages was.normal
    judge_stands =
        subst (λ judge. RepresentsMessages numbers table_limit judge was.messages was.normal)
        (sym end.judge_is) was.represents.represents

    pub some_records : 0 < new.records.number
    some_records = let is = was.represents.number_is in let same =
        end.number_is in omega (arith, is, same)

    pub accepts : Accepts source limits.input (IsAccepted limits mode) start after was.messages
    accepts = record {
      whole = was.bytes ++ end.more;
      came = all_came was end;
      gives = end.accepted;
    }

    abbrev pub Open : ℕ → ℕ → Type 0
    Open client adapter =
        ((messages normal : List Sent)
        → RepresentsMessages numbers table_limit new.judge messages normal
        → client ≡ open_requests Client messages)
        × ((messages normal : List Sent)
        → RepresentsMessages numbers table_limit new.judge messages normal
        → adapter ≡ open_requests Adapter messages)

    pub counted : (client adapter : ℕ) → Open client adapter
        → (checked : Checked) → checked.records + 1 ≡ new.records.number
        → checked.client_open ≡ client → checked.adapter_open ≡ adapter
        → AreCounted checked was.messages
    counted client adapter are_open checked count client_is adapter_is = record {
      records = (let is = was.represents.number_is in let same = end.number_is in omega
          (arith, is, same, count));
      client = client_is ∙ are_open.0 was.messages was.normal judge_stands;
      adapter = adapter_is ∙ are_open.1 was.messages was.normal judge_stands;
    }

    pub check_accepts : (complete : Bool) (client adapter : ℕ) → Open client adapter
        → (checked : Checked) → checked.records + 1 ≡ new.records.number
        → checked.client_open ≡ client → checked.adapter_open ≡ adapter
        → (complete ≡ true → (client ≡ 0) × (adapter ≡ 0))
        → Checks source limits mode complete start after (Ok checked)
    check_accepts complete client adapter are_open checked count client_is adapter_is answered =
        record {
          messages = was.messages;
          accepts = accepts;
          counted = counted client adapter are_open checked count client_is adapter_is;
          answered = λ asked. let none =
              answered asked in (client_is ∙ none.0, adapter_is ∙ none.1);
        }

-- Nothing has been read.
pub check_gives_up : {R : Type 0} (source : Source R) (limits : Limits) (mode : Mode)
    (complete : Bool) (start : R) → Checks source limits mode complete start start (Err Memory)
check_gives_up source limits mode complete start =
    let none = none_normalised limits mode in (
      1,
      [],
      none_come (accepting limits mode) (Normalises limits mode) source start none.accepts none,
    )

-- An error does not depend on whether each request must have a response.
pub refuses_all_the_same : {R : Type 0} (source : Source R) (limits : Limits) (mode : Mode)
    (complete : Bool)
    (start after : R) (because : Refused)
    → Checks source limits mode false start after (Err because)
    → Checks source limits mode complete start after (Err because)
refuses_all_the_same source limits mode complete start after (Incomplete client adapter)
    is = absurd (true≢false (sym is.asked))
refuses_all_the_same source limits mode complete start after because is = is
