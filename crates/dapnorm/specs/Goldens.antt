-- What the program does with `golden` over files that are given by their names. Source: own.
use Rattle.std.specs.Prelude.{◌≡◌, ◌⊎◌, ℕ, true, false, List, [], Option, Some, None, Result, Ok}
use Rattle.std.specs.{Prelude.{Err, Vec, option_map}, declared.alloc.Global.Global}
use Rattle.dap_commands.specs.declared.commands.Golden.{Golden}
use Rattle.dap_device.specs.Crash.{LeavesOnly}
use Rattle.dap_device.specs.declared.file.Replaceable.{Ghosts as Replaceable}
use Rattle.dap_golden.specs.{GoldenForms.form_of_name, GoldenUpdates.{Answers, MayBeLeft}}
use Rattle.dap_golden.specs.declared.updates.{GoldenDone.GoldenDone, GoldenRequest.GoldenRequest}
use Rattle.dap_golden.specs.declared.updates.GoldenStop.{GoldenStop}
use Rattle.dap_host.specs.{Files.Files, declared.host.Purpose.Purpose}
use Rattle.dap_host.specs.declared.limits.TheConstants.{LIMITS}
use Rattle.dap_mask.specs.{KeptRules.mask_of, declared.mask_rules.MaskRules.MaskRules}
use Rattle.dapnorm.specs.{Desks.{IsLeft, Place, empty, inputs}, Readings.IsFileRead}
use Rattle.dapnorm.specs.{Rules.AreGivenRules, declared.answer.Answer.Answer}
use Rattle.dapnorm.specs.declared.{desk.Desk.Desk, reading.Unread.Unread, rules.NoRules.NoRules}
use Rattle.dapnorm.specs.declared.why.{Overlap.Overlap, Why.Why}

-- what the options request
abbrev pub request_of : Golden → GoldenRequest
request_of golden = record {
  update = golden.update;
  allow_open = golden.«open»;
  form = form_of_name golden.golden;
  mode = golden.mode;
}

-- The rules file that a name leads to is another file than the golden file.
abbrev pub AreApart : {I O T : Type 0} → Files I O T → List ℕ → Option (List ℕ) → Type 0
AreApart files golden None = Unit {0}
AreApart files golden (Some rules) = files.are_same golden rules false

-- Which file an update would replace that it reads.
abbrev pub Replaces : {I O T : Type 0} → Files I O T → Golden → List ℕ → Option Overlap → Type 0
Replaces files golden name (Some Overlap.GoldenAndInput) =
    (golden.update ≡ true) × files.are_same golden.golden name true
Replaces files golden name (Some Overlap.GoldenAndRules) = (golden.update ≡ true)
    × ((rules : List ℕ) × (golden.rules ≡ Some rules) × files.are_same golden.golden rules true)
Replaces files golden name (Some other) = ⊥
Replaces files golden name None = golden.update ≡ true
    → files.are_same golden.golden name false × AreApart files golden.golden golden.rules

module _ {T : Type 0} (file : Replaceable T) (golden : Golden) (rules : Option MaskRules)
    (session : Vec ℕ Global) (old new : T) where
  -- The session is compared with the golden file, or written to it. A crash, the end of the process
  -- or a loss of power at any moment leaves the golden file that it could have left before, or, on
  -- an update, the whole text of the session.
  pub record Keeps (outcome : Result GoldenDone GoldenStop) : Type 0 where
    pub answers : Answers file LIMITS (option_map mask_of rules) (request_of golden)
        session.items old new outcome
    pub any_moment : file.is_known old → LeavesOnly file.moment file.left_since
        (MayBeLeft file LIMITS (option_map mask_of rules) (request_of golden) session.items old)
        old new

  -- The result names the golden file.
  abbrev pub IsKept : Result (Option Answer) Why → Type 0
  IsKept (Ok (Some (Answer.Golden named done))) = (named ≡ golden.golden) × Keeps (Ok done)
  IsKept (Err (Why.Golden named stop used)) =
      (named ≡ golden.golden) × (used ≡ rules) × Keeps (Err stop)
  IsKept outcome = ⊥

module _ {I O T : Type 0} (place : Place I O T) (golden : Golden) (values : List (List ℕ))
    (name : List ℕ) (desk : Desk I O T) where
  -- The rules that the options name.
  abbrev pub RulesAre : Result (Option MaskRules) NoRules → Type 0
  RulesAre = AreGivenRules place.files place.source golden.rules values

  abbrev pub HasRules : Type 0
  HasRules = (rules : Option MaskRules) × RulesAre (Ok rules)

  -- The input is that of the name, and is read whole, with this result.
  abbrev pub IsInput : Result (Vec ℕ Global) Unread → Type 0
  IsInput = IsFileRead place.files place.source Purpose.Input name LIMITS.input desk.a

  -- An update would replace the input or the rules file, or a file is not read or not found.
  abbrev pub IsStopped : Result (Option Answer) Why → Type 0
  IsStopped (Err (Why.SameFile files named)) = (named ≡ golden.golden)
      × Replaces place.files golden name (Some files) × (desk ≡ empty)
  IsStopped (Err (Why.Rules one)) = RulesAre (Err one) × (desk ≡ empty)
  IsStopped (Err (Why.Session unread)) =
      HasRules × IsInput (Err unread) × (desk ≡ inputs desk.a None)
  IsStopped (Err (Why.GoldenFile named update fault)) = (named ≡ golden.golden)
      × (update ≡ golden.update) × place.files.no_target golden.update golden.golden fault
      × HasRules × ((session : Vec ℕ Global) × IsInput (Ok session))
  IsStopped outcome = ⊥

  -- The rules and the session are read, and the golden file is found. An update replaces neither
  -- the input nor the rules file.
  pub record IsFound (outcome : Result (Option Answer) Why) : Type 0 where
    pub rules : Option MaskRules
    pub session : Vec ℕ Global
    pub apart : Replaces place.files golden name None
    pub are_rules : RulesAre (Ok rules)
    pub is_input : IsInput (Ok session)
    pub kept : IsLeft (place.files.targets golden.update golden.golden) desk.target
        (λ old new. IsKept place.file golden rules session old new outcome)

  -- The rules are read first, then the input whole, and then the golden file is found.
  abbrev pub GoldenIsRun : Result (Option Answer) Why → Type 0
  GoldenIsRun outcome = IsStopped outcome ⊎ IsFound outcome
