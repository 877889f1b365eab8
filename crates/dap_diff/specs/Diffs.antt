-- The differences of two recordings: the lines for the first record that differs. Source: own; the
-- leaves that differ are those that `dap_difference` defines.
use Rattle.std.specs.Prelude.{◌≡◌, ℕ, ◌+◌, Bool, ◌&&◌, List, [], ◌∷◌, ◌++◌, Option, Some, None}
use Rattle.std.specs.Prelude.{Result, Ok, Err, bytes_eq, codes, unwrap_or, if◌then◌else◌}
use Rattle.std.specs.List.{flat_map}
use Rattle.dap_device.specs.declared.device.Source.{Ghosts as Source}
use Rattle.dap_device.specs.{declared.reading.Stop.Stop, Pieces.HasReadSoFar}
use Rattle.dap_tree.specs.{Doc.{Doc, text}, Ids.without_ids, Json.text_of, Side.same_side}
use Rattle.dap_tree.specs.declared.side.Side.{Side}
use Rattle.dap_tree.specs.declared.side.Side.TheVariants.{Client, Adapter}
use Rattle.dap_profile.specs.declared.profile.Kind.{Kind}
use Rattle.dap_profile.specs.declared.profile.Kind.TheVariants.{Request, Response, Event}
use Rattle.dap_message.specs.{Envelope.{kind_of, name_of}, Message.Sent, Rows.is_of_kind}
use Rattle.dap_rename.specs.{Messages.IsNormal, Modes.stop_in, declared.mode.Mode.Mode}
use Rattle.dap_input.specs.{declared.limits.Limits.Limits, Inputs.{Input, AcceptedBefore}}
use Rattle.dap_input.specs.ReadTo.{IsOf}
use Rattle.dap_normalise.specs.Accepting.{accepting}
use Rattle.dap_compare.specs.{Verdicts.Compares, declared.verdict.CompareRefused.CompareRefused}
use Rattle.dap_compare.specs.declared.verdict.Verdict.TheVariants as verdict
use Rattle.dap_difference.specs.{Telling.differences, Lines.difference_lines}
use Rattle.dap_diff.specs.declared.outcome.Diff.{Diff}
use Rattle.dap_diff.specs.declared.outcome.Diff.TheVariants.{Same, Differ}

-- ---- the lines

-- the marker of a side, and the name of a kind
abbrev pub side_word : Side → List ℕ
side_word Client = codes "> "
side_word Adapter = codes "< "

abbrev pub kind_word : Kind → List ℕ
kind_word Request = codes "request "
kind_word Response = codes "response "
kind_word Event = codes "event "

-- The head of a message, such as `< event "stopped"`: its side, its kind, and its name as JSON
-- text. Every message has a name.
abbrev pub head_text : Sent → List ℕ
head_text m =
    side_word m.side ++ kind_word (kind_of m.doc) ++ text_of (text (unwrap_or (name_of m.doc) []))

-- The line of the head.
abbrev pub head_line : Sent → List ℕ
head_line m = head_text m ++ codes "\n"

-- The line for one input, A or B: the head line of its message, or that it has ended.
abbrev pub input_line : List ℕ → Option Sent → List ℕ
input_line which None = which ++ codes " ends\n"
input_line which (Some m) = which ++ codes " " ++ head_line m

-- Two messages with the same side, kind and name.
abbrev pub have_one_head : Sent → Sent → Bool
have_one_head a b =
    same_side a.side b.side
    && (is_of_kind (kind_of a.doc) b.doc
    && bytes_eq (unwrap_or (name_of a.doc) []) (unwrap_or (name_of b.doc) []))

-- The lines for the leaves in which two documents differ, with each id as its number.
abbrev pub leaf_lines : Doc → Doc → List ℕ
leaf_lines d e = flat_map difference_lines (differences (without_ids d) (without_ids e))

-- The lines for A and B. If both have messages with the same head, that head and the leaves in
-- which they differ; otherwise, the line of A and that of B.
abbrev pub diff_lines : Option Sent → Option Sent → List ℕ
diff_lines (Some a) (Some b) =
    if have_one_head a b then head_line a ++ leaf_lines a.doc b.doc
    else input_line (codes "A") (Some a) ++ input_line (codes "B") (Some b)
diff_lines a b = input_line (codes "A") a ++ input_line (codes "B") b

-- ---- the record that differs

-- The input's normal form has this message at the record; or, for `None`, all records before it are
-- accepted, and the input ends there.
abbrev pub HasAt : Limits → Mode → Input → ℕ → Option Sent → Type 0
HasAt limits mode input number None =
    (before : AcceptedBefore (accepting limits mode) input number)
    × (before.rest ≡ [])
HasAt limits mode input number (Some named) =
    (next : AcceptedBefore (accepting limits mode) input (number + 1))
    × (normal : List Sent) × IsNormal (stop_in mode) next.values (normal ++ named ∷ [])

-- These bytes were read, and whatever bytes follow in the input, it has this message at the record.
pub record HasRead {R : Type 0} (source : Source R) (limits : Limits) (mode : Mode) (old new : R)
    (number : ℕ) (found : Option Sent) : Type 0 where
  pub bytes : List ℕ
  pub stop : Option Stop
  pub came : HasReadSoFar source old new bytes stop
  pub has : (input : Input) → IsOf bytes stop input → HasAt limits mode input number found

-- ---- the result

-- Two readers, in terms of the bytes that they report and of their counts.
module _ {R S : Type 0} (source_a : Source R) (source_b : Source S) (limits : Limits) (mode : Mode)
    (old_a new_a : R) (old_b new_b : S) where
  -- The lines are those for the messages of both inputs at the record.
  pub record DescribesRecord (number : ℕ) (lines : List ℕ) : Type 0 where
    pub of_a : Option Sent
    pub of_b : Option Sent
    pub read_a : HasRead source_a limits mode old_a new_a number of_a
    pub read_b : HasRead source_b limits mode old_b new_b number of_b
    pub lines_are : lines ≡ diff_lines of_a of_b

  -- The result is one that `compare` may return. For a difference, it also has the lines for the
  -- record.
  abbrev pub DescribesDifference : Result Diff CompareRefused → Type 0
  DescribesDifference (Ok Same) = (renaming : _)
      × Compares source_a source_b limits mode old_a new_a old_b new_b (Ok (verdict.Same renaming))
  DescribesDifference (Ok (Differ number lines)) =
      Compares source_a source_b limits mode old_a new_a old_b new_b (Ok (verdict.Differ number))
      × DescribesRecord number lines.items
  DescribesDifference (Err refused) =
      Compares source_a source_b limits mode old_a new_a old_b new_b (Err refused)
