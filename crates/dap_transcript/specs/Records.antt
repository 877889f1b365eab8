-- Records that are written one after another. Source: own. For private clauses.
use Rattle.std.specs.Prelude.{◌≡◌, ℕ, ℤ, true, List, ◌++◌, Option, codes}
use Rattle.std.specs.List.{All}
use Rattle.dap_tree.specs.Side.{side_text}
use Rattle.dap_profile.specs.Profile.{kind_name}
use Rattle.dap_message.specs.Message.{Sent}
use Rattle.dap_session.specs.Messages.{is_response, side_of}
use Rattle.dap_transcript.specs.Expected.{expected_request, expected_seq}
use Rattle.dap_stored.specs.Contents.{IsOfContent}
use Rattle.dap_transcript.specs.{Recordings.frames, Requests.Represents}
use Rattle.dap_transcript.specs.Transcript.{record_text, title, transcript}
use Rattle.dap_transcript.specs.declared.{tokens.Title.Title, transcript.Writer.Writer}

-- The first line of a record with this title.
abbrev pub title_line : Title → List ℕ
title_line t =
    codes "- " ++ side_text t.side ++ codes ": " ++ title (kind_name t.kind) t.name.now
    ++ codes "\n"

-- The record of the message was appended, if the numbers are those that are expected.
abbrev pub PushesRecord : Sent → ℤ → Option ℤ → List ℕ → List ℕ → Type 0
PushesRecord m seq request old new = (before : List Sent) → seq ≡ expected_seq before (side_of m)
    → (is_response m ≡ true → request ≡ expected_request before m)
    → new ≡ old ++ record_text before m

-- The records of these messages were written.
pub record HasWritten (w : Writer) (ms : List Sent) : Type 0 where
  pub known : Represents w.expectations ms
  pub text : w.out.items ≡ transcript ms

-- For a loop: the records of some messages were written, and the text has those that are left.
pub record FramesLeft (w : Writer) (text : List ℕ) (messages : List Sent) : Type 0 where
  pub before : List Sent
  pub left : List Sent
  pub written : HasWritten w before
  pub all : messages ≡ before ++ left
  pub text_is : text ≡ frames left
  pub of_content : All IsOfContent left
