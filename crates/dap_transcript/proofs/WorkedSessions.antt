-- Transcripts of short sessions, computed from the definition.
use Rattle.std.proofs.Common.{◌≡◌, ℕ, pos, true, false, List, [], ◌∷◌, ◌++◌, refl, Some}
use Rattle.std.specs.Prelude.{codes}
use Rattle.std.specs.{Str.chars, Char.encode_utf8, Fmt.digits}
use Rattle.json.specs.Print.{escape_byte}
use Rattle.dap_tree.specs.Doc.{Doc, null, boolean, whole, text, list, object, id, no_items}
use Rattle.dap_tree.specs.Doc.{item, no_members, member}
use Rattle.dap_tree.specs.declared.side.Side.TheVariants.{Client, Adapter}
use Rattle.dap_tree.specs.declared.sort.Sort.TheVariants.{ClientSeq, AdapterSeq, Thread, Frame}
use Rattle.dap_message.specs.Message.{Sent}
use Rattle.dap_session.specs.Messages.{side_of, kind_of, name_of, seq_of, request_seq_of}
use Rattle.dap_session.specs.Messages.{success_of}
use Rattle.dap_transcript.specs.Expected.{next_number, oldest_open}
use Rattle.dap_transcript.specs.Transcript.{transcript}

-- ---- the messages

-- A request of the client without arguments, with this command and number.
abbrev ask : List ℕ → ℕ → Sent
ask command n = record {
  side = Client;
  doc = object (
      member (codes "command") (text command)
      (member (codes "seq") (id ClientSeq (pos n))
      (member (codes "type") (text (codes "request")) no_members))
      );
}

-- A successful response of the adapter.
abbrev answer : List ℕ → ℕ → ℕ → Sent
answer command to n = record {
  side = Adapter;
  doc = object (
      member (codes "command") (text command)
      (member (codes "request_seq") (id ClientSeq (pos to))
      (member (codes "seq") (id AdapterSeq (pos n))
      (member (codes "success") (boolean true)
      (member (codes "type") (text (codes "response")) no_members))))
      );
}

-- ---- the records of the first example

stack_request : Sent
stack_request = record {
  side = Client;
  doc = object (
      member (codes "arguments")
      (object (member (codes "levels") (whole (pos 20))
      (member (codes "threadId") (id Thread (pos 1)) no_members)))
      (member (codes "command") (text (codes "stackTrace"))
      (member (codes "seq") (id ClientSeq (pos 1))
      (member (codes "type") (text (codes "request")) no_members)))
      );
}

frame : Doc
frame =
    object (member (codes "column") (whole (pos 1))
    (member (codes "id") (id Frame (pos 1))
    (member (codes "line") (whole (pos 1))
    (member (codes "name") (text (codes "<module>")) no_members))))

stack_response : Sent
stack_response = record {
  side = Adapter;
  doc = object (
      member (codes "body")
      (object (member (codes "stackFrames") (list (item frame no_items))
      (member (codes "totalFrames") (whole (pos 1)) no_members)))
      (member (codes "command") (text (codes "stackTrace"))
      (member (codes "request_seq") (id ClientSeq (pos 1))
      (member (codes "seq") (id AdapterSeq (pos 1))
      (member (codes "success") (boolean true)
      (member (codes "type") (text (codes "response")) no_members)))))
      );
}

stopped : Sent
stopped = record {
  side = Adapter;
  doc = object (
      member (codes "body")
      (object (member (codes "allThreadsStopped") (boolean true)
      (member (codes "reason") (text (codes "step"))
      (member (codes "threadId") (id Thread (pos 1)) no_members))))
      (member (codes "event") (text (codes "stopped"))
      (member (codes "seq") (id AdapterSeq (pos 2))
      (member (codes "type") (text (codes "event")) no_members)))
      );
}

refusal : Sent
refusal = record {
  side = Adapter;
  doc = object (
      member (codes "command") (text (codes "next"))
      (member (codes "message") (text (codes "not stopped"))
      (member (codes "request_seq") (id ClientSeq (pos 2))
      (member (codes "seq") (id AdapterSeq (pos 3))
      (member (codes "success") (boolean false)
      (member (codes "type") (text (codes "response")) no_members)))))
      );
}

stack_text : List ℕ
stack_text =
    codes "- client: request stackTrace\n  arguments:\n    levels: 20\n    threadId: 1\n"

frames_text : List ℕ
frames_text =
    codes "- adapter: response stackTrace\n  body:\n    stackFrames:\n    - column: 1\n"
    ++ codes "      id: 1\n"
    ++ codes "      line: 1\n      name: \"<module>\"\n    totalFrames: 1\n"

stopped_text : List ℕ
stopped_text =
    codes "- adapter: event stopped\n  body:\n    allThreadsStopped: true\n    reason: \"step\"\n"
    ++ codes "    threadId: 1\n"

refusal_text : List ℕ
refusal_text = codes "- adapter: response next\n  message: \"not stopped\"\n  success: false\n"

four_records : transcript
    (stack_request ∷ stack_response ∷ stopped ∷ ask (codes "next") 2 ∷ refusal ∷ [])
    ≡ stack_text ++ frames_text ++ stopped_text ++ codes "- client: request next\n" ++ refusal_text
unfolding stack_request stack_response frame stopped refusal stack_text frames_text stopped_text
    refusal_text digits chars encode_utf8 escape_byte side_of kind_of name_of seq_of request_seq_of
    success_of
four_records = refl

no_messages : transcript [] ≡ []
no_messages = refl

-- ---- open requests

-- Two requests are open, and the second is answered first.
two_open : transcript (ask (codes "next") 1 ∷ ask (codes "next") 2 ∷ answer (codes "next") 2 1
    ∷ answer (codes "next") 1 2 ∷ [])
    ≡ codes "- client: request next\n- client: request next\n- adapter: response next\n"
    ++ codes "  request_seq: 2\n- adapter: response next\n"
unfolding digits chars encode_utf8 escape_byte side_of kind_of name_of seq_of request_seq_of
    success_of
two_open = refl

-- A response with another command closes the request with its number.
other_command : oldest_open Client (codes "next")
    (ask (codes "next") 1 ∷ ask (codes "next") 2 ∷ answer (codes "pause") 1 1 ∷ [])
    ≡ Some (pos 2)
unfolding side_of kind_of name_of seq_of request_seq_of success_of
other_command = refl

no_request : transcript (answer (codes "next") 7 1 ∷ [])
    ≡ codes "- adapter: response next\n  request_seq: 7\n"
unfolding digits chars encode_utf8 escape_byte side_of kind_of name_of seq_of request_seq_of
    success_of
no_request = refl

-- ---- numbers

-- An adapter that always sends 0: its first two numbers are written.
always_zero : transcript
    (answer (codes "a") 1 0 ∷ answer (codes "b") 1 0 ∷ answer (codes "c") 1 0 ∷ [])
    ≡ codes "- adapter: response a\n  request_seq: 1\n  seq: 0\n"
    ++ codes "- adapter: response b\n  request_seq: 1\n  seq: 0\n"
    ++ codes "- adapter: response c\n  request_seq: 1\n"
unfolding digits chars encode_utf8 escape_byte side_of kind_of name_of seq_of request_seq_of
    success_of
always_zero = refl

at_most : next_number (pos 9223372036854775806 ∷ pos 9223372036854775807 ∷ [])
    ≡ pos 9223372036854775807
at_most = refl

-- ---- names of heads, members that another kind has, and a name that is not plain

odd_request : Sent
odd_request = record {
  side = Client;
  doc = object (
      member (codes "client") (whole (pos 1))
      (member (codes "clientID") (whole (pos 2))
      (member (codes "client_") (whole (pos 3))
      (member (codes "command") (text (codes "x-y"))
      (member (codes "event") (null)
      (member (codes "seq") (id ClientSeq (pos 1))
      (member (codes "success") (boolean true)
      (member (codes "type") (text (codes "request")) no_members)))))))
      );
}

odd_members : transcript (odd_request ∷ [])
    ≡ codes "- client: \"request x-y\"\n  clientID: 2\n  client_: 1\n  client__: 3\n  event: null\n"
    ++ codes "  success: true\n"
unfolding odd_request digits chars encode_utf8 escape_byte side_of kind_of name_of seq_of
    request_seq_of success_of
odd_members = refl
