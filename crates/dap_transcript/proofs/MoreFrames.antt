-- The recording of one message more.
use Rattle.std.proofs.Common.{◌≡◌, List, [], ◌∷◌, ◌++◌, ◌∙◌, ap, append-nil}
use Rattle.std.proofs.lemmas.Grind.{flat_map-append}
use Rattle.dap_tree.specs.Json.{text_of}
use Rattle.dap_message.specs.Message.{Sent}
use Rattle.dap_recording.specs.Recording.{record_text}
use Rattle.dap_transcript.specs.Recordings.{frames}

pub frames_push : (messages : List Sent) (m : Sent)
    → frames (messages ++ m ∷ []) ≡ frames messages ++ record_text m.side (text_of m.doc)
frames_push messages m =
    flat_map-append (λ (m : Sent). record_text m.side (text_of m.doc)) messages (m ∷ [])
    ∙ ap (λ t. frames messages ++ t) (append-nil (record_text m.side (text_of m.doc)))
