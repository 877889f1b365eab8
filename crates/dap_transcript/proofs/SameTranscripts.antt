-- Sessions with equal transcripts are equal.
use Rattle.std.proofs.Common.{◌≡◌, ℕ, true, List, [], ◌∷◌, ◌++◌, refl, sym, ap, ap₂, ◌∙◌, codes}
use Rattle.std.proofs.lemmas.List.Elements.{All-head, All-tail}
use Rattle.dap_tree.specs.{Side.side_text, declared.side.Side.Side}
use Rattle.dap_tree.specs.declared.side.Side.TheVariants.{Client, Adapter}
use Rattle.dap_profile.specs.Profile.{kind_name}
use Rattle.dap_message.specs.Message.{Sent}
use Rattle.dap_session.specs.Messages.{kind_of, name_of, side_of}
use Rattle.dap_stored.specs.Contents.{IsOfContent}
use Rattle.dap_transcript.specs.{Lines.member_lines, SameText.EndsRecord}
use Rattle.dap_transcript.specs.Laws.{AreOfContents, EqualTranscripts, StartsWithHead}
use Rattle.dap_transcript.specs.Transcript.{is_omitted, members_in, records_after}
use Rattle.dap_transcript.specs.Transcript.{starts_with_head, title, transcript, written}
use Rattle.dap_transcript.proofs.SameRecords.{same_record}

-- After a record there is nothing, or the head of the next one.
ends_record : (before ms : List Sent) → EndsRecord (records_after before ms)
ends_record before [] = tt
ends_record before (m ∷ ms) = refl

same_records : (before ms ns : List Sent) → AreOfContents ms → AreOfContents ns
    → records_after before ms ≡ records_after before ns → ms ≡ ns
same_records before [] [] p q h = refl
same_records before [] (n ∷ ns) p q h = absurd cc
same_records before (m ∷ ms) [] p q h = absurd cc
same_records before (m ∷ ms) (n ∷ ns) p q h =
    let first = same_record before m n (records_after (before ++ m ∷ []) ms)
    (records_after (before ++ n ∷ []) ns) (All-head IsOfContent m ms p)
    (All-head IsOfContent n ns q) (ends_record (before ++ m ∷ []) ms)
    (ends_record (before ++ n ∷ []) ns) h in
    ap₂ (λ x xs. x ∷ xs) first.message
    (same_records (before ++ m ∷ []) ms ns (All-tail IsOfContent m ms p)
    (All-tail IsOfContent n ns q)
    (first.rest ∙ ap (λ x. records_after (before ++ x ∷ []) ns) (sym first.message)))

pub equal_transcripts : EqualTranscripts
equal_transcripts ms ns p q = (λ h. same_records [] ms ns p q h, λ h. ap transcript h)

-- ---- the first head

head_starts : (side : Side) (rest : List ℕ)
    → starts_with_head (codes "- " ++ side_text side ++ codes ": " ++ rest) ≡ true
head_starts Client [] = refl
head_starts Client (b ∷ rest) = refl
head_starts Adapter [] = refl
head_starts Adapter (b ∷ rest) = refl

head_started : (side : Side) (title members later : List ℕ)
    → starts_with_head (codes "- " ++ side_text side ++ codes ": " ++ title ++ codes "\n"
    ++ members ++ later) ≡ true
head_started Client title members later =
    head_starts Client (title ++ codes "\n" ++ members ++ later)
head_started Adapter title members later =
    head_starts Adapter (title ++ codes "\n" ++ members ++ later)

pub head_first : StartsWithHead
head_first m ms =
    head_started (side_of m) (title (kind_name (kind_of m)) (name_of m))
    (member_lines 2 2 (written (is_omitted [] m) (members_in m))) (records_after ([] ++ m ∷ []) ms)
