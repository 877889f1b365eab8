-- Golden files of the same form are equal if and only if their normal texts are.
use Rattle.std.proofs.Common.{◌≡◌, ◌∙◌, ℕ, List, ap, sym, subst}
use Rattle.dap_normalise.specs.Accepting.{IsAccepted, text}
use Rattle.dap_rules.proofs.OrderedTexts.{one_accepted}
use Rattle.dap_transcript.specs.{Laws.EqualTranscripts, Transcript.transcript}
use Rattle.dap_golden.proofs.WrittenFiles.{accepted_contents, text_of_messages}
use Rattle.dap_golden.specs.{Laws.EqualGoldenFiles}
use Rattle.dap_golden.specs.declared.forms.GoldenForm.TheVariants.{Frames, Transcript}

pub equal_golden_files : EqualTranscripts → EqualGoldenFiles
equal_golden_files law limits mode Frames normal other a b sound is are one two =
    (λ same. sym one ∙ same ∙ two, λ same. one ∙ same ∙ sym two)
equal_golden_files law limits mode Transcript normal other a b sound is are one two =
    (texts_are_equal, files_are_equal)
  where
    texts_are_equal : a ≡ b → normal ≡ other
    texts_are_equal same =
        let messages = (law one.0 two.0
        (accepted_contents limits mode normal one.0 one.1)
        (accepted_contents limits mode other two.0 two.1)).0 (sym one.2 ∙ same ∙ two.2) in
        text_of_messages limits mode sound normal is one.0 one.1
        ∙ ap text messages
        ∙ sym (text_of_messages limits mode sound other are two.0 two.1)

    files_are_equal : normal ≡ other → a ≡ b
    files_are_equal same =
        one.2
        ∙ ap transcript (one_accepted limits mode other one.0 two.0
        (subst (λ (bytes : List ℕ). IsAccepted limits mode bytes one.0) same one.1) two.1)
        ∙ sym two.2
