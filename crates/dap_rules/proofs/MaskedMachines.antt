-- Recordings of two machines that differ only in texts of each machine are masked to equal bytes.
use Rattle.std.proofs.Common.{◌≡◌, ℕ, true, List, [], ◌∷◌, refl, sym, ap, ap₂, ◌∙◌}
use Rattle.dap_message.specs.Message.{Sent}
use Rattle.dap_words.specs.Machines.{words_of}
use Rattle.dap_words.specs.Words.{Pair, have_own_texts}
use Rattle.dap_words.proofs.Alike.{worded_alike}
use Rattle.dap_input.specs.declared.limits.Limits.{Limits}
use Rattle.dap_normalise.specs.Accepting.{Payload}
use Rattle.dap_mask.specs.Fills.{filled}
use Rattle.dap_mask.specs.Mask.{Mask}
use Rattle.dap_rules.specs.Masking.{AreMessages, masked_text}
use Rattle.dap_rules.specs.MaskedRecordings.{Masks, with_words}
use Rattle.dap_rules.specs.Outcomes.{AreRecordsAlike}

module _ (mask : Mask) (pairs others : List Pair) (own : have_own_texts pairs ≡ true)
    (own_other : have_own_texts others ≡ true) (same : words_of pairs ≡ words_of others) where
  same_messages : (records more : List Payload) (ms ns : List Sent)
      → AreMessages (with_words pairs mask) records ms
      → AreMessages (with_words others mask) more ns
      → AreRecordsAlike pairs others records more → ms ≡ ns
  same_messages [] [] [] [] read also alike = refl
  same_messages [] [] [] (n ∷ ns) read also alike = absurd also
  same_messages [] [] (m ∷ ms) ns read also alike = absurd read
  same_messages [] (other ∷ more) ms ns read also alike = absurd alike
  same_messages (held ∷ records) [] ms ns read also alike = absurd alike
  same_messages (held ∷ records) (other ∷ more) [] ns read also alike = absurd read
  same_messages (held ∷ records) (other ∷ more) (m ∷ ms) [] read also alike = absurd also
  same_messages (held ∷ records) (other ∷ more) (m ∷ ms) (n ∷ ns) (one, read) (two, also)
      (side, docs, alike) =
      let doc : m.doc ≡ n.doc =
      one.1.2
      ∙ ap (filled mask.fills) (worded_alike pairs others own own_other same true one.1.0 two.1.0
      (docs one.1.0 two.1.0 one.1.1 two.1.1))
      ∙ sym two.1.2 in
      ap₂ (λ k ks. k ∷ ks)
      (ap₂ (λ s d. record { side = s; doc = d }) (one.0 ∙ side ∙ sym two.0) doc)
      (same_messages records more ms ns read also alike)

pub masked_alike : (limits : Limits) (mask : Mask) (pairs others : List Pair)
    (bytes other written also : List ℕ) (a : Masks limits (with_words pairs mask) bytes written)
    (b : Masks limits (with_words others mask) other also) → have_own_texts pairs ≡ true
    → have_own_texts others ≡ true → words_of pairs ≡ words_of others
    → AreRecordsAlike pairs others a.accepts.records b.accepts.records → written ≡ also
masked_alike limits mask pairs others bytes other written also a b own own_other same alike =
    a.text_is
    ∙ ap (masked_text mask) (same_messages mask pairs others own own_other same a.accepts.records
    b.accepts.records a.messages b.messages a.accepts.read b.accepts.read alike)
    ∙ sym b.text_is
