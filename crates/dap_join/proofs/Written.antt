-- One more record is written, or a limit is exceeded.
use Rattle.std.proofs.Common.{◌≡◌, ℕ, ◌<◌, ◌≤◌, List, [], ◌∷◌, ◌++◌}
use Rattle.std.proofs.Common.{Option, Some, None, length, refl, sym, ◌∙◌, ap, ap₂, subst, arith}
use Rattle.std.proofs.Common.{true, false, true≢false}
use Rattle.std.proofs.Common.{append_assoc, append-nil}
use Rattle.std.proofs.lemmas.List.{map-append}
use Rattle.std.proofs.lemmas.List.Concat.{flat_map-append}
use Rattle.std.specs.List.{AllByRecursion}
use Rattle.std.specs.Prelude.{is_some}
use Rattle.dap_recording.specs.Recording.{record_text, recording_text}
use Rattle.dap_input.specs.declared.limits.Limits.{Limits}
use Rattle.dap_normalise.specs.Accepting.{Payload}
use Rattle.dap_normalise.specs.RecordTexts.{FitRecords}
use Rattle.dap_join.specs.Joined.{Numbered}
use Rattle.dap_join.specs.Joining.{GrowsAt, numbers_of, payloads}
use Rattle.dap_join.specs.JoiningSteps.{AreWritten, IsWritten, Writes}
use Rattle.dap_join.specs.declared.writing.Writing.{Writing}

pub recorded-append : (first others : List Payload)
    → recording_text (first ++ others) ≡ recording_text first ++ recording_text others
recorded-append first others =
    flat_map-append (λ (held : Payload). record_text held.0 held.1) first others

pub payloads-append : (records more : List Numbered)
    → payloads (records ++ more) ≡ payloads records ++ payloads more
payloads-append records more = map-append (λ (one : Numbered). one.held) records more

pub numbers-append : (records more : List Numbered)
    → numbers_of (records ++ more) ≡ numbers_of records ++ numbers_of more
numbers-append records more = map-append (λ (one : Numbered). one.number) records more

module _ (limits : Limits) where
  abbrev IsShort : Payload → Type 0
  IsShort held = length held.1 ≤ limits.frame.content

  each_and : (records : List Payload) (held : Payload) → AllByRecursion IsShort records
      → IsShort held → AllByRecursion IsShort (records ++ held ∷ [])
  each_and [] held all short = (short, tt)
  each_and (first ∷ records) held all short = (all.0, each_and records held all.1 short)

  last_of : (records : List Payload) (held : Payload)
      → AllByRecursion IsShort (records ++ held ∷ []) → IsShort held
  last_of [] held all = all.0
  last_of (first ∷ records) held all = last_of records held all.1

  grown_on : (records more : List Numbered) (n : ℕ) → GrowsAt limits records n
      → GrowsAt limits (records ++ more) n
  grown_on records more n was = record {
    before = was.before;
    one = was.one;
    after = was.after ++ more;
    is = ap (λ rs. rs ++ more) was.is ∙ append_assoc was.before (was.one ∷ was.after) more;
    fits = was.fits;
    grows = was.grows;
    number_is = was.number_is;
  }

  pub not_grown : (o : Option ℕ) (text numbers : List ℕ) (records : List Numbered)
      → is_some o ≡ false → AreWritten limits o text numbers records
      → AreWritten limits None text numbers records
  not_grown None text numbers records apart was = was
  not_grown (Some n) text numbers records apart was = absurd (true≢false apart)

  -- A limit that was exceeded stays exceeded.
  pub still_grown : (o : Option ℕ) (text numbers : List ℕ) (records more : List Numbered)
      → is_some o ≡ true → AreWritten limits o text numbers records
      → AreWritten limits o text numbers (records ++ more)
  still_grown None text numbers records more here was = absurd (true≢false (sym here))
  still_grown (Some n) text numbers records more here was = grown_on records more n was

  module _ (records : List Numbered) (text numbers : List ℕ) (one : Numbered)
      (was : AreWritten limits None text numbers records) where
    text_on : recording_text (payloads (records ++ one ∷ []))
        ≡ text ++ record_text one.held.0 one.held.1
    text_on = ap recording_text (payloads-append records (one ∷ []))
        ∙ recorded-append (payloads records) (one.held ∷ [])
        ∙ ap₂ (λ a b. a ++ b) (sym was.1) (append-nil (record_text one.held.0 one.held.1))

    grows_now : (FitRecords limits (payloads (records ++ one ∷ [])) → ⊥)
        → GrowsAt limits (records ++ one ∷ []) one.number
    grows_now grows = record {
      before = records;
      one = one;
      after = [];
      is = refl;
      fits = was.0;
      grows = grows;
      number_is = refl;
    }

    pub too_long : limits.frame.content < length one.held.1
        → GrowsAt limits (records ++ one ∷ []) one.number
    too_long long = grows_now (λ fits.
        let short = last_of (payloads records) one.held
        (subst (AllByRecursion IsShort) (payloads-append records (one ∷ [])) fits.each) in
        omega (arith, long, short))

    pub too_much : (new : List ℕ) → new ≡ text ++ record_text one.held.0 one.held.1
        → limits.input < length new → GrowsAt limits (records ++ one ∷ []) one.number
    too_much new is long = grows_now (λ fits.
        let whole = fits.whole in
        omega (arith, long, whole, ap length is, ap length text_on))

    pub written_on : (new : List ℕ) → new ≡ text ++ record_text one.held.0 one.held.1
        → length new ≤ limits.input → length one.held.1 ≤ limits.frame.content
        → AreWritten limits None new (numbers ++ one.number ∷ []) (records ++ one ∷ [])
    written_on new is short content = (
      record {
        each = subst (AllByRecursion IsShort) (sym (payloads-append records (one ∷ [])))
            (each_and (payloads records) one.held (let fits = was.0 in fits.each) content);
        whole = omega (arith, short, ap length is, ap length text_on);
      },
      is ∙ sym text_on,
      ap (λ ns. ns ++ one.number ∷ []) was.2 ∙ sym (numbers-append records (one ∷ [])),
    )

-- Nothing is written.
pub writes_none : (limits : Limits) (writing : Writing) → Writes limits writing writing []
writes_none limits writing records was =
    subst (IsWritten limits writing) (sym (append-nil records)) was

-- More is written, and then more.
pub writes_both : (limits : Limits) (old mid new : Writing) (more others : List Numbered)
    → Writes limits old mid more → Writes limits mid new others
    → Writes limits old new (more ++ others)
writes_both limits old mid new more others one two records was =
    subst (IsWritten limits new) (append_assoc records more others)
    (two (records ++ more) (one records was))
