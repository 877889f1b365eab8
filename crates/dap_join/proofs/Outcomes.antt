-- A recording is either joined or rejected, and is rejected for one reason.
use Rattle.std.proofs.Common.{◌≡◌, ◌⊎◌, inl, inr, ℕ, ◌+◌, ◌<◌, ◌≤◌, List, [], ◌∷◌, ◌++◌, length}
use Rattle.std.proofs.Common.{refl, sym, ◌∙◌, ap, subst, arith, append_assoc, append-nil}
use Rattle.std.proofs.lemmas.Bool.{cases_lt}
use Rattle.std.specs.List.{AllByRecursion}
use Rattle.dap_tree.specs.Json.{Outcome, HasOutcome, IsRead, data_of}
use Rattle.dap_tree.specs.Json as reading
use Rattle.dap_tree.proofs.Outcomes.{some_outcome, whole_or_fraction}
use Rattle.dap_recording.specs.Recording.{recording_text}
use Rattle.dap_recording.proofs.Records.{readable}
use Rattle.dap_input.specs.Limits.{AreSound}
use Rattle.dap_input.specs.Refusals.{IsRefused}
use Rattle.dap_input.specs.declared.limits.Limits.{Limits}
use Rattle.dap_input.specs.declared.refused.Refused.{Refused}
use Rattle.dap_input.specs.declared.refused.Refused.TheVariants.{Grew}
use Rattle.dap_input.proofs.ItemReaders.{shown_cause}
use Rattle.dap_input.proofs.OneOutcome.{has_one_outcome}
use Rattle.dap_normalise.specs.Accepting.{Payload}
use Rattle.dap_normalise.specs.RecordTexts.{FitRecords}
use Rattle.dap_normalise.proofs.RecordTexts.{fit_front}
use Rattle.dap_join.specs.Outputs.{AreItems, IsPart, Item, Part, other, part_of}
use Rattle.dap_join.specs.Joined.{Numbered, joined}
use Rattle.dap_join.specs.Joining.{GrowsAt, HasGrown, IsNotJoined, IsSplit, IsWhole, Joins}
use Rattle.dap_join.specs.Joining.{numbers_of, payloads, splitting}
use Rattle.dap_mask.specs.declared.joining.Joining.{Joining}
use Rattle.dap_join.proofs.JoiningFacts.{fit_none}
use Rattle.dap_join.proofs.OneJoined.{split_once}
use Rattle.dap_join.proofs.SplittingFacts.{accepted_facts, value_facts}
use Rattle.dap_join.proofs.Written.{payloads-append}

-- ---- some items

some_part : (held : Payload) → (part : Part) × IsPart held part
some_part held = by_outcome (some_outcome held.1).0 (some_outcome held.1).1
  where
    by_outcome : (o : Outcome) → HasOutcome held.1 o → (part : Part) × IsPart held part
    by_outcome (reading.document d) read = (part_of held.0 d, inl (d, read, refl))
    by_outcome reading.no_reading none = (other, inr (λ d read. none (data_of d) read.0, refl))
    by_outcome reading.fraction float =
        (other, inr (λ d read. whole_or_fraction held.1 d read float, refl))

some_items : (n : ℕ) (records : List Payload) → (items : List Item) × AreItems n records items
some_items n [] = ([], tt)
some_items n (held ∷ records) =
    let part = some_part held in
    let rest = some_items (n + 1) records in
    let item : Item = record { number = n; held = held; part = part.0 } in
    (item ∷ rest.0, (refl, refl, part.1, rest.1))

-- ---- the first record that exceeds a limit

module _ (limits : Limits) where
  abbrev IsShort : Payload → Type 0
  IsShort held = length held.1 ≤ limits.frame.content

  short_or_not : (held : Payload) (rest : List Payload)
      → (limits.frame.content < length held.1) ⊎ (length held.1 ≤ limits.frame.content)
      → AllByRecursion IsShort rest ⊎ (AllByRecursion IsShort rest → ⊥)
      → AllByRecursion IsShort (held ∷ rest) ⊎ (AllByRecursion IsShort (held ∷ rest) → ⊥)
  short_or_not held rest (inl long) others =
      inr (λ all.
      let short : length held.1 ≤ limits.frame.content = all.0 in omega (arith, long, short))
  short_or_not held rest (inr short) (inl all) = inl (short, all)
  short_or_not held rest (inr short) (inr not_all) = inr (λ all. not_all all.1)

  each_or_not : (records : List Payload)
      → AllByRecursion IsShort records ⊎ (AllByRecursion IsShort records → ⊥)
  each_or_not [] = inl tt
  each_or_not (held ∷ records) =
      short_or_not held records (cases_lt limits.frame.content (length held.1))
      (each_or_not records)

  fit_at : (records : List Payload)
      → AllByRecursion IsShort records ⊎ (AllByRecursion IsShort records → ⊥)
      → (limits.input < length (recording_text records))
      ⊎ (length (recording_text records) ≤ limits.input)
      → FitRecords limits records ⊎ (FitRecords limits records → ⊥)
  fit_at records (inl each) (inr whole) = inl (record { each = each; whole = whole })
  fit_at records (inl each) (inl long) =
      inr (λ fits. let whole = fits.whole in omega (arith, long, whole))
  fit_at records (inr long) whole = inr (λ fits. long fits.each)

  fit_or_not : (records : List Payload)
      → FitRecords limits records ⊎ (FitRecords limits records → ⊥)
  fit_or_not records =
      fit_at records (each_or_not records)
      (cases_lt limits.input (length (recording_text records)))

  abbrev SomeGrowth : List Numbered → List Numbered → Type 0
  SomeGrowth before rest = FitRecords limits (payloads (before ++ rest))
      ⊎ ((n : ℕ) × GrowsAt limits (before ++ rest) n)

  growth_at : (before : List Numbered) (one : Numbered) (rest : List Numbered)
      → FitRecords limits (payloads before)
      → FitRecords limits (payloads (before ++ one ∷ []))
      ⊎ (FitRecords limits (payloads (before ++ one ∷ [])) → ⊥)
      → (FitRecords limits (payloads (before ++ one ∷ [])) → SomeGrowth (before ++ one ∷ []) rest)
      → SomeGrowth before (one ∷ rest)
  growth_at before one rest fits (inl more) on =
      subst (λ rs. FitRecords limits (payloads rs) ⊎ ((n : ℕ) × GrowsAt limits rs n))
      (append_assoc before (one ∷ []) rest) (on more)
  growth_at before one rest fits (inr grows) on =
      inr (
        one.number,
        record {
          before = before;
          one = one;
          after = rest;
          is = refl;
          fits = fits;
          grows = grows;
          number_is = refl;
        },
      )

  some_growth : (before rest : List Numbered) → FitRecords limits (payloads before)
      → SomeGrowth before rest
  some_growth before [] fits =
      inl (subst (λ rs. FitRecords limits (payloads rs)) (sym (append-nil before)) fits)
  some_growth before (one ∷ rest) fits =
      growth_at before one rest fits (fit_or_not (payloads (before ++ one ∷ [])))
      (λ more. some_growth (before ++ one ∷ []) rest more)

  -- ---- at most one number

  -- The first list and the record after it start the second list.
  abbrev Starts : List Numbered → Numbered → List Numbered → Type 0
  Starts before one longer = (rest : List Numbered) × (longer ≡ (before ++ one ∷ []) ++ rest)

  not_longer : (before longer : List Numbered) (one : Numbered) → Starts before one longer
      → FitRecords limits (payloads longer)
      → (FitRecords limits (payloads (before ++ one ∷ [])) → ⊥) → ⊥
  not_longer before longer one starts fits grows =
      grows (fit_front limits (payloads (before ++ one ∷ [])) (payloads starts.0)
      (subst (FitRecords limits)
      (ap payloads starts.1 ∙ payloads-append (before ++ one ∷ []) starts.0) fits))

  same_or_longer : (b c : List Numbered) (one two : Numbered) (after rest : List Numbered)
      → b ++ one ∷ after ≡ c ++ two ∷ rest
      → (one ≡ two) ⊎ (Starts b one c ⊎ Starts c two b)
  same_or_longer [] [] one two after rest is = inl cc
  same_or_longer [] (x ∷ c) one two after rest is =
      let first : one ≡ x = cc in inr (inl (c, ap (λ y. y ∷ c) (sym first)))
  same_or_longer (x ∷ b) [] one two after rest is =
      let first : x ≡ two = cc in inr (inr (b, ap (λ y. y ∷ b) first))
  same_or_longer (x ∷ b) (y ∷ c) one two after rest is =
      let first : x ≡ y = cc in
      let tails : b ++ one ∷ after ≡ c ++ two ∷ rest = cc in
      more first (same_or_longer b c one two after rest tails)
    where
      more : x ≡ y → (one ≡ two) ⊎ (Starts b one c ⊎ Starts c two b)
          → (one ≡ two) ⊎ (Starts (x ∷ b) one (y ∷ c) ⊎ Starts (y ∷ c) two (x ∷ b))
      more first (inl same) = inl same
      more first (inr (inl longer)) =
          inr (inl (longer.0, ap (λ z. z ∷ c) (sym first) ∙ ap (λ zs. x ∷ zs) longer.1))
      more first (inr (inr longer)) =
          inr (inr (longer.0, ap (λ z. z ∷ b) first ∙ ap (λ zs. y ∷ zs) longer.1))

  one_growth : (records : List Numbered) (n m : ℕ) → GrowsAt limits records n
      → GrowsAt limits records m → n ≡ m
  one_growth records n m one two =
      by (same_or_longer one.before two.before one.one two.one one.after two.after
      (sym one.is ∙ two.is))
    where
      by : (one.one ≡ two.one)
          ⊎ (Starts one.before one.one two.before ⊎ Starts two.before two.one one.before) → n ≡ m
      by (inl same) = one.number_is ∙ ap (λ (r : Numbered). r.number) same ∙ sym two.number_is
      by (inr (inl longer)) =
          absurd (not_longer one.before two.before one.one longer two.fits one.grows)
      by (inr (inr longer)) =
          absurd (not_longer two.before one.before two.one longer one.fits two.grows)

-- ---- outcomes

module _ (limits : Limits) (sound : AreSound limits) (joining : Joining) (bytes : List ℕ) where
  joined_or_not : (records : List Payload) → IsWhole limits bytes records
      → ((written : List ℕ) × (numbers : List ℕ) × Joins limits joining bytes written numbers)
      ⊎ ((because : Refused) × IsNotJoined limits joining bytes because)
  joined_or_not records whole =
      let some = some_items 1 records in
      let split : IsSplit limits bytes some.0 = record {
        short = whole.short;
        records = records;
        recording = whole.recording;
        are_items = some.1;
      } in
      by some.0 split (some_growth limits [] (joined joining some.0) (fit_none limits))
    where
      by : (items : List Item) → IsSplit limits bytes items
          → FitRecords limits (payloads (joined joining items))
          ⊎ ((n : ℕ) × GrowsAt limits (joined joining items) n)
          → ((written : List ℕ) × (numbers : List ℕ) × Joins limits joining bytes written numbers)
          ⊎ ((because : Refused) × IsNotJoined limits joining bytes because)
      by items split (inl fits) =
          inl (
            recording_text (payloads (joined joining items)),
            numbers_of (joined joining items),
            record {
              items = items;
              split = split;
              text_is = refl;
              numbers_are = refl;
              fits = fits;
            },
          )
      by items split (inr grown) = inr (Grew grown.0, (items, split, grown.1))

  not_split : (because : Refused) → IsRefused (splitting limits) bytes because
      → IsNotJoined limits joining bytes because
  not_split (Grew n) refused = let first = refused.refuses in absurd first.objects
  not_split because refused = refused

  pub some_join :
      ((written : List ℕ) × (numbers : List ℕ) × Joins limits joining bytes written numbers)
      ⊎ ((because : Refused) × IsNotJoined limits joining bytes because)
  some_join = by ((has_one_outcome (splitting limits) (shown_cause limits.frame)
      (readable limits.frame) (value_facts limits) (accepted_facts limits)).some bytes)
    where
      by : ((records : List Payload) × IsWhole limits bytes records)
          ⊎ ((because : Refused) × IsRefused (splitting limits) bytes because)
          → ((written : List ℕ) × (numbers : List ℕ) × Joins limits joining bytes written numbers)
          ⊎ ((because : Refused) × IsNotJoined limits joining bytes because)
      by (inl whole) = joined_or_not whole.0 whole.1
      by (inr refused) = inr (refused.0, not_split refused.0 refused.1)

  -- Either a limit is exceeded, or the bytes are not a recording.
  abbrev Why : Refused → Type 0
  Why because = ((n : ℕ) × (because ≡ Grew n) × HasGrown limits joining bytes n)
      ⊎ IsRefused (splitting limits) bytes because

  why : (because : Refused) → IsNotJoined limits joining bytes because → Why because
  why (Grew n) grown = inl (n, refl, grown)
  why because refused = inr refused

  not_grown_too : (n : ℕ) (because : Refused) → HasGrown limits joining bytes n
      → IsRefused (splitting limits) bytes because → ⊥
  not_grown_too n because grown refused =
      let split = grown.1 in
      (has_one_outcome (splitting limits) (shown_cause limits.frame) (readable limits.frame)
      (value_facts limits) (accepted_facts limits)).not_both bytes split.records because
      (record { short = split.short; recording = split.recording }) refused

  one_why : (because also : Refused) → Why because → Why also → because ≡ also
  one_why because also (inl one) (inl two) =
      let same = split_once limits bytes one.2.0 two.2.0 one.2.1 two.2.1 in
      one.1
      ∙ ap Grew (one_growth limits (joined joining two.2.0) one.0 two.0
      (subst (λ is. GrowsAt limits (joined joining is) one.0) same one.2.2) two.2.2)
      ∙ sym two.1
  one_why because also (inl one) (inr two) = absurd (not_grown_too one.0 also one.2 two)
  one_why because also (inr one) (inl two) = absurd (not_grown_too two.0 because two.2 one)
  one_why because also (inr one) (inr two) =
      (has_one_outcome (splitting limits) (shown_cause limits.frame) (readable limits.frame)
      (value_facts limits) (accepted_facts limits)).one_refusal bytes because also one two

  pub one_refusal : (because also : Refused) → IsNotJoined limits joining bytes because
      → IsNotJoined limits joining bytes also → because ≡ also
  one_refusal because also one two = one_why because also (why because one) (why also two)
