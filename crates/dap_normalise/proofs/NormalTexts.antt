-- The text of a normal form: when it does not exceed the limits, and that there are either few or
-- too many ids.
use Rattle.std.proofs.Common.{◌≡◌, ◌⊎◌, inl, inr, ◌<◌, ◌≤◌, ℤ, true, false, List, [], ◌∷◌, ◌++◌}
use Rattle.std.proofs.Common.{length, refl, sym, ap, subst, arith, length-append}
use Rattle.std.proofs.lemmas.Bool.{cases_lt}
use Rattle.std.proofs.lemmas.List.Concat.{flat_map-append}
use Rattle.std.specs.List.{list_any, AllByRecursion}
use Rattle.dap_tree.specs.Json.{text_of}
use Rattle.dap_message.specs.Message.{Sent}
use Rattle.dap_message.specs.Numbers.{is_proper}
use Rattle.dap_recording.specs.Recording.{record_text}
use Rattle.dap_rename.specs.Numbering.{numbers, table}
use Rattle.dap_rename.specs.Renamings.{IsIn}
use Rattle.dap_rename.specs.Messages.{Class, AreProper, HasFewIds, HasTooManyIds, IsNormal}
use Rattle.dap_rename.specs.Messages.{normal_of, numbers_of_class, occurrences}
use Rattle.dap_rename.specs.Messages.{all_classes, same_class, stops_after}
use Rattle.dap_rename.specs.Modes.{stop_in}
use Rattle.dap_rename.specs.declared.mode.Mode.{Mode}
use Rattle.dap_rename.proofs.Additions.{by_bool}
use Rattle.dap_rename.proofs.Lists.{at_each, each-append, each_left}
use Rattle.dap_rename.proofs.Occurrences.{class_decides}
use Rattle.dap_rename.proofs.Classes.{all_reached}
use Rattle.dap_rename.proofs.Sameness.{in_any, normal_is_unique, same_as_itself}
use Rattle.dap_rename.proofs.NormalForms.{normal_of_front, some_normal}
use Rattle.dap_rename.proofs.Stops.{mode_is_told}
use Rattle.dap_input.specs.declared.limits.Limits.{Limits}
use Rattle.dap_normalise.specs.Accepting.{text, Fits, NormalFits, HasGrown, id_limit}

-- ---- few ids, or too many

no_numbers : (cs : List Class) (c : Class) (os : List (Class × ℤ))
    → AllByRecursion (λ o. IsIn o.0 cs) os → list_any (same_class c) cs ≡ false
    → numbers same_class c os ≡ []
no_numbers cs c [] all none = refl
no_numbers cs c (o ∷ os) all none =
    by_bool (same_class c o.0)
    (λ same.
    let among : IsIn c cs =
    subst (λ d. IsIn d cs) (sym ((class_decides c o.0).0 same)) all.0 in
    absurd (not_among c cs among none))
    (λ other. rw other (no_numbers cs c os all.1 none))
  where
    not_among : (c : Class) (cs : List Class) → IsIn c cs → list_any (same_class c) cs ≡ false → ⊥
    not_among c [] among none = among
    not_among c (d ∷ cs) (inl same) none = let yes =
        (class_decides c d).1 same in absurd (let clash : true ≡ false = rw yes at none in cc)
    not_among c (d ∷ cs) (inr among) none =
        by_bool (same_class c d) (λ yes. absurd (let clash : true ≡ false = rw yes at none in cc))
        (λ no. not_among c cs among (rw no at none))

module _ (limits : Limits) (mode : Mode) (messages : List Sent) where
  abbrev IsFew : Class → Type 0
  IsFew c = length (numbers_of_class (stop_in mode) c messages) ≤ limits.ids

  each_few : (cs : List Class)
      → AllByRecursion IsFew cs ⊎ HasTooManyIds (stop_in mode) (id_limit limits) messages
  each_few [] = inl tt
  each_few (c ∷ cs) =
      both (cases_lt limits.ids (length (numbers_of_class (stop_in mode) c messages))) (each_few cs)
    where
      both : (limits.ids < length (numbers_of_class (stop_in mode) c messages)) ⊎ IsFew c
          → AllByRecursion IsFew cs ⊎ HasTooManyIds (stop_in mode) (id_limit limits) messages
          → AllByRecursion IsFew (c ∷ cs) ⊎ HasTooManyIds (stop_in mode) (id_limit limits) messages
      both (inl many) rest = inr (record { of = c; many = many })
      both (inr few) (inl rest) = inl (few, rest)
      both (inr few) (inr many) = inr many

  -- the classes that exist
  abbrev classes : List Class
  classes = all_classes (stops_after (stop_in mode) 0 messages)

  few_of_each : AllByRecursion IsFew classes → HasFewIds (stop_in mode) (id_limit limits) messages
  unfolding table
  few_of_each each c =
      by_bool (list_any (same_class c) classes)
      (λ among. at_each IsFew c classes each (in_any c classes among))
      (λ none. let empty = no_numbers classes c (occurrences (stop_in mode) 0 messages)
      (all_reached (stop_in mode) messages) none in rw empty (omega arith))

  pub few_or_many : HasFewIds (stop_in mode) (id_limit limits) messages
      ⊎ HasTooManyIds (stop_in mode) (id_limit limits) messages
  few_or_many = decide (each_few classes)
    where
      decide : AllByRecursion IsFew classes
          ⊎ HasTooManyIds (stop_in mode) (id_limit limits) messages
          → HasFewIds (stop_in mode) (id_limit limits) messages
          ⊎ HasTooManyIds (stop_in mode) (id_limit limits) messages
      decide (inl each) = inl (few_of_each each)
      decide (inr many) = inr many

  pub few_not_many : HasFewIds (stop_in mode) (id_limit limits) messages
      → HasTooManyIds (stop_in mode) (id_limit limits) messages → ⊥
  few_not_many few many = let at_most = few many.of in let more = many.many in omega arith

-- ---- texts

pub text-append : (messages others : List Sent)
    → text (messages ++ others) ≡ text messages ++ text others
text-append messages others =
    flat_map-append (λ (m : Sent). record_text m.side (text_of m.doc)) messages others

module _ (limits : Limits) where
  abbrev IsShort : Sent → Type 0
  IsShort m = length (text_of m.doc) ≤ limits.frame.content

  pub fits_front : (messages others : List Sent) → Fits limits (messages ++ others)
      → Fits limits messages
  fits_front messages others fits =
      let whole = fits.whole in
      record {
        each = each_left IsShort messages others fits.each;
        whole = omega (
          arith,
          whole,
          ap length (text-append messages others),
          length-append (text messages) (text others),
        );
      }

  each_or_not : (messages : List Sent)
      → AllByRecursion IsShort messages ⊎ (AllByRecursion IsShort messages → ⊥)
  each_or_not [] = inl tt
  each_or_not (m ∷ messages) =
      both (cases_lt limits.frame.content (length (text_of m.doc))) (each_or_not messages)
    where
      both : (limits.frame.content < length (text_of m.doc)) ⊎ IsShort m
          → AllByRecursion IsShort messages ⊎ (AllByRecursion IsShort messages → ⊥)
          → AllByRecursion IsShort (m ∷ messages) ⊎ (AllByRecursion IsShort (m ∷ messages) → ⊥)
      both (inl long) rest = inr (λ all. let short : IsShort m = all.0 in omega arith)
      both (inr short) (inl rest) = inl (short, rest)
      both (inr short) (inr rest) = inr (λ all. rest all.1)

  pub fits_or_not : (messages : List Sent) → Fits limits messages ⊎ (Fits limits messages → ⊥)
  fits_or_not messages =
      both (each_or_not messages) (cases_lt limits.input (length (text messages)))
    where
      both : AllByRecursion IsShort messages ⊎ (AllByRecursion IsShort messages → ⊥)
          → (limits.input < length (text messages)) ⊎ (length (text messages) ≤ limits.input)
          → Fits limits messages ⊎ (Fits limits messages → ⊥)
      both (inl each) (inr short) = inl (record { each = each; whole = short })
      both (inr each) short = inr (λ fits. each fits.each)
      both each (inl long) = inr (λ fits. let short = fits.whole in omega arith)

-- ---- the one normal form

pub normal : (mode : Mode) (messages : List Sent) → AreProper messages
    → IsNormal (stop_in mode) messages (normal_of (stop_in mode) messages)
normal mode messages proper = some_normal (stop_in mode) (mode_is_told mode) messages proper

pub one_normal : (mode : Mode) (messages n k : List Sent) → AreProper messages → IsNormal (stop_in
    mode) messages n
    → IsNormal (stop_in mode) messages k → n ≡ k
one_normal mode messages n k proper is_n is_k =
    normal_is_unique (stop_in mode) messages messages n k (same_as_itself (stop_in mode) messages
    proper) is_n
    is_k

pub proper_push : (messages : List Sent) (m : Sent) → AreProper messages → is_proper m.doc ≡ true
    → AreProper (messages ++ m ∷ [])
proper_push messages m all proper =
    each-append (λ (n : Sent). is_proper n.doc ≡ true) messages (m ∷ []) all (proper, tt)

pub proper_front : (messages more : List Sent) → AreProper (messages ++ more) → AreProper messages
proper_front messages more all = each_left (λ (n : Sent). is_proper n.doc ≡ true) messages more all

module _ (limits : Limits) (mode : Mode) where
  -- If one normal form fits, every normal form fits.
  pub normal_fits : (messages n : List Sent) → AreProper messages → IsNormal (stop_in mode) messages
      n
      → Fits limits n → NormalFits limits mode messages
  normal_fits messages n proper is_n fits =
      λ k is_k. subst (Fits limits) (one_normal mode messages n k proper is_n is_k) fits

  pub normal_fits_front : (messages more : List Sent) → AreProper (messages ++ more)
      → NormalFits limits mode (messages ++ more) → NormalFits limits mode messages
  normal_fits_front messages more proper fits =
      let all : List Sent = normal_of (stop_in mode) (messages ++ more) in
      let is_all = normal mode (messages ++ more) proper in
      let begins = normal_of_front (stop_in mode) (mode_is_told mode) messages more all is_all in
      normal_fits messages begins.0 (proper_front messages more proper) begins.3
      (fits_front limits begins.0 begins.1 (subst (Fits limits) begins.2 (fits all is_all)))

  pub fits_or_grew : (messages : List Sent) → AreProper messages
      → NormalFits limits mode messages ⊎ HasGrown limits mode messages
  fits_or_grew messages proper = decide (fits_or_not limits n)
    where
      n : List Sent
      n = normal_of (stop_in mode) messages

      decide : Fits limits n ⊎ (Fits limits n → ⊥)
          → NormalFits limits mode messages ⊎ HasGrown limits mode messages
      decide (inl fits) = inl (normal_fits messages n proper (normal mode messages proper) fits)
      decide (inr grown) =
          inr (record { normal = n; is_normal = normal mode messages proper; too_long = grown })

  pub fits_not_grown : (messages : List Sent) → NormalFits limits mode messages
      → HasGrown limits mode messages → ⊥
  fits_not_grown messages fits grown = grown.too_long (fits grown.normal grown.is_normal)
