-- The places of the named messages of a stored session, message by message.
use Rattle.std.proofs.Common.{◌≡◌, ℕ, zero, suc, ◌+◌, ◌<◌, List, [], ◌∷◌, ◌++◌, length, map, take}
use Rattle.std.proofs.Common.{slice_get, Some, refl, ap, ap₂, sym, ◌∙◌, subst, arith}
use Rattle.std.proofs.Common.{append-nil, append_assoc}
use Rattle.std.proofs.lemmas.List.{map-append}
use Rattle.dap_message.specs.Message.{Sent}
use Rattle.dap_mask.specs.Declarations.{Declaration}
use Rattle.dap_naming.specs.Sessions.{AreFew, declared_ids, named_sents}
use Rattle.dap_naming.specs.Known.{Knows, limit_of}
use Rattle.dap_naming.specs.declared.value_numbers.ValueNumbers.{ValueNumbers}
use Rattle.dap_stored.specs.Sessions.{AreAt}
use Rattle.dap_input.specs.declared.limits.Limits.{Limits}
use Rattle.dap_rules.specs.NamingSteps.{AreNamedAt, HasNamedAt}
use Rattle.dap_rules.specs.RewritingSteps.{AreNumbered}
use Rattle.dap_rules.proofs.FewValues.{none_few}
use Rattle.dap_rules.proofs.NamedRecords.{named_push}

-- ---- places of a list

-- Appending messages changes no message at a place.
pub get_longer : (xs ys : List Sent) (place : ℕ) (m : Sent) → slice_get xs place ≡ Some m
    → slice_get (xs ++ ys) place ≡ Some m
get_longer [] ys place m is = absurd cc
get_longer (x ∷ xs) ys zero m is = is
get_longer (x ∷ xs) ys (suc place) m is = get_longer xs ys place m is

pub get_last : (xs : List Sent) (m : Sent) → slice_get (xs ++ m ∷ []) (length xs) ≡ Some m
get_last [] m = refl
get_last (x ∷ xs) m = get_last xs m

at_longer : (all more : List Sent) (places : List ℕ) (those : List Sent) → AreAt all places those
    → AreAt (all ++ more) places those
at_longer all more [] [] are = refl
at_longer all more [] (m ∷ those) are = absurd cc
at_longer all more (p ∷ places) [] are = absurd cc
at_longer all more (p ∷ places) (m ∷ those) are =
    let first : slice_get all p ≡ Some m = cc in
    let others : AreAt all places those = cc in
    ap₂ (λ o os. o ∷ os) (get_longer all more p m first) (at_longer all more places those others)

at_push : (all : List Sent) (places : List ℕ) (those : List Sent) (place : ℕ) (m : Sent)
    → AreAt all places those → slice_get all place ≡ Some m
    → AreAt all (places ++ place ∷ []) (those ++ m ∷ [])
at_push all places those place m are is =
    map-append (slice_get all) places (place ∷ [])
    ∙ ap₂ (λ os o. os ++ o ∷ []) are is
    ∙ sym (map-append Some those (m ∷ []))

-- The message at a place of a list, and the messages up to it.
pub record MessageAt (all : List Sent) (place : ℕ) : Type 0 where
  pub message : Sent
  pub there : slice_get all place ≡ Some message
  pub up_to : take (suc place) all ≡ take place all ++ message ∷ []

pub message_at : (all : List Sent) (place : ℕ) → place < length all → MessageAt all place
message_at [] place low = absurd (omega (arith, low))
message_at (m ∷ all) zero low = record { message = m; there = refl; up_to = refl }
message_at (m ∷ all) (suc place) low =
    let later = message_at all place (omega (arith, low)) in
    record {
      message = later.message;
      there = later.there;
      up_to = ap (λ ms. m ∷ ms) later.up_to;
    }

-- ---- the session so far

-- The first messages of a session are named: the session has all its messages, followed by messages
-- that were added, and the named messages are at these places.
pub record Going (limits : Limits) (declared : List Declaration) (all : List Sent) (count : ℕ)
    (session : List Sent) (places : List ℕ) (numbers : ValueNumbers) : Type 0 where
  pub more : List Sent
  pub longer : session ≡ all ++ more
  pub at : AreAt session places (named_sents declared (take count all))
  pub numbered : AreNumbered limits declared (take count all) numbers

module _ (limits : Limits) (declared : List Declaration) (all : List Sent) where
  pub none_named : (numbers : ValueNumbers) (places : List ℕ) → places ≡ [] → Knows numbers []
      → limit_of numbers ≡ limits.ids → Going limits declared all 0 all places numbers
  none_named numbers places none knows limit = record {
    more = [];
    longer = sym (append-nil all);
    at = ap (map (slice_get all)) none;
    numbered = record { knows = knows; few = none_few limits.ids; limit = limit };
  }

  module _ (count : ℕ) (session : List Sent) (places : List ℕ) (numbers : ValueNumbers)
      (was : Going limits declared all count session places numbers)
      (next : MessageAt all count) where
    pub next_there : slice_get session count ≡ Some next.message
    next_there =
        subst (λ ms. slice_get ms count ≡ Some next.message) (sym was.longer)
        (get_longer all was.more count next.message next.there)

    up_to_next : take (count + 1) all ≡ take count all ++ next.message ∷ []
    up_to_next =
        let one : count + 1 ≡ suc count = omega arith in
        ap (λ n. take n all) one ∙ next.up_to

    -- The message at the next place is also named.
    pub named_on : (new_session : List Sent) (place : ℕ) (new_places : List ℕ)
        (new_numbers : ValueNumbers)
        → HasNamedAt limits declared (take count all) next.message session new_session place
        new_numbers → new_places ≡ places ++ place ∷ []
        → Going limits declared all (count + 1) new_session new_places new_numbers
    named_on new_session place new_places new_numbers is same =
        let before = take count all in
        let m = next.message in
        let named_are : named_sents declared (take (count + 1) all)
        ≡ named_sents declared before ++ is.named ∷ [] =
        ap (named_sents declared) up_to_next ∙ named_push declared before m
        ∙ ap (λ n. named_sents declared before ++ n ∷ []) (sym is.after.is) in
        let kept : AreAt new_session places (named_sents declared before) =
        subst (λ ms. AreAt ms places (named_sents declared before)) (sym is.longer)
        (at_longer session is.more places (named_sents declared before) was.at) in
        record {
          more = was.more ++ is.more;
          longer = is.longer ∙ ap (λ ms. ms ++ is.more) was.longer
              ∙ append_assoc all was.more is.more;
          at = subst (AreAt new_session new_places) (sym named_are)
              (subst (λ ps. AreAt new_session ps (named_sents declared before ++ is.named ∷ []))
              (sym same)
              (at_push new_session places (named_sents declared before) place is.named kept
              is.there));
          numbered = subst (λ ms. AreNumbered limits declared ms new_numbers) (sym up_to_next)
              is.after.numbered;
        }

  pub all_named : (count : ℕ) (session : List Sent) (places : List ℕ) (numbers : ValueNumbers)
      → Going limits declared all count session places numbers → take count all ≡ all
      → AreNamedAt limits declared all session places
  all_named count session places numbers was whole = record {
    at = subst (λ ms. AreAt session places (named_sents declared ms)) whole was.at;
    few = subst (λ ms. AreFew limits.ids (declared_ids declared ms)) whole was.numbered.few;
  }
