-- Lists that are equal except for their declared ids have orders that are. So names can be compared
-- after the messages were ordered.
use Rattle.std.proofs.Common.{◌≡◌, ℕ, true, List, [], ◌∷◌, ◌++◌, length, map, refl, ap, sym, ◌∙◌}
use Rattle.std.proofs.Common.{subst, arith}
use Rattle.std.specs.List.{AllZip}
use Rattle.std.proofs.Math.Logic.{∥∥₁_map}
use Rattle.std.proofs.lemmas.List.{length-map, map-append}
use Rattle.dap_message.specs.{Message.Sent, SwapRules.SwapRule}
use Rattle.dap_tokens.specs.Naming.{Id, IsNumbering, Numbering, named_by}
use Rattle.dap_mask.specs.Declarations.{Declaration, are_declared}
use Rattle.dap_tokens.proofs.NamedStrings.{names_are_read, named_twice}
use Rattle.dap_tokens.proofs.EqualStrings.{equal_named}
use Rattle.dap_naming.specs.Documents.{ids_of, skeleton_doc}
use Rattle.dap_naming.specs.Numbers.{AreRenamed, renamed}
use Rattle.dap_naming.specs.Sessions.{rules_for, declared_ids, named_sents}
use Rattle.dap_naming.specs.Sessions.{sent_skeleton}
use Rattle.dap_naming.proofs.Lists.{front_of, rest_of, same_append}
use Rattle.dap_naming.proofs.NamedDocuments.{names_of_doc_are_read}
use Rattle.dap_naming.proofs.SessionsNamed.{named_session_stays}
use Rattle.dap_naming.proofs.SessionsPlaces.{names_keep_rules, sound_for}
use Rattle.dap_rename.specs.Messages.{IsNormal, no_stop}
use Rattle.dap_rename.specs.declared.mode.Mode.TheVariants.{Whole}
use Rattle.dap_rename.proofs.Lists.{same_cons, head_of, tail_of}
use Rattle.dap_rename.proofs.Sameness.{normal_is_unique, normal_is_complete}
use Rattle.dap_order.specs.{Free.free, MessageOrder.ordered}
use Rattle.dap_order.proofs.MessageOrder.{to_ordered, one_ordered}
use Rattle.dap_order.proofs.SameMessages.{same_orders}
use Rattle.dap_rules.specs.NamedSessions.{AreSameDeclared, EqualNamedOrders}
use Rattle.dap_rules.specs.NamedSessions.{NamesAfterOrder, OneNamedNormalForm, OrderOfSameDeclared}
use Rattle.dap_rules.proofs.NamedCounts.{countable_named, countable_reordered}
use Rattle.dap_rules.proofs.NamedOrder.{ordered_alike, values-named, values_of}
use Rattle.dap_rules.proofs.NamedSameness.{equal_names_and_ids, equal_sessions}

-- ---- the declared ids of one message

abbrev own : List Declaration → Sent → List Id
own xs m = ids_of (rules_for xs m.doc) m.doc

abbrev ones : Numbering
ones label v = 1

ones_number : IsNumbering ones
ones_number label v = (omega arith, omega arith)

skeleton-own : (xs : List Declaration) (m : Sent) → are_declared xs ≡ true
    → own xs (sent_skeleton xs m) ≡ named_by ones (own xs m)
skeleton-own xs m h =
    let rs = rules_for xs m.doc in
    ap (λ qs. ids_of qs (skeleton_doc rs m.doc)) (names_keep_rules xs ones m.doc h)
    ∙ names_of_doc_are_read names_are_read named_twice equal_named rs ones m.doc
    (sound_for xs m.doc h) ones_number

-- messages that are equal except for their declared ids have equally many of them
as_many : (xs : List Declaration) (m n : Sent) → are_declared xs ≡ true
    → sent_skeleton xs m ≡ sent_skeleton xs n → length (own xs m) ≡ length (own xs n)
as_many xs m n h e =
    sym (length-map (own xs m) _)
    ∙ (ap length (sym (skeleton-own xs m h))
    ∙ (ap (λ t. length (own xs t)) e
    ∙ (ap length (skeleton-own xs n h) ∙ length-map (own xs n) _)))

renamed-append : (to : List ℕ → List ℕ → List ℕ) (is js : List Id)
    → renamed to (is ++ js) ≡ renamed to is ++ renamed to js
renamed-append to is js = map-append _ is js

-- ---- message by message

-- the messages are equal except for their declared ids
abbrev Alike : List Declaration → Sent → Sent → Type 0
Alike xs m n = sent_skeleton xs m ≡ sent_skeleton xs n

values_alike : (xs : List Declaration) (m n : Sent) → are_declared xs ≡ true → Alike xs m n
    → values_of m ≡ values_of n
values_alike xs m n h e =
    sym (values-named xs ones m h) ∙ (ap values_of e ∙ values-named xs ones n h)

zip_skeletons : (xs : List Declaration) (ms ns : List Sent)
    → map (sent_skeleton xs) ms ≡ map (sent_skeleton xs) ns → AllZip (Alike xs) ms ns
zip_skeletons xs [] [] h = tt
zip_skeletons xs [] (n ∷ ns) h = absurd cc
zip_skeletons xs (m ∷ ms) [] h = absurd cc
zip_skeletons xs (m ∷ ms) (n ∷ ns) h = (head_of h, zip_skeletons xs ms ns (tail_of h))

from_zip : (xs : List Declaration) (ms ns : List Sent) → AllZip (Alike xs) ms ns
    → map (sent_skeleton xs) ms ≡ map (sent_skeleton xs) ns
from_zip xs [] [] h = refl
from_zip xs [] (n ∷ ns) h = absurd h
from_zip xs (m ∷ ms) [] h = absurd h
from_zip xs (m ∷ ms) (n ∷ ns) h = same_cons _ _ _ _ h.0 (from_zip xs ms ns h.1)

module _ (xs : List Declaration) (there back : List ℕ → List ℕ → List ℕ) where
  -- besides, the renaming turns the declared ids of one message into those of the other
  abbrev Renamed : Sent → Sent → Type 0
  Renamed m n = Alike xs m n × (renamed there (own xs m) ≡ own xs n)
      × (renamed back (own xs n) ≡ own xs m)

  first_ids : (to : List ℕ → List ℕ → List ℕ) (is more js rest : List Id)
      → length is ≡ length js → renamed to (is ++ more) ≡ js ++ rest → renamed to is ≡ js
  first_ids to is more js rest n h =
      front_of (renamed to is) (renamed to more) js rest (length-map is _ ∙ n)
      (sym (renamed-append to is more) ∙ h)

  other_ids : (to : List ℕ → List ℕ → List ℕ) (is more js rest : List Id)
      → length is ≡ length js → renamed to (is ++ more) ≡ js ++ rest → renamed to more ≡ rest
  other_ids to is more js rest n h =
      rest_of (renamed to is) (renamed to more) js rest (length-map is _ ∙ n)
      (sym (renamed-append to is more) ∙ h)

  zip_renamed : (ms ns : List Sent) → are_declared xs ≡ true
      → map (sent_skeleton xs) ms ≡ map (sent_skeleton xs) ns
      → renamed there (declared_ids xs ms) ≡ declared_ids xs ns
      → renamed back (declared_ids xs ns) ≡ declared_ids xs ms → AllZip Renamed ms ns
  zip_renamed [] [] h e t b = tt
  zip_renamed [] (n ∷ ns) h e t b = absurd cc
  zip_renamed (m ∷ ms) [] h e t b = absurd cc
  zip_renamed (m ∷ ms) (n ∷ ns) h e t b =
      let is = own xs m in
      let js = own xs n in
      let more = declared_ids xs ms in
      let rest = declared_ids xs ns in
      let many = as_many xs m n h (head_of e) in (
        (
          head_of e,
          first_ids there is more js rest many t,
          first_ids back js rest is more (sym many) b,
        ),
        zip_renamed ms ns h (tail_of e) (other_ids there is more js rest many t)
            (other_ids back js rest is more (sym many) b),
      )

  there_all : (ms ns : List Sent) → AllZip Renamed ms ns
      → renamed there (declared_ids xs ms) ≡ declared_ids xs ns
  there_all [] [] h = refl
  there_all [] (n ∷ ns) h = absurd h
  there_all (m ∷ ms) [] h = absurd h
  there_all (m ∷ ms) (n ∷ ns) h =
      renamed-append there (own xs m) (declared_ids xs ms)
      ∙ same_append _ _ _ _ h.0.1 (there_all ms ns h.1)

  back_all : (ms ns : List Sent) → AllZip Renamed ms ns
      → renamed back (declared_ids xs ns) ≡ declared_ids xs ms
  back_all [] [] h = refl
  back_all [] (n ∷ ns) h = absurd h
  back_all (m ∷ ms) [] h = absurd h
  back_all (m ∷ ms) (n ∷ ns) h =
      renamed-append back (own xs n) (declared_ids xs ns)
      ∙ same_append _ _ _ _ h.0.2 (back_all ms ns h.1)

  renamed_orders : (rules : List SwapRule) (ms ns : List Sent) → are_declared xs ≡ true
      → AllZip Renamed ms ns
      → AreRenamed (declared_ids xs (ordered rules ms)) (declared_ids xs (ordered rules ns))
  renamed_orders rules ms ns h all =
      let zip = ordered_alike Renamed (λ m n e. values_alike xs m n h e.0) rules ms ns all in
      record {
        there = there;
        back = back;
        leads_there = there_all (ordered rules ms) (ordered rules ns) zip;
        leads_back = back_all (ordered rules ms) (ordered rules ns) zip;
      }

pub order_of_same_declared : OrderOfSameDeclared
order_of_same_declared rules xs ms ns h same = (
  from_zip xs (ordered rules ms) (ordered rules ns)
      (ordered_alike (Alike xs) (λ m n e. values_alike xs m n h e) rules ms ns
      (zip_skeletons xs ms ns same.0)),
  ∥∥₁_map same.1
      (λ r. renamed_orders xs r.there r.back rules ms ns h
      (zip_renamed xs r.there r.back ms ns h same.0 r.leads_there r.leads_back)),
)

-- ---- names after the order

pub names_after_order : NamesAfterOrder
names_after_order rules xs ms h c =
    let named = named_sents xs ms in
    let few = countable_named xs ms h c in
    let same = (equal_sessions xs named ms h few c).0
    (named_session_stays names_are_read named_twice equal_named xs ms h c) in
    (equal_sessions xs (ordered rules named) (ordered rules ms) h
    (countable_reordered (free rules) xs named (ordered rules named) (to_ordered rules named) few)
    (countable_reordered (free rules) xs ms (ordered rules ms) (to_ordered rules ms) c)).1
    (order_of_same_declared rules xs named ms h same)

pub equal_named_orders : EqualNamedOrders
equal_named_orders rules xs ms ns h is keeps c e =
    let us = ordered rules ms in
    let vs = ordered rules ns in
    let law = equal_names_and_ids Whole xs us vs h
    (countable_reordered (free rules) xs ms us (to_ordered rules ms) c)
    (countable_reordered (free rules) xs ns vs (to_ordered rules ns) e) in (
      λ s. record {
        first = us;
        second = vs;
        first_swaps = to_ordered rules ms;
        second_swaps = to_ordered rules ns;
        same = law.0 s;
      },
      λ w. law.1 (
        ordered rules w.same.0,
        same_orders rules ms w.same.0 is keeps (w.first, w.first_swaps, w.same.1),
        subst (AreSameDeclared xs (ordered rules w.same.0))
            (sym (one_ordered rules ns w.second w.second_swaps))
            (order_of_same_declared rules xs w.same.0 w.second h w.same.2),
      ),
    )

pub one_named_normal_form : OneNamedNormalForm
one_named_normal_form rules xs ms ns n k h is keeps c e p q =
    let law = equal_named_orders rules xs ms ns h is keeps c e in
    let us = named_sents xs (ordered rules ms) in
    let vs = named_sents xs (ordered rules ns) in (
      λ s. law.0 (normal_is_complete no_stop us vs n p
          (subst (IsNormal no_stop vs) (sym s) q)),
      λ w. normal_is_unique no_stop us vs n k (law.1 w) p q,
    )
