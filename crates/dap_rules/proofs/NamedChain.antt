-- Messages that were ordered, named and then normalised stay as they are when this is done again.
use Rattle.std.proofs.Common.{◌≡◌, ℕ, ℤ, true, List, [], ◌∷◌, ◌++◌, length, map, Option, Some, None}
use Rattle.std.proofs.Common.{option_map, codes, refl, ap, sym, ◌∙◌, subst, arith}
use Rattle.std.specs.List.{All, AllByRecursion, AllZip}
use Rattle.std.proofs.lemmas.List.{length-map}
use Rattle.std.proofs.lemmas.List.Elements.{All-from_recursion, recursion_from_All}
use Rattle.std.proofs.lemmas.List.Sorted.{All-permutation}
use Rattle.dap_tree.specs.Doc.{Doc, null, boolean, whole, text, list, object, id, get}
use Rattle.dap_tree.specs.Ids.{ids, numbers_of}
use Rattle.dap_tree.specs.declared.sort.Sort.{Sort}
use Rattle.dap_profile.specs.declared.profile.Kind.TheVariants.{Response}
use Rattle.dap_message.specs.{Message.Sent, SwapRules.SwapRule}
use Rattle.dap_tokens.specs.Naming.{Numbering}
use Rattle.dap_mask.specs.Declarations.{Declaration, are_declared}
use Rattle.dap_tokens.proofs.NamedStrings.{names_are_read, named_twice}
use Rattle.dap_tokens.proofs.EqualStrings.{equal_named}
use Rattle.dap_naming.specs.Numbers.{number}
use Rattle.dap_naming.specs.Documents.{Declared, below, named_doc}
use Rattle.dap_naming.specs.Sessions.{rules_for, declared_ids, name_sent, named_sents}
use Rattle.dap_naming.proofs.SessionsNamed.{named_session_stays}
use Rattle.dap_naming.proofs.SessionsPlaces.{get-named, kind_alike, named_reads}
use Rattle.dap_session.specs.{RenamedLists.{IsNumbered, DifferInIds, IsOneToOne, id_sort, seq_sort}}
use Rattle.dap_session.specs.Rules.{KeepsRules}
use Rattle.dap_rename.specs.Messages.{Class, AreSame, IsNormal, IsProperId, class_after}
use Rattle.dap_rename.specs.Messages.{message_skeleton, no_stop, occurrence, occurrences}
use Rattle.dap_rename.specs.declared.mode.Mode.TheVariants.{Whole}
use Rattle.dap_rename.specs.{Modes.stop_in, Renamings.{AreRelated, IsIn, IsRenaming}}
use Rattle.dap_rename.proofs.Lists.{same_cons, head_of, tail_of}
use Rattle.dap_rename.proofs.Occurrences.{doc_told, docs_alike, ids_alike, messages_told, same_sent}
use Rattle.dap_rename.proofs.RelatedLists.{gives_one, takes_one}
use Rattle.dap_rename.proofs.Sameness.{related_front}
use Rattle.dap_order.specs.{Free.free, MessageOrder.ordered}
use Rattle.dap_order.proofs.FirstAndParts.{ordered_again}
use Rattle.dap_order.proofs.Kept.{reordered_permutation}
use Rattle.dap_order.proofs.MessageOrder.{to_ordered, ordered_keeps}
use Rattle.dap_order.proofs.RenamedOrder.{ordered_renamed}
use Rattle.dap_rules.specs.NamedSessions.{NamedStaysRenamed, NamedChainStays}
use Rattle.dap_rules.proofs.NamedCounts.{countable_reordered}
use Rattle.dap_rules.proofs.NamedIds.{all_numbers-named, declared_alike, skeletons-named}
use Rattle.dap_rules.proofs.NamedOrder.{order_of_named, values-named}
use Rattle.dap_rules.proofs.NamedRules.{kept}

-- ---- named messages with other ids of the profile

skeletons_alike : (stop : Sent → ℕ) (ms n : List Sent) → AreSame stop ms n
    → map message_skeleton ms ≡ map message_skeleton n
unfolding AreSame
skeletons_alike stop ms n s = s.2.0

pub named_stays_renamed : NamedStaysRenamed
named_stays_renamed mode xs ms n h s stays =
    let f = number (declared_ids xs ms) in
    let g = number (declared_ids xs n) in
    let told = skeletons_alike (stop_in mode) ms n s in
    let same : map (name_sent xs f) (map message_skeleton ms) ≡ map message_skeleton ms =
    sym (skeletons-named xs f ms) ∙ ap (map message_skeleton) stays in
    messages_told (named_sents xs n) n
    (skeletons-named xs g n
    ∙ (ap (λ is. map (name_sent xs (number is)) (map message_skeleton n))
    (sym (declared_alike xs ms n told))
    ∙ (ap (map (name_sent xs f)) (sym told) ∙ (same ∙ told))))
    (all_numbers-named xs g n h)

-- ---- sequence numbers of named messages

sort-named : (rs : List Declared) (f : Numbering) (o : Option Doc)
    → id_sort (option_map (named_doc rs f) o) ≡ id_sort o
sort-named rs f None = refl
sort-named rs f (Some null) = refl
sort-named rs f (Some (boolean b)) = refl
sort-named rs f (Some (whole z)) = refl
sort-named rs f (Some (text s)) = refl
sort-named rs f (Some (list ds)) = refl
sort-named rs f (Some (object ms)) = refl
sort-named rs f (Some (id s z)) = refl

sort_at-named : (rs : List Declared) (f : Numbering) (k : List ℕ) (d : Doc)
    → id_sort (get k (named_doc rs f d)) ≡ id_sort (get k d)
sort_at-named rs f k d = ap id_sort (get-named rs f k d) ∙ sort-named (below k rs) f (get k d)

numbered_named : (xs : List Declaration) (f : Numbering) (m : Sent) → are_declared xs ≡ true
    → IsNumbered m → IsNumbered (name_sent xs f m)
numbered_named xs f m h is = record {
  seq = sort_at-named (rules_for xs m.doc) f (codes "seq") m.doc ∙ is.seq;
  request_seq = λ e.
      sort_at-named (rules_for xs m.doc) f (codes "request_seq") m.doc
      ∙ is.request_seq (sym (kind_alike _ m.doc (named_reads xs f m.doc h) Response) ∙ e);
}

each_numbered : (xs : List Declaration) (f : Numbering) (ms : List Sent) → are_declared xs ≡ true
    → AllByRecursion IsNumbered ms → AllByRecursion IsNumbered (map (name_sent xs f) ms)
each_numbered xs f [] h all = tt
each_numbered xs f (m ∷ ms) h all =
    (numbered_named xs f m h all.0, each_numbered xs f ms h all.1)

numbered_order : (rules : List SwapRule) (ms : List Sent) → All IsNumbered ms
    → AllByRecursion IsNumbered (ordered rules ms)
numbered_order rules ms is =
    recursion_from_All IsNumbered (ordered rules ms)
    (All-permutation IsNumbered ms (ordered rules ms)
    (reordered_permutation (free rules) ms (ordered rules ms) (to_ordered rules ms)) is)

-- ---- the order of renamed messages

-- The entries relate the numbers of a kind of id, with `Mode::Whole`.
abbrev Puts : List (Class × ℤ × ℤ) → Sort → ℤ → ℤ → Type 0
Puts r s x y = IsIn (class_after 0 s, x, y) r

module _ (r : List (Class × ℤ × ℤ)) (is : IsRenaming IsProperId r) where
  one_to_one : IsOneToOne (Puts r)
  one_to_one side x y u v one two =
      let c : Class = class_after 0 (seq_sort side) in (
        (λ same. gives_one IsProperId r is c x u v one
            (subst (λ z. IsIn (c, z, v) r) (sym same) two)),
        (λ same. takes_one IsProperId r is c x y u one
            (subst (λ z. IsIn (c, y, z) r) (sym same) two)),
      )

  related_ids : (as' bs : List (Sort × ℤ))
      → AreRelated r (map (occurrence 0) as') (map (occurrence 0) bs)
      → AllZip (λ i j. Puts r i.0 i.1 j.1) as' bs
  related_ids [] [] h = tt
  related_ids [] (j ∷ bs) h = absurd h
  related_ids (i ∷ as') [] h = absurd h
  related_ids (i ∷ as') (j ∷ bs) h = (h.1, related_ids as' bs h.2)

  related_rest : (xs more ys rest : List (Class × ℤ)) → length xs ≡ length ys
      → AreRelated r (xs ++ more) (ys ++ rest) → AreRelated r more rest
  related_rest [] more [] rest n h = h
  related_rest [] more (p ∷ ys) rest n h = absurd (omega (arith, n))
  related_rest (o ∷ xs) more [] rest n h = absurd (omega (arith, n))
  related_rest (o ∷ xs) more (p ∷ ys) rest n h =
      related_rest xs more ys rest (omega (arith, n)) h.2

  differ : (ms ns : List Sent) → map message_skeleton ms ≡ map message_skeleton ns
      → AreRelated r (occurrences no_stop 0 ms) (occurrences no_stop 0 ns)
      → DifferInIds (Puts r) ms ns
  differ [] [] same h = tt
  differ [] (n ∷ ns) same h = absurd cc
  differ (m ∷ ms) [] same h = absurd cc
  differ (m ∷ ms) (n ∷ ns) same h =
      let xs : List (Class × ℤ) = map (occurrence 0) (ids m.doc) in
      let ys : List (Class × ℤ) = map (occurrence 0) (ids n.doc) in
      let more : List (Class × ℤ) = occurrences no_stop 0 ms in
      let rest : List (Class × ℤ) = occurrences no_stop 0 ns in
      let alike = head_of same in
      let count : length xs ≡ length ys =
      length-map (ids m.doc) (occurrence 0) ∙ ids_alike m n alike
      ∙ sym (length-map (ids n.doc) (occurrence 0)) in (
        record {
          one_side = ap (λ (w : Sent). w.side) alike;
          one_skeleton = docs_alike m n alike;
          related = related_ids (ids m.doc) (ids n.doc) (related_front r xs more ys rest count h);
        },
        differ ms ns (tail_of same) (related_rest xs more ys rest count h),
      )

  -- a renaming turns a list into one list only
  same_numbers : (as' bs cs : List (Sort × ℤ)) → AllZip (λ i j. Puts r i.0 i.1 j.1) as' bs
      → AllZip (λ i j. Puts r i.0 i.1 j.1) as' cs → numbers_of bs ≡ numbers_of cs
  same_numbers [] [] [] h k = refl
  same_numbers [] [] (c ∷ cs) h k = absurd k
  same_numbers [] (b ∷ bs) cs h k = absurd h
  same_numbers (a ∷ as') [] cs h k = absurd h
  same_numbers (a ∷ as') (b ∷ bs) [] h k = absurd k
  same_numbers (a ∷ as') (b ∷ bs) (c ∷ cs) h k =
      same_cons _ _ _ _ (gives_one IsProperId r is (class_after 0 a.0) a.1 b.1 c.1 h.0 k.0)
      (same_numbers as' bs cs h.1 k.1)

  one_renamed : (ms ns ks : List Sent) → DifferInIds (Puts r) ms ns → DifferInIds (Puts r) ms ks
      → ns ≡ ks
  one_renamed [] [] [] h k = refl
  one_renamed [] [] (o ∷ ks) h k = absurd k
  one_renamed [] (n ∷ ns) ks h k = absurd h
  one_renamed (m ∷ ms) [] ks h k = absurd h
  one_renamed (m ∷ ms) (n ∷ ns) [] h k = absurd k
  one_renamed (m ∷ ms) (n ∷ ns) (o ∷ ks) h k =
      same_cons _ _ _ _
      (same_sent n.side o.side n.doc o.doc (sym h.0.one_side ∙ k.0.one_side)
      (doc_told n.doc o.doc (sym h.0.one_skeleton ∙ k.0.one_skeleton)
      (same_numbers (ids m.doc) (ids n.doc) (ids o.doc) h.0.related k.0.related)))
      (one_renamed ms ns ks h.1 k.1)

-- a renamed list is in order if the list is
order_stays_renamed : (rules : List SwapRule) (ms n : List Sent) → All IsNumbered ms
    → KeepsRules ms → AreSame no_stop ms n → ordered rules ms ≡ ms → ordered rules n ≡ n
unfolding AreSame
order_stays_renamed rules ms n is keeps s stays =
    let r = s.0 in
    let d = differ r s.1 ms n s.2.0 s.2.1 in
    one_renamed r s.1 ms (ordered rules n) n
    (subst (λ t. DifferInIds (Puts r) t (ordered rules n)) stays
    (ordered_renamed (Puts r) (one_to_one r s.1) rules ms n is keeps d))
    d

normal_is_same : (stop : Sent → ℕ) (ms n : List Sent) → IsNormal stop ms n → AreSame stop ms n
unfolding IsNormal
normal_is_same stop ms n is = is.0

pub named_chain_stays : NamedChainStays
named_chain_stays rules xs ms n h is keeps c normal =
    let us = ordered rules ms in
    let f = number (declared_ids xs us) in
    let vs = named_sents xs us in
    let same = normal_is_same no_stop vs n normal in (
      order_stays_renamed rules vs n
          (All-from_recursion IsNumbered vs (each_numbered xs f us h (numbered_order rules ms is)))
          (kept (name_sent xs f) (λ m. values-named xs f m h) us (ordered_keeps rules ms keeps))
          same
          (order_of_named rules xs f us h ∙ ap (map (name_sent xs f)) (ordered_again rules ms)),
      named_stays_renamed Whole xs vs n h same
          (named_session_stays names_are_read named_twice equal_named xs us h
          (countable_reordered (free rules) xs ms us (to_ordered rules ms) c)),
    )
