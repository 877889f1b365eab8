-- The laws of lists of messages.
use Rattle.std.proofs.Common.{◌≡◌, Bool, true, false, ◌&&◌, List, [], ◌∷◌, ◌++◌, refl, ap}
use Rattle.std.proofs.Common.{sym, ◌∙◌}
use Rattle.std.specs.Fmt.{decimal}
use Rattle.dap_tree.specs.Doc.{Doc}
use Rattle.dap_tokens.specs.Naming.{Id, IsNumbering, Numbering, named_by, numbered}
use Rattle.dap_tokens.specs.Laws.{NamesAreRead, NamedTwice, EqualNamed}
use Rattle.dap_naming.specs.Numbers.{number, renumbered}
use Rattle.dap_naming.specs.Documents.{Declared, ids_of, named_doc, skeleton_doc}
use Rattle.dap_naming.specs.Documents.{are_sound}
use Rattle.dap_naming.specs.Messages.{Message, all_sound, ids_of_all, named_each, named_all}
use Rattle.dap_naming.specs.Messages.{skeletons}
use Rattle.dap_naming.specs.Laws.{EqualNamedLists, NamedListStays}
use Rattle.dap_naming.proofs.Lists.{same_append, same_cons, head_of, tail_of}
use Rattle.dap_naming.proofs.Numbers.{equal_numbers, numbers_are_fresh, number-is_numbering}
use Rattle.dap_naming.proofs.Numbers.{numbers-are_countable}
use Rattle.dap_naming.proofs.Agreement.{each_agrees}
use Rattle.dap_naming.proofs.NamedDocuments.{names_of_doc_are_read, named_doc_twice, named-append}
use Rattle.dap_naming.proofs.NamedDocuments.{followed}
use Rattle.dap_naming.proofs.EqualDocuments.{numbers_from_names, split_front}
use Rattle.dap_naming.proofs.EqualDocuments.{split_rest, equal_named_docs}

both_are : (a b : Bool) → (a && b) ≡ true → (a ≡ true) × (b ≡ true)
both_are true true e = (refl, refl)
both_are true false e = cc
both_are false b e = cc

first_sound : (m : Message) (ms : List Message) → all_sound (m ∷ ms) ≡ true → are_sound m.0 ≡ true
first_sound m ms s = (both_are (are_sound m.0) (all_sound ms) s).0

others_sound : (m : Message) (ms : List Message) → all_sound (m ∷ ms) ≡ true → all_sound ms ≡ true
others_sound m ms s = (both_are (are_sound m.0) (all_sound ms) s).1

same_message : (rs qs : List Declared) (d e : Doc) → rs ≡ qs → d ≡ e
    → ◌≡◌ {A = Message} (rs, d) (qs, e)
same_message rs qs d e p q = rw (p, q) refl

numbered-named_by : (number other : Numbering) (is : List Id)
    → numbered other (named_by number is) ≡ numbered (followed number other) is
numbered-named_by number other [] = refl
numbered-named_by number other (i ∷ is) =
    same_cons _ _ _ _ refl (numbered-named_by number other is)

module _ (read : NamesAreRead) (twice : NamedTwice) (equal : EqualNamed) where
  -- ---- named lists

  pub ids_of_named : (number : Numbering) → IsNumbering number → (ms : List Message)
      → all_sound ms ≡ true → ids_of_all (named_each number ms) ≡ named_by number (ids_of_all ms)
  ids_of_named number n [] s = refl
  ids_of_named number n (m ∷ ms) s =
      same_append _ _ _ _
      (names_of_doc_are_read read twice equal m.0 number m.1 (first_sound m ms s) n)
      (ids_of_named number n ms (others_sound m ms s))
      ∙ sym (named-append number (ids_of m.0 m.1) (ids_of_all ms))

  pub named_each_twice : (number other : Numbering) → IsNumbering number → (ms : List Message)
      → all_sound ms ≡ true
      → named_each other (named_each number ms) ≡ named_each (followed number other) ms
  named_each_twice number other n [] s = refl
  named_each_twice number other n (m ∷ ms) s =
      same_cons _ _ _ _
      (ap (λ d. (m.0, d))
      (named_doc_twice read twice equal m.0 number other m.1 (first_sound m ms s) n))
      (named_each_twice number other n ms (others_sound m ms s))

  -- ---- equal named lists

  pub equal_each : (number other : Numbering) → IsNumbering number → IsNumbering other
      → (ms ns : List Message) → all_sound ms ≡ true → skeletons ms ≡ skeletons ns
      → numbered number (ids_of_all ms) ≡ numbered other (ids_of_all ns)
      → named_each number ms ≡ named_each other ns
  equal_each number other n m [] [] s h k = refl
  equal_each number other n m [] (y ∷ ns) s h k = absurd cc
  equal_each number other n m (x ∷ ms) [] s h k = absurd cc
  equal_each number other n m (x ∷ ms) (y ∷ ns) s h k =
      let q : x.0 ≡ y.0 = ap (λ (t : Message). t.0) (head_of h) in
      let shape : skeleton_doc x.0 x.1 ≡ skeleton_doc x.0 y.1 =
      ap (λ (t : Message). t.1) (head_of h) ∙ ap (λ qs. skeleton_doc qs y.1) (sym q) in
      let counts = k ∙ ap (λ qs. numbered other (ids_of qs y.1 ++ ids_of_all ns)) (sym q) in
      let f = first_sound x ms s in
      same_cons _ _ _ _
      (same_message x.0 y.0 _ _ q
      ((equal_named_docs read twice equal x.0 number other x.1 y.1 f n m).1 (
        shape,
        split_front read twice equal number other n m x.0 x.1 y.1 (ids_of_all ms)
            (ids_of_all ns) f shape counts,
      )
      ∙ ap (λ qs. named_doc qs other y.1) q))
      (equal_each number other n m ms ns (others_sound x ms s) (tail_of h)
      (split_rest read twice equal number other n m x.0 x.1 y.1 (ids_of_all ms) (ids_of_all ns) f
      shape counts))

  same_skeletons : (number other : Numbering) → IsNumbering number → IsNumbering other
      → (ms ns : List Message) → all_sound ms ≡ true → all_sound ns ≡ true
      → named_each number ms ≡ named_each other ns → skeletons ms ≡ skeletons ns
  same_skeletons number other n m ms ns s t h =
      sym (named_each_twice number (λ label v. 1) n ms s)
      ∙ (ap (named_each (λ label v. 1)) h ∙ named_each_twice other (λ label v. 1) m ns t)

  same_numbers : (number other : Numbering) → IsNumbering number → IsNumbering other
      → (ms ns : List Message) → all_sound ms ≡ true → all_sound ns ≡ true
      → named_each number ms ≡ named_each other ns
      → numbered number (ids_of_all ms) ≡ numbered other (ids_of_all ns)
  same_numbers number other n m ms ns s t h =
      numbers_from_names number other (ids_of_all ms) (ids_of_all ns) n m
      (sym (ids_of_named number n ms s) ∙ (ap ids_of_all h ∙ ids_of_named other m ns t))

  pub equal_named_lists : EqualNamedLists
  equal_named_lists ms ns s t f g =
      let is = ids_of_all ms in
      let js = ids_of_all ns in
      let n = number-is_numbering is f in
      let m = number-is_numbering js g in (
        λ h. (
          same_skeletons (number is) (number js) n m ms ns s t h,
          (equal_numbers is js).0 (same_numbers (number is) (number js) n m ms ns s t h),
        ),
        λ h. equal_each (number is) (number js) n m ms ns s h.0 ((equal_numbers is js).1 h.1),
      )

  -- ---- naming a named list

  pub named_list_stays : NamedListStays
  named_list_stays ms s f =
      let is = ids_of_all ms in
      let n = number-is_numbering is f in
      let m = number-is_numbering (renumbered is) (numbers-are_countable is f) in
      let both = followed (number is) (number (renumbered is)) in
      let b : IsNumbering both = λ label v. m label (decimal (number is label v)) in
      ap (λ js. named_each (number js) (named_all ms)) (ids_of_named (number is) n ms s)
      ∙ (named_each_twice (number is) (number (renumbered is)) n ms s
      ∙ each_agrees both (number is) ms
      (sym (numbered-named_by (number is) (number (renumbered is)) is) ∙ numbers_are_fresh is f))
