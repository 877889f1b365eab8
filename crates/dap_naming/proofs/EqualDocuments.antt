-- Two documents have the same named document if and only if they are the same except for their ids,
-- and their ids have equal numbers.
use Rattle.std.proofs.Common.{◌≡◌, ℕ, ℤ, true, List, [], ◌∷◌, ◌++◌, length, refl, ap, ap₂, sym, ◌∙◌}
use Rattle.std.proofs.Common.{arith}
use Rattle.std.proofs.lemmas.Fmt.{decimal_injective}
use Rattle.std.proofs.lemmas.List.{length-map}
use Rattle.dap_tree.specs.Doc.{Doc, null, boolean, whole, text, list, object, id, Items, no_items}
use Rattle.dap_tree.specs.Doc.{item, Members, no_members, member}
use Rattle.dap_tokens.specs.Naming.{Id, IsNumbering, Numbering, named_by, numbered}
use Rattle.dap_tokens.specs.Laws.{NamesAreRead, NamedTwice, EqualNamed}
use Rattle.dap_tokens.specs.declared.form.Form.TheVariants.{Whole}
use Rattle.dap_naming.specs.Documents.{Declared, here, below, inside, ids_of}
use Rattle.dap_naming.specs.Documents.{items_ids, members_ids, named_doc, named_items}
use Rattle.dap_naming.specs.Documents.{named_members, skeleton_doc, are_sound}
use Rattle.dap_naming.specs.Laws.{EqualNamedDocs}
use Rattle.dap_naming.proofs.Lists.{head_of, tail_of, front_of, rest_of}
use Rattle.dap_naming.proofs.SoundRules.{sound-below, sound-inside, label-here, inside-named}
use Rattle.dap_naming.proofs.Agreement.{numbered-append}
use Rattle.dap_naming.proofs.Values.{whole_equal}
use Rattle.dap_naming.proofs.NamedDocuments.{names_of_doc_are_read, named_doc_twice}

pub one_is_numbering : IsNumbering (λ label v. 1)
one_is_numbering label v = (omega arith, omega arith)

-- ---- lists of numbers

same_numbered : (l m : List ℕ) (j k : ℕ) (js ks : List (List ℕ × ℕ)) → l ≡ m → j ≡ k → js ≡ ks
    → ◌≡◌ {A = List (List ℕ × ℕ)} ((l, j) ∷ js) ((m, k) ∷ ks)
same_numbered l m j k js ks e f g = rw (e, f, g) refl

-- equal decimal digits are equal numbers
pub numbers_from_names : (number other : Numbering) (is js : List Id) → IsNumbering number
    → IsNumbering other → named_by number is ≡ named_by other js
    → numbered number is ≡ numbered other js
numbers_from_names number other [] [] n m e = refl
numbers_from_names number other [] (j ∷ js) n m e = absurd cc
numbers_from_names number other (i ∷ is) [] n m e = absurd cc
numbers_from_names number other (i ∷ is) (j ∷ js) n m e =
    let h = head_of e in
    same_numbered i.0 j.0 _ _ _ _ (ap (λ (k : Id). k.0) h)
    (decimal_injective (number i.0 i.1) (other j.0 j.1) (n i.0 i.1).1 (m j.0 j.1).1
    (ap (λ (k : Id). k.1) h))
    (numbers_from_names number other is js n m (tail_of e))

-- ---- parts of equal documents

items_head : (d e : Doc) (ds es : Items) → ◌≡◌ {A = Items} (item d ds) (item e es) → d ≡ e
items_head d e ds es h = cc

items_tail : (d e : Doc) (ds es : Items) → ◌≡◌ {A = Items} (item d ds) (item e es) → ds ≡ es
items_tail d e ds es h = cc

member_name : (k l : List ℕ) (d e : Doc) (ms ns : Members)
    → ◌≡◌ {A = Members} (member k d ms) (member l e ns) → k ≡ l
member_name k l d e ms ns h = cc

member_value : (k l : List ℕ) (d e : Doc) (ms ns : Members)
    → ◌≡◌ {A = Members} (member k d ms) (member l e ns) → d ≡ e
member_value k l d e ms ns h = cc

members_tail : (k l : List ℕ) (d e : Doc) (ms ns : Members)
    → ◌≡◌ {A = Members} (member k d ms) (member l e ns) → ms ≡ ns
members_tail k l d e ms ns h = cc

same_member : (k l : List ℕ) (d e : Doc) (ms ns : Members) → k ≡ l → d ≡ e → ms ≡ ns
    → member k d ms ≡ member l e ns
same_member k l d e ms ns p q r = rw (p, q, r) refl

whole_of : (z y : ℤ) → whole z ≡ whole y → z ≡ y
whole_of z y h = cc

text_of : (s t : List ℕ) → text s ≡ text t → s ≡ t
text_of s t h = cc

list_of : (ds es : Items) → list ds ≡ list es → ds ≡ es
list_of ds es h = cc

object_of : (ms ns : Members) → object ms ≡ object ns → ms ≡ ns
object_of ms ns h = cc

module _ (read : NamesAreRead) (twice : NamedTwice) (equal : EqualNamed) where
  -- ---- the same skeleton

  -- as many ids
  same_count : (rs : List Declared) (number other : Numbering) (d e : Doc) → are_sound rs ≡ true
      → skeleton_doc rs d ≡ skeleton_doc rs e
      → length (numbered number (ids_of rs d)) ≡ length (numbered other (ids_of rs e))
  same_count rs number other d e s h =
      let f = names_of_doc_are_read read twice equal rs (λ label v. 1) d s one_is_numbering in
      let g = names_of_doc_are_read read twice equal rs (λ label v. 1) e s one_is_numbering in
      length-map (ids_of rs d) _
      ∙ (sym (length-map (ids_of rs d) _)
      ∙ (ap length (sym f ∙ (ap (ids_of rs) h ∙ g))
      ∙ (length-map (ids_of rs e) _ ∙ sym (length-map (ids_of rs e) _))))

  -- the same rules for an element
  same_rules : (rs : List Declared) (number other : Numbering) (d e : Doc) → are_sound rs ≡ true
      → named_doc (inside d rs) number d ≡ named_doc (inside e rs) other e
      → inside d rs ≡ inside e rs
  same_rules rs number other d e s h =
      sym (inside-named rs number d s)
      ∙ (ap (λ x. inside x rs) h ∙ inside-named rs other e s)

  module _ (number other : Numbering) (n : IsNumbering number) (m : IsNumbering other) where
    pub split_front : (rs : List Declared) (d e : Doc) (is js : List Id) → are_sound rs ≡ true
        → skeleton_doc rs d ≡ skeleton_doc rs e
        → numbered number (ids_of rs d ++ is) ≡ numbered other (ids_of rs e ++ js)
        → numbered number (ids_of rs d) ≡ numbered other (ids_of rs e)
    split_front rs d e is js s h k =
        front_of _ (numbered number is) _ (numbered other js) (same_count rs number other d e s h)
        (sym (numbered-append number (ids_of rs d) is)
        ∙ (k ∙ numbered-append other (ids_of rs e) js))

    pub split_rest : (rs : List Declared) (d e : Doc) (is js : List Id) → are_sound rs ≡ true
        → skeleton_doc rs d ≡ skeleton_doc rs e
        → numbered number (ids_of rs d ++ is) ≡ numbered other (ids_of rs e ++ js)
        → numbered number is ≡ numbered other js
    split_rest rs d e is js s h k =
        rest_of (numbered number (ids_of rs d)) _ (numbered other (ids_of rs e)) _
        (same_count rs number other d e s h)
        (sym (numbered-append number (ids_of rs d) is)
        ∙ (k ∙ numbered-append other (ids_of rs e) js))

    mutual
      doc_equal : (rs : List Declared) (d e : Doc) → are_sound rs ≡ true
          → skeleton_doc rs d ≡ skeleton_doc rs e
          → numbered number (ids_of rs d) ≡ numbered other (ids_of rs e)
          → named_doc rs number d ≡ named_doc rs other e
      doc_equal rs null null s h k = refl
      doc_equal rs null e s h k = absurd cc
      doc_equal rs (boolean b) (boolean c) s h k = h
      doc_equal rs (boolean b) e s h k = absurd cc
      doc_equal rs (whole z) (whole y) s h k =
          ap whole (whole_equal (here rs Whole) number other z y (whole_of _ _ h) k)
      doc_equal rs (whole z) e s h k = absurd cc
      doc_equal rs (text t) (text u) s h k =
          ap text ((equal (here rs) number other t u (label-here rs s) n m).1 (text_of _ _ h, k))
      doc_equal rs (text t) e s h k = absurd cc
      doc_equal rs (list ds) (list es) s h k =
          ap list (items_equal rs ds es s (list_of _ _ h) k)
      doc_equal rs (list ds) e s h k = absurd cc
      doc_equal rs (object ms) (object ns) s h k =
          ap object (members_equal rs ms ns s (object_of _ _ h) k)
      doc_equal rs (object ms) e s h k = absurd cc
      doc_equal rs (id sort z) (id kind y) s h k = h
      doc_equal rs (id sort z) e s h k = absurd cc

      items_equal : (rs : List Declared) (ds es : Items) → are_sound rs ≡ true
          → named_items rs (λ label v. 1) ds ≡ named_items rs (λ label v. 1) es
          → numbered number (items_ids rs ds) ≡ numbered other (items_ids rs es)
          → named_items rs number ds ≡ named_items rs other es
      items_equal rs no_items no_items s h k = refl
      items_equal rs no_items (item e es) s h k = absurd cc
      items_equal rs (item d ds) no_items s h k = absurd cc
      items_equal rs (item d ds) (item e es) s h k =
          let a = items_head _ _ _ _ h in
          let q = same_rules rs (λ label v. 1) (λ label v. 1) d e s a in
          let shape : skeleton_doc (inside d rs) d ≡ skeleton_doc (inside d rs) e =
          a ∙ ap (λ qs. skeleton_doc qs e) (sym q) in
          let counts = k ∙ ap (λ qs. numbered other (ids_of qs e ++ items_ids rs es)) (sym q) in
          let sd = sound-inside d rs s in
          ap₂ item
          (doc_equal (inside d rs) d e sd shape
          (split_front (inside d rs) d e (items_ids rs ds) (items_ids rs es) sd shape counts)
          ∙ ap (λ qs. named_doc qs other e) q)
          (items_equal rs ds es s (items_tail _ _ _ _ h)
          (split_rest (inside d rs) d e (items_ids rs ds) (items_ids rs es) sd shape counts))

      members_equal : (rs : List Declared) (ms ns : Members) → are_sound rs ≡ true
          → named_members rs (λ label v. 1) ms ≡ named_members rs (λ label v. 1) ns
          → numbered number (members_ids rs ms) ≡ numbered other (members_ids rs ns)
          → named_members rs number ms ≡ named_members rs other ns
      members_equal rs no_members no_members s h k = refl
      members_equal rs no_members (member l e ns) s h k = absurd cc
      members_equal rs (member l d ms) no_members s h k = absurd cc
      members_equal rs (member l d ms) (member j e ns) s h k =
          let q : below l rs ≡ below j rs = ap (λ x. below x rs) (member_name _ _ _ _ _ _ h) in
          let shape : skeleton_doc (below l rs) d ≡ skeleton_doc (below l rs) e =
          member_value _ _ _ _ _ _ h ∙ ap (λ qs. skeleton_doc qs e) (sym q) in
          let counts = k ∙ ap (λ qs. numbered other (ids_of qs e ++ members_ids rs ns)) (sym q) in
          let sd = sound-below l rs s in
          same_member l j _ _ _ _ (member_name _ _ _ _ _ _ h)
          (doc_equal (below l rs) d e sd shape
          (split_front (below l rs) d e (members_ids rs ms) (members_ids rs ns) sd shape counts)
          ∙ ap (λ qs. named_doc qs other e) q)
          (members_equal rs ms ns s (members_tail _ _ _ _ _ _ h)
          (split_rest (below l rs) d e (members_ids rs ms) (members_ids rs ns) sd shape counts))

  -- ---- the same named document

  same_skeleton : (rs : List Declared) (number other : Numbering) (d e : Doc)
      → are_sound rs ≡ true → IsNumbering number → IsNumbering other
      → named_doc rs number d ≡ named_doc rs other e → skeleton_doc rs d ≡ skeleton_doc rs e
  same_skeleton rs number other d e s n m h =
      sym (named_doc_twice read twice equal rs number (λ label v. 1) d s n)
      ∙ (ap (named_doc rs (λ label v. 1)) h
      ∙ named_doc_twice read twice equal rs other (λ label v. 1) e s m)

  same_numbers : (rs : List Declared) (number other : Numbering) (d e : Doc)
      → are_sound rs ≡ true → IsNumbering number → IsNumbering other
      → named_doc rs number d ≡ named_doc rs other e
      → numbered number (ids_of rs d) ≡ numbered other (ids_of rs e)
  same_numbers rs number other d e s n m h =
      numbers_from_names number other (ids_of rs d) (ids_of rs e) n m
      (sym (names_of_doc_are_read read twice equal rs number d s n)
      ∙ (ap (ids_of rs) h ∙ names_of_doc_are_read read twice equal rs other e s m))

  pub equal_named_docs : EqualNamedDocs
  equal_named_docs rs number other d e s n m = (
    λ h. (same_skeleton rs number other d e s n m h, same_numbers rs number other d e s n m h),
    λ h. doc_equal number other n m rs d e s h.0 h.1,
  )
