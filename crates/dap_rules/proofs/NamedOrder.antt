-- The order of messages does not depend on declared ids.
use Rattle.std.proofs.Common.{◌≡◌, ◌⊎◌, inl, inr, ℕ, ℤ, pos, Bool, true, cond, List, []}
use Rattle.std.proofs.Common.{◌∷◌, ◌++◌, map, Option, Some, None, option_map, codes, refl, ap, ap₂}
use Rattle.std.proofs.Common.{sym, ◌∙◌, subst}
use Rattle.std.specs.Prelude.{⊤}
use Rattle.std.specs.List.{AllZip}
use Rattle.std.specs.Option.{unwrap_or}
use Rattle.std.proofs.lemmas.Slice.Eq.{bytes_eq-Decides}
use Rattle.dap_tree.specs.Doc.{Doc, null, boolean, whole, text, list, object, id, get}
use Rattle.dap_tree.specs.declared.side.Side.{Side}
use Rattle.dap_tree.specs.declared.side.Side.TheVariants.{Client}
use Rattle.dap_tree.specs.declared.sort.Sort.{Sort}
use Rattle.dap_profile.specs.declared.profile.Kind.{Kind}
use Rattle.dap_profile.specs.declared.profile.Kind.TheVariants.{Request, Response, Event}
use Rattle.dap_message.specs.Envelope as envelope
use Rattle.dap_message.specs.{Message.Sent, SwapRules.SwapRule}
use Rattle.dap_message.specs.Rows.{is_of_kind, is_text, name_key}
use Rattle.dap_tokens.specs.Naming.{Numbering}
use Rattle.dap_mask.specs.Rules.{is_telling}
use Rattle.dap_mask.specs.Declarations.{Declaration, are_declared}
use Rattle.dap_naming.specs.Documents.{Declared, below, named_doc}
use Rattle.dap_naming.specs.Sessions.{rules_for, name_sent}
use Rattle.dap_naming.proofs.SessionsPlaces.{get-named, kind_alike, named_reads}
use Rattle.dap_session.specs.Messages.{side_of, kind_of, name_of, seq_of, request_seq_of}
use Rattle.dap_session.specs.Messages.{success_of, other}
use Rattle.dap_session.specs.RenamedLists.{IsOneToOne, seq_sort}
use Rattle.dap_session.proofs.RenamedMessages.{NumbersTied, Alike}
use Rattle.dap_session.proofs.RenamingKeepsRules.{and_same, request_same, from_same}
use Rattle.dap_session.proofs.RenamingKeepsRules.{response_to_both}
use Rattle.dap_order.specs.Alike.{EachAfter}
use Rattle.dap_order.specs.AlikeAnswers.{HaveAlikeClasses, IsPlainOrAnswer}
use Rattle.dap_order.specs.Free.{Class, class_of, free, less_class, same_class}
use Rattle.dap_order.specs.MessageOrder.{message_answers, ordered}
use Rattle.dap_order.proofs.AlikeAnswers.{order_of_answers_alike}
use Rattle.dap_order.proofs.RenamedOrder.{free_alike}
use Rattle.dap_rename.proofs.Lists.{same_cons}
use Rattle.dap_rules.specs.NamedSessions.{OrderOfNamed}

-- ---- the values that the order and the session rules read

abbrev pub Values : Type 0
Values = Side × Kind × List ℕ × ℤ × Option ℤ × Option Bool

abbrev pub values_of : Sent → Values
values_of m = (side_of m, kind_of m, name_of m, seq_of m, request_seq_of m, success_of m)

-- equal strings
shown : (o : Option Doc) → (envelope.text_value o ≡ None)
    ⊎ ((s : List ℕ) × (envelope.text_value o ≡ Some s) × (is_text s o ≡ true))
shown None = inl refl
shown (Some null) = inl refl
shown (Some (boolean b)) = inl refl
shown (Some (whole z)) = inl refl
shown (Some (text s)) = inr (s, refl, (bytes_eq-Decides s s).1 refl)
shown (Some (list ds)) = inl refl
shown (Some (object ms)) = inl refl
shown (Some (id s z)) = inl refl

is_shown : (s : List ℕ) (o : Option Doc) → is_text s o ≡ true → envelope.text_value o ≡ Some s
is_shown s (Some (text t)) h = ap Some (sym ((bytes_eq-Decides s t).0 h))
is_shown s o h = absurd cc

text_alike : (a b : Option Doc) → ((s : List ℕ) → is_text s a ≡ is_text s b)
    → envelope.text_value a ≡ envelope.text_value b
text_alike a b same = elim (shown a) [
  | inr w ↦ w.1 ∙ sym (is_shown w.0 b (sym (same w.0) ∙ w.2))
  | inl none ↦ elim (shown b) [
    | inl also ↦ none ∙ sym also
    | inr w ↦ is_shown w.0 a (same w.0 ∙ w.2) ∙ sym w.1
  ]
]

number-named : (rs : List Declared) (f : Numbering) (o : Option Doc)
    → envelope.id_number (option_map (named_doc rs f) o) ≡ envelope.id_number o
number-named rs f None = refl
number-named rs f (Some null) = refl
number-named rs f (Some (boolean b)) = refl
number-named rs f (Some (whole z)) = refl
number-named rs f (Some (text s)) = refl
number-named rs f (Some (list ds)) = refl
number-named rs f (Some (object ms)) = refl
number-named rs f (Some (id s z)) = refl

boolean-named : (rs : List Declared) (f : Numbering) (o : Option Doc)
    → envelope.boolean_value (option_map (named_doc rs f) o) ≡ envelope.boolean_value o
boolean-named rs f None = refl
boolean-named rs f (Some null) = refl
boolean-named rs f (Some (boolean b)) = refl
boolean-named rs f (Some (whole z)) = refl
boolean-named rs f (Some (text s)) = refl
boolean-named rs f (Some (list ds)) = refl
boolean-named rs f (Some (object ms)) = refl
boolean-named rs f (Some (id s z)) = refl

number_at-named : (rs : List Declared) (f : Numbering) (k : List ℕ) (d : Doc)
    → envelope.id_number (get k (named_doc rs f d)) ≡ envelope.id_number (get k d)
number_at-named rs f k d =
    ap envelope.id_number (get-named rs f k d) ∙ number-named (below k rs) f (get k d)

telling_name : (k : Kind) → is_telling (name_key k) ≡ true
telling_name Request = refl
telling_name Response = refl
telling_name Event = refl

module _ (xs : List Declaration) (f : Numbering) (d : Doc) (h : are_declared xs ≡ true) where
  abbrev Named : Doc
  Named = named_doc (rules_for xs d) f d

  of_kind-named : (k : Kind) → is_of_kind k Named ≡ is_of_kind k d
  of_kind-named k = kind_alike Named d (named_reads xs f d h) k

  kind-named : envelope.kind_of Named ≡ envelope.kind_of d
  kind-named =
      ap₂ (λ a b. cond a Request (cond b Response Event)) (of_kind-named Request)
      (of_kind-named Response)

  name-named : envelope.name_of Named ≡ envelope.name_of d
  name-named =
      ap (λ k. envelope.text_value (get (name_key k) Named)) kind-named
      ∙ text_alike (get (name_key (envelope.kind_of d)) Named)
      (get (name_key (envelope.kind_of d)) d)
      (λ s. (named_reads xs f d h).text s (name_key (envelope.kind_of d))
      (telling_name (envelope.kind_of d)))

  request_seq-named : envelope.request_seq_of Named ≡ envelope.request_seq_of d
  request_seq-named =
      ap₂ (λ b o. cond b o None) (of_kind-named Response)
      (number_at-named (rules_for xs d) f (codes "request_seq") d)

  success-named : envelope.success_of Named ≡ envelope.success_of d
  success-named =
      ap₂ (λ b o. cond b o None) (of_kind-named Response)
      (ap envelope.boolean_value (get-named (rules_for xs d) f (codes "success") d)
      ∙ boolean-named (below (codes "success") (rules_for xs d)) f (get (codes "success") d))

same_values : (s : Side) (k l : Kind) (v w : List ℕ) (x y : ℤ) (o p : Option ℤ) (a b : Option Bool)
    → k ≡ l → v ≡ w → x ≡ y → o ≡ p → a ≡ b
    → ◌≡◌ {A = Values} (s, k, v, x, o, a) (s, l, w, y, p, b)
same_values s k l v w x y o p a b e f g h i = rw (e, f, g, h, i) refl

-- a named message has these values of the message
pub values-named : (xs : List Declaration) (f : Numbering) (m : Sent) → are_declared xs ≡ true
    → values_of (name_sent xs f m) ≡ values_of m
unfolding side_of kind_of name_of seq_of request_seq_of success_of
values-named xs f m h =
    same_values m.side _ _ _ _ _ _ _ _ _ _
    (kind-named xs f m.doc h)
    (ap (λ o. unwrap_or o []) (name-named xs f m.doc h))
    (ap (λ o. unwrap_or o (pos 0)) (number_at-named (rules_for xs m.doc) f (codes "seq") m.doc))
    (request_seq-named xs f m.doc h)
    (success-named xs f m.doc h)

-- ---- messages with equal values

abbrev Equal : Sort → ℤ → ℤ → Type 0
Equal s x y = x ≡ y

one_to_one : IsOneToOne Equal
one_to_one side x y u v h k = ((λ e. sym h ∙ (e ∙ k)), (λ e. h ∙ (e ∙ sym k)))

tied : (s : Sort) (o : Option ℤ) → NumbersTied Equal s o o
tied s None = tt
tied s (Some x) = refl

alike : (m n : Sent) → values_of m ≡ values_of n → Alike Equal m n
alike m n h = record {
  side = ap (λ (v : Values). v.0) h;
  kind = ap (λ (v : Values). v.1) h;
  name = ap (λ (v : Values). v.2) h;
  success = ap (λ (v : Values). v.5) h;
  seq = ap (λ (v : Values). v.3) h;
  request_seq = subst (λ o. NumbersTied Equal (seq_sort (other (side_of m))) (request_seq_of m) o)
      (ap (λ (v : Values). v.4) h) (tied (seq_sort (other (side_of m))) (request_seq_of m));
}

class_alike : (m n : Sent) → values_of m ≡ values_of n → class_of m ≡ class_of n
class_alike m n h =
    let a = alike m n h in
    rw (a.side, a.kind, a.name, ap (λ (v : Values). v.4) h) refl

pub free_values : (rules : List SwapRule) (x y u v : Sent) → values_of x ≡ values_of u
    → values_of y ≡ values_of v → free rules x y ≡ free rules u v
free_values rules x y u v h k =
    free_alike Equal one_to_one rules x y u v (alike x u h) (alike y v k)

module _ (Like : Sent → Sent → Type 0)
    (values : (x u : Sent) → Like x u → values_of x ≡ values_of u) where
  have : (rules : List SwapRule)
      → HaveAlikeClasses (message_answers rules) (message_answers rules) Like (λ a c. a ≡ c)
      (λ a c. a ≡ c) (λ m. ⊤)
  have rules = record {
    same_free = λ x y u v s t. free_values rules x y u v (values x u s) (values y v t);
    same_answered_by = λ x y u v s t.
        let a = alike x u (values x u s) in
        let b = alike y v (values y v t) in
        and_same _ _ _ _ (from_same Equal one_to_one Client x u a)
        (and_same _ _ _ _ (request_same Equal one_to_one x u a)
        (response_to_both Equal one_to_one (side_of x) (side_of u) (seq_of x) (seq_of u) y v
        a.side a.seq b));
    class = λ x u s. class_alike x u (values x u s);
    same_same = λ a b c d e f.
        ap (λ (k : Class). same_class k b) e ∙ ap (λ (k : Class). same_class c k) f;
    same_less = λ a b c d e f.
        ap (λ (k : Class). less_class k b) e ∙ ap (λ (k : Class). less_class c k) f;
    answered_in_order = λ x y u s h. class_alike x u (values x u s);
    plain_in_order = λ x u s h. class_alike x u (values x u s);
  }

  all_plain : (rules : List SwapRule) (before ms : List Sent)
      → EachAfter (IsPlainOrAnswer (message_answers rules) (λ m. ⊤)) before ms
  all_plain rules before [] = tt
  all_plain rules before (m ∷ ms) = (inl tt, all_plain rules (before ++ m ∷ []) ms)

  -- lists that are alike message by message have orders that are
  pub ordered_alike : (rules : List SwapRule) (ms ns : List Sent) → AllZip Like ms ns
      → AllZip Like (ordered rules ms) (ordered rules ns)
  unfolding ordered
  ordered_alike rules ms ns all =
      order_of_answers_alike (message_answers rules) (message_answers rules) Like (λ a c. a ≡ c)
      (λ a c. a ≡ c) (λ m. ⊤) (have rules) ms ns all (all_plain rules [] ms)

-- ---- named messages

zip_map : (f : Sent → Sent) (ms : List Sent) → AllZip (λ m n. f m ≡ n) ms (map f ms)
zip_map f [] = tt
zip_map f (m ∷ ms) = (refl, zip_map f ms)

pub map_zip : (f : Sent → Sent) (ms ns : List Sent) → AllZip (λ m n. f m ≡ n) ms ns → map f ms ≡ ns
map_zip f [] [] all = refl
map_zip f [] (n ∷ ns) all = absurd all
map_zip f (m ∷ ms) [] all = absurd all
map_zip f (m ∷ ms) (n ∷ ns) all = same_cons _ _ _ _ all.0 (map_zip f ms ns all.1)

pub order_of_named : OrderOfNamed
order_of_named rules xs f ms h =
    sym (map_zip (name_sent xs f) (ordered rules ms) (ordered rules (map (name_sent xs f) ms))
    (ordered_alike (λ m n. name_sent xs f m ≡ n)
    (λ m n e. sym (values-named xs f m h) ∙ ap values_of e) rules ms (map (name_sent xs f) ms)
    (zip_map (name_sent xs f) ms)))
