-- A message lacks declared ids if no declaration finds a token in its content.
use Rattle.std.proofs.Common.{◌≡◌, ℕ, ◌+◌, ◌==◌, inl, inr, Bool, true, false, ◌&&◌}
use Rattle.std.proofs.Common.{List, [], ◌∷◌, ◌++◌, length, take, drop, Option, Some, None, refl}
use Rattle.std.proofs.Common.{sym, ap, ap₂, subst, ◌∙◌, codes, bytes_eq, take-append-drop}
use Rattle.std.specs.List.{AllByRecursion}
use Rattle.std.specs.Char.{is_ascii_hexdigit}
use Rattle.std.proofs.lemmas.Bool.{eqb-true}
use Rattle.std.proofs.lemmas.Slice.Eq.{bytes_eq-Decides}
use Rattle.json.specs.Print.{quoted}
use Rattle.serde_json.specs.Written.{items_text, members_text, comma_if}
use Rattle.dap_tree.specs.Doc.{Doc, null, boolean, whole, text, list, object, id, Items, no_items}
use Rattle.dap_tree.specs.{Doc.{item, Members, no_members, member}, Json.{items_data}}
use Rattle.dap_tree.specs.Json.{members_data, text_of}
use Rattle.dap_tokens.specs.{Models.{same_form}, Naming.{ids, ids_of_parts}}
use Rattle.dap_tokens.specs.Tokens.{Labels, is_label, name, name_length, number_in, tried}
use Rattle.dap_tokens.specs.Tokens.{token_length, parts_from, starts_hex, is_numeral, whole_or}
use Rattle.dap_tokens.specs.declared.form.Form.{Form}
use Rattle.dap_tokens.specs.declared.form.Form.TheVariants.{Whole, Digits, Hex, Long, Uuid}
use Rattle.dap_tokens.proofs.FirstTokens.{AllSkipped, none, more}
use Rattle.dap_tokens.proofs.Readings.{of_byte}
use Rattle.dap_tokens.proofs.Starts.{all_forms, nothing_at}
use Rattle.dap_mask.specs.Declarations.{Declaration, are_declared, is_own_label, declaration_of}
use Rattle.dap_mask.specs.{Declarations.declarations_of, Rules.rule_applies}
use Rattle.dap_mask.specs.declared.declarations.Declaration.{Declaration as ReadDeclaration}
use Rattle.dap_naming.specs.Absence.{Occurs, Lacks, LacksTokens, FindsNothing}
use Rattle.dap_naming.specs.Documents.{Declared, below, here, inside, is_here}
use Rattle.dap_naming.specs.Documents.{is_to_member, is_to_element, ids_of, items_ids, members_ids}
use Rattle.dap_naming.specs.Documents.{ids_of_whole}
use Rattle.dap_naming.specs.Sessions.{rules_for}
use Rattle.dap_naming.proofs.Lists.{by_bool, first_of_both, second_of_both}
use Rattle.dap_naming.proofs.Occurring.{ArePlain, occurs_left, occurs_right, occurs_later}
use Rattle.dap_naming.proofs.Occurring.{occurs_quoted, plain_label, plain_small, plain_large}

-- ---- strings

at_start : (p xs : List ℕ) → Occurs p (p ++ xs)
at_start p xs = record { before = []; after = xs; are = refl }

no_name : (l s : List ℕ) → Lacks l s → name_length l s ≡ 0
no_name l s lacks =
    by_bool (is_numeral (number_in l s) && bytes_eq (take (length whole_name) s) whole_name)
    (λ is. absurd (lacks (found (second_of_both _ _ is)))) (λ is. rw is refl)
  where
    whole_name : List ℕ
    whole_name = name l (number_in l s)

    in_name : Occurs l whole_name
    in_name = occurs_later l _ 60
        (occurs_left l ((l ++ 32 ∷ []) ++ number_in l s) (62 ∷ [])
        (occurs_left l (l ++ 32 ∷ []) (number_in l s) (at_start l (32 ∷ []))))

    found : bytes_eq (take (length whole_name) s) whole_name ≡ true → Occurs l s
    found same =
        let are : take (length whole_name) s ≡ whole_name =
        (bytes_eq-Decides _ whole_name).0 same in
        subst (Occurs l) (take-append-drop (length whole_name) s)
        (occurs_left l (take (length whole_name) s) (drop (length whole_name) s)
        (subst (Occurs l) (sym are) in_name))

no_hex : (s : List ℕ) → Lacks (codes "0x") s → Lacks (codes "0X") s → starts_hex s ≡ false
no_hex [] small large = refl
no_hex (b ∷ []) small large = by_bool (b == 48) (λ is. rw is refl) (λ is. rw is refl)
no_hex (b ∷ x ∷ []) small large = by_bool (b == 48) (λ is. rw is refl) (λ is. rw is refl)
no_hex (b ∷ x ∷ h ∷ s) small large = by_bool (b == 48) zero_first (λ is. rw is refl)
  where
    starts : (c : ℕ) → b ≡ 48 → x ≡ c → Occurs (48 ∷ c ∷ []) (b ∷ x ∷ h ∷ s)
    starts c is_zero is_x = record {
      before = [];
      after = h ∷ s;
      are = ap₂ (λ y z. y ∷ z ∷ h ∷ s) is_zero is_x;
    }

    zero_first : (b == 48) ≡ true → starts_hex (b ∷ x ∷ h ∷ s) ≡ false
    zero_first is =
        by_bool (x == 120) (λ e. absurd (small (starts 120 (eqb-true b 48 is) (eqb-true x 120 e))))
        (λ other. by_bool (x == 88)
        (λ e. absurd (large (starts 88 (eqb-true b 48 is) (eqb-true x 88 e))))
        (λ e. rw (is, other, e) refl))

-- what no form has is skipped
none_of_all : (labels : Labels) (count : Form → List ℕ → ℕ) (forms : List Form)
    → ((form : Form) (label : List ℕ) → labels form ≡ Some label → count form label ≡ 0)
    → AllSkipped labels count forms
none_of_all labels count [] h = none
none_of_all labels count (form ∷ forms) h =
    more (λ label e. h form label e) (none_of_all labels count forms h)

-- no form that has a label has a token in the list
abbrev Absent : Labels → List ℕ → Type 0
Absent labels s =
    (form : Form) (label : List ℕ) → labels form ≡ Some label → LacksTokens form label s

later_lacks : (form : Form) (label : List ℕ) (b : ℕ) (s : List ℕ)
    → LacksTokens form label (b ∷ s) → LacksTokens form label s
later_lacks Hex label b s lacks = (
  λ o. lacks.0 (occurs_later (codes "0x") s b o),
  λ o. lacks.1 (occurs_later (codes "0X") s b o),
  λ o. lacks.2 (occurs_later label s b o),
)
later_lacks Whole label b s lacks = lacks
later_lacks Digits label b s lacks = lacks
later_lacks Long label b s lacks = lacks
later_lacks Uuid label b s lacks = lacks

none_named : (form : Form) (label s : List ℕ) → LacksTokens form label s → name_length label s ≡ 0
none_named Hex label s lacks = no_name label s lacks.2
none_named Whole label s lacks = absurd lacks
none_named Digits label s lacks = absurd lacks
none_named Long label s lacks = absurd lacks
none_named Uuid label s lacks = absurd lacks

none_found : (form : Form) (label : List ℕ) (d : Bool) (s : List ℕ) → LacksTokens form label s
    → token_length form d s ≡ 0
none_found Hex label true s lacks = refl
none_found Hex label false s lacks = rw (no_hex s lacks.0 lacks.1) refl
none_found Whole label d s lacks = absurd lacks
none_found Digits label d s lacks = absurd lacks
none_found Long label d s lacks = absurd lacks
none_found Uuid label d s lacks = absurd lacks

no_ids_in : (labels : Labels) (d : Bool) (s : List ℕ) → Absent labels s
    → ids_of_parts (parts_from labels 0 d s) ≡ []
no_ids_in labels d [] absent = refl
no_ids_in labels d (b ∷ s) absent =
    ap ids_of_parts (of_byte labels d b s (nothing_at labels d (b ∷ s)
    (none_of_all labels (λ form label. name_length label (b ∷ s)) all_forms
    (λ form label e. none_named form label (b ∷ s) (absent form label e)))
    (none_of_all labels (λ form label. token_length form d (b ∷ s)) (tried labels)
    (λ form label e. none_found form label d (b ∷ s) (absent form label e)))))
    ∙ no_ids_in labels (is_ascii_hexdigit b) s
    (λ form label e. later_lacks form label b s (absent form label e))

no_whole : (o : Option (List ℕ)) (s : List ℕ)
    → ((label : List ℕ) → o ≡ Some label → LacksTokens Whole label s) → o ≡ None
no_whole None s lacks = refl
no_whole (Some label) s lacks = absurd (lacks label refl)

no_ids_of_text : (labels : Labels) (s : List ℕ) → Absent labels s → ids labels s ≡ []
no_ids_of_text labels s absent =
    ap (λ o. ids_of_parts (whole_or o s (parts_from labels 0 false s)))
    (no_whole (labels Whole) s (absent Whole))
    ∙ no_ids_in labels false s absent

form_is : (f g : Form) → same_form f g ≡ true → f ≡ g
form_is Whole Whole h = refl
form_is Digits Digits h = refl
form_is Hex Hex h = refl
form_is Long Long h = refl
form_is Uuid Uuid h = refl
form_is _ _ h = absurd cc

-- ---- documents whose text is in the content

module _ (content : List ℕ) where
  -- What occurs in the list occurs in the content.
  abbrev IsIn : List ℕ → Type 0
  IsIn xs = (p : List ℕ) → Occurs p xs → Occurs p content

  abbrev Quiet : Declared → Type 0
  Quiet r = LacksTokens r.form r.label content × ArePlain r.label

  abbrev AreQuiet : List Declared → Type 0
  AreQuiet rs = AllByRecursion Quiet rs

  abbrev IsQuiet : Form → Option (List ℕ) → Type 0
  IsQuiet form None = Unit {0}
  IsQuiet form (Some label) = LacksTokens form label content × ArePlain label

  quiet_first : (r : Declared) (form : Form) → same_form r.form form ≡ true → Quiet r
      → IsQuiet form (Some r.label)
  quiet_first r form same quiet =
      subst (λ f. IsQuiet f (Some r.label)) (form_is r.form form same) quiet

  quiet_here : (rs : List Declared) → AreQuiet rs → (form : Form) → IsQuiet form (here rs form)
  quiet_here [] all form = tt
  quiet_here (r ∷ rs) all form =
      by_bool (is_here r.place && same_form r.form form)
      (λ is. rw is (quiet_first r form (second_of_both _ _ is) all.0))
      (λ is. rw is (quiet_here rs all.1 form))

  quiet_label : (rs : List Declared) → AreQuiet rs → (form : Form) (label : List ℕ)
      → here rs form ≡ Some label → LacksTokens form label content × ArePlain label
  quiet_label rs all form label e = subst (IsQuiet form) e (quiet_here rs all form)

  quiet_below : (k : List ℕ) (rs : List Declared) → AreQuiet rs → AreQuiet (below k rs)
  quiet_below k [] all = tt
  quiet_below k (r ∷ rs) all =
      by_bool (is_to_member k r.place) (λ is. rw is (all.0, quiet_below k rs all.1))
      (λ is. rw is (quiet_below k rs all.1))

  quiet_inside : (d : Doc) (rs : List Declared) → AreQuiet rs → AreQuiet (inside d rs)
  quiet_inside d [] all = tt
  quiet_inside d (r ∷ rs) all =
      by_bool (is_to_element d r.place) (λ is. rw is (all.0, quiet_inside d rs all.1))
      (λ is. rw is (quiet_inside d rs all.1))

  lacks_quoted : (form : Form) (label s : List ℕ) → IsIn (quoted s)
      → LacksTokens form label content × ArePlain label → LacksTokens form label s
  lacks_quoted Hex label s within quiet = (
    λ o. quiet.0.0 (within (codes "0x") (occurs_quoted (codes "0x") s plain_small o)),
    λ o. quiet.0.1 (within (codes "0X") (occurs_quoted (codes "0X") s plain_large o)),
    λ o. quiet.0.2 (within label (occurs_quoted label s quiet.1 o)),
  )
  lacks_quoted Whole label s within quiet = quiet.0
  lacks_quoted Digits label s within quiet = quiet.0
  lacks_quoted Long label s within quiet = quiet.0
  lacks_quoted Uuid label s within quiet = quiet.0

  mutual
    no_ids : (rs : List Declared) (d : Doc) → AreQuiet rs → IsIn (text_of d) → ids_of rs d ≡ []
    no_ids rs null quiet within = refl
    no_ids rs (boolean b) quiet within = refl
    no_ids rs (whole z) quiet within =
        ap (λ o. ids_of_whole o z) (no_whole (here rs Whole) content
        (λ label e. (quiet_label rs quiet Whole label e).0))
    no_ids rs (text s) quiet within =
        no_ids_of_text (here rs) s
        (λ form label e. lacks_quoted form label s within (quiet_label rs quiet form label e))
    no_ids rs (list ds) quiet within =
        no_items_ids rs false ds quiet (λ p o. within p (occurs_later p _ 91 o))
    no_ids rs (object ms) quiet within =
        no_members_ids rs false ms quiet (λ p o. within p (occurs_later p _ 123 o))
    no_ids rs (id sort z) quiet within = refl

    no_items_ids : (rs : List Declared) (later : Bool) (ds : Items) → AreQuiet rs
        → IsIn (items_text later (items_data ds)) → items_ids rs ds ≡ []
    no_items_ids rs later no_items quiet within = refl
    no_items_ids rs later (item d ds) quiet within =
        let comma = comma_if later in
        let first = text_of d in
        let rest = items_text true (items_data ds) in
        ap₂ (λ is js. is ++ js)
        (no_ids (inside d rs) d (quiet_inside d rs quiet)
        (λ p o. within p (occurs_right p comma (first ++ rest) (occurs_left p first rest o))))
        (no_items_ids rs true ds quiet
        (λ p o. within p (occurs_right p comma (first ++ rest) (occurs_right p first rest o))))

    no_members_ids : (rs : List Declared) (later : Bool) (ms : Members) → AreQuiet rs
        → IsIn (members_text later (members_data ms)) → members_ids rs ms ≡ []
    no_members_ids rs later no_members quiet within = refl
    no_members_ids rs later (member k d ms) quiet within =
        let comma = comma_if later in
        let first = text_of d in
        let rest = members_text true (members_data ms) in
        let after_key : IsIn (first ++ rest) =
        λ p o. within p (occurs_right p comma _ (occurs_right p (quoted k) _
        (occurs_later p (first ++ rest) 58 o))) in
        ap₂ (λ is js. is ++ js)
        (no_ids (below k rs) d (quiet_below k rs quiet)
        (λ p o. after_key p (occurs_left p first rest o)))
        (no_members_ids rs true ms quiet (λ p o. after_key p (occurs_right p first rest o)))

  -- ---- the declarations

  abbrev pub FindNothing : List Declaration → Doc → Type 0
  FindNothing xs d = AllByRecursion (λ x. FindsNothing x d content) xs

  quiet_for : (xs : List Declaration) (d : Doc) → are_declared xs ≡ true → FindNothing xs d
      → AreQuiet (rules_for xs d)
  quiet_for [] d declared all = tt
  quiet_for (x ∷ xs) d declared all =
      one all.0 (quiet_for xs d (second_of_both _ _ (second_of_both _ _ declared)) all.1)
    where
      label : is_label x.label ≡ true
      label =
          let own : is_own_label x.label ≡ true = first_of_both _ _ declared in
          first_of_both _ _ own

      one : FindsNothing x d content → AreQuiet (rules_for xs d) → AreQuiet (rules_for (x ∷ xs) d)
      one (inl other) rest = rw other rest
      one (inr lacks) rest =
          by_bool (rule_applies x.rule d)
          (λ is. rw is ((lacks, plain_label x.label label), rest)) (λ is. rw is rest)

  pub nothing_found : (xs : List Declaration) (d : Doc) → are_declared xs ≡ true
      → content ≡ text_of d → FindNothing xs d → ids_of (rules_for xs d) d ≡ []
  nothing_found xs d declared is all =
      no_ids (rules_for xs d) d (quiet_for xs d declared all)
      (λ p o. subst (Occurs p) (sym is) o)

  pub found_step : (xs : List ReadDeclaration) (i : ℕ) (x : ReadDeclaration) (d : Doc)
      → drop i xs ≡ x ∷ drop (i + 1) xs → FindsNothing (declaration_of x) d content
      → FindNothing (declarations_of (drop (i + 1) xs)) d
      → FindNothing (declarations_of (drop i xs)) d
  found_step xs i x d is one rest =
      subst (λ ys. FindNothing (declarations_of ys) d) (sym is) (one, rest)
