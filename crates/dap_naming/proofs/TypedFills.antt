-- Naming and filling in capabilities commute, since capabilities are not ids.
use Rattle.std.proofs.Common.{◌≡◌, ℕ, Bool, true, false, cond, not, List, [], ◌∷◌, ◌++◌, Option}
use Rattle.std.proofs.Common.{Some, None, option_map, option_and_then, Ordering, Less, Equal}
use Rattle.std.proofs.Common.{Greater, nat_cmp, codes, bytes_eq, refl, ap, sym, ◌∙◌}
use Rattle.std.proofs.Common.{true≢false}
use Rattle.std.specs.Cmp.Lexicographic.{slice_cmp}
use Rattle.std.specs.List.{list_all}
use Rattle.std.specs.Ordering.{match_ordering}
use Rattle.std.proofs.lemmas.Map.Lookups.{exact_bytes}
use Rattle.std.proofs.lemmas.Slice.Eq.{bytes_eq-Decides}
use Rattle.dap_tree.specs.Doc.{Doc, null, boolean, whole, text, list, object, id}
use Rattle.dap_tree.specs.Doc.{Members, no_members, member, get_member, get, put, change_child}
use Rattle.dap_tree.specs.Path.{name as child, at}
use Rattle.dap_tree.specs.declared.side.Side.{Side}
use Rattle.dap_tree.specs.declared.side.Side.TheVariants.{Client, Adapter}
use Rattle.dap_tree.proofs.Booleans.{and_left, and_right}
use Rattle.dap_tree.proofs.Paths.{get-change}
use Rattle.dap_profile.specs.declared.profile.Kind.TheVariants.{Response}
use Rattle.dap_message.specs.Capabilities.{is_given, default_member, default_to, false_members}
use Rattle.dap_message.specs.Capabilities.{false_at, capabilities, carries_capabilities}
use Rattle.dap_message.specs.Capabilities.{with_capabilities, filled}
use Rattle.dap_message.specs.Rows.{is_text}
use Rattle.dap_message.proofs.Envelopes.{apart, given_other, get-filled}
use Rattle.dap_message.proofs.FilledOnce.{get_member-put}
use Rattle.dap_tokens.specs.Naming.{Id, Numbering}
use Rattle.dap_mask.specs.Rules.{is_telling, category_path}
use Rattle.dap_mask.specs.Declarations.{Declaration, are_declared}
use Rattle.dap_naming.specs.Documents.{Declared, below, ids_of, members_ids, named_doc}
use Rattle.dap_naming.specs.Documents.{named_members}
use Rattle.dap_naming.specs.Sessions.{rules_for}
use Rattle.dap_naming.proofs.Lists.{by_bool}
use Rattle.dap_naming.proofs.SessionsPlaces.{get_member-named, Reads, row_of_named}
use Rattle.dap_naming.proofs.TypedMarks.{changed_child, ids-changed_child}

-- ---- names

given-named : (rs : List Declared) (number : Numbering) (o : Option Doc)
    → is_given (option_map (named_doc rs number) o) ≡ is_given o
given-named rs number None = refl
given-named rs number (Some null) = refl
given-named rs number (Some (boolean b)) = refl
given-named rs number (Some (whole z)) = refl
given-named rs number (Some (text s)) = refl
given-named rs number (Some (list ds)) = refl
given-named rs number (Some (object ms)) = refl
given-named rs number (Some (id s z)) = refl

module _ (rs : List Declared) (number : Numbering) where
  put_at : (o : Ordering) (k l : List ℕ) (d e : Doc) (ms : Members) → slice_cmp nat_cmp k l ≡ o
      → named_members rs number (put k d ms)
      ≡ put k (named_doc (below k rs) number d) (named_members rs number ms)
      → named_members rs number
      (match_ordering o (member k d (member l e ms)) (member l d ms) (member l e (put k d ms)))
      ≡ match_ordering o
      (member k (named_doc (below k rs) number d)
      (member l (named_doc (below l rs) number e) (named_members rs number ms)))
      (member l (named_doc (below k rs) number d) (named_members rs number ms))
      (member l (named_doc (below l rs) number e)
      (put k (named_doc (below k rs) number d) (named_members rs number ms)))
  put_at Less k l d e ms is h = refl
  put_at Equal k l d e ms is h =
      ap (λ j. member l (named_doc (below j rs) number d) (named_members rs number ms))
      (sym (exact_bytes k l is))
  put_at Greater k l d e ms is h = ap (member l (named_doc (below l rs) number e)) h

  put_named : (k : List ℕ) (d : Doc) (ms : Members)
      → named_members rs number (put k d ms)
      ≡ put k (named_doc (below k rs) number d) (named_members rs number ms)
  put_named k d no_members = refl
  put_named k d (member l e ms) =
      put_at (slice_cmp nat_cmp k l) k l d e ms refl (put_named k d ms)

  default_named : (k : List ℕ) (d : Doc)
      → ((qs : List Declared) → named_doc qs number d ≡ d) → (ms : Members)
      → named_members rs number (default_member k d ms)
      ≡ default_member k d (named_members rs number ms)
  default_named k d same ms =
      go (is_given (get_member k ms))
      ∙ ap (λ b. cond b (named_members rs number ms) (put k d (named_members rs number ms)))
      (sym (ap is_given (get_member-named rs number k ms)
      ∙ given-named (below k rs) number (get_member k ms)))
    where
      go : (b : Bool)
          → named_members rs number (cond b ms (put k d ms))
          ≡ cond b (named_members rs number ms) (put k d (named_members rs number ms))
      go true = refl
      go false =
          put_named k d ms ∙ ap (λ e. put k e (named_members rs number ms)) (same (below k rs))

  default_to_named : (k : List ℕ) (e : Doc)
      → ((qs : List Declared) → named_doc qs number e ≡ e) → (d : Doc)
      → named_doc rs number (default_to k e d) ≡ default_to k e (named_doc rs number d)
  default_to_named k e same null = refl
  default_to_named k e same (boolean b) = refl
  default_to_named k e same (whole z) = refl
  default_to_named k e same (text s) = refl
  default_to_named k e same (list ds) = refl
  default_to_named k e same (object ms) = ap object (default_named k e same ms)
  default_to_named k e same (id s z) = refl

  false_named : (ks : List (List ℕ)) (ms : Members)
      → named_members rs number (false_members ks ms)
      ≡ false_members ks (named_members rs number ms)
  false_named [] ms = refl
  false_named (k ∷ ks) ms =
      false_named ks (default_member k (boolean false) ms)
      ∙ ap (false_members ks) (default_named k (boolean false) (λ qs. refl) ms)

  false_at_named : (ks : List (List ℕ)) (d : Doc)
      → named_doc rs number (false_at ks d) ≡ false_at ks (named_doc rs number d)
  false_at_named ks null = refl
  false_at_named ks (boolean b) = refl
  false_at_named ks (whole z) = refl
  false_at_named ks (text s) = refl
  false_at_named ks (list ds) = refl
  false_at_named ks (object ms) = ap object (false_named ks ms)
  false_at_named ks (id s z) = refl

capabilities_named : (rs : List Declared) (number : Numbering) (d : Doc)
    → named_doc rs number (with_capabilities d) ≡ with_capabilities (named_doc rs number d)
unfolding with_capabilities
capabilities_named rs number d =
    changed_child rs number (codes "body") (false_at capabilities)
    (λ e. false_at_named (below (codes "body") rs) number capabilities e)
    (default_to (codes "body") (object no_members) d)
    ∙ ap (change_child (codes "body") (false_at capabilities))
    (default_to_named rs number (codes "body") (object no_members) (λ qs. refl) d)

pub filled_named : (xs : List Declaration) (number : Numbering) (side : Side) (d : Doc)
    → are_declared xs ≡ true
    → named_doc (rules_for xs d) number (filled side d)
    ≡ filled side (named_doc (rules_for xs d) number d)
filled_named xs number Client d h = refl
filled_named xs number Adapter d h =
    go (carries_capabilities Adapter d)
    ∙ ap (λ b. cond b (with_capabilities (named_doc (rules_for xs d) number d))
    (named_doc (rules_for xs d) number d))
    (sym (row_of_named xs number d h (Some Response) (Some (codes "initialize"))))
  where
    go : (b : Bool)
        → named_doc (rules_for xs d) number (cond b (with_capabilities d) d)
        ≡ cond b (with_capabilities (named_doc (rules_for xs d) number d))
        (named_doc (rules_for xs d) number d)
    go true = capabilities_named (rules_for xs d) number d
    go false = refl

-- ---- ids

ids-absent : (rs : List Declared) (d : Doc) → is_given (Some d) ≡ false → ids_of rs d ≡ []
ids-absent rs null h = refl
ids-absent rs (boolean b) h = cc
ids-absent rs (whole z) h = cc
ids-absent rs (text s) h = cc
ids-absent rs (list ds) h = cc
ids-absent rs (object ms) h = cc
ids-absent rs (id s z) h = cc

module _ (rs : List Declared) where
  ids-put_at : (o : Ordering) (k l : List ℕ) (d e : Doc) (ms : Members)
      → ((qs : List Declared) → ids_of qs d ≡ [])
      → is_given (match_ordering o (get_member k ms) (Some e) (get_member k ms)) ≡ false
      → (is_given (get_member k ms) ≡ false → members_ids rs (put k d ms) ≡ members_ids rs ms)
      → members_ids rs
      (match_ordering o (member k d (member l e ms)) (member l d ms) (member l e (put k d ms)))
      ≡ ids_of (below l rs) e ++ members_ids rs ms
  ids-put_at Less k l d e ms none h more =
      ap (λ is. is ++ (ids_of (below l rs) e ++ members_ids rs ms)) (none (below k rs))
  ids-put_at Equal k l d e ms none h more =
      ap (λ is. is ++ members_ids rs ms)
      (none (below l rs) ∙ sym (ids-absent (below l rs) e h))
  ids-put_at Greater k l d e ms none h more = ap (λ is. ids_of (below l rs) e ++ is) (more h)

  ids-put : (k : List ℕ) (d : Doc) → ((qs : List Declared) → ids_of qs d ≡ []) → (ms : Members)
      → is_given (get_member k ms) ≡ false → members_ids rs (put k d ms) ≡ members_ids rs ms
  ids-put k d none no_members h = ap (λ (is : List Id). is ++ []) (none (below k rs))
  ids-put k d none (member l e ms) h =
      ids-put_at (slice_cmp nat_cmp k l) k l d e ms none h (ids-put k d none ms)

  ids-default : (k : List ℕ) (d : Doc) → ((qs : List Declared) → ids_of qs d ≡ []) → (ms : Members)
      → members_ids rs (default_member k d ms) ≡ members_ids rs ms
  ids-default k d none ms =
      by_bool (is_given (get_member k ms))
      (λ b. rw b refl)
      (λ b. rw b (ids-put k d none ms b))

  ids-default_to : (k : List ℕ) (e : Doc) → ((qs : List Declared) → ids_of qs e ≡ []) → (d : Doc)
      → ids_of rs (default_to k e d) ≡ ids_of rs d
  ids-default_to k e none null = refl
  ids-default_to k e none (boolean b) = refl
  ids-default_to k e none (whole z) = refl
  ids-default_to k e none (text s) = refl
  ids-default_to k e none (list ds) = refl
  ids-default_to k e none (object ms) = ids-default k e none ms
  ids-default_to k e none (id s z) = refl

  ids-false : (ks : List (List ℕ)) (ms : Members)
      → members_ids rs (false_members ks ms) ≡ members_ids rs ms
  ids-false [] ms = refl
  ids-false (k ∷ ks) ms =
      ids-false ks (default_member k (boolean false) ms)
      ∙ ids-default k (boolean false) (λ qs. refl) ms

  ids-false_at : (ks : List (List ℕ)) (d : Doc) → ids_of rs (false_at ks d) ≡ ids_of rs d
  ids-false_at ks null = refl
  ids-false_at ks (boolean b) = refl
  ids-false_at ks (whole z) = refl
  ids-false_at ks (text s) = refl
  ids-false_at ks (list ds) = refl
  ids-false_at ks (object ms) = ids-false ks ms
  ids-false_at ks (id s z) = refl

ids-capabilities : (rs : List Declared) (d : Doc) → ids_of rs (with_capabilities d) ≡ ids_of rs d
unfolding with_capabilities
ids-capabilities rs d =
    ids-changed_child rs (codes "body") (false_at capabilities)
    (λ e. ids-false_at (below (codes "body") rs) capabilities e)
    (default_to (codes "body") (object no_members) d)
    ∙ ids-default_to rs (codes "body") (object no_members) (λ qs. refl) d

pub ids-filled : (rs : List Declared) (side : Side) (d : Doc)
    → ids_of rs (filled side d) ≡ ids_of rs d
ids-filled rs side d = go (carries_capabilities side d)
  where
    go : (b : Bool) → ids_of rs (cond b (with_capabilities d) d) ≡ ids_of rs d
    go true = ids-capabilities rs d
    go false = refl

-- ---- the rules for the message

not_body : (k : List ℕ) → is_telling k ≡ true → bytes_eq k (codes "body") ≡ false
not_body k t =
    by_bool (bytes_eq k (codes "body"))
    (λ e. absurd (true≢false
    (sym t ∙ ap is_telling ((bytes_eq-Decides k (codes "body")).0 e))))
    (λ e. e)

-- the name is none of these
abbrev differs : List ℕ → List (List ℕ) → Bool
differs q ks = list_all (λ k. not (bytes_eq q k)) ks

was_false : (b : Bool) → not b ≡ true → b ≡ false
was_false true h = cc
was_false false h = refl

member-false : (q : List ℕ) (ks : List (List ℕ)) (ms : Members) → differs q ks ≡ true
    → get_member q (false_members ks ms) ≡ get_member q ms
member-false q [] ms h = refl
member-false q (k ∷ ks) ms h =
    member-false q ks (default_member k (boolean false) ms)
    (and_right (not (bytes_eq q k)) (differs q ks) h)
    ∙ given_other (is_given (get_member k ms)) q k (boolean false) ms
    (apart q k (was_false (bytes_eq q k) (and_left (not (bytes_eq q k)) (differs q ks) h)))

-- the category in this body is that string
abbrev category_in : List ℕ → Option Doc → Bool
category_in w o = is_text w (option_and_then (at (child (codes "category") ∷ [])) o)

category-false : (w : List ℕ) (ks : List (List ℕ)) (o : Option Doc)
    → differs (codes "category") ks ≡ true
    → category_in w (option_map (false_at ks) o) ≡ category_in w o
category-false w ks None h = refl
category-false w ks (Some null) h = refl
category-false w ks (Some (boolean b)) h = refl
category-false w ks (Some (whole z)) h = refl
category-false w ks (Some (text s)) h = refl
category-false w ks (Some (list ds)) h = refl
category-false w ks (Some (object ms)) h =
    ap (λ o. is_text w (option_and_then (at []) o)) (member-false (codes "category") ks ms h)
category-false w ks (Some (id s z)) h = refl

category-default : (w : List ℕ) (o : Option Doc)
    → category_in w (cond (is_given o) o (Some (object no_members))) ≡ category_in w o
category-default w None = refl
category-default w (Some null) = refl
category-default w (Some (boolean b)) = refl
category-default w (Some (whole z)) = refl
category-default w (Some (text s)) = refl
category-default w (Some (list ds)) = refl
category-default w (Some (object ms)) = refl
category-default w (Some (id s z)) = refl

member-default : (k : List ℕ) (e : Doc) (ms : Members)
    → get_member k (default_member k e ms)
    ≡ cond (is_given (get_member k ms)) (get_member k ms) (Some e)
member-default k e ms = go (is_given (get_member k ms))
  where
    go : (b : Bool) → get_member k (cond b ms (put k e ms)) ≡ cond b (get_member k ms) (Some e)
    go true = refl
    go false = get_member-put k e ms

category-body : (w : List ℕ) (d : Doc)
    → category_in w (get (codes "body") (default_to (codes "body") (object no_members) d))
    ≡ category_in w (get (codes "body") d)
category-body w null = refl
category-body w (boolean b) = refl
category-body w (whole z) = refl
category-body w (text s) = refl
category-body w (list ds) = refl
category-body w (object ms) =
    ap (category_in w) (member-default (codes "body") (object no_members) ms)
    ∙ category-default w (get_member (codes "body") ms)
category-body w (id s z) = refl

category-capabilities : (w : List ℕ) (d : Doc)
    → is_text w (at category_path (with_capabilities d)) ≡ is_text w (at category_path d)
unfolding with_capabilities
category-capabilities w d =
    let e = default_to (codes "body") (object no_members) d in
    ap (category_in w) (get-change (codes "body") (false_at capabilities) e)
    ∙ (category-false w capabilities (get (codes "body") e) refl ∙ category-body w d)

pub filled_reads : (side : Side) (d : Doc) → Reads (filled side d) d
filled_reads side d =
    record {
      text = λ w k t. ap (is_text w) (get-filled k side d (not_body k t));
      category = λ w. go w (carries_capabilities side d);
    }
  where
    go : (w : List ℕ) (b : Bool)
        → is_text w (at category_path (cond b (with_capabilities d) d))
        ≡ is_text w (at category_path d)
    go w true = category-capabilities w d
    go w false = refl
