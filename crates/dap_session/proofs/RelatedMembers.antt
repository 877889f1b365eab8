-- Two documents with the same skeleton have their ids at the same paths. So a relation between
-- their ids relates the ids of each member.
use Rattle.dap_tree.specs.Doc.{Doc, null, boolean, whole, text, list, object, id, Items, no_items}
use Rattle.dap_tree.specs.Doc.{item, Members, no_members, member, get, get_member}
use Rattle.dap_tree.specs.Ids.{ids, items_ids, members_ids, skeleton, items_skeleton}
use Rattle.dap_tree.specs.Ids.{members_skeleton}
use Rattle.dap_tree.specs.declared.sort.Sort.{Sort}
use Rattle.std.proofs.Common.{◌≡◌, ℕ, ℤ, List, [], ◌++◌, Option, Some, None, Ordering, Less, Equal}
use Rattle.std.proofs.Common.{Greater, nat_cmp, subst, append_assoc, append-nil, sym}
use Rattle.std.specs.List.{AllZip}
use Rattle.std.specs.Cmp.Lexicographic.{slice_cmp}
use Rattle.std.specs.Ordering.{match_ordering}
use Rattle.dap_session.specs.RenamedLists.{id_sort}

abbrev pub Ids : Type 0
Ids = List (Sort × ℤ)

module _ (R : Sort → ℤ → ℤ → Type 0) where
  -- the numbers are related, pair by pair
  abbrev pub Paired : Ids → Ids → Type 0
  Paired is js = AllZip (λ i j. R i.0 i.1 j.1) is js

  -- the ids of two documents, followed by more ids
  abbrev pub Tied : Doc → Doc → Ids → Ids → Type 0
  Tied d e xs ys = Paired (ids d ++ xs) (ids e ++ ys)

  shift : (a b c d xs ys : Ids) → Paired ((a ++ b) ++ xs) ((c ++ d) ++ ys)
      → Paired (a ++ (b ++ xs)) (c ++ (d ++ ys))
  shift a b c d xs ys h =
      subst (λ t. Paired t (c ++ (d ++ ys))) (append_assoc a b xs)
      (subst (λ t. Paired ((a ++ b) ++ xs) t) (append_assoc c d ys) h)

  -- what follows the ids of two documents with the same skeleton is paired too
  mutual
    pub past_doc : (d e : Doc) (xs ys : Ids) → skeleton d ≡ skeleton e → Tied d e xs ys
        → Paired xs ys
    past_doc null null xs ys e h = h
    past_doc (boolean a) (boolean b) xs ys e h = h
    past_doc (whole a) (whole b) xs ys e h = h
    past_doc (text a) (text b) xs ys e h = h
    past_doc (list a) (list b) xs ys e h = past_items a b xs ys (cc) h
    past_doc (object a) (object b) xs ys e h = past_members a b xs ys (cc) h
    past_doc (id s a) (id t b) xs ys e h = h.1
    past_doc t u xs ys e h = absurd cc

    pub past_items : (ds es : Items) (xs ys : Ids) → items_skeleton ds ≡ items_skeleton es
        → Paired (items_ids ds ++ xs) (items_ids es ++ ys) → Paired xs ys
    past_items no_items no_items xs ys e h = h
    past_items (item t ts) (item u us) xs ys e h =
        past_items ts us xs ys (cc)
        (past_doc t u (items_ids ts ++ xs) (items_ids us ++ ys) (cc)
        (shift (ids t) (items_ids ts) (ids u) (items_ids us) xs ys h))
    past_items t u xs ys e h = absurd cc

    pub past_members : (ds es : Members) (xs ys : Ids) → members_skeleton ds ≡ members_skeleton es
        → Paired (members_ids ds ++ xs) (members_ids es ++ ys) → Paired xs ys
    past_members no_members no_members xs ys e h = h
    past_members (member a t ts) (member b u us) xs ys e h =
        past_members ts us xs ys (cc)
        (past_doc t u (members_ids ts ++ xs) (members_ids us ++ ys) (cc)
        (shift (ids t) (members_ids ts) (ids u) (members_ids us) xs ys h))
    past_members t u xs ys e h = absurd cc

  -- both documents are missing, or both exist, have the same skeleton, and their ids are paired
  abbrev pub Both : Option Doc → Option Doc → Type 0
  Both None None = Unit {0}
  Both None (Some e) = ⊥
  Both (Some d) None = ⊥
  Both (Some d) (Some e) = (skeleton d ≡ skeleton e) × ((xs : Ids) × (ys : Ids) × Tied d e xs ys)

  both_at : (o : Ordering) (d e : Doc) (a b : Option Doc) → Both (Some d) (Some e) → Both a b
      → Both (match_ordering o a (Some d) a) (match_ordering o b (Some e) b)
  both_at Less d e a b here later = later
  both_at Equal d e a b here later = here
  both_at Greater d e a b here later = later

  member_both : (k : List ℕ) (ds es : Members) (xs ys : Ids)
      → members_skeleton ds ≡ members_skeleton es
      → Paired (members_ids ds ++ xs) (members_ids es ++ ys)
      → Both (get_member k ds) (get_member k es)
  member_both k no_members no_members xs ys e h = tt
  member_both k no_members (member b u us) xs ys e h = absurd cc
  member_both k (member a t ts) no_members xs ys e h = absurd cc
  member_both k (member a t ts) (member b u us) xs ys e h =
      let name : a ≡ b = cc in
      let one : skeleton t ≡ skeleton u = cc in
      let rest : members_skeleton ts ≡ members_skeleton us = cc in
      let tied = shift (ids t) (members_ids ts) (ids u) (members_ids us) xs ys h in
      let past = past_doc t u (members_ids ts ++ xs) (members_ids us ++ ys) one tied in
      subst (λ l. Both
      (match_ordering (slice_cmp nat_cmp k a) (get_member k ts) (Some t) (get_member k ts))
      (match_ordering (slice_cmp nat_cmp k l) (get_member k us) (Some u) (get_member k us)))
      name
      (both_at (slice_cmp nat_cmp k a) t u (get_member k ts) (get_member k us)
      (one, (members_ids ts ++ xs, members_ids us ++ ys, tied))
      (member_both k ts us xs ys rest past))

  get_both : (k : List ℕ) (d e : Doc) (xs ys : Ids) → skeleton d ≡ skeleton e → Tied d e xs ys
      → Both (get k d) (get k e)
  get_both k null null xs ys e h = tt
  get_both k (boolean a) (boolean b) xs ys e h = tt
  get_both k (whole a) (whole b) xs ys e h = tt
  get_both k (text a) (text b) xs ys e h = tt
  get_both k (list a) (list b) xs ys e h = tt
  get_both k (object a) (object b) xs ys e h = member_both k a b xs ys (cc) h
  get_both k (id s a) (id t b) xs ys e h = tt
  get_both k t u xs ys e h = absurd cc

  -- both members of a name exist or both are missing, and their ids are paired
  pub member_paired : (k : List ℕ) (d e : Doc) → skeleton d ≡ skeleton e → Paired (ids d) (ids e)
      → Both (get k d) (get k e)
  member_paired k d e one h =
      get_both k d e [] [] one
      (subst (λ t. Paired t (ids e ++ [])) (sym (append-nil (ids d)))
      (subst (λ t. Paired (ids d) t) (sym (append-nil (ids e))) h))

  -- if the first has an id of this kind there, the second has an id too, and their numbers are
  -- related
  pub ids_paired : (s : Sort) (a b : Option Doc) → Both a b → id_sort a ≡ Some s
      → (x : ℤ) × (y : ℤ) × (a ≡ Some (id s x)) × (b ≡ Some (id s y)) × R s x y
  ids_paired s None b h e = absurd cc
  ids_paired s (Some null) b h e = absurd cc
  ids_paired s (Some (boolean v)) b h e = absurd cc
  ids_paired s (Some (whole z)) b h e = absurd cc
  ids_paired s (Some (text w)) b h e = absurd cc
  ids_paired s (Some (list ds)) b h e = absurd cc
  ids_paired s (Some (object ms)) b h e = absurd cc
  ids_paired s (Some (id t x)) None h e = absurd h
  ids_paired s (Some (id t x)) (Some d) h e = other_id s t x d h.1.0 h.1.1 h.0 h.1.2 cc
    where
      other_id : (s t : Sort) (x : ℤ) (d : Doc) (xs ys : Ids) → skeleton (id t x) ≡ skeleton d
          → Tied (id t x) d xs ys → t ≡ s
          → (u : ℤ) × (y : ℤ) × (Some (id t x) ≡ Some (id s u)) × (Some d ≡ Some (id s y)) × R s u y
      other_id s t x (id r y) xs ys one tied same =
          let sort : t ≡ r = cc in
          (x, y, cc, cc, subst (λ q. R q x y) same tied.0)
      other_id s t x d xs ys one tied same = absurd cc
