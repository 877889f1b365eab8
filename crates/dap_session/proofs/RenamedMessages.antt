-- The parts of a message that the rules read, after a renaming.
use Rattle.dap_tree.specs.Doc.{Doc, null, boolean, whole, text, list, object, id, get}
use Rattle.dap_tree.specs.Ids.{skeleton}
use Rattle.dap_tree.specs.declared.sort.Sort.{Sort}
use Rattle.std.proofs.Common.{◌≡◌, ℕ, ℤ, pos, Bool, true, false, cond, List, [], ◌∷◌, Option, Some}
use Rattle.std.proofs.Common.{None, option_map, codes, refl, sym, ap, ◌∙◌, subst}
use Rattle.std.specs.List.{All, AllZip}
use Rattle.std.specs.Option.{unwrap_or}
use Rattle.std.proofs.lemmas.List.Elements.{All-head, All-tail}
use Rattle.dap_profile.specs.declared.profile.Kind.{Kind}
use Rattle.dap_profile.specs.declared.profile.Kind.TheVariants.{Response}
use Rattle.dap_message.specs.Envelope as envelope
use Rattle.dap_message.specs.Message.{Sent}
use Rattle.dap_message.specs.Rows.{is_of_kind, type_name}
use Rattle.dap_message.proofs.Contents.{skeleton_tells}
use Rattle.dap_message.proofs.Shapes.{text-shape, skeleton_keeps}
use Rattle.dap_session.specs.Messages.{side_of, kind_of, name_of, seq_of, request_seq_of}
use Rattle.dap_session.specs.Messages.{success_of, other}
use Rattle.dap_session.specs.RenamedLists.{id_sort, seq_sort, IsNumbered, DiffersInIds, DifferInIds}
use Rattle.dap_session.proofs.RelatedMembers.{member_paired, ids_paired}

-- ---- what the skeleton determines

sort-skeleton : (o : Option Doc) → id_sort (option_map skeleton o) ≡ id_sort o
sort-skeleton None = refl
sort-skeleton (Some null) = refl
sort-skeleton (Some (boolean b)) = refl
sort-skeleton (Some (whole z)) = refl
sort-skeleton (Some (text s)) = refl
sort-skeleton (Some (list ds)) = refl
sort-skeleton (Some (object ms)) = refl
sort-skeleton (Some (id s z)) = refl

same_sort : (k : List ℕ) (d e : Doc) → skeleton d ≡ skeleton e
    → id_sort (get k d) ≡ id_sort (get k e)
same_sort k d e h =
    sym (ap id_sort (skeleton_keeps.member k d) ∙ sort-skeleton (get k d))
    ∙ ap (λ t. id_sort (get k t)) h ∙ ap id_sort (skeleton_keeps.member k e)
    ∙ sort-skeleton (get k e)

same_kind_of : (k : Kind) (d e : Doc) → skeleton d ≡ skeleton e → is_of_kind k d ≡ is_of_kind k e
same_kind_of k d e h =
    sym (text-shape skeleton skeleton_keeps (type_name k) (codes "type") d) ∙ ap (is_of_kind k) h
    ∙ text-shape skeleton skeleton_keeps (type_name k) (codes "type") e

-- a message with the same skeleton and side has numbers of the same kinds
pub renamed_numbered : (m n : Sent) → m.side ≡ n.side → skeleton m.doc ≡ skeleton n.doc
    → IsNumbered m → IsNumbered n
renamed_numbered m n side one is = record {
  seq = sym (same_sort (codes "seq") m.doc n.doc one) ∙ is.seq ∙ ap (λ s. Some (seq_sort s)) side;
  request_seq =
      λ h. sym (same_sort (codes "request_seq") m.doc n.doc one)
      ∙ is.request_seq (same_kind_of Response m.doc n.doc one ∙ h)
      ∙ ap (λ s. Some (seq_sort (other s))) side;
}

-- ---- two messages that are alike

module _ (R : Sort → ℤ → ℤ → Type 0) where
  -- R relates the two numbers, if they exist
  abbrev pub NumbersTied : Sort → Option ℤ → Option ℤ → Type 0
  NumbersTied s None None = Unit {0}
  NumbersTied s None (Some y) = ⊥
  NumbersTied s (Some x) None = ⊥
  NumbersTied s (Some x) (Some y) = R s x y

  pub record Alike (m n : Sent) : Type 0 where
    pub side : side_of m ≡ side_of n
    pub kind : kind_of m ≡ kind_of n
    pub name : name_of m ≡ name_of n
    pub success : success_of m ≡ success_of n
    pub seq : R (seq_sort (side_of m)) (seq_of m) (seq_of n)
    pub request_seq : NumbersTied (seq_sort (other (side_of m))) (request_seq_of m)
        (request_seq_of n)

  seq_tied : (m n : Sent) → IsNumbered m → DiffersInIds R m n
      → R (seq_sort (side_of m)) (seq_of m) (seq_of n)
  unfolding side_of seq_of
  seq_tied m n is h =
      let w = ids_paired R (seq_sort m.side) (get (codes "seq") m.doc) (get (codes "seq") n.doc)
      (member_paired R (codes "seq") m.doc n.doc h.one_skeleton h.related) is.seq in
      let a : w.0 ≡ unwrap_or (envelope.seq_of m.doc) (pos 0) =
      sym (ap (λ o. unwrap_or (envelope.id_number o) (pos 0)) w.2) in
      let b : w.1 ≡ unwrap_or (envelope.seq_of n.doc) (pos 0) =
      sym (ap (λ o. unwrap_or (envelope.id_number o) (pos 0)) w.3) in
      subst (λ x. R (seq_sort m.side) x (unwrap_or (envelope.seq_of n.doc) (pos 0))) a
      (subst (λ y. R (seq_sort m.side) w.0 y) b w.4)

  answers_tied : (m n : Sent) (b : Bool) → is_of_kind Response m.doc ≡ b
      → is_of_kind Response n.doc ≡ b → IsNumbered m → DiffersInIds R m n
      → NumbersTied (seq_sort (other m.side)) (envelope.request_seq_of m.doc)
      (envelope.request_seq_of n.doc)
  answers_tied m n false p q is h =
      let a : None ≡ envelope.request_seq_of m.doc =
      sym (ap (λ b. cond b (envelope.id_number (get (codes "request_seq") m.doc)) None) p) in
      let b : None ≡ envelope.request_seq_of n.doc =
      sym (ap (λ b. cond b (envelope.id_number (get (codes "request_seq") n.doc)) None) q) in
      subst (λ o. NumbersTied (seq_sort (other m.side)) o (envelope.request_seq_of n.doc)) a
      (subst (λ o. NumbersTied (seq_sort (other m.side)) None o) b tt)
  answers_tied m n true p q is h =
      let w = ids_paired R (seq_sort (other m.side)) (get (codes "request_seq") m.doc)
      (get (codes "request_seq") n.doc)
      (member_paired R (codes "request_seq") m.doc n.doc h.one_skeleton h.related)
      (is.request_seq p) in
      let a : Some w.0 ≡ envelope.request_seq_of m.doc =
      sym (ap (λ b. cond b (envelope.id_number (get (codes "request_seq") m.doc)) None) p
      ∙ ap envelope.id_number w.2) in
      let b : Some w.1 ≡ envelope.request_seq_of n.doc =
      sym (ap (λ b. cond b (envelope.id_number (get (codes "request_seq") n.doc)) None) q
      ∙ ap envelope.id_number w.3) in
      subst (λ o. NumbersTied (seq_sort (other m.side)) o (envelope.request_seq_of n.doc)) a
      (subst (λ o. NumbersTied (seq_sort (other m.side)) (Some w.0) o) b w.4)

  request_seq_tied : (m n : Sent) → IsNumbered m → DiffersInIds R m n
      → NumbersTied (seq_sort (other (side_of m))) (request_seq_of m) (request_seq_of n)
  unfolding side_of request_seq_of
  request_seq_tied m n is h =
      answers_tied m n (is_of_kind Response m.doc) refl
      (sym (same_kind_of Response m.doc n.doc h.one_skeleton)) is h

  side_alike : (m n : Sent) → m.side ≡ n.side → side_of m ≡ side_of n
  unfolding side_of
  side_alike m n h = h

  told_alike : (m n : Sent) → skeleton m.doc ≡ skeleton n.doc
      → (kind_of m ≡ kind_of n) × (name_of m ≡ name_of n) × (success_of m ≡ success_of n)
  unfolding kind_of name_of success_of
  told_alike m n h = let t =
      skeleton_tells n.doc m.doc h in (t.0, ap (λ o. unwrap_or o []) t.1, t.2)

  pub alike : (m n : Sent) → IsNumbered m → DiffersInIds R m n → Alike m n
  alike m n is h =
      let reported = told_alike m n h.one_skeleton in
      record {
        side = side_alike m n h.one_side;
        kind = reported.0;
        name = reported.1;
        success = reported.2;
        seq = seq_tied m n is h;
        request_seq = request_seq_tied m n is h;
      }

  pub all_alike : (ms ns : List Sent) → All IsNumbered ms → DifferInIds R ms ns → AllZip Alike ms ns
  all_alike [] [] is h = tt
  all_alike [] (n ∷ ns) is h = absurd h
  all_alike (m ∷ ms) [] is h = absurd h
  all_alike (m ∷ ms) (n ∷ ns) is h = (
    alike m n (All-head IsNumbered m ms is) h.0,
    all_alike ms ns (All-tail IsNumbered m ms is) h.1,
  )
