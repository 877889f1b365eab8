-- A message with its ids as integers is its document with the capabilities filled in, and filling
-- them in twice is the same as once.
use Rattle.dap_tree.specs.Doc.{Doc, null, boolean, whole, text, list, object, id, Items, no_items}
use Rattle.dap_tree.specs.Doc.{item, Members, no_members, member, get_member, put, change_member}
use Rattle.dap_tree.specs.Doc.{change_child, map_items, change_items, all_plain, items_plain}
use Rattle.dap_tree.specs.Doc.{members_plain, is_plain}
use Rattle.dap_tree.specs.Ids.{without_ids, items_without_ids, members_without_ids}
use Rattle.dap_tree.specs.declared.side.Side.{Side}
use Rattle.dap_tree.specs.declared.side.Side.TheVariants.{Client, Adapter}
use Rattle.dap_tree.specs.declared.sort.Sort.{Sort}
use Rattle.dap_tree.proofs.WithoutIds.{plain_parts, without_plain}
use Rattle.dap_tree.proofs.Paths.{get_member-change}
use Rattle.std.proofs.Common.{◌≡◌, ℕ, Bool, true, false, cond, ◌&&◌, List, [], ◌∷◌, Option, Some}
use Rattle.std.proofs.Common.{None, option_map, Ordering, Less, Equal, Greater, nat_cmp, codes}
use Rattle.std.proofs.Common.{refl, sym, ◌∙◌, ap, ap₂, bytes_eq}
use Rattle.std.specs.Option.{option_map_or}
use Rattle.std.proofs.lemmas.Slice.Eq.{bytes_eq-Decides}
use Rattle.std.specs.Cmp.Lexicographic.{slice_cmp}
use Rattle.std.specs.Ordering.{match_ordering}
use Rattle.dap_profile.specs.PlaceSteps.{PlaceStep, named, each}
use Rattle.dap_profile.specs.ProfileRows.{ProfileRow}
use Rattle.dap_message.specs.Rows.{row_applies, is_text, is_true}
use Rattle.dap_message.specs.Capabilities.{filled, with_capabilities, default_to, default_member}
use Rattle.dap_message.specs.Capabilities.{is_given, false_members, false_at, capabilities}
use Rattle.dap_message.specs.Capabilities.{carries_capabilities}
use Rattle.dap_message.specs.Marks.{mark_by_rows}
use Rattle.dap_message.specs.Marks.{marked, is_id_of, mark_rows, mark_row, edit, sort_of}
use Rattle.dap_message.proofs.NameOrder.{itself, equal_at}
use Rattle.dap_message.proofs.Edits.{by_bool}
use Rattle.dap_message.proofs.Envelopes.{get-filled, given_other, apart}
use Rattle.dap_message.proofs.PartTests.{DocTest, nameless, passes-filled}

-- ---- ids as integers again

without_at : (o : Ordering) (l : List ℕ) (d e : Doc) (ms changed : Members)
    → without_ids e ≡ without_ids d → members_without_ids changed ≡ members_without_ids ms
    → members_without_ids
    (match_ordering o (member l d changed) (member l e ms) (member l d changed))
    ≡ member l (without_ids d) (members_without_ids ms)
without_at Less l d e ms changed h j = ap (member l (without_ids d)) j
without_at Equal l d e ms changed h j = ap (λ x. member l x (members_without_ids ms)) h
without_at Greater l d e ms changed h j = ap (member l (without_ids d)) j

without-change_member : (k : List ℕ) (f : Doc → Doc)
    → ((e : Doc) → without_ids (f e) ≡ without_ids e) → (ms : Members)
    → members_without_ids (change_member k f ms) ≡ members_without_ids ms
without-change_member k f h no_members = refl
without-change_member k f h (member l d ms) =
    without_at (slice_cmp nat_cmp k l) l d (f d) ms (change_member k f ms) (h d)
    (without-change_member k f h ms)

without-map : (f : Doc → Doc) → ((e : Doc) → without_ids (f e) ≡ without_ids e) → (ds : Items)
    → items_without_ids (map_items f ds) ≡ items_without_ids ds
without-map f h no_items = refl
without-map f h (item d ds) = ap₂ item (h d) (without-map f h ds)

without-change : (k : List ℕ) (f : Doc → Doc) → ((e : Doc) → without_ids (f e) ≡ without_ids e)
    → (d : Doc) → without_ids (change_child k f d) ≡ without_ids d
without-change k f h null = refl
without-change k f h (boolean b) = refl
without-change k f h (whole z) = refl
without-change k f h (text s) = refl
without-change k f h (list ds) = refl
without-change k f h (object ms) = ap object (without-change_member k f h ms)
without-change k f h (id s z) = refl

without-items : (f : Doc → Doc) → ((e : Doc) → without_ids (f e) ≡ without_ids e) → (d : Doc)
    → without_ids (change_items f d) ≡ without_ids d
without-items f h null = refl
without-items f h (boolean b) = refl
without-items f h (whole z) = refl
without-items f h (text s) = refl
without-items f h (list ds) = ap list (without-map f h ds)
without-items f h (object ms) = refl
without-items f h (id s z) = refl

without-marked : (s : Sort) (d : Doc) → without_ids (marked s d) ≡ without_ids d
without-marked s null = refl
without-marked s (boolean b) = refl
without-marked s (whole z) = by_bool (is_id_of s z) (λ e. rw e refl) (λ e. rw e refl)
without-marked s (text t) = refl
without-marked s (list ds) = refl
without-marked s (object ms) = refl
without-marked s (id r z) = refl

without-edit : (ps : List PlaceStep) (s : Sort) (d : Doc)
    → without_ids (edit ps (marked s) d) ≡ without_ids d
without-edit [] s d = without-marked s d
without-edit (named k ∷ ps) s d = without-change k (edit ps (marked s)) (λ e. without-edit ps s e) d
without-edit (each ∷ ps) s d = without-items (edit ps (marked s)) (λ e. without-edit ps s e) d

without-mark_row : (r : ProfileRow) (side : Side) (d : Doc)
    → without_ids (mark_row r side d) ≡ without_ids d
without-mark_row r side d = go (sort_of side r.want) (row_applies r.kind r.name d)
  where
    go : (o : Option Sort) (b : Bool)
        → without_ids (option_map_or (λ s. cond b (edit r.place (marked s) d) d) o d)
        ≡ without_ids d
    go None b = refl
    go (Some s) true = without-edit r.place s d
    go (Some s) false = refl

without-mark : (rs : List ProfileRow) (side : Side) (d : Doc)
    → without_ids (mark_rows rs side d) ≡ without_ids d
without-mark [] side d = refl
without-mark (r ∷ rs) side d = without-mark rs side (mark_row r side d) ∙ without-mark_row r side d

-- ---- filling in capabilities adds no ids

abbrev plain_test : DocTest
plain_test =
    record {
      parts = nameless all_plain members_plain items_plain refl (λ k d ms. refl)
          (λ d ds. refl);
      of_object = λ ms. refl;
      of_list = λ ds. refl;
      of_false = refl;
    }

-- a message with its ids as integers is its tree with the capabilities filled in
pub numbers-again : (rows : List ProfileRow) (side : Side) (d : Doc) → is_plain d ≡ true
    → without_ids (mark_by_rows rows side (filled side d)) ≡ filled side d
unfolding mark_by_rows
numbers-again rows side d h =
    without-mark rows side (filled side d)
    ∙ without_plain (filled side d)
    (passes-filled plain_test (carries_capabilities side d) d refl refl (plain_parts d h))

-- ---- capabilities that are filled in are given

put_same : (o : Ordering) (k l : List ℕ) (d e : Doc) (ms rest : Members) → slice_cmp nat_cmp k l ≡ o
    → get_member k rest ≡ Some d
    → get_member k (match_ordering o (member k d (member l e ms)) (member l d ms) (member l e rest))
    ≡ Some d
put_same Less k l d e ms rest is later =
    equal_at (slice_cmp nat_cmp k k) (get_member k (member l e ms)) (Some d) (itself k)
put_same Equal k l d e ms rest is later = rw is refl
put_same Greater k l d e ms rest is later = rw is later

pub get_member-put : (k : List ℕ) (d : Doc) (ms : Members) → get_member k (put k d ms) ≡ Some d
get_member-put k d no_members = equal_at (slice_cmp nat_cmp k k) None (Some d) (itself k)
get_member-put k d (member l e ms) = put_same _ k l d e ms (put k d ms) refl (get_member-put k d ms)

given-default : (k : List ℕ) (d : Doc) (ms : Members) → is_given (Some d) ≡ true
    → is_given (get_member k (default_member k d ms)) ≡ true
given-default k d ms h = go (is_given (get_member k ms)) refl
  where
    go : (b : Bool) → is_given (get_member k ms) ≡ b
        → is_given (get_member k (cond b ms (put k d ms))) ≡ true
    go true e = e
    go false e = ap is_given (get_member-put k d ms) ∙ h

pub given-keeps : (q k : List ℕ) (d : Doc) (ms : Members) → is_given (Some d) ≡ true
    → is_given (get_member q ms) ≡ true → is_given (get_member q (default_member k d ms)) ≡ true
given-keeps q k d ms h g =
    by_bool (bytes_eq q k)
    (λ e. let same : k
    ≡ q = sym ((bytes_eq-Decides q k).0 e) in ap
    (λ x. is_given (get_member x (default_member k d ms))) (sym same) ∙ given-default k d ms h)
    (λ e. ap is_given (given_other (is_given (get_member k ms)) q k d ms (apart q k e)) ∙ g)

abbrev pub AllGiven : List (List ℕ) → Members → Type 0
AllGiven [] ms = Unit {0}
AllGiven (k ∷ ks) ms = (is_given (get_member k ms) ≡ true) × AllGiven ks ms

false-keeps : (ks : List (List ℕ)) (q : List ℕ) (ms : Members) → is_given (get_member q ms) ≡ true
    → is_given (get_member q (false_members ks ms)) ≡ true
false-keeps [] q ms h = h
false-keeps (k ∷ ks) q ms h =
    false-keeps ks q (default_member k (boolean false) ms)
    (given-keeps q k (boolean false) ms refl h)

pub false-given : (ks : List (List ℕ)) (ms : Members) → AllGiven ks (false_members ks ms)
false-given [] ms = tt
false-given (k ∷ ks) ms = (
  false-keeps ks k (default_member k (boolean false) ms)
      (given-default k (boolean false) ms refl),
  false-given ks (default_member k (boolean false) ms),
)

pub false-noop : (ks : List (List ℕ)) (ms : Members) → AllGiven ks ms → false_members ks ms ≡ ms
false-noop [] ms h = refl
false-noop (k ∷ ks) ms h =
    ap (λ b. false_members ks (cond b ms (put k (boolean false) ms))) h.0 ∙ false-noop ks ms h.1

false_at-again : (ks : List (List ℕ)) (d : Doc) → false_at ks (false_at ks d) ≡ false_at ks d
false_at-again ks null = refl
false_at-again ks (boolean b) = refl
false_at-again ks (whole z) = refl
false_at-again ks (text s) = refl
false_at-again ks (list ds) = refl
false_at-again ks (object ms) = ap object (false-noop ks (false_members ks ms) (false-given ks ms))
false_at-again ks (id s z) = refl

change_again_at : (o : Ordering) (k l : List ℕ) (f : Doc → Doc) (e : Doc) (ms changed : Members)
    → slice_cmp nat_cmp k l ≡ o → f (f e) ≡ f e → change_member k f changed ≡ changed
    → change_member k f
    (match_ordering o (member l e changed) (member l (f e) ms) (member l e changed))
    ≡ match_ordering o (member l e changed) (member l (f e) ms) (member l e changed)
change_again_at Less k l f e ms changed is h later = rw is (ap (member l e) later)
change_again_at Equal k l f e ms changed is h later = rw is (ap (λ x. member l x ms) h)
change_again_at Greater k l f e ms changed is h later = rw is (ap (member l e) later)

change_member-again : (k : List ℕ) (f : Doc → Doc) → ((e : Doc) → f (f e) ≡ f e) → (ms : Members)
    → change_member k f (change_member k f ms) ≡ change_member k f ms
change_member-again k f h no_members = refl
change_member-again k f h (member l e ms) =
    change_again_at _ k l f e ms (change_member k f ms) refl (h e) (change_member-again k f h ms)

given-false : (ks : List (List ℕ)) (o : Option Doc)
    → is_given (option_map (false_at ks) o) ≡ is_given o
given-false ks None = refl
given-false ks (Some null) = refl
given-false ks (Some (boolean b)) = refl
given-false ks (Some (whole z)) = refl
given-false ks (Some (text s)) = refl
given-false ks (Some (list ds)) = refl
given-false ks (Some (object ms)) = refl
given-false ks (Some (id s z)) = refl

twice_members : (k : List ℕ) (ks : List (List ℕ)) (e : Doc) (ms : Members)
    → is_given (Some e) ≡ true
    → change_member k (false_at ks)
    (default_member k e (change_member k (false_at ks) (default_member k e ms)))
    ≡ change_member k (false_at ks) (default_member k e ms)
twice_members k ks e ms h =
    let ns = default_member k e ms in
    let there : is_given (get_member k (change_member k (false_at ks) ns)) ≡ true =
    ap is_given (get_member-change k (false_at ks) ns) ∙ given-false ks (get_member k ns)
    ∙ given-default k e ms h in
    ap (λ b. change_member k (false_at ks)
    (cond b (change_member k (false_at ks) ns) (put k e (change_member k (false_at ks) ns))))
    there
    ∙ change_member-again k (false_at ks) (λ d. false_at-again ks d) ns

twice : (k : List ℕ) (ks : List (List ℕ)) (e d : Doc) → is_given (Some e) ≡ true
    → change_child k (false_at ks)
    (default_to k e (change_child k (false_at ks) (default_to k e d)))
    ≡ change_child k (false_at ks) (default_to k e d)
twice k ks e null h = refl
twice k ks e (boolean b) h = refl
twice k ks e (whole z) h = refl
twice k ks e (text s) h = refl
twice k ks e (list ds) h = refl
twice k ks e (object ms) h = ap object (twice_members k ks e ms h)
twice k ks e (id s z) h = refl

capabilities-again : (d : Doc) → with_capabilities (with_capabilities d) ≡ with_capabilities d
unfolding with_capabilities
capabilities-again d = twice (codes "body") capabilities (object no_members) d refl

pub tells-again : (side : Side) (d : Doc)
    → carries_capabilities side (filled side d) ≡ carries_capabilities side d
tells-again Client d = refl
tells-again Adapter d =
    ap₂ (λ a b. a && b)
    (ap₂ (λ a b. a && b)
    (ap (is_text (codes "response")) (get-filled (codes "type") Adapter d refl))
    (ap (is_text (codes "initialize")) (get-filled (codes "command") Adapter d refl)))
    (ap is_true (get-filled (codes "success") Adapter d refl))

pub filled-again : (side : Side) (d : Doc) → filled side (filled side d) ≡ filled side d
filled-again side d =
    ap (λ b. cond b (with_capabilities (filled side d)) (filled side d)) (tells-again side d)
    ∙ go (carries_capabilities side d)
  where
    go : (b : Bool)
        → cond b (with_capabilities (cond b (with_capabilities d) d))
        (cond b (with_capabilities d) d) ≡ cond b (with_capabilities d) d
    go true = capabilities-again d
    go false = refl
