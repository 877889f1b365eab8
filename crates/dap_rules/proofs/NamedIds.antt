-- Naming leaves the ids of the profile unchanged. Other numbers of these ids change no declared id,
-- and no name.
use Rattle.std.proofs.Common.{◌≡◌, ℕ, ◌+◌, true, List, [], ◌∷◌, ◌++◌, map, Option, Some, None}
use Rattle.std.proofs.Common.{option_map, option_and_then, codes, cond, ◌&&◌, refl, ap, ap₂, sym}
use Rattle.std.proofs.Common.{◌∙◌}
use Rattle.dap_tree.specs.Doc.{Doc, null, boolean, whole, text, list, object, id, Items, no_items}
use Rattle.dap_tree.specs.Doc.{item, Members, no_members, member, get}
use Rattle.dap_tree.specs.Ids.{ids, items_ids, members_ids, skeleton, items_skeleton}
use Rattle.dap_tree.specs.Ids.{members_skeleton}
use Rattle.dap_tree.specs.Path.{name as child, at}
use Rattle.dap_profile.specs.declared.profile.Kind.TheVariants.{Event}
use Rattle.dap_message.specs.{Message.Sent, Rows.{is_text, name_key}}
use Rattle.dap_message.proofs.RowMarks.{one_step}
use Rattle.dap_message.proofs.Shapes.{text-shape, skeleton_keeps}
use Rattle.dap_tokens.specs.Naming.{Numbering}
use Rattle.dap_mask.specs.RuleSteps.{is_called}
use Rattle.dap_mask.specs.Rules.{category_path}
use Rattle.dap_mask.specs.Declarations.{Declaration, are_declared}
use Rattle.dap_naming.specs.Documents.{Declared, below, inside, named_doc, named_items}
use Rattle.dap_naming.specs.Documents.{named_members, ids_of, items_ids as declared_in_items}
use Rattle.dap_naming.specs.Documents.{members_ids as declared_in_members}
use Rattle.dap_naming.specs.Sessions.{rules_for, declared_ids, name_sent}
use Rattle.dap_naming.proofs.SoundRules.{inside-same}
use Rattle.dap_naming.proofs.SessionsPlaces.{Reads, rules_alike, kind_alike, named_reads}
use Rattle.dap_rename.specs.Messages.{message_skeleton, no_stop, occurrence, occurrences}
use Rattle.dap_rename.specs.Modes.{is_stopped, stop_in}
use Rattle.dap_rename.specs.declared.mode.Mode.{Mode}
use Rattle.dap_rename.specs.declared.mode.Mode.TheVariants.{Whole, PerStop}
use Rattle.dap_rename.proofs.Lists.{same_cons}
use Rattle.dap_rename.proofs.Occurrences.{all_numbers, seconds, seconds-occurrences}

-- ---- naming keeps the ids of the profile

mutual
  pub ids-named : (rs : List Declared) (f : Numbering) (d : Doc) → ids (named_doc rs f d) ≡ ids d
  ids-named rs f null = refl
  ids-named rs f (boolean b) = refl
  ids-named rs f (whole z) = refl
  ids-named rs f (text s) = refl
  ids-named rs f (list ds) = items_ids-named rs f ds
  ids-named rs f (object ms) = members_ids-named rs f ms
  ids-named rs f (id s z) = refl

  items_ids-named : (rs : List Declared) (f : Numbering) (ds : Items)
      → items_ids (named_items rs f ds) ≡ items_ids ds
  items_ids-named rs f no_items = refl
  items_ids-named rs f (item d ds) =
      ap₂ (λ a b. a ++ b) (ids-named (inside d rs) f d) (items_ids-named rs f ds)

  members_ids-named : (rs : List Declared) (f : Numbering) (ms : Members)
      → members_ids (named_members rs f ms) ≡ members_ids ms
  members_ids-named rs f no_members = refl
  members_ids-named rs f (member k d ms) =
      ap₂ (λ a b. a ++ b) (ids-named (below k rs) f d) (members_ids-named rs f ms)

-- ---- the skeleton has the same rules

called-skeleton : (n : Option (List ℕ)) (d : Doc)
    → is_called n (Some (skeleton d)) ≡ is_called n (Some d)
called-skeleton None d = refl
called-skeleton (Some n) d = text-shape skeleton skeleton_keeps n (codes "name") d

inside-skeleton : (d : Doc) (rs : List Declared) → inside (skeleton d) rs ≡ inside d rs
inside-skeleton d rs = inside-same (skeleton d) d rs (λ n. called-skeleton n d)

two_steps : (c : List ℕ) (o : Option Doc)
    → option_and_then (at (child c ∷ [])) (option_map skeleton o)
    ≡ option_map skeleton (option_and_then (at (child c ∷ [])) o)
two_steps c None = refl
two_steps c (Some d) =
    one_step c (skeleton d)
    ∙ (skeleton_keeps.member c d ∙ ap (option_map skeleton) (sym (one_step c d)))

category-skeleton : (d : Doc)
    → at category_path (skeleton d) ≡ option_map skeleton (at category_path d)
category-skeleton d =
    ap (option_and_then (at (child (codes "category") ∷ [])))
    (skeleton_keeps.member (codes "body") d)
    ∙ two_steps (codes "category") (get (codes "body") d)

reads-skeleton : (d : Doc) → Reads (skeleton d) d
reads-skeleton d = record {
  text = λ w k t. text-shape skeleton skeleton_keeps w k d;
  category = λ w. ap (is_text w) (category-skeleton d) ∙ skeleton_keeps.text w (at category_path d);
}

pub rules-skeleton : (xs : List Declaration) (d : Doc)
    → rules_for xs (skeleton d) ≡ rules_for xs d
rules-skeleton xs d = rules_alike (skeleton d) d (reads-skeleton d) xs

-- ---- the skeleton has the same declared ids

mutual
  pub declared-skeleton : (rs : List Declared) (d : Doc) → ids_of rs (skeleton d) ≡ ids_of rs d
  declared-skeleton rs null = refl
  declared-skeleton rs (boolean b) = refl
  declared-skeleton rs (whole z) = refl
  declared-skeleton rs (text s) = refl
  declared-skeleton rs (list ds) = declared_items-skeleton rs ds
  declared-skeleton rs (object ms) = declared_members-skeleton rs ms
  declared-skeleton rs (id s z) = refl

  declared_items-skeleton : (rs : List Declared) (ds : Items)
      → declared_in_items rs (items_skeleton ds) ≡ declared_in_items rs ds
  declared_items-skeleton rs no_items = refl
  declared_items-skeleton rs (item d ds) =
      ap₂ (λ a b. a ++ b)
      (ap (λ qs. ids_of qs (skeleton d)) (inside-skeleton d rs)
      ∙ declared-skeleton (inside d rs) d)
      (declared_items-skeleton rs ds)

  declared_members-skeleton : (rs : List Declared) (ms : Members)
      → declared_in_members rs (members_skeleton ms) ≡ declared_in_members rs ms
  declared_members-skeleton rs no_members = refl
  declared_members-skeleton rs (member k d ms) =
      ap₂ (λ a b. a ++ b) (declared-skeleton (below k rs) d) (declared_members-skeleton rs ms)

-- ---- the skeleton of the named document is the named skeleton

mutual
  pub skeleton-named : (rs : List Declared) (f : Numbering) (d : Doc)
      → skeleton (named_doc rs f d) ≡ named_doc rs f (skeleton d)
  skeleton-named rs f null = refl
  skeleton-named rs f (boolean b) = refl
  skeleton-named rs f (whole z) = refl
  skeleton-named rs f (text s) = refl
  skeleton-named rs f (list ds) = ap list (skeleton-named_items rs f ds)
  skeleton-named rs f (object ms) = ap object (skeleton-named_members rs f ms)
  skeleton-named rs f (id s z) = refl

  skeleton-named_items : (rs : List Declared) (f : Numbering) (ds : Items)
      → items_skeleton (named_items rs f ds) ≡ named_items rs f (items_skeleton ds)
  skeleton-named_items rs f no_items = refl
  skeleton-named_items rs f (item d ds) =
      ap₂ item
      (skeleton-named (inside d rs) f d
      ∙ ap (λ qs. named_doc qs f (skeleton d)) (sym (inside-skeleton d rs)))
      (skeleton-named_items rs f ds)

  skeleton-named_members : (rs : List Declared) (f : Numbering) (ms : Members)
      → members_skeleton (named_members rs f ms) ≡ named_members rs f (members_skeleton ms)
  skeleton-named_members rs f no_members = refl
  skeleton-named_members rs f (member k d ms) =
      ap₂ (member k) (skeleton-named (below k rs) f d) (skeleton-named_members rs f ms)

-- ---- messages

pub same_doc : (m : Sent) (d e : Doc) → d ≡ e
    → ◌≡◌ {A = Sent} (record { side = m.side; doc = d }) (record { side = m.side; doc = e })
same_doc m d e h = rw h refl

skeleton-name : (xs : List Declaration) (f : Numbering) (m : Sent)
    → message_skeleton (name_sent xs f m) ≡ name_sent xs f (message_skeleton m)
skeleton-name xs f m =
    same_doc m _ _
    (skeleton-named (rules_for xs m.doc) f m.doc
    ∙ ap (λ rs. named_doc rs f (skeleton m.doc)) (sym (rules-skeleton xs m.doc)))

pub skeletons-named : (xs : List Declaration) (f : Numbering) (ms : List Sent)
    → map message_skeleton (map (name_sent xs f) ms)
    ≡ map (name_sent xs f) (map message_skeleton ms)
skeletons-named xs f [] = refl
skeletons-named xs f (m ∷ ms) =
    same_cons _ _ _ _ (skeleton-name xs f m) (skeletons-named xs f ms)

declared-skeletons : (xs : List Declaration) (ms : List Sent)
    → declared_ids xs (map message_skeleton ms) ≡ declared_ids xs ms
declared-skeletons xs [] = refl
declared-skeletons xs (m ∷ ms) =
    ap₂ (λ a b. a ++ b)
    (ap (λ rs. ids_of rs (skeleton m.doc)) (rules-skeleton xs m.doc)
    ∙ declared-skeleton (rules_for xs m.doc) m.doc)
    (declared-skeletons xs ms)

-- messages with equal skeletons have equal declared ids
pub declared_alike : (xs : List Declaration) (ms ns : List Sent)
    → map message_skeleton ms ≡ map message_skeleton ns
    → declared_ids xs ms ≡ declared_ids xs ns
declared_alike xs ms ns h =
    sym (declared-skeletons xs ms) ∙ (ap (declared_ids xs) h ∙ declared-skeletons xs ns)

-- ---- stops and occurrences

stopped-named : (xs : List Declaration) (f : Numbering) (m : Sent) → are_declared xs ≡ true
    → is_stopped (name_sent xs f m) ≡ is_stopped m
unfolding is_stopped
stopped-named xs f m h =
    let reads = named_reads xs f m.doc h in
    ap₂ (λ a b. a && b) (kind_alike _ m.doc reads Event)
    (reads.text (codes "stopped") (name_key Event) refl)

pub stop-named : (mode : Mode) (xs : List Declaration) (f : Numbering) (m : Sent)
    → are_declared xs ≡ true → stop_in mode (name_sent xs f m) ≡ stop_in mode m
stop-named Whole xs f m h = refl
stop-named PerStop xs f m h = ap (λ b. cond b 1 0) (stopped-named xs f m h)

pub occurrences-named : (mode : Mode) (k : ℕ) (xs : List Declaration) (f : Numbering)
    (ms : List Sent) → are_declared xs ≡ true
    → occurrences (stop_in mode) k (map (name_sent xs f) ms) ≡ occurrences (stop_in mode) k ms
occurrences-named mode k xs f [] h = refl
occurrences-named mode k xs f (m ∷ ms) h =
    ap₂ (λ a b. map (occurrence k) a ++ b) (ids-named (rules_for xs m.doc) f m.doc)
    (ap (λ j. occurrences (stop_in mode) (k + j) (map (name_sent xs f) ms))
    (stop-named mode xs f m h)
    ∙ occurrences-named mode (k + stop_in mode m) xs f ms h)

-- messages with other names have the same numbers of ids
pub all_numbers-named : (xs : List Declaration) (f : Numbering) (ms : List Sent)
    → are_declared xs ≡ true → all_numbers (map (name_sent xs f) ms) ≡ all_numbers ms
all_numbers-named xs f ms h =
    sym (seconds-occurrences no_stop 0 (map (name_sent xs f) ms))
    ∙ (ap seconds (occurrences-named Whole 0 xs f ms h) ∙ seconds-occurrences no_stop 0 ms)
